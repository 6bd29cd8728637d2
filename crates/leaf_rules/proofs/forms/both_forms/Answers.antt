use Rattle.std.proofs.Common.{List, ◌∷◌, ap, sym, ◌∙◌}
use Rattle.flow_model.specs.declared.graphs.Leaf.{Leaf}
use Rattle.leaf_rules.specs.ReturnCodes.{return_code}
use Rattle.leaf_rules.proofs.Rowing.{run_inner}
use Rattle.leaf_rules.proofs.forms.both_forms.Goals as goal

pub invariant_of-result-clause-begun : goal.invariant_of-result-clause-begun
invariant_of-result-clause-begun c =
    let inner = c.requires.0 in
    let is = c.requires.1 in
    rw (c.new-coded.ensures, c.new-plain.ensures, c.in_ok-clone.ensures.cases, c.in_ok-clone-2.ensures.cases, c.in_ok-behind.ensures, c.saturating_sub.ensures)
    (is.whole ∙ ap (λ (ls : List Leaf). return_code ∷ ls) (sym (run_inner c.args.table.now.value c.args.run inner is).1))
