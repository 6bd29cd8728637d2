use Rattle.std.proofs.Common.{List, Bor, ◌++◌, subst, sym, ◌∙◌}
use Rattle.leaf_rules.specs.Classes.{AreClassed, AreMadeBehind, leaves_at}
use Rattle.leaf_rules.specs.Structures.{behind}
use Rattle.leaf_rules.specs.declared.leaf_classes.LeafClass.{LeafClass}
use Rattle.leaf_rules.specs.declared.leaf_classes.LeafClasses.{LeafClasses}
use Rattle.leaf_rules.proofs.Settling.{has_known}
use Rattle.leaf_rules.proofs.Tabling.{output_runs, has_leaves}
use Rattle.leaf_rules.proofs.members.LeafTable.new.Goals as goal

pub all_forms-requires : goal.all_forms-requires
all_forms-requires c =
    rw (c.deref.ensures.value, c.in_ok-new.ensures.ok) (output_runs (behind c.args.structures.definitions.items) c.in_ok-table.runs.items c.in_ok-table.table c.in_ok-table.ensures)

pub classes-requires-clause-made : goal.classes-requires-clause-made
classes-requires-clause-made c =
    rw (c.deref-2.ensures.value, c.deref-3.ensures.value)
    (has_known (behind c.args.structures.definitions.items) c.args.structures.order c.requires c.in_ok-table.runs.items c.in_ok-table.table c.in_ok-table.ensures c.in_ok-leaves.leaves.items
    (rw (c.deref.ensures.value, c.in_ok-new.ensures.ok) at c.in_ok-leaves.ensures))

pub returns-clause-there : goal.returns-clause-there
returns-clause-there c =
    has_leaves (behind c.args.structures.definitions.items) c.in_ok-table.runs.items c.in_ok-table.table c.in_ok-leaves.leaves.items c.in_ok-table.ensures
    (rw (c.deref.ensures.value, c.in_ok-new.ensures.ok) at c.in_ok-leaves.ensures)

pub invariant_of-result : goal.invariant_of-result
invariant_of-result c =
    let known = c.classes.ensures.known ∙ c.new-text.ensures.known in
    let added = c.into_added.result in
    let leaves = leaves_at c.in_ok-leaves.leaves.items in
    let found = c.in_ok-classes.classes.items in
    let text = c.classes.new.text in
    let classed = rw c.deref-3.ensures.value at c.in_ok-classes.ensures.classed in
    record {
      made = subst (λ (k : Bor LeafClasses). AreMadeBehind k.now.classes added) known c.into_added.ensures.made;
      classed = subst (λ (k : Bor LeafClasses). AreClassed leaves (k.now.classes ++ added) found) known
          (subst (λ (zs : List LeafClass). AreClassed leaves (text.known.now.classes ++ zs) found) (sym c.into_added.ensures.added) classed);
    }
