use Rattle.std.proofs.Common.{◌≡◌, Some, refl, ap, ◌∙◌, sym, true, false}
use Rattle.flow_model.specs.ScopeContainers.{is_complete as whole}
use Rattle.blocks_subprocs.specs.Ends.{ends_of}
use Rattle.fate_eval.proofs.Complete.{complete_of}
use Rattle.fate_eval.proofs.passes.complete_output.Goals as goal

pub returns-in_ok-output_of : goal.returns-in_ok-output_of
returns-in_ok-output_of c = λ sinking long.
    let complete : whole c.args.graph.now (ends_of c.args.ends.now) ≡ true = complete_of c.args.graph.now c.args.ends.now long ∙ sym c.is_complete.ensures ∙ c.if-is_complete.true in
    rw complete (ap Some (c.in_ok-output_of.ensures sinking))

pub returns-else-is_complete : goal.returns-else-is_complete
returns-else-is_complete c = λ sinking long.
    let open_still : whole c.args.graph.now (ends_of c.args.ends.now) ≡ false = complete_of c.args.graph.now c.args.ends.now long ∙ sym c.is_complete.ensures ∙ c.if-is_complete.false in
    rw open_still refl
