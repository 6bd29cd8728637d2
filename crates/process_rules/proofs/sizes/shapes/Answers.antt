use Rattle.std.proofs.Common.{◌≡◌, Bor, List, map, ap, ◌∙◌}
use Rattle.std.proofs.lemmas.Result.{IfOk-weaker}
use Rattle.flow_model.specs.declared.trees.ProcessTree.{ProcessTree}
use Rattle.process_rules.specs.Callees.{Calls}
use Rattle.process_rules.specs.Calling.{callee_meant}
use Rattle.process_rules.specs.Knowing.{IsKnowing}
use Rattle.process_rules.specs.Shapes.{shapes_by, shapes_of, told_shape}
use Rattle.process_rules.proofs.Knowing.{calls_known}
use Rattle.process_rules.proofs.sizes.shapes.Goals as goal

pub returns : goal.returns
returns c =
    let known = c.args.known.now in
    let library = known.catalog.now.library in
    IfOk-weaker c.shapes_meant.result (λ shapes. shapes.items ≡ map told_shape (shapes_by (callee_meant known) library (map (λ (q : Bor ProcessTree). q.now) known.processes.items)))
    (λ shapes. (processes : List ProcessTree) → IsKnowing known processes → shapes.items ≡ map told_shape (shapes_of library processes))
    (λ shapes is processes knowing.
    is ∙ ap (λ (ps : List ProcessTree). map told_shape (shapes_by (callee_meant known) library ps)) knowing.listed
    ∙ ap (λ (calls : Calls). map told_shape (shapes_by calls library processes)) (calls_known known processes knowing))
    c.shapes_meant.ensures
