use Rattle.std.proofs.Common.{◌≡◌, ◌≤◌, ap, sym, ◌∙◌, refl, Some, length, arith}
use Rattle.std.specs.Prelude.{slice_get}
use Rattle.std.specs.Option.{option_map}
use Rattle.std.proofs.lemmas.Bool.Decides.{nat_tests}
use Rattle.std.proofs.lemmas.Option.{slice_get_read, slice_get_past}
use Rattle.blocks_subprocs.proofs.Library.{template_graph}
use Rattle.flow_core.specs.Driving.{templates}
use Rattle.flow_model.specs.declared.graphs.Template.{Template}
use Rattle.explain.proofs.making.root_graph.Goals as goal

pub returns-in-None : goal.returns-in-None
returns-in-None c =
    let found = c.in-None.ensures.lookup in
    let past : length c.as_slice.result.now ≤ c.args.template = grind (arith, nat_tests, found.0) in
    let none = rw (c.as_slice.ensures, c.library.ensures) at (slice_get_past c.as_slice.result.now c.args.template past) in
    sym (template_graph (templates c.args.core.now) c.args.template ∙ ap (option_map (λ (t : Template). t.graph)) none)

pub returns-in-Some : goal.returns-in-Some
returns-in-Some c =
    let found = c.in-Some.ensures.lookup in
    let here : slice_get c.as_slice.result.now c.args.template ≡ Some c.in-Some.template.now
    = slice_get_read c.as_slice.result.now _ c.args.template c.in-Some.template.now refl found.3.0 found.1 in
    let some = rw (c.as_slice.ensures, c.library.ensures) at here in
    sym (template_graph (templates c.args.core.now) c.args.template ∙ ap (option_map (λ (t : Template). t.graph)) some)
