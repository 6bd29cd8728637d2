use Rattle.std.proofs.Common.{ap, ◌∙◌, ◌++◌, arith, Option, Bool}
use Rattle.std.specs.Option.{option_to_list}
use Rattle.std.specs.Prelude.{◌==◌}
use Rattle.std.proofs.lemmas.List.{take_all}
use Rattle.flow_model.specs.declared.graphs.Graph.{out-Graph}
use Rattle.flow_model.specs.Fates.{joined}
use Rattle.flow_model.specs.Wiring.{row_at}
use Rattle.fate_laws.specs.Equations.{value_in}
use Rattle.blocks_subprocs.specs.Ends.{ends_of}
use Rattle.certificates.proofs.Rows.{values_of, values_more, values_named}
use Rattle.certificates.proofs.scopes.Begun.join_of.Goals as goal

pub loop-place-preserved : goal.loop-place-preserved
loop-place-preserved c = λ laid.
    let controls = (out-Graph c.args.self.now.graph.now).controls in
    values_more (value_in controls (ends_of c.args.self.now.ends.items)) controls c.row-place-items.result.now c.loop-place.place-index c.loop-place.values.items c.add.new.values.items
    c.loop-place-test.true (c.loop-place.invariant laid)
    (c.in_ok-add.ensures ∙ ap (λ (v : Option (Option Bool)). c.loop-place.values.items ++ option_to_list v) (rw c.deref.ensures.value at (c.value_at-value.ensures laid)))

pub returns : goal.returns
returns c = λ laid.
    let controls = (out-Graph c.args.self.now.graph.now).controls in
    let f = value_in controls (ends_of c.args.self.now.ends.items) in
    let named = c.row-place-items.ensures ∙ ap (λ rows. row_at rows c.args.found.place) c.as_slice.ensures ∙ laid.incoming c.args.found.place in
    c.join.ensures
    ∙ ap (joined c.args.found.activity.now.join)
    (c.deref-2.ensures.value ∙ c.loop-place.invariant laid ∙ ap (values_of f controls) (take_all c.loop-place.place-index c.row-place-items.result.now (omega (arith, c.loop-place-test.false)))
    ∙ values_named f (λ d. d.to == c.args.found.place) controls c.row-place-items.result.now named)
