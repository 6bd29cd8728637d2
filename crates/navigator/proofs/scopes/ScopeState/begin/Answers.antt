use Rattle.std.proofs.Common.{◌≡◌, ◌<◌, true, Some, length, ap, ◌∙◌, arith}
use Rattle.std.specs.Prelude.{slice_get}
use Rattle.flow_model.specs.declared.graphs.Graph.{out-Graph}
use Rattle.navigator.specs.Steps.{Fields, Told, fields, told}
use Rattle.navigator.proofs.Beginning.{first_more, first_tallies}
use Rattle.navigator.proofs.Places.{present}
use Rattle.navigator.proofs.scopes.ScopeState.begin.Goals as goal

pub loop-place-preserved : goal.loop-place-preserved
loop-place-preserved c = λ feeding outgoing small values tallied.
    let first : Fields = record (fields c.args.self.now) { begun = true } in
    let middle : Fields = fields c.loop-place.self in
    let before : Told = told c.args.effects.now in
    let so_far : Told = told c.loop-place.effects in
    let ts = c.args.with.library.now.templates in
    let clock = c.args.with.clock in
    let place = c.loop-place.place in
    let so = c.loop-place.invariant feeding outgoing small values tallied in
    let less : place < c.len-place-end.result = c.loop-place-test.true in
    let len = c.len-place-end.ensures in
    let long = tallied.long in
    let within : place < length (out-Graph c.args.graph.now).activities = omega arith in
    let in_tallies : place < length first.tallies = omega arith in
    let fits : place < 4294967296 = omega arith in
    let same = first_tallies ts c.args.graph.now c.args.path.now clock values place first middle before so_far
    (λ a h. present (out-Graph c.args.graph.now).activities a (omega arith)) so in
    let found = present first.tallies place in_tallies in
    let at : slice_get middle.tallies place ≡ Some found.0 = ap (λ xs. slice_get xs place) same ∙ found.1 in
    first_more ts c.args.graph.now c.args.path.now clock values place first middle (fields c.decide.new.self) before so_far (told c.decide.new.effects) so
    (λ activity here. c.in_ok-decide.ensures fits feeding outgoing activity here found.0 at (values place) (tallied.counts place found.0 found.1))
