use Rattle.std.proofs.Common.{◌≡◌, ◌∷◌, ◌++◌, Some, ap, ◌∙◌}
use Rattle.std.specs.Prelude.{slice_get}
use Rattle.navigator.specs.Steps.{Fields, fields}
use Rattle.navigator.proofs.Places.{set_read}
use Rattle.navigator.proofs.scopes.ScopeState.signal.Goals as goal

pub returns : goal.returns
returns c = λ fits feeding outgoing activity here t at xs ys counts.
    let takes = c.take_value.ensures t at xs ys counts in
    let middle : Fields = fields c.take_value.new.self in
    let there : slice_get middle.tallies c.args.place ≡ Some takes.tally
    = ap (λ (f : Fields). slice_get f.tallies c.args.place) takes.scope ∙ set_read (fields c.args.self.now).tallies c.args.place t takes.tally at in
    record {
      middle = middle;
      takes = takes;
      decides = c.in_ok-decide.ensures fits feeding outgoing activity here takes.tally there (xs ++ Some c.args.value ∷ ys) takes.counts;
    }
