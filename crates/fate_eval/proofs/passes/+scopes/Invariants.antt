use Rattle.std.proofs.Common.{◌+◌, ◌*◌, Some}
use Rattle.flow_model.specs.Wiring.{IsLooping}
use Rattle.fate_eval.proofs.InOrder.{Passes}
use Rattle.fate_eval.proofs.InPass.{InPass}
use Rattle.fate_eval.proofs.InTurn.{InTurn}
use Rattle.fate_eval.proofs.WholeTurn.{IsTold}
use Rattle.fate_eval.proofs.WholePass.{IsToldTo}
use Rattle.fate_eval.specs.Whole.{WellBelow}
use Rattle.fate_laws.specs.WellFormed.{Well}
use Rattle.fate_eval.proofs.Turns.{Goes}
use Rattle.fate_eval.specs.Entries.{known_in, output_in}
use Rattle.fate_laws.specs.Layout.{OfInside, Laid, LaidBelow}
use Rattle.fate_eval.proofs.passes.+scopes.Given as goal

abbrev pub decreases-scope_attempt : goal.decreases-scope_attempt
decreases-scope_attempt l = 9 * l.depth + 9

abbrev pub decreases-pass : goal.decreases-pass
decreases-pass l = 9 * l.depth + 8

abbrev pub decreases-found_at : goal.decreases-found_at
decreases-found_at l = 9 * l.depth + 7

abbrev pub decreases-activity : goal.decreases-activity
decreases-activity l = 9 * l.depth + 6

abbrev pub decreases-open_activity : goal.decreases-open_activity
decreases-open_activity l = 9 * l.depth + 5

abbrev pub decreases-attempts_from : goal.decreases-attempts_from
decreases-attempts_from l = 9 * l.depth + 4

abbrev pub decreases-last_attempt : goal.decreases-last_attempt
decreases-last_attempt l = 9 * l.depth + 3

abbrev pub decreases-attempt_of : goal.decreases-attempt_of
decreases-attempt_of l = 9 * l.depth + 2

abbrev pub decreases-nested_attempt : goal.decreases-nested_attempt
decreases-nested_attempt l = 9 * l.depth + 1

abbrev pub invariant-attempts_from-loop-number : goal.invariant-attempts_from-loop-number
invariant-attempts_from-loop-number l = record {
  exact : IsLooping l.scope.graph.now → OfInside l.root.library.now.templates (LaidBelow l.root.library.now.templates l.depth) (Some l.activity)
      → Goes l.root.library.now.templates l.depth (known_in l.root.most l.scope.entries.now) l.scope.graph.now l.scope.path l.place l.activity l.base l.number l.input l.rows.items;
  timely : IsLooping l.scope.graph.now → OfInside l.root.library.now.templates (LaidBelow l.root.library.now.templates l.depth) (Some l.activity)
      → InTurn l.root.library.now.templates l.depth l.root.most l.scope.entries.now l.scope.graph.now l.scope.path l.place l.activity l.base l.since l.after l.number l.input l.ready.items;
  whole : IsLooping l.scope.graph.now → OfInside l.root.library.now.templates (LaidBelow l.root.library.now.templates l.depth) (Some l.activity)
      → OfInside l.root.library.now.templates (WellBelow l.root.library.now.templates l.depth) (Some l.activity)
      → IsTold l.root.library.now.templates l.depth l.root.most l.scope.entries.now l.scope.graph.now l.scope.path l.place l.activity l.base l.since l.after l.number l.input l.ready.items;
}

abbrev pub invariant-pass-loop-place : goal.invariant-pass-loop-place
invariant-pass-loop-place l = record {
  exact : Laid l.root.library.now.templates l.depth l.scope.graph.now
      → Passes l.root.library.now.templates l.depth l.root.most (output_in l.scope.entries.now) l.scope.graph.now l.scope.input l.scope.path (λ r. r.items) l.place-index l.ends.items l.rows.items;
  timely : Laid l.root.library.now.templates l.depth l.scope.graph.now
      → InPass l.root.library.now.templates l.depth l.root.most l.scope.entries.now l.scope.graph.now l.scope.input l.scope.path l.scope.since l.ends.items l.afters.items l.ready.items;
  whole : Laid l.root.library.now.templates l.depth l.scope.graph.now → Well l.root.library.now.templates l.depth l.scope.graph.now
      → IsToldTo l.root.library.now.templates l.depth l.root.most l.scope.entries.now l.scope.graph.now l.scope.input l.scope.path l.scope.since l.place-index l.ends.items l.afters.items l.ready.items;
}
