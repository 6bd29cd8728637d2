-- A run takes no more messages than are due after it.
use Rattle.std.proofs.Common.{◌≡◌, ℕ, ◌+◌, ◌*◌, ◌≤◌, Bool, true, false, if◌then◌else◌, List, [], ◌∷◌, length, arith, length-append}
use Rattle.std.proofs.lemmas.List.{length-map}
use Rattle.fate_laws.specs.WellFormed.{Well}
use Rattle.view_laws.specs.Messages.{Note, BeginNote, due_in}
use Rattle.view_laws.specs.Queues.{Engine, spent, TakesFronts}
use Rattle.view_laws.specs.Runs.{Root, Event, running, has_started, facts, seen, due, engine}
use Rattle.view_laws.specs.TurnBound.{expanded_size}
use Rattle.view_laws.proofs.BoundedDue.{bounds}
use Rattle.view_laws.proofs.Counting.{spent_once, no_longer}
use Rattle.fate_laws.proofs.ItemsBelow.{items_of, facts_cover}
use Rattle.view_laws.proofs.NothingDue.{nothing}
use Rattle.view_laws.proofs.SameNotes.{itself, one}
use Rattle.view_laws.proofs.WholeRuns.{put_is_due}

module _ (r : Root) (q : Note → ℕ) (h : List Event) (well : Well r.templates r.depth r.graph) (fronts : TakesFronts (engine r q) h) where
  abbrev x : Engine Note Event
  x = engine r q

  spent_due : length (spent x h) ≤ length (due r h)
  spent_due =
      no_longer x itself one (spent x h) (due r h)
      (λ m. let less = spent_once x itself one h fronts m in let same = put_is_due r q well h fronts (nothing r q) m in omega arith)

  start_length : (s : Bool) → length (let note : List Note = if s then BeginNote [] ∷ [] else [] in note) ≤ 1
  start_length true = omega arith
  start_length false = omega arith

  pub turns_are_bounded : length (spent x h) ≤ expanded_size r.templates r.depth r.graph * (1 + length (facts (running h)))
  turns_are_bounded =
      let fs = facts (running h) in
      let start : List Note = if has_started (running h) then BeginNote [] ∷ [] else [] in
      let inside = due_in r.templates r.depth (seen (running h)) r.graph r.input in
      let bound = (bounds r.templates r.depth).each (seen (running h)) (items_of fs) r.graph r.input well (λ p o given. facts_cover fs p o given) in
      let items : length (items_of fs) ≡ length fs = length-map fs (λ f. f.item.parts) in
      let bounded : length inside + 2 ≤ expanded_size r.templates r.depth r.graph * (1 + length fs) = rw items at bound in
      let all = length-append start inside in
      let first = start_length (has_started (running h)) in
      let less = spent_due in
      omega arith
