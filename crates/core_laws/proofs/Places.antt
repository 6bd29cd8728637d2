-- The queue of a message is that of its note, in a larger library too.
use Rattle.std.proofs.Common.{◌≡◌, ℕ, zero, suc, ◌+◌, ◌-◌, ◌^◌, ◌%◌, ◌<◌, ◌≤◌, min, max, Bool, List, [], ◌∷◌, Option, Some, None, refl, ap, ◌∙◌, arith}
use Rattle.std.proofs.Math.Nat.{mod-lt}
use Rattle.std.proofs.lemmas.Option.{none-some, option_and_then_some}
use Rattle.std.specs.Prelude.{slice_get, option_and_then}
use Rattle.flow_core.specs.Facts.{activity_on}
use Rattle.flow_core.specs.Driving.{is_process, processes_below, processes_from, activity_named, processes_along, receiver, queue_in}
use Rattle.flow_model.specs.ScopeContainers.{graph_in}
use Rattle.flow_model.specs.declared.graphs.Activity.{Activity}
use Rattle.flow_model.specs.declared.graphs.Graph.{Graph, out-Graph}
use Rattle.flow_model.specs.declared.graphs.Template.{Template}
use Rattle.flow_model.specs.declared.instances.Message.{Message}
use Rattle.flow_model.specs.declared.instances.Message.TheVariants.{Begin, Signal, End}
use Rattle.flow_model.specs.declared.instances.Part.{Part}
use Rattle.flow_model.specs.declared.names.Name.{Name}
use Rattle.library_laws.proofs.SameGraphs.{HasSameGraphs, ServedInside, same_graphs, and_then_same}
use Rattle.library_laws.specs.Larger.{Agrees}
use Rattle.navigator.specs.Reading.{place_of}
use Rattle.navigator.specs.Serving.{Served}
use Rattle.navigator.specs.Showing.{graph_along, signal_between, signal_in, note_in}
use Rattle.recover_queue.specs.Queues.{root_of}
use Rattle.view_laws.specs.Messages.{Note, BeginNote, SignalNote, EndNote}
use Rattle.core_laws.specs.RightStates.{receiver_of, place_queue}

-- ---- process activities on the way

below_same : (count count' : Graph → ℕ) (o : Option Graph) → ((h : Graph) → o ≡ Some h → count' h ≡ count h) → processes_below count' o ≡ processes_below count o
below_same count count' None same = refl
below_same count count' (Some h) same = same h refl

module _ (ts ts' : List Template) (agrees : Agrees ts ts') where
  processes_same : (p : List Part) (levels : ℕ) (g : Graph) → ServedInside ts levels g → processes_along ts' p g ≡ processes_along ts p g
  processes_same [] levels g served = refl
  processes_same (q ∷ p) zero g served = absurd served
  processes_same (q ∷ p) (suc levels) g served =
      go (same_graphs ts ts' levels g agrees served) (λ h inner. processes_same p levels h inner) (activity_named g q.name) refl
    where
      go : HasSameGraphs ts ts' g (ServedInside ts levels) → ((h : Graph) → ServedInside ts levels h → processes_along ts' p h ≡ processes_along ts p h)
          → (o : Option Activity) → activity_named g q.name ≡ o
          → processes_from (λ work. processes_below (processes_along ts' p) (graph_in ts' work)) o ≡ processes_from (λ work. processes_below (processes_along ts p) (graph_in ts work)) o
      go inside deeper None is = refl
      go inside deeper (Some activity) is =
          option_and_then_some (slice_get (out-Graph g).activities) (place_of g q.name) activity is (λ a place found.
          ap (λ n. is_process activity.work + n)
          (ap (processes_below (processes_along ts' p)) (inside.graphs a activity found)
          ∙ below_same (processes_along ts p) (processes_along ts' p) (graph_in ts activity.work) (λ h of. deeper h (inside.inside a activity found h of))))

  pub place_same : (levels : ℕ) (g : Graph) → Served ts levels g → (count root : ℕ) (note : Note) → place_queue ts' count root (Some g) note ≡ place_queue ts count root (Some g) note
  place_same levels g served count root note =
      ap (λ n. (root + min n (2 ^ 64 - 1)) % max count 1 + 1) (processes_same (receiver_of note) (suc levels) g served)

-- ---- items

module _ (ts ts' : List Template) (agrees : Agrees ts ts') where
  -- a path leads to the same activity
  pub activity_same : (p : List Part) (levels : ℕ) (g : Graph) → ServedInside ts levels g → activity_on ts' p g ≡ activity_on ts p g
  activity_same [] levels g served = refl
  activity_same (q ∷ []) levels g served = refl
  activity_same (q ∷ (r ∷ qs)) zero g served = absurd served
  activity_same (q ∷ (r ∷ qs)) (suc levels) g served =
      go (same_graphs ts ts' levels g agrees served) (λ h inner. activity_same (r ∷ qs) levels h inner) (activity_named g q.name) refl
    where
      go : HasSameGraphs ts ts' g (ServedInside ts levels) → ((h : Graph) → ServedInside ts levels h → activity_on ts' (r ∷ qs) h ≡ activity_on ts (r ∷ qs) h)
          → (o : Option Activity) → activity_named g q.name ≡ o
          → option_and_then (λ x. option_and_then (activity_on ts' (r ∷ qs)) (graph_in ts' x.work)) o ≡ option_and_then (λ x. option_and_then (activity_on ts (r ∷ qs)) (graph_in ts x.work)) o
      go inside deeper None is = refl
      go inside deeper (Some activity) is =
          option_and_then_some (slice_get (out-Graph g).activities) (place_of g q.name) activity is (λ a place found.
          ap (option_and_then (activity_on ts' (r ∷ qs))) (inside.graphs a activity found)
          ∙ and_then_same (graph_in ts activity.work) (activity_on ts (r ∷ qs)) (activity_on ts' (r ∷ qs)) (λ h of. deeper h (inside.inside a activity found h of)))

-- ---- messages and notes

signal_receiver : (p : List Part) (v : Bool) (a b : Option ℕ) (note : Note) → signal_between p v a b ≡ Some note → p ≡ receiver_of note
signal_receiver p v None b note is = absurd (none-some note is)
signal_receiver p v (Some a) None note is = absurd (none-some note is)
signal_receiver p v (Some a) (Some b) note is = let same : SignalNote p a b v ≡ note = cc in ap receiver_of same

signal_there : (p : List Part) (from to : Name) (v : Bool) (o : Option Graph) (note : Note) → signal_in p from to v o ≡ Some note → p ≡ receiver_of note
signal_there p from to v None note is = absurd (none-some note is)
signal_there p from to v (Some h) note is = signal_receiver p v (place_of h from) (place_of h to) note is

receiver_is : (ts : List Template) (g : Graph) (m : Message) (note : Note) → note_in ts g m ≡ Some note → receiver m ≡ receiver_of note
receiver_is ts g (Begin path) note is = let same : BeginNote path.parts ≡ note = cc in ap receiver_of same
receiver_is ts g (Signal path from to v) note is = signal_there path.parts from to v (graph_along ts path.parts g) note is
receiver_is ts g (End path) note is = let same : EndNote path.parts ≡ note = cc in ap receiver_of same

-- a message of a root goes where its note does
pub queue_is : (ts ts' : List Template) (g : Graph) (count root : ℕ) (m : Message) (note : Note) → note_in ts g m ≡ Some note → root_of m ≡ root
    → queue_in ts' count (Some g) m ≡ place_queue ts' count root (Some g) note
queue_is ts ts' g count root m note is of =
    ap (λ r. (r + min (processes_along ts' (receiver m) g) (2 ^ 64 - 1)) % max count 1 + 1) of
    ∙ ap (λ p. (root + min (processes_along ts' p g) (2 ^ 64 - 1)) % max count 1 + 1) (receiver_is ts g m note is)

-- ---- there is such a queue

pub queue_low : (ts : List Template) (count : ℕ) (o : Option Graph) (m : Message) → 1 ≤ queue_in ts count o m
queue_low ts count None m = omega arith
queue_low ts count (Some g) m = omega arith

pub queue_high : (ts : List Template) (count : ℕ) (o : Option Graph) (m : Message) → 1 ≤ count → queue_in ts count o m - 1 < count
queue_high ts count None m some_ = omega arith
queue_high ts count (Some g) m some_ = go (root_of m + min (processes_along ts (receiver m) g) (2 ^ 64 - 1))
  where
    go : (x : ℕ) → x % max count 1 + 1 - 1 < count
    go x =
        let most : max count 1 ≡ count = omega arith in
        let low : x % count < count = mod-lt x some_ in
        let same : x % max count 1 ≡ x % count = ap (λ d. x % d) most in
        omega arith
