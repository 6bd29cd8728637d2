-- What is open in a scope and below it, by the states of its activities.
use Rattle.std.proofs.Common.{◌≡◌, ℕ, ◌+◌, ◌==◌, Bool, true, false, List, [], ◌∷◌, length, Option, Some, None, cond, refl, ap, sym, ◌∙◌, arith}
use Rattle.std.specs.Prelude.{◌&&◌, nat_le, slice_get, option_and_then}
use Rattle.std.proofs.lemmas.Bool.Decides.{nat_tests}
use Rattle.activity_states.specs.States.{State, waiting, dead, opened, finished, fate_of, open_fate}
use Rattle.activity_states.specs.declared.states.Completed.{Completed}
use Rattle.fate_laws.proofs.Items.{eqb_one}
use Rattle.flow_model.specs.ScopeContainers.{graph_in}
use Rattle.flow_model.specs.declared.graphs.Activity.{Activity}
use Rattle.flow_model.specs.declared.graphs.Graph.{Graph, out-Graph}
use Rattle.flow_model.specs.declared.graphs.Template.{Template}
use Rattle.flow_model.specs.declared.instances.Hold.{Hold}
use Rattle.flow_model.specs.declared.instances.Hold.TheVariants.{Nobody, Person, Agent}
use Rattle.flow_model.specs.declared.instances.Part.{Part}
use Rattle.flow_model.specs.declared.instances.Phase.TheVariants.{Ready, Running, Ended}
use Rattle.item_laws.specs.OpenItems.{is_open_phase, open_of, open_at}
use Rattle.navigator.specs.Items.{stand, both, into_place, attempts_in, entry_of, entry_of_state, entry, entry_at, phase_of}
use Rattle.navigator.specs.Reading.{place_of, scope_of, inner_of}
use Rattle.navigator.specs.Steps.{Fields, fields}
use Rattle.navigator.specs.declared.scopes.ActivityState.{ActivityState, Program, Nested}
use Rattle.navigator.specs.declared.scopes.ScopeState.{ScopeState}

-- ---- what is open, by the states of activities

-- the attempt of this number of a program activity, where it is open
abbrev pub open_attempt : State → ℕ → Option State
open_attempt p j = cond (is_open_phase (phase_of (fate_of p) j)) (Some p) None

-- what is open of an activity
abbrev pub open_item : ActivityState → ℕ → Option State
open_item (Program p) j = open_attempt p j
open_item (Nested n) j = None

abbrev pub item_of : Option Activity → Option ActivityState → ℕ → Option State
item_of None state j = None
item_of (Some activity) None j = None
item_of (Some activity) (Some state) j = open_item state j

-- the item of a part
abbrev pub open_here : Graph → Part → Fields → Option State
open_here g q f = cond f.begun (option_and_then (λ a. item_of (slice_get (out-Graph g).activities a) (slice_get f.states a) q.attempt) (place_of g q.name)) None

pub unbegun_here : (g : Graph) (q : Part) (f : Fields) → f.begun ≡ false → open_here g q f ≡ None
unbegun_here g q f is = rw is refl

-- an item below the scope of an attempt
abbrev pub open_inside : List Template → Option Graph → Option ScopeState → List Part → Option State
open_inside ts None o item = None
open_inside ts (Some h) None item = None
open_inside ts (Some h) (Some t) item = open_at ts h t item

abbrev pub scope_in : Fields → ℕ → ℕ → Option ScopeState
scope_in f a j = option_and_then (λ state. scope_of state j) (slice_get f.states a)

abbrev pub open_below : List Template → Graph → Part → List Part → Fields → Option State
open_below ts g q item f = option_and_then (λ a. option_and_then (λ activity. open_inside ts (graph_in ts activity.work) (scope_in f a q.attempt) item) (slice_get (out-Graph g).activities a)) (place_of g q.name)

abbrev pub open_in : List Template → Graph → Fields → List Part → Option State
open_in ts g f [] = None
open_in ts g f (q ∷ []) = open_here g q f
open_in ts g f (q ∷ (r ∷ rs)) = open_below ts g q (r ∷ rs) f

-- ---- an attempt of one activity

attempts_open : (h : Hold) (n : ℕ) → attempts_in (open_fate h n) ≡ n
attempts_open Nobody n = refl
attempts_open (Person who) n = refl
attempts_open (Agent take) n = refl

ready : (b : Bool) → is_open_phase (cond b Ready Ended) ≡ b
ready true = refl
ready false = refl

runs : (b : Bool) → is_open_phase (cond b Running Ended) ≡ b
runs true = refl
runs false = refl

-- an attempt of an open activity is open where it is the next one
pub opens_next : (h : Hold) (n j : ℕ) → is_open_phase (phase_of (open_fate h n) j) ≡ (n == j)
opens_next Nobody n j = ready (n == j)
opens_next (Person who) n j = runs (n == j)
opens_next (Agent take) n j = runs (n == j)

module _ (g : Graph) (s : ScopeState) (a : ℕ) (activity : Activity) (j : ℕ) where
  none : (p : State) (b : Bool) → open_attempt p j ≡ None → option_and_then open_of (cond b (Some (entry_of g s a activity p j)) None) ≡ None
  none p true is = is
  none p false is = refl

  opened_is : (cs : List Completed) (hold : Hold) (takes since : ℕ) (b : Bool) → ((length cs + 1) == j) ≡ b
      → option_and_then open_of (entry_of_state (stand g s) j a activity (Program (opened cs hold takes since))) ≡ open_attempt (opened cs hold takes since) j
  opened_is cs hold takes since true same =
      let one : length cs + 1 ≡ j = eqb_one (length cs + 1) j same in
      let low : nat_le 1 j ≡ true = grind (arith, nat_tests) in
      let high : nat_le j (length cs + 1) ≡ true = grind (arith, nat_tests) in
      rw (attempts_open hold (length cs + 1), low, high) refl
  opened_is cs hold takes since false apart =
      let shut : open_attempt (opened cs hold takes since) j ≡ None = ap (λ b. cond b (Some (opened cs hold takes since)) None) (opens_next hold (length cs + 1) j ∙ apart) in
      none (opened cs hold takes since) (nat_le 1 j && nat_le j (attempts_in (open_fate hold (length cs + 1)))) shut ∙ sym shut

  -- an open attempt is one that has been made
  attempt_is : (p : State) → option_and_then open_of (entry_of_state (stand g s) j a activity (Program p)) ≡ open_attempt p j
  attempt_is waiting = none waiting (nat_le 1 j && nat_le j 0) refl
  attempt_is dead = none dead (nat_le 1 j && nat_le j 0) refl
  attempt_is (finished cs) = none (finished cs) (nat_le 1 j && nat_le j (length cs)) refl
  attempt_is (opened cs hold takes since) = opened_is cs hold takes since ((length cs + 1) == j) refl

-- ---- a scope

module _ (ts : List Template) (g : Graph) (s : ScopeState) where
  here_is : (q : Part) → open_at ts g s (q ∷ []) ≡ open_here g q (fields s)
  here_is q = by (fields s).begun (place_of g q.name)
    where
      at : (a : ℕ) (activity : Option Activity) (state : Option ActivityState) → option_and_then open_of (entry (stand g s) q.attempt a activity state) ≡ item_of activity state q.attempt
      at a None state = refl
      at a (Some activity) None = refl
      at a (Some activity) (Some (Program p)) = attempt_is g s a activity q.attempt p
      at a (Some activity) (Some (Nested n)) = refl

      by : (b : Bool) (o : Option ℕ) → option_and_then open_of (cond b (option_and_then (λ a. entry (stand g s) q.attempt a (slice_get (out-Graph g).activities a) (slice_get (fields s).states a)) o) None)
          ≡ cond b (option_and_then (λ a. item_of (slice_get (out-Graph g).activities a) (slice_get (fields s).states a) q.attempt) o) None
      by false o = refl
      by true None = refl
      by true (Some a) = at a (slice_get (out-Graph g).activities a) (slice_get (fields s).states a)

  below_is : (q r : Part) (rs : List Part) → open_at ts g s (q ∷ (r ∷ rs)) ≡ open_below ts g q (r ∷ rs) (fields s)
  below_is q r rs = by (place_of g q.name)
    where
      at : (h : Option Graph) (t : Option ScopeState) → option_and_then open_of (option_and_then (entry_at ts (r ∷ rs)) (both h t)) ≡ open_inside ts h t (r ∷ rs)
      at None t = refl
      at (Some h) None = refl
      at (Some h) (Some t) = refl

      of : (a : ℕ) (activity : Option Activity)
          → option_and_then open_of (option_and_then (entry_at ts (r ∷ rs)) (option_and_then (λ x. both (graph_in ts x.work) (inner_of s a q.attempt)) activity))
          ≡ option_and_then (λ x. open_inside ts (graph_in ts x.work) (scope_in (fields s) a q.attempt) (r ∷ rs)) activity
      of a None = refl
      of a (Some activity) = at (graph_in ts activity.work) (inner_of s a q.attempt)

      by : (o : Option ℕ) → option_and_then open_of (option_and_then (entry_at ts (r ∷ rs)) (option_and_then (into_place ts (stand g s) q.attempt) o))
          ≡ option_and_then (λ a. option_and_then (λ x. open_inside ts (graph_in ts x.work) (scope_in (fields s) a q.attempt) (r ∷ rs)) (slice_get (out-Graph g).activities a)) o
      by None = refl
      by (Some a) = of a (slice_get (out-Graph g).activities a)

  pub open_is : (item : List Part) → open_at ts g s item ≡ open_in ts g (fields s) item
  open_is [] = refl
  open_is (q ∷ []) = here_is q
  open_is (q ∷ (r ∷ rs)) = below_is q r rs
