-- A scope as it is made, activity by activity.
use Rattle.std.proofs.Common.{◌≡◌, ℕ, ◌+◌, List, [], ◌∷◌, ◌++◌, length, replicate, Some, None, false, refl, ap, ◌∙◌, subst, arith, length-append}
use Rattle.std.specs.Prelude.{slice_get}
use Rattle.dead_paths.specs.Tallies.{Counts}
use Rattle.dead_paths.specs.declared.joins.Tally.{Tally}
use Rattle.flow_model.specs.declared.graphs.Activity.{Activity}
use Rattle.flow_model.specs.declared.graphs.Graph.{Graph, out-Graph}
use Rattle.flow_model.specs.declared.instances.SourceEnd.{SourceEnd}
use Rattle.flow_model.specs.declared.instances.SourceEnd.TheVariants.{Unsettled}
use Rattle.navigator.proofs.Places.{Each, each_none, each_push, replicate_more}
use Rattle.flow_model.specs.declared.graphs.Container.{Container}
use Rattle.navigator.specs.Fresh.{incoming_count, IsFresh, IsFreshWork}
use Rattle.navigator.specs.declared.scopes.ScopeState.{ScopeState, out-ScopeState}
use Rattle.navigator.specs.declared.scopes.ActivityState.{ActivityState}

abbrev IsTally : Graph → ℕ → Tally → Type 0
IsTally g a t = Counts t (replicate (incoming_count g a) None)

abbrev IsState : Graph → ℕ → ActivityState → Type 0
IsState g a state = (activity : Activity) → slice_get (out-Graph g).activities a ≡ Some activity → IsFreshWork activity.work state

-- the lists of a scope for the first n activities
pub record Made (g : Graph) (n : ℕ) (counts : List Tally) (so_far : List SourceEnd) (works : List ActivityState) : Type 0 where
  pub tallied : length counts ≡ n
  pub tallies : Each (IsTally g) counts
  pub ends : so_far ≡ replicate n Unsettled
  pub stated : length works ≡ n
  pub states : Each (IsState g) works

pub made_none : (g : Graph) → Made g 0 [] [] []
made_none g = record { tallied = refl; tallies = each_none (IsTally g); ends = refl; stated = refl; states = each_none (IsState g) }

pub made_more : (g : Graph) (n : ℕ) (tallies : List Tally) (ends : List SourceEnd) (states : List ActivityState) (t : Tally) (state : ActivityState) (activity : Activity)
    → Made g n tallies ends states → slice_get (out-Graph g).activities n ≡ Some activity → Counts t (replicate (incoming_count g n) None) → IsFreshWork activity.work state
    → Made g (n + 1) (tallies ++ t ∷ []) (ends ++ Unsettled ∷ []) (states ++ state ∷ [])
made_more g n tallies ends states t state activity made here counts fresh = record {
  tallied = let e = length-append tallies (t ∷ []) in let l = made.tallied in omega (arith, e);
  tallies = each_push (IsTally g) tallies t made.tallies (rw made.tallied counts);
  ends = ap (λ es. es ++ Unsettled ∷ []) made.ends ∙ replicate_more n Unsettled;
  stated = let e = length-append states (state ∷ []) in let l = made.stated in omega (arith, e);
  states = each_push (IsState g) states state made.states
      (λ other at. let at_n : slice_get (out-Graph g).activities n ≡ Some other = rw made.stated at at in
      let same : activity ≡ other = cc in subst (λ x. IsFreshWork x.work state) same fresh);
}

-- a scope that hasn't begun, with the lists for all activities, is fresh
pub made_fresh : (g : Graph) (input : Container) (s : ScopeState) (n : ℕ) → n ≡ length (out-Graph g).activities → (out-ScopeState s).begun ≡ false → (out-ScopeState s).input ≡ input
    → (out-ScopeState s).unsettled ≡ length (out-Graph g).activities
    → Made g n (out-ScopeState s).tallies.items (out-ScopeState s).ends.items (out-ScopeState s).states.items → IsFresh g input s
made_fresh g input s n all begun reads left made = record {
  begun = begun;
  reads = reads;
  tallied = made.tallied ∙ all;
  tallies = made.tallies;
  ends = made.ends ∙ ap (λ m. replicate m Unsettled) all;
  stated = made.stated ∙ all;
  states = λ a activity state at there. made.states a state there activity at;
  unsettled = left;
}
