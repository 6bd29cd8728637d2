-- A scope that is made is the machine's.
use Rattle.std.proofs.Common.{◌≡◌, ℕ, ◌+◌, ◌<◌, List, [], ◌∷◌, map, length, Option, Some, None, option_and_then}
use Rattle.std.proofs.Common.{refl, sym, ap, ap₂, subst, ◌∙◌, arith}
use Rattle.std.specs.Prelude.{slice_get}
use Rattle.flow_model.specs.ScopeContainers.{up_to}
use Rattle.flow_model.specs.declared.graphs.Container.{Container}
use Rattle.flow_model.specs.declared.graphs.Graph.{Graph, out-Graph}
use Rattle.flow_model.specs.declared.graphs.Work.{Work, Program as RunsProgram, Block, Process}
use Rattle.machine.specs.Rows.{Item, Inner, Step, only, fresh_row, fresh_standing, fresh_tally}
use Rattle.machine.specs.Rows.{incoming_count}
use Rattle.navigator.specs.Fresh.{IsFresh, IsFreshWork}
use Rattle.navigator.specs.Steps.{fields}
use Rattle.navigator.specs.declared.scopes.ActivityState.{ActivityState, Program, Nested}
use Rattle.navigator.specs.declared.scopes.ScopeState.{ScopeState}
use Rattle.machine_scopes.specs.Seen.{stage_of, standing_of, row_of, scope_in, inner_at, scopes_of}
use Rattle.machine_scopes.proofs.Lists.{same_lists, present, within, map_long, up_to_long, up_to_read, map_found}
use Rattle.machine_scopes.proofs.Tallied.{tally_fresh}

standing_fresh : (w : Work) (state : ActivityState) → IsFreshWork w state → standing_of state ≡ fresh_standing w
standing_fresh (RunsProgram w) (Program p) is = ap Item is
standing_fresh (RunsProgram w) (Nested n) is = absurd is
standing_fresh (Block g) (Program p) is = absurd is
standing_fresh (Block g) (Nested n) is = ap₂ Inner (ap stage_of is.stage) (ap length is.scopes)
standing_fresh (Process t) (Program p) is = absurd is
standing_fresh (Process t) (Nested n) is = ap₂ Inner (ap stage_of is.stage) (ap length is.scopes)

scope_fresh : (w : Work) (state : ActivityState) (i : ℕ) → IsFreshWork w state → scope_in state i ≡ None
scope_fresh (RunsProgram w) (Program p) i is = refl
scope_fresh (RunsProgram w) (Nested n) i is = absurd is
scope_fresh (Block g) (Program p) i is = absurd is
scope_fresh (Block g) (Nested n) i is = ap (λ xs. slice_get xs i) is.scopes
scope_fresh (Process t) (Program p) i is = absurd is
scope_fresh (Process t) (Nested n) i is = ap (λ xs. slice_get xs i) is.scopes

module _ (g : Graph) (input : Container) (s : ScopeState) (fresh : IsFresh g input s) where
  tallies_fresh : (fields s).tallies ≡ map (λ a. fresh_tally (incoming_count g a)) (up_to
      (length (out-Graph g).activities) 0)
  tallies_fresh =
      let n = length (out-Graph g).activities in
      same_lists (fields s).tallies (map (λ a. fresh_tally (incoming_count g a)) (up_to n 0))
      (fresh.tallied ∙ sym (map_long (λ a. fresh_tally (incoming_count g a)) (up_to n 0) ∙ up_to_long n 0))
      (λ i t u at there.
      tally_fresh t (incoming_count g i) (fresh.tallies i t at)
      ∙ ap (λ a. fresh_tally (incoming_count g a)) (let z : i ≡ 0 + i = omega arith in z)
      ∙ sym (up_to_read (λ a. fresh_tally (incoming_count g a)) n 0 i u there))

  standings_fresh : map standing_of (fields s).states
      ≡ map (λ activity. fresh_standing activity.work) (out-Graph g).activities
  standings_fresh =
      same_lists (map standing_of (fields s).states)
      (map (λ activity. fresh_standing activity.work) (out-Graph g).activities)
      (map_long standing_of (fields s).states ∙ fresh.stated
      ∙ sym (map_long (λ activity. fresh_standing activity.work) (out-Graph g).activities))
      (λ i x y at there.
      let state = map_found standing_of (fields s).states i x at in
      let activity = map_found (λ activity. fresh_standing activity.work) (out-Graph g).activities i y there in
      state.2 ∙ standing_fresh activity.0.work state.0 (fresh.states i activity.0 state.0 activity.1 state.1)
      ∙ sym activity.2)

  row_fresh : row_of (fields s) ≡ fresh_row g input
  row_fresh = λ i. record {
    begun = fresh.begun i;
    input = fresh.reads i;
    tallies = tallies_fresh i;
    ends = fresh.ends i;
    standings = standings_fresh i;
    unsettled = fresh.unsettled i;
  }

  none_inside : (b j : ℕ) → inner_at (fields s).states b j ≡ None
  none_inside b j = go (slice_get (fields s).states b) refl
    where
      go : (o : Option ActivityState) → slice_get (fields s).states b ≡ o
          → option_and_then (λ state. scope_in state j) o ≡ None
      go None at = refl
      go (Some state) at =
          let less : b < length (out-Graph g).activities = subst (λ n. b < n) fresh.stated
          (within (fields s).states b state at) in
          let activity = present (out-Graph g).activities b less in
          scope_fresh activity.0.work state j (fresh.states b activity.0 state activity.1 at)

  pub scopes_fresh : (p : List Step) → only (fresh_row g input) p ≡ scopes_of s p
  scopes_fresh [] = ap Some (sym row_fresh)
  scopes_fresh (q ∷ p) = sym (ap (option_and_then (λ t. scopes_of t p)) (none_inside q.0 q.1))
