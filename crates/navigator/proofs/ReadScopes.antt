-- What is read from a scope that shows its view is the view's.
use Rattle.std.proofs.Common.{◌≡◌, ℕ, zero, suc, ◌+◌, ◌<◌, Bool, true, false, ◌&&◌, List, [], ◌∷◌, ◌++◌, length, Option, Some, None, cond, refl, ap, sym, ◌∙◌, arith, append_assoc, length-append}
use Rattle.std.specs.Prelude.{◌==◌, not, slice_get, count_by, unwrap_or}
use Rattle.std.specs.List.{list_all}
use Rattle.std.specs.Option.{option_map_or}
use Rattle.std.proofs.Math.Path.{fun_ext}
use Rattle.std.proofs.lemmas.Bool.Decides.{nat_tests}
use Rattle.std.proofs.lemmas.List.Sums.{sum_by-cons}
use Rattle.std.proofs.lemmas.Option.{slice_get_within}
use Rattle.activity_states.specs.States.{State, waiting, dead, opened, finished, fate_of, hold_of, held}
use Rattle.blocks_subprocs.specs.Ends.{ends_of}
use Rattle.dead_paths.proofs.Places.{here}
use Rattle.flow_model.specs.Fates.{Ends, is_settled}
use Rattle.flow_model.specs.ScopeContainers.{is_complete, up_to}
use Rattle.flow_model.specs.Scopes.{Known, Runs, Start, fate_given, output, tree_ends, tree_fate}
use Rattle.flow_model.specs.declared.graphs.Activity.{Activity}
use Rattle.flow_model.specs.declared.graphs.Container.{Container}
use Rattle.flow_model.specs.declared.graphs.Graph.{Graph, out-Graph}
use Rattle.flow_model.specs.declared.graphs.Template.{Template}
use Rattle.flow_model.specs.declared.graphs.Work.{Work, Program as RunsProgram, Block, Process}
use Rattle.flow_model.specs.declared.instances.Fate.{Fate}
use Rattle.flow_model.specs.declared.instances.Fate.TheVariants.{Waiting}
use Rattle.flow_model.specs.declared.instances.Hold.TheVariants.{Nobody, Person, Agent}
use Rattle.flow_model.specs.declared.instances.SourceEnd.{SourceEnd}
use Rattle.flow_model.specs.declared.instances.SourceEnd.TheVariants.{Unsettled}
use Rattle.navigator.specs.Reading.{state_fate, state_hold, fate_in, hold_in, with_hold}
use Rattle.navigator.specs.Views.{ShowsStart, ShowsWork, Shows}
use Rattle.navigator.specs.declared.scopes.ActivityState.{ActivityState, Program, Nested}
use Rattle.navigator.specs.declared.scopes.ScopeState.{ScopeState, out-ScopeState}

-- ---- complete scopes

settled_from : (before rest : List SourceEnd) (n : ℕ) → length before ≡ n
    → list_all (λ a. is_settled (ends_of (before ++ rest) a)) (up_to (length rest) n) ≡ list_all is_settled rest
settled_from before [] n long = refl
settled_from before (e ∷ rest) n long =
    let more = settled_from (before ++ e ∷ []) rest (n + 1) (omega (arith, length-append before (e ∷ []))) in
    let first : is_settled (ends_of (before ++ e ∷ rest) n) ≡ is_settled e = ap (λ o. is_settled (unwrap_or o Unsettled)) (here before e rest n long) in
    rw first (ap (λ b. is_settled e && b) (rw append_assoc at more))

complete_of : (g : Graph) (ends : List SourceEnd) → length ends ≡ length (out-Graph g).activities → is_complete g (ends_of ends) ≡ list_all is_settled ends
complete_of g ends long = rw (← long) (settled_from [] ends 0 refl)

left_step : (b r : Bool) (n : ℕ) → (n == 0) ≡ r → ((cond (not b) 1 0 + n) == 0) ≡ (b && r)
left_step true r n is = grind (arith, nat_tests)
left_step false r n is = grind (arith, nat_tests)

-- none is left where each is settled
none_left : (es : List SourceEnd) → (count_by (λ x. not (is_settled x)) es == 0) ≡ list_all is_settled es
none_left [] = refl
none_left (e ∷ es) =
    ap (λ n. n == 0) (sum_by-cons (λ x. cond (not (is_settled x)) 1 0) e es)
    ∙ left_step (is_settled e) (list_all is_settled es) (count_by (λ x. not (is_settled x)) es) (none_left es)

pub shown_complete : (ts : List Template) (depth : ℕ) (k : Known) (g : Graph) (input : Container) (s : ScopeState) → Shows ts depth k g input s
    → ((out-ScopeState s).begun && ((out-ScopeState s).unsettled == 0)) ≡ (k.begun [] && is_complete g (tree_ends ts depth k g input))
shown_complete ts depth k g input s shows =
    let ends = (out-ScopeState s).ends.items in
    let same : ends_of ends ≡ tree_ends ts depth k g input = fun_ext shows.ends in
    let all : is_complete g (tree_ends ts depth k g input) ≡ ((out-ScopeState s).unsettled == 0)
    = ap (is_complete g) (sym same) ∙ complete_of g ends shows.ended ∙ sym (none_left ends) ∙ ap (λ n. n == 0) (sym shows.unsettled) in
    rw (shows.begun, all) refl

-- ---- fates

held_fate : (p : State) → fate_of p ≡ with_hold (hold_of p) (fate_of (held p Nobody))
held_fate waiting = refl
held_fate dead = refl
held_fate (opened cs Nobody takes since) = refl
held_fate (opened cs (Person name) takes since) = refl
held_fate (opened cs (Agent take) takes since) = refl
held_fate (finished cs) = refl

work_fate : (w : Work) (fate : Fate) (outs : List Container) (starts : List Start) (shows : ShowsStart) (state : ActivityState) → ShowsWork w fate outs starts shows state
    → state_fate state ≡ with_hold (state_hold state) fate
work_fate (RunsProgram w) fate outs starts shows (Program p) is = held_fate p ∙ ap (with_hold (hold_of p)) is.stands
work_fate (RunsProgram w) fate outs starts shows (Nested n) is = absurd is
work_fate (Block g) fate outs starts shows (Program p) is = absurd is
work_fate (Block g) fate outs starts shows (Nested n) is = is.stands
work_fate (Process t) fate outs starts shows (Program p) is = absurd is
work_fate (Process t) fate outs starts shows (Nested n) is = is.stands

missing : {X : Type 0} (xs : List X) (i : ℕ) → slice_get xs i ≡ None → i < length xs → ⊥
missing [] i none less = absurd (omega arith)
missing (x ∷ xs) zero none less = let never : Some x ≡ None = none in cc
missing (x ∷ xs) (suc i) none less = missing xs i none (omega arith)

-- what isn't there waits
nothing_waits : (ts : List Template) (k : Known) (runs : Runs) (g : Graph) (input : Container) (e : Ends) (a : ℕ) → slice_get (out-Graph g).activities a ≡ None
    → fate_given ts k runs g input e a ≡ Waiting
nothing_waits ts k runs g input e a none = rw none (go (k.begun []))
  where
    go : (b : Bool) → cond b Waiting Waiting ≡ Waiting
    go true = refl
    go false = refl

module _ (ts : List Template) (depth : ℕ) (k : Known) (g : Graph) (input : Container) (s : ScopeState) (shows : Shows ts depth k g input s) (a : ℕ) where
  fate_at_place : (state : Option ActivityState) (activity : Option Activity) → slice_get (out-ScopeState s).states.items a ≡ state
      → slice_get (out-Graph g).activities a ≡ activity
      → option_map_or state_fate state Waiting ≡ with_hold (option_map_or state_hold state Nobody) (tree_fate ts depth k g input a)
  fate_at_place None None at there = sym (nothing_waits ts k (output ts depth) g input (tree_ends ts depth k g input) a there)
  fate_at_place (Some state) (Some activity) at there = work_fate activity.work _ _ _ _ state (shows.states a activity state there at)
  fate_at_place (Some state) None at there =
      let less = slice_get_within (out-ScopeState s).states.items a state at in
      let same = shows.stated in
      absurd (missing (out-Graph g).activities a there (omega arith))
  fate_at_place None (Some activity) at there =
      let less = slice_get_within (out-Graph g).activities a activity there in
      let same = shows.stated in
      absurd (missing (out-ScopeState s).states.items a at (omega arith))

  pub shown_fate : fate_in s a ≡ with_hold (hold_in s a) (tree_fate ts depth k g input a)
  shown_fate = fate_at_place (slice_get (out-ScopeState s).states.items a) (slice_get (out-Graph g).activities a) refl refl
