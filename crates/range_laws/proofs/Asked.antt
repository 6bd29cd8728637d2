-- What an input of a session asks for is made by commands with words in range: that of its line, that of a text which is
-- ended, and a TURN for each message that a DRAIN takes.
use Rattle.std.proofs.Common.{◌≡◌, inl, inr, ℕ, zero, suc, ◌≤◌, Bool, List, [], ◌∷◌, ◌++◌}
use Rattle.std.proofs.Common.{Option, Some, None, option_map, refl, sym, subst, arith}
use Rattle.std.proofs.lemmas.Option.{none-some}
use Rattle.core_laws.specs.RightStates.{IsRightCore}
use Rattle.flow_core.specs.declared.judging.Verdict.TheVariants.{Do}
use Rattle.flow_core.specs.declared.refusals.Refusal.TheVariants as refused
use Rattle.flow_core.specs.declared.state.Core.{Core}
use Rattle.flow_model.specs.declared.commands.Command.{Command}
use Rattle.flow_model.specs.declared.commands.Command.TheVariants as asked
use Rattle.flow_model.specs.declared.instances.Mode.{Mode}
use Rattle.flow_model.specs.declared.transactions.Transaction.{Transaction}
use Rattle.flow_model.specs.declared.transactions.Transaction.TheVariants as made
use Rattle.flow_session.specs.Asking.{AreTurns, NoneTaken, OneTaken, Asks, NoneAsked, JudgedSo, TurnsSoFar, OneMoreTurn}
use Rattle.flow_session.specs.Asking.{AsksSaid, AsksOutside, AsksText, AsksInside, AsksInput}
use Rattle.flow_session.specs.Histories.{AreInRangeBehind}
use Rattle.flow_session.specs.Inputs.{Given, Line, Long, End, Unended}
use Rattle.flow_session.specs.Leading.{LeadsBy}
use Rattle.machine.proofs.One.{one_history}
use Rattle.machine.specs.States.{Root, State}
use Rattle.machine.specs.Steps.{Runs}
use Rattle.machine.specs.Verdicts as machine
use Rattle.machine_laws.specs.Viewed.{view}
use Rattle.machine_laws.proofs.SeenVerdicts.{verdict_seen}
use Rattle.machine_laws.specs.Keyed.{AreKeyed}
use Rattle.reopening_laws.specs.Ranges.{IsWorded}
use Rattle.reopening_laws.proofs.Admitted.{both_none}
use Rattle.reopening_laws.proofs.Sessions.{runs_cut, turn_judged}
use Rattle.range_laws.specs.Lines.{NamesNoZero}
use Rattle.range_laws.specs.Standing.{HasNoZero, StaysInBounds}
use Rattle.range_laws.specs.Words.{MadeByWords}
use Rattle.range_laws.proofs.Histories.{next_in_range}
use Rattle.range_laws.proofs.Words.{words_fit, words_in_range, more_in_range}
use Rattle.range_laws.proofs.Worded.{read_worded}

-- ---- histories

pub more_worded : (s : State) (ts us : List Transaction) (mid s' : State) → MadeByWords s ts mid → MadeByWords mid us s'
    → MadeByWords s (ts ++ us) s'
more_worded s [] us mid s' first second = subst (λ (x : State). MadeByWords x us s') first second
more_worded s (t ∷ ts) us mid s' first second =
    (first.0, first.1, first.2, first.3, first.4, more_worded first.1 ts us mid s' first.5 second)

-- what commands make is a run
worded_runs : (s : State) (ts : List Transaction) (s' : State) → MadeByWords s ts s' → Runs s ts s'
worded_runs s [] s' all = all
worded_runs s (t ∷ ts) s' all = (all.1, all.4, worded_runs all.1 ts s' all.5)

one_worded : (s : State) (command : Command) (t : Transaction) (s' : State) → IsWorded command
    → machine.IsVerdict s command (Do t) → Runs s (t ∷ []) s' → MadeByWords s (t ∷ []) s'
one_worded s command t s' fine judged run = (command, run.0, fine, judged, run.1, run.2)

-- ---- a root

-- a root that passes the test of its mode isn't the one with the number 0
passes_from_one : (s : State) (allowed : Mode → Bool) (root : ℕ) → HasNoZero s
    → machine.root_test s allowed root ≡ None → 1 ≤ root
passes_from_one s allowed zero from passes =
    let nobody : machine.live_test allowed 0 None ≡ None =
    subst (λ (o : Option Root). machine.live_test allowed 0 (option_map machine.mode_in o) ≡ None) from passes in
    absurd (none-some (refused.Root 0) (sym nobody))
passes_from_one s allowed (suc root) from passes = omega arith

judged_from_one : (s : State) (command : Command) (t : Transaction) → HasNoZero s
    → machine.IsVerdict s command (Do t) → NamesNoZero command
judged_from_one s (asked.Import text) t from is = tt
judged_from_one s (asked.Start process starter key written) t from is = tt
judged_from_one s (asked.Turn queue) t from is = tt
judged_from_one s asked.Drain t from is = tt
judged_from_one s (asked.Claim token name) t from is = tt
judged_from_one s (asked.Release token name) t from is = tt
judged_from_one s (asked.Transfer token name to) t from is = tt
judged_from_one s (asked.Take token) t from is = tt
judged_from_one s (asked.Done token by outcome) t from is = tt
judged_from_one s (asked.Force token outcome) t from is = tt
judged_from_one s (asked.Restart token) t from is = tt
judged_from_one s (asked.Suspend root) t from is =
    passes_from_one s machine.is_active root from
    (both_none (machine.root_test s machine.is_active root) _ (sym is.1)).0
judged_from_one s (asked.Resume root) t from is =
    passes_from_one s machine.is_suspended root from
    (both_none (machine.root_test s machine.is_suspended root) _ (sym is.1)).0
judged_from_one s (asked.Terminate root) t from is =
    passes_from_one s machine.is_going root from
    (both_none (machine.root_test s machine.is_going root) _ (sym is.1)).0
judged_from_one s (asked.Delete root) t from is =
    passes_from_one s machine.is_over root from
    (both_none (machine.root_test s machine.is_over root) _ (sym is.1)).0
judged_from_one s (asked.Clock number) t from is = tt
judged_from_one s asked.Checkpoint t from is = tt
judged_from_one s (asked.Ask query) t from is = tt

-- ---- a turn

-- turns of a right state
turns_worded : (c : Core) (ts : List Transaction) (from : ℕ) (d : Core) → AreTurns c ts from d → IsRightCore c
    → MadeByWords (view c) ts (view d) × IsRightCore d
turns_worded c _ _ _ NoneTaken right = (refl, right)
turns_worded c _ _ _ (OneTaken {ts} {us} {from} {queue} {c'} {c''} turns next turn) right =
    let before = turns_worded c ts from c' turns right in
    let taken = turn.0 in
    let t = made.Turn queue taken.message in
    let judged = turn_judged c' queue taken.message next.has taken.front taken.room in
    let one = one_worded (view c') (asked.Turn queue) t (view c'') tt judged (taken.leads.steps before.1) in (
      more_worded (view c) ts us (view c') (view c'') before.0
          (subst (λ (xs : List Transaction). MadeByWords (view c') xs (view c'')) (sym turn.1) one),
      taken.leads.right before.1,
    )

-- ---- what a command asks for

module _ (c : Core) (right : IsRightCore c) (keyed : AreKeyed c) where
  module _ (c' : Core) (from_one : HasNoZero (view c)) where
    asks_worded : (command : Command) (ts : List Transaction) → (NamesNoZero command → IsWorded command)
        → Asks c command ts → LeadsBy c ts c' → MadeByWords (view c) ts (view c')
    asks_worded _ _ fine NoneAsked leads = leads.steps right
    asks_worded _ _ fine (JudgedSo {command} {t} is) leads =
        let judged = verdict_seen c command (Do t) keyed is in
        one_worded (view c) command t (view c') (fine (judged_from_one (view c) command t from_one judged)) judged
        (leads.steps right)
    asks_worded _ _ fine (TurnsSoFar {ts} {from} {c' = d} turns) leads =
        let all = (turns_worded c ts from d turns right).0 in
        let same : view d ≡ view c' =
        one_history ts (view c) (view d) (view c') (worded_runs (view c) ts (view d) all) (leads.steps right) in
        subst (MadeByWords (view c) ts) same all
    asks_worded _ _ fine (OneMoreTurn {ts} {from} {queue} {c' = d} {message} turns next front room) leads =
        let all = (turns_worded c ts from d turns right).0 in
        let t = made.Turn queue message in
        let cut = runs_cut (view c) ts (t ∷ []) (view c') (leads.steps right) in
        let same : cut.0 ≡ view d =
        one_history ts (view c) cut.0 (view d) cut.1 (worded_runs (view c) ts (view d) all) in
        let run : Runs (view d) (t ∷ []) (view c') =
        subst (λ (x : State). Runs x (t ∷ []) (view c')) same cut.2 in
        more_worded (view c) ts (t ∷ []) (view d) (view c') all
        (one_worded (view d) (asked.Turn queue) t (view c') tt (turn_judged d queue message next.has front room) run)

  -- each is in range, whether or not they lead to a state
  module _ (ok : StaysInBounds (view c)) where
    asks_in_range : (command : Command) (ts : List Transaction) → (NamesNoZero command → IsWorded command)
        → Asks c command ts → AreInRangeBehind c.number ts
    asks_in_range _ _ fine NoneAsked = tt
    asks_in_range _ _ fine (JudgedSo {command} {t} is) =
        let judged = verdict_seen c command (Do t) keyed is in
        (next_in_range (view c) ok command t (fine (judged_from_one (view c) command t ok.from_one judged)) judged, tt)
    asks_in_range _ _ fine (TurnsSoFar {ts} {from} {c' = d} turns) =
        words_in_range (view c) ts (view d) ok (turns_worded c ts from d turns right).0
    asks_in_range _ _ fine (OneMoreTurn {ts} {from} {queue} {c' = d} {message} turns next front room) =
        let all = (turns_worded c ts from d turns right).0 in
        let t = made.Turn queue message in
        let judged = turn_judged d queue message next.has front room in
        let last = next_in_range (view d) (words_fit (view c) ts (view d) ok all).2 (asked.Turn queue) t tt judged in
        more_in_range (view c) ts (view d) (t ∷ []) ok all (last, tt)

-- ---- an input

-- a property of what an input asks for: no transaction has it, and those for which a command asks whose words are in
-- range, where its root is counted from 1
module _ (c : Core) (P : List Transaction → Type 0) (nothing : P [])
    (asked_so : (command : Command) (ts : List Transaction) → (NamesNoZero command → IsWorded command)
    → Asks c command ts → P ts) where
  none_so : (ts : List Transaction) → ts ≡ [] → P ts
  none_so ts none = subst P (sym none) nothing

  said_so : (command : Command) (ts : List Transaction) → (NamesNoZero command → IsWorded command)
      → AsksSaid c command ts → P ts
  said_so command ts fine (inl none) = none_so ts none
  said_so command ts fine (inr asks) = asked_so command ts fine asks.1

  outside_so : (input : Given) (ts : List Transaction) → AsksOutside c input ts → P ts
  outside_so (Line line) ts (inl none) = none_so ts none
  outside_so (Line line) ts (inr said) =
      said_so said.0 ts (λ some. read_worded line said.0 said.1 said.2.0 some) said.3
  outside_so Long ts none = none_so ts none
  outside_so End ts none = none_so ts none

  text_so : (u : Unended) (ts : List Transaction) → AsksText c u ts → P ts
  text_so u ts (inl none) = none_so ts none
  text_so u ts (inr asks) = asked_so (asked.Import u.text) ts (λ some. tt) asks.1

  inside_so : (u : Unended) (input : Given) (ts : List Transaction) → AsksInside c u input ts → P ts
  inside_so u (Line line) ts (inl none) = none_so ts none
  inside_so u (Line line) ts (inr asks) = text_so u ts asks.1
  inside_so u Long ts none = none_so ts none
  inside_so u End ts none = none_so ts none

  input_so : (o : Option Unended) (input : Given) (ts : List Transaction) → AsksInput o c input ts → P ts
  input_so None input ts asks = outside_so input ts asks
  input_so (Some u) input ts asks = inside_so u input ts asks

module _ (c : Core) (right : IsRightCore c) (keyed : AreKeyed c) where
  pub input_worded : (c' : Core) → HasNoZero (view c) → (o : Option Unended) (input : Given) (ts : List Transaction)
      → AsksInput o c input ts → LeadsBy c ts c' → MadeByWords (view c) ts (view c')
  input_worded c' from_one o input ts asks leads =
      input_so c (λ us. LeadsBy c us c' → MadeByWords (view c) us (view c')) (λ stays. stays.steps right)
      (asks_worded c right keyed c' from_one) o input ts asks leads

  pub input_in_range : StaysInBounds (view c) → (o : Option Unended) (input : Given) (ts : List Transaction)
      → AsksInput o c input ts → AreInRangeBehind c.number ts
  input_in_range ok o input ts asks =
      input_so c (AreInRangeBehind c.number) tt (asks_in_range c right keyed ok) o input ts asks
