-- The transactions of the call in which a run stops: commands make what an input asks for.
use Rattle.std.proofs.Common.{◌≡◌, inl, inr, ℕ, List, [], ◌∷◌, ◌++◌, Option, Some, None, refl, sym, subst}
use Rattle.core_laws.specs.RightStates.{IsRightCore}
use Rattle.flow_core.specs.declared.judging.Verdict.TheVariants.{Do}
use Rattle.flow_core.specs.declared.state.Core.{Core}
use Rattle.flow_model.specs.declared.commands.Command.{Command}
use Rattle.flow_model.specs.declared.commands.Command.TheVariants as asked
use Rattle.flow_model.specs.declared.instances.Message.{Message}
use Rattle.flow_model.specs.declared.transactions.Transaction.{Transaction}
use Rattle.flow_model.specs.declared.transactions.Transaction.TheVariants as made
use Rattle.flow_session.specs.Asking.{Asks, NoneAsked, JudgedSo, TurnsSoFar, OneMoreTurn}
use Rattle.flow_session.specs.Asking.{AsksSaid, AsksOutside, AsksText, AsksInside, AsksInput}
use Rattle.flow_session.specs.Inputs.{Given, Line, Long, End, Unended}
use Rattle.machine.specs.States.{State}
use Rattle.machine.specs.Verdicts.{IsVerdict}
use Rattle.meaning_laws.proofs.Verdicts.{verdict_steps}
use Rattle.machine_laws.specs.Viewed.{view}
use Rattle.machine_laws.proofs.SeenVerdicts.{verdict_seen}
use Rattle.machine_laws.specs.Keyed.{AreKeyed}
use Rattle.reopening_laws.specs.Making.{MadeByCommands}
use Rattle.reopening_laws.proofs.Sessions.{made_more, turn_judged, turns_made}

-- commands make these transactions, from this state on
abbrev IsMadeFrom : State → List Transaction → Type 0
IsMadeFrom s ts = (s' : State) × MadeByCommands s ts s'

none_made : (s : State) (ts : List Transaction) → ts ≡ [] → IsMadeFrom s ts
none_made s ts none = (s, subst (λ (xs : List Transaction). MadeByCommands s xs s) (sym none) refl)

-- what a command is judged to in a right state has a step
judged_made : (c : Core) → IsRightCore c → (command : Command) (t : Transaction) → IsVerdict (view c) command (Do t)
    → IsMadeFrom (view c) (t ∷ [])
judged_made c right command t judged =
    let next = verdict_steps (view c) command t judged in
    (next.0, (command, next.0, judged, next.1, refl))

-- one turn more
turn_more : (c : Core) (ts : List Transaction) (d : Core) (queue : ℕ) (message : Message) → IsRightCore d
    → MadeByCommands (view c) ts (view d) → IsVerdict (view d) (asked.Turn queue) (Do (made.Turn queue message))
    → IsMadeFrom (view c) (ts ++ made.Turn queue message ∷ [])
turn_more c ts d queue message right first judged =
    let t = made.Turn queue message in
    let more = judged_made d right (asked.Turn queue) t judged in
    (more.0, made_more (view c) ts (t ∷ []) (view d) more.0 first more.1)

-- ---- an input

module _ (c : Core) (right : IsRightCore c) (keyed : AreKeyed c) where
  command_asks : (command : Command) (ts : List Transaction) → Asks c command ts → IsMadeFrom (view c) ts
  command_asks _ _ NoneAsked = none_made (view c) [] refl
  command_asks _ _ (JudgedSo {command} {t} is) =
      judged_made c right command t (verdict_seen c command (Do t) keyed is)
  command_asks _ _ (TurnsSoFar {ts} {from} {c' = d} turns) = (view d, (turns_made c ts from d turns right).0)
  command_asks _ _ (OneMoreTurn {ts} {from} {queue} {c' = d} {message} turns next front room) =
      let taken = turns_made c ts from d turns right in
      turn_more c ts d queue message taken.1 taken.0 (turn_judged d queue message next.has front room)

  said_asks : (command : Command) (ts : List Transaction) → AsksSaid c command ts → IsMadeFrom (view c) ts
  said_asks command ts (inl none) = none_made (view c) ts none
  said_asks command ts (inr asks) = command_asks command ts asks.1

  outside_asks : (input : Given) (ts : List Transaction) → AsksOutside c input ts → IsMadeFrom (view c) ts
  outside_asks (Line line) ts (inl none) = none_made (view c) ts none
  outside_asks (Line line) ts (inr said) = said_asks said.0 ts said.3
  outside_asks Long ts none = none_made (view c) ts none
  outside_asks End ts none = none_made (view c) ts none

  text_asks : (u : Unended) (ts : List Transaction) → AsksText c u ts → IsMadeFrom (view c) ts
  text_asks u ts (inl none) = none_made (view c) ts none
  text_asks u ts (inr asks) = command_asks (asked.Import u.text) ts asks.1

  inside_asks : (u : Unended) (input : Given) (ts : List Transaction) → AsksInside c u input ts → IsMadeFrom (view c) ts
  inside_asks u (Line line) ts (inl none) = none_made (view c) ts none
  inside_asks u (Line line) ts (inr asks) = text_asks u ts asks.1
  inside_asks u Long ts none = none_made (view c) ts none
  inside_asks u End ts none = none_made (view c) ts none

  pub input_asks : (o : Option Unended) (input : Given) (ts : List Transaction) → AsksInput o c input ts
      → IsMadeFrom (view c) ts
  input_asks None input ts asks = outside_asks input ts asks
  input_asks (Some u) input ts asks = inside_asks u input ts asks
