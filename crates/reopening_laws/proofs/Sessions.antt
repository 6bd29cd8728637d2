-- The transactions of a session are made by commands: input by input, and a DRAIN turn by turn.
use Rattle.std.proofs.Common.{◌≡◌, inl, inr, ℕ, ◌<◌, ◌≤◌, ◌&&◌, nat_lt, nat_le, Bool, true, false, List, [], ◌∷◌, ◌++◌, Option, Some, None}
use Rattle.std.proofs.Common.{is_some, length, refl, sym, subst}
use Rattle.std.specs.Prelude.{slice_get}
use Rattle.std.proofs.lemmas.Bool.{lt-ltb}
use Rattle.core_laws.specs.RightStates.{IsRightCore}
use Rattle.flow_core.specs.Answers.{has_message}
use Rattle.flow_core.specs.Summaries.{Summary, summary}
use Rattle.flow_core.specs.Verdicts.{IsFront}
use Rattle.flow_core.specs.declared.judging.Verdict.TheVariants.{Do}
use Rattle.flow_core.specs.declared.refusals.Refusal.{Refusal}
use Rattle.flow_core.specs.declared.refusals.Refusal.TheVariants as refused
use Rattle.flow_core.specs.declared.state.Core.{Core}
use Rattle.flow_disk.specs.Images.{Image}
use Rattle.flow_disk.specs.declared.disk.Slot.{Slot}
use Rattle.flow_model.specs.declared.commands.Command.{Command}
use Rattle.flow_model.specs.declared.commands.Command.TheVariants as asked
use Rattle.flow_model.specs.declared.instances.Message.{Message}
use Rattle.flow_model.specs.declared.transactions.Transaction.{Transaction}
use Rattle.flow_model.specs.declared.transactions.Transaction.TheVariants as made
use Rattle.flow_session.specs.Asking.{AreTurns, NoneTaken, OneTaken, Asks, NoneAsked, JudgedSo, TurnsSoFar, OneMoreTurn}
use Rattle.flow_session.specs.Asking.{AsksSaid, AsksOutside, AsksText, AsksInside, AsksInput}
use Rattle.flow_session.specs.Histories.{StandsFor}
use Rattle.flow_session.specs.Inputs.{Given, Line, Long, End, Unended, unended}
use Rattle.flow_session.specs.Leading.{LeadsBy}
use Rattle.flow_session.specs.Scripts.{ServesOne, ServesAll, NoInput, OneMore}
use Rattle.flow_session.specs.Serving.{Makes}
use Rattle.flow_session.specs.declared.serving.Session.{Session}
use Rattle.flow_session.proofs.Calls.{makes_nothing, makes_more}
use Rattle.flow_session.proofs.Leading.{leads_none, leads_more}
use Rattle.machine.proofs.One.{one_history}
use Rattle.machine.specs.States.{State}
use Rattle.machine.specs.Steps.{Runs}
use Rattle.machine.specs.Verdicts as machine
use Rattle.machine_laws.specs.Viewed.{view}
use Rattle.machine_laws.proofs.SeenVerdicts.{verdict_seen}
use Rattle.machine_laws.specs.Keyed.{AreKeyed}
use Rattle.recover_queue.specs.Queues.{queue as messages_of}
use Rattle.worklist_laws.specs.Shelved.{IsRightAndListed}
use Rattle.reopening_laws.specs.Making.{MadeByCommands}
use Rattle.reopening_laws.specs.Sessions.{ScriptsMakeByCommands}

-- ---- histories

pub made_more : (s : State) (ts us : List Transaction) (mid s' : State) → MadeByCommands s ts mid → MadeByCommands mid us s'
    → MadeByCommands s (ts ++ us) s'
made_more s [] us mid s' first second = subst (λ (x : State). MadeByCommands x us s') first second
made_more s (t ∷ ts) us mid s' first second =
    (first.0, first.1, first.2, first.3, made_more first.1 ts us mid s' first.4 second)

-- what commands make is a run
made_runs : (s : State) (ts : List Transaction) (s' : State) → MadeByCommands s ts s' → Runs s ts s'
made_runs s [] s' all = all
made_runs s (t ∷ ts) s' all = (all.1, all.3, made_runs all.1 ts s' all.4)

-- a run is cut behind its first transactions
pub runs_cut : (s : State) (ts us : List Transaction) (s' : State) → Runs s (ts ++ us) s'
    → (mid : State) × Runs s ts mid × Runs mid us s'
runs_cut s [] us s' run = (s, refl, run)
runs_cut s (t ∷ ts) us s' run =
    let rest = runs_cut run.0 ts us s' run.2 in
    (rest.0, (run.0, run.1, rest.1), rest.2)

made_one : (s : State) (command : Command) (t : Transaction) (s' : State) → machine.IsVerdict s command (Do t)
    → Runs s (t ∷ []) s' → MadeByCommands s (t ∷ []) s'
made_one s command t s' judged run = (command, run.0, judged, run.1, run.2)

-- ---- a turn

none_refuses : (a b d room : Bool) (queue empty full : Refusal) → (a && b && d) ≡ true → room ≡ true
    → None ≡ machine.first_of (machine.unless (a && b) queue ∷ machine.unless d empty ∷ machine.unless room full ∷ [])
none_refuses true true true true queue empty full has free = refl
none_refuses true true true false queue empty full has free = absurd (cc)
none_refuses true true false room queue empty full has free = absurd (cc)
none_refuses true false d room queue empty full has free = absurd (cc)
none_refuses false b d room queue empty full has free = absurd (cc)

-- a TURN of a queue that has a message is judged to that, below the limit
pub turn_judged : (c : Core) (queue : ℕ) (message : Message) → has_message c queue ≡ true → IsFront c queue message
    → c.number < c.limit → machine.IsVerdict (view c) (asked.Turn queue) (Do (made.Turn queue message))
turn_judged c queue message has front room = (
  refl,
  none_refuses (nat_le 1 queue) (nat_le queue (length c.queues))
      (is_some (slice_get (messages_of c.queues queue) 0)) (nat_lt c.number c.limit)
      (refused.Queue (length c.queues)) (refused.Empty queue) (refused.Full c.limit) has
      (lt-ltb c.number c.limit room),
  (message, front, refl),
)

-- turns of a right state
pub turns_made : (c : Core) (ts : List Transaction) (from : ℕ) (d : Core) → AreTurns c ts from d → IsRightCore c
    → MadeByCommands (view c) ts (view d) × IsRightCore d
turns_made c _ _ _ NoneTaken right = (refl, right)
turns_made c _ _ _ (OneTaken {ts} {us} {from} {queue} {c'} {c''} turns next turn) right =
    let before = turns_made c ts from c' turns right in
    let taken = turn.0 in
    let t = made.Turn queue taken.message in
    let judged = turn_judged c' queue taken.message next.has taken.front taken.room in
    let one = made_one (view c') (asked.Turn queue) t (view c'') judged (taken.leads.steps before.1) in (
      made_more (view c) ts us (view c') (view c'') before.0
          (subst (λ (xs : List Transaction). MadeByCommands (view c') xs (view c'')) (sym turn.1) one),
      taken.leads.right before.1,
    )

-- ---- an input

module _ (c c' : Core) (right : IsRightCore c) (keyed : AreKeyed c) where
  asks_made : (command : Command) (ts : List Transaction) → Asks c command ts → LeadsBy c ts c'
      → MadeByCommands (view c) ts (view c')
  asks_made _ _ NoneAsked leads = leads.steps right
  asks_made _ _ (JudgedSo {command} {t} is) leads =
      made_one (view c) command t (view c') (verdict_seen c command (Do t) keyed is) (leads.steps right)
  asks_made _ _ (TurnsSoFar {ts} {from} {c' = d} turns) leads =
      let all = (turns_made c ts from d turns right).0 in
      let same : view d ≡ view c' =
      one_history ts (view c) (view d) (view c') (made_runs (view c) ts (view d) all) (leads.steps right) in
      subst (MadeByCommands (view c) ts) same all
  asks_made _ _ (OneMoreTurn {ts} {from} {queue} {c' = d} {message} turns next front room) leads =
      let all = (turns_made c ts from d turns right).0 in
      let t = made.Turn queue message in
      let cut = runs_cut (view c) ts (t ∷ []) (view c') (leads.steps right) in
      let same : cut.0 ≡ view d =
      one_history ts (view c) cut.0 (view d) cut.1 (made_runs (view c) ts (view d) all) in
      let run : Runs (view d) (t ∷ []) (view c') =
      subst (λ (x : State). Runs x (t ∷ []) (view c')) same cut.2 in
      made_more (view c) ts (t ∷ []) (view d) (view c') all
      (made_one (view d) (asked.Turn queue) t (view c') (turn_judged d queue message next.has front room) run)

  nothing_made : (ts : List Transaction) → ts ≡ [] → LeadsBy c ts c' → MadeByCommands (view c) ts (view c')
  nothing_made ts none leads =
      let stays : Runs (view c) [] (view c') =
      subst (λ (xs : List Transaction). Runs (view c) xs (view c')) none (leads.steps right) in
      subst (λ (xs : List Transaction). MadeByCommands (view c) xs (view c')) (sym none) stays

  said_made : (command : Command) (ts : List Transaction) → AsksSaid c command ts → LeadsBy c ts c'
      → MadeByCommands (view c) ts (view c')
  said_made command ts (inl none) leads = nothing_made ts none leads
  said_made command ts (inr asks) leads = asks_made command ts asks.1 leads

  outside_made : (input : Given) (ts : List Transaction) → AsksOutside c input ts → LeadsBy c ts c'
      → MadeByCommands (view c) ts (view c')
  outside_made (Line line) ts (inl none) leads = nothing_made ts none leads
  outside_made (Line line) ts (inr said) leads = said_made said.0 ts said.3 leads
  outside_made Long ts none leads = nothing_made ts none leads
  outside_made End ts none leads = nothing_made ts none leads

  text_made : (u : Unended) (ts : List Transaction) → AsksText c u ts → LeadsBy c ts c'
      → MadeByCommands (view c) ts (view c')
  text_made u ts (inl none) leads = nothing_made ts none leads
  text_made u ts (inr asks) leads = asks_made (asked.Import u.text) ts asks.1 leads

  inside_made : (u : Unended) (input : Given) (ts : List Transaction) → AsksInside c u input ts → LeadsBy c ts c'
      → MadeByCommands (view c) ts (view c')
  inside_made u (Line line) ts (inl none) leads = nothing_made ts none leads
  inside_made u (Line line) ts (inr asks) leads = text_made u ts asks.1 leads
  inside_made u Long ts none leads = nothing_made ts none leads
  inside_made u End ts none leads = nothing_made ts none leads

  input_made : (o : Option Unended) (input : Given) (ts : List Transaction) → AsksInput o c input ts
      → LeadsBy c ts c' → MadeByCommands (view c) ts (view c')
  input_made None input ts asks leads = outside_made input ts asks leads
  input_made (Some u) input ts asks leads = inside_made u input ts asks leads

-- ---- a script

module _ {J : Type 0} (tells : Type 0) (holds : J → Summary → Type 0) (moment : J → ℕ)
    (left_since : J → ℕ → Image → Type 0) (place : J → Slot × ℕ) (moved : J → J → Summary → Type 0) where
  -- one input
  one_made : (input : Given) (reply : List ℕ) (s s' : Session) (j j' : J)
      → ServesOne tells holds moment left_since place moved input reply s s' j j' → IsRightCore s.core
      → Makes tells moment left_since j j' (summary s.core)
      (λ ts. LeadsBy s.core ts s'.core × (AreKeyed s.core → MadeByCommands (view s.core) ts (view s'.core)))
  one_made input reply s s' j j' one right = record {
    transactions = one.makes.transactions;
    any_moment = one.makes.any_moment;
    fit = one.makes.fit;
    ended = (
      one.makes.ended,
      λ keyed.
          input_made s.core s'.core right keyed (unended s) input one.makes.transactions one.asked one.makes.ended,
    );
  }

  still_right : (s : Session) (j : J) (inputs : List Given) (replies : List (List ℕ)) (s' : Session) (j' : J)
      → ServesAll tells holds moment left_since place moved s j inputs replies s' j' → IsRightAndListed s.core
      → IsRightAndListed s'.core
  still_right s j _ _ _ _ NoInput right = right
  still_right s j _ _ _ _ (OneMore {inputs} {replies} {input} {reply} {s'} {s''} {j'} {j''} all one) right =
      one.right (still_right s j inputs replies s' j' all right)

  module _ (at_rest : (journal : J) (s : Summary) (c : Image) → tells → holds journal s
      → left_since journal (moment journal) c → StandsFor s c)
      (counts_now : (journal : J) (t : ℕ) (c : Image) → t ≤ moment journal → left_since journal (moment journal) c
      → left_since journal t c) where
    pub made_by_commands : ScriptsMakeByCommands tells holds moment left_since place moved
    made_by_commands s j _ _ _ _ held_now NoInput whole =
        makes_nothing tells moment left_since holds at_rest j (summary s.core) _ held_now (leads_none s.core, refl)
    made_by_commands s j _ _ _ _ held_now (OneMore {inputs} {replies} {input} {reply} {s'} {s''} {j'} {j''} all one)
        whole =
        makes_more tells moment left_since counts_now j j' j'' (summary s.core) (summary s'.core) _ _ _
        (made_by_commands s j inputs replies s' j' held_now all whole) (λ ts so. so.0.came)
        (one_made input reply s' s'' j' j'' one (still_right s j inputs replies s' j' all whole.right).0)
        (λ ts us a b. (
          leads_more s.core s'.core s''.core ts us a.0 b.0,
          made_more (view s.core) ts us (view s'.core) (view s''.core) a.1 (b.1 (a.0.keyed whole.right.0 whole.keyed)),
        ))
