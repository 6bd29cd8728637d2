-- Histories: a blank state is within its bounds, and the transaction of each command keeps it there.
use Rattle.std.proofs.Common.{◌≡◌, ℕ, ◌+◌, ◌^◌, ◌≤◌, nat_lt, List, [], ◌∷◌, ◌++◌, length, replicate}
use Rattle.std.proofs.Common.{refl, sym, ap, subst, ◌∙◌, arith, append-nil, ltb-true}
use Rattle.std.specs.List.{All}
use Rattle.std.proofs.lemmas.List.{length-replicate}
use Rattle.std.proofs.lemmas.List.Elements.{All-nil, All-replicate, All-weaker}
use Rattle.std.proofs.lemmas.Option.{none-some}
use Rattle.flow_core.specs.declared.judging.Verdict.TheVariants.{Do}
use Rattle.flow_core.specs.declared.refusals.Refusal.TheVariants as refused
use Rattle.flow_model.specs.Paths.{IsStep, Spells}
use Rattle.flow_model.specs.declared.commands.Command.{Command}
use Rattle.flow_model.specs.declared.commands.Command.TheVariants as asked
use Rattle.flow_model.specs.declared.graphs.Library.{Library}
use Rattle.flow_model.specs.declared.graphs.Template.{Template}
use Rattle.flow_model.specs.declared.instances.Message.{Message}
use Rattle.flow_model.specs.declared.instances.Path.{Path}
use Rattle.flow_model.specs.declared.transactions.Transaction.{Transaction}
use Rattle.flow_model.specs.declared.transactions.Transaction.TheVariants.{Import, Start, Turn, Claim, Release}
use Rattle.flow_model.specs.declared.transactions.Transaction.TheVariants.{Transfer, Take, Done, Force, Restart}
use Rattle.flow_model.specs.declared.transactions.Transaction.TheVariants.{Suspend, Resume, Terminate, Delete, Clock}
use Rattle.flow_txn.specs.Ranges.{PartFits, MessageFits, IsInRange}
use Rattle.machine.specs.Imports.{Added, Adds, nothing_added}
use Rattle.machine.specs.States.{State, blank}
use Rattle.machine.specs.Steps.{Steps}
use Rattle.machine.specs.Verdicts as machine
use Rattle.reopening_laws.specs.Making.{MadeByCommands}
use Rattle.reopening_laws.specs.Ranges.{IsWorded, StandsInRange}
use Rattle.reopening_laws.proofs.Admitted.{both_none, is_so, verdict_room}
use Rattle.reopening_laws.proofs.Ranges.{command_in_range}
use Rattle.range_laws.specs.Bounds.{IsBounded}
use Rattle.range_laws.specs.Standing.{StaysInBounds}
use Rattle.range_laws.proofs.Queues.{front_fits}
use Rattle.range_laws.proofs.Standing.{stands_in_range}
use Rattle.range_laws.proofs.Steps.{Brings, step_in_bounds}
use Rattle.range_laws.proofs.Templates.{AreBounded, meaning_bounded}
use Rattle.range_laws.proofs.Walks.{PathIsNamed}

-- ---- what a command brings

path_named : (bytes : List ℕ) (path : Path) → Spells bytes path → PathIsNamed path
path_named bytes path is = (
  (is.path.counted, is.path.small),
  All-weaker IsStep PartFits (λ q step. (step.named, (step.counted, step.small))) path.parts is.path.steps,
)

verdict_brings : (s : State) → StaysInBounds s → (command : Command) (t : Transaction)
    → machine.IsVerdict s command (Do t) → Brings t
verdict_brings s ok (asked.Import text) t is = subst Brings (sym is.2) tt
verdict_brings s ok (asked.Start process starter key written) t is =
    let first = both_none (machine.person_test s starter) _ (sym is.1) in
    let second = both_none (machine.process_test s process) _ first.1 in
    let third = both_none (machine.input_test written (machine.newest_of s process)) _ second.1 in
    let fourth = both_none (machine.full_test s) _ third.1 in
    let last = both_none (machine.number_test s) _ fourth.1 in
    let small = ltb-true (s.last_root + 1) (2 ^ 64)
    (is_so (nat_lt (s.last_root + 1) (2 ^ 64)) (refused.Full s.limit) last.0) in
    let least : 1 ≤ s.last_root + 1 = omega arith in
    subst Brings (sym is.2.3) (least, small)
verdict_brings s ok (asked.Turn queue) t is =
    subst Brings (sym is.2.2) (front_fits s.queues queue is.2.0 ok.fit is.2.1.1)
verdict_brings s ok asked.Drain t is = absurd is.1
verdict_brings s ok (asked.Claim token name) t is = subst Brings (sym is.2.2) tt
verdict_brings s ok (asked.Release token name) t is = subst Brings (sym is.2.2) tt
verdict_brings s ok (asked.Transfer token from to) t is = subst Brings (sym is.2.2) tt
verdict_brings s ok (asked.Take token) t is = subst Brings (sym is.2.4) tt
verdict_brings s ok (asked.Done token by outcome) t is =
    subst Brings (sym is.2.4) (path_named (machine.between token) is.2.0 is.2.2)
verdict_brings s ok (asked.Force token outcome) t is =
    subst Brings (sym is.2.4) (path_named (machine.between token) is.2.0 is.2.2)
verdict_brings s ok (asked.Restart token) t is = subst Brings (sym is.2.2) tt
verdict_brings s ok (asked.Suspend root) t is = subst Brings (sym is.2) tt
verdict_brings s ok (asked.Resume root) t is = subst Brings (sym is.2) tt
verdict_brings s ok (asked.Terminate root) t is = subst Brings (sym is.2) tt
verdict_brings s ok (asked.Delete root) t is = subst Brings (sym is.2) tt
verdict_brings s ok (asked.Clock minutes) t is = subst Brings (sym is.2) tt
verdict_brings s ok asked.Checkpoint t is = absurd is.1
verdict_brings s ok (asked.Ask query) t is = absurd is.1

-- ---- what it adds

nothing_more : (ts : List Template) (added : Added) → added ≡ nothing_added → AreBounded ts
    → AreBounded (ts ++ added.templates)
nothing_more ts added is bounded =
    subst AreBounded (sym (ap (λ (x : Added). ts ++ x.templates) is ∙ append-nil ts)) bounded

added_bounded : (library : Library) (t : Transaction) (added : Added) → Adds library t added
    → AreBounded library.templates → AreBounded (library.templates ++ added.templates)
added_bounded library (Import text) added is bounded = meaning_bounded library text added is bounded
added_bounded library (Start root process version starter key settings) added is bounded =
    nothing_more library.templates added is bounded
added_bounded library (Turn queue message) added is bounded = nothing_more library.templates added is bounded
added_bounded library (Claim item who) added is bounded = nothing_more library.templates added is bounded
added_bounded library (Release item who) added is bounded = nothing_more library.templates added is bounded
added_bounded library (Transfer item who to) added is bounded = nothing_more library.templates added is bounded
added_bounded library (Take item take) added is bounded = nothing_more library.templates added is bounded
added_bounded library (Done item who settings) added is bounded = nothing_more library.templates added is bounded
added_bounded library (Force item settings) added is bounded = nothing_more library.templates added is bounded
added_bounded library (Restart item) added is bounded = nothing_more library.templates added is bounded
added_bounded library (Suspend root) added is bounded = nothing_more library.templates added is bounded
added_bounded library (Resume root) added is bounded = nothing_more library.templates added is bounded
added_bounded library (Terminate root) added is bounded = nothing_more library.templates added is bounded
added_bounded library (Delete root) added is bounded = nothing_more library.templates added is bounded
added_bounded library (Clock minutes) added is bounded = nothing_more library.templates added is bounded

-- ---- histories

pub blank_in_bounds : (queues limit : ℕ) → queues ≤ 16 → limit ≤ 10000000 → StaysInBounds (blank queues limit)
blank_in_bounds queues limit few small =
    let nothing : List Message = [] in
    let long : length (replicate queues nothing) ≡ queues = length-replicate queues nothing in
    record {
      room = omega arith;
      limit = small;
      queues = omega (arith, long, few);
      bounded = All-nil (IsBounded []);
      counted = λ root r none. absurd (none-some r none);
      fit = All-replicate (λ (ms : List Message). All MessageFits ms) queues nothing (All-nil MessageFits);
      from_one = refl;
    }

pub verdict_in_bounds : (s : State) (command : Command) (t : Transaction) (s' : State) → StaysInBounds s
    → machine.IsVerdict s command (Do t) → Steps s t s' → StaysInBounds s'
verdict_in_bounds s command t s' ok is step =
    step_in_bounds s ok (verdict_room s command t is) t s' (verdict_brings s ok command t is) step
    (added_bounded s.library t step.added step.adds ok.bounded)

pub history_in_bounds : (s : State) (ts : List Transaction) (s' : State) → StaysInBounds s → MadeByCommands s ts s'
    → StaysInBounds s'
history_in_bounds s [] s' ok made = subst StaysInBounds (sym made) ok
history_in_bounds s (t ∷ ts) s' ok made =
    history_in_bounds made.1 ts s' (verdict_in_bounds s made.0 t made.1 ok made.2 made.3) made.4

pub histories_stand : (queues limit : ℕ) (ts : List Transaction) (s : State) → queues ≤ 16 → limit ≤ 10000000
    → MadeByCommands (blank queues limit) ts s → StandsInRange s
histories_stand queues limit ts s few small made =
    stands_in_range s (history_in_bounds (blank queues limit) ts s (blank_in_bounds queues limit few small) made)

pub next_in_range : (s : State) → StaysInBounds s → (command : Command) (t : Transaction) → IsWorded command
    → machine.IsVerdict s command (Do t) → IsInRange (s.transactions + 1) t
next_in_range s ok command t fine is = command_in_range s (stands_in_range s ok) command t fine is
