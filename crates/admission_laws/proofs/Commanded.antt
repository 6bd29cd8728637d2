-- A transaction that is admitted under a number behind the last is the one to which the machine judges some command.
use Rattle.std.proofs.Common.{◌≡◌, inl, inr, ℕ, ◌+◌, ◌-◌, ◌^◌, ◌<◌, nat_lt, nat_le, Bool, true, ◌&&◌, List, [], ◌∷◌}
use Rattle.std.proofs.Common.{zero, suc, Option, Some, None, Ok, option_map, option_and_then, refl, sym, ap, ap₂, ◌∙◌}
use Rattle.std.proofs.Common.{arith, length}
use Rattle.std.specs.Option.{option_or}
use Rattle.std.specs.Prelude.{slice_get, slice_index_or, is_some}
use Rattle.std.proofs.lemmas.Bool.{lt-ltb, le-leb}
use Rattle.std.proofs.lemmas.Option.{none-some}
use Rattle.containers.specs.Settings.{settings_by}
use Rattle.flow_core.specs.Admitting.{IsDue, IsNextKind, IsPlace, IsAdmitted, IsStartDue, root_with, all_fit}
use Rattle.flow_core.specs.Allowing.{Subject, IsThere}
use Rattle.flow_core.specs.Answers.{instance_of}
use Rattle.flow_core.specs.Driving.{templates, IsFront}
use Rattle.flow_core.specs.Refusals as tests
use Rattle.flow_core.specs.declared.judging.Verdict.TheVariants.{Do}
use Rattle.flow_core.specs.declared.refusals.Refusal.{Refusal}
use Rattle.flow_core.specs.declared.refusals.Refusal.TheVariants as refused
use Rattle.flow_core.specs.declared.state.Core.{Core}
use Rattle.flow_model.specs.declared.commands.Command.{Command}
use Rattle.flow_model.specs.declared.commands.Command.TheVariants as asked
use Rattle.flow_model.specs.declared.commands.Outcome.{Outcome}
use Rattle.flow_model.specs.declared.commands.RawSetting.{RawSetting}
use Rattle.flow_model.specs.declared.graphs.Graph.{out-Graph}
use Rattle.flow_model.specs.declared.graphs.PersonDef.{PersonDef}
use Rattle.flow_model.specs.declared.graphs.Template.{Template}
use Rattle.flow_model.specs.declared.instances.Message.{Message}
use Rattle.flow_model.specs.declared.instances.Mode.{Mode}
use Rattle.flow_model.specs.declared.instances.Path.{Path}
use Rattle.flow_model.specs.declared.instances.Who.{Who}
use Rattle.flow_model.specs.declared.instances.Who.TheVariants as who
use Rattle.flow_model.specs.declared.names.Name.{Name}
use Rattle.flow_model.specs.declared.transactions.Setting.{Setting}
use Rattle.flow_model.specs.declared.transactions.Transaction.{Transaction}
use Rattle.flow_model.specs.declared.transactions.Transaction.TheVariants as made
use Rattle.flow_model.specs.declared.trees.NumberAt.{NumberAt}
use Rattle.flow_txn.specs.Ranges.{PathFits, SettingsFit, TransactionFits, IsInRange}
use Rattle.machine.specs.States as states
use Rattle.machine.specs.Verdicts as machine
use Rattle.machine_laws.specs.Viewed.{view, entry_of}
use Rattle.machine_laws.proofs.Seen.{items}
use Rattle.machine_laws.proofs.Subjects.{seen, modes, subject_seen}
use Rattle.machine_laws.specs.Keyed.{AreKeyed}
use Rattle.process_rules.specs.Imports.{newest_place}
use Rattle.recover_queue.specs.Queues.{queue as messages_of}
use Rattle.admission_laws.specs.ApartLeaves.{HasLeavesApart, HaveLeavesApart, ItemsHaveLeavesApart}
use Rattle.admission_laws.proofs.Written.{at_place, settings_written}
use Rattle.admission_laws.proofs.Tokens.{token_of, token_spells}

-- ---- tests that pass

both_none : (a b : Option Refusal) → tests.first_of (a ∷ b ∷ []) ≡ None → (a ≡ None) × (b ≡ None)
both_none None None none = (refl, refl)
both_none None (Some r) none = absurd (none-some r (sym none))
both_none (Some r) b none = absurd (none-some r (sym none))

two_none : (a b : Option Refusal) → a ≡ None → b ≡ None → machine.first_of (a ∷ b ∷ []) ≡ None
two_none a b first second = ap₂ (λ x y. machine.first_of (x ∷ y ∷ [])) first second

both_pass : (a b : Option Refusal) → a ≡ None → b ≡ None → option_or a b ≡ None
both_pass a b first second = ap (λ x. option_or x b) first ∙ second

three_none : (a b c : Option Refusal) → a ≡ None → b ≡ None → c ≡ None → machine.first_of (a ∷ b ∷ c ∷ []) ≡ None
three_none a b c first second third =
    ap (λ x. machine.first_of (x ∷ b ∷ c ∷ [])) first ∙ two_none b c second third

-- a test passes where what it asks is so
passes : (b : Bool) (r : Refusal) → b ≡ true → machine.unless b r ≡ None
passes b r is = ap (λ x. machine.unless x r) is

-- ---- queues

-- a queue that has a message is one of the queues
queue_there : (queues : List (List Message)) (place : ℕ) (message : Message)
    → slice_get (slice_index_or queues place []) 0 ≡ Some message → place < length queues
queue_there [] place message front = absurd (none-some message front)
queue_there (q ∷ queues) zero message front = omega arith
queue_there (q ∷ queues) (suc place) message front =
    let less = queue_there queues place message front in
    omega (arith, less)

-- ---- templates

-- the newest template of a name is one of the templates
newest_apart : (ts : List Template) → HaveLeavesApart ts → (o : Option ℕ) (t : Template)
    → option_and_then (λ place. slice_get ts place) o ≡ Some t → HasLeavesApart t.graph
newest_apart ts apart None t none = absurd (none-some t none)
newest_apart ts apart (Some place) t there = at_place (λ (x : Template). HasLeavesApart x.graph) ts place t apart there

-- ---- the command

-- the transaction is the one to which the machine judges some command
abbrev IsCommanded : Core → Transaction → Type 0
IsCommanded c t = (command : Command) × machine.IsVerdict (view c) command (Do t)

module _ (c : Core) (keyed : AreKeyed c) (room : c.number < c.limit) where
  has_room : machine.full_test (view c) ≡ None
  has_room = passes (nat_lt c.number c.limit) (refused.Full c.limit) (lt-ltb c.number c.limit room)

  -- a root passes the same test in the machine
  root_passes : (allowed : Mode → Bool) (root : ℕ) → tests.root_test c allowed root ≡ None
      → machine.root_test (view c) allowed root ≡ None
  root_passes allowed root none = ap (machine.live_test allowed root) (modes (instance_of c root)) ∙ none

  root_none : (allowed : Mode → Bool) (root : ℕ) → machine.root_test (view c) allowed root ≡ None
      → machine.first_of (machine.root_test (view c) allowed root ∷ machine.full_test (view c) ∷ []) ≡ None
  root_none allowed root none =
      two_none (machine.root_test (view c) allowed root) (machine.full_test (view c)) none has_room

  -- ---- an item

  -- who completes an item is declared in the machine
  who_as : (by : Who) → tests.who_test c by ≡ None → machine.who_test (view c) by ≡ None
  who_as (who.Person name) none = none
  who_as (who.Agent take) none = refl

  -- a command on an item that is there has no refusal, where its people are declared and the item passes its test
  item_passes : (people : Option Refusal) (test : machine.Subject → Option Refusal) (path : Path) (s : Subject)
      → PathFits path → IsThere c path s → people ≡ None → test (seen s) ≡ None
      → machine.RefusesOnItem (view c) people (token_of path) test None
  item_passes people test path s fine there declared passed = (
    Some (seen s),
    (path, token_spells path fine, subject_seen c path s there),
    sym (three_none people (test (seen s)) (machine.full_test (view c)) declared passed has_room),
  )

  claim_as : (person : Option PersonDef) (s : Subject)
      → machine.claim_test person (seen s) ≡ tests.claim_test person s
  claim_as None s = refl
  claim_as (Some person) s = refl

  transfer_as : (name : Name) (to : Option PersonDef) (s : Subject)
      → machine.transfer_test name to (seen s) ≡ tests.transfer_test name to s
  transfer_as name None s = refl
  transfer_as name (Some to) s = refl

  -- the item of the machine
  item_seen : (path : Path) (s : Subject) → IsThere c path s → states.item_of (view c) path ≡ Some (entry_of s.item)
  item_seen path s there = items c path ∙ ap (option_map entry_of) there.there

  -- ---- settings

  -- an outcome that has such settings
  abbrev outcome_of : List RawSetting → Outcome
  outcome_of written = record { rc = None; settings = written }

  module _ (apart : ItemsHaveLeavesApart (view c)) (path : Path) (s : Subject) (there : IsThere c path s)
      (settings : List Setting) (fine : SettingsFit settings)
      (fit : all_fit s.item.activity.output.leaves settings ≡ true) where
    -- the settings of a completion can be written
    item_written : (written : List RawSetting) × (settings_by s.item.activity.output written ≡ Ok settings)
    item_written =
        settings_written s.item.activity.output (apart path (entry_of s.item) (item_seen path s there)) settings fine.1
        fit

    -- a completion with them passes its test, where the item passes the one before it
    outcome_passes : (test : Option Refusal) → test ≡ None
        → machine.first_of (test ∷ machine.outcome_test (outcome_of item_written.0) (seen s) ∷ []) ≡ None
    outcome_passes test none =
        two_none test (machine.outcome_test (outcome_of item_written.0) (seen s)) none
        (ap machine.value_refusal item_written.1)

    set_for : machine.IsSetFor (view c) path (outcome_of item_written.0) settings
    set_for = record { item = entry_of s.item; there = item_seen path s there; set = item_written.1 }

  -- ---- a START

  -- the key of a START has no live root
  key_unused : (process starter : Name) (key : Option Name) (written : List RawSetting) → root_with c key ≡ None
      → machine.same_root (view c) (asked.Start process starter key written) ≡ None
  key_unused process starter None written unused = refl
  key_unused process starter (Some key) written unused = sym (keyed.holders key) ∙ unused

  start_commanded : (root : ℕ) (process : Name) (version : ℕ) (starter : Name) (key : Option Name)
      (settings : List Setting) → HaveLeavesApart (templates c) → SettingsFit settings → root ≡ c.roots + 1
      → root < 2 ^ 64 → IsStartDue c process version starter key settings
      → IsCommanded c (made.Start root process version starter key settings)
  start_commanded root process version starter key settings apart fine next small due =
      let input = (out-Graph due.template.graph).input in
      let graph = newest_apart (templates c) apart (newest_place (view c).library process) due.template due.newest in
      let written = settings_written input graph.input settings fine.1 due.fit in
      let number : machine.number_test (view c) ≡ None =
      passes (nat_lt (c.roots + 1) (2 ^ 64)) (refused.Full c.limit)
      (lt-ltb (c.roots + 1) (2 ^ 64) (omega (arith, next, small))) in
      let set : machine.input_test written.0 (machine.newest_of (view c) process) ≡ None =
      ap (machine.input_test written.0) due.newest ∙ ap machine.value_refusal written.1 in
      let there : machine.process_test (view c) process ≡ None =
      passes (is_some (machine.newest_of (view c) process)) (refused.Process process) (ap is_some due.newest) in (
        asked.Start process starter key written.0,
        (
          key_unused process starter key written.0 due.unused,
          sym (both_pass (machine.person_test (view c) starter) _ due.declared
              (both_pass (machine.process_test (view c) process) _ there
              (both_pass (machine.input_test written.0 (machine.newest_of (view c) process)) _ set
              (two_none (machine.full_test (view c)) (machine.number_test (view c)) has_room number)))),
          (
            version,
            settings,
            record { template = due.template; newest = due.newest; number = due.number; set = written.1 },
            ap (λ r. made.Start r process version starter key settings) next,
          ),
        ),
      )

  -- ---- a TURN

  turn_commanded : (queue : ℕ) (message : Message) → IsFront c queue message → IsCommanded c (made.Turn queue message)
  turn_commanded queue message front =
      let first = front.0 in
      let less = queue_there c.queues (queue - 1) message front.1 in
      let within : (nat_le 1 queue && nat_le queue (length c.queues)) ≡ true =
      ap₂ (λ x y. x && y) (le-leb 1 queue front.0) (le-leb queue (length c.queues) (omega (arith, first, less))) in (
        asked.Turn queue,
        (
          refl,
          sym (three_none (machine.queue_test (view c) queue) (machine.message_test (view c) queue)
              (machine.full_test (view c))
              (passes (nat_le 1 queue && nat_le queue (length c.queues)) (refused.Queue (length c.queues)) within)
              (passes (is_some (slice_get (messages_of c.queues queue) 0)) (refused.Empty queue) (ap is_some front.1))
              has_room),
          (message, front, refl),
        ),
      )

  -- ---- a transaction

  -- one that is due, and whose root, where it starts one, is the next
  pub due_commanded : HaveLeavesApart (templates c) → ItemsHaveLeavesApart (view c) → (t : Transaction)
      → TransactionFits t → IsNextKind c t → IsDue c t → IsCommanded c t
  due_commanded all apart (made.Import text) fine kind due =
      (asked.Import text, (refl, (None, due, sym (two_none None (machine.full_test (view c)) refl has_room)), refl))
  due_commanded all apart (made.Start root process version starter key settings) fine kind due =
      start_commanded root process version starter key settings all fine.5 kind.0 kind.1 due
  due_commanded all apart (made.Turn queue message) fine kind due = turn_commanded queue message due
  due_commanded all apart (made.Claim path name) fine kind due =
      let s = due.0 in
      let there = due.1 in
      let spells = token_spells path fine.0.0 in (
        asked.Claim (token_of path) name,
        (
          refl,
          item_passes (machine.person_test (view c) name) (machine.claim_test (machine.person_of (view c) name)) path s
              fine.0.0 there due.2.0 (claim_as (tests.person_of c name) s ∙ due.2.1),
          (path, spells, refl),
        ),
      )
  due_commanded all apart (made.Release path name) fine kind due =
      let s = due.0 in
      let there = due.1 in
      let spells = token_spells path fine.0.0 in (
        asked.Release (token_of path) name,
        (
          refl,
          item_passes (machine.person_test (view c) name) (machine.release_test name) path s fine.0.0 there due.2.0
              due.2.1,
          (path, spells, refl),
        ),
      )
  due_commanded all apart (made.Transfer path from to) fine kind due =
      let s = due.0 in
      let there = due.1 in
      let spells = token_spells path fine.0.0 in (
        asked.Transfer (token_of path) from to,
        (
          refl,
          item_passes (machine.first_of (machine.person_test (view c) from ∷ machine.person_test (view c) to ∷ []))
              (machine.transfer_test from (machine.person_of (view c) to)) path s fine.0.0 there
              (two_none (machine.person_test (view c) from) (machine.person_test (view c) to) due.2.0 due.2.1)
              (transfer_as from (tests.person_of c to) s ∙ due.2.2),
          (path, spells, refl),
        ),
      )
  due_commanded all apart (made.Take path take) fine kind due =
      let s = due.0 in
      let there = due.1 in
      let spells = token_spells path fine.0.0 in (
        asked.Take (token_of path),
        (
          refl,
          item_passes None machine.taking_test path s fine.0.0 there refl due.2.0,
          (
            path,
            take,
            spells,
            record { item = entry_of s.item; there = item_seen path s there; next = sym due.2.1 },
            refl,
          ),
        ),
      )
  due_commanded all apart (made.Done path by settings) fine kind due =
      let s = due.0 in
      let there = due.1 in
      let spells = token_spells path fine.0.0 in
      let outcome = outcome_of (item_written apart path s there settings fine.2 due.2.2).0 in (
        asked.Done (token_of path) by outcome,
        (
          refl,
          item_passes (machine.who_test (view c) by)
              (λ y. machine.first_of (machine.completing_test by y ∷ machine.outcome_test outcome y ∷ [])) path s
              fine.0.0 there (who_as by due.2.0)
              (outcome_passes apart path s there settings fine.2 due.2.2 (machine.completing_test by (seen s)) due.2.1),
          (path, settings, spells, set_for apart path s there settings fine.2 due.2.2, refl),
        ),
      )
  due_commanded all apart (made.Force path settings) fine kind due =
      let s = due.0 in
      let there = due.1 in
      let spells = token_spells path fine.0.0 in
      let outcome = outcome_of (item_written apart path s there settings fine.1 due.2.1).0 in (
        asked.Force (token_of path) outcome,
        (
          refl,
          item_passes None
              (λ y. machine.first_of (machine.forcing_test y ∷ machine.outcome_test outcome y ∷ [])) path s
              fine.0.0 there refl
              (outcome_passes apart path s there settings fine.1 due.2.1 (machine.forcing_test (seen s)) due.2.0),
          (path, settings, spells, set_for apart path s there settings fine.1 due.2.1, refl),
        ),
      )
  due_commanded all apart (made.Restart path) fine kind due =
      let s = due.0 in
      let there = due.1 in
      let spells = token_spells path fine.0 in (
        asked.Restart (token_of path),
        (refl, item_passes None machine.restart_test path s fine.0 there refl due.2, (path, spells, refl)),
      )
  due_commanded all apart (made.Suspend root) fine kind due = (
    asked.Suspend root,
    (refl, sym (root_none machine.is_active root (root_passes machine.is_active root due)), refl),
  )
  due_commanded all apart (made.Resume root) fine kind due = (
    asked.Resume root,
    (refl, sym (root_none machine.is_suspended root (root_passes machine.is_suspended root due)), refl),
  )
  due_commanded all apart (made.Terminate root) fine kind due = (
    asked.Terminate root,
    (refl, sym (root_none machine.is_going root (root_passes machine.is_going root due)), refl),
  )
  due_commanded all apart (made.Delete root) fine kind due =
      let both = both_none (tests.root_test c tests.is_over root) (tests.queued_test c root) due in (
        asked.Delete root,
        (
          refl,
          sym (three_none (machine.root_test (view c) machine.is_over root) (machine.queued_test (view c) root)
              (machine.full_test (view c)) (root_passes machine.is_over root both.0) both.1 has_room),
          refl,
        ),
      )
  due_commanded all apart (made.Clock minutes) fine kind due =
      let number : NumberAt = record { minus = None; size = minutes; place = 0 } in (
        asked.Clock number,
        (
          refl,
          sym (three_none (machine.minutes_test number) (machine.clock_test (view c) minutes)
              (machine.full_test (view c))
              (passes (nat_le minutes 2147483647) (machine.value_at 0) (le-leb minutes 2147483647 due.0)) due.1
              has_room),
          refl,
        ),
      )

-- ---- a record

pub admitted_commanded : (c : Core) (number : ℕ) (t : Transaction) → AreKeyed c → HaveLeavesApart (templates c)
    → ItemsHaveLeavesApart (view c) → c.number < number → IsInRange number t → IsAdmitted c number t → IsCommanded c t
admitted_commanded c number t keyed all apart beyond range admitted = go admitted.place
  where
    go : IsPlace c number t → IsCommanded c t
    go (inl before) =
        let most = before.0.0 in
        let last = before.0.2 in
        absurd (omega (arith, beyond, most, last))
    go (inr next) = due_commanded c keyed next.0.1 all apart t range.1 next.1 admitted.due

-- so it is of the next record
pub next_commanded : (c : Core) (t : Transaction) → AreKeyed c → HaveLeavesApart (templates c)
    → ItemsHaveLeavesApart (view c) → IsInRange (c.number + 1) t → IsAdmitted c (c.number + 1) t → IsCommanded c t
next_commanded c t keyed all apart range admitted =
    admitted_commanded c (c.number + 1) t keyed all apart (omega arith) range admitted
