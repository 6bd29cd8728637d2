-- The tests of a command, its transaction, its verdict and what its reply names are the machine's.
use Rattle.std.proofs.Common.{◌≡◌, ℕ, Bool, List, [], ◌∷◌, Option, Some, None, option_map, refl, sym, ap, ◌∙◌}
use Rattle.std.specs.Option.{option_map_or}
use Rattle.activity_states.specs.States.{fate_of}
use Rattle.flow_core.specs.Allowing.{Subject, IsAllowed}
use Rattle.flow_core.specs.Answers.{instance_of}
use Rattle.flow_core.specs.Driving.{item_of}
use Rattle.flow_core.specs.Judgements as engine
use Rattle.flow_core.specs.Refusals as tests
use Rattle.flow_core.specs.Verdicts as named
use Rattle.flow_core.specs.declared.applying.Note.{Note}
use Rattle.flow_core.specs.declared.applying.Note.TheVariants as note
use Rattle.flow_core.specs.declared.judging.Verdict.{Verdict}
use Rattle.flow_core.specs.declared.judging.Verdict.TheVariants as verdict
use Rattle.flow_core.specs.declared.refusals.Refusal.{Refusal}
use Rattle.flow_core.specs.declared.state.Core.{Core}
use Rattle.flow_model.specs.declared.commands.Command.{Command}
use Rattle.flow_model.specs.declared.commands.Command.TheVariants as asked
use Rattle.flow_model.specs.declared.commands.Outcome.{Outcome}
use Rattle.flow_model.specs.declared.commands.RawSetting.{RawSetting}
use Rattle.flow_model.specs.declared.graphs.PersonDef.{PersonDef}
use Rattle.flow_model.specs.declared.instances.Fate.TheVariants as fate
use Rattle.flow_model.specs.declared.instances.Mode.{Mode}
use Rattle.flow_model.specs.declared.instances.Path.{Path}
use Rattle.flow_model.specs.declared.names.Name.{Name}
use Rattle.flow_model.specs.declared.transactions.Setting.{Setting}
use Rattle.flow_model.specs.declared.transactions.Transaction.{Transaction}
use Rattle.flow_model.specs.declared.transactions.Transaction.TheVariants as made
use Rattle.machine.specs.Verdicts as machine
use Rattle.navigator.specs.Items.{Entry}
use Rattle.machine_laws.specs.Viewed.{view, entry_of}
use Rattle.machine_laws.proofs.Seen.{items}
use Rattle.machine_laws.specs.Keyed.{AreKeyed}
use Rattle.machine_laws.proofs.Subjects.{seen, modes, named_seen}

-- ---- the tests

-- the test of a root by its mode
root_test_seen : (c : Core) (allowed : Mode → Bool) (root : ℕ)
    → tests.root_test c allowed root ≡ machine.root_test (view c) allowed root
root_test_seen c allowed root = ap (machine.live_test allowed root) (sym (modes (instance_of c root)))

-- the tests of a CLAIM and of a TRANSFER, of a person who is declared or not
claim_seen : (person : Option PersonDef) (s : Subject)
    → tests.claim_test person s ≡ machine.claim_test person (seen s)
claim_seen None s = refl
claim_seen (Some person) s = refl

transfer_seen : (name : Name) (to : Option PersonDef) (s : Subject)
    → tests.transfer_test name to s ≡ machine.transfer_test name to (seen s)
transfer_seen name None s = refl
transfer_seen name (Some to) s = refl

-- the tests of a command on an item, where the test of the item itself is the machine's
tests_seen : (c : Core) (people : Option Refusal) (token : List ℕ) (test : Subject → Option Refusal)
    (test_then : machine.Subject → Option Refusal) → ((s : Subject) → test s ≡ test_then (seen s))
    → (o : Option Subject)
    → tests.tests_on_item c people token test o
    ≡ machine.tests_on_item (view c) people token test_then (option_map seen o)
tests_seen c people token test test_then same None = refl
tests_seen c people token test test_then same (Some s) =
    ap (λ refusal. machine.first_of (people ∷ machine.item_test token (Some (seen s)) ∷ refusal
    ∷ machine.full_test (view c) ∷ [])) (same s)

on_item : (c : Core) (people : Option Refusal) (token : List ℕ) (test : Subject → Option Refusal)
    (test_then : machine.Subject → Option Refusal) → ((s : Subject) → test s ≡ test_then (seen s))
    → (refusal : Option Refusal) → tests.RefusesOnItem c people token test refusal
    → machine.RefusesOnItem (view c) people token test_then refusal
on_item c people token test test_then same refusal is =
    (option_map seen is.0, named_seen c token is.0 is.1, is.2 ∙ tests_seen c people token test test_then same is.0)

-- a text breaks the same rule
rule_seen : (c : Core) (text : List ℕ) (rule : Option Refusal) → tests.IsRuleOf c text rule
    → machine.IsRuleOf (view c) text rule
rule_seen c text None is = is
rule_seen c text (Some refusal) is = is

-- the first refusal of a command
refusal_seen : (c : Core) (command : Command) (refusal : Option Refusal) → tests.IsFirstRefusal c command refusal
    → machine.IsFirstRefusal (view c) command refusal
refusal_seen c (asked.Import text) refusal is = (is.0, rule_seen c text is.0 is.1, is.2)
refusal_seen c (asked.Start process starter key written) refusal is = is
refusal_seen c (asked.Turn queue) refusal is = is
refusal_seen c asked.Drain refusal is = absurd is
refusal_seen c (asked.Claim token name) refusal is =
    on_item c (tests.person_test c name) token (tests.claim_test (tests.person_of c name))
    (machine.claim_test (machine.person_of (view c) name)) (claim_seen (tests.person_of c name)) refusal is
refusal_seen c (asked.Release token name) refusal is =
    on_item c (tests.person_test c name) token (tests.release_test name) (machine.release_test name) (λ s. refl)
    refusal is
refusal_seen c (asked.Transfer token from to) refusal is =
    on_item c (tests.first_of (tests.person_test c from ∷ tests.person_test c to ∷ [])) token
    (tests.transfer_test from (tests.person_of c to)) (machine.transfer_test from (machine.person_of (view c) to))
    (transfer_seen from (tests.person_of c to)) refusal is
refusal_seen c (asked.Take token) refusal is =
    on_item c None token tests.taking_test machine.taking_test (λ s. refl) refusal is
refusal_seen c (asked.Done token by outcome) refusal is =
    on_item c (tests.who_test c by) token
    (λ s. tests.first_of (tests.completing_test by s ∷ tests.outcome_test outcome s ∷ []))
    (λ s. machine.first_of (machine.completing_test by s ∷ machine.outcome_test outcome s ∷ [])) (λ s. refl) refusal is
refusal_seen c (asked.Force token outcome) refusal is =
    on_item c None token (λ s. tests.first_of (tests.forcing_test s ∷ tests.outcome_test outcome s ∷ []))
    (λ s. machine.first_of (machine.forcing_test s ∷ machine.outcome_test outcome s ∷ [])) (λ s. refl) refusal is
refusal_seen c (asked.Restart token) refusal is =
    on_item c None token tests.restart_test machine.restart_test (λ s. refl) refusal is
refusal_seen c (asked.Suspend root) refusal is =
    is ∙ ap (λ test. machine.first_of (test ∷ machine.full_test (view c) ∷ []))
    (root_test_seen c machine.is_active root)
refusal_seen c (asked.Resume root) refusal is =
    is ∙ ap (λ test. machine.first_of (test ∷ machine.full_test (view c) ∷ []))
    (root_test_seen c machine.is_suspended root)
refusal_seen c (asked.Terminate root) refusal is =
    is ∙ ap (λ test. machine.first_of (test ∷ machine.full_test (view c) ∷ []))
    (root_test_seen c machine.is_going root)
refusal_seen c (asked.Delete root) refusal is =
    is ∙ ap (λ test. machine.first_of (test ∷ machine.queued_test (view c) root ∷ machine.full_test (view c) ∷ []))
    (root_test_seen c machine.is_over root)
refusal_seen c (asked.Clock number) refusal is = is
refusal_seen c asked.Checkpoint refusal is = absurd is
refusal_seen c (asked.Ask query) refusal is = absurd is

-- ---- the transaction

settings_seen : (c : Core) (path : Path) (outcome : Outcome) (settings : List Setting)
    → named.IsSetFor c path outcome settings → machine.IsSetFor (view c) path outcome settings
settings_seen c path outcome settings is = record {
  item = entry_of is.item;
  there = items c path ∙ ap (option_map entry_of) is.there;
  set = is.set;
}

take_seen : (c : Core) (path : Path) (take : ℕ) → named.IsNextTake c path take → machine.IsNextTake (view c) path take
take_seen c path take is = record {
  item = entry_of is.item;
  there = items c path ∙ ap (option_map entry_of) is.there;
  next = is.next;
}

newest_seen : (c : Core) (process : Name) (written : List RawSetting) (version : ℕ) (settings : List Setting)
    → named.IsNewestFor c process written version settings
    → machine.IsNewestFor (view c) process written version settings
newest_seen c process written version settings is = record {
  template = is.template;
  newest = is.newest;
  number = is.number;
  set = is.set;
}

-- the transaction that a command names
for_seen : (c : Core) (command : Command) (t : Transaction) → named.IsFor c command t
    → machine.IsFor (view c) command t
for_seen c (asked.Import text) t is = is
for_seen c (asked.Start process starter key written) t is =
    (is.0, is.1, newest_seen c process written is.0 is.1 is.2, is.3)
for_seen c (asked.Turn queue) t is = is
for_seen c asked.Drain t is = absurd is
for_seen c (asked.Claim token who) t is = is
for_seen c (asked.Release token who) t is = is
for_seen c (asked.Transfer token who to) t is = is
for_seen c (asked.Take token) t is = (is.0, is.1, is.2, take_seen c is.0 is.1 is.3, is.4)
for_seen c (asked.Done token who outcome) t is =
    (is.0, is.1, is.2, settings_seen c is.0 outcome is.1 is.3, is.4)
for_seen c (asked.Force token outcome) t is = (is.0, is.1, is.2, settings_seen c is.0 outcome is.1 is.3, is.4)
for_seen c (asked.Restart token) t is = is
for_seen c (asked.Suspend root) t is = is
for_seen c (asked.Resume root) t is = is
for_seen c (asked.Terminate root) t is = is
for_seen c (asked.Delete root) t is = is
for_seen c (asked.Clock minutes) t is = is
for_seen c asked.Checkpoint t is = absurd is
for_seen c (asked.Ask query) t is = absurd is

-- ---- the verdict

-- the root under the key of a START
same_root_seen : (c : Core) (command : Command) → AreKeyed c
    → machine.same_root (view c) command ≡ tests.same_root c command
same_root_seen c (asked.Import text) keyed = refl
same_root_seen c (asked.Start process starter None written) keyed = refl
same_root_seen c (asked.Start process starter (Some key) written) keyed = sym (keyed.holders key)
same_root_seen c (asked.Turn queue) keyed = refl
same_root_seen c asked.Drain keyed = refl
same_root_seen c (asked.Claim token name) keyed = refl
same_root_seen c (asked.Release token name) keyed = refl
same_root_seen c (asked.Transfer token from to) keyed = refl
same_root_seen c (asked.Take token) keyed = refl
same_root_seen c (asked.Done token by outcome) keyed = refl
same_root_seen c (asked.Force token outcome) keyed = refl
same_root_seen c (asked.Restart token) keyed = refl
same_root_seen c (asked.Suspend root) keyed = refl
same_root_seen c (asked.Resume root) keyed = refl
same_root_seen c (asked.Terminate root) keyed = refl
same_root_seen c (asked.Delete root) keyed = refl
same_root_seen c (asked.Clock number) keyed = refl
same_root_seen c asked.Checkpoint keyed = refl
same_root_seen c (asked.Ask query) keyed = refl

pub verdict_seen : (c : Core) (command : Command) (v : Verdict) → AreKeyed c
    → engine.IsVerdict c command v → machine.IsVerdict (view c) command v
verdict_seen c command (verdict.Do t) keyed is = (
  same_root_seen c command keyed ∙ is.3,
  refusal_seen c command None is.4,
  for_seen c command t is.1,
)
verdict_seen c command (verdict.Same root) keyed is = same_root_seen c command keyed ∙ is
verdict_seen c command (verdict.Refused refusal) keyed is = (
  same_root_seen c command keyed ∙ is.0,
  refusal_seen c command (Some refusal) is.1,
)

-- ---- the reply

-- the fate of an item
fate_seen : (c : Core) (item : Path) → named.fate_now c item ≡ machine.fate_now (view c) item
fate_seen c item =
    by (item_of c item) ∙ sym (ap (λ o. option_map_or (λ e. fate_of e.state) o fate.Waiting) (items c item))
  where
    by : (o : Option Entry) → option_map_or (λ e. fate_of e.state) o fate.Waiting
        ≡ option_map_or (λ e. fate_of e.state) (option_map entry_of o) fate.Waiting
    by None = refl
    by (Some e) = refl

pub note_seen : (c c' : Core) (t : Transaction) (n : Note) → IsAllowed c t → named.IsNoteOf c t c' n
    → machine.IsNoteOf (view c) t (view c') n
note_seen c c' (made.Import text) n is names = names
note_seen c c' (made.Start root process version starter key settings) n is names = names
note_seen c c' (made.Turn queue message) n is names = names is.asked
note_seen c c' (made.Claim item who) n is names = names ∙ ap note.Fated (fate_seen c' item)
note_seen c c' (made.Release item who) n is names = names ∙ ap note.Fated (fate_seen c' item)
note_seen c c' (made.Transfer item who to) n is names = names ∙ ap note.Fated (fate_seen c' item)
note_seen c c' (made.Take item take) n is names = names
note_seen c c' (made.Done item who settings) n is names = names ∙ ap note.Fated (fate_seen c' item)
note_seen c c' (made.Force item settings) n is names = names ∙ ap note.Fated (fate_seen c' item)
note_seen c c' (made.Restart item) n is names = names ∙ ap note.Fated (fate_seen c' item)
note_seen c c' (made.Suspend root) n is names = names
note_seen c c' (made.Resume root) n is names = names
note_seen c c' (made.Terminate root) n is names = names
note_seen c c' (made.Delete root) n is names = names
note_seen c c' (made.Clock minutes) n is names = names
