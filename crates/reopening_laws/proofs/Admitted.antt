-- The transaction to which the machine judges a command is admitted as the next record.
use Rattle.std.proofs.Common.{◌≡◌, inr, ℕ, ◌+◌, ◌^◌, ◌<◌, ◌≤◌, nat_lt, nat_le, Bool, true, false, List, [], ◌∷◌, Option, Some, None}
use Rattle.std.proofs.Common.{option_map, refl, sym, ap, ap₂, subst, ◌∙◌, arith, ltb-true, leb-true}
use Rattle.std.specs.Prelude.{slice_get}
use Rattle.std.specs.Option.{option_or}
use Rattle.std.proofs.lemmas.Option.{none-some}
use Rattle.activity_states.specs.States.{next_take}
use Rattle.containers.specs.Settings.{outcome_by}
use Rattle.flow_core.specs.Admitting.{IsDue, IsNextKind, IsPlace, IsAdmitted, root_with, all_fit}
use Rattle.flow_core.specs.Allowing.{Subject, IsThere}
use Rattle.flow_core.specs.Answers.{instance_of}
use Rattle.flow_core.specs.Driving.{item_of}
use Rattle.flow_core.specs.Refusals as tests
use Rattle.flow_core.specs.declared.judging.Verdict.TheVariants.{Do}
use Rattle.flow_core.specs.declared.refusals.Refusal.{Refusal}
use Rattle.flow_core.specs.declared.refusals.Refusal.TheVariants as refused
use Rattle.flow_core.specs.declared.state.Core.{Core}
use Rattle.flow_model.specs.Paths.{Spells}
use Rattle.flow_model.specs.declared.commands.Command.{Command}
use Rattle.flow_model.specs.declared.commands.Command.TheVariants as asked
use Rattle.flow_model.specs.declared.commands.Outcome.{Outcome}
use Rattle.flow_model.specs.declared.commands.RawSetting.{RawSetting}
use Rattle.flow_model.specs.declared.graphs.Graph.{out-Graph}
use Rattle.flow_model.specs.declared.graphs.PersonDef.{PersonDef}
use Rattle.flow_model.specs.declared.instances.Mode.{Mode}
use Rattle.flow_model.specs.declared.instances.Path.{Path}
use Rattle.flow_model.specs.declared.names.Name.{Name}
use Rattle.flow_model.specs.declared.transactions.Setting.{Setting}
use Rattle.flow_model.specs.declared.transactions.Transaction.{Transaction}
use Rattle.flow_model.specs.declared.transactions.Transaction.TheVariants as made
use Rattle.leaf_rules.specs.ReturnCodes.{return_code}
use Rattle.machine.specs.Items as m
use Rattle.machine.specs.States as s
use Rattle.machine.specs.Verdicts as machine
use Rattle.machine_laws.specs.Viewed.{view, entry_of}
use Rattle.machine_laws.proofs.Seen.{items}
use Rattle.machine_laws.proofs.Subjects.{seen, modes}
use Rattle.machine_laws.specs.Keyed.{AreKeyed}
use Rattle.navigator.specs.Items.{Entry}
use Rattle.worklist_laws.proofs.Spelled.{spells_one}
use Rattle.reopening_laws.specs.Codes.{ItemsHaveCodes}
use Rattle.reopening_laws.proofs.Settings.{settings_fit, outcome_fits}
use Rattle.reopening_laws.proofs.There.{ThereAs, there_as}

-- ---- tests that don't refuse

pub both_none : (a b : Option Refusal) → option_or a b ≡ None → (a ≡ None) × (b ≡ None)
both_none None b none = (refl, none)
both_none (Some r) b none = absurd (none-some r (sym none))

pub is_so : (b : Bool) (r : Refusal) → machine.unless b r ≡ None → b ≡ true
is_so true r none = refl
is_so false r none = absurd (none-some r (sym none))

-- a state has room
has_room : (x : s.State) → machine.full_test x ≡ None → x.transactions < x.limit
has_room x none = ltb-true x.transactions x.limit (is_so (nat_lt x.transactions x.limit) (refused.Full x.limit) none)

-- so it has where this is the last of the tests of a command
last_room : (x : s.State) → machine.first_of (machine.full_test x ∷ []) ≡ None → x.transactions < x.limit
last_room x none = has_room x (both_none (machine.full_test x) None none).0

room_behind : (x : s.State) (test : Option Refusal) → machine.first_of (test ∷ machine.full_test x ∷ []) ≡ None
    → x.transactions < x.limit
room_behind x test none = last_room x (both_none test _ none).1

item_room : (x : s.State) (people : Option Refusal) (token : List ℕ) (test : machine.Subject → Option Refusal)
    → machine.RefusesOnItem x people token test None → x.transactions < x.limit
item_room x people token test refuses =
    let first = both_none people _ (sym refuses.2) in
    let second = both_none (machine.item_test token refuses.0) _ first.1 in
    room_behind x (machine.on_item test refuses.0) second.1

-- a command that is judged to a transaction leaves room for it
pub verdict_room : (x : s.State) (command : Command) (t : Transaction) → machine.IsVerdict x command (Do t)
    → x.transactions < x.limit
verdict_room x (asked.Import text) t is = room_behind x is.1.0 (sym is.1.2)
verdict_room x (asked.Start process starter key written) t is =
    let first = both_none (machine.person_test x starter) _ (sym is.1) in
    let second = both_none (machine.process_test x process) _ first.1 in
    let third = both_none (machine.input_test written (machine.newest_of x process)) _ second.1 in
    has_room x (both_none (machine.full_test x) _ third.1).0
verdict_room x (asked.Turn queue) t is =
    let first = both_none (machine.queue_test x queue) _ (sym is.1) in
    room_behind x (machine.message_test x queue) first.1
verdict_room x asked.Drain t is = absurd is.1
verdict_room x (asked.Claim token name) t is =
    item_room x (machine.person_test x name) token
    (machine.claim_test (machine.person_of x name)) is.1
verdict_room x (asked.Release token name) t is =
    item_room x (machine.person_test x name) token
    (machine.release_test name) is.1
verdict_room x (asked.Transfer token from to) t is =
    item_room x (machine.first_of (machine.person_test x from ∷ machine.person_test x to ∷ [])) token
    (machine.transfer_test from (machine.person_of x to)) is.1
verdict_room x (asked.Take token) t is =
    item_room x None token
    machine.taking_test is.1
verdict_room x (asked.Done token by outcome) t is =
    item_room x (machine.who_test x by) token
    (λ y. machine.first_of (machine.completing_test by y ∷ machine.outcome_test outcome y ∷ [])) is.1
verdict_room x (asked.Force token outcome) t is =
    item_room x None token
    (λ y. machine.first_of (machine.forcing_test y ∷ machine.outcome_test outcome y ∷ [])) is.1
verdict_room x (asked.Restart token) t is =
    item_room x None token
    machine.restart_test is.1
verdict_room x (asked.Suspend root) t is = room_behind x (machine.root_test x machine.is_active root) (sym is.1)
verdict_room x (asked.Resume root) t is = room_behind x (machine.root_test x machine.is_suspended root) (sym is.1)
verdict_room x (asked.Terminate root) t is = room_behind x (machine.root_test x machine.is_going root) (sym is.1)
verdict_room x (asked.Delete root) t is =
    let first = both_none (machine.root_test x machine.is_over root) _ (sym is.1) in
    room_behind x (machine.queued_test x root) first.1
verdict_room x (asked.Clock minutes) t is =
    let first = both_none (machine.minutes_test minutes) _ (sym is.1) in
    room_behind x (machine.clock_test x minutes.size) first.1
verdict_room x asked.Checkpoint t is = absurd is.1
verdict_room x (asked.Ask query) t is = absurd is.1

two_none : (a b : Option Refusal) → a ≡ None → b ≡ None → tests.first_of (a ∷ b ∷ []) ≡ None
two_none a b first second = ap₂ (λ x y. tests.first_of (x ∷ y ∷ [])) first second

-- ---- where the record may stand

-- a transaction that starts no root is the next one
module _ (c : Core) (kept : c.kept ≤ c.number) where
  next_place : (t : Transaction) → c.number < c.limit → IsNextKind c t → IsPlace c (c.number + 1) t
  next_place t room kind = inr ((omega (arith, kept), room, refl), kind)

  admits : (t : Transaction) → c.number < c.limit → IsNextKind c t → IsDue c t → IsAdmitted c (c.number + 1) t
  admits t room kind due = record { place = next_place t room kind; due = due }

  admits_as : (t t' : Transaction) → t ≡ t' → c.number < c.limit → IsNextKind c t' → IsDue c t' → IsAdmitted c (c.number + 1) t
  admits_as t t' same room kind due = subst (IsAdmitted c (c.number + 1)) (sym same) (admits t' room kind due)

-- ---- a text

no_rule : (c : Core) (text : List ℕ) (rule : Option Refusal) → machine.IsRuleOf (view c) text rule → rule ≡ None
    → tests.IsRuleOf c text None
no_rule c text None is none = is
no_rule c text (Some r) is none = absurd (none-some r (sym none))

-- ---- a root

root_passes : (c : Core) (allowed : Mode → Bool) (root : ℕ) → machine.root_test (view c) allowed root ≡ None
    → tests.root_test c allowed root ≡ None
root_passes c allowed root none = ap (machine.live_test allowed root) (sym (modes (instance_of c root))) ∙ none

-- ---- an item

-- an item is there, passes a test of the machine, and there is room
record Passes (c : Core) (people : Option Refusal) (test : machine.Subject → Option Refusal) (path : Path) : Type 0 where
  pub people_pass : people ≡ None
  pub subject : Subject
  pub there : IsThere c path subject
  pub tested : test (seen subject) ≡ None
  pub room : c.number < c.limit

module _ (c : Core) (people : Option Refusal) (token : List ℕ) (test : machine.Subject → Option Refusal) (path : Path) where
  by_subject : (m : machine.Subject) → ThereAs c path m
      → machine.tests_on_item (view c) people token test (Some m) ≡ None → Passes c people test path
  by_subject m found none =
      let first = both_none people _ none in
      let second = both_none (machine.item_test token (Some m)) _ first.1 in
      let third = both_none (test m) _ second.1 in
      record {
        people_pass = first.0;
        subject = found.subject;
        there = found.there;
        tested = ap test found.same ∙ third.0;
        room = last_room (view c) third.1;
      }

  by_named : (o : Option machine.Subject) → Spells (machine.between token) path → machine.IsNamed (view c) token o
      → machine.tests_on_item (view c) people token test o ≡ None → Passes c people test path
  by_named None spells named none =
      let first = both_none people _ none in
      let second = both_none (machine.item_test token None)
      (machine.first_of (machine.on_item test None ∷ machine.full_test (view c) ∷ [])) first.1 in
      absurd (none-some (refused.Item token) (sym second.0))
  by_named (Some m) spells named none =
      let same : named.0 ≡ path = spells_one (machine.between token) named.0 path named.1 spells in
      by_subject m (there_as c path m (ap (machine.subject_of (view c)) (sym same) ∙ named.2)) none

  passes : Spells (machine.between token) path → machine.RefusesOnItem (view c) people token test None
      → Passes c people test path
  passes spells refuses = by_named refuses.0 spells refuses.1 (sym refuses.2)

claim_as : (person : Option PersonDef) (x : Subject)
    → tests.claim_test person x ≡ machine.claim_test person (seen x)
claim_as None x = refl
claim_as (Some person) x = refl

transfer_as : (name : Name) (to : Option PersonDef) (x : Subject)
    → tests.transfer_test name to x ≡ machine.transfer_test name to (seen x)
transfer_as name None x = refl
transfer_as name (Some to) x = refl

-- the item of the machine is that of the engine
same_item : (c : Core) (path : Path) (e : Entry) (f : m.Entry) → item_of c path ≡ Some e → s.item_of (view c) path ≡ Some f
    → f ≡ entry_of e
same_item c path e f there is =
    let both : Some f ≡ Some (entry_of e) = sym is ∙ items c path ∙ ap (option_map entry_of) there in cc

-- the settings of an outcome fit the output of the item
set_fits : (c : Core) (path : Path) (outcome : Outcome) (settings : List Setting) (e : Entry) → ItemsHaveCodes (view c)
    → item_of c path ≡ Some e → machine.IsSetFor (view c) path outcome settings
    → all_fit e.activity.output.leaves settings ≡ true
set_fits c path outcome settings e coded there set =
    let same : set.item ≡ entry_of e = same_item c path e set.item there set.there in
    let code = coded path (entry_of e) (items c path ∙ ap (option_map entry_of) there) in
    outcome_fits e.activity.output outcome.rc outcome.settings settings return_code (ap (λ leaves. slice_get leaves 0) code.1) refl
    (ap (λ f. outcome_by f.activity.output outcome.rc outcome.settings) (sym same) ∙ set.set)

-- ---- a START

unused_key : (c : Core) (process : Name) (starter : Name) (key : Option Name) (written : List RawSetting) → AreKeyed c
    → machine.same_root (view c) (asked.Start process starter key written) ≡ None → root_with c key ≡ None
unused_key c process starter None written keyed none = refl
unused_key c process starter (Some key) written keyed none = keyed.holders key ∙ none

-- ---- a command

module _ (c : Core) (keyed : AreKeyed c) (coded : ItemsHaveCodes (view c)) (kept : c.kept ≤ c.number) where
  pub command_admitted : (command : Command) (t : Transaction) → machine.IsVerdict (view c) command (Do t)
      → IsAdmitted c (c.number + 1) t
  command_admitted (asked.Import text) t is =
      let refuses = is.1 in
      let first = both_none refuses.0 _ (sym refuses.2) in
      admits_as c kept t (made.Import text) is.2 (last_room (view c) first.1) tt (no_rule c text refuses.0 refuses.1 first.0)
  command_admitted (asked.Start process starter key written) t is =
      let none = sym is.1 in
      let newest = is.2.2 in
      let first = both_none (machine.person_test (view c) starter) _ none in
      let second = both_none (machine.process_test (view c) process) _ first.1 in
      let third = both_none (machine.input_test written (machine.newest_of (view c) process)) _ second.1 in
      let fourth = both_none (machine.full_test (view c)) _ third.1 in
      let fifth = both_none (machine.number_test (view c)) None fourth.1 in
      let number = ltb-true (c.roots + 1) (2 ^ 64) (is_so (nat_lt (c.roots + 1) (2 ^ 64)) (refused.Full c.limit) fifth.0) in
      admits_as c kept t (made.Start (c.roots + 1) process is.2.0 starter key is.2.1) is.2.3 (has_room (view c) fourth.0)
      (refl, number) (record {
        template = newest.template;
        newest = newest.newest;
        number = newest.number;
        declared = first.0;
        unused = unused_key c process starter key written keyed is.0;
        fit = settings_fit (out-Graph newest.template.graph).input written is.2.1 newest.set;
      })
  command_admitted (asked.Turn queue) t is =
      let first = both_none (machine.queue_test (view c) queue) _ (sym is.1) in
      let second = both_none (machine.message_test (view c) queue) _ first.1 in
      admits_as c kept t (made.Turn queue is.2.0) is.2.2 (last_room (view c) second.1) tt is.2.1
  command_admitted asked.Drain t is = absurd is.1
  command_admitted (asked.Claim token name) t is =
      let path = is.2.0 in
      let p = passes c (machine.person_test (view c) name) token
      (machine.claim_test (machine.person_of (view c) name)) path is.2.1 is.1 in
      admits_as c kept t (made.Claim path name) is.2.2 p.room tt
      (p.subject, p.there, (p.people_pass, claim_as (tests.person_of c name) p.subject ∙ p.tested))
  command_admitted (asked.Release token name) t is =
      let path = is.2.0 in
      let p = passes c (machine.person_test (view c) name) token
      (machine.release_test name) path is.2.1 is.1 in
      admits_as c kept t (made.Release path name) is.2.2 p.room tt (p.subject, p.there, (p.people_pass, p.tested))
  command_admitted (asked.Transfer token from to) t is =
      let path = is.2.0 in
      let p = passes c (machine.first_of (machine.person_test (view c) from ∷ machine.person_test (view c) to ∷ [])) token
      (machine.transfer_test from (machine.person_of (view c) to)) path is.2.1 is.1 in
      let first = both_none (machine.person_test (view c) from) _ p.people_pass in
      let second = both_none (machine.person_test (view c) to) None first.1 in
      admits_as c kept t (made.Transfer path from to) is.2.2 p.room tt
      (p.subject, p.there, (first.0, second.0, transfer_as from (tests.person_of c to) p.subject ∙ p.tested))
  command_admitted (asked.Take token) t is =
      let path = is.2.0 in
      let p = passes c None token
      machine.taking_test path is.2.2 is.1 in
      let next = is.2.3 in
      let same : next.item ≡ entry_of p.subject.item = same_item c path p.subject.item next.item p.there.there next.there in
      admits_as c kept t (made.Take path is.2.1) is.2.4 p.room tt
      (p.subject, p.there, (p.tested, sym (next.next ∙ ap (λ e. next_take e.state) same)))
  command_admitted (asked.Done token by outcome) t is =
      let path = is.2.0 in
      let p = passes c (machine.who_test (view c) by) token
      (λ y. machine.first_of (machine.completing_test by y ∷ machine.outcome_test outcome y ∷ [])) path is.2.2 is.1 in
      let tested = both_none (machine.completing_test by (seen p.subject)) _ p.tested in
      admits_as c kept t (made.Done path by is.2.1) is.2.4 p.room tt
      (p.subject, p.there, (p.people_pass, tested.0, set_fits c path outcome is.2.1 p.subject.item coded p.there.there is.2.3))
  command_admitted (asked.Force token outcome) t is =
      let path = is.2.0 in
      let p = passes c None token
      (λ y. machine.first_of (machine.forcing_test y ∷ machine.outcome_test outcome y ∷ [])) path is.2.2 is.1 in
      let tested = both_none (machine.forcing_test (seen p.subject)) _ p.tested in
      admits_as c kept t (made.Force path is.2.1) is.2.4 p.room tt
      (p.subject, p.there, (tested.0, set_fits c path outcome is.2.1 p.subject.item coded p.there.there is.2.3))
  command_admitted (asked.Restart token) t is =
      let path = is.2.0 in
      let p = passes c None token
      machine.restart_test path is.2.1 is.1 in
      admits_as c kept t (made.Restart path) is.2.2 p.room tt (p.subject, p.there, p.tested)
  command_admitted (asked.Suspend root) t is =
      let first = both_none (machine.root_test (view c) machine.is_active root) _ (sym is.1) in
      admits_as c kept t (made.Suspend root) is.2 (last_room (view c) first.1) tt (root_passes c machine.is_active root first.0)
  command_admitted (asked.Resume root) t is =
      let first = both_none (machine.root_test (view c) machine.is_suspended root) _ (sym is.1) in
      admits_as c kept t (made.Resume root) is.2 (last_room (view c) first.1) tt (root_passes c machine.is_suspended root first.0)
  command_admitted (asked.Terminate root) t is =
      let first = both_none (machine.root_test (view c) machine.is_going root) _ (sym is.1) in
      admits_as c kept t (made.Terminate root) is.2 (last_room (view c) first.1) tt (root_passes c machine.is_going root first.0)
  command_admitted (asked.Delete root) t is =
      let first = both_none (machine.root_test (view c) machine.is_over root) _ (sym is.1) in
      let second = both_none (machine.queued_test (view c) root) _ first.1 in
      admits_as c kept t (made.Delete root) is.2 (last_room (view c) second.1) tt
      (two_none (tests.root_test c tests.is_over root) (tests.queued_test c root)
      (root_passes c machine.is_over root first.0) second.0)
  command_admitted (asked.Clock minutes) t is =
      let first = both_none (machine.minutes_test minutes) _ (sym is.1) in
      let second = both_none (machine.clock_test (view c) minutes.size) _ first.1 in
      admits_as c kept t (made.Clock minutes.size) is.2 (last_room (view c) second.1) tt
      (leb-true minutes.size 2147483647 (is_so (nat_le minutes.size 2147483647) (machine.value_at minutes.place) first.0), second.0)
  command_admitted asked.Checkpoint t is = absurd is.1
  command_admitted (asked.Ask query) t is = absurd is.1
