-- The transaction of a command is in range, where its words and the state are.
use Rattle.std.proofs.Common.{◌≡◌, ℕ, zero, suc, ◌+◌, ◌^◌, ◌<◌, ◌≤◌, ◌&&◌, nat_lt, nat_le, Bool, true, false, List, [], ◌∷◌}
use Rattle.std.proofs.Common.{length, Option, Some, None, option_map, option_and_then, Ok, FitsSigned}
use Rattle.std.proofs.Common.{refl, sym, ap, subst, ◌∙◌, arith, ltb-true, leb-true}
use Rattle.std.specs.Prelude.{slice_get, ℤ, pos, if◌then◌else◌}
use Rattle.std.specs.Int.{w64}
use Rattle.std.specs.List.{All}
use Rattle.std.proofs.lemmas.List.Elements.{All-nil, All-cons, All-head, All-tail, All-weaker}
use Rattle.std.proofs.lemmas.Option.{none-some}
use Rattle.containers.specs.Named.{leaf_place}
use Rattle.containers.specs.Settings.{below_zero, signed_value, written_number, value_for, setting_to, setting_kind}
use Rattle.containers.specs.Settings.{setting_at, setting_by, settings_by, code_setting, outcome_by}
use Rattle.flow_core.specs.declared.judging.Verdict.TheVariants.{Do}
use Rattle.flow_core.specs.declared.refusals.Refusal.{Refusal}
use Rattle.flow_core.specs.declared.refusals.Refusal.TheVariants as refused
use Rattle.flow_model.specs.Paths.{IsStep, Spells}
use Rattle.flow_model.specs.declared.commands.Command.{Command}
use Rattle.flow_model.specs.declared.commands.Command.TheVariants as asked
use Rattle.flow_model.specs.declared.commands.Outcome.{Outcome}
use Rattle.flow_model.specs.declared.commands.RawSetting.{RawSetting}
use Rattle.flow_model.specs.declared.commands.RawValue.{RawValue}
use Rattle.flow_model.specs.declared.commands.RawValue.TheVariants as written
use Rattle.flow_model.specs.declared.graphs.Graph.{Graph, out-Graph}
use Rattle.flow_model.specs.declared.graphs.Kind.{Kind}
use Rattle.flow_model.specs.declared.graphs.Kind.TheVariants.{Long, Str}
use Rattle.flow_model.specs.declared.graphs.Leaf.{Leaf}
use Rattle.flow_model.specs.declared.graphs.Leaves.{Leaves}
use Rattle.flow_model.specs.ScopeContainers.{graph_of}
use Rattle.flow_model.specs.declared.graphs.Value.{Value}
use Rattle.flow_model.specs.declared.graphs.Value.TheVariants.{Whole, Text}
use Rattle.flow_model.specs.declared.instances.Part.{Part}
use Rattle.flow_model.specs.declared.instances.Path.{Path}
use Rattle.flow_model.specs.declared.transactions.Setting.{Setting}
use Rattle.flow_model.specs.declared.transactions.Transaction.{Transaction}
use Rattle.flow_model.specs.declared.trees.NumberAt.{NumberAt}
use Rattle.flow_txn.specs.Ranges.{PartFits, PathFits, ItemFits, ValueFits, SettingFits, SettingsFit, TransactionFits, IsInRange}
use Rattle.machine.specs.Items.{Entry, program_in, program_entry}
use Rattle.machine.specs.States.{Root, State, templates, item_in, item_of}
use Rattle.machine.specs.Verdicts as machine
use Rattle.machine_scopes.proofs.Lists.{within}
use Rattle.reopening_laws.specs.Ranges.{IsWritable, AreWritable, IsWorded, StandsInRange}
use Rattle.reopening_laws.proofs.Admitted.{both_none, is_so, verdict_room}
use Rattle.reopening_laws.proofs.Settings.{some_is, ok_is, err_never, after_parts}
use Rattle.worklist_laws.proofs.Spelled.{spells_one}

-- ---- settings

number_fits : (minus : Option ℕ) (size : ℕ) (z : ℤ) → signed_value minus size ≡ Some z → FitsSigned w64 z
number_fits None size z is = go (nat_lt size (2 ^ 63)) refl is
  where
    go : (b : Bool) → nat_lt size (2 ^ 63) ≡ b → (if b then Some (pos size) else None) ≡ Some z → FitsSigned w64 z
    go true so found =
        let less = ltb-true size (2 ^ 63) so in
        subst (FitsSigned w64) (some_is (pos size) z found) (record { sfits = less })
    go false so none = absurd (none-some z none)
number_fits (Some minus) size z is = go (nat_le size (2 ^ 63)) refl is
  where
    below : (n : ℕ) → n ≤ 2 ^ 63 → FitsSigned w64 (below_zero n)
    below zero least = record { sfits = omega arith }
    below (suc n) least = record { sfits = omega (arith, least) }

    go : (b : Bool) → nat_le size (2 ^ 63) ≡ b → (if b then Some (below_zero size) else None) ≡ Some z
        → FitsSigned w64 z
    go true so found =
        subst (FitsSigned w64) (some_is (below_zero size) z found) (below size (leb-true size (2 ^ 63) so))
    go false so none = absurd (none-some z none)

value_in_range : (w : RawValue) (kind : Kind) (x : Value) → IsWritable w → value_for w kind ≡ Some x → ValueFits x
value_in_range (written.Number number) Long x fine is = go (written_number number) refl is
  where
    go : (o : Option ℤ) → written_number number ≡ o → option_map (λ n. Whole n) o ≡ Some x → ValueFits x
    go None so none = absurd (none-some x none)
    go (Some n) so found = subst ValueFits (some_is (Whole n) x found) (number_fits number.minus number.size n so)
value_in_range (written.Number number) Str x fine is = absurd (none-some x is)
value_in_range (written.Text text place) Long x fine is = absurd (none-some x is)
value_in_range (written.Text text place) Str x fine is = subst ValueFits (some_is (Text text) x is) fine

module _ (leaves : List Leaf) (few : length leaves < 2 ^ 16) (s : RawSetting) (fine : IsWritable s.value)
    (x : Setting) where
  by_value : (place : ℕ) (leaf : Leaf) → slice_get leaves place ≡ Some leaf → (o : Option Value)
      → value_for s.value leaf.kind ≡ o → setting_to s.value place o ≡ Ok x → SettingFits x
  by_value place leaf there None value set = absurd (err_never _ x set)
  by_value place leaf there (Some v) value set =
      let less = within leaves place leaf there in
      let small : place < 2 ^ 16 = omega (arith, less, few) in
      subst SettingFits (ok_is (record { leaf = place; value = v }) x set)
      (small, value_in_range s.value leaf.kind v fine value)

  by_leaf : (place : ℕ) (o : Option Leaf) → slice_get leaves place ≡ o → setting_kind s place o ≡ Ok x → SettingFits x
  by_leaf place None there set = absurd (err_never _ x set)
  by_leaf place (Some leaf) there set = by_value place leaf there (value_for s.value leaf.kind) refl set

  by_place : (o : Option ℕ) → setting_at leaves s o ≡ Ok x → SettingFits x
  by_place None set = absurd (err_never _ x set)
  by_place (Some place) set = by_leaf place (slice_get leaves place) refl set

-- settings are as many as are written, and each is in range
written_in_range : (of : Leaves) (written : List RawSetting) (settings : List Setting) → length of.leaves < 2 ^ 16
    → All (λ s. IsWritable s.value) written → settings_by of written ≡ Ok settings
    → (length settings ≡ length written) × All SettingFits settings
written_in_range of [] settings few fine is =
    let none : [] ≡ settings = ok_is [] settings is in
    (ap length (sym none), subst (All SettingFits) none (All-nil SettingFits))
written_in_range of (s ∷ written) settings few fine is =
    let parts = after_parts (setting_by of s) (settings_by of written) settings is in
    let rest = written_in_range of written parts.1 few
    (All-tail (λ (r : RawSetting). IsWritable r.value) s written fine) parts.3 in
    let first = by_place of.leaves few s (All-head (λ (r : RawSetting). IsWritable r.value) s written fine) parts.0
    (leaf_place of.leaves s.leaf.steps) parts.2 in
    let all : settings ≡ parts.0 ∷ parts.1 = parts.4 in (
      ap length all ∙ ap suc rest.0,
      subst (All SettingFits) (sym all) (All-cons SettingFits parts.0 parts.1 first rest.1),
    )

outcome_in_range : (of : Leaves) (rc : Option NumberAt) (written : List RawSetting) (settings : List Setting)
    → length of.leaves < 2 ^ 16 → AreWritable written → outcome_by of rc written ≡ Ok settings → SettingsFit settings
outcome_in_range of None written settings few fine is =
    let all = written_in_range of written settings few fine.1 is in
    let count = all.0 in
    let most = fine.0 in
    (omega (arith, count, most), all.1)
outcome_in_range of (Some number) written settings few fine is =
    let parts = after_parts (code_setting number (written_number number)) (settings_by of written) settings is in
    let rest = written_in_range of written parts.1 few fine.1 parts.3 in
    let all : settings ≡ parts.0 ∷ parts.1 = parts.4 in
    let count : length settings ≡ suc (length parts.1) = ap length all in
    let others = rest.0 in
    let most = fine.0 in (
      omega (arith, count, others, most),
      subst (All SettingFits) (sym all)
          (All-cons SettingFits parts.0 parts.1 (coded (written_number number) refl parts.0 parts.2) rest.1),
    )
  where
    coded : (o : Option ℤ) → written_number number ≡ o → (x : Setting) → code_setting number o ≡ Ok x → SettingFits x
    coded None so x set = absurd (err_never _ x set)
    coded (Some n) so x set =
        let small : 0 < 2 ^ 16 = omega arith in
        subst SettingFits (ok_is (record { leaf = 0; value = Whole n }) x set)
        (small, number_fits number.minus number.size n so)

-- ---- paths

part_in_range : (q : Part) → IsStep q → PartFits q
part_in_range q is = (is.named, (is.counted, is.small))

path_in_range : (bytes : List ℕ) (p : Path) → Spells bytes p → length p.parts < 2 ^ 8 → PathFits p
path_in_range bytes p is few =
    ((is.path.counted, is.path.small), few, All-weaker IsStep PartFits part_in_range p.parts is.path.steps)

-- a path without parts leads to no item
no_parts : (s : State) (root : ℕ) → item_of s (record { root = root; parts = [] }) ≡ None
no_parts s root = by_root (s.roots root)
  where
    none_of : Graph → Option Entry
    none_of g = None

    by_graph : (o : Option Graph) → option_and_then none_of o ≡ None
    by_graph None = refl
    by_graph (Some g) = refl

    by_root : (o : Option Root)
        → program_entry (option_and_then (item_in (templates s) (templates s) (record { root = root; parts = [] })) o)
        ≡ None
    by_root None = refl
    by_root (Some r) = ap program_entry (by_graph (graph_of (templates s) r.template))

has_part : (s : State) (p : Path) (e : Entry) → item_of s p ≡ Some e → 1 ≤ length p.parts
has_part s p e there = go p.parts refl
  where
    go : (parts : List Part) → p.parts ≡ parts → 1 ≤ length p.parts
    go [] is =
        absurd (none-some e (sym (no_parts s p.root)
        ∙ ap (λ (qs : List Part). item_of s (record { root = p.root; parts = qs })) (sym is) ∙ there))
    go (q ∷ qs) is = let long : length p.parts ≡ suc (length qs) = ap length is in omega (arith, long)

-- ---- items

-- an item that is there
abbrev ThereAt : State → Path → Type 0
ThereAt s path = (e : Entry) × (item_of s path ≡ Some e)

module _ (s : State) (people : Option Refusal) (token : List ℕ) (test : machine.Subject → Option Refusal) (path : Path) where
  by_item : (m : machine.Subject) (o : Option Entry) → item_of s path ≡ o
      → option_and_then (λ e. machine.subject_by e (program_in e.activity.work) (s.roots path.root)) o ≡ Some m
      → ThereAt s path
  by_item m None there none = absurd (none-some m none)
  by_item m (Some e) there is = (e, there)

  by_named : (o : Option machine.Subject) → Spells (machine.between token) path → machine.IsNamed s token o
      → machine.tests_on_item s people token test o ≡ None → ThereAt s path
  by_named None spells named none =
      let first = both_none people (machine.first_of (machine.item_test token None ∷ machine.on_item test None
      ∷ machine.full_test s ∷ [])) none in
      let second = both_none (machine.item_test token None)
      (machine.first_of (machine.on_item test None ∷ machine.full_test s ∷ [])) first.1 in
      absurd (none-some (refused.Item token) (sym second.0))
  by_named (Some m) spells named none =
      let same : named.0 ≡ path = spells_one (machine.between token) named.0 path named.1 spells in
      by_item m (item_of s path) refl (ap (machine.subject_of s) (sym same) ∙ named.2)

  there_at : Spells (machine.between token) path → machine.RefusesOnItem s people token test None → ThereAt s path
  there_at spells refuses = by_named refuses.0 spells refuses.1 (sym refuses.2)

item_in_range : (s : State) (token : List ℕ) (path : Path) → StandsInRange s → Spells (machine.between token) path
    → ThereAt s path → ItemFits path
item_in_range s token path stands spells there =
    let item = stands.items path there.0 there.1 in
    (path_in_range (machine.between token) path spells item.shallow, has_part s path there.0 there.1)

-- the settings of an outcome
set_in_range : (s : State) (path : Path) (outcome : Outcome) (settings : List Setting) → StandsInRange s
    → AreWritable outcome.settings → machine.IsSetFor s path outcome settings → SettingsFit settings
set_in_range s path outcome settings stands fine set =
    outcome_in_range set.item.activity.output outcome.rc outcome.settings settings
    (stands.items path set.item set.there).small fine set.set

-- ---- a command

both_so : (a b : Bool) → (a && b) ≡ true → b ≡ true
both_so true b so = so
both_so false b so = absurd (cc)

module _ (s : State) (stands : StandsInRange s) where
  on_item : (people : Option Refusal) (token : List ℕ) (test : machine.Subject → Option Refusal) (path : Path)
      → Spells (machine.between token) path → machine.RefusesOnItem s people token test None → ItemFits path
  on_item people token test path spells refuses =
      item_in_range s token path stands spells (there_at s people token test path spells refuses)

  parts_in_range : (command : Command) (t : Transaction) → IsWorded command → machine.IsVerdict s command (Do t)
      → TransactionFits t
  parts_in_range (asked.Import text) t fine is =
      subst TransactionFits (sym is.2) (short is.1.0 is.1.1 (both_none is.1.0 _ (sym is.1.2)).0)
    where
      short : (rule : Option Refusal) → machine.IsRuleOf s text rule → rule ≡ None → length text ≤ 1048576
      short None faultless none = faultless.short
      short (Some r) broken none = absurd (none-some r (sym none))
  parts_in_range (asked.Start process starter key written) t fine is =
      let newest = is.2.2 in
      let first = both_none (machine.person_test s starter) _ (sym is.1) in
      let second = both_none (machine.process_test s process) _ first.1 in
      let third = both_none (machine.input_test written (machine.newest_of s process)) _ second.1 in
      let fourth = both_none (machine.full_test s) _ third.1 in
      let fifth = both_none (machine.number_test s) None fourth.1 in
      let number = ltb-true (s.last_root + 1) (2 ^ 64)
      (is_so (nat_lt (s.last_root + 1) (2 ^ 64)) (refused.Full s.limit) fifth.0) in
      let least : 1 ≤ s.last_root + 1 = omega arith in
      let template = stands.newest process newest.template newest.newest in
      subst TransactionFits (sym is.2.3) (
        (least, number),
        fine.0,
        subst (λ n. n < 2 ^ 32) newest.number template.version,
        fine.1,
        fine.2,
        outcome_in_range (out-Graph newest.template.graph).input None written is.2.1 template.small fine.3 newest.set,
      )
  parts_in_range (asked.Turn queue) t fine is =
      let first = both_none (machine.queue_test s queue) _ (sym is.1) in
      let least = both_so (nat_le 1 queue) (nat_le queue (length s.queues))
      (is_so (nat_le 1 queue && nat_le queue (length s.queues)) (refused.Queue (length s.queues)) first.0) in
      let most = leb-true queue (length s.queues) least in
      let few = stands.queues in
      let small : queue < 2 ^ 8 = omega (arith, most, few) in
      subst TransactionFits (sym is.2.2) (small, stands.fronts queue is.2.0 is.2.1.1)
  parts_in_range asked.Drain t fine is = absurd is.1
  parts_in_range (asked.Claim token name) t fine is =
      subst TransactionFits (sym is.2.2)
      (on_item (machine.person_test s name) token (machine.claim_test (machine.person_of s name)) is.2.0 is.2.1 is.1, fine)
  parts_in_range (asked.Release token name) t fine is =
      subst TransactionFits (sym is.2.2)
      (on_item (machine.person_test s name) token (machine.release_test name) is.2.0 is.2.1 is.1, fine)
  parts_in_range (asked.Transfer token from to) t fine is =
      subst TransactionFits (sym is.2.2) (
        on_item (machine.first_of (machine.person_test s from ∷ machine.person_test s to ∷ [])) token
            (machine.transfer_test from (machine.person_of s to)) is.2.0 is.2.1 is.1,
        fine.0,
        fine.1,
      )
  parts_in_range (asked.Take token) t fine is =
      let next = is.2.3 in
      subst TransactionFits (sym is.2.4) (
        on_item None token machine.taking_test is.2.0 is.2.2 is.1,
        subst (λ n. n < 2 ^ 64) (sym next.next) (stands.items is.2.0 next.item next.there).takes,
      )
  parts_in_range (asked.Done token by outcome) t fine is =
      subst TransactionFits (sym is.2.4) (
        on_item (machine.who_test s by) token
            (λ y. machine.first_of (machine.completing_test by y ∷ machine.outcome_test outcome y ∷ [])) is.2.0 is.2.2 is.1,
        fine.0,
        set_in_range s is.2.0 outcome is.2.1 stands fine.1 is.2.3,
      )
  parts_in_range (asked.Force token outcome) t fine is =
      subst TransactionFits (sym is.2.4) (
        on_item None token (λ y. machine.first_of (machine.forcing_test y ∷ machine.outcome_test outcome y ∷ []))
            is.2.0 is.2.2 is.1,
        set_in_range s is.2.0 outcome is.2.1 stands fine is.2.3,
      )
  parts_in_range (asked.Restart token) t fine is =
      subst TransactionFits (sym is.2.2) (on_item None token machine.restart_test is.2.0 is.2.1 is.1)
  parts_in_range (asked.Suspend root) t fine is = subst TransactionFits (sym is.2) fine
  parts_in_range (asked.Resume root) t fine is = subst TransactionFits (sym is.2) fine
  parts_in_range (asked.Terminate root) t fine is = subst TransactionFits (sym is.2) fine
  parts_in_range (asked.Delete root) t fine is = subst TransactionFits (sym is.2) fine
  parts_in_range (asked.Clock minutes) t fine is =
      let first = both_none (machine.minutes_test minutes) _ (sym is.1) in
      let most = leb-true minutes.size 2147483647
      (is_so (nat_le minutes.size 2147483647) (machine.value_at minutes.place) first.0) in
      let small : minutes.size < 2 ^ 64 = omega (arith, most) in
      subst TransactionFits (sym is.2) small
  parts_in_range asked.Checkpoint t fine is = absurd is.1
  parts_in_range (asked.Ask query) t fine is = absurd is.1

  pub command_in_range : (command : Command) (t : Transaction) → IsWorded command → machine.IsVerdict s command (Do t)
      → IsInRange (s.transactions + 1) t
  command_in_range command t fine is =
      let room = verdict_room s command t is in
      let limit = stands.limit in
      let least : 1 ≤ s.transactions + 1 = omega arith in
      let most : s.transactions + 1 < 2 ^ 64 = omega (arith, room, limit) in
      ((least, most), parts_in_range command t fine is)
