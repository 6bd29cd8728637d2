-- A verdict on a command that isn't about a root is the same without that root.
use Rattle.std.proofs.Common.{◌≡◌, ℕ, ◌+◌, ◌==◌, ◌&&◌, Bool, true, false, not, cond, Option, Some}
use Rattle.std.proofs.Common.{None, is_some, option_map, List, [], ◌∷◌, nat_le, refl, ap, sym, subst, ◌∙◌}
use Rattle.std.proofs.Common.{arith, eqb-true}
use Rattle.std.proofs.lemmas.Option.{none-some}
use Rattle.std.specs.List.{filter}
use Rattle.std.specs.Option.{option_or}
use Rattle.std.specs.Prelude.{slice_get}
use Rattle.flow_core.specs.declared.judging.Verdict.TheVariants.{Do}
use Rattle.flow_core.specs.declared.refusals.Refusal.{Refusal}
use Rattle.flow_core.specs.declared.refusals.Refusal.TheVariants as refused
use Rattle.flow_model.specs.Paths.{Spells}
use Rattle.flow_model.specs.declared.commands.Command.{Command}
use Rattle.flow_model.specs.declared.commands.Command.TheVariants as asked
use Rattle.flow_model.specs.declared.commands.Outcome.{Outcome}
use Rattle.flow_model.specs.declared.commands.RawSetting.{RawSetting}
use Rattle.flow_model.specs.declared.instances.Message.{Message}
use Rattle.flow_model.specs.declared.instances.Mode.{Mode}
use Rattle.flow_model.specs.declared.instances.Path.{Path}
use Rattle.flow_model.specs.declared.names.Name.{Name}
use Rattle.flow_model.specs.declared.transactions.Numbered.{Numbered}
use Rattle.flow_model.specs.declared.transactions.Setting.{Setting}
use Rattle.flow_model.specs.declared.transactions.Transaction.{Transaction}
use Rattle.flow_model.specs.declared.transactions.Transaction.TheVariants as made
use Rattle.machine.specs.States.{State, keyed_root, root_with_key}
use Rattle.machine.specs.Steps.{root_about, is_root, deleted}
use Rattle.machine.specs.Verdicts.{between, Subject, IsNamed, RefusesOnItem, IsRuleOf, IsNewestFor, IsSetFor}
use Rattle.machine.specs.Verdicts.{IsNextTake}
use Rattle.machine.specs.Verdicts.{first_of, unless, item_test, on_item, tests_on_item, full_test, queue_test}
use Rattle.machine.specs.Verdicts.{message_test}
use Rattle.machine.specs.Verdicts.{root_test, live_test, mode_in, queued, queued_test, person_of, person_test, who_test}
use Rattle.machine.specs.Verdicts.{claim_test}
use Rattle.machine.specs.Verdicts.{release_test, transfer_test, taking_test, completing_test, outcome_test}
use Rattle.machine.specs.Verdicts.{forcing_test}
use Rattle.machine.specs.Verdicts.{restart_test, is_active, is_suspended, is_going, is_over}
use Rattle.machine.specs.Verdicts.{same_root, IsFront, IsVerdict}
use Rattle.recover_queue.specs.Queues.{queue as messages_of, root_of, count_of_root}
use Rattle.worklist_laws.proofs.Spelled.{spells_one}
use Rattle.compaction_laws.specs.Compact.{IsAtFront, IsReadyFor}
use Rattle.compaction_laws.proofs.Forgetting.{is_apart, forget, other_root, other_item, other_subject}
use Rattle.compaction_laws.proofs.Queues.{passing_length, front_kept, is_of_other}

-- ---- keys

no_key_behind : (key : Name) (n : Numbered) (ns : List Numbered) → root_with_key key (n ∷ ns) ≡ None
    → (root_with_key key ns ≡ None) × (keyed_root key n.transaction ≡ None)
no_key_behind key n ns none = go (root_with_key key ns) refl none
  where
    go : (o : Option ℕ) → root_with_key key ns ≡ o → option_or o (keyed_root key n.transaction) ≡ None
        → (root_with_key key ns ≡ None) × (keyed_root key n.transaction ≡ None)
    go None is none' = (is, none')
    go (Some root) is some = absurd (none-some root (sym some))

no_key_left : (r : ℕ) (key : Name) (ns : List Numbered) → root_with_key key ns ≡ None
    → root_with_key key (filter (is_apart r) ns) ≡ None
no_key_left r key [] none = refl
no_key_left r key (n ∷ ns) none =
    let both = no_key_behind key n ns none in
    let rest = no_key_left r key ns both.0 in
    go (is_apart r n) rest (ap (λ o. option_or o (keyed_root key n.transaction)) rest ∙ both.1)
  where
    go : (b : Bool) → root_with_key key (filter (is_apart r) ns) ≡ None
        → root_with_key key (n ∷ filter (is_apart r) ns) ≡ None
        → root_with_key key (cond b (n ∷ filter (is_apart r) ns) (filter (is_apart r) ns)) ≡ None
    go true rest all = all
    go false rest all = rest

-- ---- tests

module _ (r : ℕ) (x : State) where
  rule_kept : (text : List ℕ) (rule : Option Refusal) → IsRuleOf x text rule → IsRuleOf (forget r x) text rule
  rule_kept text None is = is
  rule_kept text (Some refusal) is = is

  root_kept : (allowed : Mode → Bool) (root : ℕ) → (root == r) ≡ false
      → root_test (forget r x) allowed root ≡ root_test x allowed root
  root_kept allowed root apart = ap (λ o. live_test allowed root (option_map mode_in o)) (other_root r root x apart)

  queue_kept : (queue : ℕ) → queue_test (forget r x) queue ≡ queue_test x queue
  queue_kept queue =
      ap (λ n. unless (nat_le 1 queue && nat_le queue n) (refused.Queue n)) (passing_length (is_of_other r) x.queues)

  message_kept : (queue : ℕ) (m : Message) → IsFront x queue m → (root_of m == r) ≡ false
      → message_test (forget r x) queue ≡ message_test x queue
  message_kept queue m front apart =
      ap (λ o. unless (is_some o) (refused.Empty queue))
      (front_kept (is_of_other r) x.queues queue m front.1 (ap not apart) ∙ sym front.1)

  -- the item that a token names is that of its path
  named_kept : (people : Option Refusal) (token : List ℕ) (test : Subject → Option Refusal) (path : Path)
      → (path.root == r) ≡ false → Spells (between token) path → RefusesOnItem x people token test None
      → RefusesOnItem (forget r x) people token test None
  named_kept people token test path apart spells (o, named, none) = go o named none
    where
      go : (o' : Option Subject) → IsNamed x token o' → None ≡ tests_on_item x people token test o'
          → RefusesOnItem (forget r x) people token test None
      go None named' none' = absurd (never people (sym none'))
        where
          never : (p : Option Refusal)
              → first_of (p ∷ item_test token None ∷ on_item test None ∷ full_test x ∷ []) ≡ None → ⊥
          never None is = none-some (refused.Item token) (sym is)
          never (Some refusal) is = none-some refusal (sym is)
      go (Some m) named' none' =
          let same : named'.0 ≡ path = spells_one (between token) named'.0 path named'.1 spells in
          let away : (named'.0.root == r) ≡ false = ap (λ (q : Path). q.root == r) same ∙ apart in
          (Some m, (named'.0, named'.1, other_subject r x named'.0 away ∙ named'.2), none')

-- ---- a verdict

-- a transaction isn't about a root
abbrev pub IsApart : ℕ → Transaction → Type 0
IsApart r t = is_root r (root_about t) ≡ false

apart_from : (r : ℕ) (t t' : Transaction) → t ≡ t' → IsApart r t → IsApart r t'
apart_from r t t' same apart = ap (λ u. is_root r (root_about u)) (sym same) ∙ apart

module _ (r : ℕ) (x : State) where
  key_kept : (command : Command) → same_root x command ≡ None → same_root (forget r x) command ≡ None
  key_kept (asked.Start process starter (Some key) written) none = no_key_left r key x.live none
  key_kept (asked.Start process starter None written) none = refl
  key_kept (asked.Import text) none = refl
  key_kept (asked.Turn queue) none = refl
  key_kept asked.Drain none = refl
  key_kept (asked.Claim token name) none = refl
  key_kept (asked.Release token name) none = refl
  key_kept (asked.Transfer token from to) none = refl
  key_kept (asked.Take token) none = refl
  key_kept (asked.Done token by outcome) none = refl
  key_kept (asked.Force token outcome) none = refl
  key_kept (asked.Restart token) none = refl
  key_kept (asked.Suspend root) none = refl
  key_kept (asked.Resume root) none = refl
  key_kept (asked.Terminate root) none = refl
  key_kept (asked.Delete root) none = refl
  key_kept (asked.Clock minutes) none = refl
  key_kept asked.Checkpoint none = refl
  key_kept (asked.Ask query) none = refl

  newest_kept : (process : Name) (written : List RawSetting) (version : ℕ) (settings : List Setting)
      → IsNewestFor x process written version settings → IsNewestFor (forget r x) process written version settings
  newest_kept process written version settings is =
      record { template = is.template; newest = is.newest; number = is.number; set = is.set }

  set_kept : (path : Path) (outcome : Outcome) (settings : List Setting) → (path.root == r) ≡ false
      → IsSetFor x path outcome settings → IsSetFor (forget r x) path outcome settings
  set_kept path outcome settings apart is =
      record { item = is.item; there = other_item r x path apart ∙ is.there; set = is.set }

  take_kept : (path : Path) (take : ℕ) → (path.root == r) ≡ false → IsNextTake x path take
      → IsNextTake (forget r x) path take
  take_kept path take apart is =
      record { item = is.item; there = other_item r x path apart ∙ is.there; next = is.next }

  pub judged_apart : (command : Command) (t : Transaction) → deleted t ≡ None → IsApart r t
      → IsVerdict x command (Do t) → IsVerdict (forget r x) command (Do t)
  judged_apart (asked.Import text) t stays apart is =
      (refl, (is.1.0, rule_kept r x text is.1.0 is.1.1, is.1.2), is.2)
  judged_apart (asked.Start process starter key written) t stays apart is =
      let due = is.2 in (
        key_kept (asked.Start process starter key written) is.0,
        is.1,
        (due.0, due.1, newest_kept process written due.0 due.1 due.2, due.3),
      )
  judged_apart (asked.Turn queue) t stays apart is =
      let due = is.2 in
      let away : (root_of due.0 == r) ≡ false = apart_from r t (made.Turn queue due.0) due.2 apart in
      let front : slice_get (messages_of (forget r x).queues queue) 0 ≡ Some due.0
      = front_kept (is_of_other r) x.queues queue due.0 due.1.1 (ap not away) in (
        refl,
        is.1 ∙ sym (λ i. first_of (queue_kept r x queue i ∷ message_kept r x queue due.0 due.1 away i ∷ full_test x
            ∷ [])),
        (due.0, (due.1.0, front), due.2),
      )
  judged_apart asked.Drain t stays apart is = absurd is.1
  judged_apart (asked.Claim token name) t stays apart is =
      let due = is.2 in (
        refl,
        named_kept r x (person_test x name) token (claim_test (person_of x name)) due.0
            (apart_from r t (made.Claim due.0 name) due.2 apart) due.1 is.1,
        due,
      )
  judged_apart (asked.Release token name) t stays apart is =
      let due = is.2 in (
        refl,
        named_kept r x (person_test x name) token (release_test name) due.0
            (apart_from r t (made.Release due.0 name) due.2 apart) due.1 is.1,
        due,
      )
  judged_apart (asked.Transfer token from to) t stays apart is =
      let due = is.2 in (
        refl,
        named_kept r x (first_of (person_test x from ∷ person_test x to ∷ [])) token
            (transfer_test from (person_of x to)) due.0 (apart_from r t (made.Transfer due.0 from to) due.2 apart) due.1
            is.1,
        due,
      )
  judged_apart (asked.Take token) t stays apart is =
      let due = is.2 in
      let away : (due.0.root == r) ≡ false = apart_from r t (made.Take due.0 due.1) due.4 apart in (
        refl,
        named_kept r x None token taking_test due.0 away due.2 is.1,
        (due.0, due.1, due.2, take_kept due.0 due.1 away due.3, due.4),
      )
  judged_apart (asked.Done token by outcome) t stays apart is =
      let due = is.2 in
      let away : (due.0.root == r) ≡ false = apart_from r t (made.Done due.0 by due.1) due.4 apart in (
        refl,
        named_kept r x (who_test x by) token (λ s. first_of (completing_test by s ∷ outcome_test outcome s ∷ []))
            due.0 away due.2 is.1,
        (due.0, due.1, due.2, set_kept due.0 outcome due.1 away due.3, due.4),
      )
  judged_apart (asked.Force token outcome) t stays apart is =
      let due = is.2 in
      let away : (due.0.root == r) ≡ false = apart_from r t (made.Force due.0 due.1) due.4 apart in (
        refl,
        named_kept r x None token (λ s. first_of (forcing_test s ∷ outcome_test outcome s ∷ [])) due.0 away due.2
            is.1,
        (due.0, due.1, due.2, set_kept due.0 outcome due.1 away due.3, due.4),
      )
  judged_apart (asked.Restart token) t stays apart is =
      let due = is.2 in (
        refl,
        named_kept r x None token restart_test due.0 (apart_from r t (made.Restart due.0) due.2 apart) due.1 is.1,
        due,
      )
  judged_apart (asked.Suspend root) t stays apart is = (
    refl,
    is.1 ∙ sym (ap (λ o. first_of (o ∷ full_test x ∷ []))
        (root_kept r x is_active root (apart_from r t (made.Suspend root) is.2 apart))),
    is.2,
  )
  judged_apart (asked.Resume root) t stays apart is = (
    refl,
    is.1 ∙ sym (ap (λ o. first_of (o ∷ full_test x ∷ []))
        (root_kept r x is_suspended root (apart_from r t (made.Resume root) is.2 apart))),
    is.2,
  )
  judged_apart (asked.Terminate root) t stays apart is = (
    refl,
    is.1 ∙ sym (ap (λ o. first_of (o ∷ full_test x ∷ []))
        (root_kept r x is_going root (apart_from r t (made.Terminate root) is.2 apart))),
    is.2,
  )
  judged_apart (asked.Delete root) t stays apart is =
      absurd (none-some root (sym stays ∙ ap deleted is.2))
  judged_apart (asked.Clock minutes) t stays apart is = (refl, is.1, is.2)
  judged_apart asked.Checkpoint t stays apart is = absurd is.1
  judged_apart (asked.Ask query) t stays apart is = absurd is.1

-- ---- what a verdict says of its transaction

-- of the tests of a DELETE the second is passed
second_none : (a b : Option Refusal) (others : List (Option Refusal)) → None ≡ first_of (a ∷ b ∷ others) → b ≡ None
second_none None None others none = refl
second_none None (Some refusal) others none = absurd (none-some refusal none)
second_none (Some refusal) b others none = absurd (none-some refusal none)

passed : (b : Bool) (refusal : Refusal) → unless b refusal ≡ None → b ≡ true
passed true refusal none = refl
passed false refusal none = absurd (none-some refusal (sym none))

pub no_messages : (s : State) (r : ℕ) → queued_test s r ≡ None → count_of_root r s.queues ≡ 0
no_messages s r none =
    let test = passed (queued s r == 0) (refused.Queued (queued s r)) none in
    let few : queued s r ≡ 0 = eqb-true (queued s r) 0 test in
    omega (arith, few)

-- a root that is started is the next one
abbrev pub StartsNext : State → Transaction → Type 0
StartsNext x (made.Start root process version starter key settings) = root ≡ x.last_root + 1
StartsNext x t = Unit {0}

-- both
abbrev pub IsReady : State → Transaction → Type 0
IsReady x t = IsReadyFor x t × StartsNext x t

module _ (x : State) (t : Transaction) where
  ready_as : (u : Transaction) → t ≡ u → IsReady x u → IsReady x t
  ready_as u same ready = subst (IsReady x) (sym same) ready

  pub ready : (command : Command) → IsVerdict x command (Do t) → IsReady x t
  ready (asked.Import text) is = ready_as (made.Import text) is.2 (tt, tt)
  ready (asked.Start process starter key written) is =
      ready_as (made.Start (x.last_root + 1) process is.2.0 starter key is.2.1) is.2.3 (tt, refl)
  ready (asked.Turn queue) is = ready_as (made.Turn queue is.2.0) is.2.2 (is.2.1.1, tt)
  ready asked.Drain is = absurd is.1
  ready (asked.Claim token name) is = ready_as (made.Claim is.2.0 name) is.2.2 (tt, tt)
  ready (asked.Release token name) is = ready_as (made.Release is.2.0 name) is.2.2 (tt, tt)
  ready (asked.Transfer token from to) is = ready_as (made.Transfer is.2.0 from to) is.2.2 (tt, tt)
  ready (asked.Take token) is = ready_as (made.Take is.2.0 is.2.1) is.2.4 (tt, tt)
  ready (asked.Done token by outcome) is = ready_as (made.Done is.2.0 by is.2.1) is.2.4 (tt, tt)
  ready (asked.Force token outcome) is = ready_as (made.Force is.2.0 is.2.1) is.2.4 (tt, tt)
  ready (asked.Restart token) is = ready_as (made.Restart is.2.0) is.2.2 (tt, tt)
  ready (asked.Suspend root) is = ready_as (made.Suspend root) is.2 (tt, tt)
  ready (asked.Resume root) is = ready_as (made.Resume root) is.2 (tt, tt)
  ready (asked.Terminate root) is = ready_as (made.Terminate root) is.2 (tt, tt)
  ready (asked.Delete root) is = ready_as (made.Delete root) is.2
      (no_messages x root (second_none (root_test x is_over root) (queued_test x root) (full_test x ∷ []) is.1), tt)
  ready (asked.Clock minutes) is = ready_as (made.Clock minutes.size) is.2 (tt, tt)
  ready asked.Checkpoint is = absurd is.1
  ready (asked.Ask query) is = absurd is.1

pub takes_front : (x : State) (t : Transaction) → IsReadyFor x t → IsAtFront x t
takes_front x (made.Turn queue m) is = is
takes_front x t is = tt
