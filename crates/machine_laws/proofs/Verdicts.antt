-- One state, one verdict, one reply.
use Rattle.std.proofs.Common.{◌≡◌, ℕ, ◌+◌, List, [], ◌∷◌, Option, Some, None, option_and_then, Result, Ok}
use Rattle.std.proofs.Common.{refl, sym, ap, ap₂, subst, ◌∙◌, inl, inr}
use Rattle.activity_states.specs.States.{next_take}
use Rattle.containers.specs.Settings.{outcome_by}
use Rattle.flow_core.specs.Replies.{applied_text}
use Rattle.flow_core.specs.declared.applying.Note.{Note}
use Rattle.flow_core.specs.declared.judging.Verdict.{Verdict}
use Rattle.flow_core.specs.declared.judging.Verdict.TheVariants as verdict
use Rattle.flow_core.specs.declared.refusals.Refusal.{Refusal}
use Rattle.flow_model.specs.Paths.{Spells}
use Rattle.flow_model.specs.declared.commands.Command.{Command}
use Rattle.flow_model.specs.declared.commands.Command.TheVariants as asked
use Rattle.flow_model.specs.declared.commands.Outcome.{Outcome}
use Rattle.flow_model.specs.declared.graphs.Template.{Template}
use Rattle.flow_model.specs.declared.graphs.Graph.{out-Graph}
use Rattle.flow_model.specs.declared.instances.Path.{Path}
use Rattle.flow_model.specs.declared.transactions.Setting.{Setting}
use Rattle.flow_model.specs.declared.transactions.Transaction.{Transaction}
use Rattle.flow_model.specs.declared.transactions.Transaction.TheVariants as made
use Rattle.machine.proofs.One.{step}
use Rattle.recover_queue.specs.Queues.{queue as messages_of}
use Rattle.std.specs.Prelude.{slice_get}
use Rattle.machine.specs.Items.{Entry, program_in}
use Rattle.machine.specs.States.{State, item_of}
use Rattle.machine.specs.Verdicts.{Subject, subject_by, subject_of, between, newest_of, next_root, first_of}
use Rattle.machine.specs.Verdicts.{full_test, tests_on_item, same_root, person_of, person_test, who_test}
use Rattle.machine.specs.Verdicts.{outcome_test, claim_test, release_test, transfer_test, taking_test}
use Rattle.machine.specs.Verdicts.{completing_test, forcing_test, restart_test, IsNamed, RefusesOnItem}
use Rattle.machine.specs.Verdicts.{IsFirstRefusal, IsSetFor, IsFor, IsNoteOf}
use Rattle.machine.specs.Verdicts.{IsVerdict}
use Rattle.machine.specs.Scripts.{Comes, IsObeyed}
use Rattle.machine_laws.proofs.Judging.{rule_one}
use Rattle.worklist_laws.proofs.Spelled.{spells_one}

some_one : {X : Type 0} (o : Option X) (x y : X) → o ≡ Some x → o ≡ Some y → x ≡ y
some_one o x y a b = let e : Some x ≡ Some y = sym a ∙ b in cc

never : {X : Type 0} (o : Option X) (x : X) → o ≡ None → o ≡ Some x → ⊥
never o x a b = let e : None ≡ Some x = sym a ∙ b in cc

ok_one : {X Y : Type 0} (r : Result X Y) (x y : X) → r ≡ Ok x → r ≡ Ok y → x ≡ y
ok_one r x y a b = let e : Ok x ≡ Ok y = sym a ∙ b in cc

module _ (c : State) where
  none_some : (token : List ℕ) (s : Subject) → IsNamed c token None → IsNamed c token (Some s) → ⊥
  none_some token s (inl spelled_not) is = spelled_not is.0 is.1
  none_some token s (inr away) is =
      let same : away.0 ≡ is.0 = spells_one (between token) away.0 is.0 away.1 is.1 in
      never (subject_of c is.0) s (ap (option_and_then
      (λ e. subject_by e (program_in e.activity.work) (c.roots is.0.root))) (ap (item_of c) (sym same) ∙ away.2))
      is.2

  pub named_one : (token : List ℕ) (o o' : Option Subject) → IsNamed c token o → IsNamed c token o' → o ≡ o'
  named_one token None None a b = refl
  named_one token None (Some s) a b = absurd (none_some token s a b)
  named_one token (Some s) None a b = absurd (none_some token s b a)
  named_one token (Some s) (Some s') a b =
      sym a.2 ∙ ap (subject_of c) (spells_one (between token) a.0 b.0 a.1 b.1) ∙ b.2

  on_item_one : (people : Option Refusal) (token : List ℕ) (test : Subject → Option Refusal) (r r' : Option Refusal)
      → RefusesOnItem c people token test r → RefusesOnItem c people token test r' → r ≡ r'
  on_item_one people token test r r' a b =
      a.2 ∙ ap (tests_on_item c people token test) (named_one token a.0 b.0 a.1 b.1) ∙ sym b.2

  pub refusal_one : (command : Command) (r r' : Option Refusal) → IsFirstRefusal c command r
      → IsFirstRefusal c command r' → r ≡ r'
  refusal_one (asked.Import text) r r' a b =
      a.2 ∙ ap (λ rule. first_of (rule ∷ full_test c ∷ [])) (rule_one c text a.0 b.0 a.1 b.1) ∙ sym b.2
  refusal_one (asked.Start process starter key written) r r' a b = a ∙ sym b
  refusal_one (asked.Turn queue) r r' a b = a ∙ sym b
  refusal_one asked.Drain r r' a b = absurd a
  refusal_one (asked.Claim token name) r r' a b =
      on_item_one (person_test c name) token (claim_test (person_of c name)) r r' a b
  refusal_one (asked.Release token name) r r' a b = on_item_one (person_test c name) token (release_test name) r r' a b
  refusal_one (asked.Transfer token from to) r r' a b =
      on_item_one (first_of (person_test c from ∷ person_test c to ∷ [])) token
      (transfer_test from (person_of c to)) r r' a b
  refusal_one (asked.Take token) r r' a b = on_item_one None token taking_test r r' a b
  refusal_one (asked.Done token by outcome) r r' a b =
      on_item_one (who_test c by) token (λ s. first_of (completing_test by s ∷ outcome_test outcome s ∷ [])) r r' a b
  refusal_one (asked.Force token outcome) r r' a b =
      on_item_one None token (λ s. first_of (forcing_test s ∷ outcome_test outcome s ∷ [])) r r' a b
  refusal_one (asked.Restart token) r r' a b = on_item_one None token restart_test r r' a b
  refusal_one (asked.Suspend root) r r' a b = a ∙ sym b
  refusal_one (asked.Resume root) r r' a b = a ∙ sym b
  refusal_one (asked.Terminate root) r r' a b = a ∙ sym b
  refusal_one (asked.Delete root) r r' a b = a ∙ sym b
  refusal_one (asked.Clock number) r r' a b = a ∙ sym b
  refusal_one asked.Checkpoint r r' a b = absurd a
  refusal_one (asked.Ask query) r r' a b = absurd a

  -- ---- the transaction

  path_one : (token : List ℕ) (p q : Path) (f : Path → Transaction) (t t' : Transaction) → Spells (between token) p
      → Spells (between token) q → t ≡ f p → t' ≡ f q → t ≡ t'
  path_one token p q f t t' a b is is' = is ∙ ap f (spells_one (between token) p q a b) ∙ sym is'

  settings_one : (p q : Path) (outcome : Outcome) (x y : List Setting) → p ≡ q → IsSetFor c p outcome x
      → IsSetFor c q outcome y → x ≡ y
  settings_one p q outcome x y same a b =
      let item : a.item ≡ b.item = some_one (item_of c q) a.item b.item (ap (item_of c) (sym same) ∙ a.there) b.there in
      ok_one (outcome_by b.item.activity.output outcome.rc outcome.settings) x y
      (ap (λ (e : Entry). outcome_by e.activity.output outcome.rc outcome.settings) (sym item) ∙ a.set) b.set

  pub for_one : (command : Command) (t t' : Transaction) → IsFor c command t → IsFor c command t' → t ≡ t'
  for_one (asked.Import text) t t' a b = a ∙ sym b
  for_one (asked.Start process starter key written) t t' a b =
      let template : a.2.template ≡ b.2.template = some_one (newest_of c
      process) a.2.template b.2.template a.2.newest b.2.newest in
      let version : a.0 ≡ b.0 = sym a.2.number ∙ ap (λ (x : Template). x.version) template ∙ b.2.number in
      let settings : a.1 ≡ b.1 = ok_one (outcome_by (out-Graph b.2.template.graph).input None written) a.1 b.1 (ap
      (λ (x : Template). outcome_by (out-Graph x.graph).input None written) (sym template) ∙ a.2.set) b.2.set in
      a.3 ∙ ap₂ (λ v s. made.Start (next_root c) process v starter key s) version settings ∙ sym b.3
  for_one (asked.Turn queue) t t' a b =
      a.2 ∙ ap (made.Turn queue) (some_one (slice_get (messages_of c.queues queue) 0) a.0 b.0 a.1.1 b.1.1) ∙ sym b.2
  for_one asked.Drain t t' a b = absurd a
  for_one (asked.Claim token who) t t' a b = path_one token a.0 b.0 (λ p. made.Claim p who) t t' a.1 b.1 a.2 b.2
  for_one (asked.Release token who) t t' a b = path_one token a.0 b.0 (λ p. made.Release p who) t t' a.1 b.1 a.2 b.2
  for_one (asked.Transfer token who to) t t' a b =
      path_one token a.0 b.0 (λ p. made.Transfer p who to) t t' a.1 b.1 a.2 b.2
  for_one (asked.Take token) t t' a b =
      let path = spells_one (between token) a.0 b.0 a.2 b.2 in
      let item : a.3.item ≡ b.3.item = some_one (item_of c b.0) a.3.item b.3.item (ap (item_of c) (sym path)
      ∙ a.3.there) b.3.there in
      a.4 ∙ ap₂ made.Take path (a.3.next ∙ ap (λ (e : Entry). next_take e.state) item ∙ sym b.3.next) ∙ sym b.4
  for_one (asked.Done token who outcome) t t' a b =
      let path = spells_one (between token) a.0 b.0 a.2 b.2 in
      a.4 ∙ ap₂ (λ p s. made.Done p who s) path (settings_one a.0 b.0 outcome a.1 b.1 path a.3 b.3) ∙ sym b.4
  for_one (asked.Force token outcome) t t' a b =
      let path = spells_one (between token) a.0 b.0 a.2 b.2 in
      a.4 ∙ ap₂ made.Force path (settings_one a.0 b.0 outcome a.1 b.1 path a.3 b.3) ∙ sym b.4
  for_one (asked.Restart token) t t' a b = path_one token a.0 b.0 made.Restart t t' a.1 b.1 a.2 b.2
  for_one (asked.Suspend root) t t' a b = a ∙ sym b
  for_one (asked.Resume root) t t' a b = a ∙ sym b
  for_one (asked.Terminate root) t t' a b = a ∙ sym b
  for_one (asked.Delete root) t t' a b = a ∙ sym b
  for_one (asked.Clock minutes) t t' a b = a ∙ sym b
  for_one asked.Checkpoint t t' a b = absurd a
  for_one (asked.Ask query) t t' a b = absurd a

  -- ---- the verdict

  pub verdict_one : (command : Command) (v w : Verdict) → IsVerdict c command v → IsVerdict c command w → v ≡ w
  verdict_one command (verdict.Do t) (verdict.Do t') a b = ap verdict.Do (for_one command t t' a.2 b.2)
  verdict_one command (verdict.Do t) (verdict.Same root) a b = absurd (never (same_root c command) root a.0 b)
  verdict_one command (verdict.Do t) (verdict.Refused r) a b =
      absurd (let e : None ≡ Some r = refusal_one command None (Some r) a.1 b.1 in cc)
  verdict_one command (verdict.Same root) (verdict.Do t) a b = absurd (never (same_root c command) root b.0 a)
  verdict_one command (verdict.Same root) (verdict.Same root') a b =
      ap verdict.Same (some_one (same_root c command) root root' a b)
  verdict_one command (verdict.Same root) (verdict.Refused r) a b = absurd (never (same_root c command) root b.0 a)
  verdict_one command (verdict.Refused r) (verdict.Do t) a b =
      absurd (let e : None ≡ Some r = refusal_one command None (Some r) b.1 a.1 in cc)
  verdict_one command (verdict.Refused r) (verdict.Same root) a b = absurd (never (same_root c command) root a.0 b)
  verdict_one command (verdict.Refused r) (verdict.Refused r') a b =
      ap verdict.Refused (let e : Some r ≡ Some r' = refusal_one command (Some r) (Some r') a.1 b.1 in cc)

-- ---- the reply

note_one : (s s' : State) (t : Transaction) (n n' : Note) → IsNoteOf s t s' n → IsNoteOf s t s' n' → n ≡ n'
note_one s s' (made.Import text) n n' a b = a ∙ sym b
note_one s s' (made.Start root process version starter key settings) n n' a b = a ∙ sym b
note_one s s' (made.Turn queue message) n n' a b = a ∙ sym b
note_one s s' (made.Claim item who) n n' a b = a ∙ sym b
note_one s s' (made.Release item who) n n' a b = a ∙ sym b
note_one s s' (made.Transfer item who to) n n' a b = a ∙ sym b
note_one s s' (made.Take item take) n n' a b = a ∙ sym b
note_one s s' (made.Done item who settings) n n' a b = a ∙ sym b
note_one s s' (made.Force item settings) n n' a b = a ∙ sym b
note_one s s' (made.Restart item) n n' a b = a ∙ sym b
note_one s s' (made.Suspend root) n n' a b = a ∙ sym b
note_one s s' (made.Resume root) n n' a b = a ∙ sym b
note_one s s' (made.Terminate root) n n' a b = a ∙ sym b
note_one s s' (made.Delete root) n n' a b = a ∙ sym b
note_one s s' (made.Clock minutes) n n' a b = a ∙ sym b

-- ---- the command

module _ (s s' s'' : State) (command : Command) where
  comes_one : (v : Verdict) (reply reply' : List ℕ) → Comes s v s' reply → Comes s v s'' reply'
      → (s' ≡ s'') × (reply ≡ reply')
  comes_one (verdict.Do t) reply reply' a b =
      let same : s' ≡ s'' = step s s' s'' t a.1 b.1 in
      let note = note_one s s'' t a.0 b.0 (subst (λ m. IsNoteOf s t m a.0) same a.2) b.2 in
      (same, a.3 ∙ ap (λ n. applied_text (record { number = s.transactions + 1; note = n })) note ∙ sym b.3)
  comes_one (verdict.Same root) reply reply' a b = (a.0 ∙ sym b.0, a.1 ∙ sym b.1)
  comes_one (verdict.Refused r) reply reply' a b = (a.0 ∙ sym b.0, a.1 ∙ sym b.1)

  pub commands : (reply reply' : List ℕ) → IsObeyed s s' command reply → IsObeyed s s'' command reply'
      → (s' ≡ s'') × (reply ≡ reply')
  commands reply reply' a b =
      let same = verdict_one s command a.0 b.0 a.1 b.1 in
      comes_one b.0 reply reply' (subst (λ v. Comes s v s' reply) same a.2) b.2
