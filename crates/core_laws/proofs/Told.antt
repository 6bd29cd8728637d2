-- The runs of a state complete what its live transactions complete.
use Rattle.std.proofs.Common.{◌≡◌, ℕ, ◌==◌, ◌≤◌, Bool, true, false, if◌then◌else◌, List, [], ◌∷◌, ◌++◌, Option, Some, None, refl, ap, sym, subst, ◌∙◌, inl, inr, append-nil}
use Rattle.std.proofs.lemmas.Bool.Decides.{eqb_tells}
use Rattle.std.proofs.lemmas.List.{append_assoc}
use Rattle.std.proofs.lemmas.Option.{none-some}
use Rattle.std.specs.List.{filter_map}
use Rattle.flow_core.specs.Allowing.{IsFree, CountsRoot, IsAllowed}
use Rattle.flow_core.specs.Allowing.{IsOpen as IsOpenItem}
use Rattle.flow_core.specs.Answers.{instance_of}
use Rattle.flow_core.specs.Driving.{templates, IfLive, item_of, Drives}
use Rattle.flow_core.specs.Facts.{fact_about}
use Rattle.flow_core.specs.Summaries.{root_about, is_root, without_root, live_after}
use Rattle.flow_core.specs.declared.state.Core.{Core}
use Rattle.flow_model.specs.declared.instances.Message.{Message}
use Rattle.flow_model.specs.declared.instances.Path.{Path}
use Rattle.flow_model.specs.declared.transactions.Numbered.{Numbered}
use Rattle.flow_model.specs.declared.transactions.Setting.{Setting}
use Rattle.flow_model.specs.declared.transactions.Transaction.{Transaction}
use Rattle.flow_model.specs.declared.transactions.Transaction.TheVariants.{Import, Start, Turn, Claim, Release, Transfer, Take, Done, Force, Restart, Suspend, Resume, Terminate, Delete, Clock}
use Rattle.library_laws.specs.Larger.{Agrees}
use Rattle.navigator.specs.declared.instance.Instance.{Instance}
use Rattle.recover_queue.specs.Queues.{root_of}
use Rattle.view_laws.specs.Messages.{Note}
use Rattle.view_laws.specs.Runs.{Event, Started, Held, Stopped}
use Rattle.core_laws.proofs.Said.{began_after, facts_after, unbegun_after}
use Rattle.core_laws.proofs.Staying.{if_live}
use Rattle.core_laws.specs.RightStates.{with_turn, with_output, note_now, runs_after, completed_items, completes_in, completed_by, has_start, AreRight, AreTold, AreCounted}

-- ---- lists of transactions

one_more : (root : ℕ) (live : List Numbered) (n : Numbered) → completed_by root (live ++ n ∷ []) ≡ completed_by root live ++ completes_in root n.transaction
one_more root [] n = append-nil (completes_in root n.transaction)
one_more root (m ∷ live) n =
    ap (λ l. completes_in root m.transaction ++ l) (one_more root live n)
    ∙ sym (append_assoc (completes_in root m.transaction) (completed_by root live) (completes_in root n.transaction))

-- a transaction about another root completes no item of this one
no_item : (r other : ℕ) (t : Transaction) → (other ≡ r → ⊥) → is_root r (root_about t) ≡ true → completes_in other t ≡ []
no_item r other (Import text) apart about = refl
no_item r other (Start root process version starter key settings) apart about = refl
no_item r other (Turn number message) apart about = refl
no_item r other (Claim item who) apart about = refl
no_item r other (Release item who) apart about = refl
no_item r other (Transfer item who to) apart about = refl
no_item r other (Take item take) apart about = refl
no_item r other (Done item who settings) apart about = elim (eqb_tells item.root other) [
  | inl is ↦ (elim (eqb_tells item.root r) [
    | inl same ↦ absurd (apart (sym is.1 ∙ same.1))
    | inr no_ ↦ let never : false ≡ true = sym no_.0 ∙ about in let n : ⊥ = cc in absurd n
  ])
  | inr no_ ↦ ap (λ b. if b then item ∷ [] else []) no_.0
]
no_item r other (Force item settings) apart about = elim (eqb_tells item.root other) [
  | inl is ↦ (elim (eqb_tells item.root r) [
    | inl same ↦ absurd (apart (sym is.1 ∙ same.1))
    | inr no_ ↦ let never : false ≡ true = sym no_.0 ∙ about in let n : ⊥ = cc in absurd n
  ])
  | inr no_ ↦ ap (λ b. if b then item ∷ [] else []) no_.0
]
no_item r other (Restart item) apart about = refl
no_item r other (Suspend root) apart about = refl
no_item r other (Resume root) apart about = refl
no_item r other (Terminate root) apart about = refl
no_item r other (Delete root) apart about = refl
no_item r other (Clock minutes) apart about = refl

without_other : (root other : ℕ) → (other ≡ root → ⊥) → (live : List Numbered) → completed_by other (without_root root live) ≡ completed_by other live
without_other root other apart [] = refl
without_other root other apart (n ∷ live) = go (is_root root (root_about n.transaction)) refl (without_other root other apart live)
  where
    go : (b : Bool) → is_root root (root_about n.transaction) ≡ b → completed_by other (without_root root live) ≡ completed_by other live
        → completed_by other (without_root root (n ∷ live)) ≡ completed_by other (n ∷ live)
    go true is rest = rw is (rest ∙ ap (λ l. l ++ completed_by other live) (sym (no_item root other n.transaction apart is)))
    go false is rest = rw is (ap (λ l. completes_in other n.transaction ++ l) rest)

nil_parts : {X : Type 0} (xs ys : List X) → xs ++ ys ≡ [] → (xs ≡ []) × (ys ≡ [])
nil_parts [] ys is = (refl, is)
nil_parts (x ∷ xs) ys is = let n : ⊥ = cc in absurd n

-- where transactions complete no item of a root, no part of them does
without_none : (root other : ℕ) (live : List Numbered) → completed_by other live ≡ [] → completed_by other (without_root root live) ≡ []
without_none root other [] is = refl
without_none root other (n ∷ live) is =
    let both = nil_parts (completes_in other n.transaction) (completed_by other live) is in
    go (is_root root (root_about n.transaction)) refl both.0 (without_none root other live both.1)
  where
    go : (b : Bool) → is_root root (root_about n.transaction) ≡ b → completes_in other n.transaction ≡ [] → completed_by other (without_root root live) ≡ []
        → completed_by other (without_root root (n ∷ live)) ≡ []
    go true at_ none rest = rw at_ rest
    go false at_ none rest = rw at_ (ap (λ l. l ++ completed_by other (without_root root live)) none ∙ rest)

-- ---- what a turn leaves

turn_completes : (o : Option Note) (h : List Event) → completed_items (with_turn o h) ≡ completed_items h
turn_completes None h = refl
turn_completes (Some note) h = refl

-- ---- one transaction

module _ (c c' : Core) (runs : ℕ → List Event) (told : AreTold c runs) where
  -- one that completes nothing, of a root that was live before it
  quiet_root : (root : ℕ) (h : List Event) (n : Numbered) → completes_in root n.transaction ≡ [] → completed_items h ≡ completed_items (runs root)
      → (i : Instance) → instance_of c root ≡ Some i → completed_items h ≡ completed_by root (c.live.items ++ n ∷ [])
  quiet_root root h n none same i live =
      same ∙ (told.told root i live).items
      ∙ sym (one_more root c.live.items n ∙ ap (λ l. completed_by root c.live.items ++ l) none ∙ append-nil (completed_by root c.live.items))

  -- all roots, where a transaction is about this one
  by_root : (about : ℕ) (n : Numbered) (after : List Event → List Event) → ((other : ℕ) → (other ≡ about → ⊥) → instance_of c' other ≡ instance_of c other)
      → ((other : ℕ) → (other ≡ about → ⊥) → completes_in other n.transaction ≡ [])
      → ((i' : Instance) → instance_of c' about ≡ Some i' → completed_items (after (runs about)) ≡ completed_by about (c.live.items ++ n ∷ []))
      → (root : ℕ) (i' : Instance) → instance_of c' root ≡ Some i'
      → completed_items (if about == root then after (runs root) else runs root) ≡ completed_by root (c.live.items ++ n ∷ [])
  by_root about n after others none here root i' live' = elim (eqb_tells about root) [
    | inl is ↦
        ap (λ b. completed_items (if b then after (runs root) else runs root)) is.0
        ∙ subst (λ (r : ℕ). (j : Instance) → instance_of c' r ≡ Some j → completed_items (after (runs r)) ≡ completed_by r (c.live.items ++ n ∷ [])) is.1 here i' live'
    | inr other ↦
        let apart : root ≡ about → ⊥ = λ e. other.1 (sym e) in
        ap (λ b. completed_items (if b then after (runs root) else runs root)) other.0
        ∙ quiet_root root (runs root) n (none root apart) refl i' (sym (others root apart) ∙ live')
  ]

  none_apart : (about other : ℕ) (t : Transaction) → root_about t ≡ Some about → (other ≡ about → ⊥) → completes_in other t ≡ []
  none_apart about other t is apart = no_item about other t apart (ap (is_root about) is ∙ same about)
    where
      same : (n : ℕ) → (n == n) ≡ true
      same n = elim (eqb_tells n n) [ inl e ↦ e.0 | inr no_ ↦ absurd (no_.1 refl) ]

  -- one that completes nothing, and leaves its root where it was live
  on_live : (about : ℕ) (n : Numbered) (after : List Event → List Event) (becomes : Instance → Instance → Type 0) (given : List Message) → root_about n.transaction ≡ Some about
      → completes_in about n.transaction ≡ []
      → ((h : List Event) → completed_items (after h) ≡ completed_items h)
      → ((other : ℕ) → (other ≡ about → ⊥) → instance_of c' other ≡ instance_of c other) → IfLive becomes given (instance_of c about) (instance_of c' about)
      → (root : ℕ) (i' : Instance) → instance_of c' root ≡ Some i'
      → completed_items (if about == root then after (runs root) else runs root) ≡ completed_by root (c.live.items ++ n ∷ [])
  on_live about n after becomes given is none same others here =
      by_root about n after others (λ other apart. none_apart about other n.transaction is apart) (λ i' live'.
      let found = if_live becomes given (instance_of c about) (instance_of c' about) here i' live' in
      quiet_root about (after (runs about)) n none (same (runs about)) found.0 found.1)

  -- a completion of an open item
  completes : (item : Path) (settings : List Setting) (n : Numbered) (after : List Event → List Event) → root_about n.transaction ≡ Some item.root
      → completes_in item.root n.transaction ≡ (if item.root == item.root then item ∷ [] else []) → ((h : List Event) → after h ≡ with_output item settings (item_of c item) h) → IsOpenItem c item
      → ((other : ℕ) → (other ≡ item.root → ⊥) → instance_of c' other ≡ instance_of c other) → (root : ℕ) (i' : Instance) → instance_of c' root ≡ Some i'
      → completed_items (if item.root == root then after (runs root) else runs root) ≡ completed_by root (c.live.items ++ n ∷ [])
  completes item settings n after is one same open_ others =
      by_root item.root n after others (λ other apart. none_apart item.root other n.transaction is apart) (λ i' live'.
      let h = runs item.root in
      ap completed_items (same h ∙ ap (λ o. with_output item settings o h) open_.there)
      ∙ ap (λ l. l ++ item ∷ []) (told.told item.root open_.root open_.live).items
      ∙ ap (λ l. completed_by item.root c.live.items ++ l) (sym (one ∙ kept item.root))
      ∙ sym (one_more item.root c.live.items n))
    where
      kept : (r : ℕ) → (if r == r then item ∷ [] else []) ≡ item ∷ []
      kept r = elim (eqb_tells r r) [ inl e ↦ ap (λ b. if b then item ∷ [] else []) e.0 | inr no_ ↦ absurd (no_.1 refl) ]

  told_after : (t : Transaction) (number : ℕ) → IsAllowed c t → (drives : Drives c t c') → (root : ℕ) (i' : Instance) → instance_of c' root ≡ Some i'
      → completed_items (runs_after c t runs root) ≡ completed_by root (live_after number t c.live.items)
  told_after (Import text) number allowed drives = λ root i' live'.
      quiet_root root (runs root) (record { number = number; transaction = Import text }) refl refl i' (sym (drives.roots.0 root) ∙ live')
  told_after (Start about process version starter key settings) number allowed drives =
      let t : Transaction = Start about process version starter key settings in
      let n : Numbered = record { number = number; transaction = t } in
      by_root about n (λ h. Started ∷ []) drives.roots.others (λ other apart. refl) (λ i' live'.
      sym (one_more about c.live.items n ∙ append-nil (completed_by about c.live.items) ∙ (told.untold about allowed.free).items))
  told_after (Turn number' message) number allowed drives =
      on_live (root_of message) (record { number = number; transaction = Turn number' message }) (λ h. with_turn (note_now c message) h) _ drives.given refl refl
      (turn_completes (note_now c message)) drives.roots.others drives.roots.here
  told_after (Claim item who) number allowed drives =
      on_live item.root (record { number = number; transaction = Claim item who }) (λ h. Held item.parts true ∷ h) _ drives.given refl refl (λ h. refl) drives.roots.others drives.roots.here.0
  told_after (Release item who) number allowed drives =
      on_live item.root (record { number = number; transaction = Release item who }) (λ h. Held item.parts false ∷ h) _ drives.given refl refl (λ h. refl) drives.roots.others drives.roots.here.0
  told_after (Transfer item who to) number allowed drives =
      on_live item.root (record { number = number; transaction = Transfer item who to }) (λ h. Held item.parts true ∷ h) _ drives.given refl refl (λ h. refl) drives.roots.others drives.roots.here.0
  told_after (Take item take) number allowed drives =
      on_live item.root (record { number = number; transaction = Take item take }) (λ h. Held item.parts true ∷ h) _ drives.given refl refl (λ h. refl) drives.roots.others drives.roots.here.0
  told_after (Restart item) number allowed drives =
      on_live item.root (record { number = number; transaction = Restart item }) (λ h. Held item.parts false ∷ h) _ drives.given refl refl (λ h. refl) drives.roots.others drives.roots.here.0
  told_after (Done item who settings) number allowed drives =
      completes item settings (record { number = number; transaction = Done item who settings }) (λ h. with_output item settings (item_of c item) h) refl refl (λ h. refl) allowed.asked drives.roots.others
  told_after (Force item settings) number allowed drives =
      completes item settings (record { number = number; transaction = Force item settings }) (λ h. with_output item settings (item_of c item) h) refl refl (λ h. refl) allowed.asked drives.roots.others
  told_after (Suspend root) number allowed drives =
      on_live root (record { number = number; transaction = Suspend root }) (λ h. h) _ drives.given refl refl (λ h. refl) drives.roots.others drives.roots.here.0
  told_after (Resume root) number allowed drives =
      on_live root (record { number = number; transaction = Resume root }) (λ h. h) _ drives.given refl refl (λ h. refl) drives.roots.others drives.roots.here.0
  told_after (Terminate root) number allowed drives =
      on_live root (record { number = number; transaction = Terminate root }) (λ h. Stopped ∷ h) _ drives.given refl refl (λ h. refl) drives.roots.others drives.roots.here.0
  told_after (Delete about) number allowed drives = λ root i' live'. elim (eqb_tells about root) [
    | inl is ↦ absurd (none-some i' (sym (subst (λ (r : ℕ). instance_of c' r ≡ None) is.1 drives.roots.here.0) ∙ live'))
    | inr other ↦
        let apart : root ≡ about → ⊥ = λ e. other.1 (sym e) in
        ap (λ b. completed_items (if b then runs root else runs root)) other.0
        ∙ (told.told root i' (sym (drives.roots.others root apart) ∙ live')).items
        ∙ sym (without_other about root apart c.live.items)
  ]
  told_after (Clock minutes) number allowed drives = λ root i' live'.
      quiet_root root (runs root) (record { number = number; transaction = Clock minutes }) refl refl i' (sym (drives.roots.0 root) ∙ live')

  -- ---- free numbers

  still_untold : (root : ℕ) (n : Numbered) → completes_in root n.transaction ≡ [] → IsFree c root → completed_by root (c.live.items ++ n ∷ []) ≡ []
  still_untold root n none free =
      one_more root c.live.items n ∙ ap (λ l. completed_by root c.live.items ++ l) none ∙ append-nil (completed_by root c.live.items) ∙ (told.untold root free).items

  -- a root that is live isn't free
  apart_of : (item : Path) → IsOpenItem c item → AreCounted c → (root : ℕ) → IsFree c root → root ≡ item.root → ⊥
  apart_of item open_ counted root free same = none-some open_.root (sym (sym (ap (instance_of c) same) ∙ (counted root free).absent) ∙ open_.live)

  untold_after : (t : Transaction) (number : ℕ) → IsAllowed c t → AreCounted c → CountsRoot c t c' → (root : ℕ) → IsFree c' root
      → completed_by root (live_after number t c.live.items) ≡ []
  untold_after (Import text) number allowed counted counts root free = still_untold root (record { number = number; transaction = Import text }) refl (counts.free root free)
  untold_after (Start about process version starter key settings) number allowed counted counts root free = still_untold root (record { number = number; transaction = Start about process version starter key settings }) refl (counts.free root free)
  untold_after (Turn queue message) number allowed counted counts root free = still_untold root (record { number = number; transaction = Turn queue message }) refl (counts.free root free)
  untold_after (Claim item who) number allowed counted counts root free = still_untold root (record { number = number; transaction = Claim item who }) refl (counts.free root free)
  untold_after (Release item who) number allowed counted counts root free = still_untold root (record { number = number; transaction = Release item who }) refl (counts.free root free)
  untold_after (Transfer item who to) number allowed counted counts root free = still_untold root (record { number = number; transaction = Transfer item who to }) refl (counts.free root free)
  untold_after (Take item take) number allowed counted counts root free = still_untold root (record { number = number; transaction = Take item take }) refl (counts.free root free)
  untold_after (Restart item) number allowed counted counts root free = still_untold root (record { number = number; transaction = Restart item }) refl (counts.free root free)
  untold_after (Suspend about) number allowed counted counts root free = still_untold root (record { number = number; transaction = Suspend about }) refl (counts.free root free)
  untold_after (Resume about) number allowed counted counts root free = still_untold root (record { number = number; transaction = Resume about }) refl (counts.free root free)
  untold_after (Terminate about) number allowed counted counts root free = still_untold root (record { number = number; transaction = Terminate about }) refl (counts.free root free)
  untold_after (Clock minutes) number allowed counted counts root free = still_untold root (record { number = number; transaction = Clock minutes }) refl (counts.free root free)
  untold_after (Done item who settings) number allowed counted counts root free =
      still_untold root (record { number = number; transaction = Done item who settings })
      (none_apart item.root root (Done item who settings) refl (apart_of item allowed.asked counted root (counts.free root free))) (counts.free root free)
  untold_after (Force item settings) number allowed counted counts root free =
      still_untold root (record { number = number; transaction = Force item settings })
      (none_apart item.root root (Force item settings) refl (apart_of item allowed.asked counted root (counts.free root free))) (counts.free root free)
  untold_after (Delete about) number allowed counted counts root free = without_none about root c.live.items (told.untold root (counts.free root free)).items

  pub are_told : (are : AreRight c runs) → Agrees (templates c) (templates c') → c.kept ≤ c.number → (t : Transaction) (number : ℕ) → IsAllowed c t → (drives : Drives c t c') → AreCounted c → CountsRoot c t c'
      → c'.live.items ≡ live_after number t c.live.items → AreTold c' (runs_after c t runs)
  are_told are library kept t number allowed drives counted counts lives = record {
    told = λ root i' live'. record {
      began = ap (has_start root) lives ∙ began_after c c' runs are told library t number drives root i' live';
      items = told_after t number allowed drives root i' live' ∙ ap (completed_by root) (sym lives);
      facts = facts_after c c' runs are told library t number counted allowed drives root i' live' ∙ ap (filter_map (fact_about c' root)) (sym lives);
    };
    untold = λ root free. record {
      unbegun = ap (has_start root) lives ∙ unbegun_after c c' runs are told library t number kept counts root free;
      items = ap (completed_by root) lives ∙ untold_after t number allowed counted counts root free;
    };
  }
