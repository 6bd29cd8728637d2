-- The engine's table of keys says what the live transactions say: before any transaction, and after each one more.
use Rattle.std.proofs.Common.{◌≡◌, ℕ, ◌+◌, ◌==◌, Bool, true, false, ◌||◌, if◌then◌else◌, List, [], ◌∷◌, ◌++◌, Option}
use Rattle.std.proofs.Common.{Some, None, All, refl, sym, ap, subst, ◌∙◌, inl, inr, bytes_eq}
use Rattle.std.specs.Option.{option_or, option_map, option_and_then}
use Rattle.std.proofs.lemmas.Bool.Decides.{eqb_tells}
use Rattle.std.proofs.lemmas.List.Elements.{All-nil, All-cons, All-head, All-tail, All-push, All-weaker}
use Rattle.std.proofs.lemmas.Option.{none-some}
use Rattle.std.proofs.lemmas.Slice.Eq.{bytes_eq-Decides}
use Rattle.core_laws.specs.RightStates.{IsRightState, has_start}
use Rattle.flow_core.specs.Admitting.{root_with, IsAdmitted}
use Rattle.flow_core.specs.Answers.{root_at}
use Rattle.flow_core.specs.Allowing.{IsAllowed, IsBlank, IsFree}
use Rattle.flow_core.specs.Judgements.{IsVerdict}
use Rattle.flow_core.specs.Keys.{holder, key_of, is_key, KeepsKeys, StartsKey, FreesKey, KeysAfter}
use Rattle.flow_core.specs.Refusals.{same_root}
use Rattle.flow_core.specs.Summaries.{Summary, root_about, is_root, started, without_root, live_after}
use Rattle.flow_core.specs.declared.judging.Verdict.TheVariants.{Do}
use Rattle.flow_core.specs.declared.state.Core.{Core}
use Rattle.flow_core.specs.declared.state.Root.{Root}
use Rattle.flow_model.specs.declared.commands.Command.{Command}
use Rattle.flow_model.specs.declared.commands.Command.TheVariants as asked
use Rattle.flow_model.specs.declared.commands.RawSetting.{RawSetting}
use Rattle.flow_model.specs.declared.names.Name.{Name}
use Rattle.flow_model.specs.declared.transactions.Numbered.{Numbered}
use Rattle.flow_model.specs.declared.transactions.Setting.{Setting}
use Rattle.flow_model.specs.declared.transactions.Transaction.{Transaction}
use Rattle.flow_model.specs.declared.transactions.Transaction.TheVariants.{Import, Start, Turn, Claim, Release}
use Rattle.flow_model.specs.declared.transactions.Transaction.TheVariants.{Transfer, Take, Done, Force, Restart}
use Rattle.flow_model.specs.declared.transactions.Transaction.TheVariants.{Suspend, Resume, Terminate, Delete, Clock}
use Rattle.machine.specs.States.{has_key, keyed_root, root_with_key}
use Rattle.view_laws.specs.Runs.{Event}
use Rattle.machine_laws.specs.Applied.{Applied, Adopted, IsGood}
use Rattle.machine_laws.specs.Keyed.{HasItsKey, AreKeyed, HasFreeKey}

-- ---- choices

first_so : {X : Type 0} (b : Bool) (x y : X) → b ≡ true → (if b then x else y) ≡ x
first_so b x y is = ap (λ c. if c then x else y) is

second_so : {X : Type 0} (b : Bool) (x y : X) → b ≡ false → (if b then x else y) ≡ y
second_so b x y is = ap (λ c. if c then x else y) is

or_none : (o : Option ℕ) → o ≡ option_or o None
or_none None = refl
or_none (Some root) = refl

or_so : (a b c : Option ℕ) → option_or (option_or a b) c ≡ option_or a (option_or b c)
or_so None b c = refl
or_so (Some root) b c = refl

neither : (a b : Bool) → (a || b) ≡ false → (a ≡ false) × (b ≡ false)
neither true b is = let never : ⊥ = cc in absurd never
neither false b is = (refl, is)

never_both : {X : Type 0} (b : Bool) → b ≡ true → b ≡ false → X
never_both b so not_so = let e : true ≡ false = sym so ∙ not_so in let never : ⊥ = cc in absurd never

-- the number of a root is itself
itself : (root : ℕ) → (root == root) ≡ true
itself root = elim (eqb_tells root root) [
  | inl is ↦ is.0
  | inr other ↦ absurd (other.1 refl)
]

differs : (a b : ℕ) → (a ≡ b → ⊥) → (a == b) ≡ false
differs a b apart = elim (eqb_tells a b) [
  | inl is ↦ absurd (apart is.1)
  | inr other ↦ other.0
]

-- ---- keys

-- a key that is found is the one that was looked for
is_key_says : (key : Name) (o : Option Name) → is_key key o ≡ true → o ≡ Some key
is_key_says key None is = let never : ⊥ = cc in absurd never
is_key_says key (Some held) is = ap Some ((bytes_eq-Decides held key).0 is)

is_key_own : (key : Name) (o : Option Name) → o ≡ Some key → is_key key o ≡ true
is_key_own key o is = ap (is_key key) is ∙ (bytes_eq-Decides key key).1 refl

-- the engine and the machine compare keys in the same way
same_test : (key : Name) (o : Option Name) → is_key key o ≡ has_key key o
same_test key None = refl
same_test key (Some held) = refl

-- ---- lists of live transactions

-- the root of a key after one transaction more
one_more : (key : Name) (live : List Numbered) (n : Numbered)
    → root_with_key key (live ++ n ∷ []) ≡ option_or (keyed_root key n.transaction) (root_with_key key live)
one_more key [] n = or_none (keyed_root key n.transaction)
one_more key (m ∷ live) n =
    ap (λ o. option_or o (keyed_root key m.transaction)) (one_more key live n)
    ∙ or_so (keyed_root key n.transaction) (root_with_key key live) (keyed_root key m.transaction)

-- a START goes on having its key where the key of its root stays
same_key : (key_of_root key_then : ℕ → Option Name) (t : Transaction)
    → ((root : ℕ) → started t ≡ Some root → key_then root ≡ key_of_root root) → HasItsKey key_of_root t
    → HasItsKey key_then t
same_key key_of_root key_then (Import text) same has = tt
same_key key_of_root key_then (Start root process version starter key settings) same has = same root refl ∙ has
same_key key_of_root key_then (Turn queue message) same has = tt
same_key key_of_root key_then (Claim item who) same has = tt
same_key key_of_root key_then (Release item who) same has = tt
same_key key_of_root key_then (Transfer item who to) same has = tt
same_key key_of_root key_then (Take item take) same has = tt
same_key key_of_root key_then (Done item who settings) same has = tt
same_key key_of_root key_then (Force item settings) same has = tt
same_key key_of_root key_then (Restart item) same has = tt
same_key key_of_root key_then (Suspend root) same has = tt
same_key key_of_root key_then (Resume root) same has = tt
same_key key_of_root key_then (Terminate root) same has = tt
same_key key_of_root key_then (Delete root) same has = tt
same_key key_of_root key_then (Clock minutes) same has = tt

-- a transaction has no root under a key where it starts no root that has the key
not_keyed : (key_of_root : ℕ → Option Name) (key : Name) (t : Transaction) → HasItsKey key_of_root t
    → ((root : ℕ) → started t ≡ Some root → key_of_root root ≡ Some key → ⊥) → keyed_root key t ≡ None
not_keyed key_of_root key (Import text) has none = refl
not_keyed key_of_root key (Start root process version starter named settings) has none = go (has_key key named) refl
  where
    go : (b : Bool) → has_key key named ≡ b → (if has_key key named then Some root else None) ≡ None
    go true is = absurd (none root refl (has ∙ is_key_says key named (same_test key named ∙ is)))
    go false is = second_so (has_key key named) (Some root) None is
not_keyed key_of_root key (Turn queue message) has none = refl
not_keyed key_of_root key (Claim item who) has none = refl
not_keyed key_of_root key (Release item who) has none = refl
not_keyed key_of_root key (Transfer item who to) has none = refl
not_keyed key_of_root key (Take item take) has none = refl
not_keyed key_of_root key (Done item who settings) has none = refl
not_keyed key_of_root key (Force item settings) has none = refl
not_keyed key_of_root key (Restart item) has none = refl
not_keyed key_of_root key (Suspend root) has none = refl
not_keyed key_of_root key (Resume root) has none = refl
not_keyed key_of_root key (Terminate root) has none = refl
not_keyed key_of_root key (Delete root) has none = refl
not_keyed key_of_root key (Clock minutes) has none = refl

-- a START is about the root that it starts
start_about : (t : Transaction) (root : ℕ) → started t ≡ Some root → root_about t ≡ Some root
start_about (Import text) root is = absurd (none-some root is)
start_about (Start r process version starter key settings) root is = is
start_about (Turn queue message) root is = absurd (none-some root is)
start_about (Claim item who) root is = absurd (none-some root is)
start_about (Release item who) root is = absurd (none-some root is)
start_about (Transfer item who to) root is = absurd (none-some root is)
start_about (Take item take) root is = absurd (none-some root is)
start_about (Done item who settings) root is = absurd (none-some root is)
start_about (Force item settings) root is = absurd (none-some root is)
start_about (Restart item) root is = absurd (none-some root is)
start_about (Suspend r) root is = absurd (none-some root is)
start_about (Resume r) root is = absurd (none-some root is)
start_about (Terminate r) root is = absurd (none-some root is)
start_about (Delete r) root is = absurd (none-some root is)
start_about (Clock minutes) root is = absurd (none-some root is)

-- what is about a root or not tells whether a root is that one
together : (root r : ℕ) (o : Option ℕ) → o ≡ Some r → is_root root o ≡ true → r ≡ root
together root r o at is = elim (eqb_tells r root) [
  | inl same ↦ same.1
  | inr other ↦ never_both (is_root root o) is (ap (is_root root) at ∙ other.0)
]

apart : (root r : ℕ) (o : Option ℕ) → o ≡ Some r → is_root root o ≡ false → root ≡ r → ⊥
apart root r o at is same = never_both (is_root root o) (ap (is_root root) at ∙ (ap (λ n. r == n) same ∙ itself r)) is

-- ---- what is added

module _ (key_of_root key_then : ℕ → Option Name) where
  abbrev Has : Numbered → Type 0
  Has n = HasItsKey key_of_root n.transaction

  abbrev HasThen : Numbered → Type 0
  HasThen n = HasItsKey key_then n.transaction

  -- all Starts go on having their keys where all keys stay
  pub all_stay : ((root : ℕ) → key_then root ≡ key_of_root root) → (live : List Numbered) → All Has live
      → All HasThen live
  all_stay same live has =
      All-weaker Has HasThen (λ n its. same_key key_of_root key_then n.transaction (λ root at. same root) its) live has

  -- so they do where only the key of a root changes that none of them starts
  pub others_stay : (root : ℕ) → ((r : ℕ) → (root ≡ r → ⊥) → key_then r ≡ key_of_root r) → (live : List Numbered)
      → has_start root live ≡ false → All Has live → All HasThen live
  others_stay root same [] unbegun has = All-nil HasThen
  others_stay root same (n ∷ live) unbegun has =
      let both = neither (is_root root (started n.transaction)) (has_start root live) unbegun in
      All-cons HasThen n live
      (same_key key_of_root key_then n.transaction
      (λ r at. same r (apart root r (started n.transaction) at both.0)) (All-head Has n live has))
      (others_stay root same live both.1 (All-tail Has n live has))

  -- so they do where those about that root are taken away
  pub left_stay : (root : ℕ) → ((r : ℕ) → (root ≡ r → ⊥) → key_then r ≡ key_of_root r) → (live : List Numbered)
      → All Has live → All HasThen (without_root root live)
  left_stay root same [] has = All-nil HasThen
  left_stay root same (n ∷ live) has =
      go (is_root root (root_about n.transaction)) refl (left_stay root same live (All-tail Has n live has))
    where
      go : (b : Bool) → is_root root (root_about n.transaction) ≡ b → All HasThen (without_root root live)
          → All HasThen (without_root root (n ∷ live))
      go true is rest = rw is rest
      go false is rest =
          rw is (All-cons HasThen n (without_root root live)
          (same_key key_of_root key_then n.transaction
          (λ r at. same r (apart root r (root_about n.transaction) (start_about n.transaction r at) is))
          (All-head Has n live has)) rest)

-- ---- what is taken away

module _ (key_of_root : ℕ → Option Name) (key : Name) (root : ℕ) where
  abbrev HasOwn : Numbered → Type 0
  HasOwn n = HasItsKey key_of_root n.transaction

  -- no root is left under a key that only the root has whose transactions are taken away
  pub none_left : ((r : ℕ) → key_of_root r ≡ Some key → r ≡ root) → (live : List Numbered) → All HasOwn live
      → root_with_key key (without_root root live) ≡ None
  none_left only [] has = refl
  none_left only (n ∷ live) has =
      go (is_root root (root_about n.transaction)) refl (none_left only live (All-tail HasOwn n live has))
    where
      go : (b : Bool) → is_root root (root_about n.transaction) ≡ b
          → root_with_key key (without_root root live) ≡ None
          → root_with_key key (without_root root (n ∷ live)) ≡ None
      go true is rest = rw is rest
      go false is rest =
          rw is (ap (λ o. option_or o (keyed_root key n.transaction)) rest
          ∙ not_keyed key_of_root key n.transaction (All-head HasOwn n live has)
          (λ r at named. apart root r (root_about n.transaction) (start_about n.transaction r at) is
          (sym (only r named))))

  -- the root of each key stays that the root hasn't whose transactions are taken away
  pub others_left : (key_of_root root ≡ Some key → ⊥) → (live : List Numbered) → All HasOwn live
      → root_with_key key (without_root root live) ≡ root_with_key key live
  others_left unkeyed [] has = refl
  others_left unkeyed (n ∷ live) has =
      go (is_root root (root_about n.transaction)) refl (others_left unkeyed live (All-tail HasOwn n live has))
    where
      go : (b : Bool) → is_root root (root_about n.transaction) ≡ b
          → root_with_key key (without_root root live) ≡ root_with_key key live
          → root_with_key key (without_root root (n ∷ live)) ≡ root_with_key key (n ∷ live)
      go true is rest =
          rw is (rest ∙ (or_none (root_with_key key live)
          ∙ ap (option_or (root_with_key key live)) (sym (not_keyed key_of_root key n.transaction
          (All-head HasOwn n live has) (λ r at named. unkeyed (ap key_of_root
          (sym (together root r (root_about n.transaction) (start_about n.transaction r at) is)) ∙ named))))))
      go false is rest = rw is (ap (λ o. option_or o (keyed_root key n.transaction)) rest)

-- ---- one transaction

-- the root under a key after a START, as the engine and as the machine say it
started_so : (key : Name) (named : Option Name) (root : ℕ) (o : Option ℕ)
    → (if is_key key named then Some root else o) ≡ option_or (if has_key key named then Some root else None) o
started_so key None root o = refl
started_so key (Some other) root o = go (bytes_eq other key)
  where
    go : (b : Bool) → (if b then Some root else o) ≡ option_or (if b then Some root else None) o
    go true = refl
    go false = refl

module _ (c c' : Core) (keyed : AreKeyed c) where
  -- all keys stay, and one transaction more names none
  kept : (n : Numbered) → ((key : Name) → keyed_root key n.transaction ≡ None) → HasItsKey (key_of c') n.transaction
      → KeepsKeys c c' → c'.live.items ≡ c.live.items ++ n ∷ [] → AreKeyed c'
  kept n none its keeps lives = record {
    holders = λ key.
        keeps.holders key ∙ keyed.holders key
        ∙ sym (ap (root_with_key key) lives ∙ (one_more key c.live.items n
        ∙ ap (λ o. option_or o (root_with_key key c.live.items)) (none key)));
    starts =
        subst (All (HasThen (key_of c) (key_of c'))) (sym lives)
        (All-push (HasThen (key_of c) (key_of c')) c.live.items n
        (all_stay (key_of c) (key_of c') keeps.keys c.live.items keyed.starts) its);
    held = λ root key has. keeps.holders key ∙ keyed.held root key (sym (keeps.keys root) ∙ has);
  }

  -- a root starts under a key that no live root has
  begun : (number root : ℕ) (process : Name) (version : ℕ) (starter : Name) (named : Option Name)
      (settings : List Setting) → has_start root c.live.items ≡ false → root_with c named ≡ None
      → StartsKey root named c c'
      → c'.live.items ≡ c.live.items ++ record {
        number = number;
        transaction = Start root process version starter named settings;
      } ∷ []
      → AreKeyed c'
  begun number root process version starter named settings unbegun free starts lives =
      let n : Numbered = record {
        number = number;
        transaction = Start root process version starter named settings;
      } in
      record {
        holders = λ key.
            starts.holders key ∙ (ap (λ o. if is_key key named then Some root else o) (keyed.holders key)
            ∙ (started_so key named root (root_with_key key c.live.items)
            ∙ sym (ap (root_with_key key) lives ∙ one_more key c.live.items n)));
        starts =
            subst (All (HasThen (key_of c) (key_of c'))) (sym lives)
            (All-push (HasThen (key_of c) (key_of c')) c.live.items n
            (others_stay (key_of c) (key_of c') root
            (λ r other. starts.keys r ∙ second_so (root == r) named (key_of c r) (differs root r other))
            c.live.items unbegun keyed.starts)
            (starts.keys root ∙ first_so (root == root) named (key_of c root) (itself root)));
        held = λ r key has. by_root r key (sym (starts.keys r) ∙ has);
      }
    where
      -- the key of another root isn't that of the new one
      unlike : (r : ℕ) (key : Name) → holder c key ≡ Some r → is_key key named ≡ false
      unlike r key held = go (is_key key named) refl
        where
          go : (b : Bool) → is_key key named ≡ b → is_key key named ≡ false
          go false is = is
          go true is =
              absurd (none-some r (sym (ap (root_with c) (sym (is_key_says key named is)) ∙ free) ∙ held))

      by_root : (r : ℕ) (key : Name) → (if root == r then named else key_of c r) ≡ Some key → holder c' key ≡ Some r
      by_root r key has = elim (eqb_tells root r) [
        | inl is ↦
            starts.holders key ∙ (first_so (is_key key named) (Some root) (holder c key)
            (is_key_own key named (sym (first_so (root == r) named (key_of c r) is.0) ∙ has)) ∙ ap Some is.1)
        | inr other ↦
            let held : holder c key ≡ Some r =
            keyed.held r key (sym (second_so (root == r) named (key_of c r) other.0) ∙ has) in
            starts.holders key
            ∙ (second_so (is_key key named) (Some root) (holder c key) (unlike r key held) ∙ held)
      ]

  -- a root is deleted, and its key is free
  gone : (root : ℕ) → FreesKey root c c' → c'.live.items ≡ without_root root c.live.items → AreKeyed c'
  gone root frees lives = record {
    holders = λ key. frees.holders key ∙ (by_key key (is_key key (key_of c root)) refl
        ∙ sym (ap (root_with_key key) lives));
    starts =
        subst (All (HasThen (key_of c) (key_of c'))) (sym lives)
        (left_stay (key_of c) (key_of c') root
        (λ r other. frees.keys r ∙ second_so (root == r) None (key_of c r) (differs root r other))
        c.live.items keyed.starts);
    held = λ r key has. by_root r key (sym (frees.keys r) ∙ has);
  }
    where
      -- roots with one key are one root
      one_root : (r other : ℕ) (key : Name) → key_of c r ≡ Some key → key_of c other ≡ Some key → r ≡ other
      one_root r other key a b =
          let e : Some r ≡ Some other = sym (keyed.held r key a) ∙ keyed.held other key b in cc

      by_key : (key : Name) (b : Bool) → is_key key (key_of c root) ≡ b
          → (if is_key key (key_of c root) then None else holder c key)
          ≡ root_with_key key (without_root root c.live.items)
      by_key key true is =
          first_so (is_key key (key_of c root)) None (holder c key) is
          ∙ sym (none_left (key_of c) key root
          (λ r named. one_root r root key named (is_key_says key (key_of c root) is)) c.live.items keyed.starts)
      by_key key false is =
          second_so (is_key key (key_of c root)) None (holder c key) is
          ∙ (keyed.holders key ∙ sym (others_left (key_of c) key root
          (λ named. never_both (is_key key (key_of c root)) (is_key_own key (key_of c root) named) is)
          c.live.items keyed.starts))

      by_root : (r : ℕ) (key : Name) → (if root == r then None else key_of c r) ≡ Some key → holder c' key ≡ Some r
      by_root r key has = elim (eqb_tells root r) [
        | inl is ↦ absurd (none-some key (sym (first_so (root == r) None (key_of c r) is.0) ∙ has))
        | inr other ↦
            let named : key_of c r ≡ Some key = sym (second_so (root == r) None (key_of c r) other.0) ∙ has in
            let unlike : is_key key (key_of c root) ≡ false =
            go r key named other.1 (is_key key (key_of c root)) refl in
            frees.holders key
            ∙ (second_so (is_key key (key_of c root)) None (holder c key) unlike ∙ keyed.held r key named)
      ]
        where
          go : (r : ℕ) (key : Name) → key_of c r ≡ Some key → (root ≡ r → ⊥) → (b : Bool)
              → is_key key (key_of c root) ≡ b → is_key key (key_of c root) ≡ false
          go r key named other false is = is
          go r key named other true is =
              absurd (other (one_root root r key (is_key_says key (key_of c root) is) named))

  -- a number that is free was started by no live transaction
  unstarted : (runs : ℕ → List Event) → IsRightState c runs → (root : ℕ) → IsFree c root
      → has_start root c.live.items ≡ false
  unstarted runs right root free = (right.told.untold root free).unbegun

  -- with each transaction that may come
  pub keyed_after : (runs : ℕ → List Event) (number : ℕ) → IsRightState c runs → (t : Transaction) → IsAllowed c t
      → IsGood c t → HasFreeKey c t → KeysAfter c t c' → c'.live.items ≡ live_after number t c.live.items
      → AreKeyed c'
  keyed_after runs number right (Import text) is good free keys lives =
      kept (record { number = number; transaction = Import text }) (λ key. refl) tt keys lives
  keyed_after runs number right (Start root process version starter key settings) is good free keys lives =
      begun number root process version starter key settings (unstarted runs right root is.free) free
      (keys good.0 good.1) lives
  keyed_after runs number right (Turn queue message) is good free keys lives =
      kept (record { number = number; transaction = Turn queue message }) (λ key. refl) tt keys lives
  keyed_after runs number right (Claim item who) is good free keys lives =
      kept (record { number = number; transaction = Claim item who }) (λ key. refl) tt keys lives
  keyed_after runs number right (Release item who) is good free keys lives =
      kept (record { number = number; transaction = Release item who }) (λ key. refl) tt keys lives
  keyed_after runs number right (Transfer item who to) is good free keys lives =
      kept (record { number = number; transaction = Transfer item who to }) (λ key. refl) tt keys lives
  keyed_after runs number right (Take item take) is good free keys lives =
      kept (record { number = number; transaction = Take item take }) (λ key. refl) tt keys lives
  keyed_after runs number right (Done item who settings) is good free keys lives =
      kept (record { number = number; transaction = Done item who settings }) (λ key. refl) tt keys lives
  keyed_after runs number right (Force item settings) is good free keys lives =
      kept (record { number = number; transaction = Force item settings }) (λ key. refl) tt keys lives
  keyed_after runs number right (Restart item) is good free keys lives =
      kept (record { number = number; transaction = Restart item }) (λ key. refl) tt keys lives
  keyed_after runs number right (Suspend root) is good free keys lives =
      kept (record { number = number; transaction = Suspend root }) (λ key. refl) tt keys lives
  keyed_after runs number right (Resume root) is good free keys lives =
      kept (record { number = number; transaction = Resume root }) (λ key. refl) tt keys lives
  keyed_after runs number right (Terminate root) is good free keys lives =
      kept (record { number = number; transaction = Terminate root }) (λ key. refl) tt keys lives
  keyed_after runs number right (Delete root) is good free keys lives = gone root keys lives
  keyed_after runs number right (Clock minutes) is good free keys lives =
      kept (record { number = number; transaction = Clock minutes }) (λ key. refl) tt keys lives

-- ---- the laws

pub applied_keyed : (c c' : Core) (t : Transaction) (runs : ℕ → List Event) → IsRightState c runs → IsAllowed c t
    → IsGood c t → HasFreeKey c t → AreKeyed c → Applied c t c' → AreKeyed c'
applied_keyed c c' t runs right is good free keyed applied =
    keyed_after c c' keyed runs (c.number + 1) right t is good free applied.keys
    (ap (λ (s : Summary). s.live) applied.came)

pub adopted_keyed : (c c' : Core) (number : ℕ) (t : Transaction) (runs : ℕ → List Event) → IsRightState c runs
    → IsAllowed c t → IsGood c t → HasFreeKey c t → AreKeyed c → Adopted c number t c' → AreKeyed c'
adopted_keyed c c' number t runs right is good free keyed adopted =
    keyed_after c c' keyed runs number right t is good free adopted.keys
    (ap (λ (s : Summary). s.live) adopted.taken)

-- ---- a blank state

pub blank_keyed : (c : Core) → IsBlank c → AreKeyed c
blank_keyed c blank = record {
  holders = λ key. unheld key ∙ sym (ap (root_with_key key) blank.live);
  starts = subst (All (λ n. HasItsKey (key_of c) n.transaction)) (sym blank.live)
      (All-nil (λ (n : Numbered). HasItsKey (key_of c) n.transaction));
  held = λ root key has. absurd (none-some key (sym (unnamed root) ∙ has));
}
  where
    unheld : (key : Name) → holder c key ≡ None
    unheld key = rw blank.keys refl

    unnamed : (root : ℕ) → key_of c root ≡ None
    unnamed root = go (root_at c root) (blank.roots root)
      where
        go : (o : Option Root) → option_map (λ r. r.instance) o ≡ None → option_and_then (λ r. r.key) o ≡ None
        go None is = refl
        go (Some r) is = absurd (none-some r.instance (sym is))

-- ---- what was tested

free_so : (c : Core) (process starter : Name) (key : Option Name) (written : List RawSetting)
    → same_root c (asked.Start process starter key written) ≡ None → root_with c key ≡ None
free_so c process starter None written is = refl
free_so c process starter (Some key) written is = is

pub verdict_free : (c : Core) (command : Command) (t : Transaction) → IsVerdict c command (Do t) → HasFreeKey c t
verdict_free c (asked.Import text) t is = subst (HasFreeKey c) (sym is.1) tt
verdict_free c (asked.Start process starter key written) t is =
    subst (HasFreeKey c) (sym is.1.3) (free_so c process starter key written is.3)
verdict_free c (asked.Turn queue) t is = subst (HasFreeKey c) (sym is.1.2) tt
verdict_free c asked.Drain t is = absurd is.1
verdict_free c (asked.Claim token who) t is = subst (HasFreeKey c) (sym is.1.2) tt
verdict_free c (asked.Release token who) t is = subst (HasFreeKey c) (sym is.1.2) tt
verdict_free c (asked.Transfer token who to) t is = subst (HasFreeKey c) (sym is.1.2) tt
verdict_free c (asked.Take token) t is = subst (HasFreeKey c) (sym is.1.4) tt
verdict_free c (asked.Done token who outcome) t is = subst (HasFreeKey c) (sym is.1.4) tt
verdict_free c (asked.Force token outcome) t is = subst (HasFreeKey c) (sym is.1.4) tt
verdict_free c (asked.Restart token) t is = subst (HasFreeKey c) (sym is.1.2) tt
verdict_free c (asked.Suspend root) t is = subst (HasFreeKey c) (sym is.1) tt
verdict_free c (asked.Resume root) t is = subst (HasFreeKey c) (sym is.1) tt
verdict_free c (asked.Terminate root) t is = subst (HasFreeKey c) (sym is.1) tt
verdict_free c (asked.Delete root) t is = subst (HasFreeKey c) (sym is.1) tt
verdict_free c (asked.Clock minutes) t is = subst (HasFreeKey c) (sym is.1) tt
verdict_free c asked.Checkpoint t is = absurd is.1
verdict_free c (asked.Ask query) t is = absurd is.1

pub admitted_free : (c : Core) (number : ℕ) (t : Transaction) → IsAdmitted c number t → HasFreeKey c t
admitted_free c number (Import text) is = tt
admitted_free c number (Start root process version starter key settings) is = is.due.unused
admitted_free c number (Turn queue message) is = tt
admitted_free c number (Claim item who) is = tt
admitted_free c number (Release item who) is = tt
admitted_free c number (Transfer item who to) is = tt
admitted_free c number (Take item take) is = tt
admitted_free c number (Done item by settings) is = tt
admitted_free c number (Force item settings) is = tt
admitted_free c number (Restart item) is = tt
admitted_free c number (Suspend root) is = tt
admitted_free c number (Resume root) is = tt
admitted_free c number (Terminate root) is = tt
admitted_free c number (Delete root) is = tt
admitted_free c number (Clock minutes) is = tt
