-- One record that is made again: the state behind it, with other counts, and without a root.
use Rattle.std.proofs.Common.{◌≡◌, ◌≤◌, ℕ, ◌+◌, ◌-◌, ◌==◌, max, Bool, true, false, not, cond, if◌then◌else◌, Option}
use Rattle.std.proofs.Common.{Some, None, List, [], ◌∷◌, ◌++◌, length, refl, ap, sym, ◌∙◌, arith}
use Rattle.std.proofs.Common.{append-nil, inl, inr}
use Rattle.std.proofs.lemmas.Bool.Decides.{eqb_tells}
use Rattle.std.proofs.lemmas.List.Elements.{filter-append}
use Rattle.std.specs.List.{filter}
use Rattle.flow_model.specs.declared.graphs.Library.{Library}
use Rattle.flow_model.specs.declared.instances.Message.{Message}
use Rattle.flow_model.specs.declared.transactions.Numbered.{Numbered}
use Rattle.flow_model.specs.declared.transactions.Transaction.{Transaction}
use Rattle.flow_model.specs.declared.transactions.Transaction.TheVariants.{Import, Start, Turn, Claim, Release}
use Rattle.flow_model.specs.declared.transactions.Transaction.TheVariants.{Transfer, Take, Done, Force, Restart}
use Rattle.flow_model.specs.declared.transactions.Transaction.TheVariants.{Suspend, Resume, Terminate, Delete, Clock}
use Rattle.recover_queue.specs.Queues.{root_of}
use Rattle.machine.specs.Imports.{Added, nothing_added, with_added, Adds}
use Rattle.machine.specs.Queues.{queue_in, put_in, taken_by}
use Rattle.machine.specs.Scripts.{StepsAs}
use Rattle.machine.specs.States.{Root, State, templates, graph_of_root}
use Rattle.machine.specs.Steps.{After, becomes, root_about, is_root, given_by, roots_after, queue_then, queues_after}
use Rattle.machine.specs.Steps.{clock_after}
use Rattle.machine.specs.Steps.{started, live_by, last_root_by, after}
use Rattle.compaction_laws.specs.Compact.{counting, IsAtFront, IsInPlace, IsRemade}
use Rattle.compaction_laws.proofs.Alike.{SameAt, becomes_alike, becomes_own}
use Rattle.compaction_laws.proofs.Forgetting.{is_apart, forget, other_root, same_apart, same_test, never}
use Rattle.compaction_laws.proofs.Judged.{IsApart, judged_apart}
use Rattle.compaction_laws.proofs.Own.{AreOf}
use Rattle.compaction_laws.proofs.Queues.{passing, passing_length, PassAlike, NonePass, put_all, skip_all}
use Rattle.compaction_laws.proofs.Queues.{taken_passing, taken_failing, front_kept, is_of_other}

-- ---- with other counts

-- the counts matter to no root, and to no queue
same_itself : (s : State) (a b : ℕ) (o : Option ℕ) → SameAt o s (counting a b s)
same_itself s a b None = tt
same_itself s a b (Some root) = refl

module _ (s : State) (a b : ℕ) (t : Transaction) where
  becomes_counted : (r : Option Root) → becomes s t r ≡ becomes (counting a b s) t r
  becomes_counted r = becomes_alike s (counting a b s) t refl refl (same_itself s a b (root_about t)) r

  pub roots_counted : roots_after s t ≡ roots_after (counting a b s) t
  roots_counted = λ i root.
      if is_root root (root_about t) then (becomes_counted (s.roots root) i).root else s.roots root

  given_counted : (o : Option ℕ) → given_by s t o ≡ given_by (counting a b s) t o
  given_counted None = refl
  given_counted (Some root) = ap (λ (x : After). x.given) (becomes_counted (s.roots root))

  pub queues_counted : queues_after s t ≡ queues_after (counting a b s) t
  queues_counted = λ i. put_in (queue_then (templates s) (length s.queues) (roots_counted i))
      (given_counted (root_about t) i) (taken_by t s.queues)

-- ---- the state behind a record

-- the state behind a record, where this is what it adds to the library: its counts stay, and the record is live
abbrev pub kept_after : Added → Numbered → State → State
kept_after added n s = record s {
  library = with_added added s.library;
  clock = clock_after n.transaction s.clock;
  roots = roots_after s n.transaction;
  queues = queues_after s n.transaction;
  live = s.live ++ n ∷ [];
}

-- a state is the one behind a record
pub record StandsAfter (n : Numbered) (s s' : State) : Type 0 where
  pub added : Added
  pub adds : Adds s.library n.transaction added
  pub next : s' ≡ kept_after added n s

module _ (s : State) (n : Numbered) (is : IsInPlace s n) where
  same_number : n.number - 1 + 1 ≡ n.number
  same_number = let least = is.least in omega arith

  most_number : max n.number s.transactions ≡ s.transactions
  most_number = let counted = is.counted in omega arith

  step_kept : (added : Added)
      → record (after added n.transaction (record s { transactions = n.number - 1 })) {
        transactions = max n.number s.transactions;
      } ≡ kept_after added n s
  step_kept added = λ i. record {
    library = with_added added s.library;
    clock = clock_after n.transaction s.clock;
    roots = sym (roots_counted s (n.number - 1) s.last_root n.transaction) i;
    queues = sym (queues_counted s (n.number - 1) s.last_root n.transaction) i;
    live = live_by (is.stays i) (same_number i) n.transaction s.live;
    limit = s.limit;
    transactions = most_number i;
    last_root = is.root i;
  }

  pub to_kept : (s' : State) → StepsAs n.number s n.transaction s' → StandsAfter n s s'
  to_kept s' (next, step, same) = record {
    added = step.added;
    adds = step.adds;
    next = same ∙ ap (λ (x : State). record x { transactions = max n.number s.transactions }) step.next
        ∙ step_kept step.added;
  }

  pub from_kept : (s' : State) → StandsAfter n s s' → StepsAs n.number s n.transaction s'
  from_kept s' stands = (
    after stands.added n.transaction (record s { transactions = n.number - 1 }),
    record { added = stands.added; adds = stands.adds; next = refl },
    stands.next ∙ sym (step_kept stands.added),
  )

-- more may be counted
pub counted_more : (s s' : State) (n : Numbered) (a b : ℕ) → StandsAfter n s s'
    → StandsAfter n (counting a b s) (counting a b s')
counted_more s s' n a b stands = record {
  added = stands.added;
  adds = stands.adds;
  next = ap (counting a b) stands.next ∙ (λ i. record {
    library = with_added stands.added s.library;
    clock = clock_after n.transaction s.clock;
    roots = roots_counted s a b n.transaction i;
    queues = queues_counted s a b n.transaction i;
    live = s.live ++ n ∷ [];
    limit = s.limit;
    transactions = a;
    last_root = b;
  });
}

-- a root that is counted goes on being counted
still_counted : (o : Option ℕ) (last most : ℕ) → last_root_by o last ≡ last → last ≤ most → last_root_by o most ≡ most
still_counted None last most counted less = refl
still_counted (Some root) last most counted less = omega arith

pub more_placed : (s : State) (n : Numbered) (a b : ℕ) → s.transactions ≤ a → s.last_root ≤ b → IsInPlace s n
    → IsInPlace (counting a b s) n
more_placed s n a b more more_roots is =
    let counted = is.counted in
    record {
      least = is.least;
      counted = omega (arith, counted, more);
      stays = is.stays;
      root = still_counted (started n.transaction) s.last_root b is.root more_roots;
      front = is.front;
    }

pub more_remade : (s : State) (n : Numbered) (a b : ℕ) → s.transactions ≤ a → s.last_root ≤ b → IsRemade s n
    → IsRemade (counting a b s) n
more_remade s n a b more more_roots is = record {
  placed = more_placed s n a b more more_roots is.placed;
  last = is.last;
  command = is.command;
  judged = is.judged;
}

-- ---- a record about another root

passes_alike : (r root : ℕ) (f f' : Message → ℕ) (ms : List Message) → AreOf root ms → (root == r) ≡ false
    → ((m : Message) → root_of m ≡ root → f m ≡ f' m) → PassAlike (is_of_other r) f f' ms
passes_alike r root f f' [] of apart alike = tt
passes_alike r root f f' (m ∷ ms) of apart alike =
    (ap (λ k. not (k == r)) of.0 ∙ ap not apart, alike m of.0, passes_alike r root f f' ms of.1 apart alike)

taken_apart : (r : ℕ) (s : State) (t : Transaction) → IsAtFront s t → IsApart r t
    → passing (is_of_other r) (taken_by t s.queues) ≡ taken_by t (passing (is_of_other r) s.queues)
taken_apart r s (Turn queue m) front apart = taken_passing (is_of_other r) s.queues queue m front (ap not apart)
taken_apart r s (Import text) front apart = refl
taken_apart r s (Start root process version starter key settings) front apart = refl
taken_apart r s (Claim item who) front apart = refl
taken_apart r s (Release item who) front apart = refl
taken_apart r s (Transfer item who to) front apart = refl
taken_apart r s (Take item take) front apart = refl
taken_apart r s (Done item who settings) front apart = refl
taken_apart r s (Force item settings) front apart = refl
taken_apart r s (Restart item) front apart = refl
taken_apart r s (Suspend root) front apart = refl
taken_apart r s (Resume root) front apart = refl
taken_apart r s (Terminate root) front apart = refl
taken_apart r s (Delete root) front apart = refl
taken_apart r s (Clock minutes) front apart = refl

-- a root is no other one
apart_root : (r root : ℕ) (o : Option ℕ) → is_root r o ≡ false → (root == r) ≡ true → is_root root o ≡ false
apart_root r root o apart same = elim (eqb_tells root r) [
  | inl is ↦ ap (λ k. is_root k o) is.1 ∙ apart
  | inr other ↦ never (sym same ∙ other.0)
]

module _ (r : ℕ) (s : State) (t : Transaction) (apart : IsApart r t) where
  becomes_apart : (o : Option Root) → becomes s t o ≡ becomes (forget r s) t o
  becomes_apart o = becomes_alike s (forget r s) t refl refl (same_apart r s (root_about t) apart) o

  -- a root behind the record, by whether it is the one that is forgotten
  root_apart : (root : ℕ) (b : Bool) → (root == r) ≡ b → (if b then None else roots_after s t root)
      ≡ (if is_root root (root_about t) then (becomes (forget r s) t (if b then None else s.roots root)).root
      else (if b then None else s.roots root))
  root_apart root true same =
      sym (ap (λ c. if c then (becomes (forget r s) t None).root else None)
      (apart_root r root (root_about t) apart same))
  root_apart root false other = λ i.
      if is_root root (root_about t) then (becomes_apart (s.roots root) i).root else s.roots root

  roots_apart : (forget r (record s { roots = roots_after s t })).roots ≡ roots_after (forget r s) t
  roots_apart = λ i root. root_apart root (root == r) refl i

  -- a root that isn't forgotten is the same behind the record
  later_root : (root : ℕ) → (root == r) ≡ false → roots_after s t root ≡ roots_after (forget r s) t root
  later_root root other =
      sym (ap (λ b. if b then None else roots_after s t root) other) ∙ (λ i. roots_apart i root)

  given_apart : (o : Option ℕ) → is_root r o ≡ false → root_about t ≡ o → given_by s t o ≡ given_by (forget r s) t o
  given_apart None other same = refl
  given_apart (Some root) other same =
      ap (λ (x : After). x.given) (becomes_apart (s.roots root))
      ∙ ap (λ o. (becomes (forget r s) t o).given) (sym (other_root r root s other))

  abbrev queue_now : Message → ℕ
  queue_now = queue_then (templates s) (length s.queues) (roots_after s t)

  abbrev queue_left : Message → ℕ
  queue_left = queue_then (templates s) (length (passing (is_of_other r) s.queues)) (roots_after (forget r s) t)

  queue_alike : (root : ℕ) → (root == r) ≡ false → (m : Message) → root_of m ≡ root → queue_now m ≡ queue_left m
  queue_alike root other m of = λ i. queue_in (templates s) (sym (passing_length (is_of_other r) s.queues) i)
      (graph_of_root (templates s) (later_root (root_of m) (ap (λ k. k == r) of ∙ other) i)) m

  given_pass : (o : Option ℕ) → is_root r o ≡ false → root_about t ≡ o
      → PassAlike (is_of_other r) queue_now queue_left (given_by s t o)
  given_pass None other same = tt
  given_pass (Some root) other same =
      passes_alike r root queue_now queue_left (given_by s t (Some root))
      (becomes_own s t (s.roots root) root same) other
      (queue_alike root other)

  queues_apart : IsAtFront s t → passing (is_of_other r) (queues_after s t) ≡ queues_after (forget r s) t
  queues_apart front =
      put_all (is_of_other r) queue_now queue_left (given_by s t (root_about t)) (taken_by t s.queues)
      (given_pass (root_about t) apart refl)
      ∙ (λ i. put_in queue_left (given_apart (root_about t) apart refl i) (taken_apart r s t front apart i))

pub forgets_other : (r : ℕ) (n : Numbered) (s s' : State) → IsApart r n.transaction → IsAtFront s n.transaction
    → StandsAfter n s s' → StandsAfter n (forget r s) (forget r s')
forgets_other r n s s' apart front stands = record {
  added = stands.added;
  adds = stands.adds;
  next = ap (forget r) stands.next ∙ (λ i. record {
    library = with_added stands.added s.library;
    clock = clock_after n.transaction s.clock;
    roots = roots_apart r s n.transaction apart i;
    queues = queues_apart r s n.transaction apart front i;
    live = (filter-append (is_apart r) s.live (n ∷ [])
        ∙ ap (λ b. filter (is_apart r) s.live ++ cond (not b) (n ∷ []) []) apart) i;
    limit = s.limit;
    transactions = s.transactions;
    last_root = s.last_root;
  });
}

front_apart : (r : ℕ) (s : State) (t : Transaction) → IsApart r t → IsAtFront s t → IsAtFront (forget r s) t
front_apart r s (Turn queue m) apart front = front_kept (is_of_other r) s.queues queue m front (ap not apart)
front_apart r s (Import text) apart front = tt
front_apart r s (Start root process version starter key settings) apart front = tt
front_apart r s (Claim item who) apart front = tt
front_apart r s (Release item who) apart front = tt
front_apart r s (Transfer item who to) apart front = tt
front_apart r s (Take item take) apart front = tt
front_apart r s (Done item who settings) apart front = tt
front_apart r s (Force item settings) apart front = tt
front_apart r s (Restart item) apart front = tt
front_apart r s (Suspend root) apart front = tt
front_apart r s (Resume root) apart front = tt
front_apart r s (Terminate root) apart front = tt
front_apart r s (Delete root) apart front = tt
front_apart r s (Clock minutes) apart front = tt

pub other_placed : (r : ℕ) (s : State) (n : Numbered) → IsApart r n.transaction → IsInPlace s n
    → IsInPlace (forget r s) n
other_placed r s n apart is = record {
  least = is.least;
  counted = is.counted;
  stays = is.stays;
  root = is.root;
  front = front_apart r s n.transaction apart is.front;
}

pub other_remade : (r : ℕ) (s : State) (n : Numbered) → IsApart r n.transaction → IsRemade s n → IsRemade (forget r s) n
other_remade r s n apart is = record {
  placed = other_placed r s n apart is.placed;
  last = is.last;
  command = is.command;
  judged = judged_apart r (counting (n.number - 1) is.last s) is.command n.transaction is.placed.stays apart is.judged;
}

-- ---- a record about the root itself

-- a transaction is about a root
abbrev pub IsAbout : ℕ → Transaction → Type 0
IsAbout r t = is_root r (root_about t) ≡ true

about_none : (r : ℕ) → is_root r None ≡ true → ⊥
about_none r is = never (sym is)

about_one : (r : ℕ) (o : Option ℕ) → is_root r o ≡ true → o ≡ Some r
about_one r None is = absurd (about_none r is)
about_one r (Some root) is = elim (eqb_tells root r) [
  | inl same ↦ ap Some same.1
  | inr other ↦ never (sym is ∙ other.0)
]

-- it adds nothing to the library, and leaves the clock
adds_nothing : (r : ℕ) (t : Transaction) (library : Library) (added : Added) → IsAbout r t → Adds library t added
    → added ≡ nothing_added
adds_nothing r (Import text) library added about is = absurd (about_none r about)
adds_nothing r (Start root process version starter key settings) library added about is = is
adds_nothing r (Turn queue m) library added about is = is
adds_nothing r (Claim item who) library added about is = is
adds_nothing r (Release item who) library added about is = is
adds_nothing r (Transfer item who to) library added about is = is
adds_nothing r (Take item take) library added about is = is
adds_nothing r (Done item who settings) library added about is = is
adds_nothing r (Force item settings) library added about is = is
adds_nothing r (Restart item) library added about is = is
adds_nothing r (Suspend root) library added about is = is
adds_nothing r (Resume root) library added about is = is
adds_nothing r (Terminate root) library added about is = is
adds_nothing r (Delete root) library added about is = is
adds_nothing r (Clock minutes) library added about is = absurd (about_none r about)

clock_left : (r : ℕ) (t : Transaction) (clock : ℕ) → IsAbout r t → clock_after t clock ≡ clock
clock_left r (Import text) clock about = refl
clock_left r (Start root process version starter key settings) clock about = refl
clock_left r (Turn queue m) clock about = refl
clock_left r (Claim item who) clock about = refl
clock_left r (Release item who) clock about = refl
clock_left r (Transfer item who to) clock about = refl
clock_left r (Take item take) clock about = refl
clock_left r (Done item who settings) clock about = refl
clock_left r (Force item settings) clock about = refl
clock_left r (Restart item) clock about = refl
clock_left r (Suspend root) clock about = refl
clock_left r (Resume root) clock about = refl
clock_left r (Terminate root) clock about = refl
clock_left r (Delete root) clock about = refl
clock_left r (Clock minutes) clock about = absurd (about_none r about)

pub nothing_more : (added : Added) (library : Library) → added ≡ nothing_added → with_added added library ≡ library
nothing_more added library none =
    ap (λ (x : Added). with_added x library) none ∙ (λ i. record {
      templates = append-nil library.templates i;
      people = append-nil library.people i;
    })

none_pass : (r : ℕ) (ms : List Message) → AreOf r ms → NonePass (is_of_other r) ms
none_pass r [] of = tt
none_pass r (m ∷ ms) of = elim (eqb_tells (root_of m) r) [
  | inl is ↦ (ap not is.0, none_pass r ms of.1)
  | inr other ↦ absurd (other.1 of.0)
]

taken_about : (r : ℕ) (s : State) (t : Transaction) → IsAtFront s t → IsAbout r t
    → passing (is_of_other r) (taken_by t s.queues) ≡ passing (is_of_other r) s.queues
taken_about r s (Turn queue m) front about = taken_failing (is_of_other r) s.queues queue m front (ap not about)
taken_about r s (Import text) front about = refl
taken_about r s (Start root process version starter key settings) front about = refl
taken_about r s (Claim item who) front about = refl
taken_about r s (Release item who) front about = refl
taken_about r s (Transfer item who to) front about = refl
taken_about r s (Take item take) front about = refl
taken_about r s (Done item who settings) front about = refl
taken_about r s (Force item settings) front about = refl
taken_about r s (Restart item) front about = refl
taken_about r s (Suspend root) front about = refl
taken_about r s (Resume root) front about = refl
taken_about r s (Terminate root) front about = refl
taken_about r s (Delete root) front about = refl
taken_about r s (Clock minutes) front about = refl

module _ (r : ℕ) (s : State) (t : Transaction) (about : IsAbout r t) where
  one_root : root_about t ≡ Some r
  one_root = about_one r (root_about t) about

  root_about_it : (root : ℕ) (b : Bool) → (root == r) ≡ b
      → (if b then None else roots_after s t root) ≡ (if b then None else s.roots root)
  root_about_it root true same = refl
  root_about_it root false other =
      let away : is_root root (root_about t) ≡ false = ap (is_root root) one_root ∙ same_test r root ∙ other in
      ap (λ c. if c then (becomes s t (s.roots root)).root else s.roots root) away

  queues_about : IsAtFront s t → passing (is_of_other r) (queues_after s t) ≡ passing (is_of_other r) s.queues
  queues_about front =
      let now = queue_then (templates s) (length s.queues) (roots_after s t) in
      let given : given_by s t (root_about t) ≡ (becomes s t (s.roots r)).given = ap (given_by s t) one_root in
      ap (λ ms. passing (is_of_other r) (put_in now ms (taken_by t s.queues))) given
      ∙ skip_all (is_of_other r) now (becomes s t (s.roots r)).given (taken_by t s.queues)
      (none_pass r (becomes s t (s.roots r)).given (becomes_own s t (s.roots r) r one_root))
      ∙ taken_about r s t front about

pub forgets_own : (r : ℕ) (n : Numbered) (s s' : State) → IsAbout r n.transaction → IsAtFront s n.transaction
    → StandsAfter n s s' → forget r s' ≡ forget r s
forgets_own r n s s' about front stands = ap (forget r) stands.next ∙ (λ i. record {
  library = nothing_more stands.added s.library
      (adds_nothing r n.transaction s.library stands.added about stands.adds) i;
  clock = clock_left r n.transaction s.clock about i;
  roots = λ root. root_about_it r s n.transaction about root (root == r) refl i;
  queues = queues_about r s n.transaction about front i;
  live = (filter-append (is_apart r) s.live (n ∷ [])
      ∙ ap (λ b. filter (is_apart r) s.live ++ cond (not b) (n ∷ []) []) about
      ∙ append-nil (filter (is_apart r) s.live)) i;
  limit = s.limit;
  transactions = s.transactions;
  last_root = s.last_root;
})
