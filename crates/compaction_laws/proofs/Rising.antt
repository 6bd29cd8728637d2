-- Records that rise: the last number and root of those before one, and that it stands behind them.
use Rattle.std.proofs.Common.{◌≡◌, ℕ, ◌+◌, ◌<◌, ◌≤◌, Option, Some, None, List, [], ◌∷◌, ◌++◌, refl, ap, sym, subst}
use Rattle.std.proofs.Common.{arith}
use Rattle.std.specs.List.{All}
use Rattle.std.specs.Prelude.{IfSome}
use Rattle.std.proofs.lemmas.List.Elements.{All-nil, All-cons, All-head, All-tail}
use Rattle.flow_model.specs.declared.transactions.Numbered.{Numbered}
use Rattle.flow_model.specs.declared.transactions.Transaction.{Transaction}
use Rattle.flow_model.specs.declared.transactions.Transaction.TheVariants.{Start}
use Rattle.machine.specs.States.{State}
use Rattle.machine.specs.Steps.{started, last_root_by}
use Rattle.reopening_laws.specs.Making.{MadeByCommands}
use Rattle.compaction_laws.specs.Compact.{IsInPlace, LeadBy, AreRising}
use Rattle.compaction_laws.proofs.Judged.{StartsNext, ready}
use Rattle.compaction_laws.proofs.Since.{numbered}
use Rattle.compaction_laws.proofs.Stepping.{to_kept}

-- the number and the root of the last of some records, behind a number and a root
abbrev pub last_after : ℕ → ℕ → List Numbered → ℕ × ℕ
last_after number root [] = (number, root)
last_after number root (n ∷ ns) = last_after n.number (last_root_by (started n.transaction) root) ns

pub last_more : (a b : ℕ) (ns : List Numbered) (n : Numbered)
    → last_after a b (ns ++ n ∷ []) ≡ (n.number, last_root_by (started n.transaction) (last_after a b ns).1)
last_more a b [] n = refl
last_more a b (m ∷ ns) n = last_more m.number (last_root_by (started m.transaction) b) ns n

-- a record stands behind those before it
pub behind_before : (a b : ℕ) (before : List Numbered) (here : Numbered) (rest : List Numbered)
    → AreRising a b (before ++ here ∷ rest)
    → ((last_after a b before).0 < here.number)
    × IfSome (started here.transaction) (λ root. (last_after a b before).1 < root)
behind_before a b [] here rest rising = (rising.0, rising.1)
behind_before a b (n ∷ before) here rest rising =
    behind_before n.number (last_root_by (started n.transaction) b) before here rest rising.2

-- so does its number behind the first one, and behind that of each
number_behind : (a b : ℕ) (before : List Numbered) (here : Numbered) (rest : List Numbered)
    → AreRising a b (before ++ here ∷ rest) → a < here.number
number_behind a b [] here rest rising = rising.0
number_behind a b (n ∷ before) here rest rising =
    let first = rising.0 in
    let more = number_behind n.number (last_root_by (started n.transaction) b) before here rest rising.2 in
    omega (arith, first, more)

pub numbers_within : (most a b : ℕ) (before : List Numbered) (here : Numbered) (rest : List Numbered)
    → here.number ≤ most
    → AreRising a b (before ++ here ∷ rest) → All (λ (n : Numbered). n.number ≤ most) before
numbers_within most a b [] here rest within rising = All-nil (λ (n : Numbered). n.number ≤ most)
numbers_within most a b (n ∷ before) here rest within rising =
    let behind = number_behind n.number (last_root_by (started n.transaction) b) before here rest rising.2 in
    All-cons (λ (m : Numbered). m.number ≤ most) n before (omega (arith, behind, within))
    (numbers_within most n.number (last_root_by (started n.transaction) b) before here rest within rising.2)

-- what holds of all holds of those before one, and of that
pub all_before : (P : Numbered → Type 0) (before : List Numbered) (here : Numbered) (rest : List Numbered)
    → All P (before ++ here ∷ rest) → All P before × P here
all_before P [] here rest all = (All-nil P, All-head P here rest all)
all_before P (n ∷ before) here rest all =
    let more = all_before P before here rest (All-tail P n (before ++ here ∷ rest) all) in
    (All-cons P n before (All-head P n (before ++ here ∷ rest) all) more.0, more.1)

-- a front part of them rises
pub rising_front : (a b : ℕ) (before : List Numbered) (rest : List Numbered) → AreRising a b (before ++ rest)
    → AreRising a b before
rising_front a b [] rest rising = tt
rising_front a b (n ∷ before) rest (first, root, more) =
    (first, root, rising_front n.number (last_root_by (started n.transaction) b) before rest more)

-- and others behind the last of them do
pub rising_append : (a b : ℕ) (ns ms : List Numbered) → AreRising a b ns
    → AreRising (last_after a b ns).0 (last_after a b ns).1 ms → AreRising a b (ns ++ ms)
rising_append a b [] ms first others = others
rising_append a b (n ∷ ns) ms (number, root, first) others =
    (number, root, rising_append n.number (last_root_by (started n.transaction) b) ns ms first others)

-- ---- records that are counted

-- the last of those that are in their places is counted
pub last_counted : (a b : ℕ) (ns : List Numbered) (s s' : State) → LeadBy IsInPlace s ns s' → a ≤ s.transactions
    → b ≤ s.last_root → ((last_after a b ns).0 ≤ s.transactions) × ((last_after a b ns).1 ≤ s.last_root)
last_counted a b [] s s' all less less_roots = (less, less_roots)
last_counted a b (n ∷ ns) s s' (mid, is, steps, others) less less_roots =
    let stands = to_kept s n is mid steps in
    let count : mid.transactions ≡ s.transactions = ap (λ (x : State). x.transactions) stands.next in
    let roots : mid.last_root ≡ s.last_root = ap (λ (x : State). x.last_root) stands.next in
    let counted = is.counted in
    let more = last_counted n.number (last_root_by (started n.transaction) b) ns mid s' others
    (omega (arith, counted, count))
    (subst (λ (k : ℕ). last_root_by (started n.transaction) b ≤ k) (sym roots)
    (within (started n.transaction) s.last_root less_roots is.root)) in (
      subst (λ (k : ℕ). (last_after n.number (last_root_by (started n.transaction) b) ns).0 ≤ k) count more.0,
      subst (λ (k : ℕ). (last_after n.number (last_root_by (started n.transaction) b) ns).1 ≤ k) roots more.1,
    )
  where
    within : (o : Option ℕ) (most : ℕ) → b ≤ most → last_root_by o most ≡ most → last_root_by o b ≤ most
    within None most low high = low
    within (Some other) most low high = omega arith

-- those that commands made rise behind what is counted
pub rising_made : (a b : ℕ) (ts : List Transaction) (s s' : State) → a ≤ s.transactions → b ≤ s.last_root
    → MadeByCommands s ts s' → AreRising a b (numbered s.transactions ts)
rising_made a b [] s s' less less_roots made = tt
rising_made a b (t ∷ ts) s s' less less_roots (command, mid, judged, steps, others) =
    let count : mid.transactions ≡ s.transactions + 1 = ap (λ (x : State). x.transactions) steps.next in
    let roots : mid.last_root ≡ last_root_by (started t) s.last_root = ap (λ (x : State). x.last_root) steps.next in
    let more = rising_made mid.transactions (last_root_by (started t) b) ts mid s' (omega arith)
    (subst (λ (k : ℕ). last_root_by (started t) b ≤ k) (sym roots) (grown (started t))) others in (
      omega (arith, less),
      next_root t (ready s t command judged).1,
      subst (λ (k : ℕ). AreRising k (last_root_by (started t) b) (numbered k ts)) count more,
    )
  where
    grown : (o : Option ℕ) → last_root_by o b ≤ last_root_by o s.last_root
    grown None = less_roots
    grown (Some other) = omega arith

    next_root : (u : Transaction) → StartsNext s u → IfSome (started u) (λ root. b < root)
    next_root (Start root process version starter key settings) next = omega (arith, next, less_roots)
    next_root u next = tt
