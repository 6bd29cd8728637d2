-- Shelves that hold lines go on holding them, with one item after the other listed anew or taken off.
use Rattle.std.proofs.Common.{◌≡◌, ◌≢◌, ℕ, zero, suc, ◌⊎◌, inl, inr, Bool, true, false, cond, List, [], ◌∷◌, Option, Some, None, refl, ap, sym, ◌∙◌, subst}
use Rattle.std.specs.Prelude.{slice_get, fold, bytes_eq}
use Rattle.std.proofs.lemmas.Option.{none-some}
use Rattle.std.proofs.lemmas.Slice.Eq.{bytes_eq-Decides}
use Rattle.flow_core.specs.Shelving.{Standing, SameStanding, with_line, without_rank, listed_if}
use Rattle.flow_model.specs.declared.instances.ItemLine.{ItemLine}
use Rattle.flow_model.specs.declared.instances.Path.{Path}
use Rattle.item_laws.specs.OpenItems.{IsListed}
use Rattle.staff_worklists.specs.Shelves.{shelf_for}
use Rattle.staff_worklists.specs.Standing.{listed_at}
use Rattle.staff_worklists.specs.SameShelf.{shelf_eq, shelf_decides}
use Rattle.staff_worklists.specs.declared.worklists.Listed.{Listed}
use Rattle.staff_worklists.specs.declared.worklists.Shelf.{Shelf}
use Rattle.worklist_laws.proofs.Paths.{path_tells, told_of, told_here, told_other}
use Rattle.worklist_laws.specs.Shelved.{listed_as, StandsAt, IsOfLine, HoldExactly}

abbrev pub Lines : Type 0
Lines = Path → Option ItemLine

abbrev pub Ranks : Type 0
Ranks = Path → Option (List ℕ)

-- ---- the same shelves

pub hold_same : (lines lines' : Lines) (ranks ranks' : Ranks) (w w' : Standing) → SameStanding w' w → ((path : Path) → lines' path ≡ lines path)
    → ((path : Path) (line : ItemLine) → lines path ≡ Some line → ranks' path ≡ ranks path) → HoldExactly lines ranks w → HoldExactly lines' ranks' w'
hold_same lines lines' ranks ranks' w w' same lined ranked hold = record {
  each = λ path line has.
      let was = sym (lined path) ∙ has in
      let one = hold.each path line was in
      record { rank = one.rank; ranked = ranked path line was ∙ one.ranked; there = λ name. same name one.rank ∙ one.there name };
  only = λ name rank listed there.
      let one = hold.only name rank listed (sym (same name rank) ∙ there) in
      record { line = one.line; has = lined listed.item ∙ one.has; ranked = ranked listed.item one.line one.has ∙ one.ranked };
}

-- ---- what a test of ranks tells

pub rank_tells : (a b : List ℕ) → ((bytes_eq a b ≡ true) × (a ≡ b)) ⊎ ((bytes_eq a b ≡ false) × (a ≢ b))
rank_tells a b = by (bytes_eq a b) refl
  where
    by : (d : Bool) → bytes_eq a b ≡ d → ((bytes_eq a b ≡ true) × (a ≡ b)) ⊎ ((bytes_eq a b ≡ false) × (a ≢ b))
    by true is = inl (is, (bytes_eq-Decides a b).0 is)
    by false is = inr (is, λ same. let n : true ≡ false = sym ((bytes_eq-Decides a b).1 same) ∙ is in let m : ⊥ = cc in m)

rank_other : (a b : List ℕ) → b ≢ a → bytes_eq a b ≡ false
rank_other a b apart = elim (rank_tells a b) [ inl same ↦ absurd (apart (sym same.1)) | inr other ↦ other.0 ]

-- ---- what a test of shelves tells

pub shelf_tells : (a b : Shelf) → ((shelf_eq a b ≡ true) × (a ≡ b)) ⊎ ((shelf_eq a b ≡ false) × (a ≢ b))
shelf_tells a b = by (shelf_eq a b) refl
  where
    by : (d : Bool) → shelf_eq a b ≡ d → ((shelf_eq a b ≡ true) × (a ≡ b)) ⊎ ((shelf_eq a b ≡ false) × (a ≢ b))
    by true is = inl (is, (shelf_decides a b).0 is)
    by false is = inr (is, λ same. let n : true ≡ false = sym ((shelf_decides a b).1 same) ∙ is in let m : ⊥ = cc in m)

-- what is listed on a shelf is what was to be listed
pub listed_is : (shelf : Option Shelf) (name : Shelf) (x listed : Listed) → listed_at shelf name x ≡ Some listed → x ≡ listed
listed_is None name x listed is = absurd (none-some listed is)
listed_is (Some shelf) name x listed is = by (shelf_eq shelf name) is
  where
    by : (b : Bool) → cond b (Some x) None ≡ Some listed → x ≡ listed
    by true is = cc
    by false is = absurd (none-some listed is)

-- ---- one rank changes

module _ (lines lines' : Lines) (ranks : Ranks) (w w' : Standing) (p : Path) (own : List ℕ) where
  -- at this rank stands what is told of its path, and at each other one what stood there
  pub record ChangesRank : Type 0 where
    pub others : (q : Path) → q ≢ p → lines' q ≡ lines q
    pub ranked : ranks p ≡ Some own
    pub alone : (q : Path) (line : ItemLine) → lines q ≡ Some line → ranks q ≡ Some own → q ≡ p
    pub elsewhere : (name : Shelf) (rank : List ℕ) → rank ≢ own → w' name rank ≡ w name rank
    pub here : (line : ItemLine) → lines' p ≡ Some line → (name : Shelf) → w' name own ≡ listed_at (shelf_for line) name (listed_as p line)
    pub gone : lines' p ≡ None → (name : Shelf) → w' name own ≡ None

  module _ (change : ChangesRank) (hold : HoldExactly lines ranks w) where
    each_line : (path : Path) (line : ItemLine) → lines' path ≡ Some line → StandsAt ranks w' path line
    each_line path line has = elim (path_tells path p) [
      | inl is ↦
          subst (λ (q : Path). StandsAt ranks w' q line) (sym is.1)
          (record { rank = own; ranked = change.ranked; there = change.here line (ap lines' (sym is.1) ∙ has) })
      | inr other ↦
          let was = sym (change.others path other.1) ∙ has in
          let one = hold.each path line was in
          record {
            rank = one.rank;
            ranked = one.ranked;
            there = λ name. change.elsewhere name one.rank (λ same. other.1 (change.alone path line was (one.ranked ∙ ap Some same))) ∙ one.there name;
          }
    ]

    only_here : (name : Shelf) (listed : Listed) → w' name own ≡ Some listed → (o : Option ItemLine) → lines' p ≡ o → IsOfLine lines' ranks own listed
    only_here name listed there None has = absurd (none-some listed (sym (change.gone has name) ∙ there))
    only_here name listed there (Some line) has =
        let same : listed_as p line ≡ listed = listed_is (shelf_for line) name (listed_as p line) listed (sym (change.here line has name) ∙ there) in
        let item : p ≡ listed.item = ap (λ (l : Listed). l.item) same in
        record { line = line; has = ap lines' (sym item) ∙ has; ranked = ap ranks (sym item) ∙ change.ranked }

    only_line : (name : Shelf) (rank : List ℕ) (listed : Listed) → w' name rank ≡ Some listed → IsOfLine lines' ranks rank listed
    only_line name rank listed there = elim (rank_tells rank own) [
      | inl is ↦
          subst (λ (r : List ℕ). IsOfLine lines' ranks r listed) (sym is.1) (only_here name listed (ap (w' name) (sym is.1) ∙ there) (lines' p) refl)
      | inr other ↦
          let one = hold.only name rank listed (sym (change.elsewhere name rank other.1) ∙ there) in
          let apart : listed.item ≢ p = λ same. other.1 (let both : Some rank ≡ Some own = sym one.ranked ∙ ap ranks same ∙ change.ranked in cc) in
          record { line = one.line; has = change.others listed.item apart ∙ one.has; ranked = one.ranked }
    ]

    pub changed_holds : HoldExactly lines' ranks w'
    changed_holds = record { each = each_line; only = only_line }

-- ---- one item

-- ranks of paths that are there: each has one, and no two the same
pub record AreRanks (ranks : Ranks) (there : Path → Type 0) : Type 0 where
  pub ranked : (q : Path) → there q → (own : List ℕ) × (ranks q ≡ Some own)
  pub alone : (p q : Path) (own : List ℕ) → there p → there q → ranks p ≡ Some own → ranks q ≡ Some own → p ≡ q

-- paths with a line are there
abbrev pub AreThere : (Path → Type 0) → Lines → Type 0
AreThere there lines = (q : Path) (line : ItemLine) → lines q ≡ Some line → there q

module _ (ranks : Ranks) (there : Path → Type 0) (are : AreRanks ranks there) where
  -- an item is taken off
  pub off_holds : (lines lines' : Lines) (w : Standing) (p : Path) (own : List ℕ) → AreThere there lines → there p → ranks p ≡ Some own → ((q : Path) → q ≢ p → lines' q ≡ lines q) → lines' p ≡ None
      → HoldExactly lines ranks w → HoldExactly lines' ranks (without_rank own w)
  off_holds lines lines' w p own lined is ranked others none hold =
      changed_holds lines lines' ranks w (without_rank own w) p own (record {
        others = others;
        ranked = ranked;
        alone = λ q line has same. are.alone q p own (lined q line has) is same ranked;
        elsewhere = λ name rank apart. ap (λ b. cond b None (w name rank)) (rank_other own rank apart);
        here = λ line has. absurd (none-some line (sym none ∙ has));
        gone = λ none name. ap (λ b. cond b None (w name own)) ((bytes_eq-Decides own own).1 refl);
      }) hold

  module _ (lines lines' : Lines) (w : Standing) (p : Path) (lined : AreThere there lines) (lined' : AreThere there lines') (others : (q : Path) → q ≢ p → lines' q ≡ lines q)
      (hold : HoldExactly lines ranks w) where
    line_listed : (line : ItemLine) → lines' p ≡ Some line → (own : List ℕ) → ranks p ≡ Some own → HoldExactly lines' ranks (with_line p line own w)
    line_listed line has own ranked =
        changed_holds lines lines' ranks w (with_line p line own w) p own (record {
          others = others;
          ranked = ranked;
          alone = λ q other was same. are.alone q p own (lined q other was) (lined' p line has) same ranked;
          elsewhere = λ name rank apart. ap (λ b. cond b (listed_at (shelf_for line) name (listed_as p line)) (w name rank)) (rank_other own rank apart);
          here = λ other is name.
              let same : line ≡ other = (let both : Some line ≡ Some other = sym has ∙ is in cc) in
              ap (λ b. cond b (listed_at (shelf_for line) name (listed_as p line)) (w name own)) ((bytes_eq-Decides own own).1 refl)
              ∙ ap (λ (l : ItemLine). listed_at (shelf_for l) name (listed_as p l)) same;
          gone = λ none. absurd (none-some line (sym none ∙ has));
        }) hold

    listed_ranked : (line : ItemLine) → lines' p ≡ Some line → (o : Option (List ℕ)) → ranks p ≡ o → HoldExactly lines' ranks (listed_if p (Some line) o w)
    listed_ranked line has None ranked = let one = are.ranked p (lined' p line has) in absurd (none-some one.0 (sym ranked ∙ one.1))
    listed_ranked line has (Some own) ranked = line_listed line has own ranked

    all_same : lines' p ≡ None → lines p ≡ None → (q : Path) → lines' q ≡ lines q
    all_same none was q = elim (path_tells q p) [ inl is ↦ ap lines' is.1 ∙ none ∙ sym was ∙ ap lines (sym is.1) | inr other ↦ others q other.1 ]

    -- an item is listed anew
    pub listed_holds : (o : Option ItemLine) → lines' p ≡ o → (lines' p ≡ None → lines p ≡ None) → HoldExactly lines' ranks (listed_if p o (ranks p) w)
    listed_holds None has none = hold_same lines lines' ranks ranks w w (λ name rank. refl) (all_same has (none has)) (λ q line was. refl) hold
    listed_holds (Some line) has none = listed_ranked line has (ranks p) refl

  -- ---- item after item

  -- these items are listed so: what is told of each, and nothing of one that had no line
  abbrev pub AreListedSo : List Path → Lines → Lines → Lines → Type 0
  AreListedSo items told lines lines' = (n : ℕ) (p : Path) → slice_get items n ≡ Some p → (told p ≡ lines' p) × (lines' p ≡ None → lines p ≡ None)

  abbrev pub list_one : Lines → Standing → Path → Standing
  list_one told w p = listed_if p (told p) (ranks p) w

  -- between two lines of a path there are only these
  middle_there : (p : Path) (lines lines' : Lines) → AreThere there lines → AreThere there lines' → AreThere there (told_of p (lines' p) lines)
  middle_there p lines lines' lined lined' q line has = elim (path_tells q p) [
    | inl is ↦ lined' q line (ap lines' is.1 ∙ sym (told_here p (lines' p) lines) ∙ ap (told_of p (lines' p) lines) (sym is.1) ∙ has)
    | inr other ↦ lined q line (sym (told_other p (lines' p) lines q other.1) ∙ has)
  ]

  pub all_listed_hold : (items : List Path) (told lines lines' : Lines) (w : Standing) → AreThere there lines → AreThere there lines' → AreListedSo items told lines lines'
      → ((q : Path) → (IsListed items q → ⊥) → lines' q ≡ lines q) → HoldExactly lines ranks w → HoldExactly lines' ranks (fold (list_one told) w items)
  all_listed_hold [] told lines lines' w lined lined' so others hold =
      hold_same lines lines' ranks ranks w w (λ name rank. refl) (λ q. others q (λ listed. none-some q listed.1)) (λ q line was. refl) hold
  all_listed_hold (p ∷ items) told lines lines' w lined lined' so others hold =
      let middle : Lines = told_of p (lines' p) lines in
      let here : middle p ≡ lines' p = told_here p (lines' p) lines in
      let first = so zero p refl in
      let mid = middle_there p lines lines' lined lined' in
      let one : HoldExactly middle ranks (list_one told w p)
      = subst (λ (o : Option ItemLine). HoldExactly middle ranks (listed_if p o (ranks p) w)) (sym first.0)
      (listed_holds lines middle w p lined mid (λ q apart. told_other p (lines' p) lines q apart) hold (lines' p) here (λ none. first.1 (sym here ∙ none))) in
      all_listed_hold items told middle lines' (list_one told w p) mid lined'
      (λ n q is.
      let next = so (suc n) q is in (
        next.0,
        λ none. elim (path_tells q p) [
          | inl same ↦ ap middle same.1 ∙ here ∙ ap lines' (sym same.1) ∙ none
          | inr other ↦ told_other p (lines' p) lines q other.1 ∙ next.1 none
        ],
      ))
      (λ q unlisted. elim (path_tells q p) [
        | inl same ↦ ap lines' same.1 ∙ sym here ∙ ap middle (sym same.1)
        | inr other ↦
            others q (λ listed. first_or_later q listed.0 listed.1 other.1 unlisted) ∙ sym (told_other p (lines' p) lines q other.1)
      ])
      one
    where
      first_or_later : (q : Path) (n : ℕ) → slice_get (p ∷ items) n ≡ Some q → q ≢ p → (IsListed items q → ⊥) → ⊥
      first_or_later q zero is apart unlisted = apart (let same : p ≡ q = cc in sym same)
      first_or_later q (suc n) is apart unlisted = unlisted (n, is)
