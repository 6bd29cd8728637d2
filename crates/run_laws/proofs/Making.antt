-- A store that stands for the empty history has no record, so it is a blank state's own.
use Rattle.std.proofs.Common.{◌≡◌, inl, inr, ℕ, ◌≤◌, Bool, true, false, if◌then◌else◌, List, [], ◌∷◌, Option}
use Rattle.std.proofs.Common.{Some, refl, sym, ap, subst, ◌∙◌, arith}
use Rattle.std.specs.Prelude.{nat_le}
use Rattle.std.proofs.lemmas.Bool.{leb-true, leb-false}
use Rattle.std.proofs.lemmas.List.Elements.{All-head, All-tail}
use Rattle.flow_core.specs.Summaries.{Summary, taken_up, all_taken_up}
use Rattle.flow_disk.specs.Images.{Image}
use Rattle.flow_disk.specs.declared.disk.Disk.{Ghosts}
use Rattle.flow_disk.specs.declared.disk.Slot.TheVariants.{A}
use Rattle.flow_disk.proofs.Runs.{weaker}
use Rattle.flow_model.specs.declared.transactions.Numbered.{Numbered}
use Rattle.flow_session.specs.Histories.{AreInRange, StandsFor, payloads, under}
use Rattle.flow_txn.specs.Ranges.{IsInRange}
use Rattle.flow_words.specs.Crashes.{empty_history, LeavesAtCrash}
use Rattle.flow_words.specs.Outside.{files, IfSettled}
use Rattle.flow_words.specs.declared.status.Status.TheVariants.{Done}
use Rattle.flow_words.specs.declared.word.Word.{Word}
use Rattle.flow_words.specs.declared.word.Word.TheVariants.{New}
use Rattle.machine.specs.States.{blank}
use Rattle.txn_log.specs.Opening.{MayBeMade, first_header}
use Rattle.txn_log.specs.Stores.{Counts}
use Rattle.compaction_laws.specs.OwnStores.{IsOwn}
use Rattle.compaction_laws.proofs.OwnStores.{new_own}
use Rattle.run_laws.specs.Making.{MayBeOwn, MadeStoresAreOwn, CorrectNewsAreOwn}

-- ---- records after which nothing is counted

abbrev Ranged : Numbered → Type 0
Ranged n = IsInRange n.number n.transaction

-- a record that is taken up is counted, where it isn't one of the kept ones
one_counted : (kept : ℕ) (n : Numbered) (s : Summary) → IsInRange n.number n.transaction → kept ≤ s.transactions
    → (1 ≤ (taken_up kept n s).transactions) × (kept ≤ (taken_up kept n s).transactions)
one_counted kept n s range less = go (nat_le n.number kept) refl
  where
    go : (b : Bool) → nat_le n.number kept ≡ b
        → (1 ≤ (if b then s.transactions else n.number)) × (kept ≤ (if b then s.transactions else n.number))
    go true is = let low : n.number ≤ kept = leb-true n.number kept is in let least = range.0.0 in
        (omega (arith, low, least, less), less)
    go false is = let high = leb-false n.number kept is in let least = range.0.0 in (least, omega (arith, high))

some_counted : (kept : ℕ) (ns : List Numbered) (s : Summary) → AreInRange ns → kept ≤ s.transactions
    → 1 ≤ s.transactions → 1 ≤ (all_taken_up kept ns s).transactions
some_counted kept [] s ranged less some_ = some_
some_counted kept (n ∷ ns) s ranged less some_ =
    let one = one_counted kept n s (All-head Ranged n ns ranged) less in
    some_counted kept ns (taken_up kept n s) (All-tail Ranged n ns ranged) one.1 one.0

-- so where none is counted, there is none
none_there : (kept : ℕ) (ns : List Numbered) (s : Summary) → AreInRange ns → kept ≤ s.transactions
    → (all_taken_up kept ns s).transactions ≡ 0 → ns ≡ []
none_there kept [] s ranged less none = refl
none_there kept (n ∷ ns) s ranged less none =
    let one = one_counted kept n s (All-head Ranged n ns ranged) less in
    let some_ = some_counted kept ns (taken_up kept n s) (All-tail Ranged n ns ranged) one.1 one.0 in
    let never : ⊥ = omega (arith, some_, none) in
    absurd never

-- ---- a store

pub empty_own : (queues limit : ℕ) (image : Image) → StandsFor (empty_history queues limit) image
    → IsOwn (blank queues limit) image
empty_own queues limit image stands =
    let h = stands.header in
    let none : stands.records ≡ [] =
    none_there h.transactions stands.records (under h) stands.fits (omega arith)
    (ap (λ (s : Summary). s.transactions) stands.comes_to) in
    let empty : under h ≡ empty_history queues limit =
    sym (ap (λ (ns : List Numbered). all_taken_up h.transactions ns (under h)) none) ∙ stands.comes_to in
    let own = new_own image stands.slot h stands.end
    (stands.counts ∙ ap (λ (ns : List Numbered). Counts stands.slot h (payloads ns) stands.end) none)
    (ap (λ (s : Summary). s.transactions) empty) (ap (λ (s : Summary). s.roots) empty) in
    subst (λ (s : Summary). IsOwn (blank s.queues s.limit) image) empty own

may_own : (queues limit : ℕ) (was image : Image) → MayBeMade queues limit was image → MayBeOwn queues limit was image
may_own queues limit was image (inl same) = inl same
may_own queues limit was image (inr (none, inl without)) = inr (none, inl without)
may_own queues limit was image (inr (none, inr made)) =
    inr (none, inr (new_own image A (first_header queues limit) 42 made refl refl))

-- ---- the laws

module _ {D : Type 0} (g : Ghosts D) where
  pub made_stores : MadeStoresAreOwn g
  made_stores queues limit old new ended makes = record {
    any_moment = weaker g.moment g.left_since g.images old new (MayBeMade queues limit (g.seen old))
        (MayBeOwn queues limit (g.seen old)) makes.any_moment (may_own queues limit (g.seen old));
    made = λ done image left. empty_own queues limit image (makes.made done image left);
  }

  pub correct_news : CorrectNewsAreOwn g
  correct_news words c old new ended settings (told, only) correct says =
      let leaves : IfSettled (files g old new) (LeavesAtCrash (Some (New settings)) (files g old new) (ended ≡ Done)) =
      subst (λ (o : Option Word). IfSettled (files g old new) (LeavesAtCrash o (files g old new) (ended ≡ Done))) says
      correct.crash in
      made_stores settings.queues settings.limit old new ended (leaves told only)
