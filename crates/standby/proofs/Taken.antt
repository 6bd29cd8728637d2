-- What a store that follows does to its disk.
use Rattle.std.proofs.Common.{◌≡◌, inl, inr, ⊎_elim, ℕ, List, [], ◌++◌, ◌+◌, ◌<◌, ◌≤◌, ap, arith, refl, subst, sym}
use Rattle.std.proofs.lemmas.Bool.{lt-leb}
use Rattle.flow_disk.specs.Images.{Image}
use Rattle.flow_disk.specs.Moments.{LeavesOnly}
use Rattle.flow_disk.proofs.Runs.{weaker}
use Rattle.flow_model.specs.declared.transactions.Numbered.{Numbered}
use Rattle.flow_model.specs.declared.transactions.Transaction.{Transaction}
use Rattle.txn_log.specs.declared.log.Log.{Log}
use Rattle.flow_core.specs.Summaries.{Summary, Follows, next, summary, taken_up, with_transaction}
use Rattle.flow_core.specs.declared.state.Core.{Core}
use Rattle.flow_session.specs.Fitting.{HasFitRecords}
use Rattle.flow_session.specs.Histories.{StandsFor, after}
use Rattle.flow_session.specs.Keeping.{IsOpen, rests}
use Rattle.flow_session.specs.Runs.{KeepsStore}
use Rattle.flow_session.specs.Serving.{AllOrNone, Makes}
use Rattle.flow_session.proofs.Keeping.{nothing_done}
use Rattle.flow_session.proofs.Calls.{makes_more, makes_none}
use Rattle.standby.specs.Followed.{StandsForEither}

-- the disk is left alone
pub untouched : {D : Type 0} (tells : Type 0) (moment : D → ℕ) (left_since : D → ℕ → Image → Type 0)
    (seen : D → Image) (images : D → Image → Type 0)
    → ((disk : D) (c : Image) → left_since disk (moment disk) c → images disk c)
    → (log : Log) (disk : D) (s : Summary) (IsEnd : List Transaction → Type 0) → (tells → IsOpen seen images log disk s)
    → IsEnd [] → Makes tells moment left_since disk disk s IsEnd
untouched tells moment left_since seen images only_now log disk s IsEnd is ended =
    makes_none tells moment left_since disk disk s IsEnd
    (λ told. nothing_done moment left_since disk (StandsFor s)
    (λ c left. rests seen images log disk s c (is told) (only_now disk c left)))
    (λ told now alone. nothing_done moment left_since disk HasFitRecords now) ended

-- the disk is left alone, and what it leaves stands for the state
pub left_alone : {D : Type 0} (tells : Type 0) (moment : D → ℕ) (left_since : D → ℕ → Image → Type 0)
    (seen : D → Image) (images : D → Image → Type 0)
    → ((disk : D) (c : Image) → left_since disk (moment disk) c → images disk c)
    → (log : Log) (disk : D) (s : Summary) (IsSo : Image → Type 0) → (tells → IsOpen seen images log disk s)
    → ((image : Image) → StandsFor s image → IsSo image) → tells → LeavesOnly moment left_since disk disk IsSo
left_alone tells moment left_since seen images only_now log disk s IsSo is leads told =
    nothing_done moment left_since disk IsSo (λ image left.
    leads image (rests seen images log disk s image (is told) (only_now disk image left)))

-- a store that is opened first, which leaves what was there
pub makes_opened : {D : Type 0} (tells : Type 0) (moment : D → ℕ) (left_since : D → ℕ → Image → Type 0)
    (seen : D → Image)
    → ((disk : D) (t : ℕ) (c : Image) → t ≤ moment disk → left_since disk (moment disk) c → left_since disk t c)
    → (old mid new : D) → (tells → left_since old (moment old) (seen old)) → (s : Summary)
    (IsEnd : List Transaction → Type 0) → KeepsStore moment left_since seen old mid → StandsFor s (seen old)
    → Makes tells moment left_since mid new s IsEnd → Makes tells moment left_since old new s IsEnd
makes_opened tells moment left_since seen counts_now old mid new here s IsEnd keeps stood makes =
    makes_more tells moment left_since counts_now old mid new s s (λ ts. ts ≡ []) IsEnd IsEnd
    (makes_none tells moment left_since old mid s (λ ts. ts ≡ [])
    (λ told. weaker moment left_since (λ disk c. left_since disk 0 c) old mid (λ image. image ≡ seen old)
    (StandsFor s) keeps
    (λ image is. subst (StandsFor s) (sym is) stood))
    (λ told fit_now fits.
    weaker moment left_since (λ disk c. left_since disk 0 c) old mid (λ image. image ≡ seen old) HasFitRecords keeps
    (λ image is. subst HasFitRecords (sym is) (fit_now (seen old) (here told)))) refl)
    (λ ts none. ap (after s) (sym none)) makes
    (λ ts us none end. subst (λ (xs : List Transaction). IsEnd (xs ++ us)) (sym none) end)

-- all of these transactions may be kept, or none
pub stands_for_either : {D : Type 0} (tells : Type 0) (moment : D → ℕ) (left_since : D → ℕ → Image → Type 0)
    (images : D → Image → Type 0)
    → ((disk : D) (t : ℕ) (c : Image) → t ≤ moment disk → images disk c → left_since disk t c)
    → (old new : D) (c c' : Core) (ts : List Transaction) → summary c' ≡ after (summary c) ts
    → (tells → LeavesOnly moment left_since old new (AllOrNone ts (summary c)))
    → StandsForEither tells (images new) c c'
stands_for_either tells moment left_since images counts_now old new c c' ts came leaves = λ told image left.
    ⊎_elim (λ stands. inl stands) (λ stands. inr (subst (λ (s : Summary). StandsFor s image) (sym came) stands))
    ((leaves told).each image (counts_now new (moment old) image (leaves told).later left))

-- a store that is open stands for its state
pub stands_open : {D : Type 0} (tells : Type 0) (seen : D → Image) (images : D → Image → Type 0) (log : Log) (disk : D) (c : Core)
    → (tells → IsOpen seen images log disk (summary c)) → StandsForEither tells (images disk) c c
stands_open tells seen images log disk c is = λ told image left. inl (rests seen images log disk (summary c) image (is told) left)

-- a transaction under this number is the next one, and is taken up as that
abbrev pub IsNext : Core → ℕ → Transaction → Type 0
IsNext c number t =
    (number ≡ c.number + 1)
    × (taken_up c.kept (record { number = number; transaction = t }) (summary c) ≡ next t (summary c))

-- a record that is adopted above the number of transactions is the next transaction
pub next_one : (kept : ℕ) (s : Summary) (n : Numbered) → s.transactions < n.number → Follows kept s n → (n.number ≡ s.transactions + 1) × (taken_up kept n s ≡ next n.transaction s)
next_one kept s n lt (inl f) = absurd (omega (arith, lt, f.0, f.1))
next_one kept s n lt (inr f) = (f.1, rw (lt-leb n.number kept f.0) (ap (λ k. with_transaction k k n.transaction s) f.1))
