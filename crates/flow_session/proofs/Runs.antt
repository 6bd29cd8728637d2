-- A run over a store: it is opened, and then served.
use Rattle.std.proofs.Common.{◌≡◌, inl, inr, ℕ, ◌≤◌, List, [], ◌++◌, Result, Ok, Err, OnOk, IsOk, ap, subst, sym, refl}
use Rattle.flow_disk.specs.Images.{Image}
use Rattle.flow_disk.specs.Moments.{LeavesOnly, Only}
use Rattle.flow_disk.proofs.Runs.{weaker}
use Rattle.flow_core.specs.Summaries.{Summary, summary}
use Rattle.flow_core.specs.declared.state.Core.{Core}
use Rattle.flow_model.specs.declared.transactions.Transaction.{Transaction}
use Rattle.txn_log.specs.declared.log.Log.{Log}
use Rattle.flow_session.specs.Fitting.{HasFitRecords}
use Rattle.flow_session.specs.Histories.{StandsFor, after}
use Rattle.flow_session.specs.Keeping.{IsOpen, rests}
use Rattle.flow_session.specs.Runs.{KeepsStore, ServesStore, KeepsOrServes}
use Rattle.flow_session.specs.Leading.{LeadsBy}
use Rattle.flow_session.specs.Serving.{Makes}
use Rattle.flow_session.proofs.Keeping.{nothing_done}
use Rattle.flow_session.proofs.Calls.{makes_none, makes_more}

-- what a journal leaves, its disk leaves
pub on_disk : {J D : Type 0} (disk_of : J → D) (moment : D → ℕ) (left_since : D → ℕ → Image → Type 0) (old new : J) (P : Image → Type 0) → LeavesOnly (λ j. moment (disk_of j)) (λ j. left_since (disk_of j)) old new P → LeavesOnly moment left_since (disk_of old) (disk_of new) P
on_disk disk_of moment left_since old new P run = record { later = run.later; each = run.each; before = run.before }

pub makes_on_disk : {J D : Type 0} (disk_of : J → D) (tells : Type 0) (moment : D → ℕ)
    (left_since : D → ℕ → Image → Type 0) (old new : J) (s : Summary) (IsEnd : List Transaction → Type 0)
    → Makes tells (λ j. moment (disk_of j)) (λ j. left_since (disk_of j)) old new s IsEnd
    → Makes tells moment left_since (disk_of old) (disk_of new) s IsEnd
makes_on_disk disk_of tells moment left_since old new s IsEnd makes = record {
  transactions = makes.transactions;
  any_moment = λ told. on_disk disk_of moment left_since old new _ (makes.any_moment told);
  fit = λ told fit_now fits. on_disk disk_of moment left_since old new HasFitRecords (makes.fit told fit_now fits);
  ended = makes.ended;
}

on_ok : {T E : Type 0} (r : Result T E) (P : Type 0) → IsOk r → OnOk r P → P
on_ok (Ok v) P ok p = p
on_ok (Err e) P ok p = absurd (cc)

-- what was served to the end: every image stands for the summary after all that was made
pub served_to_end : {D T E : Type 0} (tells : Type 0) (moment : D → ℕ) (left_since : D → ℕ → Image → Type 0)
    (seen : D → Image) (images : D → Image → Type 0) (log : Log) (old new : D) (c d : Core) (r : Result T E)
    → OnOk r (tells → IsOpen seen images log new (summary d))
    → Makes tells moment left_since old new (summary c) (λ ts. OnOk r (LeadsBy c ts d))
    → Makes tells moment left_since old new (summary c)
    (λ ts. IsOk r → tells → (image : Image) → images new image → StandsFor (after (summary c) ts) image)
served_to_end tells moment left_since seen images log old new c d r is makes = record {
  transactions = makes.transactions;
  any_moment = makes.any_moment;
  fit = makes.fit;
  ended = λ ok told image left.
      subst (λ x. StandsFor x image) (on_ok r (LeadsBy c makes.transactions d) ok makes.ended).came
      (rests seen images log new (summary d) image (on_ok r _ ok is told) left);
}

module _ {D : Type 0} (tells : Type 0) (moment : D → ℕ) (left_since : D → ℕ → Image → Type 0) (seen : D → Image) (images : D → Image → Type 0) where
  -- a store that is opened alone
  pub opened : (old new : D) → Only (seen old) (images old) → LeavesOnly moment left_since old new (images old) → KeepsStore moment left_since seen old new
  opened old new only leaves = weaker moment left_since images old new (images old) (λ image. image ≡ seen old) leaves (λ c left. only c left)

  -- a store that is opened, and served from then on
  pub served : ((disk : D) (t : ℕ) (c : Image) → t ≤ moment disk → left_since disk (moment disk) c
      → left_since disk t c)
      → (old mid new : D) → (tells → left_since old (moment old) (seen old)) → (s : Summary) (IsDone : Type 0)
      → KeepsStore moment left_since seen old mid
      → seen mid ≡ seen old → StandsFor s (seen mid)
      → Makes tells moment left_since mid new s
      (λ ts. IsDone → (image : Image) → images new image → StandsFor (after s ts) image)
      → ServesStore tells moment left_since seen images old new IsDone
  served counts_now old mid new here s IsDone keeps same stands makes =
      let stood : StandsFor s (seen old) = subst (StandsFor s) same stands in
      let IsLast : List Transaction → Type 0 =
      λ ts. IsDone → (image : Image) → images new image → StandsFor (after s ts) image in
      record {
        before = s;
        stood = stood;
        makes = makes_more tells moment left_since counts_now old mid new s s (λ ts. ts ≡ []) IsLast IsLast
            (makes_none tells moment left_since old mid s (λ ts. ts ≡ [])
            (λ told. weaker moment left_since images old mid (λ image. image ≡ seen old) (StandsFor s) keeps
            (λ c is. subst (StandsFor s) (sym is) stood))
            (λ told fit_now fits.
            weaker moment left_since images old mid (λ image. image ≡ seen old) HasFitRecords keeps
            (λ c is. subst HasFitRecords (sym is) (fit_now (seen old) (here told)))) refl)
            (λ ts none. ap (after s) (sym none)) makes
            (λ ts us none last. subst (λ (xs : List Transaction). IsLast (xs ++ us)) (sym none) last);
      }

  -- a store that is left alone
  pub kept_alone : ((disk : D) (c : Image) → left_since disk (moment disk) c → images disk c) → (disk : D) → Only (seen disk) (images disk) → KeepsStore moment left_since seen disk disk
  kept_alone only_now disk only = nothing_done moment left_since disk (λ image. image ≡ seen disk) (λ c left. only c (only_now disk c left))

  -- a run that is done only where another one is
  pub done_where : (old new : D) (IsDone IsLast : Type 0) → KeepsOrServes tells moment left_since seen images old new IsDone → (IsLast → IsDone) → KeepsOrServes tells moment left_since seen images old new IsLast
  done_where old new IsDone IsLast (inl keeps) leads = inl keeps
  done_where old new IsDone IsLast (inr serves) leads = inr (record {
    before = serves.before;
    stood = serves.stood;
    makes = record {
      transactions = serves.makes.transactions;
      any_moment = serves.makes.any_moment;
      fit = serves.makes.fit;
      ended = λ last image left. serves.makes.ended (leads last) image left;
    };
  })
