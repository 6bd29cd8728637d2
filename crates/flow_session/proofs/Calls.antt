-- Calls of a session, one after the other.
use Rattle.std.proofs.Common.{◌≡◌, ⊎_elim, ℕ, zero, suc, List, [], ◌∷◌, ◌++◌, ◌≤◌, length, take, refl, sym, ap, subst, ◌∙◌, arith}
use Rattle.std.proofs.lemmas.List.{take_all}
use Rattle.flow_disk.specs.Images.{Image}
use Rattle.flow_disk.specs.Moments.{LeavesOnly}
use Rattle.flow_disk.proofs.Runs.{weaker, joined}
use Rattle.flow_model.specs.declared.transactions.Transaction.{Transaction}
use Rattle.flow_core.specs.Summaries.{Summary, next}
use Rattle.flow_session.specs.Fitting.{AreFitAlone, AreFitFrom, AreFitNow, HasFitRecords, IsFitNext}
use Rattle.flow_session.specs.Histories.{StandsFor, StandsAfterSome, after}
use Rattle.flow_session.specs.Serving.{Makes, WithOrWithout, AllOrNone}
use Rattle.flow_session.proofs.Fitting.{fit_front, fit_behind}
use Rattle.flow_session.proofs.Keeping.{nothing_done}

pub after_append : (s : Summary) (ts us : List Transaction) → after s (ts ++ us) ≡ after (after s ts) us
after_append s [] us = refl
after_append s (t ∷ ts) us = after_append (next t s) ts us

-- a front part of a list is a front part of a longer one
take_front : (n : ℕ) (ts us : List Transaction) → (m : ℕ) × (take m (ts ++ us) ≡ take n ts)
take_front zero ts us = (0, refl)
take_front (suc n) [] us = (0, refl)
take_front (suc n) (t ∷ ts) us = let rest = take_front n ts us in (suc rest.0, ap (λ xs. t ∷ xs) rest.1)

take_past : (n : ℕ) (ts us : List Transaction) → (m : ℕ) × (take m (ts ++ us) ≡ ts ++ take n us)
take_past n [] us = (n, refl)
take_past n (t ∷ ts) us = let rest = take_past n ts us in (suc rest.0, ap (λ xs. t ∷ xs) rest.1)

some_in_front : (s : Summary) (ts us : List Transaction) (c : Image) → StandsAfterSome s ts c
    → StandsAfterSome s (ts ++ us) c
some_in_front s ts us c some =
    let m = take_front some.0 ts us in
    (m.0, subst (λ xs. StandsFor (after s xs) c) (sym m.1) some.1)

some_behind : (s : Summary) (ts us : List Transaction) (c : Image) → StandsAfterSome (after s ts) us c
    → StandsAfterSome s (ts ++ us) c
some_behind s ts us c some =
    let m = take_past some.0 ts us in
    (m.0, subst (λ x. StandsFor x c) (sym (ap (after s) m.1 ∙ after_append s ts (take some.0 us))) some.1)

-- what a crash leaves now, it might have left since the call began
pub leaves_now : {J : Type 0} (moment : J → ℕ) (left_since : J → ℕ → Image → Type 0)
    → ((journal : J) (t : ℕ) (c : Image) → t ≤ moment journal → left_since journal (moment journal) c
    → left_since journal t c)
    → (old new : J) (P : Image → Type 0) → LeavesOnly moment left_since old new P → (image : Image)
    → left_since new (moment new) image → P image
leaves_now moment left_since counts_now old new P leaves image left =
    leaves.each image (counts_now new (moment old) image leaves.later left)

module _ {J : Type 0} (tells : Type 0) (moment : J → ℕ) (left_since : J → ℕ → Image → Type 0) where
  -- a call that makes no transaction
  pub makes_none : (old new : J) (s : Summary) (IsEnd : List Transaction → Type 0)
      → (tells → LeavesOnly moment left_since old new (StandsFor s))
      → (tells → AreFitNow moment left_since old → AreFitAlone s → LeavesOnly moment left_since old new HasFitRecords)
      → IsEnd [] → Makes tells moment left_since old new s IsEnd
  makes_none old new s IsEnd leaves fit ended = record {
    transactions = [];
    any_moment = λ told.
        weaker moment left_since (λ journal c. left_since journal 0 c) old new (StandsFor s) (StandsAfterSome s [])
        (leaves told) (λ c stands. (0, stands));
    fit = fit;
    ended = ended;
  }

  -- a call that makes one
  pub makes_one : (old new : J) (s : Summary) (t : Transaction) (IsEnd : List Transaction → Type 0)
      → (tells → LeavesOnly moment left_since old new (WithOrWithout t s))
      → (tells → AreFitNow moment left_since old → IsFitNext s t → LeavesOnly moment left_since old new HasFitRecords)
      → IsEnd (t ∷ []) → Makes tells moment left_since old new s IsEnd
  makes_one old new s t IsEnd leaves fit ended = record {
    transactions = t ∷ [];
    any_moment = λ told.
        weaker moment left_since (λ journal c. left_since journal 0 c) old new (WithOrWithout t s)
        (StandsAfterSome s (t ∷ [])) (leaves told)
        (λ c may. ⊎_elim (λ stands. (0, stands)) (λ stands. (1, stands)) may);
    fit = λ told now fits. fit told now fits.1;
    ended = ended;
  }

  -- a call that makes all of these together, or none
  pub makes_all : (old new : J) (s : Summary) (ts : List Transaction) (IsEnd : List Transaction → Type 0)
      → (tells → LeavesOnly moment left_since old new (AllOrNone ts s))
      → (tells → AreFitNow moment left_since old → AreFitFrom s ts → LeavesOnly moment left_since old new HasFitRecords)
      → IsEnd ts → Makes tells moment left_since old new s IsEnd
  makes_all old new s ts IsEnd leaves fit ended = record {
    transactions = ts;
    any_moment = λ told.
        weaker moment left_since (λ journal c. left_since journal 0 c) old new (AllOrNone ts s)
        (StandsAfterSome s ts) (leaves told)
        (λ c may. ⊎_elim (λ stands. (0, stands))
        (λ stands. (length ts, subst (λ us. StandsFor (after s us) c) (sym (take_all (length ts) ts (omega arith))) stands)) may);
    fit = fit;
    ended = ended;
  }

  -- one call after another: where the first one ends, the summary is the one after its transactions
  pub makes_more : ((journal : J) (t : ℕ) (c : Image) → t ≤ moment journal → left_since journal (moment journal) c
      → left_since journal t c)
      → (old mid new : J) (s now : Summary) (IsFirst IsMid IsEnd : List Transaction → Type 0)
      → Makes tells moment left_since old mid s IsFirst
      → ((ts : List Transaction) → IsFirst ts → now ≡ after s ts)
      → Makes tells moment left_since mid new now IsMid
      → ((ts us : List Transaction) → IsFirst ts → IsMid us → IsEnd (ts ++ us))
      → Makes tells moment left_since old new s IsEnd
  makes_more counts_now old mid new s now IsFirst IsMid IsEnd first comes second leads =
      let ts = first.transactions in
      let us = second.transactions in
      let came : now ≡ after s ts = comes ts first.ended in
      record {
        transactions = ts ++ us;
        any_moment = λ told.
            joined moment left_since (λ journal c. left_since journal 0 c) old mid new (StandsAfterSome s (ts ++ us))
            (weaker moment left_since (λ journal c. left_since journal 0 c) old mid _ (StandsAfterSome s (ts ++ us))
            (first.any_moment told) (λ c some. some_in_front s ts us c some))
            (weaker moment left_since (λ journal c. left_since journal 0 c) mid new _ (StandsAfterSome s (ts ++ us))
            (second.any_moment told)
            (λ c some. some_behind s ts us c (subst (λ x. StandsAfterSome x us c) came some)));
        fit = λ told fit_now fits.
            let front = first.fit told fit_now (fit_front s ts us fits) in
            let behind = subst (λ x. AreFitFrom x us) (sym came) (fit_behind s ts us fits) in
            joined moment left_since (λ journal c. left_since journal 0 c) old mid new HasFitRecords front
            (second.fit told (λ image left. leaves_now moment left_since counts_now old mid HasFitRecords front image left)
            behind);
        ended = leads ts us first.ended second.ended;
      }

  -- a call that leaves an open journal alone
  pub makes_nothing : (holds : J → Summary → Type 0)
      → ((journal : J) (s : Summary) (c : Image) → tells → holds journal s → left_since journal (moment journal) c
      → StandsFor s c)
      → (journal : J) (s : Summary) (IsEnd : List Transaction → Type 0) → (tells → holds journal s) → IsEnd []
      → Makes tells moment left_since journal journal s IsEnd
  makes_nothing holds at_rest journal s IsEnd is ended =
      makes_none journal journal s IsEnd
      (λ told. nothing_done moment left_since journal (StandsFor s)
      (λ c left. at_rest journal s c told (is told) left))
      (λ told fit_now fits. nothing_done moment left_since journal HasFitRecords (λ c left. fit_now c left)) ended

  -- a call that ends otherwise
  pub makes_so : (old new : J) (s : Summary) (IsEnd IsLast : List Transaction → Type 0)
      → Makes tells moment left_since old new s IsEnd → ((ts : List Transaction) → IsEnd ts → IsLast ts)
      → Makes tells moment left_since old new s IsLast
  makes_so old new s IsEnd IsLast makes leads = record {
    transactions = makes.transactions;
    any_moment = makes.any_moment;
    fit = makes.fit;
    ended = leads makes.transactions makes.ended;
  }
