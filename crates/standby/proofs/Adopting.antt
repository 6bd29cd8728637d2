-- Transactions that are adopted, call after call.
use Rattle.std.proofs.Common.{◌≡◌, ℕ, ◌+◌, ◌≤◌, List, [], ◌∷◌, ◌++◌, Result, Ok, Err, OnOk, refl, subst}
use Rattle.std.specs.Result.{IsErrAnd}
use Rattle.core_laws.specs.RightStates.{IsRightCore}
use Rattle.flow_core.specs.Summaries.{summary}
use Rattle.flow_core.specs.declared.state.Core.{Core}
use Rattle.flow_disk.specs.Images.{Image}
use Rattle.flow_model.specs.declared.transactions.Transaction.{Transaction}
use Rattle.flow_txn.specs.Ranges.{IsInRange}
use Rattle.flow_session.specs.Leading.{LeadsBy}
use Rattle.flow_session.specs.Serving.{Makes}
use Rattle.flow_session.proofs.Calls.{makes_more, makes_so}
use Rattle.flow_session.proofs.Leading.{leads_none, leads_more}
use Rattle.standby.specs.Adopting.{AdoptsAll, EndsTaken, MakesTaken, TakesAll}
use Rattle.standby.specs.Stages.{Adopts}
use Rattle.standby.specs.declared.stops.FollowStop.{FollowStop}

-- ---- transactions

-- the next transaction
pub adopts_one : (c c' : Core) (number : ℕ) (t : Transaction) → number ≡ c.number + 1 → IsInRange number t
    → Adopts c number t c' → AdoptsAll c (t ∷ []) c'
adopts_one c c' number t is fit adopts = (
  c',
  (subst (λ (n : ℕ). IsInRange n t) is fit, subst (λ (n : ℕ). Adopts c n t c') is adopts),
  refl,
)

-- some transactions behind others
adopts_more : (c d e : Core) (ts us : List Transaction) → AdoptsAll c ts d → AdoptsAll d us e → AdoptsAll c (ts ++ us) e
adopts_more c d e [] us first second = subst (λ (x : Core). AdoptsAll x us e) first second
adopts_more c d e (t ∷ ts) us first second = (first.0, first.1, adopts_more first.0 d e ts us first.2 second)

pub takes_none : (c : Core) → TakesAll c [] c
takes_none c = record { leads = leads_none c; adopts = λ right. refl }

pub takes_more : (c d e : Core) (ts us : List Transaction) → TakesAll c ts d → TakesAll d us e → TakesAll c (ts ++ us) e
takes_more c d e ts us first second = record {
  leads = leads_more c d e ts us first.leads second.leads;
  adopts = λ right. adopts_more c d e ts us (first.adopts right) (second.adopts (first.leads.right right));
}

-- ---- the end of a call

-- no transaction is made
pub ends_none : {T E : Type 0} (r : Result T E) (c c' : Core) → OnOk r (c ≡ c') → EndsTaken c c' r []
ends_none r c c' done = record { last = c; takes = takes_none c; done = done }

-- a call that succeeds takes them up to the state after it
pub taken_ok : {T E : Type 0} (x : T) (c c' : Core) (ts : List Transaction) → EndsTaken {T = T} {E = E} c c' (Ok x) ts
    → TakesAll c ts c'
taken_ok x c c' ts ends = subst (TakesAll c ts) ends.done ends.takes

-- a call that succeeds leads to the state after it
pub leads_taken : {T E : Type 0} (r : Result T E) (c c' : Core) (ts : List Transaction) → EndsTaken c c' r ts
    → OnOk r (LeadsBy c ts c')
leads_taken (Ok x) c c' ts ends = subst (LeadsBy c ts) ends.done ends.takes.leads
leads_taken (Err e) c c' ts ends = tt

module _ {J : Type 0} (tells : Type 0) (moment : J → ℕ) (left_since : J → ℕ → Image → Type 0)
    (counts_now : (journal : J) (t : ℕ) (c : Image) → t ≤ moment journal → left_since journal (moment journal) c
    → left_since journal t c) where
  -- one call after another, each of which succeeds
  pub makes_on : {T E : Type 0} (x : T) (old mid new : J) (c d e : Core)
      → Makes tells moment left_since old mid (summary c) (λ ts. TakesAll c ts d)
      → MakesTaken {J = J} {T = T} {E = E} tells moment left_since mid new d e (Ok x)
      → Makes tells moment left_since old new (summary c) (λ ts. TakesAll c ts e)
  makes_on {E = E} x old mid new c d e first second =
      makes_more tells moment left_since counts_now old mid new (summary c) (summary d) (λ ts. TakesAll c ts d)
      (EndsTaken {E = E} d e (Ok x)) (λ ts. TakesAll c ts e) first (λ ts takes. takes.leads.came) second
      (λ ts us a b. takes_more c d e ts us a (taken_ok x d e us b))

  -- a call that stops behind others
  pub makes_stopped : {T S : Type 0} (r : Result T FollowStop) (q : Result S FollowStop) (stop : FollowStop)
      (old mid new : J) (c d e : Core) → IsErrAnd r (λ y. y ≡ stop)
      → Makes tells moment left_since old mid (summary c) (λ ts. TakesAll c ts d)
      → MakesTaken tells moment left_since mid new d e q → MakesTaken tells moment left_since old new c e r
  makes_stopped (Ok x) q stop old mid new c d e is first second = absurd is
  makes_stopped (Err y) q stop old mid new c d e is first second =
      makes_more tells moment left_since counts_now old mid new (summary c) (summary d) (λ ts. TakesAll c ts d)
      (EndsTaken d e q) (EndsTaken c e (Err y)) first (λ ts takes. takes.leads.came) second
      (λ ts us a b. record { last = b.last; takes = takes_more c d b.last ts us a b.takes; done = tt })

module _ {J : Type 0} (tells : Type 0) (moment : J → ℕ) (left_since : J → ℕ → Image → Type 0) (old new : J) where
  -- calls behind which nothing more is made
  pub makes_up_to : {T E : Type 0} (r : Result T E) (c d : Core)
      → Makes tells moment left_since old new (summary c) (λ ts. TakesAll c ts d)
      → MakesTaken tells moment left_since old new c d r
  makes_up_to r c d makes =
      makes_so tells moment left_since old new (summary c) (λ ts. TakesAll c ts d) (EndsTaken c d r) makes
      (λ ts takes. record { last = d; takes = takes; done = on_ok r refl })
    where
      on_ok : {T E P : Type 0} (r : Result T E) → P → OnOk r P
      on_ok (Ok x) so = so
      on_ok (Err e) so = tt

  -- what a call made that stops, and so does the one around it
  pub makes_no_more : {T S : Type 0} (r : Result T FollowStop) (q : Result S FollowStop) (stop : FollowStop)
      (c d e : Core) → IsErrAnd r (λ y. y ≡ stop) → MakesTaken tells moment left_since old new c d q
      → MakesTaken tells moment left_since old new c e r
  makes_no_more (Ok x) q stop c d e is makes = absurd is
  makes_no_more (Err y) q stop c d e is makes =
      makes_so tells moment left_since old new (summary c) (EndsTaken c d q) (EndsTaken c e (Err y)) makes
      (λ ts ends. record { last = ends.last; takes = ends.takes; done = tt })

  -- what a call made that succeeds, and so does the one around it
  pub makes_ok : {T S E : Type 0} (x : T) (y : S) (c d : Core)
      → MakesTaken {J = J} {T = T} {E = E} tells moment left_since old new c d (Ok x)
      → MakesTaken {J = J} {T = S} {E = E} tells moment left_since old new c d (Ok y)
  makes_ok {E = E} x y c d makes =
      makes_so tells moment left_since old new (summary c) (EndsTaken {E = E} c d (Ok x))
      (EndsTaken {E = E} c d (Ok y)) makes
      (λ ts ends. record { last = ends.last; takes = ends.takes; done = ends.done })

  -- what a call made, by what it leads to
  pub makes_led : {T E : Type 0} (r : Result T E) (c d : Core) → MakesTaken tells moment left_since old new c d r
      → Makes tells moment left_since old new (summary c) (λ ts. OnOk r (LeadsBy c ts d))
  makes_led r c d makes =
      makes_so tells moment left_since old new (summary c) (EndsTaken c d r) (λ ts. OnOk r (LeadsBy c ts d)) makes
      (λ ts ends. leads_taken r c d ts ends)

  -- what a call made from a right state on is adopted
  pub makes_adopted : {T E : Type 0} (r : Result T E) (c d : Core) → IsRightCore c
      → MakesTaken tells moment left_since old new c d r
      → Makes tells moment left_since old new (summary c) (λ ts. (last : Core) × AdoptsAll c ts last)
  makes_adopted r c d right makes =
      makes_so tells moment left_since old new (summary c) (EndsTaken c d r)
      (λ ts. (last : Core) × AdoptsAll c ts last) makes (λ ts ends. (ends.last, ends.takes.adopts right))
