-- What is own after a front part of some transactions is so after a front part of more of them, and is reopened.
use Rattle.std.proofs.Common.{◌≡◌, ◌⊎◌, inl, inr, ℕ, zero, suc, List, [], ◌∷◌, ◌++◌, take, refl, sym, ap, subst}
use Rattle.flow_disk.specs.Images.{Image}
use Rattle.flow_disk.specs.Moments.{LeavesOnly}
use Rattle.flow_model.specs.declared.transactions.Transaction.{Transaction}
use Rattle.machine.specs.States.{State}
use Rattle.reopening_laws.specs.Making.{MadeByCommands}
use Rattle.reopening_laws.proofs.Sessions.{made_more}
use Rattle.compaction_laws.specs.OwnStores.{IsOwn, IsOwnAfterSome}
use Rattle.compaction_laws.proofs.OwnStores.{own_reopens}
use Rattle.run_laws.specs.Runs.{IsReopenedTo, IsReopenedAfterSome}

-- ---- lists

take_front : (n : ℕ) (ts us : List Transaction) → (m : ℕ) × (take m (ts ++ us) ≡ take n ts)
take_front zero ts us = (0, refl)
take_front (suc n) [] us = (0, refl)
take_front (suc n) (t ∷ ts) us =
    let rest = take_front n ts us in
    (suc rest.0, ap (λ (xs : List Transaction). t ∷ xs) rest.1)

take_past : (n : ℕ) (ts us : List Transaction) → (m : ℕ) × (take m (ts ++ us) ≡ ts ++ take n us)
take_past n [] us = (n, refl)
take_past n (t ∷ ts) us =
    let rest = take_past n ts us in
    (suc rest.0, ap (λ (xs : List Transaction). t ∷ xs) rest.1)

-- ---- images

module _ (s : State) (ts us : List Transaction) where
  -- what is own after some of the first ones
  pub own_front : (image : Image) → IsOwnAfterSome s ts image → IsOwnAfterSome s (ts ++ us) image
  own_front image (n, mid, made, own) =
      let m = take_front n ts us in
      (m.0, mid, subst (λ (xs : List Transaction). MadeByCommands s xs mid) (sym m.1) made, own)

  -- what is own after all of them, and some of the others
  pub own_past : (last : State) → MadeByCommands s ts last → (image : Image) → IsOwnAfterSome last us image
      → IsOwnAfterSome s (ts ++ us) image
  own_past last first image (n, mid, made, own) =
      let m = take_past n ts us in (
        m.0,
        mid,
        subst (λ (xs : List Transaction). MadeByCommands s xs mid) (sym m.1)
            (made_more s ts (take n us) last mid first made),
        own,
      )

-- what is own is reopened
pub own_reopened : (s : State) (image : Image) → IsOwn s image → IsReopenedTo s image
own_reopened s image own =
    let reopens = own_reopens s image own in
    record { own = own; openable = reopens.0; opened = reopens.1 }

pub some_reopened : (s : State) (ts : List Transaction) (image : Image) → IsOwnAfterSome s ts image
    → IsReopenedAfterSome s ts image
some_reopened s ts image (n, mid, made, own) = (n, mid, made, own_reopened mid image own)

-- ---- crashes

module _ {J : Type 0} (moment : J → ℕ) (left_since : J → ℕ → Image → Type 0) where
  -- what holds of each image that a crash leaves, and what else holds of it
  pub both : (j j' : J) (P Q : Image → Type 0) → LeavesOnly moment left_since j j' P
      → LeavesOnly moment left_since j j' Q → LeavesOnly moment left_since j j' (λ image. P image × Q image)
  both j j' P Q one other = record {
    later = one.later;
    each = λ image left. (one.each image left, other.each image left);
    before = λ t image early left. go image (left_since j t image) (one.before t image early left)
        (other.before t image early left);
  }
    where
      go : (image : Image) (Was : Type 0) → Was ⊎ P image → Was ⊎ Q image → Was ⊎ (P image × Q image)
      go image Was (inl was) second = inl was
      go image Was (inr here) (inl was) = inl was
      go image Was (inr here) (inr there) = inr (here, there)
