-- One more element of a list has a property, and all of them have it.
use Rattle.std.proofs.Common.{◌≡◌, ℕ, zero, suc, ◌+◌, ◌<◌, ◌≤◌, List, [], ◌∷◌, ◌++◌, length, take, get_or, subst, sym, ap, ◌∙◌, arith}
use Rattle.std.proofs.lemmas.List.{take_all, take_more}
use Rattle.std.proofs.lemmas.List.Elements.{All-append}
use Rattle.std.specs.List.{All}

module _ {X : Type 0} (P : X → Type 0) (xs : List X) (k : ℕ) where
  pub one_more : (x : X) → k < length xs → x ≡ get_or xs k x → All P (take k xs) → P x → All P (take (k + 1) xs)
  one_more x within is all here =
      subst (All P) (sym (take_more xs k x within ∙ ap (λ (y : X). take k xs ++ y ∷ []) (sym is)))
      (All-append P (take k xs) (x ∷ []) all one)
    where
      one : All P (x ∷ [])
      one zero d lt = here
      one (suc i) d lt = absurd (omega arith)

  pub all_of : length xs ≤ k → All P (take k xs) → All P xs
  all_of over all = subst (All P) (take_all k xs over) all
