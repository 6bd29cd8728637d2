-- Lists of leaves that are the same as far as a place.
use Rattle.std.proofs.Common.{◌≡◌, ℕ, zero, suc, ◌+◌, List, [], ◌∷◌, take, Some, refl, ap, ap₂, ◌∙◌, sym, arith}
use Rattle.std.specs.Prelude.{slice_get}
use Rattle.flow_model.specs.declared.graphs.Leaf.{Leaf}

-- one more leaf is the same
pub same_more : (xs ys : List Leaf) (i : ℕ) → take i xs ≡ take i ys → slice_get xs i ≡ slice_get ys i → take (i + 1) xs ≡ take (i + 1) ys
same_more [] [] zero so_far here = refl
same_more [] [] (suc i) so_far here = let on : suc i + 1 ≡ suc (i + 1) = omega arith in ap (λ (n : ℕ). take n []) on ∙ sym (ap (λ (n : ℕ). take n []) on)
same_more [] (y ∷ ys) zero so_far here = cc
same_more [] (y ∷ ys) (suc i) so_far here = cc
same_more (x ∷ xs) [] zero so_far here = cc
same_more (x ∷ xs) [] (suc i) so_far here = cc
same_more (x ∷ xs) (y ∷ ys) zero so_far here = first x y here
  where
    first : (a b : Leaf) → Some a ≡ Some b → a ∷ [] ≡ b ∷ []
    first a b e = cc
same_more (x ∷ xs) (y ∷ ys) (suc i) so_far here =
    let on : suc i + 1 ≡ suc (i + 1) = omega arith in
    ap (λ (n : ℕ). take n (x ∷ xs)) on ∙ both x y (take i xs) (take i ys) (take (i + 1) xs) (take (i + 1) ys) so_far (λ e. same_more xs ys i e here) ∙ sym (ap (λ (n : ℕ). take n (y ∷ ys)) on)
  where
    both : (a b : Leaf) (ps qs rs ts : List Leaf) → a ∷ ps ≡ b ∷ qs → (ps ≡ qs → rs ≡ ts) → a ∷ rs ≡ b ∷ ts
    both a b ps qs rs ts e more = let front : a ≡ b = cc in let tail : ps ≡ qs = cc in ap₂ (λ (l : Leaf) (ls : List Leaf). l ∷ ls) front (more tail)
