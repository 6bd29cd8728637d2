-- Rules are judged one after another.
use Rattle.std.proofs.Common.{◌≡◌, ℕ, zero, suc, List, [], ◌∷◌, ◌++◌, Option, Some, None, Result, Ok, Err, refl, inl, inr, ⊎_elim}
use Rattle.std.specs.Prelude.{IfOk}
use Rattle.std.proofs.lemmas.Option.{none-some}
use Rattle.text_graphs.specs.Places.{IsLeastOf}
use Rattle.template_check.specs.Rules.{Rule, fault_in, IsFirstBroken}

-- the first of some rules is broken
pub found_here : (rule : Rule) (rules : List Rule) (p : ℕ) → IsLeastOf rule.1 (Some p) → IsFirstBroken (rule ∷ rules) (Some (rule.0, p))
found_here rule rules p h = inl (p, refl, h.0, h.1)

-- or it isn't
pub found_later : (rule : Rule) (rules : List Rule) (found : Option (ℕ × ℕ)) → IsLeastOf rule.1 None → IsFirstBroken rules found → IsFirstBroken (rule ∷ rules) found
found_later rule rules found h rest = inr (h, rest)

-- none of some rules is broken, and then others are judged
pub none_then : (first second : List Rule) (found : Option (ℕ × ℕ)) → IsFirstBroken first None → IsFirstBroken second found → IsFirstBroken (first ++ second) found
none_then [] second found none rest = rest
none_then (rule ∷ rules) second found none rest = ⊎_elim (λ here. let e : None ≡ Some (rule.0, here.0) = here.1 in cc) (λ past. inr (past.0, none_then rules second found past.1 rest)) none

-- one of them is broken, whatever is judged then
pub some_then : (first second : List Rule) (fault : ℕ × ℕ) → IsFirstBroken first (Some fault) → IsFirstBroken (first ++ second) (Some fault)
some_then [] second fault some = let e : Some fault ≡ None = some in cc
some_then (rule ∷ rules) second fault some = ⊎_elim (λ here. inl here) (λ past. inr (past.0, some_then rules second fault past.1)) some

-- so it is of the result of judging the others
pub then_first : {T E : Type 0} (first second : List Rule) (result : Result (Result T (ℕ × ℕ)) E) → IsFirstBroken first None → IfOk result (λ judged. IsFirstBroken second (fault_in judged)) → IfOk result (λ judged. IsFirstBroken (first ++ second) (fault_in judged))
then_first first second (Ok judged) none rest = none_then first second (fault_in judged) none rest
then_first first second (Err e) none rest = tt

-- a place breaks the rule of this number, counted from 0
abbrev pub Breaks : List Rule → ℕ → ℕ → Type 0
Breaks [] k p = ⊥
Breaks (rule ∷ rules) zero p = rule.1 p
Breaks (rule ∷ rules) (suc k) p = Breaks rules k p

-- where no rule is broken, no place breaks one
pub none_breaks : (rules : List Rule) → IsFirstBroken rules None → (k p : ℕ) → Breaks rules k p → ⊥
none_breaks [] none k p broken = broken
none_breaks (rule ∷ rules) (inl here) k p broken = none-some (rule.0, here.0) here.1
none_breaks (rule ∷ rules) (inr past) zero p broken = past.0 p broken
none_breaks (rule ∷ rules) (inr past) (suc k) p broken = none_breaks rules past.1 k p broken
