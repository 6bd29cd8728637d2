-- Rounds of any step that looks only at what stands before in an order.
use Rattle.fate_laws.proofs.Extends.{Extends}
use Rattle.flow_model.specs.Fates.{Ends}
use Rattle.flow_model.specs.Scopes.{rounds}
use Rattle.std.proofs.Common.{◌≡◌, ℕ, zero, suc, ◌≤◌, ◌<◌, List, length, sym, ◌∙◌, arith}
use Rattle.std.specs.Prelude.{slice_index}

-- two steps, the second of which keeps what the first settles
pub rounds_kept : (next next' : Ends → Ends) → ((e e' : Ends) → Extends e e' → Extends (next e) (next' e')) → (n : ℕ) → Extends (rounds next n) (rounds next' n)
rounds_kept next next' grow zero = record { kept = λ a h. cc }
rounds_kept next next' grow (suc n) = grow _ _ (rounds_kept next next' grow n)

module _ (next : Ends → Ends) (order : List ℕ)
    (forward : (i : ℕ) → i < length order → (e e' : Ends) → ((j : ℕ) → j < i → e (slice_index order j) ≡ e' (slice_index order j))
    → next e (slice_index order i) ≡ next e' (slice_index order i)) where
  same_from : (i n : ℕ) → i ≤ n → i ≤ length order → (j : ℕ) → j < i → rounds next (suc n) (slice_index order j) ≡ rounds next n (slice_index order j)
  same_from zero n le short j less = absurd (omega arith)
  same_from (suc i) zero le short j less = absurd (omega arith)
  same_from (suc i) (suc n) le short j less =
      forward j (omega arith) (rounds next (suc n)) (rounds next n) (λ b h. same_from i n (omega arith) (omega arith) b (omega arith))

  -- enough rounds satisfy the equations
  pub solved : (n : ℕ) → length order ≤ n → (j : ℕ) → j < length order → rounds next n (slice_index order j) ≡ next (rounds next n) (slice_index order j)
  solved n enough j less = sym (same_from (length order) n enough (omega arith) j less)

  pub unique : (e : Ends) → ((j : ℕ) → j < length order → e (slice_index order j) ≡ next e (slice_index order j))
      → (n : ℕ) → length order ≤ n → (i : ℕ) → i ≤ length order → (j : ℕ) → j < i → e (slice_index order j) ≡ rounds next n (slice_index order j)
  unique e solves n enough zero le j less = absurd (omega arith)
  unique e solves n enough (suc i) le j less =
      solves j (omega arith) ∙ forward j (omega arith) e (rounds next n) (λ b h. unique e solves n enough i (omega arith) b (omega arith))
      ∙ sym (solved n enough j (omega arith))
