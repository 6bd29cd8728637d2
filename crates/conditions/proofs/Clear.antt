-- Where nothing stands against a condition, nothing stands against its parts.
use Rattle.std.proofs.Common.{◌≡◌, ℕ, ◌<◌, ◌+◌, Option, Some, None, List, [], ◌∷◌, ◌++◌, length, map, get_or, drop, refl, sym, ap, ◌∙◌, subst, append_assoc, append-nil, ◌≤◌}
use Rattle.std.specs.Prelude.{◌⊎◌}
use Rattle.std.proofs.Common.{inl, inr}
use Rattle.std.specs.Option.{option_or}
use Rattle.std.proofs.lemmas.List.{drop_more, drop_all}
use Rattle.flow_model.specs.declared.graphs.Expr.{Expr}
use Rattle.flow_model.specs.declared.graphs.Expr.TheVariants as expr
use Rattle.flow_model.specs.declared.graphs.Kind.TheVariants.{Long, Str}
use Rattle.flow_model.specs.declared.graphs.Leaf.{Leaf}
use Rattle.flow_model.specs.declared.graphs.Operator.{Operator}
use Rattle.flow_model.specs.declared.trees.Cond.{Cond, Or, And, Not, Compare}
use Rattle.flow_model.specs.declared.trees.Cond.TheOpen.{Cond-F}
use Rattle.flow_model.specs.declared.trees.Cond.TheVariants.{rolls-Not}
use Rattle.flow_model.specs.declared.trees.Cond.TheFolds.{fold-roll-Cond}
use Rattle.flow_model.specs.declared.trees.Side.{Side}
use Rattle.conditions.specs.Faults.{first_found, side_kind, side_place, same_kind, unknown_side, unknown_by, unknown_leaf, mismatch_by, mismatch, unsized_side, unsized_by, unsized_number}
use Rattle.conditions.specs.Resolving.{resolved_text, IsClear, AreClear, IsNumbers, IsResolved, AreResolved, NoMembers, OneMember, EitherOf, BothOf, NotOf}
use Rattle.conditions.proofs.Folded.{fold_or, fold_and, fold_compare}
use Rattle.conditions.proofs.TextSides.{has_text, Both, one_kind, no_mismatch}

pub clear_or : (leaves : List Leaf) (members : List Cond) → IsClear leaves (Or members) → AreClear leaves members
clear_or leaves members h = record {
  known = sym (fold_or (unknown_by leaves) members) ∙ h.known;
  alike = sym (fold_or (mismatch_by leaves) members) ∙ h.alike;
  sized = sym (fold_or unsized_by members) ∙ h.sized;
}

pub clear_and : (leaves : List Leaf) (members : List Cond) → IsClear leaves (And members) → AreClear leaves members
clear_and leaves members h = record {
  known = sym (fold_and (unknown_by leaves) members) ∙ h.known;
  alike = sym (fold_and (mismatch_by leaves) members) ∙ h.alike;
  sized = sym (fold_and unsized_by members) ∙ h.sized;
}

pub clear_not : (leaves : List Leaf) (member : Cond) → IsClear leaves (Not member) → IsClear leaves member
clear_not leaves member h = record {
  known = sym (ap (λ (c : Cond). unknown_leaf leaves c) (sym (rolls-Not member)) ∙ fold-roll-Cond (Option ℕ) (unknown_by leaves) (Cond-F.Not member)) ∙ h.known;
  alike = sym (ap (λ (c : Cond). mismatch leaves c) (sym (rolls-Not member)) ∙ fold-roll-Cond (Option ℕ) (mismatch_by leaves) (Cond-F.Not member)) ∙ h.alike;
  sized = sym (ap (λ (c : Cond). unsized_number c) (sym (rolls-Not member)) ∙ fold-roll-Cond (Option ℕ) unsized_by (Cond-F.Not member)) ∙ h.sized;
}

-- neither is found
neither : (a b : Option ℕ) → option_or a b ≡ None → (a ≡ None) × (b ≡ None)
neither None b h = (refl, h)
neither (Some p) b h = cc

-- nothing is found in what is left: neither here nor later
none_left : {X : Type 0} (f : X → Option ℕ) (xs : List X) (i : ℕ) (x : X) → i < length xs → x ≡ get_or xs i x
    → first_found (map f (drop i xs)) ≡ None → (f x ≡ None) × (first_found (map f (drop (i + 1) xs)) ≡ None)
none_left f xs i x lt is h = neither (f x) (first_found (map f (drop (i + 1) xs)))
    (ap (λ (y : _). option_or (f y) (first_found (map f (drop (i + 1) xs)))) is ∙ ap (λ ys. first_found (map f ys)) (sym (drop_more xs i x lt)) ∙ h)

-- nothing stands against this member, nor against the later ones
pub clear_more : (leaves : List Leaf) (xs : List Cond) (i : ℕ) (x : Cond) → i < length xs → x ≡ get_or xs i x
    → AreClear leaves (drop i xs) → IsClear leaves x × AreClear leaves (drop (i + 1) xs)
clear_more leaves xs i x lt is h =
    let known = none_left (unknown_leaf leaves) xs i x lt is h.known in
    let alike = none_left (mismatch leaves) xs i x lt is h.alike in
    let sized = none_left unsized_number xs i x lt is h.sized in
    (record { known = known.0; alike = alike.0; sized = sized.0 }, record { known = known.1; alike = alike.1; sized = sized.1 })

-- one more member is resolved
pub resolved_more : (leaves : List Leaf) (xs : List Cond) (i : ℕ) (x : Cond) (made : List Expr) (one : Expr) → i < length xs → x ≡ get_or xs i x
    → ((later : List Expr) → AreResolved leaves (drop i xs) later → AreResolved leaves xs (made ++ later))
    → IsResolved leaves x one → (later : List Expr) → AreResolved leaves (drop (i + 1) xs) later → AreResolved leaves xs ((made ++ one ∷ []) ++ later)
resolved_more leaves xs i x made one lt is h this later rest =
    subst (λ (es : List Expr). AreResolved leaves xs es) (sym (append_assoc made (one ∷ []) later))
    (h (one ∷ later) (subst (λ (ys : List Cond). AreResolved leaves ys (one ∷ later)) here (OneMember this rest)))
  where
    here : x ∷ drop (i + 1) xs ≡ drop i xs
    here = ap (λ (y : Cond). y ∷ drop (i + 1) xs) is ∙ sym (drop_more xs i x lt)

-- all members are resolved
pub resolved_all : (leaves : List Leaf) (xs : List Cond) (i : ℕ) (made : List Expr) → length xs ≤ i
    → ((later : List Expr) → AreResolved leaves (drop i xs) later → AreResolved leaves xs (made ++ later)) → AreResolved leaves xs made
resolved_all leaves xs i made le h =
    subst (λ (es : List Expr). AreResolved leaves xs es) (append-nil made)
    (h [] (subst (λ (ys : List Cond). AreResolved leaves ys []) (sym (drop_all i xs le)) NoMembers))

-- an OR, an AND and a NOT, by their members
pub either_resolved : (leaves : List Leaf) (written : Cond) (members given : List Cond) (made : List Expr) → written ≡ Or members → given ≡ members
    → (AreClear leaves given → AreResolved leaves given made) → IsClear leaves written → IsResolved leaves written (expr.Or made)
either_resolved leaves written members given made is same h clear =
    subst (λ (c : Cond). IsResolved leaves c (expr.Or made)) (sym is) (EitherOf (subst (λ (ms : List Cond). AreResolved leaves ms made) same
    (h (subst (λ (ms : List Cond). AreClear leaves ms) (sym same) (clear_or leaves members (subst (λ (c : Cond). IsClear leaves c) is clear))))))

pub both_resolved : (leaves : List Leaf) (written : Cond) (members given : List Cond) (made : List Expr) → written ≡ And members → given ≡ members
    → (AreClear leaves given → AreResolved leaves given made) → IsClear leaves written → IsResolved leaves written (expr.And made)
both_resolved leaves written members given made is same h clear =
    subst (λ (c : Cond). IsResolved leaves c (expr.And made)) (sym is) (BothOf (subst (λ (ms : List Cond). AreResolved leaves ms made) same
    (h (subst (λ (ms : List Cond). AreClear leaves ms) (sym same) (clear_and leaves members (subst (λ (c : Cond). IsClear leaves c) is clear))))))

pub not_resolved : (leaves : List Leaf) (written member given : Cond) (one made : Expr) → written ≡ Not member → given ≡ member → made ≡ one
    → (IsClear leaves given → IsResolved leaves given one) → IsClear leaves written → IsResolved leaves written (expr.Not made)
not_resolved leaves written member given one made is same boxed h clear =
    subst (λ (c : Cond). IsResolved leaves c (expr.Not made)) (sym is) (NotOf (subst (λ (e : Expr). IsResolved leaves member e) (sym boxed)
    (subst (λ (c : Cond). IsResolved leaves c one) same (h (subst (λ (c : Cond). IsClear leaves c) (sym same) (clear_not leaves member (subst (λ (c : Cond). IsClear leaves c) is clear)))))))

-- sides of one kind of which one is no text are sums of numbers
pub numbers_both : (leaves : List Leaf) (left right : Side) (operator : Operator) → IsClear leaves (Compare left operator right)
    → (resolved_text leaves left ≡ None) ⊎ (resolved_text leaves right ≡ None) → IsNumbers leaves left × IsNumbers leaves right
numbers_both leaves left right operator h missing = by_kind (one_kind (side_kind leaves left) (side_kind leaves right) (no_mismatch (same_kind (side_kind leaves left) (side_kind leaves right)) (side_place left) (sym (fold_compare (mismatch_by leaves) left operator right) ∙ h.alike)))
  where
    known : (unknown_side leaves left ≡ None) × (unknown_side leaves right ≡ None)
    known = neither (unknown_side leaves left) (unknown_side leaves right) (sym (fold_compare (unknown_by leaves) left operator right) ∙ h.known)

    sized : (unsized_side left ≡ None) × (unsized_side right ≡ None)
    sized = neither (unsized_side left) (unsized_side right) (sym (fold_compare unsized_by left operator right) ∙ h.sized)

    by_kind : Both (side_kind leaves left) (side_kind leaves right) Long ⊎ Both (side_kind leaves left) (side_kind leaves right) Str → IsNumbers leaves left × IsNumbers leaves right
    by_kind (inl both) = (record { kind = both.first; known = known.0; sized = sized.0 }, record { kind = both.second; known = known.1; sized = sized.1 })
    by_kind (inr both) = absurd (elim missing [ inl l ↦ has_text leaves left both.first l | inr r ↦ has_text leaves right both.second r ])
