-- A condition that nothing stands against is resolved, member by member.
use Rattle.std.proofs.Common.{◌≡◌, ℕ, zero, suc, ◌+◌, ◌<◌, Option, Some, None, List, [], ◌∷◌, map, inl, inr, refl}
use Rattle.std.proofs.Common.{sym, ap, ◌∙◌}
use Rattle.std.proofs.Common.{subst, arith}
use Rattle.std.specs.Option.{option_or, option_map}
use Rattle.conditions.proofs.Clear.{clear_or, clear_and, clear_not, numbers_both}
use Rattle.conditions.proofs.Folded.{fold_or, fold_and}
use Rattle.conditions.specs.Faults.{first_found, place_without, unknown_leaf, unknown_operand, unknown_term}
use Rattle.conditions.specs.Faults.{mismatch, unsized_operand, unsized_term, unsized_number}
use Rattle.conditions.specs.Resolving.{IsClear, AreClear, IsNumbers, IsResolved, AreResolved, IsSumOf, EitherOf}
use Rattle.conditions.specs.Resolving.{BothOf, NotOf}
use Rattle.conditions.specs.Resolving.{TextsOf, NumbersOf, NoMembers, OneMember, resolved_operand, resolved_term}
use Rattle.conditions.specs.Resolving.{resolved_text}
use Rattle.containers.specs.Named.{leaf_place}
use Rattle.containers.specs.Settings.{written_number}
use Rattle.flow_model.specs.declared.graphs.Expr.{Expr}
use Rattle.flow_model.specs.declared.graphs.Expr.TheVariants as expr
use Rattle.flow_model.specs.declared.graphs.Leaf.{Leaf}
use Rattle.flow_model.specs.declared.graphs.Operand.{Operand}
use Rattle.flow_model.specs.declared.graphs.Operand.TheVariants as resolved
use Rattle.flow_model.specs.declared.graphs.Operator.{Operator}
use Rattle.flow_model.specs.declared.graphs.Term.{Term}
use Rattle.flow_model.specs.declared.graphs.TextSide.{TextSide}
use Rattle.flow_model.specs.declared.trees.Cond.{Cond, Or, And, Not, Compare, out-Cond, roll-Cond, roll-out-Cond}
use Rattle.flow_model.specs.declared.trees.Cond.TheFolds.{fold-Cond, fold-roll-Cond}
use Rattle.flow_model.specs.declared.trees.Cond.TheOpen.{Cond-F}
use Rattle.flow_model.specs.declared.trees.Cond.TheVariants.{rolls-Or, rolls-And, rolls-Not, rolls-Compare}
use Rattle.flow_model.specs.declared.trees.OperandTree.{OperandTree}
use Rattle.flow_model.specs.declared.trees.OperandTree.TheVariants as operand
use Rattle.flow_model.specs.declared.trees.Side.{Side}
use Rattle.flow_model.specs.declared.trees.Side.TheVariants as side
use Rattle.flow_model.specs.declared.trees.TermTree.{TermTree}

-- ---- how large a condition is

-- the sum of some numbers
abbrev total : List ℕ → ℕ
total [] = 0
total (n ∷ ns) = n + total ns

-- one more than its members, of a form that has members
abbrev size_by : Cond-F ℕ → ℕ
size_by (Cond-F.Or members) = total members + 1
size_by (Cond-F.And members) = total members + 1
size_by (Cond-F.Not member) = member + 1
size_by (Cond-F.Compare left operator right) = 0

abbrev size_of : Cond → ℕ
size_of = fold-Cond ℕ size_by

-- so it is, by its form
size_or : (members : List Cond) → size_of (Or members) ≡ total (map size_of members) + 1
size_or members = fold_or size_by members

size_and : (members : List Cond) → size_of (And members) ≡ total (map size_of members) + 1
size_and members = fold_and size_by members

size_not : (member : Cond) → size_of (Not member) ≡ size_of member + 1
size_not member = ap (λ (c : Cond). size_of c) (sym (rolls-Not member)) ∙ fold-roll-Cond ℕ size_by (Cond-F.Not member)

-- ---- sums

-- neither is found
neither : (a b : Option ℕ) → option_or a b ≡ None → (a ≡ None) × (b ≡ None)
neither None b h = (refl, h)
neither (Some p) b h = cc

-- an operand with its place or its value
place_known : (o : Option ℕ) (p : ℕ) → place_without o p ≡ None
    → (made : Operand) × (option_map (λ place. resolved.Leaf place) o ≡ Some made)
place_known None p h = cc
place_known (Some k) p h = (resolved.Leaf k, refl)

operand_resolved : (leaves : List Leaf) (o : OperandTree) → unknown_operand leaves o ≡ None → unsized_operand o ≡ None
    → (made : Operand) × (resolved_operand leaves o ≡ Some made)
operand_resolved leaves (operand.Leaf leaf) known sized = place_known (leaf_place leaves leaf.steps) leaf.place known
operand_resolved leaves (operand.Number number) known sized = by_value (written_number number) sized
  where
    by_value : (o : _) → place_without o number.place ≡ None
        → (made : Operand) × (option_map (λ value. resolved.Number value) o ≡ Some made)
    by_value None h = cc
    by_value (Some value) h = (resolved.Number value, refl)

-- a term
term_resolved : (leaves : List Leaf) (t : TermTree) → unknown_term leaves t ≡ None → unsized_term t ≡ None
    → (made : Term) × (resolved_term leaves t ≡ Some made)
term_resolved leaves t known sized =
    let found = operand_resolved leaves t.operand known sized in (
      record { minus = t.minus; operand = found.0 },
      ap (λ (o : Option Operand). option_map (λ made. record { minus = t.minus; operand = made }) o) found.1,
    )

-- the terms of a sum
terms_resolved : (leaves : List Leaf) (ts : List TermTree) → first_found (map (unknown_term leaves) ts) ≡ None
    → first_found (map unsized_term ts) ≡ None → (made : List Term) × IsSumOf leaves (side.Sum ts) made
terms_resolved leaves [] known sized = ([], refl)
terms_resolved leaves (t ∷ ts) known sized =
    let k = neither (unknown_term leaves t) (first_found (map (unknown_term leaves) ts)) known in
    let s = neither (unsized_term t) (first_found (map unsized_term ts)) sized in
    let first = term_resolved leaves t k.0 s.0 in
    let others = terms_resolved leaves ts k.1 s.1 in
    (first.0 ∷ others.0, rw (first.1, others.1) refl)

-- a side of numbers
side_resolved : (leaves : List Leaf) (s : Side) → IsNumbers leaves s → (made : List Term) × IsSumOf leaves s made
side_resolved leaves (side.Text text place) h = let e = h.kind in cc
side_resolved leaves (side.Sum terms) h = terms_resolved leaves terms h.known h.sized

-- ---- comparisons

-- a comparison of numbers
numbers_resolved : (leaves : List Leaf) (left right : Side) (operator : Operator)
    → IsNumbers leaves left × IsNumbers leaves right
    → (made : Expr) × IsResolved leaves (Compare left operator right) made
numbers_resolved leaves left right operator h =
    let first = side_resolved leaves left h.0 in
    let second = side_resolved leaves right h.1 in
    (expr.Whole operator first.0 second.0, NumbersOf h.0.kind h.1.kind first.1 second.1)

-- a comparison, by the texts that its sides are
comparison_resolved : (leaves : List Leaf) (left right : Side) (operator : Operator)
    → IsClear leaves (Compare left operator right) → (first second : Option TextSide)
    → resolved_text leaves left ≡ first → resolved_text leaves right ≡ second
    → (made : Expr) × IsResolved leaves (Compare left operator right) made
comparison_resolved leaves left right operator clear None second h j =
    numbers_resolved leaves left right operator (numbers_both leaves left right operator clear (inl h))
comparison_resolved leaves left right operator clear (Some first) None h j =
    numbers_resolved leaves left right operator (numbers_both leaves left right operator clear (inr j))
comparison_resolved leaves left right operator clear (Some first) (Some second) h j =
    (expr.Texts operator first second, TextsOf h j)

-- ---- members

-- conditions of a size below n are resolved
AreResolvable : List Leaf → ℕ → Type 0
AreResolvable leaves n = (c : Cond) → size_of c < n → IsClear leaves c → (made : Expr) × IsResolved leaves c made

-- the members of one
members_resolved : (leaves : List Leaf) (n : ℕ) → AreResolvable leaves n → (ms : List Cond) → total (map size_of ms) < n
    → AreClear leaves ms → (made : List Expr) × AreResolved leaves ms made
unfolding AreResolvable
members_resolved leaves n smaller [] less clear = ([], NoMembers)
members_resolved leaves n smaller (m ∷ ms) less clear =
    let known = neither (unknown_leaf leaves m) (first_found (map (unknown_leaf leaves) ms)) clear.known in
    let alike = neither (mismatch leaves m) (first_found (map (mismatch leaves) ms)) clear.alike in
    let sized = neither (unsized_number m) (first_found (map unsized_number ms)) clear.sized in
    let first = smaller m (omega (arith, less)) (record { known = known.0; alike = alike.0; sized = sized.0 }) in
    let others = members_resolved leaves n smaller ms (omega (arith, less))
    (record { known = known.1; alike = alike.1; sized = sized.1 }) in
    (first.0 ∷ others.0, OneMember first.1 others.1)

-- ---- conditions

-- a condition, by its form
by_form : (leaves : List Leaf) (n : ℕ) → AreResolvable leaves n → (c : Cond) (f : Cond-F Cond) → roll-Cond f ≡ c
    → size_of c < suc n → IsClear leaves c → (made : Expr) × IsResolved leaves c made
unfolding AreResolvable
by_form leaves n smaller c (Cond-F.Or ms) is less clear =
    let same : Or ms ≡ c = sym (rolls-Or ms) ∙ is in
    let size = size_or ms in
    let here = ap (λ (x : Cond). size_of x) same in
    let made = members_resolved leaves n smaller ms (omega (arith, size, here, less))
    (clear_or leaves ms (subst (λ (x : Cond). IsClear leaves x) (sym same) clear)) in
    (expr.Or made.0, subst (λ (x : Cond). IsResolved leaves x (expr.Or made.0)) same (EitherOf made.1))
by_form leaves n smaller c (Cond-F.And ms) is less clear =
    let same : And ms ≡ c = sym (rolls-And ms) ∙ is in
    let size = size_and ms in
    let here = ap (λ (x : Cond). size_of x) same in
    let made = members_resolved leaves n smaller ms (omega (arith, size, here, less))
    (clear_and leaves ms (subst (λ (x : Cond). IsClear leaves x) (sym same) clear)) in
    (expr.And made.0, subst (λ (x : Cond). IsResolved leaves x (expr.And made.0)) same (BothOf made.1))
by_form leaves n smaller c (Cond-F.Not m) is less clear =
    let same : Not m ≡ c = sym (rolls-Not m) ∙ is in
    let size = size_not m in
    let here = ap (λ (x : Cond). size_of x) same in
    let made = smaller m (omega (arith, size, here, less))
    (clear_not leaves m (subst (λ (x : Cond). IsClear leaves x) (sym same) clear)) in
    (expr.Not made.0, subst (λ (x : Cond). IsResolved leaves x (expr.Not made.0)) same (NotOf made.1))
by_form leaves n smaller c (Cond-F.Compare left operator right) is less clear =
    let same : Compare left operator right ≡ c = sym (rolls-Compare left operator right) ∙ is in
    let made = comparison_resolved leaves left right operator (subst (λ (x : Cond). IsClear leaves x) (sym same) clear)
    (resolved_text leaves left) (resolved_text leaves right) refl refl in
    (made.0, subst (λ (x : Cond). IsResolved leaves x made.0) same made.1)

-- conditions of every size are
resolved_below : (leaves : List Leaf) (n : ℕ) → AreResolvable leaves n
unfolding AreResolvable
resolved_below leaves zero c less clear = absurd (omega (arith, less))
resolved_below leaves (suc n) c less clear =
    by_form leaves n (resolved_below leaves n) c (out-Cond c) (roll-out-Cond c) less clear

-- a condition that nothing stands against is resolved
pub clear_resolved : (leaves : List Leaf) (c : Cond) → IsClear leaves c → (made : Expr) × IsResolved leaves c made
unfolding AreResolvable
clear_resolved leaves c clear = resolved_below leaves (suc (size_of c)) c (omega arith) clear
