-- A written condition is resolved in one way.
use Rattle.std.proofs.Common.{◌≡◌, ℕ, ◌||◌, Bool, true, false, Option, Some, None, List, [], ◌∷◌, map, refl, sym, ap, ◌∙◌, subst}
use Rattle.std.specs.Prelude.{if◌then◌else◌}
use Rattle.std.specs.Option.{option_map}
use Rattle.containers.specs.Named.{leaf_place}
use Rattle.flow_model.specs.declared.graphs.Expr.{Expr}
use Rattle.flow_model.specs.declared.graphs.Expr.TheVariants as expr
use Rattle.flow_model.specs.declared.graphs.Kind.TheVariants.{Long, Str}
use Rattle.flow_model.specs.declared.graphs.Leaf.{Leaf}
use Rattle.flow_model.specs.declared.graphs.Operator.{Operator}
use Rattle.flow_model.specs.declared.graphs.Term.{Term}
use Rattle.flow_model.specs.declared.graphs.TextSide.{TextSide}
use Rattle.flow_model.specs.declared.graphs.TextSide.TheVariants as text
use Rattle.flow_model.specs.declared.trees.Cond.{Cond, Or, And, Not, Compare, out-Cond}
use Rattle.flow_model.specs.declared.trees.Cond.TheOpen.{Cond-F}
use Rattle.flow_model.specs.declared.trees.Cond.TheVariants.{outs-Or, outs-And, outs-Not, outs-Compare}
use Rattle.flow_model.specs.declared.trees.OperandTree.{OperandTree}
use Rattle.flow_model.specs.declared.trees.OperandTree.TheVariants as operand
use Rattle.flow_model.specs.declared.trees.Side.{Side}
use Rattle.flow_model.specs.declared.trees.Side.TheVariants as side
use Rattle.conditions.specs.Faults.{is_text_operand, side_kind}
use Rattle.conditions.specs.Resolving.{resolved_text, text_operand, IsSumOf, IsResolved, AreResolved, NoMembers, OneMember, EitherOf, BothOf, NotOf, TextsOf, NumbersOf}

-- ---- sides

pub some_one : {X : Type 0} {o : Option X} {x y : X} → o ≡ Some x → o ≡ Some y → x ≡ y
some_one h j = let e = sym h ∙ j in cc

by_test : {X : Type 0} (b : Bool) (found : Option X) (x : X) → (if b then found else None) ≡ Some x
    → (if b || false then Some Str else Some Long) ≡ Some Long → ⊥
by_test true found x h g = cc
by_test false found x h g = cc

-- an operand that is a text is no number
by_operand : (leaves : List Leaf) (o : OperandTree) (first : TextSide) → text_operand leaves o ≡ Some first
    → (if is_text_operand leaves o || false then Some Str else Some Long) ≡ Some Long → ⊥
by_operand leaves (operand.Leaf leaf) first h g =
    by_test (is_text_operand leaves (operand.Leaf leaf)) (option_map (λ place. text.Leaf place) (leaf_place leaves leaf.steps)) first h g
by_operand leaves (operand.Number number) first h g = cc

-- a side is no text where it is a sum of numbers
no_text : (leaves : List Leaf) (s : Side) (first : TextSide) → resolved_text leaves s ≡ Some first → side_kind leaves s ≡ Some Long → ⊥
no_text leaves (side.Text t p) first h g = cc
no_text leaves (side.Sum []) first h g = cc
no_text leaves (side.Sum (t ∷ [])) first h g = by_operand leaves t.operand first h g
no_text leaves (side.Sum (t ∷ u ∷ ts)) first h g = cc

somes_one : {X : Type 0} (xs ys : List X) → map (λ x. Some x) xs ≡ map (λ x. Some x) ys → xs ≡ ys
somes_one [] [] e = refl
somes_one [] (y ∷ ys) e = cc
somes_one (x ∷ xs) [] e = cc
somes_one (x ∷ xs) (y ∷ ys) e =
    let head : Some x ≡ Some y = cc in
    let tail : map (λ x. Some x) xs ≡ map (λ x. Some x) ys = cc in
    let same : x ≡ y = cc in
    rw (same, somes_one xs ys tail) refl

sum_one : (leaves : List Leaf) (s : Side) (xs ys : List Term) → IsSumOf leaves s xs → IsSumOf leaves s ys → xs ≡ ys
sum_one leaves (side.Text t p) xs ys h j = absurd h
sum_one leaves (side.Sum written) xs ys h j = somes_one xs ys (sym h ∙ j)

-- ---- the forms of a condition

or_one : (ms ns : List Cond) → Or ms ≡ Or ns → ms ≡ ns
or_one ms ns e = let h : Cond-F.Or ms ≡ Cond-F.Or ns = sym (outs-Or ms) ∙ ap out-Cond e ∙ outs-Or ns in cc

and_one : (ms ns : List Cond) → And ms ≡ And ns → ms ≡ ns
and_one ms ns e = let h : Cond-F.And ms ≡ Cond-F.And ns = sym (outs-And ms) ∙ ap out-Cond e ∙ outs-And ns in cc

not_one : (m n : Cond) → Not m ≡ Not n → m ≡ n
not_one m n e = let h : Cond-F.Not m ≡ Cond-F.Not n = sym (outs-Not m) ∙ ap out-Cond e ∙ outs-Not n in cc

-- what a comparison compares
record Compared (l r k s : Side) (o q : Operator) : Type 0 where
  pub left : l ≡ k
  pub operator : o ≡ q
  pub right : r ≡ s

compare_one : (l r k s : Side) (o q : Operator) → Compare l o r ≡ Compare k q s → Compared l r k s o q
compare_one l r k s o q e =
    let h : Cond-F.Compare l o r ≡ Cond-F.Compare k q s = sym (outs-Compare l o r) ∙ ap out-Cond e ∙ outs-Compare k q s in
    record { left = cc; operator = cc; right = cc }

-- a number for each form
form_of : Cond-F Cond → ℕ
form_of (Cond-F.Or members) = 0
form_of (Cond-F.And members) = 1
form_of (Cond-F.Not member) = 2
form_of (Cond-F.Compare left operator right) = 3

-- what is made of a condition, by its form
data IsRead (leaves : List Leaf) (c : Cond) (made : Expr) : Type 0 where
  AsOr : (members : List Cond) (es : List Expr) → c ≡ Or members → made ≡ expr.Or es → AreResolved leaves members es → IsRead leaves c made
  AsAnd : (members : List Cond) (es : List Expr) → c ≡ And members → made ≡ expr.And es → AreResolved leaves members es → IsRead leaves c made
  AsNot : (member : Cond) (e : Expr) → c ≡ Not member → made ≡ expr.Not e → IsResolved leaves member e → IsRead leaves c made
  AsTexts : (l r : Side) (o : Operator) (first second : TextSide) → c ≡ Compare l o r → made ≡ expr.Texts o first second
      → resolved_text leaves l ≡ Some first → resolved_text leaves r ≡ Some second → IsRead leaves c made
  AsNumbers : (l r : Side) (o : Operator) (first second : List Term) → c ≡ Compare l o r → made ≡ expr.Whole o first second
      → side_kind leaves l ≡ Some Long → IsSumOf leaves l first → IsSumOf leaves r second → IsRead leaves c made

read : {leaves : List Leaf} {c : Cond} {made : Expr} → IsResolved leaves c made → IsRead leaves c made
read (EitherOf {members = ms} {made = es} h) = AsOr ms es refl refl h
read (BothOf {members = ms} {made = es} h) = AsAnd ms es refl refl h
read (NotOf {member = m} {made = e} h) = AsNot m e refl refl h
read (TextsOf {left = l} {right = r} {operator = o} {first = a} {second = b} h1 h2) = AsTexts l r o a b refl refl h1 h2
read (NumbersOf {left = l} {right = r} {operator = o} {first = a} {second = b} h1 h2 h3 h4) = AsNumbers l r o a b refl refl h1 h3 h4

-- the forms are apart
or_and : (ms : List Cond) (ms' : List Cond) → Or ms ≡ And ms' → ⊥
or_and ms ms' e = let h : Cond-F.Or ms ≡ Cond-F.And ms' = sym (outs-Or ms) ∙ ap out-Cond e ∙ outs-And ms' in cc

or_not : (ms : List Cond) (m' : Cond) → Or ms ≡ Not m' → ⊥
or_not ms m' e = let h : Cond-F.Or ms ≡ Cond-F.Not m' = sym (outs-Or ms) ∙ ap out-Cond e ∙ outs-Not m' in cc

or_compare : (ms : List Cond) (l' r' : Side) (o' : Operator) → Or ms ≡ Compare l' o' r' → ⊥
or_compare ms l' r' o' e = let h : Cond-F.Or ms ≡ Cond-F.Compare l' o' r' = sym (outs-Or ms) ∙ ap out-Cond e ∙ outs-Compare l' o' r' in cc

and_or : (ms : List Cond) (ms' : List Cond) → And ms ≡ Or ms' → ⊥
and_or ms ms' e = let h : Cond-F.And ms ≡ Cond-F.Or ms' = sym (outs-And ms) ∙ ap out-Cond e ∙ outs-Or ms' in cc

and_not : (ms : List Cond) (m' : Cond) → And ms ≡ Not m' → ⊥
and_not ms m' e = let h : Cond-F.And ms ≡ Cond-F.Not m' = sym (outs-And ms) ∙ ap out-Cond e ∙ outs-Not m' in cc

and_compare : (ms : List Cond) (l' r' : Side) (o' : Operator) → And ms ≡ Compare l' o' r' → ⊥
and_compare ms l' r' o' e = let h : Cond-F.And ms ≡ Cond-F.Compare l' o' r' = sym (outs-And ms) ∙ ap out-Cond e ∙ outs-Compare l' o' r' in cc

not_or : (m : Cond) (ms' : List Cond) → Not m ≡ Or ms' → ⊥
not_or m ms' e = let h : Cond-F.Not m ≡ Cond-F.Or ms' = sym (outs-Not m) ∙ ap out-Cond e ∙ outs-Or ms' in cc

not_and : (m : Cond) (ms' : List Cond) → Not m ≡ And ms' → ⊥
not_and m ms' e = let h : Cond-F.Not m ≡ Cond-F.And ms' = sym (outs-Not m) ∙ ap out-Cond e ∙ outs-And ms' in cc

not_compare : (m : Cond) (l' r' : Side) (o' : Operator) → Not m ≡ Compare l' o' r' → ⊥
not_compare m l' r' o' e = let h : Cond-F.Not m ≡ Cond-F.Compare l' o' r' = sym (outs-Not m) ∙ ap out-Cond e ∙ outs-Compare l' o' r' in cc

compare_or : (l r : Side) (o : Operator) (ms' : List Cond) → Compare l o r ≡ Or ms' → ⊥
compare_or l r o ms' e = let h : Cond-F.Compare l o r ≡ Cond-F.Or ms' = sym (outs-Compare l o r) ∙ ap out-Cond e ∙ outs-Or ms' in cc

compare_and : (l r : Side) (o : Operator) (ms' : List Cond) → Compare l o r ≡ And ms' → ⊥
compare_and l r o ms' e = let h : Cond-F.Compare l o r ≡ Cond-F.And ms' = sym (outs-Compare l o r) ∙ ap out-Cond e ∙ outs-And ms' in cc

compare_not : (l r : Side) (o : Operator) (m' : Cond) → Compare l o r ≡ Not m' → ⊥
compare_not l r o m' e = let h : Cond-F.Compare l o r ≡ Cond-F.Not m' = sym (outs-Compare l o r) ∙ ap out-Cond e ∙ outs-Not m' in cc

texts_one : (o q : Operator) (a b c d : TextSide) → o ≡ q → a ≡ c → b ≡ d → expr.Texts o a b ≡ expr.Texts q c d
texts_one o q a b c d e f g = rw (e, f, g) refl

wholes_one : (o q : Operator) (a b c d : List Term) → o ≡ q → a ≡ c → b ≡ d → expr.Whole o a b ≡ expr.Whole q c d
wholes_one o q a b c d e f g = rw (e, f, g) refl

comparison_one : (leaves : List Leaf) (l r : Side) (o : Operator) (first second : TextSide) (f : Expr)
    → resolved_text leaves l ≡ Some first → resolved_text leaves r ≡ Some second → IsRead leaves (Compare l o r) f
    → expr.Texts o first second ≡ f
comparison_one leaves l r o first second f h1 h2 (AsOr ns fs same is j) = absurd (compare_or l r o ns same)
comparison_one leaves l r o first second f h1 h2 (AsAnd ns fs same is j) = absurd (compare_and l r o ns same)
comparison_one leaves l r o first second f h1 h2 (AsNot n e same is j) = absurd (compare_not l r o n same)
comparison_one leaves l r o first second f h1 h2 (AsTexts k s q a b same is j1 j2) =
    let e = compare_one l r k s o q same in
    texts_one o q first second a b e.operator
    (some_one h1 (ap (λ x. resolved_text leaves x) e.left ∙ j1))
    (some_one h2 (ap (λ x. resolved_text leaves x) e.right ∙ j2)) ∙ sym is
comparison_one leaves l r o first second f h1 h2 (AsNumbers k s q a b same is j1 j2 j3) =
    let e = compare_one l r k s o q same in
    absurd (no_text leaves l first h1 (ap (λ x. side_kind leaves x) e.left ∙ j1))

numbers_one : (leaves : List Leaf) (l r : Side) (o : Operator) (first second : List Term) (f : Expr)
    → side_kind leaves l ≡ Some Long → IsSumOf leaves l first → IsSumOf leaves r second → IsRead leaves (Compare l o r) f
    → expr.Whole o first second ≡ f
numbers_one leaves l r o first second f h1 h2 h3 (AsOr ns fs same is j) = absurd (compare_or l r o ns same)
numbers_one leaves l r o first second f h1 h2 h3 (AsAnd ns fs same is j) = absurd (compare_and l r o ns same)
numbers_one leaves l r o first second f h1 h2 h3 (AsNot n e same is j) = absurd (compare_not l r o n same)
numbers_one leaves l r o first second f h1 h2 h3 (AsTexts k s q a b same is j1 j2) =
    let e = compare_one l r k s o q same in
    absurd (no_text leaves k a j1 (ap (λ x. side_kind leaves x) (sym e.left) ∙ h1))
numbers_one leaves l r o first second f h1 h2 h3 (AsNumbers k s q a b same is j1 j2 j3) =
    let e = compare_one l r k s o q same in
    wholes_one o q first second a b e.operator
    (sum_one leaves k first a (subst (λ x. IsSumOf leaves x first) e.left h2) j2)
    (sum_one leaves s second b (subst (λ x. IsSumOf leaves x second) e.right h3) j3) ∙ sym is

mutual
  read_one : (leaves : List Leaf) {c : Cond} {e f : Expr} → IsResolved leaves c e → IsRead leaves c f → e ≡ f
  read_one leaves (EitherOf {members = ms} h) (AsOr ns fs same is j) =
      ap expr.Or (members_one leaves h (subst (λ (xs : List Cond). AreResolved leaves xs fs) (sym (or_one ms ns same)) j))
      ∙ sym is
  read_one leaves (EitherOf {members = ms} h) (AsAnd ns fs same is j) = absurd (or_and ms ns same)
  read_one leaves (EitherOf {members = ms} h) (AsNot n f same is j) = absurd (or_not ms n same)
  read_one leaves (EitherOf {members = ms} h) (AsTexts l r o first second same is j1 j2) =
      absurd (or_compare ms l r o same)
  read_one leaves (EitherOf {members = ms} h) (AsNumbers l r o first second same is j1 j2 j3) =
      absurd (or_compare ms l r o same)
  read_one leaves (BothOf {members = ms} h) (AsOr ns fs same is j) = absurd (and_or ms ns same)
  read_one leaves (BothOf {members = ms} h) (AsAnd ns fs same is j) =
      ap expr.And (members_one leaves h (subst (λ (xs : List Cond). AreResolved leaves xs fs) (sym (and_one ms ns same)) j))
      ∙ sym is
  read_one leaves (BothOf {members = ms} h) (AsNot n f same is j) = absurd (and_not ms n same)
  read_one leaves (BothOf {members = ms} h) (AsTexts l r o first second same is j1 j2) =
      absurd (and_compare ms l r o same)
  read_one leaves (BothOf {members = ms} h) (AsNumbers l r o first second same is j1 j2 j3) =
      absurd (and_compare ms l r o same)
  read_one leaves (NotOf {member = m} h) (AsOr ns fs same is j) = absurd (not_or m ns same)
  read_one leaves (NotOf {member = m} h) (AsAnd ns fs same is j) = absurd (not_and m ns same)
  read_one leaves (NotOf {member = m} h) (AsNot n f same is j) =
      ap expr.Not (read_one leaves h (read (subst (λ (x : Cond). IsResolved leaves x f) (sym (not_one m n same)) j))) ∙ sym is
  read_one leaves (NotOf {member = m} h) (AsTexts l r o first second same is j1 j2) = absurd (not_compare m l r o same)
  read_one leaves (NotOf {member = m} h) (AsNumbers l r o first second same is j1 j2 j3) =
      absurd (not_compare m l r o same)
  read_one leaves {f = f} (TextsOf {left = l} {right = r} {operator = o} {first = a} {second = b} h1 h2) j =
      comparison_one leaves l r o a b f h1 h2 j
  read_one leaves {f = f} (NumbersOf {left = l} {right = r} {operator = o} {first = a} {second = b} h1 h2 h3 h4) j =
      numbers_one leaves l r o a b f h1 h3 h4 j

  members_one : (leaves : List Leaf) {cs : List Cond} {es fs : List Expr} → AreResolved leaves cs es
      → AreResolved leaves cs fs → es ≡ fs
  members_one leaves NoMembers NoMembers = refl
  members_one leaves (OneMember {one = e} {made = es} h hs) (OneMember {one = f} {made = fs} j js) =
      ap (λ x. x ∷ es) (read_one leaves h (read j)) ∙ ap (λ xs. f ∷ xs) (members_one leaves hs js)

-- a condition is resolved in one way
pub resolved_one : (leaves : List Leaf) (c : Cond) (e f : Expr) → IsResolved leaves c e → IsResolved leaves c f → e ≡ f
resolved_one leaves c e f h j = read_one leaves h (read j)
