-- A condition's tokens have one tree.
use Rattle.std.proofs.Common.{◌≡◌, ℕ, zero, suc, ◌<◌, ◌≤◌, ◌-◌, ◌==◌, ◌||◌, Bool, true, false, List, [], ◌∷◌, ◌++◌, refl, ap, sym, ◌∙◌, subst, arith}
use Rattle.std.specs.Prelude.{if◌then◌else◌}
use Rattle.flow_table.specs.declared.keyword.Keyword.TheVariants as word
use Rattle.fdl_lexer.specs.declared.kinds.Mark.{Mark as Sign}
use Rattle.fdl_lexer.specs.declared.kinds.Mark.TheVariants as mark
use Rattle.fdl_lexer.specs.declared.kinds.What.{What}
use Rattle.fdl_lexer.specs.declared.kinds.What.TheVariants.{Word, Mark}
use Rattle.flow_model.specs.declared.graphs.Operator.{Operator}
use Rattle.flow_model.specs.declared.graphs.Operator.TheVariants.{Eq, Ne, Lt, Le, Gt, Ge}
use Rattle.flow_model.specs.declared.trees.NumberAt.{NumberAt}
use Rattle.flow_model.specs.declared.trees.LeafAt.{LeafAt}
use Rattle.flow_model.specs.declared.trees.OperandTree.{OperandTree}
use Rattle.flow_model.specs.declared.trees.OperandTree.TheVariants as operand
use Rattle.flow_model.specs.declared.trees.TermTree.{TermTree}
use Rattle.flow_model.specs.declared.trees.Side.{Side}
use Rattle.flow_model.specs.declared.trees.Side.TheVariants as side
use Rattle.flow_model.specs.declared.trees.Cond.{Cond}
use Rattle.flow_model.specs.declared.trees.Cond.TheVariants as cond
use Rattle.flow_model.specs.declared.trees.CondAt.{CondAt}
use Rattle.fdl_parser.specs.Tokens.{Spelled, Tokens}
use Rattle.fdl_parser.specs.Conditions.{mark_of, IsOperand, LeafOperand, NumberOperand, IsNextTerm, PlusTerm, MinusTerm, IsSum, FirstTerm, MoreTerms, IsSide, TextSide, SumSide, IsComparison, Compared, IsNegation, Comparison, Denied, Bracketed, AreConjoined, TwoNegations, MoreNegations, IsConjunction, OneNegation, Negations, AreDisjoined, TwoConjunctions, MoreConjunctions, IsDisjunction, OneConjunction, Conjunctions, IsCondition, Whole}
use Rattle.fdl_parser.proofs.Same.{tier, lead, mark_tier, kind_tier, At, Same, tokens_same, word_same, lead_token, tier_token, calm_token, lead_quote, apart, quote_same, signed_same, leaf_same, leaf_lead, signed_lead, Chain, Done, Link, snoc, HasOne, chain_calm, chain_same, Behind, behind_same, behind_begins, cons_eq}

-- tells leaves from numbers
abbrev leaf_class : ℕ → ℕ
leaf_class n = if n == 50 || n == 51 then 1 else 0

pub operand_same : {x y : OperandTree} {a a' b b' : Tokens} → IsOperand x a b → IsOperand y a' b' → tier b < 9 → tier b' < 9 → At a a' → Same x y b b'
operand_same (LeafOperand h) (LeafOperand j) c c' at = let s = leaf_same h j c c' at in record { tree = ap (λ (l : LeafAt). operand.Leaf l) s.tree; rest = s.rest }
operand_same (NumberOperand h) (NumberOperand j) c c' at = let s = signed_same h j at in record { tree = ap (λ (n : NumberAt). operand.Number n) s.tree; rest = s.rest }
operand_same (LeafOperand h) (NumberOperand j) c c' at = apart (λ t. leaf_class (lead t)) (leaf_lead leaf_class 1 refl refl h) (signed_lead leaf_class 0 refl refl j) at refl
operand_same (NumberOperand h) (LeafOperand j) c c' at = apart (λ t. leaf_class (lead t)) (signed_lead leaf_class 0 refl refl h) (leaf_lead leaf_class 1 refl refl j) at refl

operand_lead : {x : OperandTree} {a b : Tokens} → (f : ℕ → ℕ) (k : ℕ) → f 50 ≡ k → f 51 ≡ k → f 53 ≡ k → f 16 ≡ k → IsOperand x a b → f (lead a) ≡ k
operand_lead f k n r v m (LeafOperand h) = leaf_lead f k n r h
operand_lead f k n r v m (NumberOperand h) = signed_lead f k v m h

abbrev term_of : Bool → OperandTree → TermTree
term_of minus o = record { minus = minus; operand = o }

next_term_same : {x y : TermTree} {a a' b b' : Tokens} → IsNextTerm x a b → IsNextTerm y a' b' → tier b < 9 → tier b' < 9 → At a a' → Same x y b b'
next_term_same (PlusTerm h1 h2) (PlusTerm j1 j2) c c' at =
    let s1 = word_same h1 j1 at in
    let s2 = operand_same h2 j2 c c' s1.rest in
    record { tree = ap (term_of false) s2.tree; rest = s2.rest }
next_term_same (MinusTerm h1 h2) (MinusTerm j1 j2) c c' at =
    let s1 = word_same h1 j1 at in
    let s2 = operand_same h2 j2 c c' s1.rest in
    record { tree = ap (term_of true) s2.tree; rest = s2.rest }
next_term_same (PlusTerm h1 h2) (MinusTerm j1 j2) c c' at = apart lead (lead_token h1) (lead_token j1) at refl
next_term_same (MinusTerm h1 h2) (PlusTerm j1 j2) c c' at = apart lead (lead_token h1) (lead_token j1) at refl

next_term_begins : {x : TermTree} {a b : Tokens} → IsNextTerm x a b → (8 ≤ tier a) × (tier a < 9)
next_term_begins (PlusTerm h j) = let e = tier_token h in (omega (arith, e), omega (arith, e))
next_term_begins (MinusTerm h j) = let e = tier_token h in (omega (arith, e), omega (arith, e))

-- a sum: its first operand, and the others as a chain
record SumParts (terms : List TermTree) (a b : Tokens) : Type 0 where
  pub first : OperandTree
  pub more : List TermTree
  pub middle : Tokens
  pub are : terms ≡ term_of false first ∷ more
  pub begins : IsOperand first a middle
  pub goes_on : Chain TermTree IsNextTerm more middle b

sum_parts : {terms : List TermTree} {a b : Tokens} → IsSum terms a b → SumParts terms a b
sum_parts (FirstTerm {o = o} {b = b} h) = record { first = o; more = []; middle = b; are = refl; begins = h; goes_on = Done }
sum_parts (MoreTerms {t = t} h j) =
    let r = sum_parts h in
    record { first = r.first; more = r.more ++ t ∷ []; middle = r.middle; are = ap (λ (l : List TermTree). l ++ t ∷ []) r.are; begins = r.begins; goes_on = snoc r.goes_on j }

sum_same : {x y : List TermTree} {a a' b b' : Tokens} → IsSum x a b → IsSum y a' b' → tier b < 8 → tier b' < 8 → At a a' → Same x y b b'
sum_same h j c c' at =
    let p = sum_parts h in
    let q = sum_parts j in
    let cp = chain_calm 8 9 (omega arith) (λ x a b h. next_term_begins h) p.goes_on c in
    let cq = chain_calm 8 9 (omega arith) (λ x a b h. next_term_begins h) q.goes_on c' in
    let s1 = operand_same p.begins q.begins cp cq at in
    let s2 = chain_same 8 9 (omega arith) (λ x y a b d e h j c k at. next_term_same h j c k at) (λ x a b h. next_term_begins h) p.goes_on q.goes_on c c' s1.rest in
    record { tree = p.are ∙ (cons_eq (term_of false p.first) (term_of false q.first) p.more q.more (ap (term_of false) s1.tree) s2.tree ∙ sym q.are); rest = s2.rest }

sum_lead : {x : List TermTree} {a b : Tokens} → (f : ℕ → ℕ) (k : ℕ) → f 50 ≡ k → f 51 ≡ k → f 53 ≡ k → f 16 ≡ k → IsSum x a b → f (lead a) ≡ k
sum_lead f k n r v m h = let p = sum_parts h in operand_lead f k n r v m p.begins

text_eq : (v w : List ℕ) (p q : ℕ) → v ≡ w → p ≡ q → side.Text v p ≡ side.Text w q
text_eq v w p q e f = rw (e, f) refl

-- tells texts
abbrev text_class : ℕ → ℕ
text_class n = if n == 54 then 1 else 0

side_same : {x y : Side} {a a' b b' : Tokens} → IsSide x a b → IsSide y a' b' → tier b < 8 → tier b' < 8 → At a a' → Same x y b b'
side_same (TextSide h) (TextSide j) c c' at = let s = quote_same h j at in record { tree = text_eq _ _ _ _ s.value s.place; rest = s.rest }
side_same (SumSide h) (SumSide j) c c' at = let s = sum_same h j c c' at in record { tree = ap (λ (l : List TermTree). side.Sum l) s.tree; rest = s.rest }
side_same (TextSide h) (SumSide j) c c' at = apart (λ t. text_class (lead t)) (ap text_class (lead_quote h)) (sum_lead text_class 0 refl refl refl refl j) at refl
side_same (SumSide h) (TextSide j) c c' at = apart (λ t. text_class (lead t)) (sum_lead text_class 0 refl refl refl refl h) (ap text_class (lead_quote j)) at refl

side_lead : {x : Side} {a b : Tokens} → (f : ℕ → ℕ) (k : ℕ) → f 50 ≡ k → f 51 ≡ k → f 53 ≡ k → f 16 ≡ k → f 54 ≡ k → IsSide x a b → f (lead a) ≡ k
side_lead f k n r v m t (TextSide h) = ap f (lead_quote h) ∙ t
side_lead f k n r v m t (SumSide h) = sum_lead f k n r v m h

abbrev operator_back : Sign → Operator
operator_back mark.Equal = Eq
operator_back mark.NotEqual = Ne
operator_back mark.Less = Lt
operator_back mark.AtMost = Le
operator_back mark.Greater = Gt
operator_back _ = Ge

back : (o : Operator) → operator_back (mark_of o) ≡ o
back Eq = refl
back Ne = refl
back Lt = refl
back Le = refl
back Gt = refl
back Ge = refl

abbrev mark_in : What → Sign
mark_in (Mark m) = m
mark_in _ = mark.Open

op_tier : (o : Operator) → mark_tier (mark_of o) < 8
op_tier Eq = omega arith
op_tier Ne = omega arith
op_tier Lt = omega arith
op_tier Le = omega arith
op_tier Gt = omega arith
op_tier Ge = omega arith

compare_eq : (l m : Side) (o q : Operator) (r s : Side) → l ≡ m → o ≡ q → r ≡ s → cond.Compare l o r ≡ cond.Compare m q s
compare_eq l m o q r s e f g = rw (e, f, g) refl

comparison_same : {x y : Cond} {a a' b b' : Tokens} → IsComparison x a b → IsComparison y a' b' → tier b < 8 → tier b' < 8 → At a a' → Same x y b b'
comparison_same (Compared {l = l} {r = r} {o = o} h1 h2 h3) (Compared {l = m} {r = s} {o = q} j1 j2 j3) c c' at =
    let s1 = side_same h1 j1 (calm_token h2 (op_tier o)) (calm_token j2 (op_tier q)) at in
    let s2 = tokens_same h2.first j2.first s1.rest in
    let e : mark_of o ≡ mark_of q = ap (λ (t : Spelled). mark_in t.kind) s2.token in
    let s3 = side_same h3 j3 c c' s2.rest in
    record { tree = compare_eq l m o q r s s1.tree (sym (back o) ∙ (ap operator_back e ∙ back q)) s3.tree; rest = s3.rest }

comparison_lead : {x : Cond} {a b : Tokens} → (f : ℕ → ℕ) (k : ℕ) → f 50 ≡ k → f 51 ≡ k → f 53 ≡ k → f 16 ≡ k → f 54 ≡ k → IsComparison x a b → f (lead a) ≡ k
comparison_lead f k n r v m t (Compared h1 h2 h3) = side_lead f k n r v m t h1

-- AND neg
abbrev AndNeg : ℕ → Cond → Tokens → Tokens → Type 0
AndNeg n x a b = Behind Cond (Word word.And) (IsNegation n) x a b

-- OR conj
abbrev OrConj : ℕ → Cond → Tokens → Tokens → Type 0
OrConj n x a b = Behind Cond (Word word.Or) (IsConjunction n) x a b

-- members in a row: the first two, and the others as a chain
record Members (N M : Cond → Tokens → Tokens → Type 0) (xs : List Cond) (a b : Tokens) : Type 0 where
  pub first : Cond
  pub second : Cond
  pub more : List Cond
  pub middle : Tokens
  pub are : xs ≡ first ∷ second ∷ more
  pub begins : N first a middle
  pub goes_on : Chain Cond M (second ∷ more) middle b

conjoined : {n : ℕ} {xs : List Cond} {a b : Tokens} → AreConjoined n xs a b → Members (IsNegation n) (AndNeg n) xs a b
conjoined (TwoNegations {p = p} {x = x} {y = y} {b = b} {c = c} h w j) =
    record { first = x; second = y; more = []; middle = b; are = refl; begins = h; goes_on = Link (record { place = p; middle = c; token = w; item = j }) Done }
conjoined (MoreNegations {p = p} {x = x} {c = c} h w j) =
    let r = conjoined h in
    record { first = r.first; second = r.second; more = r.more ++ x ∷ []; middle = r.middle; are = ap (λ (l : List Cond). l ++ x ∷ []) r.are; begins = r.begins; goes_on = snoc r.goes_on (record { place = p; middle = c; token = w; item = j }) }

disjoined : {n : ℕ} {xs : List Cond} {a b : Tokens} → AreDisjoined n xs a b → Members (IsConjunction n) (OrConj n) xs a b
disjoined (TwoConjunctions {p = p} {x = x} {y = y} {b = b} {c = c} h w j) =
    record { first = x; second = y; more = []; middle = b; are = refl; begins = h; goes_on = Link (record { place = p; middle = c; token = w; item = j }) Done }
disjoined (MoreConjunctions {p = p} {x = x} {c = c} h w j) =
    let r = disjoined h in
    record { first = r.first; second = r.second; more = r.more ++ x ∷ []; middle = r.middle; are = ap (λ (l : List Cond). l ++ x ∷ []) r.are; begins = r.begins; goes_on = snoc r.goes_on (record { place = p; middle = c; token = w; item = j }) }

-- the tree of a first member and others
abbrev joined : (List Cond → Cond) → Cond → List Cond → Cond
joined build x [] = x
joined build x (y ∷ ys) = build (x ∷ y ∷ ys)

record Joined (build : List Cond → Cond) (N M : Cond → Tokens → Tokens → Type 0) (x : Cond) (a b : Tokens) : Type 0 where
  pub first : Cond
  pub more : List Cond
  pub middle : Tokens
  pub is : x ≡ joined build first more
  pub begins : N first a middle
  pub goes_on : Chain Cond M more middle b

abbrev all_of : List Cond → Cond
all_of xs = cond.And xs

abbrev any_of : List Cond → Cond
any_of xs = cond.Or xs

conjunction_parts : {n : ℕ} {x : Cond} {a b : Tokens} → IsConjunction n x a b → Joined all_of (IsNegation n) (AndNeg n) x a b
conjunction_parts (OneNegation {x = x} {b = b} h) = record { first = x; more = []; middle = b; is = refl; begins = h; goes_on = Done }
conjunction_parts (Negations h) = let r = conjoined h in record { first = r.first; more = r.second ∷ r.more; middle = r.middle; is = ap all_of r.are; begins = r.begins; goes_on = r.goes_on }

disjunction_parts : {n : ℕ} {x : Cond} {a b : Tokens} → IsDisjunction n x a b → Joined any_of (IsConjunction n) (OrConj n) x a b
disjunction_parts (OneConjunction {x = x} {b = b} h) = record { first = x; more = []; middle = b; is = refl; begins = h; goes_on = Done }
disjunction_parts (Conjunctions h) = let r = disjoined h in record { first = r.first; more = r.second ∷ r.more; middle = r.middle; is = ap any_of r.are; begins = r.begins; goes_on = r.goes_on }

joined_eq : (build : List Cond → Cond) (x y : Cond) (xs ys : List Cond) → x ≡ y → xs ≡ ys → joined build x xs ≡ joined build y ys
joined_eq build x y xs ys e f = rw (e, f) refl

-- members with the same word between them
members_same : (build : List Cond → Cond) (N : Cond → Tokens → Tokens → Type 0) (k : What) (low high : ℕ) → low ≤ high → low ≤ kind_tier k → kind_tier k < high → HasOne Cond N high → HasOne Cond (Joined build N (Behind Cond k N)) low
members_same build N k low high le l u one x y a a' d d' p q c c' at =
    let starts = behind_begins Cond N k low high l u in
    let s1 = one p.first q.first a a' p.middle q.middle p.begins q.begins (chain_calm low high le starts p.goes_on c) (chain_calm low high le starts q.goes_on c') at in
    let s2 = chain_same low high le (behind_same Cond N k high one) starts p.goes_on q.goes_on c c' s1.rest in
    record { tree = p.is ∙ (joined_eq build p.first q.first p.more q.more s1.tree s2.tree ∙ sym q.is); rest = s2.rest }

conjunction_same : (n : ℕ) → HasOne Cond (IsNegation n) 8 → HasOne Cond (IsConjunction n) 7
conjunction_same n one x y a a' b b' h j c c' at =
    members_same all_of (IsNegation n) (Word word.And) 7 8 (omega arith) (omega arith) (omega arith) one x y a a' b b' (conjunction_parts h) (conjunction_parts j) c c' at

disjunction_same : (n : ℕ) → HasOne Cond (IsNegation n) 8 → HasOne Cond (IsDisjunction n) 6
disjunction_same n one x y a a' b b' h j c c' at =
    members_same any_of (IsConjunction n) (Word word.Or) 6 7 (omega arith) (omega arith) (omega arith) (conjunction_same n one) x y a a' b b' (disjunction_parts h) (disjunction_parts j) c c' at

-- tells NOT, parentheses and comparisons
abbrev negation_class : ℕ → ℕ
negation_class n = if n == 138 then 1 else (if n == 1 then 2 else 0)

negation_step : (n : ℕ) → ((m : ℕ) → n ≡ suc m → HasOne Cond (IsNegation m) 8) → HasOne Cond (IsNegation n) 8
negation_step n rec x y a a' b b' (Comparison h) (Comparison j) c c' at = comparison_same h j c c' at
negation_step n rec x y a a' b b' (Denied lt h1 h2) (Denied lt' j1 j2) c c' at =
    let e : n ≡ suc (n - 1) = omega (arith, lt) in
    let s1 = word_same h1 j1 at in
    let s2 = rec (n - 1) e _ _ _ _ _ _ h2 j2 c c' s1.rest in
    record { tree = ap (λ (z : Cond). cond.Not z) s2.tree; rest = s2.rest }
negation_step n rec x y a a' b b' (Bracketed lt h1 h2 h3) (Bracketed lt' j1 j2 j3) c c' at =
    let e : n ≡ suc (n - 1) = omega (arith, lt) in
    let s1 = word_same h1 j1 at in
    let s2 = disjunction_same (n - 1) (rec (n - 1) e) _ _ _ _ _ _ h2 j2 (calm_token h3 (omega arith)) (calm_token j3 (omega arith)) s1.rest in
    let s3 = word_same h3 j3 s2.rest in
    record { tree = s2.tree; rest = s3.rest }
negation_step n rec x y a a' b b' (Comparison h) (Denied lt j1 j2) c c' at = apart (λ t. negation_class (lead t)) (comparison_lead negation_class 0 refl refl refl refl refl h) (ap negation_class (lead_token j1)) at refl
negation_step n rec x y a a' b b' (Comparison h) (Bracketed lt j1 j2 j3) c c' at = apart (λ t. negation_class (lead t)) (comparison_lead negation_class 0 refl refl refl refl refl h) (ap negation_class (lead_token j1)) at refl
negation_step n rec x y a a' b b' (Denied lt h1 h2) (Comparison j) c c' at = apart (λ t. negation_class (lead t)) (ap negation_class (lead_token h1)) (comparison_lead negation_class 0 refl refl refl refl refl j) at refl
negation_step n rec x y a a' b b' (Bracketed lt h1 h2 h3) (Comparison j) c c' at = apart (λ t. negation_class (lead t)) (ap negation_class (lead_token h1)) (comparison_lead negation_class 0 refl refl refl refl refl j) at refl
negation_step n rec x y a a' b b' (Denied lt h1 h2) (Bracketed lt' j1 j2 j3) c c' at = apart lead (lead_token h1) (lead_token j1) at refl
negation_step n rec x y a a' b b' (Bracketed lt h1 h2 h3) (Denied lt' j1 j2) c c' at = apart lead (lead_token h1) (lead_token j1) at refl

pub negation_same : (n : ℕ) → HasOne Cond (IsNegation n) 8
negation_same zero = negation_step zero (λ m e. absurd (omega (arith, e)))
negation_same (suc n) = negation_step (suc n) (λ m e. let k : n ≡ m = omega (arith, e) in subst (λ (i : ℕ). HasOne Cond (IsNegation i) 8) k (negation_same n))

pub condition_same : {x y : CondAt} {a a' b b' : Tokens} → IsCondition x a b → IsCondition y a' b' → At a a' → Same x y b b'
condition_same (Whole h1 h2 h3) (Whole j1 j2 j3) at =
    let s1 = word_same h1 j1 at in
    let s2 = disjunction_same _ (negation_same _) _ _ _ _ _ _ h2 j2 (calm_token h3 (omega arith)) (calm_token j3 (omega arith)) s1.rest in
    let s3 = word_same h3 j3 s2.rest in
    record { tree = rw (s1.tree, s2.tree) refl; rest = s3.rest }
