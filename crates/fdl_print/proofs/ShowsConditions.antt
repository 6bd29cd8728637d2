-- A condition's pieces are read again as that condition: parentheses that are left out aren't missed.
use Rattle.std.proofs.Common.{◌≡◌, ℕ, zero, suc, ◌-◌, ◌<◌, ◌≤◌, true, false, List, [], ◌∷◌, ◌++◌, length, map, refl, sym, ap, ◌∙◌, subst, arith, append-nil, length-append}
use Rattle.flow_table.specs.declared.keyword.Keyword.TheVariants as keyword
use Rattle.flow_model.specs.declared.graphs.Operator.{Operator}
use Rattle.flow_model.specs.declared.trees.OperandTree.{OperandTree}
use Rattle.flow_model.specs.declared.trees.OperandTree.TheVariants as operand
use Rattle.flow_model.specs.declared.trees.TermTree.{TermTree}
use Rattle.flow_model.specs.declared.trees.Side.{Side}
use Rattle.flow_model.specs.declared.trees.Side.TheVariants as side
use Rattle.flow_model.specs.declared.trees.Cond.{Cond}
use Rattle.flow_model.specs.declared.trees.Cond.TheVariants as cond
use Rattle.flow_model.specs.declared.trees.Cond.TheVariants.{rolls-Or, rolls-And, rolls-Not, rolls-Compare}
use Rattle.flow_model.specs.declared.trees.Cond.TheOpen.{Cond-F}
use Rattle.flow_model.specs.declared.trees.Cond.TheFolds.{fold-roll-Cond}
use Rattle.flow_model.specs.declared.trees.CondAt.{CondAt}
use Rattle.fdl_lexer.specs.declared.kinds.What.TheVariants.{Mark}
use Rattle.fdl_lexer.specs.declared.kinds.Mark.TheVariants as mark
use Rattle.fdl_parser.specs.Tokens.{Tokens, IsToken}
use Rattle.fdl_parser.specs.Conditions.{condition_levels, IsOperand, LeafOperand, NumberOperand, IsNextTerm, PlusTerm, MinusTerm, IsSum, FirstTerm, MoreTerms, IsSide, TextSide, SumSide, IsComparison, Compared, IsNegation, Comparison, Denied, Bracketed, AreConjoined, TwoNegations, MoreNegations, IsConjunction, OneNegation, Negations, AreDisjoined, TwoConjunctions, MoreConjunctions, IsDisjunction, OneConjunction, Conjunctions, IsCondition, Whole}
use Rattle.fdl_print.specs.Pieces.{Piece, word, sign}
use Rattle.fdl_print.specs.Parts.{operator_mark, operand_pieces, later_term, sum_pieces, side_pieces}
use Rattle.fdl_print.specs.Conditions.{Form, AnOr, AnAnd, Other, Shown as Showing, shown, shown_by, in_parentheses, in_or, in_and, later_or, later_and, or_pieces, and_pieces, condition_pieces}
use Rattle.fdl_print.specs.Same.{Each, NoneLeft, OneMore, SameOperand, TwoLeaves, TwoNumbers, SameTerm, SameSide, TwoTexts, TwoSums, SameCond, TwoComparisons, TwoDenials, TwoAnds, TwoOrs, SameConds, NoConds, MoreConds, SameCondAt}
use Rattle.fdl_print.proofs.Laying.{shown_first}
use Rattle.fdl_print.proofs.Fine.{fine_open, fine_close, fine_plus, fine_minus, fine_operator}
use Rattle.fdl_print.proofs.Shows.{Shows, Again, chain, so, by, more_shows, more_later, token_shows, word_shows, behind_sound, leaf_shows, signed_shows, quote_shows}

-- ---- comparisons

operand_shows : {o : OperandTree} {a b : Tokens} → IsOperand o a b → Shows (operand_pieces o) (Again OperandTree SameOperand IsOperand o) a b
operand_shows (LeafOperand h) = so (λ x y t. record { tree = operand.Leaf t.tree; is = LeafOperand t.is; same = TwoLeaves t.same }) (leaf_shows h)
operand_shows (NumberOperand h) = so (λ x y t. record { tree = operand.Number t.tree; is = NumberOperand t.is; same = TwoNumbers t.same }) (signed_shows h)

next_term_shows : {o : TermTree} {a b : Tokens} → IsNextTerm o a b → Shows (later_term o) (Again TermTree SameTerm IsNextTerm o) a b
unfolding later_term
next_term_shows (PlusTerm h j) = so (λ x y t. record { tree = record { minus = false; operand = t.second.tree }; is = PlusTerm t.first.is t.second.is; same = record { sign = refl; operand = t.second.same } }) (chain (token_shows fine_plus h) (operand_shows j))
next_term_shows (MinusTerm h j) = so (λ x y t. record { tree = record { minus = true; operand = t.second.tree }; is = MinusTerm t.first.is t.second.is; same = record { sign = refl; operand = t.second.same } }) (chain (token_shows fine_minus h) (operand_shows j))

sum_some : {ts : List TermTree} {a b : Tokens} → IsSum ts a b → 0 < length ts
sum_some (FirstTerm h) = omega arith
sum_some (MoreTerms {terms = ts} {t = t} h j) = omega (arith, length-append ts (t ∷ []))

sum_shows : {ts : List TermTree} {a b : Tokens} → IsSum ts a b → Shows (sum_pieces ts) (Again (List TermTree) (Each TermTree SameTerm) IsSum ts) a b
sum_shows (FirstTerm {o = o} h) =
    by (sym (append-nil (operand_pieces o)))
    (so (λ x y t. record { tree = record { minus = false; operand = t.tree } ∷ []; is = FirstTerm t.is; same = OneMore (record { sign = refl; operand = t.same }) NoneLeft }) (operand_shows h))
sum_shows (MoreTerms {terms = ts} {t = t} h j) =
    by (more_later (λ x. operand_pieces x.operand) later_term sum_pieces (λ x xs. refl) ts t (sum_some h))
    (more_shows (λ ys y u v w i k. MoreTerms i k) (sum_shows h) (next_term_shows j))

side_shows : {s : Side} {a b : Tokens} → IsSide s a b → Shows (side_pieces s) (Again Side SameSide IsSide s) a b
side_shows (TextSide {value = v} h) = so (λ x y t. record { tree = side.Text v t.place; is = TextSide t.is; same = TwoTexts }) (quote_shows h)
side_shows (SumSide h) = so (λ x y t. record { tree = side.Sum t.tree; is = SumSide t.is; same = TwoSums t.same }) (sum_shows h)

-- ---- what a condition shows

pub shown_compare : (l r : Side) (o : Operator) → shown (cond.Compare l o r) ≡ record { form = Other; bare = side_pieces l ++ sign (operator_mark o) ∷ side_pieces r }
shown_compare l r o = ap (λ (c : Cond). shown c) (sym (rolls-Compare l o r)) ∙ fold-roll-Cond Showing shown_by (Cond-F.Compare l o r)

pub shown_and : (xs : List Cond) → shown (cond.And xs) ≡ record { form = AnAnd; bare = and_pieces (map shown xs) }
shown_and xs = ap (λ (c : Cond). shown c) (sym (rolls-And xs)) ∙ fold-roll-Cond Showing shown_by (Cond-F.And xs)

pub shown_or : (xs : List Cond) → shown (cond.Or xs) ≡ record { form = AnOr; bare = or_pieces (map shown xs) }
shown_or xs = ap (λ (c : Cond). shown c) (sym (rolls-Or xs)) ∙ fold-roll-Cond Showing shown_by (Cond-F.Or xs)

pub shown_not : (x : Cond) → shown (cond.Not x) ≡ record { form = Other; bare = word keyword.Not ∷ in_and (shown x) }
shown_not x = ap (λ (c : Cond). shown c) (sym (rolls-Not x)) ∙ fold-roll-Cond Showing shown_by (Cond-F.Not x)

and_or : (s : Showing) → s.form ≡ AnOr → in_and s ≡ in_parentheses s.bare
and_or s e = rw e refl

and_and : (s : Showing) → s.form ≡ AnAnd → in_and s ≡ in_parentheses s.bare
and_and s e = rw e refl

and_other : (s : Showing) → s.form ≡ Other → in_and s ≡ s.bare
and_other s e = rw e refl

or_or : (s : Showing) → s.form ≡ AnOr → in_or s ≡ in_parentheses s.bare
or_or s e = rw e refl

or_and : (s : Showing) → s.form ≡ AnAnd → in_or s ≡ s.bare
or_and s e = rw e refl

or_other : (s : Showing) → s.form ≡ Other → in_or s ≡ s.bare
or_other s e = rw e refl

-- ---- levels

-- the pieces of a condition without parentheses round it are read again at its level and above
pub record Levels (n : ℕ) (x : Cond) (a b : Tokens) : Type 0 where
  pub whole : (m : ℕ) → n ≤ m → Shows (shown x).bare (Again Cond SameCond (IsDisjunction m) x) a b
  pub conjunction : ((shown x).form ≡ AnOr → ⊥) → (m : ℕ) → n ≤ m → Shows (shown x).bare (Again Cond SameCond (IsConjunction m) x) a b
  pub negation : (shown x).form ≡ Other → (m : ℕ) → n ≤ m → Shows (shown x).bare (Again Cond SameCond (IsNegation m) x) a b

-- so is a member of an AND, or the operand of a NOT
pub record NegationLevels (n : ℕ) (x : Cond) (a b : Tokens) : Type 0 where
  pub levels : Levels n x a b
  pub member : (m : ℕ) → n ≤ m → Shows (in_and (shown x)) (Again Cond SameCond (IsNegation m) x) a b

-- so is a member of an OR
pub record ConjunctionLevels (n : ℕ) (x : Cond) (a b : Tokens) : Type 0 where
  pub levels : Levels n x a b
  pub member : (m : ℕ) → n ≤ m → Shows (in_or (shown x)) (Again Cond SameCond (IsConjunction m) x) a b

abbrev HasNegations : ℕ → Type 0
HasNegations n = (x : Cond) (a b : Tokens) → IsNegation n x a b → NegationLevels n x a b

as_conjunction : {p : List Piece} {m : ℕ} {x : Cond} {a b : Tokens} → Shows p (Again Cond SameCond (IsNegation m) x) a b → Shows p (Again Cond SameCond (IsConjunction m) x) a b
as_conjunction f = so (λ u v t. record { tree = t.tree; is = OneNegation t.is; same = t.same }) f

as_whole : {p : List Piece} {m : ℕ} {x : Cond} {a b : Tokens} → Shows p (Again Cond SameCond (IsConjunction m) x) a b → Shows p (Again Cond SameCond (IsDisjunction m) x) a b
as_whole f = so (λ u v t. record { tree = t.tree; is = OneConjunction t.is; same = t.same }) f

-- a comparison or a denial
other_levels : {n : ℕ} {x : Cond} {a b : Tokens} {bare : List Piece} → shown x ≡ record { form = Other; bare = bare } → ((m : ℕ) → n ≤ m → Shows bare (Again Cond SameCond (IsNegation m) x) a b) → NegationLevels n x a b
other_levels e f =
    let bare = sym (ap (λ (s : Showing). s.bare) e) in
    record {
      levels = record {
        whole = λ m le. by bare (as_whole (as_conjunction (f m le)));
        conjunction = λ no m le. by bare (as_conjunction (f m le));
        negation = λ is m le. by bare (f m le);
      };
      member = λ m le. by (sym (ap in_and e)) (f m le);
    }

comparison_shows : {x : Cond} {a b : Tokens} {n : ℕ} → IsComparison x a b → NegationLevels n x a b
comparison_shows (Compared {l = l} {r = r} {o = o} h j k) =
    other_levels (shown_compare l r o) (λ m le.
    so (λ u v t. record { tree = cond.Compare t.first.tree o t.second.second.tree; is = Comparison (Compared t.first.is t.second.first.is t.second.second.is); same = TwoComparisons t.first.same t.second.second.same })
    (chain (side_shows h) (chain (token_shows (fine_operator o) j) (side_shows k))))

-- the same pieces, with an opening mark before the tokens that were read, and a closing one behind
around : {p q : ℕ} {ps : List Piece} {F : Tokens → Tokens → Type 0} {a b c d : Tokens} → IsToken (Mark mark.Open) p a b → IsToken (Mark mark.Close) q c d → Shows ps F b c → Shows ps F a d
around o e f = record { shown = λ s. let x = f.shown (behind_sound o s) in record { said = x.said; says = x.says; reads = x.reads; rest = behind_sound e x.rest } }

conds_push : {xs ys : List Cond} {x y : Cond} → SameConds xs ys → SameCond x y → SameConds (xs ++ x ∷ []) (ys ++ y ∷ [])
conds_push NoConds h = MoreConds h NoConds
conds_push (MoreConds j k) h = MoreConds j (conds_push k h)

-- ---- AND

conjoined_some : {n : ℕ} {xs : List Cond} {a b : Tokens} → AreConjoined n xs a b → 0 < length xs
conjoined_some (TwoNegations h w j) = omega arith
conjoined_some (MoreNegations {xs = xs} {x = x} h w j) = omega (arith, length-append xs (x ∷ []))

conjoined_shows : {n : ℕ} {xs : List Cond} {a b : Tokens} → HasNegations n → (m : ℕ) → n ≤ m → AreConjoined n xs a b → Shows (and_pieces (map shown xs)) (Again (List Cond) SameConds (AreConjoined m) xs) a b
unfolding later_and
conjoined_shows one m le (TwoNegations {x = x} {y = y} h w j) =
    by (ap (λ (ps : List Piece). in_and (shown x) ++ ps) (sym (append-nil (later_and (shown y)))))
    (so (λ u v t. record { tree = t.first.tree ∷ t.second.second.tree ∷ []; is = TwoNegations t.first.is t.second.first.is t.second.second.is; same = MoreConds t.first.same (MoreConds t.second.second.same NoConds) })
    (chain ((one _ _ _ h).member m le) (chain (word_shows w) ((one _ _ _ j).member m le))))
conjoined_shows one m le (MoreNegations {xs = xs} {x = x} h w j) =
    by (more_later (λ z. in_and (shown z)) (λ z. later_and (shown z)) (λ zs. and_pieces (map shown zs)) (λ z zs. ap (λ (ps : List Piece). in_and (shown z) ++ ps) (shown_first later_and shown zs)) xs x (conjoined_some h))
    (so (λ u v t. record { tree = t.first.tree ++ t.second.second.tree ∷ []; is = MoreNegations t.first.is t.second.first.is t.second.second.is; same = conds_push t.first.same t.second.second.same })
    (chain (conjoined_shows one m le h) (chain (word_shows w) ((one _ _ _ j).member m le))))

one_member : {n : ℕ} {x : Cond} {a b : Tokens} → NegationLevels n x a b → (f : Form) → (shown x).form ≡ f → (m : ℕ) → n ≤ m → Shows (in_or (shown x)) (Again Cond SameCond (IsConjunction m) x) a b
one_member {x = x} q AnOr e m le = by (and_or (shown x) e ∙ sym (or_or (shown x) e)) (as_conjunction (q.member m le))
one_member {x = x} q AnAnd e m le = by (sym (or_and (shown x) e)) (q.levels.conjunction (λ z. let k : AnAnd ≡ AnOr = sym e ∙ z in cc) m le)
one_member {x = x} q Other e m le = by (sym (or_other (shown x) e)) (q.levels.conjunction (λ z. let k : Other ≡ AnOr = sym e ∙ z in cc) m le)

conjunction_levels : {n : ℕ} {x : Cond} {a b : Tokens} → HasNegations n → IsConjunction n x a b → ConjunctionLevels n x a b
conjunction_levels {x = x} one (OneNegation h) = let q = one _ _ _ h in record { levels = q.levels; member = one_member q (shown x).form refl }
conjunction_levels {n} one (Negations {xs = xs} {a = a} {b = b} h) =
    let e = shown_and xs in
    let bare = sym (ap (λ (s : Showing). s.bare) e) in
    let f : (m : ℕ) → n ≤ m → Shows (and_pieces (map shown xs)) (Again Cond SameCond (IsConjunction m) (cond.And xs)) a b =
    λ m le. so (λ u v t. record { tree = cond.And t.tree; is = Negations t.is; same = TwoAnds t.same }) (conjoined_shows one m le h) in
    record {
      levels = record {
        whole = λ m le. by bare (as_whole (f m le));
        conjunction = λ no m le. by bare (f m le);
        negation = λ is m le. let k : AnAnd ≡ Other = sym (ap (λ (s : Showing). s.form) e) ∙ is in absurd (cc);
      };
      member = λ m le. by (sym (ap in_or e)) (f m le);
    }

-- ---- OR

disjoined_some : {n : ℕ} {xs : List Cond} {a b : Tokens} → AreDisjoined n xs a b → 0 < length xs
disjoined_some (TwoConjunctions h w j) = omega arith
disjoined_some (MoreConjunctions {xs = xs} {x = x} h w j) = omega (arith, length-append xs (x ∷ []))

disjoined_shows : {n : ℕ} {xs : List Cond} {a b : Tokens} → HasNegations n → (m : ℕ) → n ≤ m → AreDisjoined n xs a b → Shows (or_pieces (map shown xs)) (Again (List Cond) SameConds (AreDisjoined m) xs) a b
unfolding later_or
disjoined_shows one m le (TwoConjunctions {x = x} {y = y} h w j) =
    by (ap (λ (ps : List Piece). in_or (shown x) ++ ps) (sym (append-nil (later_or (shown y)))))
    (so (λ u v t. record { tree = t.first.tree ∷ t.second.second.tree ∷ []; is = TwoConjunctions t.first.is t.second.first.is t.second.second.is; same = MoreConds t.first.same (MoreConds t.second.second.same NoConds) })
    (chain ((conjunction_levels one h).member m le) (chain (word_shows w) ((conjunction_levels one j).member m le))))
disjoined_shows one m le (MoreConjunctions {xs = xs} {x = x} h w j) =
    by (more_later (λ z. in_or (shown z)) (λ z. later_or (shown z)) (λ zs. or_pieces (map shown zs)) (λ z zs. ap (λ (ps : List Piece). in_or (shown z) ++ ps) (shown_first later_or shown zs)) xs x (disjoined_some h))
    (so (λ u v t. record { tree = t.first.tree ++ t.second.second.tree ∷ []; is = MoreConjunctions t.first.is t.second.first.is t.second.second.is; same = conds_push t.first.same t.second.second.same })
    (chain (disjoined_shows one m le h) (chain (word_shows w) ((conjunction_levels one j).member m le))))

disjunction_levels : {n : ℕ} {x : Cond} {a b : Tokens} → HasNegations n → IsDisjunction n x a b → Levels n x a b
disjunction_levels one (OneConjunction h) = (conjunction_levels one h).levels
disjunction_levels {n} one (Conjunctions {xs = xs} {a = a} {b = b} h) =
    let e = shown_or xs in
    let bare = sym (ap (λ (s : Showing). s.bare) e) in
    record {
      whole = λ m le. by bare (so (λ u v t. record { tree = cond.Or t.tree; is = Conjunctions t.is; same = TwoOrs t.same }) (disjoined_shows one m le h));
      conjunction = λ no m le. absurd (no (ap (λ (s : Showing). s.form) e));
      negation = λ is m le. let k : AnOr ≡ Other = sym (ap (λ (s : Showing). s.form) e) ∙ is in absurd (cc);
    }

-- ---- NOT and parentheses

bracket_member : {n p q : ℕ} {x : Cond} {a b c d : Tokens} → 0 < n → IsToken (Mark mark.Open) p a b → IsToken (Mark mark.Close) q c d → Levels (n - 1) x b c → (f : Form) → (shown x).form ≡ f → (m : ℕ) → n ≤ m → Shows (in_and (shown x)) (Again Cond SameCond (IsNegation m) x) a d
bracket_member {n} {p} {q} {x} {a} {b} {c} {d} lt o w l f e m le = by_form f e
  where
    enclosed : Shows (in_parentheses (shown x).bare) (Again Cond SameCond (IsNegation m) x) a d
    enclosed = so (λ u v t. record { tree = t.second.first.tree; is = Bracketed (omega arith) t.first.is t.second.first.is t.second.second.is; same = t.second.first.same })
        (chain (token_shows fine_open o) (chain (l.whole (m - 1) (omega arith)) (token_shows fine_close w)))

    by_form : (g : Form) → (shown x).form ≡ g → Shows (in_and (shown x)) (Again Cond SameCond (IsNegation m) x) a d
    by_form AnOr is = by (sym (and_or (shown x) is)) enclosed
    by_form AnAnd is = by (sym (and_and (shown x) is)) enclosed
    by_form Other is = by (sym (and_other (shown x) is)) (around o w (l.negation is m (omega arith)))

bracket_levels : {n p q : ℕ} {x : Cond} {a b c d : Tokens} → IsToken (Mark mark.Open) p a b → IsToken (Mark mark.Close) q c d → Levels (n - 1) x b c → Levels n x a d
bracket_levels o w l = record {
  whole = λ m le. around o w (l.whole m (omega arith));
  conjunction = λ no m le. around o w (l.conjunction no m (omega arith));
  negation = λ is m le. around o w (l.negation is m (omega arith));
}

negation_step : (n : ℕ) → ((m : ℕ) → n ≡ suc m → HasNegations m) → HasNegations n
negation_step n rec x a b (Comparison h) = comparison_shows h
negation_step n rec y a d (Denied {x = x} lt w h) =
    let e : n ≡ suc (n - 1) = omega (arith, lt) in
    let q = rec (n - 1) e _ _ _ h in
    other_levels (shown_not x) (λ m le.
    so (λ u v t. record { tree = cond.Not t.second.tree; is = Denied (omega arith) t.first.is t.second.is; same = TwoDenials t.second.same })
    (chain (word_shows w) (q.member (m - 1) (omega arith))))
negation_step n rec x a d (Bracketed lt o h w) =
    let e : n ≡ suc (n - 1) = omega (arith, lt) in
    let l = disjunction_levels (rec (n - 1) e) h in
    record { levels = bracket_levels o w l; member = bracket_member lt o w l (shown x).form refl }

has_negations : (n : ℕ) → HasNegations n
has_negations zero = negation_step zero (λ m e. absurd (omega (arith, e)))
has_negations (suc n) = negation_step (suc n) (λ m e. let k : n ≡ m = omega (arith, e) in subst (λ (i : ℕ). HasNegations i) k (has_negations n))

-- a condition in the parentheses of WHEN
pub condition_shows : {x : CondAt} {a b : Tokens} → IsCondition x a b → Shows (condition_pieces x) (Again CondAt SameCondAt IsCondition x) a b
condition_shows (Whole o h w) =
    let l = disjunction_levels (has_negations condition_levels) h in
    so (λ u v t. record { tree = record { place = t.first.place; cond = t.second.first.tree }; is = Whole t.first.is t.second.first.is t.second.second.is; same = t.second.first.same })
    (chain (token_shows fine_open o) (chain (l.whole condition_levels (omega arith)) (token_shows fine_close w)))
