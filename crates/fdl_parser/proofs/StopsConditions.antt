-- How far the forms of a condition are read.
use Rattle.std.proofs.Common.{◌≡◌, ℕ, suc, zero, ◌-◌, ◌<◌, List, [], ◌∷◌, Option, Some, refl, ap, sym, ◌∙◌, subst, arith, inl, inr}
use Rattle.std.specs.Prelude.{◌≢◌}
use Rattle.flow_table.specs.declared.keyword.Keyword.TheVariants as word
use Rattle.flow_model.specs.declared.graphs.Operator.{Operator}
use Rattle.flow_model.specs.declared.graphs.Operator.TheVariants.{Eq, Ne, Lt, Le, Gt, Ge}
use Rattle.flow_model.specs.declared.trees.NumberAt.{NumberAt}
use Rattle.flow_model.specs.declared.trees.LeafAt.{LeafAt}
use Rattle.flow_model.specs.declared.trees.StepTree.{StepTree}
use Rattle.flow_model.specs.declared.trees.OperandTree.{OperandTree}
use Rattle.flow_model.specs.declared.trees.TermTree.{TermTree}
use Rattle.flow_model.specs.declared.trees.Side.{Side}
use Rattle.flow_model.specs.declared.trees.Cond.{Cond}
use Rattle.flow_model.specs.declared.trees.CondAt.{CondAt}
use Rattle.fdl_lexer.specs.declared.kinds.What.{What}
use Rattle.fdl_lexer.specs.declared.kinds.What.TheVariants.{Word, Name, Rc, Number, Text, Mark}
use Rattle.fdl_lexer.specs.declared.kinds.Mark.TheVariants as mark
use Rattle.fdl_parser.specs.declared.cursor.SyntaxFault.{SyntaxFault}
use Rattle.fdl_parser.specs.Tokens.{Tokens, first_kind, IsWord, IsMark, IsSigned, Unsigned, Negative, IsFirstStep, RcFirst, NameFirst, IsLeaf, FirstStep, MoreSteps}
use Rattle.fdl_parser.specs.Tiers.{kind_tier, tier, Looser}
use Rattle.fdl_parser.specs.Stops.{Reads, Quotes, NoStep, Anything, IsTaken, IsStop, Stops}
use Rattle.fdl_parser.specs.Conditions.{mark_of, condition_levels, IsOperand, LeafOperand, NumberOperand, IsNextTerm, PlusTerm, MinusTerm, IsSum, FirstTerm, MoreTerms, IsSide, TextSide, SumSide, IsComparison, Compared, IsNegation, Comparison, Denied, Bracketed, AreConjoined, TwoNegations, MoreNegations, IsConjunction, OneNegation, Negations, AreDisjoined, TwoConjunctions, MoreConjunctions, IsDisjunction, OneConjunction, Conjunctions, IsCondition, Whole}
use Rattle.fdl_parser.proofs.Stops.{Seq, Either, Star, None, More, star_snoc, Through, CanRead, taken_less, stops_less, stops_second, taken_both}
use Rattle.fdl_parser.proofs.StopsTokens.{OfOne, can_one, taken_one, stop_one, can_signed, can_quote, can_leaf, taken_mark, taken_signed, taken_quote, leaf_so_far, leaf_taken}
use Rattle.fdl_parser.proofs.Shapes.{Among, NotAmong, opt_tier, tier_first, among_apart, Shape, Same, Loops, WordForm, MarkForm, word_shape, mark_shape, shape_any, shape_as, takes_as, stops_as, widen, with_more, before, seq, seq_end, no_shape, at_first, stop_now, stop_then, take_then, either, take_left, take_right, stop_left, stop_right, star, loop_first, loop_more, loop_taken, loop_stops, loop_now, any_taken, any_stops, free_taken, free_stops}

-- ---- leaves, numbers, texts

abbrev leaf_kinds : List What
leaf_kinds = Name ∷ Rc ∷ []

first_begins : {s : StepTree} {p : ℕ} {a b : Tokens} → IsFirstStep s p a b → Among leaf_kinds (first_kind a)
first_begins (RcFirst h) = inr (inl (ap first_kind h.first))
first_begins (NameFirst h) = inl (ap first_kind h.first)

leaf_begins : {l : LeafAt} {a b : Tokens} → IsLeaf l a b → Among leaf_kinds (first_kind a)
leaf_begins (FirstStep h) = first_begins h
leaf_begins (MoreSteps h j) = leaf_begins h

-- what goes on less tightly than a step is none
pub looser_no_step : (x : Tokens) → Looser 9 x → NoStep x
looser_no_step x q = (λ e. tight (Mark mark.Dot) refl e, λ e. tight (Mark mark.OpenBracket) refl e)
  where
    tight : (k : What) → kind_tier k ≡ 9 → first_kind x ≡ Some k → ⊥
    tight k t e = let s : tier x ≡ 9 = tier_first x ∙ ap opt_tier e ∙ t in omega (arith, s, q)

can_leaf_looser : CanRead (Looser 9) (Reads IsLeaf)
can_leaf_looser = record { more = can_leaf.more; lexed = can_leaf.lexed; reads = λ rest q. can_leaf.reads rest (looser_no_step rest q) }

pub leaf_shape : Shape leaf_kinds 9 (Reads IsLeaf)
leaf_shape = record {
  begins = λ a b h. leaf_begins h.1;
  can = can_leaf_looser;
  takes = λ a b h q. taken_less looser_no_step (leaf_taken (leaf_so_far h.1) (looser_no_step b q));
}

pub leaf_stops : {a r : Tokens} {e : SyntaxFault} → Stops NoStep (Reads IsLeaf) a r e → Stops (Looser 9) (Reads IsLeaf) a r e
leaf_stops h = stops_less looser_no_step h

pub leaf_takes : {a b : Tokens} → IsTaken NoStep (Reads IsLeaf) a b → IsTaken (Looser 9) (Reads IsLeaf) a b
leaf_takes h = taken_less looser_no_step h

abbrev signed_kinds : List What
signed_kinds = Mark mark.Minus ∷ Number 0 ∷ []

signed_begins : {n : NumberAt} {a b : Tokens} → IsSigned n a b → Among signed_kinds (first_kind a)
signed_begins (Unsigned {n = n} h) = inr (inl (n.size, ap first_kind h.first.first))
signed_begins (Negative h j) = inl (ap first_kind h.first)

pub signed_shape : Shape signed_kinds 10 (Reads IsSigned)
signed_shape = shape_any (λ a b h. signed_begins h.1) can_signed (λ a b h. taken_signed h.1)

pub quote_shape : Shape (Text ∷ []) 10 Quotes
quote_shape = shape_any (λ a b h. inl (ap first_kind h.2.first)) can_quote (λ a b h. taken_quote h.2)

-- ---- operands

abbrev operand_kinds : List What
operand_kinds = Name ∷ Rc ∷ Mark mark.Minus ∷ Number 0 ∷ []

abbrev OperandForm : Tokens → Tokens → Type 0
OperandForm = Either (Reads IsLeaf) (Reads IsSigned)

operand_into : (a b : Tokens) → OperandForm a b → Reads IsOperand a b
operand_into a b (inl h) = (_, LeafOperand h.1)
operand_into a b (inr h) = (_, NumberOperand h.1)

operand_out : (a b : Tokens) → Reads IsOperand a b → OperandForm a b
operand_out a b h = go h.1
  where
    go : {o : OperandTree} → IsOperand o a b → OperandForm a b
    go (LeafOperand j) = inl (_, j)
    go (NumberOperand j) = inr (_, j)

pub operand_same : Same OperandForm (Reads IsOperand)
operand_same = record { into = operand_into; out = operand_out }

-- before what goes on as a leaf does
number_shape : Shape signed_kinds 9 (Reads IsSigned)
number_shape = widen signed_shape refl

pub operand_shape : Shape operand_kinds 9 (Reads IsOperand)
operand_shape = shape_as operand_same (either leaf_shape number_shape refl)

pub operand_leaf : {a b : Tokens} → IsTaken NoStep (Reads IsLeaf) a b → IsTaken (Looser 9) (Reads IsOperand) a b
operand_leaf h = takes_as operand_same (take_left leaf_shape number_shape refl (leaf_takes h))

pub operand_number : {a b : Tokens} → Reads IsSigned a b → IsTaken (Looser 9) (Reads IsOperand) a b
operand_number h = takes_as operand_same (take_right leaf_shape number_shape refl (any_taken (taken_signed h.1)))

pub stops_leaf_operand : {a r : Tokens} {e : SyntaxFault} → Among leaf_kinds (first_kind a) → Stops NoStep (Reads IsLeaf) a r e → Stops (Looser 9) (Reads IsOperand) a r e
stops_leaf_operand here h = stops_as operand_same (stop_left leaf_shape number_shape refl here (leaf_stops h))

pub stops_number_operand : {a r : Tokens} {e : SyntaxFault} → NotAmong leaf_kinds (first_kind a) → Stops Anything (Reads IsSigned) a r e → Stops (Looser 9) (Reads IsOperand) a r e
stops_number_operand not h = stops_as operand_same (stop_right leaf_shape not (any_stops h))

-- ---- further terms

abbrev MinusForm : Tokens → Tokens → Type 0
MinusForm = Seq (MarkForm mark.Minus) (Reads IsOperand)

abbrev PlusForm : Tokens → Tokens → Type 0
PlusForm = Seq (MarkForm mark.Plus) (Reads IsOperand)

term_into : (a b : Tokens) → Either MinusForm PlusForm a b → Reads IsNextTerm a b
term_into a b (inl h) = (_, MinusTerm h.1.1 h.2.1)
term_into a b (inr h) = (_, PlusTerm h.1.1 h.2.1)

term_out : (a b : Tokens) → Reads IsNextTerm a b → Either MinusForm PlusForm a b
term_out a b h = go h.1
  where
    go : {t : TermTree} → IsNextTerm t a b → Either MinusForm PlusForm a b
    go (PlusTerm j k) = inr (_, (_, j), (_, k))
    go (MinusTerm j k) = inl (_, (_, j), (_, k))

term_same : Same (Either MinusForm PlusForm) (Reads IsNextTerm)
term_same = record { into = term_into; out = term_out }

minus_shape : Shape (Mark mark.Minus ∷ []) 9 MinusForm
minus_shape = seq (mark_shape mark.Minus) operand_shape refl

plus_shape : Shape (Mark mark.Plus ∷ []) 9 PlusForm
plus_shape = seq (mark_shape mark.Plus) operand_shape refl

term_shape : Shape (Mark mark.Minus ∷ Mark mark.Plus ∷ []) 9 (Reads IsNextTerm)
term_shape = shape_as term_same (either minus_shape plus_shape refl)

pub term_minus : {p : ℕ} {a b c : Tokens} → IsMark mark.Minus p a b → IsTaken (Looser 9) (Reads IsOperand) b c → IsTaken (Looser 9) (Reads IsNextTerm) a c
term_minus m h = takes_as term_same (take_left minus_shape plus_shape refl (take_then (mark_shape mark.Minus) (_, m) h))

pub term_plus : {p : ℕ} {a b c : Tokens} → IsMark mark.Plus p a b → IsTaken (Looser 9) (Reads IsOperand) b c → IsTaken (Looser 9) (Reads IsNextTerm) a c
term_plus m h = takes_as term_same (take_right minus_shape plus_shape refl (take_then (mark_shape mark.Plus) (_, m) h))

pub stops_minus_operand : {p : ℕ} {a b r : Tokens} {e : SyntaxFault} → IsMark mark.Minus p a b → Stops (Looser 9) (Reads IsOperand) b r e → Stops (Looser 9) (Reads IsNextTerm) a r e
stops_minus_operand m h = stops_as term_same (stop_left minus_shape plus_shape refl (inl (ap first_kind m.first)) (stop_then (mark_shape mark.Minus) (_, m) h))

pub stops_plus : {a r : Tokens} {e : SyntaxFault} → first_kind a ≢ Some (Mark mark.Minus) → Stops Anything (MarkForm mark.Plus) a r e → Stops (Looser 9) (Reads IsNextTerm) a r e
stops_plus not h = stops_as term_same (stop_right minus_shape (not, tt) (stop_now operand_shape.can h))

pub stops_plus_operand : {p : ℕ} {a b r : Tokens} {e : SyntaxFault} → first_kind a ≢ Some (Mark mark.Minus) → IsMark mark.Plus p a b → Stops (Looser 9) (Reads IsOperand) b r e → Stops (Looser 9) (Reads IsNextTerm) a r e
stops_plus_operand not m h = stops_as term_same (stop_right minus_shape (not, tt) (stop_then (mark_shape mark.Plus) (_, m) h))

-- ---- sides

abbrev SumForm : Tokens → Tokens → Type 0
SumForm = Seq (Reads IsOperand) (Star (Reads IsNextTerm))

sum_on : {ts : List TermTree} {a b c : Tokens} → IsSum ts a b → Star (Reads IsNextTerm) b c → Reads IsSum a c
sum_on {ts} h None = (ts, h)
sum_on h (More g s) = sum_on (MoreTerms h g.1) s

sum_into : (a b : Tokens) → SumForm a b → Reads IsSum a b
sum_into a b h = sum_on (FirstTerm h.1.1) h.2

sum_form : {ts : List TermTree} {a b : Tokens} → IsSum ts a b → SumForm a b
sum_form (FirstTerm j) = (_, (_, j), None)
sum_form (MoreTerms h t) = let w = sum_form h in (w.0, w.1, star_snoc w.2 (_, t))

sum_same : Same SumForm (Reads IsSum)
sum_same = record { into = sum_into; out = λ a b h. sum_form h.1 }

term_loops : Loops (Mark mark.Minus ∷ Mark mark.Plus ∷ []) 9 8 (Reads IsNextTerm)
term_loops = record { one = term_shape; begun = refl; calm = refl; less = refl }

sum_shape : Shape operand_kinds 8 (Reads IsSum)
sum_shape = shape_as sum_same (seq_end operand_shape (star term_loops) refl refl)

abbrev SideForm : Tokens → Tokens → Type 0
SideForm = Either Quotes (Reads IsSum)

side_into : (a b : Tokens) → SideForm a b → Reads IsSide a b
side_into a b (inl h) = (_, TextSide h.2)
side_into a b (inr h) = (_, SumSide h.1)

side_out : (a b : Tokens) → Reads IsSide a b → SideForm a b
side_out a b h = go h.1
  where
    go : {s : Side} → IsSide s a b → SideForm a b
    go (TextSide j) = inl (_, _, j)
    go (SumSide j) = inr (_, j)

side_same : Same SideForm (Reads IsSide)
side_same = record { into = side_into; out = side_out }

text_shape : Shape (Text ∷ []) 8 Quotes
text_shape = widen quote_shape refl

abbrev side_kinds : List What
side_kinds = Text ∷ operand_kinds

side_shape : Shape side_kinds 8 (Reads IsSide)
side_shape = shape_as side_same (either text_shape sum_shape refl)

-- the terms of a sum up to some place
abbrev pub SumSoFar : Tokens → Tokens → Type 0
SumSoFar a b = Through (Looser 8) (Reads IsOperand) (Reads IsNextTerm) a b

pub sum_first : {a b : Tokens} → IsTaken (Looser 9) (Reads IsOperand) a b → SumSoFar a b
sum_first h = loop_first term_loops h

pub sum_more : {a b c : Tokens} → SumSoFar a b → IsTaken (Looser 9) (Reads IsNextTerm) b c → SumSoFar a c
sum_more h j = loop_more term_loops h j

pub side_text : {a b : Tokens} → Quotes a b → IsTaken (Looser 8) (Reads IsSide) a b
side_text h = takes_as side_same (take_left text_shape sum_shape refl (any_taken (taken_quote h.2)))

pub side_sum : {a b : Tokens} → SumSoFar a b → NotAmong (Mark mark.Minus ∷ Mark mark.Plus ∷ []) (first_kind b) → IsTaken (Looser 8) (Reads IsSide) a b
side_sum h not = takes_as side_same (take_right text_shape sum_shape refl (takes_as sum_same (loop_taken term_loops h not)))

pub stops_text_side : {a r : Tokens} {e : SyntaxFault} → first_kind a ≡ Some Text → Stops Anything Quotes a r e → Stops (Looser 8) (Reads IsSide) a r e
stops_text_side here h = stops_as side_same (stop_left text_shape sum_shape refl (inl here) (any_stops h))

pub stops_first_operand : {a r : Tokens} {e : SyntaxFault} → first_kind a ≢ Some Text → Stops (Looser 9) (Reads IsOperand) a r e → Stops (Looser 8) (Reads IsSide) a r e
stops_first_operand not h = stops_as side_same (stop_right text_shape (not, tt) (stops_as sum_same (loop_now term_loops h)))

pub stops_next_term : {a b r : Tokens} {e : SyntaxFault} → first_kind a ≢ Some Text → SumSoFar a b → Among (Mark mark.Minus ∷ Mark mark.Plus ∷ []) (first_kind b) → Stops (Looser 9) (Reads IsNextTerm) b r e
    → Stops (Looser 8) (Reads IsSide) a r e
stops_next_term not s here h = stops_as side_same (stop_right text_shape (not, tt) (stops_as sum_same (loop_stops term_loops s here h)))

-- ---- comparisons

abbrev OpForm : Tokens → Tokens → Type 0
OpForm a b = (o : Operator) × Reads (IsMark (mark_of o)) a b

abbrev op_kinds : List What
op_kinds = Mark mark.Equal ∷ Mark mark.NotEqual ∷ Mark mark.Less ∷ Mark mark.AtMost ∷ Mark mark.Greater ∷ Mark mark.AtLeast ∷ []

op_begins : (o : Operator) (k : Option What) → k ≡ Some (Mark (mark_of o)) → Among op_kinds k
op_begins Eq k e = inl e
op_begins Ne k e = inr (inl e)
op_begins Lt k e = inr (inr (inl e))
op_begins Le k e = inr (inr (inr (inl e)))
op_begins Gt k e = inr (inr (inr (inr (inl e))))
op_begins Ge k e = inr (inr (inr (inr (inr (inl e)))))

abbrev tail_of : Tokens → Tokens
tail_of [] = []
tail_of (t ∷ ts) = ts

op_form : OfOne OpForm
op_form = record {
  one = record { kind = Mark mark.Equal; place = 0; bytes = [] };
  lexed = (tt, tt);
  reads = λ rest. (Eq, (0, record { bytes = []; first = refl }));
  tail = λ t ts b h. sym (ap tail_of h.1.1.first);
}

op_taken : (a b : Tokens) → OpForm a b → IsTaken Anything OpForm a b
op_taken a b h = taken_one op_form (record { kind = Mark (mark_of h.0); place = h.1.0; bytes = h.1.1.bytes }) a b h.1.1.first (λ rest. (h.0, (h.1.0, record { bytes = h.1.1.bytes; first = refl })))

op_shape : Shape op_kinds 10 OpForm
op_shape = shape_any (λ a b h. op_begins h.0 (first_kind a) (ap first_kind h.1.1.first)) (can_one op_form) op_taken

no_op : (a : Tokens) → ((o : Operator) → first_kind a ≢ Some (Mark (mark_of o))) → IsStop Anything OpForm a a
no_op a not = stop_one op_form a (λ b c same h. not h.0 (sym same ∙ ap first_kind h.1.1.first))

abbrev CompareForm : Tokens → Tokens → Type 0
CompareForm = Seq (Reads IsSide) (Seq OpForm (Reads IsSide))

compare_into : (a b : Tokens) → CompareForm a b → Reads IsComparison a b
compare_into a b h = (_, Compared h.1.1 h.2.1.1.1 h.2.2.1)

compare_out : (a b : Tokens) → Reads IsComparison a b → CompareForm a b
compare_out a b h = go h.1
  where
    go : {x : Cond} → IsComparison x a b → CompareForm a b
    go (Compared {o = o} j k l) = (_, (_, j), (_, (o, (_, k)), (_, l)))

compare_same : Same CompareForm (Reads IsComparison)
compare_same = record { into = compare_into; out = compare_out }

right_shape : Shape op_kinds 8 (Seq OpForm (Reads IsSide))
right_shape = seq op_shape side_shape refl

compare_shape : Shape side_kinds 8 (Reads IsComparison)
compare_shape = shape_as compare_same (seq side_shape right_shape refl)

pub compare_taken : (o : Operator) {p : ℕ} {a b c d : Tokens} → IsTaken (Looser 8) (Reads IsSide) a b → IsMark (mark_of o) p b c → IsTaken (Looser 8) (Reads IsSide) c d → IsTaken (Looser 8) (Reads IsComparison) a d
compare_taken o l m r = takes_as compare_same (taken_both (before {n = 8} right_shape refl) l (take_then op_shape (o, (_, m)) r))

pub stops_left_side : {a r : Tokens} {e : SyntaxFault} → Stops (Looser 8) (Reads IsSide) a r e → Stops (Looser 8) (Reads IsComparison) a r e
stops_left_side h = stops_as compare_same (at_first right_shape.can (before {n = 8} right_shape refl) h)

pub stops_operator : {a b : Tokens} {e : SyntaxFault} → IsTaken (Looser 8) (Reads IsSide) a b → ((o : Operator) → first_kind b ≢ Some (Mark (mark_of o))) → Stops (Looser 8) (Reads IsComparison) a b e
stops_operator {b = b} l not = stops_as compare_same (stops_second (before {n = 8} right_shape refl) l (stop_now side_shape.can (record { stop = λ place is q. no_op b not })))

pub stops_right_side : (o : Operator) {p : ℕ} {a b c r : Tokens} {e : SyntaxFault} → IsTaken (Looser 8) (Reads IsSide) a b → IsMark (mark_of o) p b c → Stops (Looser 8) (Reads IsSide) c r e → Stops (Looser 8) (Reads IsComparison) a r e
stops_right_side o l m h = stops_as compare_same (stops_second (before {n = 8} right_shape refl) l (stop_then op_shape (o, (_, m)) h))

-- ---- negations, by how many levels are left

abbrev negation_kinds : List What
negation_kinds = Word word.Not ∷ Mark mark.Open ∷ side_kinds

abbrev DenyForm : ℕ → Tokens → Tokens → Type 0
DenyForm n = Seq (WordForm word.Not) (Reads (IsNegation (n - 1)))

abbrev InnerForm : ℕ → Tokens → Tokens → Type 0
InnerForm n = Seq (Reads (IsDisjunction (n - 1))) (MarkForm mark.Close)

abbrev BracketForm : ℕ → Tokens → Tokens → Type 0
BracketForm n = Seq (MarkForm mark.Open) (InnerForm n)

abbrev NegationForm : ℕ → Tokens → Tokens → Type 0
NegationForm n = Either (DenyForm n) (Either (BracketForm n) (Reads IsComparison))

negation_into : (n : ℕ) → 0 < n → (a b : Tokens) → NegationForm n a b → Reads (IsNegation n) a b
negation_into n some a b (inl h) = (_, Denied some h.1.1 h.2.1)
negation_into n some a b (inr (inl h)) = (_, Bracketed some h.1.1 h.2.1.1 h.2.2.1)
negation_into n some a b (inr (inr h)) = (_, Comparison h.1)

negation_out : (n : ℕ) (a b : Tokens) → Reads (IsNegation n) a b → NegationForm n a b
negation_out n a b h = go h.1
  where
    go : {x : Cond} → IsNegation n x a b → NegationForm n a b
    go (Comparison j) = inr (inr (_, j))
    go (Denied some j k) = inl (_, (_, j), (_, k))
    go (Bracketed some j k l) = inr (inl (_, (_, j), (_, (_, k), (_, l))))

negation_same : (n : ℕ) → 0 < n → Same (NegationForm n) (Reads (IsNegation n))
negation_same n some = record { into = negation_into n some; out = negation_out n }

last_out : (a b : Tokens) → Reads (IsNegation 0) a b → Reads IsComparison a b
last_out a b h = go h.1
  where
    go : {x : Cond} → IsNegation 0 x a b → Reads IsComparison a b
    go (Comparison j) = (_, j)
    go (Denied some j k) = absurd (omega (arith, some))
    go (Bracketed some j k l) = absurd (omega (arith, some))

last_same : Same (Reads IsComparison) (Reads (IsNegation 0))
last_same = record { into = λ a b h. (h.0, Comparison h.1); out = last_out }

-- ---- conjunctions of such

abbrev AndForm : ℕ → Tokens → Tokens → Type 0
AndForm n = Seq (WordForm word.And) (Reads (IsNegation n))

abbrev ConjunctionForm : ℕ → Tokens → Tokens → Type 0
ConjunctionForm n = Seq (Reads (IsNegation n)) (Star (AndForm n))

conjoined_on : {n : ℕ} {xs : List Cond} {a b c : Tokens} → AreConjoined n xs a b → Star (AndForm n) b c → Reads (AreConjoined n) a c
conjoined_on {xs = xs} h None = (xs, h)
conjoined_on h (More g s) = conjoined_on (MoreNegations h g.1.1 g.2.1) s

conjunction_into : (n : ℕ) (a b : Tokens) → ConjunctionForm n a b → Reads (IsConjunction n) a b
conjunction_into n a b h = go h.1 h.2
  where
    go : {m : Tokens} → Reads (IsNegation n) a m → Star (AndForm n) m b → Reads (IsConjunction n) a b
    go f None = (_, OneNegation f.1)
    go f (More g s) = let w = conjoined_on (TwoNegations f.1 g.1.1 g.2.1) s in (_, Negations w.1)

conjoined_form : {n : ℕ} {xs : List Cond} {a b : Tokens} → AreConjoined n xs a b → ConjunctionForm n a b
conjoined_form (TwoNegations h t j) = (_, (_, h), More (_, (_, t), (_, j)) None)
conjoined_form (MoreNegations h t j) = let w = conjoined_form h in (w.0, w.1, star_snoc w.2 (_, (_, t), (_, j)))

conjunction_out : (n : ℕ) (a b : Tokens) → Reads (IsConjunction n) a b → ConjunctionForm n a b
conjunction_out n a b h = go h.1
  where
    go : {x : Cond} → IsConjunction n x a b → ConjunctionForm n a b
    go (OneNegation j) = (_, (_, j), None)
    go (Negations j) = conjoined_form j

conjunction_same : (n : ℕ) → Same (ConjunctionForm n) (Reads (IsConjunction n))
conjunction_same n = record { into = conjunction_into n; out = conjunction_out n }

and_loops : (n : ℕ) → Shape negation_kinds 8 (Reads (IsNegation n)) → Loops (Word word.And ∷ []) 8 7 (AndForm n)
and_loops n f = record { one = seq (word_shape word.And) f refl; begun = refl; calm = refl; less = refl }

conjunction_of : (n : ℕ) → Shape negation_kinds 8 (Reads (IsNegation n)) → Shape negation_kinds 7 (Reads (IsConjunction n))
conjunction_of n f = shape_as (conjunction_same n) (seq_end f (star (and_loops n f)) refl refl)

-- ---- disjunctions of these

abbrev OrForm : ℕ → Tokens → Tokens → Type 0
OrForm n = Seq (WordForm word.Or) (Reads (IsConjunction n))

abbrev DisjunctionForm : ℕ → Tokens → Tokens → Type 0
DisjunctionForm n = Seq (Reads (IsConjunction n)) (Star (OrForm n))

disjoined_on : {n : ℕ} {xs : List Cond} {a b c : Tokens} → AreDisjoined n xs a b → Star (OrForm n) b c → Reads (AreDisjoined n) a c
disjoined_on {xs = xs} h None = (xs, h)
disjoined_on h (More g s) = disjoined_on (MoreConjunctions h g.1.1 g.2.1) s

disjunction_into : (n : ℕ) (a b : Tokens) → DisjunctionForm n a b → Reads (IsDisjunction n) a b
disjunction_into n a b h = go h.1 h.2
  where
    go : {m : Tokens} → Reads (IsConjunction n) a m → Star (OrForm n) m b → Reads (IsDisjunction n) a b
    go f None = (_, OneConjunction f.1)
    go f (More g s) = let w = disjoined_on (TwoConjunctions f.1 g.1.1 g.2.1) s in (_, Conjunctions w.1)

disjoined_form : {n : ℕ} {xs : List Cond} {a b : Tokens} → AreDisjoined n xs a b → DisjunctionForm n a b
disjoined_form (TwoConjunctions h t j) = (_, (_, h), More (_, (_, t), (_, j)) None)
disjoined_form (MoreConjunctions h t j) = let w = disjoined_form h in (w.0, w.1, star_snoc w.2 (_, (_, t), (_, j)))

disjunction_out : (n : ℕ) (a b : Tokens) → Reads (IsDisjunction n) a b → DisjunctionForm n a b
disjunction_out n a b h = go h.1
  where
    go : {x : Cond} → IsDisjunction n x a b → DisjunctionForm n a b
    go (OneConjunction j) = (_, (_, j), None)
    go (Conjunctions j) = disjoined_form j

disjunction_same : (n : ℕ) → Same (DisjunctionForm n) (Reads (IsDisjunction n))
disjunction_same n = record { into = disjunction_into n; out = disjunction_out n }

or_loops : (n : ℕ) → Shape negation_kinds 7 (Reads (IsConjunction n)) → Loops (Word word.Or ∷ []) 7 6 (OrForm n)
or_loops n f = record { one = seq (word_shape word.Or) f refl; begun = refl; calm = refl; less = refl }

disjunction_of : (n : ℕ) → Shape negation_kinds 7 (Reads (IsConjunction n)) → Shape negation_kinds 6 (Reads (IsDisjunction n))
disjunction_of n f = shape_as (disjunction_same n) (seq_end f (star (or_loops n f)) refl refl)

-- ---- their shapes

deny_of : (n : ℕ) → Shape negation_kinds 8 (Reads (IsNegation (n - 1))) → Shape (Word word.Not ∷ []) 8 (DenyForm n)
deny_of n f = seq (word_shape word.Not) f refl

inner_of : (n : ℕ) → Shape negation_kinds 6 (Reads (IsDisjunction (n - 1))) → Shape negation_kinds 10 (InnerForm n)
inner_of n f = seq f (mark_shape mark.Close) refl

bracket_of : (n : ℕ) → Shape negation_kinds 6 (Reads (IsDisjunction (n - 1))) → Shape (Mark mark.Open ∷ []) 8 (BracketForm n)
bracket_of n f = widen (seq (mark_shape mark.Open) (inner_of n f) refl) refl

rest_of : (n : ℕ) → Shape negation_kinds 6 (Reads (IsDisjunction (n - 1))) → Shape (Mark mark.Open ∷ side_kinds) 8 (Either (BracketForm n) (Reads IsComparison))
rest_of n f = either (bracket_of n f) compare_shape refl

negation_of : (n : ℕ) → 0 < n → Shape negation_kinds 8 (Reads (IsNegation (n - 1))) → Shape negation_kinds 8 (Reads (IsNegation n))
negation_of n some f = shape_as (negation_same n some) (either (deny_of n f) (rest_of n (disjunction_of (n - 1) (conjunction_of (n - 1) f))) refl)

negation_shape : (n : ℕ) → Shape negation_kinds 8 (Reads (IsNegation n))
negation_shape zero = with_more (Word word.Not ∷ Mark mark.Open ∷ []) (shape_as last_same compare_shape)
negation_shape (suc n) =
    let less : n ≡ suc n - 1 = omega arith in
    negation_of (suc n) (omega arith) (subst (λ (k : ℕ). Shape negation_kinds 8 (Reads (IsNegation k))) less (negation_shape n))

conjunction_shape : (n : ℕ) → Shape negation_kinds 7 (Reads (IsConjunction n))
conjunction_shape n = conjunction_of n (negation_shape n)

disjunction_shape : (n : ℕ) → Shape negation_kinds 6 (Reads (IsDisjunction n))
disjunction_shape n = disjunction_of n (conjunction_shape n)

deny_shape : (n : ℕ) → Shape (Word word.Not ∷ []) 8 (DenyForm n)
deny_shape n = deny_of n (negation_shape (n - 1))

bracket_shape : (n : ℕ) → Shape (Mark mark.Open ∷ []) 8 (BracketForm n)
bracket_shape n = bracket_of n (disjunction_shape (n - 1))

rest_shape : (n : ℕ) → Shape (Mark mark.Open ∷ side_kinds) 8 (Either (BracketForm n) (Reads IsComparison))
rest_shape n = rest_of n (disjunction_shape (n - 1))

-- ---- where a negation is taken and where it stops

pub negation_compared : (n : ℕ) {a b : Tokens} → IsTaken (Looser 8) (Reads IsComparison) a b → IsTaken (Looser 8) (Reads (IsNegation n)) a b
negation_compared zero h = takes_as last_same h
negation_compared (suc n) h =
    takes_as (negation_same (suc n) (omega arith)) (take_right (deny_shape (suc n)) (rest_shape (suc n)) refl (take_right (bracket_shape (suc n)) compare_shape refl h))

pub negation_denied : {n p : ℕ} {a b c : Tokens} → 0 < n → IsWord word.Not p a b → IsTaken (Looser 8) (Reads (IsNegation (n - 1))) b c → IsTaken (Looser 8) (Reads (IsNegation n)) a c
negation_denied {n} some t h = takes_as (negation_same n some) (take_left (deny_shape n) (rest_shape n) refl (take_then (word_shape word.Not) (_, t) h))

pub negation_bracketed : {n p q : ℕ} {a b c d : Tokens} → 0 < n → IsMark mark.Open p a b → IsTaken (Looser 6) (Reads (IsDisjunction (n - 1))) b c → IsMark mark.Close q c d → IsTaken (Looser 8) (Reads (IsNegation n)) a d
negation_bracketed {n} some m h k =
    takes_as (negation_same n some) (take_right (deny_shape n) (rest_shape n) refl (take_left (bracket_shape n) compare_shape refl (free_taken (take_then (mark_shape mark.Open) (_, m) (taken_both (before {n = 6} (mark_shape mark.Close) refl) h (any_taken (taken_mark k)))))))

pub stops_comparison : (n : ℕ) {a r : Tokens} {e : SyntaxFault} → first_kind a ≢ Some (Word word.Not) → first_kind a ≢ Some (Mark mark.Open) → Stops (Looser 8) (Reads IsComparison) a r e → Stops (Looser 8) (Reads (IsNegation n)) a r e
stops_comparison zero deny bracket h = stops_as last_same h
stops_comparison (suc n) deny bracket h = stops_as (negation_same (suc n) (omega arith)) (stop_right (deny_shape (suc n)) (deny, tt) (stop_right (bracket_shape (suc n)) (bracket, tt) h))

-- at the last level
stops_last : {a : Tokens} {e : SyntaxFault} → Among (Word word.Not ∷ Mark mark.Open ∷ []) (first_kind a) → Stops (Looser 8) (Reads (IsNegation 0)) a a e
stops_last {a} here = stops_as last_same (record { stop = λ place is q. no_shape compare_shape (λ h. among_apart (Word word.Not ∷ Mark mark.Open ∷ []) side_kinds (first_kind a) refl here h) })

pub stops_level : (n : ℕ) {a : Tokens} {e : SyntaxFault} → n ≡ 0 → Among (Word word.Not ∷ Mark mark.Open ∷ []) (first_kind a) → Stops (Looser 8) (Reads (IsNegation n)) a a e
stops_level n {a} {e} last here = subst (λ (k : ℕ). Stops (Looser 8) (Reads (IsNegation k)) a a e) (sym last) (stops_last here)

pub stops_denied : {n p : ℕ} {a b r : Tokens} {e : SyntaxFault} → 0 < n → IsWord word.Not p a b → Stops (Looser 8) (Reads (IsNegation (n - 1))) b r e → Stops (Looser 8) (Reads (IsNegation n)) a r e
stops_denied {n} some t h = stops_as (negation_same n some) (stop_left (deny_shape n) (rest_shape n) refl (inl (ap first_kind t.first)) (stop_then (word_shape word.Not) (_, t) h))

stops_bracket : {n p : ℕ} {a b r : Tokens} {e : SyntaxFault} → 0 < n → IsMark mark.Open p a b → Stops (Looser 10) (InnerForm n) b r e → Stops (Looser 8) (Reads (IsNegation n)) a r e
stops_bracket {n} some m h =
    stops_as (negation_same n some) (stop_right (deny_shape n) (λ e. no_denial (sym (ap first_kind m.first) ∙ e), tt) (stop_left (bracket_shape n) compare_shape refl (inl (ap first_kind m.first)) (free_stops (stop_then (mark_shape mark.Open) (_, m) h))))
  where
    no_denial : Some (Mark mark.Open) ≡ Some (Word word.Not) → ⊥
    no_denial e = cc

pub stops_inner : {n p : ℕ} {a b r : Tokens} {e : SyntaxFault} → 0 < n → IsMark mark.Open p a b → Stops (Looser 6) (Reads (IsDisjunction (n - 1))) b r e → Stops (Looser 8) (Reads (IsNegation n)) a r e
stops_inner {n} some m h = stops_bracket some m (at_first (mark_shape mark.Close).can (before {n = 6} (mark_shape mark.Close) refl) h)

pub stops_closing : {n p : ℕ} {a b c r : Tokens} {e : SyntaxFault} → 0 < n → IsMark mark.Open p a b → IsTaken (Looser 6) (Reads (IsDisjunction (n - 1))) b c → Stops Anything (MarkForm mark.Close) c r e
    → Stops (Looser 8) (Reads (IsNegation n)) a r e
stops_closing {n} some m h s = stops_bracket some m (stops_second (before {n = 6} (mark_shape mark.Close) refl) h (any_stops s))

-- ---- conjunctions and disjunctions

-- the members up to some place
abbrev pub ConjunctionSoFar : ℕ → Tokens → Tokens → Type 0
ConjunctionSoFar n a b = Through (Looser 7) (Reads (IsNegation n)) (AndForm n) a b

pub conjunction_first : {n : ℕ} {a b : Tokens} → IsTaken (Looser 8) (Reads (IsNegation n)) a b → ConjunctionSoFar n a b
conjunction_first {n} h = loop_first (and_loops n (negation_shape n)) h

pub conjunction_more : {n p : ℕ} {a b c d : Tokens} → ConjunctionSoFar n a b → IsWord word.And p b c → IsTaken (Looser 8) (Reads (IsNegation n)) c d → ConjunctionSoFar n a d
conjunction_more {n} h t j = loop_more (and_loops n (negation_shape n)) h (take_then (word_shape word.And) (_, t) j)

pub conjunction_taken : {n : ℕ} {a b : Tokens} → ConjunctionSoFar n a b → first_kind b ≢ Some (Word word.And) → IsTaken (Looser 7) (Reads (IsConjunction n)) a b
conjunction_taken {n} h not = takes_as (conjunction_same n) (loop_taken (and_loops n (negation_shape n)) h (not, tt))

pub stops_first_negation : {n : ℕ} {a r : Tokens} {e : SyntaxFault} → Stops (Looser 8) (Reads (IsNegation n)) a r e → Stops (Looser 7) (Reads (IsConjunction n)) a r e
stops_first_negation {n} h = stops_as (conjunction_same n) (loop_now (and_loops n (negation_shape n)) h)

pub stops_next_negation : {n p : ℕ} {a b c r : Tokens} {e : SyntaxFault} → ConjunctionSoFar n a b → IsWord word.And p b c → Stops (Looser 8) (Reads (IsNegation n)) c r e → Stops (Looser 7) (Reads (IsConjunction n)) a r e
stops_next_negation {n} h t s = stops_as (conjunction_same n) (loop_stops (and_loops n (negation_shape n)) h (inl (ap first_kind t.first)) (stop_then (word_shape word.And) (_, t) s))

abbrev pub DisjunctionSoFar : ℕ → Tokens → Tokens → Type 0
DisjunctionSoFar n a b = Through (Looser 6) (Reads (IsConjunction n)) (OrForm n) a b

pub disjunction_first : {n : ℕ} {a b : Tokens} → IsTaken (Looser 7) (Reads (IsConjunction n)) a b → DisjunctionSoFar n a b
disjunction_first {n} h = loop_first (or_loops n (conjunction_shape n)) h

pub disjunction_more : {n p : ℕ} {a b c d : Tokens} → DisjunctionSoFar n a b → IsWord word.Or p b c → IsTaken (Looser 7) (Reads (IsConjunction n)) c d → DisjunctionSoFar n a d
disjunction_more {n} h t j = loop_more (or_loops n (conjunction_shape n)) h (take_then (word_shape word.Or) (_, t) j)

pub disjunction_taken : {n : ℕ} {a b : Tokens} → DisjunctionSoFar n a b → first_kind b ≢ Some (Word word.Or) → IsTaken (Looser 6) (Reads (IsDisjunction n)) a b
disjunction_taken {n} h not = takes_as (disjunction_same n) (loop_taken (or_loops n (conjunction_shape n)) h (not, tt))

pub stops_first_conjunction : {n : ℕ} {a r : Tokens} {e : SyntaxFault} → Stops (Looser 7) (Reads (IsConjunction n)) a r e → Stops (Looser 6) (Reads (IsDisjunction n)) a r e
stops_first_conjunction {n} h = stops_as (disjunction_same n) (loop_now (or_loops n (conjunction_shape n)) h)

pub stops_next_conjunction : {n p : ℕ} {a b c r : Tokens} {e : SyntaxFault} → DisjunctionSoFar n a b → IsWord word.Or p b c → Stops (Looser 7) (Reads (IsConjunction n)) c r e → Stops (Looser 6) (Reads (IsDisjunction n)) a r e
stops_next_conjunction {n} h t s = stops_as (disjunction_same n) (loop_stops (or_loops n (conjunction_shape n)) h (inl (ap first_kind t.first)) (stop_then (word_shape word.Or) (_, t) s))

-- ---- conditions in their parentheses

abbrev ClosedForm : Tokens → Tokens → Type 0
ClosedForm = Seq (Reads (IsDisjunction condition_levels)) (MarkForm mark.Close)

abbrev WholeForm : Tokens → Tokens → Type 0
WholeForm = Seq (MarkForm mark.Open) ClosedForm

whole_into : (a b : Tokens) → WholeForm a b → Reads IsCondition a b
whole_into a b h = (_, Whole h.1.1 h.2.1.1 h.2.2.1)

whole_out : (a b : Tokens) → Reads IsCondition a b → WholeForm a b
whole_out a b h = go h.1
  where
    go : {x : CondAt} → IsCondition x a b → WholeForm a b
    go (Whole j k l) = (_, (_, j), (_, (_, k), (_, l)))

whole_same : Same WholeForm (Reads IsCondition)
whole_same = record { into = whole_into; out = whole_out }

closed_shape : Shape negation_kinds 10 ClosedForm
closed_shape = seq (disjunction_shape condition_levels) (mark_shape mark.Close) refl

pub condition_shape : Shape (Mark mark.Open ∷ []) 10 (Reads IsCondition)
condition_shape = shape_as whole_same (seq (mark_shape mark.Open) closed_shape refl)

pub stops_condition_open : {a r : Tokens} {e : SyntaxFault} → Stops Anything (MarkForm mark.Open) a r e → Stops Anything (Reads IsCondition) a r e
stops_condition_open h = free_stops (stops_as whole_same (stop_now closed_shape.can h))

pub stops_condition : {p : ℕ} {a b r : Tokens} {e : SyntaxFault} → IsMark mark.Open p a b → Stops (Looser 6) (Reads (IsDisjunction condition_levels)) b r e → Stops Anything (Reads IsCondition) a r e
stops_condition m h = free_stops (stops_as whole_same (stop_then (mark_shape mark.Open) (_, m) (at_first (mark_shape mark.Close).can (before {n = 6} (mark_shape mark.Close) refl) h)))

pub stops_condition_close : {p : ℕ} {a b c r : Tokens} {e : SyntaxFault} → IsMark mark.Open p a b → IsTaken (Looser 6) (Reads (IsDisjunction condition_levels)) b c → Stops Anything (MarkForm mark.Close) c r e → Stops Anything (Reads IsCondition) a r e
stops_condition_close m t h = free_stops (stops_as whole_same (stop_then (mark_shape mark.Open) (_, m) (stops_second (before {n = 6} (mark_shape mark.Close) refl) t (any_stops h))))
