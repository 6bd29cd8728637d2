-- How far the parts of one or two tokens are read.
use Rattle.std.proofs.Common.{◌≡◌, ℕ, ◌==◌, Bool, true, false, List, [], ◌∷◌, ◌++◌, length, Option, Some, refl, ap, sym, ◌∙◌, subst, arith, inl, inr, length-append}
use Rattle.std.specs.Prelude.{◌≢◌, ◌⊎◌, if◌then◌else◌, None as Nothing}
use Rattle.flow_model.specs.Words.{is_name, is_text}
use Rattle.flow_model.specs.declared.trees.NameAt.{NameAt}
use Rattle.flow_model.specs.declared.trees.NumberAt.{NumberAt}
use Rattle.flow_model.specs.declared.trees.StepTree.{StepTree}
use Rattle.flow_model.specs.declared.trees.StepTree.TheVariants as step
use Rattle.flow_model.specs.declared.trees.LeafAt.{LeafAt}
use Rattle.flow_table.specs.declared.keyword.Keyword.{Keyword}
use Rattle.fdl_lexer.specs.Bytes.{single_quoted, doubled, double_quoted}
use Rattle.fdl_lexer.specs.declared.kinds.What.{What}
use Rattle.fdl_lexer.specs.declared.kinds.What.TheVariants as what
use Rattle.fdl_lexer.specs.declared.kinds.Mark.{Mark}
use Rattle.fdl_lexer.specs.declared.kinds.Mark.TheVariants as mark
use Rattle.fdl_parser.specs.declared.cursor.SyntaxFault.{SyntaxFault}
use Rattle.fdl_parser.specs.Faults.{Names}
use Rattle.fdl_parser.specs.Lexed.{IsQuoted, AreQuoted}
use Rattle.fdl_parser.specs.Tokens.{Spelled, Tokens, Reading, first_kind, HasBytes, IsToken, IsName, IsQuote, IsItemToken, IsNumber, IsSigned, Unsigned, Negative, IsFirstStep, RcFirst, NameFirst, IsNextStep, MemberNext, PlaceNext, IsLeaf, FirstStep, MoreSteps}
use Rattle.fdl_parser.specs.Stops.{Reads, Quotes, FirstSteps, NoStep, Anything, first_and, IsTaken, IsStop, Stops}
use Rattle.fdl_parser.proofs.Same.{Chain, Done, Link, leaf_parts}
use Rattle.fdl_parser.proofs.Stops.{Seq, Either, Star, None, More, Opens, Through, CanRead, taken_as, can_both, can_as, taken_both, stops_first, stops_second, stops_form, taken_left, taken_right, stops_left, stops_right, through_first, through_more, taken_loop, stops_loop, first_kept}

-- ---- one token

abbrev tail_of : Tokens → Tokens
tail_of [] = []
tail_of (t ∷ ts) = ts

abbrev some_kind : Spelled → Tokens → Option What
some_kind t ts = Some t.kind

-- a form of one token: what it is read from, and a token that makes it up
pub record OfOne (F : Tokens → Tokens → Type 0) : Type 0 where
  pub one : Spelled
  pub lexed : AreQuoted (one ∷ [])
  pub reads : (rest : Tokens) → F (one ∷ rest) rest
  pub tail : (t : Spelled) (ts b : Tokens) → F (t ∷ ts) b → b ≡ ts

pub can_one : {F : Tokens → Tokens → Type 0} → OfOne F → CanRead Anything F
can_one o = record { more = o.one ∷ []; lexed = o.lexed; reads = λ rest p. o.reads rest }

pub taken_one : {F : Tokens → Tokens → Type 0} → (o : OfOne F) (t : Spelled) (a b : Tokens) → a ≡ t ∷ b → ((rest : Tokens) → F (t ∷ rest) rest) → IsTaken Anything F a b
taken_one o t a b first reads = record { front = t ∷ []; cut = first; reads = reads; only = λ rest other same p f. o.tail t rest other f }

-- no token that begins alike makes it up
pub stop_one : {F : Tokens → Tokens → Type 0} → (o : OfOne F) (a : Tokens) → ((b c : Tokens) → first_kind b ≡ first_kind a → F b c → ⊥) → IsStop Anything F a a
stop_one o a not = record {
  front = [];
  cut = refl;
  more = o.one ∷ [];
  lexed = o.lexed;
  goes_on = λ rest p. o.reads rest;
  blocked = λ others rest p f. not (first_and a others) rest (first_kept a others) f;
}

-- a token of a kind whose bytes may be these
token_form : (k : What) (bytes : List ℕ) → IsQuoted k bytes → OfOne (Reads (IsToken k))
token_form k bytes q = record {
  one = record { kind = k; place = 0; bytes = bytes };
  lexed = (q, tt);
  reads = λ rest. (0, record { bytes = bytes; first = refl });
  tail = λ t ts b h. sym (ap tail_of h.1.first);
}

taken_token : {k : What} {p : ℕ} {a b : Tokens} → (o : OfOne (Reads (IsToken k))) → IsToken k p a b → IsTaken Anything (Reads (IsToken k)) a b
taken_token {k} {p} {a} {b} o h = taken_one o (record { kind = k; place = p; bytes = h.bytes }) a b h.first (λ rest. (p, record { bytes = h.bytes; first = refl }))

stop_token : {k : What} → (o : OfOne (Reads (IsToken k))) (a : Tokens) → first_kind a ≢ Some k → IsStop Anything (Reads (IsToken k)) a a
stop_token o a not = stop_one o a (λ b c same h. not (sym same ∙ ap first_kind h.1.first))

-- where a form stops at once
pub stops_here : {P : Tokens → Type 0} {F : Tokens → Tokens → Type 0} → (old new : Reading) (e : SyntaxFault) → new ≡ old → IsStop P F old.left old.left → Stops P F old.left new.left e
stops_here {P} {F} old new e same h = record { stop = λ place is q. subst (λ (r : Reading). IsStop P F old.left r.left) (sym same) h }

word_form : (w : Keyword) → OfOne (Reads (IsToken (what.Word w)))
word_form w = token_form (what.Word w) [] tt

mark_form : (m : Mark) → OfOne (Reads (IsToken (what.Mark m)))
mark_form m = token_form (what.Mark m) [] tt

pub can_word : (w : Keyword) → CanRead Anything (Reads (IsToken (what.Word w)))
can_word w = can_one (word_form w)

pub can_mark : (m : Mark) → CanRead Anything (Reads (IsToken (what.Mark m)))
can_mark m = can_one (mark_form m)

pub taken_word : {w : Keyword} {p : ℕ} {a b : Tokens} → IsToken (what.Word w) p a b → IsTaken Anything (Reads (IsToken (what.Word w))) a b
taken_word {w} h = taken_token (word_form w) h

pub taken_mark : {m : Mark} {p : ℕ} {a b : Tokens} → IsToken (what.Mark m) p a b → IsTaken Anything (Reads (IsToken (what.Mark m))) a b
taken_mark {m} h = taken_token (mark_form m) h

pub stops_word : (w : Keyword) (old new : Reading) (e : SyntaxFault) → Names old e × (new ≡ old) × (first_kind old.left ≢ Some (what.Word w)) → Stops Anything (Reads (IsToken (what.Word w))) old.left new.left e
stops_word w old new e h = stops_here old new e h.1 (stop_token (word_form w) old.left h.2)

pub stops_mark : (m : Mark) (old new : Reading) (e : SyntaxFault) → Names old e × (new ≡ old) × (first_kind old.left ≢ Some (what.Mark m)) → Stops Anything (Reads (IsToken (what.Mark m))) old.left new.left e
stops_mark m old new e h = stops_here old new e h.1 (stop_token (mark_form m) old.left h.2)

-- ---- a name

abbrev inner_of : List ℕ → List ℕ
inner_of [] = []
inner_of (b ∷ []) = []
inner_of (b ∷ c ∷ bs) = b ∷ inner_of (c ∷ bs)

inner_is : (bs : List ℕ) → inner_of (bs ++ 39 ∷ []) ≡ bs
inner_is [] = refl
inner_is (b ∷ []) = refl
inner_is (b ∷ c ∷ bs) = ap (λ (l : List ℕ). b ∷ l) (inner_is (c ∷ bs))

abbrev behind_first : List ℕ → List ℕ
behind_first [] = []
behind_first (b ∷ bs) = bs

-- bytes in single quotes have one inside
pub one_inside : (x y : List ℕ) → single_quoted x ≡ single_quoted y → x ≡ y
one_inside x y e = sym (inner_is x) ∙ ap (λ (l : List ℕ). inner_of (behind_first l)) e ∙ inner_is y

name_form : OfOne (Reads IsName)
name_form = record {
  one = record { kind = what.Name; place = 0; bytes = single_quoted (65 ∷ []) };
  lexed = ((65 ∷ [], refl, refl), tt);
  reads = λ rest. (record { name = 65 ∷ []; place = 0 }, record { bytes = single_quoted (65 ∷ []); first = refl; inside = λ value e. one_inside (65 ∷ []) value e });
  tail = λ t ts b h. sym (ap tail_of h.1.first);
}

pub can_name : CanRead Anything (Reads IsName)
can_name = can_one name_form

pub taken_name : {n : NameAt} {a b : Tokens} → IsName n a b → IsTaken Anything (Reads IsName) a b
taken_name {n} {a} {b} h = taken_one name_form (record { kind = what.Name; place = n.place; bytes = h.bytes }) a b h.first (λ rest. (n, record { bytes = h.bytes; first = refl; inside = h.inside }))

pub no_name : (a : Tokens) → first_kind a ≢ Some what.Name → IsStop Anything (Reads IsName) a a
no_name a not = stop_one name_form a (λ b c same h. not (sym same ∙ ap first_kind h.1.first))

-- a name of the lexer is one
pub name_fits : (a : Tokens) (bytes inside : List ℕ) → AreQuoted a → HasBytes what.Name bytes a → ((value : List ℕ) → bytes ≡ single_quoted value → inside ≡ value) → is_name inside ≡ false → ⊥
name_fits [] bytes inside quoted has is bad = has
name_fits (t ∷ a) bytes inside quoted has is bad =
    let q : IsQuoted what.Name t.bytes = subst (λ (k : What). IsQuoted k t.bytes) has.0 quoted.0 in
    let same : inside ≡ q.0 = is q.0 (sym has.1 ∙ q.1) in
    no (sym q.2 ∙ ap is_name (sym same) ∙ bad)
  where
    no : true ≡ false → ⊥
    no e = cc

-- ---- a text

-- a text of the lexer is one
pub text_fits : (a : Tokens) (bytes inside : List ℕ) → AreQuoted a → HasBytes what.Text bytes a → ((value : List ℕ) → bytes ≡ double_quoted value → inside ≡ value) → is_text inside ≡ false → ⊥
text_fits [] bytes inside quoted has is bad = has
text_fits (t ∷ a) bytes inside quoted has is bad =
    let q : IsQuoted what.Text t.bytes = subst (λ (k : What). IsQuoted k t.bytes) has.0 quoted.0 in
    let same : inside ≡ q.0 = is q.0 (sym has.1 ∙ q.1) in
    no (sym q.2 ∙ ap is_text (sym same) ∙ bad)
  where
    no : true ≡ false → ⊥
    no e = cc

doubled_some : (b : ℕ) (bs : List ℕ) → [] ≡ doubled (b ∷ bs) ++ 34 ∷ [] → ⊥
doubled_some b bs e = some (doubled (b ∷ bs)) e
  where
    some : (l : List ℕ) → [] ≡ l ++ 34 ∷ [] → ⊥
    some [] e = cc
    some (x ∷ l) e = cc

no_text_inside : (value : List ℕ) → double_quoted [] ≡ double_quoted value → [] ≡ value
no_text_inside [] e = refl
no_text_inside (b ∷ bs) e = absurd (long (b == 34) (ap behind_first e))
  where
    long : (is : Bool) → 34 ∷ [] ≡ (if is then 34 ∷ 34 ∷ doubled bs else b ∷ doubled bs) ++ 34 ∷ [] → ⊥
    long true f = absurd (omega (arith, ap (λ (l : List ℕ). length l) f, length-append (doubled bs) (34 ∷ [])))
    long false f = absurd (omega (arith, ap (λ (l : List ℕ). length l) f, length-append (doubled bs) (34 ∷ [])))

quote_form : OfOne Quotes
quote_form = record {
  one = record { kind = what.Text; place = 0; bytes = double_quoted [] };
  lexed = (([], refl, refl), tt);
  reads = λ rest. ([], 0, record { bytes = double_quoted []; first = refl; inside = λ value e. no_text_inside value e });
  tail = λ t ts b h. sym (ap tail_of h.2.first);
}

pub can_quote : CanRead Anything Quotes
can_quote = can_one quote_form

pub taken_quote : {v : List ℕ} {p : ℕ} {a b : Tokens} → IsQuote v p a b → IsTaken Anything Quotes a b
taken_quote {v} {p} {a} {b} h = taken_one quote_form (record { kind = what.Text; place = p; bytes = h.bytes }) a b h.first (λ rest. (v, p, record { bytes = h.bytes; first = refl; inside = h.inside }))

pub no_quote : (a : Tokens) → first_kind a ≢ Some what.Text → IsStop Anything Quotes a a
no_quote a not = stop_one quote_form a (λ b c same h. not (sym same ∙ ap first_kind h.2.first))

-- ---- an item

item_form : OfOne (Reads IsItemToken)
item_form = record {
  one = record { kind = what.Item; place = 0; bytes = [] };
  lexed = (tt, tt);
  reads = λ rest. ([], record { place = 0; first = refl });
  tail = λ t ts b h. sym (ap tail_of h.1.first);
}

pub can_item : CanRead Anything (Reads IsItemToken)
can_item = can_one item_form

pub taken_item : {bytes : List ℕ} {a b : Tokens} → IsItemToken bytes a b → IsTaken Anything (Reads IsItemToken) a b
taken_item {bytes} {a} {b} h = taken_one item_form (record { kind = what.Item; place = h.place; bytes = bytes }) a b h.first (λ rest. (bytes, record { place = h.place; first = refl }))

pub no_item : (a : Tokens) → first_kind a ≢ Some what.Item → IsStop Anything (Reads IsItemToken) a a
no_item a not = stop_one item_form a (λ b c same h. not (sym same ∙ ap first_kind h.1.first))

-- ---- a number

number_form : OfOne (Reads IsNumber)
number_form = record {
  one = record { kind = what.Number 0; place = 0; bytes = [] };
  lexed = (tt, tt);
  reads = λ rest. (record { minus = Nothing; size = 0; place = 0 }, record { unsigned = refl; first = record { bytes = []; first = refl } });
  tail = λ t ts b h. sym (ap tail_of h.1.first.first);
}

pub can_number : CanRead Anything (Reads IsNumber)
can_number = can_one number_form

pub taken_number : {n : NumberAt} {a b : Tokens} → IsNumber n a b → IsTaken Anything (Reads IsNumber) a b
taken_number {n} {a} {b} h = taken_one number_form (record { kind = what.Number n.size; place = n.place; bytes = h.first.bytes }) a b h.first.first (λ rest. (n, record { unsigned = h.unsigned; first = record { bytes = h.first.bytes; first = refl } }))

pub no_number : (a : Tokens) → ((size : ℕ) → first_kind a ≢ Some (what.Number size)) → IsStop Anything (Reads IsNumber) a a
no_number a not = stop_one number_form a (λ b c same h. not h.0.size (sym same ∙ ap first_kind h.1.first.first))

-- ---- a number with a sign

abbrev Minus : Option What → Type 0
Minus k = k ≡ Some (what.Mark mark.Minus)

abbrev SignedForm : Tokens → Tokens → Type 0
SignedForm = Either (Seq (Reads (IsToken (what.Mark mark.Minus))) (Reads IsNumber)) (Reads IsNumber)

signed_into : (a b : Tokens) → SignedForm a b → Reads IsSigned a b
signed_into a b (inl h) = (record { minus = Some h.1.0; size = h.2.0.size; place = h.2.0.place }, Negative {n = h.2.0} h.1.1 h.2.1)
signed_into a b (inr h) = (h.0, Unsigned h.1)

signed_out : (a b : Tokens) → Reads IsSigned a b → SignedForm a b
signed_out a b h = go h.1
  where
    go : {n : NumberAt} → IsSigned n a b → SignedForm a b
    go (Unsigned {n = n} j) = inr (n, j)
    go (Negative {n = n} {p = p} {b = c} j k) = inl (c, (p, j), (n, k))

minus_begins : (a b : Tokens) → Seq (Reads (IsToken (what.Mark mark.Minus))) (Reads IsNumber) a b → Minus (first_kind a)
minus_begins a b h = ap first_kind h.1.1.first

no_minus : (a b : Tokens) → Reads IsNumber a b → Minus (first_kind a) → ⊥
no_minus a b h is = apart h.0.size (sym (ap first_kind h.1.first.first) ∙ is)
  where
    apart : (n : ℕ) → Some (what.Number n) ≡ Some (what.Mark mark.Minus) → ⊥
    apart n e = cc

pub can_signed : CanRead Anything (Reads IsSigned)
can_signed = can_as (λ a b (h : Reads IsNumber a b). signed_into a b (inr h)) can_number

pub taken_signed : {n : NumberAt} {a b : Tokens} → IsSigned n a b → IsTaken Anything (Reads IsSigned) a b
taken_signed (Unsigned h) = taken_as signed_into signed_out (taken_right Minus minus_begins no_minus (taken_number h))
taken_signed (Negative h j) = taken_as signed_into signed_out (taken_left Minus minus_begins no_minus (taken_both (λ b c q g. tt) (taken_mark h) (taken_number j)))

pub stops_unsigned : {a r : Tokens} {e : SyntaxFault} → first_kind a ≢ Some (what.Mark mark.Minus) → Stops Anything (Reads IsNumber) a r e → Stops Anything (Reads IsSigned) a r e
stops_unsigned not h = stops_form signed_into signed_out (stops_right Minus minus_begins not h)

pub stops_negative : {p : ℕ} {a b r : Tokens} {e : SyntaxFault} → IsToken (what.Mark mark.Minus) p a b → Stops Anything (Reads IsNumber) b r e → Stops Anything (Reads IsSigned) a r e
stops_negative m h = stops_form signed_into signed_out (stops_left Minus no_minus (ap first_kind m.first) (stops_second (λ b c q g. tt) (taken_mark m) h))

-- ---- the steps of a leaf

abbrev Code : Option What → Type 0
Code k = k ≡ Some what.Rc

abbrev FirstForm : Tokens → Tokens → Type 0
FirstForm = Either (Reads (IsToken what.Rc)) (Reads IsName)

first_into : (a b : Tokens) → FirstForm a b → FirstSteps a b
first_into a b (inl h) = (step.Rc, h.0, RcFirst h.1)
first_into a b (inr h) = (step.Member h.0.name, h.0.place, NameFirst h.1)

first_out : (a b : Tokens) → FirstSteps a b → FirstForm a b
first_out a b h = go h.2
  where
    go : {s : StepTree} {p : ℕ} → IsFirstStep s p a b → FirstForm a b
    go (RcFirst {p = p} j) = inl (p, j)
    go (NameFirst {n = n} j) = inr (n, j)

code_begins : (a b : Tokens) → Reads (IsToken what.Rc) a b → Code (first_kind a)
code_begins a b h = ap first_kind h.1.first

no_code : (a b : Tokens) → Reads IsName a b → Code (first_kind a) → ⊥
no_code a b h is = apart (sym (ap first_kind h.1.first) ∙ is)
  where
    apart : Some what.Name ≡ Some what.Rc → ⊥
    apart e = cc

code_form : OfOne (Reads (IsToken what.Rc))
code_form = token_form what.Rc [] tt

can_first : CanRead Anything FirstSteps
can_first = can_as (λ a b (h : Reads IsName a b). first_into a b (inr h)) can_name

pub taken_first : {s : StepTree} {p : ℕ} {a b : Tokens} → IsFirstStep s p a b → IsTaken Anything FirstSteps a b
taken_first (RcFirst h) = taken_as first_into first_out (taken_left Code code_begins no_code (taken_token code_form h))
taken_first (NameFirst h) = taken_as first_into first_out (taken_right Code code_begins no_code (taken_name h))

pub stops_first_step : {a r : Tokens} {e : SyntaxFault} → first_kind a ≢ Some what.Rc → Stops Anything (Reads IsName) a r e → Stops Anything FirstSteps a r e
stops_first_step not h = stops_form first_into first_out (stops_right Code code_begins not h)

abbrev Dot : Option What → Type 0
Dot k = k ≡ Some (what.Mark mark.Dot)

abbrev PlaceForm : Tokens → Tokens → Type 0
PlaceForm = Seq (Reads (IsToken (what.Mark mark.OpenBracket))) (Seq (Reads IsNumber) (Reads (IsToken (what.Mark mark.CloseBracket))))

abbrev NextForm : Tokens → Tokens → Type 0
NextForm = Either (Seq (Reads (IsToken (what.Mark mark.Dot))) (Reads IsName)) PlaceForm

next_into : (a b : Tokens) → NextForm a b → Reads IsNextStep a b
next_into a b (inl h) = (step.Member h.2.0.name, MemberNext h.1.1 h.2.1)
next_into a b (inr h) = (step.Place h.2.1.0.size, PlaceNext h.1.1 h.2.1.1 h.2.2.1)

next_out : (a b : Tokens) → Reads IsNextStep a b → NextForm a b
next_out a b h = go h.1
  where
    go : {s : StepTree} → IsNextStep s a b → NextForm a b
    go (MemberNext {n = n} {p = p} {b = c} j k) = inl (c, (p, j), (n, k))
    go (PlaceNext {n = n} {p = p} {q = q} {b = c} {c = d} j k l) = inr (c, (p, j), (d, (n, k), (q, l)))

dot_begins : (a b : Tokens) → Seq (Reads (IsToken (what.Mark mark.Dot))) (Reads IsName) a b → Dot (first_kind a)
dot_begins a b h = ap first_kind h.1.1.first

no_dot : (a b : Tokens) → PlaceForm a b → Dot (first_kind a) → ⊥
no_dot a b h is = apart (sym (ap first_kind h.1.1.first) ∙ is)
  where
    apart : Some (what.Mark mark.OpenBracket) ≡ Some (what.Mark mark.Dot) → ⊥
    apart e = cc

taken_next : {s : StepTree} {a b : Tokens} → IsNextStep s a b → IsTaken Anything (Reads IsNextStep) a b
taken_next (MemberNext h j) = taken_as next_into next_out (taken_left Dot dot_begins no_dot (taken_both (λ b c q g. tt) (taken_mark h) (taken_name j)))
taken_next (PlaceNext h j k) = taken_as next_into next_out (taken_right Dot dot_begins no_dot (taken_both (λ b c q g. tt) (taken_mark h) (taken_both (λ b c q g. tt) (taken_number j) (taken_mark k))))

pub stops_member : {p : ℕ} {a b r : Tokens} {e : SyntaxFault} → IsToken (what.Mark mark.Dot) p a b → Stops Anything (Reads IsName) b r e → Stops Anything (Reads IsNextStep) a r e
stops_member m h = stops_form next_into next_out (stops_left Dot no_dot (ap first_kind m.first) (stops_second (λ b c q g. tt) (taken_mark m) h))

pub stops_place : {a r : Tokens} {e : SyntaxFault} → first_kind a ≢ Some (what.Mark mark.Dot) → Stops Anything PlaceForm a r e → Stops Anything (Reads IsNextStep) a r e
stops_place not h = stops_form next_into next_out (stops_right Dot dot_begins not h)

pub stops_open : {a r : Tokens} {e : SyntaxFault} → first_kind a ≢ Some (what.Mark mark.Dot) → Stops Anything (Reads (IsToken (what.Mark mark.OpenBracket))) a r e → Stops Anything (Reads IsNextStep) a r e
stops_open not h = stops_place not (stops_first (λ b c q g. tt) h (can_both (λ b c q g. tt) can_number (can_mark mark.CloseBracket)))

pub stops_number : {p : ℕ} {a b r : Tokens} {e : SyntaxFault} → first_kind a ≢ Some (what.Mark mark.Dot) → IsToken (what.Mark mark.OpenBracket) p a b → Stops Anything (Reads IsNumber) b r e → Stops Anything (Reads IsNextStep) a r e
stops_number not m h = stops_place not (stops_second (λ b c q g. tt) (taken_mark m) (stops_first (λ b c q g. tt) h (can_mark mark.CloseBracket)))

pub stops_close : {p : ℕ} {n : NumberAt} {a b c r : Tokens} {e : SyntaxFault} → first_kind a ≢ Some (what.Mark mark.Dot) → IsToken (what.Mark mark.OpenBracket) p a b → IsNumber n b c
    → Stops Anything (Reads (IsToken (what.Mark mark.CloseBracket))) c r e → Stops Anything (Reads IsNextStep) a r e
stops_close not m n h = stops_place not (stops_second (λ b c q g. tt) (taken_mark m) (stops_second (λ b c q g. tt) (taken_number n) h))

-- ---- a leaf

abbrev StepKind : Option What → Type 0
StepKind k = (k ≡ Some (what.Mark mark.Dot)) ⊎ (k ≡ Some (what.Mark mark.OpenBracket))

abbrev LeafForm : Tokens → Tokens → Type 0
LeafForm = Seq FirstSteps (Star (Reads IsNextStep))

leaf_on : {l : LeafAt} {a b c : Tokens} → IsLeaf l a b → Star (Reads IsNextStep) b c → Reads IsLeaf a c
leaf_on {l} h None = (l, h)
leaf_on {l} h (More g s) = leaf_on (MoreSteps {steps = l.steps} {p = l.place} h g.1) s

leaf_into : (a b : Tokens) → LeafForm a b → Reads IsLeaf a b
leaf_into a b h = leaf_on (FirstStep h.1.2) h.2

star_of : {xs : List StepTree} {a b : Tokens} → Chain StepTree IsNextStep xs a b → Star (Reads IsNextStep) a b
star_of Done = None
star_of (Link {x = x} h k) = More (x, h) (star_of k)

leaf_out : (a b : Tokens) → Reads IsLeaf a b → LeafForm a b
leaf_out a b h = let p = leaf_parts h.1 in (p.middle, (p.first, h.0.place, p.begins), star_of p.goes_on)

step_opens : Opens StepKind NoStep (Reads IsNextStep)
step_opens = record {
  begins = λ a b h. go a b (next_out a b h);
  closes = λ b p k. elim k as (λ k. ⊥) [ inl e ↦ p.0 e | inr e ↦ p.1 e ];
}
  where
    go : (a b : Tokens) → NextForm a b → StepKind (first_kind a)
    go a b (inl h) = inl (ap first_kind h.1.1.first)
    go a b (inr h) = inr (ap first_kind h.1.1.first)

-- the steps of a leaf up to some place
abbrev pub LeafSoFar : Tokens → Tokens → Type 0
LeafSoFar a b = Through NoStep FirstSteps (Reads IsNextStep) a b

pub leaf_first : {s : StepTree} {p : ℕ} {a b : Tokens} → IsFirstStep s p a b → LeafSoFar a b
leaf_first h = through_first (taken_first h)

pub leaf_more : {s : StepTree} {a b c : Tokens} → LeafSoFar a b → IsNextStep s b c → LeafSoFar a c
leaf_more h j = through_more step_opens h (taken_next j)

pub leaf_so_far : {l : LeafAt} {a b : Tokens} → IsLeaf l a b → LeafSoFar a b
leaf_so_far (FirstStep h) = leaf_first h
leaf_so_far (MoreSteps h j) = leaf_more (leaf_so_far h) j

pub leaf_taken : {a b : Tokens} → LeafSoFar a b → NoStep b → IsTaken NoStep (Reads IsLeaf) a b
leaf_taken h not = taken_as leaf_into leaf_out (taken_loop step_opens h (step_opens.closes _ not))

pub stops_leaf : {a b r : Tokens} {e : SyntaxFault} → LeafSoFar a b → StepKind (first_kind b) → Stops Anything (Reads IsNextStep) b r e → Stops NoStep (Reads IsLeaf) a r e
stops_leaf h here j = stops_form leaf_into leaf_out (stops_loop step_opens h here j)

pub stops_leaf_first : {a r : Tokens} {e : SyntaxFault} → Stops Anything FirstSteps a r e → Stops NoStep (Reads IsLeaf) a r e
stops_leaf_first h = stops_form leaf_into leaf_out (stops_first (λ b c q g. tt) h (record { more = []; lexed = tt; reads = λ rest p. None }))

pub can_leaf : CanRead NoStep (Reads IsLeaf)
can_leaf = can_as leaf_into (record { more = can_first.more; lexed = can_first.lexed; reads = λ rest p. (rest, can_first.reads rest tt, None) })
