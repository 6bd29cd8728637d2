-- What a form begins with, what may stand behind it, and how it is read then, for forms that are made of others.
use Rattle.std.proofs.Common.{◌≡◌, ℕ, ◌+◌, ◌<◌, ◌==◌, ◌&&◌, Bool, true, false, not, ltb, List, [], ◌∷◌, ◌++◌, Option, Some, None as Nothing, refl, ap, sym, ◌∙◌, subst, arith, inl, inr}
use Rattle.std.specs.Prelude.{◌⊎◌}
use Rattle.std.proofs.lemmas.Bool.{ltb-true, eq-eqb}
use Rattle.flow_table.specs.declared.keyword.Keyword.{Keyword}
use Rattle.flow_table.specs.declared.keyword.Keyword.TheVariants as keywords
use Rattle.fdl_lexer.specs.declared.kinds.Mark.{Mark as Sign}
use Rattle.fdl_lexer.specs.declared.kinds.Mark.TheVariants as signs
use Rattle.fdl_lexer.specs.declared.kinds.What.{What}
use Rattle.fdl_lexer.specs.declared.kinds.What.TheVariants.{Word, Name, Rc, Item, Number, Text, Mark}
use Rattle.fdl_parser.specs.declared.cursor.SyntaxFault.{SyntaxFault}
use Rattle.fdl_parser.specs.Tokens.{Tokens, first_kind, IsToken, IsName, IsNumber}
use Rattle.fdl_parser.specs.Tiers.{word_tier, mark_tier, kind_tier, tier, Looser}
use Rattle.fdl_parser.specs.Stops.{Reads, Anything, first_and, IsTaken, IsStop, Stops}
use Rattle.fdl_parser.proofs.Same.{kind_lead}
use Rattle.fdl_parser.proofs.Stops.{CanRead, can_as, Seq, Follows, can_both, taken_both, stops_first, stops_second, Maybe, Opens, taken_none, taken_some, stops_some, can_none, Star, None, More, Through, through_before, through_on, taken_loop, stops_loop_on, through_none, taken_many, Either, taken_left, taken_right, stops_left, stops_right, taken_as, stops_form, taken_less, stops_less, first_kept}
use Rattle.fdl_parser.proofs.StopsTokens.{can_word, can_mark, can_name, can_number, taken_word, taken_mark, taken_name, taken_number}

-- ---- kinds of first tokens

-- a first token is of this kind; all numbers are of one
abbrev pub Fits : What → Option What → Type 0
Fits (Number n) k = (size : ℕ) × (k ≡ Some (Number size))
Fits (Word w) k = k ≡ Some (Word w)
Fits (Mark m) k = k ≡ Some (Mark m)
Fits Name k = k ≡ Some Name
Fits Rc k = k ≡ Some Rc
Fits Item k = k ≡ Some Item
Fits Text k = k ≡ Some Text

-- of one of these
abbrev pub Among : List What → Option What → Type 0
Among [] k = ⊥
Among (w ∷ ws) k = Fits w k ⊎ Among ws k

-- of none of these
abbrev pub NotAmong : List What → Option What → Type 0
NotAmong [] k = Unit {0}
NotAmong (w ∷ ws) k = (Fits w k → ⊥) × NotAmong ws k

pub not_among : (ws : List What) (k : Option What) → NotAmong ws k → Among ws k → ⊥
not_among [] k n h = h
not_among (w ∷ ws) k n (inl h) = n.0 h
not_among (w ∷ ws) k n (inr h) = not_among ws k n.1 h

among_left : (ws vs : List What) (k : Option What) → Among ws k → Among (ws ++ vs) k
among_left [] vs k h = absurd h
among_left (w ∷ ws) vs k (inl h) = inl h
among_left (w ∷ ws) vs k (inr h) = inr (among_left ws vs k h)

among_right : (ws vs : List What) (k : Option What) → Among vs k → Among (ws ++ vs) k
among_right [] vs k h = h
among_right (w ∷ ws) vs k h = inr (among_right ws vs k h)

abbrev pub opt_tier : Option What → ℕ
opt_tier Nothing = 0
opt_tier (Some k) = kind_tier k

abbrev opt_lead : Option What → ℕ
opt_lead Nothing = 0
opt_lead (Some k) = kind_lead k

pub tier_first : (a : Tokens) → tier a ≡ opt_tier (first_kind a)
tier_first [] = refl
tier_first (t ∷ ts) = refl

fits_tier : (w : What) (k : Option What) → Fits w k → opt_tier k ≡ kind_tier w
fits_tier (Number n) k h = ap opt_tier h.1
fits_tier (Word w) k h = ap opt_tier h
fits_tier (Mark m) k h = ap opt_tier h
fits_tier Name k h = ap opt_tier h
fits_tier Rc k h = ap opt_tier h
fits_tier Item k h = ap opt_tier h
fits_tier Text k h = ap opt_tier h

fits_lead : (w : What) (k : Option What) → Fits w k → opt_lead k ≡ kind_lead w
fits_lead (Number n) k h = ap opt_lead h.1
fits_lead (Word w) k h = ap opt_lead h
fits_lead (Mark m) k h = ap opt_lead h
fits_lead Name k h = ap opt_lead h
fits_lead Rc k h = ap opt_lead h
fits_lead Item k h = ap opt_lead h
fits_lead Text k h = ap opt_lead h

-- each goes on less tightly than this
abbrev pub under : ℕ → List What → Bool
under n [] = true
under n (w ∷ ws) = ltb (kind_tier w) n && under n ws

-- each goes on at least as tightly
abbrev pub from : ℕ → List What → Bool
from n [] = true
from n (w ∷ ws) = ltb n (kind_tier w + 1) && from n ws

-- this is none of those
abbrev fresh : What → List What → Bool
fresh w [] = true
fresh w (v ∷ vs) = not (kind_lead w == kind_lead v) && fresh w vs

-- none of these is one of those
abbrev pub apart : List What → List What → Bool
apart [] vs = true
apart (w ∷ ws) vs = fresh w vs && apart ws vs

both_true : (p q : Bool) → (p && q) ≡ true → (p ≡ true) × (q ≡ true)
both_true true q e = (refl, e)
both_true false q e = absurd (no e)
  where
    no : false ≡ true → ⊥
    no e = cc

not_true : (p : Bool) → not p ≡ true → p ≡ true → ⊥
not_true true e f = no e
  where
    no : false ≡ true → ⊥
    no e = cc
not_true false e f = no f
  where
    no : false ≡ true → ⊥
    no e = cc

among_under : (n : ℕ) (ws : List What) (a : Tokens) → under n ws ≡ true → Among ws (first_kind a) → tier a < n
among_under n [] a u h = absurd h
among_under n (w ∷ ws) a u (inl h) =
    let e = tier_first a ∙ fits_tier w (first_kind a) h in
    subst (λ (t : ℕ). t < n) (sym e) (ltb-true (kind_tier w) n (both_true (ltb (kind_tier w) n) (under n ws) u).0)
among_under n (w ∷ ws) a u (inr h) = among_under n ws a (both_true (ltb (kind_tier w) n) (under n ws) u).1 h

among_from : (n : ℕ) (ws : List What) (a : Tokens) → from n ws ≡ true → Among ws (first_kind a) → n < tier a + 1
among_from n [] a u h = absurd h
among_from n (w ∷ ws) a u (inl h) =
    let e = tier_first a ∙ fits_tier w (first_kind a) h in
    subst (λ (t : ℕ). n < t + 1) (sym e) (ltb-true n (kind_tier w + 1) (both_true (ltb n (kind_tier w + 1)) (from n ws) u).0)
among_from n (w ∷ ws) a u (inr h) = among_from n ws a (both_true (ltb n (kind_tier w + 1)) (from n ws) u).1 h

among_fresh : (w : What) (vs : List What) (k : Option What) → fresh w vs ≡ true → Fits w k → Among vs k → ⊥
among_fresh w [] k u f h = h
among_fresh w (v ∷ vs) k u f (inl h) =
    not_true (kind_lead w == kind_lead v) (both_true (not (kind_lead w == kind_lead v)) (fresh w vs) u).0 (eq-eqb (kind_lead w) (kind_lead v) (sym (fits_lead w k f) ∙ fits_lead v k h))
among_fresh w (v ∷ vs) k u f (inr h) = among_fresh w vs k (both_true (not (kind_lead w == kind_lead v)) (fresh w vs) u).1 f h

pub among_apart : (ws vs : List What) (k : Option What) → apart ws vs ≡ true → Among ws k → Among vs k → ⊥
among_apart [] vs k u f h = f
among_apart (w ∷ ws) vs k u (inl f) h = among_fresh w vs k (both_true (fresh w vs) (apart ws vs) u).0 f h
among_apart (w ∷ ws) vs k u (inr f) h = among_apart ws vs k (both_true (fresh w vs) (apart ws vs) u).1 f h

-- ---- what may always stand behind

word_below : (w : Keyword) → ltb (word_tier w) 10 ≡ true
word_below keywords.And = refl
word_below _ = refl

mark_below : (m : Sign) → ltb (mark_tier m) 10 ≡ true
mark_below signs.Dot = refl
mark_below _ = refl

kind_top : (k : What) → kind_tier k < 10
kind_top (Word w) = ltb-true (word_tier w) 10 (word_below w)
kind_top (Mark m) = ltb-true (mark_tier m) 10 (mark_below m)
kind_top Name = omega arith
kind_top Rc = omega arith
kind_top Item = omega arith
kind_top (Number n) = omega arith
kind_top Text = omega arith

-- 10 is more than any token goes on
pub tier_top : (a : Tokens) → Looser 10 a
tier_top [] = omega arith
tier_top (t ∷ ts) = kind_top t.kind

pub any_taken : {P : Tokens → Type 0} {F : Tokens → Tokens → Type 0} {a b : Tokens} → IsTaken Anything F a b → IsTaken P F a b
any_taken h = taken_less (λ x q. tt) h

pub any_stops : {P : Tokens → Type 0} {F : Tokens → Tokens → Type 0} {a r : Tokens} {e : SyntaxFault} → Stops Anything F a r e → Stops P F a r e
any_stops h = stops_less (λ x q. tt) h

pub free_taken : {P : Tokens → Type 0} {F : Tokens → Tokens → Type 0} {a b : Tokens} → IsTaken (Looser 10) F a b → IsTaken P F a b
free_taken h = taken_less (λ x q. tier_top x) h

pub free_stops : {P : Tokens → Type 0} {F : Tokens → Tokens → Type 0} {a r : Tokens} {e : SyntaxFault} → Stops (Looser 10) F a r e → Stops P F a r e
free_stops h = stops_less (λ x q. tier_top x) h

-- ---- shapes

-- a form begins with one of these tokens; before what goes on less tightly than that it can be read, and is taken
pub record Shape (ws : List What) (n : ℕ) (F : Tokens → Tokens → Type 0) : Type 0 where
  pub begins : (a b : Tokens) → F a b → Among ws (first_kind a)
  pub can : CanRead (Looser n) F
  pub takes : (a b : Tokens) → F a b → Looser n b → IsTaken (Looser n) F a b

-- so is one that may be empty
pub record Loose (ws : List What) (n : ℕ) (F : Tokens → Tokens → Type 0) : Type 0 where
  pub begins : (a b : Tokens) → F a b → (b ≡ a) ⊎ Among ws (first_kind a)
  pub can : CanRead (Looser n) F
  pub takes : (a b : Tokens) → F a b → Looser n b → IsTaken (Looser n) F a b

can_any : {P : Tokens → Type 0} {F : Tokens → Tokens → Type 0} → CanRead Anything F → CanRead P F
can_any h = record { more = h.more; lexed = h.lexed; reads = λ rest p. h.reads rest tt }

-- whatever stands behind it
pub shape_any : {ws : List What} {F : Tokens → Tokens → Type 0} → ((a b : Tokens) → F a b → Among ws (first_kind a)) → CanRead Anything F → ((a b : Tokens) → F a b → IsTaken Anything F a b) → Shape ws 10 F
shape_any begins can takes = record { begins = begins; can = can_any can; takes = λ a b h q. any_taken (takes a b h) }

-- this word, this mark
abbrev pub WordForm : Keyword → Tokens → Tokens → Type 0
WordForm w = Reads (IsToken (Word w))

abbrev pub MarkForm : Sign → Tokens → Tokens → Type 0
MarkForm m = Reads (IsToken (Mark m))

pub word_shape : (w : Keyword) → Shape (Word w ∷ []) 10 (WordForm w)
word_shape w = shape_any (λ a b h. inl (ap first_kind h.1.first)) (can_word w) (λ a b h. taken_word h.1)

pub mark_shape : (m : Sign) → Shape (Mark m ∷ []) 10 (MarkForm m)
mark_shape m = shape_any (λ a b h. inl (ap first_kind h.1.first)) (can_mark m) (λ a b h. taken_mark h.1)

pub name_shape : Shape (Name ∷ []) 10 (Reads IsName)
name_shape = shape_any (λ a b h. inl (ap first_kind h.1.first)) can_name (λ a b h. taken_name h.1)

pub number_shape : Shape (Number 0 ∷ []) 10 (Reads IsNumber)
number_shape = shape_any (λ a b h. inl (h.0.size, ap first_kind h.1.first.first)) can_number (λ a b h. taken_number h.1)

-- two forms of the same tokens
pub record Same (F G : Tokens → Tokens → Type 0) : Type 0 where
  pub into : (a b : Tokens) → F a b → G a b
  pub out : (a b : Tokens) → G a b → F a b

pub shape_as : {ws : List What} {n : ℕ} {F G : Tokens → Tokens → Type 0} → Same F G → Shape ws n F → Shape ws n G
shape_as s f = record { begins = λ a b g. f.begins a b (s.out a b g); can = can_as s.into f.can; takes = λ a b g q. taken_as s.into s.out (f.takes a b (s.out a b g) q) }

pub loose_as : {ws : List What} {n : ℕ} {F G : Tokens → Tokens → Type 0} → Same F G → Loose ws n F → Loose ws n G
loose_as s f = record { begins = λ a b g. f.begins a b (s.out a b g); can = can_as s.into f.can; takes = λ a b g q. taken_as s.into s.out (f.takes a b (s.out a b g) q) }

pub stops_as : {P : Tokens → Type 0} {F G : Tokens → Tokens → Type 0} {a r : Tokens} {e : SyntaxFault} → Same F G → Stops P F a r e → Stops P G a r e
stops_as s h = stops_form s.into s.out h

pub takes_as : {P : Tokens → Type 0} {F G : Tokens → Tokens → Type 0} {a b : Tokens} → Same F G → IsTaken P F a b → IsTaken P G a b
takes_as s h = taken_as s.into s.out h

looser_less : (m n : ℕ) → ltb m (n + 1) ≡ true → (x : Tokens) → Looser m x → Looser n x
looser_less m n le x q = let l : m < n + 1 = ltb-true m (n + 1) le in omega (arith, l, q)

-- before what goes on less tightly still
pub widen : {ws : List What} {n m : ℕ} {F : Tokens → Tokens → Type 0} → Shape ws n F → ltb m (n + 1) ≡ true → Shape ws m F
widen {ws} {n} {m} {F} f le = record {
  begins = f.begins;
  can = record { more = f.can.more; lexed = f.can.lexed; reads = λ rest q. f.can.reads rest (looser_less m n le rest q) };
  takes = λ a b h q. taken_less (looser_less m n le) (f.takes a b h (looser_less m n le b q));
}

-- with more tokens that it doesn't begin with
pub with_more : (ws : List What) {vs : List What} {n : ℕ} {F : Tokens → Tokens → Type 0} → Shape vs n F → Shape (ws ++ vs) n F
with_more ws {vs} f = record { begins = λ a b h. among_right ws vs (first_kind a) (f.begins a b h); can = f.can; takes = f.takes }

-- ---- one behind the other

pub before : {vs : List What} {n m : ℕ} {G : Tokens → Tokens → Type 0} → Shape vs m G → under n vs ≡ true → Follows (Looser n) (Looser m) G
before {vs} {n} g u = λ b c q h. among_under n vs b u (g.begins b c h)

pub before_end : {vs : List What} {n m : ℕ} {G : Tokens → Tokens → Type 0} → Loose vs m G → under n vs ≡ true → ltb m (n + 1) ≡ true → Follows (Looser n) (Looser m) G
before_end {vs} {n} {m} {G} g u le = λ b c q h. go b c q (g.begins b c h)
  where
    go : (b c : Tokens) → Looser m c → (c ≡ b) ⊎ Among vs (first_kind b) → Looser n b
    go b c q (inl e) = looser_less m n le b (subst (Looser m) e q)
    go b c q (inr h) = among_under n vs b u h

pub seq : {ws vs : List What} {n m : ℕ} {F G : Tokens → Tokens → Type 0} → Shape ws n F → Shape vs m G → under n vs ≡ true → Shape ws m (Seq F G)
seq {ws} {vs} {n} {m} {F} {G} f g u = record {
  begins = λ a c h. f.begins a h.0 h.1;
  can = can_both (before {n = n} g u) f.can g.can;
  takes = λ a c h q. taken_both (before {n = n} g u) (f.takes a h.0 h.1 (before {n = n} g u h.0 c q h.2)) (g.takes h.0 c h.2 q);
}

pub seq_end : {ws vs : List What} {n m : ℕ} {F G : Tokens → Tokens → Type 0} → Shape ws n F → Loose vs m G → under n vs ≡ true → ltb m (n + 1) ≡ true → Shape ws m (Seq F G)
seq_end {ws} {vs} {n} {m} {F} {G} f g u le = record {
  begins = λ a c h. f.begins a h.0 h.1;
  can = can_both (before_end {n = n} g u le) f.can g.can;
  takes = λ a c h q. taken_both (before_end {n = n} g u le) (f.takes a h.0 h.1 (before_end {n = n} g u le h.0 c q h.2)) (g.takes h.0 c h.2 q);
}

pub skip : {ws vs : List What} {n m : ℕ} {F G : Tokens → Tokens → Type 0} → Loose ws n F → Shape vs m G → under n vs ≡ true → Shape (ws ++ vs) m (Seq F G)
skip {ws} {vs} {n} {m} {F} {G} f g u = record {
  begins = λ a c h. go a h.0 c h.2 (f.begins a h.0 h.1);
  can = can_both (before {n = n} g u) f.can g.can;
  takes = λ a c h q. taken_both (before {n = n} g u) (f.takes a h.0 h.1 (before {n = n} g u h.0 c q h.2)) (g.takes h.0 c h.2 q);
}
  where
    go : (a b c : Tokens) → G b c → (b ≡ a) ⊎ Among ws (first_kind a) → Among (ws ++ vs) (first_kind a)
    go a b c h (inl e) = among_right ws vs (first_kind a) (subst (λ (x : Tokens). Among vs (first_kind x)) e (g.begins b c h))
    go a b c h (inr i) = among_left ws vs (first_kind a) i

-- a form stops at once where it doesn't begin
pub no_shape : {ws : List What} {n : ℕ} {F : Tokens → Tokens → Type 0} {a : Tokens} → Shape ws n F → (Among ws (first_kind a) → ⊥) → IsStop (Looser n) F a a
no_shape {ws} {a = a} f not = record {
  front = [];
  cut = refl;
  more = f.can.more;
  lexed = f.can.lexed;
  goes_on = λ rest p. f.can.reads rest p;
  blocked = λ others rest p h. not (subst (Among ws) (first_kept a others) (f.begins (first_and a others) rest h));
}

-- a form before which anything may stand is taken wherever it is read
pub sure : {ws : List What} {F : Tokens → Tokens → Type 0} {a b : Tokens} → Shape ws 10 F → F a b → IsTaken (Looser 10) F a b
sure {a = a} {b = b} f h = f.takes a b h (tier_top b)

-- where the first form stops
pub at_first : {P Q : Tokens → Type 0} {F G : Tokens → Tokens → Type 0} {a r : Tokens} {e : SyntaxFault} → CanRead Q G → Follows P Q G → Stops P F a r e → Stops Q (Seq F G) a r e
at_first can follows h = stops_first follows h can

-- and before what may always stand behind it
pub stop_now : {Q : Tokens → Type 0} {F G : Tokens → Tokens → Type 0} {a r : Tokens} {e : SyntaxFault} → CanRead Q G → Stops Anything F a r e → Stops Q (Seq F G) a r e
stop_now can h = stops_first (λ b c q g. tt) h can

-- where the second one stops, or is taken
pub stop_then : {ws : List What} {Q : Tokens → Type 0} {F G : Tokens → Tokens → Type 0} {a b r : Tokens} {e : SyntaxFault} → Shape ws 10 F → F a b → Stops Q G b r e → Stops Q (Seq F G) a r e
stop_then {a = a} {b = b} f h s = stops_second (λ b c q g. tier_top b) (f.takes a b h (tier_top b)) s

pub take_then : {ws : List What} {Q : Tokens → Type 0} {F G : Tokens → Tokens → Type 0} {a b c : Tokens} → Shape ws 10 F → F a b → IsTaken Q G b c → IsTaken Q (Seq F G) a c
take_then {a = a} {b = b} f h s = taken_both (λ b c q g. tier_top b) (f.takes a b h (tier_top b)) s

-- ---- one of two

pub either : {ws vs : List What} {n : ℕ} {F G : Tokens → Tokens → Type 0} → Shape ws n F → Shape vs n G → apart ws vs ≡ true → Shape (ws ++ vs) n (Either F G)
either {ws} {vs} {n} {F} {G} f g u = record {
  begins = begins;
  can = can_as (λ a b (h : F a b). inl h) f.can;
  takes = takes;
}
  where
    begins : (a b : Tokens) → Either F G a b → Among (ws ++ vs) (first_kind a)
    begins a b (inl h) = among_left ws vs (first_kind a) (f.begins a b h)
    begins a b (inr h) = among_right ws vs (first_kind a) (g.begins a b h)

    no : (a b : Tokens) → G a b → Among ws (first_kind a) → ⊥
    no a b h k = among_apart ws vs (first_kind a) u k (g.begins a b h)

    takes : (a b : Tokens) → Either F G a b → Looser n b → IsTaken (Looser n) (Either F G) a b
    takes a b (inl h) q = taken_left (Among ws) f.begins no (f.takes a b h q)
    takes a b (inr h) q = taken_right (Among ws) f.begins no (g.takes a b h q)

pub take_left : {ws vs : List What} {n : ℕ} {F G : Tokens → Tokens → Type 0} {a b : Tokens} → Shape ws n F → Shape vs n G → apart ws vs ≡ true → IsTaken (Looser n) F a b → IsTaken (Looser n) (Either F G) a b
take_left {ws} {vs} f g u h = taken_left (Among ws) f.begins (λ a b j k. among_apart ws vs (first_kind a) u k (g.begins a b j)) h

pub take_right : {ws vs : List What} {n : ℕ} {F G : Tokens → Tokens → Type 0} {a b : Tokens} → Shape ws n F → Shape vs n G → apart ws vs ≡ true → IsTaken (Looser n) G a b → IsTaken (Looser n) (Either F G) a b
take_right {ws} {vs} f g u h = taken_right (Among ws) f.begins (λ a b j k. among_apart ws vs (first_kind a) u k (g.begins a b j)) h

pub stop_left : {ws vs : List What} {n : ℕ} {F G : Tokens → Tokens → Type 0} {a r : Tokens} {e : SyntaxFault} → Shape ws n F → Shape vs n G → apart ws vs ≡ true → Among ws (first_kind a) → Stops (Looser n) F a r e
    → Stops (Looser n) (Either F G) a r e
stop_left {ws} {vs} f g u here h = stops_left (Among ws) (λ a b j k. among_apart ws vs (first_kind a) u k (g.begins a b j)) here h

pub stop_right : {ws : List What} {n : ℕ} {F G : Tokens → Tokens → Type 0} {a r : Tokens} {e : SyntaxFault} → Shape ws n F → NotAmong ws (first_kind a) → Stops (Looser n) G a r e → Stops (Looser n) (Either F G) a r e
stop_right {ws} {a = a} f not h = stops_right (Among ws) f.begins (not_among ws (first_kind a) not) h

-- ---- one or nothing

-- what goes on as tightly can't stand behind
tight : (ws : List What) {m : ℕ} {F : Tokens → Tokens → Type 0} → ((a b : Tokens) → F a b → Among ws (first_kind a)) → from m ws ≡ true → Opens (Among ws) (Looser m) F
tight ws {m} begins u = record { begins = begins; closes = λ b p k. let l = among_from m ws b u k in omega (arith, l, p) }

pub maybe : {ws : List What} {n m : ℕ} {F : Tokens → Tokens → Type 0} → Shape ws n F → from m ws ≡ true → ltb m (n + 1) ≡ true → Loose ws m (Maybe F)
maybe {ws} {n} {m} {F} f u le = record { begins = begins; can = can_none; takes = takes }
  where
    begins : (a b : Tokens) → Maybe F a b → (b ≡ a) ⊎ Among ws (first_kind a)
    begins a b (inl e) = inl e
    begins a b (inr h) = inr (f.begins a b h)

    takes : (a b : Tokens) → Maybe F a b → Looser m b → IsTaken (Looser m) (Maybe F) a b
    takes a b (inl e) q = subst (λ (x : Tokens). IsTaken (Looser m) (Maybe F) x b) e (taken_none (tight ws f.begins u) (λ k. let l = among_from m ws b u k in omega (arith, l, q)))
    takes a b (inr h) q = taken_some (tight ws f.begins u) (taken_less (looser_less m n le) (f.takes a b h (looser_less m n le b q)))

pub take_none : {ws : List What} {n m : ℕ} {F : Tokens → Tokens → Type 0} {a : Tokens} → Shape ws n F → from m ws ≡ true → NotAmong ws (first_kind a) → IsTaken (Looser m) (Maybe F) a a
take_none {ws} {a = a} f u not = taken_none (tight ws f.begins u) (not_among ws (first_kind a) not)

pub take_some : {ws : List What} {n m : ℕ} {F : Tokens → Tokens → Type 0} {a b : Tokens} → Shape ws n F → from m ws ≡ true → IsTaken (Looser m) F a b → IsTaken (Looser m) (Maybe F) a b
take_some {ws} f u h = taken_some (tight ws f.begins u) h

pub stop_some : {ws : List What} {n m : ℕ} {F : Tokens → Tokens → Type 0} {a r : Tokens} {e : SyntaxFault} → Shape ws n F → from m ws ≡ true → Among ws (first_kind a) → Stops (Looser m) F a r e → Stops (Looser m) (Maybe F) a r e
stop_some {ws} f u here h = stops_some (tight ws f.begins u) here h

-- ---- one again and again

-- a form that is read again and again: what goes on less tightly than m ends it
pub record Loops (ws : List What) (n m : ℕ) (G : Tokens → Tokens → Type 0) : Type 0 where
  pub one : Shape ws n G
  pub begun : from m ws ≡ true
  pub calm : under n ws ≡ true
  pub less : ltb m (n + 1) ≡ true

opens : {ws : List What} {n m : ℕ} {G : Tokens → Tokens → Type 0} → Loops ws n m G → Opens (Among ws) (Looser m) G
opens {ws} l = tight ws l.one.begins l.begun

follows : {ws : List What} {n m : ℕ} {G : Tokens → Tokens → Type 0} → Loops ws n m G → Follows (Looser n) (Looser m) (Star G)
follows {ws} {n} {m} {G} l = go
  where
    go : (b c : Tokens) → Looser m c → Star G b c → Looser n b
    go b c q None = looser_less m n l.less b q
    go b c q (More {b = d} g s) = among_under n ws b l.calm (l.one.begins b d g)

pub loop_first : {ws : List What} {n m : ℕ} {F G : Tokens → Tokens → Type 0} {a b : Tokens} → Loops ws n m G → IsTaken (Looser n) F a b → Through (Looser m) F G a b
loop_first l f = through_before (follows l) f

pub loop_more : {ws : List What} {n m : ℕ} {F G : Tokens → Tokens → Type 0} {a b c : Tokens} → Loops ws n m G → Through (Looser m) F G a b → IsTaken (Looser n) G b c → Through (Looser m) F G a c
loop_more l f g = through_on (opens l) (follows l) f g

pub loop_taken : {ws : List What} {n m : ℕ} {F G : Tokens → Tokens → Type 0} {a b : Tokens} → Loops ws n m G → Through (Looser m) F G a b → NotAmong ws (first_kind b) → IsTaken (Looser m) (Seq F (Star G)) a b
loop_taken {ws} {b = b} l f not = taken_loop (opens l) f (not_among ws (first_kind b) not)

pub loop_stops : {ws : List What} {n m : ℕ} {F G : Tokens → Tokens → Type 0} {a b r : Tokens} {e : SyntaxFault} → Loops ws n m G → Through (Looser m) F G a b → Among ws (first_kind b) → Stops (Looser n) G b r e
    → Stops (Looser m) (Seq F (Star G)) a r e
loop_stops l f here g = stops_loop_on (opens l) (follows l) f here g

-- where the form before it stops
pub loop_now : {ws : List What} {n m : ℕ} {F G : Tokens → Tokens → Type 0} {a r : Tokens} {e : SyntaxFault} → Loops ws n m G → Stops (Looser n) F a r e → Stops (Looser m) (Seq F (Star G)) a r e
loop_now l h = stops_first (follows l) h (record { more = []; lexed = tt; reads = λ rest p. None })

-- what was read up to a further one, where each is taken whatever stands behind it
pub through_all : {ws : List What} {m : ℕ} {F G : Tokens → Tokens → Type 0} {a b c : Tokens} → Loops ws 10 m G → Through (Looser m) F G a b → Star G b c → Through (Looser m) F G a c
through_all l t None = t
through_all l t (More {a = x} {b = y} g s) = through_all l (loop_more l t (l.one.takes x y g (tier_top y))) s

-- up to its end
star_takes : {ws : List What} {n m : ℕ} {F G : Tokens → Tokens → Type 0} {a b c : Tokens} → Loops ws n m G → Through (Looser m) F G a b → Star G b c → Looser m c → IsTaken (Looser m) (Seq F (Star G)) a c
star_takes {c = c} l t None q = taken_loop (opens l) t ((opens l).closes _ q)
star_takes {c = c} l t (More {a = x} {b = y} g s) q = star_takes l (loop_more l t (l.one.takes x y g (follows l y c q s))) s q

pub star : {ws : List What} {n m : ℕ} {G : Tokens → Tokens → Type 0} → Loops ws n m G → Loose ws m (Star G)
star {ws} {n} {m} {G} l = record {
  begins = λ a b s. begins s;
  can = record { more = []; lexed = tt; reads = λ rest p. None };
  takes = λ a b s q. taken_many (star_takes l through_none s q);
}
  where
    begins : {a b : Tokens} → Star G a b → (b ≡ a) ⊎ Among ws (first_kind a)
    begins None = inl refl
    begins (More g s) = inr (l.one.begins _ _ g)
