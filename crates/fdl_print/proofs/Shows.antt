-- What a part of the grammar shows: wherever the tokens of its pieces come, the part is read again.
use Rattle.std.proofs.Common.{◌≡◌, ℕ, ◌-◌, ◌^◌, ◌<◌, true, false, is_some, Some, None, List, [], ◌∷◌, ◌++◌, length, take, drop, eqb, refl, sym, ap, ◌∙◌, subst, arith, append-nil, length-append, flat_map, if◌then◌else◌}
use Rattle.std.proofs.lemmas.List.{take_at, flat_map_more}
use Rattle.flow_model.specs.Words.{is_name, is_text}
use Rattle.flow_model.specs.declared.trees.NameAt.{NameAt}
use Rattle.flow_model.specs.declared.trees.NumberAt.{NumberAt}
use Rattle.flow_model.specs.declared.trees.StepTree.{StepTree}
use Rattle.flow_model.specs.declared.trees.StepTree.TheVariants as step
use Rattle.flow_model.specs.declared.trees.LeafAt.{LeafAt}
use Rattle.flow_table.specs.declared.keyword.Keyword.{Keyword}
use Rattle.flow_text.specs.Spelling.{text_in_quotes, doubled as doubled_text}
use Rattle.fdl_lexer.specs.Bytes.{single_quoted, double_quoted, doubled}
use Rattle.fdl_lexer.specs.Tokens.{Spells, Scans, AreTokens}
use Rattle.fdl_lexer.specs.declared.kinds.What.{What}
use Rattle.fdl_lexer.specs.declared.kinds.What.TheVariants.{Word, Name, Rc, Item, Number, Text, Mark}
use Rattle.fdl_lexer.specs.declared.kinds.Token.{Token as Placed}
use Rattle.fdl_lexer.proofs.Doubled.{split, too_long}
use Rattle.fdl_parser.specs.Tokens.{Spelled, Tokens, spell, IsToken, IsName, IsQuote, IsNumber, IsSigned, Unsigned, Negative, IsFirstStep, RcFirst, NameFirst, IsNextStep, MemberNext, PlaceNext, IsLeaf, FirstStep, MoreSteps}
use Rattle.fdl_print.specs.Pieces.{Piece, Token, Stop, word, name, quoted, digits}
use Rattle.fdl_print.specs.Parts.{number_pieces, first_step, later_step, steps_pieces, leaf_pieces}
use Rattle.fdl_print.specs.Same.{Each, NoneLeft, OneMore, SameName, SameNumber, SameLeaf}
use Rattle.fdl_print.proofs.Fine.{IsFine, fine_word, fine_number, fine_name, fine_text, fine_rc, fine_dot, fine_open_bracket, fine_close_bracket, fine_minus}
use Rattle.fdl_print.proofs.Laid.{Said, Says, NoPiece, OneToken, OneStop, Fits}

-- ---- what the lexer promises of a token

-- a number isn't too large, and the bytes of names and texts are so in quotes
abbrev pub IsSound : What → List ℕ → Type 0
IsSound (Number value) bytes = value < 2 ^ 64
IsSound Name bytes = (value : List ℕ) × (bytes ≡ single_quoted value) × (is_name value ≡ true)
IsSound Text bytes = (value : List ℕ) × (bytes ≡ double_quoted value) × (is_text value ≡ true)
IsSound _ bytes = Unit {0}

-- so is each token of a row
abbrev pub AreSound : Tokens → Type 0
AreSound [] = Unit {0}
AreSound (t ∷ ts) = IsSound t.kind t.bytes × AreSound ts

spells_sound : (w : What) (n : ℕ) (bytes : List ℕ) → Spells w n bytes → IsSound w (take n bytes)
spells_sound Name n bytes s = (s.0, s.2.0, s.1)
spells_sound Text n bytes s = (s.0, s.2.0, s.1)
spells_sound (Number v) n bytes s = let e = s.4 in omega arith
spells_sound (Word w) n bytes s = tt
spells_sound Rc n bytes s = tt
spells_sound Item n bytes s = tt
spells_sound (Mark m) n bytes s = tt

scans_sound : (text : List ℕ) (at : ℕ) (ts : List Placed) (end : ℕ) → Scans text at ts end → AreSound (spell text ts)
scans_sound text at [] end s = tt
scans_sound text at (t ∷ ts) end s = (spells_sound t.what (t.to - t.from) (drop t.from text) s.0.spelled, scans_sound text t.to ts end s.1)

pub tokens_sound : (text : List ℕ) (ts : List Placed) → AreTokens text ts → AreSound (spell text ts)
tokens_sound text ts a = scans_sound text 0 ts a.end a.scanned

-- ---- forms of tokens

-- these pieces are tokens that are read so wherever they come
pub record Shown (pieces : List Piece) (form : Tokens → Tokens → Type 0) (after : Tokens) : Type 0 where
  pub said : List Said
  pub says : Says pieces said
  pub reads : (a b : Tokens) → Fits said a b → form a b
  pub rest : AreSound after

-- they are, where the tokens that were read are the lexer's
pub record Shows (pieces : List Piece) (form : Tokens → Tokens → Type 0) (before after : Tokens) : Type 0 where
  pub shown : AreSound before → Shown pieces form after

-- one form behind another
pub record Then (F G : Tokens → Tokens → Type 0) (a c : Tokens) : Type 0 where
  pub mid : Tokens
  pub first : F a mid
  pub second : G mid c

says_append : {p q : List Piece} {s t : List Said} → Says p s → Says q t → Says (p ++ q) (s ++ t)
says_append NoPiece says = says
says_append (OneToken fine more) says = OneToken fine (says_append more says)
says_append (OneStop more) says = OneStop (says_append more says)

says_stop : {p : List Piece} {s : List Said} → Says p s → Says (p ++ Stop ∷ []) s
says_stop NoPiece = OneStop NoPiece
says_stop (OneToken fine more) = OneToken fine (says_stop more)
says_stop (OneStop more) = OneStop (says_stop more)

fits_split : (s t : List Said) (a c : Tokens) → Fits (s ++ t) a c → (b : Tokens) × Fits s a b × Fits t b c
fits_split [] t a c fits = (a, refl, fits)
fits_split (x ∷ s) t a c fits =
    let r = fits_split s t fits.1 c fits.3 in
    (r.0, (fits.0, fits.1, fits.2, r.1), r.2)

pub chain : {p q : List Piece} {F G : Tokens → Tokens → Type 0} {a b c : Tokens} → Shows p F a b → Shows q G b c → Shows (p ++ q) (Then F G) a c
chain f g = record {
  shown = λ s.
      let x = f.shown s in
      let y = g.shown x.rest in
      record {
        said = x.said ++ y.said;
        says = says_append x.says y.says;
        reads = λ a c fits. let r = fits_split x.said y.said a c fits in record { mid = r.0; first = x.reads a r.0 r.1; second = y.reads r.0 c r.2 };
        rest = y.rest;
      };
}

-- read so, it is read in another way
pub so : {p : List Piece} {F G : Tokens → Tokens → Type 0} {a b : Tokens} → ((x y : Tokens) → F x y → G x y) → Shows p F a b → Shows p G a b
so turn f = record { shown = λ s. let x = f.shown s in record { said = x.said; says = x.says; reads = λ a b fits. turn a b (x.reads a b fits); rest = x.rest } }

-- the same pieces
pub by : {p q : List Piece} {F : Tokens → Tokens → Type 0} {a b : Tokens} → p ≡ q → Shows p F a b → Shows q F a b
by {p} {q} {F} {a} {b} e f = subst (λ (pieces : List Piece). Shows pieces F a b) e f

-- nothing
pub nothing_shows : {a : Tokens} → Shows [] (λ x y. x ≡ y) a a
nothing_shows = record { shown = λ s. record { said = []; says = NoPiece; reads = λ x y e. e; rest = s } }

-- with the end of a line behind, and before
pub line : {p : List Piece} {F : Tokens → Tokens → Type 0} {a b : Tokens} → Shows p F a b → Shows (p ++ Stop ∷ []) F a b
line f = record { shown = λ s. let x = f.shown s in record { said = x.said; says = says_stop x.says; reads = x.reads; rest = x.rest } }

pub stop_first : {p : List Piece} {F : Tokens → Tokens → Type 0} {a b : Tokens} → Shows p F a b → Shows (Stop ∷ p) F a b
stop_first f = record { shown = λ s. let x = f.shown s in record { said = x.said; says = OneStop x.says; reads = x.reads; rest = x.rest } }

-- read again: another tree of the form, the same but for places
pub record Again (A : Type 0) (R : A → A → Type 0) (Is : A → Tokens → Tokens → Type 0) (x : A) (a b : Tokens) : Type 0 where
  pub tree : A
  pub is : Is tree a b
  pub same : R x tree

-- ---- lists

pub each_push : {A : Type 0} {R : A → A → Type 0} {xs ys : List A} {x y : A} → Each A R xs ys → R x y → Each A R (xs ++ x ∷ []) (ys ++ y ∷ [])
each_push NoneLeft h = OneMore h NoneLeft
each_push (OneMore j k) h = OneMore j (each_push k h)

pub none_shows : {A : Type 0} {R : A → A → Type 0} {L : List A → Tokens → Tokens → Type 0} {a : Tokens} → ((b : Tokens) → L [] b b) → Shows [] (Again (List A) (Each A R) L []) a a
none_shows {A} {R} {L} none = record { shown = λ s. record { said = []; says = NoPiece; reads = λ x y e. record { tree = []; is = subst (λ (z : Tokens). L [] x z) e (none x); same = NoneLeft }; rest = s } }

pub more_shows : {A : Type 0} {R : A → A → Type 0} {N : A → Tokens → Tokens → Type 0} {L : List A → Tokens → Tokens → Type 0} {p q : List Piece} {xs : List A} {x : A} {a b c : Tokens}
    → ((ys : List A) (y : A) (u v w : Tokens) → L ys u v → N y v w → L (ys ++ y ∷ []) u w)
    → Shows p (Again (List A) (Each A R) L xs) a b → Shows q (Again A R N x) b c → Shows (p ++ q) (Again (List A) (Each A R) L (xs ++ x ∷ [])) a c
more_shows more f g = so (λ u w t. record { tree = t.first.tree ++ t.second.tree ∷ []; is = more t.first.tree t.second.tree u t.mid w t.first.is t.second.is; same = each_push t.first.same t.second.same }) (chain f g)

-- one more element of a list whose elements stand one behind the other
pub flat_shows : {A : Type 0} {R : A → A → Type 0} {N : A → Tokens → Tokens → Type 0} {L : List A → Tokens → Tokens → Type 0} {xs : List A} {x : A} {a b c : Tokens} (f : A → List Piece)
    → ((ys : List A) (y : A) (u v w : Tokens) → L ys u v → N y v w → L (ys ++ y ∷ []) u w)
    → Shows (flat_map f xs) (Again (List A) (Each A R) L xs) a b → Shows (f x) (Again A R N x) b c → Shows (flat_map f (xs ++ x ∷ [])) (Again (List A) (Each A R) L (xs ++ x ∷ [])) a c
flat_shows {xs = xs} {x = x} f more h j = by (flat_map_more f [] xs x) (more_shows more h j)

-- the first element in one way, and one more later one
pub more_later : {X : Type 0} (f g : X → List Piece) (whole : List X → List Piece) → ((x : X) (xs : List X) → whole (x ∷ xs) ≡ f x ++ flat_map g xs)
    → (xs : List X) (x : X) → 0 < length xs → whole xs ++ g x ≡ whole (xs ++ x ∷ [])
more_later f g whole is [] x some = absurd (omega arith)
more_later f g whole is (y ∷ ys) x some = ap (λ (ps : List Piece). ps ++ g x) (is y ys) ∙ flat_map_more g (f y) ys x ∙ sym (is y (ys ++ x ∷ []))

-- ---- tokens

-- a token of this kind, at some place
pub record TokenAt (kind : What) (a b : Tokens) : Type 0 where
  pub place : ℕ
  pub is : IsToken kind place a b

token : ℕ → What → List ℕ → Spelled
token p k bs = record { kind = k; place = p; bytes = bs }

pub first_sound : {kind : What} {p : ℕ} {a b : Tokens} → (h : IsToken kind p a b) → AreSound a → IsSound kind h.bytes
first_sound h s = let q = subst AreSound h.first s in q.0

pub behind_sound : {kind : What} {p : ℕ} {a b : Tokens} → IsToken kind p a b → AreSound a → AreSound b
behind_sound h s = let q = subst AreSound h.first s in q.1

pub token_shows : {kind : What} {bytes : List ℕ} {p : ℕ} {a b : Tokens} → IsFine kind bytes → IsToken kind p a b → Shows (Token bytes ∷ []) (TokenAt kind) a b
token_shows {kind} {bytes} fine h = record {
  shown = λ s. record {
    said = record { kind = kind; bytes = bytes } ∷ [];
    says = OneToken fine NoPiece;
    reads = λ x y fits. record { place = fits.0; is = record { bytes = bytes; first = fits.2 ∙ ap (λ (r : Tokens). record { kind = kind; place = fits.0; bytes = bytes } ∷ r) fits.3 } };
    rest = behind_sound h s;
  };
}

pub word_shows : {keyword : Keyword} {p : ℕ} {a b : Tokens} → IsToken (Word keyword) p a b → Shows (word keyword ∷ []) (TokenAt (Word keyword)) a b
word_shows {keyword} h = token_shows (fine_word keyword) h

-- ---- names, texts, numbers

single_injective : (v w : List ℕ) → single_quoted v ≡ single_quoted w → v ≡ w
single_injective v w e =
    let f : v ++ 39 ∷ [] ≡ w ++ 39 ∷ [] = ap (λ (bs : List ℕ). drop 1 bs) e in
    let size : length v ≡ length w = omega (arith, ap length f, length-append v (39 ∷ []), length-append w (39 ∷ [])) in
    sym (take_at v (39 ∷ []) (length v) refl) ∙ ap (λ (bs : List ℕ). take (length v) bs) f ∙ take_at w (39 ∷ []) (length v) (sym size)

nothing_left : (left : List ℕ) → 34 ∷ [] ≡ doubled left ++ 34 ∷ [] → left ≡ []
nothing_left [] e = refl
nothing_left (x ∷ xs) e = absurd (too_long x xs (34 ∷ []) [] (eqb x 34) refl (sym e) (λ z. omega arith))

double_injective : (v w : List ℕ) → double_quoted v ≡ double_quoted w → v ≡ w
double_injective v w e =
    let f : doubled v ++ 34 ∷ [] ≡ doubled w ++ 34 ∷ [] = ap (λ (bs : List ℕ). drop 1 bs) e in
    let s = split v (34 ∷ []) w [] f (λ z. omega arith) in
    sym (s.1 ∙ ap (λ (left : List ℕ). v ++ left) (nothing_left s.0 s.2) ∙ append-nil v)

pub name_shows : {n : NameAt} {a b : Tokens} → IsName n a b → Shows (name n.name ∷ []) (Again NameAt SameName IsName n) a b
name_shows {n} h = record {
  shown = λ s.
      let q = subst AreSound h.first s in
      let value : is_name n.name ≡ true = ap is_name (h.inside q.0.0 q.0.1) ∙ q.0.2 in
      record {
        said = record { kind = Name; bytes = single_quoted n.name } ∷ [];
        says = OneToken (fine_name n.name value) NoPiece;
        reads = λ x y fits. record {
          tree = record { name = n.name; place = fits.0 };
          is = record {
            bytes = single_quoted n.name;
            first = fits.2 ∙ ap (λ (r : Tokens). record { kind = Name; place = fits.0; bytes = single_quoted n.name } ∷ r) fits.3;
            inside = λ w e. single_injective n.name w e;
          };
          same = refl;
        };
        rest = q.1;
      };
}

-- this text, at some place
pub record QuoteAt (value : List ℕ) (a b : Tokens) : Type 0 where
  pub place : ℕ
  pub is : IsQuote value place a b

doubled_same : (bytes : List ℕ) → doubled bytes ≡ doubled_text bytes
doubled_same [] = refl
doubled_same (b ∷ bytes) =
    let rest = doubled_same bytes in
    elim (eqb b 34) as (λ t. (if t then 34 ∷ 34 ∷ doubled bytes else b ∷ doubled bytes) ≡ (if t then 34 ∷ 34 ∷ [] else b ∷ []) ++ doubled_text bytes) [
      | true ↦ ap (λ (bs : List ℕ). 34 ∷ 34 ∷ bs) rest
      | false ↦ ap (λ (bs : List ℕ). b ∷ bs) rest
    ]

quoted_same : (bytes : List ℕ) → double_quoted bytes ≡ text_in_quotes bytes
quoted_same bytes = ap (λ (bs : List ℕ). 34 ∷ (bs ++ 34 ∷ [])) (doubled_same bytes)

pub quote_shows : {v : List ℕ} {p : ℕ} {a b : Tokens} → IsQuote v p a b → Shows (quoted v ∷ []) (QuoteAt v) a b
quote_shows {v} h = by (ap (λ (bs : List ℕ). Token bs ∷ []) (quoted_same v)) (record {
  shown = λ s.
      let q = subst AreSound h.first s in
      let value : is_text v ≡ true = ap is_text (h.inside q.0.0 q.0.1) ∙ q.0.2 in
      record {
        said = record { kind = Text; bytes = double_quoted v } ∷ [];
        says = OneToken (fine_text v value) NoPiece;
        reads = λ x y fits. record {
          place = fits.0;
          is = record {
            bytes = double_quoted v;
            first = fits.2 ∙ ap (λ (r : Tokens). record { kind = Text; place = fits.0; bytes = double_quoted v } ∷ r) fits.3;
            inside = λ w e. double_injective v w e;
          };
        };
        rest = q.1;
      };
})

size_shows : {n : NumberAt} {a b : Tokens} → IsNumber n a b → Shows (digits n.size ∷ []) (TokenAt (Number n.size)) a b
size_shows {n} h = record { shown = λ s. let t = token_shows (fine_number n.size (first_sound h.first s)) h.first in t.shown s }

-- a number without a sign
pub number_shows : {n : NumberAt} {a b : Tokens} → IsNumber n a b → Shows (number_pieces n) (Again NumberAt SameNumber IsNumber n) a b
number_shows {n} h =
    by (rw (h.unsigned) refl)
    (so (λ x y t. record { tree = record { minus = None; size = n.size; place = t.place }; is = record { unsigned = refl; first = t.is }; same = record { sign = ap is_some h.unsigned; size = refl } }) (size_shows h))

pub signed_shows : {n : NumberAt} {a b : Tokens} → IsSigned n a b → Shows (number_pieces n) (Again NumberAt SameNumber IsSigned n) a b
signed_shows (Unsigned h) = so (λ x y t. record { tree = t.tree; is = Unsigned t.is; same = t.same }) (number_shows h)
signed_shows (Negative {n = n} m h) =
    so (λ x y t. record {
      tree = record { minus = Some t.first.place; size = n.size; place = t.second.place };
      is = Negative {n = record { minus = None; size = n.size; place = t.second.place }} t.first.is (record { unsigned = refl; first = t.second.is });
      same = record { sign = refl; size = refl };
    }) (chain (token_shows fine_minus m) (size_shows h))

-- ---- leaves

-- this first step, at some place
pub record FirstAt (step : StepTree) (a b : Tokens) : Type 0 where
  pub place : ℕ
  pub is : IsFirstStep step place a b

first_shows : {step : StepTree} {p : ℕ} {a b : Tokens} → IsFirstStep step p a b → Shows (first_step step) (FirstAt step) a b
first_shows (RcFirst h) = so (λ x y t. record { place = t.place; is = RcFirst t.is }) (token_shows fine_rc h)
first_shows (NameFirst {n = n} h) = so (λ x y t. record { place = t.tree.place; is = subst (λ (v : List ℕ). IsFirstStep (step.Member v) t.tree.place x y) (sym t.same) (NameFirst t.is) }) (name_shows h)

next_shows : {step : StepTree} {a b : Tokens} → IsNextStep step a b → Shows (later_step step) (IsNextStep step) a b
next_shows (MemberNext {n = n} h j) =
    so (λ x y t. subst (λ (v : List ℕ). IsNextStep (step.Member v) x y) (sym t.second.same) (MemberNext t.first.is t.second.is)) (chain (token_shows fine_dot h) (name_shows j))
next_shows (PlaceNext {n = n} h j k) =
    so (λ x y t. PlaceNext {n = record { minus = None; size = n.size; place = t.second.first.place }} t.first.is (record { unsigned = refl; first = t.second.first.is }) t.second.second.is)
    (chain (token_shows fine_open_bracket h) (chain (size_shows j) (token_shows fine_close_bracket k)))

-- a leaf of these steps, at some place
pub record LeafOf (steps : List StepTree) (a b : Tokens) : Type 0 where
  pub place : ℕ
  pub is : IsLeaf (record { steps = steps; place = place }) a b

leaf_some : {l : LeafAt} {a b : Tokens} → IsLeaf l a b → 0 < length l.steps
leaf_some (FirstStep h) = omega arith
leaf_some (MoreSteps {steps = steps} {s = s} h j) = omega (arith, length-append steps (s ∷ []))

steps_shows : {l : LeafAt} {a b : Tokens} → IsLeaf l a b → Shows (leaf_pieces l) (LeafOf l.steps) a b
steps_shows (FirstStep {s = s} h) = by (sym (append-nil (first_step s))) (so (λ x y t. record { place = t.place; is = FirstStep t.is }) (first_shows h))
steps_shows (MoreSteps {steps = steps} {s = s} h j) =
    by (more_later first_step later_step steps_pieces (λ x xs. refl) steps s (leaf_some h))
    (so (λ x y t. record { place = t.first.place; is = MoreSteps t.first.is t.second }) (chain (steps_shows h) (next_shows j)))

pub leaf_shows : {l : LeafAt} {a b : Tokens} → IsLeaf l a b → Shows (leaf_pieces l) (Again LeafAt SameLeaf IsLeaf l) a b
leaf_shows {l} h = so (λ x y t. record { tree = record { steps = l.steps; place = t.place }; is = t.is; same = refl }) (steps_shows h)
