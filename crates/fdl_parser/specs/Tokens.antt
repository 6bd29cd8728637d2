-- The tokens as the grammar sees them, and the parts that one or two of them make.
use Rattle.std.specs.Prelude.{◌≡◌, ℕ, List, [], ◌∷◌, ◌++◌, map, slice_range, Some, None, Option, length, min}
use Rattle.flow_table.specs.declared.keyword.Keyword.{Keyword}
use Rattle.fdl_lexer.specs.Bytes.{single_quoted, double_quoted}
use Rattle.fdl_lexer.specs.declared.kinds.Mark.{Mark}
use Rattle.fdl_lexer.specs.declared.kinds.Mark.TheVariants as mark
use Rattle.fdl_lexer.specs.declared.kinds.Token.{Token}
use Rattle.fdl_lexer.specs.declared.kinds.What.{What}
use Rattle.fdl_lexer.specs.declared.kinds.What.TheVariants as what
use Rattle.flow_model.specs.declared.trees.NameAt.{NameAt}
use Rattle.flow_model.specs.declared.trees.NumberAt.{NumberAt}
use Rattle.flow_model.specs.declared.trees.StepTree.{StepTree}
use Rattle.flow_model.specs.declared.trees.StepTree.TheVariants as step
use Rattle.flow_model.specs.declared.trees.LeafAt.{LeafAt}

-- a token: what it is, where it begins, and its bytes
pub record Spelled : Type 0 where
  pub kind : What
  pub place : ℕ
  pub bytes : List ℕ

-- tokens in a row
abbrev pub Tokens : Type 0
Tokens = List Spelled

-- a token with its bytes
abbrev pub spelled : List ℕ → Token → Spelled
spelled text t = record { kind = t.what; place = t.from; bytes = slice_range text t.from t.to }

-- the tokens of a text with their bytes
abbrev pub spell : List ℕ → List Token → Tokens
spell text tokens = map (spelled text) tokens

-- the tokens that are left to read, and the place where the text ends
pub record Reading : Type 0 where
  pub left : Tokens
  pub end : ℕ

-- a text before it is read; a place is below 2 ^ 32
abbrev pub reading : List ℕ → List Token → Reading
reading text tokens = record { left = spell text tokens; end = min (length text) 4294967295 }

-- the place of the next token, or of the text's end
abbrev pub place_in : Tokens → ℕ → ℕ
place_in [] end = end
place_in (t ∷ ts) end = t.place

-- the second is what is left of the first, some tokens on
pub data IsRest (all : Reading) : Tokens → ℕ → Type 0 where
  Unread : IsRest all all.left all.end
  Less : {t : Spelled} {ts : Tokens} {end : ℕ} → IsRest all (t ∷ ts) end → IsRest all ts end

-- what is left in the second is left in the first, too, some tokens on
abbrev pub StaysWithin : Reading → Reading → Type 0
StaysWithin before after = (all : Reading) → IsRest all before.left before.end → IsRest all after.left after.end

-- what the first token is
abbrev pub first_kind : Tokens → Option What
first_kind [] = None
first_kind (t ∷ ts) = Some t.kind

-- this token comes first, at this place, and the second row is left behind it
pub record IsToken (kind : What) (place : ℕ) (before after : Tokens) : Type 0 where
  pub bytes : List ℕ
  pub first : before ≡ record { kind = kind; place = place; bytes = bytes } ∷ after

-- a token of this kind and these bytes comes first
abbrev pub HasBytes : What → List ℕ → Tokens → Type 0
HasBytes kind bytes [] = ⊥
HasBytes kind bytes (t ∷ ts) = (t.kind ≡ kind) × (t.bytes ≡ bytes)

-- this word comes first
abbrev pub IsWord : Keyword → ℕ → Tokens → Tokens → Type 0
IsWord word place before after = IsToken (what.Word word) place before after

-- this mark comes first
abbrev pub IsMark : Mark → ℕ → Tokens → Tokens → Type 0
IsMark mark place before after = IsToken (what.Mark mark) place before after

-- this name comes first: what its quotes hold
pub record IsName (name : NameAt) (before after : Tokens) : Type 0 where
  pub bytes : List ℕ
  pub first : before ≡ record { kind = what.Name; place = name.place; bytes = bytes } ∷ after
  pub inside : (value : List ℕ) → bytes ≡ single_quoted value → name.name ≡ value

-- this text in quotes comes first, at this place
pub record IsQuote (value : List ℕ) (place : ℕ) (before after : Tokens) : Type 0 where
  pub bytes : List ℕ
  pub first : before ≡ record { kind = what.Text; place = place; bytes = bytes } ∷ after
  pub inside : (inner : List ℕ) → bytes ≡ double_quoted inner → value ≡ inner

-- an item of these bytes comes first
pub record IsItemToken (bytes : List ℕ) (before after : Tokens) : Type 0 where
  pub place : ℕ
  pub first : before ≡ record { kind = what.Item; place = place; bytes = bytes } ∷ after

-- this number comes first, without a sign
pub record IsNumber (number : NumberAt) (before after : Tokens) : Type 0 where
  pub unsigned : number.minus ≡ None
  pub first : IsToken (what.Number number.size) number.place before after

-- this number comes first, with a sign or without: [-] number
pub data IsSigned : NumberAt → Tokens → Tokens → Type 0 where
  Unsigned : {n : NumberAt} {a b : Tokens} → IsNumber n a b → IsSigned n a b
  Negative : {n : NumberAt} {p : ℕ} {a b c : Tokens} → IsMark mark.Minus p a b → IsNumber n b c
      → IsSigned (record { minus = Some p; size = n.size; place = n.place }) a c

-- a leaf's first step, at this place: name | '_RC'
pub data IsFirstStep : StepTree → ℕ → Tokens → Tokens → Type 0 where
  RcFirst : {p : ℕ} {a b : Tokens} → IsToken what.Rc p a b → IsFirstStep step.Rc p a b
  NameFirst : {n : NameAt} {a b : Tokens} → IsName n a b → IsFirstStep (step.Member n.name) n.place a b

-- a leaf's next step: . name | [ number ]
pub data IsNextStep : StepTree → Tokens → Tokens → Type 0 where
  MemberNext : {n : NameAt} {p : ℕ} {a b c : Tokens} → IsMark mark.Dot p a b → IsName n b c
      → IsNextStep (step.Member n.name) a c
  PlaceNext : {n : NumberAt} {p q : ℕ} {a b c d : Tokens} → IsMark mark.OpenBracket p a b → IsNumber n b c
      → IsMark mark.CloseBracket q c d → IsNextStep (step.Place n.size) a d

-- a leaf: first step (next step)*
pub data IsLeaf : LeafAt → Tokens → Tokens → Type 0 where
  FirstStep : {s : StepTree} {p : ℕ} {a b : Tokens} → IsFirstStep s p a b
      → IsLeaf (record { steps = s ∷ []; place = p }) a b
  MoreSteps : {steps : List StepTree} {s : StepTree} {p : ℕ} {a b c : Tokens}
      → IsLeaf (record { steps = steps; place = p }) a b → IsNextStep s b c
      → IsLeaf (record { steps = steps ++ s ∷ []; place = p }) a c
