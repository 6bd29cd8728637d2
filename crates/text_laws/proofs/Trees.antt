-- A text has one list of tokens and one tree, or one place where it has none.
use Rattle.std.proofs.Common.{◌≡◌, inl, inr, ℕ, ◌<◌, true, false, List, length, sym, ◌∙◌, subst, arith}
use Rattle.std.specs.Prelude.{slice_index}
use Rattle.std.proofs.lemmas.Bool.{cases_lt}
use Rattle.fdl_lexer.specs.Bytes.{is_allowed}
use Rattle.fdl_lexer.specs.Tokens.{AreTokens, AreAllowed, IsFirstBad, IsStuckAt}
use Rattle.fdl_lexer.specs.declared.kinds.Token.{Token}
use Rattle.fdl_lexer.proofs.SameScan.{one_scan, tokens_done, stuck_done}
use Rattle.fdl_parser.specs.Items.{IsTree}
use Rattle.fdl_parser.specs.Tokens.{spell}
use Rattle.fdl_parser.proofs.SameItems.{trees_are_one}
use Rattle.flow_model.specs.declared.trees.Tree.{Tree}
use Rattle.template_check.specs.Compiling.{HasTree}

-- ---- tokens

pub tokens_one : (text : List ℕ) (ts us : List Token) → AreTokens text ts → AreTokens text us → ts ≡ us
tokens_one text ts us t u =
    (one_scan text 0 ts us t.end u.end (length text) (length text) t.scanned u.scanned (tokens_done text ts t)
    (tokens_done text us u)).0

pub never_stuck : (text : List ℕ) (ts : List Token) (place : ℕ) → AreTokens text ts → IsStuckAt text place → ⊥
never_stuck text ts place t s =
    let same = (one_scan text 0 ts s.tokens t.end s.end (length text) place t.scanned s.scanned
    (tokens_done text ts t) (stuck_done text place s)).1 in
    let within = s.within in
    omega arith

pub stuck_one : (text : List ℕ) (p q : ℕ) → IsStuckAt text p → IsStuckAt text q → p ≡ q
stuck_one text p q s t =
    (one_scan text 0 s.tokens t.tokens s.end t.end p q s.scanned t.scanned (stuck_done text p s)
    (stuck_done text q t)).1

pub never_bad : (text : List ℕ) (place : ℕ) → AreAllowed text → IsFirstBad text place → ⊥
never_bad text place allowed bad =
    let good : is_allowed (slice_index text place) ≡ true = allowed place 0 bad.within in
    let e : true ≡ false = sym good ∙ bad.here in
    cc

bad_before : (text : List ℕ) (p q : ℕ) → IsFirstBad text p → IsFirstBad text q → p < q → ⊥
bad_before text p q h j less = let e : true ≡ false = sym (j.before p less) ∙ h.here in cc

pub bad_one : (text : List ℕ) (p q : ℕ) → IsFirstBad text p → IsFirstBad text q → p ≡ q
bad_one text p q h j = elim (cases_lt p q) [
  | inl less ↦ absurd (bad_before text p q h j less)
  | inr le ↦ elim (cases_lt q p) [
    | inl less ↦ absurd (bad_before text q p j h less)
    | inr le' ↦ omega arith
  ]
]

-- ---- trees

pub tree_one : (text : List ℕ) (t u : Tree) → HasTree text t → HasTree text u → t ≡ u
tree_one text t u h j =
    trees_are_one text j.tokens t u j.scanned
    (subst (λ (ts : List Token). IsTree t (spell text ts)) (tokens_one text h.tokens j.tokens h.scanned j.scanned) h.parsed)
    j.parsed
