-- Pieces that are well spelled lex to one token each.
use Rattle.std.proofs.Common.{◌≡◌, ℕ, ◌+◌, ◌-◌, ◌≤◌, Bool, true, false, List, [], ◌∷◌, ◌++◌, length, take, drop, slice_range, refl, sym, ap, ◌∙◌, subst, arith, append-nil, append_assoc, length-append}
use Rattle.std.specs.List.{list_all}
use Rattle.std.proofs.lemmas.List.{take_at, drop_at}
use Rattle.std.proofs.lemmas.List.Folds.{list_all-append}
use Rattle.std.proofs.lemmas.List.Sums.{AllPass-from_list_all}
use Rattle.fdl_lexer.specs.Bytes.{is_allowed}
use Rattle.fdl_lexer.specs.Gaps.{IsGap, Nothing, Blank, Comment}
use Rattle.fdl_lexer.specs.Tokens.{AreTokens, Scans, IsNext}
use Rattle.fdl_lexer.specs.declared.kinds.What.{What}
use Rattle.fdl_lexer.specs.declared.kinds.Token.{Token as Placed}
use Rattle.fdl_parser.specs.Tokens.{Tokens, spell}
use Rattle.fdl_print.specs.Pieces.{Piece, Token, Stop, text}
use Rattle.fdl_print.proofs.Fine.{Ends, AtEnd, AtBlank, AtFeed, IsFine}

-- a token without its place
pub record Said : Type 0 where
  pub kind : What
  pub bytes : List ℕ

-- the pieces are these tokens, each well spelled
pub data Says : List Piece → List Said → Type 0 where
  NoPiece : Says [] []
  OneToken : {kind : What} {bytes : List ℕ} {pieces : List Piece} {said : List Said} → IsFine kind bytes → Says pieces said → Says (Token bytes ∷ pieces) (record { kind = kind; bytes = bytes } ∷ said)
  OneStop : {pieces : List Piece} {said : List Said} → Says pieces said → Says (Stop ∷ pieces) said

-- these tokens come first, at some places, and the second row is left behind them
abbrev pub Fits : List Said → Tokens → Tokens → Type 0
Fits [] a c = a ≡ c
Fits (s ∷ ss) a c = (place : ℕ) × (b : Tokens) × (a ≡ record { kind = s.kind; place = place; bytes = s.bytes } ∷ b) × Fits ss b c

text_ends : (pieces : List Piece) → Ends (text true pieces)
text_ends [] = AtEnd
text_ends (Token bytes ∷ pieces) = AtBlank
text_ends (Stop ∷ pieces) = AtFeed

-- what stands behind a place of a text, and between two
behind : (whole front rest : List ℕ) → whole ≡ front ++ rest → drop (length front) whole ≡ rest
behind whole front rest e = ap (drop (length front)) e ∙ drop_at front rest (length front) refl

between : (whole front inside rest : List ℕ) (n : ℕ) → whole ≡ front ++ (inside ++ rest) → n ≡ length front + length inside → slice_range whole (length front) n ≡ inside
between whole front inside rest n e is =
    ap (take (n - length front)) (behind whole front (inside ++ rest) e) ∙ take_at inside rest (n - length front) (omega arith)

gap_more : (gap : List ℕ) (b : ℕ) → IsGap gap → IsGap (b ∷ []) → IsGap (gap ++ b ∷ [])
gap_more gap b Nothing blank = blank
gap_more gap b (Blank c cs is g) blank = Blank c (cs ++ b ∷ []) is (gap_more cs b g blank)
gap_more gap b (Comment k c bs has size g) blank = subst IsGap (sym (append_assoc c bs (b ∷ []))) (Comment k c (bs ++ b ∷ []) has size (gap_more bs b g blank))

-- the tokens behind a place of a text
pub record IsLaid (whole : List ℕ) (at : ℕ) (said : List Said) : Type 0 where
  pub tokens : List Placed
  pub end : ℕ
  pub scanned : Scans whole at tokens end
  pub within : end ≤ length whole
  pub rest : IsGap (slice_range whole end (length whole))
  pub fits : Fits said (spell whole tokens) []

-- one token more, behind a gap
one_more : (whole front gap bytes rest : List ℕ) (kind : What) (said : List Said) → whole ≡ front ++ (gap ++ (bytes ++ rest)) → IsGap gap → IsFine kind bytes → Ends rest
    → IsLaid whole (length ((front ++ gap) ++ bytes)) said → IsLaid whole (length front) (record { kind = kind; bytes = bytes } ∷ said)
one_more whole front gap bytes rest kind said e g fine ends l =
    let from : length (front ++ gap) ≡ length front + length gap = length-append front gap in
    let to : length ((front ++ gap) ++ bytes) ≡ length (front ++ gap) + length bytes = length-append (front ++ gap) bytes in
    let some = fine.some in
    let e2 : whole ≡ (front ++ gap) ++ (bytes ++ rest) = e ∙ sym (append_assoc front gap (bytes ++ rest)) in
    let e3 : whole ≡ ((front ++ gap) ++ bytes) ++ rest = e2 ∙ sym (append_assoc (front ++ gap) bytes rest) in
    let size : length whole ≡ length ((front ++ gap) ++ bytes) + length rest = ap length e3 ∙ length-append ((front ++ gap) ++ bytes) rest in
    let width : length ((front ++ gap) ++ bytes) - length (front ++ gap) ≡ length bytes = omega arith in
    let token : Placed = record { what = kind; from = length (front ++ gap); to = length ((front ++ gap) ++ bytes) } in
    let next : IsNext whole (length front) token = record {
      behind = omega arith;
      some = omega arith;
      within = omega arith;
      gap = subst IsGap (sym (between whole front gap (bytes ++ rest) (length (front ++ gap)) e from)) g;
      spelled = rw (width, behind whole (front ++ gap) (bytes ++ rest) e2) (fine.spelled rest ends);
    } in
    record {
      tokens = token ∷ l.tokens;
      end = l.end;
      scanned = (next, l.scanned);
      within = l.within;
      rest = l.rest;
      fits = (length (front ++ gap), spell whole l.tokens, ap (λ (bs : List ℕ). record { kind = kind; place = length (front ++ gap); bytes = bs } ∷ spell whole l.tokens) (between whole (front ++ gap) bytes rest (length ((front ++ gap) ++ bytes)) e2 to), l.fits);
    }

nothing_more : (whole front gap : List ℕ) → whole ≡ front ++ gap → IsGap gap → IsLaid whole (length front) []
nothing_more whole front gap e g =
    let size : length whole ≡ length front + length gap = ap length e ∙ length-append front gap in
    let e2 : whole ≡ front ++ (gap ++ []) = e ∙ ap (λ (r : List ℕ). front ++ r) (sym (append-nil gap)) in
    record {
      tokens = [];
      end = length front;
      scanned = refl;
      within = omega arith;
      rest = subst IsGap (sym (between whole front gap [] (length whole) e2 size)) g;
      fits = refl;
    }

-- the tokens behind a gap
laid_from : {pieces : List Piece} {said : List Said} (whole front gap : List ℕ) (begun : Bool) → Says pieces said → whole ≡ front ++ (gap ++ text begun pieces) → IsGap gap → IsLaid whole (length front) said
laid_from whole front gap begun NoPiece e g = nothing_more whole front gap (e ∙ ap (λ (r : List ℕ). front ++ r) (append-nil gap)) g
laid_from whole front gap begun (OneStop {pieces = pieces} says) e g =
    laid_from whole front (gap ++ 10 ∷ []) false says (e ∙ ap (λ (r : List ℕ). front ++ r) (sym (append_assoc gap (10 ∷ []) (text false pieces)))) (gap_more gap 10 g (Blank 10 [] refl Nothing))
laid_from whole front gap false (OneToken {kind = kind} {bytes = bytes} {pieces = pieces} {said = said} fine says) e g =
    let e2 : whole ≡ ((front ++ gap) ++ bytes) ++ ([] ++ text true pieces) = e ∙ sym (append_assoc front gap (bytes ++ text true pieces)) ∙ sym (append_assoc (front ++ gap) bytes (text true pieces)) in
    one_more whole front gap bytes (text true pieces) kind said e g fine (text_ends pieces) (laid_from whole ((front ++ gap) ++ bytes) [] true says e2 Nothing)
laid_from whole front gap true (OneToken {kind = kind} {bytes = bytes} {pieces = pieces} {said = said} fine says) e g =
    let gap2 : List ℕ = gap ++ 32 ∷ [] in
    let e1 : whole ≡ front ++ (gap2 ++ (bytes ++ text true pieces)) = e ∙ ap (λ (r : List ℕ). front ++ r) (sym (append_assoc gap (32 ∷ []) (bytes ++ text true pieces))) in
    let e2 : whole ≡ ((front ++ gap2) ++ bytes) ++ ([] ++ text true pieces) = e1 ∙ sym (append_assoc front gap2 (bytes ++ text true pieces)) ∙ sym (append_assoc (front ++ gap2) bytes (text true pieces)) in
    one_more whole front gap2 bytes (text true pieces) kind said e1 (gap_more gap 32 g (Blank 32 [] refl Nothing)) fine (text_ends pieces) (laid_from whole ((front ++ gap2) ++ bytes) [] true says e2 Nothing)

allowed_text : {pieces : List Piece} {said : List Said} (begun : Bool) → Says pieces said → list_all is_allowed (text begun pieces) ≡ true
allowed_text begun NoPiece = refl
allowed_text begun (OneStop says) = allowed_text false says
allowed_text false (OneToken {bytes = bytes} {pieces = pieces} fine says) =
    rw (list_all-append is_allowed bytes (text true pieces), fine.allowed) (allowed_text true says)
allowed_text true (OneToken {bytes = bytes} {pieces = pieces} fine says) =
    rw (list_all-append is_allowed bytes (text true pieces), fine.allowed) (allowed_text true says)

-- the tokens of a text, and their row
pub record IsLexed (text : List ℕ) (said : List Said) : Type 0 where
  pub tokens : List Placed
  pub are : AreTokens text tokens
  pub fits : Fits said (spell text tokens) []

-- the text of pieces has just their tokens
pub laid : (pieces : List Piece) (said : List Said) → Says pieces said → IsLexed (text false pieces) said
laid pieces said says =
    let l = laid_from (text false pieces) [] [] false says refl Nothing in
    record {
      tokens = l.tokens;
      are = record { allowed = AllPass-from_list_all is_allowed (text false pieces) (allowed_text false says); end = l.end; scanned = l.scanned; within = l.within; rest = l.rest };
      fits = l.fits;
    }
