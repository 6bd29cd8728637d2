-- Pieces one behind the other.
use Rattle.std.proofs.Common.{◌≡◌, ℕ, true, false, if◌then◌else◌, List, [], ◌∷◌, ◌++◌, refl, sym, ap, ◌∙◌, append_assoc, append-nil, ◌<◌, ◌≤◌, ◌+◌, ◌-◌, length, map, get_or, take, drop, arith}
use Rattle.std.specs.List.{flat_map}
use Rattle.std.proofs.lemmas.List.{drop_more, take_all, drop_all}
use Rattle.fdl_print.specs.Pieces.{Piece, Token, Stop, Page, text, with_piece, with_pieces}

-- the second pieces behind the first
pub with_pieces-append : (first second : List Piece) (page : Page) → with_pieces (first ++ second) page ≡ with_pieces second (with_pieces first page)
with_pieces-append [] second page = refl
with_pieces-append (piece ∷ first) second page = with_pieces-append first second (with_piece piece page)

-- what is written on a page is what was there and the text of the pieces
pub written : (pieces : List Piece) (page : Page) → (with_pieces pieces page).written ≡ page.written ++ text page.begun pieces
written [] page = sym (append-nil page.written)
written (Token bytes ∷ pieces) page = written pieces (with_piece (Token bytes) page) ∙ append_assoc page.written (if page.begun then 32 ∷ bytes else bytes) (text true pieces)
written (Stop ∷ pieces) page = written pieces (with_piece Stop page) ∙ append_assoc page.written (10 ∷ []) (text false pieces)

module _ {X : Type 0} (f : X → List Piece) where
  -- one more element of a loop
  pub one_more : (xs : List X) (i : ℕ) (x : X) (page after whole : Page) → i < length xs → x ≡ get_or xs i x
      → with_pieces (flat_map f (drop i xs)) page ≡ whole → after ≡ with_pieces (f x) page → with_pieces (flat_map f (drop (i + 1) xs)) after ≡ whole
  one_more xs i x page after whole lt is done next =
      rw next (sym (with_pieces-append (f x) (flat_map f (drop (i + 1) xs)) page) ∙ ap (λ (ps : List Piece). with_pieces ps page) (sym step) ∙ done)
    where
      step : flat_map f (drop i xs) ≡ f x ++ flat_map f (drop (i + 1) xs)
      step = ap (flat_map f) (drop_more xs i x lt) ∙ ap (λ (y : X). f y ++ flat_map f (drop (i + 1) xs)) (sym is)

  -- the end of a loop
  pub at_end : (xs : List X) (i : ℕ) (page whole : Page) → length xs ≤ i → with_pieces (flat_map f (drop i xs)) page ≡ whole → page ≡ whole
  at_end xs i page whole le done = ap (λ (ps : List X). with_pieces (flat_map f ps) page) (sym (drop_all i xs le)) ∙ done

rest_is : {X : Type 0} (x : X) (xs : List X) → take (length (x ∷ xs) - 1) (drop 1 (x ∷ xs)) ≡ xs
rest_is x xs = take_all (length (x ∷ xs) - 1) xs (omega arith)

-- the first element in one way, the later ones in another
pub first_and_later : {X : Type 0} (f g : X → List Piece) (whole : List X → List Piece) → ((x : X) (xs : List X) → whole (x ∷ xs) ≡ f x ++ flat_map g xs)
    → (xs : List X) (x : X) (page begun last : Page) → 1 ≤ length xs → x ≡ get_or xs 0 x → begun ≡ with_pieces (f x) page
    → last ≡ with_pieces (flat_map g (take (length xs - 1) (drop 1 xs))) begun → last ≡ with_pieces (whole xs) page
first_and_later f g whole by [] x page begun last some is one later = absurd (omega arith)
first_and_later f g whole by (y ∷ ys) x page begun last some is one later =
    later ∙ ap (λ l. with_pieces (flat_map g l) begun) (rest_is y ys) ∙ ap (λ (p : Page). with_pieces (flat_map g ys) p) (one ∙ ap (λ (z : _). with_pieces (f z) page) is)
    ∙ sym (with_pieces-append (f y) (flat_map g ys) page) ∙ ap (λ (ps : List Piece). with_pieces ps page) (sym (by y ys))

-- each element shown before its pieces are made
pub shown_first : {X Y : Type 0} (f : Y → List Piece) (show : X → Y) (xs : List X) → flat_map f (map show xs) ≡ flat_map (λ x. f (show x)) xs
shown_first f show [] = refl
shown_first f show (x ∷ xs) = ap (λ (ps : List Piece). f (show x) ++ ps) (shown_first f show xs)

pub ruleset append_rule = (with_pieces-append, append_assoc)

pub ruleset written_rule = (written, append_assoc)
