-- The bytes of a few words, one after the other.
use Rattle.std.proofs.Common.{◌≡◌, ◌<◌, ◌≤◌, List, String, get_or, [], ◌∷◌, map, string_bytes, length, sym, ap₂, ◌∙◌, arith}

module _ {Z : Type 0} where
  -- two words
  pub two_words : (words : List (String Z)) (a b : String Z) → a ≡ get_or words 0 a → b ≡ get_or words 1 b → 2 ≤ length words → length words < 3 → map string_bytes words ≡ string_bytes a ∷ string_bytes b ∷ []
  two_words [] a b first second least most = absurd (omega arith)
  two_words (x ∷ []) a b first second least most = absurd (omega arith)
  two_words (x ∷ y ∷ []) a b first second least most = ap₂ (λ v w. string_bytes v ∷ string_bytes w ∷ []) (sym first) (sym second)
  two_words (x ∷ y ∷ z ∷ zs) a b first second least most = absurd (omega arith)

  -- four words
  pub four_words : (words : List (String Z)) (a b c d : String Z) → a ≡ get_or words 0 a → b ≡ get_or words 1 b → c ≡ get_or words 2 c → d ≡ get_or words 3 d → 4 ≤ length words → length words < 5
      → map string_bytes words ≡ string_bytes a ∷ string_bytes b ∷ string_bytes c ∷ string_bytes d ∷ []
  four_words [] a b c d first second third fourth least most = absurd (omega arith)
  four_words (x ∷ []) a b c d first second third fourth least most = absurd (omega arith)
  four_words (x ∷ y ∷ []) a b c d first second third fourth least most = absurd (omega arith)
  four_words (x ∷ y ∷ z ∷ []) a b c d first second third fourth least most = absurd (omega arith)
  four_words (x ∷ y ∷ z ∷ w ∷ []) a b c d first second third fourth least most =
      ap₂ (λ v u. string_bytes v ∷ string_bytes u ∷ string_bytes z ∷ string_bytes w ∷ []) (sym first) (sym second)
      ∙ ap₂ (λ v u. string_bytes a ∷ string_bytes b ∷ string_bytes v ∷ string_bytes u ∷ []) (sym third) (sym fourth)
  four_words (x ∷ y ∷ z ∷ w ∷ v ∷ vs) a b c d first second third fourth least most = absurd (omega arith)
