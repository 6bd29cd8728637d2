-- Which word a name is of, and what stands behind it.
use Rattle.std.proofs.Common.{◌≡◌, ◌≢◌, ◌<◌, ◌≤◌, ℕ, None, List, String, [], ◌∷◌, codes, map, string_bytes, length, get_or, drop, if◌then◌else◌, refl, sym, subst, ap, ◌∙◌, arith}
use Rattle.std.specs.Prelude.{bytes_eq}
use Rattle.flow_words.specs.Numbers.{NameNoSettings, AreQueues, IsLimit}
use Rattle.flow_words.specs.Said.{name_of, Behind, BehindFiles, Say, IsSaid}
use Rattle.flow_words.specs.declared.numbers.Settings.{Settings}
use Rattle.flow_words.specs.declared.word.Word.{Word}
use Rattle.flow_words.specs.declared.word.Word.TheVariants.{Check, Fate, Try, Load, New, Run, Follow, Explain, Verify, Overdue, Ship}

-- ---- names

some_settings : Settings
some_settings = record { queues = 1; limit = 1 }

-- a word of this name
abbrev sample : List ℕ → Word
sample name =
    if bytes_eq name (codes "check") then Check else
    if bytes_eq name (codes "fate") then Fate else
    if bytes_eq name (codes "try") then Try some_settings else
    if bytes_eq name (codes "load") then Load 0 0 else
    if bytes_eq name (codes "new") then New some_settings else
    if bytes_eq name (codes "run") then Run else
    if bytes_eq name (codes "follow") then Follow else
    if bytes_eq name (codes "explain") then Explain else
    if bytes_eq name (codes "verify") then Verify else
    if bytes_eq name (codes "overdue") then Overdue else Ship 0

-- a word is another one but for its numbers
abbrev IsLike : Word → Word → Type 0
IsLike (Try settings) word = (own : Settings) × (word ≡ Try own)
IsLike (Load seed roots) word = (first : ℕ) × (count : ℕ) × (word ≡ Load first count)
IsLike (New settings) word = (own : Settings) × (word ≡ New own)
IsLike (Ship number) word = (own : ℕ) × (word ≡ Ship own)
IsLike other word = word ≡ other

is_like : (word : Word) → IsLike (sample (name_of word)) word
is_like Check = refl
is_like Fate = refl
is_like (Try settings) = (settings, refl)
is_like (Load seed roots) = (seed, roots, refl)
is_like (New settings) = (settings, refl)
is_like Run = refl
is_like Follow = refl
is_like Explain = refl
is_like Verify = refl
is_like Overdue = refl
is_like (Ship number) = (number, refl)

-- a word of this name is like that one
named : (name : List ℕ) (word : Word) → name ≡ name_of word → IsLike (sample name) word
named name word is = subst (λ (n : List ℕ). IsLike (sample n) word) (sym is) (is_like word)

-- ---- files

-- what is so of the words behind the files
pub files_so : (AreSo : List (List ℕ) → Type 0) (rest behind : List (List ℕ)) → BehindFiles (λ words. words ≡ behind) rest → AreSo behind → BehindFiles AreSo rest
files_so AreSo [] behind files so = files
files_so AreSo (a ∷ []) behind files so = files
files_so AreSo (a ∷ b ∷ words) behind files so = (files.0, subst AreSo (sym files.1) so)

pub files_not : (AreSo : List (List ℕ) → Type 0) (rest behind : List (List ℕ)) → BehindFiles (λ words. words ≡ behind) rest → (AreSo behind → ⊥) → BehindFiles AreSo rest → ⊥
files_not AreSo [] behind files never so = so
files_not AreSo (a ∷ []) behind files never so = so
files_not AreSo (a ∷ b ∷ words) behind files never so = never (subst AreSo files.1 so.1)

module _ {Z : Type 0} where
  -- two different files
  pub files_there : (words : List (String Z)) (a b : String Z) (behind : List (String Z)) → 2 ≤ length words → a ≡ get_or words 0 a → b ≡ get_or words 1 b → string_bytes a ≢ string_bytes b → behind ≡ drop 2 words
      → BehindFiles (λ ws. ws ≡ map string_bytes behind) (map string_bytes words)
  files_there [] a b behind least first second apart is = absurd (omega arith)
  files_there (x ∷ []) a b behind least first second apart is = absurd (omega arith)
  files_there (x ∷ y ∷ ys) a b behind least first second apart is =
      ((λ same. apart (ap string_bytes first ∙ same ∙ sym (ap string_bytes second))), ap (map string_bytes) (sym is))

  -- twice the same file
  pub files_same : (words : List (String Z)) (a b : String Z) → a ≡ get_or words 0 a → b ≡ get_or words 1 b → string_bytes a ≡ string_bytes b → BehindFiles (λ ws. Unit {0}) (map string_bytes words) → ⊥
  files_same [] a b first second same so = so
  files_same (x ∷ []) a b first second same so = so
  files_same (x ∷ y ∷ ys) a b first second same so = so.0 (sym (ap string_bytes first) ∙ same ∙ ap string_bytes second)

  -- one word
  pub one_word : (words : List (String Z)) → 1 ≤ length words → length words < 2 → (word : List ℕ) × (map string_bytes words ≡ word ∷ [])
  one_word [] least below = absurd (omega arith)
  one_word (x ∷ []) least below = (string_bytes x, refl)
  one_word (x ∷ y ∷ ys) least below = absurd (omega arith)

-- ---- names with numbers behind them

-- no settings behind `try`
pub no_try : (rest : List (List ℕ)) → NameNoSettings rest → IsSaid (codes "try" ∷ rest) None
no_try rest none word (same, behind) =
    let own = named (codes "try") word same in
    none own.0.queues own.0.limit (subst (λ (w : Word). Behind w rest) own.1 behind)

-- no settings behind the files of `new`, or no files
pub no_new : (rest : List (List ℕ)) → ((own : Settings) → Behind (New own) rest → ⊥) → IsSaid (codes "new" ∷ rest) None
no_new rest none word (same, behind) =
    let own = named (codes "new") word same in
    none own.0 (subst (λ (w : Word). Behind w rest) own.1 behind)

-- ---- what a word that is said has

-- the settings of `new` are those of a store
pub try_settings : (words : List (List ℕ)) (own : Settings) → Say words (Try own) → AreQueues own.queues
try_settings [] own says = absurd says
try_settings (name ∷ rest) own says = says.1.queues_in

pub new_settings : (words : List (List ℕ)) (own : Settings) → Say words (New own) → AreQueues own.queues × IsLimit own.limit
new_settings [] own says = absurd says
new_settings (name ∷ []) own says = absurd says.1
new_settings (name ∷ a ∷ []) own says = absurd says.1
new_settings (name ∷ a ∷ b ∷ rest) own says = (says.1.1.queues_in, says.1.1.limit_in)
