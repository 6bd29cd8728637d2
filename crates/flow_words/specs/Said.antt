-- What the words of the command line say.
use Rattle.std.specs.Prelude.{◌≡◌, ◌≢◌, ℕ, Option, Some, None, List, [], ◌∷◌, codes}
use Rattle.flow_words.specs.Numbers.{Names, AreSettings, NamesLoad}
use Rattle.flow_words.specs.declared.word.Word.{Word}
use Rattle.flow_words.specs.declared.word.Word.TheVariants.{Check, Fate, Try, Load, New, Run, Follow, Explain, Verify}
use Rattle.flow_words.specs.declared.word.Word.TheVariants.{Overdue, Ship}

-- the name of a word
abbrev pub name_of : Word → List ℕ
name_of Check = codes "check"
name_of Fate = codes "fate"
name_of (Try settings) = codes "try"
name_of (Load seed roots) = codes "load"
name_of (New settings) = codes "new"
name_of Run = codes "run"
name_of Follow = codes "follow"
name_of Explain = codes "explain"
name_of Verify = codes "verify"
name_of Overdue = codes "overdue"
name_of (Ship number) = codes "ship"

-- two different files, and behind them words of which this is so
abbrev pub BehindFiles : (List (List ℕ) → Type 0) → List (List ℕ) → Type 0
BehindFiles AreSo [] = ⊥
BehindFiles AreSo (a ∷ []) = ⊥
BehindFiles AreSo (a ∷ b ∷ words) = (a ≢ b) × AreSo words

-- what stands behind the name of a word
abbrev pub Behind : Word → List (List ℕ) → Type 0
Behind Check rest = rest ≡ []
Behind Fate rest = rest ≡ []
Behind (Try settings) rest = AreSettings rest settings.queues settings.limit
Behind (Load seed roots) rest = NamesLoad rest seed roots
Behind (New settings) rest = BehindFiles (λ words. AreSettings words settings.queues settings.limit) rest
Behind Run rest = BehindFiles (λ words. words ≡ []) rest
Behind Follow rest = BehindFiles (λ words. words ≡ []) rest
Behind Explain rest = BehindFiles (λ words. (activity : List ℕ) × (words ≡ activity ∷ [])) rest
Behind Verify rest = BehindFiles (λ words. words ≡ []) rest
Behind Overdue rest = BehindFiles (λ words. words ≡ []) rest
Behind (Ship number) rest =
    BehindFiles (λ words. (spelled : List ℕ) × (words ≡ spelled ∷ []) × Names spelled 0 10000000 number) rest

-- the words say this word: its name, and what stands behind it
abbrev pub Say : List (List ℕ) → Word → Type 0
Say [] word = ⊥
Say (first ∷ rest) word = (first ≡ name_of word) × Behind word rest

-- the word that the words say; None where they say none
abbrev pub IsSaid : List (List ℕ) → Option Word → Type 0
IsSaid words None = (word : Word) → Say words word → ⊥
IsSaid words (Some word) = Say words word

-- this word, exactly where something is so
abbrev pub IsWhere : Type 0 → Word → Option Word → Type 0
IsWhere So word None = So → ⊥
IsWhere So word (Some found) = (found ≡ word) × So
