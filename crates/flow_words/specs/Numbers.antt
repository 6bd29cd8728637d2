-- The numbers among the words.
use Rattle.std.specs.Prelude.{◌≡◌, ◌⊎◌, ℕ, ◌≤◌, List, [], ◌∷◌, ◌++◌, codes, decimal}

-- a word is a number within bounds, in decimal and without a zero before it
pub record Names (word : List ℕ) (least most n : ℕ) : Type 0 where
  pub spelled : word ≡ decimal n
  pub low : least ≤ n
  pub high : n ≤ most

-- a word is no number within bounds
abbrev pub NamesNone : List ℕ → ℕ → ℕ → Type 0
NamesNone word least most = (n : ℕ) → Names word least most n → ⊥

-- a store has 1 to 16 queues
abbrev pub AreQueues : ℕ → Type 0
AreQueues queues = (1 ≤ queues) × (queues ≤ 16)

-- a store has a limit of 1 to 10,000,000 transactions
abbrev pub IsLimit : ℕ → Type 0
IsLimit limit = (1 ≤ limit) × (limit ≤ 10000000)

-- the words that name a limit, and those that name queues
abbrev pub limit_words : ℕ → List (List ℕ)
limit_words limit = codes "LIMIT" ∷ decimal limit ∷ []

abbrev pub queue_words : ℕ → List (List ℕ)
queue_words queues = codes "QUEUES" ∷ decimal queues ∷ []

-- words name a limit and queues, the limit first; a limit that isn't named is 1,000,000, queues that aren't are 1
abbrev pub AreNamed : List (List ℕ) → ℕ → ℕ → Type 0
AreNamed words queues limit =
    ((words ≡ []) × (queues ≡ 1) × (limit ≡ 1000000)) ⊎ ((words ≡ limit_words limit) × (queues ≡ 1))
    ⊎ ((words ≡ queue_words queues) × (limit ≡ 1000000)) ⊎ (words ≡ limit_words limit ++ queue_words queues)

-- the queues and the limit that words name
pub record AreSettings (words : List (List ℕ)) (queues limit : ℕ) : Type 0 where
  pub queues_in : AreQueues queues
  pub limit_in : IsLimit limit
  pub named : AreNamed words queues limit

-- words that name none
abbrev pub NameNoSettings : List (List ℕ) → Type 0
NameNoSettings words = (queues limit : ℕ) → AreSettings words queues limit → ⊥

-- the two words behind `load`: a seed of at most 2,147,483,647, and 1 to 20,000 roots
pub record NamesLoad (words : List (List ℕ)) (seed roots : ℕ) : Type 0 where
  pub spelled : words ≡ decimal seed ∷ decimal roots ∷ []
  pub seed_in : seed ≤ 2147483647
  pub roots_in : (1 ≤ roots) × (roots ≤ 20000)

-- words that are no such two
abbrev pub NamesNoLoad : List (List ℕ) → Type 0
NamesNoLoad words = (seed roots : ℕ) → NamesLoad words seed roots → ⊥
