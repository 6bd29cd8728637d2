-- What a source and a sink in memory do at a call: they count it, and fail where it is listed.
use Rattle.std.specs.Prelude.{◌≡◌, ℕ, ◌⊎◌, List, ◌++◌, length, take, drop, min, Contains, Result, Ok, Err}
use Rattle.flow_io.specs.Causes.{one_more}

-- the numbers of the calls that fail, how many calls were made, and how many of them failed
pub record Tally : Type 0 where
  pub failing : List ℕ
  pub made : ℕ
  pub failed : ℕ

-- no call was made
abbrev pub fresh : List ℕ → Tally
fresh failing = record { failing = failing; made = 0; failed = 0 }

-- the next call is one of those that fail
abbrev pub IsNextListed : Tally → Type 0
IsNextListed calls = Contains calls.failing (one_more calls.made)

-- one more call was made
abbrev pub one_served : Tally → Tally
one_served calls = record calls { made = one_more calls.made }

-- one more call was made, and it failed
abbrev pub one_failed : Tally → Tally
one_failed calls = record calls { made = one_more calls.made; failed = one_more calls.failed }

-- a source in memory: the bytes that are left, and its calls
pub record Supply : Type 0 where
  pub left : List ℕ
  pub calls : Tally

-- a sink in memory: the bytes that it holds, its calls, and how many of them found no memory
pub record Collection : Type 0 where
  pub held : List ℕ
  pub calls : Tally
  pub starved : ℕ

-- the first bytes went into a buffer: as many as there were and as it holds
pub record GivesFront (old new : Supply) (buf : List ℕ) (count : ℕ) : Type 0 where
  pub count_is : count ≡ min (length buf) (length old.left)
  pub given : old.left ≡ take count buf ++ new.left
  pub after : new ≡ record old { left = drop count old.left }

-- a call of the source: it gives bytes where it isn't listed, else it fails and gives none
abbrev pub Supplies : {E : Type 0} → Supply → Supply → ℕ → Result ℕ E → Type 0
Supplies old new room (Ok count) =
    ¬ IsNextListed old.calls × (count ≡ min room (length old.left))
    × (new ≡ record { left = drop count old.left; calls = one_served old.calls })
Supplies old new room (Err failed) = IsNextListed old.calls × (new ≡ record old { calls = one_failed old.calls })

-- a call of the sink: it keeps the whole piece, or it fails because it is listed or because no memory was found
abbrev pub Collects : {E : Type 0} → Collection → Collection → List ℕ → Result ℕ E → Type 0
Collects old new piece (Ok count) =
    ¬ IsNextListed old.calls × (count ≡ length piece)
    × (new ≡ record old { held = old.held ++ piece; calls = one_served old.calls })
Collects old new piece (Err failed) =
    IsNextListed old.calls × (new ≡ record old { calls = one_failed old.calls })
    ⊎ ¬ IsNextListed old.calls × (new ≡ record old { calls = one_failed old.calls; starved = one_more old.starved })
