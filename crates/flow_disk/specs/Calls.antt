-- The calls of a disk in memory: it counts each, and fails where it is to fail.
use Rattle.std.specs.Prelude.{◌≡◌, ℕ, ◌≤◌, ◌⊎◌, List, Contains, Option, Some, None, Result, Ok, Err}
use Rattle.flow_disk.specs.Causes.{one_more}

-- the numbers of the calls that fail, the number from which on all do, how many calls were made, how many failed, and
-- how many of these found no memory
pub record Tally : Type 0 where
  pub failing : List ℕ
  pub stop : Option ℕ
  pub made : ℕ
  pub failed : ℕ
  pub starved : ℕ

-- no call was made
abbrev pub untouched : List ℕ → Option ℕ → Tally
untouched failing stop = record { failing = failing; stop = stop; made = 0; failed = 0; starved = 0 }

-- a call of this number is listed, or stands at or behind the stop
abbrev pub IsToFail : List ℕ → Option ℕ → ℕ → Type 0
IsToFail failing (Some from) call = Contains failing call ⊎ (from ≤ call)
IsToFail failing None call = Contains failing call

abbrev pub IsNextToFail : Tally → Type 0
IsNextToFail calls = IsToFail calls.failing calls.stop (one_more calls.made)

-- one more call was made
abbrev pub one_served : Tally → Tally
one_served calls = record calls { made = one_more calls.made }

-- one more call was made, and it failed
abbrev pub one_failed : Tally → Tally
one_failed calls = record calls { made = one_more calls.made; failed = one_more calls.failed }

-- the call that was made found no memory
abbrev pub one_starved : Tally → Tally
one_starved calls = record calls { failed = one_more calls.failed; starved = one_more calls.starved }

-- a call that needs no memory fails exactly where it is to fail
abbrev pub Serves : {T E : Type 0} → Tally → Tally → Result T E → Type 0
Serves old new (Ok value) = ¬ IsNextToFail old × (new ≡ one_served old)
Serves old new (Err failed) = IsNextToFail old × (new ≡ one_failed old)

-- a call that keeps something fails where it is to fail, and where it finds no memory, which it tells
abbrev pub ServesOrStarves : {T E : Type 0} → Tally → Tally → Result T E → Type 0
ServesOrStarves old new (Ok value) = ¬ IsNextToFail old × (new ≡ one_served old)
ServesOrStarves old new (Err failed) = IsNextToFail old × (new ≡ one_failed old) ⊎ ¬ IsNextToFail old
    × (new ≡ one_starved (one_served old))
