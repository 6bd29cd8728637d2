-- Messages that are put and taken, for any engine that says which messages are due after a run; a run is the list of
-- its events, the newest first.
use Rattle.std.specs.List.{list_any, filter}
use Rattle.std.specs.Prelude.{◌≡◌, ℕ, ◌+◌, ◌==◌, Bool, not, ◌&&◌, if◌then◌else◌, Option, Some, None, List, [], ◌∷◌}
use Rattle.std.specs.Prelude.{◌++◌}

-- what is asked of an engine
pub record Engine (M E : Type 0) : Type 0 where
  -- two messages are one
  pub same : M → M → Bool
  -- the messages that are due after a run, in the order in which they are put
  pub due : List E → List M
  -- the message that an event takes
  pub turned : E → Option M
  -- 0, 1 or 2: messages of a lower kind are put first
  pub kind : M → ℕ
  -- the queue in which a message stands
  pub queue_of : M → ℕ

-- whether a message stands in a list
abbrev pub has : {M E : Type 0} → Engine M E → List M → M → Bool
has x ms m = list_any (x.same m) ms

-- how often a message stands in a list
abbrev pub times : {M E : Type 0} → Engine M E → List M → M → ℕ
times x [] m = 0
times x (n ∷ ms) m = (if x.same m n then 1 else 0) + times x ms m

-- the messages of a kind, and all by their kinds
abbrev pub of_kind : {M E : Type 0} → Engine M E → ℕ → List M → List M
of_kind x n ms = filter (λ m. x.kind m == n) ms

abbrev pub by_kind : {M E : Type 0} → Engine M E → List M → List M
by_kind x ms = of_kind x 0 ms ++ of_kind x 1 ms ++ of_kind x 2 ms

-- what an event puts: what is due after it and wasn't before
abbrev pub put : {M E : Type 0} → Engine M E → E → List E → List M
put x e h = by_kind x (filter (λ m. not (has x (x.due h) m)) (x.due (e ∷ h)))

-- all that was put, in order
abbrev pub all_put : {M E : Type 0} → Engine M E → List E → List M
all_put x [] = []
all_put x (e ∷ h) = all_put x h ++ put x e h

abbrev pub with_taken : {M : Type 0} → Option M → List M → List M
with_taken None ms = ms
with_taken (Some m) ms = m ∷ ms

-- the messages that the events took
abbrev pub spent : {M E : Type 0} → Engine M E → List E → List M
spent x [] = []
spent x (e ∷ h) = with_taken (x.turned e) (spent x h)

-- what stands in a queue: what was put and not taken
abbrev pub queue : {M E : Type 0} → Engine M E → List E → ℕ → List M
queue x h q = filter (λ m. (x.queue_of m == q) && not (has x (spent x h) m)) (all_put x h)

abbrev pub first : {M : Type 0} → List M → Option M
first [] = None
first (m ∷ ms) = Some m

-- each event that takes a message takes the front of a queue
abbrev pub TakesFronts : {M E : Type 0} → Engine M E → List E → Type 0
TakesFronts x [] = Unit {0}
TakesFronts {M} x (e ∷ h) = TakesFronts x h × ((m : M) → x.turned e ≡ Some m → (q : ℕ) × (first (queue x h q) ≡ Some m))
