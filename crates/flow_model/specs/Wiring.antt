-- What the rows of a graph's wiring say: which connectors leave each activity and lead to it, which data lines feed
-- each activity and the
-- scope's output, and which LOOP lines each activity has.
use Rattle.std.specs.Prelude.{◌≡◌, ℕ, ◌+◌, ◌==◌, Bool, if◌then◌else◌, unwrap_or, List, [], ◌∷◌, slice_get}
use Rattle.std.specs.List.{filter_map}
use Rattle.flow_model.specs.ScopeContainers.{same_end}
use Rattle.flow_model.specs.declared.graphs.Graph.{Graph, out-Graph}
use Rattle.flow_model.specs.declared.graphs.MapEnd.TheVariants.{Border, Activity as At}

-- the places of the elements that pass a test, counted from n
abbrev pub places : {X : Type 0} → (X → Bool) → ℕ → List X → List ℕ
places test n [] = []
places test n (x ∷ xs) = if test x then n ∷ places test (n + 1) xs else places test (n + 1) xs

-- the elements at these places
abbrev pub at_places : {X : Type 0} → List X → List ℕ → List X
at_places xs ps = filter_map (slice_get xs) ps

-- the row of an activity, which is empty where there is none
abbrev pub row_at : List (List ℕ) → ℕ → List ℕ
row_at rows a = unwrap_or (slice_get rows a) []

-- the rows name the connectors that leave each activity, in text order
abbrev pub IsOutgoing : Graph → Type 0
IsOutgoing g = (a : ℕ) → row_at (out-Graph g).wiring.outgoing a ≡ places (λ c. c.from == a) 0 (out-Graph g).controls

-- the rows name the connectors that lead to each activity, in text order
abbrev pub IsIncoming : Graph → Type 0
IsIncoming g = (a : ℕ) → row_at (out-Graph g).wiring.incoming a ≡ places (λ c. c.to == a) 0 (out-Graph g).controls

-- the rows name the lines that lead to each activity, in text order
abbrev pub IsFeeding : Graph → Type 0
IsFeeding g = (a : ℕ) → row_at (out-Graph g).wiring.feeding a
    ≡ places (λ line. same_end line.to (At a)) 0 (out-Graph g).lines

-- the row names the lines that lead to the scope's output, in text order
abbrev pub IsSinking : Graph → Type 0
IsSinking g = (out-Graph g).wiring.sinking ≡ places (λ line. same_end line.to Border) 0 (out-Graph g).lines

-- the rows name the LOOP lines of each activity, in text order
abbrev pub IsLooping : Graph → Type 0
IsLooping g = (a : ℕ) → row_at (out-Graph g).wiring.looping a
    ≡ places (λ line. line.activity == a) 0 (out-Graph g).loops
