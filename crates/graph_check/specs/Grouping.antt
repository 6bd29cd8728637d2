-- What the search for strong components knows: the open nodes lie in a row of groups, each of which is strong so far,
-- and each later one leads to the earlier ones.
use Rattle.std.specs.Prelude.{Bool, true, false, Some, ◌≡◌, ℕ, ◌+◌, ◌*◌, ◌<◌, ◌≤◌, List, [], ◌∷◌, ◌⊎◌, ◌≢◌, length}
use Rattle.std.specs.Prelude.{slice_index_or, slice_set, nat_le, if◌then◌else◌}
use Rattle.std.specs.List.{sum_by}
use Rattle.graph_check.specs.Walks.{HasEdge}
use Rattle.graph_check.specs.Among.{Among, first_of, rest_of}
use Rattle.graph_check.specs.Components.{Leads}
use Rattle.graph_check.specs.declared.strong.Standing.{Standing}
use Rattle.graph_check.specs.declared.strong.Standing.TheVariants.{New, Held, Settled}

-- the last one stands first in each list but the marks; the path and the roots are places of held nodes, counted from
-- the node held first
pub record State : Type 0 where
  pub sources : List (List ℕ)
  pub marks : List Standing
  pub path : List ℕ
  pub roots : List ℕ
  pub held : List ℕ
  pub count : ℕ

abbrev pub row_of : State → ℕ → List ℕ
row_of s b = slice_index_or s.sources b []

abbrev pub mark_of : State → ℕ → Standing
mark_of s a = slice_index_or s.marks a New

-- a is held at place p
abbrev pub At : List ℕ → ℕ → ℕ → Type 0
At [] p a = ⊥
At (h ∷ rest) p a = ((length rest ≡ p) × (h ≡ a)) ⊎ At rest p a

-- the nodes at place p and behind it, and those before it
abbrev pub above : ℕ → List ℕ → List ℕ
above p [] = []
above p (h ∷ rest) = if nat_le p (length rest) then h ∷ above p rest else []

abbrev pub below : ℕ → List ℕ → List ℕ
below p [] = []
below p (h ∷ rest) = if nat_le p (length rest) then below p rest else h ∷ rest

-- the roots up to place p
abbrev pub up_to : ℕ → List ℕ → List ℕ
up_to p [] = []
up_to p (r ∷ rest) = if nat_le r p then r ∷ rest else up_to p rest

abbrev pub all_settled : ℕ → List Standing → List ℕ → List Standing
all_settled n marks [] = marks
all_settled n marks (h ∷ rest) = all_settled n (slice_set marks h (Settled n)) rest

-- the steps of the search
abbrev pub entered : State → ℕ → State
entered s a = record s {
  marks = slice_set s.marks a (Held (length s.held));
  path = length s.held ∷ s.path;
  roots =
      length s.held ∷ s.roots;
  held = a ∷ s.held;
}

abbrev pub skipped : State → ℕ → List ℕ → State
skipped s b rest = record s { sources = slice_set s.sources b rest }

abbrev pub merged : State → ℕ → State
merged s p = record s { roots = up_to p s.roots }

abbrev pub left : State → State
left s = record s { path = rest_of s.path }

abbrev pub released : State → ℕ → State
released s p = record s { marks = all_settled s.count s.marks (above p s.held); held = below p s.held }

abbrev pub settled : State → ℕ → State
settled s p = record s {
  marks = all_settled s.count s.marks (above p s.held);
  path = rest_of s.path;
  roots =
      rest_of s.roots;
  held = below p s.held;
  count = s.count + 1;
}

-- numbers below n, each less than the one before
abbrev pub Falls : ℕ → List ℕ → Type 0
Falls n [] = Unit {0}
Falls n (p ∷ rest) = (p < n) × Falls p rest

-- each held node leads to the one held before it, and that one to it, unless a root begins there
abbrev pub IsLinked : List (ℕ × ℕ) → List ℕ → List ℕ → Type 0
IsLinked edges roots [] = Unit {0}
IsLinked edges roots (a ∷ []) = Among 0 roots
IsLinked edges roots (a ∷ b ∷ rest) = Leads edges a b × (Among (length (b ∷ rest)) roots ⊎ Leads edges b a)
    × IsLinked edges roots (b ∷ rest)

-- a source of the node held at p is settled, or is held with no root between it and p
abbrev pub IsMet : List ℕ → ℕ → Standing → Type 0
IsMet roots p New = ⊥
IsMet roots p (Held q) = (r : ℕ) → Among r roots → (r ≤ q) ⊎ (p < r)
IsMet roots p (Settled n) = Unit {0}

abbrev pub IsSettledBy : ℕ → Standing → Type 0
IsSettledBy n New = ⊥
IsSettledBy n (Held q) = ⊥
IsSettledBy n (Settled m) = m ≤ n

abbrev pub new_count : Standing → ℕ
new_count New = 1
new_count (Held p) = 0
new_count (Settled n) = 0

abbrev pub work_left : State → ℕ
work_left s = 2 * sum_by new_count s.marks + sum_by length s.sources + length s.path

pub record IsGrouped (nodes : ℕ) (edges : List (ℕ × ℕ)) (s : State) : Type 0 where
  pub wide : length s.sources ≡ nodes
  pub long : length s.marks ≡ nodes
  pub listed : (a b : ℕ) → Among a (row_of s b) → HasEdge edges a b
  pub held_at : (a p : ℕ) → At s.held p a → (a < nodes) × (mark_of s a ≡ Held p)
  pub at_held : (a p : ℕ) → mark_of s a ≡ Held p → At s.held p a
  pub linked : IsLinked edges s.roots s.held
  pub path_falls : Falls (length s.held) s.path
  pub roots_fall : Falls (length s.held) s.roots
  pub roots_begun : (p : ℕ) → Among p s.roots → Among p s.path
  pub emptied : (a p : ℕ) → At s.held p a → (row_of s a ≡ []) ⊎ Among p s.path
  pub fresh : (a b : ℕ) → HasEdge edges a b → mark_of s b ≡ New → Among a (row_of s b)
  pub kept : (a b p : ℕ) → HasEdge edges a b → At s.held p b → Among a (row_of s b) ⊎ IsMet s.roots p (mark_of s a)
  pub forward : (a b n : ℕ) → HasEdge edges a b → mark_of s b ≡ Settled n → IsSettledBy n (mark_of s a)
  pub numbered : (a n : ℕ) → mark_of s a ≡ Settled n → n < s.count
  pub together : (a b n : ℕ) → mark_of s a ≡ Settled n → mark_of s b ≡ Settled n → Leads edges a b
  pub counted : s.count + length s.held + sum_by new_count s.marks ≤ nodes

-- what was begun or settled is not new again
abbrev pub Grows : ℕ → State → State → Type 0
Grows nodes old new = (a : ℕ) → a < nodes → mark_of old a ≢ New → mark_of new a ≢ New

-- the node whose sources are gone along
abbrev pub IsTop : State → ℕ → Type 0
IsTop s a = (p : ℕ) × (Some p ≡ first_of s.path) × At s.held p a

-- one step of the search
pub record IsStep (nodes : ℕ) (edges : List (ℕ × ℕ)) (old new : State) : Type 0 where
  pub grouped : IsGrouped nodes edges new
  pub less : work_left new < work_left old
  pub grows : Grows nodes old new

abbrev pub Advanced : ℕ → List (ℕ × ℕ) → State → State → Bool → Type 0
Advanced nodes edges old new true = IsStep nodes edges old new
Advanced nodes edges old new false = (new ≡ old) × (old.path ≡ [])

-- the component's number that a mark tells
abbrev pub number_of : Standing → ℕ
number_of New = 0
number_of (Held p) = 0
number_of (Settled n) = n

-- a node and all that reach it are settled
pub record IsVisited (nodes : ℕ) (edges : List (ℕ × ℕ)) (old new : State) (a : ℕ) : Type 0 where
  pub grouped : IsGrouped nodes edges new
  pub idle : new.path ≡ []
  pub grows : Grows nodes old new
  pub met : mark_of new a ≢ New
