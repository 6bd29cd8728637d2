-- Walks along the edges of a directed graph, whose nodes may be of any type.
use Rattle.std.specs.Prelude.{◌≡◌, ℕ, ◌<◌, List, [], ◌∷◌, length, slice_get, Some}
use Rattle.std.specs.List.{All, Contains}

-- a pair is an edge, from its first part to its second
abbrev pub HasEdge : {A : Type 0} → List (A × A) → A → A → Type 0
HasEdge {A} edges a b = Contains {X = A × A} edges (a, b)

-- edges lead from a through the nodes of a list to b
abbrev pub IsWalk : {A : Type 0} → List (A × A) → A → List A → A → Type 0
IsWalk edges a [] b = HasEdge edges a b
IsWalk edges a (c ∷ through) b = HasEdge edges a c × IsWalk edges c through b

-- a walk of at least one edge leads from a to b
abbrev pub Reaches : {A : Type 0} → List (A × A) → A → A → Type 0
Reaches {A} edges a b = (through : List A) × IsWalk edges a through b

-- the nodes of a walk that comes back to its first
abbrev pub IsClosedWalk : {A : Type 0} → List (A × A) → List A → Type 0
IsClosedWalk edges [] = ⊥
IsClosedWalk edges (a ∷ through) = IsWalk edges a through a

-- the ends of the edges are nodes
abbrev pub AreNodes : ℕ → List (ℕ × ℕ) → Type 0
AreNodes nodes edges = All (λ e. (e.0 < nodes) × (e.1 < nodes)) edges

-- each node stands once in the order, behind the sources of the edges that lead to it
pub record IsOrder (nodes : ℕ) (edges : List (ℕ × ℕ)) (order : List ℕ) : Type 0 where
  pub long : length order ≡ nodes
  pub in_range : All (λ a. a < nodes) order
  pub covers : (a : ℕ) → a < nodes → Contains order a
  pub forward : (a b i : ℕ) → HasEdge edges a b → slice_get order i ≡ Some b
      → (j : ℕ) × (j < i) × (slice_get order j ≡ Some a)
