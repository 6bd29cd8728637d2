-- The leaves of a structure, worked out on a row.
use Rattle.std.proofs.Common.{◌≡◌, ℕ, List, [], ◌∷◌, Option, Some, None, refl}
use Rattle.flow_model.specs.declared.graphs.Kind.{Kind}
use Rattle.flow_model.specs.declared.graphs.Kind.TheVariants.{Long, Str}
use Rattle.flow_model.specs.declared.graphs.Leaf.{Leaf}
use Rattle.flow_model.specs.declared.graphs.Step.{Step}
use Rattle.flow_model.specs.declared.graphs.Step.TheVariants.{Member, Place}
use Rattle.flow_model.specs.declared.trees.KindTree.{KindTree}
use Rattle.flow_model.specs.declared.trees.KindTree.TheVariants as kind
use Rattle.flow_model.specs.declared.trees.Member.{Member as MemberTree}
use Rattle.flow_model.specs.declared.trees.NameAt.{NameAt}
use Rattle.flow_model.specs.declared.trees.NumberAt.{NumberAt}
use Rattle.flow_model.specs.declared.trees.StructDef.{StructDef}
use Rattle.leaf_rules.specs.StructureLeaves.{leaves_to, leaves_in}
use Rattle.leaf_rules.specs.KindEdges.{kind_edges}

named : ℕ → NameAt
named letter = record { name = letter ∷ []; place = 0 }

member : ℕ → KindTree → Option NumberAt → MemberTree
member letter k count = record { name = named letter; kind = k; count = count }

structure : ℕ → List MemberTree → StructDef
structure letter members = record { name = named letter; members = members; end = named letter }

array : ℕ → Option NumberAt
array count = Some (record { minus = None; size = count; place = 0 })

leaf : List Step → Kind → Leaf
leaf steps k = record { name = record { steps = steps }; kind = k }

step : ℕ → Step
step letter = Member (letter ∷ [])

-- STRUCTURE 'A' 'X': LONG; 'B': 'B'(2); 'E': 'E'(9) END 'A', STRUCTURE 'B' 'Y': STRING(1); 'Z': LONG END 'B', STRUCTURE 'E' END 'E'
row : List StructDef
row =
    structure 65 (member 88 kind.Long None ∷ member 66 (kind.Struct (named 66)) (array 2) ∷ member 69 (kind.Struct (named 69)) (array 9) ∷ [])
    ∷ structure 66 (member 89 kind.Str (array 1) ∷ member 90 kind.Long None ∷ [])
    ∷ structure 69 []
    ∷ []

worked : leaves_in row (65 ∷ [])
    ≡ Some (leaf (step 88 ∷ []) Long
    ∷ leaf (step 66 ∷ Place 0 ∷ step 89 ∷ Place 0 ∷ []) Str
    ∷ leaf (step 66 ∷ Place 0 ∷ step 90 ∷ []) Long
    ∷ leaf (step 66 ∷ Place 1 ∷ step 89 ∷ Place 0 ∷ []) Str
    ∷ leaf (step 66 ∷ Place 1 ∷ step 90 ∷ []) Long
    ∷ [])
unfolding leaves_to named member structure array leaf step row
worked = refl

no_structure : leaves_in row (67 ∷ []) ≡ None
unfolding leaves_to named member structure array leaf step row
no_structure = refl

-- 'B' and 'E' lead to 'A'
worked_edges : kind_edges row ≡ (1, 0) ∷ (2, 0) ∷ []
unfolding named member structure array leaf step row
worked_edges = refl
