-- Every complete scope has an accepted output of its own below it.
use Rattle.std.specs.Prelude.{◌≡◌, ℕ, suc, Some, List, [], ◌∷◌, ◌++◌}
use Rattle.std.specs.List.{Contains}
use Rattle.flow_model.specs.declared.graphs.Container.{Container}
use Rattle.flow_model.specs.declared.graphs.Graph.{Graph}
use Rattle.flow_model.specs.declared.graphs.Template.{Template}
use Rattle.flow_model.specs.declared.instances.Fact.{Fact}
use Rattle.flow_model.specs.declared.instances.Part.{Part}
use Rattle.flow_model.specs.Rows.{by_facts, deepest, fate_output}
use Rattle.flow_model.specs.Scopes.{Known, at, output}
use Rattle.fate_laws.specs.WellFormed.{Well}

-- the output of an item below the scope at hand is accepted
abbrev pub HasGiven : Known → Type 0
HasGiven k = (q : Part) × (p : List Part) × (out : Container) × (k.given (q ∷ p) ≡ Some out)

-- whatever else is known, a complete scope has such an output
abbrev pub CompleteHasGiven : Type 0
CompleteHasGiven =
    (ts : List Template) (depth : ℕ) (k : Known) (g : Graph) (input out : Container) → Well ts depth g
    → output ts (suc depth) k g input ≡ Some out → HasGiven k

-- what is known from the scope at the end of a path
abbrev pub at_path : List Part → Known → Known
at_path [] k = k
at_path (q ∷ path) k = at_path path (at q k)

-- one of the completions is of an item below the scope at a path
abbrev pub HasFactBelow : List Fact → List Part → Type 0
HasFactBelow fs path = (f : Fact) × Contains fs f × (q : Part) × (p : List Part) × (f.item.parts ≡ path ++ q ∷ p)

-- a scope that is complete by the completions has a completion below it
abbrev pub CompleteHasFact : Type 0
CompleteHasFact =
    (ts : List Template) (depth most : ℕ) (fs : List Fact) (path : List Part) (g : Graph) (input out : Container)
    → Well ts depth g
    → output ts (suc depth) (at_path path (by_facts most fs)) g input ≡ Some out → HasFactBelow fs path

-- and so has a complete root
abbrev pub RootHasFact : Type 0
RootHasFact =
    (ts : List Template) (most : ℕ) (fs : List Fact) (g : Graph) (input out : Container) → Well ts deepest g
    → fate_output ts g input most fs ≡ Some out → HasFactBelow fs []
