-- The graphs that stand in a text: those of its processes, and of the blocks inside, at every depth.
use Rattle.std.specs.Prelude.{◌≡◌, ℕ, zero, suc, List, map}
use Rattle.std.specs.List.{All, Contains}
use Rattle.flow_model.specs.declared.trees.ActivityTree.{ActivityTree}
use Rattle.flow_model.specs.declared.trees.ElementTree.{ElementTree}
use Rattle.flow_model.specs.declared.trees.WorkTree.{Block}
use Rattle.text_graphs.specs.Texts.{activities_in, IsJudged}
use Rattle.text_graphs.specs.declared.scopes.Scope.{Scope}

-- an activity is a block of these elements
abbrev pub IsBlockOf : ActivityTree → List ElementTree → Type 0
IsBlockOf a elements = a.work ≡ Block elements

-- the elements of each graph
abbrev pub lists_of : List Scope → List (List ElementTree)
lists_of scopes = map (λ s. s.elements.now) scopes

-- the blocks among the elements of a graph are listed, and those inside them, to this depth
abbrev pub HasBlocks : List (List ElementTree) → ℕ → List ElementTree → Type 0
HasBlocks lists zero elements = Unit {0}
HasBlocks lists (suc depth) elements = All (λ a. (inner : List ElementTree) → IsBlockOf a inner
    → Contains lists inner × HasBlocks lists depth inner) (activities_in elements)

-- if an activity is a block, its graph is listed with those inside
abbrev pub IsListed : List (List ElementTree) → ActivityTree → Type 0
IsListed lists a = (depth : ℕ) (inner : List ElementTree) → IsBlockOf a inner
    → Contains lists inner × HasBlocks lists depth inner

-- a graph and those inside it are listed
abbrev pub IsCovered : List (List ElementTree) → List ElementTree → Type 0
IsCovered lists elements = Contains lists elements × ((depth : ℕ) → HasBlocks lists depth elements)

-- a list has all of another one
abbrev pub Grows : List (List ElementTree) → List (List ElementTree) → Type 0
Grows old new = (elements : List ElementTree) → Contains old elements → Contains new elements

-- a graph is sound, and so are those inside it, to this depth
abbrev pub JudgedTo : ℕ → List ElementTree → Type 0
JudgedTo zero elements = IsJudged elements
JudgedTo (suc depth) elements = IsJudged elements
    × All (λ a. (inner : List ElementTree) → IsBlockOf a inner → JudgedTo depth inner) (activities_in elements)
