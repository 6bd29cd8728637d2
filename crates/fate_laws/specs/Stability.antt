-- What is settled stays as it is when more is known, and so under one more completion.
use Rattle.std.specs.Prelude.{◌≡◌, ℕ, ◌≤◌, Some, List, [], ◌∷◌, ◌++◌, IsTrue}
use Rattle.flow_model.specs.declared.graphs.Container.{Container}
use Rattle.flow_model.specs.declared.graphs.Graph.{Graph}
use Rattle.flow_model.specs.declared.graphs.Template.{Template}
use Rattle.flow_model.specs.declared.instances.Fact.{Fact}
use Rattle.flow_model.specs.Fates.{is_settled}
use Rattle.flow_model.specs.Rows.{by_facts, fate_output}
use Rattle.flow_model.specs.Scopes.{Known, output, tree_ends, tree_fate}
use Rattle.fate_laws.specs.More.{More}

-- an activity of a scope that has ended, has ended so for whoever knows more
abbrev pub EndsStay : Type 0
EndsStay =
    (ts : List Template) (depth : ℕ) (k k' : Known) (g : Graph) (input : Container) (a : ℕ)
    → IsTrue (is_settled (tree_ends ts depth k g input a)) → More k k'
    → tree_ends ts depth k' g input a ≡ tree_ends ts depth k g input a

-- and it has the same fate, where what counts of a value does not turn when the value becomes known
abbrev pub FatesStay : Type 0
FatesStay =
    (ts : List Template) (depth : ℕ) (k k' : Known) (g : Graph) (input : Container) (a : ℕ)
    → More k k → IsTrue (is_settled (tree_ends ts depth k g input a)) → More k k'
    → tree_fate ts depth k' g input a ≡ tree_fate ts depth k g input a

-- a complete scope has the same output for whoever knows more
abbrev pub OutputsStay : Type 0
OutputsStay =
    (ts : List Template) (depth : ℕ) (k k' : Known) (g : Graph) (input out : Container)
    → output ts depth k g input ≡ Some out → More k k' → output ts depth k' g input ≡ Some out

-- completions that come later only add to what is known
abbrev pub CompletionsAdd : Type 0
CompletionsAdd = (most most' : ℕ) (fs later : List Fact) → most ≤ most'
    → More (by_facts most fs) (by_facts most' (fs ++ later))

-- one more completion leaves each settled activity as it is
abbrev pub CompletionKeepsEnds : Type 0
CompletionKeepsEnds =
    (ts : List Template) (depth most : ℕ) (fs : List Fact) (f : Fact) (g : Graph) (input : Container) (a : ℕ)
    → IsTrue (is_settled (tree_ends ts depth (by_facts most fs) g input a))
    → tree_ends ts depth (by_facts most (fs ++ f ∷ [])) g input a ≡ tree_ends ts depth (by_facts most fs) g input a

-- and its fate
abbrev pub CompletionKeepsFates : Type 0
CompletionKeepsFates =
    (ts : List Template) (depth most : ℕ) (fs : List Fact) (f : Fact) (g : Graph) (input : Container) (a : ℕ)
    → IsTrue (is_settled (tree_ends ts depth (by_facts most fs) g input a))
    → tree_fate ts depth (by_facts most (fs ++ f ∷ [])) g input a ≡ tree_fate ts depth (by_facts most fs) g input a

-- a complete root keeps its output
abbrev pub CompletionKeepsOutput : Type 0
CompletionKeepsOutput =
    (ts : List Template) (g : Graph) (input out : Container) (most : ℕ) (fs : List Fact) (f : Fact)
    → fate_output ts g input most fs ≡ Some out → fate_output ts g input most (fs ++ f ∷ []) ≡ Some out
