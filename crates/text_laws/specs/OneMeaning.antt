-- A text means one thing behind a library: one graph for each of its processes, one list of templates and one list of
-- people.
use Rattle.std.specs.Prelude.{◌≡◌, ℕ, Some, List, slice_get}
use Rattle.conditions.specs.Resolving.{IsResolved}
use Rattle.flow_model.specs.declared.graphs.Expr.{Expr}
use Rattle.flow_model.specs.declared.graphs.Graph.{Graph}
use Rattle.flow_model.specs.declared.graphs.Leaf.{Leaf}
use Rattle.flow_model.specs.declared.graphs.Library.{Library}
use Rattle.flow_model.specs.declared.graphs.PersonDef.{PersonDef}
use Rattle.flow_model.specs.declared.graphs.Template.{Template}
use Rattle.flow_model.specs.declared.trees.Cond.{Cond}
use Rattle.flow_model.specs.declared.trees.ItemTree.{ItemTree}
use Rattle.flow_model.specs.declared.trees.ProcessTree.{ProcessTree}
use Rattle.template_check.specs.Compiling.{AreLeavesOf, HasPeopleOf, IsMeantBy, IsNamedBy}
use Rattle.template_check.specs.Meant.{IsMeant, Reading}
use Rattle.text_graphs.specs.GraphTexts.{process_text}
use Rattle.text_graphs.specs.Texts.{processes_in}

-- a written condition with places of leaves is one
abbrev pub ConditionsAreOne : Type 0
ConditionsAreOne =
    (leaves : List Leaf) (written : Cond) (made other : Expr) → IsResolved leaves written made
    → IsResolved leaves written other → made ≡ other

-- two readings of the names of a text agree where they have the leaves of its containers, and each name of a process
-- stands for the same
pub record ReadAlike (items : List ItemTree) (first second : Reading) : Type 0 where
  pub first_leaves : AreLeavesOf items first.leaves
  pub second_leaves : AreLeavesOf items second.leaves
  pub places : (number : ℕ) (name : List ℕ) → first.place number name ≡ second.place number name

-- by two such readings a process of the text means one graph
abbrev pub GraphsAreOne : Type 0
GraphsAreOne =
    (items : List ItemTree) (first second : Reading) (number : ℕ) (process : ProcessTree) (made other : Graph)
    → ReadAlike items first second → slice_get (processes_in items) number ≡ Some process
    → IsMeant first (process_text number process) made → IsMeant second (process_text number process) other
    → made ≡ other

-- behind one library a text means one list of templates
abbrev pub TemplatesAreOne : Type 0
TemplatesAreOne =
    (text : List ℕ) (library : Library) (ts us : List Template) → IsNamedBy text ts → IsNamedBy text us
    → IsMeantBy text library ts → IsMeantBy text library us → ts ≡ us

-- a text declares one list of people
abbrev pub PeopleAreOne : Type 0
PeopleAreOne = (text : List ℕ) (ps qs : List PersonDef) → HasPeopleOf text ps → HasPeopleOf text qs → ps ≡ qs
