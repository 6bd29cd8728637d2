-- The classes of the containers of templates, so that a container of a known class needs no comparison leaf by leaf.
use Rattle.std.specs.Prelude.{◌≡◌, ℕ, Option, None, Some, IfSome, List, nat_eq, slice_get}
use Rattle.std.specs.HashMap as hash
use Rattle.std.specs.HashMap.{HashMap}
use Rattle.flow_model.specs.declared.graphs.Graph.{out-Graph}
use Rattle.flow_model.specs.declared.graphs.Leaf.{Leaf}
use Rattle.flow_model.specs.declared.graphs.Template.{Template}
use Rattle.leaf_rules.specs.Classes.{IsClassOf, class_leaves}
use Rattle.leaf_rules.specs.declared.leaf_classes.LeafClass.{LeafClass}
use Rattle.process_rules.specs.declared.catalog.ContainerClasses.{ContainerClasses}

-- a class, where one is given, has these leaves
abbrev pub IsClassKnown : List LeafClass → Option ℕ → List Leaf → Type 0
IsClassKnown classes class leaves = IfSome class (λ number. class_leaves classes number ≡ Some leaves)

-- the containers of a template are of these classes
pub record HasClasses (classes : List LeafClass) (t : Template) (found : ContainerClasses) : Type 0 where
  pub input : IsClassKnown classes found.input (out-Graph t.graph).input.leaves
  pub output : IsClassKnown classes found.output (out-Graph t.graph).output.leaves

-- so are those of each template, by the place of the template
abbrev pub AreClassesKnown : {S : Type 0} → List LeafClass → List Template → HashMap ℕ ContainerClasses S → Type 0
AreClassesKnown classes templates containers = (place : ℕ) (t : Template) (found : ContainerClasses)
    → slice_get templates place ≡ Some t → hash.get nat_eq containers place ≡ Some found → HasClasses classes t found

-- a class is given, and these leaves are those of a structure of it
abbrev pub IsOfClass : List LeafClass → Option ℕ → Option (List Leaf) → Type 0
IsOfClass classes None leaves = ⊥
IsOfClass classes (Some number) leaves = IsClassOf classes number leaves
