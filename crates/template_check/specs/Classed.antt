-- The classes of structures that a text adds to those of earlier texts, and those of the containers of its templates.
use Rattle.std.specs.Prelude.{◌≡◌, ℕ, Option, Some, IfSome, List, ◌++◌, slice_get}
use Rattle.flow_model.specs.declared.graphs.Template.{Template}
use Rattle.leaf_rules.specs.Classes.{AreMadeBehind, IsClassOf}
use Rattle.leaf_rules.specs.Leaves.{table_leaves}
use Rattle.leaf_rules.specs.TableClasses.{table_classes}
use Rattle.leaf_rules.specs.declared.leaf_classes.LeafClass.{LeafClass}
use Rattle.leaf_rules.specs.declared.members.LeafTable.{LeafTable}
use Rattle.process_rules.specs.Containers.{HasClasses}
use Rattle.process_rules.specs.declared.catalog.ContainerClasses.{ContainerClasses}
use Rattle.template_check.specs.declared.compiling.Compiled.{Compiled}

-- a class, where one is given, has the leaves of the structure of this name
abbrev pub IsClassNamed : LeafTable → Option ℕ → List ℕ → Type 0
IsClassNamed table class name = IfSome class (λ number.
    IsClassOf (table_classes table) number (table_leaves table name))

-- the containers of templates are of these classes, by the places of the templates
abbrev pub HaveClasses : List LeafClass → List Template → List ContainerClasses → Type 0
HaveClasses classes ts containers = (place : ℕ) (t : Template) (found : ContainerClasses) → slice_get ts place ≡ Some t
    → slice_get containers place ≡ Some found → HasClasses classes t found

-- what a text compiles to behind these classes: the classes that it adds are made of those before them, and those that
-- its containers are said to have are among all of them
pub record IsClassed (before : List LeafClass) (compiled : Compiled) : Type 0 where
  pub made : AreMadeBehind before compiled.classes
  pub containers : HaveClasses (before ++ compiled.classes) compiled.templates compiled.containers
