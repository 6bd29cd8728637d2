-- What a text compiles to: a template for each of its processes, in the order of the text.
use Rattle.std.specs.Prelude.{◌≡◌, ℕ, ◌-◌, ◌^◌, min, Some, List, length, map, slice_get}
use Rattle.fdl_lexer.specs.Tokens.{AreTokens}
use Rattle.fdl_lexer.specs.declared.kinds.Token.{Token}
use Rattle.fdl_parser.specs.Items.{IsTree}
use Rattle.fdl_parser.specs.Tokens.{spell}
use Rattle.flow_model.specs.declared.graphs.Library.{Library}
use Rattle.flow_model.specs.declared.graphs.PersonDef.{PersonDef}
use Rattle.flow_model.specs.declared.graphs.Template.{Template}
use Rattle.flow_model.specs.declared.trees.ItemTree.{ItemTree}
use Rattle.flow_model.specs.declared.trees.PersonTree.{PersonTree}
use Rattle.flow_model.specs.declared.trees.ProcessTree.{ProcessTree}
use Rattle.flow_model.specs.declared.trees.Tree.{Tree}
use Rattle.template_check.specs.Built.{AreSoundBehind}
use Rattle.process_rules.specs.Imports.{next_version}
use Rattle.process_rules.specs.Knowing.{place_named}
use Rattle.process_rules.specs.Shapes.{shape_at, shapes_of}
use Rattle.process_rules.specs.declared.sizes.Shape.{Shape}
use Rattle.template_check.specs.Meant.{Reading, AreMeantFrom}
use Rattle.leaf_rules.specs.StructureLeaves.{Leafing, leaves_in}
use Rattle.leaf_rules.specs.Tables.{HasContainers}
use Rattle.text_graphs.specs.Graphs.{GraphAt, IsGraphOf}
use Rattle.text_graphs.specs.Texts.{people_in, processes_in, structures_in}
use Rattle.template_check.specs.declared.compiling.Compiled.{Compiled}

-- this is the tree of a text
pub record HasTree (text : List ℕ) (tree : Tree) : Type 0 where
  pub tokens : List Token
  pub scanned : AreTokens text tokens
  pub parsed : IsTree tree (spell text tokens)

-- the names of the processes of a text, in order
abbrev pub process_names : List ItemTree → List (List ℕ)
process_names items = map (λ p. p.name.name) (processes_in items)

-- the names of templates, in order
abbrev pub template_names : List Template → List (List ℕ)
template_names ts = map (λ t. t.name) ts

-- leaves that are those of the structures of a text, for the containers of its graphs and of their activities
abbrev pub AreLeavesOf : List ItemTree → Leafing → Type 0
AreLeavesOf items leaves = (g : GraphAt) → IsGraphOf items g → HasContainers (leaves_in (structures_in items)) leaves g

-- a reading of the names of a text, behind a library: the structures of containers have the leaves of their members; a
-- process is the one that stands before in the text, else the newest that was imported
pub record IsReading (library : Library) (items : List ItemTree) (reading : Reading) : Type 0 where
  pub leaves : AreLeavesOf items reading.leaves
  pub places : (number : ℕ) (name : List ℕ)
      → reading.place number name ≡ place_named library (processes_in items) number name

-- a template has the depth and the size of this shape, as far as 32 bits tell them
pub record HasShape (t : Template) (shape : Shape) : Type 0 where
  pub depth : t.depth ≡ min shape.depth (2 ^ 32 - 1)
  pub size : t.size ≡ min shape.size (2 ^ 32 - 1)

-- templates have the versions that come next behind a library, and the depths and sizes of the processes of the text
pub record HaveNumbers (library : Library) (processes : List ProcessTree) (ts : List Template) : Type 0 where
  pub versions : map (λ t. t.version) ts ≡ map (λ p. next_version library p.name.name) processes
  pub shaped : (number : ℕ) (t : Template) → slice_get ts number ≡ Some t
      → HasShape t (shape_at (shapes_of library processes) number)

-- the person that an item declares, with its roles in order
abbrev pub declared_person : PersonTree → PersonDef
declared_person p = record { name = p.name.name; roles = map (λ role. role.name) p.roles }

-- the persons of a text, in order; of two of one name the later is in force
abbrev pub declared_people : List ItemTree → List PersonDef
declared_people items = map declared_person (people_in items)

-- what a tree compiles to behind a library: templates that are sound, named as the processes and numbered, whose graphs
-- are meant by them, and the persons that it declares
pub record AreBuilt (library : Library) (items : List ItemTree) (compiled : Compiled) : Type 0 where
  pub people : compiled.people ≡ declared_people items
  pub numbered : HaveNumbers library (processes_in items) compiled.templates
  pub sound : AreSoundBehind (length library.templates) compiled.templates
  pub named : template_names compiled.templates ≡ process_names items
  pub reading : Reading
  pub read : IsReading library items reading
  pub meant : AreMeantFrom reading 0 (processes_in items) compiled.templates

-- what a text compiles to is named as its processes
pub record IsNamedBy (text : List ℕ) (ts : List Template) : Type 0 where
  pub tree : Tree
  pub has : HasTree text tree
  pub named : template_names ts ≡ process_names tree.items

-- the graphs of what a text compiles to are those of its processes, in order: there is one reading of its names, the
-- same for all of them, by which each is meant; their versions, depths and sizes are those that the library and the
-- text give
pub record IsMeantBy (text : List ℕ) (library : Library) (ts : List Template) : Type 0 where
  pub tree : Tree
  pub has : HasTree text tree
  pub reading : Reading
  pub read : IsReading library tree.items reading
  pub meant : AreMeantFrom reading 0 (processes_in tree.items) ts
  pub numbered : HaveNumbers library (processes_in tree.items) ts

-- the persons of what a text compiles to are those that it declares
pub record HasPeopleOf (text : List ℕ) (people : List PersonDef) : Type 0 where
  pub tree : Tree
  pub has : HasTree text tree
  pub declared : people ≡ declared_people tree.items
