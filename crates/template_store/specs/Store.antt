-- The library of the imports, and what an import adds to it.
use Rattle.std.specs.Prelude.{◌≡◌, ℕ, ◌==◌, ◌&&◌, Bool, true, false, Result, Ok, Err, Option, List, ◌++◌}
use Rattle.std.specs.Prelude.{length, position, bytes_eq}
use Rattle.flow_model.specs.declared.graphs.Library.{Library}
use Rattle.template_check.specs.Built.{AreSoundBehind}
use Rattle.template_check.specs.Compiling.{HasPeopleOf, IsNamedBy, IsMeantBy}
use Rattle.template_check.specs.Judged.{IsFaultless}
use Rattle.template_check.specs.declared.faults.ImportFault.{ImportFault}
use Rattle.template_check.specs.declared.faults.ImportFault.TheVariants.{Rule, NoMemory}
use Rattle.template_check.specs.declared.compiling.Compiled.{Compiled}

-- the first place of this version of a name
abbrev pub version_place : Library → List ℕ → ℕ → Option ℕ
version_place library name version = position (λ t. t.version == version && bytes_eq t.name name) library.templates

-- the library with what a text compiled to behind it
abbrev pub with_compiled : Library → Compiled → Library
with_compiled library added = record {
  templates = library.templates ++ added.templates;
  people = library.people
      ++ added.people;
}

-- A library gets what a text compiles to behind what it has: the templates of its processes, named as these, whose
-- graphs are what the text means, where its names are looked up in it and then in the library before, with their
-- versions, depths and sizes; and the persons that it declares.
pub record AddsText (text : List ℕ) (old : Library) (new : Library) : Type 0 where
  pub added : Compiled
  pub named : IsNamedBy text added.templates
  pub meant : IsMeantBy text old added.templates
  pub people : HasPeopleOf text added.people
  pub behind : new ≡ with_compiled old added

-- A text may be imported behind a library, and this is what it compiles to: templates that are sound behind those that
-- are there, and are named and mean what the text says, and the persons that it declares.
pub record CompilesTo (library : Library) (text : List ℕ) (compiled : Compiled) : Type 0 where
  pub sound : AreSoundBehind (length library.templates) compiled.templates
  pub named : IsNamedBy text compiled.templates
  pub meant : IsMeantBy text library compiled.templates
  pub people : HasPeopleOf text compiled.people
  pub faultless : IsFaultless library text

-- a text is refused for a rule that it breaks
abbrev pub is_refusal : {X : Type 0} → Result X ImportFault → Bool
is_refusal (Ok x) = false
is_refusal (Err (Rule fault)) = true
is_refusal (Err NoMemory) = false
