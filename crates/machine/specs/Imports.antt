-- What an import adds to a library.
use Rattle.std.specs.Prelude.{◌≡◌, ℕ, List, [], ◌++◌}
use Rattle.flow_model.specs.declared.graphs.Library.{Library}
use Rattle.flow_model.specs.declared.graphs.PersonDef.{PersonDef}
use Rattle.flow_model.specs.declared.graphs.Template.{Template}
use Rattle.flow_model.specs.declared.transactions.Transaction.{Transaction}
use Rattle.flow_model.specs.declared.transactions.Transaction.TheVariants.{Import}
use Rattle.template_check.specs.Compiling.{HasPeopleOf, IsNamedBy, IsMeantBy}
use Rattle.template_check.specs.Judged.{IsFaultless}

-- the templates and people that an Import adds
pub record Added : Type 0 where
  pub templates : List Template
  pub people : List PersonDef

-- what every transaction but an Import adds: no template and no person
abbrev pub nothing_added : Added
nothing_added = record { templates = []; people = [] }

-- a library with templates and people added at its end
abbrev pub with_added : Added → Library → Library
with_added added library = record {
  templates = library.templates ++ added.templates;
  people = library.people ++ added.people;
}

-- what a text that breaks no rule means behind a library: the templates of its processes, with their versions, depths
-- and sizes, and the persons that it declares
pub record IsMeaning (library : Library) (text : List ℕ) (added : Added) : Type 0 where
  pub faultless : IsFaultless library text
  pub named : IsNamedBy text added.templates
  pub meant : IsMeantBy text library added.templates
  pub people : HasPeopleOf text added.people

-- what a transaction adds: an Import what its text means, every other one nothing
abbrev pub Adds : Library → Transaction → Added → Type 0
Adds library (Import text) added = IsMeaning library text added
Adds library t added = added ≡ nothing_added
