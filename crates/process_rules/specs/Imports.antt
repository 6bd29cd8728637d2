-- Where the newest of each name stands in a library.
use Rattle.std.specs.Prelude.{ℕ, ◌+◌, ◌-◌, ◌^◌, min, Option, Some, None, List}
use Rattle.std.specs.Prelude.{bytes_eq, slice_get}
use Rattle.std.specs.Option.{option_and_then}
use Rattle.flow_model.specs.declared.graphs.Library.{Library}
use Rattle.flow_model.specs.declared.graphs.PersonDef.{PersonDef}
use Rattle.flow_model.specs.declared.graphs.Template.{Template}
pub use Rattle.process_rules.specs.Indexes.{last_place}

-- the place of the newest template of a name
abbrev pub newest_place : Library → List ℕ → Option ℕ
newest_place library name = last_place (λ t. bytes_eq t.name name) library.templates

-- one more than the version of a template, as far as 32 bits tell it; 1 where there is none
abbrev pub version_behind : Option Template → ℕ
version_behind None = 1
version_behind (Some t) = min (t.version + 1) (2 ^ 32 - 1)

-- the version of the next template of a name
abbrev pub next_version : Library → List ℕ → ℕ
next_version library name =
    version_behind (option_and_then (λ place. slice_get library.templates place) (newest_place library name))

-- the place of the latest declaration of a person
abbrev pub latest_place : Library → List ℕ → Option ℕ
latest_place library name = last_place (λ q. bytes_eq q.name name) library.people

-- the latest declaration of a person
abbrev pub latest_person : Library → List ℕ → Option PersonDef
latest_person library name = option_and_then (λ place. slice_get library.people place) (latest_place library name)
