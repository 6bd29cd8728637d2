-- People in a map by their names, read as a list.
use Rattle.std.specs.Prelude.{ℕ, List, map}
use Rattle.std.specs.Borrow.{Bor}
use Rattle.std.specs.BTreeMap.{BTreeMap}
use Rattle.flow_model.specs.declared.graphs.PersonDef.{PersonDef}
use Rattle.deadlines.specs.Lateness.{People}

-- the entries, in order
abbrev pub entries_read : List (Bor (List ℕ) × Bor PersonDef) → People
entries_read entries = map (λ e. (e.0.now, e.1.now)) entries

abbrev pub roll : BTreeMap (Bor (List ℕ)) (Bor PersonDef) → People
roll people = entries_read people.entries
