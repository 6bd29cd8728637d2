-- What is kept of the values of connectors in their place: how many there are, are unknown, and are true.
use Rattle.std.specs.Prelude.{◌≡◌, Bool, Option, is_none, List, length, count_by}
use Rattle.flow_model.specs.Fates.{is_yes}
use Rattle.dead_paths.specs.declared.joins.Tally.{Tally}

-- a tally counts these values
pub record Counts (t : Tally) (vs : List (Option Bool)) : Type 0 where
  pub total : t.total ≡ length vs
  pub missing : t.missing ≡ count_by is_none vs
  pub trues : t.trues ≡ count_by is_yes vs
