-- What a contract sees of a map: the numbers that have a value, each with it.
use Rattle.std.specs.Prelude.{ℕ, List, Option, refl}
use Rattle.std.specs.BTreeMap.{is_at}
use Rattle.std.specs.Coded.{Coded, code_by, coded×, coded_ℕ, coded_list}
use Rattle.std.specs.Map.{lookup}
use Rattle.std.specs.Ordering.{nat_cmp}

-- the numbers that have a value, each with it, by rising number
pub record NumberMap (V : Type 0) : Type 0 where
  pub entries : List (ℕ × V)

-- a map is stored as its entries
abbrev pub entries_code : {V : Type 0} → Coded V → Coded (NumberMap V)
entries_code {V} code =
    code_by (List (ℕ × V)) (coded_list (coded× coded_ℕ code)) (λ m. m.entries) (λ es. record { entries = es }) (λ _. refl)

-- the value under a number, if there is one
abbrev pub value_under : {V : Type 0} → ℕ → NumberMap V → Option V
value_under number m = lookup (is_at (nat_cmp number)) m.entries
