-- A history as contracts see it.
use Rattle.std.specs.Prelude.{List}
use Rattle.flow_model.specs.declared.transactions.Numbered.{Numbered}

-- the live transactions, the oldest first
pub record Live : Type 0 where
  pub items : List Numbered
