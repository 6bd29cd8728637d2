-- The places that a rule looks for in conditions.
use Rattle.std.specs.Prelude.{ℕ}
use Rattle.flow_model.specs.declared.trees.CondAt.{CondAt}
use Rattle.process_rules.specs.Counts.{IsLarge}
use Rattle.process_rules.specs.Numbers.{IsUnsized}
use Rattle.process_rules.specs.declared.said.Looked.{Looked}
use Rattle.process_rules.specs.declared.said.Looked.TheVariants as looked

-- rule 23 looks for numbers without 64 bits, rule 24 for large conditions
abbrev pub looked_for : Looked → CondAt → ℕ → Type 0
looked_for looked.Numbers = IsUnsized
looked_for looked.Sizes = IsLarge
