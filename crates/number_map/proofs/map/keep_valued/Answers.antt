use Rattle.std.proofs.Common.{rules}
use Rattle.std.proofs.lemmas.Fn.{filter_same}
use Rattle.number_map.specs.Rows.{has_value}
use Rattle.number_map.proofs.map.keep_valued.Goals as goal

pub returns : goal.returns
returns g c = filter_same _ has_value _ (λ x b f' k. search rules) c.args.rows.now.items c.retain.new.self.items c.retain.ensures.filtered
