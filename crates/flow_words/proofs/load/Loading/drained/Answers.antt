use Rattle.std.proofs.Common.{◌∷◌, [], codes}
use Rattle.flow_session.specs.Inputs.{Line}
use Rattle.flow_words.proofs.Loads.{serves_behind}
use Rattle.flow_words.proofs.load.Loading.drained.Goals as goal

pub returns : goal.returns
returns c = serves_behind (Line c.args.line.now ∷ []) (Line (codes "DRAIN") ∷ []) c.args.self.now c.line.new.self c.line-2.new.self c.in_ok-line.ensures c.in_ok-line-2.ensures
