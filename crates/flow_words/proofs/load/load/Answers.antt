use Rattle.flow_words.proofs.Loads.{loaded}
use Rattle.flow_words.proofs.load.load.Goals as goal

pub returns : goal.returns
returns c =
    loaded c.args.seed c.args.roots c.in_ok-line.line.items c.in_ok-load.load c.import.new.self c.roots.new.self c.in_ok-load.ensures.fresh c.in_ok-load.ensures.none c.in_ok-import.ensures c.in_ok-roots.ensures c.in_ok-line.ensures
