use Rattle.standby.proofs.Growing.{first_put}
use Rattle.standby.proofs.shipping.put.Goals as goal

pub returns-in-Err-clause-part : goal.returns-in-Err-clause-part
returns-in-Err-clause-part g c =
    let part = c.in-Err.ensures.part in
    first_put (g.K.Sink.held c.args.out.now) (g.K.Sink.held c.put_all.new.out) c.args.piece.now part.0 part.2
