use Rattle.std.proofs.Common.{rules}
use Rattle.flow_session.specs.Inputs.{Line}
use Rattle.flow_words.proofs.Loads.{serves_one}
use Rattle.flow_words.proofs.load.Loading.line.Goals as goal

pub returns-in_ok-self-in-Ok : goal.returns-in_ok-self-in-Ok
returns-in_ok-self-in-Ok c =
    serves_one (Line c.args.line.now) c.in-Ok.reply.items c.args.self.now _
    (record {
      served = c.in-Ok.ensures.served;
      makes = record {
        transactions = c.in-Ok.ensures.makes.transactions;
        any_moment = c.in-Ok.ensures.makes.any_moment;
        fit = c.in-Ok.ensures.makes.fit;
        ended = c.in-Ok.ensures.makes.ended.leads;
      };
      asked = c.in-Ok.ensures.makes.ended.asked;
      kept = c.in-Ok.ensures.kept;
      right = c.in-Ok.ensures.right;
      stays = c.in-Ok.ensures.place;
      moves = c.in-Ok.ensures.moved;
    })
    (search rules)
