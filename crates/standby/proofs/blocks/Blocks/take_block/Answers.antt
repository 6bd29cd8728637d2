use Rattle.std.proofs.Common.{arith, rules}
use Rattle.std.proofs.lemmas.Bool.{ltb-true, ltb-false}
use Rattle.std.proofs.lemmas.List.{with_items_is, places}
use Rattle.standby.proofs.Ahead.{looked}
use Rattle.standby.proofs.blocks.Blocks.take_block.Goals as goal

pub returns-in-Ok-clause-looks : goal.returns-in-Ok-clause-looks
returns-in-Ok-clause-looks g c =
    rw (with_items_is c.self.inside.block c.take.new.buf (search (rules, places)))
    (looked c.args.self.now.held c.take.new.buf (g.S.Source.left c.args.src.now) (g.S.Source.left c.take.new.self) c.in-Ok.count _ c.requires (λ is. ltb-true 0 c.in-Ok.count is) (λ is. let le = ltb-false 0 c.in-Ok.count is in omega arith) c.in-Ok.ensures.bound c.in-Ok.ensures.bytes.0 (λ none. c.in-Ok.ensures.bytes.1 none (omega (arith, c.self.invariant.block_in, c.take.auto.buf))))
