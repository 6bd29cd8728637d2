use Rattle.std.proofs.Common.{◌≡◌, ◌+◌, length}
use Rattle.standby.specs.Readers.{Gives, HoldsBlock, ahead}
use Rattle.standby.proofs.blocks.Blocks.read.Given as goal

abbrev pub invariant-parts : goal.invariant-parts
invariant-parts g l = record {
  counted : g.S.Source.faults l.src ≡ g.S.Source.faults l.initial.src;
  given : Gives l.initial.self.place (ahead l.initial.self (g.S.Source.left l.initial.src)) (ahead l.self (g.S.Source.left l.src)) l.out.items;
  sum : length l.out.items + l.missing ≡ l.count;
  block : HoldsBlock l.initial.self → HoldsBlock l.self;
  place : l.self.place ≡ l.initial.self.place + length l.out.items;
}

abbrev pub decreases-parts : goal.decreases-parts
decreases-parts g l = l.missing
