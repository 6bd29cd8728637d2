use Rattle.std.proofs.Common.{arith, refl}
use Rattle.text_words.proofs.Limits.{ends_ahead}
use Rattle.text_words.proofs.Gathering.{gathers_none}
use Rattle.text_words.proofs.input.Input.read.Goals as goal

pub turns-init : goal.turns-init
turns-init g c = record {
  counted = refl;
  within = rw c.in_ok-lines.ensures (omega arith);
  ahead = rw c.in_ok-lines.ensures (ends_ahead (g.S.Source.left c.args.src.now));
  so_far = rw (c.in_ok-lines.ensures, c.new-input.ensures) (gathers_none c.args.has_end (g.S.Source.left c.args.src.now));
}
