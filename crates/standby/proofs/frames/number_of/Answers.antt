use Rattle.std.specs.Int.{w8}
use Rattle.std.proofs.Math.Facts.{Fits-lt-pow}
use Rattle.std.proofs.lemmas.Nat.{be_bytes_8}
use Rattle.standby.proofs.frames.number_of.Goals as goal

pub returns : goal.returns
returns c = be_bytes_8 c.args.bytes.now c.from_be_bytes.result c.requires (λ i. Fits-lt-pow {w = w8} (c.type_inv.bytes i)) c.from_be_bytes.ensures
