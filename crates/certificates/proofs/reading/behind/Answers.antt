use Rattle.std.proofs.Common.{◌≡◌, ℕ, ◌==◌, eqb-true, eq-eqb}
use Rattle.std.proofs.lemmas.Slice.Eq.{strip_prefix_is}
use Rattle.std.specs.Bool.{Decides}
use Rattle.certificates.proofs.reading.behind.Goals as goal

numbers_decide : (a b : ℕ) → Decides (a == b) (a ≡ b)
numbers_decide a b = (eqb-true a b, eq-eqb a b)

pub returns : goal.returns
returns c = strip_prefix_is numbers_decide c.args.bytes.now c.args.front.now c.strip_prefix.result c.strip_prefix.ensures.cases
