use Rattle.std.proofs.Common.{ℕ, Option, length, ap, ◌∙◌}
use Rattle.std.specs.Prelude.{◌==◌, unwrap_or}
use Rattle.flow_model.proofs.Steps.{place_or_len}
use Rattle.flow_model.proofs.path_reading.front_len.Goals as goal

pub returns-in-None-clause-front : goal.returns-in-None-clause-front
returns-in-None-clause-front c =
    ap (λ (o : Option ℕ). unwrap_or o (length c.args.bytes.now)) c.in-None.ensures ∙ place_or_len (λ b. b == c.args.mark) c.args.bytes.now
