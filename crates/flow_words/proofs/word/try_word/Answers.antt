use Rattle.std.proofs.Common.{map, string_bytes}
use Rattle.flow_words.proofs.Saying.{no_try}
use Rattle.flow_words.proofs.word.try_word.Goals as goal

pub returns-in_err-settings : goal.returns-in_err-settings
returns-in_err-settings c = rw c.from_residual.ensures (no_try (map string_bytes c.args.rest.now) c.in_err-settings.ensures.none)
