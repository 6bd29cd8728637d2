use Rattle.std.proofs.Common.{map, string_bytes}
use Rattle.flow_words.specs.Numbers.{AreSettings}
use Rattle.flow_words.proofs.Saying.{no_new, files_not}
use Rattle.flow_words.proofs.word.new_word.Goals as goal

pub returns-in_err-settings : goal.returns-in_err-settings
returns-in_err-settings c = rw c.from_residual-in_err-settings.ensures (no_new (map string_bytes c.args.rest.now)
    (λ own. files_not (λ words. AreSettings words own.queues own.limit) (map string_bytes c.args.rest.now) (map string_bytes c.in_ok-behind_files.field-0.now) c.in_ok-behind_files.ensures.some (c.in_err-settings.ensures.none own.queues own.limit)))
