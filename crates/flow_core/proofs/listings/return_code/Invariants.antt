use Rattle.std.proofs.Common.{◌≡◌, drop}
use Rattle.flow_core.specs.Answers.{code_after, return_code}
use Rattle.flow_core.proofs.listings.return_code.Given as goal

abbrev pub invariant-loop-setting : goal.invariant-loop-setting
invariant-loop-setting l = code_after l.code (drop l.setting-index l.settings) ≡ return_code l.settings
