use Rattle.std.proofs.Common.{◌≡◌, take}
use Rattle.flow_model.specs.declared.instances.Path.{Path}
use Rattle.certificates.specs.Told.{accepted}
use Rattle.certificates.specs.Kept.{accepted_by}
use Rattle.certificates.proofs.grounds.given_of.Given as goal

abbrev pub invariant-loop-fact : goal.invariant-loop-fact
invariant-loop-fact l = (p : Path) → accepted_by l.given p ≡ accepted (take l.fact-index l.facts) p
