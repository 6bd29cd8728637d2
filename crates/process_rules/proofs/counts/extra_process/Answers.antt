use Rattle.flow_model.specs.declared.trees.ProcessTree.{ProcessTree}
use Rattle.std.proofs.Common.{Bor, map}
use Rattle.process_rules.proofs.Extra.{extra_found, extra_none}
use Rattle.process_rules.proofs.counts.extra_process.Goals as goal

pub returns-in-None : goal.returns-in-None
returns-in-None c = extra_none (λ (x : ProcessTree). x.place) (map (λ (p : Bor ProcessTree). p.now) c.args.processes.now) 256 c.in-None.ensures

pub returns-in-Some : goal.returns-in-Some
returns-in-Some c = extra_found (λ (x : ProcessTree). x.place) (map (λ (p : Bor ProcessTree). p.now) c.args.processes.now) 256 c.in-Some.process.now c.in-Some.ensures
