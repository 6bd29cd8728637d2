use Rattle.std.proofs.Common.{◌++◌, subst}
use Rattle.flow_words.specs.Loading.{root_script, drained, start_line, force_line, force_with, way, Serves}
use Rattle.flow_words.proofs.Loads.{serves_behind}
use Rattle.flow_words.proofs.load.Loading.root.Goals as goal

pub returns : goal.returns
unfolding root_script
returns c =
    let a = c.args.self.now in
    let r = c.args.root in
    let x = c.args.amount in
    let first = serves_behind (drained (start_line x)) (drained (force_with r 65 x)) a c.start.new.self c.force_first.new.self c.in_ok-start.ensures c.in_ok-force_first.ensures in
    let chosen = subst (λ letter. Serves (drained (force_line r letter)) c.force_first.new.self c.force.new.self) c.way.ensures c.in_ok-force.ensures in
    serves_behind (drained (start_line x) ++ drained (force_with r 65 x) ++ drained (force_line r (way x))) (drained (force_line r 68)) a c.force.new.self c.force-2.new.self
    (serves_behind (drained (start_line x) ++ drained (force_with r 65 x)) (drained (force_line r (way x))) a c.force_first.new.self c.force.new.self first chosen) c.in_ok-force-2.ensures
