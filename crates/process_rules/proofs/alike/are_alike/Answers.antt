use Rattle.std.proofs.Common.{Bor, Option, ap}
use Rattle.std.specs.Option.{option_map}
use Rattle.flow_model.specs.declared.graphs.Leaves.{Leaves}
use Rattle.process_rules.proofs.Deciding.{decides_alike}
use Rattle.process_rules.proofs.alike.are_alike.Goals as goal

pub returns-in-Some-theirs : goal.returns-in-Some-theirs
returns-in-Some-theirs c =
    let leaves = λ (o : Option (Bor Leaves)). option_map (λ (l : Bor Leaves). l.now.leaves) o in
    decides_alike (leaves c.args.ours) (leaves c.args.theirs) c.in-Some.ours.now.leaves c.in-Some-theirs.theirs.now.leaves c.same_leaves.result (ap leaves c.in-Some.is) (ap leaves c.in-Some-theirs.is) c.same_leaves.ensures
