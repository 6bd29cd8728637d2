use Rattle.std.proofs.Common.{sym, arith}
use Rattle.text_graphs.specs.Texts.{activities_in}
use Rattle.text_graphs.proofs.Naming.{first_below}
use Rattle.process_rules.proofs.numbers.count_connector.Goals as goal

pub count_one-requires-clause-within : goal.count_one-requires-clause-within
count_one-requires-clause-within c =
    let below = first_below _ (activities_in c.args.scope.now.elements.now) c.in-Some.to (sym c.in-Some.ensures) in
    omega (arith, c.requires.wide, below)
