use Rattle.fdl_parser.proofs.SameItems.{trees_are_one}
use Rattle.fdl_parser.proofs.laws.trees_are_one.Goals as goal

pub returns : goal.returns
returns c = trees_are_one
