use Rattle.machine_laws.specs.Viewed.{view}
use Rattle.reopening_laws.proofs.Admitted.{command_admitted}
use Rattle.reopening_laws.proofs.Codes.{items_have_codes}
use Rattle.reopening_laws.proofs.laws.commands_are_admitted.Goals as goal

pub returns : goal.returns
returns c = λ a command t keyed coded kept is.
    command_admitted a keyed (items_have_codes (view a) coded) kept command t is
