use Rattle.machine_scopes.proofs.Turns.{completions_are_moves}
use Rattle.machine_scopes.proofs.laws.completions_are_moves.Goals as goal

pub returns : goal.returns
returns c = λ ts clock item d g s s' given items meets is. completions_are_moves ts clock item d g s s' given items
    meets is
