-- A state that begins with no transaction taken up is right, and its worklists hold nothing.
use Rattle.std.proofs.Common.{◌≡◌, ◌≤◌, [], length, ap, arith, Result, Ok, Err, OnOk, subst}
use Rattle.core_laws.proofs.Making.{blank_right}
use Rattle.worklist_laws.specs.Shelved.{IsRightAndListed}
use Rattle.flow_core.specs.Allowing.{IsBlank}
use Rattle.flow_core.specs.Summaries.{Summary, summary}
use Rattle.flow_core.specs.Judgements.{IsVerdict}
use Rattle.flow_core.specs.declared.judging.Verdict.{Verdict}
use Rattle.flow_core.specs.declared.judging.Verdict.TheVariants.{Do}
use Rattle.flow_core.specs.declared.state.Core.{Core}
use Rattle.flow_model.specs.declared.commands.Command.{Command}
use Rattle.flow_model.specs.declared.transactions.Transaction.{Transaction}
use Rattle.worklist_laws.proofs.OpenAsked.{verdict_asks}
use Rattle.worklist_laws.specs.Asking.{AsksOpen}
use Rattle.worklist_laws.proofs.Transactions.{blank_shelved}

pub begun_right : (c : Core) (s : Summary) → IsBlank c → c.kept ≡ s.transactions → summary c ≡ s → 1 ≤ s.queues → IsRightAndListed c
begun_right c s blank kept is some_ =
    let number : c.number ≡ s.transactions = ap (λ (t : Summary). t.transactions) is in
    let queues : length c.queues ≡ s.queues = ap (λ (t : Summary). t.queues) is in
    (((λ root. []), blank_right c blank (omega arith) (omega arith)), blank_shelved c blank)

-- what holds whatever a call answers holds where it succeeds
pub whatever : {T E P : Type 0} (r : Result T E) → P → OnOk r P
whatever (Ok x) holds = holds
whatever (Err e) holds = tt

-- a command that is judged to a transaction has asked that its item is open
pub asks_open : (c : Core) (command : Command) (v : Verdict) (t : Transaction) → IsVerdict c command v → v ≡ Do t → IsRightAndListed c → AsksOpen c t
asks_open c command v t verdict is right = verdict_asks c command t (subst (IsVerdict c command) is verdict)
