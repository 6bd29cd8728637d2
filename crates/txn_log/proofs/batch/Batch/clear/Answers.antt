use Rattle.std.proofs.Common.{◌∙◌, ap, sym, subst, ℕ, List}
use Rattle.txn_log.specs.Batches.{AreRecords, payloads_in}
use Rattle.txn_log.proofs.Batches.{are_none, none_in}
use Rattle.txn_log.proofs.batch.Batch.clear.Goals as goal

pub invariant_of-self : goal.invariant_of-self
invariant_of-self c = subst (λ (l : List ℕ). AreRecords l 0) (sym c.clear.ensures.items) are_none

pub returns : goal.returns
returns c = ap payloads_in c.clear.ensures.items ∙ none_in
