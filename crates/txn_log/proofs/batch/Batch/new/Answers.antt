use Rattle.std.proofs.Common.{◌∙◌, ap, sym, subst, ℕ, List}
use Rattle.txn_log.specs.Batches.{AreRecords, payloads_in}
use Rattle.txn_log.proofs.Batches.{are_none, none_in}
use Rattle.txn_log.proofs.batch.Batch.new.Goals as goal

pub invariant_of-result : goal.invariant_of-result
invariant_of-result c = subst (λ (l : List ℕ). AreRecords l 0) (sym c.new.ensures.items) are_none

pub returns : goal.returns
returns c = ap payloads_in c.new.ensures.items ∙ none_in
