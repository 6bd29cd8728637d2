use Rattle.std.proofs.Common.{◌≡◌, ℕ, ◌+◌, ◌∙◌, ◌∷◌, [], ◌++◌, ap, sym, subst, length, List, arith, rules}
use Rattle.txn_log.specs.Batches.{AreRecords, payloads_in}
use Rattle.txn_log.proofs.Batches.{count_few, more_in, are_more}
use Rattle.txn_log.proofs.batch.Batch.push.Goals as goal

pub overflow_add-self : goal.overflow_add-self
overflow_add-self c =
    let size : c.len-len.result ≡ length c.self.inside.bytes.items = search rules in
    omega (arith, size, c.len-len.type_inv, count_few c.self.inside.bytes.items c.self.inside.count c.self.invariant)

pub invariant_of-self : goal.invariant_of-self
invariant_of-self c =
    subst (λ (l : List ℕ). AreRecords l (c.self.inside.count + 1)) (sym c.in-Ok.ensures.put)
    (are_more c.self.inside.bytes.items c.self.inside.count c.self.invariant c.args.payload.now c.requires)

pub returns-in-Ok : goal.returns-in-Ok
returns-in-Ok c =
    ap payloads_in c.in-Ok.ensures.put
    ∙ (more_in c.self.inside.bytes.items c.self.inside.count c.self.invariant c.args.payload.now c.requires
    ∙ ap (λ (l : List (List ℕ)). l ++ c.args.payload.now ∷ []) c.self.view_is)
