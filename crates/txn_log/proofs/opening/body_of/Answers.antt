use Rattle.std.proofs.Common.{◌+◌, ◌*◌, ◌≤◌, ◌∙◌, ap, sym, subst, length, List, ℕ}
use Rattle.txn_log.specs.Outlines.{outline_of}
use Rattle.txn_log.specs.Stored.{slot_state}
use Rattle.txn_log.specs.Walks.{payloads_from}
use Rattle.txn_log.proofs.Walks.{good_as, good_bounded, holds}
use Rattle.txn_log.proofs.opening.body_of.Goals as goal

pub new-requires : goal.new-requires
new-requires c =
    let is = sym c.in-Good.is ∙ c.outline.ensures ∙ ap (λ (l : List ℕ). outline_of (slot_state l)) c.deref.ensures.value in
    holds c.args.bytes.items c.in-Good.frame c.requires (good_as c.args.bytes.items c.in-Good.frame is)

pub invariant_of-result : goal.invariant_of-result
invariant_of-result c =
    let f = c.in-Good.frame in
    let is = sym c.in-Good.is ∙ c.outline.ensures ∙ ap (λ (l : List ℕ). outline_of (slot_state l)) c.deref.ensures.value in
    let good = good_as c.args.bytes.items f is in
    record {
      bounded = subst (λ (ps : List (List ℕ)). f.end ≤ 42 + 2097157 * length ps) (sym c.new.ensures)
          (good_bounded c.args.bytes.items f.header (payloads_from 42 c.args.bytes.items) f.end good.state);
    }
