use Rattle.std.proofs.Common.{refl, subst, map, []}
use Rattle.std.proofs.lemmas.List.{append-nil}
use Rattle.std.proofs.lemmas.Map.Iter.{rest_more}
use Rattle.flow_core.specs.OpenItems.{told_of, AreOpenIn}
use Rattle.flow_core.proofs.OpenRoots.{AreLeft, next_root}
use Rattle.flow_core.proofs.state.Core.open_items.Goals as goal

pub loop-number-preserved : goal.loop-number-preserved
loop-number-preserved c =
    let all = c.args.self.now.live_roots.entries in
    let left = c.next.new.self in
    let found = map told_of c.loop-number.found.items in
    let e = rest_more (λ item. (item.0, item.1.now)) c.loop-number._number-iterator left c.next.result (c.in-Some._number, c.in-Some.root) c.in-Some.is c.next.ensures.steps in
    next_root c.args.self.now all left (c.in-Some._number, c.in-Some.root.now) found (map told_of c.add_open_items.new.found.items)
    (subst (λ roots. AreLeft c.args.self.now all roots found) e c.loop-number.invariant) c.in_ok-add_open_items.ensures

pub returns : goal.returns
returns c =
    let all = c.args.self.now.live_roots.entries in
    let found = map told_of c.loop-number.found.items in (
      c.iter-number-items.ensures.rising,
      subst (AreOpenIn c.args.self.now all) (append-nil found)
          (subst (λ roots. AreLeft c.args.self.now all roots found) c.in-None.ensures.steps.0 c.loop-number.invariant [] refl),
    )
