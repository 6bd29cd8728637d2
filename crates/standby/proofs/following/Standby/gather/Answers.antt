use Rattle.std.proofs.Common.{◌∙◌, ◌+◌, ap, length, refl, sym, subst, List, ℕ, arith, rules}
use Rattle.standby.specs.Readers.{Reader}
use Rattle.standby.specs.Stages.{Here, Further, stage}
use Rattle.standby.specs.Waiting.{Waits}
use Rattle.standby.proofs.Ahead.{hands_more, hands_none}
use Rattle.standby.proofs.Framed.{frame_fits, passes_held}
use Rattle.standby.proofs.Waiting.{waits_none, waits_more, stop_unchanged, stop_waits, stop_reaches}
use Rattle.standby.proofs.following.Standby.gather.Goals as goal

pub held-init : goal.held-init
held-init g c = record {
  journal = refl;
  waits = waits_none c.args.self.now.core c.args.batch.now;
  counted = c.requires.counted;
  on = omega arith;
  hands = hands_none c.args.blocks.now;
  right = λ right. right;
  reached = λ _ left. Here;
}

pub held-preserved : goal.held-preserved
held-preserved g c =
    let i = c.held.invariant in
    let e = c.in-Ok.ensures in
    let payload = c.in-Some.payload.now in
    let holds = c.in-Some.ensures in
    let place = ap (λ (r : Reader). r.place) c.skip.ensures in
    record {
      journal = c.take_payload.ensures.journal ∙ i.journal;
      waits = waits_more c.args.self.now.core c.held.self.core c.take_payload.new.self.core c.args.batch.now c.held.batch c.take_payload.new.batch i.waits e.waits;
      counted = omega (arith, i.counted, e.count, place);
      on = omega (arith, i.on, place);
      hands = hands_more c.args.blocks.now c.held.blocks c.skip.new.self (5 + length payload)
          (frame_fits c.held.blocks payload holds) c.skip.ensures i.hands;
      right = λ right. e.waits.takes.leads.right (i.right right);
      reached = λ right left.
          Further (i.reached right left)
          (passes_held c.held.self.core c.held.self.taken c.held.number _
          c.take_payload.new.self.core c.take_payload.new.self.taken c.in-Some-checked_add.next c.skip.new.self
          payload payload (5 + length payload) left holds refl refl c.skip.ensures (search rules) (e.takes (i.right right)));
    }

-- where a frame isn't taken
pub returns-in-Err-clause-waits : goal.returns-in-Err-clause-waits
returns-in-Err-clause-waits g c =
    let i = c.held.invariant in
    let new = c.take_payload.new.self in
    let same = stop_unchanged c.gathered.result c.in-Err.stop c.held.self.core new.core c.held.self.taken new.taken c.gathered.ensures.unchanged c.in-Err.ensures.unchanged in
    stop_waits c.gathered.result c.args.self.now.core c.held.self.core new.core c.held.self.taken new.taken c.args.batch.now c.held.batch c.take_payload.new.batch i.waits same c.in-Err.ensures.batch

pub returns-in-Err-clause-reaches : goal.returns-in-Err-clause-reaches
returns-in-Err-clause-reaches g c right =
    let i = c.held.invariant in
    let new = c.take_payload.new.self in
    let same = stop_unchanged c.gathered.result c.in-Err.stop c.held.self.core new.core c.held.self.taken new.taken c.gathered.ensures.unchanged c.in-Err.ensures.unchanged in
    stop_reaches c.gathered.result (λ left. stage c.args.self.now.core c.args.self.now.taken c.args.last c.args.blocks.now left)
    c.held.self.core new.core c.held.self.taken new.taken c.held.number c.held.blocks same c.gathered.ensures.last (i.reached right)

-- ---- what waits

pub returns-in_default-clause-waiting : goal.returns-in_default-clause-waiting
returns-in_default-clause-waiting g c = record {
  core = c.held.self.core;
  count = c.held.self.taken;
  number = c.held.number;
  hands = c.held.invariant.hands;
  waits = c.held.invariant.waits;
  reached = c.held.invariant.reached;
}

pub returns-in_default-checked_add-clause-waiting : goal.returns-in_default-checked_add-clause-waiting
returns-in_default-checked_add-clause-waiting g c = record {
  core = c.held.self.core;
  count = c.held.self.taken;
  number = c.held.number;
  hands = c.held.invariant.hands;
  waits = c.held.invariant.waits;
  reached = c.held.invariant.reached;
}

pub returns-else-size-lt-BATCH_BYTES-clause-waiting : goal.returns-else-size-lt-BATCH_BYTES-clause-waiting
returns-else-size-lt-BATCH_BYTES-clause-waiting g c = record {
  core = c.held.self.core;
  count = c.held.self.taken;
  number = c.held.number;
  hands = c.held.invariant.hands;
  waits = c.held.invariant.waits;
  reached = c.held.invariant.reached;
}

pub returns-after-held-clause-waiting : goal.returns-after-held-clause-waiting
returns-after-held-clause-waiting g c = record {
  core = c.held.self.core;
  count = c.held.self.taken;
  number = c.held.number;
  hands = c.held.invariant.hands;
  waits = c.held.invariant.waits;
  reached = c.held.invariant.reached;
}

pub returns-in-Err-clause-waiting : goal.returns-in-Err-clause-waiting
returns-in-Err-clause-waiting g c =
    let i = c.held.invariant in
    record {
      core = c.held.self.core;
      count = c.held.self.taken;
      number = c.held.number;
      hands = i.hands;
      waits = subst (λ (batch : List (List ℕ)). Waits c.args.self.now.core c.args.batch.now c.held.self.core batch) (sym c.in-Err.ensures.batch) i.waits;
      reached = i.reached;
    }
