use Rattle.std.proofs.Common.{◌≡◌, ◌∙◌, ◌⊎◌, ◌<◌, ◌≤◌, inl, inr, ℕ, ap, arith, length, refl}
use Rattle.standby.specs.Frames.{StopsFrame, head_bytes}
use Rattle.standby.specs.Readers.{Gives, ahead}
use Rattle.standby.proofs.Ended.{stops}
use Rattle.standby.proofs.Parts.{stops_length, ends_in_length, other_length}
use Rattle.standby.proofs.reading.read_length.Goals as goal

none_or_more : (len : ℕ) → (len < 1) ⊎ ((1 ≤ len) × (2097152 < len)) → (len ≡ 0) ⊎ (2097152 < len)
none_or_more len (inl none) = inl (omega arith)
none_or_more len (inr more) = inr more.1

pub returns-in_err-read-clause-reads : goal.returns-in_err-read-clause-reads
returns-in_err-read-clause-reads g c before taken =
    let mid = ahead c.args.blocks.now (g.S.Source.left c.args.src.now) in
    let after = ahead c.read.new.self (g.S.Source.left c.read.new.src) in
    let stop = c.in_err-read.field-0.0 in
    stops (λ len. Gives c.args.place before after (head_bytes len)) (StopsFrame c.args.place c.args.number before after) c.from_residual.result stop c.from_residual.ensures.1
    (stops_length c.args.place c.args.blocks.now.place c.args.number before mid after c.read.new.out.items stop c.requires taken c.in_err-read.ensures.reads)

pub returns-in_default-clause-reads : goal.returns-in_default-clause-reads
returns-in_default-clause-reads g c before taken =
    let mid = ahead c.args.blocks.now (g.S.Source.left c.args.src.now) in
    let after = ahead c.read.new.self (g.S.Source.left c.read.new.src) in
    let ends = ends_in_length c.args.place c.args.blocks.now.place before mid after c.read.new.out.items c.in_ok-read.field-0 c.requires taken c.in_ok-read.ensures.reads (λ four. c.in_default.ensures (ap length c.deref.ensures.value ∙ four)) in
    (refl, ends.0, ends.1)

pub returns-then-len-lt1-clause-reads : goal.returns-then-len-lt1-clause-reads
returns-then-len-lt1-clause-reads g c before taken =
    let mid = ahead c.args.blocks.now (g.S.Source.left c.args.src.now) in
    let after = ahead c.read.new.self (g.S.Source.left c.read.new.src) in
    (refl, other_length c.args.place c.args.blocks.now.place c.in-Some.len before mid after c.read.new.out.items c.in_ok-read.field-0 c.requires taken c.in_ok-read.ensures.reads (c.in-Some.ensures.1 ∙ c.deref.ensures.value) c.in-Some.ensures.0 (none_or_more c.in-Some.len c.then-len-lt1.either))
