use Rattle.std.proofs.Common.{◌≡◌, ◌∙◌, ◌++◌, ap, sym, subst, ◌≤◌, length, take, drop, ℕ, rules}
use Rattle.flow_disk.specs.Images.{Image, bytes_in}
use Rattle.txn_log.proofs.Blocks.{elapses_more, read_more}
use Rattle.txn_log.proofs.reading.read_by.Goals as goal

pub blocks_left-preserved : goal.blocks_left-preserved
blocks_left-preserved g c =
    let d = g.D.Disk in
    let i = c.blocks_left.invariant in
    let more : c.extend_from_slice.new.self.items ≡ c.blocks_left.bytes.items ++ take c.in_ok-count.count c.read_at.new.buf = search rules in
    let same : c.len.result ≡ length c.blocks_left.bytes.items = search rules in
    let both = λ (told : g.D.Disk.tells).
    let reads = c.in_ok-count.ensures.bytes told in
    read_more c.blocks_left.bytes.items c.extend_from_slice.new.self.items c.read_at.new.buf (bytes_in (d.seen c.blocks_left.disk) c.args.slot) c.in_ok-count.count (i.read told) (i.within told) (subst (λ (k : ℕ). take c.in_ok-count.count c.read_at.new.buf ≡ take c.in_ok-count.count (drop k (bytes_in (d.seen c.blocks_left.disk) c.args.slot))) same reads.part) (subst (λ (k : ℕ). c.in_ok-count.count ≤ length (drop k (bytes_in (d.seen c.blocks_left.disk) c.args.slot))) same reads.within) more in
    record {
      read = λ told. (both told).0 ∙ ap (λ (s : Image). take (length c.extend_from_slice.new.self.items) (bytes_in s c.args.slot)) (sym c.read_at.ensures.seen);
      within = λ told. subst (λ (s : Image). length c.extend_from_slice.new.self.items ≤ length (bytes_in s c.args.slot)) (sym c.read_at.ensures.seen) (both told).1;
      seen = c.read_at.ensures.seen ∙ i.seen;
      crash = λ image left. i.crash image (c.read_at.ensures.crash image left);
      time = elapses_more _ _ _ _ _ _ _ _ _ i.time i.crash c.read_at.ensures.crash c.read_at.ensures.time;
      faults = c.in_ok-count.ensures.cause.ok ∙ i.faults;
    }
