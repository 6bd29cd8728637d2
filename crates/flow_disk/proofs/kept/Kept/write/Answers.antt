use Rattle.std.proofs.Common.{◌≡◌, rules, ◌∙◌, ap, List, ℕ}
use Rattle.flow_disk.specs.Contents.{image_of}
use Rattle.flow_disk.specs.Images.{spliced}
use Rattle.flow_disk.proofs.Records.{read_pushed}
use Rattle.flow_disk.proofs.kept.Kept.write.Goals as goal

pub invariant_of-self-2 : goal.invariant_of-self-2
invariant_of-self-2 c =
    let same : c.in_ok-piece.piece.items ≡ c.args.bytes.now = search rules in
    let cut : c.in_ok-next.next.items ≡ spliced c.bytes.result.now c.args.at c.args.bytes.now = search rules in
    record {
      replayed = read_pushed (image_of c.args.self.now.first) (image_of c.args.self.now.contents) c.args.self.now.changes.items c.push.new.self.items c.args.slot c.args.at c.in_ok-piece.piece
          c.args.bytes.now c.in_ok-next.next.items (image_of c.put.new.self) c.in_ok-push.ensures.items c.args.self.now.replayed same
          (cut ∙ ap (λ (l : List ℕ). spliced l c.args.at c.args.bytes.now) c.bytes.ensures) c.put.ensures;
    }

pub returns-clause-ok : goal.returns-clause-ok
returns-clause-ok c =
    let same : c.in_ok-piece.piece.items ≡ c.args.bytes.now = search rules in
    (c.in_ok-piece.piece, same, c.in_ok-push.ensures.items)
