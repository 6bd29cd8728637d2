use Rattle.std.proofs.Common.{refl, rules}
use Rattle.text_words.proofs.Limits.{ends_ahead, ends_behind}
use Rattle.text_words.proofs.Gathering.{keeps_none, keeps_more}
use Rattle.text_words.proofs.input.all_lines.Goals as goal

pub turns-init : goal.turns-init
turns-init g c = record {
  counted = refl;
  ahead = rw c.in_ok-lines.ensures (ends_ahead (g.S.Source.left c.args.src.now));
  so_far = rw c.in_ok-lines.ensures (keeps_none (g.S.Source.left c.args.src.now) c.new-kept.result.items (search rules));
}

pub turns-preserved : goal.turns-preserved
turns-preserved g c = record {
  counted = search rules;
  ahead = ends_behind (g.S.Source.left c.args.src.now) (g.S.Source.left c.turns.src) (g.S.Source.left c.next.new.src) c.turns.lines c.next.new.self c.in_ok-found.found c.turns.invariant.ahead c.in_ok-found.ensures.serves (search rules);
  so_far = keeps_more (g.S.Source.left c.args.src.now) (g.S.Source.left c.turns.src) (g.S.Source.left c.next.new.src) c.turns.lines c.next.new.self c.in_ok-found.found c.turns.kept.items c.keep.new.kept.items c.turns.invariant.so_far c.in_ok-found.ensures.serves (search rules)
      (rw c.text.ensures at c.in_ok-keep.ensures);
}
