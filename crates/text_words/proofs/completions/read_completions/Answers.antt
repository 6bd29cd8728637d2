use Rattle.std.proofs.Common.{List, refl, subst, sym}
use Rattle.std.proofs.Math.ListN.{drop_of_length-le}
use Rattle.text_words.specs.Completions.{AreRead, said}
use Rattle.text_words.specs.declared.input.Numbered.{Numbered}
use Rattle.text_words.proofs.Reading.{next_line}
use Rattle.text_words.proofs.completions.read_completions.Goals as goal

pub loop-numbered-preserved : goal.loop-numbered-preserved
loop-numbered-preserved c =
    next_line c.args.library.now.templates c.args.graph.now c.args.lines.now c.loop-numbered.numbered-index c.numbered-item.result (said c.loop-numbered.read) (said c.add_next.new.self) c.loop-numbered-test.true
    c.numbered-item.is
    c.in_ok-add_next.ensures
    c.loop-numbered.invariant

pub returns : goal.returns
returns c =
    let read = said c.loop-numbered.read in
    c.loop-numbered.invariant read
    (subst (λ (lines : List Numbered). AreRead c.args.library.now.templates c.args.graph.now lines read read) (sym (drop_of_length-le c.args.lines.now c.loop-numbered-test.false)) refl)
