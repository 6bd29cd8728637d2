use Rattle.text_words.proofs.Writing.{complete_behind}
use Rattle.text_words.proofs.fate.write_complete.Goals as goal

pub returns : goal.returns
returns c =
    complete_behind c.args.leaves.now c.args.output.now c.args.out.now.items c.write_counted.new.out.items c.write_container.new.out.items c.len.result c.len.ensures c.in_ok-write_counted.ensures
    c.in_ok-write_container.ensures
