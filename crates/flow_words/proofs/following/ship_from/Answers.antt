use Rattle.flow_words.specs.Scripts.{status_of_word}
use Rattle.flow_words.proofs.Standby.{after_shipping}
use Rattle.flow_words.proofs.following.ship_from.Goals as goal

pub returns-in-Err-Store-clause-cause : goal.returns-in-Err-Store-clause-cause
returns-in-Err-Store-clause-cause g c read read' =
    let before = g.D.Disk.faults c.args.disk.now in
    let now = g.D.Disk.faults c.ship.new.disk in
    after_shipping c.args.from (g.K.Sink.faults c.args.out.now) (g.K.Sink.faults c.ship.new.out) (g.K.Sink.faults c.refuse.new.out) read read' before now c.in-Err-Store.field-0 (status_of_word c.refuse.result) c.in-Err-Store.ensures.cause
    (c.refuse.ensures.cause read read' before now (rw c.in-Err-Store.field-0-is at c.in-Err-Store.ensures.disk))

pub returns-in_ok-ship_refusal-in-Err-clause-cause : goal.returns-in_ok-ship_refusal-in-Err-clause-cause
returns-in_ok-ship_refusal-in-Err-clause-cause g c read read' =
    let before = g.D.Disk.faults c.args.disk.now in
    let now = g.D.Disk.faults c.ship.new.disk in
    after_shipping c.args.from (g.K.Sink.faults c.args.out.now) (g.K.Sink.faults c.ship.new.out) (g.K.Sink.faults c.print_answer.new.out) read read' before now c.in-Err.stop (status_of_word c.print_answer.result) c.in-Err.ensures.cause
    (c.print_answer.ensures.cause read read' before now)
