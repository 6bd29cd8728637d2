use Rattle.flow_words.proofs.pure.print_and_end.Goals as goal

pub returns-in-Ok-clause-cause : goal.returns-in-Ok-clause-cause
returns-in-Ok-clause-cause g c = c.requires (g.K.Sink.faults c.args.out.now) (g.K.Sink.faults c.print.new.out)
