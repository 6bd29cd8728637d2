use Rattle.std.proofs.Common.{◌≡◌}
use Rattle.flow_core.specs.Summaries.{summary}
use Rattle.flow_session.specs.Leading.{LeadsBy}
use Rattle.flow_session.specs.Serving.{Makes}
use Rattle.flow_words.proofs.Serving.{SoFar}
use Rattle.flow_words.proofs.script.serve_all.Given as goal

abbrev pub invariant-inputs : goal.invariant-inputs
invariant-inputs g l = record {
  open' : g.J.Journal.tells → g.J.Journal.holds l.journal (summary l.session.core);
  makes : Makes g.J.Journal.tells g.J.Journal.moment g.J.Journal.left_since l.initial.journal l.journal (summary l.initial.session.core) (λ ts. LeadsBy l.initial.session.core ts l.session.core);
  read : g.S.Source.faults l.src ≡ g.S.Source.faults l.initial.src;
  put : g.K.Sink.faults l.out ≡ g.K.Sink.faults l.initial.out;
  stored : g.J.Journal.faults l.journal ≡ g.J.Journal.faults l.initial.journal;
  so_far : SoFar g.J.Journal.tells g.J.Journal.holds g.J.Journal.moment g.J.Journal.left_since g.J.Journal.place g.J.Journal.moved (g.S.Source.left l.initial.src) (g.S.Source.left l.src) l.lines (g.K.Sink.held l.initial.out) (g.K.Sink.held l.out) l.initial.session l.session l.initial.journal l.journal;
}

abbrev pub decreases-inputs : goal.decreases-inputs
decreases-inputs g l = l.lines.room
