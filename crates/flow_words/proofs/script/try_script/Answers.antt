use Rattle.std.proofs.Common.{inr}
use Rattle.machine_laws.specs.WholeStates.{IsWhole}
use Rattle.flow_words.proofs.script.try_script.Goals as goal

pub returns-in-Ok-clause-tries : goal.returns-in-Ok-clause-tries
returns-in-Ok-clause-tries g c =
    let whole : IsWhole c.in-Ok.session.core
    = record { right = c.in-Ok.ensures.right c.requires.0; keyed = c.in-Ok.ensures.keyed } in
    inr (record {
      s = c.in-Ok.session;
      s' = c.serve_all.new.session;
      journal = _;
      journal' = c.serve_all.new.journal;
      fresh = record {
        empty = c.in-Ok.ensures.begins;
        state = c.in-Ok.ensures.state;
        outside = c.in-Ok.ensures.outside;
        whole = whole;
      };
      script = c.serve_all.ensures.serves;
      answered = c.serve_all.ensures.serves.answered whole;
    })
