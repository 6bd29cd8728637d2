use Rattle.std.proofs.Common.{ℕ, List, map, string_bytes, refl, subst}
use Rattle.flow_session.proofs.Runs.{kept_alone}
use Rattle.flow_words.specs.Looking.{PrintsExplained}
use Rattle.flow_words.specs.Outside.{files}
use Rattle.flow_words.specs.Said.{Say}
use Rattle.flow_words.specs.Scripts.{status_of_word}
use Rattle.flow_words.specs.declared.word.Word.{Word}
use Rattle.flow_words.proofs.Saying.{new_settings, try_settings}
use Rattle.flow_words.proofs.stored.obey.Goals as goal

pub returns-in-Check-clause-prints : goal.returns-in-Check-clause-prints
returns-in-Check-clause-prints g c = rw c.in-Check.is c.answer_check.ensures.prints

pub returns-in-Check-clause-causes : goal.returns-in-Check-clause-causes
returns-in-Check-clause-causes g c = rw c.in-Check.is c.answer_check.ensures.cause

pub returns-in-Check-clause-crash : goal.returns-in-Check-clause-crash
returns-in-Check-clause-crash g c told only = rw c.in-Check.is (kept_alone g.D.Disk.tells g.D.Disk.moment g.D.Disk.left_since g.D.Disk.seen g.D.Disk.images g.met.D.Disk.only_now c.args.disk only)

pub returns-in-Check-clause-source : goal.returns-in-Check-clause-source
returns-in-Check-clause-source g c = rw c.in-Check.is tt

pub returns-in-Check-clause-untouched : goal.returns-in-Check-clause-untouched
returns-in-Check-clause-untouched g c = rw c.in-Check.is refl

pub returns-in-Fate-clause-prints : goal.returns-in-Fate-clause-prints
returns-in-Fate-clause-prints g c = rw c.in-Fate.is c.answer_fate.ensures.prints

pub returns-in-Fate-clause-causes : goal.returns-in-Fate-clause-causes
returns-in-Fate-clause-causes g c = rw c.in-Fate.is c.answer_fate.ensures.cause

pub returns-in-Fate-clause-crash : goal.returns-in-Fate-clause-crash
returns-in-Fate-clause-crash g c told only = rw c.in-Fate.is (kept_alone g.D.Disk.tells g.D.Disk.moment g.D.Disk.left_since g.D.Disk.seen g.D.Disk.images g.met.D.Disk.only_now c.args.disk only)

pub returns-in-Fate-clause-source : goal.returns-in-Fate-clause-source
returns-in-Fate-clause-source g c = rw c.in-Fate.is tt

pub returns-in-Fate-clause-untouched : goal.returns-in-Fate-clause-untouched
returns-in-Fate-clause-untouched g c = rw c.in-Fate.is refl

pub serve_script-requires : goal.serve_script-requires
serve_script-requires g c =
    try_settings (map string_bytes c.args.words.now) c.in-Try.settings
    (subst (λ (w : Word). Say (map string_bytes c.args.words.now) w) c.in-Try.is c.requires)

pub returns-in-Try-clause-prints : goal.returns-in-Try-clause-prints
returns-in-Try-clause-prints g c = rw c.in-Try.is c.serve_script.ensures.tries

pub returns-in-Try-clause-causes : goal.returns-in-Try-clause-causes
returns-in-Try-clause-causes g c = rw c.in-Try.is c.serve_script.ensures.cause

pub returns-in-Try-clause-crash : goal.returns-in-Try-clause-crash
returns-in-Try-clause-crash g c told only = rw c.in-Try.is (kept_alone g.D.Disk.tells g.D.Disk.moment g.D.Disk.left_since g.D.Disk.seen g.D.Disk.images g.met.D.Disk.only_now c.args.disk only)

pub returns-in-Try-clause-source : goal.returns-in-Try-clause-source
returns-in-Try-clause-source g c = rw c.in-Try.is tt

pub returns-in-Try-clause-untouched : goal.returns-in-Try-clause-untouched
returns-in-Try-clause-untouched g c = rw c.in-Try.is refl

pub returns-in-Load-clause-prints : goal.returns-in-Load-clause-prints
returns-in-Load-clause-prints g c = rw c.in-Load.is c.print_load.ensures.prints

pub returns-in-Load-clause-causes : goal.returns-in-Load-clause-causes
returns-in-Load-clause-causes g c = rw c.in-Load.is (c.print_load.ensures.cause (g.S.Source.faults c.args.src.now))

pub returns-in-Load-clause-crash : goal.returns-in-Load-clause-crash
returns-in-Load-clause-crash g c told only = rw c.in-Load.is (kept_alone g.D.Disk.tells g.D.Disk.moment g.D.Disk.left_since g.D.Disk.seen g.D.Disk.images g.met.D.Disk.only_now c.args.disk only)

pub returns-in-Load-clause-source : goal.returns-in-Load-clause-source
returns-in-Load-clause-source g c = rw c.in-Load.is refl

pub returns-in-Load-clause-untouched : goal.returns-in-Load-clause-untouched
returns-in-Load-clause-untouched g c = rw c.in-Load.is refl

pub returns-in-New-clause-prints : goal.returns-in-New-clause-prints
returns-in-New-clause-prints g c = rw c.in-New.is c.make.ensures.prints

pub returns-in-New-clause-causes : goal.returns-in-New-clause-causes
returns-in-New-clause-causes g c = rw c.in-New.is (c.make.ensures.cause (g.S.Source.faults c.args.src.now) (g.S.Source.faults c.args.src.now))

pub returns-in-New-clause-crash : goal.returns-in-New-clause-crash
returns-in-New-clause-crash g c told only = rw c.in-New.is (c.make.ensures.store told only)

pub returns-in-New-clause-source : goal.returns-in-New-clause-source
returns-in-New-clause-source g c = rw c.in-New.is refl

pub returns-in-New-clause-untouched : goal.returns-in-New-clause-untouched
returns-in-New-clause-untouched g c = rw c.in-New.is tt

pub returns-in-Run-clause-prints : goal.returns-in-Run-clause-prints
returns-in-Run-clause-prints g c = rw c.in-Run.is c.run_script.ensures.runs

pub returns-in-Run-clause-causes : goal.returns-in-Run-clause-causes
returns-in-Run-clause-causes g c = rw c.in-Run.is c.run_script.ensures.cause

pub returns-in-Run-clause-crash : goal.returns-in-Run-clause-crash
returns-in-Run-clause-crash g c told only = rw c.in-Run.is (c.run_script.ensures.store told only)

pub returns-in-Run-clause-source : goal.returns-in-Run-clause-source
returns-in-Run-clause-source g c = rw c.in-Run.is tt

pub returns-in-Run-clause-untouched : goal.returns-in-Run-clause-untouched
returns-in-Run-clause-untouched g c = rw c.in-Run.is tt

pub returns-in-Follow-clause-prints : goal.returns-in-Follow-clause-prints
returns-in-Follow-clause-prints g c = rw c.in-Follow.is c.follow_into.ensures.follows

pub returns-in-Follow-clause-causes : goal.returns-in-Follow-clause-causes
returns-in-Follow-clause-causes g c = rw c.in-Follow.is c.follow_into.ensures.cause

pub returns-in-Follow-clause-crash : goal.returns-in-Follow-clause-crash
returns-in-Follow-clause-crash g c told only = rw c.in-Follow.is (c.follow_into.ensures.store told only)

pub returns-in-Follow-clause-source : goal.returns-in-Follow-clause-source
returns-in-Follow-clause-source g c = rw c.in-Follow.is tt

pub returns-in-Follow-clause-untouched : goal.returns-in-Follow-clause-untouched
returns-in-Follow-clause-untouched g c = rw c.in-Follow.is tt

pub returns-in-Explain-clause-prints : goal.returns-in-Explain-clause-prints
returns-in-Explain-clause-prints g c = rw c.in-Explain.is (λ front activity are. subst (λ (word : List ℕ). PrintsExplained word (files g.D.Disk c.args.disk c.explain_in.new.disk) (g.K.Sink.held c.args.out.now) (g.K.Sink.held c.explain_in.new.out) (status_of_word c.explain_in.result)) (c.last_word.ensures front activity are) c.explain_in.ensures.prints)

pub returns-in-Explain-clause-causes : goal.returns-in-Explain-clause-causes
returns-in-Explain-clause-causes g c = rw c.in-Explain.is (c.explain_in.ensures.cause (g.S.Source.faults c.args.src.now) (g.S.Source.faults c.args.src.now))

pub returns-in-Explain-clause-crash : goal.returns-in-Explain-clause-crash
returns-in-Explain-clause-crash g c told only = rw c.in-Explain.is (c.explain_in.ensures.keeps told only)

pub returns-in-Explain-clause-source : goal.returns-in-Explain-clause-source
returns-in-Explain-clause-source g c = rw c.in-Explain.is refl

pub returns-in-Explain-clause-untouched : goal.returns-in-Explain-clause-untouched
returns-in-Explain-clause-untouched g c = rw c.in-Explain.is tt

pub returns-in-Verify-clause-prints : goal.returns-in-Verify-clause-prints
returns-in-Verify-clause-prints g c = rw c.in-Verify.is c.verify_in.ensures.prints

pub returns-in-Verify-clause-causes : goal.returns-in-Verify-clause-causes
returns-in-Verify-clause-causes g c = rw c.in-Verify.is c.verify_in.ensures.cause

pub returns-in-Verify-clause-crash : goal.returns-in-Verify-clause-crash
returns-in-Verify-clause-crash g c told only = rw c.in-Verify.is (c.verify_in.ensures.keeps told only)

pub returns-in-Verify-clause-source : goal.returns-in-Verify-clause-source
returns-in-Verify-clause-source g c = rw c.in-Verify.is tt

pub returns-in-Verify-clause-untouched : goal.returns-in-Verify-clause-untouched
returns-in-Verify-clause-untouched g c = rw c.in-Verify.is tt

pub returns-in-Overdue-clause-prints : goal.returns-in-Overdue-clause-prints
returns-in-Overdue-clause-prints g c = rw c.in-Overdue.is c.overdue_in.ensures.prints

pub returns-in-Overdue-clause-causes : goal.returns-in-Overdue-clause-causes
returns-in-Overdue-clause-causes g c = rw c.in-Overdue.is (c.overdue_in.ensures.cause (g.S.Source.faults c.args.src.now) (g.S.Source.faults c.args.src.now))

pub returns-in-Overdue-clause-crash : goal.returns-in-Overdue-clause-crash
returns-in-Overdue-clause-crash g c told only = rw c.in-Overdue.is (c.overdue_in.ensures.keeps told only)

pub returns-in-Overdue-clause-source : goal.returns-in-Overdue-clause-source
returns-in-Overdue-clause-source g c = rw c.in-Overdue.is refl

pub returns-in-Overdue-clause-untouched : goal.returns-in-Overdue-clause-untouched
returns-in-Overdue-clause-untouched g c = rw c.in-Overdue.is tt

pub returns-in-Ship-clause-prints : goal.returns-in-Ship-clause-prints
returns-in-Ship-clause-prints g c = rw c.in-Ship.is c.ship_from.ensures.ships

pub returns-in-Ship-clause-causes : goal.returns-in-Ship-clause-causes
returns-in-Ship-clause-causes g c = rw c.in-Ship.is (c.ship_from.ensures.cause (g.S.Source.faults c.args.src.now) (g.S.Source.faults c.args.src.now))

pub returns-in-Ship-clause-crash : goal.returns-in-Ship-clause-crash
returns-in-Ship-clause-crash g c told only = rw c.in-Ship.is (c.ship_from.ensures.keeps told only)

pub returns-in-Ship-clause-source : goal.returns-in-Ship-clause-source
returns-in-Ship-clause-source g c = rw c.in-Ship.is refl

pub returns-in-Ship-clause-untouched : goal.returns-in-Ship-clause-untouched
returns-in-Ship-clause-untouched g c = rw c.in-Ship.is tt

pub make-requires-clause-queues : goal.make-requires-clause-queues
make-requires-clause-queues g c = (new_settings (map string_bytes c.args.words.now) c.in-New.settings (subst (λ (w : Word). Say (map string_bytes c.args.words.now) w) c.in-New.is c.requires)).0

pub make-requires-clause-limit : goal.make-requires-clause-limit
make-requires-clause-limit g c = (new_settings (map string_bytes c.args.words.now) c.in-New.settings (subst (λ (w : Word). Say (map string_bytes c.args.words.now) w) c.in-New.is c.requires)).1
