use Rattle.flow_core.specs.Summaries.{summary}
use Rattle.flow_session.proofs.Runs.{makes_on_disk, served_to_end}
use Rattle.flow_words.proofs.Crashes.{later_ok}
use Rattle.flow_words.proofs.stored.serve_store.Goals as goal

pub returns-clause-makes : goal.returns-clause-makes
returns-clause-makes g c =
    let makes = makes_on_disk (λ j. j.disk) g.D.Disk.tells g.D.Disk.moment g.D.Disk.left_since c.new-journal.result c.serve_all-served.new.journal (summary c.args.session.core) _ c.serve_all-served.ensures.makes in
    let from = rw c.new-journal.ensures.1 at makes in
    rw c.into_disk.ensures (served_to_end g.D.Disk.tells g.D.Disk.moment g.D.Disk.left_since g.D.Disk.seen g.D.Disk.images c.serve_all-served.new.journal.log c.args.disk c.serve_all-served.new.journal.disk c.args.session.core c.serve_all-served.new.session.core c.serve_all-served.result
    (later_ok c.serve_all-served.result _ _ c.serve_all-served.ensures.kept) from)

pub returns-clause-cause : goal.returns-clause-cause
returns-clause-cause g c = rw c.into_disk.ensures (rw c.new-journal.ensures.1 at c.serve_all-served.ensures.cause)
