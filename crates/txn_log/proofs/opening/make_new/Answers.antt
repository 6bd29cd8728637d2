use Rattle.std.proofs.Common.{[], refl}
use Rattle.flow_disk.specs.declared.disk.Slot.TheVariants.{A}
use Rattle.flow_disk.proofs.Runs.{weaker}
use Rattle.txn_log.specs.Opening.{MayBeNew, first_header}
use Rattle.txn_log.specs.Steps.{StandsOrUnmade}
use Rattle.txn_log.specs.Stored.{Good}
use Rattle.txn_log.proofs.Openings.{new_of, new_counts, stands_at}
use Rattle.txn_log.proofs.StoreStates.{none_unmade}
use Rattle.txn_log.proofs.opening.make_new.Goals as goal

pub fill_a-requires-clause-unmade : goal.fill_a-requires-clause-unmade
fill_a-requires-clause-unmade g c told = (none_unmade (g.D.Disk.seen c.args.disk.now) (c.requires.none told)).0

pub returns-in_err-fill_a-clause-any_moment : goal.returns-in_err-fill_a-clause-any_moment
returns-in_err-fill_a-clause-any_moment g c told only =
    let d = g.D.Disk in
    let old = c.args.disk.now in
    weaker d.moment d.left_since d.images old c.fill_a.new.disk (StandsOrUnmade A (Good (first_header c.args.queues c.args.limit) [] 42) (d.seen old).b) (MayBeNew c.args.queues c.args.limit)
    (c.fill_a.ensures.any_moment told only) (λ i stands. new_of c.args.queues c.args.limit (d.seen old) i (c.requires.none told) stands)

pub returns-clause-any_moment : goal.returns-clause-any_moment
returns-clause-any_moment g c told only =
    let d = g.D.Disk in
    let old = c.args.disk.now in
    weaker d.moment d.left_since d.images old c.fill_a.new.disk (StandsOrUnmade A (Good (first_header c.args.queues c.args.limit) [] 42) (d.seen old).b) (MayBeNew c.args.queues c.args.limit)
    (c.fill_a.ensures.any_moment told only) (λ i stands. new_of c.args.queues c.args.limit (d.seen old) i (c.requires.none told) stands)

pub returns-clause-stands : goal.returns-clause-stands
returns-clause-stands g c told =
    stands_at c.on.result A 1 0 42 (g.D.Disk.seen c.fill_a.new.disk) (first_header c.args.queues c.args.limit) [] c.on.ensures
    (new_counts c.args.queues c.args.limit (g.D.Disk.seen c.args.disk.now) (g.D.Disk.seen c.fill_a.new.disk) (c.requires.none told) (c.in_ok-fill_a.ensures.made told)) refl refl
