use Rattle.std.proofs.Common.{◌∙◌, ℕ, List, subst}
use Rattle.flow_disk.specs.Images.{bytes_in, opposite}
use Rattle.flow_disk.proofs.Runs.{weaker, joined}
use Rattle.txn_log.specs.Records.{reach}
use Rattle.txn_log.specs.Steps.{Stands, StandsOrUnmade}
use Rattle.txn_log.specs.Stored.{Good, Unmade, slot_state}
use Rattle.checkpoint.specs.Compacting.{Turns}
use Rattle.checkpoint.proofs.Moves.{turns_shut, turns_body, turns_open}
use Rattle.checkpoint.proofs.compacting.write_generation.Goals as goal

pub returns-in_err-from-clause-any_moment : goal.returns-in_err-from-clause-any_moment
returns-in_err-from-clause-any_moment g c told only =
    let d = g.D.Disk in
    let old = c.args.disk.now in
    let before = slot_state (bytes_in (d.seen c.args.disk.now) c.args.slot) in
    let after = Good c.args.header.now (g.P.Payloads.left c.args.kept.now) (reach 42 (g.P.Payloads.left c.args.kept.now)) in
    let there = bytes_in (d.seen c.args.disk.now) (opposite c.args.slot) in
    let P = Turns c.args.slot before after there in
    let one = weaker d.moment d.left_since d.images old c.shut.new.disk (StandsOrUnmade c.args.slot before there) P (c.shut.ensures.any_moment told only) (turns_shut c.args.slot before after there) in
    one

pub returns-in_err-written-clause-any_moment : goal.returns-in_err-written-clause-any_moment
returns-in_err-written-clause-any_moment g c told only =
    let d = g.D.Disk in
    let old = c.args.disk.now in
    let before = slot_state (bytes_in (d.seen c.args.disk.now) c.args.slot) in
    let after = Good c.args.header.now (g.P.Payloads.left c.args.kept.now) (reach 42 (g.P.Payloads.left c.args.kept.now)) in
    let there = bytes_in (d.seen c.args.disk.now) (opposite c.args.slot) in
    let P = Turns c.args.slot before after there in
    let one = weaker d.moment d.left_since d.images old c.shut.new.disk (StandsOrUnmade c.args.slot before there) P (c.shut.ensures.any_moment told only) (turns_shut c.args.slot before after there) in
    let second = bytes_in (d.seen c.shut.new.disk) (opposite c.args.slot) in
    let two = weaker d.moment d.left_since d.images c.shut.new.disk c.write_body.new.disk (Stands c.args.slot Unmade second) P (c.write_body.ensures.any_moment told (c.in_ok-from.ensures.durable only)) (turns_body c.args.slot before after second there (c.in_ok-from.ensures.other told)) in
    let one_two = joined d.moment d.left_since d.images old c.shut.new.disk c.write_body.new.disk P one two in
    one_two

pub returns-in_err-open_body-clause-any_moment : goal.returns-in_err-open_body-clause-any_moment
returns-in_err-open_body-clause-any_moment g c told only =
    let d = g.D.Disk in
    let old = c.args.disk.now in
    let before = slot_state (bytes_in (d.seen c.args.disk.now) c.args.slot) in
    let after = Good c.args.header.now (g.P.Payloads.left c.args.kept.now) (reach 42 (g.P.Payloads.left c.args.kept.now)) in
    let there = bytes_in (d.seen c.args.disk.now) (opposite c.args.slot) in
    let P = Turns c.args.slot before after there in
    let one = weaker d.moment d.left_since d.images old c.shut.new.disk (StandsOrUnmade c.args.slot before there) P (c.shut.ensures.any_moment told only) (turns_shut c.args.slot before after there) in
    let second = bytes_in (d.seen c.shut.new.disk) (opposite c.args.slot) in
    let two = weaker d.moment d.left_since d.images c.shut.new.disk c.write_body.new.disk (Stands c.args.slot Unmade second) P (c.write_body.ensures.any_moment told (c.in_ok-from.ensures.durable only)) (turns_body c.args.slot before after second there (c.in_ok-from.ensures.other told)) in
    let one_two = joined d.moment d.left_since d.images old c.shut.new.disk c.write_body.new.disk P one two in
    let third = bytes_in (d.seen c.write_body.new.disk) (opposite c.args.slot) in
    let three = weaker d.moment d.left_since d.images c.write_body.new.disk c.open_body.new.disk (StandsOrUnmade c.args.slot after third) P (c.open_body.ensures.any_moment told c.in_ok-written.ensures.durable (g.P.Payloads.left c.args.kept.now) (reach 42 (g.P.Payloads.left c.args.kept.now)) (c.in_ok-written.ensures.body told)) (turns_open c.args.slot before after third there (c.in_ok-written.ensures.other told ∙ c.in_ok-from.ensures.other told)) in
    joined d.moment d.left_since d.images old c.write_body.new.disk c.open_body.new.disk P one_two three

pub returns-clause-any_moment : goal.returns-clause-any_moment
returns-clause-any_moment g c told only =
    let d = g.D.Disk in
    let old = c.args.disk.now in
    let before = slot_state (bytes_in (d.seen c.args.disk.now) c.args.slot) in
    let after = Good c.args.header.now (g.P.Payloads.left c.args.kept.now) (reach 42 (g.P.Payloads.left c.args.kept.now)) in
    let there = bytes_in (d.seen c.args.disk.now) (opposite c.args.slot) in
    let P = Turns c.args.slot before after there in
    let one = weaker d.moment d.left_since d.images old c.shut.new.disk (StandsOrUnmade c.args.slot before there) P (c.shut.ensures.any_moment told only) (turns_shut c.args.slot before after there) in
    let second = bytes_in (d.seen c.shut.new.disk) (opposite c.args.slot) in
    let two = weaker d.moment d.left_since d.images c.shut.new.disk c.write_body.new.disk (Stands c.args.slot Unmade second) P (c.write_body.ensures.any_moment told (c.in_ok-from.ensures.durable only)) (turns_body c.args.slot before after second there (c.in_ok-from.ensures.other told)) in
    let one_two = joined d.moment d.left_since d.images old c.shut.new.disk c.write_body.new.disk P one two in
    let third = bytes_in (d.seen c.write_body.new.disk) (opposite c.args.slot) in
    let three = weaker d.moment d.left_since d.images c.write_body.new.disk c.open_body.new.disk (StandsOrUnmade c.args.slot after third) P (c.open_body.ensures.any_moment told c.in_ok-written.ensures.durable (g.P.Payloads.left c.args.kept.now) (reach 42 (g.P.Payloads.left c.args.kept.now)) (c.in_ok-written.ensures.body told)) (turns_open c.args.slot before after third there (c.in_ok-written.ensures.other told ∙ c.in_ok-from.ensures.other told)) in
    joined d.moment d.left_since d.images old c.write_body.new.disk c.open_body.new.disk P one_two three

pub returns-clause-made : goal.returns-clause-made
returns-clause-made g c told =
    subst (λ (t : List ℕ). Stands c.args.slot (Good c.args.header.now (g.P.Payloads.left c.args.kept.now) (reach 42 (g.P.Payloads.left c.args.kept.now))) t (g.D.Disk.seen c.open_body.new.disk)) (c.in_ok-written.ensures.other told ∙ c.in_ok-from.ensures.other told)
    (c.in_ok-open_body.ensures.made told (g.P.Payloads.left c.args.kept.now) (reach 42 (g.P.Payloads.left c.args.kept.now)) (c.in_ok-written.ensures.body told))
