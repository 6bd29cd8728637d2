use Rattle.std.proofs.lemmas.Option.{slice_get-get_or}
use Rattle.leaf_rules.proofs.forms.all_forms.Goals as goal

pub both_forms-requires : goal.both_forms-requires
both_forms-requires c = c.requires c.loop-run.run-index _ (slice_get-get_or c.args.runs.now c.loop-run.run-index _ c.loop-run-test.true)
