use Rattle.std.proofs.Common.{◌≡◌, drop}
use Rattle.std.specs.List.{list_any}
use Rattle.process_rules.specs.Doers.{is_performer}
use Rattle.process_rules.proofs.doers.asks_performer.Given as goal

abbrev pub invariant-loop-activity : goal.invariant-loop-activity
invariant-loop-activity l =
    list_any (λ a. list_any (λ x. is_performer x.what) a.now.attrs) (drop l.activity-index l.scope.activities.items)
    ≡ list_any (λ a. list_any (λ x. is_performer x.what) a.now.attrs) l.scope.activities.items
