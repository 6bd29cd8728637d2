use Rattle.std.proofs.Common.{take, map}
use Rattle.text_graphs.specs.Meeting.{AreMet}
use Rattle.name_rules.proofs.names.second_activity.Given as goal

abbrev pub invariant-loop-activity : goal.invariant-loop-activity
invariant-loop-activity l = AreMet l.activities (map (λ a. a.now.name) (take l.activity-index l.scope.activities.items))
