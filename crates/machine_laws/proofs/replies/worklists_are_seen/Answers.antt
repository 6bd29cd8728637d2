use Rattle.process_rules.specs.Imports.{latest_person}
use Rattle.machine_laws.proofs.Worklists.{worklist_seen}
use Rattle.machine_laws.proofs.replies.worklists_are_seen.Goals as goal

pub returns : goal.returns
returns c = λ a name text right is. worklist_seen a right.0.0 name text right.0.1 right.1
    (latest_person a.store name) is
