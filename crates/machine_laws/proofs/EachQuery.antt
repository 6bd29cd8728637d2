-- What is replied to each query is the machine's reply.
use Rattle.std.proofs.Common.{ℕ, List}
use Rattle.flow_core.specs.Queries.{IsAnswer}
use Rattle.flow_core.specs.declared.state.Core.{Core}
use Rattle.flow_model.specs.declared.commands.Query.{Query}
use Rattle.flow_model.specs.declared.commands.Query.TheVariants as ask
use Rattle.machine.specs.Answers as machine
use Rattle.process_rules.specs.Imports.{latest_person}
use Rattle.worklist_laws.specs.Shelved.{IsRightAndListed}
use Rattle.machine_laws.specs.Viewed.{view}
use Rattle.machine_laws.proofs.Answers.{audit_seen, output_seen, input_seen}
use Rattle.machine_laws.proofs.SeenShows.{show_seen}
use Rattle.machine_laws.proofs.Worklists.{worklist_seen}

pub answer_seen : (c : Core) (query : Query) (text : List ℕ) → IsRightAndListed c → IsAnswer c query text → machine.IsAnswer (view c) query text
answer_seen c (ask.Show root) text right is = show_seen c right.0.0 root text right.0.1 is
answer_seen c (ask.Output root) text right is = output_seen c right.0.0 root text right.0.1 is
answer_seen c (ask.Input token) text right is = input_seen c right.0.0 right.0.1 token text is
answer_seen c (ask.Worklist name) text right is =
    worklist_seen c right.0.0 name text right.0.1 right.1 (latest_person c.store name) is
answer_seen c (ask.Queue number) text right is = is
answer_seen c (ask.Audit root) text right is = audit_seen c root text is
answer_seen c ask.Templates text right is = is
