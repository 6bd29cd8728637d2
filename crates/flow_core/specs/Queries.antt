-- The reply to each query.
use Rattle.std.specs.Prelude.{◌≡◌, ℕ, List}
use Rattle.flow_model.specs.declared.commands.Query.{Query}
use Rattle.flow_model.specs.declared.commands.Query.TheVariants as ask
use Rattle.process_rules.specs.Imports.{latest_person}
use Rattle.flow_core.specs.Answers.{instance_of, IsShown, IsListed, queue_answer, audit_answer, templates_text}
use Rattle.flow_core.specs.Containing.{IsOutputAnswer, IsInputAnswer}
use Rattle.flow_core.specs.declared.state.Core.{Core}

-- the reply to a query in this state
abbrev pub IsAnswer : Core → Query → List ℕ → Type 0
IsAnswer c (ask.Show root) text = IsShown c.store root (instance_of c root) text
IsAnswer c (ask.Output root) text = IsOutputAnswer c root (instance_of c root) text
IsAnswer c (ask.Input token) text = IsInputAnswer c token text
IsAnswer c (ask.Worklist name) text = IsListed c name (latest_person c.store name) text
IsAnswer c (ask.Queue number) text = text ≡ queue_answer c number
IsAnswer c (ask.Audit root) text = text ≡ audit_answer c root
IsAnswer c ask.Templates text = text ≡ templates_text c.store.templates
