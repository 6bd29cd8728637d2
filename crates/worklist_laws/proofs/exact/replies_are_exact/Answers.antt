use Rattle.worklist_laws.proofs.ExactLines.{reply_exact}
use Rattle.process_rules.specs.Imports.{latest_person}
use Rattle.worklist_laws.proofs.exact.replies_are_exact.Goals as goal

pub returns : goal.returns
returns c = λ state name text right answers. reply_exact state name text (latest_person state.store name) right.1 answers
