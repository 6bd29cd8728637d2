use Rattle.std.proofs.Common.{sym}
use Rattle.std.specs.Prelude.{nat_eq}
use Rattle.std.proofs.lemmas.Bool.Decides.{Decides-eqb}
use Rattle.connector_rules.specs.Connectors.{tested_source}
use Rattle.connector_rules.proofs.Doubling.{known_past, known_next}
use Rattle.connector_rules.proofs.otherwises.note.Goals as goal

pub returns-in-None : goal.returns-in-None
returns-in-None c = λ controls so_far. known_past nat_eq Decides-eqb (tested_source c.args.scope.now.elements.now) c.args.tested.now.keys controls c.args.control.now (sym c.in-None.ensures) so_far

pub returns-in_ok-insert_full-in-Some : goal.returns-in_ok-insert_full-in-Some
returns-in_ok-insert_full-in-Some c = λ controls so_far.
    known_next nat_eq Decides-eqb (tested_source c.args.scope.now.elements.now) controls c.args.control.now c.in-Some.source (sym c.in-Some.ensures) c.args.tested.now.keys c.insert_full.new.self.keys c.in_ok-insert_full-in-Some.ensures.keys so_far
