use Rattle.std.proofs.Common.{sym}
use Rattle.text_graphs.specs.GraphTexts.{text_of}
use Rattle.leaf_rules.specs.Leaves.{table_leaves}
use Rattle.text_graphs.specs.Texts.{activities_in}
use Rattle.text_graphs.proofs.Naming.{first_below}
use Rattle.template_check.proofs.Resolutions.{round_made}
use Rattle.template_check.proofs.building.Builder.loop_line.Goals as goal

pub returns-in_ok-maps-in-Loop-clause-within : goal.returns-in_ok-maps-in-Loop-clause-within
returns-in_ok-maps-in-Loop-clause-within c = first_below _ (activities_in c.args.scope.now.elements.now) c.in-Some.activity (sym c.in-Some.ensures)

pub returns-in_ok-maps-in-Loop-clause-meant : goal.returns-in_ok-maps-in-Loop-clause-meant
returns-in_ok-maps-in-Loop-clause-meant c =
    round_made (table_leaves c.args.self.now.table) (text_of c.args.scope.now) c.args.line.now c.in-Loop.name _ c.in-Loop.is (sym c.in-Some.ensures) c.in_ok-maps-in-Loop.ensures
