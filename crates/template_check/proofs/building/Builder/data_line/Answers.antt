use Rattle.std.proofs.Common.{sym}
use Rattle.text_graphs.specs.GraphTexts.{text_of}
use Rattle.leaf_rules.specs.Leaves.{table_leaves}
use Rattle.template_check.proofs.Laying.{drawn}
use Rattle.template_check.proofs.Resolutions.{data_made}
use Rattle.template_check.proofs.building.Builder.data_line.Goals as goal

pub returns-in_ok-maps-in-Line-clause-drawn : goal.returns-in_ok-maps-in-Line-clause-drawn
returns-in_ok-maps-in-Line-clause-drawn c =
    drawn c.args.scope.now.elements.now c.args.line.now c.in-Line.from c.in-Line.to _ c.requires.along c.in-Line.is (sym c.in-Some.ensures) (sym c.in-Some-map_end.ensures)

pub returns-in_ok-maps-in-Line-clause-meant : goal.returns-in_ok-maps-in-Line-clause-meant
returns-in_ok-maps-in-Line-clause-meant c =
    data_made (table_leaves c.args.self.now.table) (text_of c.args.scope.now) c.args.line.now c.in-Line.from c.in-Line.to _ c.in-Line.is (sym c.in-Some.ensures) (sym c.in-Some-map_end.ensures) c.in_ok-maps-in-Line.ensures
