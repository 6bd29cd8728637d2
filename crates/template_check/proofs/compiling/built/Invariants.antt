use Rattle.std.proofs.Common.{◌≡◌, length, take}
use Rattle.std.specs.List.{All}
use Rattle.leaf_rules.specs.TableClasses.{table_classes}
use Rattle.process_rules.specs.Calling.{AreOrdered}
use Rattle.template_check.specs.Built.{IsSoundAlone}
use Rattle.template_check.specs.Classed.{HaveClasses}
use Rattle.template_check.specs.Compiling.{declared_people, process_names, template_names}
use Rattle.template_check.specs.Meant.{AreMeantFrom, reading_of}
use Rattle.text_graphs.specs.Texts.{processes_in}
use Rattle.template_check.proofs.Numbers.{next_versions, versions_of, AreTold}
use Rattle.template_check.proofs.compiling.built.Given as goal

abbrev pub invariant-loop-item : goal.invariant-loop-item
invariant-loop-item l = record {
  alone : All (λ t. IsSoundAlone t.graph) l.templates;
  ordered : AreOrdered (length l.builder.known.catalog.now.library.templates) l.templates;
  named : template_names l.templates ≡ process_names (take l.item-index l.tree.items);
  meant : AreMeantFrom (reading_of l.builder) 0 (processes_in (take l.item-index l.tree.items)) l.templates;
  people : l.people ≡ declared_people (take l.item-index l.tree.items);
  versions : versions_of l.templates ≡ next_versions l.builder.known.catalog.now.library (processes_in (take l.item-index l.tree.items));
  told : AreTold l.shapes l.templates;
  even : length l.containers ≡ length l.templates;
  classed : HaveClasses (table_classes l.builder.table) l.templates l.containers;
}
