-- The classes that are known where a text is compiled: those of earlier texts, and those of its own behind them.
use Rattle.std.specs.Prelude.{List, ◌++◌}
use Rattle.leaf_rules.specs.declared.leaf_classes.LeafClass.{LeafClass}
use Rattle.leaf_rules.specs.declared.members.LeafTable.{LeafTable}
use Rattle.leaf_rules.specs.declared.members.TextClasses.{TextClasses}

-- all of them while they are found
abbrev pub text_classes : TextClasses → List LeafClass
text_classes text = text.known.now.classes ++ text.added

-- all that a table knows
abbrev pub table_classes : LeafTable → List LeafClass
table_classes table = table.known.now.classes ++ table.added
