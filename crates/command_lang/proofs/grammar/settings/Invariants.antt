use Rattle.std.proofs.Common.{◌≡◌, Some, length}
use Rattle.flow_table.specs.declared.keyword.Keyword.TheVariants as word
use Rattle.fdl_lexer.specs.declared.kinds.What.TheVariants as what
use Rattle.fdl_parser.specs.Tokens.{StaysWithin, first_kind}
use Rattle.command_lang.proofs.Forms.{SettingsSoFar}
use Rattle.command_lang.specs.Grammar.{AreSettings}
use Rattle.command_lang.proofs.grammar.settings.Given as goal

abbrev pub invariant-loop-cursor : goal.invariant-loop-cursor
invariant-loop-cursor l = record {
  within : StaysWithin l.fn.cursor l.cursor;
  begun : first_kind l.fn.cursor.left ≡ Some (what.Word word.With);
  so_far : SettingsSoFar l.fn.cursor.left l.cursor.left;
  read : AreSettings l.settings l.fn.cursor.left l.cursor.left;
}

abbrev pub decreases-loop-cursor : goal.decreases-loop-cursor
decreases-loop-cursor l = length l.cursor.left
