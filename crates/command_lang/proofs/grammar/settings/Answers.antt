use Rattle.std.proofs.Common.{ap}
use Rattle.fdl_parser.specs.Tokens.{first_kind}
use Rattle.command_lang.specs.Grammar.{FirstSetting, MoreSettings, NoSettings, Settings}
use Rattle.fdl_parser.proofs.Stops.{at_err}
use Rattle.command_lang.proofs.Forms.{with_none, with_some, stops_first_setting, stops_next_setting, settings_first, settings_more}
use Rattle.command_lang.proofs.grammar.settings.Goals as goal

pub loop-cursor-init : goal.loop-cursor-init
loop-cursor-init c = record {
  within = λ all h. c.in_ok-first.ensures.within all (c.in_ok-word.ensures.within all h);
  begun = ap first_kind c.in_ok-word.ensures.read.first;
  so_far = settings_first c.in_ok-word.ensures.read c.in_ok-first.ensures.read;
  read = rw (c.in_ok-push.ensures.ok, c.new-settings.ensures) (FirstSetting c.in_ok-word.ensures.read c.in_ok-first.ensures.read);
}

pub loop-cursor-preserved : goal.loop-cursor-preserved
loop-cursor-preserved c = record {
  within = λ all h. c.in_ok-next.ensures.within all (c.in_ok-mark.ensures.within all (c.loop-cursor.invariant.within all h));
  begun = c.loop-cursor.invariant.begun;
  so_far = settings_more c.loop-cursor.invariant.so_far c.in_ok-mark.ensures.read c.in_ok-next.ensures.read;
  read = rw (c.in_ok-push-2.ensures.ok) (MoreSettings c.loop-cursor.invariant.read c.in_ok-mark.ensures.read c.in_ok-next.ensures.read);
}

pub returns-then-not-is_word-clause-read : goal.returns-then-not-is_word-clause-read
returns-then-not-is_word-clause-read c = rw c.new-settings.ensures NoSettings

pub returns-clause-read : goal.returns-clause-read
returns-clause-read c = Settings c.loop-cursor.invariant.read

pub returns-then-not-is_word-clause-taken : goal.returns-then-not-is_word-clause-taken
returns-then-not-is_word-clause-taken c = with_none (c.is_word.ensures.no c.if-not-is_word.true)

pub returns-clause-taken : goal.returns-clause-taken
returns-clause-taken c = with_some c.loop-cursor.invariant.so_far (c.is_mark.ensures.no c.loop-cursor-test.false)

pub returns-in_err-first-clause-stops : goal.returns-in_err-first-clause-stops
returns-in_err-first-clause-stops c = at_err c.from_residual-in_err-first.result c.in_err-first.field-0.0 c.from_residual-in_err-first.ensures.1 (stops_first_setting c.in_ok-word.ensures.read c.in_err-first.ensures.stops)

pub returns-in_err-next-clause-stops : goal.returns-in_err-next-clause-stops
returns-in_err-next-clause-stops c = at_err c.from_residual-in_err-next.result c.in_err-next.field-0.0 c.from_residual-in_err-next.ensures.1 (stops_next_setting c.loop-cursor.invariant.begun c.loop-cursor.invariant.so_far c.in_ok-mark.ensures.read c.in_err-next.ensures.stops)
