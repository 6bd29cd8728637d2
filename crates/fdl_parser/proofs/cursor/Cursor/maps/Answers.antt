use Rattle.std.proofs.Common.{arith}
use Rattle.fdl_parser.specs.Lines.{FirstMap, MoreMaps}
use Rattle.fdl_parser.proofs.Stops.{at_err}
use Rattle.fdl_parser.proofs.StopsTokens.{stops_word}
use Rattle.flow_table.specs.declared.keyword.Keyword.TheVariants as word
use Rattle.fdl_parser.proofs.StopsLines.{maps_first, maps_more, maps_taken, stops_maps, stops_first_map, stops_next_map}
use Rattle.fdl_parser.proofs.cursor.Cursor.maps.Goals as goal

pub loop-self-init : goal.loop-self-init
loop-self-init c = record {
  shorter = omega (arith, c.in_ok-word.ensures.shorter, c.in_ok-first.ensures.shorter);
  so_far = maps_first c.in_ok-word.ensures.read c.in_ok-first.ensures.taken;
  within = λ all h. c.in_ok-first.ensures.within all (c.in_ok-word.ensures.within all h);
  read = rw (c.in_ok-push.ensures.ok, c.new-maps.ensures) (FirstMap c.in_ok-word.ensures.read c.in_ok-first.ensures.read);
}

pub loop-self-preserved : goal.loop-self-preserved
loop-self-preserved c = record {
  shorter = omega (arith, c.loop-self.invariant.shorter, c.in_ok-mark.ensures.shorter, c.in_ok-next.ensures.shorter);
  so_far = maps_more c.loop-self.invariant.so_far c.in_ok-mark.ensures.read c.in_ok-next.ensures.taken;
  within = λ all h. c.in_ok-next.ensures.within all (c.in_ok-mark.ensures.within all (c.loop-self.invariant.within all h));
  read = rw (c.in_ok-push-2.ensures.ok) (MoreMaps c.loop-self.invariant.read c.in_ok-mark.ensures.read c.in_ok-next.ensures.read);
}

pub returns-clause-taken : goal.returns-clause-taken
returns-clause-taken c = maps_taken c.loop-self.invariant.so_far (c.is_mark.ensures.no c.loop-self-test.false)

pub returns-in_err-word-clause-stops : goal.returns-in_err-word-clause-stops
returns-in_err-word-clause-stops c = at_err c.from_residual.result c.in_err-word.field-0.0 c.from_residual.ensures.1 (stops_maps (stops_word word.Map c.args.self.now c.word.new.self _ c.in_err-word.ensures.refused))

pub returns-in_err-first-clause-stops : goal.returns-in_err-first-clause-stops
returns-in_err-first-clause-stops c = at_err c.from_residual-in_err-first.result c.in_err-first.field-0.0 c.from_residual-in_err-first.ensures.1 (stops_first_map c.in_ok-word.ensures.read c.in_err-first.ensures.stops)

pub returns-in_err-next-clause-stops : goal.returns-in_err-next-clause-stops
returns-in_err-next-clause-stops c = at_err c.from_residual-in_err-next.result c.in_err-next.field-0.0 c.from_residual-in_err-next.ensures.1 (stops_next_map c.loop-self.invariant.so_far c.in_ok-mark.ensures.read c.in_err-next.ensures.stops)
