use Rattle.std.proofs.Common.{◌+◌, arith}
use Rattle.std.proofs.lemmas.List.{take_rest, length-drop}
use Rattle.fdl_lexer.proofs.Scanned.{Scans-push, next_token, stuck}
use Rattle.fdl_lexer.proofs.lexer.lex_allowed.Goals as goal

pub returns-in_default-clause-fault : goal.returns-in_default-clause-fault
returns-in_default-clause-fault c =
    let text = c.args.text.now in
    let g = rw (take_rest text c.scan.at) at c.gap_len.ensures in
    let none = rw (take_rest text (c.scan.at + c.gap_len.result)) at c.in_default.ensures in
    let size = length-drop c.scan.at text in
    stuck text c.scan.tokens.items c.scan.at c.gap_len.result c.requires.allowed c.scan.invariant.so_far g (omega (arith, g.within)) (omega (arith, g.within)) none

pub scan-preserved : goal.scan-preserved
scan-preserved c =
    let text = c.args.text.now in
    let g = rw (take_rest text c.scan.at) at c.gap_len.ensures in
    let found = rw (take_rest text (c.scan.at + c.gap_len.result)) at c.in-Some.ensures in
    let size = length-drop c.scan.at text in
    let size2 = length-drop (c.scan.at + c.gap_len.result) text in
    record {
      within = omega (arith, g.within, found.2);
      so_far = rw c.in_ok-push.ensures.ok (Scans-push text 0 _ _ _ c.scan.invariant.so_far
          (next_token text c.scan.at c.gap_len.result c.in-Some.len c.in-Some.what g (omega (arith, g.within, found.2)) found.1 found.0));
    }
