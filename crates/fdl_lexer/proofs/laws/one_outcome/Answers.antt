use Rattle.std.proofs.Common.{length, arith}
use Rattle.fdl_lexer.proofs.Placed.{all_placed}
use Rattle.fdl_lexer.proofs.SameScan.{one_scan, tokens_done, stuck_done}
use Rattle.fdl_lexer.proofs.laws.one_outcome.Goals as goal

pub returns-clause-list : goal.returns-clause-list
returns-clause-list c = λ text ts us t u.
    (one_scan text 0 ts us t.end u.end (length text) (length text) t.scanned u.scanned (tokens_done text ts t) (tokens_done text us u)).0

pub returns-clause-stuck : goal.returns-clause-stuck
returns-clause-stuck c = λ text ts place t s.
    let same = (one_scan text 0 ts s.tokens t.end s.end (length text) place t.scanned s.scanned (tokens_done text ts t) (stuck_done text place s)).1 in
    let within = s.within in
    omega arith

pub returns-clause-place : goal.returns-clause-place
returns-clause-place c = λ text place other s t.
    (one_scan text 0 s.tokens t.tokens s.end t.end place other s.scanned t.scanned (stuck_done text place s) (stuck_done text other t)).1

pub returns-clause-placed : goal.returns-clause-placed
returns-clause-placed c = all_placed
