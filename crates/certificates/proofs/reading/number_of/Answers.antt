use Rattle.std.proofs.Common.{◌≡◌, decimal, ap, subst, sym, ◌∙◌}
use Rattle.std.specs.Result.{result_ok}
use Rattle.std.specs.Str.{IsUtf8}
use Rattle.std.proofs.lemmas.Fmt.{parse-decimal, IsAscii-decimal}
use Rattle.std.proofs.lemmas.Str.{IsUtf8-from_ascii}
use Rattle.certificates.proofs.reading.number_of.Goals as goal

pub returns-in-Ok : goal.returns-in-Ok
returns-in-Ok c = λ n small is.
    let same : c.in-Ok.text.now ≡ decimal n = c.in-Ok.ensures.cases.0 ∙ is in
    let parsed = parse-decimal 64 n c.in-Ok.text.now c.parse.result small small same c.parse.ensures.value.0 in
    c.ok.ensures.value ∙ ap result_ok parsed

pub returns-in-Err : goal.returns-in-Err
returns-in-Err c = λ n small is. absurd (c.in-Err.ensures.cases.0 (subst IsUtf8 (sym is) (IsUtf8-from_ascii (decimal n) (IsAscii-decimal n small))))
