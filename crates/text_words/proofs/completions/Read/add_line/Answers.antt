use Rattle.std.proofs.Common.{◌≡◌, ℕ, ◌≤◌, length, inl, inr, arith, ◌∙◌, ap}
use Rattle.std.proofs.lemmas.Result.{IfOk-weaker}
use Rattle.text_words.specs.Completions.{said, with_fault, SaysIt, SaysLine}
use Rattle.text_words.specs.declared.completions.LineFault.TheVariants.{Word}
use Rattle.text_words.proofs.Reading.{spoken_line, only_line, refused_line}
use Rattle.text_words.proofs.completions.Read.add_line.Goals as goal

pub returns-in-Ok-Some : goal.returns-in-Ok-Some
returns-in-Ok-Some c =
    let ts = c.args.library.now.templates in
    let g = c.args.graph.now in
    let line = c.args.numbered.now in
    let old = said c.args.self.now in
    let new = said c.add.new.self in
    let same : c.as_slice-line.result.now ≡ line.line.items = c.as_slice-line.ensures.value in
    let short : length line.line.items ≤ 65536 = omega (arith, ap length same) in
    let spoken = spoken_line c.as_slice-line.result.now line.line.items c.in-Ok-Some.field-0 c.in-Ok-Some.completion same c.in-Ok-Some.field-0-is c.in-Ok-Some.ensures.says in
    let one = only_line c.as_slice-line.result.now line.line.items c.in-Ok-Some.field-0 c.in-Ok-Some.completion same c.in-Ok-Some.field-0-is c.in-Ok-Some.ensures.one in
    IfOk-weaker c.add.result (λ _. SaysIt ts g line.number c.in-Ok-Some.completion old new) (λ _. SaysLine ts g line old new) (λ _ h.
    inr (inl (record { short = short; completion = c.in-Ok-Some.completion; spoken = spoken; one = one; says = h }))) c.add.ensures

pub returns-in-Err-Word : goal.returns-in-Err-Word
returns-in-Err-Word c =
    let line = c.args.numbered.now in
    let same : c.as_slice-line.result.now ≡ line.line.items = c.as_slice-line.ensures.value in
    let short : length line.line.items ≤ 65536 = omega (arith, ap length same) in
    let refused = refused_line c.as_slice-line.result.now line.line.items c.in-Err-Word.field-0 c.in-Err-Word.place same c.in-Err-Word.field-0-is c.in-Err-Word.ensures.refused c.in-Err-Word.ensures.none c.in-Err-Word.ensures.first in
    let stops = c.stop-in-Err-Word.ensures ∙ ap (λ (p : ℕ). with_fault line.number (Word p) (said c.args.self.now)) c.in-Err-Word.place-is in
    inr (inr (record { place = c.in-Err-Word.place; there = inr (short, refused); stops = stops }))
