use Rattle.std.proofs.Common.{◌≡◌, ◌+◌, ◌<◌, ◌∷◌, [], ◌++◌, slice_index, arith, sym, ◌∙◌}
use Rattle.fdl_lexer.specs.Bytes.{next_len}
use Rattle.fdl_lexer.proofs.Classes.{kind_text, no_text}
use Rattle.fdl_lexer.proofs.Doubled.{half_read_more, no_text_here}
use Rattle.fdl_lexer.proofs.quoted.double.Goals as goal
use Rattle.fdl_lexer.proofs.quoted.double.Goals.{else-size-le255-via-then-size-le255+else-byte_at-eq34, else-size-le255-via-else-size-le255}

pub text-preserved : goal.text-preserved
text-preserved c =
    let bytes = c.args.bytes.now in
    let so_far = c.text.invariant.0 in
    let len : c.next_len-len.result ≡ next_len (slice_index bytes c.text.at) (slice_index bytes (c.text.at + 1)) = rw (← c.byte_at.ensures, ← c.byte_at-in-text.ensures) c.next_len-len.ensures in
    let some : 0 < next_len (slice_index bytes c.text.at) (slice_index bytes (c.text.at + 1)) = rw (← len) (omega arith) in
    (so_far ++ slice_index bytes c.text.at ∷ [], rw len (half_read_more bytes c.text.at c.text.size so_far c.text.invariant.1 some))

pub returns-else-size-le255 : goal.returns-else-size-le255
returns-else-size-le255 c =
    let bytes = c.args.bytes.now in
    let len : c.next_len-len.result ≡ next_len (slice_index bytes c.text.at) (slice_index bytes (c.text.at + 1)) = rw (← c.byte_at.ensures, ← c.byte_at-in-text.ensures) c.next_len-len.ensures in
    no_text bytes (kind_text bytes c.requires)
    (no_text_here bytes c.text.at c.text.size c.text.invariant.0 c.text.invariant.1 (sym len ∙ c.if-len-eq0.true)
    (λ small quote. elim c.else-size-le255.branch [
      | else-size-le255-via-then-size-le255+else-byte_at-eq34 w ↦ w.if-byte_at-eq34.false (w.byte_at-then-size-le255.ensures ∙ quote)
      | else-size-le255-via-else-size-le255 w ↦ omega (arith, w.if-size-le255.false)
    ]))
