use Rattle.std.proofs.Common.{◌≡◌, drop, arith}
use Rattle.std.specs.List.{prefix_len}
use Rattle.std.proofs.lemmas.List.{take_rest}
use Rattle.std.proofs.lemmas.Bool.Decides.{nat_tests}
use Rattle.fdl_lexer.specs.Bytes.{is_item_byte}
use Rattle.fdl_lexer.proofs.Quotes.{item_found}
use Rattle.fdl_lexer.proofs.Classes.{kind_item, no_item}
use Rattle.fdl_lexer.proofs.quoted.item.Goals as goal
use Rattle.fdl_lexer.proofs.quoted.item.Goals.{else-len-le1024-via-then-len-le1024+else-byte_at-eq39, else-len-le1024-via-else-len-le1024}

pub returns-then-byte_at-eq39 : goal.returns-then-byte_at-eq39
returns-then-byte_at-eq39 c =
    let bytes = c.args.bytes.now in
    let run = rw (take_rest bytes 1) at c.item_len-len.ensures.len in
    item_found bytes _ c.requires.quote c.requires.digit run c.if-len-le1024.true (grind (arith, nat_tests))

pub returns-else-len-le1024 : goal.returns-else-len-le1024
returns-else-len-le1024 c =
    let bytes = c.args.bytes.now in
    let run : c.item_len-len.result ≡ prefix_len is_item_byte (drop 1 bytes) = rw (take_rest bytes 1) at c.item_len-len.ensures.len in
    no_item bytes (kind_item bytes c.requires.quote c.requires.digit)
    (λ small quote. elim c.else-len-le1024.branch [
      | else-len-le1024-via-then-len-le1024+else-byte_at-eq39 w ↦ grind (arith, nat_tests)
      | else-len-le1024-via-else-len-le1024 w ↦ omega (arith, w.if-len-le1024.false)
    ])
