use Rattle.std.proofs.Common.{◌≡◌, drop, arith}
use Rattle.std.specs.List.{prefix_len}
use Rattle.std.proofs.lemmas.List.{take_rest}
use Rattle.std.proofs.lemmas.Bool.Decides.{nat_tests}
use Rattle.flow_model.specs.Words.{is_name_byte}
use Rattle.fdl_lexer.proofs.Quotes.{name_found}
use Rattle.fdl_lexer.proofs.Classes.{kind_name, no_name}
use Rattle.fdl_lexer.proofs.quoted.name.Goals as goal
use Rattle.fdl_lexer.proofs.quoted.name.Goals.{else-len-le32-via-then-len-le32+else-byte_at-eq39, else-len-le32-via-else-len-le32}

pub returns-then-byte_at-eq39 : goal.returns-then-byte_at-eq39
returns-then-byte_at-eq39 c =
    let bytes = c.args.bytes.now in
    let run = rw (take_rest bytes 1) at c.name_len-len.ensures.len in
    name_found bytes _ c.requires.quote c.requires.letter run c.if-len-le32.true (grind (arith, nat_tests))

pub returns-else-len-le32 : goal.returns-else-len-le32
returns-else-len-le32 c =
    let bytes = c.args.bytes.now in
    let run : c.name_len-len.result ≡ prefix_len is_name_byte (drop 1 bytes) = rw (take_rest bytes 1) at c.name_len-len.ensures.len in
    no_name bytes (kind_name bytes c.requires.quote c.requires.letter)
    (λ small quote. elim c.else-len-le32.branch [
      | else-len-le32-via-then-len-le32+else-byte_at-eq39 w ↦ grind (arith, nat_tests)
      | else-len-le32-via-else-len-le32 w ↦ omega (arith, w.if-len-le32.false)
    ])
