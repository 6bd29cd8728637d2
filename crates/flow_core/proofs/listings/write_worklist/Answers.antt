use Rattle.std.proofs.Common.{ap, sym, ◌∙◌, [], ◌∷◌, ◌++◌, length}
use Rattle.std.specs.Prelude.{codes}
use Rattle.std.specs.List.{flat_map}
use Rattle.std.specs.Fmt.{decimal}
use Rattle.std.proofs.lemmas.List.{append_assoc}
use Rattle.flow_text.specs.Spelling.{name_in_quotes}
use Rattle.flow_core.specs.Answers.{work_line}
use Rattle.flow_core.proofs.Listed.{and_then}
use Rattle.flow_core.proofs.listings.write_worklist.Goals as goal

pub returns : goal.returns
returns c =
    let out = c.args.out.now.items in
    let quoted = name_in_quotes c.args.name.now in
    let number = decimal (length c.args.lines.now) in
    let head = codes "ok WORKLIST " ++ quoted in
    let named = and_then out (codes "ok WORKLIST ") quoted c.in_ok-extend_from_slice.ensures.items
    (c.in_ok-quoted_name.ensures.ok ∙ ap (λ name. c.extend_from_slice.new.self.items ++ name_in_quotes name) c.as_slice.ensures) in
    let counted = and_then out head (32 ∷ number) named c.in_ok-numbered.ensures ∙ ap (λ t. out ++ t) (sym (append_assoc head (32 ∷ []) number)) in
    let ended = and_then out (head ++ (32 ∷ []) ++ number) (10 ∷ []) counted c.in_ok-end_line.ensures in
    and_then out (head ++ (32 ∷ []) ++ number ++ (10 ∷ [])) (flat_map work_line c.args.lines.now) ended c.in_ok-put_work_lines.ensures
