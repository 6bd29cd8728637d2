use Rattle.std.proofs.Common.{◌≡◌, ◌∷◌, ◌++◌, [], ap, sym, ◌∙◌}
use Rattle.text_words.proofs.Counting.{one_part}
use Rattle.text_words.proofs.Spelling.{found_path, step_behind}
use Rattle.text_words.proofs.paths.step_of.Goals as goal

pub returns-in-len1 : goal.returns-in-len1
returns-in-len1 c =
    let text = c.deref.result.now in
    let behind : text ≡ 49 ∷ c.args.text.now = c.deref.ensures.value ∙ c.in_ok-extend_from_slice.ensures.items ∙ ap (λ l. l ++ c.args.text.now) (c.in_ok-push.ensures.items ∙ ap (λ l. l ++ 49 ∷ []) c.in_ok-whole.ensures.items) in
    let parts = sym c.as_slice.ensures ∙ one_part c.as_slice.result.now c.step-item.result c.in-len1.len_at_least c.in-len1.len_below c.step-item.is in
    rw c.in_ok-copy-in-len1.ensures
    (step_behind text c.args.text.now c.in-Some.path c.step-item.result behind parts (found_path text c.in_ok-path_of_one.field-0 c.in-Some.path c.in-Some.is c.in_ok-path_of_one.ensures))
