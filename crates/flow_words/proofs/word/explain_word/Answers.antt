use Rattle.std.proofs.Common.{◌≡◌, ℕ, List, ◌∷◌, [], map, string_bytes, refl, arith}
use Rattle.flow_words.proofs.Saying.{files_so, one_word}
use Rattle.flow_words.proofs.word.explain_word.Goals as goal

pub returns-in-len1 : goal.returns-in-len1
returns-in-len1 c = (
  refl,
  files_so (λ words. (activity : List ℕ) × (words ≡ activity ∷ [])) (map string_bytes c.args.rest.now) (map string_bytes c.in_ok-behind_files.field-0.now) c.in_ok-behind_files.ensures.some
      (one_word c.in_ok-behind_files.field-0.now (omega (arith, c.in-len1.len_at_least)) (omega (arith, c.in-len1.len_below))),
)
