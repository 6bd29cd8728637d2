-- How the text of an output is written behind another one.
use Rattle.std.proofs.Common.{◌≡◌, ℕ, List, ◌++◌, codes, length, ap, ◌∙◌, append_assoc}
use Rattle.flow_model.specs.declared.graphs.Container.{Container}
use Rattle.flow_model.specs.declared.graphs.Leaves.{Leaves}
use Rattle.reply_text.specs.Leaves.{container_text}
use Rattle.text_words.specs.FateAnswers.{counted, complete_text}

regrouped : (old head rest : List ℕ) → (old ++ head) ++ rest ≡ old ++ (head ++ rest)
regrouped old head rest = simp append_assoc

-- the line of a number and then the values are the text of the output
pub complete_behind : (of : Leaves) (output : Container) (old one two : List ℕ) (n : ℕ) → n ≡ length output.values → one ≡ old ++ counted (codes "ok OUTPUT 1 ") n → two ≡ one ++ container_text of output
    → two ≡ old ++ complete_text of output
complete_behind of output old one two n n_is one_is two_is =
    two_is ∙ ap (λ l. l ++ container_text of output) (one_is ∙ ap (λ k. old ++ counted (codes "ok OUTPUT 1 ") k) n_is)
    ∙ regrouped old (counted (codes "ok OUTPUT 1 ") (length output.values)) (container_text of output)
