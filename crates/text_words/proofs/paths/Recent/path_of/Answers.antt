use Rattle.std.proofs.Common.{◌≡◌, List, ℕ, sym, subst, ◌∙◌}
use Rattle.std.specs.Cmp.Lexicographic.{bytes_decides}
use Rattle.std.proofs.lemmas.Result.{IfOk-weaker}
use Rattle.text_words.specs.Items.{IsPathText}
use Rattle.text_words.proofs.paths.Recent.path_of.Goals as goal

pub returns-then-eq : goal.returns-then-eq
returns-then-eq c =
    let same : c.args.self.now.text.items ≡ c.args.front.now = sym c.as_slice.ensures.value ∙ (bytes_decides c.as_slice.result.now c.args.front.now).0 (sym c.eq.ensures ∙ c.if-eq.true) in
    let front = subst (λ (l : List ℕ). IsPathText l c.in-Some.scope) same (c.args.self.now.spelled c.in-Some.scope c.in-Some.is) in
    IfOk-weaker c.path_below.result _ _ (λ found below. below c.args.front.now front) c.path_below.ensures
