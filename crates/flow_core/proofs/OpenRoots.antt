-- What is open of the roots so far and what is open of those that are left make what is open of all.
use Rattle.std.proofs.Common.{◌∙◌, sym, ap, subst, refl, ℕ, List, ◌∷◌, ◌++◌}
use Rattle.std.proofs.lemmas.List.{append_assoc}
use Rattle.flow_core.specs.OpenItems.{Open, AreOpenIn, AddsOpen}
use Rattle.flow_core.specs.declared.state.Core.{Core}
use Rattle.flow_core.specs.declared.state.Root.{Root}

-- what is open of the roots that are left goes behind what was found, and gives what is open of all roots
abbrev pub AreLeft : Core → List (ℕ × Root) → List (ℕ × Root) → List Open → Type 0
AreLeft c all left found = (rest : List Open) → AreOpenIn c left rest → AreOpenIn c all (found ++ rest)

pub next_root : (c : Core) (all left : List (ℕ × Root)) (r : ℕ × Root) (found more : List Open) → AreLeft c all (r ∷ left) found → AddsOpen c r.1.instance found more → AreLeft c all left more
next_root c all left r found more before adds = λ rest behind.
    let here = adds.0 in
    let whole = before (here ++ rest) (here, rest, adds.1, behind, refl) in
    subst (AreOpenIn c all) (sym (append_assoc found here rest) ∙ ap (λ o. o ++ rest) (sym adds.2)) whole
