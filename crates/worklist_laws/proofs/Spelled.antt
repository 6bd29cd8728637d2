-- Bytes spell one path at most.
use Rattle.std.proofs.Common.{◌≡◌, ℕ, ◌==◌, List, [], ◌∷◌, ◌++◌, length, take, drop, decimal, refl, ap, sym, ◌∙◌}
use Rattle.std.specs.List.{All, position_or_len}
use Rattle.std.proofs.Math.Seq.{take-append_seam, drop-append_seam}
use Rattle.std.proofs.lemmas.Fmt.{decimal_injective}
use Rattle.std.proofs.lemmas.List.Elements.{All-head, All-tail}
use Rattle.flow_model.proofs.Steps.{step_end, name_cut, root_cut}
use Rattle.flow_model.specs.Paths.{parts_spelling, IsStep, Spells}
use Rattle.flow_model.specs.Scopes.{part}
use Rattle.flow_model.specs.declared.instances.Part.{Part}
use Rattle.flow_model.specs.declared.instances.Path.{Path}
use Rattle.worklist_laws.proofs.Paths.{path_one}

-- a step behind its `/`
abbrev inner : Part → List ℕ
inner q = q.name ++ 35 ∷ decimal q.attempt

step_one : (q r : Part) → IsStep q → IsStep r → inner q ≡ inner r → q ≡ r
step_one q r is is' same =
    let written = inner q in
    let n = position_or_len (λ b. b == 35) written in
    let cut = name_cut q written (take n written) (drop n written) n is refl refl refl refl in
    let cut' = name_cut r written (take n written) (drop n written) n is' same refl refl refl in
    let name : q.name ≡ r.name = sym cut.0 ∙ cut'.0 in
    let digits : 35 ∷ decimal q.attempt ≡ 35 ∷ decimal r.attempt = sym cut.1 ∙ cut'.1 in
    let attempt : q.attempt ≡ r.attempt = decimal_injective q.attempt r.attempt is.small is'.small (ap (drop 1) digits) in
    ap (λ t. part t q.attempt) name ∙ ap (part r.name) attempt

steps_one : (ps qs : List Part) → All IsStep ps → All IsStep qs → parts_spelling ps ≡ parts_spelling qs → ps ≡ qs
steps_one [] [] fine fine' same = refl
steps_one [] (q ∷ qs) fine fine' same = let m : ⊥ = cc in absurd m
steps_one (p ∷ ps) [] fine fine' same = let m : ⊥ = cc in absurd m
steps_one (p ∷ ps) (q ∷ qs) fine fine' same =
    let is = All-head IsStep p ps fine in
    let is' = All-head IsStep q qs fine' in
    let bytes : List ℕ = inner p ++ parts_spelling ps in
    let tails : bytes ≡ inner q ++ parts_spelling qs = ap (drop 1) same in
    let n = position_or_len (λ b. b == 47) bytes in
    let here : n ≡ length (inner p) = step_end p ps bytes is refl in
    let here' : n ≡ length (inner q) = step_end q qs bytes is' tails in
    let first : inner p ≡ inner q
    = sym (ap (λ m. take m bytes) here ∙ take-append_seam (inner p) (parts_spelling ps))
    ∙ ap (λ m. take m bytes) here' ∙ ap (take (length (inner q))) tails ∙ take-append_seam (inner q) (parts_spelling qs) in
    let rest : parts_spelling ps ≡ parts_spelling qs
    = sym (ap (λ m. drop m bytes) here ∙ drop-append_seam (inner p) (parts_spelling ps))
    ∙ ap (λ m. drop m bytes) here' ∙ ap (drop (length (inner q))) tails ∙ drop-append_seam (inner q) (parts_spelling qs) in
    ap (λ (x : Part). x ∷ ps) (step_one p q is is' first) ∙ ap (λ (xs : List Part). q ∷ xs) (steps_one ps qs (All-tail IsStep p ps fine) (All-tail IsStep q qs fine') rest)

pub spells_one : (bytes : List ℕ) (p q : Path) → Spells bytes p → Spells bytes q → p ≡ q
spells_one bytes p q h h' =
    let n = position_or_len (λ b. b == 47) bytes in
    let cut = root_cut p bytes (take n bytes) (drop n bytes) n h refl refl refl in
    let cut' = root_cut q bytes (take n bytes) (drop n bytes) n h' refl refl refl in
    path_one p q (decimal_injective p.root q.root h.path.small h'.path.small (sym cut.0 ∙ cut'.0)) (steps_one p.parts q.parts h.path.steps h'.path.steps (sym cut.1 ∙ cut'.1))
