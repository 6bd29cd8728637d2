-- The token of an item whose path is in range: its spelling between quotes.
use Rattle.std.proofs.Common.{◌≡◌, ℕ, ◌+◌, ◌-◌, false, List, [], ◌∷◌, ◌++◌, length, take, if◌then◌else◌, ap, ◌∙◌, arith}
use Rattle.std.specs.Prelude.{nat_lt}
use Rattle.std.proofs.Math.Seq.{take-append_seam}
use Rattle.std.proofs.lemmas.Bool.{le-ltb}
use Rattle.std.proofs.lemmas.List.{length-append}
use Rattle.std.proofs.lemmas.List.Elements.{All-weaker}
use Rattle.flow_model.specs.Paths.{spelling, IsStep, IsPath, Spells}
use Rattle.flow_model.specs.declared.instances.Part.{Part}
use Rattle.flow_model.specs.declared.instances.Path.{Path}
use Rattle.flow_txn.specs.Ranges.{PartFits, PathFits}
use Rattle.machine.specs.Verdicts.{between}

-- the token that names an item
abbrev pub token_of : Path → List ℕ
token_of path = 39 ∷ (spelling path ++ 39 ∷ [])

-- what stands between quotes
between_quotes : (bytes : List ℕ) → between (39 ∷ (bytes ++ 39 ∷ [])) ≡ bytes
between_quotes bytes =
    let quoted : List ℕ = bytes ++ 39 ∷ [] in
    let count : length quoted ≡ length bytes + 1 = length-append bytes (39 ∷ []) in
    let long : nat_lt (length (39 ∷ quoted)) 2 ≡ false = le-ltb (length (39 ∷ quoted)) 2 (omega (arith, count)) in
    let inner : length (39 ∷ quoted) - 2 ≡ length bytes = omega (arith, count) in
    ap (λ b. if b then 39 ∷ quoted else take (length (39 ∷ quoted) - 2) quoted) long
    ∙ ap (λ n. take n quoted) inner
    ∙ take-append_seam bytes (39 ∷ [])

-- a path in range can be written
path_written : (path : Path) → PathFits path → IsPath path
path_written path fine = record {
  counted = fine.0.0;
  small = fine.0.1;
  steps = All-weaker PartFits IsStep
      (λ (q : Part). λ part. record { named = part.0; counted = part.1.0; small = part.1.1 }) path.parts fine.2;
}

-- its token spells it
pub token_spells : (path : Path) → PathFits path → Spells (between (token_of path)) path
token_spells path fine = record { path = path_written path fine; spelled = between_quotes (spelling path) }
