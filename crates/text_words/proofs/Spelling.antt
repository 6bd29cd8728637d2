-- How a step behind the text of a scope spells the path below it.
use Rattle.std.proofs.Common.{◌≡◌, ℕ, Option, Some, List, [], ◌∷◌, ◌++◌, decimal, drop, sym, ap, ◌∙◌, subst, arith, append_assoc, append-nil}
use Rattle.std.specs.List.{All}
use Rattle.std.specs.Prelude.{IfSome}
use Rattle.std.proofs.lemmas.Fmt.{decimal_digit}
use Rattle.std.proofs.lemmas.List.Elements.{All-head, All-push}
use Rattle.flow_model.specs.Paths.{IsStep, part_spelling, parts_spelling, spelling}
use Rattle.flow_model.specs.Rows.{below}
use Rattle.flow_model.specs.declared.instances.Part.{Part}
use Rattle.flow_model.specs.declared.instances.Path.{Path}
use Rattle.text_words.specs.Items.{IsPathText, SpellsStep, WritesPath}

parts_last : (ps : List Part) (q : Part) → parts_spelling (ps ++ q ∷ []) ≡ parts_spelling ps ++ part_spelling q
parts_last [] q = append-nil (part_spelling q)
parts_last (r ∷ ps) q = ap (λ (l : List ℕ). part_spelling r ++ l) (parts_last ps q) ∙ sym (append_assoc (part_spelling r) (parts_spelling ps) (part_spelling q))

below_spelling : (p : Path) (q : Part) → spelling (below p q) ≡ spelling p ++ part_spelling q
below_spelling p q = ap (λ (l : List ℕ). decimal p.root ++ l) (parts_last p.parts q) ∙ sym (append_assoc (decimal p.root) (parts_spelling p.parts) (part_spelling q))

-- one more step
pub one_below : (front text : List ℕ) (p : Path) (q : Part) → SpellsStep text q → IsPathText front p → IsPathText (front ++ text) (below p q)
one_below front text p q step is = (
  record {
    path = record { counted = is.0.path.counted; small = is.0.path.small; steps = All-push IsStep p.parts q is.0.path.steps step.0 };
    spelled = ap (λ (l : List ℕ). l ++ text) is.0.spelled ∙ ap (λ (l : List ℕ). spelling p ++ l) step.1 ∙ sym (below_spelling p q);
  },
  is.1,
)

-- the step that stands behind root 1
pub step_behind : (whole text : List ℕ) (p : Path) (q : Part) → whole ≡ 49 ∷ text → p.parts ≡ q ∷ [] → IsPathText whole p → SpellsStep text q
step_behind whole text p q behind one is =
    let root : decimal p.root ≡ 49 ∷ [] = ap decimal is.1 ∙ decimal_digit 1 (omega arith) in
    let spelled : spelling p ≡ 49 ∷ part_spelling q = ap (λ (ds : List ℕ). ds ++ parts_spelling p.parts) root ∙ ap (λ (qs : List Part). 49 ∷ parts_spelling qs) one ∙ ap (λ (l : List ℕ). 49 ∷ l) (append-nil (part_spelling q)) in (
      All-head IsStep q [] (subst (λ (qs : List Part). All IsStep qs) one is.0.path.steps),
      ap (drop 1) (sym behind ∙ is.0.spelled ∙ spelled),
    )

-- what was found is what the text spells
pub found_path : (text : List ℕ) (found : Option Path) (p : Path) → found ≡ Some p → WritesPath text found → IsPathText text p
found_path text found p is h = subst (λ (o : Option Path). WritesPath text o) is h

pub found_step : (text : List ℕ) (found : Option Part) (q : Part) → found ≡ Some q → IfSome found (SpellsStep text) → SpellsStep text q
found_step text found q is h = subst (λ (o : Option Part). IfSome o (SpellsStep text)) is h
