-- Connectors of which no two have the same ends.
use Rattle.std.proofs.Common.{◌≡◌, ℕ, suc, Bool, true, false, List, [], ◌∷◌, get_or, refl, sym, ◌∙◌, arith}
use Rattle.std.specs.Prelude.{◌==◌, ◌&&◌}
use Rattle.std.specs.List.{All}
use Rattle.std.proofs.lemmas.List.{get_or-map, length-map}
use Rattle.std.proofs.lemmas.List.Folds.{list_any_none}
use Rattle.fate_laws.specs.WellFormed.{AreSimple}
use Rattle.flow_model.specs.declared.graphs.Control.{Control}
use Rattle.text_graphs.specs.Texts.{AllDiffer}
use Rattle.text_graphs.proofs.Differing.{pairs_decide, rest_differ}
use Rattle.template_check.specs.Wires.{pairs_of}

-- connectors of which no two have the same ends
pub simple : (controls : List Control) → AllDiffer (pairs_of controls) → AreSimple controls
simple [] all = tt
simple (c ∷ cs) all = (list_any_none (λ d. (c.from == d.from) && (c.to == d.to)) cs other, simple cs (rest_differ (c.from, c.to) (pairs_of cs) all))
  where
    ends : Control → ℕ × ℕ
    ends d = (d.from, d.to)

    go : (b : Bool) → (b ≡ true → ⊥) → b ≡ false
    go true differs = absurd (differs refl)
    go false differs = refl

    other : All (λ (d : Control). ((c.from == d.from) && (c.to == d.to)) ≡ false) cs
    other k d less =
        let x = get_or cs k d in
        let here : get_or (pairs_of cs) k (ends d) ≡ ends x = get_or-map ends cs k d (ends d) less in
        go ((c.from == x.from) && (c.to == x.to))
        (λ same. all 0 (suc k) (ends d) (omega arith) (omega (arith, length-map cs ends)) ((pairs_decide (ends c) (ends x)).0 same ∙ sym here))
