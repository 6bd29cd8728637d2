-- A graph has one wiring.
use Rattle.std.proofs.Common.{◌≡◌, ℕ, suc, List, [], ◌∷◌, length, refl, sym, ap, ◌∙◌, arith, Bool}
use Rattle.flow_model.specs.Wiring.{row_at}
use Rattle.flow_model.specs.declared.graphs.Control.{Control}
use Rattle.flow_model.specs.declared.graphs.DataLine.{DataLine}
use Rattle.flow_model.specs.declared.graphs.LoopLine.{LoopLine}
use Rattle.flow_model.specs.declared.graphs.Wiring.{Wiring}
use Rattle.graph_levels.proofs.LevelOrders.{one_level_order}
use Rattle.template_check.specs.Wires.{AreRows, AreWired, pairs_of}

-- lists of rows that are as long and have the same rows
same_rows : (rows others : List (List ℕ)) → length rows ≡ length others → ((a : ℕ) → row_at rows a ≡ row_at others a) → rows ≡ others
same_rows [] [] long same = refl
same_rows [] (o ∷ others) long same = absurd (omega (arith, long))
same_rows (r ∷ rows) [] long same = absurd (omega (arith, long))
same_rows (r ∷ rows) (o ∷ others) long same =
    ap (λ (x : List ℕ). x ∷ rows) (same 0) ∙ ap (λ (xs : List (List ℕ)). o ∷ xs) (same_rows rows others (omega (arith, long)) (λ a. same (suc a)))

pub one_rows : {X : Type 0} (leads : X → ℕ → Bool) (count : ℕ) (items : List X) (rows others : List (List ℕ)) → AreRows leads count items rows → AreRows leads count items others → rows ≡ others
one_rows leads count items rows others g h = same_rows rows others (g.long ∙ sym h.long) (λ a. g.each a ∙ sym (h.each a))

pub one_wiring : (count : ℕ) (controls : List Control) (lines : List DataLine) (loops : List LoopLine) (wiring other : Wiring) → AreWired count controls lines loops wiring
    → AreWired count controls lines loops other → wiring ≡ other
one_wiring count controls lines loops wiring other g h =
    let by : List ℕ → List (List ℕ) → List (List ℕ) → List (List ℕ) → List ℕ → List (List ℕ) → Wiring =
    λ order incoming outgoing feeding sinking looping. record { order = order; incoming = incoming; outgoing = outgoing; feeding = feeding; sinking = sinking; looping = looping } in
    ap (λ x. by x wiring.incoming wiring.outgoing wiring.feeding wiring.sinking wiring.looping) (one_level_order count (pairs_of controls) wiring.order other.order g.ordered h.ordered)
    ∙ ap (λ x. by other.order x wiring.outgoing wiring.feeding wiring.sinking wiring.looping) (one_rows _ count controls wiring.incoming other.incoming g.incoming h.incoming)
    ∙ ap (λ x. by other.order other.incoming x wiring.feeding wiring.sinking wiring.looping) (one_rows _ count controls wiring.outgoing other.outgoing g.outgoing h.outgoing)
    ∙ ap (λ x. by other.order other.incoming other.outgoing x wiring.sinking wiring.looping) (one_rows _ count lines wiring.feeding other.feeding g.feeding h.feeding)
    ∙ ap (λ x. by other.order other.incoming other.outgoing other.feeding x wiring.looping) (g.sinking ∙ sym h.sinking)
    ∙ ap (λ x. by other.order other.incoming other.outgoing other.feeding other.sinking x) (one_rows _ count loops wiring.looping other.looping g.looping h.looping)
