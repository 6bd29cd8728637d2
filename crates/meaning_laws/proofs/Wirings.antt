-- The wiring of a graph: its rows follow from its lists, and its order is there where no connectors close a walk.
use Rattle.std.proofs.Common.{◌≡◌, ℕ, suc, ◌+◌, ◌<◌, ◌≤◌, Bool, false, List, [], ◌∷◌, inl, inr, get_or, refl, ap, ◌∙◌}
use Rattle.std.proofs.Common.{sym, arith}
use Rattle.std.specs.Prelude.{◌==◌, ◌⊎◌}
use Rattle.std.specs.List.{All}
use Rattle.std.proofs.lemmas.Bool.Decides.{eqb_tells, leb_tells}
use Rattle.std.proofs.lemmas.List.{get_or_past}
use Rattle.std.proofs.lemmas.Option.{unwrap_or-slice_get}
use Rattle.flow_model.specs.ScopeContainers.{same_end}
use Rattle.flow_model.specs.Wiring.{places}
use Rattle.flow_model.specs.declared.graphs.Control.{Control}
use Rattle.flow_model.specs.declared.graphs.DataLine.{DataLine}
use Rattle.flow_model.specs.declared.graphs.LoopLine.{LoopLine}
use Rattle.flow_model.specs.declared.graphs.MapEnd.{MapEnd}
use Rattle.flow_model.specs.declared.graphs.MapEnd.TheVariants.{Border, Activity as At}
use Rattle.flow_model.specs.declared.graphs.Wiring.{Wiring}
use Rattle.template_check.proofs.Rows.{pairs_below}
use Rattle.template_check.specs.Wires.{AreRows, AreWired, AreWithin, IsEndBelow, pairs_of}
use Rattle.text_graphs.specs.ClosedWalks.{IsAcyclic}
use Rattle.meaning_laws.proofs.Listed.{listed, length_listed, listed_at}
use Rattle.meaning_laws.proofs.Orders.{level_order_there}

-- where no element passes, no place is listed
no_places : {X : Type 0} (test : X → Bool) (n : ℕ) (xs : List X) → All (λ x. test x ≡ false) xs → places test n xs ≡ []
no_places test n [] none = refl
no_places test n (x ∷ xs) none =
    rw (none 0 x (omega arith)) (no_places test (n + 1) xs (λ k d less. none (suc k) d (omega (arith, less))))

-- ---- rows

module _ {X : Type 0} (leads : X → ℕ → Bool) (count : ℕ) (xs : List X)
    (within : (a : ℕ) → count ≤ a → All (λ x. leads x a ≡ false) xs) where
  -- the row of one
  row_for : ℕ → List ℕ
  row_for a = places (λ x. leads x a) 0 xs

  -- stands at its place
  at_row : (a : ℕ) → (a < count) ⊎ (count ≤ a) → get_or (listed row_for 0 count) a [] ≡ row_for a
  unfolding row_for
  at_row a (inl less) =
      listed_at row_for 0 count a [] less ∙ ap row_for (let e : 0 + a ≡ a = omega arith in e)
  at_row a (inr past) =
      get_or_past (listed row_for 0 count) a [] (omega (arith, past, length_listed row_for 0 count))
      ∙ sym (no_places (λ x. leads x a) 0 xs (within a past))

  -- the rows of elements
  pub rows_there : (rows : List (List ℕ)) × AreRows leads count xs rows
  unfolding row_for
  rows_there = (
    listed row_for 0 count,
    record {
      long = length_listed row_for 0 count;
      each = λ a. unwrap_or-slice_get (listed row_for 0 count) a [] ∙ at_row a (before a);
    },
  )
    where
      before : (a : ℕ) → (a < count) ⊎ (count ≤ a)
      before a = elim (leb_tells count a) [ inl e ↦ inr e.1 | inr d ↦ inl d.1 ]

-- ---- wirings

-- a number that is below and one that is not are apart
apart : (count m a : ℕ) → m < count → count ≤ a → m == a ≡ false
apart count m a less past = elim (eqb_tells m a) [ inl e ↦ absurd (omega (arith, e.1, less, past)) | inr d ↦ d.0 ]

-- so is an end below, and an activity that is not
end_apart : (count a : ℕ) (end : MapEnd) → IsEndBelow count end → count ≤ a → same_end end (At a) ≡ false
end_apart count a Border below past = refl
end_apart count a (At b) below past = apart count b a below past

-- the wiring of lists whose ends are activities
pub wiring_there : (count : ℕ) (controls : List Control) (lines : List DataLine) (loops : List LoopLine)
    → AreWithin count controls lines loops → IsAcyclic (pairs_of controls)
    → (wiring : Wiring) × AreWired count controls lines loops wiring
wiring_there count controls lines loops within acyclic =
    let nodes = pairs_below count controls within.sources within.targets in
    let order = level_order_there count (pairs_of controls) nodes acyclic in
    let incoming = rows_there (λ c a. c.to == a) count controls
    (λ a past k d less. apart count (get_or controls k d).to a (within.targets k d less) past) in
    let outgoing = rows_there (λ c a. c.from == a) count controls
    (λ a past k d less. apart count (get_or controls k d).from a (within.sources k d less) past) in
    let feeding = rows_there (λ line a. same_end line.to (At a)) count lines
    (λ a past k d less. end_apart count a (get_or lines k d).to (within.fed k d less) past) in
    let looping = rows_there (λ line a. line.activity == a) count loops
    (λ a past k d less. apart count (get_or loops k d).activity a (within.looped k d less) past) in (
      record {
        order = order.0;
        incoming = incoming.0;
        outgoing = outgoing.0;
        feeding = feeding.0;
        sinking = places (λ line. same_end line.to Border) 0 lines;
        looping = looping.0;
      },
      record {
        ordered = order.1;
        incoming = incoming.1;
        outgoing = outgoing.1;
        feeding = feeding.1;
        sinking = refl;
        looping = looping.1;
      },
    )
