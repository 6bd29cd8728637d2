-- The rows of places are filled element by element.
use Rattle.std.proofs.Common.{◌≡◌, ℕ, ◌+◌, ◌<◌, ◌≢◌, Bool, true, false, List, [], ◌∷◌, ◌++◌, length, get_or, drop, replicate, cond, refl, sym, ap, subst, ◌∙◌, append_assoc, append-nil, add-one, inl, inr, ◌≤◌, zero, suc, arith}
use Rattle.std.specs.List.{All}
use Rattle.std.specs.Prelude.{◌==◌}
use Rattle.std.proofs.Math.ListN.{set}
use Rattle.std.proofs.Math.Seq.{drop-cons}
use Rattle.std.proofs.lemmas.Bool.Decides.{eqb_tells}
use Rattle.std.proofs.lemmas.List.{get_or-set_same, get_or-set_other, drop_all}
use Rattle.std.proofs.lemmas.Option.{unwrap_or-slice_get}
use Rattle.flow_model.specs.Wiring.{places}
use Rattle.flow_model.specs.declared.graphs.Control.{Control}
use Rattle.graph_check.specs.Walks.{AreNodes}
use Rattle.template_check.specs.Wires.{AreRows, pairs_of}

-- the rows are filled up to place i
pub record AreFilled {X : Type 0} (leads : X → ℕ → Bool) (items : List X) (i : ℕ) (rows : List (List ℕ)) : Type 0 where
  pub each : (a : ℕ) → get_or rows a [] ++ places (λ x. leads x a) i (drop i items) ≡ places (λ x. leads x a) 0 items

none_filled : (count a : ℕ) → get_or {A = List ℕ} (replicate count []) a [] ≡ []
none_filled zero a = refl
none_filled (suc count) zero = refl
none_filled (suc count) (suc a) = none_filled count a

pub filled_none : {X : Type 0} (leads : X → ℕ → Bool) (items : List X) (count : ℕ) (rows : List (List ℕ)) → rows ≡ replicate count [] → AreFilled leads items 0 rows
filled_none leads items count rows is = record { each = λ a. ap (λ r. r ++ places (λ x. leads x a) 0 items) (ap (λ rs. get_or rs a []) is ∙ none_filled count a) }

pub filled_all : {X : Type 0} (leads : X → ℕ → Bool) (count : ℕ) (items : List X) (i : ℕ) (rows : List (List ℕ)) → length items ≤ i → length rows ≡ count → AreFilled leads items i rows
    → AreRows leads count items rows
filled_all leads count items i rows all long h = record {
  long = long;
  each = λ a. unwrap_or-slice_get rows a [] ∙ sym (append-nil (get_or rows a [])) ∙ ap (λ r. get_or rows a [] ++ places (λ x. leads x a) i r) (sym (drop_all i items all)) ∙ h.each a;
}

-- the element at place i, and those behind it
dropped : {X : Type 0} (items : List X) (i : ℕ) (x : X) → i < length items → get_or items i x ≡ x → drop i items ≡ x ∷ drop (i + 1) items
dropped items i x less is = rw (add-one i) (drop-cons items i x less ∙ ap (λ y. y ∷ drop (suc i) items) is)

chosen : {X : Type 0} (test : X → Bool) (b : Bool) (items : List X) (i : ℕ) (x : X) → i < length items → get_or items i x ≡ x → test x ≡ b
    → places test i (drop i items) ≡ cond b (i ∷ places test (i + 1) (drop (i + 1) items)) (places test (i + 1) (drop (i + 1) items))
chosen test b items i x less is tells =
    ap (places test i) (dropped items i x less is) ∙ ap (λ v. cond v (i ∷ places test (i + 1) (drop (i + 1) items)) (places test (i + 1) (drop (i + 1) items))) tells

-- an element that leads nowhere
pub filled_past : {X : Type 0} (leads : X → ℕ → Bool) (items : List X) (i : ℕ) (x : X) (rows : List (List ℕ)) → i < length items → get_or items i x ≡ x → ((a : ℕ) → leads x a ≡ false)
    → AreFilled leads items i rows → AreFilled leads items (i + 1) rows
filled_past leads items i x rows less is none h = record {
  each = λ a. ap (λ r. get_or rows a [] ++ r) (sym (chosen (λ y. leads y a) false items i x less is (none a))) ∙ h.each a;
}

-- an element that leads to b
module _ {X : Type 0} (leads : X → ℕ → Bool) (items : List X) (i : ℕ) (x : X) (b : ℕ) (rows next : List (List ℕ)) (less : i < length items) (is : get_or items i x ≡ x) (leads_to : (a : ℕ) → leads x a ≡ (b == a))
    (inside : b < length rows) (now : next ≡ set rows b (get_or rows b [] ++ i ∷ [])) (h : AreFilled leads items i rows) where
  at_b : b == b ≡ true → get_or next b [] ++ places (λ y. leads y b) (i + 1) (drop (i + 1) items) ≡ places (λ y. leads y b) 0 items
  at_b same =
      ap (λ r. r ++ places (λ y. leads y b) (i + 1) (drop (i + 1) items)) (ap (λ rs. get_or rs b []) now ∙ get_or-set_same rows b (get_or rows b [] ++ i ∷ []) [] inside)
      ∙ append_assoc (get_or rows b []) (i ∷ []) (places (λ y. leads y b) (i + 1) (drop (i + 1) items))
      ∙ ap (λ r. get_or rows b [] ++ r) (sym (chosen (λ y. leads y b) true items i x less is (leads_to b ∙ same)))
      ∙ h.each b

  at_other : (a : ℕ) → b == a ≡ false → a ≢ b → get_or next a [] ++ places (λ y. leads y a) (i + 1) (drop (i + 1) items) ≡ places (λ y. leads y a) 0 items
  at_other a differs apart =
      ap (λ r. r ++ places (λ y. leads y a) (i + 1) (drop (i + 1) items)) (ap (λ rs. get_or rs a []) now ∙ get_or-set_other rows b a (get_or rows b [] ++ i ∷ []) [] apart)
      ∙ ap (λ r. get_or rows a [] ++ r) (sym (chosen (λ y. leads y a) false items i x less is (leads_to a ∙ differs)))
      ∙ h.each a

  pub filled_next : AreFilled leads items (i + 1) next
  filled_next = record {
    each = λ a. elim (eqb_tells b a) [
      | inl e ↦ subst (λ v. get_or next v [] ++ places (λ y. leads y v) (i + 1) (drop (i + 1) items) ≡ places (λ y. leads y v) 0 items) e.1 (at_b (subst (λ v. b == v ≡ true) (sym e.1) e.0))
      | inr n ↦ at_other a n.0 (λ q. n.1 (sym q))
    ];
  }

-- what holds of all elements holds of the one that was read
pub read_all : {X : Type 0} (P : X → Type 0) (items : List X) (i : ℕ) (x : X) → All P items → i < length items → x ≡ get_or items i x → P x
read_all P items i x all less is = subst P (sym is) (all i x less)

-- the connectors as pairs lie among the activities
pub pairs_below : (count : ℕ) (controls : List Control) → All (λ c. c.from < count) controls → All (λ c. c.to < count) controls → AreNodes count (pairs_of controls)
pairs_below count [] sources targets k d less = absurd (omega (arith, less))
pairs_below count (c ∷ controls) sources targets zero d less = (sources zero c (omega arith), targets zero c (omega arith))
pairs_below count (c ∷ controls) sources targets (suc k) d less =
    pairs_below count controls (λ j e lt. sources (suc j) e (omega (arith, lt))) (λ j e lt. targets (suc j) e (omega (arith, lt))) k d (omega (arith, less))
