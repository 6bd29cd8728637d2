-- Tests that pass, the activity of a name, and paths one step down.
use Rattle.std.proofs.Common.{◌≡◌, ℕ, zero, suc, ◌<◌, ◌==◌, Bool, true, false, if◌then◌else◌, List, [], ◌∷◌, ◌++◌, length, length-append, take, ◌-◌, Option, Some, None, refl, ap, ◌∙◌, arith, inl, inr, get_or}
use Rattle.std.specs.Prelude.{option_map, option_and_then, slice_get, position, bytes_eq, nat_lt, ◌^◌}
use Rattle.std.specs.List.{position_or_len}
use Rattle.std.proofs.lemmas.Bool.{cond-true}
use Rattle.std.proofs.lemmas.Bool.Decides.{eqb_tells, leb_tells}
use Rattle.std.proofs.lemmas.List.Sums.{position_or_len_is}
use Rattle.std.proofs.lemmas.Option.{slice_get-get_or, slice_get_within, get_or_from_slice_get}
use Rattle.std.proofs.lemmas.Slice.Eq.{bytes_eq-Decides}
use Rattle.std.proofs.Math.Seq.{take-append_seam}
use Rattle.flow_model.specs.declared.graphs.Activity.{Activity}
use Rattle.flow_model.specs.declared.graphs.Graph.{Graph, out-Graph}
use Rattle.flow_model.specs.declared.graphs.Template.{Template}
use Rattle.flow_model.specs.declared.instances.Part.{Part}
use Rattle.flow_model.specs.declared.instances.Path.{Path}
use Rattle.flow_model.specs.Paths.{spelling}
use Rattle.flow_model.specs.Rows.{below}
use Rattle.fate_laws.specs.WellFormed.{Well}
use Rattle.certificates.specs.Told.{Opened, Placed, activity_at, is_known, join_in, joined_at, last_part, outer, placed, same_path}
use Rattle.explanation_laws.specs.Certified.{HasReadActivities}
use Rattle.explanation_laws.proofs.Lists.{at_end}

-- ---- tests that pass

pub same_number : (n : ℕ) → (n == n) ≡ true
same_number n = elim (eqb_tells n n) [ inl is ↦ is.0 | inr other ↦ absurd (other.1 refl) ]

pub other_number : (m n : ℕ) → (m ≡ n → ⊥) → (m == n) ≡ false
other_number m n ne = elim (eqb_tells m n) [ inl is ↦ absurd (ne is.1) | inr other ↦ other.0 ]

is_less : (a n : ℕ) → a < n → nat_lt a n ≡ true
is_less a n h = elim (leb_tells (suc a) n) [ inl is ↦ is.0 | inr other ↦ absurd (omega (arith, h, other.1)) ]

pub same_itself : (p : Path) → same_path p p ≡ true
same_itself p = (bytes_eq-Decides (spelling p) (spelling p)).1 refl

pub known_as : (v : Bool) (o : Option Bool) → o ≡ Some v → is_known v o ≡ true
known_as true o is = ap (is_known true) is
known_as false o is = ap (is_known false) is

-- ---- the activity of a name

-- no name stands twice
named_once : (ts : List Template) (depth : ℕ) (g : Graph) → Well ts depth g → (a c : ℕ) (x y : Activity)
    → slice_get (out-Graph g).activities a ≡ Some x → slice_get (out-Graph g).activities c ≡ Some y → x.name ≡ y.name → a ≡ c
named_once ts zero g well = well.named
named_once ts (suc depth) g well = well.named

module _ (ts : List Template) (depth : ℕ) (g : Graph) (well : Well ts depth g) (acts : HasReadActivities g) (a : ℕ) (x : Activity)
    (is : slice_get (out-Graph g).activities a ≡ Some x) where
  abbrev pub here : Placed
  here = record { place = a; activity = x }

  abbrev test : Activity → Bool
  test y = bytes_eq y.name x.name

  inside : a < length (out-Graph g).activities
  inside = slice_get_within (out-Graph g).activities a x is

  other : (k : ℕ) → k < a → test (get_or (out-Graph g).activities k x) ≡ false
  other k less = by_test (test (get_or (out-Graph g).activities k x)) refl
    where
      by_test : (v : Bool) → test (get_or (out-Graph g).activities k x) ≡ v → test (get_or (out-Graph g).activities k x) ≡ false
      by_test false e = e
      by_test true e =
          let y = get_or (out-Graph g).activities k x in
          let there = slice_get-get_or (out-Graph g).activities k x (omega (arith, less, inside)) in
          let same : k ≡ a = named_once ts depth g well k a y x there is ((bytes_eq-Decides y.name x.name).0 e) in
          absurd (omega (arith, same, less))

  first_place : position_or_len test (out-Graph g).activities ≡ a
  first_place =
      position_or_len_is test (out-Graph g).activities a x (omega (arith, inside)) other
      (λ less. ap test (get_or_from_slice_get (out-Graph g).activities a x x is) ∙ (bytes_eq-Decides x.name x.name).1 refl)

  found : position test (out-Graph g).activities ≡ Some a
  found =
      cond-true (nat_lt (position_or_len test (out-Graph g).activities) (length (out-Graph g).activities)) _ None
      (ap (λ (k : ℕ). nat_lt k (length (out-Graph g).activities)) first_place ∙ is_less a (length (out-Graph g).activities) inside)
      ∙ ap (λ (k : ℕ). let o : Option ℕ = Some k in o) first_place

  few_enough : a < 2 ^ 32
  few_enough = let few = acts.few in let less = inside in omega (arith, few, less)

  pub placed_here : activity_at g x.name ≡ Some here
  placed_here =
      ap (option_and_then (placed g)) found
      ∙ cond-true (nat_lt a (2 ^ 32)) _ None (is_less a (2 ^ 32) few_enough)
      ∙ ap (option_map (λ (y : Activity). let r : Placed = record { place = a; activity = y } in r)) is

  -- it is found by its name where its join is known
  pub joined_here : (v : Bool) (s : Opened) → s.graph ≡ g → join_in s here ≡ Some v → joined_at v x.name s ≡ Some here
  joined_here v s graph join =
      ap (option_and_then (λ (y : Placed). if is_known v (join_in s y) then Some y else None))
      (ap (λ (h : Graph). activity_at h x.name) graph ∙ placed_here)
      ∙ cond-true (is_known v (join_in s here)) (Some here) None (known_as v (join_in s here) join)

-- ---- paths one step down

last_place : (p : Path) (q : Part) → length (below p q).parts - 1 ≡ length p.parts
last_place p q = let long = length-append p.parts (q ∷ []) in omega (arith, long)

pub last_below : (p : Path) (q : Part) → last_part (below p q) ≡ Some q
last_below p q = ap (slice_get (p.parts ++ q ∷ [])) (last_place p q) ∙ at_end p.parts q

pub outer_below : (p : Path) (q : Part) → outer (below p q) ≡ p
outer_below p q =
    ap (λ (l : List Part). let r : Path = record { root = p.root; parts = l } in r)
    (ap (λ (n : ℕ). take n (p.parts ++ q ∷ [])) (last_place p q) ∙ take-append_seam p.parts (q ∷ []))
