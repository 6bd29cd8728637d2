-- Connectors that have the same, as the same ends, where they are met one by one.
use Rattle.std.proofs.Common.{◌≡◌, ℕ, zero, suc, ◌<◌, Bool, true, false, List, [], ◌∷◌, ◌++◌, length, get_or, Option, Some, None, refl, sym, ap, subst, ◌∙◌, inl, inr, ⊎_elim, arith, append-nil}
use Rattle.std.specs.Prelude.{◌||◌}
use Rattle.std.specs.Bool.{Decides}
use Rattle.std.specs.List.{list_any, filter_map, cons_option}
use Rattle.std.proofs.lemmas.Bool.{cases_Bool, or_cases, or_left, or_right, both_ways, cond-true, cond-false}
use Rattle.std.proofs.lemmas.List.{get_or_default}
use Rattle.std.proofs.lemmas.List.Elements.{filter_map-append}
use Rattle.indexmap.specs.IndexSet.{insert_key}
use Rattle.flow_model.specs.declared.trees.ControlTree.{ControlTree}
use Rattle.flow_model.specs.declared.trees.ElementTree.{ElementTree}
use Rattle.connector_rules.specs.Connectors.{IsSameAgain}
use Rattle.connector_rules.specs.EdgesMet.{HaveSame}
use Rattle.text_graphs.specs.Places.{IsLeastOf, AnyAt, PairAt, lesser_of}
use Rattle.text_graphs.specs.Texts.{edge_of, AllDiffer}
use Rattle.text_graphs.proofs.Differing.{none_differ}
use Rattle.text_graphs.proofs.Finding.{any_last, pairs_next, lesser_none}
use Rattle.text_graphs.proofs.Judging.{found_in}

module _ {K : Type 0} (same : K → K → Bool) (decides : (x y : K) → Decides (same x y) (x ≡ y)) where
  -- which keys are known, with one more
  known_more : (keys next met : List K) (k : K) → next ≡ insert_key same keys k → HaveSame same keys met → HaveSame same next (met ++ k ∷ [])
  known_more keys next met k now so_far e =
      ⊎_elim
      (λ known.
      ap (list_any (same e)) (now ∙ cond-true (list_any (same k) keys) keys (keys ++ k ∷ []) known) ∙ so_far e ∙ absorbed (list_any (same e) met) (same e k) (there known) ∙ sym (any_last (same e) met k))
      (λ unknown.
      ap (list_any (same e)) (now ∙ cond-false (list_any (same k) keys) keys (keys ++ k ∷ []) unknown) ∙ any_last (same e) keys k ∙ ap (λ (b : Bool). b || same e k) (so_far e) ∙ sym (any_last (same e) met k))
      (cases_Bool (list_any (same k) keys))
    where
      absorbed : (a b : Bool) → (b ≡ true → a ≡ true) → a ≡ (a || b)
      absorbed true b h = refl
      absorbed false true h = h refl
      absorbed false false h = refl

      there : list_any (same k) keys ≡ true → same e k ≡ true → list_any (same e) met ≡ true
      there known is = sym (so_far e) ∙ subst (λ (z : K). list_any (same z) keys ≡ true) (sym ((decides e k).0 is)) known

  module _ (key : ControlTree → Option K) where
    keys_next : (cs : List ControlTree) (c : ControlTree) (k : K) → key c ≡ Some k → filter_map key (cs ++ c ∷ []) ≡ filter_map key cs ++ k ∷ []
    keys_next cs c k some = filter_map-append key cs (c ∷ []) ∙ ap (λ (o : Option K). filter_map key cs ++ cons_option o []) some

    keys_past : (cs : List ControlTree) (c : ControlTree) → key c ≡ None → filter_map key (cs ++ c ∷ []) ≡ filter_map key cs
    keys_past cs c none = filter_map-append key cs (c ∷ []) ∙ ap (λ (o : Option K). filter_map key cs ++ cons_option o []) none ∙ append-nil (filter_map key cs)

    -- a connector that has nothing to compare
    pub known_past : (keys : List K) (cs : List ControlTree) (c : ControlTree) → key c ≡ None → HaveSame same keys (filter_map key cs) → HaveSame same keys (filter_map key (cs ++ c ∷ []))
    known_past keys cs c none so_far e = so_far e ∙ ap (list_any (same e)) (sym (keys_past cs c none))

    pub double_past : (cs : List ControlTree) (c : ControlTree) (least : Option ℕ) → key c ≡ None → IsLeastOf (PairAt (IsSameAgain key) cs) least → IsLeastOf (PairAt (IsSameAgain key) (cs ++ c ∷ [])) least
    double_past cs c least none h = pairs_next (IsSameAgain key) cs c least None least (lesser_none least) h (never cs)
      where
        never : (xs : List ControlTree) (p : ℕ) → AnyAt (λ x. IsSameAgain key x c) xs p → ⊥
        never [] p h = h
        never (x ∷ xs) p h = ⊎_elim (λ here. let e : None ≡ Some here.same = sym none ∙ here.again in cc) (never xs p) h

    module _ (cs : List ControlTree) (c : ControlTree) (k : K) (some : key c ≡ Some k) where
      pub known_next : (keys next : List K) → next ≡ insert_key same keys k → HaveSame same keys (filter_map key cs) → HaveSame same next (filter_map key (cs ++ c ∷ []))
      known_next keys next now so_far e = known_more keys next (filter_map key cs) k now so_far e ∙ ap (list_any (same e)) (sym (keys_next cs c k some))

      came : (xs : List ControlTree) → list_any (same k) (filter_map key xs) ≡ true → AnyAt (λ x. IsSameAgain key x c) xs c.place
      came [] h = cc
      came (x ∷ xs) h = go (came xs) (key x) refl h
        where
          go : (list_any (same k) (filter_map key xs) ≡ true → AnyAt (λ y. IsSameAgain key y c) xs c.place) → (o : Option K) → key x ≡ o → list_any (same k) (cons_option o (filter_map key xs)) ≡ true
              → AnyAt (λ y. IsSameAgain key y c) (x ∷ xs) c.place
          go rest None is h = inr (rest h)
          go rest (Some e) is h =
              ⊎_elim (λ here. inl (record { same = k; first = is ∙ ap Some (sym ((decides k e).0 here)); again = some; at = refl })) (λ there. inr (rest there)) (or_cases (same k e) (list_any (same k) (filter_map key xs)) h)

      came_once : (xs : List ControlTree) (p : ℕ) → AnyAt (λ x. IsSameAgain key x c) xs p → (list_any (same k) (filter_map key xs) ≡ true) × (c.place ≡ p)
      came_once [] p h = absurd h
      came_once (x ∷ xs) p h =
          ⊎_elim
          (λ here.
          let e : Some k ≡ Some here.same = sym some ∙ here.again in
          let first : key x ≡ Some k = here.first ∙ sym e in
          (ap (λ (o : Option K). list_any (same k) (cons_option o (filter_map key xs))) first ∙ or_left (same k k) (list_any (same k) (filter_map key xs)) ((decides k k).1 refl), here.at))
          (λ there. let r = came_once xs p there in (later (key x) (list_any (same k) (filter_map key xs)) r.0, r.1))
          h
        where
          later : (o : Option K) (b : Bool) → list_any (same k) (filter_map key xs) ≡ true → list_any (same k) (cons_option o (filter_map key xs)) ≡ true
          later None b h = h
          later (Some e) b h = or_right (same k e) (list_any (same k) (filter_map key xs)) h

      pub double_new : (least : Option ℕ) → list_any (same k) (filter_map key cs) ≡ false → IsLeastOf (PairAt (IsSameAgain key) cs) least → IsLeastOf (PairAt (IsSameAgain key) (cs ++ c ∷ [])) least
      double_new least new h = pairs_next (IsSameAgain key) cs c least None least (lesser_none least) h (λ p a. both_ways (list_any (same k) (filter_map key cs)) new (came_once cs p a).0)

      pub double_again : (least next : Option ℕ) → next ≡ lesser_of least (Some c.place) → list_any (same k) (filter_map key cs) ≡ true → IsLeastOf (PairAt (IsSameAgain key) cs) least
          → IsLeastOf (PairAt (IsSameAgain key) (cs ++ c ∷ [])) next
      double_again least next now again h = pairs_next (IsSameAgain key) cs c least (Some c.place) next now h (came cs again, λ q a. let e = (came_once cs q a).1 in omega arith)

-- where there is none, no two edges are the same
pub edges_differ : (elements : List ElementTree) (cs : List ControlTree) → ((p : ℕ) → PairAt (IsSameAgain (edge_of elements)) cs p → ⊥) → AllDiffer (filter_map (edge_of elements) cs)
edges_differ elements [] none = none_differ
edges_differ elements (c ∷ cs) none = go (edge_of elements c) refl (edges_differ elements cs (λ p h. none p (inr h)))
  where
    twice : (xs : List ControlTree) (d : ControlTree) (k : ℕ × ℕ) → edge_of elements c ≡ Some k → edge_of elements d ≡ Some k → (n : ℕ) → n < length xs → get_or xs n d ≡ d → AnyAt (IsSameAgain (edge_of elements) c) xs d.place
    twice [] d k first again n less at = absurd (omega arith)
    twice (x ∷ xs) d k first again zero less at = inl (record { same = k; first = first; again = ap (edge_of elements) at ∙ again; at = ap (λ (y : ControlTree). y.place) at })
    twice (x ∷ xs) d k first again (suc n) less at = inr (twice xs d k first again n (omega arith) at)

    go : (o : Option (ℕ × ℕ)) → edge_of elements c ≡ o → AllDiffer (filter_map (edge_of elements) cs) → AllDiffer (cons_option o (filter_map (edge_of elements) cs))
    go None is rest i j d less within same_ = rest i j d less within same_
    go (Some k) is rest zero zero d less within same_ = absurd (omega arith)
    go (Some k) is rest zero (suc j) d less within same_ =
        let es = filter_map (edge_of elements) cs in
        let inside : j < length es = omega arith in
        let found = found_in (edge_of elements) cs (get_or es j d) (j, inside, get_or_default es j (get_or es j d) d inside) in
        none found.0.place (inl (twice cs found.0 k is (found.2 ∙ ap Some (sym same_)) found.1.0 found.1.1 found.1.2))
    go (Some k) is rest (suc i) zero d less within same_ = absurd (omega arith)
    go (Some k) is rest (suc i) (suc j) d less within same_ = rest i j d (omega arith) (omega arith) same_
