-- Two lists of entries in the order of their keys, in which each key finds alike values, have alike entries.
use Rattle.std.proofs.Common.{◌≡◌, ◌⊎◌, inl, inr, List, [], ◌∷◌, Option, Some, None, option_map, refl, sym, ap, ap₂, subst, ◌∙◌}
use Rattle.std.specs.BTreeMap.{is_at}
use Rattle.std.specs.Cmp.{IsTotalOrder}
use Rattle.std.specs.List.{AllByRecursion}
use Rattle.std.specs.List.Sorted.{IsStrictlySortedBy}
use Rattle.std.specs.Map.{lookup, keys_of}
use Rattle.std.specs.Ordering.{is_eq, ordering_reverse}
use Rattle.std.specs.declared.cmp.Ordering.{Ordering}
use Rattle.std.specs.declared.cmp.Ordering.TheVariants.{Less, Equal, Greater}
use Rattle.std.proofs.lemmas.Map.{lookup-none}
use Rattle.std.proofs.lemmas.Map.Entries.{lookup_head, lookup_tail, none_below_head}
use Rattle.std.proofs.lemmas.Map.Keys.{sorted_head, sorted_tail}
use Rattle.std.proofs.lemmas.Map.Lookups.{CmpEqualImpliesEq}
use Rattle.std.proofs.lemmas.Option.{none-some}

-- an order that is its own reverse is a tie
tied : (o : Ordering) → o ≡ ordering_reverse o → o ≡ Equal
tied Less is = absurd (cc)
tied Equal is = refl
tied Greater is = absurd (cc)

-- an entry stands in a list
abbrev pub Stands : {E : Type 0} → E → List E → Type 0
Stands e [] = ⊥
Stands e (x ∷ xs) = (e ≡ x) ⊎ Stands e xs

-- what holds of all keys holds of that of each entry
key_of_each : {K X : Type 0} (P : K → Type 0) (e : K × X) (es : List (K × X)) → AllByRecursion P (keys_of es) → Stands e es
    → P e.0
key_of_each P e [] all stands = absurd stands
key_of_each P e (x ∷ xs) all (inl is) = subst (λ p. P p.0) (sym is) all.0
key_of_each P e (x ∷ xs) all (inr stands) = key_of_each P e xs all.1 stands

module _ {K X Y : Type 0} (R : K → K → Ordering) (total : IsTotalOrder R) (exact : CmpEqualImpliesEq R) (f : X → Y) where
  -- what is seen of the value that a key finds
  abbrev pub seen_at : K → List (K × X) → Option Y
  seen_at k es = option_map f (lookup (is_at (R k)) es)

  -- the same keys, and what is seen of their values is the same
  abbrev pub AreAlike : List (K × X) → List (K × X) → Type 0
  AreAlike [] [] = Unit {0}
  AreAlike [] (q ∷ qs) = ⊥
  AreAlike (r ∷ rs) [] = ⊥
  AreAlike (r ∷ rs) (q ∷ qs) = (r.0 ≡ q.0) × (f r.1 ≡ f q.1) × AreAlike rs qs

  abbrev pub AreRising : List (K × X) → Type 0
  AreRising es = IsStrictlySortedBy R (keys_of es)

  itself : (k : K) → R k k ≡ Equal
  itself k = tied (R k k) (total.antisymm k k)

  turned : (a b : K) (o : Ordering) → R a b ≡ o → R b a ≡ ordering_reverse o
  turned a b o is = total.antisymm b a ∙ ap ordering_reverse is

  at_head : (e : K × X) (es : List (K × X)) → lookup (is_at (R e.0)) (e ∷ es) ≡ Some e.1
  at_head e es = lookup_head (is_at (R e.0)) e es (ap is_eq (itself e.0))

  past_head : (k : K) (e : K × X) (es : List (K × X)) → R k e.0 ≡ Greater
      → lookup (is_at (R k)) (e ∷ es) ≡ lookup (is_at (R k)) es
  past_head k e es greater = lookup_tail (is_at (R k)) e es (ap is_eq greater)

  none_below : (k : K) (e : K × X) (es : List (K × X)) → AreRising (e ∷ es) → R k e.0 ≡ Less
      → lookup (is_at (R k)) (e ∷ es) ≡ None
  none_below k e es rising less = lookup-none (is_at (R k)) (e ∷ es) (none_below_head total k e es rising less)

  -- a key that isn't behind the first finds nothing behind it
  none_behind : (k : K) (e : K × X) (es : List (K × X)) (o : Ordering) → AreRising (e ∷ es) → R k e.0 ≡ o
      → (o ≡ Greater → ⊥) → lookup (is_at (R k)) es ≡ None
  none_behind k e [] o rising is not = refl
  none_behind k e (x ∷ xs) Less rising is not =
      none_below k x xs (sorted_tail R e.0 (keys_of (x ∷ xs)) rising)
      (total.trans k e.0 x.0 is (sorted_head R e.0 (keys_of (x ∷ xs)) rising).0)
  none_behind k e (x ∷ xs) Equal rising is not =
      none_below k x xs (sorted_tail R e.0 (keys_of (x ∷ xs)) rising)
      (total.congr k e.0 x.0 is ∙ (sorted_head R e.0 (keys_of (x ∷ xs)) rising).0)
  none_behind k e (x ∷ xs) Greater rising is not = absurd (not refl)

  -- each entry is found
  pub found : (es : List (K × X)) → AreRising es → (e : K × X) → Stands e es → lookup (is_at (R e.0)) es ≡ Some e.1
  found [] rising e stands = absurd stands
  found (x ∷ xs) rising e (inl is) = subst (λ p. lookup (is_at (R p.0)) (x ∷ xs) ≡ Some p.1) (sym is) (at_head x xs)
  found (x ∷ xs) rising e (inr stands) =
      let above = key_of_each (λ y. R x.0 y ≡ Less) e xs (sorted_head R x.0 (keys_of xs) rising) stands in
      past_head e.0 x xs (turned x.0 e.0 Less above) ∙ found xs (sorted_tail R x.0 (keys_of xs) rising) e stands

  module _ (r : K × X) (rs : List (K × X)) (q : K × X) (qs : List (K × X)) (first : AreRising (r ∷ rs))
      (second : AreRising (q ∷ qs)) (same : (k : K) → seen_at k (r ∷ rs) ≡ seen_at k (q ∷ qs)) where
    by_order : (o : Ordering) → R r.0 q.0 ≡ o → r.0 ≡ q.0
    by_order Less is =
        absurd (none-some (f r.1) (sym (ap (option_map f) (none_below r.0 q qs second is)) ∙ sym (same r.0)
        ∙ ap (option_map f) (at_head r rs)))
    by_order Equal is = exact r.0 q.0 is
    by_order Greater is =
        absurd (none-some (f q.1) (sym (ap (option_map f) (none_below q.0 r rs first (turned r.0 q.0 Greater is)))
        ∙ same q.0 ∙ ap (option_map f) (at_head q qs)))

    heads : r.0 ≡ q.0
    heads = by_order (R r.0 q.0) refl

    values : f r.1 ≡ f q.1
    values =
        let both : Some (f r.1) ≡ Some (f q.1) =
        sym (ap (option_map f) (at_head r rs)) ∙ same r.0
        ∙ subst (λ k. seen_at k (q ∷ qs) ≡ Some (f q.1)) (sym heads) (ap (option_map f) (at_head q qs)) in cc

    tails_by : (k : K) (o : Ordering) → R k r.0 ≡ o → seen_at k rs ≡ seen_at k qs
    tails_by k Less is =
        ap (option_map f) (none_behind k r rs Less first is (λ e. cc))
        ∙ sym (ap (option_map f) (none_behind k q qs Less second (subst (λ x. R k x ≡ Less) heads is) (λ e. cc)))
    tails_by k Equal is =
        ap (option_map f) (none_behind k r rs Equal first is (λ e. cc))
        ∙ sym (ap (option_map f) (none_behind k q qs Equal second (subst (λ x. R k x ≡ Equal) heads is) (λ e. cc)))
    tails_by k Greater is =
        sym (ap (option_map f) (past_head k r rs is)) ∙ same k
        ∙ ap (option_map f) (past_head k q qs (subst (λ x. R k x ≡ Greater) heads is))

    tails : (k : K) → seen_at k rs ≡ seen_at k qs
    tails k = tails_by k (R k r.0) refl

  pub alike : (rs qs : List (K × X)) → AreRising rs → AreRising qs
      → ((k : K) → seen_at k rs ≡ seen_at k qs) → AreAlike rs qs
  alike [] [] first second same = tt
  alike [] (q ∷ qs) first second same =
      absurd (none-some (f q.1) (same q.0 ∙ ap (option_map f) (at_head q qs)))
  alike (r ∷ rs) [] first second same =
      absurd (none-some (f r.1) (sym (same r.0) ∙ ap (option_map f) (at_head r rs)))
  alike (r ∷ rs) (q ∷ qs) first second same = (
    heads r rs q qs first second same,
    values r rs q qs first second same,
    alike rs qs (sorted_tail R r.0 (keys_of rs) first) (sorted_tail R q.0 (keys_of qs) second)
        (tails r rs q qs first second same),
  )

-- entries that are alike as they stand are the same
pub same_entries : {K X : Type 0} (R : K → K → Ordering) (total : IsTotalOrder R) (exact : CmpEqualImpliesEq R)
    (rs qs : List (K × X)) → AreAlike R total exact (λ (x : X). x) rs qs → rs ≡ qs
same_entries R total exact [] [] are = refl
same_entries R total exact [] (q ∷ qs) are = absurd are
same_entries R total exact (r ∷ rs) [] are = absurd are
same_entries R total exact (r ∷ rs) (q ∷ qs) are =
    let behind = same_entries R total exact rs qs are.2 in
    let here : r ≡ q = ap₂ (λ a b. (a, b)) are.0 are.1 in
    ap₂ (λ x xs. x ∷ xs) here behind
