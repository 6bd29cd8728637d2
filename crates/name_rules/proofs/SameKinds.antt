-- Which kinds of attributes came before, where they are met one by one.
use Rattle.std.proofs.Common.{◌≡◌, ℕ, List, [], ◌∷◌, ◌++◌, Option, Some, None, refl, sym, ◌∙◌, inl, inr, ⊎_elim, ◌⊎◌, arith}
use Rattle.flow_model.specs.declared.trees.AttrAt.{AttrAt}
use Rattle.name_rules.specs.KindsMet.{IsOfKind, AreOfKind}
use Rattle.name_rules.specs.Names.{kind_said, IsKindAgain}
use Rattle.text_graphs.specs.Places.{IsLeastOf, AnyAt, PairAt, lesser_of}
use Rattle.name_rules.specs.declared.names.AttributeKind.{AttributeKind}
use Rattle.name_rules.specs.declared.names.AttributeKind.TheVariants as kind
use Rattle.text_graphs.proofs.Finding.{least_same, least_either, any_to, any_push, any_push_cases, pairs_next, lesser_none}

-- ---- attributes of one kind

module _ (k : AttributeKind) where
  -- an attribute of another kind
  pub kind_past : (attrs : List AttrAt) (a : AttrAt) (least : Option ℕ) → (kind_said a.what ≡ k → ⊥) → IsLeastOf (PairAt (AreOfKind k) attrs) least → IsLeastOf (PairAt (AreOfKind k) (attrs ++ a ∷ [])) least
  kind_past attrs a least other h = pairs_next (AreOfKind k) attrs a least None least (lesser_none least) h (λ p. never attrs p)
    where
      never : (xs : List AttrAt) (p : ℕ) → AnyAt (λ b. AreOfKind k b a) xs p → ⊥
      never [] p h = h
      never (x ∷ xs) p h = ⊎_elim (λ here. other here.1.0) (never xs p) h

  pub unmet_past : (attrs : List AttrAt) (a : AttrAt) → (kind_said a.what ≡ k → ⊥) → ((p : ℕ) → AnyAt (IsOfKind k) attrs p → ⊥) → (p : ℕ) → AnyAt (IsOfKind k) (attrs ++ a ∷ []) p → ⊥
  unmet_past attrs a other h p any = ⊎_elim (h p) (λ here. other here.0) (any_push_cases (IsOfKind k) attrs a p any)

  pub met_stays : (attrs : List AttrAt) (a : AttrAt) → (p : ℕ) × AnyAt (IsOfKind k) attrs p → (p : ℕ) × AnyAt (IsOfKind k) (attrs ++ a ∷ []) p
  met_stays attrs a h = (h.0, any_push (IsOfKind k) attrs a h.0 (inl h.1))

  pub first_met : (attrs : List AttrAt) (a : AttrAt) → kind_said a.what ≡ k → (p : ℕ) × AnyAt (IsOfKind k) (attrs ++ a ∷ []) p
  first_met attrs a of = (a.place, any_push (IsOfKind k) attrs a a.place (inr (of, refl)))

  -- the first of the kind
  pub kind_first : (attrs : List AttrAt) (a : AttrAt) (least : Option ℕ) → ((p : ℕ) → AnyAt (IsOfKind k) attrs p → ⊥) → IsLeastOf (PairAt (AreOfKind k) attrs) least → IsLeastOf (PairAt (AreOfKind k) (attrs ++ a ∷ [])) least
  kind_first attrs a least unmet h = pairs_next (AreOfKind k) attrs a least None least (lesser_none least) h (λ p any. let b = before attrs p any in unmet b.0 b.1)
    where
      before : (xs : List AttrAt) (p : ℕ) → AnyAt (λ b. AreOfKind k b a) xs p → (q : ℕ) × AnyAt (IsOfKind k) xs q
      before [] p h = absurd h
      before (x ∷ xs) p h = ⊎_elim (λ here. (x.place, inl (here.0, refl))) (λ there. let r = before xs p there in (r.0, inr r.1)) h

  -- another one of the kind
  pub kind_again : (attrs : List AttrAt) (a : AttrAt) (least next : Option ℕ) → kind_said a.what ≡ k → next ≡ lesser_of least (Some a.place) → (p : ℕ) × AnyAt (IsOfKind k) attrs p → IsLeastOf (PairAt (AreOfKind k) attrs) least
      → IsLeastOf (PairAt (AreOfKind k) (attrs ++ a ∷ [])) next
  kind_again attrs a least next of now met h =
      pairs_next (AreOfKind k) attrs a least (Some a.place) next now h (behind attrs met.0 met.1, λ q any. let e = here_of attrs q any in omega arith)
    where
      behind : (xs : List AttrAt) (p : ℕ) → AnyAt (IsOfKind k) xs p → AnyAt (λ b. AreOfKind k b a) xs a.place
      behind [] p h = h
      behind (x ∷ xs) p h = ⊎_elim (λ here. inl (here.0, (of, refl))) (λ there. inr (behind xs p there)) h

      here_of : (xs : List AttrAt) (p : ℕ) → AnyAt (λ b. AreOfKind k b a) xs p → a.place ≡ p
      here_of [] p h = absurd h
      here_of (x ∷ xs) p h = ⊎_elim (λ here. here.1.1) (here_of xs p) h

  -- two of this kind are two of one kind
  pub of_one : (xs : List AttrAt) (p : ℕ) → PairAt (AreOfKind k) xs p → PairAt IsKindAgain xs p
  of_one [] p h = h
  of_one (x ∷ xs) p h = ⊎_elim (λ a. inl (any_to (AreOfKind k x) (IsKindAgain x) xs p (λ y e. (e.0 ∙ sym e.1.0, e.1.1)) a)) (λ b. inr (of_one xs p b)) h

some_kind : (xs : List AttrAt) (p : ℕ) → PairAt IsKindAgain xs p → (k : AttributeKind) × PairAt (AreOfKind k) xs p
some_kind [] p h = absurd h
some_kind (x ∷ xs) p h =
    ⊎_elim
    (λ a. (kind_said x.what, inl (any_to (IsKindAgain x) (AreOfKind (kind_said x.what) x) xs p (λ y e. (refl, (sym e.0, e.1))) a)))
    (λ b. let r = some_kind xs p b in (r.0, inr r.1))
    h

-- a second attribute of one of the five kinds
abbrev Five : List AttrAt → ℕ → Type 0
Five xs p = PairAt (AreOfKind kind.When) xs p ⊎ (PairAt (AreOfKind kind.Exit) xs p ⊎ (PairAt (AreOfKind kind.Start) xs p ⊎ (PairAt (AreOfKind kind.Expires) xs p ⊎ PairAt (AreOfKind kind.DoneBy) xs p)))

five_from : (xs : List AttrAt) (p : ℕ) (k : AttributeKind) → PairAt (AreOfKind k) xs p → Five xs p
five_from xs p kind.When h = inl h
five_from xs p kind.Exit h = inr (inl h)
five_from xs p kind.Start h = inr (inr (inl h))
five_from xs p kind.Expires h = inr (inr (inr (inl h)))
five_from xs p kind.DoneBy h = inr (inr (inr (inr h)))

five_to : (xs : List AttrAt) (p : ℕ) → Five xs p → PairAt IsKindAgain xs p
five_to xs p =
    ⊎_elim (of_one kind.When xs p) (⊎_elim (of_one kind.Exit xs p) (⊎_elim (of_one kind.Start xs p) (⊎_elim (of_one kind.Expires xs p) (of_one kind.DoneBy xs p))))

pub least_of_five : (xs : List AttrAt) (when exit start expires done_by : Option ℕ) → IsLeastOf (PairAt (AreOfKind kind.When) xs) when → IsLeastOf (PairAt (AreOfKind kind.Exit) xs) exit → IsLeastOf (PairAt (AreOfKind kind.Start) xs) start
    → IsLeastOf (PairAt (AreOfKind kind.Expires) xs) expires → IsLeastOf (PairAt (AreOfKind kind.DoneBy) xs) done_by → IsLeastOf (PairAt IsKindAgain xs) (lesser_of when (lesser_of exit (lesser_of start (lesser_of expires done_by))))
least_of_five xs when exit start expires done_by a b c d e =
    least_same (Five xs) (PairAt IsKindAgain xs) (lesser_of when (lesser_of exit (lesser_of start (lesser_of expires done_by)))) (five_to xs) (λ p h. let r = some_kind xs p h in five_from xs p r.0 r.1)
    (least_either (PairAt (AreOfKind kind.When) xs) _ when _ a
    (least_either (PairAt (AreOfKind kind.Exit) xs) _ exit _ b (least_either (PairAt (AreOfKind kind.Start) xs) _ start _ c (least_either (PairAt (AreOfKind kind.Expires) xs) (PairAt (AreOfKind kind.DoneBy) xs) expires done_by d e))))
