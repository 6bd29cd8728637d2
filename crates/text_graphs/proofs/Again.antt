-- Which names came before, where they are met one by one.
use Rattle.std.proofs.Common.{◌≡◌, ℕ, Bool, true, false, not, List, [], ◌∷◌, ◌++◌, Option, Some, None, Bor, refl, sym, ap, subst, ◌∙◌, inl, inr, ⊎_elim, arith}
use Rattle.std.specs.Prelude.{◌||◌}
use Rattle.std.specs.Cmp.Lexicographic.{bytes_decides}
use Rattle.std.specs.List.{list_any}
use Rattle.std.specs.Str.{bytes_eq}
use Rattle.std.proofs.lemmas.Bool.{cases_Bool, or_cases, or_left, or_right, both_ways, cond-true, cond-false}
use Rattle.indexmap.specs.IndexSet.{insert_key}
use Rattle.flow_model.specs.declared.trees.NameAt.{NameAt}
use Rattle.text_graphs.specs.Meeting.{IsAgainAt}
use Rattle.text_graphs.specs.Places.{IsLeastOf, AnyAt, PairAt, lesser_of}
use Rattle.text_graphs.proofs.Finding.{any_last, pairs_next, lesser_none}

-- which names are known, with one more
pub known_next : (keys next : List (Bor (List ℕ))) (k : Bor (List ℕ)) (names : List NameAt) (name : NameAt) → k.now ≡ name.name → next ≡ insert_key (λ x y. bytes_eq x.now y.now) keys k
    → ((n : List ℕ) → list_any (λ x. bytes_eq n x.now) keys ≡ list_any (λ m. bytes_eq n m.name) names) → (n : List ℕ) → list_any (λ x. bytes_eq n x.now) next ≡ list_any (λ m. bytes_eq n m.name) (names ++ name ∷ [])
known_next keys next k names name is now so_far n =
    ⊎_elim
    (λ known.
    ap (list_any (λ (x : Bor (List ℕ)). bytes_eq n x.now)) (now ∙ cond-true (list_any (λ (x : Bor (List ℕ)). bytes_eq k.now x.now) keys) keys (keys ++ k ∷ []) known)
    ∙ so_far n ∙ absorbed (list_any (λ (m : NameAt). bytes_eq n m.name) names) (bytes_eq n name.name) (met known)
    ∙ sym (any_last (λ (m : NameAt). bytes_eq n m.name) names name))
    (λ unknown.
    ap (list_any (λ (x : Bor (List ℕ)). bytes_eq n x.now)) (now ∙ cond-false (list_any (λ (x : Bor (List ℕ)). bytes_eq k.now x.now) keys) keys (keys ++ k ∷ []) unknown)
    ∙ any_last (λ (x : Bor (List ℕ)). bytes_eq n x.now) keys k
    ∙ ap (λ (b : Bool). b || bytes_eq n k.now) (so_far n)
    ∙ ap (λ (l : List ℕ). list_any (λ (m : NameAt). bytes_eq n m.name) names || bytes_eq n l) is
    ∙ sym (any_last (λ (m : NameAt). bytes_eq n m.name) names name))
    (cases_Bool (list_any (λ (x : Bor (List ℕ)). bytes_eq k.now x.now) keys))
  where
    absorbed : (a b : Bool) → (b ≡ true → a ≡ true) → a ≡ (a || b)
    absorbed true b h = refl
    absorbed false true h = h refl
    absorbed false false h = refl

    met : list_any (λ (x : Bor (List ℕ)). bytes_eq k.now x.now) keys ≡ true → bytes_eq n name.name ≡ true → list_any (λ (m : NameAt). bytes_eq n m.name) names ≡ true
    met known same =
        let e : k.now ≡ n = is ∙ sym ((bytes_decides n name.name).0 same) in
        sym (so_far n) ∙ subst (λ (l : List ℕ). list_any (λ (x : Bor (List ℕ)). bytes_eq l x.now) keys ≡ true) e known

-- a name came before where one of the names passes the test
came : (names : List NameAt) (name : NameAt) → list_any (λ m. bytes_eq name.name m.name) names ≡ true → AnyAt (λ m. IsAgainAt m name) names name.place
came [] name h = cc
came (m ∷ names) name h =
    ⊎_elim
    (λ here. inl (sym ((bytes_decides name.name m.name).0 here), refl))
    (λ there. inr (came names name there))
    (or_cases (bytes_eq name.name m.name) (list_any (λ (x : NameAt). bytes_eq name.name x.name) names) h)

came_once : (names : List NameAt) (name : NameAt) (p : ℕ) → AnyAt (λ m. IsAgainAt m name) names p → (list_any (λ m. bytes_eq name.name m.name) names ≡ true) × (name.place ≡ p)
came_once [] name p h = absurd h
came_once (m ∷ names) name p h =
    ⊎_elim
    (λ here. (or_left (bytes_eq name.name m.name) (list_any (λ (x : NameAt). bytes_eq name.name x.name) names) ((bytes_decides name.name m.name).1 (sym here.0)), here.1))
    (λ there. let r = came_once names name p there in (or_right (bytes_eq name.name m.name) (list_any (λ (x : NameAt). bytes_eq name.name x.name) names) r.0, r.1))
    h

-- a name that is new, or that came before
pub least_new : (names : List NameAt) (name : NameAt) (least : Option ℕ) → list_any (λ m. bytes_eq name.name m.name) names ≡ false → IsLeastOf (PairAt IsAgainAt names) least → IsLeastOf (PairAt IsAgainAt (names ++ name ∷ [])) least
least_new names name least new h =
    pairs_next IsAgainAt names name least None least (lesser_none least) h (λ p a. both_ways (list_any (λ (m : NameAt). bytes_eq name.name m.name) names) new (came_once names name p a).0)

pub least_again : (names : List NameAt) (name : NameAt) (least next : Option ℕ) → next ≡ lesser_of least (Some name.place) → list_any (λ m. bytes_eq name.name m.name) names ≡ true → IsLeastOf (PairAt IsAgainAt names) least
    → IsLeastOf (PairAt IsAgainAt (names ++ name ∷ [])) next
least_again names name least next now again h =
    pairs_next IsAgainAt names name least (Some name.place) next now h (came names name again, λ q a. let e = (came_once names name q a).1 in omega arith)

-- whether it is new
pub is_known : (keys : List (Bor (List ℕ))) (k : Bor (List ℕ)) (names : List NameAt) (name : NameAt) (is_new : Bool) → k.now ≡ name.name → is_new ≡ not (list_any (λ x. bytes_eq k.now x.now) keys)
    → ((n : List ℕ) → list_any (λ x. bytes_eq n x.now) keys ≡ list_any (λ m. bytes_eq n m.name) names) → is_new ≡ not (list_any (λ m. bytes_eq name.name m.name) names)
is_known keys k names name is_new is tells so_far = tells ∙ ap not (so_far k.now ∙ ap (λ (l : List ℕ). list_any (λ (m : NameAt). bytes_eq l m.name) names) is)
