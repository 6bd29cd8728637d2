-- Names lead to the first of their elements where one more element is met.
use Rattle.std.proofs.Common.{◌≡◌, ℕ, ◌+◌, List, [], ◌∷◌, ◌++◌, Bool, true, false, cond, Option, Some, None, length, Bor, refl, sym, ap, subst, ◌∙◌, ⊎_elim, add-one, ◌<◌, get_or, take, map, arith}
use Rattle.std.proofs.lemmas.List.{take_more, map-append, length-map, length-take}
use Rattle.std.specs.Option.{option_or, option_map, is_some}
use Rattle.std.specs.Cmp.Lexicographic.{bytes_decides, nat_list_eq_equiv}
use Rattle.std.specs.Str.{bytes_eq}
use Rattle.std.specs.HashMap as hash
use Rattle.std.specs.HashMap.{HashMap}
use Rattle.std.specs.Map.{lookup, IsKeyTest, AreApart, KeepsOthers}
use Rattle.std.proofs.lemmas.Bool.{cases_Bool, cond-true, cond-false}
use Rattle.text_graphs.specs.Texts.{first_place}

apart : (bs cs ks : List ℕ) → bytes_eq bs cs ≡ false → bytes_eq bs ks ≡ true → bytes_eq cs ks ≡ false
apart bs cs ks n y = nat_list_eq_equiv.symm cs ks ∙ sym (nat_list_eq_equiv.congr bs ks cs y) ∙ n

others : {K X : Type 0} (eq : K → K → Bool) (test : K → Bool) (old new : List (K × X)) → KeepsOthers eq test old new → (other : K → Bool) → IsKeyTest eq other → AreApart test other → lookup other new ≡ lookup other old
unfolding KeepsOthers
others eq test old new h = h

-- a look-up by bytes after a change at the bytes bs
pub updated : {S : Type 0} (bs : List ℕ) (m n : HashMap (Bor (List ℕ)) ℕ S) (w : Option ℕ) → hash.UpdatesBy (λ x y. bytes_eq x.now y.now) (λ k. bytes_eq bs k.now) m n w
    → (cs : List ℕ) → hash.get_by (λ k. bytes_eq cs k.now) n ≡ cond (bytes_eq bs cs) w (hash.get_by (λ k. bytes_eq cs k.now) m)
updated bs m n w h cs =
    ⊎_elim
    (λ y. subst (λ l. hash.get_by (λ k. bytes_eq l k.now) n ≡ w) ((bytes_decides bs cs).0 y) h.1 ∙ sym (cond-true (bytes_eq bs cs) w (hash.get_by (λ k. bytes_eq cs k.now) m) y))
    (λ no. others _ _ _ _ h.3 _ (λ x y. nat_list_eq_equiv.congr cs x.now y.now) (λ k. apart bs cs k.now no) ∙ sym (cond-false (bytes_eq bs cs) w (hash.get_by (λ k. bytes_eq cs k.now) m) no))
    (cases_Bool (bytes_eq bs cs))

later : (o : Option ℕ) (b : Bool) (n : ℕ) → option_map (λ place. place + 1) (option_or o (cond b (Some n) None)) ≡ option_or (option_map (λ place. place + 1) o) (cond b (Some (n + 1)) None)
later None true n = refl
later None false n = refl
later (Some p) b n = refl

pushed_at : (b c : Bool) (o : Option ℕ) (n : ℕ) → cond b (Some 0) (option_map (λ place. place + 1) (option_or o (cond c (Some n) None))) ≡ option_or (cond b (Some 0) (option_map (λ place. place + 1) o)) (cond c (Some (n + 1)) None)
pushed_at true c o n = refl
pushed_at false c o n = later o c n

-- the first place in a longer list
first_pushed : {X : Type 0} (test : X → Bool) (xs : List X) (x : X) → first_place test (xs ++ x ∷ []) ≡ option_or (first_place test xs) (cond (test x) (Some (length xs)) None)
first_pushed test [] x = refl
first_pushed test (y ∷ ys) x =
    ap (λ (o : Option ℕ). cond (test y) (Some 0) (option_map (λ place. place + 1) o)) (first_pushed test ys x)
    ∙ pushed_at (test y) (test x) (first_place test ys) (length ys)
    ∙ ap (λ (n : ℕ). option_or (cond (test y) (Some 0) (option_map (λ place. place + 1) (first_place test ys))) (cond (test x) (Some n) None)) (add-one (length ys))

or_none : (o : Option ℕ) → o ≡ option_or o None
or_none None = refl
or_none (Some n) = refl

known_or : (o p : Option ℕ) → is_some o ≡ true → o ≡ option_or o p
known_or None p h = cc
known_or (Some n) p h = refl

unknown_or : (o p : Option ℕ) → is_some o ≡ false → p ≡ option_or o p
unknown_or None p h = refl
unknown_or (Some n) p h = cc

abbrev Numbered : {S X : Type 0} → (X → List ℕ) → List X → HashMap (Bor (List ℕ)) ℕ S → Type 0
Numbered name_of xs numbers = (key : List ℕ) → hash.get_by (λ k. bytes_eq key k.now) numbers ≡ first_place (λ x. bytes_eq (name_of x) key) xs

module _ {S X : Type 0} (name_of : X → List ℕ) (xs : List X) (x : X) (bs : List ℕ) (named : bs ≡ name_of x) (m : HashMap (Bor (List ℕ)) ℕ S) (so_far : Numbered name_of xs m) where
  abbrev got : List ℕ → Option ℕ
  got key = hash.get_by (λ k. bytes_eq key k.now) m

  goal_at : (key : List ℕ) (b : Bool) (o : Option ℕ) → bytes_eq bs key ≡ b → o ≡ option_or (got key) (cond b (Some (length xs)) None)
      → o ≡ first_place (λ a. bytes_eq (name_of a) key) (xs ++ x ∷ [])
  goal_at key b o tells h =
      h
      ∙ ap (λ (c : Bool). option_or (got key) (cond c (Some (length xs)) None)) (sym tells ∙ ap (λ (l : List ℕ). bytes_eq l key) named)
      ∙ ap (λ (p : Option ℕ). option_or p (cond (bytes_eq (name_of x) key) (Some (length xs)) None)) (so_far key)
      ∙ sym (first_pushed (λ a. bytes_eq (name_of a) key) xs x)

  -- an element whose name was met before
  pub numbered_old : is_some (got bs) ≡ true → Numbered name_of (xs ++ x ∷ []) m
  numbered_old known = λ key.
      ⊎_elim
      (λ y. goal_at key true (got key) y (known_or (got key) (Some (length xs)) (subst (λ l. is_some (got l) ≡ true) ((bytes_decides bs key).0 y) known)))
      (λ n. goal_at key false (got key) n (or_none (got key)))
      (cases_Bool (bytes_eq bs key))

  -- an element of a new name
  pub numbered_new : is_some (got bs) ≡ false → (n : HashMap (Bor (List ℕ)) ℕ S) (place : ℕ) → place ≡ length xs → hash.UpdatesBy (λ x y. bytes_eq x.now y.now) (λ k. bytes_eq bs k.now) m n (Some place) → Numbered name_of (xs ++ x ∷ []) n
  numbered_new unknown n place placed h = λ key.
      updated bs m n (Some place) h key ∙
      ⊎_elim
      (λ y. cond-true (bytes_eq bs key) (Some place) (got key) y ∙ ap Some placed ∙
      goal_at key true (Some (length xs)) y (unknown_or (got key) (Some (length xs)) (subst (λ l. is_some (got l) ≡ false) ((bytes_decides bs key).0 y) unknown)))
      (λ no. cond-false (bytes_eq bs key) (Some place) (got key) no ∙ goal_at key false (got key) no (or_none (got key)))
      (cases_Bool (bytes_eq bs key))

met_more : {X : Type 0} (items : List (Bor X)) (i : ℕ) (x : Bor X) → i < length items → x ≡ get_or items i x → map (λ y. y.now) (take (i + 1) items) ≡ map (λ y. y.now) (take i items) ++ x.now ∷ []
met_more {X} items i x less is =
    ap (map (λ (y : Bor X). y.now)) (take_more items i x less ∙ ap (λ (y : Bor X). take i items ++ y ∷ []) (sym is)) ∙ map-append (λ (y : Bor X). y.now) (take i items) (x ∷ [])

met_length : {X : Type 0} (items : List (Bor X)) (i : ℕ) → i < length items → i ≡ length (map (λ (y : Bor X). y.now) (take i items))
met_length {X} items i less = sym (length-map (take i items) (λ (y : Bor X). y.now) ∙ (let h = length-take i items in omega arith))

module _ {S X : Type 0} (name_of : X → List ℕ) (items : List (Bor X)) (i : ℕ) (x : Bor X) (less : i < length items) (is : x ≡ get_or items i x) (bs : List ℕ) (named : bs ≡ name_of x.now) (m : HashMap (Bor (List ℕ)) ℕ S)
    (so_far : Numbered name_of (map (λ a. a.now) (take i items)) m) where
  pub met_old : is_some (hash.get_by (λ k. bytes_eq bs k.now) m) ≡ true → Numbered name_of (map (λ a. a.now) (take (i + 1) items)) m
  met_old known = subst (λ xs. Numbered name_of xs m) (sym (met_more items i x less is)) (numbered_old name_of (map (λ a. a.now) (take i items)) x.now bs named m so_far known)

  pub met_new : is_some (hash.get_by (λ k. bytes_eq bs k.now) m) ≡ false → (n : HashMap (Bor (List ℕ)) ℕ S) (place : ℕ) → place ≡ i → hash.UpdatesBy (λ x y. bytes_eq x.now y.now) (λ k. bytes_eq bs k.now) m n (Some place)
      → Numbered name_of (map (λ a. a.now) (take (i + 1) items)) n
  met_new unknown n place placed h =
      subst (λ xs. Numbered name_of xs n) (sym (met_more items i x less is)) (numbered_new name_of (map (λ a. a.now) (take i items)) x.now bs named m so_far unknown n place (placed ∙ met_length items i less) h)

-- a first place is one of the list
pub first_below : {X : Type 0} (test : X → Bool) (xs : List X) (n : ℕ) → first_place test xs ≡ Some n → n < length xs
first_below test [] n h = cc
first_below test (x ∷ xs) n h = go (test x) (first_place test xs) (first_below test xs) h
  where
    go : (b : Bool) (o : Option ℕ) → ((m : ℕ) → o ≡ Some m → m < length xs) → cond b (Some 0) (option_map (λ place. place + 1) o) ≡ Some n → n < length (x ∷ xs)
    go true o below e = let z : 0 ≡ n = cc in omega arith
    go false None below e = cc
    go false (Some m) below e = let z : m + 1 ≡ n = cc in let less = below m refl in omega arith
