-- An index stays right where an element and its place are added.
use Rattle.std.proofs.Common.{◌≡◌, ℕ, ◌+◌, List, [], ◌∷◌, ◌++◌, Bool, true, false, cond, Result, Ok, Err, OnOk, IsOk, Option, Some, None, length, refl, sym, ap, subst, ◌∙◌, ⊎_elim, add-one}
use Rattle.std.specs.Option.{option_or, option_map}
use Rattle.std.specs.Cmp.Lexicographic.{bytes_decides, nat_list_eq_equiv}
use Rattle.std.specs.Str.{bytes_eq}
use Rattle.std.specs.Global.{Vec}
use Rattle.std.specs.HashMap as hash
use Rattle.std.specs.HashMap.{HashMap}
use Rattle.std.specs.Map.{lookup, IsKeyTest, AreApart, KeepsOthers}
use Rattle.std.proofs.lemmas.Bool.{cases_Bool, cond-true, cond-false}
use Rattle.process_rules.specs.Indexes.{last_place, AreIndexed}

apart : (bs cs ks : List ℕ) → bytes_eq bs cs ≡ false → bytes_eq bs ks ≡ true → bytes_eq cs ks ≡ false
apart bs cs ks n y = nat_list_eq_equiv.symm cs ks ∙ sym (nat_list_eq_equiv.congr bs ks cs y) ∙ n

others : {K X : Type 0} (eq : K → K → Bool) (test : K → Bool) (old new : List (K × X)) → KeepsOthers eq test old new → (other : K → Bool) → IsKeyTest eq other → AreApart test other → lookup other new ≡ lookup other old
unfolding KeepsOthers
others eq test old new h = h

-- a look-up by bytes after a change at the bytes bs
updated : {S : Type 0} (bs : List ℕ) (m n : HashMap (Vec ℕ) ℕ S) (w : Option ℕ) → hash.UpdatesBy (λ x y. bytes_eq x.items y.items) (λ k. bytes_eq bs k.items) m n w
    → (cs : List ℕ) → hash.get_by (λ k. bytes_eq cs k.items) n ≡ cond (bytes_eq bs cs) w (hash.get_by (λ k. bytes_eq cs k.items) m)
updated bs m n w h cs =
    ⊎_elim
    (λ y. subst (λ l. hash.get_by (λ k. bytes_eq l k.items) n ≡ w) ((bytes_decides bs cs).0 y) h.1 ∙ sym (cond-true (bytes_eq bs cs) w (hash.get_by (λ k. bytes_eq cs k.items) m) y))
    (λ no. others _ _ _ _ h.3 _ (λ x y. nat_list_eq_equiv.congr cs x.items y.items) (λ k. apart bs cs k.items no) ∙ sym (cond-false (bytes_eq bs cs) w (hash.get_by (λ k. bytes_eq cs k.items) m) no))
    (cases_Bool (bytes_eq bs cs))

later : (b : Bool) (n : ℕ) (o p : Option ℕ) → option_or (option_map (λ place. place + 1) (cond b (Some n) o)) p ≡ cond b (Some (n + 1)) (option_or (option_map (λ place. place + 1) o) p)
later true n o p = refl
later false n o p = refl

-- the last place of a longer list
pub last_pushed : {X : Type 0} (test : X → Bool) (xs : List X) (x : X) → last_place test (xs ++ x ∷ []) ≡ cond (test x) (Some (length xs)) (last_place test xs)
last_pushed test [] x = refl
last_pushed test (y ∷ ys) x =
    ap (λ o. option_or (option_map (λ place. place + 1) o) (cond (test y) (Some 0) None)) (last_pushed test ys x)
    ∙ later (test x) (length ys) (last_place test ys) (cond (test y) (Some 0) None)
    ∙ ap (λ n. cond (test x) (Some n) (option_or (option_map (λ place. place + 1) (last_place test ys)) (cond (test y) (Some 0) None))) (add-one (length ys))

-- one more element
pub pushed : {X S : Type 0} (name_of : X → List ℕ) (items : List X) (x : X) (bs : List ℕ) (place : ℕ) (m n : HashMap (Vec ℕ) ℕ S) → AreIndexed name_of items m → bs ≡ name_of x → place ≡ length items
    → hash.UpdatesBy (λ x y. bytes_eq x.items y.items) (λ k. bytes_eq bs k.items) m n (Some place) → AreIndexed name_of (items ++ x ∷ []) n
pushed name_of items x bs place m n indexed named placed h key =
    updated bs m n (Some place) h key
    ∙ ap (λ o. cond (bytes_eq bs key) (Some place) o) (indexed key)
    ∙ ap (λ l. cond (bytes_eq l key) (Some place) (last_place (λ x. bytes_eq (name_of x) key) items)) named
    ∙ ap (λ p. cond (bytes_eq (name_of x) key) (Some p) (last_place (λ x. bytes_eq (name_of x) key) items)) placed
    ∙ sym (last_pushed (λ x. bytes_eq (name_of x) key) items x)

-- where a call went well, what is so then is so
pub went_well : {T E : Type 0} (r : Result T E) (P : Type 0) → IsOk r → OnOk r P → P
went_well (Ok x) P is on = on
went_well (Err e) P is on = absurd (untrue is)
  where
    untrue : false ≡ true → ⊥
    untrue h = cc

-- an index stays right where its entries stay
pub still_indexed : {X S : Type 0} (name_of : X → List ℕ) (items : List X) (m n : HashMap (Vec ℕ) ℕ S)
    → AreIndexed name_of items m → hash.IsUnchanged m n → AreIndexed name_of items n
still_indexed name_of items m n indexed same key = ap (λ es. lookup (λ k. bytes_eq key k.items) es) same ∙ indexed key
