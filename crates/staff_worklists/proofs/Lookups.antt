-- What a map whose keys are read as lists, or a map of shelves, has at any key, after a change at one.
use Rattle.std.proofs.Common.{◌≡◌, ℕ, List, Bool, true, false, cond, Option, sym, subst, ◌∙◌, ⊎_elim}
use Rattle.std.specs.Bool.{Decides}
use Rattle.std.specs.Ordering.{is_eq, nat_cmp}
use Rattle.std.specs.Cmp.{IsEquivalence, eq_by_cmp_equiv}
use Rattle.std.specs.Cmp.Lexicographic.{slice_cmp, bytes_decides, nat_list_cmp_total, nat_list_eq_equiv}
use Rattle.std.specs.Str.{bytes_eq}
use Rattle.std.specs.BTreeMap as tree
use Rattle.std.specs.BTreeMap.{BTreeMap}
use Rattle.std.specs.HashMap as hash
use Rattle.std.specs.HashMap.{HashMap}
use Rattle.std.specs.Map.{lookup, IsKeyTest, AreApart, KeepsOthers}
use Rattle.std.proofs.lemmas.Bool.{cases_Bool, cond-true, cond-false}
use Rattle.std.proofs.lemmas.Map.Text.{is_eq-slice_cmp}
use Rattle.staff_worklists.specs.SameShelf.{shelf_eq, shelf_decides, shelf_equiv}
use Rattle.staff_worklists.specs.Standing.{shelf_at}
use Rattle.staff_worklists.specs.declared.worklists.Shelf.{Shelf}

-- what is the same as one of two that differ isn't the same as the other
apart : {K : Type 0} {eq : K → K → Bool} → IsEquivalence eq → (a b k : K) → eq a b ≡ false → eq a k ≡ true → eq b k ≡ false
apart laws a b k n y = laws.symm b k ∙ sym (laws.congr a k b y) ∙ n

apart_in_order : (bs cs ks : List ℕ) → bytes_eq bs cs ≡ false → is_eq (slice_cmp nat_cmp bs ks) ≡ true → is_eq (slice_cmp nat_cmp cs ks) ≡ false
apart_in_order bs cs ks n y = is_eq-slice_cmp cs ks ∙ apart nat_list_eq_equiv bs cs ks n (sym (is_eq-slice_cmp bs ks) ∙ y)

others : {K X : Type 0} (eq : K → K → Bool) (test : K → Bool) (old new : List (K × X)) → KeepsOthers eq test old new → (other : K → Bool) → IsKeyTest eq other → AreApart test other → lookup other new ≡ lookup other old
unfolding KeepsOthers
others eq test old new h = h

-- g is w at one key, and f at the others
at_each : {K W : Type 0} {eq : K → K → Bool} → ((x y : K) → Decides (eq x y) (x ≡ y)) → (f g : K → W) (one : K) (w : W) → g one ≡ w → ((k : K) → eq one k ≡ false → g k ≡ f k) → (k : K) → g k ≡ cond (eq one k) w (f k)
at_each {eq = eq} same f g one w here other k =
    ⊎_elim
    (λ y. subst (λ l. g l ≡ w) ((same one k).0 y) here ∙ sym (cond-true (eq one k) w (f k) y))
    (λ n. other k n ∙ sym (cond-false (eq one k) w (f k) n))
    (cases_Bool (eq one k))

pub tree_updates : {K X : Type 0} (read : K → List ℕ) (bs : List ℕ) (m n : BTreeMap K X) (w : Option X)
    → tree.UpdatesBy (λ x y. slice_cmp nat_cmp (read x) (read y)) (λ k. slice_cmp nat_cmp bs (read k)) m n w
    → (cs : List ℕ) → tree.get_by (λ k. slice_cmp nat_cmp cs (read k)) n ≡ cond (bytes_eq bs cs) w (tree.get_by (λ k. slice_cmp nat_cmp cs (read k)) m)
tree_updates read bs m n w h =
    at_each bytes_decides (λ ds. tree.get_by (λ k. slice_cmp nat_cmp ds (read k)) m) (λ ds. tree.get_by (λ k. slice_cmp nat_cmp ds (read k)) n) bs w h.1
    (λ cs e. others _ _ _ _ h.3 _ (λ x y. (eq_by_cmp_equiv nat_list_cmp_total).congr cs (read x) (read y)) (λ k. apart_in_order bs cs (read k) e))

pub shelf_updates : {X S : Type 0} (shelf : Shelf) (m n : HashMap Shelf X S) (w : Option X) → hash.UpdatesBy shelf_eq (shelf_eq shelf) m n w
    → (other : Shelf) → shelf_at n other ≡ cond (shelf_eq shelf other) w (shelf_at m other)
shelf_updates shelf m n w h =
    at_each shelf_decides (shelf_at m) (shelf_at n) shelf w h.1
    (λ other e. others _ _ _ _ h.3 _ (shelf_equiv.congr other) (λ k. apart shelf_equiv shelf other k e))
