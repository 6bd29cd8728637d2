-- The rows of a graph's wiring lead to all sources of an activity, so the greatest number of theirs is known.
use Rattle.std.proofs.Common.{◌≡◌, ℕ, zero, suc, ◌+◌, ◌≤◌, ◌<◌, ◌==◌, Bool, true, false, List, [], ◌∷◌, ◌++◌, length, take, get_or, Some, None, cond, refl, ap, sym, subst, ◌∙◌, arith, append_assoc, length-append}
use Rattle.std.specs.Prelude.{slice_get}
use Rattle.std.specs.List.{All, Contains}
use Rattle.std.proofs.lemmas.List.{take_more, take_all}
use Rattle.std.proofs.lemmas.Bool.{eq-eqb}
use Rattle.std.proofs.lemmas.List.Elements.{All-append, All-cons, All-nil, All-contains, Contains-append_right}
use Rattle.std.proofs.lemmas.Option.{slice_get-get_or}
use Rattle.fate_laws.proofs.Items.{eqb_itself, eqb_one}
use Rattle.fate_laws.proofs.Lines.{same_end_true}
use Rattle.dead_paths.proofs.Places.{here}
use Rattle.flow_model.specs.Wiring.{places}
use Rattle.flow_model.specs.ScopeContainers.{same_end}
use Rattle.flow_model.specs.declared.graphs.Control.{Control}
use Rattle.flow_model.specs.declared.graphs.DataLine.{DataLine}
use Rattle.flow_model.specs.declared.graphs.MapEnd.{MapEnd}
use Rattle.flow_model.specs.declared.graphs.MapEnd.TheVariants.{Activity as At}
use Rattle.fate_eval.specs.Timely.{after_of, AfterControls, AfterLines}

-- one more element
pub all_more : {X : Type 0} (P Q : X → Type 0) (xs : List X) (i : ℕ) (d : X) → i < length xs → ((y : X) → P y → Q y) → All P (take i xs) → Q (get_or xs i d) → All Q (take (i + 1) xs)
all_more P Q xs i d less weaker before last =
    rw (take_more xs i d less) (All-append Q (take i xs) (get_or xs i d ∷ []) (λ k e h. weaker _ (before k e h)) (All-cons Q (get_or xs i d) [] last (All-nil Q)))

contains_behind : {X : Type 0} (b : Bool) (y : X) (ys : List X) (x : X) → Contains ys x → Contains (cond b (y ∷ ys) ys) x
contains_behind false y ys x h = h
contains_behind true y ys x h = Contains-append_right (y ∷ []) ys x h

-- the place of an element that passes the test is among the places
in_places : {X : Type 0} (test : X → Bool) (xs : List X) (n i : ℕ) (x : X) → slice_get xs i ≡ Some x → test x ≡ true → Contains (places test n xs) (n + i)
in_places test [] n i x is passes = absurd (no_some is)
  where
    no_some : None ≡ Some x → ⊥
    no_some h = cc
in_places test (y ∷ ys) n zero x is passes =
    let same : y ≡ x = cc in
    let yes_ : test y ≡ true = ap test same ∙ passes in
    rw yes_ (0, omega arith, omega arith)
in_places test (y ∷ ys) n (suc i) x is passes =
    let e : n + suc i ≡ n + 1 + i = omega arith in
    rw e (contains_behind (test y) n (places test (n + 1) ys) (n + 1 + i) (in_places test ys (n + 1) i x is passes))

-- what holds of all that stands at the places, holds of each element that passes the test
pub placed : {X : Type 0} (test : X → Bool) (P : X → Type 0) (xs : List X) → All (λ p. (x : X) → slice_get xs p ≡ Some x → P x) (places test 0 xs)
    → All (λ x. test x ≡ true → P x) xs
placed {X} test P xs all = λ i d less passes.
    let x = get_or xs i d in
    let is : slice_get xs i ≡ Some x = slice_get-get_or xs i d less in
    let zero_add : 0 + i ≡ i = omega arith in
    All-contains (λ p. (x : X) → slice_get xs p ≡ Some x → P x) (places test 0 xs) i all (rw zero_add at (in_places test xs 0 i x is passes)) x is

-- all were taken
pub all_taken : {X : Type 0} (P : X → Type 0) (xs : List X) (i : ℕ) → length xs ≤ i → All P (take i xs) → All P xs
all_taken P xs i past all = rw (take_all i xs past) at all

pub controls_after : (controls : List Control) (afters : List ℕ) (a known : ℕ) (row : List ℕ) → row ≡ places (λ c. c.to == a) 0 controls
    → All (λ p. (c : Control) → slice_get controls p ≡ Some c → after_of afters c.from ≤ known) row → AfterControls controls afters a known
controls_after controls afters a known row is all = λ i d less to.
    placed (λ c. c.to == a) (λ c. after_of afters c.from ≤ known) controls (rw is at all) i d less (eq-eqb _ a to)

pub lines_after : (lines : List DataLine) (afters : List ℕ) (a known : ℕ) (row : List ℕ) → row ≡ places (λ l. same_end l.to (At a)) 0 lines
    → All (λ p. (l : DataLine) (b : ℕ) → slice_get lines p ≡ Some l → l.from ≡ At b → after_of afters b ≤ known) row → AfterLines lines afters a known
lines_after lines afters a known row is all = λ i d less to b from.
    placed (λ l. same_end l.to (At a)) (λ l. (b : ℕ) → l.from ≡ At b → after_of afters b ≤ known) lines
    (λ k e inside l there b. (rw is at all) k e inside l b there) i d less (same_itself _ a to) b from
  where
    same_itself : (e : MapEnd) (a : ℕ) → e ≡ At a → same_end e (At a) ≡ true
    same_itself e a is = rw is (eqb_itself a)

-- what holds of each element that passes the test, holds of all that stands at the places
placed_from : {X : Type 0} (test : X → Bool) (P : X → Type 0) (before rest : List X) (n : ℕ) → length before ≡ n → All (λ x. test x ≡ true → P x) rest
    → All (λ p. (x : X) → slice_get (before ++ rest) p ≡ Some x → P x) (places test n rest)
placed_from {X} test P before [] n long all = All-nil (λ p. (x : X) → slice_get (before ++ []) p ≡ Some x → P x)
placed_from {X} test P before (y ∷ ys) n long all =
    go (test y) refl
    (rw append_assoc at (placed_from test P (before ++ y ∷ []) ys (n + 1) (omega (arith, length-append before (y ∷ []))) (λ k d h. all (suc k) d (omega arith))))
  where
    go : (b : Bool) → test y ≡ b → All (λ p. (x : X) → slice_get (before ++ y ∷ ys) p ≡ Some x → P x) (places test (n + 1) ys)
        → All (λ p. (x : X) → slice_get (before ++ y ∷ ys) p ≡ Some x → P x) (cond b (n ∷ places test (n + 1) ys) (places test (n + 1) ys))
    go false is rest = rest
    go true is rest =
        All-cons (λ p. (x : X) → slice_get (before ++ y ∷ ys) p ≡ Some x → P x) n (places test (n + 1) ys)
        (λ x there.
        (let both : Some y ≡ Some x = sym (here before y ys n long) ∙ there in
        let same : y ≡ x = cc in
        subst P same (all 0 y (omega arith) is)))
        rest

pub controls_back : (controls : List Control) (afters : List ℕ) (a n : ℕ) (row : List ℕ) → row ≡ places (λ c. c.to == a) 0 controls → AfterControls controls afters a n
    → All (λ p. (c : Control) → slice_get controls p ≡ Some c → after_of afters c.from ≤ n) row
controls_back controls afters a n row is all =
    rw is (placed_from (λ c. c.to == a) (λ c. after_of afters c.from ≤ n) [] controls 0 refl (λ i d less passes. all i d less (eqb_one _ a passes)))

pub lines_back : (lines : List DataLine) (afters : List ℕ) (a n : ℕ) (row : List ℕ) → row ≡ places (λ l. same_end l.to (At a)) 0 lines → AfterLines lines afters a n
    → All (λ p. (l : DataLine) (b : ℕ) → slice_get lines p ≡ Some l → l.from ≡ At b → after_of afters b ≤ n) row
lines_back lines afters a n row is all =
    rw is
    (λ k e inside l b there from.
    placed_from (λ l. same_end l.to (At a)) (λ l. (b : ℕ) → l.from ≡ At b → after_of afters b ≤ n) [] lines 0 refl
    (λ i d less passes. all i d less (same_end_true _ (At a) passes)) k e inside l there b from)
