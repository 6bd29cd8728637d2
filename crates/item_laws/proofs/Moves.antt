-- Items that move: which became open and which closed, one change after another.
use Rattle.std.proofs.Common.{◌≡◌, ℕ, zero, suc, ◌+◌, List, [], ◌∷◌, ◌++◌, map, length, Option, Some, None, refl, ap, sym, ◌∙◌, subst, arith, inl, inr}
use Rattle.std.specs.Prelude.{◌⊎◌, slice_get}
use Rattle.std.proofs.lemmas.Option.{none-some}
use Rattle.flow_model.specs.Rows.{below}
use Rattle.flow_model.specs.declared.instances.Part.{Part}
use Rattle.flow_model.specs.declared.instances.Path.{Path}
use Rattle.item_laws.specs.OpenItems.{OpenItems, HasOpened, HasClosed, ItemsMove}

-- ---- elements of lists

get_left : {X : Type 0} (xs ys : List X) (n : ℕ) (x : X) → slice_get xs n ≡ Some x → slice_get (xs ++ ys) n ≡ Some x
get_left [] ys n x at = absurd (none-some x at)
get_left (y ∷ xs) ys zero x at = at
get_left (y ∷ xs) ys (suc n) x at = get_left xs ys n x at

get_right : {X : Type 0} (xs ys : List X) (m : ℕ) (x : X) → slice_get ys m ≡ Some x → (n : ℕ) × (slice_get (xs ++ ys) n ≡ Some x)
get_right [] ys m x at = (m, at)
get_right (y ∷ xs) ys m x at = let rest = get_right xs ys m x at in (suc rest.0, rest.1)

get_cases : {X : Type 0} (xs ys : List X) (n : ℕ) (x : X) → slice_get (xs ++ ys) n ≡ Some x → (slice_get xs n ≡ Some x) ⊎ ((m : ℕ) × (n ≡ length xs + m) × (slice_get ys m ≡ Some x))
get_cases [] ys n x at = inr (n, omega arith, at)
get_cases (y ∷ xs) ys zero x at = inl at
get_cases (y ∷ xs) ys (suc n) x at = go (get_cases xs ys n x at)
  where
    go : (slice_get xs n ≡ Some x) ⊎ ((m : ℕ) × (n ≡ length xs + m) × (slice_get ys m ≡ Some x)) → (slice_get (y ∷ xs) (suc n) ≡ Some x) ⊎ ((m : ℕ) × (suc n ≡ length (y ∷ xs) + m) × (slice_get ys m ≡ Some x))
    go (inl here) = inl here
    go (inr there) = let place = there.1 in inr (there.0, omega arith, there.2)

get_mapped : {X Y : Type 0} (f : X → Y) (xs : List X) (n : ℕ) (y : Y) → slice_get (map f xs) n ≡ Some y → (x : X) × (slice_get xs n ≡ Some x) × (y ≡ f x)
get_mapped f [] n y at = absurd (none-some y at)
get_mapped f (x ∷ xs) zero y at = let same : f x ≡ y = cc in (x, refl, sym same)
get_mapped f (x ∷ xs) (suc n) y at = get_mapped f xs n y at

map_get : {X Y : Type 0} (f : X → Y) (xs : List X) (n : ℕ) (x : X) → slice_get xs n ≡ Some x → slice_get (map f xs) n ≡ Some (f x)
map_get f [] n x at = absurd (none-some x at)
map_get f (y ∷ xs) zero x at = let same : y ≡ x = cc in ap (λ z. Some (f z)) same
map_get f (y ∷ xs) (suc n) x at = map_get f xs n x at

-- paths with one front are one where their last parts are
pub last_one : (p : List Part) (q r : Part) → p ++ q ∷ [] ≡ p ++ r ∷ [] → q ≡ r
last_one [] q r same = cc
last_one (x ∷ p) q r same = last_one p q r (let rest : p ++ q ∷ [] ≡ p ++ r ∷ [] = cc in rest)

-- ---- what happens to items

-- of the scope at the end of this path, these items became open, one is open no more, and every other item, wherever it is, stays as it was
pub record Moves (clock : ℕ) (path : List Part) (news : List Part) (closing : Option Part) (before after : OpenItems) : Type 0 where
  pub once : (n m : ℕ) (q : Part) → slice_get news n ≡ Some q → slice_get news m ≡ Some q → n ≡ m
  pub opened : (n : ℕ) (q : Part) → slice_get news n ≡ Some q → HasOpened clock (before (path ++ q ∷ [])) (after (path ++ q ∷ []))
  pub closed : (q : Part) → closing ≡ Some q → HasClosed (before (path ++ q ∷ [])) (after (path ++ q ∷ []))
  pub others : (item : List Part) → ((n : ℕ) (q : Part) → slice_get news n ≡ Some q → item ≡ path ++ q ∷ [] → ⊥) → ((q : Part) → closing ≡ Some q → item ≡ path ++ q ∷ [] → ⊥)
      → after item ≡ before item

pub moves_none : (clock : ℕ) (path : List Part) (before after : OpenItems) → ((item : List Part) → after item ≡ before item) → Moves clock path [] None before after
moves_none clock path before after same = record {
  once = λ n m q at. absurd (none-some q at);
  opened = λ n q at. absurd (none-some q at);
  closed = λ q is. absurd (none-some q is);
  others = λ item new old. same item;
}

-- items that become open one after another
module _ (clock : ℕ) (path : List Part) (xs ys : List Part) (before middle after : OpenItems) (first : Moves clock path xs None before middle) (second : Moves clock path ys None middle after) where
  -- what is open already doesn\'t become open
  apart : (n m : ℕ) (q r : Part) → slice_get xs n ≡ Some q → slice_get ys m ≡ Some r → path ++ q ∷ [] ≡ path ++ r ∷ [] → ⊥
  apart n m q r at at' same =
      let is = first.opened n q at in
      let was = second.opened m r at' in
      none-some is.state (sym was.was ∙ ap middle (sym same) ∙ is.is)

  abbrev Place : ℕ → Part → Type 0
  Place n q = (slice_get xs n ≡ Some q) ⊎ ((m : ℕ) × (n ≡ length xs + m) × (slice_get ys m ≡ Some q))

  pub moves_on : Moves clock path (xs ++ ys) None before after
  moves_on = record {
    once = λ n m q at at'. both n m q (get_cases xs ys n q at) (get_cases xs ys m q at');
    opened = λ n q at. elim (get_cases xs ys n q at) [
      | inl here ↦
          let is = first.opened n q here in
          record {
            was = is.was;
            state = is.state;
            is = second.others (path ++ q ∷ []) (λ m r at' same. apart n m q r here at' same) (λ r none. absurd (none-some r none)) ∙ is.is;
            free = is.free;
            since = is.since;
          }
      | inr there ↦
          let is = second.opened there.0 q there.2 in
          record {
            was = sym (first.others (path ++ q ∷ []) (λ m r at' same. apart m there.0 r q at' there.2 (sym same)) (λ r none. absurd (none-some r none))) ∙ is.was;
            state = is.state;
            is = is.is;
            free = is.free;
            since = is.since;
          }
    ];
    closed = λ q is. absurd (none-some q is);
    others = λ item new old.
        second.others item (λ m q at same. let place = get_right xs ys m q at in new place.0 q place.1 same) old
        ∙ first.others item (λ n q at same. new n q (get_left xs ys n q at) same) old;
  }
    where
      both : (n m : ℕ) (q : Part) → Place n q → Place m q → n ≡ m
      both n m q (inl here) (inl here') = first.once n m q here here'
      both n m q (inl here) (inr there) = absurd (apart n there.0 q q here there.2 refl)
      both n m q (inr there) (inl here) = absurd (apart m there.0 q q here there.2 refl)
      both n m q (inr there) (inr there') =
          let same : there.0 ≡ there'.0 = second.once there.0 there'.0 q there.2 there'.2 in
          let one = there.1 in
          let two = there'.1 in
          omega arith

-- ---- the items of a root

-- the paths of the items that are open now are listed
module _ (root clock : ℕ) (path : List Part) (news : List Part) (closing : Option Part) (completed : Option (List Part)) (items : List Path) (before after : OpenItems)
    (moves : Moves clock path news closing before after) (listed : items ≡ map (below (record { root = root; parts = path })) news)
    (of_closing : (q : Part) → closing ≡ Some q → completed ≡ Some (path ++ q ∷ [])) (of_completed : (item : List Part) → completed ≡ Some item → (q : Part) × (closing ≡ Some q) × (item ≡ path ++ q ∷ [])) where
  abbrev under : Part → Path
  under = below (record { root = root; parts = path })

  found : (n : ℕ) (p : Path) → slice_get items n ≡ Some p → (q : Part) × (slice_get news n ≡ Some q) × (p ≡ under q)
  found n p at = get_mapped under news n p (subst (λ (ps : List Path). slice_get ps n ≡ Some p) listed at)

  pub moves_items : ItemsMove root clock completed items before after
  moves_items = record {
    named = λ n p at. ap (λ (x : Path). x.root) (found n p at).2;
    once = λ n m p at at'.
        let one = found n p at in
        let two = found m p at' in
        let same : one.0 ≡ two.0 = last_one path one.0 two.0 (ap (λ (x : Path). x.parts) (sym one.2 ∙ two.2)) in
        moves.once n m one.0 one.1 (two.1 ∙ ap Some (sym same));
    opened = λ n p at.
        let one = found n p at in
        subst (λ (x : Path). HasOpened clock (before x.parts) (after x.parts)) (sym one.2) (moves.opened n one.0 one.1);
    closed = λ item is.
        let one = of_completed item is in
        subst (λ x. HasClosed (before x) (after x)) (sym one.2) (moves.closed one.0 one.1);
    others = λ item unlisted uncompleted.
        moves.others item
        (λ n q at same. unlisted (n, ap (λ (ps : List Path). slice_get ps n) listed ∙ map_get under news n q at ∙ ap (λ x. Some (record { root = root; parts = x })) (sym same)))
        (λ q is same. uncompleted (of_closing q is ∙ ap Some (sym same)));
  }
