-- What the rules on connectors and data lines tell of the edges of a graph.
use Rattle.std.proofs.Common.{◌≡◌, ℕ, zero, suc, ◌<◌, ◌≤◌, List, [], ◌∷◌, length, get_or, map, Option, Some, None, Bor, refl, sym, ap, subst, ◌∙◌, arith}
use Rattle.std.specs.List.{All, AllWithin, Contains, filter_map, cons_option}
use Rattle.std.proofs.Math.ListN.{get_or-map}
use Rattle.std.proofs.lemmas.List.{length-map}
use Rattle.std.proofs.lemmas.List.Elements.{All-contains, All-map, All-same, All-from_all_within, AllWithin-upto}
use Rattle.flow_model.specs.declared.trees.ElementTree.{ElementTree}
use Rattle.flow_model.specs.declared.trees.EndTree.TheVariants.{Border, Activity as At}
use Rattle.flow_model.specs.declared.trees.EndsTree.{EndsTree}
use Rattle.flow_model.specs.declared.trees.EndsTree.TheVariants as ends
use Rattle.graph_check.specs.Walks.{HasEdge, IsWalk, IsClosedWalk, Reaches}
use Rattle.text_graphs.specs.ClosedWalks.{IsAcyclic, IsCyclic}
use Rattle.text_graphs.specs.Texts.{activities_in, controls_in, number_in, pair_of, line_edge, edge_of, edges_in, IsNotClosing}
use Rattle.text_graphs.proofs.Naming.{first_below}

-- both ends of a pair are known
pub pair_known : (o p : Option ℕ) (a b : ℕ) → pair_of o p ≡ Some (a, b) → (o ≡ Some a) × (p ≡ Some b)
pair_known None p a b h = cc
pair_known (Some x) None a b h = cc
pair_known (Some x) (Some y) a b h = let e : ◌≡◌ {A = ℕ × ℕ} (x, y) (a, b) = cc in (ap (λ (z : ℕ × ℕ). Some z.0) e, ap (λ (z : ℕ × ℕ). Some z.1) e)

-- the ends of an edge are activities
pub pair_below : (elements : List ElementTree) (from to : List ℕ) (a b : ℕ) → pair_of (number_in elements from) (number_in elements to) ≡ Some (a, b) → (a < length (activities_in elements)) × (b < length (activities_in elements))
pair_below elements from to a b h =
    let e = pair_known (number_in elements from) (number_in elements to) a b h in
    (first_below _ (activities_in elements) a e.0, first_below _ (activities_in elements) b e.1)

pub same_pair : (x y a b : ℕ) → ◌≡◌ {A = Option (ℕ × ℕ)} (Some (x, y)) (Some (a, b)) → (x ≡ a) × (y ≡ b)
same_pair x y a b h = let e : ◌≡◌ {A = ℕ × ℕ} (x, y) (a, b) = cc in (ap (λ (z : ℕ × ℕ). z.0) e, ap (λ (z : ℕ × ℕ). z.1) e)

-- the ends of a data line between activities are activities
pub line_below : (elements : List ElementTree) (line : EndsTree) (a b : ℕ) → line_edge elements line ≡ Some (a, b) → (a < length (activities_in elements)) × (b < length (activities_in elements))
line_below elements (ends.Line Border to) a b h = cc
line_below elements (ends.Line (At from) Border) a b h = cc
line_below elements (ends.Line (At from) (At to)) a b h = pair_below elements from.name to.name a b h
line_below elements (ends.Loop name) a b h = cc

-- what comes of a list comes of one of its elements
pub found_in : {X Y : Type 0} (h : X → Option Y) (xs : List X) (y : Y) → Contains (filter_map h xs) y → (x : X) × Contains xs x × (h x ≡ Some y)
found_in h [] y c = absurd (omega (arith, c.1))
found_in {X} {Y} h (x ∷ xs) y c = go (h x) refl (found_in h xs y) c.0 c.1 c.2
  where
    Found : List X → Type 0
    Found zs = (v : X) × Contains zs v × (h v ≡ Some y)

    behind : ((v : X) × Contains xs v × (h v ≡ Some y)) → (v : X) × Contains (x ∷ xs) v × (h v ≡ Some y)
    behind f = (f.0, (suc f.1.0, let l = f.1.1 in omega arith, f.1.2), f.2)

    go : (o : Option Y) → h x ≡ o → (Contains (filter_map h xs) y → (v : X) × Contains xs v × (h v ≡ Some y)) → (k : ℕ) → k < length (cons_option o (filter_map h xs)) → get_or (cons_option o (filter_map h xs)) k y ≡ y
        → (v : X) × Contains (x ∷ xs) v × (h v ≡ Some y)
    go None is rest k less same = behind (rest (k, less, same))
    go (Some z) is rest zero less same = (x, (0, omega arith, refl), is ∙ ap Some same)
    go (Some z) is rest (suc k) less same = behind (rest (k, omega arith, same))

-- what comes of an element comes of its list
pub kept_in : {X Y : Type 0} (h : X → Option Y) (xs : List X) (x : X) (y : Y) → Contains xs x → h x ≡ Some y → Contains (filter_map h xs) y
kept_in h [] x y c some = absurd (omega (arith, c.1))
kept_in {X} {Y} h (z ∷ xs) x y c some = go c.0 c.1 c.2 (λ d. kept_in h xs x y d some)
  where
    shifted : (o : Option Y) → Contains (filter_map h xs) y → Contains (cons_option o (filter_map h xs)) y
    shifted None d = d
    shifted (Some v) d = (suc d.0, let l = d.1 in omega arith, d.2)

    go : (k : ℕ) → k < suc (length xs) → get_or (z ∷ xs) k x ≡ x → (Contains xs x → Contains (filter_map h xs) y) → Contains (cons_option (h z) (filter_map h xs)) y
    go zero less is rest = subst (λ (o : Option Y). Contains (cons_option o (filter_map h xs)) y) (sym (ap h is ∙ some)) (0, omega arith, refl)
    go (suc k) less is rest = shifted (h z) (rest (k, omega arith, is))

-- what holds of all that comes of a list holds of what comes of one element
pub all_kept : {X Y : Type 0} (h : X → Option Y) (P : Y → Type 0) (xs : List X) (i : ℕ) (x : X) (y : Y) → All P (filter_map h xs) → i < length xs → x ≡ get_or xs i x → h x ≡ Some y → P y
all_kept h P xs i x y all less is some = All-contains P (filter_map h xs) y all (kept_in h xs x y (i, less, sym is) some)

-- the ends of the edges of a graph are activities
pub edges_below : (elements : List ElementTree) (a b : ℕ) → HasEdge (edges_in elements) a b → (a < length (activities_in elements)) × (b < length (activities_in elements))
edges_below elements a b edge =
    let found = found_in (edge_of elements) (controls_in elements) (a, b) edge in
    pair_below elements found.0.from.name found.0.to.name a b found.2

-- a closed walk begins with an edge, and leads back from its end
begins : (edges : List (ℕ × ℕ)) (a : ℕ) (through : List ℕ) → IsWalk edges a through a → (c : ℕ) × HasEdge edges a c × Reaches edges c a
begins edges a [] walk = (a, walk, ([], walk))
begins edges a (c ∷ through) walk = (c, walk.0, (through, walk.1))

-- edges have no closed walk, or one
pub never_cyclic : (edges : List (ℕ × ℕ)) → IsAcyclic edges → IsCyclic edges → ⊥
never_cyclic edges acyclic cyclic = go cyclic.0 cyclic.1
  where
    go : (walk : List ℕ) → IsClosedWalk edges walk → ⊥
    go [] h = h
    go (a ∷ through) h = acyclic a (through, h)

pub acyclic_by_controls : (elements : List ElementTree) → All (IsNotClosing elements) (controls_in elements) → IsAcyclic (edges_in elements)
acyclic_by_controls elements all a closed =
    let first = begins (edges_in elements) a closed.0 closed.1 in
    let found = found_in (edge_of elements) (controls_in elements) (a, first.0) first.1 in
    All-contains (IsNotClosing elements) (controls_in elements) found.0 all found.1 a first.0 found.2 first.2

-- what holds of all elements behind references
pub all_behind : {X : Type 0} (P : X → Type 0) (items : List (Bor X)) (i : ℕ) (xs : List X) → length items ≤ i → AllWithin (λ (x : Bor X). P x.now) items 0 i → map (λ x. x.now) items ≡ xs → All P xs
all_behind {X} P items i xs past all is =
    let each = All-from_all_within (λ (x : Bor X). P x.now) items (AllWithin-upto (λ (x : Bor X). P x.now) items 0 i (length items) past all) in
    All-same P xs (map (λ (x : Bor X). x.now) items) (sym is) (All-map P (λ (x : Bor X). x.now) items each)

-- and of the one that was read
pub read_behind : {X : Type 0} (P : X → Type 0) (items : List (Bor X)) (xs : List X) (i : ℕ) (x : Bor X) → map (λ y. y.now) items ≡ xs → All P xs → i < length items → x ≡ get_or items i x → P x.now
read_behind {X} P items xs i x same all less is =
    let f = λ (y : Bor X). y.now in
    let here = All-same P (map f items) xs same all i x.now (rw length-map less) in
    subst P (get_or-map f items i x ∙ sym (ap f is)) here
