-- A graph is laid where its wiring follows from its lists, no connectors close a walk, and its data lines go along connectors; it is sound where the rules find nothing in its text.
use Rattle.std.proofs.Common.{◌≡◌, ℕ, zero, suc, ◌+◌, ◌<◌, List, [], ◌∷◌, length, get_or, take, ◌++◌, map, append-nil, Option, Some, None, refl, sym, ap, subst, ◌∙◌, arith}
use Rattle.std.specs.List.{All, Contains, cons_option}
use Rattle.std.specs.Option.{option_map}
use Rattle.text_graphs.proofs.Naming.{first_below}
use Rattle.text_graphs.proofs.Sorting.{one_more}
use Rattle.std.specs.Prelude.{slice_get, slice_index}
use Rattle.std.proofs.lemmas.Option.{slice_get-get_or, get_or_from_slice_get}
use Rattle.std.proofs.Math.ListN.{get_or-map}
use Rattle.std.proofs.lemmas.List.{length-map, map-append}
use Rattle.std.proofs.lemmas.List.Elements.{All-contains_itself}
use Rattle.flow_model.specs.declared.graphs.Activity.{Activity}
use Rattle.flow_model.specs.declared.graphs.Leaves.{Leaves}
use Rattle.flow_model.specs.declared.graphs.LoopLine.{LoopLine}
use Rattle.flow_model.specs.declared.graphs.Wiring.{Wiring}
use Rattle.flow_model.specs.declared.graphs.Control.{Control}
use Rattle.flow_model.specs.declared.graphs.DataLine.{DataLine}
use Rattle.flow_model.specs.declared.graphs.Graph.{Graph, out-Graph, roll-Graph, out-roll-Graph}
use Rattle.flow_model.specs.declared.graphs.MapEnd.{MapEnd}
use Rattle.flow_model.specs.declared.graphs.MapEnd.TheVariants.{Border, Activity as At}
use Rattle.flow_model.specs.declared.trees.ActivityTree.{ActivityTree}
use Rattle.flow_model.specs.declared.trees.DataTree.{DataTree}
use Rattle.flow_model.specs.declared.trees.EndTree.{EndTree}
use Rattle.flow_model.specs.declared.trees.EndTree.TheVariants as tree
use Rattle.flow_model.specs.declared.trees.EndsTree.TheVariants as ends
use Rattle.flow_model.specs.declared.trees.ElementTree.{ElementTree}
use Rattle.fate_laws.proofs.WalkOrders.{order_is_flow}
use Rattle.fate_laws.specs.Layout.{IsLaid, OfInside}
use Rattle.fate_laws.specs.Orders as flow
use Rattle.fate_laws.specs.Walks.{Walk, IsWired}
use Rattle.graph_check.specs.Walks.{HasEdge, IsWalk, IsOrder}
use Rattle.template_check.specs.Built.{IsDrawn, IsSound, IsSoundAlone, IsSoundGraph, IsSoundInside, IsSoundWork, SoundTo, end_in}
use Rattle.text_graphs.specs.Texts.{activities_in, names_in, controls_in, edge_of, edges_in, AllDiffer, IsJudged, IsLineAlong, line_edge, number_in, activity_of}
use Rattle.template_check.specs.Wires.{pairs_of, AreWired, AreWithin, IsEndBelow}
use Rattle.text_graphs.proofs.Differing.{chosen_short}
use Rattle.template_check.proofs.Simple.{simple}
use Rattle.text_graphs.proofs.Judging.{edges_below}

-- a connector is an edge
edge_is : (controls : List Control) (c : Control) → Contains controls c → HasEdge (pairs_of controls) c.from c.to
edge_is controls c h =
    let f : Control → ℕ × ℕ = λ d. (d.from, d.to) in
    (h.0, rw length-map h.1, get_or-map f controls h.0 c ∙ ap f h.2)

-- and each edge is a connector
connector_of : (controls : List Control) (a b : ℕ) → HasEdge (pairs_of controls) a b → (c : Control) × Contains controls c × (c.from ≡ a) × (c.to ≡ b)
connector_of [] a b h = absurd (omega (arith, h.1))
connector_of (c ∷ controls) a b h = go h.0 h.1 h.2 (connector_of controls a b)
  where
    go : (k : ℕ) → k < suc (length (pairs_of controls)) → get_or {A = ℕ × ℕ} ((c.from, c.to) ∷ pairs_of controls) k (a, b) ≡ (a, b)
        → (HasEdge (pairs_of controls) a b → (d : Control) × Contains controls d × (d.from ≡ a) × (d.to ≡ b))
        → (d : Control) × Contains (c ∷ controls) d × (d.from ≡ a) × (d.to ≡ b)
    go zero less is rest = (c, (0, omega arith, refl), ap (λ (z : ℕ × ℕ). z.0) is, ap (λ (z : ℕ × ℕ). z.1) is)
    go (suc k) less is rest =
        let found = rest (k, omega arith, is) in
        let inside = found.1.1 in
        (found.0, (suc found.1.0, omega arith, found.1.2), found.2, found.3)

-- one connector before a walk
walk_behind : (controls : List Control) (n a b c : ℕ) → HasEdge (pairs_of controls) a b → Walk controls n b c → Walk controls (suc n) a c
walk_behind controls zero a b c edge walk =
    let d = connector_of controls a b edge in (d.0, d.1, d.3 ∙ walk, sym d.2)
walk_behind controls (suc n) a b c edge walk = (walk.0, walk.1, walk.2, walk_behind controls n a b walk.0.from edge walk.3)

pub walk_along : (controls : List Control) (through : List ℕ) (a b : ℕ) → IsWalk (pairs_of controls) a through b → (n : ℕ) × Walk controls (suc n) a b
walk_along controls [] a b edge = (0, walk_behind controls 0 a b b edge refl)
walk_along controls (c ∷ through) a b walk =
    let rest = walk_along controls through c b walk.1 in (suc rest.0, walk_behind controls (suc rest.0) a c b walk.0 rest.1)

module _ (g : Graph) (order : List ℕ) (h : IsOrder (length (out-Graph g).activities) (pairs_of (out-Graph g).controls) order) where
  place : (a : ℕ) → Contains order a → (i : ℕ) × (i < length order) × (slice_index order i ≡ a)
  place a c = (c.0, c.1, get_or_from_slice_get order c.0 a 0 (slice_get-get_or order c.0 a c.1 ∙ ap Some c.2))

  forward : (i : ℕ) → i < length order → (c : Control) → Contains (out-Graph g).controls c → c.to ≡ slice_index order i → (j : ℕ) × (j < i) × (slice_index order j ≡ c.from)
  forward i less c inside to =
      let edge = edge_is (out-Graph g).controls c inside in
      let before = h.forward c.from c.to i edge (slice_get-get_or order i 0 less ∙ ap Some (sym to)) in
      (before.0, before.1, get_or_from_slice_get order before.0 c.from 0 before.2)

  pub ordered : flow.IsOrder g order
  ordered = record {
    long = h.long;
    in_range = h.in_range;
    covers = λ a less. place a (h.covers a less);
    forward = λ i less k d inside to. forward i less (get_or (out-Graph g).controls k d) (All-contains_itself (out-Graph g).controls k d inside) to;
  }

pub wired : (g : Graph) (elements : List ElementTree) → pairs_of (out-Graph g).controls ≡ edges_in elements → All (IsDrawn elements) (out-Graph g).lines → IsWired g
wired g elements same drawn = record {
  each = λ k d less b a from to.
      let reach = (drawn k d less).along b a from to in
      let walk = rw (← same) at reach.1 in
      walk_along (out-Graph g).controls reach.0 b a walk;
}

pub laid : (g : Graph) (elements : List ElementTree) → AreWired (length (out-Graph g).activities) (out-Graph g).controls (out-Graph g).lines (out-Graph g).loops (out-Graph g).wiring
    → pairs_of (out-Graph g).controls ≡ edges_in elements → All (IsDrawn elements) (out-Graph g).lines → IsLaid g
laid g elements w same drawn = record {
  incoming = w.incoming.each;
  outgoing = w.outgoing.each;
  feeding = w.feeding.each;
  sinking = w.sinking;
  looping = w.looping.each;
  flow = order_is_flow g (out-Graph g).wiring.order (ordered g (out-Graph g).wiring.order w.ordered.ordered) (wired g elements same drawn);
}

-- the ends of the connectors are activities
pub controls_below : (controls : List Control) (elements : List ElementTree) → pairs_of controls ≡ edges_in elements
    → All (λ c. (c.from < length (activities_in elements)) × (c.to < length (activities_in elements))) controls
controls_below controls elements same k d less =
    let c = get_or controls k d in
    edges_below elements c.from c.to (subst (λ (es : List (ℕ × ℕ)). HasEdge es c.from c.to) same (edge_is controls c (All-contains_itself controls k d less)))

pub within : (count : ℕ) (controls : List Control) (lines : List DataLine) (loops : List LoopLine) (elements : List ElementTree) → count ≡ length (activities_in elements)
    → pairs_of controls ≡ edges_in elements → All (IsDrawn elements) lines → All (λ l. l.activity < length (activities_in elements)) loops → AreWithin count controls lines loops
within count controls lines loops elements long same drawn looped =
    let below = controls_below controls elements same in
    rw long
    (record {
      sources = λ k d less. (below k d less).0;
      targets = λ k d less. (below k d less).1;
      fed = λ k d less. (drawn k d less).below;
      looped = looped;
    })

-- there are as many activities as names in the text
pub as_many : (activities : List Activity) (elements : List ElementTree) → map (λ a. a.name) activities ≡ names_in elements → length activities ≡ length (activities_in elements)
as_many activities elements names =
    sym (length-map activities (λ (a : Activity). a.name)) ∙ ap length names ∙ length-map (activities_in elements) (λ (a : ActivityTree). a.name.name)

-- a graph is sound that is laid out by a text in which the rules find nothing
pub sound : (g : Graph) (elements : List ElementTree) → IsJudged elements → IsLaid g → IsWired g → map (λ a. a.name) (out-Graph g).activities ≡ names_in elements
    → pairs_of (out-Graph g).controls ≡ edges_in elements → IsSoundGraph g
sound g elements judged here along names same =
    let long = as_many (out-Graph g).activities elements names in
    let controls = (out-Graph g).controls in
    let edges : length controls ≡ length (edges_in elements) = sym (length-map controls (λ (c : Control). (c.from, c.to))) ∙ ap length same in
    let short = chosen_short (edge_of elements) (controls_in elements) in
    let connected = judged.connected in
    let below = controls_below controls elements same in
    record {
      laid = here;
      wired = along;
      peopled = omega (arith, long, connected.peopled);
      simple = simple controls (subst AllDiffer (sym same) connected.simple);
      named = subst AllDiffer (sym names) judged.named;
      aimed = λ k d less. omega (arith, long, (below k d less).1);
      few = omega (arith, edges, short, judged.limited.few);
      small = omega (arith, long, judged.limited.small);
    }

ran_inside : (P : Graph → Type 0) (activities : List Activity) (a : ℕ) → ((g : Graph) → IsSoundAlone g → P g) → All (λ x. IsSoundWork x.work) activities → OfInside [] P (slice_get activities a)
ran_inside P [] a gives all = tt
ran_inside P (x ∷ xs) zero gives all = λ h is. gives h (all 0 x (omega arith) h is)
ran_inside P (x ∷ xs) (suc a) gives all = ran_inside P xs a gives (λ k d less. all (suc k) d (omega arith))

-- a graph is sound to every depth where all that its activities run inside is
pub sound_alone : (g : Graph) → IsSoundGraph g → All (λ a. IsSoundWork a.work) (out-Graph g).activities → IsSoundAlone g
sound_alone g here inside zero = record { here = here; inside = λ a. ran_inside (λ h. Unit {0}) (out-Graph g).activities a (λ h l. tt) inside }
sound_alone g here inside (suc depth) = record { here = here; inside = λ a. ran_inside (SoundTo [] depth) (out-Graph g).activities a (λ h l. l depth) inside }

pub sound_here : (elements : List ElementTree) → IsSound elements → IsJudged elements
sound_here elements sound = sound 0

pub sound_inside : (elements : List ElementTree) → IsSound elements → All IsSoundInside (activities_in elements)
sound_inside elements sound = λ k d less inner is depth. (sound (suc depth)).1 k d less inner is

known_end : (o : Option ℕ) (m : MapEnd) (a : ℕ) → option_map At o ≡ Some m → m ≡ At a → o ≡ Some a
known_end None m a h is = cc
known_end (Some k) m a h is = let e : k ≡ a = cc in ap Some e

end_below : (elements : List ElementTree) (t : EndTree) (m : MapEnd) → end_in elements t ≡ Some m → IsEndBelow (length (activities_in elements)) m
end_below elements tree.Border m h = let e : Border ≡ m = cc in subst (IsEndBelow (length (activities_in elements))) e tt
end_below elements (tree.Activity name) m h = go (number_in elements name.name) refl h
  where
    go : (o : Option ℕ) → number_in elements name.name ≡ o → option_map At o ≡ Some m → IsEndBelow (length (activities_in elements)) m
    go None is h = cc
    go (Some k) is h = let e : At k ≡ m = cc in subst (IsEndBelow (length (activities_in elements))) e (first_below _ (activities_in elements) k is)

drawn_along : (elements : List ElementTree) (f t : EndTree) (from to : MapEnd) (a b : ℕ) → end_in elements f ≡ Some from → end_in elements t ≡ Some to → from ≡ At a → to ≡ At b
    → line_edge elements (ends.Line f t) ≡ Some (a, b)
drawn_along elements tree.Border t from to a b hf ht fa tb = cc
drawn_along elements (tree.Activity name) tree.Border from to a b hf ht fa tb = cc
drawn_along elements (tree.Activity source) (tree.Activity target) from to a b hf ht fa tb =
    let x = known_end (number_in elements source.name) from a hf fa in
    let y = known_end (number_in elements target.name) to b ht tb in
    rw (x, y) refl

-- a line between two known ends
pub drawn : (elements : List ElementTree) (line : DataTree) (f t : EndTree) (d : DataLine) → IsLineAlong elements line → line.ends ≡ ends.Line f t → end_in elements f ≡ Some d.from → end_in elements t ≡ Some d.to → IsDrawn elements d
drawn elements line f t d sound is hf ht = record {
  below = end_below elements t d.to ht;
  along = λ a b fa tb. sound a b (ap (line_edge elements) is ∙ drawn_along elements f t d.from d.to a b hf ht fa tb);
}

-- the activities that are built have the names of those of the text
names_more : (elements : List ElementTree) (i : ℕ) (x : ElementTree) → i < length elements → x ≡ get_or elements i x
    → names_in (take (i + 1) elements) ≡ names_in (take i elements) ++ map (λ a. a.name.name) (cons_option (activity_of x) [])
names_more elements i x less is =
    let name_of = λ (a : ActivityTree). a.name.name in
    ap (map name_of) (one_more activity_of elements i x less is) ∙ map-append name_of (activities_in (take i elements)) (cons_option (activity_of x) [])

pub named_next : (elements : List ElementTree) (i : ℕ) (x : ElementTree) → i < length elements → x ≡ get_or elements i x → (activities next : List Activity) (built : Activity) (a : ActivityTree) → activity_of x ≡ Some a
    → next ≡ activities ++ built ∷ [] → built.name ≡ a.name.name → map (λ b. b.name) activities ≡ names_in (take i elements) → map (λ b. b.name) next ≡ names_in (take (i + 1) elements)
named_next elements i x less is activities next built a some now named so_far =
    let name_of = λ (b : Activity). b.name in
    ap (map name_of) now ∙ map-append name_of activities (built ∷ []) ∙ ap (λ (ns : List (List ℕ)). ns ++ built.name ∷ []) so_far
    ∙ ap (λ (n : List ℕ). names_in (take i elements) ++ n ∷ []) named
    ∙ sym (names_more elements i x less is ∙ ap (λ (o : Option ActivityTree). names_in (take i elements) ++ map (λ b. b.name.name) (cons_option o [])) some)

pub named_past : (elements : List ElementTree) (i : ℕ) (x : ElementTree) → i < length elements → x ≡ get_or elements i x → (activities : List Activity) → activity_of x ≡ None
    → map (λ b. b.name) activities ≡ names_in (take i elements) → map (λ b. b.name) activities ≡ names_in (take (i + 1) elements)
named_past elements i x less is activities none so_far =
    so_far
    ∙ sym (names_more elements i x less is ∙ ap (λ (o : Option ActivityTree). names_in (take i elements) ++ map (λ b. b.name.name) (cons_option o [])) none ∙ append-nil (names_in (take i elements)))

-- the graph that is built of its parts
module _ (input output : Leaves) (activities : List Activity) (controls : List Control) (lines : List DataLine) (loops : List LoopLine) (wiring : Wiring) where
  abbrev built : Graph
  built = roll-Graph (record { input = input; output = output; activities = activities; controls = controls; lines = lines; loops = loops; wiring = wiring })

  pub built_sound : (elements : List ElementTree) → IsJudged elements → AreWired (length activities) controls lines loops wiring → map (λ a. a.name) activities ≡ names_in elements → pairs_of controls ≡ edges_in elements
      → All (IsDrawn elements) lines → All (λ a. IsSoundWork a.work) activities → IsSoundAlone built
  built_sound elements judged w names same drawn_ inside =
      let parts = out-roll-Graph (record { input = input; output = output; activities = activities; controls = controls; lines = lines; loops = loops; wiring = wiring }) in
      let here : AreWired (length (out-Graph built).activities) (out-Graph built).controls (out-Graph built).lines (out-Graph built).loops (out-Graph built).wiring = rw parts w in
      let connects : pairs_of (out-Graph built).controls ≡ edges_in elements = rw parts same in
      let along : All (IsDrawn elements) (out-Graph built).lines = rw parts drawn_ in
      let names_here : map (λ a. a.name) (out-Graph built).activities ≡ names_in elements = rw parts names in
      let works : All (λ a. IsSoundWork a.work) (out-Graph built).activities = rw parts inside in
      sound_alone built (sound built elements judged (laid built elements here connects along) (wired built elements connects along) names_here connects) works
