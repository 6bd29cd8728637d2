-- Each template of a sound library is served: its nesting ends, and each process activity has its process.
use Rattle.std.proofs.Common.{◌≡◌, ℕ, zero, suc, ◌+◌, ◌<◌, ◌≤◌, List, [], ◌∷◌, length, Option, Some, None, refl, ap, sym, subst, ◌∙◌, arith}
use Rattle.std.proofs.lemmas.Option.{none-some, get_or_from_slice_get, slice_get_within}
use Rattle.std.specs.List.{All}
use Rattle.std.specs.Prelude.{slice_get}
use Rattle.flow_model.specs.ScopeContainers.{graph_in, graph_of}
use Rattle.flow_model.specs.declared.graphs.Activity.{Activity}
use Rattle.flow_model.specs.declared.graphs.Graph.{Graph, out-Graph}
use Rattle.flow_model.specs.declared.graphs.Template.{Template}
use Rattle.flow_model.specs.declared.graphs.Work.{Work, Program, Block, Process}
use Rattle.fate_laws.specs.Layout.{OfInside}
use Rattle.navigator.specs.Serving.{HasGraph, Served}
use Rattle.template_check.specs.Built.{IsSoundGraph, SoundTo, IsSoundAlone, AreSound}
use Rattle.process_rules.specs.Calling.{CallsBelow, CallsWith, CallsTo, IsCalling}

-- ---- what holds of all elements of a list

pub all_there : {X : Type 0} (P : X → Type 0) (xs : List X) (k : ℕ) (x : X) → slice_get xs k ≡ Some x → All P xs → P x
all_there P xs k x there all = subst P (get_or_from_slice_get xs k x x there) (all k x (slice_get_within xs k x there))

inside_of : (P : Graph → Type 0) (o : Option Activity) → OfInside [] P o → (activity : Activity) → o ≡ Some activity → (h : Graph) → graph_in [] activity.work ≡ Some h → P h
inside_of P None inside activity is h runs = absurd (none-some activity is)
inside_of P (Some x) inside activity is h runs = let same : x ≡ activity = cc in inside h (ap (λ (a : Activity). graph_in [] a.work) same ∙ runs)

-- the template of a graph
pub template_there : (ts : List Template) (t : ℕ) (h : Graph) → graph_of ts t ≡ Some h → (x : Template) × (slice_get ts t ≡ Some x) × (x.graph ≡ h)
template_there [] t h there = absurd (none-some h there)
template_there (x ∷ xs) zero h there = let same : x.graph ≡ h = cc in (x, refl, same)
template_there (x ∷ xs) (suc t) h there = template_there xs t h there

-- ---- deeper

served_more : (ts : List Template) (depth : ℕ) (g : Graph) → Served ts depth g → Served ts (suc depth) g
served_more ts zero g served = record {
  usable = served.usable;
  graphs = served.graphs;
  incoming = served.incoming;
  sinking = served.sinking;
  few = served.few;
  inside = λ a activity h at_ of. absurd (served.inside a activity h at_ of);
}
served_more ts (suc depth) g served = record {
  usable = served.usable;
  graphs = served.graphs;
  incoming = served.incoming;
  sinking = served.sinking;
  few = served.few;
  inside = λ a activity h at_ of. served_more ts depth h (served.inside a activity h at_ of);
}

served_deeper : (ts : List Template) (more depth : ℕ) (g : Graph) → Served ts depth g → Served ts (more + depth) g
served_deeper ts zero depth g served = let same : depth ≡ 0 + depth = omega arith in subst (λ (d : ℕ). Served ts d g) same served
served_deeper ts (suc more) depth g served =
    let same : suc (more + depth) ≡ suc more + depth = omega arith in
    subst (λ (d : ℕ). Served ts d g) same (served_more ts (more + depth) g (served_deeper ts more depth g served))

-- ---- what the activities of a graph run

-- a graph is served to some depth
abbrev IsServedSome : List Template → Graph → Type 0
IsServedSome ts g = (depth : ℕ) × Served ts depth g

module _ (ts : List Template) where
  -- so are the graphs that these activities run
  abbrev AreServedSome : List Activity → Type 0
  AreServedSome xs = (a : ℕ) (activity : Activity) (h : Graph) → slice_get xs a ≡ Some activity → graph_in ts activity.work ≡ Some h → IsServedSome ts h

  -- all of them to this depth
  abbrev AreServed : ℕ → List Activity → Type 0
  AreServed depth xs = (a : ℕ) (activity : Activity) (h : Graph) → slice_get xs a ≡ Some activity → graph_in ts activity.work ≡ Some h → Served ts depth h

  deepest : (xs : List Activity) → AreServedSome xs → (depth : ℕ) × AreServed depth xs
  deepest [] each = (0, λ a activity h there of. absurd (none-some activity there))
  deepest (x ∷ xs) each = by (graph_in ts x.work) refl (deepest xs (λ a. each (suc a)))
    where
      by : (o : Option Graph) → graph_in ts x.work ≡ o → (depth : ℕ) × AreServed depth xs → (depth : ℕ) × AreServed depth (x ∷ xs)
      by None none rest = (rest.0, all)
        where
          all : AreServed rest.0 (x ∷ xs)
          all zero activity h there of = let same : x ≡ activity = cc in absurd (none-some h (sym none ∙ ap (λ (y : Activity). graph_in ts y.work) same ∙ of))
          all (suc a) activity h there of = rest.1 a activity h there of
      by (Some g) found rest = (inner.0 + rest.0, all)
        where
          inner : IsServedSome ts g
          inner = each 0 x g refl found

          all : AreServed (inner.0 + rest.0) (x ∷ xs)
          all zero activity h there of =
              let same : x ≡ activity = cc in
              let graph : Some g ≡ Some h = sym found ∙ ap (λ (y : Activity). graph_in ts y.work) same ∙ of in
              let is : g ≡ h = cc in
              subst (λ (y : Graph). Served ts (inner.0 + rest.0) y) is
              (subst (λ (d : ℕ). Served ts d g) (omega arith) (served_deeper ts rest.0 inner.0 g inner.1))
          all (suc a) activity h there of = served_deeper ts inner.0 rest.0 h (rest.1 a activity h there of)

  -- ---- a graph

  there_graph : (us : List Template) (t : ℕ) → t < length us → (h : Graph) × (graph_of us t ≡ Some h)
  there_graph [] t below = absurd (omega arith)
  there_graph (x ∷ xs) zero below = (x.graph, refl)
  there_graph (x ∷ xs) (suc t) below = there_graph xs t (omega arith)

  here_served : (limit : ℕ) → limit ≤ length ts → (g : Graph) → IsSoundGraph g → All (λ a. CallsBelow limit a.work) (out-Graph g).activities
      → AreServedSome (out-Graph g).activities → IsServedSome ts g
  here_served limit within g sound calls inside =
      let deep = deepest (out-Graph g).activities inside in
      let few = sound.few in
      let small = sound.small in (
        suc deep.0,
        record {
          usable = record { feeding = sound.laid.feeding; outgoing = sound.laid.outgoing; looping = sound.laid.looping; small = omega arith };
          graphs = λ a activity there. has activity.work (all_there (λ x. CallsBelow limit x.work) (out-Graph g).activities a activity there calls);
          incoming = sound.laid.incoming;
          sinking = sound.laid.sinking;
          few = omega arith;
          inside = deep.1;
        },
      )
    where
      has : (work : Work) → CallsBelow limit work → HasGraph ts work
      has (Program p) below = tt
      has (Block h) below = tt
      has (Process t) below = there_graph ts t (omega arith)

  -- a graph is served where those at earlier places are
  module _ (limit : ℕ) (within : limit ≤ length ts) (earlier : (t : ℕ) (h : Graph) → t < limit → graph_of ts t ≡ Some h → IsServedSome ts h) where
    -- what an activity runs
    run_served : (P : Graph → Type 0) → ((h : Graph) → IsSoundAlone h → P h → IsServedSome ts h) → (work : Work) → CallsBelow limit work
        → ((h : Graph) → graph_in [] work ≡ Some h → IsSoundAlone h) → ((h : Graph) → graph_in [] work ≡ Some h → P h)
        → (h : Graph) → graph_in ts work ≡ Some h → IsServedSome ts h
    run_served P deeper (Program p) below sound inside h of = absurd (none-some h of)
    run_served P deeper (Block g) below sound inside h of = deeper h (sound h of) (inside h of)
    run_served P deeper (Process t) below sound inside h of = earlier t h below of

    sound_inside : (g : Graph) → IsSoundAlone g → (a : ℕ) (activity : Activity) → slice_get (out-Graph g).activities a ≡ Some activity
        → (h : Graph) → graph_in [] activity.work ≡ Some h → IsSoundAlone h
    sound_inside g sound a activity there h of = λ depth. inside_of (SoundTo [] depth) (slice_get (out-Graph g).activities a) ((sound (suc depth)).inside a) activity there h of

    calls_served : (P : Graph → Type 0) → ((h : Graph) → IsSoundAlone h → P h → IsServedSome ts h) → (g : Graph) → IsSoundAlone g → CallsWith limit g P → IsServedSome ts g
    calls_served P deeper g sound calls =
        here_served limit within g (sound 0).here calls.here (λ a activity h there of.
        run_served P deeper activity.work (all_there (λ x. CallsBelow limit x.work) (out-Graph g).activities a activity there calls.here)
        (sound_inside g sound a activity there) (inside_of P (slice_get (out-Graph g).activities a) (calls.inside a) activity there) h of)

    graph_served : (depth : ℕ) (g : Graph) → IsSoundAlone g → CallsTo limit depth g → IsServedSome ts g
    graph_served zero g sound calls = calls_served (λ h. ⊥) (λ h alone never. absurd never) g sound calls
    graph_served (suc depth) g sound calls = calls_served (CallsTo limit depth) (graph_served depth) g sound calls

  -- ---- all places

  module _ (sound : AreSound ts) where
    place_served : (t : ℕ) (h : Graph) → graph_of ts t ≡ Some h → ((u : ℕ) (g : Graph) → u < t → graph_of ts u ≡ Some g → IsServedSome ts g) → IsServedSome ts h
    place_served t h there earlier =
        let found = template_there ts t h there in
        let plain : 0 + t ≡ t = omega arith in
        let calls : IsCalling t found.0.graph = subst (λ (n : ℕ). IsCalling n found.0.graph) plain (sound.ordered t found.0 found.1) in
        let alone : IsSoundAlone found.0.graph = all_there (λ x. IsSoundAlone x.graph) ts t found.0 found.1 sound.alone in
        subst (IsServedSome ts) found.2 (graph_served t (within_of t found.0 found.1) earlier calls.0 found.0.graph alone calls.1)
      where
        within_of : (t : ℕ) (x : Template) → slice_get ts t ≡ Some x → t ≤ length ts
        within_of t x there = let low = slice_get_within ts t x there in omega arith

    up_to : (n t : ℕ) (h : Graph) → t < n → graph_of ts t ≡ Some h → IsServedSome ts h
    up_to zero t h below there = absurd (omega arith)
    up_to (suc n) t h below there = place_served t h there (λ u g less of. up_to n u g (omega arith) of)

    pub served_together : (t : ℕ) (h : Graph) → graph_of ts t ≡ Some h → (depth : ℕ) × Served ts depth h
    served_together t h there = up_to (suc t) t h (omega arith) there
