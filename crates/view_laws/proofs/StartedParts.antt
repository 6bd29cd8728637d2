-- The attempts that have started in a scope and along a path, and that they stay so.
use Rattle.fate_laws.proofs.Extends.{Extends, and_true, both_true}
use Rattle.fate_laws.proofs.Stays.{more_at, gives_more, output_more, tree_more}
use Rattle.fate_laws.proofs.Steps.{LinesKept, fed_kept, base_kept}
use Rattle.fate_laws.specs.More.{More}
use Rattle.fate_laws.specs.StartedScopes.{Reaches}
use Rattle.flow_model.specs.Fates.{is_open}
use Rattle.flow_model.specs.ScopeContainers.{base_of, graph_in}
use Rattle.flow_model.specs.Scopes.{Known, at, Start, part, gives, is_fed, trial, output, tree_ends, tree_fate}
use Rattle.flow_model.specs.declared.graphs.Activity.{Activity}
use Rattle.flow_model.specs.declared.graphs.Container.{Container}
use Rattle.flow_model.specs.declared.graphs.Graph.{Graph, out-Graph}
use Rattle.flow_model.specs.declared.graphs.Template.{Template}
use Rattle.flow_model.specs.declared.instances.Part.{Part}
use Rattle.std.proofs.Common.{◌≡◌, ℕ, zero, suc, Bool, true, false, ◌&&◌, List, [], ◌∷◌, refl, sym, ap, ◌∙◌, Option, Some, None, arith, subst}
use Rattle.std.specs.Prelude.{slice_get}
use Rattle.view_laws.proofs.Attempts.{found_reaches, reaches_found, reaches_one, reaches_grow}
use Rattle.view_laws.proofs.MoreDue.{open_more}
use Rattle.view_laws.specs.Coming.{started_in}
use Rattle.view_laws.specs.Messages.{Note}
use Rattle.view_laws.specs.Runs.{Root}

-- attempt c of the activity at a place has started on this input
pub record Starts (ts : List Template) (depth : ℕ) (k : Known) (g : Graph) (i : Container) (a : ℕ) (activity : Activity) (c : ℕ) (i' : Container) : Type 0 where
  pub is : slice_get (out-Graph g).activities a ≡ Some activity
  pub active : (is_open (tree_fate ts depth k g i a) && is_fed (out-Graph g).lines a (tree_ends ts depth k g i)) ≡ true
  pub reach : Reaches (suc k.most) (gives ts k (output ts depth) activity.name activity.work) (trial g a activity (base_of g activity a i (tree_ends ts depth k g i))) 1
      (base_of g activity a i (tree_ends ts depth k g i)) c i'

-- an attempt of an activity of the scope has started
pub record HasStart (ts : List Template) (depth : ℕ) (k : Known) (g : Graph) (i : Container) (q : Part) : Type 0 where
  pub place : ℕ
  pub activity : Activity
  pub attempt : ℕ
  pub input : Container
  pub named : part activity.name attempt ≡ q
  pub starts : Starts ts depth k g i place activity attempt input

-- so has one that is a scope
pub record HasScope (ts : List Template) (depth : ℕ) (k : Known) (g : Graph) (i : Container) (q : Part) : Type 0 where
  pub place : ℕ
  pub activity : Activity
  pub attempt : ℕ
  pub input : Container
  pub graph : Graph
  pub named : part activity.name attempt ≡ q
  pub of : graph_in ts activity.work ≡ Some graph
  pub starts : Starts ts depth k g i place activity attempt input

-- what is named by the path has started, as each scope on the way
abbrev pub StartsAlong : List Template → ℕ → Known → Graph → Container → List Part → Type 0
StartsAlong ts depth k g i [] = ⊥
StartsAlong ts depth k g i (q ∷ []) = HasStart ts depth k g i q
StartsAlong ts zero k g i (q ∷ (s ∷ p)) = ⊥
StartsAlong ts (suc depth) k g i (q ∷ (s ∷ p)) = (scope : HasScope ts (suc depth) k g i q) × StartsAlong ts depth (at q k) scope.graph scope.input (s ∷ p)

-- a scope that has started is an attempt that has
pub start_of : (ts : List Template) (depth : ℕ) (k : Known) (g : Graph) (i : Container) (q : Part) → HasScope ts depth k g i q → HasStart ts depth k g i q
start_of ts depth k g i q scope = record {
  place = scope.place;
  activity = scope.activity;
  attempt = scope.attempt;
  input = scope.input;
  named = scope.named;
  starts = scope.starts;
}

-- ---- by the list of starts

-- what stands in the list of starts has started
pub listed_starts : (ts : List Template) (depth : ℕ) (k : Known) (g : Graph) (i : Container) (a : ℕ) (activity : Activity) (number : ℕ) (s : Start)
    → slice_get (out-Graph g).activities a ≡ Some activity → slice_get (started_in ts depth k g i a activity) number ≡ Some s
    → Starts ts depth k g i a activity s.attempt s.input
listed_starts ts depth k g i a activity number s is found =
    go (is_open (tree_fate ts depth k g i a) && is_fed (out-Graph g).lines a (tree_ends ts depth k g i)) refl
  where
    none_some : None ≡ Some s → ⊥
    none_some h = cc

    go : (b : Bool) → (is_open (tree_fate ts depth k g i a) && is_fed (out-Graph g).lines a (tree_ends ts depth k g i)) ≡ b → Starts ts depth k g i a activity s.attempt s.input
    go false shut = absurd (none_some (rw shut at found))
    go true open_ = record {
      is = is;
      active = open_;
      reach = found_reaches (suc k.most) (gives ts k (output ts depth) activity.name activity.work) (trial g a activity (base_of g activity a i (tree_ends ts depth k g i))) 1
          (base_of g activity a i (tree_ends ts depth k g i)) number s (rw open_ at found);
    }

-- what has started stands in the list of starts
pub starts_listed : (ts : List Template) (depth : ℕ) (k : Known) (g : Graph) (i : Container) (a : ℕ) (activity : Activity) (c : ℕ) (i' : Container)
    → Starts ts depth k g i a activity c i' → (number : ℕ) × (slice_get (started_in ts depth k g i a activity) number ≡ Some (record { attempt = c; input = i' }))
starts_listed ts depth k g i a activity c i' s =
    rw s.active
    (reaches_found (suc k.most) (gives ts k (output ts depth) activity.name activity.work) (trial g a activity (base_of g activity a i (tree_ends ts depth k g i))) 1
    (base_of g activity a i (tree_ends ts depth k g i)) c i' s.reach)

-- ---- names are of one attempt

-- no two activities have one name
abbrev pub AreNamed : Graph → Type 0
AreNamed g = (a b : ℕ) (x y : Activity) → slice_get (out-Graph g).activities a ≡ Some x → slice_get (out-Graph g).activities b ≡ Some y → x.name ≡ y.name → a ≡ b

activity_in : Activity → Option Activity → Activity
activity_in x None = x
activity_in x (Some y) = y

-- a place has one activity
pub one_activity : (o : Option Activity) (x y : Activity) → o ≡ Some x → o ≡ Some y → x ≡ y
unfolding activity_in
one_activity o x y is is' = ap (activity_in x) (sym is ∙ is')

graph_or : Graph → Option Graph → Graph
graph_or x None = x
graph_or x (Some y) = y

one_graph : (o : Option Graph) (x y : Graph) → o ≡ Some x → o ≡ Some y → x ≡ y
unfolding graph_or
one_graph o x y is is' = ap (graph_or x) (sym is ∙ is')

module _ (ts : List Template) (depth : ℕ) (k : Known) (g : Graph) (i : Container) (distinct : AreNamed g) where
  -- a start of an attempt of the activity at a place
  pub start_at : (q : Part) (a : ℕ) (activity : Activity) → slice_get (out-Graph g).activities a ≡ Some activity → activity.name ≡ q.name
      → HasStart ts depth k g i q → (i' : Container) × Starts ts depth k g i a activity q.attempt i'
  start_at q a activity is name s =
      let same_name : s.activity.name ≡ activity.name = ap (λ u. u.name) s.named ∙ sym name in
      let place : s.place ≡ a = distinct s.place a s.activity activity s.starts.is is same_name in
      let P : ℕ → Type 0 = λ u. Starts ts depth k g i u s.activity s.attempt s.input in
      let moved : Starts ts depth k g i a s.activity s.attempt s.input = subst P place s.starts in
      let one : s.activity ≡ activity = one_activity (slice_get (out-Graph g).activities a) s.activity activity moved.is is in
      let Q : Activity → Type 0 = λ u. Starts ts depth k g i a u s.attempt s.input in
      let named' : Starts ts depth k g i a activity s.attempt s.input = subst Q one moved in
      let R : ℕ → Type 0 = λ u. Starts ts depth k g i a activity u s.input in
      (s.input, subst R (ap (λ u. u.attempt) s.named) named')

  -- a scope that has started has one graph and one input
  pub scope_one : (q : Part) (x y : HasScope ts depth k g i q) → (x.graph ≡ y.graph) × (x.input ≡ y.input)
  unfolding start_at start_of
  scope_one q x y =
      let there = start_at q y.place y.activity y.starts.is (ap (λ u. u.name) y.named) (start_of ts depth k g i q x) in
      let R : ℕ → Type 0 = λ u. Starts ts depth k g i y.place y.activity u y.input in
      let mine : Starts ts depth k g i y.place y.activity q.attempt y.input = subst R (ap (λ u. u.attempt) y.named) y.starts in
      let same_name : x.activity.name ≡ y.activity.name = ap (λ u. u.name) x.named ∙ sym (ap (λ u. u.name) y.named) in
      let place : x.place ≡ y.place = distinct x.place y.place x.activity y.activity x.starts.is y.starts.is same_name in
      let one : x.activity ≡ y.activity =
      one_activity (slice_get (out-Graph g).activities y.place) x.activity y.activity (ap (slice_get (out-Graph g).activities) (sym place) ∙ x.starts.is) y.starts.is in (
        one_graph (graph_in ts y.activity.work) x.graph y.graph (ap (λ u. graph_in ts u.work) (sym one) ∙ x.of) y.of,
        reaches_one (suc k.most) (suc k.most) (gives ts k (output ts depth) y.activity.name y.activity.work)
            (trial g y.place y.activity (base_of g y.activity y.place i (tree_ends ts depth k g i))) 1 (base_of g y.activity y.place i (tree_ends ts depth k g i)) q.attempt
            there.0 y.input there.1.reach mine.reach,
      )

-- ---- who knows more

module _ (r : Root) (qf : Note → ℕ) where
  starts_more : (ts : List Template) (depth : ℕ) (k k' : Known) → More k k' → (g : Graph) (i : Container) (a : ℕ) (activity : Activity) (c : ℕ) (i' : Container)
      → Starts ts depth k g i a activity c i' → Starts ts depth k' g i a activity c i'
  starts_more ts depth k k' more g i a activity c i' s =
      let e = tree_ends ts depth k g i in
      let e' = tree_ends ts depth k' g i in
      let ext : Extends e e' = tree_more ts depth k k' more g i in
      let lines : LinesKept (out-Graph g).lines a e e' = λ n d less to b from set. ext.kept b set in
      let both = and_true (is_open (tree_fate ts depth k g i a)) _ s.active in
      let le = more.most in
      record {
        is = s.is;
        active =
            both_true _ _ (open_more r qf ts k k' (output ts depth) (output ts depth) g i e e' a activity more ext s.is both.0)
            (fed_kept (out-Graph g).lines a e e' lines both.1);
        reach =
            rw (base_kept g activity a i e e' lines both.1)
            (reaches_grow (suc k.most) (suc k'.most) (gives ts k (output ts depth) activity.name activity.work) (gives ts k' (output ts depth) activity.name activity.work)
            (trial g a activity (base_of g activity a i e))
            (gives_more ts k k' (output ts depth) (output ts depth) more (λ q h j out gave. output_more ts depth (at q k) (at q k') (more_at k k' q more) h j out gave) activity.name activity.work)
            1 (base_of g activity a i e) c i' (omega arith) s.reach);
      }

  -- what has started along a path stays so
  pub along_more : (ts : List Template) (depth : ℕ) (k k' : Known) → More k k' → (g : Graph) (i : Container) (p : List Part)
      → StartsAlong ts depth k g i p → StartsAlong ts depth k' g i p
  along_more ts depth k k' more g i [] h = absurd h
  along_more ts depth k k' more g i (q ∷ []) h = record {
    place = h.place;
    activity = h.activity;
    attempt = h.attempt;
    input = h.input;
    named = h.named;
    starts = starts_more ts depth k k' more g i h.place h.activity h.attempt h.input h.starts;
  }
  along_more ts zero k k' more g i (q ∷ (s ∷ p)) h = absurd h
  along_more ts (suc depth) k k' more g i (q ∷ (s ∷ p)) h = (
    record {
      place = h.0.place;
      activity = h.0.activity;
      attempt = h.0.attempt;
      input = h.0.input;
      graph = h.0.graph;
      named = h.0.named;
      of = h.0.of;
      starts = starts_more ts (suc depth) k k' more g i h.0.place h.0.activity h.0.attempt h.0.input h.0.starts;
    },
    along_more ts depth (at q k) (at q k') (more_at k k' q more) h.0.graph h.0.input (s ∷ p) h.1,
  )
