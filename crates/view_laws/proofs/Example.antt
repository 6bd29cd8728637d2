-- A run with a subprocess, computed: A repeats its process until its leaf is 1, then B is ready. The graph is well and the run takes fronts alone, so the laws speak of it.
use Rattle.std.proofs.Common.{Option, None, Some, ◌≡◌, ◌==◌, ℕ, zero, suc, pos, ◌<◌, true, false, inl, inr, List, [], ◌∷◌, map, refl, sym, ap, ◌∙◌, arith}
use Rattle.std.proofs.lemmas.Bool.Decides.{eqb_tells}
use Rattle.std.proofs.lemmas.List.Elements.{All-cons, All-nil}
use Rattle.std.specs.Prelude.{slice_get, slice_index}
use Rattle.flow_model.specs.declared.graphs.Activity.{Activity}
use Rattle.flow_model.specs.declared.graphs.DoneBy.TheVariants.{Starter}
use Rattle.flow_model.specs.declared.graphs.Expr.{Whole}
use Rattle.flow_model.specs.declared.graphs.Graph.{Graph, out-Graph, roll-Graph}
use Rattle.flow_model.specs.declared.graphs.Join.TheVariants as join
use Rattle.flow_model.specs.declared.graphs.Kind.TheVariants.{Long}
use Rattle.flow_model.specs.declared.graphs.Leaves.{Leaves}
use Rattle.flow_model.specs.declared.graphs.MapEnd.TheVariants.{Border, Activity as At}
use Rattle.flow_model.specs.declared.graphs.Operand.TheVariants.{Number, Leaf as LeafOperand}
use Rattle.flow_model.specs.declared.graphs.Operator.TheVariants.{Eq}
use Rattle.flow_model.specs.declared.graphs.Template.{Template}
use Rattle.flow_model.specs.declared.graphs.Value.TheVariants.{Whole as WholeValue}
use Rattle.flow_model.specs.declared.graphs.When.TheVariants.{Always}
use Rattle.flow_model.specs.declared.graphs.Wiring.{Wiring}
use Rattle.flow_model.specs.declared.graphs.Work.{Work, Program, Process}
use Rattle.flow_model.specs.declared.graphs.Work.TheBlock.{shown-the_row-Activity-0}
use Rattle.flow_model.specs.declared.instances.Fact.{Fact}
use Rattle.flow_model.specs.declared.instances.Fate.{Fate}
use Rattle.flow_model.specs.declared.instances.Fate.TheVariants.{Waiting, Ready, Running, Finished}
use Rattle.flow_model.specs.declared.instances.Part.{Part}
use Rattle.flow_model.specs.ScopeContainers.{graph_in}
use Rattle.flow_model.specs.Scopes.{part, tree_fate}
use Rattle.fate_laws.specs.Orders.{IsOrder, IsFlow}
use Rattle.fate_laws.specs.Walks.{Walk, IsWired}
use Rattle.fate_laws.specs.WellFormed.{Well}
use Rattle.view_laws.specs.Laws.{IsQuiet}
use Rattle.view_laws.specs.Messages.{Note, BeginNote, SignalNote, EndNote}
use Rattle.view_laws.specs.Queues.{queue, TakesFronts}
use Rattle.view_laws.specs.Runs.{Root, Event, Started, Turned, Completed, seen, fated, running, engine}
use denote.Hole.Carrier

-- ---- the process

unfoldable pub opened : Unit {0}
unfolding roll-Graph out-Graph Carrier.out Carrier.roll Carrier.shown Carrier.hidden shown-the_row-Activity-0
opened = tt

abbrev no_leaf : Leaves
no_leaf = record { leaves = [] }

abbrev one_leaf : Leaves
one_leaf = record { leaves = record { name = record { steps = [] }; kind = Long } ∷ [] }

abbrev wiring : Wiring
wiring = record { order = []; incoming = []; outgoing = []; feeding = []; sinking = []; looping = [] }

abbrev program : Work
program = Program record { manual = false; by = Starter; expires = None }

-- one program activity, whose second value is the output
abbrev pub inner : Graph
inner = roll-Graph record {
  input = no_leaf;
  output = one_leaf;
  activities = record { name = 88 ∷ []; work = program; input = no_leaf; output = no_leaf; join = join.All; exit = None } ∷ [];
  controls = [];
  lines = record { from = At 0; to = Border; maps = record { from = 1; to = 0 } ∷ [] } ∷ [];
  loops = [];
  wiring = wiring;
}

-- a process activity that repeats until its second value is 1
abbrev pub repeated : Activity
repeated = record {
  name = 65 ∷ [];
  work = Process 0;
  input = no_leaf;
  output = no_leaf;
  join = join.All;
  exit = Some (Whole Eq (record { minus = false; operand = LeafOperand 1 } ∷ []) (record { minus = false; operand = Number (pos 1) } ∷ []));
}

-- it, and then a program activity that is fed by it
abbrev pub graph : Graph
graph = roll-Graph record {
  input = no_leaf;
  output = no_leaf;
  activities = repeated ∷ record { name = 66 ∷ []; work = program; input = one_leaf; output = no_leaf; join = join.All; exit = None } ∷ [];
  controls = record { from = 0; to = 1; when = Always } ∷ [];
  lines = record { from = At 0; to = At 1; maps = record { from = 1; to = 0 } ∷ [] } ∷ [];
  loops = [];
  wiring = wiring;
}

abbrev pub templates : List Template
templates = record { name = 80 ∷ []; version = 1; graph = inner; depth = 1; size = 2 } ∷ []

abbrev pub root : Root
root = record { templates = templates; depth = 1; graph = graph; input = record { values = [] } }

-- ---- a run

abbrev pub scope : ℕ → List Part
scope j = part (65 ∷ []) j ∷ []

abbrev pub done : ℕ → ℕ → Fact
done j n = record {
  item = record { root = 1; parts = part (65 ∷ []) j ∷ part (88 ∷ []) 1 ∷ [] };
  output = record { values = WholeValue (pos 0) ∷ WholeValue (pos n) ∷ [] };
}

-- the first attempt has begun, and nothing is completed
abbrev pub begun : List Event
begun = Turned (BeginNote (scope 1)) ∷ Turned (BeginNote []) ∷ Started ∷ []

abbrev pub first : List Event
first = Completed (done 1 0) ∷ begun

-- the second attempt has begun
abbrev pub begun_again : List Event
begun_again = Turned (BeginNote (scope 2)) ∷ Turned (EndNote (scope 1)) ∷ first

abbrev pub all : List Event
all = Turned (SignalNote [] 0 1 true) ∷ Turned (EndNote (scope 2)) ∷ Completed (done 2 1) ∷ begun_again

abbrev pub one_queue : Note → ℕ
one_queue m = 1

abbrev shown : List Event → List Fate
shown h = map (tree_fate templates 1 (seen (running h)) graph (record { values = [] })) (0 ∷ 1 ∷ [])

abbrev right : List Event → List Fate
right h = map (tree_fate templates 1 (fated (running h)) graph (record { values = [] })) (0 ∷ 1 ∷ [])

-- the view lags behind the fates while messages are queued, and is the same once none is
shown_first : shown first ≡ Running 1 ∷ Waiting ∷ []
unfolding opened
shown_first = refl

right_first : right first ≡ Running 2 ∷ Waiting ∷ []
unfolding opened
right_first = refl

queued_first : queue (engine root one_queue) first 1 ≡ EndNote (scope 1) ∷ []
unfolding opened
queued_first = refl

shown_all : shown all ≡ Finished 2 ∷ Ready 1 ∷ []
unfolding opened
shown_all = refl

right_all : right all ≡ Finished 2 ∷ Ready 1 ∷ []
unfolding opened
right_all = refl

queued_all : queue (engine root one_queue) all 1 ≡ []
unfolding opened
queued_all = refl

-- ---- the run is legal and quiet

no_note : (m : Note) → None ≡ Some m → ⊥
no_note m h = cc

pub legal : TakesFronts (engine root one_queue) all
unfolding opened
legal = (
  (
    (
      (
        (
          (
            (((tt, λ m h. absurd (no_note m h)), λ m h. (1, h)), λ m h. (1, h)),
            λ m h. absurd (no_note m h),
          ),
          λ m h. (1, h),
        ),
        λ m h. (1, h),
      ),
      λ m h. absurd (no_note m h),
    ),
    λ m h. (1, h),
  ),
  λ m h. (1, h),
)

other_queue : (n : ℕ) → (1 == n) ≡ false → queue (engine root one_queue) all n ≡ []
unfolding opened
other_queue n is = rw is refl

empty : (n : ℕ) → queue (engine root one_queue) all n ≡ []
empty n = elim (eqb_tells 1 n) [ inl is ↦ ap (queue (engine root one_queue) all) (sym is.1) ∙ queued_all | inr other ↦ other_queue n other.0 ]

quiet : IsQuiet root one_queue all
quiet = record { legal = legal; started = refl; runs = refl; empty = empty }

-- ---- the graph is well

no_two : (n : ℕ) → suc (suc n) < 2 → ⊥
no_two n h = omega arith

not_zero : ◌≡◌ {A = ℕ} 1 0 → ⊥
not_zero h = omega arith

covered : (a : ℕ) → a < 2 → (i : ℕ) × (i < 2) × (slice_index (0 ∷ 1 ∷ []) i ≡ a)
covered zero less = (0, omega arith, refl)
covered (suc zero) less = (1, omega arith, refl)
covered (suc (suc a)) less = absurd (no_two a less)

leads : (i : ℕ) → i < 2 → 1 ≡ slice_index (0 ∷ 1 ∷ []) i → (j : ℕ) × (j < i) × (slice_index (0 ∷ 1 ∷ []) j ≡ 0)
leads zero less to = absurd (not_zero to)
leads (suc zero) less to = (0, omega arith, refl)
leads (suc (suc i)) less to = absurd (no_two i less)

ordered : IsOrder graph (0 ∷ 1 ∷ [])
unfolding opened
ordered = record {
  long = refl;
  in_range = All-cons (λ a. a < 2) 0 (1 ∷ []) (omega arith) (All-cons (λ a. a < 2) 1 [] (omega arith) (All-nil (λ a. a < 2)));
  covers = covered;
  forward = λ i less.
      All-cons (λ c. c.to ≡ slice_index (0 ∷ 1 ∷ []) i → (j : ℕ) × (j < i) × (slice_index (0 ∷ 1 ∷ []) j ≡ c.from)) (record { from = 0; to = 1; when = Always }) []
      (leads i less) (All-nil _);
}

same_place : (m n : ℕ) → At m ≡ At n → m ≡ n
same_place m n h = cc

fed : (i : ℕ) → i < 2 → At 1 ≡ At (slice_index (0 ∷ 1 ∷ []) i) → (b : ℕ) → At 0 ≡ At b → (j : ℕ) × (j < i) × (slice_index (0 ∷ 1 ∷ []) j ≡ b)
fed i less to b from =
    let source = leads i less (same_place 1 (slice_index (0 ∷ 1 ∷ []) i) to) in
    (source.0, source.1, source.2 ∙ same_place 0 b from)

flow : IsFlow graph (0 ∷ 1 ∷ [])
unfolding opened
flow = record {
  ordered = ordered;
  fed = λ i less.
      All-cons (λ line. line.to ≡ At (slice_index (0 ∷ 1 ∷ []) i) → (b : ℕ) → line.from ≡ At b → (j : ℕ) × (j < i) × (slice_index (0 ∷ 1 ∷ []) j ≡ b))
      (record { from = At 0; to = At 1; maps = record { from = 1; to = 0 } ∷ [] }) [] (fed i less) (All-nil _);
}

-- the data line goes along the connector
wired : IsWired graph
unfolding opened
wired = record {
  each =
      All-cons (λ line. (b a : ℕ) → line.from ≡ At b → line.to ≡ At a → (n : ℕ) × Walk (out-Graph graph).controls (suc n) b a)
      (record { from = At 0; to = At 1; maps = record { from = 1; to = 0 } ∷ [] }) []
      (λ b a from to. (0, (record { from = 0; to = 1; when = Always }, (0, omega arith, refl), same_place 1 a to, sym (same_place 0 b from))))
      (All-nil _);
}

name_at : Option Activity → List ℕ
name_at None = []
name_at (Some x) = x.name

same_name : (m n : ℕ) → m ∷ [] ≡ n ∷ [] → m ≡ n
same_name m n h = cc

different : ◌≡◌ {A = ℕ} 65 66 → ⊥
different h = omega arith

pub no_activity : (x : Activity) → None ≡ Some x → ⊥
no_activity x h = cc

named : (a b : ℕ) (x y : Activity) → slice_get (out-Graph graph).activities a ≡ Some x → slice_get (out-Graph graph).activities b ≡ Some y → x.name ≡ y.name → a ≡ b
unfolding opened name_at
named zero zero x y is is' same = refl
named zero (suc zero) x y is is' same = absurd (different (same_name 65 66 (ap name_at is ∙ same ∙ sym (ap name_at is'))))
named zero (suc (suc b)) x y is is' same = absurd (no_activity y is')
named (suc zero) zero x y is is' same = absurd (different (sym (same_name 66 65 (ap name_at is ∙ same ∙ sym (ap name_at is')))))
named (suc zero) (suc zero) x y is is' same = refl
named (suc zero) (suc (suc b)) x y is is' same = absurd (no_activity y is')
named (suc (suc a)) b x y is is' same = absurd (no_activity x is)

no_one : (n : ℕ) → suc n < 1 → ⊥
no_one n h = omega arith

only_one : (a : ℕ) → a < 1 → (i : ℕ) × (i < 1) × (slice_index (0 ∷ []) i ≡ a)
only_one zero less = (0, omega arith, refl)
only_one (suc a) less = absurd (no_one a less)

no_border : (a : ℕ) → Border ≡ At a → ⊥
no_border a h = cc

only_name : (a b : ℕ) (x y : Activity) → slice_get (out-Graph inner).activities a ≡ Some x → slice_get (out-Graph inner).activities b ≡ Some y → x.name ≡ y.name → a ≡ b
unfolding opened
only_name zero zero x y is is' same = refl
only_name zero (suc b) x y is is' same = absurd (no_activity y is')
only_name (suc a) b x y is is' same = absurd (no_activity x is)

well_inner : Well templates 0 inner
unfolding opened
well_inner = record {
  order = 0 ∷ [];
  peopled = omega arith;
  flow = record {
    ordered = record {
      long = refl;
      in_range = All-cons (λ a. a < 1) 0 [] (omega arith) (All-nil _);
      covers = only_one;
      forward = λ i less. All-nil _;
    };
    fed = λ i less. All-cons (λ line. line.to ≡ At (slice_index (0 ∷ []) i) → (b : ℕ) → line.from ≡ At b → (j : ℕ) × (j < i) × (slice_index (0 ∷ []) j ≡ b))
        (record { from = At 0; to = Border; maps = record { from = 1; to = 0 } ∷ [] }) [] (λ to. absurd (no_border (slice_index (0 ∷ []) i) to)) (All-nil _);
  };
  wired = record {
    each = All-cons (λ line. (b a : ℕ) → line.from ≡ At b → line.to ≡ At a → (n : ℕ) × Walk (out-Graph inner).controls (suc n) b a)
        (record { from = At 0; to = Border; maps = record { from = 1; to = 0 } ∷ [] }) [] (λ b a from to. absurd (no_border a to)) (All-nil _);
  };
  simple = tt;
  named = only_name;
  inside = λ a activity is h of. tt;
}

pub no_graph : (h : Graph) → None ≡ Some h → ⊥
no_graph h is = cc

unfoldable pub work_at : Option Activity → Option Graph
work_at None = None
work_at (Some x) = graph_in templates x.work

same_graph : (h : Graph) → Some inner ≡ Some h → Well templates 0 h
same_graph h is = let e : inner ≡ h = cc in rw (← e) well_inner

inside : (a : ℕ) (activity : Activity) → slice_get (out-Graph graph).activities a ≡ Some activity → (h : Graph) → graph_in templates activity.work ≡ Some h → Well templates 0 h
unfolding opened work_at
inside zero activity is h of = same_graph h (ap work_at is ∙ of)
inside (suc zero) activity is h of = absurd (no_graph h (ap work_at is ∙ of))
inside (suc (suc a)) activity is h of = absurd (no_activity activity is)

pub well : Well templates 1 graph
unfolding opened
well = record {
  order = 0 ∷ 1 ∷ [];
  peopled = omega arith;
  flow = flow;
  wired = wired;
  simple = (refl, tt);
  named = named;
  inside = inside;
}
