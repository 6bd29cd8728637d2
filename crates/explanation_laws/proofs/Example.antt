-- A process whose only activity is a block around one program, which has been completed: the laws speak of it, and certify that the block has finished.
use Rattle.std.proofs.Common.{◌≡◌, ℕ, zero, suc, ◌<◌, ◌≤◌, false, List, [], ◌∷◌, Some, None, refl, sym, ap, subst, ◌∙◌, arith}
use Rattle.std.specs.Prelude.{slice_get, slice_index}
use Rattle.std.proofs.lemmas.List.Elements.{All-cons, All-nil}
use Rattle.std.proofs.lemmas.Option.{none-some}
use Rattle.flow_model.specs.declared.graphs.Activity.{Activity}
use Rattle.flow_model.specs.declared.graphs.Container.{Container}
use Rattle.flow_model.specs.declared.graphs.DoneBy.TheVariants.{Starter}
use Rattle.flow_model.specs.declared.graphs.Graph.{Graph, out-Graph, roll-Graph}
use Rattle.flow_model.specs.declared.graphs.Join.TheVariants as join
use Rattle.flow_model.specs.declared.graphs.Leaves.{Leaves}
use Rattle.flow_model.specs.declared.graphs.Template.{Template}
use Rattle.flow_model.specs.declared.graphs.Wiring.{Wiring}
use Rattle.flow_model.specs.declared.graphs.Work.{Work, Program, Block}
use Rattle.flow_model.specs.declared.graphs.Work.TheBlock.{shown-the_row-Activity-0}
use Rattle.flow_model.specs.declared.instances.Fact.{Fact}
use Rattle.flow_model.specs.declared.instances.Fate.TheVariants as fate
use Rattle.flow_model.specs.declared.instances.Part.{Part}
use Rattle.flow_model.specs.declared.instances.Path.{Path}
use Rattle.flow_model.specs.Paths.{IsStep}
use Rattle.flow_model.specs.ScopeContainers.{graph_in}
use Rattle.flow_model.specs.Scopes.{part}
use Rattle.flow_model.specs.Words.{is_name}
use Rattle.fate_laws.specs.WellFormed.{IsWell, Well}
use Rattle.certificates.specs.declared.lines.CertLine.TheVariants.{Finished}
use Rattle.certificates.specs.Told.{Basis}
use Rattle.certificate_laws.specs.Right.{AreOwn, IsRead, root_in}
use Rattle.certificate_laws.specs.Standings.{Standing, fate_in}
use Rattle.explanation_laws.specs.Certified.{HasCertificate, HasReadActivities, IsReadRoot}
use Rattle.explanation_laws.proofs.Inside.{IsReadGraph, ReadTo, read_scopes}
use Rattle.explanation_laws.proofs.Scopes.{began_at, settled_certified}
use denote.Hole.Carrier

-- ---- the process

unfoldable opened : Unit {0}
unfolding roll-Graph out-Graph Carrier.out Carrier.roll Carrier.shown Carrier.hidden shown-the_row-Activity-0
opened = tt

abbrev no_leaf : Leaves
no_leaf = record { leaves = [] }

abbrev wiring : Wiring
wiring = record { order = []; incoming = []; outgoing = []; feeding = []; sinking = []; looping = [] }

-- an activity of the name X
abbrev activity : Work → Activity
activity work = record { name = 88 ∷ []; work = work; input = no_leaf; output = no_leaf; join = join.All; exit = None }

-- a graph of it alone
abbrev only : Work → Graph
only work = roll-Graph record {
  input = no_leaf;
  output = no_leaf;
  activities = activity work ∷ [];
  controls = [];
  lines = [];
  loops = [];
  wiring = wiring;
}

abbrev program : Work
program = Program record { manual = false; by = Starter; expires = None }

-- a block around a program
abbrev block : Work
block = Block (only program)

abbrev templates : List Template
templates = record { name = 80 ∷ []; version = 1; graph = only block; depth = 2; size = 2 } ∷ []

abbrev nothing : Container
nothing = record { values = [] }

abbrev first : Part
first = part (88 ∷ []) 1

-- the program in the block is completed
abbrev done : Fact
done = record { item = record { root = 1; parts = first ∷ first ∷ [] }; output = nothing }

abbrev basis : Basis
basis = record { templates = templates; root = 1; template = 0; input = nothing; facts = done ∷ [] }

abbrev root : Standing
root = root_in basis (only block) 1 1

-- ---- it is well formed

first_alone : (work : Work) (a : ℕ) (x : Activity) → slice_get (activity work ∷ []) a ≡ Some x → activity work ≡ x
first_alone work zero x there = cc
first_alone work (suc a) x there = absurd (none-some x there)

place_alone : (work : Work) (a : ℕ) (x : Activity) → slice_get (activity work ∷ []) a ≡ Some x → a ≡ 0
place_alone work zero x there = refl
place_alone work (suc a) x there = absurd (none-some x there)

no_one : (n : ℕ) → suc n < 1 → ⊥
no_one n h = omega arith

only_one : (a : ℕ) → a < 1 → (i : ℕ) × (i < 1) × (slice_index (0 ∷ []) i ≡ a)
only_one zero less = (0, omega arith, refl)
only_one (suc a) less = absurd (no_one a less)

well_one : (work : Work) (P : Graph → Type 0) → ((h : Graph) → graph_in templates work ≡ Some h → P h) → IsWell templates (only work) P
unfolding opened
well_one work P inner = record {
  order = 0 ∷ [];
  peopled = omega arith;
  flow = record {
    ordered = record {
      long = refl;
      in_range = All-cons (λ a. a < 1) 0 [] (omega arith) (All-nil _);
      covers = only_one;
      forward = λ i less. All-nil _;
    };
    fed = λ i less. All-nil _;
  };
  wired = record { each = All-nil _ };
  simple = tt;
  named = λ a c x y is is' same. place_alone work a x is ∙ sym (place_alone work c y is');
  inside = λ a x there h runs. inner h (ap (λ (y : Activity). graph_in templates y.work) (first_alone work a x there) ∙ runs);
}

well_block : Well templates 1 (only block)
well_block =
    well_one block (Well templates 0)
    (λ h there. let same : only program ≡ h = cc in subst (Well templates 0) same (well_one program (λ k. Unit {0}) (λ k none. tt)))

-- ---- its activities, and those of its scopes, are as they are read

read_only : (work : Work) → HasReadActivities (only work)
unfolding opened
read_only work = record {
  few = omega arith;
  named = λ a x there. ap (λ (y : Activity). is_name y.name) (sym (first_alone work a x there));
}

read_one : (work : Work) (P : Graph → Type 0) → ((h : Graph) → graph_in templates work ≡ Some h → P h) → IsReadGraph templates (only work) P
unfolding opened
read_one work P inner = record {
  activities = read_only work;
  inside = λ a x there h runs. inner h (ap (λ (y : Activity). graph_in templates y.work) (first_alone work a x there) ∙ runs);
}

read_block : ReadTo templates 1 (only block)
read_block =
    read_one block (ReadTo templates 0)
    (λ h there. let same : only program ≡ h = cc in subst (ReadTo templates 0) same (read_one program (λ k. Unit {0}) (λ k none. tt)))

-- ---- the law speaks of it

step_read : IsStep first
step_read = record { named = refl; counted = omega arith; small = omega arith }

item_read : IsRead 1 done.item
item_read = record {
  path = record {
    counted = omega arith;
    small = omega arith;
    steps = All-cons IsStep first (first ∷ []) step_read (All-cons IsStep first [] step_read (All-nil IsStep));
  };
  few = All-cons (λ (q : Part). q.attempt ≤ 1) first (first ∷ []) (omega arith) (All-cons (λ (q : Part). q.attempt ≤ 1) first [] (omega arith) (All-nil (λ (q : Part). q.attempt ≤ 1)));
}

own : AreOwn 1 1 (done ∷ [])
own = All-cons (λ (f : Fact). IsRead 1 f.item × (f.item.root ≡ 1)) done [] (item_read, refl) (All-nil (λ (f : Fact). IsRead 1 f.item × (f.item.root ≡ 1)))

read_root : IsReadRoot basis (only block) 1 1
read_root = record { bounded = omega arith; graph = refl; well = well_block; own = own; scopes = read_scopes basis (only block) 1 1 read_block }

abbrev path_of_root : Path
path_of_root = record { root = 1; parts = [] }

root_read : IsRead 1 path_of_root
root_read = record { path = record { counted = omega arith; small = omega arith; steps = All-nil IsStep }; few = All-nil (λ (q : Part). q.attempt ≤ 1) }

-- by the completions the block has finished
finished : fate_in templates root 0 ≡ fate.Finished 1
unfolding opened
finished = refl

block_there : slice_get (out-Graph (only block)).activities 0 ≡ Some (activity block)
unfolding opened
block_there = refl

certified : HasCertificate basis 1 1 (Finished path_of_root (88 ∷ []) 1)
certified =
    (settled_certified basis (only block) 1 1 read_root.bounded read_root.graph read_root.well read_root.own read_root.scopes path_of_root root_read refl
    (began_at basis (only block) 1 1 read_root.bounded read_root.graph read_root.well read_root.own read_root.scopes path_of_root root_read refl root refl)
    root refl 0 (activity block) block_there).finished 1 finished
