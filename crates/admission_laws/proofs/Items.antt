-- The outputs of the items of a state have names apart, as the outputs of the activities of its templates have.
use Rattle.std.proofs.Common.{◌≡◌, ℕ, zero, suc, Bool, true, false, if◌then◌else◌, List, [], ◌∷◌, Option, Some, None}
use Rattle.std.proofs.Common.{option_and_then, refl, subst}
use Rattle.std.specs.Prelude.{slice_get, nat_le, ◌&&◌}
use Rattle.std.proofs.lemmas.List.Elements.{All-head, All-tail}
use Rattle.std.proofs.lemmas.Option.{none-some, option_and_then_some}
use Rattle.activity_states.specs.States.{fate_of}
use Rattle.flow_model.specs.ScopeContainers.{graph_in, graph_of}
use Rattle.flow_model.specs.declared.graphs.Activity.{Activity}
use Rattle.flow_model.specs.declared.graphs.Graph.{Graph, out-Graph}
use Rattle.flow_model.specs.declared.graphs.Program.{Program as ProgramOf}
use Rattle.flow_model.specs.declared.graphs.Template.{Template}
use Rattle.flow_model.specs.declared.graphs.Work.{Work, Program, Block, Process}
use Rattle.flow_model.specs.declared.instances.Part.{Part}
use Rattle.machine.specs.Items.{Stand, Entry, attempts_in, entry_of, entry_in, entry_at, stand_by, into, program_in}
use Rattle.machine.specs.Items.{entry_with, program_entry}
use Rattle.machine.specs.Moves.{graph_under}
use Rattle.machine.specs.Rows.{Row, Standing, Item, Inner, Scopes, place_of, attempt_place}
use Rattle.machine.specs.States.{State, templates, item_in}
use Rattle.admission_laws.specs.ApartLeaves.{AreLeavesApart, HasOutputsApartTo, HasLeavesApart, HaveLeavesApart}
use Rattle.admission_laws.specs.ApartLeaves.{ItemsHaveLeavesApart}

same_some : {X : Type 0} (x y : X) → Some x ≡ Some y → x ≡ y
same_some x y is = cc

-- what is there under a condition is there
under : {X : Type 0} (b : Bool) (o : Option X) (x : X) → (if b then o else None) ≡ Some x → o ≡ Some x
under true o x is = is
under false o x none = absurd (none-some x none)

-- the outputs of the activities of a graph have names apart, to every depth
abbrev HasOutputsApart : Graph → Type 0
HasOutputsApart g = (depth : ℕ) → HasOutputsApartTo depth g

-- ---- libraries

graph_apart : (ts : List Template) (t : ℕ) (g : Graph) → HaveLeavesApart ts → graph_of ts t ≡ Some g → HasOutputsApart g
graph_apart [] t g apart there = absurd (none-some g there)
graph_apart (x ∷ xs) zero g apart there =
    let first : HasLeavesApart x.graph = All-head (λ (y : Template). HasLeavesApart y.graph) x xs apart in
    subst HasOutputsApart (same_some x.graph g there) first.outputs
graph_apart (x ∷ xs) (suc t) g apart there =
    graph_apart xs t g (All-tail (λ (y : Template). HasLeavesApart y.graph) x xs apart) there

-- the graph that an activity of such a graph runs
work_apart : (ts : List Template) (work : Work) (h : Graph) → HaveLeavesApart ts
    → ((depth : ℕ) (k : Graph) → graph_in [] work ≡ Some k → HasOutputsApartTo depth k) → graph_in ts work ≡ Some h
    → HasOutputsApart h
work_apart ts (Program p) h apart inner there = absurd (none-some h there)
work_apart ts (Block g) h apart inner there = λ depth. inner depth h there
work_apart ts (Process t) h apart inner there = graph_apart ts t h apart there

under_apart : (ts : List Template) (g : Graph) (a : ℕ) → HaveLeavesApart ts → HasOutputsApart g → (o : Option Activity)
    → slice_get (out-Graph g).activities a ≡ o → (h : Graph) → graph_under ts o ≡ Some h → HasOutputsApart h
under_apart ts g a apart here None at h none = absurd (none-some h none)
under_apart ts g a apart here (Some activity) at h there =
    work_apart ts activity.work h apart (λ depth k is. (here (suc depth) a activity at).inside k is) there

-- ---- items

-- the scopes of an attempt have the graph that it runs
graph_stands : (s : Scopes) (a : ℕ) (o : Option Graph) (i : Option ℕ) (st : Stand) → stand_by s a o i ≡ Some st
    → o ≡ Some st.graph
graph_stands s a None i st none = absurd (none-some st none)
graph_stands s a (Some h) None st none = absurd (none-some st none)
graph_stands s a (Some h) (Some i) st is = cc

-- the activity at a place of a scope
abbrev activity_at : Stand → ℕ → Option Activity
activity_at st a = slice_get (out-Graph st.graph).activities a

module _ (ts : List Template) (apart : HaveLeavesApart ts) (e : Entry) where
  by_standing : (g : Graph) (r : Row) (j a : ℕ) (o : Option Activity) (state : Option Standing) → HasOutputsApart g
      → slice_get (out-Graph g).activities a ≡ o → entry_of g r j a o state ≡ Some e
      → AreLeavesApart e.activity.output.leaves
  by_standing g r j a None state here there none = absurd (none-some e none)
  by_standing g r j a (Some activity) None here there none = absurd (none-some e none)
  by_standing g r j a (Some activity) (Some (Inner stage n)) here there none = absurd (none-some e none)
  by_standing g r j a (Some activity) (Some (Item p)) here there is =
      subst (λ (x : Entry). AreLeavesApart x.activity.output.leaves)
      (same_some _ e (under (nat_le 1 j && nat_le j (attempts_in (fate_of p))) _ e is))
      (here (suc zero) a activity there).output

  by_row : (q : Part) (g : Graph) (o : Option Row) → HasOutputsApart g → entry_in g q o ≡ Some e
      → AreLeavesApart e.activity.output.leaves
  by_row q g None here none = absurd (none-some e none)
  by_row q g (Some r) here is =
      option_and_then_some
      (λ a. entry_of g r q.attempt a (slice_get (out-Graph g).activities a) (slice_get r.standings a))
      (place_of g q.name) e (under r.begun _ e is) (λ a there one.
      by_standing g r q.attempt a (slice_get (out-Graph g).activities a) (slice_get r.standings a) here refl one)

  -- along the parts of a path
  along : (q : Part) (qs : List Part) (st : Stand) → HasOutputsApart st.graph → entry_at ts (q ∷ qs) st ≡ Some e
      → AreLeavesApart e.activity.output.leaves
  along q [] st here is = by_row q st.graph (st.scopes []) here is
  along q (r ∷ qs) st here is =
      option_and_then_some (entry_at ts (r ∷ qs)) (into ts q st) e is (λ inner leads one.
      option_and_then_some
      (λ a. stand_by st.scopes a (graph_under ts (activity_at st a)) (attempt_place q.attempt))
      (place_of st.graph q.name) inner leads (λ a there stands.
      along r qs inner
      (under_apart ts st.graph a apart here (activity_at st a) refl inner.graph
      (graph_stands st.scopes a (graph_under ts (activity_at st a)) (attempt_place q.attempt) inner stands)) one))

  entry_apart : (parts : List Part) (st : Stand) → HasOutputsApart st.graph → entry_at ts parts st ≡ Some e
      → AreLeavesApart e.activity.output.leaves
  entry_apart [] st here none = absurd (none-some e none)
  entry_apart (q ∷ qs) st here is = along q qs st here is

-- ---- in a state

-- an item that runs a program is an entry
with_program : (f e : Entry) (o : Option ProgramOf) → entry_with f o ≡ Some e → Some f ≡ Some e
with_program f e None none = absurd (none-some e none)
with_program f e (Some p) is = is

that_entry : (o : Option Entry) (e : Entry) → program_entry o ≡ Some e → o ≡ Some e
that_entry None e none = absurd (none-some e none)
that_entry (Some f) e is = with_program f e (program_in f.activity.work) is

pub items_apart : (s : State) → HaveLeavesApart (templates s) → ItemsHaveLeavesApart s
items_apart s apart path e is =
    option_and_then_some (item_in (templates s) (templates s) path) (s.roots path.root) e
    (that_entry (option_and_then (item_in (templates s) (templates s) path) (s.roots path.root)) e is) (λ r live one.
    option_and_then_some (λ g. entry_at (templates s) path.parts (record { graph = g; scopes = r.scopes }))
    (graph_of (templates s) r.template) e one (λ g there inside.
    entry_apart (templates s) apart e path.parts (record { graph = g; scopes = r.scopes })
    (graph_apart (templates s) r.template g apart there) inside))
