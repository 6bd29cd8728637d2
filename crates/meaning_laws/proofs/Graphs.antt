-- Each graph of a text that breaks no rule is meant, by the blocks inside it.
use Rattle.std.proofs.Common.{◌≡◌, ℕ, zero, suc, ◌<◌, Option, Some, None, List, ◌∷◌, length, get_or, refl, sym, ap}
use Rattle.std.proofs.Common.{subst, ◌∙◌, arith}
use Rattle.std.specs.List.{All, Contains, filter_map, cons_option}
use Rattle.std.specs.Option.{option_map}
use Rattle.std.proofs.lemmas.List.Elements.{Contains-get_or}
use Rattle.connector_rules.proofs.Closing.{acyclic_nowhere}
use Rattle.connector_rules.proofs.Nowhere.{contained}
use Rattle.flow_model.specs.declared.graphs.Activity.{Activity}
use Rattle.flow_model.specs.declared.graphs.Control.{Control}
use Rattle.flow_model.specs.declared.graphs.DataLine.{DataLine}
use Rattle.flow_model.specs.declared.graphs.Graph.{Graph, roll-Graph}
use Rattle.flow_model.specs.declared.graphs.Library.{Library}
use Rattle.flow_model.specs.declared.graphs.LoopLine.{LoopLine}
use Rattle.flow_model.specs.declared.graphs.MapEnd.{MapEnd}
use Rattle.flow_model.specs.declared.graphs.MapEnd.TheVariants.{Border, Activity as At}
use Rattle.flow_model.specs.declared.graphs.Work.{Work, Program, Block, Process}
use Rattle.flow_model.specs.declared.trees.ActivityTree.{ActivityTree}
use Rattle.flow_model.specs.declared.trees.ControlTree.{ControlTree}
use Rattle.flow_model.specs.declared.trees.DataTree.{DataTree}
use Rattle.flow_model.specs.declared.trees.ElementTree.{ElementTree}
use Rattle.flow_model.specs.declared.trees.ElementTree.TheOpen.{WorkTree-F}
use Rattle.flow_model.specs.declared.trees.EndTree.{EndTree}
use Rattle.flow_model.specs.declared.trees.EndTree.TheVariants as tree
use Rattle.flow_model.specs.declared.trees.EndsTree.{EndsTree}
use Rattle.flow_model.specs.declared.trees.EndsTree.TheVariants as ends
use Rattle.flow_model.specs.declared.trees.ItemTree.{ItemTree}
use Rattle.flow_model.specs.declared.trees.WorkTree.{out-WorkTree, roll-WorkTree, roll-out-WorkTree}
use Rattle.flow_model.specs.declared.trees.WorkTree.TheVariants as work
use Rattle.flow_model.specs.declared.trees.WorkTree.TheVariants.{rolls-Program, rolls-Process, rolls-Block}
use Rattle.leaf_rules.specs.LeafUses.{text_at}
use Rattle.leaf_rules.specs.StructureLeaves.{Leafing, leaves_in}
use Rattle.process_rules.specs.Callees.{IsNoProcess, named_by, process_named}
use Rattle.process_rules.specs.Calling.{place_among}
use Rattle.process_rules.specs.Knowing.{callee_named}
use Rattle.process_rules.specs.declared.people.Callee.{Callee}
use Rattle.template_check.proofs.Found.{HasNames, output_of}
use Rattle.template_check.proofs.Meaning.{graph_meant}
use Rattle.template_check.specs.Built.{end_in}
use Rattle.template_check.specs.Meant.{Reading, AreParts, NoneLeft, NoPart, OnePart, IsOne, HasInside, IsWork}
use Rattle.template_check.specs.Meant.{ProgramOf, ProcessOf}
use Rattle.template_check.specs.Meant.{BlockOf, IsActivity, IsMeant, MeantTo, IsControl, IsDataBy, IsDataLine}
use Rattle.template_check.specs.Meant.{IsLoopBy, IsLoopLine}
use Rattle.template_check.specs.Rules.{IsFirstBroken, later_rules}
use Rattle.template_check.specs.Wires.{AreWithin, IsEndBelow, pairs_of}
use Rattle.text_graphs.proofs.Naming.{first_below}
use Rattle.text_graphs.specs.Attributes.{joined_by, program_by}
use Rattle.text_graphs.specs.Blocks.{IsBlockOf}
use Rattle.text_graphs.specs.ClosedWalks.{IsAcyclic}
use Rattle.text_graphs.specs.GraphTexts.{GraphText, block_text}
use Rattle.text_graphs.specs.Graphs.{GraphAt}
use Rattle.text_graphs.specs.Texts.{activities_in, controls_in, lines_in, edge_of, number_in, processes_in}
use Rattle.text_graphs.specs.Texts.{structures_in}
use Rattle.text_laws.proofs.Depth.{depth_of, shallower}
use Rattle.text_laws.proofs.Inside.{StandsIn, block_stands}
use Rattle.meaning_laws.specs.Meanings.{reading_behind}
use Rattle.meaning_laws.proofs.Parts.{parts_there, ones_there, names, exit_there, control_there, data_there, loop_there}
use Rattle.meaning_laws.proofs.Rules.{IsUnbroken, graph_unbroken}
use Rattle.meaning_laws.proofs.Wirings.{wiring_there}

-- ---- what holds of each part

-- what each part has that an element gives, all parts have
all_made : {X Y : Type 0} (R : X → Option Y → Type 0) (P : Y → Type 0) {xs : List X} {ys : List Y}
    → ((x : X) (y : Y) → R x (Some y) → P y) → AreParts R xs ys → All P ys
all_made R P holds NoneLeft k d less = absurd (omega (arith, less))
all_made R P holds (NoPart here rest) k d less = all_made R P holds rest k d less
all_made R P holds (OnePart {x} {y} here rest) zero d less = holds x y here
all_made R P holds (OnePart {x} {y} here rest) (suc k) d less = all_made R P holds rest k d (omega (arith, less))

-- each element gives one
ones_long : {X Y : Type 0} (R : X → Y → Type 0) {xs : List X} {ys : List Y} → AreParts (IsOne R) xs ys
    → length xs ≡ length ys
ones_long R NoneLeft = refl
ones_long R (NoPart here rest) = absurd here
ones_long R (OnePart here rest) = ap suc (ones_long R rest)

-- parts in a relation are so in a weaker one
ones_weaker : {X Y : Type 0} (R S : X → Y → Type 0) {xs : List X} {ys : List Y} → ((x : X) (y : Y) → R x y → S x y)
    → AreParts (IsOne R) xs ys → AreParts (IsOne S) xs ys
ones_weaker R S weaker NoneLeft = NoneLeft
ones_weaker R S weaker (NoPart here rest) = absurd here
ones_weaker R S weaker (OnePart {x} {y} here rest) = OnePart (weaker x y here) (ones_weaker R S weaker rest)

-- ---- activities

-- an activity is the same by a weaker property of its block
module _ (P Q : GraphText → Graph → Type 0) (weaker : (t : GraphText) (made : Graph) → P t made → Q t made)
    (r : Reading) (g : GraphText) where
  inside_weaker : (t : GraphText) (made : Work) → HasInside (P t) made → HasInside (Q t) made
  inside_weaker t (Program p) h = absurd h
  inside_weaker t (Block b) h = weaker t b h
  inside_weaker t (Process n) h = absurd h

  work_weaker : (a : ActivityTree) (made : Work) → IsWork P r g a made → IsWork Q r g a made
  work_weaker a made (ProgramOf is same) = ProgramOf is same
  work_weaker a made (ProcessOf name place is found same) = ProcessOf name place is found same
  work_weaker a made (BlockOf inner is has) = BlockOf inner is (inside_weaker (block_text g.process a inner) made has)

  activity_weaker : (a : ActivityTree) (made : Activity) → IsActivity P r g a made → IsActivity Q r g a made
  activity_weaker a made h = record {
    named = h.named;
    works = work_weaker a made.work h.works;
    input = h.input;
    output = h.output;
    joined = h.joined;
    exits = h.exits;
  }

-- ---- ends

-- an end of a line is an activity of the graph, where it is one
end_below : (elements : List ElementTree) (e : EndTree) (made : MapEnd) → end_in elements e ≡ Some made
    → IsEndBelow (length (activities_in elements)) made
end_below elements tree.Border made is =
    let same : Border ≡ made = cc in
    subst (IsEndBelow (length (activities_in elements))) same tt
end_below elements (tree.Activity name) made is = go (number_in elements name.name) refl is
  where
    go : (o : Option ℕ) → number_in elements name.name ≡ o → option_map At o ≡ Some made
        → IsEndBelow (length (activities_in elements)) made
    go None there is = cc
    go (Some k) there is =
        let same : At k ≡ made = cc in
        subst (IsEndBelow (length (activities_in elements))) same (first_below _ (activities_in elements) k there)

-- so is that of a data line that is made
data_below : (leaves : Leafing) (g : GraphText) (l : DataTree) (made : DataLine) → IsDataLine leaves g l (Some made)
    → IsEndBelow (length (activities_in g.elements)) made.to
data_below leaves g l made h = go l.ends h
  where
    go : (e : EndsTree) → IsDataBy leaves g l e (Some made) → IsEndBelow (length (activities_in g.elements)) made.to
    go (ends.Line from to) h = end_below g.elements to made.to h.leads
    go (ends.Loop name) h = let e : Some made ≡ None = h in cc

-- and the activity of a LOOP line
loop_below : (leaves : Leafing) (g : GraphText) (l : DataTree) (made : LoopLine) → IsLoopLine leaves g l (Some made)
    → made.activity < length (activities_in g.elements)
loop_below leaves g l made h = go l.ends h
  where
    go : (e : EndsTree) → IsLoopBy leaves g l e (Some made) → made.activity < length (activities_in g.elements)
    go (ends.Line from to) h = let e : Some made ≡ None = h in cc
    go (ends.Loop name) h = first_below _ (activities_in g.elements) made.activity h.of

-- the connectors are the edges of the text
edges_same : (leaves : Leafing) (elements : List ElementTree) {cs : List ControlTree} {made : List Control}
    → AreParts (IsOne (IsControl leaves elements)) cs made → pairs_of made ≡ filter_map (edge_of elements) cs
edges_same leaves elements NoneLeft = refl
edges_same leaves elements (NoPart here rest) = absurd here
edges_same leaves elements (OnePart {x = c} {y = m} {xs = cs} here rest) =
    let edge : edge_of elements c ≡ Some (m.from, m.to) = rw (here.from, here.to) refl in
    ap (λ es. (m.from, m.to) ∷ es) (edges_same leaves elements rest)
    ∙ ap (λ o. cons_option o (filter_map (edge_of elements) cs)) (sym edge)

-- ---- a graph of a text

module _ (library : Library) (items : List ItemTree) (g : GraphAt) (h : IsUnbroken library items g) where
  abbrev reading : Reading
  reading = reading_behind library items

  abbrev leaves : Leafing
  leaves = leaves_in (structures_in items)

  -- its containers have leaves, and its lines name activities of it
  known : HasNames leaves g
  known = names library items g h

  -- if an activity is a block, its graph is meant
  abbrev IsMeantInside : ActivityTree → Type 0
  IsMeantInside a = (inner : List ElementTree) → IsBlockOf a inner
      → (made : Graph) × IsMeant reading (block_text g.process a inner) made

  -- what a name runs has a place in the library
  place_there : (calls : Option Callee) → (calls ≡ None → ⊥)
      → (place : ℕ) × (option_map (place_among library) calls ≡ Some place)
  place_there None full = absurd (full refl)
  place_there (Some callee) full = (place_among library callee, refl)

  -- what an activity does, by its form
  work_by : (a : ActivityTree) → Contains (activities_in g.elements) a → IsMeantInside a
      → (f : _) → out-WorkTree a.work ≡ f → (made : Work) × IsWork (IsMeant reading) reading (text_at g) a made
  work_by a has inside WorkTree-F.Program out = (
    Program (program_by g.elements a.attrs),
    ProgramOf (sym (roll-out-WorkTree a.work) ∙ ap roll-WorkTree out ∙ rolls-Program) refl,
  )
  work_by a has inside (WorkTree-F.Process name) out =
      let calls = callee_named library (processes_in items) in
      let is : a.work ≡ work.Process name =
      sym (roll-out-WorkTree a.work) ∙ ap roll-WorkTree out ∙ rolls-Process name in
      let full : calls g.process name.name ≡ None → ⊥ =
      λ none. h.runs name.place (contained (λ (b : ActivityTree). IsNoProcess calls g.process (process_named b.work))
      (activities_in g.elements) a name.place has
      (subst (λ o. IsNoProcess calls g.process o name.place) (sym (ap named_by out)) (none, refl))) in
      let place = place_there (calls g.process name.name) full in (
        Process place.0,
        ProcessOf name place.0 is place.1 refl,
      )
  work_by a has inside (WorkTree-F.Block inner) out =
      let is : a.work ≡ work.Block inner = sym (roll-out-WorkTree a.work) ∙ ap roll-WorkTree out ∙ rolls-Block inner in
      let made = inside inner is in
      (Block made.0, BlockOf inner is made.1)

  -- an activity
  activity_there : (a : ActivityTree) → Contains (activities_in g.elements) a → IsMeantInside a
      → (made : Activity) × IsActivity (IsMeant reading) reading (text_at g) a made
  activity_there a has inside =
      let works = work_by a has inside (out-WorkTree a.work) refl in
      let input = (known.containers a has).0 in
      let output = output_of leaves g known a has in
      let exit = exit_there library items g h a has in (
        record {
          name = a.name.name;
          work = works.0;
          input = record { leaves = input.0 };
          output = record { leaves = output.0 };
          join = joined_by a.attrs;
          exit = exit.0;
        },
        record { named = refl; works = works.1; input = input.1; output = output.1; joined = refl; exits = exit.1 },
      )

  -- activities whose blocks are meant, at every depth, are meant to each depth
  to_depth : {trees : List ActivityTree} {made : List Activity}
      → AreParts (IsOne (IsActivity (IsMeant reading) reading (text_at g))) trees made → (depth : ℕ)
      → AreParts (IsOne (IsActivity (MeantTo reading depth) reading (text_at g))) trees made
  to_depth parts depth =
      ones_weaker (IsActivity (IsMeant reading) reading (text_at g))
      (IsActivity (MeantTo reading depth) reading (text_at g))
      (activity_weaker (IsMeant reading) (MeantTo reading depth) (λ t made meant. meant depth) reading (text_at g))
      parts

  -- the graph is meant where those of its blocks are
  pub graph_there : All IsMeantInside (activities_in g.elements) → (made : Graph) × IsMeant reading (text_at g) made
  graph_there inside =
      let acts = activities_in g.elements in
      let cs = controls_in g.elements in
      let ls = lines_in g.elements in
      let activities = ones_there (IsActivity (IsMeant reading) reading (text_at g)) acts
      (λ k d less. activity_there (get_or acts k d) (Contains-get_or acts k d less) (inside k d less)) in
      let controls = ones_there (IsControl leaves g.elements) cs
      (λ k d less. control_there library items g h (get_or cs k d) (Contains-get_or cs k d less)) in
      let lines = parts_there (IsDataLine leaves (text_at g)) ls
      (λ k d less. data_there library items g h (get_or ls k d) (Contains-get_or ls k d less)) in
      let loops = parts_there (IsLoopLine leaves (text_at g)) ls
      (λ k d less. loop_there library items g h (get_or ls k d) (Contains-get_or ls k d less)) in
      let long = ones_long (IsActivity (IsMeant reading) reading (text_at g)) activities.1 in
      let same = edges_same leaves g.elements controls.1 in
      let bound : AreWithin (length acts) controls.0 lines.0 loops.0 = record {
        sources = all_made (IsOne (IsControl leaves g.elements)) (λ c. c.from < length acts)
            (λ x y made. first_below _ acts y.from made.from) controls.1;
        targets = all_made (IsOne (IsControl leaves g.elements)) (λ c. c.to < length acts)
            (λ x y made. first_below _ acts y.to made.to) controls.1;
        fed = all_made (IsDataLine leaves (text_at g)) (λ l. IsEndBelow (length acts) l.to)
            (λ x y made. data_below leaves (text_at g) x y made) lines.1;
        looped = all_made (IsLoopLine leaves (text_at g)) (λ l. l.activity < length acts)
            (λ x y made. loop_below leaves (text_at g) x y made) loops.1;
      } in
      let within = subst (λ (n : ℕ). AreWithin n controls.0 lines.0 loops.0) long bound in
      let acyclic : IsAcyclic (pairs_of controls.0) =
      subst IsAcyclic (sym same) (acyclic_nowhere g.elements h.acyclic) in
      let wiring = wiring_there (length activities.0) controls.0 lines.0 loops.0 within acyclic in
      let input = known.input in
      let output = known.output in (
        roll-Graph (record {
          input = record { leaves = input.0 };
          output = record { leaves = output.0 };
          activities = activities.0;
          controls = controls.0;
          lines = lines.0;
          loops = loops.0;
          wiring = wiring.0;
        }),
        graph_meant (record { leaves = input.0 }) (record { leaves = output.0 }) activities.0 controls.0 lines.0 loops.0
            wiring.0 reading (text_at g) (text_at g) refl input.1 output.1 (to_depth activities.1) controls.1 lines.1
            loops.1 wiring.1,
      )

-- ---- all graphs of a text

module _ (library : Library) (items : List ItemTree)
    (none : IsFirstBroken (later_rules library items) None) where
  -- the graph where it stands
  abbrev standing : (t : GraphText) → StandsIn items t → GraphAt
  standing t stands = record {
    process = t.process;
    place = stands.place;
    input = stands.input;
    output = stands.output;
    elements = t.elements;
  }

  -- its text
  text_same : (t : GraphText) (stands : StandsIn items t) → text_at (standing t stands) ≡ t
  text_same t stands =
      λ i. record { process = t.process; input = stands.reads i; output = stands.writes i; elements = t.elements }

  -- a graph in which fewer than this many blocks nest is meant
  graph_to : (depth : ℕ) (t : GraphText) → depth_of t.elements < depth → StandsIn items t
      → (made : Graph) × IsMeant (reading_behind library items) t made
  graph_to zero t less stands = absurd (omega (arith, less))
  graph_to (suc depth) t less stands =
      let acts = activities_in t.elements in
      let unbroken = graph_unbroken library items none (standing t stands)
      (t.process, stands.process, stands.listed, stands.stands) in
      let made = graph_there library items (standing t stands) unbroken
      (λ k d inside inner is. graph_to depth (block_text t.process (get_or acts k d) inner)
      (let lower = shallower t.elements k d inside inner is in omega (arith, lower, less))
      (block_stands items t (get_or acts k d) inner (Contains-get_or acts k d inside) is stands)) in
      (made.0, subst (λ (u : GraphText). IsMeant (reading_behind library items) u made.0) (text_same t stands) made.1)

  -- a graph of the text is meant, with all blocks inside it
  pub graph_meant_there : (t : GraphText) → StandsIn items t
      → (made : Graph) × IsMeant (reading_behind library items) t made
  graph_meant_there t stands = graph_to (suc (depth_of t.elements)) t (omega arith) stands
