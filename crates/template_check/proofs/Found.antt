-- In a text that breaks no rule, what building looks up is there.
use Rattle.std.proofs.Common.{◌≡◌, ℕ, zero, suc, ◌<◌, Option, Some, None, List, [], ◌∷◌, length, get_or, take, inl, inr}
use Rattle.std.proofs.Common.{refl, sym, ap, subst, ◌∙◌, arith}
use Rattle.std.specs.Prelude.{IsSome, is_some, bytes_eq, slice_get}
use Rattle.std.specs.List.{All, Contains, filter_map, cons_option}
use Rattle.std.specs.Option.{option_map, option_and_then, option_or}
use Rattle.std.proofs.lemmas.List.{length-map}
use Rattle.std.proofs.lemmas.List.Elements.{Contains-get_or, All-contains}
use Rattle.std.proofs.lemmas.Option.{none-some, slice_get-get_or}
use Rattle.conditions.specs.Faults.{mismatch, unknown_leaf, unsized_number}
use Rattle.conditions.specs.Resolving.{IsClear}
use Rattle.connector_rules.specs.Connectors.{NamesNobody, IsNobody, IsLoose, AreEndsNobody, IsEndNobody}
use Rattle.containers.specs.Named.{leaf_place}
use Rattle.flow_model.specs.declared.graphs.Leaf.{Leaf}
use Rattle.flow_model.specs.declared.graphs.Template.{Template}
use Rattle.flow_model.specs.declared.graphs.MapEnd.TheVariants.{Border, Activity as At}
use Rattle.flow_model.specs.declared.trees.ActivityTree.{ActivityTree}
use Rattle.flow_model.specs.declared.trees.AttrAt.{AttrAt}
use Rattle.flow_model.specs.declared.trees.AttrTree.{AttrTree}
use Rattle.flow_model.specs.declared.trees.AttrTree.TheVariants as attr
use Rattle.flow_model.specs.declared.trees.CondAt.{CondAt}
use Rattle.flow_model.specs.declared.trees.ControlTree.{ControlTree}
use Rattle.flow_model.specs.declared.trees.DataTree.{DataTree}
use Rattle.flow_model.specs.declared.trees.ElementTree.{ElementTree}
use Rattle.flow_model.specs.declared.trees.EndTree.{EndTree}
use Rattle.flow_model.specs.declared.trees.EndTree.TheVariants as tree
use Rattle.flow_model.specs.declared.trees.EndsTree.{EndsTree}
use Rattle.flow_model.specs.declared.trees.EndsTree.TheVariants as ends
use Rattle.flow_model.specs.declared.trees.ItemTree.{ItemTree}
use Rattle.flow_model.specs.declared.trees.MapTree.{MapTree}
use Rattle.flow_model.specs.declared.trees.NameAt.{NameAt}
use Rattle.flow_model.specs.declared.trees.ProcessTree.{ProcessTree}
use Rattle.flow_model.specs.declared.trees.StructDef.{StructDef}
use Rattle.flow_model.specs.declared.trees.WhenTree.{WhenTree}
use Rattle.flow_model.specs.declared.trees.WhenTree.TheVariants as written
use Rattle.flow_model.specs.declared.trees.WorkTree.TheVariants.{outs-Process}
use Rattle.leaf_rules.proofs.Agreeing.{uses_to}
use Rattle.leaf_rules.specs.LeafUses.{text_at, IsInCond, IsInExit, IsInLine, IsInMaps, IsInTransition, IsNoLeafIn}
use Rattle.leaf_rules.specs.LeafUses.{IsMixed, ReadsUnknownLeaf, MixesKinds}
use Rattle.leaf_rules.specs.LeafUses as uses
use Rattle.leaf_rules.specs.Leaves.{Leafing, with_code, input_leaves, output_leaves, source_leaves, target_leaves}
use Rattle.leaf_rules.specs.Leaves.{line_source, line_target}
use Rattle.leaf_rules.specs.ReturnCodes.{return_code}
use Rattle.leaf_rules.specs.StructureLeaves.{leaves_in, leaves_of, structure_named}
use Rattle.leaf_rules.specs.Structures.{structure_in, IsNoStructure, AreNoContainers, AreNoContainersIn}
use Rattle.leaf_rules.specs.Tables.{HasContainers}
use Rattle.process_rules.specs.Callees.{Calls, IsNoProcess, NamesNone, named_by, process_named}
use Rattle.process_rules.specs.Doers.{IsNoPerformer, NamesNoPerformer}
use Rattle.process_rules.specs.Numbers.{IsNumberWrong, IsUnsized}
use Rattle.process_rules.specs.Said.{OfSaid}
use Rattle.process_rules.specs.Said as said
use Rattle.process_rules.specs.declared.people.Callee.{Callee}
use Rattle.template_check.specs.Built.{end_in}
use Rattle.template_check.specs.Compiling.{AreLeavesOf, process_names, template_names}
use Rattle.template_check.specs.Found.{IsClearBy, IsExitFound, IsWhenFound, IsControlFound, IsMapFound, AreMapsFound}
use Rattle.template_check.specs.Found.{AreEndsFound, IsLineFound, IsDoerFound, IsActivityFound, IsGraphFound}
use Rattle.template_check.specs.Found.{AreFoundInside, AreFound, AreGraphsFound}
use Rattle.template_check.specs.Meant.{Reading}
use Rattle.template_check.specs.Rules.{IsFirstBroken, rules_on_counts, rules_on_uses}
use Rattle.template_check.proofs.FirstBroken.{none_breaks}
use Rattle.template_check.proofs.InText.{contained}
use Rattle.template_check.proofs.Meaning.{text_same}
use Rattle.text_graphs.proofs.Naming.{first_below}
use Rattle.text_graphs.specs.Attributes.{exit_said, first_said}
use Rattle.text_graphs.specs.Blocks.{IsBlockOf}
use Rattle.text_graphs.specs.GraphTexts.{GraphText}
use Rattle.text_graphs.specs.Graphs.{GraphAt, block_at, process_at, Itself, Deeper, InGraphs, IsGraphOf}
use Rattle.text_graphs.specs.Places.{AnyAt}
use Rattle.text_graphs.specs.Texts.{activities_in, activity_named, controls_in, lines_in, number_in, processes_in}
use Rattle.text_graphs.specs.Texts.{process_of, structures_in}

-- ---- options and lists

-- an option has something
abbrev pub IsThere : {X : Type 0} → Option X → Type 0
IsThere {X} o = (x : X) × (o ≡ Some x)

-- it has, where it isn't empty
pub there : {X : Type 0} (o : Option X) → (o ≡ None → ⊥) → IsThere o
there None full = absurd (full refl)
there (Some x) full = (x, refl)

pub some_there : {X : Type 0} (o : Option X) → IsThere o → IsSome o
some_there o h = ap is_some h.1

-- an element of a list is there, below the length
pub element_there : {X : Type 0} (xs : List X) (k : ℕ) → k < length xs
    → (x : X) × (slice_get xs k ≡ Some x) × Contains xs x
element_there [] k less = absurd (omega (arith, less))
element_there (x ∷ xs) zero less = (x, refl, (0, omega arith, refl))
element_there (x ∷ xs) (suc k) less =
    let found = element_there xs k (omega (arith, less)) in
    let inside = found.2.1 in
    (found.0, found.1, (suc found.2.0, omega (arith, inside), found.2.2))

-- what holds of each element holds of all
all_of : {X : Type 0} (P : X → Type 0) (xs : List X) → ((x : X) → Contains xs x → P x) → All P xs
all_of P xs each = λ k d less. each (get_or xs k d) (Contains-get_or xs k d less)

-- ---- structures

-- a name that some structure has stands for leaves
pub leaves_there : (structures : List StructDef) (name : NameAt) → ((p : ℕ) → IsNoStructure structures name p → ⊥)
    → IsThere (leaves_in structures name.name)
leaves_there structures name full =
    let number = there (structure_in structures name.name) (λ none. full name.place (none, refl)) in
    let found = element_there structures number.0
    (first_below (λ s. bytes_eq s.name.name name.name) structures number.0 number.1) in
    let named : structure_named structures name.name ≡ Some found.0 =
    ap (option_and_then (λ k. slice_get structures k)) number.1 ∙ found.1 in
    (leaves_of structures found.0, ap (option_map (leaves_of structures)) named)

-- ---- conditions

-- a place that isn't found
nothing_found : (o : Option ℕ) → ((p : ℕ) → o ≡ Some p → ⊥) → o ≡ None
nothing_found None none = refl
nothing_found (Some p) none = absurd (none p refl)

-- in a condition, where there is one, no rule finds a place: not an unknown leaf, nor a mismatch, nor a number
pub record IsClearIn (known : Option (List Leaf)) (found : Option CondAt) : Type 0 where
  pub unknown : (p : ℕ) → IsInCond unknown_leaf known found p → ⊥
  pub mixed : (p : ℕ) → IsInCond mismatch known found p → ⊥
  pub unsized : (p : ℕ) → OfSaid IsUnsized found p → ⊥

-- so nothing stands against the condition
pub clear_in : (leaves : List Leaf) (c : CondAt) → IsClearIn (Some leaves) (Some c) → IsClear leaves c.cond
clear_in leaves c h = record {
  known = nothing_found (unknown_leaf leaves c.cond) h.unknown;
  alike = nothing_found (mismatch leaves c.cond) h.mixed;
  sized = nothing_found (unsized_number c.cond) h.unsized;
}

clear_by : (known : Option (List Leaf)) → IsThere known → (c : CondAt) → IsClearIn known (Some c)
    → IsClearBy known c.cond
clear_by None leaves c h = absurd (none-some leaves.0 leaves.1)
clear_by (Some found) leaves c h = clear_in found c h

-- a transition condition
when_found : (known : Option (List Leaf)) → IsThere known → (w : WhenTree) → IsClearIn known (uses.when_said w)
    → IsWhenFound known w
when_found known leaves written.Always h = tt
when_found known leaves (written.Cond c) h = clear_by known leaves c h
when_found known leaves written.Otherwise h = tt

-- the two tellings of a condition behind WHEN are one
pub when_same : (w : WhenTree) (p : ℕ) → OfSaid IsUnsized (uses.when_said w) p → OfSaid IsUnsized (said.when_said w) p
when_same written.Always p h = h
when_same (written.Cond c) p h = h
when_same written.Otherwise p h = h

-- the first EXIT that is said, where no rule finds a place in one
exit_found : (known : Option (List Leaf)) → IsThere known → (attrs : List AttrAt)
    → ((p : ℕ) → AnyAt (λ x. IsInCond unknown_leaf known (exit_said x.what)) attrs p → ⊥)
    → ((p : ℕ) → AnyAt (λ x. IsInCond mismatch known (exit_said x.what)) attrs p → ⊥)
    → ((p : ℕ) → AnyAt (λ x. OfSaid IsUnsized (exit_said x.what)) attrs p → ⊥)
    → IsExitFound known (first_said exit_said attrs)
exit_found known leaves [] unknown mixed unsized = tt
exit_found known leaves (x ∷ attrs) unknown mixed unsized =
    let here : IsClearIn known (exit_said x.what) = record {
      unknown = λ p h. unknown p (inl h);
      mixed = λ p h. mixed p (inl h);
      unsized = λ p h. unsized p (inl h);
    } in
    let later = exit_found known leaves attrs (λ p h. unknown p (inr h)) (λ p h. mixed p (inr h))
    (λ p h. unsized p (inr h)) in
    go (exit_said x.what) here (first_said exit_said attrs) later
  where
    go : (found : Option CondAt) → IsClearIn known found → (later : Option CondAt) → IsExitFound known later
        → IsExitFound known (option_or found later)
    go None h later rest = rest
    go (Some c) h later rest = clear_by known leaves c h

-- ---- maps

-- the maps of a line, where the leaves on both sides are known
maps_found : (from to : Option (List Leaf)) → IsThere from → IsThere to → (maps : List MapTree)
    → ((p : ℕ) → IsInMaps IsNoLeafIn from to maps p → ⊥) → AreMapsFound from to maps
maps_found None to source target maps none = absurd (none-some source.0 source.1)
maps_found (Some from) None source target maps none = absurd (none-some target.0 target.1)
maps_found (Some from) (Some to) source target maps none =
    all_of (IsMapFound from to) maps (λ m has.
    let breaks : (p : ℕ) → IsNoLeafIn from to m p → ⊥ = λ p e.
    none p (contained (IsNoLeafIn from to) maps m p has e) in
    record {
      reads = some_there (leaf_place from m.from.steps)
          (there (leaf_place from m.from.steps) (λ nowhere. breaks m.from.place (inl (nowhere, refl))));
      writes = some_there (leaf_place to m.to.steps)
          (there (leaf_place to m.to.steps) (λ nowhere. breaks m.to.place (inr (nowhere, refl))));
    })

-- ---- who does an activity

doer_found : (elements : List ElementTree) (number : ℕ) (what : AttrTree)
    → ((p : ℕ) → IsNoPerformer elements number what p → ⊥) → IsDoerFound elements what
doer_found elements number (attr.When j) right = tt
doer_found elements number (attr.Exit c) right = tt
doer_found elements number (attr.Start manual) right = tt
doer_found elements number (attr.Expires n) right = tt
doer_found elements number (attr.Role name) right = tt
doer_found elements number (attr.Person name) right = tt
doer_found elements number attr.Starter right = tt
doer_found elements number (attr.Performer name) right =
    let at = number_in elements name.name in
    some_there at (there at (λ none. right name.place (
      λ performs. none-some performs.0.0 (sym none ∙ performs.0.1),
      refl,
    )))

-- ---- a graph

-- its containers have leaves, and its lines name activities of it
pub record HasNames (leaves : Leafing) (g : GraphAt) : Type 0 where
  pub input : IsThere (leaves g.input.name)
  pub output : IsThere (leaves g.output.name)
  pub containers : (a : ActivityTree) → Contains (activities_in g.elements) a
      → IsThere (leaves a.input.name) × IsThere (leaves a.output.name)
  pub named : (p : ℕ) → NamesNobody g p → ⊥

-- so it is where the names of its containers are those of structures
pub names_there : (structures : List StructDef) (g : GraphAt) → ((p : ℕ) → AreNoContainersIn structures g p → ⊥)
    → ((p : ℕ) → NamesNobody g p → ⊥) → HasNames (leaves_in structures) g
names_there structures g structured named =
    let known : (a : ActivityTree) → Contains (activities_in g.elements) a → (p : ℕ) → AreNoContainers structures a p → ⊥
    = λ a has p none.
    structured p (inr (contained (AreNoContainers structures) (activities_in g.elements) a p has none)) in
    record {
      input = leaves_there structures g.input (λ p none. structured p (inl (inl none)));
      output = leaves_there structures g.output (λ p none. structured p (inl (inr none)));
      containers = λ a has. (
        leaves_there structures a.input (λ p none. known a has p (inl none)),
        leaves_there structures a.output (λ p none. known a has p (inr none)),
      );
      named = named;
    }

-- leaves that are those of a name that has some
same_there : (wanted given : Option (List Leaf)) → given ≡ wanted → IsThere wanted → IsThere given
same_there wanted given same h = (h.0, same ∙ h.1)

-- and so it is by leaves that agree on the containers
names_same : (wanted leaves : Leafing) (g : GraphAt) → HasContainers wanted leaves g → HasNames wanted g
    → HasNames leaves g
names_same wanted leaves g has h = record {
  input = same_there (wanted g.input.name) (leaves g.input.name) has.input h.input;
  output = same_there (wanted g.output.name) (leaves g.output.name) has.output h.output;
  containers = λ a inside.
      let agree = All-contains (λ (b : ActivityTree). (leaves b.input.name ≡ wanted b.input.name)
      × (leaves b.output.name ≡ wanted b.output.name)) (activities_in g.elements) a has.activities inside in
      let found = h.containers a inside in (
        same_there (wanted a.input.name) (leaves a.input.name) agree.0 found.0,
        same_there (wanted a.output.name) (leaves a.output.name) agree.1 found.1,
      );
  named = h.named;
}

-- the ends of a line are known
abbrev pub AreEndsKnown : List ElementTree → EndsTree → Type 0
AreEndsKnown elements e = (p : ℕ) → AreEndsNobody elements e p → ⊥

module _ (leaves : Leafing) (g : GraphAt) (h : HasNames leaves g) where
  -- the output of an activity, with the return code
  pub output_of : (a : ActivityTree) → Contains (activities_in g.elements) a → IsThere (with_code (leaves a.output.name))
  output_of a has = let found = (h.containers a has).1 in (return_code ∷ found.0, ap with_code found.1)

  -- ---- names of activities

  -- a name that some activity has stands for its number
  number_there : (name : NameAt) → ((p : ℕ) → IsNobody g.elements name p → ⊥) → IsThere (number_in g.elements name.name)
  number_there name none = there (number_in g.elements name.name) (λ e. none name.place (e, refl))

  -- and for the activity
  activity_there : (name : List ℕ) → IsThere (number_in g.elements name)
      → (a : ActivityTree) × (activity_named g.elements name ≡ Some a) × Contains (activities_in g.elements) a
  activity_there name number =
      let found = element_there (activities_in g.elements) number.0
      (first_below (λ a. bytes_eq a.name.name name) (activities_in g.elements) number.0 number.1) in (
        found.0,
        ap (option_and_then (λ k. slice_get (activities_in g.elements) k)) number.1 ∙ found.1,
        found.2,
      )

  -- the input of an activity, by its name
  input_named : (name : List ℕ) → IsThere (number_in g.elements name) → IsThere (input_leaves leaves g.elements name)
  input_named name number =
      let a = activity_there name number in
      let found = (h.containers a.0 a.2).0 in
      (found.0, ap (option_and_then (λ (b : ActivityTree). leaves b.input.name)) a.1 ∙ found.1)

  -- its output, with the return code
  output_named : (name : List ℕ) → IsThere (number_in g.elements name) → IsThere (output_leaves leaves g.elements name)
  output_named name number =
      let a = activity_there name number in
      let found = output_of a.0 a.2 in
      (found.0, ap (option_and_then (λ (b : ActivityTree). with_code (leaves b.output.name))) a.1 ∙ found.1)

  -- ---- connectors

  -- no end of a connector is unknown
  tied : (c : ControlTree) → Contains (controls_in g.elements) c → (p : ℕ) → IsLoose g.elements c p → ⊥
  tied c has p loose = h.named p (inl (contained (IsLoose g.elements) (controls_in g.elements) c p has loose))

  -- its ends, and the leaves that its condition reads
  pub source_number : (c : ControlTree) → Contains (controls_in g.elements) c
      → IsThere (number_in g.elements c.from.name)
  source_number c has = number_there c.from (λ p nobody. tied c has p (inl nobody))

  pub target_number : (c : ControlTree) → Contains (controls_in g.elements) c
      → IsThere (number_in g.elements c.to.name)
  target_number c has = number_there c.to (λ p nobody. tied c has p (inr nobody))

  pub tested_leaves : (c : ControlTree) → Contains (controls_in g.elements) c
      → IsThere (output_leaves leaves g.elements c.from.name)
  tested_leaves c has = output_named c.from.name (source_number c has)

  -- ---- lines

  -- the ends of each line of the graph are known
  pub ends_known : (l : DataTree) → Contains (lines_in g.elements) l → AreEndsKnown g.elements l.ends
  ends_known l has p nobody =
      let breaks = λ (x : DataTree). AreEndsNobody g.elements x.ends in
      h.named p (inr (contained breaks (lines_in g.elements) l p has nobody))

  -- an end of a line
  pub end_there : (e : EndTree) → ((p : ℕ) → IsEndNobody g.elements e p → ⊥) → IsThere (end_in g.elements e)
  end_there tree.Border none = (Border, refl)
  end_there (tree.Activity name) none =
      let number = number_there name none in
      (At number.0, ap (option_map At) number.1)

  -- the activity of a LOOP line
  pub round_number : (name : NameAt) → AreEndsKnown g.elements (ends.Loop name)
      → IsThere (number_in g.elements name.name)
  round_number name known = number_there name known

  -- the leaves on either side of a line, by its end
  source_end : (e : EndTree) → ((p : ℕ) → IsEndNobody g.elements e p → ⊥) → IsThere (source_leaves leaves (text_at g) e)
  source_end tree.Border none = h.input
  source_end (tree.Activity name) none = output_named name.name (number_there name none)

  target_end : (e : EndTree) → ((p : ℕ) → IsEndNobody g.elements e p → ⊥) → IsThere (target_leaves leaves (text_at g) e)
  target_end tree.Border none = h.output
  target_end (tree.Activity name) none = input_named name.name (number_there name none)

  -- what a line reads, and what it writes
  pub source_there : (e : EndsTree) → AreEndsKnown g.elements e → IsThere (line_source leaves (text_at g) e)
  source_there (ends.Line from to) known = source_end from (λ p nobody. known p (inl nobody))
  source_there (ends.Loop name) known = output_named name.name (number_there name known)

  pub target_there : (e : EndsTree) → AreEndsKnown g.elements e → IsThere (line_target leaves (text_at g) e)
  target_there (ends.Line from to) known = target_end to (λ p nobody. known p (inr nobody))
  target_there (ends.Loop name) known = input_named name.name (number_there name known)

-- what the rules say of a graph that breaks none of them, by these leaves and these callees: it has its names, its
-- conditions and maps read leaves that are there and compare like with like, its numbers are in range, and the
-- performers and processes that it names are there
pub record IsUnbrokenBy (leaves : Leafing) (calls : Calls) (g : GraphAt) : Type 0 where
  pub names : HasNames leaves g
  pub known : (p : ℕ) → ReadsUnknownLeaf leaves g p → ⊥
  pub alike : (p : ℕ) → MixesKinds leaves g p → ⊥
  pub sized : (p : ℕ) → IsNumberWrong g p → ⊥
  pub performed : (p : ℕ) → NamesNoPerformer g p → ⊥
  pub runs : (p : ℕ) → NamesNone calls g p → ⊥

module _ (leaves : Leafing) (calls : Calls) (g : GraphAt) (h : IsUnbrokenBy leaves calls g) where
  -- a number in WHEN
  abbrev IsUnsizedWhen : ControlTree → ℕ → Type 0
  IsUnsizedWhen c = OfSaid IsUnsized (said.when_said c.when)

  control_found : (c : ControlTree) → Contains (controls_in g.elements) c → IsControlFound leaves g.elements c
  control_found c has =
      let cs = controls_in g.elements in
      let from = source_number leaves g h.names c has in
      let to = target_number leaves g h.names c has in
      let read = output_leaves leaves g.elements c.from.name in
      let clear : IsClearIn read (uses.when_said c.when) = record {
        unknown = λ p e.
            h.known p (inl (inr (contained (IsInTransition unknown_leaf leaves g.elements) cs c p has e)));
        mixed = λ p e. h.alike p (inl (inr (contained (IsInTransition mismatch leaves g.elements) cs c p has e)));
        unsized = λ p e. h.sized p (inr (inr (contained IsUnsizedWhen cs c p has (when_same c.when p e))));
      } in
      record {
        from = some_there (number_in g.elements c.from.name) from;
        to = some_there (number_in g.elements c.to.name) to;
        when = when_found read (tested_leaves leaves g h.names c has) c.when clear;
      }

  -- ---- lines

  ends_found : (e : EndsTree) → AreEndsKnown g.elements e → AreEndsFound g.elements e
  ends_found (ends.Line from to) known = (
    some_there (end_in g.elements from) (end_there leaves g h.names from (λ p nobody. known p (inl nobody))),
    some_there (end_in g.elements to) (end_there leaves g h.names to (λ p nobody. known p (inr nobody))),
  )
  ends_found (ends.Loop name) known =
      some_there (number_in g.elements name.name) (round_number leaves g h.names name known)

  line_found : (l : DataTree) → Contains (lines_in g.elements) l → IsLineFound leaves (text_at g) l
  line_found l has =
      let known = ends_known leaves g h.names l has in
      record {
        between = ends_found l.ends known;
        maps = maps_found (line_source leaves (text_at g) l.ends) (line_target leaves (text_at g) l.ends)
            (source_there leaves g h.names l.ends known) (target_there leaves g h.names l.ends known) l.maps
            (λ p e. h.known p (inr (contained (IsInLine IsNoLeafIn leaves (text_at g)) (lines_in g.elements) l p has e)));
      }

  -- ---- activities

  -- a number in EXIT
  abbrev IsUnsizedExit : ActivityTree → ℕ → Type 0
  IsUnsizedExit a = AnyAt (λ x. OfSaid IsUnsized (exit_said x.what)) a.attrs

  module _ (among : Callee → ℕ) where
    -- the reading by these leaves and callees
    abbrev pub reading : Reading
    reading = record { leaves = leaves; place = λ number name. option_map among (calls number name) }

    placed : (o : Option Callee) → (o ≡ None → ⊥) → IsSome (option_map among o)
    placed None full = absurd (full refl)
    placed (Some callee) full = refl

    activity_found : (a : ActivityTree) → Contains (activities_in g.elements) a → IsActivityFound reading (text_at g) a
    activity_found a has =
        let acts = activities_in g.elements in
        let known = with_code (leaves a.output.name) in
        let runs = λ (b : ActivityTree). IsNoProcess calls g.process (process_named b.work) in
        let asks = λ (x : AttrAt). IsNoPerformer g.elements has.0 x.what in
        record {
          input = some_there (leaves a.input.name) (h.names.containers a has).0;
          output = some_there (leaves a.output.name) (h.names.containers a has).1;
          exit = exit_found known (output_of leaves g h.names a has) a.attrs
              (λ p e. h.known p (inl (inl (contained (IsInExit unknown_leaf leaves) acts a p has e))))
              (λ p e. h.alike p (inl (inl (contained (IsInExit mismatch leaves) acts a p has e))))
              (λ p e. h.sized p (inr (inl (contained IsUnsizedExit acts a p has e))));
          doers = all_of (λ (x : AttrAt). IsDoerFound g.elements x.what) a.attrs
              (λ x inside. doer_found g.elements has.0 x.what (λ p e. h.performed p (
                has.0,
                a,
                slice_get-get_or acts has.0 a has.1 ∙ ap Some has.2,
                contained asks a.attrs x p inside e,
              )));
          callee = λ name is.
              let named : process_named a.work ≡ Some name = ap process_named is ∙ ap named_by (outs-Process name) in
              placed (calls g.process name.name) (λ none. h.runs name.place (contained runs acts a name.place has
              (subst (λ (o : Option NameAt). IsNoProcess calls g.process o name.place) (sym named) (none, refl))));
        }

    pub graph_found : IsGraphFound reading (text_at g)
    graph_found = record {
      input = some_there (leaves g.input.name) h.names.input;
      output = some_there (leaves g.output.name) h.names.output;
      activities = all_of (IsActivityFound reading (text_at g)) (activities_in g.elements) activity_found;
      controls = all_of (IsControlFound leaves g.elements) (controls_in g.elements) control_found;
      lines = all_of (IsLineFound leaves (text_at g)) (lines_in g.elements) line_found;
    }

-- ---- a text

module _ (items : List ItemTree) (leaves : Leafing) (calls : Calls) (none : IsFirstBroken (rules_on_uses items) None)
    (counts : IsFirstBroken (rules_on_counts items) None) (same : AreLeavesOf items leaves)
    (performed : (p : ℕ) → InGraphs items NamesNoPerformer p → ⊥)
    (called : (p : ℕ) → InGraphs items (NamesNone calls) p → ⊥) where
  -- a graph of a text breaks none of the rules where the text breaks none
  unbroken : (g : GraphAt) → IsGraphOf items g → IsUnbrokenBy leaves calls g
  unbroken g of =
      let rules = rules_on_uses items in
      let wanted = leaves_in (structures_in items) in
      let has = same g of in
      let names = names_there (structures_in items) g (λ p broken. none_breaks rules none 2 p (inr (g, of, broken)))
      (λ p broken. none_breaks rules none 3 p (g, of, broken)) in
      record {
        names = names_same wanted leaves g has names;
        known = λ p broken.
            none_breaks rules none 7 p (g, of, uses_to wanted leaves g has unknown_leaf IsNoLeafIn p broken);
        alike = λ p broken.
            none_breaks rules none 8 p (g, of, uses_to wanted leaves g has mismatch IsMixed p broken);
        sized = λ p broken. none_breaks (rules_on_counts items) counts 0 p (inr (g, of, broken));
        performed = λ p broken. performed p (g, of, broken);
        runs = λ p broken. called p (g, of, broken);
      }

  pub text_found : (among : Callee → ℕ)
      → AreGraphsFound (record { leaves = leaves; place = λ number name. option_map among (calls number name) }) items
  text_found among g of = graph_found leaves calls g (unbroken g of) among

-- ---- the graphs of a process and of a block

-- what is there for a graph is there for its text, as a scope has it
pub here_found : (r : Reading) (g : GraphAt) (scope : GraphText) → scope.process ≡ g.process
    → scope.input ≡ g.input.name → scope.output ≡ g.output.name → scope.elements ≡ g.elements → AreFound r g
    → IsGraphFound r scope
here_found r g scope process input output elements h =
    subst (IsGraphFound r) (sym (text_same scope (text_at g) process input output elements)) h.here

module _ (r : Reading) where
  pub process_found : (items : List ItemTree) (number : ℕ) (p : ProcessTree) → AreGraphsFound r items
      → slice_get (processes_in items) number ≡ Some p → AreFound r (process_at number p)
  process_found items number p all is = record {
    here = all (process_at number p) (number, p, is, inl refl);
    inside = all_of (AreFoundInside r number) (activities_in p.elements)
        (λ a has g inside. all g (number, p, is, inr (a, has, inside)));
  }

  block_whole : (number : ℕ) (a : ActivityTree) (inner : List ElementTree) → IsBlockOf a inner
      → AreFoundInside r number a → AreFound r (block_at number a inner)
  block_whole number a inner is all = record {
    here = all (block_at number a inner) (Itself inner is refl);
    inside = all_of (AreFoundInside r number) (activities_in inner)
        (λ b has g inside. all g (Deeper inner b is has inside));
  }

  -- as it is given
  pub block_found : (number : ℕ) (a : ActivityTree) (inner given : List ElementTree) → IsBlockOf a inner → given ≡ inner
      → AreFoundInside r number a → AreFound r (block_at number a given)
  block_found number a inner given is same all =
      subst (λ (es : List ElementTree). AreFound r (block_at number a es)) (sym same) (block_whole number a inner is all)

-- what comes of an element of a list stands behind what comes of those before it
pub kept_at : {X Y : Type 0} (h : X → Option Y) (xs : List X) (i : ℕ) (x : X) (y : Y) → i < length xs
    → x ≡ get_or xs i x → h x ≡ Some y
    → slice_get (filter_map h xs) (length (filter_map h (take i xs))) ≡ Some y
kept_at h [] i x y less is some = absurd (omega (arith, less))
kept_at h (z ∷ xs) zero x y less is some =
    ap (λ o. slice_get (cons_option o (filter_map h xs)) 0) (sym (ap h is) ∙ some)
kept_at {X} {Y} h (z ∷ xs) (suc i) x y less is some = go (h z) (kept_at h xs i x y (omega (arith, less)) is some)
  where
    go : (o : Option Y) → slice_get (filter_map h xs) (length (filter_map h (take i xs))) ≡ Some y
        → slice_get (cons_option o (filter_map h xs)) (length (cons_option o (filter_map h (take i xs)))) ≡ Some y
    go None found = found
    go (Some v) found = found

-- so the process of a number stands behind as many templates
pub process_listed : (items : List ItemTree) (i : ℕ) (x : ItemTree) (p : ProcessTree) (ts : List Template) (number : ℕ)
    → i < length items → x ≡ get_or items i x → process_of x ≡ Some p
    → template_names ts ≡ process_names (take i items) → number ≡ length ts
    → slice_get (processes_in items) number ≡ Some p
process_listed items i x p ts number less is some named same =
    let long = sym (length-map ts (λ (t : Template). t.name)) ∙ ap length named
    ∙ length-map (processes_in (take i items)) (λ (q : ProcessTree). q.name.name) in
    subst (λ (n : ℕ). slice_get (processes_in items) n ≡ Some p) (sym (same ∙ long))
    (kept_at process_of items i x p less is some)
