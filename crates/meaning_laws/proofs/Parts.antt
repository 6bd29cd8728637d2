-- The parts of a graph that its text asks for: conditions, connectors, maps and lines.
use Rattle.std.proofs.Common.{◌≡◌, ℕ, suc, Option, Some, None, List, [], ◌∷◌, inl, inr, refl, arith}
use Rattle.std.specs.List.{All, Contains}
use Rattle.std.specs.Option.{option_or}
use Rattle.std.proofs.lemmas.Option.{none-some}
use Rattle.conditions.specs.Faults.{mismatch, unknown_leaf}
use Rattle.connector_rules.proofs.Nowhere.{contained}
use Rattle.containers.specs.Named.{leaf_place}
use Rattle.flow_model.specs.declared.graphs.Control.{Control}
use Rattle.flow_model.specs.declared.graphs.DataLine.{DataLine}
use Rattle.flow_model.specs.declared.graphs.Expr.{Expr}
use Rattle.flow_model.specs.declared.graphs.Leaf.{Leaf}
use Rattle.flow_model.specs.declared.graphs.LeafMap.{LeafMap}
use Rattle.flow_model.specs.declared.graphs.Library.{Library}
use Rattle.flow_model.specs.declared.graphs.LoopLine.{LoopLine}
use Rattle.flow_model.specs.declared.graphs.When.{When}
use Rattle.flow_model.specs.declared.graphs.When.TheVariants as when
use Rattle.flow_model.specs.declared.trees.ActivityTree.{ActivityTree}
use Rattle.flow_model.specs.declared.trees.AttrAt.{AttrAt}
use Rattle.flow_model.specs.declared.trees.CondAt.{CondAt}
use Rattle.flow_model.specs.declared.trees.ControlTree.{ControlTree}
use Rattle.flow_model.specs.declared.trees.DataTree.{DataTree}
use Rattle.flow_model.specs.declared.trees.EndsTree.{EndsTree}
use Rattle.flow_model.specs.declared.trees.EndsTree.TheVariants as ends
use Rattle.flow_model.specs.declared.trees.ItemTree.{ItemTree}
use Rattle.flow_model.specs.declared.trees.LeafAt.{LeafAt}
use Rattle.flow_model.specs.declared.trees.MapTree.{MapTree}
use Rattle.flow_model.specs.declared.trees.WhenTree.{WhenTree}
use Rattle.flow_model.specs.declared.trees.WhenTree.TheVariants as written
use Rattle.leaf_rules.specs.LeafUses.{text_at, IsInCond, IsInExit, IsInLine, IsInMaps, IsInTransition, IsNoLeaf}
use Rattle.leaf_rules.specs.LeafUses.{IsNoLeafIn}
use Rattle.leaf_rules.specs.LeafUses as uses
use Rattle.leaf_rules.specs.Leaves.{Leafing, with_code, output_leaves, line_source, line_target}
use Rattle.leaf_rules.specs.StructureLeaves.{leaves_in}
use Rattle.process_rules.specs.Numbers.{IsUnsized}
use Rattle.process_rules.specs.Said.{OfSaid}
use Rattle.process_rules.specs.Said as said
use Rattle.template_check.proofs.Found.{IsThere, IsClearIn, clear_in, when_same, HasNames, names_there, output_of}
use Rattle.template_check.proofs.Found.{source_number, target_number, tested_leaves, AreEndsKnown, ends_known}
use Rattle.template_check.proofs.Found.{end_there, round_number, source_there, target_there}
use Rattle.template_check.specs.Meant.{AreParts, NoneLeft, NoPart, OnePart, IsOne, IsExit, IsWhen, IsControl, IsMap}
use Rattle.template_check.specs.Meant.{AreMaps}
use Rattle.template_check.specs.Meant.{IsDataBy, IsDataLine, IsLoopBy, IsLoopLine}
use Rattle.text_graphs.specs.Attributes.{exit_said, first_said}
use Rattle.text_graphs.specs.Graphs.{GraphAt}
use Rattle.text_graphs.specs.Places.{AnyAt}
use Rattle.text_graphs.specs.Texts.{activities_in, controls_in, lines_in, structures_in}
use Rattle.meaning_laws.proofs.Conditions.{clear_resolved}
use Rattle.meaning_laws.proofs.Rules.{IsUnbroken}

-- ---- lists

-- what each element gives makes a list
pub parts_there : {X Y : Type 0} (R : X → Option Y → Type 0) (xs : List X) → All (λ x. (o : Option Y) × R x o) xs
    → (ys : List Y) × AreParts R xs ys
parts_there R [] all = ([], NoneLeft)
parts_there {X} {Y} R (x ∷ xs) all =
    go (all 0 x (omega arith)) (parts_there R xs (λ k d less. all (suc k) d (omega (arith, less))))
  where
    go : (o : Option Y) × R x o → (ys : List Y) × AreParts R xs ys → (ys : List Y) × AreParts R (x ∷ xs) ys
    go (None, here) rest = (rest.0, NoPart here rest.1)
    go (Some y, here) rest = (y ∷ rest.0, OnePart here rest.1)

pub ones_there : {X Y : Type 0} (R : X → Y → Type 0) (xs : List X) → All (λ x. (y : Y) × R x y) xs
    → (ys : List Y) × AreParts (IsOne R) xs ys
ones_there R xs all = parts_there (IsOne R) xs (λ k d less. let y = all k d less in (Some y.0, y.1))

-- ---- conditions

-- a transition condition
when_by : (known : Option (List Leaf)) → IsThere known → (w : WhenTree) → IsClearIn known (uses.when_said w)
    → (made : When) × IsWhen known w made
when_by known leaves written.Always h = (when.Always, refl)
when_by None leaves (written.Cond c) h = absurd (none-some leaves.0 leaves.1)
when_by (Some found) leaves (written.Cond c) h =
    let made = clear_resolved found c.cond (clear_in found c h) in
    (when.Cond made.0, made.1)
when_by known leaves written.Otherwise h = (when.Otherwise, refl)

-- the first EXIT that is said, where no rule finds a place in one
exit_by : (known : Option (List Leaf)) → IsThere known → (attrs : List AttrAt)
    → ((p : ℕ) → AnyAt (λ x. IsInCond unknown_leaf known (exit_said x.what)) attrs p → ⊥)
    → ((p : ℕ) → AnyAt (λ x. IsInCond mismatch known (exit_said x.what)) attrs p → ⊥)
    → ((p : ℕ) → AnyAt (λ x. OfSaid IsUnsized (exit_said x.what)) attrs p → ⊥)
    → (made : Option Expr) × IsExit known (first_said exit_said attrs) made
exit_by known leaves [] unknown mixed unsized = (None, tt)
exit_by known leaves (x ∷ attrs) unknown mixed unsized =
    let here : IsClearIn known (exit_said x.what) = record {
      unknown = λ p h. unknown p (inl h);
      mixed = λ p h. mixed p (inl h);
      unsized = λ p h. unsized p (inl h);
    } in
    let later = exit_by known leaves attrs (λ p h. unknown p (inr h)) (λ p h. mixed p (inr h))
    (λ p h. unsized p (inr h)) in
    go known leaves (exit_said x.what) here (first_said exit_said attrs) later
  where
    go : (known : Option (List Leaf)) → IsThere known → (found : Option CondAt) → IsClearIn known found
        → (later : Option CondAt) → (made : Option Expr) × IsExit known later made
        → (made : Option Expr) × IsExit known (option_or found later) made
    go known leaves None h later rest = rest
    go None leaves (Some c) h later rest = absurd (none-some leaves.0 leaves.1)
    go (Some found) leaves (Some c) h later rest =
        let made = clear_resolved found c.cond (clear_in found c h) in
        (Some made.0, made.1)

-- ---- maps

-- a leaf that is named is there
leaf_there : (leaves : List Leaf) (leaf : LeafAt) → ((p : ℕ) → IsNoLeaf leaves leaf p → ⊥)
    → IsThere (leaf_place leaves leaf.steps)
leaf_there leaves leaf none = go (leaf_place leaves leaf.steps) (λ e. none leaf.place (e, refl))
  where
    go : (o : Option ℕ) → (o ≡ None → ⊥) → IsThere o
    go None full = absurd (full refl)
    go (Some k) full = (k, refl)

-- the maps of a line, where the leaves on both sides are known
maps_by : (from to : Option (List Leaf)) → IsThere from → IsThere to → (maps : List MapTree)
    → ((p : ℕ) → IsInMaps IsNoLeafIn from to maps p → ⊥) → (made : List LeafMap) × AreMaps from to maps made
maps_by None to source target maps none = absurd (none-some source.0 source.1)
maps_by (Some from) None source target maps none = absurd (none-some target.0 target.1)
maps_by (Some from) (Some to) source target maps none = go maps none
  where
    go : (maps : List MapTree) → ((p : ℕ) → AnyAt (IsNoLeafIn from to) maps p → ⊥)
        → (made : List LeafMap) × AreParts (IsOne (IsMap from to)) maps made
    go [] none = ([], NoneLeft)
    go (m ∷ maps) none =
        let reads = leaf_there from m.from (λ p e. none p (inl (inl e))) in
        let writes = leaf_there to m.to (λ p e. none p (inl (inr e))) in
        let rest = go maps (λ p e. none p (inr e)) in
        let first : LeafMap = record { from = reads.0; to = writes.0 } in
        (first ∷ rest.0, OnePart (record { reads = reads.1; writes = writes.1 }) rest.1)

-- ---- a graph

module _ (library : Library) (items : List ItemTree) (g : GraphAt) (h : IsUnbroken library items g) where
  abbrev leaves : Leafing
  leaves = leaves_in (structures_in items)

  -- its containers have leaves, and its lines name activities of it
  pub names : HasNames leaves g
  names = names_there (structures_in items) g h.structured h.named

  -- ---- activities

  -- the output of an activity, with the return code
  abbrev own_output : ActivityTree → Option (List Leaf)
  own_output a = with_code (leaves a.output.name)

  -- a number in EXIT
  abbrev IsUnsizedExit : ActivityTree → ℕ → Type 0
  IsUnsizedExit a = AnyAt (λ x. OfSaid IsUnsized (exit_said x.what)) a.attrs

  -- the exit condition of an activity
  pub exit_there : (a : ActivityTree) → Contains (activities_in g.elements) a
      → (made : Option Expr) × IsExit (own_output a) (first_said exit_said a.attrs) made
  exit_there a has =
      let acts = activities_in g.elements in
      exit_by (own_output a) (output_of leaves g names a has) a.attrs
      (λ p e. h.known p (inl (inl (contained (IsInExit unknown_leaf leaves) acts a p has e))))
      (λ p e. h.alike p (inl (inl (contained (IsInExit mismatch leaves) acts a p has e))))
      (λ p e. h.sized p (inr (inl (contained IsUnsizedExit acts a p has e))))

  -- ---- connectors

  -- a number in WHEN
  abbrev IsUnsizedWhen : ControlTree → ℕ → Type 0
  IsUnsizedWhen c = OfSaid IsUnsized (said.when_said c.when)

  -- a connector
  pub control_there : (c : ControlTree) → Contains (controls_in g.elements) c
      → (made : Control) × IsControl leaves g.elements c made
  control_there c has =
      let cs = controls_in g.elements in
      let from = source_number leaves g names c has in
      let to = target_number leaves g names c has in
      let read = output_leaves leaves g.elements c.from.name in
      let clear : IsClearIn read (uses.when_said c.when) = record {
        unknown = λ p e.
            h.known p (inl (inr (contained (IsInTransition unknown_leaf leaves g.elements) cs c p has e)));
        mixed = λ p e. h.alike p (inl (inr (contained (IsInTransition mismatch leaves g.elements) cs c p has e)));
        unsized = λ p e. h.sized p (inr (inr (contained IsUnsizedWhen cs c p has (when_same c.when p e))));
      } in
      let condition = when_by read (tested_leaves leaves g names c has) c.when clear in (
        record { from = from.0; to = to.0; when = condition.0 },
        record { from = from.1; to = to.1; when = condition.1 },
      )

  -- ---- lines

  -- the maps of a line are there
  abbrev HasMaps : DataTree → Type 0
  HasMaps l = (made : List LeafMap)
      × AreMaps (line_source leaves (text_at g) l.ends) (line_target leaves (text_at g) l.ends) l.maps made

  maps_there : (l : DataTree) → Contains (lines_in g.elements) l → HasMaps l
  maps_there l has =
      let known = ends_known leaves g names l has in
      maps_by (line_source leaves (text_at g) l.ends) (line_target leaves (text_at g) l.ends)
      (source_there leaves g names l.ends known) (target_there leaves g names l.ends known) l.maps
      (λ p e. h.known p (inr (contained (IsInLine IsNoLeafIn leaves (text_at g)) (lines_in g.elements) l p has e)))

  -- what a line gives to the data lines
  pub data_there : (l : DataTree) → Contains (lines_in g.elements) l
      → (o : Option DataLine) × IsDataLine leaves (text_at g) l o
  data_there l has = go l.ends (ends_known leaves g names l has) (maps_there l has)
    where
      go : (e : EndsTree) → AreEndsKnown g.elements e → HasMaps l
          → (o : Option DataLine) × IsDataBy leaves (text_at g) l e o
      go (ends.Line from to) known maps =
          let begins = end_there leaves g names from (λ p nobody. known p (inl nobody)) in
          let leads = end_there leaves g names to (λ p nobody. known p (inr nobody)) in (
            Some (record { from = begins.0; to = leads.0; maps = maps.0 }),
            record { begins = begins.1; leads = leads.1; maps = maps.1 },
          )
      go (ends.Loop name) known maps = (None, refl)

  -- and to the LOOP lines
  pub loop_there : (l : DataTree) → Contains (lines_in g.elements) l
      → (o : Option LoopLine) × IsLoopLine leaves (text_at g) l o
  loop_there l has = go l.ends (ends_known leaves g names l has) (maps_there l has)
    where
      go : (e : EndsTree) → AreEndsKnown g.elements e → HasMaps l
          → (o : Option LoopLine) × IsLoopBy leaves (text_at g) l e o
      go (ends.Line from to) known maps = (None, refl)
      go (ends.Loop name) known maps =
          let of = round_number leaves g names name known in
          (Some (record { activity = of.0; maps = maps.0 }), record { of = of.1; maps = maps.1 })
