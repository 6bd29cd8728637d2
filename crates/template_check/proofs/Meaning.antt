-- What is built of a list, element by element, is what its elements give.
use Rattle.std.proofs.Common.{◌≡◌, ℕ, ◌+◌, ◌<◌, ◌≤◌, List, [], ◌∷◌, ◌++◌, length, get_or, take, map, Option, Some, None, Bor, sym, ap, subst, ◌∙◌, append-nil, zero, suc, arith}
use Rattle.std.specs.List.{filter_map, cons_option}
use Rattle.std.proofs.Math.ListN.{get_or-map}
use Rattle.std.proofs.lemmas.List.{take_more, take_all, length-map}
use Rattle.flow_model.specs.declared.graphs.Activity.{Activity}
use Rattle.flow_model.specs.declared.graphs.Control.{Control}
use Rattle.flow_model.specs.declared.graphs.DataLine.{DataLine}
use Rattle.flow_model.specs.declared.graphs.Graph.{Graph, out-Graph, roll-Graph, out-roll-Graph}
use Rattle.flow_model.specs.declared.graphs.Leaves.{Leaves}
use Rattle.flow_model.specs.declared.graphs.LoopLine.{LoopLine}
use Rattle.flow_model.specs.declared.graphs.Template.{Template}
use Rattle.flow_model.specs.declared.graphs.Wiring.{Wiring}
use Rattle.flow_model.specs.declared.graphs.Work.{Block}
use Rattle.flow_model.specs.declared.trees.ActivityTree.{ActivityTree}
use Rattle.flow_model.specs.declared.trees.ElementTree.{ElementTree}
use Rattle.flow_model.specs.declared.trees.WorkTree.TheVariants as work
use Rattle.flow_model.specs.declared.trees.ProcessTree.{ProcessTree}
use Rattle.text_graphs.specs.GraphTexts.{GraphText, process_text, block_text}
use Rattle.text_graphs.specs.Texts.{activities_in, controls_in, lines_in}
use Rattle.template_check.specs.Meant.{Reading, IsMeant, IsMeantWith, MeantTo, AreMeantFrom, AreParts, NoneLeft, NoPart, OnePart, IsOne, IsControl, IsDataLine, IsLoopLine, IsActivity, IsWork, BlockOf}
use Rattle.template_check.specs.Wires.{AreWired}
use Rattle.text_graphs.proofs.Sorting.{one_more}

module _ {X Y : Type 0} (R : X → Option Y → Type 0) where
  -- one more element, which gives nothing
  pub parts_none : {xs : List X} {ys : List Y} {x : X} → AreParts R xs ys → R x None → AreParts R (xs ++ x ∷ []) ys
  parts_none NoneLeft here = NoPart here NoneLeft
  parts_none (NoPart h rest) here = NoPart h (parts_none rest here)
  parts_none (OnePart h rest) here = OnePart h (parts_none rest here)

  -- one more element, which gives one
  pub parts_one : {xs : List X} {ys : List Y} {x : X} {y : Y} → AreParts R xs ys → R x (Some y) → AreParts R (xs ++ x ∷ []) (ys ++ y ∷ [])
  parts_one NoneLeft here = OnePart here NoneLeft
  parts_one (NoPart h rest) here = NoPart h (parts_one rest here)
  parts_one (OnePart h rest) here = OnePart h (parts_one rest here)

  -- as a loop goes on over a list
  pub parts_past : (xs after : List X) (x : X) (ys : List Y) → after ≡ xs ++ x ∷ [] → R x None → AreParts R xs ys → AreParts R after ys
  parts_past xs after x ys more here parts = subst (λ (zs : List X). AreParts R zs ys) (sym more) (parts_none parts here)

  pub parts_next : (xs after : List X) (x : X) (ys next : List Y) (y : Y) → after ≡ xs ++ x ∷ [] → next ≡ ys ++ y ∷ [] → R x (Some y) → AreParts R xs ys → AreParts R after next
  parts_next xs after x ys next y more now here parts =
      subst (λ (zs : List X). AreParts R zs next) (sym more) (subst (λ (ws : List Y). AreParts R (xs ++ x ∷ []) ws) (sym now) (parts_one parts here))

  pub parts_all : (xs whole : List X) (ys : List Y) → xs ≡ whole → AreParts R xs ys → AreParts R whole ys
  parts_all xs whole ys same parts = subst (λ (zs : List X). AreParts R zs ys) same parts

-- what was read of a list, with one more element
pub read_more : {X : Type 0} (items : List X) (i : ℕ) (x : X) → i < length items → x ≡ get_or items i x → take (i + 1) items ≡ take i items ++ x ∷ []
read_more items i x less is = take_more items i x less ∙ ap (λ (y : _). take i items ++ y ∷ []) (sym is)

-- and of elements behind references
pub seen_more : {X : Type 0} (items : List (Bor X)) (i : ℕ) (x : Bor X) → i < length items → x ≡ get_or items i x
    → take (i + 1) (map (λ y. y.now) items) ≡ take i (map (λ y. y.now) items) ++ x.now ∷ []
seen_more {X} items i x less is =
    read_more (map (λ y. y.now) items) i x.now (rw length-map less) (ap (λ (y : Bor X). y.now) is ∙ sym (get_or-map (λ (y : Bor X). y.now) items i x))

pub seen_all : {X : Type 0} (items : List (Bor X)) (i : ℕ) (xs : List X) → length items ≤ i → map (λ y. y.now) items ≡ xs → take i (map (λ y. y.now) items) ≡ xs
seen_all items i xs past same = take_all i (map (λ y. y.now) items) (rw length-map past) ∙ same

-- of those of a kind, where the element is one or is none
pub kind_next : {X Y : Type 0} (h : X → Option Y) (items : List X) (i : ℕ) (x : X) (y : Y) → i < length items → x ≡ get_or items i x → h x ≡ Some y
    → filter_map h (take (i + 1) items) ≡ filter_map h (take i items) ++ y ∷ []
kind_next {X} {Y} h items i x y less is some = one_more h items i x less is ∙ ap (λ (o : Option Y). filter_map h (take i items) ++ cons_option o []) some

pub kind_past : {X Y : Type 0} (h : X → Option Y) (items : List X) (i : ℕ) (x : X) → i < length items → x ≡ get_or items i x → h x ≡ None
    → filter_map h (take (i + 1) items) ≡ filter_map h (take i items)
kind_past {X} {Y} h items i x less is none =
    one_more h items i x less is ∙ ap (λ (o : Option Y). filter_map h (take i items) ++ cons_option o []) none ∙ append-nil (filter_map h (take i items))

-- one more template, meant by one more process
meant_push : (r : Reading) (k : ℕ) (ps : List ProcessTree) (ts : List Template) (p : ProcessTree) (t : Template) → AreMeantFrom r k ps ts → IsMeant r (process_text (k + length ts) p) t.graph
    → AreMeantFrom r k (ps ++ p ∷ []) (ts ++ t ∷ [])
meant_push r k [] [] p t so_far here = let same : k + 0 ≡ k = omega arith in (subst (λ (n : ℕ). IsMeant r (process_text n p) t.graph) same here, tt)
meant_push r k [] (u ∷ ts) p t so_far here = absurd so_far
meant_push r k (q ∷ ps) [] p t so_far here = absurd so_far
meant_push r k (q ∷ ps) (u ∷ ts) p t so_far here =
    let same : k + suc (length ts) ≡ k + 1 + length ts = omega arith in
    (so_far.0, meant_push r (k + 1) ps ts p t so_far.1 (subst (λ (n : ℕ). IsMeant r (process_text n p) t.graph) same here))

pub meant_next : (r : Reading) (ps : List ProcessTree) (ts next : List Template) (p : ProcessTree) (t : Template) (number : ℕ) → number ≡ length ts → next ≡ ts ++ t ∷ []
    → AreMeantFrom r 0 ps ts → IsMeant r (process_text number p) t.graph → AreMeantFrom r 0 (ps ++ p ∷ []) next
meant_next r ps ts next p t number is now so_far here =
    let same : number ≡ 0 + length ts = omega (arith, is) in
    subst (λ (us : List Template). AreMeantFrom r 0 (ps ++ p ∷ []) us) (sym now) (meant_push r 0 ps ts p t so_far (subst (λ (n : ℕ). IsMeant r (process_text n p) t.graph) same here))

-- a graph is meant where it is to every depth
meant_each : (r : Reading) (g : GraphText) (made : Graph) → ((depth : ℕ) → IsMeantWith (MeantTo r depth) r g made) → IsMeant r g made
meant_each r g made h zero = tt
meant_each r g made h (suc depth) = h depth

-- texts that are the same in all parts
pub text_same : (a b : GraphText) → a.process ≡ b.process → a.input ≡ b.input → a.output ≡ b.output → a.elements ≡ b.elements → a ≡ b
text_same a b p i o e =
    let by : ℕ → List ℕ → List ℕ → List ElementTree → GraphText = λ process input output elements. record { process = process; input = input; output = output; elements = elements } in
    ap (λ (x : ℕ). by x a.input a.output a.elements) p
    ∙ ap (λ (x : List ℕ). by b.process x a.output a.elements) i
    ∙ ap (λ (x : List ℕ). by b.process b.input x a.elements) o
    ∙ ap (λ (x : List ElementTree). by b.process b.input b.output x) e

-- the graph that is built of its parts
module _ (input output : Leaves) (activities : List Activity) (controls : List Control) (lines : List DataLine) (loops : List LoopLine) (wiring : Wiring) where
  abbrev made : Graph
  made = roll-Graph (record { input = input; output = output; activities = activities; controls = controls; lines = lines; loops = loops; wiring = wiring })

  pub graph_meant : (r : Reading) (g text : GraphText) → g ≡ text → r.leaves g.input ≡ Some input.leaves → r.leaves g.output ≡ Some output.leaves
      → ((depth : ℕ) → AreParts (IsOne (IsActivity (MeantTo r depth) r g)) (activities_in g.elements) activities)
      → AreParts (IsOne (IsControl r.leaves g.elements)) (controls_in g.elements) controls
      → AreParts (IsDataLine r.leaves g) (lines_in g.elements) lines
      → AreParts (IsLoopLine r.leaves g) (lines_in g.elements) loops
      → AreWired (length activities) controls lines loops wiring
      → IsMeant r text made
  graph_meant r g text same reads writes acts connects draws rounds wires =
      let parts = out-roll-Graph (record { input = input; output = output; activities = activities; controls = controls; lines = lines; loops = loops; wiring = wiring }) in
      let input_is : r.leaves g.input ≡ Some (out-Graph made).input.leaves = rw parts reads in
      let output_is : r.leaves g.output ≡ Some (out-Graph made).output.leaves = rw parts writes in
      let controls_are : AreParts (IsOne (IsControl r.leaves g.elements)) (controls_in g.elements) (out-Graph made).controls = rw parts connects in
      let lines_are : AreParts (IsDataLine r.leaves g) (lines_in g.elements) (out-Graph made).lines = rw parts draws in
      let loops_are : AreParts (IsLoopLine r.leaves g) (lines_in g.elements) (out-Graph made).loops = rw parts rounds in
      let wiring_is : AreWired (length (out-Graph made).activities) (out-Graph made).controls (out-Graph made).lines (out-Graph made).loops (out-Graph made).wiring = rw parts wires in
      let activities_are : (depth : ℕ) → AreParts (IsOne (IsActivity (MeantTo r depth) r g)) (activities_in g.elements) (out-Graph made).activities = rw parts acts in
      subst (λ (t : GraphText). IsMeant r t made) same
      (meant_each r g made (λ depth. record { input = input_is; output = output_is; activities = activities_are depth; controls = controls_are; lines = lines_are; loops = loops_are; wired = wiring_is }))

-- what a block does is its graph
pub block_meant : (r : Reading) (g : GraphText) (a : ActivityTree) (inner given : List ElementTree) (graph : Graph) → a.work ≡ work.Block inner → given ≡ inner
    → IsMeant r (block_text g.process a given) graph → (depth : ℕ) → IsWork (MeantTo r depth) r g a (Block graph)
block_meant r g a inner given graph is same meant depth =
    BlockOf inner is (subst (λ (es : List ElementTree). MeantTo r depth (block_text g.process a es) graph) same (meant depth))
