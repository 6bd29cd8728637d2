-- A text of a graph means one graph.
use Rattle.std.proofs.Common.{◌≡◌, ℕ, zero, suc, ◌<◌, Some, List, length, get_or, sym, ap, ◌∙◌, subst, arith}
use Rattle.std.specs.Prelude.{slice_get}
use Rattle.std.proofs.lemmas.List.Elements.{Contains-get_or}
use Rattle.flow_model.specs.LeafLists.{LeafList}
use Rattle.flow_model.specs.declared.graphs.Activity.{Activity}
use Rattle.flow_model.specs.declared.graphs.Control.{Control}
use Rattle.flow_model.specs.declared.graphs.DataLine.{DataLine}
use Rattle.flow_model.specs.declared.graphs.Graph.{Graph, out-Graph, roll-Graph, roll-out-Graph}
use Rattle.flow_model.specs.declared.graphs.LoopLine.{LoopLine}
use Rattle.flow_model.specs.declared.graphs.Work.{Work, Program, Block, Process}
use Rattle.flow_model.specs.declared.trees.ActivityTree.{ActivityTree}
use Rattle.flow_model.specs.declared.trees.ElementTree.{ElementTree}
use Rattle.flow_model.specs.declared.trees.ElementTree.TheOpen.{WorkTree-F}
use Rattle.flow_model.specs.declared.trees.ItemTree.{ItemTree}
use Rattle.flow_model.specs.declared.trees.NameAt.{NameAt}
use Rattle.flow_model.specs.declared.trees.ProcessTree.{ProcessTree}
use Rattle.flow_model.specs.declared.trees.WorkTree.{out-WorkTree}
use Rattle.flow_model.specs.declared.trees.WorkTree.TheVariants as work
use Rattle.flow_model.specs.declared.trees.WorkTree.TheVariants.{outs-Program, outs-Process, outs-Block}
use Rattle.leaf_rules.specs.Leaves.{with_code}
use Rattle.template_check.specs.Compiling.{AreLeavesOf}
use Rattle.template_check.specs.Meant.{Reading, HasInside, IsWork, ProgramOf, ProcessOf, BlockOf, IsActivity, IsMeantWith, MeantTo, IsMeant, IsControl, IsDataLine, IsLoopLine}
use Rattle.template_check.specs.Wires.{AreWired}
use Rattle.template_check.proofs.OneWiring.{one_wiring}
use Rattle.text_graphs.specs.Attributes.{first_said, exit_said}
use Rattle.text_graphs.specs.GraphTexts.{GraphText, process_text, block_text}
use Rattle.text_graphs.specs.Texts.{activities_in, controls_in, lines_in, processes_in}
use Rattle.text_laws.specs.OneMeaning.{ReadAlike}
use Rattle.text_laws.proofs.Conditions.{some_one}
use Rattle.text_laws.proofs.Depth.{depth_of, shallower}
use Rattle.text_laws.proofs.Inside.{StandsIn, process_stands, block_stands, agree_where_it_stands}
use Rattle.text_laws.proofs.Parts.{parts_one, ones_one, exit_one, control_one, data_one, loop_one}

-- ---- what an activity does

program_no_process : (n : NameAt) → work.Program ≡ work.Process n → ⊥
program_no_process n e = let h : WorkTree-F.Program ≡ WorkTree-F.Process n = sym outs-Program ∙ ap out-WorkTree e ∙ outs-Process n in cc

program_no_block : (es : List ElementTree) → work.Program ≡ work.Block es → ⊥
program_no_block es e = let h : WorkTree-F.Program ≡ WorkTree-F.Block es = sym outs-Program ∙ ap out-WorkTree e ∙ outs-Block es in cc

process_no_block : (n : NameAt) (es : List ElementTree) → work.Process n ≡ work.Block es → ⊥
process_no_block n es e = let h : WorkTree-F.Process n ≡ WorkTree-F.Block es = sym (outs-Process n) ∙ ap out-WorkTree e ∙ outs-Block es in cc

process_one : (n m : NameAt) → work.Process n ≡ work.Process m → n ≡ m
process_one n m e = let h : WorkTree-F.Process n ≡ WorkTree-F.Process m = sym (outs-Process n) ∙ ap out-WorkTree e ∙ outs-Process m in cc

block_one : (es fs : List ElementTree) → work.Block es ≡ work.Block fs → es ≡ fs
block_one es fs e = let h : WorkTree-F.Block es ≡ WorkTree-F.Block fs = sym (outs-Block es) ∙ ap out-WorkTree e ∙ outs-Block fs in cc

inside_one : (P Q : Graph → Type 0) → ((u v : Graph) → P u → Q v → u ≡ v) → (x y : Work) → HasInside P x → HasInside Q y → x ≡ y
inside_one P Q one (Program p) y h j = absurd h
inside_one P Q one (Process t) y h j = absurd h
inside_one P Q one (Block u) (Program p) h j = absurd j
inside_one P Q one (Block u) (Process t) h j = absurd j
inside_one P Q one (Block u) (Block v) h j = ap (λ (g : Graph). Block g) (one u v h j)

module _ (P Q : GraphText → Graph → Type 0) (r s : Reading) (g : GraphText)
    (places : (number : ℕ) (name : List ℕ) → r.place number name ≡ s.place number name) where
  -- two blocks of one activity
  BlocksAgree : ActivityTree → Type 0
  BlocksAgree a = (inner : List ElementTree) → a.work ≡ work.Block inner → (u v : Graph) → P (block_text g.process a inner) u → Q (block_text g.process a inner) v → u ≡ v

  work_one : (a : ActivityTree) (x y : Work) → BlocksAgree a → IsWork P r g a x → IsWork Q s g a y → x ≡ y
  unfolding BlocksAgree
  work_one a x y one (ProgramOf h is) (ProgramOf j was) = is ∙ sym was
  work_one a x y one (ProgramOf h is) (ProcessOf name place j at was) = absurd (program_no_process name (sym h ∙ j))
  work_one a x y one (ProgramOf h is) (BlockOf inner j has) = absurd (program_no_block inner (sym h ∙ j))
  work_one a x y one (ProcessOf name place h at is) (ProgramOf j was) = absurd (program_no_process name (sym j ∙ h))
  work_one a x y one (ProcessOf name place h at is) (ProcessOf name' place' j at' was) =
      let same = process_one name name' (sym h ∙ j) in
      let found : place ≡ place' = some_one at (places g.process name.name ∙ ap (λ (n : NameAt). s.place g.process n.name) same ∙ at') in
      is ∙ ap (λ p. Process p) found ∙ sym was
  work_one a x y one (ProcessOf name place h at is) (BlockOf inner j has) = absurd (process_no_block name inner (sym h ∙ j))
  work_one a x y one (BlockOf inner h has) (ProgramOf j was) = absurd (program_no_block inner (sym j ∙ h))
  work_one a x y one (BlockOf inner h has) (ProcessOf name place j at was) = absurd (process_no_block name inner (sym j ∙ h))
  work_one a x y one (BlockOf inner h has) (BlockOf inner' j had) =
      let same = block_one inner' inner (sym j ∙ h) in
      inside_one (P (block_text g.process a inner)) (Q (block_text g.process a inner)) (one inner h) x y has
      (subst (λ (es : List ElementTree). HasInside (Q (block_text g.process a es)) y) same had)

  leaves_one : (x y : LeafList) → x.leaves ≡ y.leaves → x ≡ y
  leaves_one x y e = λ i. record { leaves = e i }

  activity_one : (a : ActivityTree) → r.leaves a.input.name ≡ s.leaves a.input.name → r.leaves a.output.name ≡ s.leaves a.output.name
      → BlocksAgree a → (x y : Activity) → IsActivity P r g a x → IsActivity Q s g a y → x ≡ y
  activity_one a ins outs one x y h j =
      let name = h.named ∙ sym j.named in
      let works = work_one a x.work y.work one h.works j.works in
      let input = leaves_one x.input y.input (some_one h.input (ins ∙ j.input)) in
      let output = leaves_one x.output y.output (some_one h.output (ap with_code outs ∙ j.output)) in
      let join = h.joined ∙ sym j.joined in
      let exit = exit_one (with_code (r.leaves a.output.name)) (with_code (s.leaves a.output.name)) (first_said exit_said a.attrs) x.exit y.exit (ap with_code outs) h.exits j.exits in
      λ i. record { name = name i; work = works i; input = input i; output = output i; join = join i; exit = exit i }

-- ---- graphs

graph_one : (x y : Graph) → (out-Graph x).input ≡ (out-Graph y).input → (out-Graph x).output ≡ (out-Graph y).output
    → (out-Graph x).activities ≡ (out-Graph y).activities → (out-Graph x).controls ≡ (out-Graph y).controls
    → (out-Graph x).lines ≡ (out-Graph y).lines → (out-Graph x).loops ≡ (out-Graph y).loops
    → (out-Graph x).wiring ≡ (out-Graph y).wiring → x ≡ y
graph_one x y input output activities controls lines loops wiring =
    sym (roll-out-Graph x)
    ∙ (λ i. roll-Graph (record { input = input i; output = output i; activities = activities i; controls = controls i; lines = lines i; loops = loops i; wiring = wiring i }))
    ∙ roll-out-Graph y

module _ (items : List ItemTree) (r s : Reading)
    (places : (number : ℕ) (name : List ℕ) → r.place number name ≡ s.place number name)
    (first : AreLeavesOf items r.leaves) (second : AreLeavesOf items s.leaves) where
  meant_with : (P Q : GraphText → Graph → Type 0) (g : GraphText) → StandsIn items g
      → ((k : ℕ) (d : ActivityTree) → k < length (activities_in g.elements) → (inner : List ElementTree)
      → (get_or (activities_in g.elements) k d).work ≡ work.Block inner → (u v : Graph)
      → P (block_text g.process (get_or (activities_in g.elements) k d) inner) u
      → Q (block_text g.process (get_or (activities_in g.elements) k d) inner) v → u ≡ v)
      → (x y : Graph) → IsMeantWith P r g x → IsMeantWith Q s g y → x ≡ y
  unfolding BlocksAgree
  meant_with P Q g stands blocks x y h j =
      let agree = agree_where_it_stands items r.leaves s.leaves first second g stands in
      let input = leaves_one P Q r s g places (out-Graph x).input (out-Graph y).input (some_one h.input (agree.input ∙ j.input)) in
      let output = leaves_one P Q r s g places (out-Graph x).output (out-Graph y).output (some_one h.output (agree.output ∙ j.output)) in
      let activities = ones_one (IsActivity P r g) (IsActivity Q s g) (activities_in g.elements) (out-Graph x).activities (out-Graph y).activities
      (λ k d less. activity_one P Q r s g places (get_or (activities_in g.elements) k d) (agree.activities k d less).0 (agree.activities k d less).1 (blocks k d less)) h.activities j.activities in
      let controls = ones_one (IsControl r.leaves g.elements) (IsControl s.leaves g.elements) (controls_in g.elements) (out-Graph x).controls (out-Graph y).controls (λ k d less. control_one r.leaves s.leaves g agree (get_or (controls_in g.elements) k d)) h.controls j.controls in
      let lines = parts_one (IsDataLine r.leaves g) (IsDataLine s.leaves g) (lines_in g.elements) (out-Graph x).lines (out-Graph y).lines (λ k d less. data_one r.leaves s.leaves g agree (get_or (lines_in g.elements) k d)) h.lines j.lines in
      let loops = parts_one (IsLoopLine r.leaves g) (IsLoopLine s.leaves g) (lines_in g.elements) (out-Graph x).loops (out-Graph y).loops (λ k d less. loop_one r.leaves s.leaves g agree (get_or (lines_in g.elements) k d)) h.loops j.loops in
      let X = out-Graph x in
      let Y = out-Graph y in
      let wiring = one_wiring (length Y.activities) Y.controls Y.lines Y.loops X.wiring Y.wiring
      (subst (λ (n : ℕ). AreWired n Y.controls Y.lines Y.loops X.wiring) (ap length activities)
      (subst (λ (cs : List Control). AreWired (length X.activities) cs Y.lines Y.loops X.wiring) controls
      (subst (λ (ds : List DataLine). AreWired (length X.activities) X.controls ds Y.loops X.wiring) lines
      (subst (λ (ls : List LoopLine). AreWired (length X.activities) X.controls X.lines ls X.wiring) loops h.wired)))) j.wired in
      graph_one x y input output activities controls lines loops wiring

  meant_to : (depth : ℕ) (g : GraphText) → depth_of g.elements < depth → StandsIn items g → (x y : Graph) → MeantTo r depth g x → MeantTo s depth g y → x ≡ y
  meant_to zero g less stands x y h j = absurd (omega arith)
  meant_to (suc depth) g less stands x y h j =
      meant_with (MeantTo r depth) (MeantTo s depth) g stands
      (λ k d in' inner is u v hu hv. meant_to depth (block_text g.process (get_or (activities_in g.elements) k d) inner)
      (let lower = shallower g.elements k d in' inner is in omega arith)
      (block_stands items g (get_or (activities_in g.elements) k d) inner (Contains-get_or (activities_in g.elements) k d in') is stands) u v hu hv) x y h j

  -- a graph of a text means one graph
  pub meant_one : (g : GraphText) → StandsIn items g → (x y : Graph) → IsMeant r g x → IsMeant s g y → x ≡ y
  meant_one g stands x y h j =
      meant_to (suc (depth_of g.elements)) g (omega arith) stands x y (h (suc (depth_of g.elements))) (j (suc (depth_of g.elements)))

-- so does a process
pub process_means_one : (items : List ItemTree) (r s : Reading) (number : ℕ) (p : ProcessTree) (x y : Graph) → ReadAlike items r s
    → slice_get (processes_in items) number ≡ Some p → IsMeant r (process_text number p) x → IsMeant s (process_text number p) y → x ≡ y
process_means_one items r s number p x y alike is h j =
    meant_one items r s alike.places alike.first_leaves alike.second_leaves (process_text number p) (process_stands items number p is) x y h j
