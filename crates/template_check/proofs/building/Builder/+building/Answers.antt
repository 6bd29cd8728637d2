use Rattle.std.proofs.Common.{rules, arith, ◌≡◌, ℕ, length, refl, sym, ap, subst, ◌∙◌, List, Some, None}
use Rattle.flow_model.specs.declared.trees.ElementTree.{ElementTree, the_lemmas}
use Rattle.flow_model.specs.declared.graphs.Activity.{Activity}
use Rattle.std.proofs.lemmas.List.Elements.{All-push}
use Rattle.std.specs.List.{All}
use Rattle.template_check.specs.Built.{IsSound, IsSoundWork, IsSoundInside}
use Rattle.template_check.specs.Found.{IsActivityFound, AreFoundInside}
use Rattle.process_rules.specs.Calling.{place_behind, IsCallingWork}
use Rattle.text_graphs.specs.ClosedWalks.{IsAcyclic}
use Rattle.text_graphs.specs.Texts.{activity_of, activities_in, names_in, edges_in, IsJudged}
use Rattle.flow_model.specs.declared.trees.ActivityTree.{ActivityTree}
use Rattle.text_graphs.specs.GraphTexts.{text_of}
use Rattle.template_check.specs.Meant.{AreParts, NoneLeft, IsOne, IsActivity, ProcessOf, MeantTo, reading_of}
use Rattle.flow_model.specs.declared.trees.NameAt.{NameAt}
use Rattle.std.proofs.lemmas.List.{take_all}
use Rattle.template_check.proofs.Meaning.{parts_next, parts_all, kind_next, kind_past, text_same, graph_meant, block_meant}
use Rattle.template_check.proofs.Calling.{built_calling}
use Rattle.template_check.proofs.Found.{here_found, block_found}
use Rattle.template_check.proofs.Laying.{within, built_sound, sound_here, sound_inside, as_many, named_next, named_past}
use Rattle.text_graphs.proofs.Judging.{all_kept}
use Rattle.template_check.proofs.building.Builder.+building.Goals as goal
use Rattle.template_check.proofs.building.Builder.+building.Goals.{activities-in-Activity+in_ok-activity-in-Activity+in_ok-push-in-Activity, activities-in-Control, activities-in-Line}

pub activities-activity-requires : goal.activities-activity-requires
activities-activity-requires t c =
    let r = reading_of c.args.self.now in
    let kept = λ (P : ActivityTree → Type 0) (all : All P (activities_in c.args.elements.now)). all_kept activity_of P c.args.elements.now c.loop-element.element-index c.element-item.result c.in-Activity.activity all c.loop-element-test.true c.element-item.is (ap activity_of c.in-Activity.is) in (
      search (rules, the_lemmas),
      (
        kept IsSoundInside c.requires.sound,
        (
          kept (IsActivityFound r (text_of c.args.scope.now)) c.requires.found,
          kept (AreFoundInside r c.args.scope.now.process) c.requires.inside,
        ),
      ),
    )

pub work-graph-requires : goal.work-graph-requires
work-graph-requires t c = (
  search (rules, the_lemmas),
  (
    subst IsSound (sym c.as_slice-elements.ensures) (c.requires.sound c.in-Block.elements c.in-Block.is),
    block_found (reading_of c.args.self.now) c.args.scope.now.process c.args.activity.now c.in-Block.elements c.as_slice-elements.result.now c.in-Block.is c.as_slice-elements.ensures c.requires.inside,
  ),
)

pub activities-loop-element-init : goal.activities-loop-element-init
activities-loop-element-init t c = rw c.new-activities.ensures (record {
  named = refl;
  sound = λ k d less. absurd (omega (arith, less));
  calls = λ k d less. absurd (omega (arith, less));
  meant = λ depth. NoneLeft;
})

pub activities-loop-element-preserved : goal.activities-loop-element-preserved
activities-loop-element-preserved t c =
    let elements = c.args.elements.now in
    let i = c.loop-element.element-index in
    let x = c.element-item.result in
    let so_far = c.loop-element.invariant in
    let past = λ (none : activity_of x ≡ None). named_past elements i x c.loop-element-test.true c.element-item.is c.loop-element.activities none so_far.named in
    let r = reading_of c.args.self.now in
    let R = λ (depth : ℕ). IsOne (IsActivity (MeantTo r depth) r (text_of c.args.scope.now)) in
    let not_meant = λ (none : activity_of x ≡ None) (depth : ℕ). subst (λ (xs : List ActivityTree). AreParts (R depth) xs c.loop-element.activities) (sym (kind_past activity_of elements i x c.loop-element-test.true c.element-item.is none)) (so_far.meant depth) in
    elim c.match-element.branch [
      | activities-in-Activity+in_ok-activity-in-Activity+in_ok-push-in-Activity w ↦
          let some : activity_of x ≡ Some w.in-Activity.activity = ap activity_of w.in-Activity.is in
          let P = λ (a : Activity). IsSoundWork a.work in
          let Q = λ (a : Activity). IsCallingWork (place_behind c.args.self.now.known.catalog.now.library c.args.scope.now.process) a.work in
          let built = w.in_ok-activity-in-Activity.ensures in
          rw w.activities-is (record {
            named = named_next elements i x c.loop-element-test.true c.element-item.is c.loop-element.activities w.push.new.self _ w.in-Activity.activity some w.in_ok-push-in-Activity.ensures.ok built.named so_far.named;
            sound = rw w.in_ok-push-in-Activity.ensures.ok (All-push P c.loop-element.activities _ so_far.sound built.sound);
            calls = rw w.in_ok-push-in-Activity.ensures.ok (All-push Q c.loop-element.activities _ so_far.calls built.calls);
            meant = λ depth. parts_next (R depth) _ _ w.in-Activity.activity c.loop-element.activities w.push.new.self _ (kind_next activity_of elements i x w.in-Activity.activity c.loop-element-test.true c.element-item.is some) w.in_ok-push-in-Activity.ensures.ok (built.meant depth) (so_far.meant depth);
          })
      | activities-in-Control w ↦ rw w.activities-is (record { named = past (ap activity_of w.in-Control.is); sound = so_far.sound; calls = so_far.calls; meant = not_meant (ap activity_of w.in-Control.is) })
      | activities-in-Line w ↦ rw w.activities-is (record { named = past (ap activity_of w.in-Line.is); sound = so_far.sound; calls = so_far.calls; meant = not_meant (ap activity_of w.in-Line.is) })
    ]

pub graph-activities-requires : goal.graph-activities-requires
graph-activities-requires t c =
    let scope = c.in_ok-scope.scope in
    let same = c.in_ok-scope.ensures in
    let r = reading_of c.args.self.now in
    let names = λ (n : NameAt). n.name in
    let here = here_found r _ (text_of scope) same.numbered (ap names same.input) (ap names same.output) same.elements c.requires.found in (
      search rules,
      (
        sound_inside c.args.elements.now c.requires.sound,
        (
          subst (λ (es : List ElementTree). All (IsActivityFound r (text_of scope)) (activities_in es)) same.elements here.activities,
          subst (λ (n : ℕ). All (AreFoundInside r n) (activities_in c.args.elements.now)) (sym same.numbered) c.requires.found.inside,
        ),
      ),
    )

pub graph-controls-requires : goal.graph-controls-requires
graph-controls-requires t c =
    let same = c.in_ok-scope.ensures in
    let names = λ (n : NameAt). n.name in
    (here_found (reading_of c.args.self.now) _ (text_of c.in_ok-scope.scope) same.numbered (ap names same.input) (ap names same.output) same.elements c.requires.found).controls

pub graph-loops-requires : goal.graph-loops-requires
graph-loops-requires t c =
    let same = c.in_ok-scope.ensures in
    let names = λ (n : NameAt). n.name in
    (here_found (reading_of c.args.self.now) _ (text_of c.in_ok-scope.scope) same.numbered (ap names same.input) (ap names same.output) same.elements c.requires.found).lines

pub graph-lines-requires-clause-along : goal.graph-lines-requires-clause-along
graph-lines-requires-clause-along t c = rw c.in_ok-scope.ensures.elements (sound_here c.args.elements.now c.requires.sound).along

pub graph-lines-requires-clause-found : goal.graph-lines-requires-clause-found
graph-lines-requires-clause-found t c =
    let same = c.in_ok-scope.ensures in
    let names = λ (n : NameAt). n.name in
    (here_found (reading_of c.args.self.now) _ (text_of c.in_ok-scope.scope) same.numbered (ap names same.input) (ap names same.output) same.elements c.requires.found).lines

pub graph-wiring-requires-clause-within : goal.graph-wiring-requires-clause-within
graph-wiring-requires-clause-within t c =
    let elements = c.in_ok-scope.scope.elements.now in
    let long = c.len.ensures ∙ as_many c.in_ok-activities.activities c.args.elements.now c.in_ok-activities.ensures.named ∙ ap (λ (es : List ElementTree). length (activities_in es)) (sym c.in_ok-scope.ensures.elements) in
    rw (c.as_slice.ensures, c.as_slice-2.ensures, c.as_slice-3.ensures)
    (within c.len.result c.in_ok-controls.controls c.in_ok-lines.lines c.in_ok-loops.loops elements long c.in_ok-controls.ensures.ends c.in_ok-lines.ensures.drawn c.in_ok-loops.ensures.within)

pub graph-wiring-requires-clause-acyclic : goal.graph-wiring-requires-clause-acyclic
graph-wiring-requires-clause-acyclic t c =
    let acyclic : IsAcyclic (edges_in c.in_ok-scope.scope.elements.now) = rw c.in_ok-scope.ensures.elements (sound_here c.args.elements.now c.requires.sound).connected.acyclic in
    rw c.as_slice.ensures (subst IsAcyclic (sym c.in_ok-controls.ensures.ends) acyclic)

pub graph-returns-clause-sound : goal.graph-returns-clause-sound
graph-returns-clause-sound t c =
    let wired = rw (c.len.ensures, c.as_slice.ensures, c.as_slice-2.ensures, c.as_slice-3.ensures) at c.in_ok-wiring.ensures in
    let elements = c.in_ok-scope.scope.elements.now in
    let judged : IsJudged elements = subst IsJudged (sym c.in_ok-scope.ensures.elements) (sound_here c.args.elements.now c.requires.sound) in
    let names = c.in_ok-activities.ensures.named ∙ ap names_in (sym c.in_ok-scope.ensures.elements) in
    built_sound _ _ c.in_ok-activities.activities c.in_ok-controls.controls c.in_ok-lines.lines c.in_ok-loops.loops c.in_ok-wiring.wiring elements
    judged wired names c.in_ok-controls.ensures.ends c.in_ok-lines.ensures.drawn c.in_ok-activities.ensures.sound

pub graph-returns-clause-calls : goal.graph-returns-clause-calls
graph-returns-clause-calls t c =
    let limit = place_behind c.args.self.now.known.catalog.now.library in
    let P = λ (number : ℕ). All (λ (a : Activity). IsCallingWork (limit number) a.work) c.in_ok-activities.activities in
    built_calling (limit c.args.process) _ _ c.in_ok-activities.activities c.in_ok-controls.controls c.in_ok-lines.lines c.in_ok-loops.loops c.in_ok-wiring.wiring (subst P c.in_ok-scope.ensures.numbered c.in_ok-activities.ensures.calls)

pub activities-returns-clause-meant : goal.activities-returns-clause-meant
activities-returns-clause-meant t c = λ depth.
    let r = reading_of c.args.self.now in
    parts_all (IsOne (IsActivity (MeantTo r depth) r (text_of c.args.scope.now))) _ (activities_in c.args.elements.now) c.loop-element.activities
    (ap activities_in (take_all c.loop-element.element-index c.args.elements.now c.loop-element-test.false)) (c.loop-element.invariant.meant depth)

pub activity-returns-clause-meant : goal.activity-returns-clause-meant
activity-returns-clause-meant t c = λ depth. record {
  named = c.in_ok-copy.ensures;
  works = c.in_ok-work.ensures.meant depth;
  input = c.in_ok-plain.ensures;
  output = c.in_ok-coded.ensures;
  joined = c.join_of.ensures;
  exits = c.in_ok-exit.ensures;
}

pub work-returns-in_ok-callee-in-Process-clause-meant : goal.work-returns-in_ok-callee-in-Process-clause-meant
work-returns-in_ok-callee-in-Process-clause-meant t c = λ depth. ProcessOf c.in-Process.name c.in_ok-callee-in-Process.field-0 c.in-Process.is c.in_ok-callee-in-Process.ensures.meant refl

pub work-returns-in_ok-graph-in-Block-clause-meant : goal.work-returns-in_ok-graph-in-Block-clause-meant
work-returns-in_ok-graph-in-Block-clause-meant t c =
    block_meant (reading_of c.args.self.now) (text_of c.args.scope.now) c.args.activity.now c.in-Block.elements c.as_slice-elements.result.now c.in_ok-graph-in-Block.graph
    c.in-Block.is c.as_slice-elements.ensures c.in_ok-graph-in-Block.ensures.meant

pub graph-returns-clause-meant : goal.graph-returns-clause-meant
graph-returns-clause-meant t c =
    let scope = c.in_ok-scope.scope in
    let same = c.in_ok-scope.ensures in
    let r = reading_of c.args.self.now in
    let names = λ (n : NameAt). n.name in
    let reads = ap (λ (n : NameAt). r.leaves n.name) same.input ∙ c.in_ok-plain.ensures in
    let writes = ap (λ (n : NameAt). r.leaves n.name) same.output ∙ c.in_ok-plain-2.ensures in
    let acts = λ (depth : ℕ). subst (λ (es : List ElementTree). AreParts (IsOne (IsActivity (MeantTo r depth) r (text_of scope))) (activities_in es) c.in_ok-activities.activities) (sym same.elements) (c.in_ok-activities.ensures.meant depth) in
    let wired = rw (c.len.ensures, c.as_slice.ensures, c.as_slice-2.ensures, c.as_slice-3.ensures) at c.in_ok-wiring.ensures in
    graph_meant c.in_ok-plain.field-0 c.in_ok-plain-2.field-0 c.in_ok-activities.activities c.in_ok-controls.controls c.in_ok-lines.lines c.in_ok-loops.loops c.in_ok-wiring.wiring r (text_of scope) _
    (text_same (text_of scope) _ same.numbered (ap names same.input) (ap names same.output) same.elements) reads writes acts c.in_ok-controls.ensures.meant c.in_ok-lines.ensures.meant c.in_ok-loops.ensures.meant wired
