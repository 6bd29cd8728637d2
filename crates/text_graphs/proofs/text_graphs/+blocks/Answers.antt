use Rattle.std.proofs.Common.{◌≡◌, [], arith, ap, ◌∙◌, Some, None, take}
use Rattle.std.proofs.lemmas.List.{take_all}
use Rattle.std.proofs.lemmas.List.Elements.{All-weaker}
use Rattle.text_graphs.specs.Texts.{activity_of, activities_in}
use Rattle.text_graphs.specs.Blocks.{lists_of, IsListed}
use Rattle.text_graphs.specs.Graphs.{graphs_in, IsGraphInside}
use Rattle.text_graphs.proofs.Listing.{grows_pushed, has_pushed, on_ok, on_ok_both, listed_block, listed_stays, all_blocks}
use Rattle.text_graphs.proofs.Graphs.{nothing_added, none_in_program, none_in_process, none_inside, same_graph, added_next, added_past, added_block}
use Rattle.text_graphs.proofs.Sorting.{all_past, all_next}
use Rattle.text_graphs.proofs.text_graphs.+blocks.Goals as goal
use Rattle.text_graphs.proofs.text_graphs.+blocks.Goals.{add_blocks-in-Activity+in_ok-add_block-in-Activity, add_blocks-in-Control, add_blocks-in-Line}

pub add_block-returns-in_ok-push-in-Block-clause-kept : goal.add_block-returns-in_ok-push-in-Block-clause-kept
add_block-returns-in_ok-push-in-Block-clause-kept t c =
    on_ok c.add_blocks.result
    (λ grows elements h. grows elements (grows_pushed c.args.scopes.now.items c.push.new.self.items c.in_ok-scope-in-Block.scope c.in_ok-push-in-Block.ensures.items elements h))
    c.add_blocks.ensures.kept

pub add_block-returns-in_ok-push-in-Block-clause-listed : goal.add_block-returns-in_ok-push-in-Block-clause-listed
add_block-returns-in_ok-push-in-Block-clause-listed t c =
    let lists = lists_of c.add_blocks.new.scopes.items in
    let elements = c.in-Block.elements in
    let scope = c.in_ok-scope-in-Block.scope in
    let here = has_pushed c.args.scopes.now.items c.push.new.self.items scope elements c.in_ok-push-in-Block.ensures.items (c.in_ok-scope-in-Block.ensures.elements ∙ c.as_slice-elements.ensures) in
    let blocks = rw c.as_slice-elements.ensures at c.add_blocks.ensures.blocks in
    on_ok_both c.add_blocks.result (λ grows inside. listed_block lists c.args.activity.now elements c.in-Block.is (grows elements here, inside)) c.add_blocks.ensures.kept blocks

pub add_blocks-loop-element-preserved : goal.add_blocks-loop-element-preserved
add_blocks-loop-element-preserved t c =
    let items = c.args.elements.now in
    let x = c.element-item.result in
    let so_far = c.loop-element.invariant in
    let past = λ (none : activity_of x ≡ None).
    all_past activity_of items c.loop-element.element-index x c.loop-element-test.true c.element-item.is (IsListed (lists_of c.loop-element.scopes.items)) none so_far.1 in
    let unadded = λ (none : activity_of x ≡ None). added_past items c.loop-element.element-index x c.loop-element-test.true c.element-item.is c.args.process _ (graphs_in c.loop-element.scopes.items) none so_far.2 in
    elim c.match-element.branch [
      | add_blocks-in-Activity+in_ok-add_block-in-Activity w ↦
          let now = lists_of w.add_block.new.scopes.items in
          let added = w.in_ok-add_block-in-Activity.ensures in
          let some : activity_of x ≡ Some w.in-Activity.activity = ap activity_of w.in-Activity.is in
          let stay = All-weaker (IsListed (lists_of c.loop-element.scopes.items)) (IsListed now) (listed_stays (lists_of c.loop-element.scopes.items) now added.kept) (activities_in (take c.loop-element.element-index items)) so_far.1 in
          rw w.scopes-is (
            (λ elements h. added.kept elements (so_far.0 elements h)),
            all_next activity_of items c.loop-element.element-index x c.loop-element-test.true c.element-item.is (IsListed now) w.in-Activity.activity some stay added.listed,
            added_next items c.loop-element.element-index x c.loop-element-test.true c.element-item.is c.args.process _ (graphs_in c.loop-element.scopes.items) (graphs_in w.add_block.new.scopes.items) w.in-Activity.activity some so_far.2 added.added,
          )
      | add_blocks-in-Control w ↦ rw w.scopes-is (so_far.0, past (ap activity_of w.in-Control.is), unadded (ap activity_of w.in-Control.is))
      | add_blocks-in-Line w ↦ rw w.scopes-is (so_far.0, past (ap activity_of w.in-Line.is), unadded (ap activity_of w.in-Line.is))
    ]

pub add_blocks-returns-clause-blocks : goal.add_blocks-returns-clause-blocks
add_blocks-returns-clause-blocks t c =
    let whole = take_all c.loop-element.element-index c.args.elements.now c.loop-element-test.false in
    all_blocks (lists_of c.loop-element.scopes.items) c.args.elements.now (rw whole at c.loop-element.invariant.1)

pub add_block-returns-in-Program-clause-added : goal.add_block-returns-in-Program-clause-added
add_block-returns-in-Program-clause-added t c = nothing_added (graphs_in c.args.scopes.now.items) _ (none_in_program c.args.process c.args.activity.now c.in-Program.is)

pub add_block-returns-in-Process-clause-added : goal.add_block-returns-in-Process-clause-added
add_block-returns-in-Process-clause-added t c = nothing_added (graphs_in c.args.scopes.now.items) _ (none_in_process c.args.process c.args.activity.now _ c.in-Process.is)

pub add_block-returns-in_ok-push-in-Block-clause-added : goal.add_block-returns-in_ok-push-in-Block-clause-added
add_block-returns-in_ok-push-in-Block-clause-added t c =
    let a = c.args.activity.now in
    let scope = c.in_ok-scope-in-Block.scope in
    let made = c.in_ok-scope-in-Block.ensures in
    let here = same_graph scope c.args.process a.place a.input a.output c.in-Block.elements made.numbered made.place made.input made.output (made.elements ∙ c.as_slice-elements.ensures) in
    let inside = rw c.as_slice-elements.ensures at c.add_blocks.ensures.added in
    on_ok c.add_blocks.result
    (added_block c.args.process c.args.scopes.now.items c.push.new.self.items (graphs_in c.add_blocks.new.scopes.items) scope a c.in-Block.elements c.in-Block.is here c.in_ok-push-in-Block.ensures.items)
    inside

pub add_blocks-loop-element-init : goal.add_blocks-loop-element-init
add_blocks-loop-element-init t c = (λ elements h. h, λ k d less. absurd (omega arith), nothing_added (graphs_in c.args.scopes.now.items) (IsGraphInside c.args.process []) (none_inside c.args.process))

pub add_blocks-returns-clause-added : goal.add_blocks-returns-clause-added
add_blocks-returns-clause-added t c =
    let whole = take_all c.loop-element.element-index c.args.elements.now c.loop-element-test.false in
    rw whole at c.loop-element.invariant.2
