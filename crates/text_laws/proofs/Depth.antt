-- How deep blocks nest in a text, so that what goes into them comes to an end.
use Rattle.std.proofs.Common.{◌≡◌, ℕ, zero, suc, ◌+◌, ◌<◌, max, fold, List, [], ◌∷◌, length, map, get_or, sym, ap, ◌∙◌, arith}
use Rattle.flow_model.specs.declared.trees.ActivityTree.{ActivityTree}
use Rattle.flow_model.specs.declared.trees.ElementTree.{ElementTree, Activity, Activity', Control, Line}
use Rattle.flow_model.specs.declared.trees.ElementTree.TheOpen.{ElementTree-F, WorkTree-F, ActivityTree-F}
use Rattle.flow_model.specs.declared.trees.ElementTree.TheFolds.{fold-ElementTree, fold-WorkTree, fold-roll-ElementTree, fold-roll-WorkTree, fold_out-ActivityTree}
use Rattle.flow_model.specs.declared.trees.ElementTree.TheVariants.{rolls-Activity}
use Rattle.flow_model.specs.declared.trees.WorkTree.{WorkTree, Block}
use Rattle.flow_model.specs.declared.trees.WorkTree.TheVariants.{rolls-Block}
use Rattle.text_graphs.specs.Blocks.{IsBlockOf}
use Rattle.text_graphs.specs.Texts.{activities_in}

abbrev element_by : ElementTree-F ℕ ℕ ℕ → ℕ
element_by (ElementTree-F.Activity n) = n
element_by (ElementTree-F.Control c) = 0
element_by (ElementTree-F.Line l) = 0

abbrev work_by : WorkTree-F ℕ ℕ ℕ → ℕ
work_by WorkTree-F.Program = 0
work_by (WorkTree-F.Process name) = 0
work_by (WorkTree-F.Block ns) = fold max 0 ns + 1

abbrev activity_by : ActivityTree-F ℕ ℕ ℕ → ℕ
activity_by a = a.work

-- how many blocks nest in an element
abbrev deep : ElementTree → ℕ
deep = fold-ElementTree ℕ ℕ ℕ element_by work_by activity_by

abbrev deep_work : WorkTree → ℕ
deep_work = fold-WorkTree ℕ ℕ ℕ element_by work_by activity_by

-- how many nest in a graph of these elements
abbrev pub depth_of : List ElementTree → ℕ
depth_of elements = fold max 0 (map deep elements)

deep_block : (es : List ElementTree) → deep_work (Block es) ≡ depth_of es + 1
deep_block es = ap (λ (w : WorkTree). deep_work w) (sym (rolls-Block es)) ∙ fold-roll-WorkTree ℕ ℕ ℕ element_by work_by activity_by (WorkTree-F.Block es)

deep_activity : (a : ActivityTree) → deep (Activity a) ≡ deep_work a.work
deep_activity a = ap (λ (e : ElementTree). deep e) (sym (rolls-Activity a)) ∙ fold-roll-ElementTree ℕ ℕ ℕ element_by work_by activity_by (ElementTree-F.Activity a) ∙ fold_out-ActivityTree ℕ ℕ ℕ element_by work_by activity_by a

-- the greatest is no less than the first, nor than the greatest of the others
fold_from : (ns : List ℕ) (n : ℕ) → fold max n ns ≡ max n (fold max 0 ns)
fold_from [] n = omega arith
fold_from (m ∷ ns) n = let a = fold_from ns (max n m) in let b = fold_from ns (max 0 m) in omega arith

depth_cons : (e : ElementTree) (es : List ElementTree) → depth_of (e ∷ es) ≡ max (deep e) (depth_of es)
depth_cons e es = let a = fold_from (map deep es) (max 0 (deep e)) in omega arith

-- a block nests less deep than the graph that it stands in
pub shallower : (es : List ElementTree) (k : ℕ) (d : ActivityTree) → k < length (activities_in es) → (inner : List ElementTree)
    → IsBlockOf (get_or (activities_in es) k d) inner → depth_of inner < depth_of es
shallower [] k d less inner is = absurd (omega arith)
shallower (Control c ∷ es) k d less inner is =
    let rest = shallower es k d less inner is in let e = depth_cons (Control c) es in omega arith
shallower (Line l ∷ es) k d less inner is =
    let rest = shallower es k d less inner is in let e = depth_cons (Line l) es in omega arith
shallower (Activity' place work name input output attrs end ∷ es) zero d less inner is =
    let a : ActivityTree = record { place = place; work = work; name = name; input = input; output = output; attrs = attrs; end = end } in
    let e = depth_cons (Activity a) es in
    let one : deep (Activity a) ≡ depth_of inner + 1 = deep_activity a ∙ ap (λ (w : WorkTree). deep_work w) is ∙ deep_block inner in
    omega arith
shallower (Activity' place work name input output attrs end ∷ es) (suc k) d less inner is =
    let a : ActivityTree = record { place = place; work = work; name = name; input = input; output = output; attrs = attrs; end = end } in
    let e = depth_cons (Activity a) es in
    let rest = shallower es k d (omega arith) inner is in omega arith
