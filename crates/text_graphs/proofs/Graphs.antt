-- The graphs of a text are found one by one: those of its processes, and of the blocks in them.
use Rattle.std.proofs.Common.{◌≡◌, ℕ, zero, suc, ◌+◌, ◌<◌, Bool, true, false, refl, List, [], ◌∷◌, ◌++◌, length, get_or, take, map, ◌≤◌, Option, Some, None, Bor, sym, ap, subst, ◌∙◌, inl, inr, ⊎_elim, ◌⊎◌, arith, append-nil}
use Rattle.std.specs.Prelude.{slice_get}
use Rattle.std.specs.List.{Contains, cons_option}
use Rattle.std.proofs.lemmas.List.{map-append, length-map, take_all}
use Rattle.std.proofs.lemmas.List.Elements.{Contains-append_left, Contains-push, Contains-push_cases}
use Rattle.flow_model.specs.declared.trees.ActivityTree.{ActivityTree}
use Rattle.flow_model.specs.declared.trees.ElementTree.{ElementTree}
use Rattle.flow_model.specs.declared.trees.ElementTree.TheOpen.{WorkTree-F}
use Rattle.flow_model.specs.declared.trees.ItemTree.{ItemTree}
use Rattle.flow_model.specs.declared.trees.NameAt.{NameAt}
use Rattle.flow_model.specs.declared.trees.ProcessTree.{ProcessTree}
use Rattle.flow_model.specs.declared.trees.WorkTree.{WorkTree, Block, Program, Process, out-WorkTree}
use Rattle.flow_model.specs.declared.trees.WorkTree.TheVariants.{outs-Block, outs-Program, outs-Process}
use Rattle.text_graphs.specs.Blocks.{IsBlockOf}
use Rattle.text_graphs.specs.Graphs.{GraphAt, graph_at, graphs_in, block_at, process_at, IsGraphIn, IsGraphInside, IsGraphOfProcess, IsGraphAmong, AreAdded, AreGraphsOf, Itself, Deeper}
use Rattle.text_graphs.specs.Texts.{activity_of, activities_in, processes_in}
use Rattle.text_graphs.specs.declared.scopes.Scope.{Scope}
use Rattle.text_graphs.proofs.Finding.{taken_behind}
use Rattle.text_graphs.proofs.Listing.{block_same}
use Rattle.text_graphs.proofs.Sorting.{one_more}

is_block : WorkTree-F ElementTree WorkTree ActivityTree → Bool
is_block WorkTree-F.Program = false
is_block (WorkTree-F.Process name) = false
is_block (WorkTree-F.Block elements) = true

program_no_block : (es : List ElementTree) → ◌≡◌ {A = WorkTree} Program (Block es) → ⊥
unfolding is_block
program_no_block es h = let e : false ≡ true = ap is_block (sym outs-Program ∙ ap out-WorkTree h ∙ outs-Block es) in cc

process_no_block : (name : NameAt) (es : List ElementTree) → ◌≡◌ {A = WorkTree} (Process name) (Block es) → ⊥
unfolding is_block
process_no_block name es h = let e : false ≡ true = ap is_block (sym (outs-Process name) ∙ ap out-WorkTree h ∙ outs-Block es) in cc

-- there is no graph in an activity that is no block
pub none_in_program : (n : ℕ) (a : ActivityTree) → a.work ≡ Program → (g : GraphAt) → IsGraphIn n g a → ⊥
none_in_program n a is g (Itself elements block same) = program_no_block elements (sym is ∙ block)
none_in_program n a is g (Deeper elements b block has inside) = program_no_block elements (sym is ∙ block)

pub none_in_process : (n : ℕ) (a : ActivityTree) (name : NameAt) → a.work ≡ Process name → (g : GraphAt) → IsGraphIn n g a → ⊥
none_in_process n a name is g (Itself elements block same) = process_no_block name elements (sym is ∙ block)
none_in_process n a name is g (Deeper elements b block has inside) = process_no_block name elements (sym is ∙ block)

-- a block with these elements has its own graph, and those inside
in_block : (n : ℕ) (a : ActivityTree) (elements : List ElementTree) → IsBlockOf a elements → (g : GraphAt) → IsGraphIn n g a → (g ≡ block_at n a elements) ⊎ IsGraphInside n elements g
in_block n a elements is g (Itself es block same) = let e = block_same es elements (sym block ∙ is) in inl (same ∙ ap (block_at n a) e)
in_block n a elements is g (Deeper es b block has inside) =
    let e = block_same es elements (sym block ∙ is) in
    inr (b, subst (λ (xs : List ElementTree). Contains (activities_in xs) b) e has, inside)

pub nothing_added : (graphs : List GraphAt) (more : GraphAt → Type 0) → ((g : GraphAt) → more g → ⊥) → AreAdded graphs graphs more
nothing_added graphs more none = record { kept = λ g h. h; whole = λ g m. absurd (none g m); only = λ g h. inl h }

-- one graph after others
added_both : (old mid new : List GraphAt) (first second both : GraphAt → Type 0) → AreAdded old mid first → AreAdded mid new second → ((g : GraphAt) → both g → first g ⊎ second g) → ((g : GraphAt) → first g ⊎ second g → both g) → AreAdded old new both
added_both old mid new first second both h k from to = record {
  kept = λ g has. k.kept g (h.kept g has);
  whole = λ g m. ⊎_elim (λ a. k.kept g (h.whole g a)) (k.whole g) (from g m);
  only = λ g has. ⊎_elim (λ there. ⊎_elim (λ o. inl o) (λ a. inr (to g (inl a))) (h.only g there)) (λ b. inr (to g (inr b))) (k.only g has);
}

pushed_graphs : (scopes next : List Scope) (s : Scope) → next ≡ scopes ++ s ∷ [] → graphs_in next ≡ graphs_in scopes ++ graph_at s ∷ []
pushed_graphs scopes next s now = ap graphs_in now ∙ map-append graph_at scopes (s ∷ [])

added_one : (scopes next : List Scope) (s : Scope) (g : GraphAt) → graph_at s ≡ g → next ≡ scopes ++ s ∷ [] → AreAdded (graphs_in scopes) (graphs_in next) (λ h. h ≡ g)
added_one scopes next s g same now = subst (λ graphs. AreAdded (graphs_in scopes) graphs (λ h. h ≡ g)) (sym (pushed_graphs scopes next s now)) (record {
  kept = λ h has. Contains-append_left (graphs_in scopes) (graph_at s ∷ []) h has;
  whole = λ h is. subst (Contains (graphs_in scopes ++ graph_at s ∷ [])) (same ∙ sym is) (Contains-push (graphs_in scopes) (graph_at s));
  only = λ h has. ⊎_elim (λ o. inl o) (λ e. inr (sym e ∙ same)) (Contains-push_cases (graphs_in scopes) (graph_at s) h has);
})

-- the graph of a block, and those inside it
pub added_block : (n : ℕ) (scopes next : List Scope) (new : List GraphAt) (s : Scope) (a : ActivityTree) (elements : List ElementTree) → IsBlockOf a elements → graph_at s ≡ block_at n a elements → next ≡ scopes ++ s ∷ []
    → AreAdded (graphs_in next) new (IsGraphInside n elements) → AreAdded (graphs_in scopes) new (λ g. IsGraphIn n g a)
added_block n scopes next new s a elements is here now inside =
    added_both (graphs_in scopes) (graphs_in next) new (λ g. g ≡ block_at n a elements) (IsGraphInside n elements) (λ g. IsGraphIn n g a) (added_one scopes next s (block_at n a elements) here now) inside
    (in_block n a elements is)
    (λ g. ⊎_elim (λ same. Itself elements is same) (λ h. Deeper elements h.0 is h.1 h.2))

-- the graph of a process, and those inside it
pub added_process : (n : ℕ) (scopes next : List Scope) (new : List GraphAt) (s : Scope) (p : ProcessTree) → graph_at s ≡ process_at n p → next ≡ scopes ++ s ∷ [] → AreAdded (graphs_in next) new (IsGraphInside n p.elements)
    → AreAdded (graphs_in scopes) new (IsGraphOfProcess n p)
added_process n scopes next new s p here now inside =
    added_both (graphs_in scopes) (graphs_in next) new (λ g. g ≡ process_at n p) (IsGraphInside n p.elements) (IsGraphOfProcess n p) (added_one scopes next s (process_at n p) here now) inside (λ g h. h) (λ g h. h)

-- the graph that a scope is, by its parts
pub same_graph : (s : Scope) (number place : ℕ) (input output : NameAt) (elements : List ElementTree) → s.process ≡ number → s.place ≡ place → s.input.now ≡ input → s.output.now ≡ output → s.elements.now ≡ elements
    → graph_at s ≡ record { process = number; place = place; input = input; output = output; elements = elements }
same_graph s number place input output elements z a b c d = λ i. record { process = z i; place = a i; input = b i; output = c i; elements = d i }

pub none_inside : (n : ℕ) (g : GraphAt) → IsGraphInside n [] g → ⊥
none_inside n g h = absurd (omega (arith, h.1.1))

-- ---- the place of an element, where one more is put behind the others

get_left : {X : Type 0} (xs : List X) (y : X) (i : ℕ) (x : X) → slice_get xs i ≡ Some x → slice_get (xs ++ y ∷ []) i ≡ Some x
get_left [] y i x h = cc
get_left (z ∷ xs) y zero x h = h
get_left (z ∷ xs) y (suc i) x h = get_left xs y i x h

get_seam : {X : Type 0} (xs : List X) (y : X) → slice_get (xs ++ y ∷ []) (length xs) ≡ Some y
get_seam [] y = refl
get_seam (x ∷ xs) y = get_seam xs y

get_cases : {X : Type 0} (xs : List X) (y : X) (i : ℕ) (x : X) → slice_get (xs ++ y ∷ []) i ≡ Some x → (slice_get xs i ≡ Some x) ⊎ ((i ≡ length xs) × (y ≡ x))
get_cases [] y zero x h = inr (refl, cc)
get_cases [] y (suc i) x h = cc
get_cases (z ∷ xs) y zero x h = inl h
get_cases (z ∷ xs) y (suc i) x h = ⊎_elim (λ e. inl e) (λ e. inr (ap suc e.0, e.1)) (get_cases xs y i x h)

-- those of the processes so far
pub processes_next : (items : List (Bor ProcessTree)) (i : ℕ) (x : Bor ProcessTree) → i < length items → x ≡ get_or items i x → (old mid new : List GraphAt)
    → AreAdded old mid (IsGraphAmong (take i (map (λ q. q.now) items))) → AreAdded mid new (IsGraphOfProcess i x.now)
    → AreAdded old new (IsGraphAmong (take (i + 1) (map (λ q. q.now) items)))
processes_next items i x less is old mid new h k =
    let before = take i (map (λ (q : Bor ProcessTree). q.now) items) in
    let many : length before ≡ i = length_taken i (map (λ (q : Bor ProcessTree). q.now) items) (omega (arith, length-map items (λ (q : Bor ProcessTree). q.now))) in
    subst (λ (ps : List ProcessTree). AreAdded old new (IsGraphAmong ps)) (taken_behind items i x less is)
    (added_both old mid new (IsGraphAmong before) (IsGraphOfProcess i x.now) (IsGraphAmong (before ++ x.now ∷ [])) h k
    (λ g m. ⊎_elim (λ there. inl (m.0, m.1, there, m.3)) (λ last. inr (subst (λ (n : ℕ). IsGraphOfProcess n x.now g) (last.0 ∙ many) (subst (λ q. IsGraphOfProcess m.0 q g) (sym last.1) m.3))) (get_cases before x.now m.0 m.1 m.2))
    (λ g. ⊎_elim (λ m. (m.0, m.1, get_left before x.now m.0 m.1 m.2, m.3)) (λ m. (i, x.now, subst (λ (n : ℕ). slice_get (before ++ x.now ∷ []) n ≡ Some x.now) many (get_seam before x.now), m))))
  where
    length_taken : {X : Type 0} (n : ℕ) (xs : List X) → n ≤ length xs → length (take n xs) ≡ n
    length_taken zero xs le = refl
    length_taken (suc n) [] le = absurd (omega arith)
    length_taken (suc n) (y ∷ xs) le = ap suc (length_taken n xs (omega arith))

pub processes_none : (items : List (Bor ProcessTree)) → AreAdded [] [] (IsGraphAmong (take 0 (map (λ q. q.now) items)))
processes_none items = nothing_added [] (IsGraphAmong []) (λ g h. let e : None ≡ Some h.1 = h.2 in cc)

pub all_graphs : (items : List ItemTree) (graphs : List GraphAt) (processes : List (Bor ProcessTree)) (i : ℕ) → length processes ≤ i → map (λ q. q.now) processes ≡ processes_in items
    → AreAdded [] graphs (IsGraphAmong (take i (map (λ q. q.now) processes))) → AreGraphsOf items graphs
all_graphs items graphs processes i past same h =
    let whole = take_all i (map (λ (q : Bor ProcessTree). q.now) processes) (rw length-map past) ∙ same in
    let k = subst (λ (ps : List ProcessTree). AreAdded [] graphs (IsGraphAmong ps)) whole h in
    record { whole = k.whole; only = λ g has. ⊎_elim (λ none. absurd (omega (arith, none.1))) (λ m. m) (k.only g has) }

-- those of the elements so far
module _ (items : List ElementTree) (i : ℕ) (x : ElementTree) (less : i < length items) (is : x ≡ get_or items i x) (number : ℕ) (old mid : List GraphAt) where
  pub added_past : activity_of x ≡ None → AreAdded old mid (IsGraphInside number (take i items)) → AreAdded old mid (IsGraphInside number (take (i + 1) items))
  added_past none h =
      let e = one_more activity_of items i x less is ∙ ap (λ (o : Option ActivityTree). activities_in (take i items) ++ cons_option o []) none ∙ append-nil (activities_in (take i items)) in
      subst (λ (as_ : List ActivityTree). AreAdded old mid (λ g. (a : ActivityTree) × Contains as_ a × IsGraphIn number g a)) (sym e) h

  pub added_next : (new : List GraphAt) (a : ActivityTree) → activity_of x ≡ Some a → AreAdded old mid (IsGraphInside number (take i items)) → AreAdded mid new (λ g. IsGraphIn number g a) → AreAdded old new (IsGraphInside number (take (i + 1) items))
  added_next new a some h k =
      let before = activities_in (take i items) in
      let e = one_more activity_of items i x less is ∙ ap (λ (o : Option ActivityTree). before ++ cons_option o []) some in
      subst (λ (as_ : List ActivityTree). AreAdded old new (λ g. (b : ActivityTree) × Contains as_ b × IsGraphIn number g b)) (sym e)
      (added_both old mid new (IsGraphInside number (take i items)) (λ g. IsGraphIn number g a) (λ g. (b : ActivityTree) × Contains (before ++ a ∷ []) b × IsGraphIn number g b) h k
      (λ g m. ⊎_elim (λ there. inl (m.0, there, m.2)) (λ same. inr (subst (IsGraphIn number g) (sym same) m.2)) (Contains-push_cases before a m.0 m.1))
      (λ g. ⊎_elim (λ m. (m.0, Contains-append_left before (a ∷ []) m.0 m.1, m.2)) (λ m. (a, Contains-push before a, m))))
