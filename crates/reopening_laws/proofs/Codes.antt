-- The outputs of activities begin with a return code: in what a text means, in the graphs of a library, and at items.
use Rattle.std.proofs.Common.{◌≡◌, ℕ, zero, suc, ◌+◌, Bool, true, false, if◌then◌else◌, List, [], ◌∷◌, ◌++◌, Option, Some, None}
use Rattle.std.proofs.Common.{option_and_then, refl, sym, ap, subst, ◌∙◌}
use Rattle.std.specs.Prelude.{slice_get, nat_le, ◌&&◌}
use Rattle.std.proofs.lemmas.List.Elements.{All-nil, All-cons, All-head, All-tail}
use Rattle.std.proofs.lemmas.Option.{none-some}
use Rattle.activity_states.specs.States.{State as ItemState, fate_of}
use Rattle.flow_model.specs.ScopeContainers.{graph_in, graph_of}
use Rattle.flow_model.specs.declared.graphs.Activity.{Activity}
use Rattle.flow_model.specs.declared.graphs.Graph.{Graph, out-Graph}
use Rattle.flow_model.specs.declared.graphs.Leaf.{Leaf}
use Rattle.flow_model.specs.declared.graphs.Program.{Program as ProgramOf}
use Rattle.flow_model.specs.declared.graphs.Template.{Template}
use Rattle.flow_model.specs.declared.graphs.Work.{Work, Program, Block, Process}
use Rattle.flow_model.specs.declared.instances.Part.{Part}
use Rattle.flow_model.specs.declared.instances.Path.{Path}
use Rattle.flow_model.specs.declared.trees.ActivityTree.{ActivityTree}
use Rattle.flow_model.specs.declared.trees.ProcessTree.{ProcessTree}
use Rattle.leaf_rules.specs.Leaves.{with_code}
use Rattle.leaf_rules.specs.ReturnCodes.{return_code}
use Rattle.machine.specs.Items.{Entry, attempts_in, entry_of, entry_in, entry_at, stand_by, program_in, entry_with, program_entry}
use Rattle.machine.specs.Moves.{graph_under}
use Rattle.machine.specs.Rows.{Row, Standing, Item, Inner, Scopes, inside, place_of, attempt_place}
use Rattle.machine.specs.States.{Root, State, templates, item_in}
use Rattle.template_check.specs.Meant.{Reading, AreParts, NoneLeft, NoPart, OnePart, IsOne, IsWork, IsActivity, MeantTo, AreMeantFrom}
use Rattle.template_check.specs.Meant.{ProgramOf as RunsProgram, ProcessOf as RunsProcess, BlockOf as RunsBlock}
use Rattle.text_graphs.specs.GraphTexts.{GraphText, process_text, block_text}
use Rattle.text_graphs.specs.Texts.{activities_in}
use Rattle.reopening_laws.specs.Codes.{BeginsWithCode, HasCodesTo, HasCodes, HaveCodes, ItemsHaveCodes}

same_some : {X : Type 0} (x y : X) → Some x ≡ Some y → x ≡ y
same_some x y is = cc

-- ---- what a text means

code_first : (o : Option (List Leaf)) (leaves : List Leaf) → with_code o ≡ Some leaves → BeginsWithCode leaves
code_first None leaves none = absurd (none-some leaves none)
code_first (Some found) leaves is = (found, sym (same_some (return_code ∷ found) leaves is))

-- what stands at a place comes from an element
part_at : {X Y : Type 0} (R : X → Y → Type 0) (xs : List X) (ys : List Y) (i : ℕ) (y : Y) → AreParts (IsOne R) xs ys
    → slice_get ys i ≡ Some y → (x : X) × R x y
part_at R _ _ i y NoneLeft there = absurd (none-some y there)
part_at R _ _ i y (NoPart one parts) there = absurd one
part_at R _ _ zero y (OnePart {x} {y = z} one parts) there = (x, subst (R x) (same_some z y there) one)
part_at R _ _ (suc i) y (OnePart {xs} {ys} one parts) there = part_at R xs ys i y parts there

-- the graph of a block, as it is meant
work_inside : (P : GraphText → Graph → Type 0) (Q : Graph → Type 0) → ((t : GraphText) (h : Graph) → P t h → Q h)
    → (r : Reading) (g : GraphText) (a : ActivityTree) (work : Work) → IsWork P r g a work → (h : Graph)
    → graph_in [] work ≡ Some h → Q h
work_inside P Q more r g a work (RunsProgram is made) h there =
    absurd (none-some h (sym (ap (graph_in []) made) ∙ there))
work_inside P Q more r g a work (RunsProcess name place is found made) h there =
    absurd (none-some h (sym (ap (graph_in []) made) ∙ there))
work_inside P Q more r g a (Program p) (RunsBlock inner is has) h there = absurd has
work_inside P Q more r g a (Block k) (RunsBlock inner is has) h there =
    subst Q (same_some k h there) (more (block_text g.process a inner) k has)
work_inside P Q more r g a (Process t) (RunsBlock inner is has) h there = absurd has

meant_codes : (depth : ℕ) (r : Reading) (g : GraphText) (made : Graph) → MeantTo r depth g made → HasCodesTo depth made
meant_codes zero r g made meant = tt
meant_codes (suc depth) r g made meant = λ a activity there. (
    let part = part_at (IsActivity (MeantTo r depth) r g) (activities_in g.elements) (out-Graph made).activities a activity meant.activities there in
    record {
      code = code_first (r.leaves part.0.output.name) activity.output.leaves part.1.output;
      inside = λ h at.
          work_inside (MeantTo r depth) (HasCodesTo depth) (λ t k is. meant_codes depth r t k is) r g part.0 activity.work
          part.1.works h at;
    })

pub all_meant : (r : Reading) (number : ℕ) (ps : List ProcessTree) (ts : List Template) → AreMeantFrom r number ps ts
    → HaveCodes ts
all_meant r number [] [] meant = All-nil (λ t. HasCodes t.graph)
all_meant r number [] (t ∷ ts) meant = absurd meant
all_meant r number (p ∷ ps) [] meant = absurd meant
all_meant r number (p ∷ ps) (t ∷ ts) meant =
    All-cons (λ x. HasCodes x.graph) t ts (λ depth. meant_codes depth r (process_text number p) t.graph (meant.0 depth))
    (all_meant r (number + 1) ps ts meant.1)

-- ---- libraries

pub more_codes : (ts us : List Template) → HaveCodes ts → HaveCodes us → HaveCodes (ts ++ us)
more_codes [] us first second = second
more_codes (t ∷ ts) us first second =
    All-cons (λ x. HasCodes x.graph) t (ts ++ us) (All-head (λ x. HasCodes x.graph) t ts first)
    (more_codes ts us (All-tail (λ x. HasCodes x.graph) t ts first) second)

graph_coded : (ts : List Template) (t : ℕ) (g : Graph) → HaveCodes ts → graph_of ts t ≡ Some g → HasCodes g
graph_coded [] t g coded there = absurd (none-some g there)
graph_coded (x ∷ xs) zero g coded there =
    subst HasCodes (same_some x.graph g there) (All-head (λ y. HasCodes y.graph) x xs coded)
graph_coded (x ∷ xs) (suc t) g coded there = graph_coded xs t g (All-tail (λ y. HasCodes y.graph) x xs coded) there

-- the graph that an activity of such a graph runs
work_coded : (ts : List Template) (work : Work) (h : Graph) → HaveCodes ts
    → ((depth : ℕ) → (k : Graph) → graph_in [] work ≡ Some k → HasCodesTo depth k) → graph_in ts work ≡ Some h
    → HasCodes h
work_coded ts (Program p) h coded inner there = absurd (none-some h there)
work_coded ts (Block g) h coded inner there = λ depth. inner depth h there
work_coded ts (Process t) h coded inner there = graph_coded ts t h coded there

-- ---- items

module _ (ts : List Template) (coded : HaveCodes ts) where
  module _ (g : Graph) (here : HasCodes g) (e : Entry) where
    output_coded : (a : ℕ) (activity : Activity) → slice_get (out-Graph g).activities a ≡ Some activity
        → BeginsWithCode activity.output.leaves
    output_coded a activity there = (here (suc zero) a activity there).code

    by_attempt : (b : Bool) (r : Row) (j a : ℕ) (activity : Activity) (p : ItemState)
        → slice_get (out-Graph g).activities a ≡ Some activity
        → (if b then Some (record { graph = g; row = r; number = a; activity = activity; state = p; attempt = j })
        else None) ≡ Some e → BeginsWithCode e.activity.output.leaves
    by_attempt false r j a activity p there none = absurd (none-some e none)
    by_attempt true r j a activity p there is =
        let both = same_some _ e is in
        subst (λ (x : Entry). BeginsWithCode x.activity.output.leaves) both (output_coded a activity there)

    by_standing : (r : Row) (j a : ℕ) (o : Option Activity) (state : Option Standing)
        → slice_get (out-Graph g).activities a ≡ o → entry_of g r j a o state ≡ Some e
        → BeginsWithCode e.activity.output.leaves
    by_standing r j a None state there none = absurd (none-some e none)
    by_standing r j a (Some activity) None there none = absurd (none-some e none)
    by_standing r j a (Some activity) (Some (Inner stage n)) there none = absurd (none-some e none)
    by_standing r j a (Some activity) (Some (Item p)) there is =
        by_attempt (nat_le 1 j && nat_le j (attempts_in (fate_of p))) r j a activity p there is

    by_place : (r : Row) (j : ℕ) (o : Option ℕ)
        → option_and_then (λ a. entry_of g r j a (slice_get (out-Graph g).activities a) (slice_get r.standings a)) o
        ≡ Some e → BeginsWithCode e.activity.output.leaves
    by_place r j None none = absurd (none-some e none)
    by_place r j (Some a) is =
        by_standing r j a (slice_get (out-Graph g).activities a) (slice_get r.standings a) refl is

    by_begun : (b : Bool) (x : Option Entry) → (x ≡ Some e → BeginsWithCode e.activity.output.leaves)
        → (if b then x else None) ≡ Some e → BeginsWithCode e.activity.output.leaves
    by_begun false x goes none = absurd (none-some e none)
    by_begun true x goes is = goes is

    by_row : (q : Part) (o : Option Row) → entry_in g q o ≡ Some e → BeginsWithCode e.activity.output.leaves
    by_row q None none = absurd (none-some e none)
    by_row q (Some r) is =
        by_begun r.begun
        (option_and_then (λ a. entry_of g r q.attempt a (slice_get (out-Graph g).activities a)
        (slice_get r.standings a)) (place_of g q.name)) (by_place r q.attempt (place_of g q.name)) is

  -- further in
  module _ (r : Part) (qs : List Part) (e : Entry)
      (below : (h : Graph) (u : Scopes) → HasCodes h
      → entry_at ts (r ∷ qs) (record { graph = h; scopes = u }) ≡ Some e → BeginsWithCode e.activity.output.leaves) where
    by_number : (u : Scopes) (a : ℕ) (h : Graph) (i : Option ℕ) → HasCodes h
        → option_and_then (entry_at ts (r ∷ qs)) (stand_by u a (Some h) i) ≡ Some e
        → BeginsWithCode e.activity.output.leaves
    by_number u a h None here none = absurd (none-some e none)
    by_number u a h (Some i) here is = below h (inside a i u) here is

    by_graph : (u : Scopes) (a : ℕ) (o : Option Graph) (i : Option ℕ) → ((h : Graph) → o ≡ Some h → HasCodes h)
        → option_and_then (entry_at ts (r ∷ qs)) (stand_by u a o i) ≡ Some e → BeginsWithCode e.activity.output.leaves
    by_graph u a None i here none = absurd (none-some e none)
    by_graph u a (Some h) i here is = by_number u a h i (here h refl) is

    under_coded : (g : Graph) (a : ℕ) → HasCodes g → (o : Option Activity) → slice_get (out-Graph g).activities a ≡ o
        → (h : Graph) → graph_under ts o ≡ Some h → HasCodes h
    under_coded g a here None at h none = absurd (none-some h none)
    under_coded g a here (Some activity) at h there =
        work_coded ts activity.work h coded (λ depth k is. (here (suc depth) a activity at).inside k is) there

    by_part : (g : Graph) (u : Scopes) (j : ℕ) → HasCodes g → (o : Option ℕ)
        → option_and_then (entry_at ts (r ∷ qs)) (option_and_then
        (λ a. stand_by u a (graph_under ts (slice_get (out-Graph g).activities a)) (attempt_place j)) o) ≡ Some e
        → BeginsWithCode e.activity.output.leaves
    by_part g u j here None none = absurd (none-some e none)
    by_part g u j here (Some a) is =
        by_graph u a (graph_under ts (slice_get (out-Graph g).activities a)) (attempt_place j)
        (under_coded g a here (slice_get (out-Graph g).activities a) refl) is

  along : (q : Part) (qs : List Part) (g : Graph) (u : Scopes) (e : Entry) → HasCodes g
      → entry_at ts (q ∷ qs) (record { graph = g; scopes = u }) ≡ Some e → BeginsWithCode e.activity.output.leaves
  along q [] g u e here is = by_row g here e q (u []) is
  along q (r ∷ qs) g u e here is =
      by_part r qs e (λ h v inner at. along r qs h v e inner at) g u q.attempt here (place_of g q.name) is

  pub entry_coded : (parts : List Part) (g : Graph) (u : Scopes) (e : Entry) → HasCodes g
      → entry_at ts parts (record { graph = g; scopes = u }) ≡ Some e → BeginsWithCode e.activity.output.leaves
  entry_coded [] g u e here none = absurd (none-some e none)
  entry_coded (q ∷ qs) g u e here is = along q qs g u e here is

-- ---- in a state

module _ (s : State) (coded : HaveCodes (templates s)) (path : Path) (e : Entry) where
  in_graph : (r : Root) (o : Option Graph) → graph_of (templates s) r.template ≡ o
      → option_and_then (λ g. entry_at (templates s) path.parts (record { graph = g; scopes = r.scopes })) o ≡ Some e
      → BeginsWithCode e.activity.output.leaves
  in_graph r None there none = absurd (none-some e none)
  in_graph r (Some g) there is =
      entry_coded (templates s) coded path.parts g r.scopes e (graph_coded (templates s) r.template g coded there) is

  in_root : (o : Option Root) → option_and_then (item_in (templates s) (templates s) path) o ≡ Some e
      → BeginsWithCode e.activity.output.leaves
  in_root None none = absurd (none-some e none)
  in_root (Some r) is = in_graph r (graph_of (templates s) r.template) refl is

  with_program : (f : Entry) (o : Option ProgramOf) → entry_with f o ≡ Some e → Some f ≡ Some e
  with_program f None none = absurd (none-some e none)
  with_program f (Some p) is = is

  that_entry : (o : Option Entry) → program_entry o ≡ Some e → o ≡ Some e
  that_entry None none = absurd (none-some e none)
  that_entry (Some f) is = with_program f (program_in f.activity.work) is

pub items_have_codes : (s : State) → HaveCodes (templates s) → ItemsHaveCodes s
items_have_codes s coded path e is =
    in_root s coded path e (s.roots path.root)
    (that_entry s coded path e (option_and_then (item_in (templates s) (templates s) path) (s.roots path.root)) is)
