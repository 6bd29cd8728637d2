-- Where more attempts are looked at, the same is due, and an item that may be completed is still ready.
use Rattle.std.proofs.Common.{◌≡◌, ℕ, zero, suc, ◌≤◌, List, [], ◌∷◌, ◌++◌, length, Option, Some, None, refl, ap, ◌∙◌, arith}
use Rattle.std.specs.Prelude.{slice_get}
use Rattle.std.specs.List.{flat_map}
use Rattle.fate_laws.proofs.ItemsBelow.{Covers, strip, covers_at, strip_at_most}
use Rattle.fate_laws.specs.WellFormed.{Well}
use Rattle.flow_model.specs.Fates.{Ends}
use Rattle.flow_model.specs.ScopeContainers.{graph_in, up_to}
use Rattle.flow_model.specs.Scopes.{Known, at, part, Runs, Start, fate_given, started_at, output, tree_ends}
use Rattle.flow_model.specs.declared.graphs.Activity.{Activity}
use Rattle.flow_model.specs.declared.graphs.Container.{Container}
use Rattle.flow_model.specs.declared.graphs.Graph.{Graph, out-Graph}
use Rattle.flow_model.specs.declared.graphs.Template.{Template}
use Rattle.flow_model.specs.declared.instances.Part.{Part}
use Rattle.navigator.proofs.CompleteGiven.{IsReadyAt}
use Rattle.navigator.proofs.DueParts.{own_notes, due_place, due_start, due_by}
use Rattle.navigator.proofs.Merges.{flat_same}
use Rattle.navigator.proofs.MoreLooked.{most_output, same_view, starts_most}
use Rattle.navigator.proofs.Stepping.{counted_covers, counted_at}
use Rattle.navigator.specs.Showing.{IsCounted}
use Rattle.view_laws.specs.Coming.{MayComplete, Leads}
use Rattle.view_laws.specs.Learning.{with_most}
use Rattle.view_laws.specs.Messages.{Note, due_with, due_at, due_in}

-- ---- what is due

by_most : (runs : Runs) (below : Known → Graph → Container → List Note) (r : Part) (h : Graph) (i : Container) (most : ℕ) (j : Known)
    → runs (with_most most j) h i ≡ runs j h i → below (with_most most j) h i ≡ below j h i → due_by runs below r h i (with_most most j) ≡ due_by runs below r h i j
by_most runs below r h i most j gave due = rw (gave, due) refl

-- the same is due
pub due_most : (ts : List Template) (depth : ℕ) (k : Known) (most : ℕ) (items : List (List Part)) (g : Graph) (input : Container) → Well ts depth g → Covers k items
    → length items ≤ k.most → length items ≤ most → due_in ts depth (with_most most k) g input ≡ due_in ts depth k g input
due_most ts zero k most items g input well covers enough enough' = ap (own_notes g) (same_view ts zero k most items g input well covers enough enough').ends
due_most ts (suc depth) k most items g input well covers enough enough' =
    let same = same_view ts (suc depth) k most items g input well covers enough enough' in
    let e : Ends = tree_ends ts (suc depth) k g input in
    ap (λ (f : Ends). own_notes g f ++ flat_map (due_place ts (suc depth) (with_most most k) g input f) (up_to (length (out-Graph g).activities) 0)) same.ends
    ∙ ap (λ l. own_notes g e ++ l)
    (flat_same (due_place ts (suc depth) k g input e) (due_place ts (suc depth) (with_most most k) g input e) (up_to (length (out-Graph g).activities) 0)
    (λ c a there. each e a (λ activity is. same.starts e a activity is)
    (λ r h i ok. due_most ts depth (at r k) most (strip r items) h i ok (covers_at k items r covers) (fewer r k.most enough) (fewer r most enough'))
    (slice_get (out-Graph g).activities a) refl))
  where
    fewer : (q : Part) (n : ℕ) → length items ≤ n → length (strip q items) ≤ n
    fewer q n le = let less = strip_at_most q items in omega arith

    each : (e : Ends) (a : ℕ)
        → ((activity : Activity) → slice_get (out-Graph g).activities a ≡ Some activity
        → started_at ts (with_most most k) (output ts (suc depth)) g input e a activity ≡ started_at ts k (output ts (suc depth)) g input e a activity)
        → ((r : Part) (h : Graph) (i : Container) → Well ts depth h → due_in ts depth (with_most most (at r k)) h i ≡ due_in ts depth (at r k) h i)
        → (o : Option Activity) → slice_get (out-Graph g).activities a ≡ o
        → due_at ts (output ts (suc depth)) (due_in ts depth) (with_most most k) g input e a o ≡ due_at ts (output ts (suc depth)) (due_in ts depth) k g input e a o
    each e a starts below None is = refl
    each e a starts below (Some activity) is =
        ap (due_with (output ts (suc depth)) (due_in ts depth) (with_most most k) activity.name (graph_in ts activity.work)) (starts activity is)
        ∙ go (graph_in ts activity.work) refl (started_at ts k (output ts (suc depth)) g input e a activity)
      where
        go : (o : Option Graph) → graph_in ts activity.work ≡ o → (ss : List Start)
            → due_with (output ts (suc depth)) (due_in ts depth) (with_most most k) activity.name o ss ≡ due_with (output ts (suc depth)) (due_in ts depth) k activity.name o ss
        go None of ss = refl
        go (Some h) of ss =
            flat_same (due_start (output ts (suc depth)) (due_in ts depth) k activity.name h) (due_start (output ts (suc depth)) (due_in ts depth) (with_most most k) activity.name h) ss
            (λ c s there.
            let r : Part = part activity.name s.attempt in
            by_most (output ts (suc depth)) (due_in ts depth) r h s.input most (at r k)
            (most_output ts depth (at r k) most (strip r items) h s.input (well.inside a activity is h of) (covers_at k items r covers) (fewer r k.most enough) (fewer r most enough'))
            (below r h s.input (well.inside a activity is h of)))

-- ---- an item that is ready

-- the path to it leads along the same attempts
pub leads_ready : (ts : List Template) (q : Part) (most : ℕ) (p : List Part) (depth : ℕ) (k : Known) (g : Graph) (input : Container) → Well ts depth g → IsCounted k → k.most ≤ most
    → Leads (λ d j h i. MayComplete ts d j h i q) ts depth k g input p → Leads (λ d j h i. IsReadyAt ts d j h i q) ts depth (with_most most k) g input p
leads_ready ts q most [] depth k g input well counted le may =
    let enough = counted.enough in
    let same = same_view ts depth k most counted.items g input well (counted_covers k counted) enough (omega arith) in
    record {
      begun = may.begun;
      place = may.place;
      activity = may.activity;
      program = may.program;
      is = may.is;
      runs = may.runs;
      name = may.name;
      ready = ap (λ e. fate_given ts (with_most most k) (output ts depth) g input e may.place) same.ends ∙ same.fates (tree_ends ts depth k g input) may.place ∙ may.ready;
    }
leads_ready ts q most (r ∷ p) zero k g input well counted le leads = absurd leads
leads_ready ts q most (r ∷ p) (suc depth) k g input well counted le leads =
    let enough = counted.enough in
    let same = same_view ts (suc depth) k most counted.items g input well (counted_covers k counted) enough (omega arith) in
    record {
      place = leads.place;
      activity = leads.activity;
      graph = leads.graph;
      number = leads.number;
      start = leads.start;
      is = leads.is;
      of = leads.of;
      named = leads.named;
      started = ap (λ (ss : List Start). slice_get ss leads.number) (starts_most ts (suc depth) most k g input same leads.place leads.activity leads.is) ∙ leads.started;
      unclosed = leads.unclosed;
      within = leads_ready ts q most p depth (at r k) leads.graph leads.start.input (well.inside leads.place leads.activity leads.is leads.graph leads.of) (counted_at r k counted) le leads.within;
    }
