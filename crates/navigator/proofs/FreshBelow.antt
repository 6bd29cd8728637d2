-- What became due in a scope further in became due around it, and nothing else did.
use Rattle.std.proofs.Common.{◌≡◌, ℕ, suc, ◌+◌, ◌<◌, ◌==◌, if◌then◌else◌, List, [], ◌∷◌, ◌++◌, map, length, Option, Some, None, refl, ap, sym, ◌∙◌, subst, arith, inl, inr}
use Rattle.std.specs.Prelude.{◌≢◌, slice_get}
use Rattle.std.specs.List.{flat_map}
use Rattle.std.proofs.lemmas.Bool.Decides.{eqb_tells}
use Rattle.std.proofs.lemmas.Option.{slice_get_within}
use Rattle.flow_model.specs.Fates.{Ends}
use Rattle.flow_model.specs.ScopeContainers.{graph_in, up_to}
use Rattle.flow_model.specs.Scopes.{Known, at, part, Runs, Start, started_at, output, tree_ends}
use Rattle.flow_model.specs.declared.graphs.Activity.{Activity}
use Rattle.flow_model.specs.declared.graphs.Container.{Container}
use Rattle.flow_model.specs.declared.graphs.Graph.{Graph, out-Graph}
use Rattle.flow_model.specs.declared.graphs.Template.{Template}
use Rattle.flow_model.specs.declared.instances.Part.{Part}
use Rattle.navigator.proofs.Completing.{parts_apart}
use Rattle.navigator.proofs.DueParts.{due_place, own_notes, due_by, due_start, is_over, all_notes, due_pushed}
use Rattle.navigator.proofs.Leading.{at_here, at_other, same_on_the_way}
use Rattle.navigator.proofs.Merges.{Merges, merges_same, merges_append, merges_map, merges_flat, merges_one, flat_same, flat_only}
use Rattle.navigator.proofs.RowLists.{started_numbered}
use Rattle.navigator.proofs.SameActivities.{Named}
use Rattle.navigator.proofs.ShownAgain.{IsSameScope, ends_as_before, starts_as_before}
use Rattle.view_laws.specs.Coming.{IsOpenAttempt}
use Rattle.view_laws.specs.Learning.{with_below}
use Rattle.view_laws.specs.Messages.{Note, push, due_with, due_at, due_in}

-- ---- one step up

module _ (ts : List Template) (depth : ℕ) (k j : Known) (g : Graph) (input : Container) (q : Part) (named : Named g) (within : Graph → Container → Type 0)
    (most : j.most ≡ k.most) (given : j.given [] ≡ k.given (q ∷ [])) (closed : j.closed [] ≡ k.closed (q ∷ [])) (attempt : IsOpenAttempt ts (suc depth) k g input q within)
    (adds : List Note) (inside : Merges (all_notes ts depth (at q k) attempt.graph attempt.start.input) adds (all_notes ts depth j attempt.graph attempt.start.input)) where
  abbrev K : Known
  K = with_below q j k

  abbrev runs : Runs
  runs = output ts (suc depth)

  abbrev e : Ends
  e = tree_ends ts (suc depth) k g input

  abbrev n : ℕ
  n = length (out-Graph g).activities

  abbrev a : ℕ
  a = attempt.place

  abbrev same_scope : IsSameScope ts runs k K
  same_scope = same_on_the_way ts runs k j q given (closed ∙ attempt.unclosed) attempt.unclosed

  ends : tree_ends ts (suc depth) K g input ≡ e
  ends = ends_as_before ts runs k K g input same_scope

  same_starts : (x : ℕ) (y : Activity) → started_at ts K runs g input e x y ≡ started_at ts k runs g input e x y
  same_starts x y = starts_as_before ts runs k K g input same_scope e x y

  -- the scope around isn't complete by it
  pub over_as_before : is_over ts (suc depth) K g input ≡ is_over ts (suc depth) k g input
  over_as_before = rw ends refl

  start_as_before : (name : _) (h : Graph) (t : Start) → part name t.attempt ≢ q → due_start runs (due_in ts depth) K name h t ≡ due_start runs (due_in ts depth) k name h t
  start_as_before name h t apart =
      ap (due_by runs (due_in ts depth) (part name t.attempt) h t.input) (at_other q (part name t.attempt) j k (parts_apart q (part name t.attempt) apart))

  -- what is due of the attempt itself
  attempt_merges : Merges (due_start runs (due_in ts depth) k attempt.activity.name attempt.graph attempt.start) (map (push q) adds)
      (due_start runs (due_in ts depth) K attempt.activity.name attempt.graph attempt.start)
  attempt_merges =
      let h = attempt.graph in
      let i = attempt.start.input in
      let pushed = merges_map (push q) (all_notes ts depth (at q k) h i) adds (all_notes ts depth j h i) inside in
      let old : Merges (due_by runs (due_in ts depth) q h i (at q k)) (map (push q) adds) (map (push q) (all_notes ts depth j h i))
      = subst (λ l. Merges l (map (push q) adds) (map (push q) (all_notes ts depth j h i))) (sym (due_pushed ts depth q h i (at q k))) pushed in
      let new : Merges (due_by runs (due_in ts depth) q h i (at q k)) (map (push q) adds) (due_by runs (due_in ts depth) q h i j)
      = subst (λ l. Merges (due_by runs (due_in ts depth) q h i (at q k)) (map (push q) adds) l) (sym (due_pushed ts depth q h i j)) old in
      let here : Merges (due_by runs (due_in ts depth) q h i (at q k)) (map (push q) adds) (due_by runs (due_in ts depth) q h i (at q K))
      = subst (λ u. Merges (due_by runs (due_in ts depth) q h i (at q k)) (map (push q) adds) (due_by runs (due_in ts depth) q h i u)) (sym (at_here q j k most)) new in
      subst (λ r. Merges (due_by runs (due_in ts depth) r h i (at r k)) (map (push q) adds) (due_by runs (due_in ts depth) r h i (at r K))) (sym attempt.named) here

  abbrev old_at : ℕ → Option Activity → List Note
  old_at x o = due_at ts runs (due_in ts depth) k g input e x o

  abbrev new_at : ℕ → Option Activity → List Note
  new_at x o = due_at ts runs (due_in ts depth) K g input e x o

  here_merges : Merges (old_at a (Some attempt.activity)) (map (push q) adds) (new_at a (Some attempt.activity))
  here_merges =
      let name = attempt.activity.name in
      let h = attempt.graph in
      let ss = started_at ts k runs g input e a attempt.activity in
      let one = merges_one (due_start runs (due_in ts depth) k name h) (due_start runs (due_in ts depth) K name h) (map (push q) adds) ss attempt.number attempt.start attempt.started
      (λ c t apart there. start_as_before name h t (λ same. apart (by_number c t there same))) attempt_merges in
      rw (attempt.of, same_starts a attempt.activity) one
    where
      by_number : (c : ℕ) (t : Start) → slice_get (started_at ts k runs g input e a attempt.activity) c ≡ Some t → part attempt.activity.name t.attempt ≡ q → c ≡ attempt.number
      by_number c t there same =
          let mine : attempt.start.attempt ≡ attempt.number + 1 = started_numbered ts k runs g input e a attempt.activity attempt.number attempt.start attempt.started in
          let its : t.attempt ≡ c + 1 = started_numbered ts k runs g input e a attempt.activity c t there in
          let equal : t.attempt ≡ attempt.start.attempt = ap (λ (r : Part). r.attempt) (same ∙ sym attempt.named) in
          omega arith

  elsewhere_same : (x : ℕ) (o : Option Activity) → (x ≡ a → ⊥) → slice_get (out-Graph g).activities x ≡ o → new_at x o ≡ old_at x o
  elsewhere_same x None apart is = refl
  elsewhere_same x (Some y) apart is =
      ap (due_with runs (due_in ts depth) K y.name (graph_in ts y.work)) (same_starts x y) ∙ go (graph_in ts y.work)
    where
      away : (t : Start) → part y.name t.attempt ≢ q
      away t same = apart (named x a y attempt.activity is attempt.is (ap (λ (r : Part). r.name) (same ∙ sym attempt.named)))

      go : (o : Option Graph)
          → due_with runs (due_in ts depth) K y.name o (started_at ts k runs g input e x y) ≡ due_with runs (due_in ts depth) k y.name o (started_at ts k runs g input e x y)
      go None = refl
      go (Some h) =
          flat_same (due_start runs (due_in ts depth) k y.name h) (due_start runs (due_in ts depth) K y.name h) (started_at ts k runs g input e x y) (λ c t there. start_as_before y.name h t (away t))

  abbrev place_adds : ℕ → List Note
  place_adds x = if x == a then map (push q) adds else []

  place_merges : (x : ℕ) → Merges (old_at x (slice_get (out-Graph g).activities x)) (place_adds x) (new_at x (slice_get (out-Graph g).activities x))
  place_merges x = elim (eqb_tells x a) [
    | inl is ↦
        let there : slice_get (out-Graph g).activities x ≡ Some attempt.activity = ap (slice_get (out-Graph g).activities) is.1 ∙ attempt.is in
        rw (is.0, there) (subst (λ z. Merges (old_at z (Some attempt.activity)) (map (push q) adds) (new_at z (Some attempt.activity))) (sym is.1) here_merges)
    | inr other ↦
        rw other.0
        (subst (λ l. Merges (old_at x (slice_get (out-Graph g).activities x)) [] l) (sym (elsewhere_same x (slice_get (out-Graph g).activities x) other.1 refl))
        (merges_same (old_at x (slice_get (out-Graph g).activities x))))
  ]

  only_here : flat_map place_adds (up_to n 0) ≡ map (push q) adds
  only_here =
      let less : a < n = slice_get_within (out-Graph g).activities a attempt.activity attempt.is in
      flat_only place_adds a n 0 (λ x apart. elim (eqb_tells x a) [ inl is ↦ absurd (apart is.1) | inr other ↦ rw other.0 refl ]) (omega arith) (omega arith)
      ∙ elim (eqb_tells a a) [ inl is ↦ rw is.0 refl | inr other ↦ absurd (other.1 refl) ]

  -- what became due in the attempt became due here
  pub below_merges : Merges (due_in ts (suc depth) k g input) (map (push q) adds) (due_in ts (suc depth) K g input)
  below_merges =
      let places = merges_flat (λ x. old_at x (slice_get (out-Graph g).activities x)) place_adds (λ x. new_at x (slice_get (out-Graph g).activities x)) n 0 (λ x low high. place_merges x) in
      let all = merges_append (own_notes g e) [] (own_notes g e) (flat_map (due_place ts (suc depth) k g input e) (up_to n 0)) (flat_map place_adds (up_to n 0))
      (flat_map (due_place ts (suc depth) K g input e) (up_to n 0)) (merges_same (own_notes g e)) places in
      subst (λ (f : Ends). Merges (due_in ts (suc depth) k g input) (map (push q) adds) (own_notes g f ++ flat_map (due_place ts (suc depth) K g input f) (up_to n 0))) (sym ends)
      (subst (λ l. Merges (due_in ts (suc depth) k g input) l (own_notes g e ++ flat_map (due_place ts (suc depth) K g input e) (up_to n 0))) only_here all)
