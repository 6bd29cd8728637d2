-- What is due below a part is due of an attempt that has started.
use Rattle.fate_laws.proofs.Items.{part_one}
use Rattle.fate_laws.specs.WellFormed.{Well}
use Rattle.flow_model.specs.Rows.{same_part}
use Rattle.flow_model.specs.ScopeContainers.{graph_in, up_to}
use Rattle.flow_model.specs.Scopes.{Known, at, Start, part, output, tree_ends, started_at}
use Rattle.flow_model.specs.declared.graphs.Activity.{Activity}
use Rattle.flow_model.specs.declared.graphs.Container.{Container}
use Rattle.flow_model.specs.declared.graphs.Graph.{Graph, out-Graph}
use Rattle.flow_model.specs.declared.graphs.Template.{Template}
use Rattle.flow_model.specs.declared.instances.Part.{Part}
use Rattle.std.proofs.Common.{◌≡◌, ℕ, zero, suc, ◌+◌, ◌≤◌, Bool, true, false, ◌&&◌, List, [], ◌∷◌, length, refl, sym, ◌∙◌, Option, Some, None, arith, inl, inr, subst}
use Rattle.std.proofs.lemmas.Bool.{cases_lt}
use Rattle.std.specs.List.{flat_map}
use Rattle.std.specs.Prelude.{slice_get}
use Rattle.view_laws.proofs.Counting.{times-append}
use Rattle.view_laws.proofs.DueOnce.{tops, of_other, reached_one}
use Rattle.view_laws.proofs.Honest.{Honest}
use Rattle.view_laws.proofs.SameNotes.{itself, one}
use Rattle.view_laws.proofs.StartedParts.{HasScope, listed_starts}
use Rattle.view_laws.proofs.Trusting.{pushed_none, due_pushed, tops_signal, tops_end, no_end, tree_honest}
use Rattle.view_laws.specs.Messages.{Note, BeginNote, SignalNote, EndNote, push, is_given, due_of, due_with, due_at, due_in}
use Rattle.view_laws.specs.Queues.{Engine, times}
use Rattle.view_laws.specs.Runs.{Root, Event, engine}

module _ (r : Root) (qf : Note → ℕ) where
  abbrev x : Engine Note Event
  x = engine r qf

  -- what stands in a list of lists stands in one of them
  flat_some : {A : Type 0} (f : A → List Note) (xs : List A) (m : Note) → 1 ≤ times x (flat_map f xs) m
      → (number : ℕ) × (a : A) × (slice_get xs number ≡ Some a) × (1 ≤ times x (f a) m)
  flat_some f [] m some = absurd (omega arith)
  flat_some f (a ∷ xs) m some =
      let all = times-append x itself one (f a) (flat_map f xs) m in
      elim (cases_lt 0 (times x (f a) m)) [
        | inl here ↦ (0, a, refl, omega (arith, here))
        | inr none ↦ let rest = flat_some f xs m (omega arith) in (suc rest.0, rest.1, rest.2, rest.3)
      ]

  -- a message below a part is due only where that part has started, as a scope
  pub due_started : (ts : List Template) (depth : ℕ) (k : Known) (g : Graph) (i : Container) (q : Part) (m : Note) → 1 ≤ times x (due_in ts depth k g i) (push q m)
      → (d : ℕ) × (depth ≡ suc d) × HasScope ts depth k g i q
  due_started ts zero k g i q m some =
      let none = pushed_none r qf (out-Graph g).controls (out-Graph g).controls (tree_ends ts zero k g i) q m in
      absurd (omega arith)
  due_started ts (suc depth) k g i q m some =
      let pushed = due_pushed r qf ts depth k g i q m in
      let there = flat_some (λ a. due_at ts (output ts (suc depth)) (due_in ts depth) k g i (tree_ends ts (suc depth) k g i) a (slice_get (out-Graph g).activities a))
      (up_to (length (out-Graph g).activities) 0) (push q m) (omega arith) in
      (depth, refl, at_place there.1 (slice_get (out-Graph g).activities there.1) refl there.3)
    where
      of_start : (a : ℕ) (activity : Activity) → slice_get (out-Graph g).activities a ≡ Some activity → (h : Graph) → graph_in ts activity.work ≡ Some h → (number : ℕ) (s : Start)
          → slice_get (started_at ts k (output ts (suc depth)) g i (tree_ends ts (suc depth) k g i) a activity) number ≡ Some s
          → 1 ≤ times x (due_of k (part activity.name s.attempt) (output ts (suc depth) (at (part activity.name s.attempt) k) h s.input) (due_in ts depth (at (part activity.name s.attempt) k) h s.input)) (push q m)
          → (b : Bool) → same_part q (part activity.name s.attempt) ≡ b → HasScope ts (suc depth) k g i q
      of_start a activity is h of number s found some' false other =
          let none = of_other r qf k q (part activity.name s.attempt) (output ts (suc depth) (at (part activity.name s.attempt) k) h s.input) (due_in ts depth (at (part activity.name s.attempt) k) h s.input) m other in
          absurd (omega arith)
      of_start a activity is h of number s found some' true same = record {
        place = a;
        activity = activity;
        attempt = s.attempt;
        input = s.input;
        graph = h;
        named = sym (part_one q (part activity.name s.attempt) same);
        of = of;
        starts = listed_starts ts (suc depth) k g i a activity number s is found;
      }

      of_graph : (a : ℕ) (activity : Activity) → slice_get (out-Graph g).activities a ≡ Some activity → (o : Option Graph) → graph_in ts activity.work ≡ o
          → 1 ≤ times x (due_with (output ts (suc depth)) (due_in ts depth) k activity.name o (started_at ts k (output ts (suc depth)) g i (tree_ends ts (suc depth) k g i) a activity)) (push q m)
          → HasScope ts (suc depth) k g i q
      of_graph a activity is None of some' = absurd (omega arith)
      of_graph a activity is (Some h) of some' =
          let there = flat_some (λ s. due_of k (part activity.name s.attempt) (output ts (suc depth) (at (part activity.name s.attempt) k) h s.input) (due_in ts depth (at (part activity.name s.attempt) k) h s.input))
          (started_at ts k (output ts (suc depth)) g i (tree_ends ts (suc depth) k g i) a activity) (push q m) some' in
          of_start a activity is h of there.0 there.1 there.2 there.3 (same_part q (part activity.name there.1.attempt)) refl

      at_place : (a : ℕ) (o : Option Activity) → slice_get (out-Graph g).activities a ≡ o
          → 1 ≤ times x (due_at ts (output ts (suc depth)) (due_in ts depth) k g i (tree_ends ts (suc depth) k g i) a (slice_get (out-Graph g).activities a)) (push q m)
          → HasScope ts (suc depth) k g i q
      at_place a None is some' =
          let moved : times x (due_at ts (output ts (suc depth)) (due_in ts depth) k g i (tree_ends ts (suc depth) k g i) a (slice_get (out-Graph g).activities a)) (push q m) ≡ 0 = rw is refl in
          absurd (omega arith)
      at_place a (Some activity) is some' = of_graph a activity is (graph_in ts activity.work) refl (rw is at some')

  -- what is due below a scope that has started, by what is due there
  pub scope_due : (ts : List Template) (depth : ℕ) (k : Known) (g : Graph) (i : Container) → Well ts (suc depth) g → (q : Part) (scope : HasScope ts (suc depth) k g i q) (m : Note)
      → times x (due_in ts (suc depth) k g i) (push q m)
      ≡ times x (tops r qf k q (output ts (suc depth) (at q k) scope.graph scope.input)) m + times x (due_in ts depth (at q k) scope.graph scope.input) m
  scope_due ts depth k g i well q scope m =
      let P : Part → Type 0 = λ u. times x (due_in ts (suc depth) k g i) (push u m)
      ≡ times x (tops r qf k u (output ts (suc depth) (at u k) scope.graph scope.input)) m + times x (due_in ts depth (at u k) scope.graph scope.input) m in
      let own : Part = part scope.activity.name scope.attempt in
      subst P scope.named
      (due_pushed r qf ts depth k g i own m
      ∙ reached_one r qf ts k (output ts (suc depth)) (due_in ts depth) g i (tree_ends ts (suc depth) k g i) well.named scope.attempt scope.input m scope.place scope.activity scope.graph
      scope.starts.is scope.of scope.starts.active scope.starts.reach
      ∙ times-append x itself one (tops r qf k own (output ts (suc depth) (at own k) scope.graph scope.input)) (due_in ts depth (at own k) scope.graph scope.input) m)

  -- ---- what counts of messages is due

  -- each message of the scope and of those below that counts is due
  pub record AreDue (ts : List Template) (depth : ℕ) (k : Known) (g : Graph) (i : Container) : Type 0 where
    pub signals : (p : List Part) (a b : ℕ) (v : Bool) (o : Option Bool) → k.sent p a b o ≡ Some v → 1 ≤ times x (due_in ts depth k g i) (SignalNote p a b v)
    pub ends : (q : Part) (p : List Part) → k.closed (q ∷ p) ≡ true → 1 ≤ times x (due_in ts depth k g i) (EndNote (q ∷ p))
    pub begins : (q : Part) (p : List Part) → k.begun (q ∷ p) ≡ true → 1 ≤ times x (due_in ts depth k g i) (BeginNote (q ∷ p))

  -- no BEGIN of a scope further in is due with the attempt itself
  pub tops_begin_below : (k : Known) (q : Part) (o : Option Container) (s : Part) (p : List Part) → times x (tops r qf k q o) (BeginNote (s ∷ p)) ≡ 0
  tops_begin_below k q o s p = go (k.begun (q ∷ []) && is_given o) refl
    where
      go : (e : Bool) → (k.begun (q ∷ []) && is_given o) ≡ e → times x (tops r qf k q o) (BeginNote (s ∷ p)) ≡ 0
      go true is = rw is refl
      go false is = rw is refl

  -- so it is in a scope that has started
  pub due_inside : (ts : List Template) (depth : ℕ) (k : Known) (g : Graph) (i : Container) → Well ts (suc depth) g → AreDue ts (suc depth) k g i
      → (q : Part) (scope : HasScope ts (suc depth) k g i q) → AreDue ts depth (at q k) scope.graph scope.input
  due_inside ts depth k g i well due q scope = record {
    signals = λ p a b v o was.
        let w = due.signals (q ∷ p) a b v o was in
        let t = scope_due ts depth k g i well q scope (SignalNote p a b v) in
        let z = tops_signal r qf k q (output ts (suc depth) (at q k) scope.graph scope.input) p a b v in
        omega arith;
    ends = λ s p was.
        let w = due.ends q (s ∷ p) was in
        let t = scope_due ts depth k g i well q scope (EndNote (s ∷ p)) in
        let z = tops_end r qf k q (output ts (suc depth) (at q k) scope.graph scope.input) s p in
        omega arith;
    begins = λ s p was.
        let w = due.begins q (s ∷ p) was in
        let t = scope_due ts depth k g i well q scope (BeginNote (s ∷ p)) in
        let z = tops_begin_below k q (output ts (suc depth) (at q k) scope.graph scope.input) s p in
        omega arith;
  }

  -- so what was told is so
  pub honest_of : (ts : List Template) (depth : ℕ) (k : Known) (g : Graph) (i : Container) → Well ts depth g → AreDue ts depth k g i → Honest ts depth k g i
  honest_of ts depth k g i well due = tree_honest r qf ts depth k g i well due.signals due.ends

  -- an END that is due is of a scope that has begun and is complete
  pub end_complete : (ts : List Template) (depth : ℕ) (k : Known) (g : Graph) (i : Container) → Well ts (suc depth) g → (q : Part) (scope : HasScope ts (suc depth) k g i q)
      → 1 ≤ times x (due_in ts (suc depth) k g i) (EndNote (q ∷ [])) → (out : Container) × (output ts (suc depth) (at q k) scope.graph scope.input ≡ Some out)
  end_complete ts depth k g i well q scope some =
      let t = scope_due ts depth k g i well q scope (EndNote []) in
      let z = no_end r qf ts depth (at q k) scope.graph scope.input in
      go (output ts (suc depth) (at q k) scope.graph scope.input) (omega arith)
    where
      no_one : (o : Option Container) → (k.begun (q ∷ []) && is_given o) ≡ false → times x (tops r qf k q o) (EndNote []) ≡ 0
      no_one o shut = rw shut refl

      not_begun : (b : Bool) → (b && false) ≡ false
      not_begun true = refl
      not_begun false = refl

      go : (o : Option Container) → 1 ≤ times x (tops r qf k q o) (EndNote []) → (out : Container) × (o ≡ Some out)
      go None some' = let none = no_one None (not_begun (k.begun (q ∷ []))) in absurd (omega arith)
      go (Some out) some' = (out, refl)
