-- An item that is awaited has started, and nothing was given for it.
use Rattle.fate_laws.proofs.Extends.{both_true}
use Rattle.fate_laws.proofs.EnoughAttempts.{same_tries}
use Rattle.fate_laws.proofs.ItemsBelow.{Covers, among_strip, strip, some_item, count_at_most}
use Rattle.fate_laws.proofs.PlainFates.{fate_in_words}
use Rattle.fate_laws.proofs.Solutions.{order_of, settled_inside}
use Rattle.fate_laws.proofs.Wired.{fed_where_known, known_values}
use Rattle.fate_laws.specs.Equations.{GoesOn}
use Rattle.fate_laws.specs.WellFormed.{Well}
use Rattle.flow_model.specs.Fates.{Ends, connector_value, joined, is_open}
use Rattle.flow_model.specs.ScopeContainers.{base_of}
use Rattle.flow_model.specs.Scopes.{Known, Gives, Trial, at, part, tries, gives, is_fed, trial, attempts_at, values_at, output, tree_ends, tree_fate}
use Rattle.flow_model.specs.declared.graphs.Activity.{Activity}
use Rattle.flow_model.specs.declared.graphs.Container.{Container}
use Rattle.flow_model.specs.declared.graphs.Graph.{Graph, out-Graph}
use Rattle.flow_model.specs.declared.graphs.Template.{Template}
use Rattle.flow_model.specs.declared.instances.Fate.TheVariants.{Waiting, Ready}
use Rattle.flow_model.specs.declared.instances.Part.{Part}
use Rattle.std.proofs.Common.{◌≡◌, ℕ, zero, suc, ◌+◌, ◌≤◌, ◌<◌, Bool, true, false, List, [], ◌∷◌, length, refl, sym, ap, ◌∙◌, Option, Some, None, arith, subst}
use Rattle.std.specs.List.{All}
use Rattle.std.specs.Prelude.{is_none, slice_get}
use Rattle.view_laws.proofs.Attempts.{next_attempt, tries_at_most}
use Rattle.view_laws.proofs.DueParts.{AreDue, due_inside, honest_of}
use Rattle.view_laws.proofs.Honest.{Honest}
use Rattle.view_laws.proofs.StartedParts.{HasStart, HasScope, StartsAlong, listed_starts}
use Rattle.view_laws.specs.Coming.{IsFedWhereKnown}
use Rattle.view_laws.specs.LegalRuns.{IsAwaited, Awaits}
use Rattle.view_laws.specs.Messages.{Note}
use Rattle.view_laws.specs.Runs.{Root}

-- what was told of the connectors of a scope is so
abbrev pub IsTold : List Template → ℕ → Known → Graph → Container → Type 0
IsTold ts depth k g i =
    All (λ c. (v : Bool) → k.sent [] c.from c.to (connector_value (out-Graph g).controls c (tree_ends ts depth k g i c.from)) ≡ Some v
    → connector_value (out-Graph g).controls c (tree_ends ts depth k g i c.from) ≡ Some v) (out-Graph g).controls

-- at any depth
pub told_of : (ts : List Template) (depth : ℕ) (k : Known) (g : Graph) (i : Container) → Honest ts depth k g i → IsTold ts depth k g i
told_of ts zero k g i honest = honest.told
told_of ts (suc depth) k g i honest = honest.told

-- where what was told is so, what feeds an activity of a known join is settled
pub fed_known : (ts : List Template) (depth : ℕ) (k : Known) (g : Graph) (i : Container) → Well ts depth g → Honest ts depth k g i → IsFedWhereKnown ts depth k g i
fed_known ts depth k g i well honest = λ a activity is known.
    let has = order_of ts depth g well in
    fed_where_known ts k (output ts depth) g i has.order has.flow (told_of ts depth k g i honest) has.wired (settled_inside ts depth k g i) a
    (known_values activity (values_at k (out-Graph g).controls (tree_ends ts depth k g i) a) known)

-- ---- a program that is ready

module _ (ts : List Template) (depth : ℕ) (k : Known) (g : Graph) (i : Container) (well : Well ts depth g) (honest : Honest ts depth k g i) where
  abbrev ev : Ends
  ev = tree_ends ts depth k g i

  abbrev tried_with : ℕ → ℕ → Activity → List Container
  tried_with n a activity = tries n (gives ts k (output ts depth) activity.name activity.work) (trial g a activity (base_of g activity a i ev)) 1 (base_of g activity a i ev)

  -- of a program that is ready: its scope has begun, what feeds it is settled, and its attempts go on up to the one that is ready
  pub record IsReadyAt (a : ℕ) (activity : Activity) (c : ℕ) : Type 0 where
    pub begun : k.begun [] ≡ true
    pub fed : is_fed (out-Graph g).lines a ev ≡ true
    pub count : length (tried_with k.most a activity) + 1 ≡ c
    pub on : GoesOn activity.exit (tried_with k.most a activity)

  -- so it is where the fate says that it is ready
  pub ready_at : (a : ℕ) (activity : Activity) (c : ℕ) → slice_get (out-Graph g).activities a ≡ Some activity → tree_fate ts depth k g i a ≡ Ready c → IsReadyAt a activity c
  ready_at a activity c is ready = go (k.begun []) refl
    where
      no_end : Waiting ≡ Ready c → ⊥
      no_end h = cc

      known_of : (v : Option Bool) → v ≡ Some true → is_none v ≡ false
      known_of v h = rw h refl

      go : (b : Bool) → k.begun [] ≡ b → IsReadyAt a activity c
      go false no_ = absurd (no_end (rw no_ at ready))
      go true yes_ =
          let v = joined activity.join (values_at k (out-Graph g).controls ev a) in
          let words = ((fate_in_words activity v (attempts_at ts k (output ts depth) g i ev a (Some activity))).ready c).0 (rw (yes_, is) at ready) in
          let fed = fed_known ts depth k g i well honest a activity is (known_of v words.0) in
          let list : attempts_at ts k (output ts depth) g i ev a (Some activity) ≡ tried_with k.most a activity = rw fed refl in
          let long : length (attempts_at ts k (output ts depth) g i ev a (Some activity)) ≡ length (tried_with k.most a activity) = ap length list in
          record { begun = yes_; fed = fed; count = (let w = words.1 in omega arith); on = subst (GoesOn activity.exit) list words.2 }

  -- its next attempt has started
  pub ready_starts : (q : Part) → IsAwaited ts depth k g i q → HasStart ts depth k g i q
  ready_starts q w =
      let at_ = ready_at w.place w.activity q.attempt w.is w.ready in
      let base = base_of g w.activity w.place i ev in
      let next = next_attempt k.most (gives ts k (output ts depth) w.activity.name w.activity.work) (trial g w.place w.activity base) 1 base at_.on in
      let count : 1 + length (tried_with k.most w.place w.activity) ≡ q.attempt = (let c = at_.count in omega arith) in
      let open_ : is_open (tree_fate ts depth k g i w.place) ≡ true = ap is_open w.ready in
      record {
        place = w.place;
        activity = w.activity;
        attempt = q.attempt;
        input = next.input;
        named = ap (λ n. part n q.attempt) w.name;
        starts = record { is = w.is; active = both_true _ _ open_ at_.fed; reach = rw count at next.reach };
      }

  -- and nothing was given for it
  pub ready_ungiven : (items : List (List Part)) → Covers k items → length items ≤ k.most → (q : Part) → IsAwaited ts depth k g i q → k.given (q ∷ []) ≡ None
  ready_ungiven items covers fewer q w =
      let at_ = ready_at w.place w.activity q.attempt w.is w.ready in
      let name = w.activity.name in
      let base = base_of g w.activity w.place i ev in
      let t : Trial = trial g w.place w.activity base in
      let given : Gives = gives ts k (output ts depth) name w.activity.work in
      let gave : (j : ℕ) (i' : Container) → given j i' ≡ k.given (part name j ∷ []) = λ j i'. ap (λ work. gives ts k (output ts depth) name work j i') w.runs in
      let own : (j : ℕ) (i' o : Container) → given j i' ≡ Some o → 0 < length (strip (part name j) items) = λ j i' o is.
      some_item [] (strip (part name j) items) (among_strip (part name j) [] items (covers (part name j ∷ []) o (sym (gave j i') ∙ is))) in
      let at_most = count_at_most name 1 items in
      let more : tries (suc k.most) given t 1 base ≡ tries k.most given t 1 base =
      same_tries name items given given t (λ j i'. refl) own k.most (suc k.most) 1 base (omega arith) (omega arith) in
      let next = next_attempt (suc k.most) given t 1 base (subst (GoesOn w.activity.exit) (sym more) at_.on) in
      let less = tries_at_most k.most given t 1 base in
      let long : length (tries (suc k.most) given t 1 base) ≡ length (tries k.most given t 1 base) = ap length more in
      let count : 1 + length (tries (suc k.most) given t 1 base) ≡ q.attempt = (let c = at_.count in omega arith) in
      let none : given (1 + length (tries (suc k.most) given t 1 base)) next.input ≡ None = next.open_ (omega arith) in
      let here : given q.attempt next.input ≡ None = rw count at none in
      ap (λ n. k.given (part n q.attempt ∷ [])) (sym w.name) ∙ sym (gave q.attempt next.input) ∙ here

-- ---- along a path

module _ (r : Root) (qf : Note → ℕ) where
  -- an item that is awaited has started, as each scope on the way
  pub awaited_starts : (ts : List Template) (depth : ℕ) (k : Known) (g : Graph) (i : Container) (p : List Part) → Well ts depth g → AreDue r qf ts depth k g i
      → Awaits ts depth k g i p → StartsAlong ts depth k g i p
  awaited_starts ts depth k g i [] well due w = w
  awaited_starts ts depth k g i (q ∷ []) well due w = ready_starts ts depth k g i well (honest_of r qf ts depth k g i well due) q w
  awaited_starts ts zero k g i (q ∷ (s ∷ p)) well due w = w
  awaited_starts ts (suc depth) k g i (q ∷ (s ∷ p)) well due w =
      let scope : HasScope ts (suc depth) k g i q = record {
        place = w.place;
        activity = w.activity;
        attempt = w.start.attempt;
        input = w.start.input;
        graph = w.graph;
        named = w.named;
        of = w.of;
        starts = listed_starts ts (suc depth) k g i w.place w.activity w.number w.start w.is w.started;
      } in
      (scope, awaited_starts ts depth (at q k) w.graph w.start.input (s ∷ p) (well.inside w.place w.activity w.is w.graph w.of) (due_inside r qf ts depth k g i well due q scope) w.within)
