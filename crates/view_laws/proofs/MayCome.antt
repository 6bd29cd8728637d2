-- In a scope, the message that is due and wasn't taken may come, and the item that is awaited may be completed; the scope isn't complete.
use Rattle.fate_laws.proofs.Solutions.{activity_at}
use Rattle.fate_laws.proofs.Wired.{known_values}
use Rattle.fate_laws.specs.WellFormed.{AreSimple, Well}
use Rattle.flow_model.specs.Fates.{connector_value, joined, fate_by, is_settled}
use Rattle.flow_model.specs.ScopeContainers.{base_of}
use Rattle.flow_model.specs.Scopes.{Known, part, gives, is_fed, trial, attempts_at, values_at, output, tree_ends, tree_fate}
use Rattle.flow_model.specs.declared.graphs.Activity.{Activity}
use Rattle.flow_model.specs.declared.graphs.Container.{Container}
use Rattle.flow_model.specs.declared.graphs.Control.{Control}
use Rattle.flow_model.specs.declared.graphs.Graph.{Graph, out-Graph}
use Rattle.flow_model.specs.declared.graphs.Template.{Template}
use Rattle.flow_model.specs.declared.instances.Fate.TheVariants.{Waiting}
use Rattle.flow_model.specs.declared.instances.Part.{Part}
use Rattle.std.proofs.Common.{◌≡◌, ℕ, zero, suc, ◌+◌, ◌≤◌, ◌<◌, ◌==◌, Bool, true, false, ◌&&◌, List, [], ◌∷◌, length, refl, sym, ap, ◌∙◌, Option, Some, None, arith}
use Rattle.std.proofs.lemmas.List.Elements.{All-contains}
use Rattle.std.specs.List.{Contains}
use Rattle.std.specs.Prelude.{is_none}
use Rattle.fate_laws.proofs.Extends.{and_true}
use Rattle.fate_laws.proofs.Items.{eqb_one}
use Rattle.view_laws.proofs.Attempts.{reaches_gave}
use Rattle.view_laws.proofs.DueOnce.{reaches_from}
use Rattle.view_laws.proofs.DueParts.{due_started, honest_of, end_complete}
use Rattle.view_laws.proofs.FoundSignals.{contains_of, IsSignal, signal_found, due_signal, one_signal, counted_each, settled_value, counted_settled, fed_by_sources}
use Rattle.view_laws.proofs.Grounds.{IsGrounded, new_of}
use Rattle.view_laws.proofs.Honest.{Honest}
use Rattle.view_laws.proofs.ReadyInView.{IsTold, told_of, fed_known, ready_at, ready_ungiven}
use Rattle.view_laws.proofs.StartedParts.{AreNamed, HasScope, starts_listed, start_at}
use Rattle.view_laws.proofs.Unfinished.{Unfinished, unsettled_unfinished, place_inside, unclosed_gives, waits_unsettled, ready_unsettled, unbegun_waits, starts_active, scope_unfinished}
use Rattle.view_laws.specs.Coming.{IsFedWhereKnown, MayBegin, MaySignal, MayEnd, MayComplete}
use Rattle.view_laws.specs.Learning.{with_signal}
use Rattle.view_laws.specs.LegalRuns.{IsAwaited}
use Rattle.view_laws.specs.Messages.{Note, SignalNote, EndNote, due_in}
use Rattle.view_laws.specs.Queues.{Engine, times}
use Rattle.view_laws.specs.Runs.{Root, Event, engine}

peopled_of : (ts : List Template) (depth : ℕ) (g : Graph) → Well ts depth g → 0 < length (out-Graph g).activities
peopled_of ts zero g well = well.peopled
peopled_of ts (suc depth) g well = well.peopled

-- no two activities have one name, at any depth
pub named_in : (ts : List Template) (depth : ℕ) (g : Graph) → Well ts depth g → AreNamed g
named_in ts zero g well = well.named
named_in ts (suc depth) g well = well.named

simple_in : (ts : List Template) (depth : ℕ) (g : Graph) → Well ts depth g → AreSimple (out-Graph g).controls
simple_in ts zero g well = well.simple
simple_in ts (suc depth) g well = well.simple

module _ (r : Root) (qf : Note → ℕ) (ts : List Template) (depth : ℕ) (k : Known) (g : Graph) (i : Container) (well : Well ts depth g) (ground : IsGrounded r qf ts depth k g i) where
  abbrev x : Engine Note Event
  x = engine r qf

  honest : Honest ts depth k g i
  honest = honest_of r qf ts depth k g i well ground.due

  -- what feeds an activity of a known join is settled
  pub scope_fed : IsFedWhereKnown ts depth k g i
  scope_fed = fed_known ts depth k g i well honest

  found : (a b : ℕ) (v : Bool) → 1 ≤ times x (due_in ts depth k g i) (SignalNote [] a b v) → IsSignal (out-Graph g).controls (out-Graph g).controls (tree_ends ts depth k g i) a b v
  found a b v some = signal_found r qf (out-Graph g).controls (out-Graph g).controls (tree_ends ts depth k g i) a b v (due_signal r qf ts depth k g i a b v some)

  -- a SIGNAL is due only where the scope has begun
  signal_begun : (a b : ℕ) (v : Bool) → 1 ≤ times x (due_in ts depth k g i) (SignalNote [] a b v) → k.begun [] ≡ true
  signal_begun a b v some = go (k.begun []) refl
    where
      no_value : None ≡ Some v → ⊥
      no_value h = cc

      go : (e : Bool) → k.begun [] ≡ e → k.begun [] ≡ true
      go true is = is
      go false is =
          let s = found a b v some in
          let waits = waits_unsettled ts depth k g i well s.connector.from (unbegun_waits ts depth k g i well is s.connector.from) in
          absurd (not_settled (sym waits ∙ settled_value (out-Graph g).controls s.connector (tree_ends ts depth k g i s.connector.from) v s.value))
        where
          not_settled : false ≡ true → ⊥
          not_settled h = cc

  -- ---- BEGIN of the scope

  -- a scope that hasn't begun may begin
  pub may_begin : k.begun [] ≡ false → MayBegin ts depth k g i
  may_begin unbegun = record {
    itself = record { unbegun = unbegun; unsent = λ a b. unsent a b (k.sent [] a b None) refl };
    inside = λ q. new_of r qf ts depth k g i ground q (λ s. not_begun (starts_active ts depth k g i well s.place s.activity s.attempt s.input s.starts).begun);
  }
    where
      not_begun : k.begun [] ≡ true → ⊥
      not_begun h = let n : false ≡ true = sym unbegun ∙ h in cc

      unsent : (a b : ℕ) (o : Option Bool) → k.sent [] a b None ≡ o → k.sent [] a b None ≡ None
      unsent a b None is = is
      unsent a b (Some v) is = absurd (not_begun (signal_begun a b v (ground.due.signals [] a b v None is)))

  -- and isn't complete
  pub unbegun_unfinished : k.begun [] ≡ false → Unfinished ts depth k g i
  unbegun_unfinished unbegun =
      unsettled_unfinished ts depth k g i 0 (peopled_of ts depth g well) (waits_unsettled ts depth k g i well 0 (unbegun_waits ts depth k g i well unbegun 0))

  -- ---- SIGNAL of a connector

  module _ (a b : ℕ) (v : Bool) (some : 1 ≤ times x (due_in ts depth k g i) (SignalNote [] a b v)) (untold : k.sent [] a b None ≡ Some v → ⊥) where
    signal : IsSignal (out-Graph g).controls (out-Graph g).controls (tree_ends ts depth k g i) a b v
    signal = found a b v some

    -- a SIGNAL that is due and wasn't taken is of a connector whose value doesn't count
    pub signal_unsent : k.sent [] a b None ≡ None
    signal_unsent = go (k.sent [] a b None) refl
      where
        go : (o : Option Bool) → k.sent [] a b None ≡ o → k.sent [] a b None ≡ None
        go None is = is
        go (Some w) is =
            let other = ground.due.signals [] a b w None is in
            let same = one_signal r qf (out-Graph g).controls (tree_ends ts depth k g i) a b w v (simple_in ts depth g well)
            (due_signal r qf ts depth k g i a b w other) (due_signal r qf ts depth k g i a b v some) in
            absurd (untold (is ∙ ap Some same))

    -- so the activity that it leads to waits
    unknown : (activity : Activity) → joined activity.join (values_at k (out-Graph g).controls (tree_ends ts depth k g i) b) ≡ None
    unknown activity = go (joined activity.join (values_at k (out-Graph g).controls (tree_ends ts depth k g i) b)) refl
      where
        c : Control
        c = signal.connector

        counted : Control → Option Bool
        counted d = k.sent [] d.from d.to (connector_value (out-Graph g).controls d (tree_ends ts depth k g i d.from))

        P : Control → Type 0
        P d = d.to ≡ b → is_none (counted d) ≡ false

        none : counted c ≡ None
        none =
            ground.messages [] c.from c.to (connector_value (out-Graph g).controls c (tree_ends ts depth k g i c.from))
            ∙ ap (λ n. k.sent [] n c.to None) signal.from ∙ ap (λ n. k.sent [] a n None) signal.to ∙ signal_unsent

        no_end : true ≡ false → ⊥
        no_end h = cc

        go : (o : Option Bool) → joined activity.join (values_at k (out-Graph g).controls (tree_ends ts depth k g i) b) ≡ o
            → joined activity.join (values_at k (out-Graph g).controls (tree_ends ts depth k g i) b) ≡ None
        go None is = is
        go (Some w) is =
            let known = known_values activity (values_at k (out-Graph g).controls (tree_ends ts depth k g i) b) (ap is_none is) in
            let each = All-contains P (out-Graph g).controls c (counted_each counted b (out-Graph g).controls known) (contains_of (out-Graph g).controls signal.number c signal.among) signal.to in
            absurd (no_end (sym (ap is_none none) ∙ each))

    fed_then : (activity : Activity) → is_none (joined activity.join (values_at (with_signal a b v k) (out-Graph g).controls (tree_ends ts depth k g i) b)) ≡ false
        → is_fed (out-Graph g).lines b (tree_ends ts depth k g i) ≡ true
    fed_then activity known =
        let all = known_values activity (values_at (with_signal a b v k) (out-Graph g).controls (tree_ends ts depth k g i) b) known in
        fed_by_sources ts depth k g i well told b (λ c there to. settled c there (All-contains P (out-Graph g).controls c (counted_each counted b (out-Graph g).controls all) there to))
      where
        told : IsTold ts depth k g i
        told = told_of ts depth k g i honest

        counted : Control → Option Bool
        counted d = (with_signal a b v k).sent [] d.from d.to (connector_value (out-Graph g).controls d (tree_ends ts depth k g i d.from))

        P : Control → Type 0
        P d = d.to ≡ b → is_none (counted d) ≡ false

        settled : (c : Control) → Contains (out-Graph g).controls c → is_none (counted c) ≡ false → is_settled (tree_ends ts depth k g i c.from) ≡ true
        settled c there counts = go ((a == c.from) && (b == c.to)) refl
          where
            go : (e : Bool) → ((a == c.from) && (b == c.to)) ≡ e → is_settled (tree_ends ts depth k g i c.from) ≡ true
            go false other = counted_settled ts depth k g i well told c there (rw other at counts)
            go true same =
                let from : signal.connector.from ≡ c.from = signal.from ∙ eqb_one a c.from (and_true (a == c.from) (b == c.to) same).0 in
                ap (λ n. is_settled (tree_ends ts depth k g i n)) (sym from)
                ∙ settled_value (out-Graph g).controls signal.connector (tree_ends ts depth k g i signal.connector.from) v signal.value

    -- so it may come
    pub may_signal : MaySignal ts depth k g i a b v
    may_signal = record {
      begun = signal_begun a b v some;
      fed = scope_fed;
      number = signal.number;
      connector = signal.connector;
      among = signal.among;
      from = signal.from;
      to = signal.to;
      unsent = signal_unsent;
      unstarted = λ activity is.
          new_of r qf ts depth k g i ground (part activity.name 1)
          (λ s.
          let mine = start_at ts depth k g i (named_in ts depth g well) (part activity.name 1) b activity is refl s in
          no_join (sym (unknown activity) ∙ (starts_active ts depth k g i well b activity 1 mine.0 mine.1).join));
      fed_then = λ activity is. fed_then activity;
    }
      where
        no_join : None ≡ Some true → ⊥
        no_join h = cc

    -- and the scope isn't complete
    pub signal_unfinished : b < length (out-Graph g).activities → Unfinished ts depth k g i
    signal_unfinished inside =
        let there = activity_at g b inside in
        let waits : tree_fate ts depth k g i b ≡ Waiting = rw (signal_begun a b v some, there.1)
        (ap (λ w. fate_by there.0 w (attempts_at ts k (output ts depth) g i (tree_ends ts depth k g i) b (Some there.0))) (unknown there.0)) in
        unsettled_unfinished ts depth k g i b inside (waits_unsettled ts depth k g i well b waits)

  -- ---- completion of an item

  -- nothing was given for an item that is awaited
  pub awaited_ungiven : (q : Part) → IsAwaited ts depth k g i q → k.given (q ∷ []) ≡ None
  awaited_ungiven q w = ready_ungiven ts depth k g i well honest ground.items ground.covers ground.fewer q w

  -- so it may be completed
  pub may_complete : (q : Part) → IsAwaited ts depth k g i q → MayComplete ts depth k g i q
  may_complete q w =
      let ready = ready_at ts depth k g i well honest w.place w.activity q.attempt w.is w.ready in
      let ungiven = awaited_ungiven q w in
      record {
        begun = ready.begun;
        fed = scope_fed;
        place = w.place;
        activity = w.activity;
        program = w.program;
        is = w.is;
        runs = w.runs;
        name = w.name;
        ready = w.ready;
        ungiven = ungiven;
        unstarted =
            new_of r qf ts depth k g i ground (part w.activity.name (q.attempt + 1))
            (λ s.
            let mine = start_at ts depth k g i (named_in ts depth g well) (part w.activity.name (q.attempt + 1)) w.place w.activity w.is refl s in
            let base = base_of g w.activity w.place i (tree_ends ts depth k g i) in
            let before = reaches_gave (suc k.most) (gives ts k (output ts depth) w.activity.name w.activity.work) (trial g w.place w.activity base) 1 base q.attempt mine.0
            (let c = ready.count in omega arith) mine.1.reach in
            let gave : k.given (part w.activity.name q.attempt ∷ []) ≡ Some before.1 =
            ap (λ work. gives ts k (output ts depth) w.activity.name work q.attempt before.0) (sym w.runs) ∙ before.2 in
            let none : k.given (part w.activity.name q.attempt ∷ []) ≡ None = ap (λ n. k.given (part n q.attempt ∷ [])) w.name ∙ ungiven in
            clash (k.given (part w.activity.name q.attempt ∷ [])) before.1 none gave);
      }
    where
      clash : (o : Option Container) (out : Container) → o ≡ None → o ≡ Some out → ⊥
      clash o out none some = cc

  -- and the scope isn't complete
  pub awaited_unfinished : (q : Part) → IsAwaited ts depth k g i q → Unfinished ts depth k g i
  awaited_unfinished q w =
      unsettled_unfinished ts depth k g i w.place (place_inside g w.place w.activity w.is) (ready_unsettled ts depth k g i well w.place q.attempt w.ready)

-- ---- END of an attempt

module _ (r : Root) (qf : Note → ℕ) (ts : List Template) (depth : ℕ) (k : Known) (g : Graph) (i : Container) (well : Well ts (suc depth) g)
    (ground : IsGrounded r qf ts (suc depth) k g i) (q : Part) (some : 1 ≤ times (engine r qf) (due_in ts (suc depth) k g i) (EndNote (q ∷ []))) (unclosed : k.closed (q ∷ []) ≡ false) where
  scope : HasScope ts (suc depth) k g i q
  scope = (due_started r qf ts (suc depth) k g i q (EndNote []) some).2

  -- an END that is due and wasn't taken may come
  pub may_end : MayEnd ts (suc depth) k g i q
  may_end =
      let complete = end_complete r qf ts depth k g i well q scope some in
      let listed = starts_listed ts (suc depth) k g i scope.place scope.activity scope.attempt scope.input scope.starts in
      let base = base_of g scope.activity scope.place i (tree_ends ts (suc depth) k g i) in
      let given = gives ts k (output ts (suc depth)) scope.activity.name scope.activity.work in
      record {
        begun = (starts_active ts (suc depth) k g i well scope.place scope.activity scope.attempt scope.input scope.starts).begun;
        fed = scope_fed r qf ts (suc depth) k g i well ground;
        place = scope.place;
        activity = scope.activity;
        graph = scope.graph;
        number = listed.0;
        start = record { attempt = scope.attempt; input = scope.input };
        out = complete.0;
        is = scope.starts.is;
        of = scope.of;
        named = scope.named;
        started = listed.1;
        unclosed = unclosed;
        complete = complete.1;
        unstarted =
            new_of r qf ts (suc depth) k g i ground (part scope.activity.name (scope.attempt + 1))
            (λ s.
            let mine = start_at ts (suc depth) k g i well.named (part scope.activity.name (scope.attempt + 1)) scope.place scope.activity scope.starts.is refl s in
            let first = reaches_from (suc k.most) given (trial g scope.place scope.activity base) 1 base scope.attempt scope.input scope.starts.reach in
            let before = reaches_gave (suc k.most) given (trial g scope.place scope.activity base) 1 base scope.attempt mine.0 first mine.1.reach in
            let none = unclosed_gives ts k (output ts (suc depth)) scope.activity.name scope.activity.work scope.graph scope.attempt before.0 scope.of
            (ap (λ u. k.closed (u ∷ [])) scope.named ∙ unclosed) in
            clash (given scope.attempt before.0) before.1 none before.2);
      }
    where
      clash : (o : Option Container) (out : Container) → o ≡ None → o ≡ Some out → ⊥
      clash o out none some' = cc

  -- and the scope isn't complete
  pub end_unfinished : Unfinished ts (suc depth) k g i
  end_unfinished = scope_unfinished ts (suc depth) k g i well q scope unclosed
