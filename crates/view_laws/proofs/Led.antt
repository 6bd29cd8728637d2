-- The way down a path, along attempts that haven't told their end since something is still to come inside.
use Rattle.fate_laws.specs.StartedScopes.{ScopeFact}
use Rattle.fate_laws.specs.WellFormed.{Well}
use Rattle.flow_model.specs.Scopes.{Known, at, output}
use Rattle.flow_model.specs.declared.graphs.Container.{Container}
use Rattle.flow_model.specs.declared.graphs.Control.{Control}
use Rattle.flow_model.specs.declared.graphs.Graph.{Graph, out-Graph}
use Rattle.flow_model.specs.declared.graphs.Template.{Template}
use Rattle.flow_model.specs.declared.instances.Part.{Part}
use Rattle.std.proofs.Common.{◌≡◌, ℕ, zero, suc, ◌+◌, ◌≤◌, ◌<◌, Bool, true, false, List, [], ◌∷◌, ◌++◌, length, refl, Option, Some, None, arith}
use Rattle.std.specs.Prelude.{slice_get}
use Rattle.view_laws.proofs.DueOnce.{tops}
use Rattle.view_laws.proofs.DueParts.{due_started, scope_due, tops_begin_below, end_complete}
use Rattle.view_laws.proofs.Grounds.{IsGrounded, grounded_inside}
use Rattle.view_laws.proofs.MayCome.{may_begin, unbegun_unfinished, may_signal, signal_unfinished, may_complete, awaited_unfinished, may_end, end_unfinished}
use Rattle.view_laws.proofs.StartedParts.{HasScope, starts_listed, listed_starts}
use Rattle.view_laws.proofs.Trusting.{tops_signal, tops_end}
use Rattle.view_laws.proofs.Unfinished.{Unfinished, output_complete, scope_unfinished}
use Rattle.view_laws.specs.Coming.{MayBegin, MaySignal, MayEnd, MayComplete, Leads}
use Rattle.view_laws.specs.LegalRuns.{IsAwaited, Awaits}
use Rattle.view_laws.specs.Messages.{Note, BeginNote, SignalNote, EndNote, due_in}
use Rattle.view_laws.specs.NextEvents.{Aimed}
use Rattle.view_laws.specs.Queues.{Engine, times}
use Rattle.view_laws.specs.Runs.{Root, Event, engine}

-- what is claimed of the scope at the end of a path, by the scope at hand
abbrev pub PathClaim : Type 1
PathClaim = ℕ → Known → Graph → Container → List Part → Type 0

-- what a path leads to, tells what every such scope tells
pub leads_tells : (ts : List Template) (fact : ScopeFact) (P : Known → List Part → Type 0) → ((q : Part) (p : List Part) (k : Known) → P (at q k) p → P k (q ∷ p))
    → ((depth : ℕ) (k : Known) (g : Graph) (i : Container) → fact depth k g i → P k [])
    → (depth : ℕ) (k : Known) (g : Graph) (i : Container) (p : List Part) → Leads fact ts depth k g i p → P k p
leads_tells ts fact P up tells depth k g i [] leads = tells depth k g i leads
leads_tells ts fact P up tells zero k g i (q ∷ p) leads = absurd leads
leads_tells ts fact P up tells (suc depth) k g i (q ∷ p) leads = up q p k (leads_tells ts fact P up tells depth (at q k) leads.graph leads.start.input p leads.within)

module _ (r : Root) (qf : Note → ℕ) (ts : List Template) where
  abbrev x : Engine Note Event
  x = engine r qf

  module _ (fact : ScopeFact) (Claim : PathClaim)
      (here : (depth : ℕ) (k : Known) (g : Graph) (i : Container) → Well ts depth g → Aimed ts depth g → IsGrounded r qf ts depth k g i → Claim depth k g i []
      → fact depth k g i × Unfinished ts depth k g i)
      (step : (depth : ℕ) (k : Known) (g : Graph) (i : Container) (q : Part) (p : List Part) → Well ts (suc depth) g → Claim (suc depth) k g i (q ∷ p)
      → (scope : HasScope ts (suc depth) k g i q) × Claim depth (at q k) scope.graph scope.input p)
      (none : (k : Known) (g : Graph) (i : Container) (q : Part) (p : List Part) → Claim 0 k g i (q ∷ p) → ⊥) where
    -- what is claimed along a path leads to a scope of which the fact holds, and no scope on the way is complete
    pub led : (depth : ℕ) (k : Known) (g : Graph) (i : Container) (p : List Part) → Well ts depth g → Aimed ts depth g → IsGrounded r qf ts depth k g i → Claim depth k g i p
        → Leads fact ts depth k g i p × Unfinished ts depth k g i
    led depth k g i [] well aimed ground claim = here depth k g i well aimed ground claim
    led zero k g i (q ∷ p) well aimed ground claim = absurd (none k g i q p claim)
    led (suc depth) k g i (q ∷ p) well aimed ground claim =
        let inner = step depth k g i q p well claim in
        let scope : HasScope ts (suc depth) k g i q = inner.0 in
        let rest = led depth (at q k) scope.graph scope.input p
        (well.inside scope.place scope.activity scope.starts.is scope.graph scope.of)
        (aimed.inside scope.place scope.activity scope.starts.is scope.graph scope.of)
        (grounded_inside r qf ts depth k g i well ground q scope) inner.1 in
        let listed = starts_listed ts (suc depth) k g i scope.place scope.activity scope.attempt scope.input scope.starts in
        let unclosed = open_ scope rest.1 (k.closed (q ∷ [])) refl in (
          record {
            place = scope.place;
            activity = scope.activity;
            graph = scope.graph;
            number = listed.0;
            start = record { attempt = scope.attempt; input = scope.input };
            is = scope.starts.is;
            of = scope.of;
            named = scope.named;
            started = listed.1;
            unclosed = unclosed;
            within = rest.0;
          },
          scope_unfinished ts (suc depth) k g i well q scope unclosed,
        )
      where
        open_ : (scope : HasScope ts (suc depth) k g i q) → Unfinished ts depth (at q k) scope.graph scope.input → (b : Bool) → k.closed (q ∷ []) ≡ b → k.closed (q ∷ []) ≡ false
        open_ scope unfinished false is = is
        open_ scope unfinished true is =
            let complete = end_complete r qf ts depth k g i well q scope (ground.due.ends q [] is) in
            absurd (unfinished (output_complete ts depth (at q k) scope.graph scope.input complete.0 complete.1))

  no_depth : (d : ℕ) → 0 ≡ suc d → ⊥
  no_depth d h = omega arith

  -- ---- BEGIN

  -- the BEGIN of the scope at hand is due above it
  abbrev pub BeginDue : ℕ → Known → Graph → Container → List Part → Type 0
  BeginDue depth k g i [] = Unit {0}
  BeginDue depth k g i (q ∷ p) = 1 ≤ times x (due_in ts depth k g i) (BeginNote (q ∷ p))

  -- the BEGIN of the scope at the end of the path is due and wasn't taken
  abbrev pub BeginClaim : PathClaim
  BeginClaim depth k g i p = BeginDue depth k g i p × (k.begun p ≡ false)

  begin_step : (depth : ℕ) (k : Known) (g : Graph) (i : Container) (q : Part) (p : List Part) → Well ts (suc depth) g → BeginClaim (suc depth) k g i (q ∷ p)
      → (scope : HasScope ts (suc depth) k g i q) × BeginClaim depth (at q k) scope.graph scope.input p
  begin_step depth k g i q p well claim =
      let scope : HasScope ts (suc depth) k g i q = (due_started r qf ts (suc depth) k g i q (BeginNote p) claim.0).2 in
      (scope, (below scope p (scope_due r qf ts depth k g i well q scope (BeginNote p)) claim.0, claim.1))
    where
      below : (scope : HasScope ts (suc depth) k g i q) (l : List Part)
          → times x (due_in ts (suc depth) k g i) (BeginNote (q ∷ l))
          ≡ times x (tops r qf k q (output ts (suc depth) (at q k) scope.graph scope.input)) (BeginNote l) + times x (due_in ts depth (at q k) scope.graph scope.input) (BeginNote l)
          → 1 ≤ times x (due_in ts (suc depth) k g i) (BeginNote (q ∷ l)) → BeginDue depth (at q k) scope.graph scope.input l
      below scope [] all some = tt
      below scope (s ∷ l) all some = let none = tops_begin_below r qf k q (output ts (suc depth) (at q k) scope.graph scope.input) s l in omega arith

  -- so the path leads to a scope that may begin
  pub begin_led : (depth : ℕ) (k : Known) (g : Graph) (i : Container) (p : List Part) → Well ts depth g → Aimed ts depth g → IsGrounded r qf ts depth k g i
      → BeginClaim depth k g i p → Leads (λ d k' h j. MayBegin ts d k' h j) ts depth k g i p
  begin_led depth k g i p well aimed ground claim =
      (led (λ d k' h j. MayBegin ts d k' h j) BeginClaim
      (λ d k' h j well' aimed' ground' c. (may_begin r qf ts d k' h j well' ground' c.1, unbegun_unfinished r qf ts d k' h j well' ground' c.1))
      begin_step (λ k' h j q l c. let there = due_started r qf ts 0 k' h j q (BeginNote l) c.0 in no_depth there.0 there.1)
      depth k g i p well aimed ground claim).0

  -- ---- SIGNAL

  -- the SIGNAL in the scope at the end of the path is due and wasn't taken
  abbrev pub SignalClaim : ℕ → ℕ → Bool → PathClaim
  SignalClaim a b v depth k g i p = (1 ≤ times x (due_in ts depth k g i) (SignalNote p a b v)) × (k.sent p a b None ≡ Some v → ⊥)

  signal_step : (a b : ℕ) (v : Bool) (depth : ℕ) (k : Known) (g : Graph) (i : Container) (q : Part) (p : List Part) → Well ts (suc depth) g → SignalClaim a b v (suc depth) k g i (q ∷ p)
      → (scope : HasScope ts (suc depth) k g i q) × SignalClaim a b v depth (at q k) scope.graph scope.input p
  signal_step a b v depth k g i q p well claim =
      let scope : HasScope ts (suc depth) k g i q = (due_started r qf ts (suc depth) k g i q (SignalNote p a b v) claim.0).2 in
      let some = claim.0 in
      let all = scope_due r qf ts depth k g i well q scope (SignalNote p a b v) in
      let none = tops_signal r qf k q (output ts (suc depth) (at q k) scope.graph scope.input) p a b v in
      (scope, (omega arith, claim.1))

  aimed_at : (depth : ℕ) (g : Graph) → Aimed ts depth g → (n : ℕ) (c : Control) → slice_get (out-Graph g).controls n ≡ Some c → c.to < length (out-Graph g).activities
  aimed_at zero g aimed = aimed.each
  aimed_at (suc depth) g aimed = aimed.each

  -- so the path leads to a scope in which it may come
  pub signal_led : (a b : ℕ) (v : Bool) (depth : ℕ) (k : Known) (g : Graph) (i : Container) (p : List Part) → Well ts depth g → Aimed ts depth g → IsGrounded r qf ts depth k g i
      → SignalClaim a b v depth k g i p → Leads (λ d k' h j. MaySignal ts d k' h j a b v) ts depth k g i p
  signal_led a b v depth k g i p well aimed ground claim =
      (led (λ d k' h j. MaySignal ts d k' h j a b v) (SignalClaim a b v)
      (λ d k' h j well' aimed' ground' c.
      let may = may_signal r qf ts d k' h j well' ground' a b v c.0 c.1 in
      let inside = aimed_at d h aimed' may.number may.connector may.among in
      (may, signal_unfinished r qf ts d k' h j well' ground' a b v c.0 c.1 (rw may.to at inside)))
      (signal_step a b v) (λ k' h j q l c. let there = due_started r qf ts 0 k' h j q (SignalNote l a b v) c.0 in no_depth there.0 there.1)
      depth k g i p well aimed ground claim).0

  -- ---- END

  -- the END of an attempt of the scope at the end of the path is due and wasn't taken
  abbrev pub EndClaim : Part → PathClaim
  EndClaim last depth k g i p = (1 ≤ times x (due_in ts depth k g i) (EndNote (p ++ last ∷ []))) × (k.closed (p ++ last ∷ []) ≡ false)

  end_step : (last : Part) (depth : ℕ) (k : Known) (g : Graph) (i : Container) (q : Part) (p : List Part) → Well ts (suc depth) g → EndClaim last (suc depth) k g i (q ∷ p)
      → (scope : HasScope ts (suc depth) k g i q) × EndClaim last depth (at q k) scope.graph scope.input p
  end_step last depth k g i q p well claim =
      let scope : HasScope ts (suc depth) k g i q = (due_started r qf ts (suc depth) k g i q (EndNote (p ++ last ∷ [])) claim.0).2 in
      let some = claim.0 in
      let all = scope_due r qf ts depth k g i well q scope (EndNote (p ++ last ∷ [])) in
      let none = apart (output ts (suc depth) (at q k) scope.graph scope.input) p in
      (scope, (omega arith, claim.1))
    where
      apart : (o : Option Container) (l : List Part) → times x (tops r qf k q o) (EndNote (l ++ last ∷ [])) ≡ 0
      apart o [] = tops_end r qf k q o last []
      apart o (s ∷ l) = tops_end r qf k q o s (l ++ last ∷ [])

  end_here : (last : Part) (depth : ℕ) (k : Known) (g : Graph) (i : Container) → Well ts depth g → Aimed ts depth g → IsGrounded r qf ts depth k g i → EndClaim last depth k g i []
      → MayEnd ts depth k g i last × Unfinished ts depth k g i
  end_here last zero k g i well aimed ground claim = let there = due_started r qf ts 0 k g i last (EndNote []) claim.0 in absurd (no_depth there.0 there.1)
  end_here last (suc depth) k g i well aimed ground claim =
      (may_end r qf ts depth k g i well ground last claim.0 claim.1, end_unfinished r qf ts depth k g i well ground last claim.0 claim.1)

  -- so the path leads to a scope in which it may come
  pub end_led : (last : Part) (depth : ℕ) (k : Known) (g : Graph) (i : Container) (p : List Part) → Well ts depth g → Aimed ts depth g → IsGrounded r qf ts depth k g i
      → EndClaim last depth k g i p → Leads (λ d k' h j. MayEnd ts d k' h j last) ts depth k g i p
  end_led last depth k g i p well aimed ground claim =
      (led (λ d k' h j. MayEnd ts d k' h j last) (EndClaim last) (end_here last) (end_step last)
      (λ k' h j q l c. let there = due_started r qf ts 0 k' h j q (EndNote (l ++ last ∷ [])) c.0 in no_depth there.0 there.1)
      depth k g i p well aimed ground claim).0

  -- ---- completions

  -- an item of the scope at the end of the path is awaited
  abbrev pub AwaitsAt : Part → PathClaim
  AwaitsAt last depth k g i p = Awaits ts depth k g i (p ++ last ∷ [])

  await_step : (last : Part) (depth : ℕ) (k : Known) (g : Graph) (i : Container) (q : Part) (p : List Part) → Well ts (suc depth) g → AwaitsAt last (suc depth) k g i (q ∷ p)
      → (scope : HasScope ts (suc depth) k g i q) × AwaitsAt last depth (at q k) scope.graph scope.input p
  await_step last depth k g i q [] well w = (
    record {
      place = w.place;
      activity = w.activity;
      attempt = w.start.attempt;
      input = w.start.input;
      graph = w.graph;
      named = w.named;
      of = w.of;
      starts = listed_starts ts (suc depth) k g i w.place w.activity w.number w.start w.is w.started;
    },
    w.within,
  )
  await_step last depth k g i q (s ∷ p) well w = (
    record {
      place = w.place;
      activity = w.activity;
      attempt = w.start.attempt;
      input = w.start.input;
      graph = w.graph;
      named = w.named;
      of = w.of;
      starts = listed_starts ts (suc depth) k g i w.place w.activity w.number w.start w.is w.started;
    },
    w.within,
  )

  await_none : (last : Part) (k : Known) (g : Graph) (i : Container) (q : Part) (p : List Part) → AwaitsAt last 0 k g i (q ∷ p) → ⊥
  await_none last k g i q [] w = w
  await_none last k g i q (s ∷ p) w = w

  await_here : (last : Part) (depth : ℕ) (k : Known) (g : Graph) (i : Container) → Well ts depth g → Aimed ts depth g → IsGrounded r qf ts depth k g i → IsAwaited ts depth k g i last
      → MayComplete ts depth k g i last × Unfinished ts depth k g i
  await_here last depth k g i well aimed ground w = (may_complete r qf ts depth k g i well ground last w, awaited_unfinished r qf ts depth k g i well ground last w)

  -- so the path leads to a scope in which it may be completed
  pub await_led : (last : Part) (depth : ℕ) (k : Known) (g : Graph) (i : Container) (p : List Part) → Well ts depth g → Aimed ts depth g → IsGrounded r qf ts depth k g i
      → AwaitsAt last depth k g i p → Leads (λ d k' h j. MayComplete ts d k' h j last) ts depth k g i p
  await_led last depth k g i p well aimed ground claim =
      (led (λ d k' h j. MayComplete ts d k' h j last) (AwaitsAt last)
      (λ d k' h j well' aimed' ground' w. await_here last d k' h j well' aimed' ground' w)
      (await_step last) (await_none last) depth k g i p well aimed ground claim).0
