-- What an event, or a change of a hold, leaves of all scopes of a root, wherever its path leads.
use Rattle.std.proofs.Common.{◌≡◌, ℕ, zero, suc, ◌+◌, ◌^◌, ◌<◌, ◌≤◌, List, [], ◌∷◌, ◌++◌, length, Option, Some, None}
use Rattle.std.proofs.Common.{refl, sym, subst, ◌∙◌, arith}
use Rattle.std.specs.List.{All}
use Rattle.std.specs.Prelude.{slice_get}
use Rattle.std.proofs.lemmas.List.Elements.{All-nil, All-cons, All-head, All-tail, All-append}
use Rattle.std.proofs.lemmas.Option.{none-some}
use Rattle.activity_states.specs.declared.states.Completed.{Completed}
use Rattle.flow_model.specs.ScopeContainers.{graph_in}
use Rattle.flow_model.specs.declared.graphs.Activity.{Activity}
use Rattle.flow_model.specs.declared.graphs.Graph.{Graph, out-Graph}
use Rattle.flow_model.specs.declared.graphs.Template.{Template}
use Rattle.flow_model.specs.declared.graphs.Work.{Work, Program, Block, Process}
use Rattle.flow_model.specs.declared.instances.Message.{Message}
use Rattle.flow_model.specs.declared.instances.Message.TheVariants.{Begin, Signal, End}
use Rattle.flow_model.specs.declared.instances.Part.{Part}
use Rattle.flow_model.specs.declared.instances.Path.{Path}
use Rattle.flow_model.specs.declared.names.Name.{Name}
use Rattle.flow_txn.specs.Ranges.{IsCounted, PartFits, PathFits, MessageFits}
use Rattle.machine.specs.Moves.{Scene, Outcome, as_left, unchanged, nothing, received, Change, into_attempt, graph_under}
use Rattle.machine.specs.Moves.{into_part, changes_at, receives_in, receives, happens, last_part, front_parts, front, happens_last, takes}
use Rattle.machine.specs.Moves.{completes_item, given_of, Happening, Begins, Signals, Ends, Completes, Holding}
use Rattle.machine.specs.Moves.{held_standing, held_row, holds_here, holds_last, holds_item, scopes_had}
use Rattle.machine.specs.Rows.{Standing, Item, Inner, Row, Scopes, inside, place_of, attempt_place}
use Rattle.range_laws.specs.Bounds.{RunsOnly, IsInBounds}
use Rattle.range_laws.specs.Standing.{HaveHad, HaveHadAtMost}
use Rattle.range_laws.proofs.Scenes.{some_is, had_changed, counted_weaker, inside_counted, row_counted, SceneFits, received_fits}

-- the graph that an activity runs has the property that what it runs has
pub runs_graph : (ts : List Template) (P : Graph → Type 0) (work : Work) (h : Graph) → RunsOnly ts P work
    → graph_in ts work ≡ Some h → P h
runs_graph ts P (Program p) h runs there = absurd (none-some h there)
runs_graph ts P (Block g) h runs there = subst P (some_is g h there) runs
runs_graph ts P (Process t) h runs there = subst P (some_is runs.0 h (sym runs.1 ∙ there)) runs.2

-- an outcome leaves scopes that are counted to a number, and what follows fits
abbrev pub OutcomeFits : ℕ → Outcome → Type 0
OutcomeFits n o = HaveHadAtMost n o.scopes × All MessageFits (given_of o.told)

unchanged_fits : (before after : ℕ) → before ≤ after → (s : Scopes) → HaveHadAtMost before s
    → OutcomeFits after (unchanged s)
unchanged_fits before after le s counted = (counted_weaker before after le s counted, All-nil MessageFits)

-- a path whose root and parts are in range, however many these are
abbrev pub PathIsNamed : Path → Type 0
PathIsNamed path = IsCounted path.root × All PartFits path.parts

module _ (ts : List Template) where
  -- ---- to the scope of a path

  module _ (change : Change) (before after : ℕ) (le : before ≤ after) where
    -- what the change does in the scope to which this number of parts leads
    abbrev Last : ℕ → ℕ → Type 0
    Last long levels =
        (rest : ℕ) (h : Graph) (u : Scopes) → levels ≡ long + rest → IsInBounds ts rest h → HaveHadAtMost before u
        → OutcomeFits after (change h u)

    module _ (qs : List Part) (levels : ℕ)
        (deeper : (h : Graph) (u : Scopes) → IsInBounds ts levels h → HaveHadAtMost before u
        → OutcomeFits after (changes_at ts change qs h u)) (s : Scopes) (counted : HaveHadAtMost before s) where
      by_attempt : (a : ℕ) (h : Graph) → IsInBounds ts levels h → (i : Option ℕ)
          → OutcomeFits after (into_attempt (changes_at ts change qs) s a (Some h) i)
      by_attempt a h inner None = unchanged_fits before after le s counted
      by_attempt a h inner (Some i) =
          let left = deeper h (inside a i s) inner (λ p r is. counted ((a, i) ∷ p) r is) in
          let outside = counted_weaker before after le s counted in
          (inside_counted after a i (changes_at ts change qs h (inside a i s)).scopes s left.0 outside, left.1)

      by_graph : (a : ℕ) (o : Option Graph) → ((h : Graph) → o ≡ Some h → IsInBounds ts levels h) → (i : Option ℕ)
          → OutcomeFits after (into_attempt (changes_at ts change qs) s a o i)
      by_graph a None inner i = unchanged_fits before after le s counted
      by_graph a (Some h) inner i = by_attempt a h (inner h refl) i

      module _ (g : Graph) (here : IsInBounds ts (suc levels) g) where
        under_bounded : (a : ℕ) (o : Option Activity) → slice_get (out-Graph g).activities a ≡ o → (h : Graph)
            → graph_under ts o ≡ Some h → IsInBounds ts levels h
        under_bounded a None at h none = absurd (none-some h none)
        under_bounded a (Some activity) at h there =
            runs_graph ts (IsInBounds ts levels) activity.work h (here.each a activity at).inside there

        by_part : (j : ℕ) (o : Option ℕ) → OutcomeFits after (into_part ts (changes_at ts change qs) g s j o)
        by_part j None = unchanged_fits before after le s counted
        by_part j (Some a) =
            by_graph a (graph_under ts (slice_get (out-Graph g).activities a))
            (under_bounded a (slice_get (out-Graph g).activities a) refl) (attempt_place j)

    walk_fits : (qs : List Part) (levels : ℕ) (g : Graph) (s : Scopes) → IsInBounds ts levels g → HaveHadAtMost before s
        → Last (length qs) levels → OutcomeFits after (changes_at ts change qs g s)
    walk_fits [] levels g s here counted last = last levels g s (omega arith) here counted
    walk_fits (q ∷ qs) zero g s here counted last = absurd here
    walk_fits (q ∷ qs) (suc levels) g s here counted last =
        by_part qs levels
        (λ h u inner all. walk_fits qs levels h u inner all
        (λ rest k v is. last rest k v (omega (arith, is))))
        s counted g here q.attempt (place_of g q.name)

  -- ---- what happens there

  module _ (levels : ℕ) (few : levels ≤ 17) (g : Graph) (here : IsInBounds ts levels g) (s : Scopes) (before : ℕ)
      (small : before + 2 < 2 ^ 64) (counted : HaveHadAtMost before s) where
    left_fits : (x : Scene) → SceneFits (λ i. before + 1) (before + 1) x → OutcomeFits (before + 1) (as_left x)
    left_fits x ok = (
      row_counted (before + 1) x.row x.scopes ok.standings ok.scopes,
      All-append MessageFits (x.told.signals ++ x.told.begins) x.told.ends
          (All-append MessageFits x.told.signals x.told.begins ok.signals ok.begins) ok.ends,
    )

    row_fits : (path : Path) → PathFits path → length path.parts ≤ 16 → (clock : ℕ) (e : Happening) (rest : ℕ)
        (h : Graph) (u : Scopes) → IsInBounds ts (suc rest) h → HaveHadAtMost before u → (o : Option Row) → u [] ≡ o
        → OutcomeFits (before + 1) (receives_in ts path clock e h u o)
    row_fits path fits shallow clock e rest h u inner all None at =
        unchanged_fits before (before + 1) (omega arith) u all
    row_fits path fits shallow clock e rest h u inner all (Some r) at =
        let x : Scene = record { row = r; scopes = u; told = nothing } in
        left_fits (received ts path clock e h x)
        (received_fits ts rest h inner path fits shallow (before + 1) before small clock e x (record {
          standings = all [] r at;
          scopes = counted_weaker before (before + 1) (omega arith) u all;
          signals = All-nil MessageFits;
          begins = All-nil MessageFits;
          ends = All-nil MessageFits;
        }))

    scope_fits : (path : Path) → PathIsNamed path → (clock : ℕ) (e : Happening) (rest : ℕ) (h : Graph) (u : Scopes)
        → levels ≡ length path.parts + rest → IsInBounds ts rest h → HaveHadAtMost before u
        → OutcomeFits (before + 1) (receives ts path clock e h u)
    scope_fits path named clock e zero h u is inner all = absurd inner
    scope_fits path named clock e (suc rest) h u is inner all =
        let shallow : length path.parts ≤ 16 = omega (arith, is, few) in
        let short : length path.parts < 2 ^ 8 = omega (arith, shallow) in
        row_fits path (named.0, short, named.1) shallow clock e rest h u inner all (u []) refl

    pub happens_fits : (path : Path) → PathIsNamed path → (clock : ℕ) (e : Happening)
        → OutcomeFits (before + 1) (happens ts path clock e g s)
    happens_fits path named clock e =
        walk_fits (receives ts path clock e) before (before + 1) (omega arith) path.parts levels g s here counted
        (scope_fits path named clock e)

    all_front : (qs : List Part) → All PartFits qs → All PartFits (front_parts qs)
    all_front [] all = all
    all_front (q ∷ []) all = All-nil PartFits
    all_front (q ∷ (r ∷ qs)) all =
        All-cons PartFits q (front_parts (r ∷ qs)) (All-head PartFits q (r ∷ qs) all)
        (all_front (r ∷ qs) (All-tail PartFits q (r ∷ qs) all))

    last_fits : (path : Path) → PathIsNamed path → (clock : ℕ) (e : Part → Happening) (o : Option Part)
        → OutcomeFits (before + 1) (happens_last ts path clock e o g s)
    last_fits path named clock e None = unchanged_fits before (before + 1) (omega arith) s counted
    last_fits path named clock e (Some q) =
        happens_fits (front path) (named.0, all_front path.parts named.1) clock (e q)

    pub takes_fits : (clock : ℕ) (m : Message) → MessageFits m → OutcomeFits (before + 1) (takes ts clock m g s)
    takes_fits clock (Begin path) fits = happens_fits path (fits.0, fits.2) clock Begins
    takes_fits clock (Signal path from to v) fits = happens_fits path (fits.0.0, fits.0.2) clock (Signals to v)
    takes_fits clock (End path) fits =
        last_fits path (fits.0, fits.2) clock (λ q. Ends q.name q.attempt) (last_part path.parts)

    pub completion_fits : (clock : ℕ) (item : Path) (c : Completed) → PathIsNamed item
        → OutcomeFits (before + 1) (completes_item ts clock item c g s)
    completion_fits clock item c named = last_fits item named clock (λ q. Completes q.name c) (last_part item.parts)

  -- ---- holds

  module _ (levels : ℕ) (g : Graph) (here : IsInBounds ts levels g) (s : Scopes) (n : ℕ) (counted : HaveHadAtMost n s)
      (change : Holding) where
    held_same : (x : Standing) → scopes_had (held_standing change x) ≡ scopes_had x
    held_same (Item p) = refl
    held_same (Inner stage k) = refl

    held_row_had : (o : Option ℕ) (r : Row) → HaveHad (λ a. n) r.standings
        → HaveHad (λ a. n) (held_row change o r).standings
    held_row_had None r had = had
    held_row_had (Some a) r had = had_changed (λ i. n) (held_standing change) held_same a r had

    holds_here_fits : (name : Name) (h : Graph) (u : Scopes) → HaveHadAtMost n u → (o : Option Row) → u [] ≡ o
        → OutcomeFits n (holds_here change name h u o)
    holds_here_fits name h u all None at = unchanged_fits n n (omega arith) u all
    holds_here_fits name h u all (Some r) at = (
      row_counted n (held_row change (place_of h name) r) u (held_row_had (place_of h name) r (all [] r at)) all,
      All-nil MessageFits,
    )

    holds_last_counted : (parts : List Part) (o : Option Part) → HaveHadAtMost n (holds_last ts change parts o g s)
    holds_last_counted parts None = counted
    holds_last_counted parts (Some q) =
        (walk_fits (λ h t. holds_here change q.name h t (t [])) n n (omega arith) parts levels g s here counted
        (λ rest h u is inner all. holds_here_fits q.name h u all (u []) refl)).0

    pub hold_counted : (item : List Part) → HaveHadAtMost n (holds_item ts item change g s)
    hold_counted item = holds_last_counted (front_parts item) (last_part item)
