-- The items of a root move: those that opened are listed, one that closed is taken off, and the shelves hold what is open then.
use Rattle.std.proofs.Common.{◌≡◌, ℕ, zero, suc, inl, inr, Bool, true, false, List, [], ◌∷◌, Option, Some, None, refl, ap, ap₂, sym, ◌∙◌, subst}
use Rattle.std.specs.Prelude.{slice_get, option_and_then, option_map, is_some, if◌then◌else◌}
use Rattle.std.proofs.lemmas.Bool.Decides.{eqb_tells}
use Rattle.std.proofs.lemmas.Option.{none-some}
use Rattle.activity_states.specs.States.{State}
use Rattle.flow_core.specs.Answers.{instance_of}
use Rattle.flow_core.specs.Driving.{templates, graph_now, program_entry}
use Rattle.flow_core.specs.Shelving.{Standing, line_now, rank_on, rank_now, stands, listed, all_listed, unlisted, unlisted_at}
use Rattle.flow_core.specs.declared.state.Core.{Core}
use Rattle.flow_model.specs.ScopeContainers.{graph_of}
use Rattle.flow_model.specs.declared.graphs.Graph.{Graph}
use Rattle.flow_model.specs.declared.graphs.Template.{Template}
use Rattle.flow_model.specs.declared.instances.ItemLine.{ItemLine}
use Rattle.flow_model.specs.declared.instances.Part.{Part}
use Rattle.flow_model.specs.declared.instances.Path.{Path}
use Rattle.flow_model.specs.declared.names.Name.{Name}
use Rattle.item_laws.specs.OpenItems.{open_at, IsListed, ItemsMove}
use Rattle.item_laws.specs.Laws.{ItemIsHeld}
use Rattle.item_laws.specs.Performers.{KeepsPerformers}
use Rattle.navigator.specs.Holding.{held_by}
use Rattle.navigator.specs.Items.{Entry, stand, entry_at}
use Rattle.navigator.specs.declared.instance.HoldChange.{HoldChange}
use Rattle.navigator.specs.declared.instance.Instance.{Instance}
use Rattle.worklist_laws.proofs.OpenLines.{line_of, line_at, open_same, open_is, line_is, none_open, open_entry, open_line_at, IsNamed, named_ranks, open_named, rank_is}
use Rattle.worklist_laws.proofs.Paths.{path_one, path_tells, told_of, told_here, told_other}
use Rattle.worklist_laws.proofs.Ranks.{Leads}
use Rattle.worklist_laws.proofs.SameLines.{AsksSettled, line_stays, manual_stays}
use Rattle.worklist_laws.proofs.Shelves.{Lines, AreThere, hold_same, off_holds, all_listed_hold}
use Rattle.worklist_laws.specs.Shelved.{is_open_entry, is_open_now, open_line, HoldExactly, IsShelved}

-- ---- the roots that stay

module _ (c c' : Core) (library : templates c' ≡ templates c) (graphs : (root : ℕ) → graph_now c' root ≡ graph_now c root) where
  pub ranks_same : (path : Path) → rank_now c' path ≡ rank_now c path
  ranks_same path = ap₂ (λ ts o. option_map (λ h. path.root ∷ rank_on ts path.parts h) o) library (graphs path.root)

  pub still_named : (path : Path) → IsNamed c path → IsNamed c' path
  still_named path named = record {
    graph = named.graph;
    live = graphs path.root ∙ named.live;
    leads = subst (λ (ts : List Template). Leads ts path.parts named.graph) (sym library) named.leads;
  }

  pub was_there : AreThere (IsNamed c') (open_line c)
  was_there path line has = still_named path (open_named c path line has)

  pub is_there : AreThere (IsNamed c') (open_line c')
  is_there path line has = open_named c' path line has

  -- these items are listed as they stand now, and every other path has the line that it had
  pub listed_now : (lines : Lines) (w : Standing) (items : List Path) → AreThere (IsNamed c') lines → HoldExactly lines (rank_now c') w
      → ((n : ℕ) (p : Path) → slice_get items n ≡ Some p → (line_now c' p ≡ open_line c' p) × (open_line c' p ≡ None → lines p ≡ None))
      → ((p : Path) → (IsListed items p → ⊥) → open_line c' p ≡ lines p) → HoldExactly (open_line c') (rank_now c') (all_listed c' items w)
  listed_now lines w items there hold so others = all_listed_hold (rank_now c') (IsNamed c') (named_ranks c') items (line_now c') lines (open_line c') w there is_there so others hold

-- ---- one root

module _ (c c' : Core) (root : ℕ) (library : templates c' ≡ templates c) (others : (other : ℕ) → (other ≡ root → ⊥) → instance_of c' other ≡ instance_of c other)
    (i i' : Instance) (live : instance_of c root ≡ Some i) (live' : instance_of c' root ≡ Some i') (kept : i' ≡ record i { scope = i'.scope }) (runs : i.terminated ≡ false)
    (g : Graph) (of : graph_of (templates c) i.template ≡ Some g) where
  abbrev ts : List Template
  ts = templates c

  other_line : (path : Path) → (path.root ≡ root → ⊥) → open_line c' path ≡ open_line c path
  other_line path apart = open_same c c' path library (others path.root apart)

  of' : graph_of (templates c') i'.template ≡ Some g
  of' = ap₂ (λ us (u : Instance). graph_of us u.template) library kept ∙ of

  pub graphs_same : (r : ℕ) → graph_now c' r ≡ graph_now c r
  graphs_same r = elim (eqb_tells r root) [
    | inl is ↦
        ap (graph_now c') is.1 ∙ ap (option_and_then (λ (u : Instance). graph_of (templates c') u.template)) live' ∙ of'
        ∙ sym (ap (graph_now c) is.1 ∙ ap (option_and_then (λ (u : Instance). graph_of (templates c) u.template)) live ∙ of)
    | inr other ↦ ap₂ (λ us o. option_and_then (λ (u : Instance). graph_of us u.template) o) library (others r other.1)
  ]

  before_is : (path : Path) → path.root ≡ root → open_line c path ≡ option_and_then (line_of i.starter) (entry_at ts path.parts (stand g i.scope))
  before_is path here = open_is c path i g (ap (instance_of c) here ∙ live) runs of

  after_is : (path : Path) → path.root ≡ root → open_line c' path ≡ option_and_then (line_of i.starter) (entry_at ts path.parts (stand g i'.scope))
  after_is path here =
      open_is c' path i' g (ap (instance_of c') here ∙ live') (ap (λ (u : Instance). u.terminated) kept ∙ runs) of'
      ∙ ap₂ (λ (n : Name) us. option_and_then (line_of n) (entry_at us path.parts (stand g i'.scope))) (ap (λ (u : Instance). u.starter) kept) library

  now_is : (path : Path) → path.root ≡ root → line_now c' path ≡ line_at i.starter (program_entry (entry_at ts path.parts (stand g i'.scope)))
  now_is path here =
      line_is c' path i' g (ap (instance_of c') here ∙ live') of'
      ∙ ap₂ (λ (n : Name) us. line_at n (program_entry (entry_at us path.parts (stand g i'.scope)))) (ap (λ (u : Instance). u.starter) kept) library

  -- an item that is open now is listed by its open line
  open_now : (path : Path) → path.root ≡ root → (state : State) → open_at ts g i'.scope path.parts ≡ Some state → line_now c' path ≡ open_line c' path
  open_now path here state opens = now_is path here ∙ open_line_at i.starter (entry_at ts path.parts (stand g i'.scope)) state opens ∙ sym (after_is path here)

  none_before : (path : Path) → path.root ≡ root → open_at ts g i.scope path.parts ≡ None → open_line c path ≡ None
  none_before path here none = before_is path here ∙ none_open i.starter (entry_at ts path.parts (stand g i.scope)) none

  none_after : (path : Path) → path.root ≡ root → open_at ts g i'.scope path.parts ≡ None → open_line c' path ≡ None
  none_after path here none = after_is path here ∙ none_open i.starter (entry_at ts path.parts (stand g i'.scope)) none

  module _ (keeps : KeepsPerformers ts g i.scope i'.scope) (settled : (item : List Part) (e : Entry) → entry_at ts item (stand g i.scope) ≡ Some e → is_open_entry e ≡ true → AsksSettled e)
      (shelved : IsShelved c) where
    stays : (path : Path) → path.root ≡ root → open_at ts g i'.scope path.parts ≡ open_at ts g i.scope path.parts → open_line c' path ≡ open_line c path
    stays path here same =
        after_is path here ∙ line_stays ts g i.scope i'.scope i.starter path.parts keeps (λ e there opens. settled path.parts e there opens) same ∙ sym (before_is path here)

    -- what stood on the shelves is what was open, at the ranks of now
    was_held : HoldExactly (open_line c) (rank_now c') (stands c)
    was_held = hold_same (open_line c) (open_line c) (rank_now c) (rank_now c') (stands c) (stands c) (λ name rank. refl) (λ path. refl) (λ path line has. ranks_same c c' library graphs_same path) shelved

    -- the listed items opened
    opened_now : (clock : ℕ) (items : List Path) (completed : Option (List Part)) → ItemsMove root clock completed items (open_at ts g i.scope) (open_at ts g i'.scope)
        → (n : ℕ) (p : Path) → slice_get items n ≡ Some p → (line_now c' p ≡ open_line c' p) × (open_line c p ≡ None)
    opened_now clock items completed moves n p there =
        let here = moves.named n p there in
        let opened = moves.opened n p there in
        (open_now p here opened.state opened.is, none_before p here opened.was)

    -- an event that closes nothing
    pub message_shelves : (clock : ℕ) (items : List Path) → ItemsMove root clock None items (open_at ts g i.scope) (open_at ts g i'.scope)
        → HoldExactly (open_line c') (rank_now c') (all_listed c' items (stands c))
    message_shelves clock items moves =
        listed_now c c' library graphs_same (open_line c) (stands c) items (was_there c c' library graphs_same) was_held
        (λ n p there. let now = opened_now clock items None moves n p there in (now.0, λ none. now.1))
        (λ p unlisted. elim (eqb_tells p.root root) [
          | inl is ↦
              stays p is.1
              (moves.others p.parts (λ listed. unlisted (listed.0, listed.1 ∙ ap Some (path_one (record { root = root; parts = p.parts }) p (sym is.1) refl))) (λ none. absurd (none-some p.parts none)))
          | inr other ↦ other_line p other.1
        ])

    -- ---- a completion

    module _ (item : Path) (here : item.root ≡ root) where
      abbrev left : Lines
      left = told_of item None (open_line c)

      left_there : AreThere (IsNamed c') left
      left_there path line has = elim (path_tells path item) [
        | inl is ↦ absurd (none-some line (sym (told_here item None (open_line c)) ∙ ap left (sym is.1) ∙ has))
        | inr other ↦ was_there c c' library graphs_same path line (sym (told_other item None (open_line c) path other.1) ∙ has)
      ]

      off_at : (o : Option (List ℕ)) → rank_now c item ≡ o → IsNamed c item → HoldExactly left (rank_now c') (unlisted_at o (stands c))
      off_at None is named = absurd (none-some (item.root ∷ rank_on ts item.parts named.graph) (sym is ∙ rank_is c item named.graph named.live))
      off_at (Some own) is named =
          off_holds (rank_now c') (IsNamed c') (named_ranks c') (open_line c) left (stands c) item own (was_there c c' library graphs_same) (still_named c c' library graphs_same item named)
          (ranks_same c c' library graphs_same item ∙ is) (λ q apart. told_other item None (open_line c) q apart) (told_here item None (open_line c)) was_held

      -- an item that isn't manual is on no shelf
      not_manual : line_now c item ≡ None → (p : Path) → open_line c p ≡ left p
      not_manual none p = elim (path_tells p item) [
        | inl is ↦ ap (open_line c) is.1 ∙ unlined (is_open_now c item) (line_now c item) none ∙ sym (told_here item None (open_line c)) ∙ ap left (sym is.1)
        | inr other ↦ sym (told_other item None (open_line c) p other.1)
      ]
        where
          unlined : (b : Bool) (o : Option ItemLine) → o ≡ None → (if b then o else None) ≡ None
          unlined true o is = is
          unlined false o is = refl

      off : (o : Option ItemLine) → line_now c item ≡ o → IsNamed c item → HoldExactly left (rank_now c') (if is_some o then unlisted_at (rank_now c item) (stands c) else stands c)
      off (Some line) is named = off_at (rank_now c item) refl named
      off None is named =
          hold_same (open_line c) left (rank_now c') (rank_now c') (stands c) (stands c) (λ name rank. refl) (λ p. sym (not_manual is p)) (λ path line has. refl) was_held

      left_none : (p : Path) → open_line c p ≡ None → left p ≡ None
      left_none p none = elim (path_tells p item) [
        | inl is ↦ ap left is.1 ∙ told_here item None (open_line c)
        | inr other ↦ told_other item None (open_line c) p other.1 ∙ none
      ]

      pub completion_shelves : (clock : ℕ) (items : List Path) → IsNamed c item → ItemsMove root clock (Some item.parts) items (open_at ts g i.scope) (open_at ts g i'.scope)
          → HoldExactly (open_line c') (rank_now c') (all_listed c' items (unlisted c item (stands c)))
      completion_shelves clock items named moves =
          listed_now c c' library graphs_same left (unlisted c item (stands c)) items left_there (off (line_now c item) refl named)
          (λ n p there. let now = opened_now clock items (Some item.parts) moves n p there in (now.0, λ none. left_none p now.1))
          (λ p unlisted. elim (path_tells p item) [
            | inl is ↦
                ap (open_line c') is.1 ∙ none_after item here (moves.closed item.parts refl).is ∙ sym (told_here item None (open_line c)) ∙ ap left (sym is.1)
            | inr apart ↦ elim (eqb_tells p.root root) [
              | inl is ↦
                  stays p is.1
                  (moves.others p.parts (λ listed. unlisted (listed.0, listed.1 ∙ ap Some (path_one (record { root = root; parts = p.parts }) p (sym is.1) refl)))
                  (λ same. apart.1 (path_one p item (is.1 ∙ sym here) (let parts : item.parts ≡ p.parts = cc in sym parts))))
                  ∙ sym (told_other item None (open_line c) p apart.1)
              | inr other ↦ other_line p other.1 ∙ sym (told_other item None (open_line c) p apart.1)
            ]
          ])

      -- ---- a change of a hold

      pub hold_shelves : (change : HoldChange) (state : State) → open_at ts g i.scope item.parts ≡ Some state → ItemIsHeld item.parts change state (open_at ts g i.scope) (open_at ts g i'.scope)
          → HoldExactly (open_line c') (rank_now c') (listed c' (stands c) item)
      hold_shelves change state opens held =
          let one = open_entry (entry_at ts item.parts (stand g i.scope)) state opens in
          let one' = open_entry (entry_at ts item.parts (stand g i'.scope)) (held_by change state) held.held in
          let stay = keeps item.parts one.entry one'.entry one.is one'.is in
          let manual : open_line c' item ≡ None → open_line c item ≡ None
          = λ none. before_is item here ∙ ap (option_and_then (line_of i.starter)) one.is
          ∙ manual_stays i.starter one.entry one'.entry stay.activity one'.opens (sym (after_is item here ∙ ap (option_and_then (line_of i.starter)) one'.is) ∙ none) in
          listed_now c c' library graphs_same (open_line c) (stands c) (item ∷ []) (was_there c c' library graphs_same) was_held
          (λ n p there. only n p there (open_now item here (held_by change state) held.held) manual)
          (λ p unlisted. elim (path_tells p item) [
            | inl is ↦ absurd (unlisted (0, ap Some (sym is.1)))
            | inr apart ↦ elim (eqb_tells p.root root) [
              | inl is ↦ stays p is.1 (held.others p.parts (λ same. apart.1 (path_one p item (is.1 ∙ sym here) same)))
              | inr other ↦ other_line p other.1
            ]
          ])
        where
          only : (n : ℕ) (p : Path) → slice_get (item ∷ []) n ≡ Some p → line_now c' item ≡ open_line c' item → (open_line c' item ≡ None → open_line c item ≡ None)
              → (line_now c' p ≡ open_line c' p) × (open_line c' p ≡ None → open_line c p ≡ None)
          only zero p there now manual =
              let same : item ≡ p = cc in
              subst (λ (q : Path). (line_now c' q ≡ open_line c' q) × (open_line c' q ≡ None → open_line c q ≡ None)) same (now, manual)
          only (suc n) p there now manual = absurd (none-some p there)
