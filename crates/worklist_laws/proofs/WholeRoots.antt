-- The worklists go on holding exactly the open manual items, with each kind of transaction that is about a whole root, or about none.
use Rattle.std.proofs.Common.{◌≡◌, ℕ, zero, suc, ◌==◌, inl, inr, Bool, true, false, cond, List, [], ◌∷◌, Option, Some, None, refl, ap, ap₂, sym, ◌∙◌, subst}
use Rattle.std.specs.Prelude.{◌&&◌, slice_get, option_and_then, option_map, unwrap_or}
use Rattle.std.proofs.lemmas.Bool.Decides.{eqb_tells}
use Rattle.std.proofs.lemmas.Option.{none-some}
use Rattle.core_laws.specs.RightStates.{input_now, AreRight}
use Rattle.flow_core.specs.Allowing.{mode_in}
use Rattle.flow_core.specs.Answers.{instance_of}
use Rattle.flow_core.specs.Driving.{templates, graph_now, IfLive, BecomesQuietly, BecomesStarted, StartsIn, IsSuspended, IsTerminated, ChangesRoot}
use Rattle.flow_core.specs.Shelving.{Standing, SameStanding, ranked, rank_on, rank_now, stands, without_items}
use Rattle.flow_core.specs.declared.state.Core.{Core}
use Rattle.flow_model.specs.ScopeContainers.{graph_in, graph_of}
use Rattle.flow_model.specs.declared.graphs.Activity.{Activity}
use Rattle.flow_model.specs.declared.graphs.Graph.{Graph, out-Graph}
use Rattle.flow_model.specs.declared.graphs.Template.{Template}
use Rattle.flow_model.specs.declared.instances.ItemLine.{ItemLine}
use Rattle.flow_model.specs.declared.instances.Message.{Message}
use Rattle.flow_model.specs.declared.instances.Mode.TheVariants as mode
use Rattle.flow_model.specs.declared.instances.Part.{Part}
use Rattle.flow_model.specs.declared.instances.Path.{Path}
use Rattle.flow_model.specs.declared.names.Name.{Name}
use Rattle.flow_model.specs.declared.transactions.Setting.{Setting}
use Rattle.item_laws.proofs.DoneScopes.{done_none}
use Rattle.item_laws.proofs.NoItem.{fresh_none}
use Rattle.library_laws.proofs.SameGraphs.{HasSameGraphs, ServedInside, same_graphs}
use Rattle.library_laws.proofs.SameItems.{item_same}
use Rattle.library_laws.specs.Larger.{Agrees}
use Rattle.navigator.specs.Instances.{mode_of}
use Rattle.navigator.specs.Items.{stand, entry_at}
use Rattle.navigator.specs.Reading.{place_of}
use Rattle.navigator.specs.Showing.{graph_under}
use Rattle.navigator.specs.declared.instance.Instance.{Instance}
use Rattle.navigator.specs.declared.scopes.ScopeState.{out-ScopeState}
use Rattle.staff_worklists.specs.Standing.{begins_with}
use Rattle.staff_worklists.specs.declared.worklists.Listed.{Listed}
use Rattle.staff_worklists.specs.declared.worklists.Shelf.{Shelf}
use Rattle.view_laws.specs.Runs.{Event}
use Rattle.worklist_laws.proofs.OpenLines.{line_of, open_from, open_same, open_is, none_absent, none_terminated, none_open, open_named, rank_is}
use Rattle.worklist_laws.proofs.Shelves.{Lines, Ranks, hold_same}
use Rattle.worklist_laws.proofs.Staying.{shelved_so, rank_still}
use Rattle.worklist_laws.specs.Asking.{IsOver}
use Rattle.worklist_laws.specs.Shelved.{open_line, StandsAt, IsOfLine, HoldExactly, IsShelved}

-- ---- a root with no open item

module _ (c c' : Core) (root : ℕ) (library : templates c' ≡ templates c) (others : (other : ℕ) → (other ≡ root → ⊥) → instance_of c' other ≡ instance_of c other)
    (was : (path : Path) → path.root ≡ root → open_line c path ≡ None) (is : (path : Path) → path.root ≡ root → open_line c' path ≡ None) where
  -- there was none, and there is none
  pub none_stays : SameStanding (stands c') (stands c) → IsShelved c → IsShelved c'
  none_stays same shelved =
      hold_same (open_line c) (open_line c') (rank_now c) (rank_now c') (stands c) (stands c') same
      (λ path. elim (eqb_tells path.root root) [ inl here ↦ is path here.1 ∙ sym (was path here.1) | inr other ↦ open_same c c' path library (others path.root other.1) ])
      (λ path line has. rank_still c c' path library (others path.root (λ here. none-some line (sym (was path here) ∙ has)))) shelved

-- ---- a root whose items are all taken off

module _ (lines lines' : Lines) (ranks : Ranks) (w : Standing) (root : ℕ) (others : (path : Path) → (path.root ≡ root → ⊥) → lines' path ≡ lines path)
    (none : (path : Path) → path.root ≡ root → lines' path ≡ None)
    (begins : (path : Path) (line : ItemLine) → lines path ≡ Some line → (rest : List ℕ) × (ranks path ≡ Some (path.root ∷ rest))) (hold : HoldExactly lines ranks w) where
  -- a rank begins with the root of its path
  begins_so : (path : Path) (line : ItemLine) → lines path ≡ Some line → (rank : List ℕ) → ranks path ≡ Some rank → begins_with root rank ≡ (path.root == root)
  begins_so path line has rank is =
      let one = begins path line has in
      let same : path.root ∷ one.0 ≡ rank = (let both : Some (path.root ∷ one.0) ≡ Some rank = sym one.1 ∙ is in cc) in
      ap (begins_with root) (sym same)

  apart_test : (r : ℕ) → (r ≡ root → ⊥) → (r == root) ≡ false
  apart_test r apart = elim (eqb_tells r root) [ inl same ↦ absurd (apart same.1) | inr other ↦ other.0 ]

  each_left : (path : Path) (line : ItemLine) → lines' path ≡ Some line → StandsAt ranks (without_items root w) path line
  each_left path line has =
      let apart : path.root ≡ root → ⊥ = λ here. none-some line (sym (none path here) ∙ has) in
      let was = sym (others path apart) ∙ has in
      let one = hold.each path line was in
      record {
        rank = one.rank;
        ranked = one.ranked;
        there = λ name. ap (λ b. cond b None (w name one.rank)) (begins_so path line was one.rank one.ranked ∙ apart_test path.root apart) ∙ one.there name;
      }

  only_left : (name : Shelf) (rank : List ℕ) (listed : Listed) → without_items root w name rank ≡ Some listed → IsOfLine lines' ranks rank listed
  only_left name rank listed there = by (begins_with root rank) refl there
    where
      by : (b : Bool) → begins_with root rank ≡ b → cond b None (w name rank) ≡ Some listed → IsOfLine lines' ranks rank listed
      by true begins found = absurd (none-some listed found)
      by false begins found =
          let one = hold.only name rank listed found in
          let apart : listed.item.root ≡ root → ⊥
          = λ here. elim (eqb_tells listed.item.root root) [
            | inl same ↦ (let n : true ≡ false = sym same.0 ∙ sym (begins_so listed.item one.line one.has rank one.ranked) ∙ begins in let m : ⊥ = cc in m)
            | inr other ↦ other.1 here
          ] in
          record { line = one.line; has = others listed.item apart ∙ one.has; ranked = one.ranked }

  pub root_off : HoldExactly lines' ranks (without_items root w)
  root_off = record { each = each_left; only = only_left }

-- ---- a root that is terminated

module _ (c c' : Core) (root : ℕ) (given : List Message) (library : templates c' ≡ templates c) where
  none_terminated_now : (was is : Option Instance) → instance_of c' root ≡ is → IfLive IsTerminated given was is → (path : Path) → path.root ≡ root → open_line c' path ≡ None
  none_terminated_now None is live' becomes path here = none_absent c' path (ap (instance_of c') here ∙ live' ∙ becomes.0)
  none_terminated_now (Some i) None live' becomes path here = absurd becomes
  none_terminated_now (Some i) (Some i') live' becomes path here = none_terminated c' path i' (ap (instance_of c') here ∙ live') (ap (λ (u : Instance). u.terminated) becomes)

  same_graph : (was is : Option Instance) → IfLive IsTerminated given was is
      → option_and_then (λ (i : Instance). graph_of (templates c') i.template) is ≡ option_and_then (λ (i : Instance). graph_of (templates c) i.template) was
  same_graph None is becomes = ap (option_and_then (λ (i : Instance). graph_of (templates c') i.template)) becomes.0
  same_graph (Some i) None becomes = absurd becomes
  same_graph (Some i) (Some i') becomes = ap₂ (λ ts (u : Instance). graph_of ts u.template) library becomes

  pub terminated_stays : ChangesRoot root (BecomesQuietly IsTerminated given) c c' → SameStanding (stands c') (without_items root (stands c)) → IsShelved c → IsShelved c'
  terminated_stays changes same shelved =
      shelved_so c c' (without_items root (stands c)) same
      (root_off (open_line c) (open_line c') (rank_now c') (stands c) root (λ path apart. open_same c c' path library (changes.others path.root apart))
      (none_terminated_now (instance_of c root) (instance_of c' root) refl changes.here.0)
      (λ path line has. let named = open_named c path line has in (rank_on (templates c) path.parts named.graph, ranks path ∙ rank_is c path named.graph named.live))
      (hold_same (open_line c) (open_line c) (rank_now c) (rank_now c') (stands c) (stands c) (λ name rank. refl) (λ path. refl) (λ path line has. ranks path) shelved))
    where
      graphs : (r : ℕ) → graph_now c' r ≡ graph_now c r
      graphs r = elim (eqb_tells r root) [
        | inl is ↦ ap (graph_now c') is.1 ∙ same_graph (instance_of c root) (instance_of c' root) changes.here.0 ∙ sym (ap (graph_now c) is.1)
        | inr other ↦ ap₂ (λ ts o. option_and_then (λ (i : Instance). graph_of ts i.template) o) library (changes.others r other.1)
      ]

      ranks : (path : Path) → rank_now c' path ≡ rank_now c path
      ranks path = ap₂ (λ ts o. option_map (λ h. path.root ∷ rank_on ts path.parts h) o) library (graphs path.root)

-- ---- a root that is suspended or resumed

module _ (c c' : Core) (root : ℕ) (given : List Message) (suspended : Bool) (library : templates c' ≡ templates c) where
  abbrev Same : Option Instance → Option Instance → Type 0
  Same was is = (path : Path) → (open_from (templates c) path is ≡ open_from (templates c) path was)
      × (option_and_then (λ (i : Instance). graph_of (templates c) i.template) is ≡ option_and_then (λ (i : Instance). graph_of (templates c) i.template) was)

  suspended_same : (was is : Option Instance) → IfLive (IsSuspended suspended) given was is → Same was is
  suspended_same None is becomes path =
      (ap (open_from (templates c) path) becomes.0, ap (option_and_then (λ (i : Instance). graph_of (templates c) i.template)) becomes.0)
  suspended_same (Some i) None becomes path = absurd becomes
  suspended_same (Some i) (Some i') becomes path =
      (ap (λ (u : Instance). open_from (templates c) path (Some u)) becomes, ap (λ (u : Instance). graph_of (templates c) u.template) becomes)

  pub suspended_stays : ChangesRoot root (BecomesQuietly (IsSuspended suspended) given) c c' → SameStanding (stands c') (stands c) → IsShelved c → IsShelved c'
  suspended_stays changes same shelved =
      hold_same (open_line c) (open_line c') (rank_now c) (rank_now c') (stands c) (stands c') same
      (λ path. ap (λ ts. open_from ts path (instance_of c' path.root)) library ∙ (all path.root path).0)
      (λ path line has. ap₂ (λ ts o. option_map (λ h. path.root ∷ rank_on ts path.parts h) o) library (ap (λ ts. option_and_then (λ (i : Instance). graph_of ts i.template) (instance_of c' path.root)) library ∙ (all path.root path).1))
      shelved
    where
      all : (r : ℕ) → Same (instance_of c r) (instance_of c' r)
      all r path = elim (eqb_tells r root) [
        | inl is ↦ subst (λ (n : ℕ). Same (instance_of c n) (instance_of c' n)) (sym is.1) (suspended_same (instance_of c root) (instance_of c' root) changes.here.0) path
        | inr other ↦ (
          ap (open_from (templates c) path) (changes.others r other.1),
          ap (option_and_then (λ (i : Instance). graph_of (templates c) i.template)) (changes.others r other.1),
        )
      ]

-- ---- a root that is deleted

terminated_of : (terminated complete suspended : Bool) → mode_of terminated complete suspended ≡ mode.Terminated → terminated ≡ true
terminated_of true complete suspended is = refl
terminated_of false true suspended is = cc
terminated_of false false true is = cc
terminated_of false false false is = cc

module _ (c : Core) (runs : ℕ → List Event) (are : AreRight c runs) where
  -- a root that is over has no open item
  over_none : (root : ℕ) → IsOver c root → (path : Path) → path.root ≡ root → open_line c path ≡ None
  over_none root over path here = by (instance_of c root) refl
    where
      done : (i : Instance) (live : instance_of c root ≡ Some i) → mode_in i ≡ mode.Done → (b : Bool) → i.terminated ≡ b → open_line c path ≡ None
      done i live is true ends = none_terminated c path i (ap (instance_of c) here ∙ live) ends
      done i live is false goes =
          let right = (are root i live).right in
          open_is c path i right.graph (ap (instance_of c) here ∙ live) goes right.process
          ∙ none_open i.starter (entry_at (templates c) path.parts (stand right.graph i.scope))
          (done_none (templates c) right.depth _ right.graph (input_now c root) i.scope i.terminated i.suspended right.served.well right.shows is path.parts)

      by : (o : Option Instance) → instance_of c root ≡ o → open_line c path ≡ None
      by None absent = none_absent c path (ap (instance_of c) here ∙ absent)
      by (Some i) live = elim (over i live) [
        | inl is ↦ done i live is i.terminated refl
        | inr is ↦
            none_terminated c path i (ap (instance_of c) here ∙ live)
            (terminated_of i.terminated ((out-ScopeState i.scope).begun && ((out-ScopeState i.scope).unsettled == 0)) i.suspended is)
      ]

  pub deleted_stays : (c' : Core) (root : ℕ) (given : List Message) → ChangesRoot root (λ before after. (after ≡ None) × (given ≡ [])) c c' → templates c' ≡ templates c → IsOver c root
      → SameStanding (stands c') (stands c) → IsShelved c → IsShelved c'
  deleted_stays c' root given changes library over same shelved =
      none_stays c c' root library changes.others (over_none root over) (λ path here. none_absent c' path (ap (instance_of c') here ∙ changes.here.0)) same shelved

-- ---- a root that is started

module _ (c c' : Core) (root : ℕ) (process : Name) (version : ℕ) (starter : Name) (settings : List Setting) (given : List Message) (library : templates c' ≡ templates c)
    (absent : instance_of c root ≡ None) where
  fresh_line : (i : Instance) → instance_of c' root ≡ Some i → StartsIn (templates c) root process version starter settings i → (path : Path) → path.root ≡ root → open_line c' path ≡ None
  fresh_line i live starts path here =
      let of : graph_of (templates c') i.template ≡ Some starts.graph = ap₂ (λ ts t. graph_of ts t) library starts.started.template ∙ starts.there in
      open_is c' path i starts.graph (ap (instance_of c') here ∙ live) starts.started.lives of
      ∙ none_open i.starter (entry_at (templates c') path.parts (stand starts.graph i.scope)) (fresh_none (templates c') starts.graph starts.input i.scope (starts.started.scope starts.graph starts.there) path.parts)

  started_none : (before after : Option Instance) → before ≡ None → instance_of c' root ≡ after → BecomesStarted (templates c) root process version starter settings given before after
      → (path : Path) → path.root ≡ root → open_line c' path ≡ None
  started_none before None none live' becomes path here = none_absent c' path (ap (instance_of c') here ∙ live')
  started_none before (Some i) none live' becomes path here = elim becomes [
    | inl stay ↦ absurd (none-some i (sym none ∙ sym stay.0.0))
    | inr starts ↦ fresh_line i live' starts.0 path here
  ]

  pub started_stays : ChangesRoot root (BecomesStarted (templates c) root process version starter settings given) c c' → SameStanding (stands c') (stands c) → IsShelved c → IsShelved c'
  started_stays changes same shelved =
      none_stays c c' root library changes.others (λ path here. none_absent c path (ap (instance_of c) here ∙ absent))
      (started_none (instance_of c root) (instance_of c' root) absent refl changes.here) same shelved

-- ---- a larger library

module _ (ts ts' : List Template) (agrees : Agrees ts ts') where
  pub rank_kept : (p : List Part) (levels : ℕ) (g : Graph) → ServedInside ts levels g → rank_on ts' p g ≡ rank_on ts p g
  rank_kept [] levels g served = refl
  rank_kept (q ∷ p) zero g served = absurd served
  rank_kept (q ∷ p) (suc levels) g served =
      at (same_graphs ts ts' levels g agrees served) (λ h inner. rank_kept p levels h inner) (rank_kept p (suc levels) g served) (place_of g q.name)
    where
      behind : HasSameGraphs ts ts' g (ServedInside ts levels) → ((h : Graph) → ServedInside ts levels h → rank_on ts' p h ≡ rank_on ts p h) → rank_on ts' p g ≡ rank_on ts p g
          → (activity : Option Activity) (a : ℕ) → slice_get (out-Graph g).activities a ≡ activity
          → rank_on ts' p (unwrap_or (option_and_then (λ x. graph_in ts' x.work) activity) g) ≡ rank_on ts p (unwrap_or (option_and_then (λ x. graph_in ts x.work) activity) g)
      behind inside deeper here None a is = here
      behind inside deeper here (Some activity) a is =
          ap (λ o. rank_on ts' p (unwrap_or o g)) (inside.graphs a activity is) ∙ under (graph_in ts activity.work) refl
        where
          under : (o : Option Graph) → graph_in ts activity.work ≡ o → rank_on ts' p (unwrap_or o g) ≡ rank_on ts p (unwrap_or o g)
          under None of = here
          under (Some h) of = deeper h (inside.inside a activity is h of)

      at : HasSameGraphs ts ts' g (ServedInside ts levels) → ((h : Graph) → ServedInside ts levels h → rank_on ts' p h ≡ rank_on ts p h) → rank_on ts' p g ≡ rank_on ts p g
          → (place : Option ℕ) → ranked q.attempt (λ a. rank_on ts' p (unwrap_or (graph_under ts' g (Some a)) g)) place ≡ ranked q.attempt (λ a. rank_on ts p (unwrap_or (graph_under ts g (Some a)) g)) place
      at inside deeper here None = refl
      at inside deeper here (Some a) = ap (λ (l : List ℕ). a ∷ q.attempt ∷ l) (behind inside deeper here (slice_get (out-Graph g).activities a) a refl)

module _ (c c' : Core) (runs : ℕ → List Event) (are : AreRight c runs) (agrees : Agrees (templates c) (templates c')) (roots : (root : ℕ) → instance_of c' root ≡ instance_of c root) where
  line_kept : (path : Path) → open_line c' path ≡ open_line c path
  line_kept path = by (instance_of c path.root) refl
    where
      goes_on : (i : Instance) → instance_of c path.root ≡ Some i → (b : Bool) → i.terminated ≡ b → open_line c' path ≡ open_line c path
      goes_on i live true over = none_terminated c' path i (roots path.root ∙ live) over ∙ sym (none_terminated c path i live over)
      goes_on i live false goes =
          let right = (are path.root i live).right in
          open_is c' path i right.graph (roots path.root ∙ live) goes (agrees i.template right.graph right.process)
          ∙ ap (option_and_then (line_of i.starter)) (item_same (templates c) (templates c') agrees path.parts (suc right.depth) (stand right.graph i.scope) right.served.served)
          ∙ sym (open_is c path i right.graph live goes right.process)

      by : (o : Option Instance) → instance_of c path.root ≡ o → open_line c' path ≡ open_line c path
      by None absent = none_absent c' path (roots path.root ∙ absent) ∙ sym (none_absent c path absent)
      by (Some i) live = goes_on i live i.terminated refl

  rank_still_so : (path : Path) (line : ItemLine) → open_line c path ≡ Some line → rank_now c' path ≡ rank_now c path
  rank_still_so path line has = by (instance_of c path.root) refl
    where
      by : (o : Option Instance) → instance_of c path.root ≡ o → rank_now c' path ≡ rank_now c path
      by None absent = absurd (none-some line (sym (none_absent c path absent) ∙ has))
      by (Some i) live =
          let right = (are path.root i live).right in
          rank_is c' path right.graph (ap (option_and_then (λ (u : Instance). graph_of (templates c') u.template)) (roots path.root ∙ live) ∙ agrees i.template right.graph right.process)
          ∙ ap (λ (l : List ℕ). Some (path.root ∷ l)) (rank_kept (templates c) (templates c') agrees path.parts (suc right.depth) right.graph right.served.served)
          ∙ sym (rank_is c path right.graph (ap (option_and_then (λ (u : Instance). graph_of (templates c) u.template)) live ∙ right.process))

  pub imported_stays : SameStanding (stands c') (stands c) → IsShelved c → IsShelved c'
  imported_stays same shelved = hold_same (open_line c) (open_line c') (rank_now c) (rank_now c') (stands c) (stands c') same line_kept rank_still_so shelved
