-- What the live transactions tell of a live root goes on being so: its Start, and its accepted completions with their outputs.
use Rattle.std.proofs.Common.{◌≡◌, ℕ, suc, ◌==◌, ◌≤◌, Bool, true, false, ◌||◌, ◌&&◌, if◌then◌else◌, List, [], ◌∷◌, ◌++◌, Option, Some, None, cond, refl, ap, sym, subst, ◌∙◌, inl, inr, append-nil}
use Rattle.std.proofs.lemmas.Bool.Decides.{eqb_tells}
use Rattle.std.proofs.lemmas.List.Elements.{filter_map-append}
use Rattle.std.proofs.lemmas.List.Folds.{list_any-append}
use Rattle.std.proofs.lemmas.Option.{none-some, option_and_then_some}
use Rattle.std.specs.List.{filter_map, cons_option, list_any}
use Rattle.std.specs.Prelude.{slice_get, nat_le, option_map, option_and_then}
use Rattle.activity_states.specs.States.{fate_of}
use Rattle.containers.specs.Settings.{filled}
use Rattle.flow_core.specs.Allowing.{IsFree, CountsRoot, IsAllowed}
use Rattle.flow_core.specs.Allowing.{IsOpen as IsOpenItem}
use Rattle.flow_core.specs.Answers.{instance_of}
use Rattle.flow_core.specs.Driving.{templates, graph_now, activity_named, entry_in, IfLive, BecomesCompleted, item_of, Drives}
use Rattle.flow_core.specs.Facts.{activity_on, activity_now, fact_by, fact_of, fact_about, settings_in, start_settings}
use Rattle.flow_core.specs.Summaries.{root_about, is_root, started, without_root, live_after}
use Rattle.flow_core.specs.declared.state.Core.{Core}
use Rattle.flow_model.specs.Containers.{fresh}
use Rattle.flow_model.specs.ScopeContainers.{graph_of, graph_in}
use Rattle.flow_model.specs.declared.graphs.Activity.{Activity}
use Rattle.flow_model.specs.declared.graphs.Graph.{Graph, out-Graph}
use Rattle.flow_model.specs.declared.graphs.Template.{Template}
use Rattle.flow_model.specs.declared.instances.Fact.{Fact}
use Rattle.flow_model.specs.declared.instances.Message.{Message}
use Rattle.flow_model.specs.declared.instances.Part.{Part}
use Rattle.flow_model.specs.declared.instances.Path.{Path}
use Rattle.flow_model.specs.declared.names.Name.{Name}
use Rattle.flow_model.specs.declared.transactions.Numbered.{Numbered}
use Rattle.flow_model.specs.declared.transactions.Setting.{Setting}
use Rattle.flow_model.specs.declared.transactions.Transaction.{Transaction}
use Rattle.flow_model.specs.declared.transactions.Transaction.TheVariants.{Import, Start, Turn, Claim, Release, Transfer, Take, Done, Force, Restart, Suspend, Resume, Terminate, Delete, Clock}
use Rattle.library_laws.specs.Larger.{Agrees}
use Rattle.navigator.specs.Items.{Stand, stand, attempts_in, entry_of, both, into_place, into, Entry, entry, entry_here, entry_at}
use Rattle.navigator.specs.Reading.{place_of, inner_of}
use Rattle.navigator.specs.declared.instance.Instance.{Instance}
use Rattle.navigator.specs.declared.scopes.ActivityState.{ActivityState, Program, Nested}
use Rattle.navigator.specs.declared.scopes.ScopeState.{ScopeState, out-ScopeState}
use Rattle.recover_queue.specs.Queues.{root_of}
use Rattle.view_laws.specs.Messages.{Note}
use Rattle.view_laws.specs.Runs.{Event, Started, Held, Stopped, facts}
use Rattle.core_laws.proofs.Places.{activity_same}
use Rattle.core_laws.proofs.Staying.{if_live, program_is}
use Rattle.core_laws.specs.RightStates.{AreRight, with_turn, with_output, note_now, runs_after, completes_in, completed_by, has_start, AreTold, AreCounted}

same_number : (n : ℕ) → (n == n) ≡ true
same_number n = elim (eqb_tells n n) [ inl e ↦ e.0 | inr no_ ↦ absurd (no_.1 refl) ]

other_number : (a b : ℕ) → (b ≡ a → ⊥) → (a == b) ≡ false
other_number a b apart = elim (eqb_tells a b) [ inl e ↦ absurd (apart (sym e.1)) | inr no_ ↦ no_.0 ]

never : false ≡ true → ⊥
never h = cc

-- ---- Starts among transactions

starts_more : (root : ℕ) (live : List Numbered) (n : Numbered) → has_start root live ≡ true → start_settings root (live ++ n ∷ []) ≡ start_settings root live
starts_more root [] n is = absurd (never is)
starts_more root (m ∷ live) n is = go (is_root root (started m.transaction)) refl (starts_more root live n)
  where
    go : (b : Bool) → is_root root (started m.transaction) ≡ b → (has_start root live ≡ true → start_settings root (live ++ n ∷ []) ≡ start_settings root live)
        → start_settings root ((m ∷ live) ++ n ∷ []) ≡ start_settings root (m ∷ live)
    go true at_ rest = rw at_ refl
    go false at_ rest = rw at_ (rest (rw at_ at is))

starts_new : (root : ℕ) (live : List Numbered) (n : Numbered) → has_start root live ≡ false → is_root root (started n.transaction) ≡ true
    → start_settings root (live ++ n ∷ []) ≡ settings_in n.transaction
starts_new root [] n none is = rw is refl
starts_new root (m ∷ live) n none is = go (is_root root (started m.transaction)) refl (λ h. starts_new root live n h is)
  where
    go : (b : Bool) → is_root root (started m.transaction) ≡ b → (has_start root live ≡ false → start_settings root (live ++ n ∷ []) ≡ settings_in n.transaction)
        → start_settings root ((m ∷ live) ++ n ∷ []) ≡ settings_in n.transaction
    go true at_ rest = let wrong : true ≡ false = rw at_ at none in cc
    go false at_ rest = rw at_ (rest (rw at_ at none))

has_more : (root : ℕ) (live : List Numbered) (n : Numbered) (b : Bool) → is_root root (started n.transaction) ≡ b → has_start root (live ++ n ∷ []) ≡ (has_start root live || b)
has_more root live n b is =
    list_any-append (λ m. is_root root (started m.transaction)) live (n ∷ []) ∙ ap (λ x. has_start root live || x) (last is)
  where
    last : is_root root (started n.transaction) ≡ b → list_any (λ m. is_root root (started m.transaction)) (n ∷ []) ≡ b
    last at_ = ap (λ x. x || false) at_ ∙ plain b
      where
        plain : (x : Bool) → (x || false) ≡ x
        plain true = refl
        plain false = refl

-- what starts a root is about it
started_about : (root : ℕ) (t : Transaction) → is_root root (started t) ≡ true → (other : ℕ) → is_root other (root_about t) ≡ true → root ≡ other
started_about root (Import text) is other about = absurd (never is)
started_about root (Start r process version starter key settings) is other about = elim (eqb_tells r root) [
  | inl e ↦ (elim (eqb_tells r other) [
    | inl e' ↦ sym e.1 ∙ e'.1
    | inr no_ ↦ absurd (never (sym no_.0 ∙ about))
  ])
  | inr no_ ↦ absurd (never (sym no_.0 ∙ is))
]
started_about root (Turn number message) is other about = absurd (never is)
started_about root (Claim item who) is other about = absurd (never is)
started_about root (Release item who) is other about = absurd (never is)
started_about root (Transfer item who to) is other about = absurd (never is)
started_about root (Take item take) is other about = absurd (never is)
started_about root (Done item who settings) is other about = absurd (never is)
started_about root (Force item settings) is other about = absurd (never is)
started_about root (Restart item) is other about = absurd (never is)
started_about root (Suspend r) is other about = absurd (never is)
started_about root (Resume r) is other about = absurd (never is)
started_about root (Terminate r) is other about = absurd (never is)
started_about root (Delete r) is other about = absurd (never is)
started_about root (Clock minutes) is other about = absurd (never is)

-- without the transactions about another root a Start is told as it was
record StaysStarted (root : ℕ) (live live' : List Numbered) : Type 0 where
  settings : start_settings root live' ≡ start_settings root live
  there : has_start root live' ≡ has_start root live

stays_without : (root other : ℕ) → (root ≡ other → ⊥) → (live : List Numbered) → StaysStarted root live (without_root other live)
stays_without root other apart [] = record { settings = refl; there = refl }
stays_without root other apart (n ∷ live) = go (is_root other (root_about n.transaction)) refl (is_root root (started n.transaction)) refl (stays_without root other apart live)
  where
    go : (b : Bool) → is_root other (root_about n.transaction) ≡ b → (s : Bool) → is_root root (started n.transaction) ≡ s → StaysStarted root live (without_root other live)
        → StaysStarted root (n ∷ live) (without_root other (n ∷ live))
    go true about true is rest = absurd (apart (started_about root n.transaction is other about))
    go true about false is rest = record { settings = rw (about, is) rest.settings; there = rw (about, is) rest.there }
    go false about true is rest = record { settings = rw (about, is) refl; there = rw (about, is) refl }
    go false about false is rest = record { settings = rw (about, is) rest.settings; there = rw (about, is) rest.there }

unstarted_without : (root other : ℕ) (live : List Numbered) → has_start root live ≡ false → has_start root (without_root other live) ≡ false
unstarted_without root other [] none = refl
unstarted_without root other (n ∷ live) none = go (is_root other (root_about n.transaction)) refl (is_root root (started n.transaction)) refl (unstarted_without root other live)
  where
    go : (b : Bool) → is_root other (root_about n.transaction) ≡ b → (s : Bool) → is_root root (started n.transaction) ≡ s
        → (has_start root live ≡ false → has_start root (without_root other live) ≡ false) → has_start root (without_root other (n ∷ live)) ≡ false
    go b about true is rest = let wrong : true ≡ false = rw is at none in cc
    go true about false is rest = rw about (rest (rw is at none))
    go false about false is rest = rw (about, is) (rest (rw is at none))

-- ---- the activity of an item that is there

activity_here : (q : Part) (here : Stand) (e : Entry) → entry_here q here ≡ Some e → activity_named here.graph q.name ≡ Some e.activity
activity_here q here e entered = begun (out-ScopeState here.scope).begun entered
  where
    of_state : (a : ℕ) (activity : Activity) (state : ActivityState) → entry here q.attempt a (Some activity) (Some state) ≡ Some e → activity ≡ e.activity
    of_state a activity (Nested n) found = absurd (none-some e found)
    of_state a activity (Program p) found = go (nat_le 1 q.attempt && nat_le q.attempt (attempts_in (fate_of p))) found
      where
        go : (b : Bool) → cond b (Some (entry_of here.graph here.scope a activity p q.attempt)) None ≡ Some e → activity ≡ e.activity
        go false none = absurd (none-some e none)
        go true some_ = let same : entry_of here.graph here.scope a activity p q.attempt ≡ e = cc in ap (λ (x : Entry). x.activity) same

    at_place : (a : ℕ) → place_of here.graph q.name ≡ Some a → (activity : Option Activity) (state : Option ActivityState) → slice_get (out-Graph here.graph).activities a ≡ activity
        → entry here q.attempt a activity state ≡ Some e → activity_named here.graph q.name ≡ Some e.activity
    at_place a place None state is found = absurd (none-some e found)
    at_place a place (Some activity) None is found = absurd (none-some e found)
    at_place a place (Some activity) (Some state) is found =
        ap (option_and_then (slice_get (out-Graph here.graph).activities)) place ∙ is ∙ ap Some (of_state a activity state found)

    begun : (b : Bool) → cond b (option_and_then (λ a. entry here q.attempt a (slice_get (out-Graph here.graph).activities a) (slice_get (out-ScopeState here.scope).states.items a)) (place_of here.graph q.name)) None ≡ Some e
        → activity_named here.graph q.name ≡ Some e.activity
    begun false found = absurd (none-some e found)
    begun true found =
        option_and_then_some (λ a. entry here q.attempt a (slice_get (out-Graph here.graph).activities a) (slice_get (out-ScopeState here.scope).states.items a)) (place_of here.graph q.name) e found
        (λ a place there. at_place a place (slice_get (out-Graph here.graph).activities a) (slice_get (out-ScopeState here.scope).states.items a) refl there)

graph_both : (o : Option Graph) (s : Option ScopeState) (x : Stand) → both o s ≡ Some x → o ≡ Some x.graph
graph_both None s x is = absurd (none-some x is)
graph_both (Some h) None x is = absurd (none-some x is)
graph_both (Some h) (Some s) x is = ap (option_and_then (λ (y : Stand). Some y.graph)) is

-- the activity that an item has is the one to which the names on its path lead
entry_activity : (ts : List Template) (parts : List Part) (here : Stand) (e : Entry) → entry_at ts parts here ≡ Some e → activity_on ts parts here.graph ≡ Some e.activity
entry_activity ts [] here e entered = absurd (none-some e entered)
entry_activity ts (q ∷ []) here e entered = activity_here q here e entered
entry_activity ts (q ∷ (r ∷ qs)) here e entered =
    option_and_then_some (entry_at ts (r ∷ qs)) (into ts here q) e entered (λ x found entered'.
    option_and_then_some (into_place ts here q.attempt) (place_of here.graph q.name) x found (λ a place there.
    option_and_then_some (λ activity. both (graph_in ts activity.work) (inner_of here.scope a q.attempt)) (slice_get (out-Graph here.graph).activities a) x there (λ activity is both_is.
    ap (option_and_then (λ (y : Activity). option_and_then (activity_on ts (r ∷ qs)) (graph_in ts y.work))) (ap (option_and_then (slice_get (out-Graph here.graph).activities)) place ∙ is)
    ∙ ap (option_and_then (activity_on ts (r ∷ qs))) (graph_both (graph_in ts activity.work) (inner_of here.scope a q.attempt) x both_is)
    ∙ entry_activity ts (r ∷ qs) x e entered')))

-- ---- from a state to the next

module _ (c c' : Core) (runs : ℕ → List Event) (are : AreRight c runs) (told : AreTold c runs) (library : Agrees (templates c) (templates c')) where
  -- a root that stays live runs the template that it ran
  abbrev Keeps : ℕ → Type 0
  Keeps root = (i i' : Instance) → instance_of c root ≡ Some i → instance_of c' root ≡ Some i' → i'.template ≡ i.template

  same_instance : (root : ℕ) → instance_of c' root ≡ instance_of c root → Keeps root
  same_instance root same i i' live live' = let one : Some i' ≡ Some i = sym live' ∙ same ∙ live in let e : i' ≡ i = cc in ap (λ (u : Instance). u.template) e

  kept_if : (root : ℕ) (becomes : Instance → Instance → Type 0) (given : List Message) → ((i i' : Instance) → becomes i i' → i'.template ≡ i.template)
      → IfLive becomes given (instance_of c root) (instance_of c' root) → Keeps root
  kept_if root becomes given keeps is i i' live live' =
      let found = if_live becomes given (instance_of c root) (instance_of c' root) is i' live' in
      let one : Some found.0 ≡ Some i = sym found.1 ∙ live in
      let e : found.0 ≡ i = cc in
      keeps found.0 i' found.2 ∙ ap (λ (u : Instance). u.template) e

  -- the activity of an item of such a root is the one that it was
  activity_kept : (item : Path) (i i' : Instance) → instance_of c item.root ≡ Some i → instance_of c' item.root ≡ Some i' → i'.template ≡ i.template → activity_now c' item ≡ activity_now c item
  activity_kept item i i' live live' template =
      let right = (are item.root i live).right in
      let now : graph_now c item.root ≡ Some right.graph = ap (option_and_then (λ (u : Instance). graph_of (templates c) u.template)) live ∙ right.process in
      let later : graph_now c' item.root ≡ Some right.graph
      = ap (option_and_then (λ (u : Instance). graph_of (templates c') u.template)) live' ∙ ap (graph_of (templates c')) template ∙ library i.template right.graph right.process in
      ap (option_and_then (activity_on (templates c') item.parts)) later
      ∙ activity_same (templates c) (templates c') library item.parts (suc right.depth) right.graph right.served.served
      ∙ sym (ap (option_and_then (activity_on (templates c) item.parts)) now)

  module _ (root : ℕ) (i i' : Instance) (live : instance_of c root ≡ Some i) (live' : instance_of c' root ≡ Some i') (template : i'.template ≡ i.template) where
    at_item : (item : Path) (settings : List Setting) (b : Bool) → (item.root == root) ≡ b
        → (if b then option_map (fact_by item settings) (activity_now c' item) else None) ≡ (if b then option_map (fact_by item settings) (activity_now c item) else None)
    at_item item settings false is = refl
    at_item item settings true is = elim (eqb_tells item.root root) [
      | inl e ↦
          ap (option_map (fact_by item settings))
          (activity_kept item i i' (ap (instance_of c) e.1 ∙ live) (ap (instance_of c') e.1 ∙ live') template)
      | inr no_ ↦ absurd (never (sym no_.0 ∙ is))
    ]

    fact_same : (n : Numbered) → fact_about c' root n ≡ fact_about c root n
    fact_same n = go n.transaction
      where
        go : (t : Transaction) → (if is_root root (root_about t) then fact_of c' t else None) ≡ (if is_root root (root_about t) then fact_of c t else None)
        go (Import text) = refl
        go (Start r process version starter key settings) = refl
        go (Turn number message) = refl
        go (Claim item who) = refl
        go (Release item who) = refl
        go (Transfer item who to) = refl
        go (Take item take) = refl
        go (Done item who settings) = at_item item settings (item.root == root) refl
        go (Force item settings) = at_item item settings (item.root == root) refl
        go (Restart item) = refl
        go (Suspend r) = refl
        go (Resume r) = refl
        go (Terminate r) = refl
        go (Delete r) = refl
        go (Clock minutes) = refl

    -- what was accepted is told as it was
    accepted_kept : (ns : List Numbered) → filter_map (fact_about c' root) ns ≡ filter_map (fact_about c root) ns
    accepted_kept [] = refl
    accepted_kept (n ∷ ns) = ap (λ o. cons_option o (filter_map (fact_about c' root) ns)) (fact_same n) ∙ ap (cons_option (fact_about c root n)) (accepted_kept ns)

  abbrev S : ℕ → List Numbered → List Fact
  S root ns = filter_map (fact_about c' root) ns

  one_tells : (root : ℕ) (n : Numbered) (o : Option Fact) → fact_about c' root n ≡ o → S root (c.live.items ++ n ∷ []) ≡ S root c.live.items ++ cons_option o []
  one_tells root n o is = filter_map-append (fact_about c' root) c.live.items (n ∷ []) ∙ ap (λ x. S root c.live.items ++ cons_option x []) is

  still : (root : ℕ) → Keeps root → (i i' : Instance) → instance_of c root ≡ Some i → instance_of c' root ≡ Some i' → facts (runs root) ≡ S root c.live.items
  still root keeps i i' live live' = (told.told root i live).facts ∙ sym (accepted_kept root i i' live live' (keeps i i' live live') c.live.items)

  -- a transaction that completes nothing
  quiet_root : (root : ℕ) (h : List Event) (n : Numbered) → fact_about c' root n ≡ None → facts h ≡ facts (runs root) → Keeps root
      → (i i' : Instance) → instance_of c root ≡ Some i → instance_of c' root ≡ Some i' → facts h ≡ S root (c.live.items ++ n ∷ [])
  quiet_root root h n none same keeps i i' live live' =
      same ∙ still root keeps i i' live live' ∙ sym (append-nil (S root c.live.items)) ∙ sym (one_tells root n None none)

  if_none : (b : Bool) (o : Option Fact) → o ≡ None → (if b then o else None) ≡ None
  if_none true o none = none
  if_none false o none = refl

  -- all roots, where a transaction is about this one
  by_root : (about : ℕ) (n : Numbered) (after : List Event → List Event) → root_about n.transaction ≡ Some about
      → ((other : ℕ) → (other ≡ about → ⊥) → instance_of c' other ≡ instance_of c other)
      → ((i' : Instance) → instance_of c' about ≡ Some i' → facts (after (runs about)) ≡ S about (c.live.items ++ n ∷ []))
      → (root : ℕ) (i' : Instance) → instance_of c' root ≡ Some i' → facts (if about == root then after (runs root) else runs root) ≡ S root (c.live.items ++ n ∷ [])
  by_root about n after is others here root i' live' = elim (eqb_tells about root) [
    | inl e ↦
        ap (λ b. facts (if b then after (runs root) else runs root)) e.0
        ∙ subst (λ (r : ℕ). (j : Instance) → instance_of c' r ≡ Some j → facts (after (runs r)) ≡ S r (c.live.items ++ n ∷ [])) e.1 here i' live'
    | inr other ↦
        let apart : root ≡ about → ⊥ = λ e. other.1 (sym e) in
        let silent : fact_about c' root n ≡ None
        = ap (λ b. if b then fact_of c' n.transaction else None) (ap (is_root root) is ∙ other.0) in
        ap (λ b. facts (if b then after (runs root) else runs root)) other.0
        ∙ quiet_root root (runs root) n silent refl (same_instance root (others root apart)) i' i' (sym (others root apart) ∙ live') live'
  ]

  -- one that completes nothing, and leaves its root where it was live
  on_live : (about : ℕ) (n : Numbered) (after : List Event → List Event) (becomes : Instance → Instance → Type 0) (given : List Message) → root_about n.transaction ≡ Some about
      → fact_of c' n.transaction ≡ None → ((h : List Event) → facts (after h) ≡ facts h) → ((i i' : Instance) → becomes i i' → i'.template ≡ i.template)
      → ((other : ℕ) → (other ≡ about → ⊥) → instance_of c' other ≡ instance_of c other) → IfLive becomes given (instance_of c about) (instance_of c' about)
      → (root : ℕ) (i' : Instance) → instance_of c' root ≡ Some i' → facts (if about == root then after (runs root) else runs root) ≡ S root (c.live.items ++ n ∷ [])
  on_live about n after becomes given is none same keeps others here =
      by_root about n after is others (λ i' live'.
      let found = if_live becomes given (instance_of c about) (instance_of c' about) here i' live' in
      quiet_root about (after (runs about)) n (if_none (is_root about (root_about n.transaction)) (fact_of c' n.transaction) none) (same (runs about))
      (kept_if about becomes given keeps here) found.0 i' found.1 live')

  kept_completed : (item : Path) (settings : List Setting) (given : List Message) (o : Option Entry)
      → BecomesCompleted (templates c) item settings o given (instance_of c item.root) (instance_of c' item.root) → Keeps item.root
  kept_completed item settings given None becomes = same_instance item.root becomes.0
  kept_completed item settings given (Some e) becomes = kept_if item.root _ given (λ i i' completed. ap (λ (u : Instance). u.template) completed.kept) becomes

  -- the item of an open item has the activity to which its path leads
  open_activity : (item : Path) (open_ : IsOpenItem c item) → activity_now c item ≡ Some open_.item.activity
  open_activity item open_ =
      let right = (are item.root open_.root open_.live).right in
      let there : option_and_then (entry_in (templates c) item) (instance_of c item.root) ≡ Some open_.item
      = program_is (option_and_then (entry_in (templates c) item) (instance_of c item.root)) open_.item open_.there in
      let entered : entry_at (templates c) item.parts (stand right.graph open_.root.scope) ≡ Some open_.item
      = sym (ap (option_and_then (λ g. entry_at (templates c) item.parts (stand g open_.root.scope))) right.process)
      ∙ sym (ap (option_and_then (entry_in (templates c) item)) open_.live) ∙ there in
      ap (option_and_then (activity_on (templates c) item.parts)) (ap (option_and_then (λ (u : Instance). graph_of (templates c) u.template)) open_.live ∙ right.process)
      ∙ entry_activity (templates c) item.parts (stand right.graph open_.root.scope) open_.item entered

  -- a completion of an open item
  completes : (item : Path) (settings : List Setting) (n : Numbered) → root_about n.transaction ≡ Some item.root
      → fact_of c' n.transaction ≡ option_map (fact_by item settings) (activity_now c' item) → (open_ : IsOpenItem c item) → Keeps item.root
      → ((other : ℕ) → (other ≡ item.root → ⊥) → instance_of c' other ≡ instance_of c other) → (root : ℕ) (i' : Instance) → instance_of c' root ≡ Some i'
      → facts (if item.root == root then with_output item settings (item_of c item) (runs root) else runs root) ≡ S root (c.live.items ++ n ∷ [])
  completes item settings n is one open_ keeps others =
      by_root item.root n (λ h. with_output item settings (item_of c item) h) is others (λ i' live'.
      let h = runs item.root in
      let fact : Fact = record { item = item; output = filled settings (fresh open_.item.activity.output) } in
      let activity : activity_now c' item ≡ Some open_.item.activity
      = activity_kept item open_.root i' open_.live live' (keeps open_.root i' open_.live live') ∙ open_activity item open_ in
      let tells : fact_about c' item.root n ≡ Some fact
      = ap (λ b. if b then fact_of c' n.transaction else None) (ap (is_root item.root) is ∙ same_number item.root) ∙ one ∙ ap (option_map (fact_by item settings)) activity in
      ap (λ o. facts (with_output item settings o h)) open_.there
      ∙ ap (λ l. l ++ fact ∷ []) (still item.root keeps open_.root i' open_.live live')
      ∙ sym (one_tells item.root n (Some fact) tells))

  pub facts_after : (t : Transaction) (number : ℕ) → AreCounted c → IsAllowed c t → (drives : Drives c t c') → (root : ℕ) (i' : Instance) → instance_of c' root ≡ Some i'
      → facts (runs_after c t runs root) ≡ S root (live_after number t c.live.items)
  facts_after (Import text) number counted allowed drives = λ root i' live'.
      quiet_root root (runs root) (record { number = number; transaction = Import text }) refl refl (same_instance root (drives.roots.0 root)) i' i' (sym (drives.roots.0 root) ∙ live') live'
  facts_after (Start about process version starter key settings) number counted allowed drives =
      let t : Transaction = Start about process version starter key settings in
      let n : Numbered = record { number = number; transaction = t } in
      by_root about n (λ h. Started ∷ []) refl drives.roots.others (λ i' live'.
      sym (one_tells about n None (if_none (is_root about (root_about t)) None refl) ∙ append-nil (S about c.live.items) ∙ none_told about (told.untold about allowed.free).items))
    where
      none_told : (r : ℕ) → completed_by r c.live.items ≡ [] → S r c.live.items ≡ []
      none_told r none = none_of_these c.live.items none
        where
          first_nil : (xs ys : List Path) → xs ++ ys ≡ [] → (xs ≡ []) × (ys ≡ [])
          first_nil [] ys is = (refl, is)
          first_nil (x ∷ xs) ys is = let n : ⊥ = cc in absurd n

          at_path : (item : Path) (o : Option Fact) (b : Bool) → (if b then item ∷ [] else []) ≡ [] → (if b then o else None) ≡ None
          at_path item o true is = let n : ⊥ = cc in absurd n
          at_path item o false is = refl

          tells_none : (t : Transaction) → completes_in r t ≡ [] → (if is_root r (root_about t) then fact_of c' t else None) ≡ None
          tells_none (Import text) is = refl
          tells_none (Start r' p v s k settings') is = if_none (r' == r) None refl
          tells_none (Turn q m) is = if_none (root_of m == r) None refl
          tells_none (Claim item who) is = if_none (item.root == r) None refl
          tells_none (Release item who) is = if_none (item.root == r) None refl
          tells_none (Transfer item who to) is = if_none (item.root == r) None refl
          tells_none (Take item take) is = if_none (item.root == r) None refl
          tells_none (Done item who settings') is = at_path item (fact_of c' (Done item who settings')) (item.root == r) is
          tells_none (Force item settings') is = at_path item (fact_of c' (Force item settings')) (item.root == r) is
          tells_none (Restart item) is = if_none (item.root == r) None refl
          tells_none (Suspend r') is = if_none (r' == r) None refl
          tells_none (Resume r') is = if_none (r' == r) None refl
          tells_none (Terminate r') is = if_none (r' == r) None refl
          tells_none (Delete r') is = if_none (r' == r) None refl
          tells_none (Clock minutes) is = refl

          none_of_these : (ns : List Numbered) → completed_by r ns ≡ [] → S r ns ≡ []
          none_of_these [] is = refl
          none_of_these (n ∷ ns) is =
              let parts = first_nil (completes_in r n.transaction) (completed_by r ns) is in
              ap (λ o. cons_option o (S r ns)) (tells_none n.transaction parts.0) ∙ none_of_these ns parts.1
  facts_after (Turn number' message) number counted allowed drives =
      on_live (root_of message) (record { number = number; transaction = Turn number' message }) (λ h. with_turn (note_now c message) h) _ drives.given refl refl
      (turn_facts (note_now c message)) (λ i i' takes. ap (λ (u : Instance). u.template) takes.kept) drives.roots.others drives.roots.here
    where
      turn_facts : (o : Option Note) (h : List Event) → facts (with_turn o h) ≡ facts h
      turn_facts None h = refl
      turn_facts (Some note) h = refl
  facts_after (Claim item who) number counted allowed drives =
      on_live item.root (record { number = number; transaction = Claim item who }) (λ h. Held item.parts true ∷ h) _ drives.given refl refl (λ h. refl) (λ i i' holds. ap (λ (u : Instance). u.template) holds.kept) drives.roots.others drives.roots.here.0
  facts_after (Release item who) number counted allowed drives =
      on_live item.root (record { number = number; transaction = Release item who }) (λ h. Held item.parts false ∷ h) _ drives.given refl refl (λ h. refl) (λ i i' holds. ap (λ (u : Instance). u.template) holds.kept) drives.roots.others drives.roots.here.0
  facts_after (Transfer item who to) number counted allowed drives =
      on_live item.root (record { number = number; transaction = Transfer item who to }) (λ h. Held item.parts true ∷ h) _ drives.given refl refl (λ h. refl) (λ i i' holds. ap (λ (u : Instance). u.template) holds.kept) drives.roots.others drives.roots.here.0
  facts_after (Take item take) number counted allowed drives =
      on_live item.root (record { number = number; transaction = Take item take }) (λ h. Held item.parts true ∷ h) _ drives.given refl refl (λ h. refl) (λ i i' holds. ap (λ (u : Instance). u.template) holds.kept) drives.roots.others drives.roots.here.0
  facts_after (Restart item) number counted allowed drives =
      on_live item.root (record { number = number; transaction = Restart item }) (λ h. Held item.parts false ∷ h) _ drives.given refl refl (λ h. refl) (λ i i' holds. ap (λ (u : Instance). u.template) holds.kept) drives.roots.others drives.roots.here.0
  facts_after (Done item who settings) number counted allowed drives =
      completes item settings (record { number = number; transaction = Done item who settings }) refl refl allowed.asked
      (kept_completed item settings drives.given (item_of c item) drives.roots.here) drives.roots.others
  facts_after (Force item settings) number counted allowed drives =
      completes item settings (record { number = number; transaction = Force item settings }) refl refl allowed.asked
      (kept_completed item settings drives.given (item_of c item) drives.roots.here) drives.roots.others
  facts_after (Suspend root) number counted allowed drives =
      on_live root (record { number = number; transaction = Suspend root }) (λ h. h) _ drives.given refl refl (λ h. refl) (λ i i' is. ap (λ (u : Instance). u.template) is) drives.roots.others drives.roots.here.0
  facts_after (Resume root) number counted allowed drives =
      on_live root (record { number = number; transaction = Resume root }) (λ h. h) _ drives.given refl refl (λ h. refl) (λ i i' is. ap (λ (u : Instance). u.template) is) drives.roots.others drives.roots.here.0
  facts_after (Terminate root) number counted allowed drives =
      on_live root (record { number = number; transaction = Terminate root }) (λ h. Stopped ∷ h) _ drives.given refl refl (λ h. refl) (λ i i' is. ap (λ (u : Instance). u.template) is) drives.roots.others drives.roots.here.0
  facts_after (Delete about) number counted allowed drives = λ root i' live'. elim (eqb_tells about root) [
    | inl is ↦ absurd (none-some i' (sym (subst (λ (r : ℕ). instance_of c' r ≡ None) is.1 drives.roots.here.0) ∙ live'))
    | inr other ↦
        let apart : root ≡ about → ⊥ = λ e. other.1 (sym e) in
        ap (λ b. facts (if b then runs root else runs root)) other.0
        ∙ still root (same_instance root (drives.roots.others root apart)) i' i' (sym (drives.roots.others root apart) ∙ live') live'
        ∙ sym (without_other about root apart c.live.items)
  ]
    where
      apart_none : (about' root : ℕ) (t : Transaction) → (root ≡ about' → ⊥) → is_root about' (root_about t) ≡ true → (if is_root root (root_about t) then fact_of c' t else None) ≡ None
      apart_none about' root t apart is = go (root_about t) is
        where
          go : (o : Option ℕ) → is_root about' o ≡ true → (if is_root root o then fact_of c' t else None) ≡ None
          go None at_ = absurd (never at_)
          go (Some r) at_ = elim (eqb_tells r root) [
            | inl e ↦ (elim (eqb_tells r about') [
              | inl e' ↦ absurd (apart (sym e.1 ∙ e'.1))
              | inr no_ ↦ absurd (never (sym no_.0 ∙ at_))
            ])
            | inr no_ ↦ ap (λ b. if b then fact_of c' t else None) no_.0
          ]

      without_other : (about' root : ℕ) → (root ≡ about' → ⊥) → (ns : List Numbered) → S root (without_root about' ns) ≡ S root ns
      without_other about' root apart [] = refl
      without_other about' root apart (n ∷ ns) = go (is_root about' (root_about n.transaction)) refl (without_other about' root apart ns)
        where
          go : (b : Bool) → is_root about' (root_about n.transaction) ≡ b → S root (without_root about' ns) ≡ S root ns → S root (without_root about' (n ∷ ns)) ≡ S root (n ∷ ns)
          go true is rest = rw is (rest ∙ ap (λ o. cons_option o (S root ns)) (sym (apart_none about' root n.transaction apart is)))
          go false is rest = rw is (ap (cons_option (fact_about c' root n)) rest)
  facts_after (Clock minutes) number counted allowed drives = λ root i' live'.
      quiet_root root (runs root) (record { number = number; transaction = Clock minutes }) refl refl (same_instance root (drives.roots.0 root)) i' i' (sym (drives.roots.0 root) ∙ live') live'

  -- ---- Starts

  -- a root that is live afterwards was live before
  abbrev WasLive : ℕ → Type 0
  WasLive root = (i' : Instance) → instance_of c' root ≡ Some i' → (i : Instance) × (instance_of c root ≡ Some i)

  was_same : (root : ℕ) → instance_of c' root ≡ instance_of c root → WasLive root
  was_same root same i' live' = (i', sym same ∙ live')

  was_if : (root : ℕ) (becomes : Instance → Instance → Type 0) (given : List Message) → IfLive becomes given (instance_of c root) (instance_of c' root) → WasLive root
  was_if root becomes given is i' live' = let found = if_live becomes given (instance_of c root) (instance_of c' root) is i' live' in (found.0, found.1)

  was_completed : (item : Path) (settings : List Setting) (given : List Message) (o : Option Entry)
      → BecomesCompleted (templates c) item settings o given (instance_of c item.root) (instance_of c' item.root) → WasLive item.root
  was_completed item settings given None becomes = was_same item.root becomes.0
  was_completed item settings given (Some e) becomes = was_if item.root _ given becomes

  abbrev Append : Numbered → List Numbered
  Append n = c.live.items ++ n ∷ []

  began_still : (root : ℕ) (n : Numbered) → WasLive root → (i' : Instance) → instance_of c' root ≡ Some i' → has_start root (Append n) ≡ true
  began_still root n was i' live' =
      let found = was i' live' in
      has_more root c.live.items n (is_root root (started n.transaction)) refl ∙ ap (λ b. b || is_root root (started n.transaction)) (told.told root found.0 found.1).began

  began_by : (about : ℕ) (n : Numbered) → ((other : ℕ) → (other ≡ about → ⊥) → instance_of c' other ≡ instance_of c other) → WasLive about
      → (root : ℕ) (i' : Instance) → instance_of c' root ≡ Some i' → has_start root (Append n) ≡ true
  began_by about n others was root i' live' = elim (eqb_tells about root) [
    | inl e ↦ subst (λ (r : ℕ). (j : Instance) → instance_of c' r ≡ Some j → has_start r (Append n) ≡ true) e.1 (began_still about n was) i' live'
    | inr other ↦ began_still root n (was_same root (others root (λ e. other.1 (sym e)))) i' live'
  ]

  pub began_after : (t : Transaction) (number : ℕ) → (drives : Drives c t c') → (root : ℕ) (i' : Instance) → instance_of c' root ≡ Some i' → has_start root (live_after number t c.live.items) ≡ true
  began_after (Import text) number drives = λ root. began_still root (record { number = number; transaction = Import text }) (was_same root (drives.roots.0 root))
  began_after (Start about process version starter key settings) number drives =
      let n : Numbered = record { number = number; transaction = Start about process version starter key settings } in
      λ root i' live'. elim (eqb_tells about root) [
        | inl e ↦ has_more root c.live.items n true e.0 ∙ ends (has_start root c.live.items)
        | inr other ↦ began_still root n (was_same root (drives.roots.others root (λ e. other.1 (sym e)))) i' live'
      ]
    where
      ends : (b : Bool) → (b || true) ≡ true
      ends true = refl
      ends false = refl
  began_after (Turn number' message) number drives = began_by (root_of message) (record { number = number; transaction = Turn number' message }) drives.roots.others (was_if (root_of message) _ drives.given drives.roots.here)
  began_after (Claim item who) number drives = began_by item.root (record { number = number; transaction = Claim item who }) drives.roots.others (was_if item.root _ drives.given drives.roots.here.0)
  began_after (Release item who) number drives = began_by item.root (record { number = number; transaction = Release item who }) drives.roots.others (was_if item.root _ drives.given drives.roots.here.0)
  began_after (Transfer item who to) number drives = began_by item.root (record { number = number; transaction = Transfer item who to }) drives.roots.others (was_if item.root _ drives.given drives.roots.here.0)
  began_after (Take item take) number drives = began_by item.root (record { number = number; transaction = Take item take }) drives.roots.others (was_if item.root _ drives.given drives.roots.here.0)
  began_after (Done item who settings) number drives =
      began_by item.root (record { number = number; transaction = Done item who settings }) drives.roots.others (was_completed item settings drives.given (item_of c item) drives.roots.here)
  began_after (Force item settings) number drives =
      began_by item.root (record { number = number; transaction = Force item settings }) drives.roots.others (was_completed item settings drives.given (item_of c item) drives.roots.here)
  began_after (Restart item) number drives = began_by item.root (record { number = number; transaction = Restart item }) drives.roots.others (was_if item.root _ drives.given drives.roots.here.0)
  began_after (Suspend root) number drives = began_by root (record { number = number; transaction = Suspend root }) drives.roots.others (was_if root _ drives.given drives.roots.here.0)
  began_after (Resume root) number drives = began_by root (record { number = number; transaction = Resume root }) drives.roots.others (was_if root _ drives.given drives.roots.here.0)
  began_after (Terminate root) number drives = began_by root (record { number = number; transaction = Terminate root }) drives.roots.others (was_if root _ drives.given drives.roots.here.0)
  began_after (Delete about) number drives = λ root i' live'. elim (eqb_tells about root) [
    | inl is ↦ absurd (none-some i' (sym (subst (λ (r : ℕ). instance_of c' r ≡ None) is.1 drives.roots.here.0) ∙ live'))
    | inr other ↦
        let apart : root ≡ about → ⊥ = λ e. other.1 (sym e) in
        (stays_without root about apart c.live.items).there ∙ (told.told root i' (sym (drives.roots.others root apart) ∙ live')).began
  ]
  began_after (Clock minutes) number drives = λ root. began_still root (record { number = number; transaction = Clock minutes }) (was_same root (drives.roots.0 root))

  -- the Start of a root that stays live is told as it was
  starts_still : (n : Numbered) (root : ℕ) (i : Instance) → instance_of c root ≡ Some i → start_settings root (Append n) ≡ start_settings root c.live.items
  starts_still n root i live = starts_more root c.live.items n (told.told root i live).began

  pub starts_after : (t : Transaction) (number : ℕ) → (drives : Drives c t c') → (root : ℕ) (i i' : Instance) → instance_of c root ≡ Some i → instance_of c' root ≡ Some i'
      → start_settings root (live_after number t c.live.items) ≡ start_settings root c.live.items
  starts_after (Import text) number drives root i i' live live' = starts_still (record { number = number; transaction = Import text }) root i live
  starts_after (Start about process version starter key settings) number drives root i i' live live' = starts_still (record { number = number; transaction = Start about process version starter key settings }) root i live
  starts_after (Turn number' message) number drives root i i' live live' = starts_still (record { number = number; transaction = Turn number' message }) root i live
  starts_after (Claim item who) number drives root i i' live live' = starts_still (record { number = number; transaction = Claim item who }) root i live
  starts_after (Release item who) number drives root i i' live live' = starts_still (record { number = number; transaction = Release item who }) root i live
  starts_after (Transfer item who to) number drives root i i' live live' = starts_still (record { number = number; transaction = Transfer item who to }) root i live
  starts_after (Take item take) number drives root i i' live live' = starts_still (record { number = number; transaction = Take item take }) root i live
  starts_after (Done item who settings) number drives root i i' live live' = starts_still (record { number = number; transaction = Done item who settings }) root i live
  starts_after (Force item settings) number drives root i i' live live' = starts_still (record { number = number; transaction = Force item settings }) root i live
  starts_after (Restart item) number drives root i i' live live' = starts_still (record { number = number; transaction = Restart item }) root i live
  starts_after (Suspend about) number drives root i i' live live' = starts_still (record { number = number; transaction = Suspend about }) root i live
  starts_after (Resume about) number drives root i i' live live' = starts_still (record { number = number; transaction = Resume about }) root i live
  starts_after (Terminate about) number drives root i i' live live' = starts_still (record { number = number; transaction = Terminate about }) root i live
  starts_after (Delete about) number drives root i i' live live' = elim (eqb_tells about root) [
    | inl is ↦ absurd (none-some i' (sym (subst (λ (r : ℕ). instance_of c' r ≡ None) is.1 drives.roots.here.0) ∙ live'))
    | inr other ↦ (stays_without root about (λ e. other.1 (sym e)) c.live.items).settings
  ]
  starts_after (Clock minutes) number drives root i i' live live' = starts_still (record { number = number; transaction = Clock minutes }) root i live

  -- a Start is told of its root
  pub start_told : (about : ℕ) (process : Name) (version : ℕ) (starter : Name) (key : Option Name) (settings : List Setting) (number : ℕ) → IsFree c about
      → start_settings about (live_after number (Start about process version starter key settings) c.live.items) ≡ settings
  start_told about process version starter key settings number free =
      starts_new about c.live.items (record { number = number; transaction = Start about process version starter key settings }) (told.untold about free).unbegun (same_number about)

  -- nothing starts a root that stays free
  unbegun_still : (n : Numbered) (root : ℕ) → IsFree c root → is_root root (started n.transaction) ≡ false → has_start root (Append n) ≡ false
  unbegun_still n root free silent =
      has_more root c.live.items n false silent ∙ ap (λ b. b || false) (told.untold root free).unbegun

  pub unbegun_after : (t : Transaction) (number : ℕ) → c.kept ≤ c.number → CountsRoot c t c' → (root : ℕ) → IsFree c' root → has_start root (live_after number t c.live.items) ≡ false
  unbegun_after (Start about process version starter key settings) number kept counts root free =
      unbegun_still (record { number = number; transaction = Start about process version starter key settings }) root (counts.free root free)
      (other_number about root (λ e. counts.used kept about refl (subst (IsFree c') e free)))
  unbegun_after (Delete about) number kept counts root free = unstarted_without root about c.live.items (told.untold root (counts.free root free)).unbegun
  unbegun_after (Import text) number kept counts root free = unbegun_still (record { number = number; transaction = Import text }) root (counts.free root free) refl
  unbegun_after (Turn number' message) number kept counts root free = unbegun_still (record { number = number; transaction = Turn number' message }) root (counts.free root free) refl
  unbegun_after (Claim item who) number kept counts root free = unbegun_still (record { number = number; transaction = Claim item who }) root (counts.free root free) refl
  unbegun_after (Release item who) number kept counts root free = unbegun_still (record { number = number; transaction = Release item who }) root (counts.free root free) refl
  unbegun_after (Transfer item who to) number kept counts root free = unbegun_still (record { number = number; transaction = Transfer item who to }) root (counts.free root free) refl
  unbegun_after (Take item take) number kept counts root free = unbegun_still (record { number = number; transaction = Take item take }) root (counts.free root free) refl
  unbegun_after (Done item who settings) number kept counts root free = unbegun_still (record { number = number; transaction = Done item who settings }) root (counts.free root free) refl
  unbegun_after (Force item settings) number kept counts root free = unbegun_still (record { number = number; transaction = Force item settings }) root (counts.free root free) refl
  unbegun_after (Restart item) number kept counts root free = unbegun_still (record { number = number; transaction = Restart item }) root (counts.free root free) refl
  unbegun_after (Suspend about) number kept counts root free = unbegun_still (record { number = number; transaction = Suspend about }) root (counts.free root free) refl
  unbegun_after (Resume about) number kept counts root free = unbegun_still (record { number = number; transaction = Resume about }) root (counts.free root free) refl
  unbegun_after (Terminate about) number kept counts root free = unbegun_still (record { number = number; transaction = Terminate about }) root (counts.free root free) refl
  unbegun_after (Clock minutes) number kept counts root free = unbegun_still (record { number = number; transaction = Clock minutes }) root (counts.free root free) refl
