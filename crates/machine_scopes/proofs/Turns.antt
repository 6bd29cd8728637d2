-- A turn, a completion and a change of a hold do what the machine's do.
use Rattle.std.proofs.Common.{◌≡◌, ℕ, List, [], ◌∷◌, ◌++◌, Option, Some, None, refl, sym, ap, subst, ◌∙◌}
use Rattle.std.proofs.Math.Path.{fun_ext}
use Rattle.activity_states.specs.declared.states.Completed.{Completed}
use Rattle.flow_model.specs.declared.graphs.Graph.{Graph}
use Rattle.flow_model.specs.declared.graphs.Template.{Template}
use Rattle.flow_model.specs.declared.instances.Message.{Message}
use Rattle.flow_model.specs.declared.instances.Message.TheVariants.{Begin, Signal, End}
use Rattle.flow_model.specs.declared.instances.Part.{Part}
use Rattle.flow_model.specs.declared.instances.Path.{Path}
use Rattle.machine.specs.Moves as m
use Rattle.machine.specs.Rows.{Step, with_row}
use Rattle.navigator.specs.Events.{Happening, Begins, Signals, Ends, Completes, Happens, Takes}
use Rattle.navigator.specs.Holding.{HoldsChanged, SetsHold, held_state, held_at}
use Rattle.navigator.specs.Reading.{place_of}
use Rattle.navigator.specs.Steps.{Fields, fields}
use Rattle.navigator.specs.Events as e
use Rattle.navigator.specs.declared.instance.HoldChange.{HoldChange}
use Rattle.navigator.specs.declared.instance.HoldChange.TheVariants.{Person, Agent, Nobody}
use Rattle.navigator.specs.declared.scopes.ActivityState.{ActivityState, Program, Nested}
use Rattle.navigator.specs.declared.scopes.ScopeState.{ScopeState}
use Rattle.machine_scopes.specs.Events.{as_move, IsAsMoved}
use Rattle.machine_scopes.specs.Seen.{standing_of, row_of, scope_in, scopes_of, scopes_in}
use Rattle.machine_scopes.specs.Turns.{MeetsLast, MeetsMessage, MeetsItem, MeetsHold, as_holding}
use Rattle.machine_scopes.proofs.Events.{events_are_moves}
use Rattle.machine_scopes.proofs.Inside.{goes_in}
use Rattle.machine_scopes.proofs.Steps.{Shows, changes_so}

pub last_of : (ps : List Part) (q : Part) → m.last_part ps ≡ Some q → ps ≡ m.front_parts ps ++ q ∷ []
last_of [] q is = let never : None ≡ Some q = is in cc
last_of (p ∷ []) q is = let e : p ≡ q = cc in ap (λ z. z ∷ []) e
last_of (p ∷ (r ∷ rs)) q is = ap (λ zs. p ∷ zs) (last_of (r ∷ rs) q is)

last_moves : (ts : List Template) (clock : ℕ) (event : Part → Happening) (move : Part → m.Happening) (path : Path)
    (g : Graph) (s s' : ScopeState) (given : List Message) (items : List Path)
    → ((q : Part) → as_move (event q) ≡ move q) → MeetsLast ts event path.parts g s
    → ((parts : List Part) (q : Part) → path.parts ≡ parts ++ q ∷ []
    → Happens ts (record { root = path.root; parts = parts }) clock (event q) g s s' given items)
    → IsAsMoved s' given items (m.happens_last ts path clock move (m.last_part path.parts) g (scopes_of s))
last_moves ts clock event move path g s s' given items like meets is =
    subst (λ o. IsAsMoved s' given items (m.happens_last ts path clock move o g (scopes_of s))) (sym meets.is)
    (subst (λ z. IsAsMoved s' given items (m.happens ts (m.front path) clock z g (scopes_of s))) (like meets.last)
    (events_are_moves ts (m.front path) clock (event meets.last) g s s' given items meets.along
    (is (m.front_parts path.parts) meets.last (last_of path.parts meets.last meets.is))))

pub turns_are_moves : (ts : List Template) (clock : ℕ) (message : Message) (g : Graph) (s s' : ScopeState)
    (given : List Message) (items : List Path) → MeetsMessage ts message g s → Takes ts clock message g s s' given items
    → IsAsMoved s' given items (m.takes ts clock message g (scopes_of s))
turns_are_moves ts clock (Begin path) g s s' given items meets is =
    events_are_moves ts path clock Begins g s s' given items meets is
turns_are_moves ts clock (Signal path from to v) g s s' given items meets is =
    events_are_moves ts path clock (Signals to v) g s s' given items meets is
turns_are_moves ts clock (End path) g s s' given items meets is =
    last_moves ts clock (λ q. Ends q.name q.attempt) (λ q. m.Ends q.name q.attempt) path g s s' given items
    (λ q. refl) meets is

pub completions_are_moves : (ts : List Template) (clock : ℕ) (item : Path) (c : Completed) (g : Graph)
    (s s' : ScopeState) (given : List Message) (items : List Path) → MeetsItem ts c item g s
    → ((parts : List Part) (q : Part) → item.parts ≡ parts ++ q ∷ []
    → Happens ts (record { root = item.root; parts = parts }) clock (Completes q.name c) g s s' given items)
    → IsAsMoved s' given items (m.completes_item ts clock item c g (scopes_of s))
completions_are_moves ts clock item c g s s' given items meets is =
    last_moves ts clock (λ q. Completes q.name c) (λ q. m.Completes q.name c) item g s s' given items
    (λ q. refl) meets is

-- ---- holds

held_like : (change : HoldChange) (state : ActivityState)
    → standing_of (held_state change state) ≡ m.held_standing (as_holding change) (standing_of state)
held_like (Person who) (Program p) = refl
held_like (Person who) (Nested n) = refl
held_like Agent (Program p) = refl
held_like Agent (Nested n) = refl
held_like Nobody (Program p) = refl
held_like Nobody (Nested n) = refl

held_same : (change : HoldChange) (state : ActivityState) (i : ℕ)
    → scope_in (held_state change state) i ≡ scope_in state i
held_same change (Program p) i = refl
held_same change (Nested n) i = refl

here_so : (change : HoldChange) (o : Option ℕ) (s s' : ScopeState) → fields s' ≡ held_at change o (fields s)
    → with_row (m.held_row (as_holding change) o (row_of (fields s))) (scopes_of s) ≡ scopes_of s'
here_so change None s s' is = fun_ext each
  where
    each : (p : List Step) → with_row (row_of (fields s)) (scopes_of s) p ≡ scopes_of s' p
    each [] = ap (λ (f : Fields). Some (row_of f)) (sym is)
    each (q ∷ p) = ap (λ (f : Fields). scopes_in f (q ∷ p)) (sym is)
here_so change (Some a) s s' is = fun_ext each
  where
    shows : Shows (held_at change (Some a) (fields s)) e.nothing
        (record {
          row = m.changed (m.held_standing (as_holding change)) a (row_of (fields s));
          scopes = scopes_of s;
          told = m.nothing;
        })
    shows =
        changes_so (fields s) e.nothing (record { row = row_of (fields s); scopes = scopes_of s; told = m.nothing }) a
        (held_state change) (m.held_standing (as_holding change)) (held_like change) (held_same change)
        (record { row = refl; scopes = λ q p. refl; told = refl })

    each : (p : List Step) → with_row (m.held_row (as_holding change) (Some a) (row_of (fields s))) (scopes_of s) p
        ≡ scopes_of s' p
    each [] = ap Some shows.row ∙ ap (λ (f : Fields). Some (row_of f)) (sym is)
    each (q ∷ p) = shows.scopes q p ∙ ap (λ (f : Fields). scopes_in f (q ∷ p)) (sym is)

pub holds_are_moves : (ts : List Template) (item : List Part) (change : HoldChange) (g : Graph) (s s' : ScopeState)
    (take : ℕ) → MeetsHold ts item g s → HoldsChanged ts item change g s s' take
    → m.holds_item ts item (as_holding change) g (scopes_of s) ≡ scopes_of s'
holds_are_moves ts item change g s s' take meets is =
    ap (λ o. m.holds_last ts (as_holding change) (m.front_parts item) o g (scopes_of s)) meets.is
    ∙ ap (λ (o : m.Outcome). o.scopes)
    (goes_in ts (SetsHold meets.last.name change take)
    (λ h t. m.holds_here (as_holding change) meets.last.name h t (t [])) (λ h t. Unit {0}) m.nothing
    (λ h u u' meets_it sets. ap (λ xs. record { scopes = xs; told = m.nothing })
    (here_so change (place_of h meets.last.name) u u' sets.scope))
    (m.front_parts item) g s s' meets.along (is (m.front_parts item) meets.last (last_of item meets.last meets.is)))
