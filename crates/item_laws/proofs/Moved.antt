-- What happens to the items of a root by a message that is taken, and by an item that is completed.
use Rattle.std.proofs.Common.{◌≡◌, ℕ, List, [], ◌∷◌, ◌++◌, Option, Some, None, refl, ap, sym, ◌∙◌, subst}
use Rattle.std.proofs.lemmas.Option.{none-some}
use Rattle.activity_states.specs.declared.states.Completed.{Completed}
use Rattle.fate_laws.specs.WellFormed.{Well}
use Rattle.flow_model.specs.Scopes.{Known}
use Rattle.flow_model.specs.declared.graphs.Container.{Container}
use Rattle.flow_model.specs.declared.graphs.Graph.{Graph}
use Rattle.flow_model.specs.declared.graphs.Template.{Template}
use Rattle.flow_model.specs.declared.instances.Message.{Message}
use Rattle.flow_model.specs.declared.instances.Message.TheVariants.{Begin, Signal, End}
use Rattle.flow_model.specs.declared.instances.Part.{Part}
use Rattle.flow_model.specs.declared.instances.Path.{Path}
use Rattle.item_laws.proofs.Along.{along_moves}
use Rattle.item_laws.proofs.InScope.{MovesBelow, begin_moves, signal_moves, end_moves, complete_moves}
use Rattle.item_laws.proofs.Moves.{moves_items}
use Rattle.item_laws.specs.Laws.{MovesItems}
use Rattle.item_laws.specs.OpenItems.{open_at, ItemsMove}
use Rattle.navigator.proofs.Stepping.{leads_along}
use Rattle.navigator.proofs.TakesShown.{usable_of}
use Rattle.navigator.specs.Events.{Begins, Signals, Ends as EndsOf, Completes, IsUsable, Receives, Happens, Takes, nothing}
use Rattle.navigator.specs.Giving.{root_named}
use Rattle.navigator.specs.Reading.{place_of}
use Rattle.navigator.specs.Serving.{Served}
use Rattle.navigator.specs.Showing.{graph_along, signal_between, signal_in, note_in, IsCounted}
use Rattle.navigator.specs.Steps.{Told}
use Rattle.navigator.specs.Views.{Shows}
use Rattle.navigator.specs.declared.scopes.ScopeState.{ScopeState}
use Rattle.view_laws.specs.Coming.{MayBegin, MaySignal, MayEnd, MayComplete, Leads, Comes, ComesOutput}
use Rattle.view_laws.specs.Messages.{Note, BeginNote, SignalNote, EndNote}

-- a message completes no item
message_moves : (ts : List Template) (g : Graph) (path : Path) (clock : ℕ) (s s' : ScopeState) (tells : Told) (items : List Path) → items ≡ tells.ready
    → MovesBelow ts g path clock path.parts None s s' nothing tells → ItemsMove path.root clock None items (open_at ts g s) (open_at ts g s')
message_moves ts g path clock s s' tells items same moved =
    moves_items path.root clock path.parts moved.news None None items (open_at ts g s) (open_at ts g s') moved.moves (same ∙ moved.ready) (λ q none. absurd (none-some q none)) (λ item none. absurd (none-some item none))

pub taken_moves : (ts : List Template) (clock : ℕ) (message : Message) (note : Note) (g : Graph) (s s' : ScopeState) (given : List Message) (items : List Path) → Takes ts clock message g s s' given items
    → note_in ts g message ≡ Some note → MovesItems (λ depth k input k'. Comes ts depth k g input note k') ts (root_named message) clock None g s s' items
taken_moves ts clock (Begin path) note g s s' given items takes is = λ depth k k' input well served counted comes shows.
    let note_is : note ≡ BeginNote path.parts = cc in
    let now = subst (λ n. Comes ts depth k g input n k') note_is comes in
    message_moves ts g path clock s s' takes.tells items takes.ready
    (along_moves ts path clock None nothing takes.tells (λ h t t'. IsUsable h → Receives ts path clock Begins nothing takes.tells h t t') (MayBegin ts)
    (λ d j h i t t' well' served' counted' may was receives. begin_moves ts d j h i t t' path clock nothing takes.tells well' may was (receives (usable_of ts d h served')))
    path.parts depth k g input s s' well served counted now.0 shows takes.changes)
taken_moves ts clock (Signal path from to v) note g s s' given items takes is = by (graph_along ts path.parts g) refl is
  where
    known : (h : Graph) → graph_along ts path.parts g ≡ Some h → (a b : ℕ) → place_of h to ≡ Some b → (depth : ℕ) (k : Known) (input : Container)
        → Well ts depth g → Served ts depth g → IsCounted k → Leads (λ d j h' i. MaySignal ts d j h' i a b v) ts depth k g input path.parts
        → Shows ts depth k g input s → ItemsMove path.root clock None items (open_at ts g s) (open_at ts g s')
    known h along a b place depth k input well served counted leads shows =
        message_moves ts g path clock s s' takes.tells items takes.ready
        (along_moves ts path clock None nothing takes.tells (λ h' t t'. IsUsable h' → Receives ts path clock (Signals to v) nothing takes.tells h' t t')
        (λ d j h' i. MaySignal ts d j h' i a b v × (place_of h' to ≡ Some b))
        (λ d j h' i t t' well' served' counted' may was receives.
        signal_moves ts d j h' i t t' path clock nothing takes.tells a b v to well' counted'.messages may.0 may.1 was (receives (usable_of ts d h' served')))
        path.parts depth k g input s s' well served counted
        (leads_along ts (λ d j h' i. MaySignal ts d j h' i a b v) (λ h'. place_of h' to ≡ Some b) h place path.parts depth k g input well along leads)
        shows takes.changes)

    between : (h : Graph) → graph_along ts path.parts g ≡ Some h → (oa ob : Option ℕ) → place_of h to ≡ ob → signal_between path.parts v oa ob ≡ Some note
        → MovesItems (λ depth k input k'. Comes ts depth k g input note k') ts path.root clock None g s s' items
    between h along None ob place is = let n : ⊥ = cc in absurd n
    between h along (Some a) None place is = let n : ⊥ = cc in absurd n
    between h along (Some a) (Some b) place is = λ depth k k' input well served counted comes shows.
        let note_is : note ≡ SignalNote path.parts a b v = cc in
        let now = subst (λ n. Comes ts depth k g input n k') note_is comes in
        known h along a b place depth k input well served counted now.0 shows

    by : (o : Option Graph) → graph_along ts path.parts g ≡ o → signal_in path.parts from to v (graph_along ts path.parts g) ≡ Some note
        → MovesItems (λ depth k input k'. Comes ts depth k g input note k') ts path.root clock None g s s' items
    by None along is = let wrong : None ≡ Some note = rw along at is in let n : ⊥ = cc in absurd n
    by (Some h) along is = between h along (place_of h from) (place_of h to) refl (rw along at is)
taken_moves ts clock (End path) note g s s' given items takes is = λ depth k k' input well served counted comes shows.
    let note_is : note ≡ EndNote path.parts = cc in
    let now = subst (λ n. Comes ts depth k g input n k') note_is comes in
    let around = now.0 in
    let q = now.1 in
    let happens = takes around q now.2 in
    let scope : Path = record { root = path.root; parts = around } in
    message_moves ts g scope clock s s' happens.tells items happens.ready
    (along_moves ts scope clock None nothing happens.tells (λ h t t'. IsUsable h → Receives ts scope clock (EndsOf q.name q.attempt) nothing happens.tells h t t')
    (λ d j h i. MayEnd ts d j h i q)
    (λ d j h i t t' well' served' counted' may was receives.
    end_moves ts d j h i t t' scope clock nothing happens.tells q well' served' may was (receives (usable_of ts d h served')))
    around depth k g input s s' well served counted now.3 shows happens.changes)

pub completed_moves : (ts : List Template) (clock : ℕ) (item : Path) (c : Completed) (g : Graph) (s s' : ScopeState) (given : List Message) (items : List Path)
    → ((around : List Part) (q : Part) → item.parts ≡ around ++ q ∷ [] → Happens ts (record { root = item.root; parts = around }) clock (Completes q.name c) g s s' given items)
    → MovesItems (λ depth k input k'. ComesOutput ts depth k g input item.parts c.output k') ts item.root clock (Some item.parts) g s s' items
completed_moves ts clock item c g s s' given items happening = λ depth k k' input well served counted comes shows.
    let around = comes.0 in
    let q = comes.1 in
    let happens = happening around q comes.2 in
    let scope : Path = record { root = item.root; parts = around } in
    let moved = along_moves ts scope clock (Some q) nothing happens.tells (λ h t t'. IsUsable h → Receives ts scope clock (Completes q.name c) nothing happens.tells h t t')
    (λ d j h i. MayComplete ts d j h i q)
    (λ d j h i t t' well' served' counted' may was receives.
    complete_moves ts d j h i t t' scope clock nothing happens.tells q c well' may was (receives (usable_of ts d h served')))
    around depth k g input s s' well served counted comes.3 shows happens.changes in
    moves_items item.root clock around moved.news (Some q) (Some item.parts) items (open_at ts g s) (open_at ts g s') moved.moves (happens.ready ∙ moved.ready)
    (λ r is. let same : q ≡ r = cc in ap Some (comes.2 ∙ ap (λ t. around ++ t ∷ []) same))
    (λ other is. let same : item.parts ≡ other = cc in (q, refl, sym same ∙ comes.2))
