-- A message that may come, or an item that may be completed, gives the messages that became due by it.
use Rattle.std.proofs.Common.{◌≡◌, ℕ, suc, ◌==◌, Bool, true, false, if◌then◌else◌, List, [], ◌∷◌, ◌++◌, map, Option, Some, None, refl, ap, sym, ◌∙◌, subst, arith, append-nil}
use Rattle.std.specs.Prelude.{not}
use Rattle.std.specs.List.{filter}
use Rattle.std.proofs.lemmas.List.{map-append}
use Rattle.activity_states.specs.declared.states.Completed.{Completed}
use Rattle.fate_laws.specs.WellFormed.{Well}
use Rattle.flow_model.specs.Scopes.{Known}
use Rattle.flow_model.specs.declared.graphs.Container.{Container}
use Rattle.flow_model.specs.declared.graphs.Graph.{Graph}
use Rattle.flow_model.specs.declared.graphs.Template.{Template}
use Rattle.flow_model.specs.declared.instances.Message.{Message}
use Rattle.flow_model.specs.declared.instances.Message.TheVariants.{Begin, Signal, End}
use Rattle.flow_model.specs.declared.instances.Part.{Part}
use Rattle.flow_model.specs.declared.instances.Path.{Path}
use Rattle.navigator.proofs.BeginGiven.{begin_given}
use Rattle.navigator.proofs.CompleteGiven.{IsReadyAt, complete_given}
use Rattle.navigator.proofs.DueParts.{end_note}
use Rattle.navigator.proofs.EndGiven.{end_given}
use Rattle.navigator.proofs.FreshAlong.{IsGivenAlong, path_given}
use Rattle.navigator.proofs.Merges.{merges_new}
use Rattle.navigator.proofs.MoreDueLooked.{due_most, leads_ready}
use Rattle.navigator.proofs.MoreLooked.{most_shows}
use Rattle.navigator.proofs.SignalGiven.{signal_given}
use Rattle.navigator.proofs.Stepping.{leads_along, counted_covers, counted_most}
use Rattle.navigator.proofs.TakesShown.{usable_of, begin_local, signal_local, end_local, output_local, output_most, taken_shown, completed_shown}
use Rattle.navigator.proofs.ToldNotes.{AreTold, told_append, told_roots, push_all, told_notes, kind_only, kind_append, kind_along}
use Rattle.navigator.specs.Events.{Begins, Signals, Ends as EndsOf, Completes, IsUsable, Receives, Happens, Takes, nothing}
use Rattle.view_laws.specs.NextEvents.{Aimed}
use Rattle.navigator.specs.Giving.{root_engine, AreOf, GivesDue, Gives, GivesTaken, GivesCompleted}
use Rattle.navigator.specs.Reading.{place_of}
use Rattle.navigator.specs.Serving.{Served}
use Rattle.navigator.specs.Showing.{graph_along, signal_between, signal_in, note_in, IsCounted}
use Rattle.navigator.specs.Steps.{Told, is_root}
use Rattle.navigator.specs.Views.{Shows}
use Rattle.navigator.specs.declared.scopes.ScopeState.{ScopeState}
use Rattle.view_laws.proofs.SameNotes.{itself, one}
use Rattle.view_laws.proofs.Trusting.{due_once}
use Rattle.view_laws.specs.Coming.{MayBegin, MaySignal, MayEnd, Leads, Comes}
use Rattle.view_laws.specs.Learning.{with_begin, with_signal, with_end, with_output, learnt, with_most}
use Rattle.view_laws.specs.Messages.{Note, BeginNote, SignalNote, EndNote, due_in}
use Rattle.view_laws.specs.Queues.{Engine, has, by_kind}
use Rattle.view_laws.specs.Runs.{Root, Event}

-- ---- from the scope to the root

end_kinds : (r b : Bool) (n : ℕ) → kind_only n (if r then [] else end_note b) ≡ (if 2 == n then (if r then [] else end_note b) else [])
end_kinds true b n = none [] (2 == n)
  where
    none : (l : List Note) (b : Bool) → l ≡ (if b then l else l)
    none l true = refl
    none l false = refl
end_kinds false false n = none [] (2 == n)
  where
    none : (l : List Note) (b : Bool) → l ≡ (if b then l else l)
    none l true = refl
    none l false = refl
end_kinds false true n = go (2 == n) refl
  where
    go : (b : Bool) → (2 == n) ≡ b → kind_only n (end_note true) ≡ (if 2 == n then end_note true else [])
    go true is = rw is refl
    go false is = rw is refl

-- the END of the scope at the end of a path, where it is over; the root has none
abbrev last_note : Path → Bool → List Note
last_note path over = if is_root path.parts then [] else end_note over

-- all that is told of a scope, by kinds
told_along : (ts : List Template) (depth : ℕ) (k k' : Known) (g : Graph) (input : Container) (path : Path) (tells : Told) → (is : IsGivenAlong ts depth k k' g input path.parts path tells)
    → AreTold is.graph path (tells.signals ++ tells.begins ++ tells.ends) (kind_only 0 is.added ++ kind_only 1 is.added ++ last_note path is.over)
told_along ts depth k k' g input path tells is =
    told_append is.graph path (tells.signals ++ tells.begins) (kind_only 0 is.added ++ kind_only 1 is.added) tells.ends (last_note path is.over)
    (told_append is.graph path tells.signals (kind_only 0 is.added) tells.begins (kind_only 1 is.added) is.signals is.begins) is.ends

-- what is told of a scope is what became due, from the root
due_root : (ts : List Template) (depth : ℕ) (k k' : Known) (g : Graph) (input : Container) (path : Path) (tells : Told) (given : List Message) → Well ts depth g
    → IsGivenAlong ts depth k k' g input path.parts path tells → given ≡ tells.signals ++ tells.begins ++ tells.ends → GivesDue ts depth g input k k' given
due_root ts depth k k' g input path tells given well is messages = λ queue_of.
    let p = path.parts in
    let r : Root = record { templates = ts; depth = depth; graph = g; input = input } in
    let x : Engine Note Event = root_engine ts depth g input queue_of in
    let last : List Note = last_note path is.over in
    let came : filter (λ m. not (has x (due_in ts depth k g input) m)) (due_in ts depth k' g input) ≡ map (push_all p) (last ++ is.added)
    = merges_new x itself one (due_in ts depth k g input) (map (push_all p) (last ++ is.added)) (due_in ts depth k' g input) is.due (λ m. due_once r queue_of ts depth k' g input well m) in
    let kinds : (n : ℕ) → kind_only n (map (push_all p) (last ++ is.added)) ≡ map (push_all p) ((if 2 == n then last else []) ++ kind_only n is.added)
    = λ n. kind_along n p (last ++ is.added) ∙ ap (map (push_all p)) (kind_append n last is.added ∙ ap (λ l. l ++ kind_only n is.added) (end_kinds (is_root p) is.over n)) in
    let notes : List Note = kind_only 0 is.added ++ kind_only 1 is.added ++ last in
    let read : map (note_in ts g) given ≡ map Some (map (push_all p) notes)
    = ap (map (note_in ts g)) messages ∙ told_notes ts g is.graph path (tells.signals ++ tells.begins ++ tells.ends) notes is.along (told_along ts depth k k' g input path tells is) in
    let third : kind_only 2 (map (push_all p) (last ++ is.added)) ≡ map (push_all p) last
    = kinds 2 ∙ ap (λ l. map (push_all p) (last ++ l)) is.none ∙ ap (map (push_all p)) (append-nil last) in
    let sorted : by_kind x (map (push_all p) (last ++ is.added)) ≡ map (push_all p) notes
    = ap (λ l. l ++ kind_only 1 (map (push_all p) (last ++ is.added)) ++ kind_only 2 (map (push_all p) (last ++ is.added))) (kinds 0)
    ∙ ap (λ l. map (push_all p) (kind_only 0 is.added) ++ l ++ kind_only 2 (map (push_all p) (last ++ is.added))) (kinds 1)
    ∙ ap (λ l. map (push_all p) (kind_only 0 is.added) ++ map (push_all p) (kind_only 1 is.added) ++ l) third
    ∙ ap (λ l. l ++ map (push_all p) last) (sym (map-append (push_all p) (kind_only 0 is.added) (kind_only 1 is.added)))
    ∙ sym (map-append (push_all p) (kind_only 0 is.added ++ kind_only 1 is.added) last) in
    read ∙ ap (map Some) (sym sorted) ∙ ap (λ l. map Some (by_kind x l)) (sym came)

-- and it names the root
given_root : (ts : List Template) (depth : ℕ) (k k' : Known) (g : Graph) (input : Container) (path : Path) (tells : Told) (given : List Message) → Well ts depth g
    → IsGivenAlong ts depth k k' g input path.parts path tells → given ≡ tells.signals ++ tells.begins ++ tells.ends → Gives path.root ts depth g input k k' given
given_root ts depth k k' g input path tells given well is messages = record {
  due = due_root ts depth k k' g input path tells given well is messages;
  named = subst (AreOf path.root) (sym messages)
      (told_roots is.graph path (tells.signals ++ tells.begins ++ tells.ends) (kind_only 0 is.added ++ kind_only 1 is.added ++ last_note path is.over)
      (told_along ts depth k k' g input path tells is));
}

-- ---- messages

pub taken_given : (ts : List Template) (clock : ℕ) (message : Message) (g : Graph) (s s' : ScopeState) (given : List Message) (items : List Path) → Takes ts clock message g s s' given items
    → GivesTaken ts g message s given
taken_given ts clock (Begin path) g s s' given items takes = λ note is depth k k' input well served aimed counted comes shows.
    let shown = taken_shown ts clock (Begin path) g s s' given items takes note is depth k k' input well served counted comes shows in
    let note_is : note ≡ BeginNote path.parts = cc in
    let now = subst (λ n. Comes ts depth k g input n k') note_is comes in
    given_root ts depth k k' g input path takes.tells given well
    (subst (λ j. IsGivenAlong ts depth k j g input path.parts path takes.tells) (sym now.1)
    (path_given ts (λ h t t'. IsUsable h → Receives ts path clock Begins nothing takes.tells h t t') (MayBegin ts) with_begin path takes.tells begin_local
    (λ d j h i t t' well' served' aimed' counted' may was after receives.
    begin_given ts d j h i t t' path clock takes.tells well' served' may was after (receives (usable_of ts d h served')))
    path.parts depth k g input s s' well served aimed counted now.0 shows (subst (λ j. Shows ts depth j g input s') now.1 shown) takes.changes))
    takes.messages
taken_given ts clock (Signal path from to v) g s s' given items takes = λ note is depth k k' input well served aimed counted comes shows.
    by (graph_along ts path.parts g) refl note is depth k k' input well served aimed counted comes shows
    (taken_shown ts clock (Signal path from to v) g s s' given items takes note is depth k k' input well served counted comes shows)
  where
    known : (h : Graph) → graph_along ts path.parts g ≡ Some h → (a b : ℕ) → place_of h to ≡ Some b → (depth : ℕ) (k : Known) (input : Container)
        → Well ts depth g → Served ts depth g → Aimed ts depth g → IsCounted k → Leads (λ d j h' i. MaySignal ts d j h' i a b v) ts depth k g input path.parts
        → Shows ts depth k g input s → Shows ts depth (learnt (with_signal a b v) path.parts k) g input s'
        → IsGivenAlong ts depth k (learnt (with_signal a b v) path.parts k) g input path.parts path takes.tells
    known h along a b place depth k input well served aimed counted leads shows shown =
        path_given ts (λ h' t t'. IsUsable h' → Receives ts path clock (Signals to v) nothing takes.tells h' t t')
        (λ d j h' i. MaySignal ts d j h' i a b v × (place_of h' to ≡ Some b)) (with_signal a b v) path takes.tells (signal_local a b v)
        (λ d j h' i t t' well' served' aimed' counted' may was after receives.
        signal_given ts d j h' i t t' path clock takes.tells a b v to well' served' aimed' counted'.messages may.0 may.1 was after (receives (usable_of ts d h' served')))
        path.parts depth k g input s s' well served aimed counted
        (leads_along ts (λ d j h' i. MaySignal ts d j h' i a b v) (λ h'. place_of h' to ≡ Some b) h place path.parts depth k g input well along leads)
        shows shown takes.changes

    between : (h : Graph) → graph_along ts path.parts g ≡ Some h → (oa ob : Option ℕ) → place_of h to ≡ ob → (note : Note) → signal_between path.parts v oa ob ≡ Some note
        → (depth : ℕ) (k k' : Known) (input : Container) → Well ts depth g → Served ts depth g → Aimed ts depth g → IsCounted k → Comes ts depth k g input note k'
        → Shows ts depth k g input s → Shows ts depth k' g input s' → Gives path.root ts depth g input k k' given
    between h along None ob place note is depth k k' input well served aimed counted comes shows shown = let n : ⊥ = cc in absurd n
    between h along (Some a) None place note is depth k k' input well served aimed counted comes shows shown = let n : ⊥ = cc in absurd n
    between h along (Some a) (Some b) place note is depth k k' input well served aimed counted comes shows shown =
        let note_is : note ≡ SignalNote path.parts a b v = cc in
        let now = subst (λ n. Comes ts depth k g input n k') note_is comes in
        given_root ts depth k k' g input path takes.tells given well
        (subst (λ j. IsGivenAlong ts depth k j g input path.parts path takes.tells) (sym now.1)
        (known h along a b place depth k input well served aimed counted now.0 shows (subst (λ j. Shows ts depth j g input s') now.1 shown)))
        takes.messages

    by : (o : Option Graph) → graph_along ts path.parts g ≡ o → (note : Note) → signal_in path.parts from to v (graph_along ts path.parts g) ≡ Some note
        → (depth : ℕ) (k k' : Known) (input : Container) → Well ts depth g → Served ts depth g → Aimed ts depth g → IsCounted k → Comes ts depth k g input note k'
        → Shows ts depth k g input s → Shows ts depth k' g input s' → Gives path.root ts depth g input k k' given
    by None along note is depth k k' input well served aimed counted comes shows shown = let wrong : None ≡ Some note = rw along at is in let n : ⊥ = cc in absurd n
    by (Some h) along note is depth k k' input well served aimed counted comes shows shown =
        between h along (place_of h from) (place_of h to) refl note (rw along at is) depth k k' input well served aimed counted comes shows shown
taken_given ts clock (End path) g s s' given items takes = λ note is depth k k' input well served aimed counted comes shows.
    let shown = taken_shown ts clock (End path) g s s' given items takes note is depth k k' input well served counted comes shows in
    let note_is : note ≡ EndNote path.parts = cc in
    let now = subst (λ n. Comes ts depth k g input n k') note_is comes in
    let around = now.0 in
    let q = now.1 in
    let happens = takes around q now.2 in
    let scope : Path = record { root = path.root; parts = around } in
    given_root ts depth k k' g input scope happens.tells given well
    (subst (λ j. IsGivenAlong ts depth k j g input around scope happens.tells) (sym now.4)
    (path_given ts (λ h t t'. IsUsable h → Receives ts scope clock (EndsOf q.name q.attempt) nothing happens.tells h t t')
    (λ d j h i. MayEnd ts d j h i q) (with_end q) scope happens.tells (end_local q)
    (λ d j h i t t' well' served' aimed' counted' may was after receives.
    end_given ts d j h i t t' scope clock happens.tells q well' served' aimed' may was after (receives (usable_of ts d h served')))
    around depth k g input s s' well served aimed counted now.3 shows (subst (λ j. Shows ts depth j g input s') now.4 shown) happens.changes))
    happens.messages

-- ---- completions

pub completed_given : (ts : List Template) (clock : ℕ) (item : Path) (c : Completed) (g : Graph) (s s' : ScopeState) (given : List Message) (items : List Path)
    → ((around : List Part) (q : Part) → item.parts ≡ around ++ q ∷ [] → Happens ts (record { root = item.root; parts = around }) clock (Completes q.name c) g s s' given items)
    → GivesCompleted ts g item c.output s given
completed_given ts clock item c g s s' given items happening = λ depth k k' input well served aimed counted comes shows.
    let shown = completed_shown ts clock item.root item.parts c g s s' given items happening depth k k' input well served counted comes shows in
    let around = comes.0 in
    let q = comes.1 in
    let happens = happening around q comes.2 in
    let most : ℕ = suc k.most in
    let enough = counted.enough in
    let scope : Path = record { root = item.root; parts = around } in
    let larger = most_shows ts depth k most counted.items g input s well (counted_covers k counted) enough (omega arith) shows in
    let then_known : learnt (with_output q c.output) around (with_most most k) ≡ k' = output_most q c.output most around k ∙ sym comes.4 in
    let along = path_given ts (λ h t t'. IsUsable h → Receives ts scope clock (Completes q.name c) nothing happens.tells h t t')
    (λ d j h i. IsReadyAt ts d j h i q) (with_output q c.output) scope happens.tells (output_local q c.output)
    (λ d j h i t t' well' served' aimed' counted' may was after receives.
    complete_given ts d j h i t t' scope clock happens.tells q c well' served' aimed' may was after (receives (usable_of ts d h served')))
    around depth (with_most most k) g input s s' well served aimed (counted_most most k (omega arith) counted)
    (leads_ready ts q most around depth k g input well counted (omega arith) comes.3) larger (subst (λ j. Shows ts depth j g input s') (sym then_known) shown) happens.changes in
    let gives : Gives item.root ts depth g input (with_most most k) k' given
    = given_root ts depth (with_most most k) k' g input scope happens.tells given well
    (subst (λ j. IsGivenAlong ts depth (with_most most k) j g input around scope happens.tells) then_known along) happens.messages in
    record {
      due = λ queue_of.
          gives.due queue_of
          ∙ ap (λ old. map Some (by_kind (root_engine ts depth g input queue_of) (filter (λ m. not (has (root_engine ts depth g input queue_of) old m)) (due_in ts depth k' g input))))
          (due_most ts depth k most counted.items g input well (counted_covers k counted) enough (omega arith));
      named = gives.named;
    }
