-- A message that may come, or an item that may be completed, keeps what the state of a root shows.
use Rattle.std.proofs.Common.{◌≡◌, ℕ, zero, suc, ◌+◌, ◌≤◌, Bool, true, false, List, [], ◌∷◌, ◌++◌, length, Option, Some, None, refl, ap, ◌∙◌, subst, arith, cond}
use Rattle.std.specs.Prelude.{slice_get}
use Rattle.std.specs.List.{last_or}
use Rattle.activity_states.specs.declared.states.Completed.{Completed}
use Rattle.fate_laws.proofs.ItemsBelow.{strip, covers_at, strip_at_most}
use Rattle.fate_laws.specs.WellFormed.{Well}
use Rattle.flow_model.specs.Conditions.{holds}
use Rattle.flow_model.specs.Fates.{Ends, goes_on, tried, fate_by, joined}
use Rattle.flow_model.specs.ScopeContainers.{base_of}
use Rattle.flow_model.specs.Scopes.{Known, at, part, Gives, Runs, Trial, and_then, tries, gives, is_fed, trial, values_at, attempts_at, fate_given, output, tree_ends, tree_fate}
use Rattle.flow_model.specs.declared.graphs.Activity.{Activity}
use Rattle.flow_model.specs.declared.graphs.Container.{Container}
use Rattle.flow_model.specs.declared.graphs.Graph.{Graph, out-Graph}
use Rattle.flow_model.specs.declared.graphs.Template.{Template}
use Rattle.flow_model.specs.declared.graphs.Work.{Work, Program as RunsProgram, Block, Process}
use Rattle.flow_model.specs.declared.instances.Fate.TheVariants.{Ready}
use Rattle.flow_model.specs.declared.instances.Message.{Message}
use Rattle.flow_model.specs.declared.instances.Message.TheVariants.{Begin, Signal, End}
use Rattle.flow_model.specs.declared.instances.Part.{Part}
use Rattle.flow_model.specs.declared.instances.Path.{Path}
use Rattle.navigator.specs.Events.{Begins, Signals, Ends as EndsOf, Completes, IsUsable, Receives, Happens, Takes, nothing}
use Rattle.navigator.specs.Reading.{place_of}
use Rattle.navigator.specs.Serving.{Served}
use Rattle.navigator.specs.Showing.{graph_along, signal_between, signal_in, IsCounted, ShowsTaken, ShowsCompleted}
use Rattle.navigator.specs.Steps.{Told}
use Rattle.navigator.specs.Views.{Shows}
use Rattle.navigator.specs.declared.scopes.ScopeState.{ScopeState}
use Rattle.navigator.proofs.Begun.{begin_shows}
use Rattle.navigator.proofs.Completing.{complete_shows}
use Rattle.navigator.proofs.Ending.{end_shows}
use Rattle.navigator.proofs.MoreLooked.{most_output, most_shows, IsSameView, same_view, starts_most}
use Rattle.navigator.proofs.Signalled.{signal_shows}
use Rattle.navigator.proofs.Stepping.{IsLocal, path_shows, leads_along, counted_covers, counted_at, counted_most}
use Rattle.view_laws.specs.Coming.{IsNew, IsFedWhereKnown, MayBegin, MaySignal, MayEnd, MayComplete, Leads, Comes}
use Rattle.view_laws.specs.Learning.{with_begin, with_signal, with_end, with_output, with_below, learnt, with_most}
use Rattle.view_laws.specs.Messages.{Note, BeginNote, SignalNote, EndNote}

pub usable_of : (ts : List Template) (depth : ℕ) (g : Graph) → Served ts depth g → IsUsable g
usable_of ts zero g served = served.usable
usable_of ts (suc depth) g served = served.usable

-- ---- where more attempts are looked at

new_most : (most : ℕ) (k : Known) (q : Part) → IsNew k q → IsNew (with_most most k) q
new_most most k q is = record {
  ungiven = is.ungiven;
  unclosed = is.unclosed;
  untouched = record { unbegun = is.untouched.unbegun; unsent = is.untouched.unsent };
}

fed_most : (ts : List Template) (depth most : ℕ) (k : Known) (g : Graph) (input : Container) → tree_ends ts depth (with_most most k) g input ≡ tree_ends ts depth k g input
    → IsFedWhereKnown ts depth k g input → IsFedWhereKnown ts depth (with_most most k) g input
fed_most ts depth most k g input ends fed = λ a activity is known. rw ends (fed a activity is (rw ends at known))

fate_most : (ts : List Template) (depth most : ℕ) (k : Known) (g : Graph) (input : Container) → IsSameView ts depth k most g input → (a : ℕ)
    → tree_fate ts depth (with_most most k) g input a ≡ tree_fate ts depth k g input a
fate_most ts depth most k g input same a =
    ap (λ e. fate_given ts (with_most most k) (output ts depth) g input e a) same.ends
    ∙ same.fates (tree_ends ts depth k g input) a

-- ---- the END of an attempt, however many attempts are looked at

end_here : (ts : List Template) (depth : ℕ) (k : Known) (g : Graph) (input : Container) (q : Part) (s s' : ScopeState) (path : Path) (clock : ℕ) (before after : Told)
    → Well ts depth g → Served ts depth g → IsCounted k → MayEnd ts depth k g input q → Shows ts depth k g input s
    → Receives ts path clock (EndsOf q.name q.attempt) before after g s s' → Shows ts depth (with_end q k) g input s'
end_here ts zero k g input q s s' path clock before after well served counted may shows receives =
    absurd (served.inside may.place may.activity may.graph may.is may.of)
end_here ts (suc depth) k g input q s s' path clock before after well served counted may shows receives =
    let most : ℕ = k.most + may.start.attempt in
    let items = counted.items in
    let covers = counted_covers k counted in
    let enough = counted.enough in
    let enough' : length items ≤ most = omega arith in
    let same = same_view ts (suc depth) k most items g input well covers enough enough' in
    let less = strip_at_most q items in
    let inner = most_output ts depth (at q k) most (strip q items) may.graph may.start.input (well.inside may.place may.activity may.is may.graph may.of) (covers_at k items q covers)
    (omega arith) (omega arith) in
    let may' : MayEnd ts (suc depth) (with_most most k) g input q = record {
      begun = may.begun;
      fed = fed_most ts (suc depth) most k g input same.ends may.fed;
      place = may.place;
      activity = may.activity;
      graph = may.graph;
      number = may.number;
      start = may.start;
      out = may.out;
      is = may.is;
      of = may.of;
      named = may.named;
      started = ap (λ (ss : List _). slice_get ss may.number) (starts_most ts (suc depth) most k g input same may.place may.activity may.is) ∙ may.started;
      unclosed = may.unclosed;
      complete = inner ∙ may.complete;
      unstarted = new_most most k (part may.activity.name (may.start.attempt + 1)) may.unstarted;
    } in
    let larger = most_shows ts (suc depth) k most items g input s well covers enough enough' shows in
    let ended = end_shows ts (suc depth) (with_most most k) g input s s' path clock before after q well served counted.messages may' (omega arith) larger receives in
    most_shows ts (suc depth) (with_end q (with_most most k)) k.most items g input s' well covers enough' enough ended

-- ---- the completion of an item

tries_short : (n : ℕ) (give : Gives) (t : Trial) (j : ℕ) (i : Container) → length (tries n give t j i) ≤ n
tries_short zero give t j i = omega arith
tries_short (suc n) give t j i = go (give j i) (λ out. tries_short n give t (j + 1) (t.loops out))
  where
    either : (b : Bool) (xs : List Container) → length xs ≤ n → length (cond b [] xs) ≤ n
    either true xs le = omega arith
    either false xs le = le

    go : (o : Option Container) → ((out : Container) → length (tries n give t (j + 1) (t.loops out)) ≤ n)
        → length (and_then t o (λ out. tries n give t (j + 1) (t.loops out))) ≤ suc n
    go None rest = omega arith
    go (Some out) rest = let le = either (holds t.exit out) (tries n give t (j + 1) (t.loops out)) (rest out) in omega arith

next_short : (w : Work) (n m j : ℕ) → goes_on w n ≡ Ready j → n ≤ m → j ≤ m
next_short (RunsProgram p) n m j is le = let same : n ≡ j = cc in omega arith
next_short (Block g) n m j is le = let n : ⊥ = cc in absurd n
next_short (Process t) n m j is le = let n : ⊥ = cc in absurd n

tried_short : (activity : Activity) (n m j : ℕ) (o : Option Container) → tried activity n o ≡ Ready j → n ≤ m → j ≤ m + 1
tried_short activity n m j None is le = next_short activity.work 1 (m + 1) j is (omega arith)
tried_short activity n m j (Some out) is le = go (holds activity.exit out) refl
  where
    go : (b : Bool) → holds activity.exit out ≡ b → j ≤ m + 1
    go true ends = let n : ⊥ = (let wrong = rw ends at is in cc) in absurd n
    go false ends = next_short activity.work (n + 1) (m + 1) j (rw ends at is) (omega arith)

by_short : (activity : Activity) (v : Option Bool) (outs : List Container) (m j : ℕ) → fate_by activity v outs ≡ Ready j → length outs ≤ m → j ≤ m + 1
by_short activity None outs m j is le = let n : ⊥ = cc in absurd n
by_short activity (Some false) outs m j is le = let n : ⊥ = cc in absurd n
by_short activity (Some true) outs m j is le = tried_short activity (length outs) m j (last_or None outs) is le

outputs_short : (ts : List Template) (k : Known) (runs : Runs) (g : Graph) (input : Container) (e : Ends) (a : ℕ) (activity : Activity)
    → length (attempts_at ts k runs g input e a (Some activity)) ≤ k.most
outputs_short ts k runs g input e a activity =
    either (is_fed (out-Graph g).lines a e)
    (tries k.most (gives ts k runs activity.name activity.work) (trial g a activity (base_of g activity a input e)) 1 (base_of g activity a input e))
    (tries_short k.most (gives ts k runs activity.name activity.work) (trial g a activity (base_of g activity a input e)) 1 (base_of g activity a input e))
  where
    either : (b : Bool) (xs : List Container) → length xs ≤ k.most → length (cond b xs []) ≤ k.most
    either true xs le = le
    either false xs le = omega arith

-- the number of a ready attempt
ready_short : (ts : List Template) (k : Known) (runs : Runs) (g : Graph) (input : Container) (e : Ends) (a : ℕ) (activity : Activity) (j : ℕ)
    → slice_get (out-Graph g).activities a ≡ Some activity → fate_given ts k runs g input e a ≡ Ready j → j ≤ k.most + 1
ready_short ts k runs g input e a activity j is ready = go (k.begun []) refl
  where
    go : (b : Bool) → k.begun [] ≡ b → j ≤ k.most + 1
    go false none = let n : ⊥ = (let wrong = rw none at ready in cc) in absurd n
    go true now =
        by_short activity (joined activity.join (values_at k (out-Graph g).controls e a)) (attempts_at ts k runs g input e a (Some activity)) k.most j (rw (now, is) at ready)
        (outputs_short ts k runs g input e a activity)

-- an item may be completed, with the number of its attempt among those that are looked at
abbrev MayCompleteNow : List Template → Part → ℕ → Known → Graph → Container → Type 0
MayCompleteNow ts q depth k g input = MayComplete ts depth k g input q × (q.attempt ≤ k.most)

leads_now : (ts : List Template) (q : Part) (most : ℕ) (p : List Part) (depth : ℕ) (k : Known) (g : Graph) (input : Container) → Well ts depth g → IsCounted k → k.most + 1 ≤ most
    → Leads (λ d j h i. MayComplete ts d j h i q) ts depth k g input p → Leads (MayCompleteNow ts q) ts depth (with_most most k) g input p
leads_now ts q most [] depth k g input well counted le may =
    let enough = counted.enough in
    let same = same_view ts depth k most counted.items g input well (counted_covers k counted) enough (omega arith) in
    let few = ready_short ts k (output ts depth) g input (tree_ends ts depth k g input) may.place may.activity q.attempt may.is may.ready in (
      record {
        begun = may.begun;
        fed = fed_most ts depth most k g input same.ends may.fed;
        place = may.place;
        activity = may.activity;
        program = may.program;
        is = may.is;
        runs = may.runs;
        name = may.name;
        ready = fate_most ts depth most k g input same may.place ∙ may.ready;
        ungiven = may.ungiven;
        unstarted = new_most most k (part may.activity.name (q.attempt + 1)) may.unstarted;
      },
      omega arith,
    )
leads_now ts q most (r ∷ p) zero k g input well counted le leads = absurd leads
leads_now ts q most (r ∷ p) (suc depth) k g input well counted le leads =
    let enough = counted.enough in
    let same = same_view ts (suc depth) k most counted.items g input well (counted_covers k counted) enough (omega arith) in
    record {
      place = leads.place;
      activity = leads.activity;
      graph = leads.graph;
      number = leads.number;
      start = leads.start;
      is = leads.is;
      of = leads.of;
      named = leads.named;
      started = ap (λ (ss : List _). slice_get ss leads.number) (starts_most ts (suc depth) most k g input same leads.place leads.activity leads.is) ∙ leads.started;
      unclosed = leads.unclosed;
      within = leads_now ts q most p depth (at r k) leads.graph leads.start.input (well.inside leads.place leads.activity leads.is leads.graph leads.of) (counted_at r k counted) le leads.within;
    }

pub output_most : (q : Part) (out : Container) (most : ℕ) (p : List Part) (k : Known) → learnt (with_output q out) p (with_most most k) ≡ with_most most (learnt (with_output q out) p k)
output_most q out most [] k = refl
output_most q out most (r ∷ p) k = ap (λ j. with_below r j (with_most most k)) (output_most q out most p (at r k))

-- ---- messages

pub begin_local : IsLocal with_begin
begin_local = record { most = λ k. refl; given = λ k. refl; closed = λ k. refl }

pub signal_local : (a b : ℕ) (v : Bool) → IsLocal (with_signal a b v)
signal_local a b v = record { most = λ k. refl; given = λ k. refl; closed = λ k. refl }

pub end_local : (q : Part) → IsLocal (with_end q)
end_local q = record { most = λ k. refl; given = λ k. refl; closed = λ k. refl }

pub output_local : (q : Part) (out : Container) → IsLocal (with_output q out)
output_local q out = record { most = λ k. refl; given = λ k. refl; closed = λ k. refl }

pub taken_shown : (ts : List Template) (clock : ℕ) (message : Message) (g : Graph) (s s' : ScopeState) (given : List Message) (items : List Path) → Takes ts clock message g s s' given items
    → ShowsTaken ts g message s s'
taken_shown ts clock (Begin path) g s s' given items takes = λ note is depth k k' input well served counted comes shows.
    let note_is : note ≡ BeginNote path.parts = cc in
    let now = subst (λ n. Comes ts depth k g input n k') note_is comes in
    rw (now.1)
    (path_shows ts (λ h t t'. IsUsable h → Receives ts path clock Begins nothing takes.tells h t t') (MayBegin ts) with_begin begin_local
    (λ d j h i t t' well' served' counted' may was receives.
    begin_shows ts d j h i t t' path clock nothing takes.tells well' served' counted'.messages may was (receives (usable_of ts d h served')))
    path.parts depth k g input s s' well served counted now.0 shows takes.changes)
taken_shown ts clock (Signal path from to v) g s s' given items takes = λ note is depth k k' input well served counted comes shows.
    by (graph_along ts path.parts g) refl note is depth k k' input well served counted comes shows
  where
    known : (h : Graph) → graph_along ts path.parts g ≡ Some h → (a b : ℕ) → place_of h to ≡ Some b → (depth : ℕ) (k : Known) (input : Container)
        → Well ts depth g → Served ts depth g → IsCounted k → Leads (λ d j h' i. MaySignal ts d j h' i a b v) ts depth k g input path.parts
        → Shows ts depth k g input s → Shows ts depth (learnt (with_signal a b v) path.parts k) g input s'
    known h along a b place depth k input well served counted leads shows =
        path_shows ts (λ h' t t'. IsUsable h' → Receives ts path clock (Signals to v) nothing takes.tells h' t t')
        (λ d j h' i. MaySignal ts d j h' i a b v × (place_of h' to ≡ Some b)) (with_signal a b v) (signal_local a b v)
        (λ d j h' i t t' well' served' counted' may was receives.
        signal_shows ts d j h' i t t' path clock nothing takes.tells a b v to well' served' counted'.messages may.0 may.1 was (receives (usable_of ts d h' served')))
        path.parts depth k g input s s' well served counted
        (leads_along ts (λ d j h' i. MaySignal ts d j h' i a b v) (λ h'. place_of h' to ≡ Some b) h place path.parts depth k g input well along leads)
        shows takes.changes

    between : (h : Graph) → graph_along ts path.parts g ≡ Some h → (oa ob : Option ℕ) → place_of h to ≡ ob → (note : Note) → signal_between path.parts v oa ob ≡ Some note
        → (depth : ℕ) (k k' : Known) (input : Container) → Well ts depth g → Served ts depth g → IsCounted k → Comes ts depth k g input note k'
        → Shows ts depth k g input s → Shows ts depth k' g input s'
    between h along None ob place note is depth k k' input well served counted comes shows = let n : ⊥ = cc in absurd n
    between h along (Some a) None place note is depth k k' input well served counted comes shows = let n : ⊥ = cc in absurd n
    between h along (Some a) (Some b) place note is depth k k' input well served counted comes shows =
        let note_is : note ≡ SignalNote path.parts a b v = cc in
        let now = subst (λ n. Comes ts depth k g input n k') note_is comes in
        rw (now.1) (known h along a b place depth k input well served counted now.0 shows)

    by : (o : Option Graph) → graph_along ts path.parts g ≡ o → (note : Note) → signal_in path.parts from to v (graph_along ts path.parts g) ≡ Some note
        → (depth : ℕ) (k k' : Known) (input : Container) → Well ts depth g → Served ts depth g → IsCounted k → Comes ts depth k g input note k'
        → Shows ts depth k g input s → Shows ts depth k' g input s'
    by None along note is depth k k' input well served counted comes shows = let wrong : None ≡ Some note = rw along at is in let n : ⊥ = cc in absurd n
    by (Some h) along note is depth k k' input well served counted comes shows =
        between h along (place_of h from) (place_of h to) refl note (rw along at is) depth k k' input well served counted comes shows
taken_shown ts clock (End path) g s s' given items takes = λ note is depth k k' input well served counted comes shows.
    let note_is : note ≡ EndNote path.parts = cc in
    let now = subst (λ n. Comes ts depth k g input n k') note_is comes in
    let around = now.0 in
    let q = now.1 in
    let happens = takes around q now.2 in
    let scope : Path = record { root = path.root; parts = around } in
    rw (now.4)
    (path_shows ts (λ h t t'. IsUsable h → Receives ts scope clock (EndsOf q.name q.attempt) nothing happens.tells h t t')
    (λ d j h i. MayEnd ts d j h i q) (with_end q) (end_local q)
    (λ d j h i t t' well' served' counted' may was receives.
    end_here ts d j h i q t t' scope clock nothing happens.tells well' served' counted' may was (receives (usable_of ts d h served')))
    around depth k g input s s' well served counted now.3 shows happens.changes)

-- ---- completions

pub completed_shown : (ts : List Template) (clock root : ℕ) (item : List Part) (c : Completed) (g : Graph) (s s' : ScopeState) (given : List Message) (items : List Path)
    → ((around : List Part) (q : Part) → item ≡ around ++ q ∷ [] → Happens ts (record { root = root; parts = around }) clock (Completes q.name c) g s s' given items)
    → ShowsCompleted ts g item c.output s s'
completed_shown ts clock root item c g s s' given items happening = λ depth k k' input well served counted comes shows.
    let around = comes.0 in
    let q = comes.1 in
    let happens = happening around q comes.2 in
    let most : ℕ = suc k.most in
    let enough = counted.enough in
    let scope : Path = record { root = root; parts = around } in
    let larger = most_shows ts depth k most counted.items g input s well (counted_covers k counted) enough (omega arith) shows in
    rw (comes.4)
    (subst (λ j. Shows ts depth j g input s') (output_most q c.output most around k)
    (path_shows ts (λ h t t'. IsUsable h → Receives ts scope clock (Completes q.name c) nothing happens.tells h t t')
    (MayCompleteNow ts q) (with_output q c.output) (output_local q c.output)
    (λ d j h i t t' well' served' counted' may was receives.
    complete_shows ts d j h i t t' scope clock nothing happens.tells q c well' served' counted'.messages may.0 may.1 was (receives (usable_of ts d h served')))
    around depth (with_most most k) g input s s' well served (counted_most most k (omega arith) counted)
    (leads_now ts q most around depth k g input well counted (omega arith) comes.3) larger happens.changes))
