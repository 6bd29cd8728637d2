-- What a transaction does to a state is the step of the machine.
use Rattle.std.proofs.Common.{◌≡◌, ◌≢◌, ℕ, Bool, true, false, if◌then◌else◌, List, [], ◌∷◌}
use Rattle.std.proofs.Common.{length, Option, Some, None, option_map, option_and_then, refl, sym, ap, subst, ◌∙◌}
use Rattle.std.proofs.Common.{inl, inr, append-nil}
use Rattle.std.proofs.Math.Path.{fun_ext}
use Rattle.std.proofs.lemmas.Bool.Decides.{eqb_tells}
use Rattle.flow_core.specs.Answers.{instance_of}
use Rattle.flow_core.specs.Driving as d
use Rattle.flow_core.specs.Driving.{templates, Drives, ChangesRoot, IfLive, BecomesQuietly, IsSuspended, IsTerminated}
use Rattle.flow_core.specs.declared.state.Core.{Core}
use Rattle.flow_model.specs.ScopeContainers.{graph_of}
use Rattle.flow_model.specs.declared.graphs.Graph.{Graph}
use Rattle.flow_model.specs.declared.graphs.Template.{Template}
use Rattle.flow_model.specs.declared.instances.Message.{Message}
use Rattle.flow_model.specs.declared.transactions.Transaction.{Transaction}
use Rattle.flow_model.specs.declared.transactions.Transaction.TheVariants.{Import, Start, Turn, Claim, Release}
use Rattle.flow_model.specs.declared.transactions.Transaction.TheVariants.{Transfer, Take, Done, Force, Restart}
use Rattle.flow_model.specs.declared.transactions.Transaction.TheVariants.{Suspend, Resume, Terminate, Delete, Clock}
use Rattle.machine.specs.Imports.{Added, nothing_added}
use Rattle.machine.specs.Queues.{put_in, taken_by, queue_in}
use Rattle.machine.specs.States.{Root, State, graph_of_root}
use Rattle.machine.specs.Steps.{After, after, root_about, is_root, given_by, roots_after, queue_then, queues_after}
use Rattle.machine.specs.Steps.{becomes, quietly}
use Rattle.navigator.specs.declared.instance.Instance.{Instance}
use Rattle.recover_queue.specs.Queues.{root_of as root_of_message}
use Rattle.activity_states.specs.declared.states.Completed.{Completed}
use Rattle.flow_model.specs.declared.instances.Path.{Path}
use Rattle.flow_model.specs.declared.names.Name.{Name}
use Rattle.machine.specs.Moves as m
use Rattle.machine.specs.Steps.{turned, moved, moved_in, holds, stays}
use Rattle.machine_scopes.specs.Seen.{scopes_of}
use Rattle.machine_scopes.specs.Turns.{MeetsMessage, MeetsItem, MeetsHold, as_holding}
use Rattle.machine_scopes.proofs.Turns.{turns_are_moves, completions_are_moves, holds_are_moves}
use Rattle.navigator.specs.declared.instance.HoldChange.{HoldChange}
use Rattle.navigator.specs.declared.instance.HoldChange.TheVariants as hold
use Rattle.root_laws.specs.Becoming.{TakesIn, CompletesIn, HoldsIn}
use Rattle.containers.specs.Settings.{filled}
use Rattle.flow_core.specs.Shelving.{performer_named}
use Rattle.flow_model.specs.Containers.{fresh}
use Rattle.flow_model.specs.declared.instances.Who.{Who}
use Rattle.flow_model.specs.declared.transactions.Setting.{Setting}
use Rattle.machine.specs.Items.{Entry as EntrySeen}
use Rattle.machine.specs.States.{item_of as item_seen}
use Rattle.flow_core.specs.Driving.{StartsIn, IsNewestVersion, RunsAt}
use Rattle.flow_model.specs.declared.instances.Message.TheVariants.{Begin}
use Rattle.machine.specs.Rows.{fresh_scopes}
use Rattle.machine.specs.Steps.{completed_at, started_at, started_from, version_place, if_version}
use Rattle.std.specs.Prelude.{slice_get}
use Rattle.machine_scopes.proofs.FreshRows.{scopes_fresh}
use Rattle.navigator.specs.Items.{Entry}
use Rattle.machine_laws.specs.Viewed.{root_of, entry_of, view, Does, TakesExactly, CompletesExactly, WhereLive}
use Rattle.machine_laws.specs.Viewed.{HasGraph, IfThere}

-- a library to which nothing is added
pub library_kept : (c c' : Core) (t : Transaction) → Does c t nothing_added c'
    → c'.store ≡ c.store
library_kept c c' t does =
    does.library ∙ (λ i. record {
      templates = append-nil c.store.templates i;
      people = append-nil c.store.people i;
    })

-- the pieces of a state
pub pieces : (c c' : Core) (t : Transaction) (added : Added) → Does c t added c'
    → ((root : ℕ) → option_map root_of (instance_of c' root) ≡ roots_after (view c) t root)
    → c'.queues ≡ queues_after (view c) t
    → view c' ≡ after added t (view c)
pieces c c' t added does roots queues = λ i. record {
  library = does.library i;
  clock = does.clock i;
  roots = λ root. roots root i;
  queues = queues i;
  live = (does.came i).live;
  limit = (does.came i).limit;
  transactions = (does.came i).transactions;
  last_root = (does.came i).roots;
}

-- a transaction that gives nothing takes at most its message from the queues
pub quiet : (c c' : Core) (t : Transaction) (drives : Drives c t c') → drives.given ≡ []
    → given_by (view c) t (root_about t) ≡ [] → d.taken_by t c.queues ≡ taken_by t c.queues
    → c'.queues ≡ queues_after (view c) t
quiet c c' t drives none nothing same =
    drives.queues ∙ ap (λ ms. d.put_in (d.queue_now c') ms (d.taken_by t c.queues)) none ∙ same
    ∙ sym (ap (λ ms. put_in (queue_then (templates c) (length c.queues) (roots_after (view c) t)) ms
    (taken_by t c.queues)) nothing)

pub clocks : (c c' : Core) (minutes : ℕ) → Does c (Clock minutes) nothing_added c'
    → view c' ≡ after nothing_added (Clock minutes) (view c)
clocks c c' minutes does =
    pieces c c' (Clock minutes) nothing_added does (λ root. ap (option_map root_of) (does.drives.roots.0 root))
    (quiet c c' (Clock minutes) does.drives does.drives.roots.1 refl refl)

-- ---- one root

-- a root changes so, and all others stay
pub about : (s : State) (t : Transaction) (root : ℕ) (now : ℕ → Option Root) → root_about t ≡ Some root
    → now root ≡ (becomes s t (s.roots root)).root → ((other : ℕ) → other ≢ root → now other ≡ s.roots other)
    → (other : ℕ) → now other ≡ roots_after s t other
about s t root now is here others other = elim (eqb_tells root other) [
  | inl same ↦
      let test : is_root other (root_about t) ≡ true = ap (is_root other) is ∙ same.0 in
      rw test (ap now (sym same.1) ∙ here ∙ ap (λ k. (becomes s t (s.roots k)).root) same.1)
  | inr apart ↦
      let test : is_root other (root_about t) ≡ false = ap (is_root other) is ∙ apart.0 in
      rw test (others other (λ e. apart.1 (sym e)))
]

-- a change of a live root that gives nothing
quiet_root : (P : Instance → Instance → Type 0) (move : Root → Root) (given : List Message)
    (before now : Option Instance) → ((i i' : Instance) → before ≡ Some i → P i i' → root_of i' ≡ move (root_of i))
    → IfLive P given before now
    → option_map root_of now ≡ option_map move (option_map root_of before)
quiet_root P move given None now like is = ap (option_map root_of) is.0
quiet_root P move given (Some i) None like is = absurd is
quiet_root P move given (Some i) (Some i') like is = ap Some (like i i' refl is)

quiet_step : (c c' : Core) (t : Transaction) (root : ℕ) (P : Instance → Instance → Type 0) (move : Root → Root)
    (does : Does c t nothing_added c') → root_about t ≡ Some root
    → ((s : State) (r : Option Root) → becomes s t r ≡ quietly move r) → d.taken_by t c.queues ≡ taken_by t c.queues
    → ((i i' : Instance) → instance_of c root ≡ Some i → P i i' → root_of i' ≡ move (root_of i))
    → ChangesRoot root (BecomesQuietly P does.drives.given) c c' → view c' ≡ after nothing_added t (view c)
quiet_step c c' t root P move does is so taken like changes =
    let gives : given_by (view c) t (root_about t) ≡ [] = ap (given_by (view c) t) is
    ∙ ap (λ (a : After). a.given) (so (view c) ((view c).roots root)) in
    pieces c c' t nothing_added does
    (about (view c) t root (λ k. option_map root_of (instance_of c' k)) is
    (quiet_root P move does.drives.given (instance_of c root) (instance_of c' root) like changes.here.0
    ∙ sym (ap (λ (a : After). a.root) (so (view c) ((view c).roots root))))
    (λ other apart. ap (option_map root_of) (changes.others other apart)))
    (quiet c c' t does.drives changes.here.1 gives taken)

pub suspends : (c c' : Core) (root : ℕ) → Does c (Suspend root) nothing_added c'
    → view c' ≡ after nothing_added (Suspend root) (view c)
suspends c c' root does =
    quiet_step c c' (Suspend root) root (IsSuspended true) (λ r. record r { suspended = true }) does refl
    (λ s r. refl) refl (λ i i' at is. ap root_of is) does.drives.roots

pub resumes : (c c' : Core) (root : ℕ) → Does c (Resume root) nothing_added c'
    → view c' ≡ after nothing_added (Resume root) (view c)
resumes c c' root does =
    quiet_step c c' (Resume root) root (IsSuspended false) (λ r. record r { suspended = false }) does refl
    (λ s r. refl) refl (λ i i' at is. ap root_of is) does.drives.roots

pub terminates : (c c' : Core) (root : ℕ) → Does c (Terminate root) nothing_added c'
    → view c' ≡ after nothing_added (Terminate root) (view c)
terminates c c' root does =
    quiet_step c c' (Terminate root) root IsTerminated (λ r. record r { terminated = true }) does refl
    (λ s r. refl) refl (λ i i' at is. ap root_of is) does.drives.roots

pub deletes : (c c' : Core) (root : ℕ) → Does c (Delete root) nothing_added c'
    → view c' ≡ after nothing_added (Delete root) (view c)
deletes c c' root does =
    pieces c c' (Delete root) nothing_added does
    (about (view c) (Delete root) root (λ k. option_map root_of (instance_of c' k)) refl
    (ap (option_map root_of) does.drives.roots.here.0)
    (λ other apart. ap (option_map root_of) (does.drives.roots.others other apart)))
    (quiet c c' (Delete root) does.drives does.drives.roots.here.1 refl refl)

pub imports : (c c' : Core) (text : List ℕ) (added : Added) → Does c (Import text) added c'
    → view c' ≡ after added (Import text) (view c)
imports c c' text added does =
    pieces c c' (Import text) added does (λ root. ap (option_map root_of) (does.drives.roots.0 root))
    (quiet c c' (Import text) does.drives does.drives.roots.1 refl refl)

-- ---- holds

held_root : (ts : List Template) (item : Path) (change : HoldChange) (i i' : Instance)
    → HasGraph ts (λ g. MeetsHold ts item.parts g i.scope) i → HoldsIn ts item change i i'
    → root_of i' ≡ holds ts item (as_holding change) (root_of i)
held_root ts item change i i' has is =
    let sets = is.sets has.graph has.there in
    let scopes = holds_are_moves ts item.parts change has.graph i.scope i'.scope sets.0 has.meets sets.1 in
    ap root_of is.kept ∙ rw has.there (ap (λ xs. record (root_of i) { scopes = xs }) (sym scopes))

hold_step : (c c' : Core) (t : Transaction) (item : Path) (change : HoldChange) (does : Does c t nothing_added c')
    → root_about t ≡ Some item.root
    → ((r : Option Root) → becomes (view c) t r ≡ quietly (holds (templates c) item (as_holding change)) r)
    → d.taken_by t c.queues ≡ taken_by t c.queues
    → IfThere (λ i. HasGraph (templates c) (λ g. MeetsHold (templates c) item.parts g i.scope) i)
    (instance_of c item.root)
    → ChangesRoot item.root (BecomesQuietly (HoldsIn (templates c) item change) does.drives.given) c c'
    → view c' ≡ after nothing_added t (view c)
hold_step c c' t item change does is so taken there changes =
    let gives : given_by (view c) t (root_about t) ≡ [] = ap (given_by (view c) t) is
    ∙ ap (λ (a : After). a.given) (so ((view c).roots item.root)) in
    pieces c c' t nothing_added does
    (about (view c) t item.root (λ k. option_map root_of (instance_of c' k)) is
    (quiet_root (HoldsIn (templates c) item change) (holds (templates c) item (as_holding change)) does.drives.given
    (instance_of c item.root) (instance_of c' item.root)
    (λ i i' at held. held_root (templates c) item change i i'
    (subst (IfThere (λ i. HasGraph (templates c) (λ g. MeetsHold (templates c) item.parts g i.scope) i)) at there)
    held) changes.here.0
    ∙ sym (ap (λ (a : After). a.root) (so ((view c).roots item.root))))
    (λ other apart. ap (option_map root_of) (changes.others other apart)))
    (quiet c c' t does.drives changes.here.1 gives taken)

pub claims : (c c' : Core) (item : Path) (who : Name)
    → IfThere (λ i. HasGraph (templates c) (λ g. MeetsHold (templates c) item.parts g i.scope) i)
    (instance_of c item.root)
    → Does c (Claim item who) nothing_added c' → view c' ≡ after nothing_added (Claim item who) (view c)
claims c c' item who there does =
    hold_step c c' (Claim item who) item (hold.Person who) does refl (λ r. refl) refl there does.drives.roots

-- ---- turns and completions

-- the graph of a root, seen by the machine
graph_seen : (ts : List Template) (o : Option Instance)
    → graph_of_root ts (option_map root_of o) ≡ option_and_then (λ i. graph_of ts i.template) o
graph_seen ts None = refl
graph_seen ts (Some i) = refl

-- what is given is put, behind what is left
pub puts : (c c' : Core) (t : Transaction) (does : Does c t nothing_added c')
    → ((root : ℕ) → option_map root_of (instance_of c' root) ≡ roots_after (view c) t root)
    → does.drives.given ≡ given_by (view c) t (root_about t)
    → d.taken_by t c.queues ≡ taken_by t c.queues → c'.queues ≡ queues_after (view c) t
puts c c' t does roots gives same =
    does.drives.queues
    ∙ (λ i. put_in (λ message. queue_in ((library_kept c c' t does i).templates) ((does.came i).queues)
    (sym (graph_seen ((library_kept c c' t does i).templates) (instance_of c' (root_of_message message))) i)
    message) (gives i) (same i))
    ∙ ap (λ now. put_in (queue_then (templates c) (length c.queues) now) (given_by (view c) t (root_about t))
    (taken_by t c.queues)) (fun_ext roots)

module _ (c c' : Core) (t : Transaction) (root : ℕ) (does : Does c t nothing_added c') (is : root_about t ≡ Some root)
    (taken : d.taken_by t c.queues ≡ taken_by t c.queues) where
  pub moves_step : (a : After) → becomes (view c) t ((view c).roots root) ≡ a
      → option_map root_of (instance_of c' root) ≡ a.root → does.drives.given ≡ a.given
      → ((other : ℕ) → other ≢ root → instance_of c' other ≡ instance_of c other)
      → view c' ≡ after nothing_added t (view c)
  moves_step a so root_is given_is others =
      let roots = about (view c) t root (λ k. option_map root_of (instance_of c' k)) is
      (root_is ∙ sym (ap (λ (b : After). b.root) so))
      (λ other apart. ap (option_map root_of) (others other apart)) in
      let gives : does.drives.given ≡ given_by (view c) t (root_about t) = given_is
      ∙ sym (ap (given_by (view c) t) is ∙ ap (λ (b : After). b.given) so) in
      pieces c c' t nothing_added does roots (puts c c' t does roots gives taken)

by_graph : (ts : List Template) (clock : ℕ) (message : Message) (r : Root) (o : Option Graph) (g : Graph) → o ≡ Some g
    → moved r (m.takes ts clock message g r.scopes) ≡ moved_in (λ g. m.takes ts clock message g r.scopes) r o
by_graph ts clock message r o g at = sym (ap (moved_in (λ g. m.takes ts clock message g r.scopes) r) at)

by_end : (ts : List Template) (clock : ℕ) (message : Message) (r : Root) (b : Bool) → b ≡ false
    → moved_in (λ g. m.takes ts clock message g r.scopes) r (graph_of ts r.template)
    ≡ (if b then stays (Some r) else moved_in (λ g. m.takes ts clock message g r.scopes) r (graph_of ts r.template))
by_end ts clock message r b runs =
    sym (ap (λ z. if z then stays (Some r) else moved_in (λ g. m.takes ts clock message g r.scopes) r
    (graph_of ts r.template)) runs)

at_end : (ts : List Template) (clock : ℕ) (message : Message) (r : Root) (b : Bool) → b ≡ true
    → stays (Some r) ≡ (if b then stays (Some r) else moved_in (λ g. m.takes ts clock message g r.scopes) r
    (graph_of ts r.template))
at_end ts clock message r b over =
    sym (ap (λ z. if z then stays (Some r) else moved_in (λ g. m.takes ts clock message g r.scopes) r
    (graph_of ts r.template)) over)

-- a live root takes a message
turn_root : (ts : List Template) (clock : ℕ) (message : Message) (given : List Message) (i i' : Instance) (b : Bool)
    → i.terminated ≡ b → TakesIn ts message given i i' → TakesExactly ts clock message given i i'
    → (i.terminated ≡ false → HasGraph ts (λ g. MeetsMessage ts message g i.scope) i)
    → record { root = Some (root_of i'); given = given } ≡ turned ts clock message (Some (root_of i))
turn_root ts clock message given i i' true ended takes exactly has =
    let idle = takes.idle ended in
    (λ j. record { root = Some (root_of (idle.0 j)); given = idle.1 j })
    ∙ at_end ts clock message (root_of i) i.terminated ended
turn_root ts clock message given i i' false runs takes exactly meets =
    let has = meets runs in
    let so = turns_are_moves ts clock message has.graph i.scope i'.scope given exactly.items has.meets
    (exactly.takes runs has.graph has.there) in
    let here : record {
      root = Some (root_of i');
      given = given;
    } ≡ moved (root_of i) (m.takes ts clock message has.graph (scopes_of i.scope))
    = λ j. record {
      root = Some ((ap root_of takes.kept
          ∙ ap (λ xs. record (root_of i) { scopes = xs }) (sym so.scopes)) j);
      given = so.gives j;
    } in
    here ∙ by_graph ts clock message (root_of i) (graph_of ts i.template) has.graph has.there
    ∙ by_end ts clock message (root_of i) i.terminated runs

turn_option : (ts : List Template) (clock : ℕ) (message : Message) (given : List Message)
    (before now : Option Instance) → IfLive (TakesIn ts message given) given before now
    → WhereLive (TakesExactly ts clock message given) before now
    → IfThere (λ i. i.terminated ≡ false → HasGraph ts (λ g. MeetsMessage ts message g i.scope) i) before
    → record { root = option_map root_of now; given = given } ≡ turned ts clock message (option_map root_of before)
turn_option ts clock message given None now is exactly has = λ j. record {
  root = option_map root_of (is.0 j);
  given = is.1 j;
}
turn_option ts clock message given (Some i) None is exactly has = absurd is
turn_option ts clock message given (Some i) (Some i') is exactly has =
    turn_root ts clock message given i i' i.terminated refl is exactly has

pub turns : (c c' : Core) (queue : ℕ) (message : Message) (does : Does c (Turn queue message) nothing_added c')
    → WhereLive (TakesExactly (templates c) c.clock message does.drives.given)
    (instance_of c (root_of_message message)) (instance_of c' (root_of_message message))
    → IfThere (λ i. i.terminated ≡ false → HasGraph (templates c) (λ g. MeetsMessage
    (templates c) message g i.scope) i) (instance_of c (root_of_message message))
    → view c' ≡ after nothing_added (Turn queue message) (view c)
turns c c' queue message does exactly there =
    let root = root_of_message message in
    let same = turn_option (templates c) c.clock message does.drives.given (instance_of c root)
    (instance_of c' root) does.drives.roots.here exactly there in
    moves_step c c' (Turn queue message) root does refl refl
    (turned (templates c) c.clock message ((view c).roots root)) refl (ap (λ (b : After). b.root) same)
    (ap (λ (b : After). b.given) same) does.drives.roots.others

complete_root : (ts : List Template) (clock : ℕ) (item : Path) (performer : Option Name) (settings : List Setting)
    (e : EntrySeen) (given : List Message) (i i' : Instance)
    → CompletesIn ts item (filled settings (fresh e.activity.output)) given i i'
    → CompletesExactly ts clock item (record {
      output = filled settings (fresh e.activity.output);
      performer = performer;
    }) given i i'
    → HasGraph ts (λ g. MeetsItem ts (record {
      output = filled settings (fresh e.activity.output);
      performer = performer;
    }) item g i.scope) i
    → record { root = Some (root_of i'); given = given } ≡ completed_at ts clock item performer settings (Some e) (Some
    (root_of i))
complete_root ts clock item performer settings e given i i' is exactly has =
    let c : Completed = record { output = filled settings (fresh e.activity.output); performer = performer } in
    let moved_so = completions_are_moves ts clock item c has.graph i.scope i'.scope given exactly.items has.meets
    (exactly.completes has.graph has.there) in
    let here : record {
      root = Some (root_of i');
      given = given;
    } ≡ moved (root_of i) (m.completes_item ts clock item c has.graph (scopes_of i.scope))
    = λ j. record {
      root = Some ((ap root_of is.kept
          ∙ ap (λ xs. record (root_of i) { scopes = xs }) (sym moved_so.scopes)) j);
      given = moved_so.gives j;
    } in
    here ∙ sym (ap (moved_in (λ g. m.completes_item ts clock item c g (scopes_of i.scope)) (root_of i)) has.there)

complete_option : (ts : List Template) (clock : ℕ) (item : Path) (performer : Option Name) (settings : List Setting)
    (e : EntrySeen) (given : List Message) (before now : Option Instance)
    → IfLive (CompletesIn ts item (filled settings (fresh e.activity.output)) given) given before now
    → WhereLive (CompletesExactly ts clock item
    (record { output = filled settings (fresh e.activity.output); performer = performer }) given) before now
    → IfThere (λ i. HasGraph ts (λ g. MeetsItem ts
    (record { output = filled settings (fresh e.activity.output); performer = performer }) item g i.scope) i) before
    → record {
      root = option_map root_of now;
      given = given;
    } ≡ completed_at ts clock item performer settings (Some e) (option_map root_of before)
complete_option ts clock item performer settings e given None now is exactly
    has = λ j. record { root = option_map root_of (is.0 j); given = is.1 j }
complete_option ts clock item performer settings e given (Some i) None is exactly has = absurd is
complete_option ts clock item performer settings e given (Some i) (Some i') is exactly has =
    complete_root ts clock item performer settings e given i i' is exactly has

completion : (c c' : Core) (t : Transaction) (item : Path) (performer : Option Name) (settings : List Setting)
    (does : Does c t nothing_added c') (e : Entry) → root_about t ≡ Some item.root
    → d.taken_by t c.queues ≡ taken_by t c.queues
    → ((r : Option Root) → becomes (view c) t r
    ≡ completed_at (templates c) c.clock item performer settings (item_seen (view c) item) r)
    → d.item_of c item ≡ Some e → item_seen (view c) item ≡ Some (entry_of e)
    → ChangesRoot item.root (d.BecomesCompleted (templates c) item settings (d.item_of c item) does.drives.given) c c'
    → WhereLive (CompletesExactly (templates c) c.clock item
    (record { output = filled settings (fresh e.activity.output); performer = performer }) does.drives.given)
    (instance_of c item.root) (instance_of c' item.root)
    → IfThere (λ i. HasGraph (templates c) (λ g. MeetsItem (templates c)
    (record { output = filled settings (fresh e.activity.output); performer = performer }) item g i.scope) i)
    (instance_of c item.root)
    → view c' ≡ after nothing_added t (view c)
completion c c' t item performer settings does e is taken so there seen changes exactly has =
    let here : IfLive (CompletesIn (templates c) item
    (filled settings (fresh e.activity.output)) does.drives.given) does.drives.given (instance_of c item.root)
    (instance_of c' item.root)
    =
    subst (λ o. d.BecomesCompleted (templates c) item settings o does.drives.given (instance_of c item.root)
    (instance_of c' item.root)) there changes.here in
    let same = complete_option (templates c) c.clock item performer settings (entry_of e) does.drives.given
    (instance_of c item.root) (instance_of c' item.root) here exactly has in
    moves_step c c' t item.root does is taken
    (completed_at (templates c) c.clock item performer settings (Some (entry_of e)) ((view c).roots item.root))
    (so ((view c).roots item.root) ∙ ap (λ o. completed_at (templates c) c.clock item performer settings o
    ((view c).roots item.root)) seen)
    (ap (λ (b : After). b.root) same) (ap (λ (b : After). b.given) same) changes.others

pub dones : (c c' : Core) (item : Path) (who : Who) (settings : List Setting)
    (does : Does c (Done item who settings) nothing_added c') (e : Entry) → d.item_of c item ≡ Some e
    → item_seen (view c) item ≡ Some (entry_of e)
    → WhereLive (CompletesExactly (templates c) c.clock item
    (record { output = filled settings (fresh e.activity.output); performer = performer_named who })
    does.drives.given) (instance_of c item.root) (instance_of c' item.root)
    → IfThere (λ i. HasGraph (templates c) (λ g. MeetsItem (templates c)
    (record { output = filled settings (fresh e.activity.output); performer = performer_named who }) item g
    i.scope) i) (instance_of c item.root)
    → view c' ≡ after nothing_added (Done item who settings) (view c)
dones c c' item who settings does e there seen exactly has =
    completion c c' (Done item who settings) item (performer_named who) settings does e refl refl
    (λ r. refl) there seen does.drives.roots exactly has

pub forces : (c c' : Core) (item : Path) (settings : List Setting)
    (does : Does c (Force item settings) nothing_added c') (e : Entry) → d.item_of c item ≡ Some e
    → item_seen (view c) item ≡ Some (entry_of e)
    → WhereLive (CompletesExactly (templates c) c.clock item
    (record { output = filled settings (fresh e.activity.output); performer = None }) does.drives.given)
    (instance_of c item.root) (instance_of c' item.root)
    → IfThere (λ i. HasGraph (templates c) (λ g. MeetsItem (templates c)
    (record { output = filled settings (fresh e.activity.output); performer = None }) item g i.scope) i)
    (instance_of c item.root)
    → view c' ≡ after nothing_added (Force item settings) (view c)
forces c c' item settings does e there seen exactly has =
    completion c c' (Force item settings) item None settings does e refl refl
    (λ r. refl) there seen does.drives.roots exactly has

-- ---- starts

start_root : (ts : List Template) (root : ℕ) (starter : Name) (settings : List Setting) (place : ℕ) (process : Name)
    (version : ℕ) (r : Option Root) (i : Instance) → StartsIn ts root process version starter settings i
    → i.template ≡ place
    → record {
      root = Some (root_of i);
      given = Begin (record { root = root; parts = [] })
          ∷ [];
    } ≡ started_at ts root starter settings (Some place) r
start_root ts root starter settings place process version r i is at =
    let fresh_so : scopes_of i.scope ≡ fresh_scopes is.graph is.input = fun_ext (λ p. sym
    (scopes_fresh is.graph is.input i.scope (is.started.scope is.graph is.there) p)) in
    let there : graph_of ts place ≡ Some is.graph = ap (graph_of ts) (sym at ∙ is.started.template) ∙ is.there in
    (λ j. record {
      root = Some (record {
        template = at j;
        starter = is.started.starter j;
        suspended = is.started.active j;
        terminated = is.started.lives j;
        scopes = (fresh_so ∙ ap (fresh_scopes is.graph) is.filled) j;
      });
      given = Begin (record { root = root; parts = [] }) ∷ [];
    })
    ∙ sym (ap (λ o. started_from root starter settings place o r) there)

start_option : (ts : List Template) (root : ℕ) (process : Name) (version : ℕ) (starter : Name)
    (settings : List Setting) (place : ℕ) (given : List Message) (before now : Option Instance) → before ≡ None
    → RunsAt place now
    → d.BecomesStarted ts root process version starter settings given before now
    → record {
      root = option_map root_of now;
      given = given;
    } ≡ started_at ts root starter settings (Some place) (option_map root_of before)
start_option ts root process version starter settings place given before None unused runs is = absurd runs
start_option ts root process version starter settings place given before (Some i) unused runs (inl stays_so) =
    absurd (let never : Some i ≡ None = stays_so.0.0 ∙ unused in cc)
start_option ts root process version starter settings place given before (Some i) unused runs (inr starts) =
    (λ j. record { root = Some (root_of i); given = starts.1 j })
    ∙ start_root ts root starter settings place process version (option_map root_of before) i starts.0 runs

-- the newest template, where it is this version
placed : (c : Core) (process : Name) (version place : ℕ)
    → IsNewestVersion c.store process version place
    → version_place c.store process version ≡ Some place
placed c process version place is =
    let at = is.version_at in
    ap (option_and_then (λ p. if_version version p (slice_get (templates c) p))) is.newest
    ∙ ap (if_version version place) at.there
    ∙ (elim (eqb_tells at.template.version version) [
      | inl same ↦ rw same.0 refl
      | inr apart ↦ absurd
          (apart.1 at.number)
    ])

pub starts : (c c' : Core) (root : ℕ) (process : Name) (version : ℕ) (starter : Name) (key : Option Name)
    (settings : List Setting) → Does c (Start root process version starter key settings) nothing_added c'
    → instance_of c root ≡ None → (place : ℕ) → IsNewestVersion c.store process version place
    → RunsAt place (instance_of c' root)
    → view c' ≡ after nothing_added (Start root process version starter key settings) (view c)
starts c c' root process version starter key settings does unused place newest runs =
    let one = start_option (templates c) root process version starter settings place does.drives.given
    (instance_of c root) (instance_of c' root) unused runs does.drives.roots.here in
    moves_step c c' (Start root process version starter key settings) root does refl refl
    (started_at (templates c) root starter settings (Some place) ((view c).roots root))
    (ap (λ o. started_at (templates c) root starter settings o ((view c).roots root))
    (placed c process version place newest)) (ap (λ (b : After). b.root) one)
    (ap (λ (b : After). b.given) one) does.drives.roots.others

-- ---- the other holds

pub releases : (c c' : Core) (item : Path) (who : Name)
    → IfThere (λ i. HasGraph (templates c) (λ g. MeetsHold (templates c) item.parts g i.scope) i)
    (instance_of c item.root)
    → Does c (Release item who) nothing_added c' → view c' ≡ after nothing_added (Release item who) (view c)
releases c c' item who there does =
    hold_step c c' (Release item who) item hold.Nobody does refl (λ r. refl) refl there does.drives.roots

pub transfers : (c c' : Core) (item : Path) (who to : Name)
    → IfThere (λ i. HasGraph (templates c) (λ g. MeetsHold (templates c) item.parts g i.scope) i)
    (instance_of c item.root)
    → Does c (Transfer item who to) nothing_added c' → view c' ≡ after nothing_added (Transfer item who to) (view c)
transfers c c' item who to there does =
    hold_step c c' (Transfer item who to) item (hold.Person to) does refl (λ r. refl) refl there does.drives.roots

pub takes_by_agents : (c c' : Core) (item : Path) (take : ℕ)
    → IfThere (λ i. HasGraph (templates c) (λ g. MeetsHold (templates c) item.parts g i.scope) i)
    (instance_of c item.root)
    → Does c (Take item take) nothing_added c' → view c' ≡ after nothing_added (Take item take) (view c)
takes_by_agents c c' item take there does =
    hold_step c c' (Take item take) item hold.Agent does refl (λ r. refl) refl there does.drives.roots

pub restarts : (c c' : Core) (item : Path) → IfThere (λ i. HasGraph (templates c)
    (λ g. MeetsHold (templates c) item.parts g i.scope) i) (instance_of c item.root)
    → Does c (Restart item) nothing_added c' → view c' ≡ after nothing_added (Restart item) (view c)
restarts c c' item there does =
    hold_step c c' (Restart item) item hold.Nobody does refl (λ r. refl) refl there does.drives.roots
