-- A root after a step depends on the library, the clock and that root before it alone, and what it gives is its own.
use Rattle.std.proofs.Common.{◌≡◌, ℕ, Bool, true, false, if◌then◌else◌, Option, Some, None, List, refl, ap}
use Rattle.std.proofs.Common.{subst}
use Rattle.std.proofs.lemmas.Option.{none-some}
use Rattle.std.specs.Prelude.{option_and_then}
use Rattle.activity_states.specs.declared.states.Completed.{Completed}
use Rattle.containers.specs.Settings.{filled}
use Rattle.flow_model.specs.Containers.{fresh}
use Rattle.flow_model.specs.ScopeContainers.{graph_of}
use Rattle.flow_model.specs.declared.graphs.Graph.{Graph}
use Rattle.flow_model.specs.declared.graphs.Library.{Library}
use Rattle.flow_model.specs.declared.graphs.Template.{Template}
use Rattle.flow_model.specs.declared.instances.Message.{Message}
use Rattle.flow_model.specs.declared.instances.Path.{Path}
use Rattle.flow_model.specs.declared.names.Name.{Name}
use Rattle.flow_model.specs.declared.transactions.Setting.{Setting}
use Rattle.flow_model.specs.declared.transactions.Transaction.{Transaction}
use Rattle.flow_model.specs.declared.transactions.Transaction.TheVariants.{Import, Start, Turn, Claim, Release}
use Rattle.flow_model.specs.declared.transactions.Transaction.TheVariants.{Transfer, Take, Done, Force, Restart}
use Rattle.flow_model.specs.declared.transactions.Transaction.TheVariants.{Suspend, Resume, Terminate, Delete, Clock}
use Rattle.recover_queue.specs.Queues.{root_of as root_of_message}
use Rattle.machine.specs.Items.{Entry, program_entry}
use Rattle.machine.specs.Moves.{Outcome, given_of, takes, completes_item}
use Rattle.machine.specs.States.{Root, State, templates, item_in, item_of}
use Rattle.machine.specs.Steps.{stays, becomes, root_about, moved_in, turned, completed_at, performer_named}
use Rattle.machine.specs.Steps.{started_at}
use Rattle.machine.specs.Steps.{started_from, version_place}
use Rattle.compaction_laws.proofs.Own.{AreOf, takes_own, completes_own}

-- ---- the same library, clock and root

-- the root that a transaction is about is the same in both states
abbrev pub SameAt : Option ℕ → State → State → Type 0
SameAt None s x = Unit {0}
SameAt (Some root) s x = s.roots root ≡ x.roots root

-- the item of a path of a root
abbrev pub item_by : List Template → Path → Option Root → Option Entry
item_by ts item o = program_entry (option_and_then (item_in ts ts item) o)

pub becomes_alike : (s x : State) (t : Transaction) → s.library ≡ x.library → s.clock ≡ x.clock
    → SameAt (root_about t) s x → (r : Option Root) → becomes s t r ≡ becomes x t r
becomes_alike s x (Import text) library clock same r = refl
becomes_alike s x (Start root process version starter key settings) library clock same r =
    ap (λ (l : Library). started_at l.templates root starter settings (version_place l process version) r) library
becomes_alike s x (Turn queue message) library clock same r =
    λ i. turned (library i).templates (clock i) message r
becomes_alike s x (Claim item who) library clock same r =
    λ i. becomes (record s { library = library i }) (Claim item who) r
becomes_alike s x (Release item who) library clock same r =
    λ i. becomes (record s { library = library i }) (Release item who) r
becomes_alike s x (Transfer item who to) library clock same r =
    λ i. becomes (record s { library = library i }) (Transfer item who to) r
becomes_alike s x (Take item take) library clock same r =
    λ i. becomes (record s { library = library i }) (Take item take) r
becomes_alike s x (Done item who settings) library clock same r =
    λ i. completed_at (library i).templates (clock i) item (performer_named who) settings
    (item_by (library i).templates item (same i)) r
becomes_alike s x (Force item settings) library clock same r =
    λ i. completed_at (library i).templates (clock i) item None settings (item_by (library i).templates item (same i)) r
becomes_alike s x (Restart item) library clock same r =
    λ i. becomes (record s { library = library i }) (Restart item) r
becomes_alike s x (Suspend root) library clock same r = refl
becomes_alike s x (Resume root) library clock same r = refl
becomes_alike s x (Terminate root) library clock same r = refl
becomes_alike s x (Delete root) library clock same r = refl
becomes_alike s x (Clock minutes) library clock same r = refl

-- ---- what is given

moved_own : (root : ℕ) (r : Root) (move : Graph → Outcome) → ((g : Graph) → AreOf root (given_of (move g).told))
    → (g : Option Graph) → AreOf root (moved_in move r g).given
moved_own root r move own None = tt
moved_own root r move own (Some g) = own g

turned_own : (ts : List Template) (clock : ℕ) (m : Message) (r : Root) (b : Bool) → AreOf (root_of_message m)
    (if b then stays (Some r) else moved_in (λ g. takes ts clock m g r.scopes) r (graph_of ts r.template)).given
turned_own ts clock m r true = tt
turned_own ts clock m r false =
    moved_own (root_of_message m) r (λ g. takes ts clock m g r.scopes) (λ g. takes_own ts clock m g r.scopes)
    (graph_of ts r.template)

completed_own : (ts : List Template) (clock : ℕ) (item : Path) (performer : Option Name) (settings : List Setting)
    (e : Option Entry) (r : Option Root) → AreOf item.root (completed_at ts clock item performer settings e r).given
completed_own ts clock item performer settings e None = tt
completed_own ts clock item performer settings None (Some r) = tt
completed_own ts clock item performer settings (Some e) (Some r) =
    let c : Completed = record { output = filled settings (fresh e.activity.output); performer = performer } in
    moved_own item.root r (λ g. completes_item ts clock item c g r.scopes)
    (λ g. completes_own ts clock item c g r.scopes) (graph_of ts r.template)

started_own : (ts : List Template) (root : ℕ) (starter : Name) (settings : List Setting) (place : Option ℕ)
    (r : Option Root) → AreOf root (started_at ts root starter settings place r).given
started_own ts root starter settings None r = tt
started_own ts root starter settings (Some place) r = go (graph_of ts place)
  where
    go : (g : Option Graph) → AreOf root (started_from root starter settings place g r).given
    go None = tt
    go (Some g) = (refl, tt)

turn_own : (ts : List Template) (clock : ℕ) (m : Message) (r : Option Root)
    → AreOf (root_of_message m) (turned ts clock m r).given
turn_own ts clock m None = tt
turn_own ts clock m (Some r) = turned_own ts clock m r r.terminated

pub becomes_own : (s : State) (t : Transaction) (r : Option Root) (root : ℕ) → root_about t ≡ Some root
    → AreOf root (becomes s t r).given
becomes_own s (Import text) r root is = absurd (none-some root is)
becomes_own s (Start other process version starter key settings) r root is =
    subst (λ (o : ℕ). AreOf o (becomes s (Start other process version starter key settings) r).given) (cc)
    (started_own (templates s) other starter settings (version_place s.library process version) r)
becomes_own s (Turn queue m) r root is =
    subst (λ (o : ℕ). AreOf o (becomes s (Turn queue m) r).given) (cc) (turn_own (templates s) s.clock m r)
becomes_own s (Claim item who) r root is = tt
becomes_own s (Release item who) r root is = tt
becomes_own s (Transfer item who to) r root is = tt
becomes_own s (Take item take) r root is = tt
becomes_own s (Done item who settings) r root is =
    subst (λ (o : ℕ). AreOf o (becomes s (Done item who settings) r).given) (cc)
    (completed_own (templates s) s.clock item (performer_named who) settings (item_of s item) r)
becomes_own s (Force item settings) r root is =
    subst (λ (o : ℕ). AreOf o (becomes s (Force item settings) r).given) (cc)
    (completed_own (templates s) s.clock item None settings (item_of s item) r)
becomes_own s (Restart item) r root is = tt
becomes_own s (Suspend other) r root is = tt
becomes_own s (Resume other) r root is = tt
becomes_own s (Terminate other) r root is = tt
becomes_own s (Delete other) r root is = tt
becomes_own s (Clock minutes) r root is = absurd (none-some root is)
