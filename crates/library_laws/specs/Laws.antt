-- Laws of roots in a larger library: all that is said of a root in its library is so there.
use Rattle.std.specs.Prelude.{◌≡◌, ℕ, Some, List, ◌++◌, slice_get}
use Rattle.fate_laws.specs.WellFormed.{Well}
use Rattle.flow_model.specs.Rows.{rows}
use Rattle.flow_model.specs.Scopes.{Known, output, tree_ends, tree_fate}
use Rattle.flow_model.specs.declared.graphs.Activity.{Activity}
use Rattle.flow_model.specs.declared.graphs.Container.{Container}
use Rattle.flow_model.specs.declared.graphs.Graph.{Graph, out-Graph}
use Rattle.flow_model.specs.declared.graphs.Template.{Template}
use Rattle.flow_model.specs.declared.instances.Message.{Message}
use Rattle.flow_model.specs.declared.instances.Part.{Part}
use Rattle.flow_model.specs.declared.instances.Path.{Path}
use Rattle.library_laws.specs.Larger.{Agrees, moved}
use Rattle.navigator.specs.Driven.{IsServedRoot, IsDriven}
use Rattle.navigator.specs.Items.{stand, entry_at}
use Rattle.navigator.specs.Serving.{Served}
use Rattle.navigator.specs.Showing.{note_in}
use Rattle.navigator.specs.ViewRows.{view_rows}
use Rattle.navigator.specs.Views.{Shows}
use Rattle.navigator.specs.declared.scopes.ScopeState.{ScopeState}
use Rattle.view_laws.specs.Coming.{started_in}
use Rattle.view_laws.specs.LegalRuns.{IsLegal}
use Rattle.view_laws.specs.Messages.{Note, due_in}
use Rattle.view_laws.specs.NextEvents.{Aimed}
use Rattle.view_laws.specs.Runs.{Root, Event, seen, fated, engine}

-- the larger library has each template that the smaller has
abbrev pub LongerAgrees : Type 0
LongerAgrees = (ts more : List Template) → Agrees ts (ts ++ more)

-- ---- scopes

-- in both libraries a scope gives the same, its activities end so, have these fates, and start these attempts
pub record KeepsScope (ts ts' : List Template) (depth : ℕ) (k : Known) (g : Graph) (input : Container) : Type 0 where
  pub gives : output ts' depth k g input ≡ output ts depth k g input
  pub ends : tree_ends ts' depth k g input ≡ tree_ends ts depth k g input
  pub fates : (a : ℕ) → tree_fate ts' depth k g input a ≡ tree_fate ts depth k g input a
  pub starts : (a : ℕ) (activity : Activity) → slice_get (out-Graph g).activities a ≡ Some activity
      → started_in ts' depth k g input a activity ≡ started_in ts depth k g input a activity

-- so it is of a scope whose graph is served to some number of levels, whatever is known, and as deep as one looks
abbrev pub LibraryKeepsEnds : Type 0
LibraryKeepsEnds =
    (ts ts' : List Template) (levels depth : ℕ) (k : Known) (g : Graph) (input : Container) → Agrees ts ts'
    → Served ts levels g
    → KeepsScope ts ts' depth k g input

-- the same messages are due in it
abbrev pub LibraryKeepsDue : Type 0
LibraryKeepsDue =
    (ts ts' : List Template) (levels depth : ℕ) (k : Known) (g : Graph) (input : Container) → Agrees ts ts'
    → Served ts levels g
    → due_in ts' depth k g input ≡ due_in ts depth k g input

-- a graph of a library that is served there is served in the larger library too, and is well and aimed where it was
pub record KeepsForm (ts ts' : List Template) (depth : ℕ) (g : Graph) : Type 0 where
  pub served : Served ts' depth g
  pub well : Well ts depth g → Well ts' depth g
  pub aimed : Aimed ts depth g → Aimed ts' depth g

abbrev pub LibraryKeepsForm : Type 0
LibraryKeepsForm = (ts ts' : List Template) (depth : ℕ) (g : Graph) → Agrees ts ts' → Served ts depth g
    → KeepsForm ts ts' depth g

-- a state shows the view of a scope in the larger library exactly where it does in the smaller
pub record KeepsView (ts ts' : List Template) (depth : ℕ) (k : Known) (g : Graph) (input : Container)
    (s : ScopeState) : Type 0 where
  pub there : Shows ts depth k g input s → Shows ts' depth k g input s
  pub back : Shows ts' depth k g input s → Shows ts depth k g input s

abbrev pub LibraryKeepsView : Type 0
LibraryKeepsView =
    (ts ts' : List Template) (levels depth : ℕ) (k : Known) (g : Graph) (input : Container) (s : ScopeState)
    → Agrees ts ts' → Served ts levels g
    → KeepsView ts ts' depth k g input s

-- the rows of a scope and of those inside it are the same: those by what is known, and those that its state shows
pub record KeepsRows (ts ts' : List Template) (depth : ℕ) (k : Known) (g : Graph) (input : Container) : Type 0 where
  pub known : (path : Path) → rows ts' depth k g input path ≡ rows ts depth k g input path
  pub shown : (s : ScopeState) (path : Path) → view_rows ts' depth k g input s path
      ≡ view_rows ts depth k g input s path

-- so they are of each scope whose graph is served
abbrev pub LibraryKeepsRows : Type 0
LibraryKeepsRows =
    (ts ts' : List Template) (levels depth : ℕ) (k : Known) (g : Graph) (input : Container) → Agrees ts ts'
    → Served ts levels g
    → KeepsRows ts ts' depth k g input

-- the same items are found by their paths
abbrev pub LibraryKeepsItems : Type 0
LibraryKeepsItems =
    (ts ts' : List Template) (levels : ℕ) (g : Graph) (s : ScopeState) (item : List Part) → Agrees ts ts'
    → Served ts levels g
    → entry_at ts' item (stand g s) ≡ entry_at ts item (stand g s)

-- ---- roots

-- the same messages are due after each run of a root, so the same are put and queued, and each is named by the same
-- places
pub record KeepsMessages (ts' : List Template) (r : Root) (q : Note → ℕ) : Type 0 where
  pub queues : engine (moved ts' r) q ≡ engine r q
  pub places : (m : Message) → note_in ts' r.graph m ≡ note_in r.templates r.graph m

abbrev pub LibraryKeepsMessages : Type 0
LibraryKeepsMessages =
    (ts' : List Template) (r : Root) (q : Note → ℕ) → Agrees r.templates ts' → Served r.templates r.depth r.graph
    → KeepsMessages ts' r q

-- a legal run of a root is legal there
abbrev pub LibraryKeepsRuns : Type 0
LibraryKeepsRuns =
    (ts' : List Template) (r : Root) (q : Note → ℕ) (h : List Event) → Agrees r.templates ts'
    → Served r.templates r.depth r.graph
    → IsLegal r q h → IsLegal (moved ts' r) q h

-- a run that has brought the scope of a root to a state is one of the root in the larger library
abbrev pub LibraryKeepsDriven : Type 0
LibraryKeepsDriven =
    (ts' : List Template) (r : Root) (q : Note → ℕ) (h : List Event) (s : ScopeState) → Agrees r.templates ts'
    → IsDriven r q h s → IsDriven (moved ts' r) q h s

-- a root that has come so far in its library has come as far in this one: what is said of it by its messages, and by
-- its completions alone, is the same
pub record GoesOnIn (ts' : List Template) (r : Root) (q : Note → ℕ) (h : List Event) (s : ScopeState) : Type 0 where
  pub root : IsServedRoot (moved ts' r)
  pub legal : IsLegal (moved ts' r) q h
  pub messages : KeepsMessages ts' r q
  pub view : KeepsScope r.templates ts' r.depth (seen h) r.graph r.input
  pub fates : KeepsScope r.templates ts' r.depth (fated h) r.graph r.input
  pub shows : Shows ts' r.depth (seen h) r.graph r.input s

-- a root goes on in each larger library
abbrev pub LibraryKeepsRoots : Type 0
LibraryKeepsRoots =
    (ts' : List Template) (r : Root) (q : Note → ℕ) (h : List Event) (s : ScopeState) → Agrees r.templates ts'
    → IsServedRoot r → IsLegal r q h
    → Shows r.templates r.depth (seen h) r.graph r.input s → GoesOnIn ts' r q h s
