-- How what is told stands in the memory of the checker.
use Rattle.std.specs.Prelude.{◌≡◌, ℕ, Bool, Option, Some, option_map, is_some, unwrap_or, IfSome, List, bytes_eq}
use Rattle.std.specs.Borrow.{Bor}
use Rattle.std.specs.List.{All}
use Rattle.std.specs.Global.{Vec}
use Rattle.std.specs.HashMap.{HashMap, get_by}
use Rattle.fate_laws.specs.Layout.{IsLaid, Laid}
use Rattle.flow_model.specs.declared.graphs.Container.{Container}
use Rattle.flow_model.specs.declared.graphs.Template.{Template}
use Rattle.flow_model.specs.declared.instances.Fact.{Fact}
use Rattle.flow_model.specs.declared.instances.Path.{Path}
use Rattle.flow_model.specs.Paths.{spelling}
use Rattle.certificates.specs.declared.graphs.Placed.{Placed as PlacedActivity}
use Rattle.certificates.specs.declared.grounds.Grounds.{Grounds}
use Rattle.certificates.specs.declared.grounds.Checker.{Checker}
use Rattle.certificates.specs.declared.scopes.Begun.{Begun}
use Rattle.certificates.specs.declared.lines.CertLine.{CertLine}
use Rattle.certificates.specs.Told.{Opened, Told, Basis, Placed, accepted, taken}

-- what a certificate rests on, as the checker is given it
abbrev pub basis_of : Grounds → Basis
basis_of g = record {
  templates = g.library.now.templates;
  root = g.root;
  template = g.template;
  input =
      g.input.now;
  facts = g.facts.now;
}

-- an activity with its place, as the code has it
abbrev pub placed_of : PlacedActivity → Placed
placed_of x = record { place = x.place; activity = x.activity.now }

-- what is told of a scope, as the checker keeps it
abbrev pub opened_of : Begun → Opened
opened_of b = record { graph = b.graph.now; input = b.input; ends = b.ends.items; output = b.output }

-- what is told of each scope, by the texts of the scopes
abbrev pub told_by : {S : Type 0} → HashMap (Vec ℕ) Begun S → Told
told_by scopes p = option_map opened_of (get_by (λ k. bytes_eq (spelling p) k.items) scopes)

-- the accepted output of each item, by the texts of the items
abbrev pub accepted_by : {S : Type 0} → HashMap (Vec ℕ) (Bor Container) S → Path → Option Container
accepted_by given p = option_map (λ out. out.now) (get_by (λ k. bytes_eq (spelling p) k.items) given)

-- the outputs are those of these completions
abbrev pub IsGiven : {S : Type 0} → HashMap (Vec ℕ) (Bor Container) S → List Fact → Type 0
IsGiven given facts = (p : Path) → accepted_by given p ≡ accepted facts p

-- so are those that the checker keeps
abbrev pub IsReadied : Checker → Type 0
IsReadied c = IsGiven c.given c.grounds.facts.now

-- the graphs of the scopes that are told of are laid out right
abbrev pub AreLaid : Told → Type 0
AreLaid t = (p : Path) → IfSome (t p) (λ s. IsLaid s.graph)

-- so are the graphs of these templates, and those inside them, at every depth
abbrev pub AreLaidTemplates : List Template → Type 0
AreLaidTemplates ts = (depth : ℕ) → All (λ t. Laid ts depth t.graph) ts

-- the answer whether a line is justified, and what is told after it
pub record Takes (old new : Told) (after : Option Told) (yes : Bool) : Type 0 where
  pub answered : yes ≡ is_some after
  pub told : (p : Path) → new p ≡ unwrap_or after old p

-- each of these lines follows from what is told, and tells nothing more
abbrev pub TellNoMore : Basis → Told → List CertLine → Type 0
TellNoMore b t lines = All (λ line. taken b t line ≡ Some t) lines
