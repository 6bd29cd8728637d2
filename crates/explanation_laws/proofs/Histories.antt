-- The graphs of a library to which commands lead have activities as they are read, and so have those inside them: they are in bounds.
use Rattle.std.proofs.Common.{◌≡◌, ℕ, zero, suc, ◌≤◌, List, Some, sym, ap, subst, ◌∙◌, arith}
use Rattle.std.specs.Prelude.{slice_get}
use Rattle.flow_model.specs.declared.graphs.Graph.{Graph}
use Rattle.flow_model.specs.declared.graphs.Template.{Template}
use Rattle.flow_model.specs.declared.transactions.Transaction.{Transaction}
use Rattle.certificates.specs.Told.{Basis, root_graph}
use Rattle.certificates.proofs.Growth.{map_parts}
use Rattle.machine.specs.States.{State, blank, templates}
use Rattle.reopening_laws.specs.Making.{MadeByCommands}
use Rattle.range_laws.specs.Bounds.{IsBounded, IsGraphInBounds, IsInBounds}
use Rattle.range_laws.proofs.Histories.{blank_in_bounds, history_in_bounds}
use Rattle.range_laws.proofs.Queues.{all_at}
use Rattle.range_laws.proofs.Walks.{runs_graph}
use Rattle.explanation_laws.specs.Certified.{AreReadScopes, HasReadActivities}
use Rattle.explanation_laws.proofs.Inside.{ReadTo, read_scopes}

module _ (ts : List Template) where
  activities_read : (P : Graph → Type 0) (g : Graph) → IsGraphInBounds ts P g → HasReadActivities g
  activities_read P g bounds = record {
    few = let few = bounds.few in omega (arith, few);
    named = λ a x is. (bounds.each a x is).named;
  }

  -- a graph in bounds has activities as they are read, and so have those inside it, to every depth
  graph_read : (levels depth : ℕ) (g : Graph) → IsInBounds ts levels g → ReadTo ts depth g
  graph_read zero depth g bounds = absurd bounds
  graph_read (suc levels) zero g bounds = record {
    activities = activities_read (IsInBounds ts levels) g bounds;
    inside = λ a x is h runs. tt;
  }
  graph_read (suc levels) (suc depth) g bounds = record {
    activities = activities_read (IsInBounds ts levels) g bounds;
    inside = λ a x is h runs. graph_read levels depth h
        (runs_graph ts (IsInBounds ts levels) x.work h (bounds.each a x is).inside runs);
  }

pub histories_read : (queues limit : ℕ) (ts : List Transaction) (s : State) → queues ≤ 16 → limit ≤ 10000000
    → MadeByCommands (blank queues limit) ts s → (b : Basis) → b.templates ≡ templates s → (g : Graph)
    → root_graph b ≡ Some g → (depth most : ℕ) → AreReadScopes b g depth most
histories_read queues limit ts s few small made b same g graph depth most =
    let ok = history_in_bounds (blank queues limit) ts s (blank_in_bounds queues limit few small) made in
    let found = map_parts (λ (t : Template). t.graph) (slice_get b.templates b.template) g graph in
    let stands : slice_get (templates s) b.template ≡ Some found.0 =
    ap (λ us. slice_get us b.template) (sym same) ∙ found.1 in
    let one = all_at (IsBounded (templates s)) (templates s) b.template found.0 ok.bounded stands in
    let bounds : IsInBounds (templates s) (suc found.0.depth) g =
    subst (IsInBounds (templates s) (suc found.0.depth)) found.2 one.graph in
    read_scopes b g depth most
    (subst (λ us. ReadTo us depth g) (sym same) (graph_read (templates s) (suc found.0.depth) depth g bounds))
