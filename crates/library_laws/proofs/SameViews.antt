-- A state that shows a view shows it in a larger library, and so a root goes on there.
use Rattle.std.proofs.Common.{◌≡◌, ℕ, zero, suc, List, Option, Some, None, refl, sym, ◌∙◌, subst}
use Rattle.flow_model.specs.Fates.{Ends}
use Rattle.flow_model.specs.ScopeContainers.{graph_in}
use Rattle.flow_model.specs.Scopes.{Known, at, part, Runs, Start, scope_ends, output}
use Rattle.flow_model.specs.declared.graphs.Container.{Container}
use Rattle.flow_model.specs.declared.graphs.Graph.{Graph}
use Rattle.flow_model.specs.declared.graphs.Template.{Template}
use Rattle.flow_model.specs.declared.instances.Part.{Part}
use Rattle.flow_model.specs.declared.names.Name.{Name}
use Rattle.navigator.proofs.ShownAgain.{shown_again}
use Rattle.navigator.specs.Driven.{IsServedRoot}
use Rattle.navigator.specs.Serving.{Served}
use Rattle.navigator.specs.Views.{ShowsScope, shows_attempt, ShowsEnds, ShowsWithin, Shows}
use Rattle.navigator.specs.declared.scopes.ScopeState.{ScopeState}
use Rattle.view_laws.specs.LegalRuns.{IsLegal}
use Rattle.view_laws.specs.Messages.{Note}
use Rattle.view_laws.specs.Runs.{Root, Event, seen, fated}
use Rattle.library_laws.proofs.SameDue.{messages_kept}
use Rattle.library_laws.proofs.SameForm.{root_form}
use Rattle.library_laws.proofs.SameGraphs.{HasSameGraphs, ServedInside, same_graphs}
use Rattle.library_laws.proofs.SameRuns.{run_kept}
use Rattle.library_laws.proofs.SameScopes.{outputs_same, fate_same, starts_same, ends_same, output_same, scope_kept}
use Rattle.library_laws.specs.Larger.{Agrees}
use Rattle.library_laws.specs.Laws.{KeepsView, GoesOnIn}

-- ---- one scope, where the scopes below it go on showing

module _ (ts ts' : List Template) (k : Known) (runs runs' : Runs) (below below' : ShowsScope) (inner : Graph → Type 0)
    (same : (q : Part) (h : Graph) (i : Container) → inner h → runs' (at q k) h i ≡ runs (at q k) h i)
    (more : (q : Part) (h : Graph) (i : Container) (s : ScopeState) → inner h → below (at q k) h i s → below' (at q k) h i s) where
  attempt_shown : (name : Name) (o o' : Option Graph) → o' ≡ o → ((h : Graph) → o ≡ Some h → inner h) → (start : Start) (s : ScopeState)
      → shows_attempt below k name o start s → shows_attempt below' k name o' start s
  attempt_shown name None o' graphs ok start s is = absurd is
  attempt_shown name (Some h) o' graphs ok start s is =
      subst (λ o. shows_attempt below' k name o start s) (sym graphs) (more (part name start.attempt) h start.input s (ok h refl) is)

  module _ (g : Graph) (inside : HasSameGraphs ts ts' g inner) (input : Container) where
    pub scope_shown : (s : ScopeState) → ShowsEnds ts k runs below g input (scope_ends ts k runs g input) s
        → ShowsEnds ts' k runs' below' g input (scope_ends ts' k runs' g input) s
    scope_shown s shows =
        subst (λ e. ShowsEnds ts' k runs' below' g input e s) (sym (ends_same ts ts' k runs runs' inner same g inside input)) (by (scope_ends ts k runs g input) shows)
      where
        by : (e : Ends) → ShowsEnds ts k runs below g input e s → ShowsEnds ts' k runs' below' g input e s
        by e is = record {
          begun = is.begun;
          reads = is.reads;
          tallied = is.tallied;
          tallies = is.tallies;
          ended = is.ended;
          ends = is.ends;
          stated = is.stated;
          states = λ a activity state there found.
              shown_again activity.work _ _ _ _ _ _ (shows_attempt below k activity.name (graph_in ts activity.work)) (shows_attempt below' k activity.name (graph_in ts' activity.work)) state
              (fate_same ts ts' k runs runs' inner same g inside input e a) (λ opened. outputs_same ts ts' k runs runs' inner same g inside input e a)
              (starts_same ts ts' k runs runs' inner same g inside input e a activity there)
              (λ start t shown. attempt_shown activity.name (graph_in ts activity.work) (graph_in ts' activity.work) (inside.graphs a activity there) (inside.inside a activity there) start t shown)
              (is.states a activity state there found);
          unsettled = is.unsettled;
        }

-- ---- to any depth

shown_within : (ts ts' : List Template) → Agrees ts ts' → (depth levels : ℕ) (k : Known) (g : Graph) (input : Container) (s : ScopeState) → ServedInside ts levels g
    → ShowsWithin ts depth k g input s → ShowsWithin ts' depth k g input s
shown_within ts ts' agrees zero levels k g input s served shows = shows
shown_within ts ts' agrees (suc depth) zero k g input s served shows = absurd served
shown_within ts ts' agrees (suc depth) (suc levels) k g input s served shows =
    scope_shown ts ts' k (output ts depth) (output ts' depth) (ShowsWithin ts depth) (ShowsWithin ts' depth) (ServedInside ts levels)
    (λ q h i ok. output_same ts ts' agrees depth levels (at q k) h i ok)
    (λ q h i t ok is. shown_within ts ts' agrees depth levels (at q k) h i t ok is)
    g (same_graphs ts ts' levels g agrees served) input s shows

-- and back
back : (ts ts' : List Template) (g : Graph) (inner : Graph → Type 0) → HasSameGraphs ts ts' g inner → HasSameGraphs ts' ts g inner
back ts ts' g inner same = record {
  graphs = λ a activity is. sym (same.graphs a activity is);
  inside = λ a activity is h of. same.inside a activity is h (sym (same.graphs a activity is) ∙ of);
}

shown_back : (ts ts' : List Template) → Agrees ts ts' → (depth levels : ℕ) (k : Known) (g : Graph) (input : Container) (s : ScopeState) → ServedInside ts levels g
    → ShowsWithin ts' depth k g input s → ShowsWithin ts depth k g input s
shown_back ts ts' agrees zero levels k g input s served shows = shows
shown_back ts ts' agrees (suc depth) zero k g input s served shows = absurd served
shown_back ts ts' agrees (suc depth) (suc levels) k g input s served shows =
    scope_shown ts' ts k (output ts' depth) (output ts depth) (ShowsWithin ts' depth) (ShowsWithin ts depth) (ServedInside ts levels)
    (λ q h i ok. sym (output_same ts ts' agrees depth levels (at q k) h i ok))
    (λ q h i t ok is. shown_back ts ts' agrees depth levels (at q k) h i t ok is)
    g (back ts ts' g (ServedInside ts levels) (same_graphs ts ts' levels g agrees served)) input s shows

pub view_kept : (ts ts' : List Template) (levels depth : ℕ) (k : Known) (g : Graph) (input : Container) (s : ScopeState) → Agrees ts ts' → Served ts levels g
    → KeepsView ts ts' depth k g input s
view_kept ts ts' levels depth k g input s agrees served = record {
  there = λ shows. shown_within ts ts' agrees (suc depth) (suc levels) k g input s served shows;
  back = λ shows. shown_back ts ts' agrees (suc depth) (suc levels) k g input s served shows;
}

-- ---- a root

pub root_kept : (ts' : List Template) (r : Root) (q : Note → ℕ) (h : List Event) (s : ScopeState) → Agrees r.templates ts' → IsServedRoot r → IsLegal r q h
    → Shows r.templates r.depth (seen h) r.graph r.input s → GoesOnIn ts' r q h s
root_kept ts' r q h s agrees root legal shows =
    record {
      root = root_form ts' r agrees root;
      legal = run_kept ts' r q h agrees root.served legal;
      messages = messages_kept ts' r q agrees root.served;
      view = scope_kept r.templates ts' r.depth r.depth (seen h) r.graph r.input agrees root.served;
      fates = scope_kept r.templates ts' r.depth r.depth (fated h) r.graph r.input agrees root.served;
      shows = (view_kept r.templates ts' r.depth r.depth (seen h) r.graph r.input s agrees root.served).there shows;
    }
