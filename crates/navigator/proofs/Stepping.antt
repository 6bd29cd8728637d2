-- The scope to which a path leads goes on showing the view, and so do those on the way: for any event of a scope.
use Rattle.std.proofs.Common.{◌≡◌, ℕ, zero, suc, ◌≤◌, ◌<◌, List, [], ◌∷◌, length, Some, refl, ap, sym, ◌∙◌, subst, arith, inl, inr, get_or}
use Rattle.std.specs.List.{Contains}
use Rattle.fate_laws.proofs.ItemsBelow.{Among, Covers, strip, covers_at, strip_at_most}
use Rattle.fate_laws.specs.StartedScopes.{ScopeFact}
use Rattle.fate_laws.specs.WellFormed.{Well}
use Rattle.flow_model.specs.Scopes.{Known, at}
use Rattle.flow_model.specs.declared.graphs.Container.{Container}
use Rattle.flow_model.specs.declared.graphs.Graph.{Graph}
use Rattle.flow_model.specs.declared.graphs.Template.{Template}
use Rattle.flow_model.specs.declared.instances.Part.{Part}
use Rattle.navigator.specs.Events.{ScopeChange, ChangesAt}
use Rattle.navigator.specs.Reading.{place_of}
use Rattle.navigator.specs.Serving.{Served}
use Rattle.navigator.specs.Showing.{IsCounted, graph_under, graph_along}
use Rattle.navigator.specs.Views.{Shows}
use Rattle.navigator.specs.declared.scopes.ScopeState.{ScopeState}
use Rattle.navigator.proofs.Leading.{way_shows}
use Rattle.navigator.proofs.SameActivities.{place_found}
use Rattle.view_laws.specs.Coming.{Leads}
use Rattle.view_laws.specs.Learning.{learnt, with_most}

-- ---- what is counted

among_at : (p : List Part) (items : List (List Part)) (i : ℕ) → i < length items → get_or items i p ≡ p → Among p items
among_at p [] i less is = absurd (omega arith)
among_at p (x ∷ xs) zero less is = inl is
among_at p (x ∷ xs) (suc i) less is = inr (among_at p xs i (omega arith) is)

among_of : (p : List Part) (items : List (List Part)) → Contains items p → Among p items
among_of p items is = among_at p items is.0 is.1 is.2

pub contains_of : (p : List Part) (items : List (List Part)) → Among p items → Contains items p
contains_of p [] is = absurd is
contains_of p (x ∷ xs) (inl is) = (0, omega arith, is)
contains_of p (x ∷ xs) (inr is) = let there = contains_of p xs is in (suc there.0, omega (arith, there.1), there.2)

pub counted_covers : (k : Known) (counted : IsCounted k) → Covers k counted.items
counted_covers k counted = λ p out given. among_of p counted.items (counted.covers p out given)

pub counted_at : (q : Part) (k : Known) → IsCounted k → IsCounted (at q k)
counted_at q k counted = record {
  messages = λ p a b o. counted.messages (q ∷ p) a b o;
  items = strip q counted.items;
  covers = λ p out given. contains_of p (strip q counted.items) (covers_at k counted.items q (counted_covers k counted) p out given);
  enough = let less = strip_at_most q counted.items in let enough = counted.enough in omega arith;
}

pub counted_most : (most : ℕ) (k : Known) → k.most ≤ most → IsCounted k → IsCounted (with_most most k)
counted_most most k le counted = record {
  messages = counted.messages;
  items = counted.items;
  covers = counted.covers;
  enough = let enough = counted.enough in omega arith;
}

-- ---- what is known after an event

-- an event of a scope tells nothing of the end of the scope itself
pub record IsLocal (f : Known → Known) : Type 0 where
  pub most : (k : Known) → (f k).most ≡ k.most
  pub given : (k : Known) → (f k).given [] ≡ k.given []
  pub closed : (k : Known) → (f k).closed [] ≡ k.closed []

learnt_most : (f : Known → Known) → IsLocal f → (p : List Part) (k : Known) → (learnt f p k).most ≡ k.most
learnt_most f local [] k = local.most k
learnt_most f local (q ∷ p) k = refl

learnt_given : (f : Known → Known) → IsLocal f → (p : List Part) (k : Known) → (learnt f p k).given [] ≡ k.given []
learnt_given f local [] k = local.given k
learnt_given f local (q ∷ p) k = refl

learnt_closed : (f : Known → Known) → IsLocal f → (p : List Part) (k : Known) → (learnt f p k).closed [] ≡ k.closed []
learnt_closed f local [] k = local.closed k
learnt_closed f local (q ∷ p) k = refl

-- ---- along a path

-- where each event of a scope keeps what it shows, so does one of a scope further in
pub path_shows : (ts : List Template) (change : ScopeChange) (fact : ScopeFact) (f : Known → Known) → IsLocal f
    → ((depth : ℕ) (k : Known) (g : Graph) (input : Container) (s s' : ScopeState) → Well ts depth g → Served ts depth g → IsCounted k → fact depth k g input → Shows ts depth k g input s
    → change g s s' → Shows ts depth (f k) g input s')
    → (p : List Part) (depth : ℕ) (k : Known) (g : Graph) (input : Container) (s s' : ScopeState) → Well ts depth g → Served ts depth g → IsCounted k
    → Leads fact ts depth k g input p → Shows ts depth k g input s → ChangesAt ts change p g s s' → Shows ts depth (learnt f p k) g input s'
path_shows ts change fact f local here [] depth k g input s s' well served counted leads shows changes = here depth k g input s s' well served counted leads shows changes
path_shows ts change fact f local here (q ∷ p) zero k g input s s' well served counted leads shows changes = absurd leads
path_shows ts change fact f local here (q ∷ p) (suc depth) k g input s s' well served counted leads shows changes =
    way_shows ts depth k (learnt f p (at q k)) g input q p s s' change (λ h i. Well ts depth h × Served ts depth h × Leads fact ts depth (at q k) h i p)
    well.named (learnt_most f local p (at q k)) (learnt_given f local p (at q k)) (learnt_closed f local p (at q k))
    (record {
      place = leads.place;
      activity = leads.activity;
      graph = leads.graph;
      number = leads.number;
      start = leads.start;
      is = leads.is;
      of = leads.of;
      named = leads.named;
      started = leads.started;
      unclosed = leads.unclosed;
      within = (well.inside leads.place leads.activity leads.is leads.graph leads.of, served.inside leads.place leads.activity leads.graph leads.is leads.of, leads.within);
    })
    (λ h i t t' within was c. path_shows ts change fact f local here p depth (at q k) h i t t' within.0 within.1 (counted_at q k counted) within.2 was c)
    shows changes

-- ---- another fact of the scope at the end

pub leads_map : (ts : List Template) (fact fact' : ScopeFact) (p : List Part) (depth : ℕ) (j : Known) (g : Graph) (input : Container)
    → ((d : ℕ) (l : Known) (h : Graph) (i : Container) → fact d l h i → fact' d l h i)
    → Leads fact ts depth j g input p → Leads fact' ts depth j g input p
leads_map ts fact fact' [] depth j g input more leads = more depth j g input leads
leads_map ts fact fact' (q ∷ p) zero j g input more leads = absurd leads
leads_map ts fact fact' (q ∷ p) (suc depth) j g input more leads = record {
  place = leads.place;
  activity = leads.activity;
  graph = leads.graph;
  number = leads.number;
  start = leads.start;
  is = leads.is;
  of = leads.of;
  named = leads.named;
  started = leads.started;
  unclosed = leads.unclosed;
  within = leads_map ts fact fact' p depth (at q j) leads.graph leads.start.input more leads.within;
}

-- the graph at the end of the path, where it leads along attempts
pub leads_along : (ts : List Template) (fact : ScopeFact) (P : Graph → Type 0) (h : Graph) → P h → (p : List Part) (depth : ℕ) (k : Known) (g : Graph) (input : Container) → Well ts depth g
    → graph_along ts p g ≡ Some h → Leads fact ts depth k g input p → Leads (λ d l g' i. fact d l g' i × P g') ts depth k g input p
leads_along ts fact P h holds [] depth k g input well along leads =
    let same : g ≡ h = cc in
    (leads, subst P (sym same) holds)
leads_along ts fact P h holds (q ∷ p) zero k g input well along leads = absurd leads
leads_along ts fact P h holds (q ∷ p) (suc depth) k g input well along leads =
    let name : leads.activity.name ≡ q.name = ap (λ (r : Part). r.name) leads.named in
    let place = ap (place_of g) (sym name) ∙ place_found g leads.place leads.activity well.named leads.is in
    let under : graph_under ts g (place_of g q.name) ≡ Some leads.graph = rw place (rw leads.is leads.of) in
    record {
      place = leads.place;
      activity = leads.activity;
      graph = leads.graph;
      number = leads.number;
      start = leads.start;
      is = leads.is;
      of = leads.of;
      named = leads.named;
      started = leads.started;
      unclosed = leads.unclosed;
      within = leads_along ts fact P h holds p depth (at q k) leads.graph leads.start.input (well.inside leads.place leads.activity leads.is leads.graph leads.of)
          (rw under at along) leads.within;
    }
