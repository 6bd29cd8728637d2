-- The attempts whose END or completion may come are among those that are looked at.
use Rattle.fate_laws.proofs.ItemsBelow.{Covers, covers_at, strip, strip_at_most, count_from, count_at_most, count_split, has_items}
use Rattle.fate_laws.proofs.Peopled.{output_given}
use Rattle.fate_laws.proofs.PlainFates.{fate_in_words}
use Rattle.fate_laws.specs.StartedScopes.{Reaches, ScopeFact}
use Rattle.fate_laws.specs.WellFormed.{Well}
use Rattle.flow_model.specs.Containers.{with_return_code}
use Rattle.flow_model.specs.Fates.{joined}
use Rattle.flow_model.specs.ScopeContainers.{base_of}
use Rattle.flow_model.specs.Scopes.{Known, at, Gives, Runs, Trial, part, scope_gives, gives, is_fed, trial, attempts_at, values_at, output, tree_ends}
use Rattle.flow_model.specs.declared.graphs.Container.{Container}
use Rattle.flow_model.specs.declared.graphs.Graph.{Graph, out-Graph}
use Rattle.flow_model.specs.declared.graphs.Template.{Template}
use Rattle.flow_model.specs.declared.instances.Part.{Part}
use Rattle.flow_model.specs.declared.names.Name.{Name}
use Rattle.std.proofs.Common.{◌≡◌, ℕ, zero, suc, ◌+◌, ◌≤◌, ◌<◌, Bool, true, false, List, [], ◌∷◌, length, refl, sym, ap, ◌∙◌, Option, Some, None, arith, inl, inr}
use Rattle.std.specs.Option.{option_map}
use Rattle.view_laws.proofs.Attempts.{tries_at_most}
use Rattle.view_laws.proofs.StartedParts.{listed_starts}
use Rattle.view_laws.proofs.Unfinished.{gives_scope}
use Rattle.view_laws.specs.Coming.{MayEnd, MayComplete, Leads}
use Rattle.view_laws.specs.NextEvents.{MayEndWithin, MayCompleteWithin}

-- no more items are given below a scope than attempts are looked at
pub record HasItems (k : Known) : Type 0 where
  pub items : List (List Part)
  pub covers : Covers k items
  pub fewer : length items ≤ k.most

-- what follows at a scope with few items, follows at the end of a path
pub leads_on : (ts : List Template) (fact fact' : ScopeFact)
    → ((depth : ℕ) (k : Known) (g : Graph) (i : Container) → Well ts depth g → HasItems k → fact depth k g i → fact' depth k g i)
    → (depth : ℕ) (k : Known) (g : Graph) (i : Container) (p : List Part) → Well ts depth g → HasItems k → Leads fact ts depth k g i p → Leads fact' ts depth k g i p
leads_on ts fact fact' follows depth k g i [] well has leads = follows depth k g i well has leads
leads_on ts fact fact' follows zero k g i (q ∷ p) well has leads = leads
leads_on ts fact fact' follows (suc depth) k g i (q ∷ p) well has leads = record {
  place = leads.place;
  activity = leads.activity;
  graph = leads.graph;
  number = leads.number;
  start = leads.start;
  is = leads.is;
  of = leads.of;
  named = leads.named;
  started = leads.started;
  unclosed = leads.unclosed;
  within =
      leads_on ts fact fact' follows depth (at q k) leads.graph leads.start.input p (well.inside leads.place leads.activity leads.is leads.graph leads.of)
      (record {
        items = strip q has.items;
        covers = covers_at k has.items q has.covers;
        fewer = let less = strip_at_most q has.items in let all = has.fewer in omega arith;
      })
      leads.within;
}

-- an attempt that is reached and has an item, comes after no more attempts than there are items
module _ (name : Name) (items : List (List Part)) (given : Gives) (t : Trial)
    (own : (j : ℕ) (i o : Container) → given j i ≡ Some o → 0 < length (strip (part name j) items)) where
  reach_counted : (n j : ℕ) (i : Container) (c : ℕ) (i' : Container) → Reaches n given t j i c i' → 0 < length (strip (part name c) items) → c < j + count_from name j items
  reach_counted zero j i c i' r some = absurd r
  reach_counted (suc n) j i c i' (inl r) some =
      let split = count_split name j items in
      let here : length (strip (part name j) items) ≡ length (strip (part name c) items) = ap (λ m. length (strip (part name m) items)) r.0 in
      let same = r.0 in
      omega arith
  reach_counted (suc n) j i c i' (inr r) some =
      let split = count_split name j items in
      let here = own j i r.0 r.1 in
      let rest = reach_counted n (j + 1) (t.loops r.0) c i' r.3 some in
      omega arith

map_given : (f : Container → Container) (o : Option Container) (out : Container) → option_map f o ≡ Some out → (u : Container) × (o ≡ Some u)
map_given f None out h = absurd (no_some h)
  where
    no_some : None ≡ Some out → ⊥
    no_some h = cc
map_given f (Some u) out h = (u, refl)

scope_gave : (k : Known) (runs : Runs) (h : Graph) (q : Part) (i out : Container) → scope_gives k runs (Some h) q i ≡ Some out → (u : Container) × (runs (at q k) h i ≡ Some u)
scope_gave k runs h q i out gave = go (k.closed (q ∷ [])) refl
  where
    no_some : None ≡ Some out → ⊥
    no_some n = cc

    go : (b : Bool) → k.closed (q ∷ []) ≡ b → (u : Container) × (runs (at q k) h i ≡ Some u)
    go false is = absurd (no_some (rw is at gave))
    go true is = map_given with_return_code (runs (at q k) h i) out (rw is at gave)

-- an attempt whose END may come is one of those
pub end_within : (ts : List Template) (q : Part) (depth : ℕ) (k : Known) (g : Graph) (i : Container) → Well ts depth g → HasItems k → MayEnd ts depth k g i q → MayEndWithin ts depth k g i q
end_within ts q zero k g i well has may = absurd (no_some may.out may.complete)
  where
    no_some : (out : Container) → None ≡ Some out → ⊥
    no_some out h = cc
end_within ts q (suc depth) k g i well has may =
    let name = may.activity.name in
    let base = base_of g may.activity may.place i (tree_ends ts (suc depth) k g i) in
    let given : Gives = gives ts k (output ts (suc depth)) name may.activity.work in
    let below = well.inside may.place may.activity may.is may.graph may.of in
    let own : (j : ℕ) (i' o : Container) → given j i' ≡ Some o → 0 < length (strip (part name j) has.items) = λ j i' o gave.
    let ran = scope_gave k (output ts (suc depth)) may.graph (part name j) i' o (sym (gives_scope ts k (output ts (suc depth)) name may.activity.work may.graph j i' may.of) ∙ gave) in
    has_items (at (part name j) k) (strip (part name j) has.items) (covers_at k has.items (part name j) has.covers)
    (output_given ts depth (at (part name j) k) may.graph i' ran.0 below ran.1) in
    let starts = listed_starts ts (suc depth) k g i may.place may.activity may.number may.start may.is may.started in
    let here : 0 < length (strip q has.items) =
    has_items (at q k) (strip q has.items) (covers_at k has.items q has.covers) (output_given ts depth (at q k) may.graph may.start.input may.out below may.complete) in
    let mine : length (strip (part name may.start.attempt) has.items) ≡ length (strip q has.items) = ap (λ u. length (strip u has.items)) may.named in
    let counted = reach_counted name has.items given (trial g may.place may.activity base) own (suc k.most) 1 base may.start.attempt may.start.input starts.reach (omega arith) in
    let less = count_at_most name 1 has.items in
    let fewer = has.fewer in
    record { may = may; within = omega arith }

-- an item that may be completed is of one of those, or of the next
pub complete_within : (ts : List Template) (q : Part) (depth : ℕ) (k : Known) (g : Graph) (i : Container) → MayComplete ts depth k g i q → MayCompleteWithin ts depth k g i q
complete_within ts q depth k g i may = record {
  may = may;
  within =
      let outs = attempts_at ts k (output ts depth) g i (tree_ends ts depth k g i) may.place (Some may.activity) in
      let join = joined may.activity.join (values_at k (out-Graph g).controls (tree_ends ts depth k g i) may.place) in
      let words = ((fate_in_words may.activity join outs).ready q.attempt).0 (rw (may.begun, may.is) at may.ready) in
      let count = words.1 in
      let few = at_most (is_fed (out-Graph g).lines may.place (tree_ends ts depth k g i)) refl in
      omega arith;
}
  where
    at_most : (b : Bool) → is_fed (out-Graph g).lines may.place (tree_ends ts depth k g i) ≡ b
        → length (attempts_at ts k (output ts depth) g i (tree_ends ts depth k g i) may.place (Some may.activity)) ≤ k.most
    at_most false fed = rw fed (omega arith)
    at_most true fed =
        let base = base_of g may.activity may.place i (tree_ends ts depth k g i) in
        rw fed (tries_at_most k.most (gives ts k (output ts depth) may.activity.name may.activity.work) (trial g may.place may.activity base) 1 base)
