-- An attempt, by the first n completions, from what is found of the scope that it runs.
use Rattle.std.proofs.Common.{◌≡◌, ℕ, suc, ◌≤◌, List, [], ◌∷◌, Option, Some, None, refl, ap, sym, subst, ◌∙◌, inl, inr, arith, get_or, append_assoc}
use Rattle.std.specs.List.{Contains}
use Rattle.std.specs.Option.{option_map}
use Rattle.std.proofs.lemmas.List.Elements.{Contains-append_left}
use Rattle.flow_model.specs.Containers.{with_return_code}
use Rattle.flow_model.specs.Rows.{rows, rows_below, below}
use Rattle.flow_model.specs.ScopeContainers.{graph_in}
use Rattle.flow_model.specs.Scopes.{Runs, at, part, gives, output}
use Rattle.flow_model.specs.declared.graphs.Activity.{Activity}
use Rattle.flow_model.specs.declared.graphs.Container.{Container}
use Rattle.flow_model.specs.declared.graphs.Graph.{Graph}
use Rattle.flow_model.specs.declared.graphs.Template.{Template}
use Rattle.flow_model.specs.declared.graphs.Program.{Program as ProgramOf}
use Rattle.flow_model.specs.declared.graphs.Work.{Work, Program, Block, Process}
use Rattle.flow_model.specs.declared.instances.FateRow.{FateRow}
use Rattle.flow_model.specs.declared.instances.Part.{Part}
use Rattle.flow_model.specs.declared.instances.Path.{Path}
use Rattle.flow_model.specs.declared.names.Name.{Name}
use Rattle.fate_eval.specs.Entries.{dated_in, by_then, known_by, known_after}
use Rattle.fate_eval.specs.Passing.{rows_inside}
use Rattle.fate_eval.specs.Timely.{IsShownReady, IsTimelyProgram, IsTimelyAttempt, IsTimelyScope, IsTimelyPass}
use Rattle.fate_eval.specs.declared.accepted.Entry.{Entry}
use Rattle.fate_eval.proofs.Behind.{dated_later}
use Rattle.fate_eval.proofs.InTurn.{shown_more}
use Rattle.fate_eval.proofs.Seen.{after_below}

-- ---- a scope

shown_below : (es inner : List Entry) (s : Path) (q : Part) (shown : List FateRow) (i : ℕ) → ((p : List Part) → dated_in inner p ≡ dated_in es (q ∷ p))
    → IsShownReady inner (below s q) shown i → IsShownReady es s shown i
shown_below es inner s q shown i same is = record {
  scope = is.scope;
  last = is.last;
  rest = q ∷ is.rest;
  output = is.output;
  item = is.item ∙ ap (λ (ps : List Part). record { root = s.root; parts = ps }) (append_assoc s.parts (q ∷ []) is.rest);
  dated = sym (same is.rest) ∙ is.dated;
  shown = is.shown;
}

pub scope_timely : (ts : List Template) (depth most : ℕ) (es inner : List Entry) (s : Path) (q : Part) (g : Graph) (input : Container) (since : ℕ) (out out' : Option Container) (after : ℕ) (ready : List ℕ)
    → ((p : List Part) → dated_in inner p ≡ dated_in es (q ∷ p)) → out' ≡ option_map with_return_code out
    → IsTimelyPass ts depth most inner g input (below s q) since out after ready → IsTimelyScope ts depth most es s q g input since out' after ready
scope_timely ts depth most es inner s q g input since out out' after ready same coded pass = record {
  later = pass.later;
  gave = λ n o is less. rw (seen n) (go n less out pass.gave (sym coded ∙ is));
  each = λ x d less.
      (let here = pass.each x d less in
      (here.0, rw (seen _) (shown_below es inner s q _ _ same here.1)));
}
  where
    seen : (n : ℕ) → at q (known_after most es n) ≡ known_after most inner n
    seen n = after_below most es inner q n same

    go : (n : ℕ) → after ≤ n → (o : Option Container) → ((m : ℕ) (x : Container) → o ≡ Some x → after ≤ m → output ts (suc depth) (known_after most inner m) g input ≡ Some x)
        → {y : Container} → option_map with_return_code o ≡ Some y → option_map with_return_code (output ts (suc depth) (known_after most inner n) g input) ≡ Some y
    go n less None gave is = let m : ⊥ = cc in absurd m
    go n less (Some x) gave is = ap (option_map with_return_code) (gave n x refl less) ∙ is

pub gives_scope : (ts : List Template) (most : ℕ) (given : List Part → Option Container) (runs : Runs) (name : Name) (work : Work) (h : Graph) (j : ℕ) (input : Container)
    → graph_in ts work ≡ Some h → gives ts (known_by most given) runs name work j input ≡ option_map with_return_code (runs (at (part name j) (known_by most given)) h input)
gives_scope ts most given runs name (Program p) h j input is = let n : ⊥ = cc in absurd n
gives_scope ts most given runs name (Block g) h j input is = let same : g ≡ h = cc in ap (λ x. option_map with_return_code (runs (at (part name j) (known_by most given)) x input)) same
gives_scope ts most given runs name (Process t) h j input is = rw is refl

pub nested_timely : (ts : List Template) (depth d most : ℕ) (es : List Entry) (s : Path) (activity : Activity) (h : Graph) (j : ℕ) (input : Container) (since : ℕ) (out : Option Container) (after : ℕ) (ready : List ℕ)
    → depth ≡ suc d → graph_in ts activity.work ≡ Some h → IsTimelyScope ts d most es s (part activity.name j) h input since out after ready
    → IsTimelyAttempt ts depth most es s activity j input since out after ready
nested_timely ts depth d most es s activity h j input since out after ready is of scope =
    let P : ℕ → Type 0 = λ n. IsTimelyAttempt ts n most es s activity j input since out after ready in
    subst P (sym is) (record {
      later = scope.later;
      gave = λ n o given less. gives_scope ts most (λ p. by_then n (dated_in es p)) (output ts (suc d)) activity.name activity.work h j input of ∙ scope.gave n o given less;
      each = λ x dflt less.
          (let here = scope.each x dflt less in
          (here.0, inr (shown_more es s _ _ _ (λ r there. one_below _ r there) here.1)));
    })
  where
    one_below : (i : ℕ) (r : FateRow) → Contains (rows ts d (at (part activity.name j) (known_after most es i)) h input (below s (part activity.name j))) r
        → Contains (rows_below (rows_inside ts (suc d)) (known_after most es i) activity (graph_in ts activity.work) (record { attempt = j; input = input } ∷ []) s) r
    one_below i r there = rw of (Contains-append_left (rows ts d (at (part activity.name j) (known_after most es i)) h input (below s (part activity.name j))) [] r there)

-- an attempt of a program activity, from what is known of its item
pub program_timely : (ts : List Template) (depth most : ℕ) (es : List Entry) (s : Path) (activity : Activity) (p : ProgramOf) (j : ℕ) (input : Container) (since : ℕ) (out : Option Container) (after : ℕ) (ready : List ℕ)
    → activity.work ≡ Program p → IsTimelyProgram (dated_in es (part activity.name j ∷ [])) since out after ready → IsTimelyAttempt ts depth most es s activity j input since out after ready
program_timely ts depth most es s activity p j input since out after ready is own = record {
  later = own.later;
  gave = λ n o given less. rw is (own.gave n o given less);
  each = λ x d less.
      (let here = own.each x d less in (
        here.0,
        inl (record {
          open_ = rw is refl;
          none = rw (is, here.1.1) (dated_later (get_or ready x d) (get_or ready x d) here.1.0 (omega arith));
          output = here.1.0;
          dated = here.1.1;
        }),
      ));
}
