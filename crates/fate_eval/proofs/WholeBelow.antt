-- An attempt: all that is so after this many completions is found of the scope that it runs.
use Rattle.std.proofs.Common.{◌≡◌, ℕ, suc, ◌≤◌, List, [], ◌∷◌, ◌++◌, Option, Some, None, refl, ap, sym, subst, ◌∙◌, ◌⊎◌, inl, inr, append-nil, append_assoc}
use Rattle.std.specs.Option.{option_map}
use Rattle.flow_model.specs.Containers.{with_return_code}
use Rattle.flow_model.specs.Fates.{goes_on}
use Rattle.flow_model.specs.Rows.{rows, rows_below, below}
use Rattle.flow_model.specs.ScopeContainers.{graph_in, graph_of}
use Rattle.flow_model.specs.Scopes.{Known, at, part, gives, scope_gives, output}
use Rattle.flow_model.specs.declared.graphs.Activity.{Activity}
use Rattle.flow_model.specs.declared.graphs.Container.{Container}
use Rattle.flow_model.specs.declared.graphs.Graph.{Graph}
use Rattle.flow_model.specs.declared.graphs.Template.{Template}
use Rattle.flow_model.specs.declared.graphs.Work.{Work, Program, Block, Process}
use Rattle.flow_model.specs.declared.instances.Fate.TheVariants.{Ready}
use Rattle.flow_model.specs.declared.instances.FateRow.{FateRow}
use Rattle.flow_model.specs.declared.instances.Part.{Part}
use Rattle.flow_model.specs.declared.instances.Path.{Path}
use Rattle.flow_model.specs.declared.names.Name.{Name}
use Rattle.fate_eval.specs.Entries.{dated_in, by_then, known_by, known_after}
use Rattle.fate_eval.specs.Passing.{rows_inside}
use Rattle.fate_eval.specs.Timely.{IsShownReady}
use Rattle.fate_eval.specs.Whole.{IsNested, IsWholeAttempt, IsWholeScope, IsWholePass, IsWholeLast}
use Rattle.fate_eval.specs.declared.accepted.Entry.{Entry}
use Rattle.fate_eval.proofs.Below.{gives_scope}
use Rattle.fate_eval.proofs.RowScopes.{rows_under, rest_begins}
use Rattle.fate_eval.proofs.Seen.{after_below}
use Rattle.fate_eval.proofs.WholeTurn.{shown_none}
use Rattle.std.proofs.lemmas.List.Elements.{Contains-append_left, Contains-append_right}

none_some : {X : Type 0} (x : X) → None ≡ Some x → ⊥
none_some x h = cc

-- a block or process activity has no items of its own
nested_not : (work : Work) (j : ℕ) → IsNested work → goes_on work j ≡ Ready j → ⊥
nested_not (Program p) j nested is = nested
nested_not (Block h) j nested is = cc
nested_not (Process t) j nested is = cc

nothing_below : (ts : List Template) (depth : ℕ) (k : Known) (activity : Activity) (j : ℕ) (input : Container) (s : Path) (o : Option Graph) → (o ≡ None) ⊎ (depth ≡ 0)
    → rows_below (rows_inside ts depth) k activity o (record { attempt = j; input = input } ∷ []) s ≡ []
nothing_below ts depth k activity j input s None none = refl
nothing_below ts depth k activity j input s (Some h) (inl no_) = let n : ⊥ = cc in absurd n
nothing_below ts depth k activity j input s (Some h) (inr is) = rw is refl

gives_nothing : (ts : List Template) (most depth : ℕ) (given : List Part → Option Container) (name : Name) (work : Work) (j : ℕ) (input : Container) → IsNested work → (graph_in ts work ≡ None) ⊎ (depth ≡ 0)
    → gives ts (known_by most given) (output ts depth) name work j input ≡ None
gives_nothing ts most depth given name (Program p) j input nested none = absurd nested
gives_nothing ts most depth given name (Block h) j input nested (inl no_) = let n : ⊥ = cc in absurd n
gives_nothing ts most depth given name (Block h) j input nested (inr is) = rw is refl
gives_nothing ts most depth given name (Process t) j input nested (inl no_) = rw no_ refl
gives_nothing ts most depth given name (Process t) j input nested (inr is) = go (graph_of ts t)
  where
    go : (o : Option Graph) → scope_gives (known_by most given) (output ts depth) o (part name j) input ≡ None
    go None = refl
    go (Some h) = rw is refl

-- nothing was given
pub nothing_whole : (ts : List Template) (depth most : ℕ) (es : List Entry) (s : Path) (activity : Activity) (j : ℕ) (input : Container) (since : ℕ) (out : Option Container) (after : ℕ) (ready : List ℕ)
    → IsNested activity.work → (graph_in ts activity.work ≡ None) ⊎ (depth ≡ 0) → IsWholeAttempt ts depth most es s activity j input since out after ready
nothing_whole ts depth most es s activity j input since out after ready nested none = record {
  gave = λ n o low is. absurd (none_some o (sym (gives_nothing ts most depth (λ p. by_then n (dated_in es p)) activity.name activity.work j input nested none) ∙ is));
  own = λ i o low is. absurd (nested_not activity.work j nested is);
  inside = λ i low shown.
      (let P : List FateRow → Type 0 = λ rows. IsShownReady es s rows i in
      absurd (shown_none es s i (subst P (nothing_below ts depth (known_after most es i) activity j input s (graph_in ts activity.work) none) shown)));
}

-- ---- a scope

shown_inner : (ts : List Template) (depth : ℕ) (k : Known) (es inner : List Entry) (s : Path) (q : Part) (g : Graph) (input : Container) (i : ℕ) → ((p : List Part) → dated_in inner p ≡ dated_in es (q ∷ p))
    → IsShownReady es s (rows ts depth k g input (below s q)) i → IsShownReady inner (below s q) (rows ts depth k g input (below s q)) i
shown_inner ts depth k es inner s q g input i same is =
    let under = rows_under ts depth k g input (below s q) _ is.shown in
    let scope_is : is.scope ≡ record { root = s.root; parts = s.parts ++ q ∷ under.0 } = under.1 ∙ ap (λ (ps : List Part). record { root = s.root; parts = ps }) (append_assoc s.parts (q ∷ []) under.0) in
    let begins : is.rest ≡ q ∷ (under.0 ++ is.last ∷ []) = rest_begins s is.scope is.last q is.rest under.0 scope_is is.item in
    record {
      scope = is.scope;
      last = is.last;
      rest = under.0 ++ is.last ∷ [];
      output = is.output;
      item = is.item ∙ ap (λ (ps : List Part). record { root = s.root; parts = s.parts ++ ps }) begins
          ∙ ap (λ (ps : List Part). record { root = s.root; parts = ps }) (sym (append_assoc s.parts (q ∷ []) (under.0 ++ is.last ∷ [])));
      dated = same (under.0 ++ is.last ∷ []) ∙ ap (dated_in es) (sym begins) ∙ is.dated;
      shown = is.shown;
    }

pub scope_whole : (ts : List Template) (depth most : ℕ) (es inner : List Entry) (s : Path) (q : Part) (g : Graph) (input : Container) (since : ℕ) (out out' : Option Container) (after : ℕ) (ready : List ℕ)
    → ((p : List Part) → dated_in inner p ≡ dated_in es (q ∷ p)) → out' ≡ option_map with_return_code out
    → IsWholePass ts depth most inner g input (below s q) since out after ready → IsWholeScope ts depth most es s q g input since out' after ready
scope_whole ts depth most es inner s q g input since out out' after ready same coded pass = record {
  gave = λ n o low is. go n low (output ts (suc depth) (known_after most inner n) g input) refl (rw (seen n) at is);
  inside = λ i low shown.
      (let P : List FateRow → Type 0 = λ r. IsShownReady inner (below s q) r i in
      pass.inside i low (subst P (ap (λ k. rows ts depth k g input (below s q)) (seen i)) (shown_inner ts depth (at q (known_after most es i)) es inner s q g input i same shown)));
}
  where
    seen : (n : ℕ) → at q (known_after most es n) ≡ known_after most inner n
    seen n = after_below most es inner q n same

    go : (n : ℕ) → since ≤ n → (x : Option Container) → output ts (suc depth) (known_after most inner n) g input ≡ x → {o : Container} → option_map with_return_code x ≡ Some o → (out' ≡ Some o) × (after ≤ n)
    go n low None is h = let m : ⊥ = cc in absurd m
    go n low (Some y) is h = let r = pass.gave n y low is in (coded ∙ ap (option_map with_return_code) r.0 ∙ h, r.1)

nested_of : (ts : List Template) (work : Work) (h : Graph) (j : ℕ) → graph_in ts work ≡ Some h → goes_on work j ≡ Ready j → ⊥
nested_of ts (Program p) h j of is = none_some h of
nested_of ts (Block g) h j of is = cc
nested_of ts (Process t) h j of is = cc

pub nested_whole : (ts : List Template) (depth d most : ℕ) (es : List Entry) (s : Path) (activity : Activity) (h : Graph) (j : ℕ) (input : Container) (since : ℕ) (out : Option Container) (after : ℕ) (ready : List ℕ)
    → depth ≡ suc d → graph_in ts activity.work ≡ Some h → IsWholeScope ts d most es s (part activity.name j) h input since out after ready
    → IsWholeAttempt ts depth most es s activity j input since out after ready
nested_whole ts depth d most es s activity h j input since out after ready is of scope =
    let P : ℕ → Type 0 = λ n. IsWholeAttempt ts n most es s activity j input since out after ready in
    subst P (sym is) (record {
      gave = λ n o low given. scope.gave n o low (sym (gives_scope ts most (λ p. by_then n (dated_in es p)) (output ts (suc d)) activity.name activity.work h j input of) ∙ given);
      own = λ i o low ready_. absurd (nested_of ts activity.work h j of ready_);
      inside = λ i low shown.
          (let Q : List FateRow → Type 0 = λ r. IsShownReady es s r i in
          scope.inside i low (subst Q (one_below i) shown));
    })
  where
    one_below : (i : ℕ) → rows_below (rows_inside ts (suc d)) (known_after most es i) activity (graph_in ts activity.work) (record { attempt = j; input = input } ∷ []) s
        ≡ rows ts d (at (part activity.name j) (known_after most es i)) h input (below s (part activity.name j))
    one_below i = rw of (append-nil (rows ts d (at (part activity.name j) (known_after most es i)) h input (below s (part activity.name j))))

-- the attempt behind the last one that counts, after those before it
pub last_whole : (ts : List Template) (depth most : ℕ) (es : List Entry) (s : Path) (activity : Activity) (j : ℕ) (input : Container) (since : ℕ) (before : List ℕ) (out : Option Container) (after : ℕ) (found : List ℕ)
    → IsWholeAttempt ts depth most es s activity j input since out after found → IsWholeLast ts depth most es s activity j input since before (before ++ found)
last_whole ts depth most es s activity j input since before out after found tried = record {
  kept = λ i there. Contains-append_left before found i there;
  own = λ i o low ready_ dated. Contains-append_right before found i (tried.own i o low ready_ dated);
  inside = λ i low shown. Contains-append_right before found i (tried.inside i low shown);
}
