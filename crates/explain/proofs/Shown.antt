-- The fates that are kept under the texts of their activities, row by row; and what is shown of a live root.
use Rattle.std.proofs.Common.{◌≡◌, ℕ, ◌+◌, ◌<◌, List, [], ◌∷◌, ◌++◌, length, take, get_or, cond, Option, Some, None, sym, ap, subst, ◌∙◌}
use Rattle.std.specs.Prelude.{option_and_then}
use Rattle.std.specs.Cmp.Lexicographic.{nat_list_eq_equiv}
use Rattle.std.specs.Str.{bytes_eq}
use Rattle.std.specs.Global.{Vec}
use Rattle.std.specs.HashMap.{HashMap}
use Rattle.std.proofs.lemmas.List.{take_more}
use Rattle.std.proofs.lemmas.List.Sums.{fold_push}
use Rattle.std.proofs.lemmas.Option.{none-some}
use Rattle.certificates.proofs.Lookups.{Writes, written}
use Rattle.flow_core.specs.Answers.{instance_of, AreBegun}
use Rattle.flow_core.specs.Driving.{templates}
use Rattle.flow_core.specs.Facts.{AreFactsOf}
use Rattle.flow_core.specs.declared.state.Core.{Core}
use Rattle.flow_core.specs.declared.views.RootFacts.{RootFacts}
use Rattle.flow_model.specs.ScopeContainers.{graph_of}
use Rattle.flow_model.specs.declared.instances.Fate.{Fate}
use Rattle.flow_model.specs.declared.instances.FateRow.{FateRow}
use Rattle.navigator.specs.declared.instance.Instance.{Instance}
use Rattle.flow_model.specs.declared.instances.Path.{Path}
use Rattle.explain.specs.Explained.{HasNone, IsWithout}
use Rattle.certificates.specs.Naming.{activity_spelling}
use Rattle.explain.specs.Shown.{fate_at, fate_in, IsShown}
use Rattle.explain.specs.declared.making.ExplainFault.{ExplainFault}
use Rattle.explain.specs.declared.making.ExplainFault.TheVariants.{Root, Activity, Unsettled, NoMemory}

-- ---- row by row

-- one more row: its fate is kept under its text
pub row_kept : {S : Type 0} (old new : HashMap (Vec ℕ) Fate S) (key : List ℕ) (rows : List FateRow) (i : ℕ) (row : FateRow) → i < length rows → row ≡ get_or rows i row → key ≡ activity_spelling row.scope row.name
    → ((text : List ℕ) → fate_at old text ≡ fate_in (take i rows) text) → Writes key old new (Some row.fate) → (text : List ℕ) → fate_at new text ≡ fate_in (take (i + 1) rows) text
row_kept old new key rows i row less is named kept writes text =
    written key old new (Some row.fate) writes text
    ∙ ap (λ (o : Option Fate). cond (bytes_eq key text) (Some row.fate) o) (kept text)
    ∙ ap (λ (b : List ℕ). cond (bytes_eq b text) (Some row.fate) (fate_in (take i rows) text)) named
    ∙ ap (λ b. cond b (Some row.fate) (fate_in (take i rows) text)) (nat_list_eq_equiv.symm (activity_spelling row.scope row.name) text)
    ∙ sym (ap (λ (xs : List FateRow). fate_in xs text) (take_more rows i row less ∙ ap (λ (r : FateRow). take i rows ++ r ∷ []) (sym is)) ∙ fold_push _ None (take i rows) row)

-- ---- a live root

-- the template of a live root has a graph
pub has_graph : (c : Core) (root : ℕ) (f : RootFacts) → AreFactsOf c root f → None ≡ graph_of (templates c) f.template → ⊥
has_graph c root f facts none =
    let found : graph_of (templates c) facts.instance.template ≡ Some facts.graph = sym (ap (option_and_then (λ (i : Instance). graph_of (templates c) i.template)) facts.live) ∙ facts.process in
    none-some facts.graph (none ∙ ap (graph_of (templates c)) facts.template ∙ found)

-- and rows are shown of it
pub has_rows : (c : Core) (root : ℕ) (f : RootFacts) → AreFactsOf c root f → AreBegun c.store (instance_of c root) None → ⊥
has_rows c root f facts none =
    let rows = subst (λ (o : Option Instance). AreBegun c.store o None) facts.live none in
    none-some _ rows.2

-- the root of the facts is the one that they are of
pub facts_here : (c : Core) (root : ℕ) (f : RootFacts) → AreFactsOf c root f → AreFactsOf c f.root f
facts_here c root f facts = subst (λ (n : ℕ). AreFactsOf c n f) (sym facts.number) facts

-- why there is no certificate of an activity of which this is shown
pub has_none : (c : Core) (p : Path) (name : List ℕ) (found : Option Fate) (fault : ExplainFault) → IsShown c p.root (activity_spelling p name) found → IsWithout found fault → HasNone c p name fault
has_none c p name found (Root root) shown without = absurd without
has_none c p name found Activity shown without = subst (IsShown c p.root (activity_spelling p name)) without shown
has_none c p name found (Unsettled fate) shown without = (subst (IsShown c p.root (activity_spelling p name)) without.0 shown, without.1)
has_none c p name found NoMemory shown without = tt
