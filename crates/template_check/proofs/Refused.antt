-- A fault tells how its text is judged.
use Rattle.std.proofs.Common.{◌≡◌, ℕ, ◌≤◌, List, length, Some, Err, sym, ap, subst, ◌∙◌}
use Rattle.flow_model.specs.declared.graphs.Library.{Library}
use Rattle.flow_model.specs.declared.trees.Tree.{Tree}
use Rattle.template_check.specs.Compiling.{HasTree}
use Rattle.template_check.specs.Judged.{line_at, IsEarly, IsEarlyFault, IsFault, IsJudged, IsRefused, Early, Late}
use Rattle.template_check.specs.Rules.{later_rules, IsFirstBroken}
use Rattle.template_check.specs.declared.compiling.Compiled.{Compiled}
use Rattle.template_check.specs.declared.faults.ImportFault.{ImportFault}
use Rattle.template_check.specs.declared.faults.ImportFault.TheVariants as fault

-- what holds of a rule and a place holds of those that the fault names
named : (P : ℕ → ℕ → Type 0) (rule place r p : ℕ) → r ≡ rule → p ≡ place → P rule place → P r p
named P rule place r p same there h = subst (λ (x : ℕ). P x p) (sym same) (subst (λ (y : ℕ). P rule y) (sym there) h)

-- of a text that has no tree
pub early_fault : (text : List ℕ) (rule place : ℕ) (f : ImportFault) → IsFault text rule place f → IsEarly text rule place → IsEarlyFault text f
early_fault text rule place (fault.Rule found) is early = (named (IsEarly text) rule place found.rule found.place is.0 is.1 early, is.2 ∙ ap (line_at text) (sym is.1))
early_fault text rule place fault.NoMemory is early = absurd is

pub early_judged : (library : Library) (text : List ℕ) (f : ImportFault) → IsEarlyFault text f → IsJudged {T = Compiled} library text (Err f)
early_judged library text (fault.Rule found) h = (Early h.0, h.1)
early_judged library text fault.NoMemory h = tt

-- of one whose tree breaks a rule
pub refused_judged : (library : Library) (text : List ℕ) (f : ImportFault) (rule place : ℕ) (tree : Tree) → length text ≤ 1048576 → HasTree text tree → IsFirstBroken (later_rules library tree.items) (Some (rule, place)) → IsFault text rule place f → IsJudged {T = Compiled} library text (Err f)
refused_judged library text (fault.Rule found) rule place tree short has first is =
    (named (IsRefused library text) rule place found.rule found.place is.0 is.1 (Late (record { short = short; tree = tree; has = has; first = first })), is.2 ∙ ap (line_at text) (sym is.1))
refused_judged library text fault.NoMemory rule place tree short has first is = absurd is
