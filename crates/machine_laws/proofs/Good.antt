-- What a command that is not refused, and a record that is admitted, have tested of an Import and a Start.
use Rattle.std.proofs.Common.{◌≡◌, ℕ, suc, ◌+◌, Bool, true, false, List, [], ◌∷◌, Option, Some, None, if◌then◌else◌}
use Rattle.std.proofs.Common.{refl, sym, subst, ◌∙◌, add-one}
use Rattle.std.specs.Prelude.{option_map, option_and_then, slice_get, bytes_eq}
use Rattle.std.specs.Option.{option_or}
use Rattle.std.proofs.lemmas.Option.{none-some}
use Rattle.std.proofs.lemmas.Slice.Eq.{bytes_eq-Decides}
use Rattle.flow_core.specs.Admitting.{IsAdmitted}
use Rattle.flow_core.specs.Driving.{IsNewestVersion}
use Rattle.flow_core.specs.Judgements.{IsVerdict}
use Rattle.flow_core.specs.Refusals.{first_of, full_test, IsRuleOf}
use Rattle.flow_core.specs.Verdicts.{IsNewestFor}
use Rattle.flow_core.specs.declared.judging.Verdict.TheVariants.{Do}
use Rattle.flow_core.specs.declared.refusals.Refusal.{Refusal}
use Rattle.flow_core.specs.declared.state.Core.{Core}
use Rattle.flow_model.specs.declared.commands.Command.{Command}
use Rattle.flow_model.specs.declared.commands.Command.TheVariants as asked
use Rattle.flow_model.specs.declared.graphs.Library.{Library}
use Rattle.flow_model.specs.declared.graphs.Template.{Template}
use Rattle.flow_model.specs.declared.names.Name.{Name}
use Rattle.flow_model.specs.declared.transactions.Transaction.{Transaction}
use Rattle.flow_model.specs.declared.transactions.Transaction.TheVariants as made
use Rattle.process_rules.specs.Imports.{last_place, newest_place}
use Rattle.template_check.specs.Judged.{IsFaultless}
use Rattle.machine_laws.specs.Applied.{IsGood}

-- ---- the newest template of a name

-- the last element that passes does pass
last_passes : {X : Type 0} (test : X → Bool) (xs : List X) (n : ℕ) (x : X) → last_place test xs ≡ Some n
    → slice_get xs n ≡ Some x → test x ≡ true
last_passes test [] n x is there = absurd (none-some n is)
last_passes {X} test (y ∷ ys) n x is there =
    go (last_place test ys) (test y) (λ m at found. last_passes test ys m x at found) refl is there
  where
    go : (o : Option ℕ) (b : Bool) → ((m : ℕ) → o ≡ Some m → slice_get ys m ≡ Some x → test x ≡ true) → test y ≡ b
        → option_or (option_map (λ place. place + 1) o) (if b then Some 0 else None) ≡ Some n
        → slice_get (y ∷ ys) n ≡ Some x → test x ≡ true
    go (Some m) b below tested is there =
        let one : suc m ≡ n = (let both : m + 1 ≡ n = cc in sym (add-one m) ∙ both) in
        below m refl (subst (λ (k : ℕ). slice_get (y ∷ ys) k ≡ Some x) (sym one) there)
    go None true below tested is there =
        let first : 0 ≡ n = cc in
        let here : Some y ≡ Some x = subst (λ (k : ℕ). slice_get (y ∷ ys) k ≡ Some x) (sym first) there in
        let same : y ≡ x = cc in
        subst (λ (z : X). test z ≡ true) same tested
    go None false below tested is there = absurd (none-some n is)

-- the newest template of a name stands at the place of that, and has that name
newest_version : (library : Library) (process : Name) (version : ℕ) (t : Template)
    → option_and_then (λ place. slice_get library.templates place) (newest_place library process) ≡ Some t
    → t.version ≡ version → (place : ℕ) × IsNewestVersion library process version place
newest_version library process version t is number = go (newest_place library process) refl is
  where
    go : (o : Option ℕ) → newest_place library process ≡ o
        → option_and_then (λ place. slice_get library.templates place) o ≡ Some t
        → (place : ℕ) × IsNewestVersion library process version place
    go None at none = absurd (none-some t none)
    go (Some place) at there =
        let passes = last_passes (λ (u : Template). bytes_eq u.name process) library.templates place t at there in (
          place,
          record {
            newest = at;
            version_at = record {
              template = t;
              there = there;
              name = (bytes_eq-Decides t.name process).0 passes;
              number = number;
            };
          },
        )

-- ---- a text

-- a text whose tests don't refuse breaks no rule
no_rule : (c : Core) (text : List ℕ) (rule : Option Refusal) → IsRuleOf c text rule
    → None ≡ first_of (rule ∷ full_test c ∷ []) → IsFaultless c.store text
no_rule c text None is none = is
no_rule c text (Some r) is none = absurd (none-some r none)

-- ---- what was tested

pub verdict_good : (c : Core) (command : Command) (t : Transaction) → IsVerdict c command (Do t)
    → IsGood c t
verdict_good c (asked.Import text) t is =
    let found = is.4 in
    subst (IsGood c) (sym is.1) (no_rule c text found.0 found.1 found.2)
verdict_good c (asked.Start process starter key written) t is =
    let newest : IsNewestFor c process written is.1.0 is.1.1 = is.1.2 in
    subst (IsGood c) (sym is.1.3)
    (newest_version c.store process is.1.0 newest.template newest.newest newest.number)
verdict_good c (asked.Turn queue) t is = subst (IsGood c) (sym is.1.2) tt
verdict_good c asked.Drain t is = absurd is.1
verdict_good c (asked.Claim token who) t is = subst (IsGood c) (sym is.1.2) tt
verdict_good c (asked.Release token who) t is = subst (IsGood c) (sym is.1.2) tt
verdict_good c (asked.Transfer token who to) t is = subst (IsGood c) (sym is.1.2) tt
verdict_good c (asked.Take token) t is = subst (IsGood c) (sym is.1.4) tt
verdict_good c (asked.Done token who outcome) t is = subst (IsGood c) (sym is.1.4) tt
verdict_good c (asked.Force token outcome) t is = subst (IsGood c) (sym is.1.4) tt
verdict_good c (asked.Restart token) t is = subst (IsGood c) (sym is.1.2) tt
verdict_good c (asked.Suspend root) t is = subst (IsGood c) (sym is.1) tt
verdict_good c (asked.Resume root) t is = subst (IsGood c) (sym is.1) tt
verdict_good c (asked.Terminate root) t is = subst (IsGood c) (sym is.1) tt
verdict_good c (asked.Delete root) t is = subst (IsGood c) (sym is.1) tt
verdict_good c (asked.Clock minutes) t is = subst (IsGood c) (sym is.1) tt
verdict_good c asked.Checkpoint t is = absurd is.1
verdict_good c (asked.Ask query) t is = absurd is.1

pub admitted_good : (c : Core) (number : ℕ) (t : Transaction) → IsAdmitted c number t → IsGood c t
admitted_good c number (made.Import text) is = is.due
admitted_good c number (made.Start root process version starter key settings) is =
    newest_version c.store process version is.due.template is.due.newest is.due.number
admitted_good c number (made.Turn queue message) is = tt
admitted_good c number (made.Claim item who) is = tt
admitted_good c number (made.Release item who) is = tt
admitted_good c number (made.Transfer item who to) is = tt
admitted_good c number (made.Take item take) is = tt
admitted_good c number (made.Done item by settings) is = tt
admitted_good c number (made.Force item settings) is = tt
admitted_good c number (made.Restart item) is = tt
admitted_good c number (made.Suspend root) is = tt
admitted_good c number (made.Resume root) is = tt
admitted_good c number (made.Terminate root) is = tt
admitted_good c number (made.Delete root) is = tt
admitted_good c number (made.Clock minutes) is = tt
