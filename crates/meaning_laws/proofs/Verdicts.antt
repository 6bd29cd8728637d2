-- A transaction that a command is judged to has a step: what it adds to the library is there.
use Rattle.std.proofs.Common.{◌≡◌, ℕ, Option, Some, None, List, [], ◌∷◌, refl, sym, subst}
use Rattle.std.proofs.lemmas.Option.{none-some}
use Rattle.flow_core.specs.declared.judging.Verdict.TheVariants.{Do}
use Rattle.flow_core.specs.declared.refusals.Refusal.{Refusal}
use Rattle.flow_model.specs.declared.commands.Command.{Command}
use Rattle.flow_model.specs.declared.commands.Command.TheVariants as asked
use Rattle.flow_model.specs.declared.transactions.Transaction.{Transaction}
use Rattle.machine.specs.Imports.{Added, nothing_added, Adds}
use Rattle.machine.specs.States.{State}
use Rattle.machine.specs.Steps.{Steps, after}
use Rattle.machine.specs.Verdicts.{IsRuleOf, IsVerdict, first_of, full_test}
use Rattle.template_check.specs.Judged.{IsFaultless}
use Rattle.meaning_laws.proofs.Texts.{text_meant}

-- a text whose tests don't refuse breaks no rule
no_rule : (s : State) (text : List ℕ) (rule : Option Refusal) → IsRuleOf s text rule
    → None ≡ first_of (rule ∷ full_test s ∷ []) → IsFaultless s.library text
no_rule s text None is none = is
no_rule s text (Some refusal) is none = absurd (none-some refusal none)

module _ (s : State) where
  -- what a transaction adds is there
  abbrev IsAdding : Transaction → Type 0
  IsAdding t = (added : Added) × Adds s.library t added

  -- what is no Import adds nothing
  nothing : (u t : Transaction) → t ≡ u → Adds s.library u nothing_added → IsAdding t
  nothing u t is adds = subst IsAdding (sym is) (nothing_added, adds)

  -- the transaction of a command does so
  verdict_adds : (command : Command) (t : Transaction) → IsVerdict s command (Do t) → IsAdding t
  verdict_adds (asked.Import text) t is =
      let rule = is.1 in
      subst IsAdding (sym is.2) (text_meant s.library text (no_rule s text rule.0 rule.1 rule.2))
  verdict_adds (asked.Start process starter key written) t is = nothing _ t is.2.3 refl
  verdict_adds (asked.Turn queue) t is = nothing _ t is.2.2 refl
  verdict_adds asked.Drain t is = absurd is.2
  verdict_adds (asked.Claim token who) t is = nothing _ t is.2.2 refl
  verdict_adds (asked.Release token who) t is = nothing _ t is.2.2 refl
  verdict_adds (asked.Transfer token who to) t is = nothing _ t is.2.2 refl
  verdict_adds (asked.Take token) t is = nothing _ t is.2.4 refl
  verdict_adds (asked.Done token who outcome) t is = nothing _ t is.2.4 refl
  verdict_adds (asked.Force token outcome) t is = nothing _ t is.2.4 refl
  verdict_adds (asked.Restart token) t is = nothing _ t is.2.2 refl
  verdict_adds (asked.Suspend root) t is = nothing _ t is.2 refl
  verdict_adds (asked.Resume root) t is = nothing _ t is.2 refl
  verdict_adds (asked.Terminate root) t is = nothing _ t is.2 refl
  verdict_adds (asked.Delete root) t is = nothing _ t is.2 refl
  verdict_adds (asked.Clock minutes) t is = nothing _ t is.2 refl
  verdict_adds asked.Checkpoint t is = absurd is.2
  verdict_adds (asked.Ask query) t is = absurd is.2

  -- the transaction of a command has a step
  pub verdict_steps : (command : Command) (t : Transaction) → IsVerdict s command (Do t) → (s' : State) × Steps s t s'
  verdict_steps command t is =
      let adds = verdict_adds command t is in
      (after adds.0 t s, record { added = adds.0; adds = adds.1; next = refl })
