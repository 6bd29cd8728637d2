-- The premises of the laws can be met: a CLOCK in a blank state.
use Rattle.std.proofs.Common.{◌≡◌, ℕ, zero, suc, [], ◌∷◌, Some, None, refl, arith}
use Rattle.std.specs.Prelude.{slice_get, slice_index_or, ◌-◌}
use Rattle.std.proofs.lemmas.Option.{none-some}
use Rattle.flow_core.specs.declared.judging.Verdict.TheVariants.{Do}
use Rattle.flow_model.specs.declared.commands.Command.{Command}
use Rattle.flow_model.specs.declared.commands.Command.TheVariants as asked
use Rattle.flow_model.specs.declared.instances.Message.{Message}
use Rattle.flow_model.specs.declared.transactions.Transaction.TheVariants as made
use Rattle.machine.specs.Imports.{nothing_added}
use Rattle.machine.specs.States.{State, blank}
use Rattle.machine.specs.Steps.{after}
use Rattle.machine.specs.Verdicts.{IsVerdict}
use Rattle.reopening_laws.specs.Making.{MadeByCommands}
use Rattle.reopening_laws.specs.Ranges.{IsWorded, StandsInRange}

-- two queues, and at most ten transactions
abbrev two : State
two = blank 2 10

abbrev five : Command
five = asked.Clock (record { minus = None; size = 5; place = 1 })

judged : IsVerdict two five (Do (made.Clock 5))
judged = (refl, refl, refl)

-- a history of two CLOCKs, the second of the same minute
clocks : MadeByCommands two (made.Clock 5 ∷ made.Clock 5 ∷ [])
    (after nothing_added (made.Clock 5) (after nothing_added (made.Clock 5) two))
clocks = (
  five,
  after nothing_added (made.Clock 5) two,
  judged,
  record { added = nothing_added; adds = refl; next = refl },
  (
    five,
    after nothing_added (made.Clock 5) (after nothing_added (made.Clock 5) two),
    (refl, refl, refl),
    record { added = nothing_added; adds = refl; next = refl },
    refl,
  ),
)

-- a blank state is in range, and so are the words of the command
no_front : (place : ℕ) (m : Message) → slice_get (slice_index_or two.queues place []) 0 ≡ Some m → ⊥
no_front zero m is = none-some m is
no_front (suc zero) m is = none-some m is
no_front (suc (suc n)) m is = none-some m is

stands : StandsInRange two
stands = record {
  limit = omega arith;
  queues = omega arith;
  fronts = λ queue m is. absurd (no_front (queue - 1) m is);
  items = λ path e is. absurd (none-some e is);
  newest = λ process t is. absurd (none-some t is);
}

worded : IsWorded five
worded = tt
