-- How a call stops that leaves the count of faults of its journal, or hands on why another one stops.
use Rattle.std.proofs.Common.{◌≡◌, ℕ, Result, Ok, Err, refl, sym, subst}
use Rattle.std.specs.Prelude.{IfErr, MatchResult}
use Rattle.txn_log.specs.declared.stops.LogStop.{LogStop}
use Rattle.flow_session.specs.Stopping.{IsStopCause, IsOpenCause}
use Rattle.flow_session.specs.declared.serving.Stop.{Stop}
use Rattle.flow_session.specs.declared.serving.Stop.TheVariants.{NoMemory}

-- a stop for want of memory
pub silent_stop : (count : ℕ) (stop : Stop) → stop ≡ NoMemory → IsStopCause count count stop
silent_stop count stop none = subst (IsStopCause count count) (sym none) refl

-- a call that stops for want of memory alone, and touches no journal
pub silent : {T : Type 0} (count : ℕ) (result : Result T Stop) → IfErr result (λ stop. stop ≡ NoMemory) → MatchResult result (λ _. count ≡ count) (IsStopCause count count)
silent count (Ok x) none = refl
silent count (Err stop) none = silent_stop count stop none

-- so behind calls that left the count
pub silent_after : {T : Type 0} (before count : ℕ) (result : Result T Stop) → count ≡ before → IfErr result (λ stop. stop ≡ NoMemory) → MatchResult result (λ _. count ≡ before) (IsStopCause before count)
silent_after before count result same none = subst (λ (n : ℕ). MatchResult result (λ _. count ≡ n) (IsStopCause n count)) same (silent count result none)

-- a stop by this cause, behind calls that left the count
pub cause_after : (before count now : ℕ) (stop : Stop) → count ≡ before → IsStopCause count now stop → IsStopCause before now stop
cause_after before count now stop same cause = subst (λ (n : ℕ). IsStopCause n now stop) same cause

-- ---- opening a store

-- a stop for another cause than a fault, behind calls that left the count
pub open_after : (before count : ℕ) (stop : LogStop) → count ≡ before → ((n : ℕ) → IsOpenCause n n stop) → IsOpenCause before count stop
open_after before count stop same silent = subst (λ (n : ℕ). IsOpenCause n count stop) same (silent count)
