-- How one reason for an end gives another.
use Rattle.std.proofs.Common.{◌≡◌, ℕ, Option, List, Err, inl, inr, subst, sym, arith}
use Rattle.flow_io.specs.Told.{StopCause}
use Rattle.flow_io.specs.declared.lines.IoStop.{IoStop}
use Rattle.flow_io.specs.declared.lines.IoStop.TheVariants as stop
use Rattle.txn_log.specs.Causes.{IsCause}
use Rattle.txn_log.specs.declared.stops.LogStop.{LogStop}
use Rattle.txn_log.specs.declared.stops.LogStop.TheVariants as log
use Rattle.flow_session.specs.Stopping.{IsStopCause, IsOpenCause}
use Rattle.flow_session.specs.declared.serving.Stop.{Stop}
use Rattle.flow_session.specs.declared.serving.Stop.TheVariants as session
use Rattle.flow_words.specs.declared.status.Status.{Status}
use Rattle.flow_words.specs.declared.status.Status.TheVariants.{Done, Usage, Store, StoreFault, ReadFault, WriteFault, NoMemory, ScriptTooLong, Refused}
use Rattle.flow_words.specs.Printed.{Prints}
use Rattle.flow_words.specs.Endings.{PrintCause, ServeCause, RunCause, EndCause, WordCause, status_of, status_of_stop}

-- a reader that stops ends the run
pub run_stops : (read read' put put' store store' : ℕ) (s : IoStop) → StopCause read read' s → RunCause read read' put put' store store' (status_of s)
run_stops read read' put put' store store' stop.ReadFault h = h
run_stops read read' put put' store store' stop.ScriptTooLong h = tt
run_stops read read' put put' store store' stop.NoMemory h = tt

-- a reply that ends the serving of an input
pub serve_prints : (put put' store store' : ℕ) (s : Status) → PrintCause put put' s → ServeCause put put' store store' s
serve_prints put put' store store' Done h = tt
serve_prints put put' store store' Usage h = absurd h
serve_prints put put' store store' Store h = absurd h
serve_prints put put' store store' StoreFault h = absurd h
serve_prints put put' store store' ReadFault h = absurd h
serve_prints put put' store store' WriteFault h = h
serve_prints put put' store store' NoMemory h = tt
serve_prints put put' store store' ScriptTooLong h = absurd h
serve_prints put put' store store' Refused h = tt

-- an input whose serving ends a run
pub run_serves : (read read' put put' store store' : ℕ) (s : Status) → ServeCause put put' store store' s → RunCause read read' put put' store store' s
run_serves read read' put put' store store' Done h = tt
run_serves read read' put put' store store' Usage h = absurd h
run_serves read read' put put' store store' Store h = absurd h
run_serves read read' put put' store store' StoreFault h = h
run_serves read read' put put' store store' ReadFault h = absurd h
run_serves read read' put put' store store' WriteFault h = h
run_serves read read' put put' store store' NoMemory h = tt
run_serves read read' put put' store store' ScriptTooLong h = tt
run_serves read read' put put' store store' Refused h = tt

-- a reply that ends a run
pub run_prints : (read read' put put' store store' : ℕ) (s : Status) → PrintCause put put' s → RunCause read read' put put' store store' s
run_prints read read' put put' store store' s h = run_serves read read' put put' store store' s (serve_prints put put' store store' s h)

-- a run over no store that ends a word
pub ends_run : (read read' put put' : ℕ) (s : Status) → RunCause read read' put put' 0 0 s → EndCause read read' put put' s
ends_run read read' put put' Done h = tt
ends_run read read' put put' Usage h = tt
ends_run read read' put put' Store h = absurd h
ends_run read read' put put' StoreFault h = absurd (omega (arith, h))
ends_run read read' put put' ReadFault h = h
ends_run read read' put put' WriteFault h = h
ends_run read read' put put' NoMemory h = tt
ends_run read read' put put' ScriptTooLong h = tt
ends_run read read' put put' Refused h = tt

-- a reply that ends it
pub ends_print : (read read' put put' : ℕ) (s : Status) → PrintCause put put' s → EndCause read read' put put' s
ends_print read read' put put' s h = ends_run read read' put put' s (run_prints read read' put put' 0 0 s h)

-- a reader that stops ends a word that needs no store
pub ends_stops : (read read' put put' : ℕ) (s : IoStop) → StopCause read read' s → EndCause read read' put put' (status_of s)
ends_stops read read' put put' stop.ReadFault h = h
ends_stops read read' put put' stop.ScriptTooLong h = tt
ends_stops read read' put put' stop.NoMemory h = tt

-- words that are none end so
pub ends_usage : (read read' put put' store store' : ℕ) (text : List ℕ) (held held' : Option (List ℕ)) (s : Status) → Prints text Usage held held' s → WordCause read read' put put' store store' s → EndCause read read' put put' s
ends_usage read read' put put' store store' text held held' s (inl printed) h = subst (EndCause read read' put put') (sym printed.0) tt
ends_usage read read' put put' store store' text held held' s (inr part) h =
    subst (EndCause read read' put put') (sym part.0) (let rose : WordCause read read' put put' store store' WriteFault = subst (WordCause read read' put put' store store') part.0 h in rose)

-- a run that ends a word over a store
pub word_runs : (read read' put put' store store' : ℕ) (s : Status) → RunCause read read' put put' store store' s → WordCause read read' put put' store store' s
word_runs read read' put put' store store' Done h = tt
word_runs read read' put put' store store' Usage h = tt
word_runs read read' put put' store store' Store h = tt
word_runs read read' put put' store store' StoreFault h = h
word_runs read read' put put' store store' ReadFault h = h
word_runs read read' put put' store store' WriteFault h = h
word_runs read read' put put' store store' NoMemory h = tt
word_runs read read' put put' store store' ScriptTooLong h = tt
word_runs read read' put put' store store' Refused h = tt

-- a reply that ends a word over a store
pub word_prints : (read read' put put' store store' : ℕ) (s : Status) → PrintCause put put' s → WordCause read read' put put' store store' s
word_prints read read' put put' store store' s h = word_runs read read' put put' store store' s (run_prints read read' put put' store store' s h)

-- a reader that stops ends a word over a store
pub word_stops : (read read' put put' store store' : ℕ) (s : IoStop) → StopCause read read' s → WordCause read read' put put' store store' (status_of s)
word_stops read read' put put' store store' s h = word_runs read read' put put' store store' (status_of s) (run_stops read read' put put' store store' s h)

-- a session that stops
pub stop_serves : (put store store' : ℕ) (s : Stop) → IsStopCause store store' s → ServeCause put put store store' (status_of_stop s)
stop_serves put store store' session.StoreFault h = h
stop_serves put store store' session.NoMemory h = tt

-- why a store isn't made
pub open_cause : (T : Type 0) (before now : ℕ) (s : LogStop) → IsCause {T = T} before now (Err s) → IsOpenCause before now s
open_cause T before now log.Unmade h = h
open_cause T before now log.Made h = h
open_cause T before now (log.Foreign slot) h = h
open_cause T before now (log.Damaged slot place) h = h
open_cause T before now log.StoreFault h = h.1
open_cause T before now log.NoMemory h = h

-- want of memory
pub word_memory : (read read' put put' store store' : ℕ) (s : Status) → s ≡ NoMemory → WordCause read read' put put' store store' s
word_memory read read' put put' store store' s is = subst (WordCause read read' put put' store store') (sym is) tt
