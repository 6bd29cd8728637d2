-- How a run may end: a fault is answered only where the outside counted one.
use Rattle.std.specs.Prelude.{ℕ, Option, None, Some}
use Rattle.flow_io.specs.Causes.{Rose}
use Rattle.flow_io.specs.declared.lines.IoStop.{IoStop}
use Rattle.flow_io.specs.declared.lines.IoStop.TheVariants as stop
use Rattle.flow_session.specs.declared.serving.Stop.{Stop}
use Rattle.flow_session.specs.declared.serving.Stop.TheVariants as session
use Rattle.flow_words.specs.Outside.{Channels, Files}
use Rattle.flow_words.specs.declared.status.Status.{Status}
use Rattle.flow_words.specs.declared.status.Status.TheVariants.{Done, Usage, Store, StoreFault, ReadFault, WriteFault}
use Rattle.flow_words.specs.declared.status.Status.TheVariants.{NoMemory, ScriptTooLong, Refused}
use Rattle.flow_words.specs.declared.word.Word.{Word}
use Rattle.flow_words.specs.declared.word.Word.TheVariants.{Check, Fate, Try, Load, New, Run, Follow, Explain, Verify}
use Rattle.flow_words.specs.declared.word.Word.TheVariants.{Overdue, Ship}

-- the exit status of the program
abbrev pub status_number : Status → ℕ
status_number Done = 0
status_number Usage = 1
status_number Store = 2
status_number StoreFault = 3
status_number ReadFault = 4
status_number WriteFault = 5
status_number NoMemory = 6
status_number ScriptTooLong = 7
status_number Refused = 8

-- how a reader of lines that stops ends a run
abbrev pub status_of : IoStop → Status
status_of stop.ReadFault = ReadFault
status_of stop.ScriptTooLong = ScriptTooLong
status_of stop.NoMemory = NoMemory

-- how a session that stops ends a run
abbrev pub status_of_stop : Stop → Status
status_of_stop session.StoreFault = StoreFault
status_of_stop session.NoMemory = NoMemory

-- how a reply ends a run: by a sink whose count rose, or for another reason than the words, the source or the store
abbrev pub PrintCause : ℕ → ℕ → Status → Type 0
PrintCause before now Done = Unit {0}
PrintCause before now Usage = ⊥
PrintCause before now Store = ⊥
PrintCause before now StoreFault = ⊥
PrintCause before now ReadFault = ⊥
PrintCause before now WriteFault = Rose before now
PrintCause before now NoMemory = Unit {0}
PrintCause before now ScriptTooLong = ⊥
PrintCause before now Refused = Unit {0}

-- how serving an input ends a run: by a sink or a store whose count rose, or without memory
abbrev pub ServeCause : ℕ → ℕ → ℕ → ℕ → Status → Type 0
ServeCause put put' store store' Done = Unit {0}
ServeCause put put' store store' Usage = ⊥
ServeCause put put' store store' Store = ⊥
ServeCause put put' store store' StoreFault = Rose store store'
ServeCause put put' store store' ReadFault = ⊥
ServeCause put put' store store' WriteFault = Rose put put'
ServeCause put put' store store' NoMemory = Unit {0}
ServeCause put put' store store' ScriptTooLong = ⊥
ServeCause put put' store store' Refused = Unit {0}

-- how a script ends before its end: by a fault of the source, the sink or the store, without memory, or because it is
-- too long
abbrev pub StopsScript : Status → Type 0
StopsScript Done = ⊥
StopsScript Usage = ⊥
StopsScript Store = ⊥
StopsScript StoreFault = Unit {0}
StopsScript ReadFault = Unit {0}
StopsScript WriteFault = Unit {0}
StopsScript NoMemory = Unit {0}
StopsScript ScriptTooLong = Unit {0}
StopsScript Refused = ⊥

-- how a run ends: by a source, a sink or a store whose count rose, or for another reason than the words
abbrev pub RunCause : ℕ → ℕ → ℕ → ℕ → ℕ → ℕ → Status → Type 0
RunCause read read' put put' store store' Done = Unit {0}
RunCause read read' put put' store store' Usage = ⊥
RunCause read read' put put' store store' Store = ⊥
RunCause read read' put put' store store' StoreFault = Rose store store'
RunCause read read' put put' store store' ReadFault = Rose read read'
RunCause read read' put put' store store' WriteFault = Rose put put'
RunCause read read' put put' store store' NoMemory = Unit {0}
RunCause read read' put put' store store' ScriptTooLong = Unit {0}
RunCause read read' put put' store store' Refused = Unit {0}

-- how a word ends that needs no store: by a source or a sink whose count rose, or for another reason
abbrev pub EndCause : ℕ → ℕ → ℕ → ℕ → Status → Type 0
EndCause read read' put put' Done = Unit {0}
EndCause read read' put put' Usage = Unit {0}
EndCause read read' put put' Store = ⊥
EndCause read read' put put' StoreFault = ⊥
EndCause read read' put put' ReadFault = Rose read read'
EndCause read read' put put' WriteFault = Rose put put'
EndCause read read' put put' NoMemory = Unit {0}
EndCause read read' put put' ScriptTooLong = Unit {0}
EndCause read read' put put' Refused = Unit {0}

-- how any word ends: a fault of the source, the sink or the store is answered only where its count rose
abbrev pub WordCause : ℕ → ℕ → ℕ → ℕ → ℕ → ℕ → Status → Type 0
WordCause read read' put put' store store' Done = Unit {0}
WordCause read read' put put' store store' Usage = Unit {0}
WordCause read read' put put' store store' Store = Unit {0}
WordCause read read' put put' store store' StoreFault = Rose store store'
WordCause read read' put put' store store' ReadFault = Rose read read'
WordCause read read' put put' store store' WriteFault = Rose put put'
WordCause read read' put put' store store' NoMemory = Unit {0}
WordCause read read' put put' store store' ScriptTooLong = Unit {0}
WordCause read read' put put' store store' Refused = Unit {0}

-- the same by the channels and the disk of a run
abbrev pub StoreCause : {D : Type 0} → Channels → Files D → Status → Type 0
StoreCause c f ended =
    WordCause c.reads c.reads' c.puts c.puts' (f.disk.faults f.old) (f.disk.faults f.new) ended

-- Why a run ends so, by the word that is said. Words that need no store never end by one.
abbrev pub IsCaused : {D : Type 0} → Option Word → Channels → Files D → Status → Type 0
IsCaused None c f ended = EndCause c.reads c.reads' c.puts c.puts' ended
IsCaused (Some Check) c f ended = EndCause c.reads c.reads' c.puts c.puts' ended
IsCaused (Some Fate) c f ended = EndCause c.reads c.reads' c.puts c.puts' ended
IsCaused (Some (Try settings)) c f ended = EndCause c.reads c.reads' c.puts c.puts' ended
IsCaused (Some (Load seed roots)) c f ended = EndCause c.reads c.reads' c.puts c.puts' ended
IsCaused (Some (New settings)) c f ended = StoreCause c f ended
IsCaused (Some Run) c f ended = StoreCause c f ended
IsCaused (Some Follow) c f ended = StoreCause c f ended
IsCaused (Some Explain) c f ended = StoreCause c f ended
IsCaused (Some Verify) c f ended = StoreCause c f ended
IsCaused (Some Overdue) c f ended = StoreCause c f ended
IsCaused (Some (Ship number)) c f ended = StoreCause c f ended
