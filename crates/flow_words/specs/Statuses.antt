-- Which statuses a run may end with.
use Rattle.std.specs.Prelude.{◌≡◌, ◌⊎◌, Option, None, Some, List, [], ◌∷◌}
use Rattle.flow_words.specs.declared.status.Status.{Status}
use Rattle.flow_words.specs.declared.status.Status.TheVariants.{Done, Usage, Store, StoreFault, ReadFault, WriteFault}
use Rattle.flow_words.specs.declared.status.Status.TheVariants.{NoMemory, ScriptTooLong, Refused}
use Rattle.flow_words.specs.declared.word.Word.{Word}
use Rattle.flow_words.specs.declared.word.Word.TheVariants.{Check, Fate, Try, Load, New, Run, Follow, Explain, Verify}
use Rattle.flow_words.specs.declared.word.Word.TheVariants.{Overdue, Ship}

-- a status is one of these
abbrev pub IsOneOf : Status → List Status → Type 0
IsOneOf ended [] = ⊥
IsOneOf ended (status ∷ others) = (ended ≡ status) ⊎ IsOneOf ended others

-- how a script ends
abbrev pub script_ends : List Status
script_ends = Done ∷ ReadFault ∷ WriteFault ∷ NoMemory ∷ ScriptTooLong ∷ []

-- how a word ends over a store that it doesn't read a source for
abbrev pub store_ends : List Status
store_ends = Done ∷ Store ∷ StoreFault ∷ WriteFault ∷ NoMemory ∷ []

-- how each word may end; where none is said, by its refusal
abbrev pub statuses_of : Option Word → List Status
statuses_of None = Usage ∷ WriteFault ∷ []
statuses_of (Some Check) = Refused ∷ script_ends
statuses_of (Some Fate) = Refused ∷ script_ends
statuses_of (Some (Try settings)) = script_ends
statuses_of (Some (Load seed roots)) = Done ∷ WriteFault ∷ NoMemory ∷ []
statuses_of (Some (New settings)) = store_ends
statuses_of (Some Run) = Store ∷ StoreFault ∷ script_ends
statuses_of (Some Follow) = Refused ∷ Store ∷ StoreFault ∷ script_ends
statuses_of (Some Explain) = Usage ∷ Refused ∷ store_ends
statuses_of (Some Verify) = Refused ∷ Store ∷ StoreFault ∷ script_ends
statuses_of (Some Overdue) = store_ends
statuses_of (Some (Ship number)) = Refused ∷ store_ends
