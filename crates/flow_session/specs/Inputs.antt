-- What one input of a session does: to the state, to the text of an IMPORT that isn't ended yet, and what is replied.
use Rattle.std.specs.Prelude.{◌≡◌, ℕ, ◌<◌, ◌≤◌, Bool, true, false, if◌then◌else◌, Option, Some, None, option_map, List}
use Rattle.std.specs.Prelude.{[]}
use Rattle.std.specs.Prelude.{length}
use Rattle.command_lang.specs.Reading.{AreLineTokens}
use Rattle.flow_model.specs.declared.commands.Command.{Command}
use Rattle.flow_model.specs.declared.commands.Command.TheVariants.{Import, Drain, Checkpoint, Ask}
use Rattle.flow_core.specs.Queries.{IsAnswer}
use Rattle.flow_core.specs.declared.state.Core.{Core}
pub use Rattle.machine.specs.Scripts.{Unended, no_lines, is_end, with_line, Given, Line, Long, End, Says, IsWrongAt}
pub use Rattle.machine.specs.Scripts.{long_text, unended_text, word_text}
use Rattle.flow_session.specs.Draining.{IsDrained}
use Rattle.flow_session.specs.Replying.{IsObeyed, checkpoint_text}
use Rattle.flow_session.specs.declared.serving.Gathered.{Gathered}
use Rattle.flow_session.specs.declared.serving.Input.{Input}
use Rattle.flow_session.specs.declared.serving.Input.TheVariants.{Text, TooLong, Ended}
use Rattle.flow_session.specs.declared.serving.Session.{Session}

-- ---- the text of an IMPORT

-- the text so far of an IMPORT that isn't ended yet
abbrev pub unended_in : Gathered → Unended
unended_in g = record { text = g.text.items; has_long = g.has_long }

abbrev pub unended : Session → Option Unended
unended session = option_map unended_in session.gathered

-- ---- what an input does

-- an input as it is given
abbrev pub given : Input → Given
given (Text line) = Line line.now
given TooLong = Long
given Ended = End

-- the state stays as it is, this text is gathered afterwards, and this is replied
pub record Answers (old new : Core) (gathered after : Option Unended) (text reply : List ℕ) : Type 0 where
  pub same : new ≡ old
  pub gathers : after ≡ gathered
  pub replies : reply ≡ text

-- What a command of a line does, and what is replied. An IMPORT begins a text, which stands in the lines behind it.
abbrev pub IsCommanded : Core → Core → Command → Option Unended → List ℕ → Type 0
IsCommanded old new (Import text) after reply = Answers old new (Some no_lines) after [] reply
IsCommanded old new Drain after reply = IsDrained old new reply × (after ≡ None)
IsCommanded old new Checkpoint after reply = Answers old new None after (checkpoint_text (length old.live.items)) reply
IsCommanded old new (Ask query) after reply = (new ≡ old) × (after ≡ None) × IsAnswer old query reply
IsCommanded old new command after reply = IsObeyed old new command reply × (after ≡ None)

-- a line outside an IMPORT: it is too long, or it isn't and is blank, or says a command, or can't be read
pub data ServesLine (line : List ℕ) (old new : Core) (after : Option Unended) (reply : List ℕ) : Type 0 where
  LongLine : 65536 < length line → Answers old new None after long_text reply → ServesLine line old new after reply
  BlankLine : length line ≤ 65536 → AreLineTokens line [] → Answers old new None after [] reply
      → ServesLine line old new after reply
  CommandLine : {command : Command} → length line ≤ 65536 → Says line command
      → IsCommanded old new command after reply → ServesLine line old new after reply
  WrongLine : {place : ℕ} → length line ≤ 65536 → IsWrongAt line place
      → Answers old new None after (word_text place) reply → ServesLine line old new after reply

-- an input outside an IMPORT: a line, or one that was passed over, or the end
abbrev pub ServesOutside : Given → Core → Core → Option Unended → List ℕ → Type 0
ServesOutside (Line line) old new after reply = ServesLine line old new after reply
ServesOutside Long old new after reply = Answers old new None after long_text reply
ServesOutside End old new after reply = Answers old new None after [] reply

-- a text is ended: it is judged as an IMPORT, unless one of its lines was too long
abbrev pub ServesText : Bool → List ℕ → Core → Core → Option Unended → List ℕ → Type 0
ServesText true text old new after reply = Answers old new None after long_text reply
ServesText false text old new after reply = IsObeyed old new (Import text) reply × (after ≡ None)

-- a line inside an IMPORT, which ends its text or is one of it
abbrev pub ServesTextLine : Bool → Unended → List ℕ → Core → Core → Option Unended → List ℕ → Type 0
ServesTextLine true u line old new after reply = ServesText u.has_long u.text old new after reply
ServesTextLine false u line old new after reply =
    Answers old new (Some (record u { text = with_line u.text line })) after [] reply

-- an input inside an IMPORT: a line, or one that was passed over, or the end
abbrev pub ServesInside : Unended → Given → Core → Core → Option Unended → List ℕ → Type 0
ServesInside u (Line line) old new after reply = ServesTextLine (is_end line) u line old new after reply
ServesInside u Long old new after reply = Answers old new (Some (record u { has_long = true })) after [] reply
ServesInside u End old new after reply =
    Answers old new None after (if u.has_long then long_text else unended_text) reply

abbrev pub ServesInput : Option Unended → Given → Core → Core → Option Unended → List ℕ → Type 0
ServesInput None input old new after reply = ServesOutside input old new after reply
ServesInput (Some u) input old new after reply = ServesInside u input old new after reply

-- what an input does to a session, and what is replied
abbrev pub IsServed : Session → Session → Given → List ℕ → Type 0
IsServed old new input reply = ServesInput (unended old) input old.core new.core (unended new) reply

-- an input that is the command CHECKPOINT, in a line that isn't too long
abbrev pub SaysCheckpoint : Given → Type 0
SaysCheckpoint (Line line) = (length line ≤ 65536) × Says line Checkpoint
SaysCheckpoint Long = ⊥
SaysCheckpoint End = ⊥

-- an input that asks for a CHECKPOINT: no IMPORT is open, of whose text the line would be a part
abbrev pub AsksCheckpoint : Session → Given → Type 0
AsksCheckpoint session input = (unended session ≡ None) × SaysCheckpoint input
