-- What `ship` prints.
use Rattle.std.specs.Prelude.{◌⊎◌, ℕ, List, Option, Result, Ok, Err, MatchResult}
use Rattle.std.specs.Io.KnownBytes.{Keeps}
use Rattle.flow_disk.specs.Images.{Image}
use Rattle.flow_session.specs.Refusing.{IsUnopened as IsRefusedStore}
use Rattle.standby.specs.Shipped.{ShipsOpened, IsUnopened}
use Rattle.standby.specs.Texts.{ship_refusal_line}
use Rattle.standby.specs.declared.stops.ShipStop.{ShipStop}
use Rattle.standby.specs.declared.stops.ShipStop.TheVariants as ship
use Rattle.flow_words.specs.Following.{EndsSilent, PrintsLine}
use Rattle.flow_words.specs.Openings.{RefusesStore}
use Rattle.flow_words.specs.Outside.{Files}
use Rattle.flow_words.specs.declared.status.Status.{Status}
use Rattle.flow_words.specs.declared.status.Status.TheVariants.{Done, WriteFault, NoMemory, Refused}

-- what is printed behind what was shipped: why the store wasn't opened or the number is refused, else nothing
abbrev pub EndsShipping : Result ℕ ShipStop → Option (List ℕ) → Option (List ℕ) → Status → Type 0
EndsShipping (Ok count) held held' ended = EndsSilent Done held held' ended
EndsShipping (Err (ship.Store stop)) held held' ended = RefusesStore stop held held' ended
EndsShipping (Err (ship.Gone kept)) held held' ended = PrintsLine
    (ship_refusal_line (ship.Gone kept)) Refused held held' ended
EndsShipping (Err (ship.Ahead number)) held held' ended = PrintsLine
    (ship_refusal_line (ship.Ahead number)) Refused held held' ended
EndsShipping (Err ship.WriteFault) held held' ended = EndsSilent WriteFault held held' ended
EndsShipping (Err ship.NoMemory) held held' ended = EndsSilent NoMemory held held' ended

-- the result of shipping from a number: the store isn't opened and nothing is put, or it is and its stream is put, as
-- far as shipping comes
abbrev pub ShipsTo : Type 0 → Image → ℕ → Option (List ℕ) → Option (List ℕ) → Result ℕ ShipStop → Type 0
ShipsTo tells seen from held held' result =
    (MatchResult result (λ _. ⊥) (IsUnopened (λ stop. tells → IsRefusedStore seen stop)) × Keeps held held')
    ⊎ ShipsOpened tells seen from held held' result

-- `ship`: a store is shipped from a number, and what its result asks for is printed behind it
pub record PrintsShipped {D : Type 0} (from : ℕ) (f : Files D) (held held' : Option (List ℕ)) (ended : Status)
    : Type 0 where
  pub shipped : Option (List ℕ)
  pub result : Result ℕ ShipStop
  pub comes_to : ShipsTo f.disk.tells (f.disk.seen f.old) from held shipped result
  pub printed : EndsShipping result shipped held' ended
