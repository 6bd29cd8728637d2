-- What the outline of a slot in the code stands for.
use Rattle.std.specs.Prelude.{[], length}
use Rattle.txn_log.specs.Stored.{SlotState, Unmade as NoStore, Foreign as OtherStore, Damaged as DamagedAt, Good as GoodWith}
use Rattle.txn_log.specs.declared.outline.Outline.{Outline}
use Rattle.txn_log.specs.declared.outline.Outline.TheVariants.{Unmade, Foreign, Damaged, Good}

-- what a slot stands for, with its payloads counted alone
abbrev pub outline_of : SlotState → Outline
outline_of NoStore = Unmade
outline_of OtherStore = Foreign
outline_of (DamagedAt place) = Damaged place
outline_of (GoodWith header payloads end) = Good (record { header = header; records = length payloads; end = end })

-- a slot of this outline that has no payload
abbrev pub bare_state : Outline → SlotState
bare_state Unmade = NoStore
bare_state Foreign = OtherStore
bare_state (Damaged place) = DamagedAt place
bare_state (Good frame) = GoodWith frame.header [] frame.end
