-- When a source has too many bytes.
use Rattle.std.specs.Prelude.{ℕ, ◌<◌, ◌≤◌, length, Option, IfSome, List}
use Rattle.flow_io.specs.declared.lines.IoStop.{IoStop}
use Rattle.flow_io.specs.declared.lines.IoStop.TheVariants.{ReadFault, ScriptTooLong, NoMemory}

-- a source has at most 268,435,456 bytes, where it tells them
abbrev pub IsWithinLimit : Option (List ℕ) → Type 0
IsWithinLimit left = IfSome left (λ bytes. length bytes ≤ 268435456)

-- it has more
abbrev pub IsBeyondLimit : Option (List ℕ) → Type 0
IsBeyondLimit left = IfSome left (λ bytes. 268435456 < length bytes)

-- a reader stops for too many bytes only where there are more
abbrev pub StopsBeyond : Option (List ℕ) → IoStop → Type 0
StopsBeyond left ScriptTooLong = IsBeyondLimit left
StopsBeyond left ReadFault = Unit {0}
StopsBeyond left NoMemory = Unit {0}
