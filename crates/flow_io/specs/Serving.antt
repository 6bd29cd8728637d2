-- What a caller of `next` builds on: the inputs that were served, then those still unserved, are the inputs of all the
-- bytes.
use Rattle.std.specs.Prelude.{◌≡◌, ℕ, List, [], ◌∷◌, ◌++◌, Result, Ok, Err, Option, Some, None}
use Rattle.flow_io.specs.Inputs.{Input, Served, PassedOver, AtEnd, inputs}
use Rattle.flow_io.specs.Reading.{Reading}
use Rattle.flow_io.specs.declared.lines.Line.{Line}
use Rattle.flow_io.specs.declared.lines.Line.TheVariants.{Text, TooLong, Ended}
use Rattle.flow_io.specs.declared.lines.IoStop.{IoStop}
use Rattle.flow_io.specs.declared.lines.IoStop.TheVariants.{ReadFault, ScriptTooLong, NoMemory}

-- what a reader has still to serve of its bytes and of those that its source has left
abbrev pub unserved : Reading → List ℕ → List Input
unserved reading left = inputs (reading.held ++ left) reading.room

-- what a call hands out of the inputs that stand before it, and the inputs that stand after it
abbrev pub Serves : List Input → List Input → Result Line IoStop → List ℕ → Type 0
Serves before after (Ok Text) text = before ≡ Served text ∷ after
Serves before after (Ok TooLong) text = before ≡ PassedOver ∷ after
Serves before after (Ok Ended) text = before ≡ AtEnd ∷ []
Serves before after (Err ScriptTooLong) text = before ≡ []
Serves before after (Err ReadFault) text = Unit {0}
Serves before after (Err NoMemory) text = Unit {0}

-- over a source that tells what it has left, a call serves the first of the unserved inputs
abbrev pub ServesInputs : Reading → Option (List ℕ) → Reading → Option (List ℕ) → Result Line IoStop → Type 0
ServesInputs old (Some left) new (Some left') result =
    Serves (unserved old left) (unserved new left') result new.text
ServesInputs old None new left' result = Unit {0}
ServesInputs old (Some left) new None result = ⊥
