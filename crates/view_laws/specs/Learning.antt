-- What becomes known by one event, of the scope at hand and of a scope further in.
use Rattle.std.specs.Prelude.{ℕ, ◌==◌, Bool, true, ◌&&◌, if◌then◌else◌, Option, Some, List, [], ◌∷◌}
use Rattle.flow_model.specs.declared.graphs.Container.{Container}
use Rattle.flow_model.specs.declared.instances.Part.{Part}
use Rattle.flow_model.specs.Rows.{same_part}
use Rattle.flow_model.specs.Scopes.{Known, at}

-- ---- the scope at hand

abbrev pub begun_here : (List Part → Bool) → List Part → Bool
begun_here f [] = true
begun_here f (q ∷ p) = f (q ∷ p)

-- its BEGIN is taken
abbrev pub with_begin : Known → Known
with_begin k = record k { begun = begun_here k.begun }

-- what counts of the values of connectors
abbrev pub Sent : Type 0
Sent = List Part → ℕ → ℕ → Option Bool → Option Bool

abbrev pub sent_here : ℕ → ℕ → Bool → Sent → Sent
sent_here a b v f [] c d o = if (a == c) && (b == d) then Some v else f [] c d o
sent_here a b v f (q ∷ p) c d o = f (q ∷ p) c d o

-- the SIGNAL of the connector between two of its activities is taken
abbrev pub with_signal : ℕ → ℕ → Bool → Known → Known
with_signal a b v k = record k { sent = sent_here a b v k.sent }

abbrev pub closed_here : Part → (List Part → Bool) → List Part → Bool
closed_here q f [] = f []
closed_here q f (r ∷ []) = if same_part q r then true else f (r ∷ [])
closed_here q f (r ∷ (s ∷ p)) = f (r ∷ (s ∷ p))

-- the END of an attempt of a block or process activity is taken
abbrev pub with_end : Part → Known → Known
with_end q k = record k { closed = closed_here q k.closed }

abbrev pub given_here : Part → Container → (List Part → Option Container) → List Part → Option Container
given_here q out f [] = f []
given_here q out f (r ∷ []) = if same_part q r then Some out else f (r ∷ [])
given_here q out f (r ∷ (s ∷ p)) = f (r ∷ (s ∷ p))

-- the completion of an item is accepted
abbrev pub with_output : Part → Container → Known → Known
with_output q out k = record k { given = given_here q out k.given }

-- ---- a scope further in

-- below a part another function, elsewhere the same
abbrev pub instead : {X : Type 0} → Part → (List Part → X) → (List Part → X) → List Part → X
instead q f f' [] = f []
instead q f f' (r ∷ p) = if same_part q r then f' p else f (r ∷ p)

-- something else is known below a part
abbrev pub with_below : Part → Known → Known → Known
with_below q j k = record {
  most = k.most;
  begun = instead q k.begun j.begun;
  closed = instead q k.closed j.closed;
  sent = instead q k.sent j.sent;
  given = instead q k.given j.given;
}

-- what is known of the scope at the end of a path changes so
abbrev pub learnt : (Known → Known) → List Part → Known → Known
learnt change [] k = change k
learnt change (q ∷ p) k = with_below q (learnt change p (at q k)) k

-- more attempts are looked at
abbrev pub with_most : ℕ → Known → Known
with_most most k = record k { most = most }
