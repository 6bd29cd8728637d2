-- A frame that bytes begin with, or that a reader holds whole.
use Rattle.std.proofs.Common.{◌≡◌, ◌∙◌, ℕ, ◌+◌, ◌-◌, ◌^◌, ◌<◌, ◌≤◌, min, List, ◌∷◌, ◌++◌, length, get_or, take, drop, Option, ap, sym, subst, arith, append_assoc, length-append, take-append-drop, drop-cons, drop-drop, refl}
use Rattle.std.specs.Int.{w32, to_be_bytes}
use Rattle.std.specs.Io.KnownBytes.{prepend_known}
use Rattle.std.proofs.KnownBytes.{prepend_known-read, Keeps-refl}
use Rattle.std.specs.List.{slice_range}
use Rattle.std.proofs.lemmas.List.{length-take, length-take-le, length-drop, take_at, take-take}
use Rattle.standby.specs.Frames.{BeginsWithFrame, HoldsFrame}
use Rattle.standby.specs.Readers.{Reader, Gives, ahead}
use Rattle.standby.specs.Stages.{TakesPayload, Passes, stage}
use Rattle.standby.specs.Streams.{frame_bytes}
use Rattle.flow_core.specs.declared.state.Core.{Core}

-- a byte 1, the length and the payload are a frame
pub framed_is : (bytes four payload : List ℕ) (len : ℕ) → 5 ≤ length bytes → get_or bytes 0 0 ≡ 1 → four ≡ take 4 (drop 1 bytes) → to_be_bytes w32 len ≡ four → payload ≡ take len (drop 5 bytes) → 0 < len → len ≤ 2097152 → len ≤ length bytes - 5 → BeginsWithFrame bytes payload
framed_is bytes four payload len long first is_four spells is some most fits =
    let size : length payload ≡ len = ap length is ∙ length-take-le len (drop 5 bytes) (omega (arith, fits, length-drop 5 bytes)) in
    let same : min (length payload) (2 ^ 32 - 1) ≡ len = omega (arith, size, most) in
    let behind : payload ++ drop len (drop 5 bytes) ≡ drop 5 bytes = ap (λ (l : List ℕ). l ++ drop len (drop 5 bytes)) is ∙ take-append-drop len (drop 5 bytes) in
    let length_on : four ++ drop 5 bytes ≡ drop 1 bytes =
    ap (λ (l : List ℕ). l ++ drop 5 bytes) is_four ∙ (ap (λ (l : List ℕ). take 4 (drop 1 bytes) ++ l) (sym (drop-drop 4 1 bytes)) ∙ take-append-drop 4 (drop 1 bytes)) in
    let all : 1 ∷ drop 1 bytes ≡ bytes = sym (drop-cons bytes 0 0 (omega (arith, long)) ∙ ap (λ (x : ℕ). x ∷ drop 1 bytes) first) in
    record {
      allowed = (omega (arith, size, some), omega (arith, size, most));
      rest = drop len (drop 5 bytes);
      whole = ap (λ (l : List ℕ). (1 ∷ l ++ payload) ++ drop len (drop 5 bytes)) (ap (to_be_bytes w32) same ∙ spells)
          ∙ (append_assoc (1 ∷ four) payload (drop len (drop 5 bytes)) ∙ (ap (λ (l : List ℕ). (1 ∷ four) ++ l) behind ∙ (ap (λ (l : List ℕ). 1 ∷ l) length_on ∙ all)));
    }

pub frame_long : (payload : List ℕ) → length (frame_bytes payload) ≡ 5 + length payload
frame_long payload = let four : length (to_be_bytes w32 (min (length payload) (2 ^ 32 - 1))) ≡ 4 = refl in simp length-append (omega arith)

-- a frame that is held lies in what is held
pub frame_fits : (reader : Reader) (payload : List ℕ) → HoldsFrame reader payload
    → 5 + length payload ≤ length reader.held
frame_fits reader payload holds = omega (
  arith,
  ap length holds.begins.whole,
  length-append (frame_bytes payload)
      holds.begins.rest,
  frame_long payload,
)

-- the first of the bytes that are held
pub held_front : (items : List ℕ) (from to n : ℕ) → n ≤ to - from → take (from + n - from) (drop from items) ≡ take n (slice_range items from to)
held_front items from to n fits =
    let same : from + n - from ≡ n = omega arith in
    ap (λ (k : ℕ). take k (drop from items)) same ∙ sym (take-take n (to - from) (drop from items) fits)

-- what the held bytes within the limit begin with
pub holds_frame : (reader : Reader) (count : ℕ) (payload : List ℕ) → count ≤ 268435456 - reader.place → BeginsWithFrame (take count reader.held) payload → HoldsFrame reader payload
holds_frame reader count payload within begins = record {
  begins = record {
    allowed = begins.allowed;
    rest = begins.rest ++ drop count reader.held;
    whole = sym (append_assoc (frame_bytes payload) begins.rest (drop count reader.held)) ∙ (ap (λ (l : List ℕ). l ++ drop count reader.held) begins.whole ∙ take-append-drop count reader.held);
  };
  within = omega (arith, within, ap length begins.whole, length-append (frame_bytes payload) begins.rest, length-take count reader.held);
}

-- a frame that is held is handed out
pub gives_held : (reader : Reader) (payload : List ℕ) (left : Option (List ℕ)) → HoldsFrame reader payload → Gives reader.place (ahead reader left) (prepend_known (drop (length (frame_bytes payload)) reader.held) left) (frame_bytes payload)
gives_held reader payload left holds =
    let front : take (length (frame_bytes payload)) reader.held ≡ frame_bytes payload =
    ap (take (length (frame_bytes payload))) (sym holds.begins.whole) ∙ take_at (frame_bytes payload) holds.begins.rest (length (frame_bytes payload)) refl in
    subst (Gives reader.place (ahead reader left) (prepend_known (drop (length (frame_bytes payload)) reader.held) left)) front
    (record {
      taken = (prepend_known-read (ahead reader left) left reader.held (drop (length (frame_bytes payload)) reader.held) (take (length (frame_bytes payload)) reader.held) ⊥ (Keeps-refl (ahead reader left)) (sym (take-append-drop (length (frame_bytes payload)) reader.held)) (λ p. absurd p)).0;
      within = omega (arith, holds.within, length-take (length (frame_bytes payload)) reader.held);
    })

-- ---- a frame that is held, taken

-- a stage is reached by a frame that is held
pub passes_held : (c : Core) (taken number : ℕ) (reader : Reader) (c' : Core) (taken' number' : ℕ) (reader' : Reader) (given payload : List ℕ) (count : ℕ) (left : Option (List ℕ))
    → HoldsFrame reader payload → given ≡ payload → count ≡ 5 + length payload → reader' ≡ record { held = drop count reader.held; place = reader.place + count }
    → number' ≡ number + 1 → TakesPayload number' given c taken c' taken' → Passes (stage c taken number reader left) (stage c' taken' number' reader' left)
passes_held c taken number reader c' taken' number' reader' given payload count left holds same long next is takes =
    let n : count ≡ length (frame_bytes payload) = long ∙ sym (frame_long payload) in
    let after : reader' ≡ record { held = drop (length (frame_bytes payload)) reader.held; place = reader.place + length (frame_bytes payload) } =
    next ∙ ap (λ (k : ℕ). let r : Reader = record { held = drop k reader.held; place = reader.place + k } in r) n in
    record {
      payload = payload;
      allowed = holds.begins.allowed;
      frame = subst (λ (r : Reader). Gives reader.place (ahead reader left) (ahead r left) (frame_bytes payload)) (sym after) (gives_held reader payload left holds);
      place = ap (λ (r : Reader). r.place) after;
      number = is;
      takes = subst (λ (xs : List ℕ). TakesPayload number' xs c taken c' taken') same takes;
    }
