-- Parts of a frame that are read one after the other.
use Rattle.std.proofs.Common.{◌≡◌, ◌⊎◌, ◌^◌, inl, inr, ℕ, ◌+◌, ◌<◌, Bool, true, false, List, [], ◌∷◌, ◌++◌, length, Option, Ok, Err, ap, sym, refl, arith, length-append}
use Rattle.std.specs.Int.{w32, to_be_bytes}
use Rattle.std.specs.Io.KnownBytes.{IsAtEnd}
use Rattle.standby.specs.declared.stops.FollowStop.{FollowStop}
use Rattle.standby.specs.declared.stops.FollowStop.TheVariants.{Store, Frame, Cut, Other, Gap, NotAllowed, ReadFault, TooLong, NoMemory}
use Rattle.standby.specs.Frames.{IsLength, IsCut, IsBroken, ReadsPart, StopsFrame, head_bytes}
use Rattle.standby.specs.Readers.{Gives}
use Rattle.standby.specs.Reading.{Reads}
use Rattle.standby.proofs.Ahead.{gives_then}

-- what is read of a length that isn't whole
cut_length : (front : List ℕ) → length front < 4 → IsCut (1 ∷ front)
cut_length front short = inr (inl (record { front = front; short = short; bytes = refl }))

-- what is read of a payload that isn't whole
cut_payload : (len : ℕ) (front : List ℕ) → IsLength len → length front < len → IsCut (head_bytes len ++ front)
cut_payload len front allowed short = inr (inr (record { len = len; front = front; allowed = allowed; short = short; bytes = refl }))

-- a length isn't read
pub stops_length : (place at number : ℕ) (first mid after : Option (List ℕ)) (out : List ℕ) (stop : FollowStop) → at ≡ place + 1 → Gives place first mid (1 ∷ []) → Reads 4 at mid after out (Err stop) → StopsFrame place number first after stop
stops_length place at number first mid after out (Store stop) behind taken reads = absurd reads
stops_length place at number first mid after out (Frame p) behind taken reads = absurd reads
stops_length place at number first mid after out (Cut n) behind taken reads = absurd reads
stops_length place at number first mid after out Other behind taken reads = absurd reads
stops_length place at number first mid after out (Gap n) behind taken reads = absurd reads
stops_length place at number first mid after out (NotAllowed n) behind taken reads = absurd reads
stops_length place at number first mid after out ReadFault behind taken reads = record { part = 1 ∷ out; given = gives_then place at first mid after (1 ∷ []) out behind taken reads.0; is = cut_length out reads.1 }
stops_length place at number first mid after out TooLong behind taken reads = record {
  part = 1 ∷ out;
  given = gives_then place at first mid after (1 ∷ []) out behind taken reads.0;
  cut = cut_length out reads.1;
  all = omega (arith, behind, reads.2);
  more = reads.3;
}
stops_length place at number first mid after out NoMemory behind taken reads = record {
  part = 1 ∷ out;
  given = gives_then place at first mid after (1 ∷ []) out behind taken reads.0;
  is = cut_length out reads.1;
}

-- the source ends within a length
pub ends_in_length : (place at : ℕ) (first mid after : Option (List ℕ)) (out : List ℕ) (whole : Bool) → at ≡ place + 1 → Gives place first mid (1 ∷ []) → Reads 4 at mid after out (Ok whole) → (length out ≡ 4 → ⊥) → ReadsPart IsCut place first after × IsAtEnd after
ends_in_length place at first mid after out true behind taken reads short = absurd (short reads.1)
ends_in_length place at first mid after out false behind taken reads short = (record { part = 1 ∷ out; given = gives_then place at first mid after (1 ∷ []) out behind taken reads.0; is = cut_length out reads.1 }, reads.2)

-- a length that no payload may have
pub other_length : (place at len : ℕ) (first mid after : Option (List ℕ)) (out : List ℕ) (whole : Bool) → at ≡ place + 1 → Gives place first mid (1 ∷ []) → Reads 4 at mid after out (Ok whole) → to_be_bytes w32 len ≡ out → len < 2 ^ 32 → (len ≡ 0) ⊎ (2097152 < len) → ReadsPart IsBroken place first after
other_length place at len first mid after out true behind taken reads spelled fits other =
    record { part = 1 ∷ out; given = gives_then place at first mid after (1 ∷ []) out behind taken reads.0; is = inr (record { len = len; fits = fits; other = other; bytes = ap (λ (xs : List ℕ). 1 ∷ xs) (sym spelled) }) }
other_length place at len first mid after out false behind taken reads spelled fits other =
    record { part = 1 ∷ out; given = gives_then place at first mid after (1 ∷ []) out behind taken reads.0; is = inr (record { len = len; fits = fits; other = other; bytes = ap (λ (xs : List ℕ). 1 ∷ xs) (sym spelled) }) }

-- a payload isn't read
pub stops_payload : (len place at number : ℕ) (first mid after : Option (List ℕ)) (out : List ℕ) (stop : FollowStop) → IsLength len → at ≡ place + 5 → Gives place first mid (head_bytes len) → Reads len at mid after out (Err stop) → StopsFrame place number first after stop
stops_payload len place at number first mid after out (Store stop) allowed behind taken reads = absurd reads
stops_payload len place at number first mid after out (Frame p) allowed behind taken reads = absurd reads
stops_payload len place at number first mid after out (Cut n) allowed behind taken reads = absurd reads
stops_payload len place at number first mid after out Other allowed behind taken reads = absurd reads
stops_payload len place at number first mid after out (Gap n) allowed behind taken reads = absurd reads
stops_payload len place at number first mid after out (NotAllowed n) allowed behind taken reads = absurd reads
stops_payload len place at number first mid after out ReadFault allowed behind taken reads = record { part = head_bytes len ++ out; given = gives_then place at first mid after (head_bytes len) out behind taken reads.0; is = cut_payload len out allowed reads.1 }
stops_payload len place at number first mid after out TooLong allowed behind taken reads = record {
  part = head_bytes len ++ out;
  given = gives_then place at first mid after (head_bytes len) out behind taken reads.0;
  cut = cut_payload len out allowed reads.1;
  all = let long : length (head_bytes len) ≡ 5 = refl in simp length-append (omega (arith, behind, reads.2));
  more = reads.3;
}
stops_payload len place at number first mid after out NoMemory allowed behind taken reads = record {
  part = head_bytes len ++ out;
  given = gives_then place at first mid after (head_bytes len) out behind taken reads.0;
  is = cut_payload len out allowed reads.1;
}

-- the source ends within a payload
pub ends_in_payload : (len place at : ℕ) (first mid after : Option (List ℕ)) (out : List ℕ) → IsLength len → at ≡ place + 5 → Gives place first mid (head_bytes len) → Reads len at mid after out (Ok false) → ReadsPart IsCut place first after × IsAtEnd after
ends_in_payload len place at first mid after out allowed behind taken reads = (record { part = head_bytes len ++ out; given = gives_then place at first mid after (head_bytes len) out behind taken reads.0; is = cut_payload len out allowed reads.1 }, reads.2)
