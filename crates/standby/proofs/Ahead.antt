-- How the bytes ahead of a reader are handed out.
use Rattle.std.proofs.Common.{◌≡◌, ◌∙◌, ℕ, ◌+◌, ◌-◌, ◌<◌, ◌≤◌, min, Bool, true, false, List, [], ◌++◌, length, take, drop, Option, Some, None, Ok, ap, sym, refl, arith, subst, take-append-drop, length-append, append-nil}
use Rattle.std.specs.Io.KnownBytes.{Consumes, Keeps, IsAtEnd, prepend_known}
use Rattle.std.specs.List.{slice_range}
use Rattle.std.proofs.KnownBytes.{prepend_known-read, Consumes-kept, Consumes-nil, Consumes-trans}
use Rattle.std.proofs.lemmas.List.{drop-take, drop-drop, length-drop, length-take-le}
use Rattle.standby.specs.Readers.{GoesOn, Gives, HandsOut, HoldsBlock, Reader}
use Rattle.standby.specs.Reading.{Looks, Grows}

-- ---- bytes that are read

-- no byte is read
pub gives_none : (place : ℕ) (before after : Option (List ℕ)) → Keeps before after → Gives place before after []
gives_none place before after keeps = record { taken = Consumes-kept before before after [] (Consumes-nil before) keeps; within = omega arith }

-- bytes are read behind others
pub gives_then : (place at : ℕ) (before mid after : Option (List ℕ)) (first second : List ℕ) → at ≡ place + length first → Gives place before mid first → Gives at mid after second → Gives place before after (first ++ second)
gives_then place at before mid after first second behind a b = record {
  taken = Consumes-trans before mid after first second a.taken b.taken;
  within = simp length-append (omega (arith, a.within, b.within));
}

-- what is ahead stays behind bytes that are read
pub gives_kept : (place : ℕ) (before mid after : Option (List ℕ)) (bytes : List ℕ) → Gives place before mid bytes → Keeps mid after → Gives place before after bytes
gives_kept place before mid after bytes a keeps = record { taken = Consumes-kept before mid after bytes a.taken keeps; within = a.within }

-- ---- blocks

-- what is held behind the bytes that are handed out
pub held_after : (items : List ℕ) (from to n : ℕ) → n ≤ to - from → slice_range items (from + n) to ≡ drop n (slice_range items from to)
held_after items from to n le =
    let rest = to - (from + n) in
    let whole : to - from ≡ n + rest = omega arith in
    sym (ap (λ (k : ℕ). drop n (take k (drop from items))) whole ∙ drop-take n rest (drop from items) ∙ ap (λ (xs : List ℕ). take rest xs) (drop-drop n from items))

-- a block that is taken where none is held is ahead
taken_block : (front : List ℕ) (left left' : Option (List ℕ)) → Consumes left left' front → Keeps (prepend_known [] left) (prepend_known front left')
taken_block front None left' taken = tt
taken_block front (Some xs) None taken = absurd taken
taken_block front (Some xs) (Some ys) taken = sym taken

-- there is a byte more where one is held
pub goes_on : (held : List ℕ) (left : Option (List ℕ)) → 0 < length held → GoesOn (prepend_known held left)
goes_on held None some = tt
goes_on held (Some xs) some = simp length-append (omega arith)

-- nothing is ahead where nothing is held and the source is at its end
at_end : (left : Option (List ℕ)) → IsAtEnd left → IsAtEnd (prepend_known [] left)
at_end None end = tt
at_end (Some xs) end = end

-- a block, or none at the end
pub looked : (held buf : List ℕ) (left left' : Option (List ℕ)) (count : ℕ) (more : Bool) → held ≡ [] → (more ≡ true → 0 < count) → (more ≡ false → count ≡ 0) → count ≤ length buf → Consumes left left' (take count buf) → (count ≡ 0 → IsAtEnd left')
    → Looks (prepend_known held left) (prepend_known (take (count - 0) buf) left') (Ok more)
looked held buf left left' count true none some is fits taken end =
    let whole : count - 0 ≡ count = omega arith in
    let size : length (take count buf) ≡ count = length-take-le count buf fits in
    rw (none, whole) (taken_block (take count buf) left left' taken, goes_on (take count buf) left' (rw size (some refl)))
looked held buf left left' count false none some is fits taken end =
    let whole : count - 0 ≡ count = omega arith in
    let nothing : take count buf ≡ [] = ap (λ (n : ℕ). take n buf) (is refl) in
    rw (none, whole) (taken_block (take count buf) left left' taken, rw nothing (at_end left' (end (is refl))))

-- held bytes are handed out
pub some_read : (most place n : ℕ) (held : List ℕ) (before left : Option (List ℕ)) (old new : List ℕ) → 0 < most → 0 < length held → place < 268435456 → n ≡ min most (min (length held) (268435456 - place)) → Keeps before (prepend_known held left) → new ≡ old ++ take n held
    → Grows place before (prepend_known (drop n held) left) old new n × (n ≤ most) × (n ≡ 0 → IsAtEnd (prepend_known (drop n held) left))
some_read most place n held before left old new some more within count keeps is =
    let size : length (take n held) ≡ n = length-take-le n held (omega arith) in (
      record {
        bytes = take n held;
        given = record {
          taken = (prepend_known-read before left held (drop n held) (take n held) ⊥ keeps (sym (take-append-drop n held)) (λ p. absurd p)).0;
          within = rw size (omega arith);
        };
        count_is = size;
        put = is;
      },
      omega arith,
      λ none. absurd (omega arith),
    )

-- nothing is read at the end
pub none_read : (place : ℕ) (before after : Option (List ℕ)) (old : List ℕ) → Keeps before after → Grows place before after old old 0
none_read place before after old keeps = record { bytes = []; given = gives_none place before after keeps; count_is = refl; put = sym (append-nil old) }

-- some bytes are read behind those that were
pub gives_more : (place at n : ℕ) (before mid after : Option (List ℕ)) (old new : List ℕ) → at ≡ place + length old → Gives place before mid old → Grows at mid after old new n → Gives place before after new
gives_more place at n before mid after old new behind gives grows =
    subst (Gives place before after) (sym grows.put) (gives_then place at before mid after old grows.bytes behind gives grows.given)

-- nothing was read behind those that were
pub gives_same : (place : ℕ) (before mid after : Option (List ℕ)) (old new : List ℕ) → Gives place before mid old → Keeps mid after → new ≡ old → Gives place before after new
gives_same place before mid after old new gives keeps same = subst (Gives place before after) (sym same) (gives_kept place before mid after old gives keeps)

-- ---- what is held

-- nothing is handed out
pub hands_none : (reader : Reader) → HandsOut reader reader
hands_none reader = record { on = omega arith; same = refl }

-- some held bytes more are handed out
pub hands_more : (first old new : Reader) (n : ℕ) → n ≤ length old.held
    → new ≡ record { held = drop n old.held; place = old.place + n } → HandsOut first old → HandsOut first new
hands_more first old new n fits is hands =
    let place : new.place ≡ old.place + n = ap (λ (r : Reader). r.place) is in
    let size : length new.held ≡ length (drop n old.held) = ap (λ (r : Reader). length r.held) is in
    record {
      on = omega (arith, hands.on, place);
      same = omega (arith, hands.same, fits, place, size, length-drop n old.held);
    }

-- a block stays one where bytes of it are handed out
pub hands_block : (old new : Reader) → HandsOut old new → HoldsBlock old → HoldsBlock new
hands_block old new hands block = omega (arith, hands.on, hands.same, block)

pub drops_block : (old new : Reader) (n : ℕ) → new ≡ record { held = drop n old.held; place = old.place + n }
    → HoldsBlock old → HoldsBlock new
drops_block old new n is block = omega (arith, block, ap (λ (r : Reader). length r.held) is, length-drop n old.held)

-- a reader that holds nothing yet
pub new_block : (reader : Reader) → reader ≡ record { held = []; place = 0 } → HoldsBlock reader
new_block reader is = omega (arith, ap (λ (r : Reader). length r.held) is)
