-- What a crash leaves by a choice is what it may leave.
use Rattle.std.proofs.Common.{◌≡◌, ℕ, List, [], ◌∷◌, length, Bool, true, false, ◌==◌, if◌then◌else◌, refl, subst, arith}
use Rattle.std.proofs.lemmas.List.FromFn.{length-map-range_with_len}
use Rattle.flow_disk.specs.declared.disk.Slot.{Slot}
use Rattle.flow_disk.specs.declared.change.Change.{Change}
use Rattle.flow_disk.specs.declared.change.Change.TheVariants.{Wrote, Synced}
use Rattle.flow_disk.specs.Images.{Image, bytes_in, put_in, spliced, with_written, TornIn}
use Rattle.flow_disk.specs.Crashes.{noise_of, noise_byte, torn_by, crashed}
use Rattle.flow_disk.specs.Laws.{torn_put}
use Rattle.flow_disk.specs.Replay.{LeftAfter, MayLeave, read_after, last_synced}

-- a write of which nothing reached the disk
pub torn_none : (slot : Slot) (at n : ℕ) (image : Image) → TornIn slot at n image image
torn_none slot at n image = record { here = record { before = refl; after = refl; no_shorter = omega arith; no_longer = omega arith }; there = refl }

-- each choice tears the write
torn_either : (two : Bool) (choice : ℕ) (left : Image) (slot : Slot) (at : ℕ) (bytes : List ℕ) → TornIn slot at (length bytes) left (if two then put_in left slot (spliced (bytes_in left slot) at bytes) else put_in left slot (spliced (bytes_in left slot) at (noise_of choice at (length bytes))))
torn_either true choice left slot at bytes = torn_put slot at bytes left
torn_either false choice left slot at bytes =
    subst (λ (n : ℕ). TornIn slot at n left (put_in left slot (spliced (bytes_in left slot) at (noise_of choice at (length bytes)))))
    (length-map-range_with_len (noise_byte choice at) 0 (length bytes)) (torn_put slot at (noise_of choice at (length bytes)) left)

torn_any : (one two : Bool) (choice : ℕ) (left : Image) (slot : Slot) (at : ℕ) (bytes : List ℕ) → TornIn slot at (length bytes) left (if one then left else if two then put_in left slot (spliced (bytes_in left slot) at bytes) else put_in left slot (spliced (bytes_in left slot) at (noise_of choice at (length bytes))))
torn_any true two choice left slot at bytes = torn_none slot at (length bytes) left
torn_any false two choice left slot at bytes = torn_either two choice left slot at bytes

left_from : (changes : List Change) (choice : ℕ) (seen left : Image) (images : Image → Type 0) → images left → LeftAfter seen images changes (crashed choice seen left changes)
left_from [] choice seen left images here = here
left_from (Wrote slot at bytes ∷ changes) choice seen left images here =
    left_from changes choice (put_in seen slot (spliced (bytes_in seen slot) at bytes.items)) (torn_by choice left slot at bytes.items) (λ e. (d : Image) × images d × TornIn slot at (length bytes.items) d e)
    (left, here, torn_any (choice == 0) (choice == 1) choice left slot at bytes.items)
left_from (Synced ∷ changes) choice seen left images here = left_from changes choice seen seen (λ e. e ≡ seen) refl

pub crash_left : (choice : ℕ) (first : Image) (changes : List Change) → MayLeave first changes (crashed choice first first changes)
crash_left choice first changes = left_from changes choice first first (λ e. e ≡ first) refl

-- choice 0 leaves what was synced last
pub crashed_zero : (changes : List Change) (seen synced : Image) → crashed 0 seen synced changes ≡ last_synced seen synced changes
crashed_zero [] seen synced = refl
crashed_zero (Wrote slot at bytes ∷ changes) seen synced = crashed_zero changes (with_written seen slot at bytes.items) synced
crashed_zero (Synced ∷ changes) seen synced = crashed_zero changes seen seen

-- choice 1 leaves what a read gives
pub crashed_one : (changes : List Change) (seen : Image) → crashed 1 seen seen changes ≡ read_after seen changes
crashed_one [] seen = refl
crashed_one (Wrote slot at bytes ∷ changes) seen = crashed_one changes (with_written seen slot at bytes.items)
crashed_one (Synced ∷ changes) seen = crashed_one changes seen
