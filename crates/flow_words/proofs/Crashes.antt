-- What the words leave of a store.
use Rattle.std.proofs.Common.{◌≡◌, inl, inr, ℕ, Some, Result, Ok, Err, OnOk, MatchResult, [], refl, arith}
use Rattle.std.proofs.lemmas.List.Elements.{All-nil}
use Rattle.flow_disk.specs.declared.disk.Slot.TheVariants.{A}
use Rattle.flow_disk.specs.Images.{Image}
use Rattle.txn_log.specs.Opening.{first_header}
use Rattle.txn_log.specs.Stores.{Counts, store_of}
use Rattle.flow_session.specs.Histories.{StandsFor, IsLive}
use Rattle.flow_words.specs.declared.status.Status.{Status}
use Rattle.flow_words.specs.Crashes.{IsFailing, EndsDone, empty_history, ServesFiles, LeavesAtCrash}
use Rattle.flow_words.specs.Outside.{Files}
use Rattle.flow_words.specs.Scripts.{status_of_word}
use Rattle.flow_words.specs.declared.status.Status.TheVariants.{Done}
use Rattle.flow_words.specs.declared.word.Word.{Word}
use Rattle.flow_words.specs.declared.word.Word.TheVariants.{Check, Fate, Try, Load, New, Run, Follow, Explain, Verify, Overdue, Ship}

-- what is so under Ok, and later
pub later_ok : {T E : Type 0} (r : Result T E) (T' P : Type 0) → (T' → OnOk r P) → OnOk r (T' → P)
later_ok (Ok x) T' P f = f
later_ok (Err e) T' P f = tt

-- a word that fails isn't done
pub never_done : (r : Result Status Status) → MatchResult r IsFailing IsFailing → EndsDone r → ⊥
never_done (Ok status) fails done = fails done
never_done (Err status) fails done = fails done

-- a new store stands for the empty history
pub stands_new : (queues limit : ℕ) (image : Image) → store_of image ≡ Counts A (first_header queues limit) [] 42 → StandsFor (empty_history queues limit) image
stands_new queues limit image counts = record {
  slot = A;
  header = first_header queues limit;
  records = [];
  end = 42;
  counts = counts;
  comes_to = refl;
  fits = All-nil _;
  later = omega arith;
  live = All-nil (IsLive (empty_history queues limit));
}

-- how a word ends, by its status
pub ended_done : (r : Result Status Status) → status_of_word r ≡ Done → EndsDone r
ended_done (Ok status) done = done
ended_done (Err status) done = done

module _ {D : Type 0} (f : Files D) (r : Result Status Status) where
  serves_ended : ServesFiles f (EndsDone r) → ServesFiles f (status_of_word r ≡ Done)
  serves_ended (inl keeps) = inl keeps
  serves_ended (inr serves) = inr (record {
    before = serves.before;
    stood = serves.stood;
    makes = record {
      transactions = serves.makes.transactions;
      any_moment = serves.makes.any_moment;
      fit = serves.makes.fit;
      ended = λ done image left. serves.makes.ended (ended_done r done) image left;
    };
  })

  -- what a crash leaves under a word, by the status that it ends with
  pub crash_ended : (word : Word) → LeavesAtCrash (Some word) f (EndsDone r) → LeavesAtCrash (Some word) f (status_of_word r ≡ Done)
  crash_ended Check leaves = leaves
  crash_ended Fate leaves = leaves
  crash_ended (Try settings) leaves = leaves
  crash_ended (Load seed roots) leaves = leaves
  crash_ended (New settings) leaves = record { any_moment = leaves.any_moment; made = λ done. leaves.made (ended_done r done) }
  crash_ended Run leaves = serves_ended leaves
  crash_ended Follow leaves = serves_ended leaves
  crash_ended Explain leaves = leaves
  crash_ended Verify leaves = leaves
  crash_ended Overdue leaves = leaves
  crash_ended (Ship number) leaves = leaves
