-- The premises of the laws can be met: by a CLOCK in a blank state, and in one from which records were taken out; and
-- by the bytes of a store with its record.
use Rattle.std.proofs.Common.{◌≡◌, ◌⊎◌, inl, inr, ⊎_elim, ℕ, List, [], ◌∷◌, ◌++◌, None, refl, sym, subst, arith}
use Rattle.std.proofs.lemmas.List.Elements.{All-nil, All-cons}
use Rattle.flow_core.specs.declared.judging.Verdict.TheVariants.{Do}
use Rattle.flow_core.specs.Summaries.{summary}
use Rattle.flow_core.specs.declared.state.Core.{Core}
use Rattle.flow_disk.specs.Images.{Image}
use Rattle.flow_disk.specs.Moments.{LeavesOnly}
use Rattle.flow_disk.specs.declared.disk.Slot.TheVariants.{A}
use Rattle.flow_model.specs.declared.commands.Command.{Command}
use Rattle.flow_model.specs.declared.commands.Command.TheVariants as asked
use Rattle.flow_model.specs.declared.transactions.Numbered.{Numbered}
use Rattle.flow_model.specs.declared.transactions.Transaction.{Transaction}
use Rattle.flow_model.specs.declared.transactions.Transaction.TheVariants as made
use Rattle.flow_session.specs.Histories.{AreInRange, IsLive, StandsFor, StandsAfterSome, payloads, under}
use Rattle.flow_session.specs.Refusing.{Begins, NoRecord, IsOpenedTo}
use Rattle.flow_session.specs.Serving.{Makes}
use Rattle.flow_session.proofs.Rights.{begun_right}
use Rattle.flow_session.proofs.Replaying.{blank_seen}
use Rattle.flow_txn.specs.Ranges.{IsInRange, TransactionFits}
use Rattle.flow_txn.specs.Records.{record_bytes}
use Rattle.machine.specs.Imports.{nothing_added}
use Rattle.machine.specs.States.{State, blank}
use Rattle.machine.specs.Steps.{after, Steps}
use Rattle.machine.specs.Verdicts.{IsVerdict}
use Rattle.machine_laws.specs.Viewed.{view}
use Rattle.machine_laws.proofs.Keyed.{blank_keyed}
use Rattle.machine_laws.specs.WholeStates.{IsWhole}
use Rattle.reopening_laws.specs.Making.{MadeByCommands}
use Rattle.txn_log.specs.Stored.{is_unmade, has_magic, header_of, header_fault, header_text, length_at}
use Rattle.txn_log.specs.Stores.{Counts, store_of}
use Rattle.txn_log.specs.declared.header.Header.{Header}
use Rattle.compaction_laws.specs.Checkpoints.{summary_of}
use Rattle.compaction_laws.specs.Compact.{counting, IsInPlace, IsRemade, counted_blank, IsCompact, IsMadeAnew}
use Rattle.compaction_laws.specs.Compact.{IsReadyFor}
use Rattle.compaction_laws.specs.Crashes.{IsFirst}
use Rattle.compaction_laws.specs.Resuming.{IsCheckpointOf}

abbrev five : Command
five = asked.Clock (record { minus = None; size = 5; place = 1 })

-- eight transactions were made and three roots started, and nothing of them is left
abbrev emptied : State
emptied = counting 8 3 (blank 2 20)

-- it is compact
emptied_anew : IsMadeAnew emptied
emptied_anew = record { remade = refl; rising = tt }

-- a CLOCK is judged there, and makes the ninth transaction
judged : IsVerdict emptied five (Do (made.Clock 5))
judged = (refl, refl, refl)

abbrev clocked : State
clocked = after nothing_added (made.Clock 5) emptied

steps : Steps emptied (made.Clock 5) clocked
steps = record { added = nothing_added; adds = refl; next = refl }

-- three more transactions were made and a root started, and taken out again: the CLOCK is the ninth of twelve
abbrev twelve : State
twelve = counting 12 4 clocked

abbrev ninth : Numbered
ninth = record { number = 9; transaction = made.Clock 5 }

ninth_placed : IsInPlace (counted_blank twelve) ninth
ninth_placed = record { least = omega arith; counted = omega arith; stays = refl; root = refl; front = tt }

ninth_remade : IsRemade (counted_blank twelve) ninth
ninth_remade = record { placed = ninth_placed; last = 3; command = five; judged = (refl, refl, refl) }

-- such a state is compact
twelve_anew : IsMadeAnew twelve
twelve_anew = record {
  remade = (
    twelve,
    ninth_remade,
    (
      after nothing_added (made.Clock 5) (counting 8 4 (counted_blank twelve)),
      record { added = nothing_added; adds = refl; next = refl },
      refl,
    ),
    refl,
  );
  rising = (omega arith, tt, tt);
}

-- it is ready for a Delete: nothing is queued
ready : IsReadyFor twelve (made.Delete 3)
ready = refl

-- ---- a DELETE

-- a START, here of a process that isn't there
abbrev start : Transaction
start = made.Start 1 (80 ∷ []) 1 (97 ∷ []) None []

abbrev started : State
started = after nothing_added start (blank 1 10)

-- the state is compact, and ready for the DELETE of the root
started_compact : IsCompact started
started_compact = (
  started,
  record { least = omega arith; counted = omega arith; stays = refl; root = refl; front = tt },
  (
    after nothing_added start (counting 0 1 (counted_blank started)),
    record { added = nothing_added; adds = refl; next = refl },
    refl,
  ),
  refl,
)

deletes : IsReadyFor started (made.Delete 1)
deletes = refl

-- which takes the START away
none_left : (after nothing_added (made.Delete 1) started).live ≡ []
none_left = refl

-- ---- a checkpoint

-- the header of one of the twelve
abbrev header : Header
header = record { generation = 2; queues = 2; limit = 20; transactions = 12; roots = 4 }

checkpoint : IsCheckpointOf header twelve
checkpoint = record {
  counts = record { queues = refl; limit = refl; transactions = refl; roots = refl };
  some_ = omega arith;
  limit = omega arith;
  anew = twelve_anew;
  fit = All-cons (λ (n : Numbered). TransactionFits n.transaction) ninth [] (omega arith)
      (All-nil (λ (n : Numbered). TransactionFits n.transaction));
}

-- ---- images

-- a slot with a header, and these bytes behind it
abbrev slot_bytes : Header → List ℕ → List ℕ
slot_bytes h rest = 1 ∷ header_text h ++ rest

-- the record of the CLOCK behind a gate and its length, and the closed gate
abbrev ninth_bytes : List ℕ
ninth_bytes = 1 ∷ 0 ∷ 0 ∷ 0 ∷ 17 ∷ record_bytes 9 (made.Clock 5) ++ 0 ∷ []

ninth_ranged : IsInRange 9 (made.Clock 5)
ninth_ranged = ((omega arith, omega arith), omega arith)

nine_in_range : AreInRange (ninth ∷ [])
nine_in_range = All-cons (λ (n : Numbered). IsInRange n.number n.transaction) ninth [] ninth_ranged
    (All-nil (λ (n : Numbered). IsInRange n.number n.transaction))

-- the image of that checkpoint stands for the summary of the twelve
abbrev kept_image : Image
kept_image = record { a = slot_bytes header ninth_bytes; b = [] }

kept_counts : store_of kept_image ≡ Counts A header (payloads (ninth ∷ [])) 64
unfolding is_unmade has_magic header_of header_fault header_text length_at
kept_counts = refl

kept_stands : StandsFor (summary_of twelve) kept_image
kept_stands = record {
  slot = A;
  header = header;
  records = ninth ∷ [];
  end = 64;
  counts = kept_counts;
  comes_to = refl;
  fits = nine_in_range;
  later = omega arith;
  live = All-cons (IsLive (summary_of twelve)) ninth []
      (record { in_range = ninth_ranged; number = omega arith; no_delete = refl; root = refl })
      (All-nil (IsLive (summary_of twelve)));
}

-- ---- a crash

-- commands make the CLOCK from a compact state on
history : MadeByCommands emptied (made.Clock 5 ∷ []) clocked
history = (five, clocked, judged, steps, refl)

-- the header of the eight transactions before it
abbrev eight : Header
eight = record { generation = 1; queues = 2; limit = 20; transactions = 8; roots = 3 }

-- a crash may leave the store without its record
abbrev old_image : Image
old_image = record { a = slot_bytes eight (0 ∷ []); b = [] }

old_counts : store_of old_image ≡ Counts A eight [] 42
unfolding is_unmade has_magic header_of header_fault header_text length_at
old_counts = refl

left_old : StandsAfterSome (summary_of emptied) (made.Clock 5 ∷ []) old_image
left_old = (
  0,
  record {
    slot = A;
    header = eight;
    records = [];
    end = 42;
    counts = old_counts;
    comes_to = refl;
    fits = All-nil (λ (n : Numbered). IsInRange n.number n.transaction);
    later = omega arith;
    live = All-nil (IsLive (summary_of emptied));
  },
)

-- which is opened to the state under its header
opened : (c : Core) → Begins eight c → IsOpenedTo old_image c
opened c begins = record {
  slot = A;
  header = eight;
  payloads = [];
  end = 42;
  counts = old_counts;
  leads = (c, begins, NoRecord);
}

-- or with it
abbrev new_image : Image
new_image = record { a = slot_bytes eight ninth_bytes; b = [] }

new_counts : store_of new_image ≡ Counts A eight (payloads (ninth ∷ [])) 64
unfolding is_unmade has_magic header_of header_fault header_text length_at
new_counts = refl

left_new : StandsAfterSome (summary_of emptied) (made.Clock 5 ∷ []) new_image
left_new = (
  1,
  record {
    slot = A;
    header = eight;
    records = ninth ∷ [];
    end = 64;
    counts = new_counts;
    comes_to = refl;
    fits = nine_in_range;
    later = omega arith;
    live = All-cons (IsLive (summary_of clocked)) ninth []
        (record { in_range = ninth_ranged; number = omega arith; no_delete = refl; root = refl })
        (All-nil (IsLive (summary_of clocked)));
  },
)

-- ---- a call

-- a journal of which a crash leaves one of the two at each moment
abbrev either : Unit {0} → ℕ → Image → Type 0
either journal from image = (image ≡ old_image) ⊎ (image ≡ new_image)

left_some : (image : Image) → either tt 0 image → StandsAfterSome (summary_of emptied) (made.Clock 5 ∷ []) image
left_some image left =
    let stands = StandsAfterSome (summary_of emptied) (made.Clock 5 ∷ []) in
    ⊎_elim (λ old. subst stands (sym old) left_old) (λ new. subst stands (sym new) left_new) left

leaves_some : LeavesOnly (λ (journal : Unit {0}). 0) either tt tt
    (StandsAfterSome (summary_of emptied) (made.Clock 5 ∷ []))
leaves_some = record { later = omega arith; each = left_some; before = λ from image early left. inl left }

-- a call in the state under the header of the eight
module _ (c : Core) (begins : Begins eight c) where
  seen : view c ≡ emptied
  seen = blank_seen c (under eight) begins.blank begins.counts

  -- it makes the CLOCK, as a command does
  makes : Makes (Unit {0}) (λ (journal : Unit {0}). 0) either tt tt (summary c)
      (λ ts. MadeByCommands (view c) ts clocked)
  makes =
      subst (λ (s : State). Makes (Unit {0}) (λ (journal : Unit {0}). 0) either tt tt (summary_of s)
      (λ ts. MadeByCommands s ts clocked)) (sym seen)
      (record {
        transactions = made.Clock 5 ∷ [];
        any_moment = λ told. leaves_some;
        fit = λ told now fits. record { later = omega arith; each = now; before = λ from image early left. inl left };
        ended = history;
      })

  -- the state is whole, and a session may begin with it
  whole : IsWhole c
  whole = record {
    right = begun_right c (under eight) begins.blank begins.kept begins.counts (omega arith);
    keyed = blank_keyed c begins.blank;
  }

  first : IsFirst c
  first = inr (old_image, opened c begins)
