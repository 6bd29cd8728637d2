-- The premises of the laws of own stores can be met: by a new store, by one with the record of a CLOCK, and by that of
-- a checkpoint; and by a journal that leaves the first two of them.
use Rattle.std.proofs.Common.{◌≡◌, ◌⊎◌, inr, ⊎_elim, ℕ, zero, suc, List, [], ◌∷◌, ◌++◌, None, refl, sym, subst, arith}
use Rattle.std.proofs.lemmas.List.Elements.{All-nil, All-cons}
use Rattle.flow_core.specs.Summaries.{summary}
use Rattle.flow_core.specs.declared.state.Core.{Core}
use Rattle.flow_disk.specs.Images.{Image}
use Rattle.flow_disk.specs.Moments.{LeavesOnly}
use Rattle.flow_disk.specs.declared.disk.Slot.TheVariants.{A}
use Rattle.flow_model.specs.declared.commands.Command.{Command}
use Rattle.flow_model.specs.declared.commands.Command.TheVariants as asked
use Rattle.flow_model.specs.declared.transactions.Numbered.{Numbered}
use Rattle.flow_model.specs.declared.transactions.Transaction.TheVariants as made
use Rattle.flow_session.specs.Fitting.{HasFitRecords}
use Rattle.flow_session.specs.Histories.{AreInRange, IsLive, StandsFor, StandsAfterSome, payloads, under}
use Rattle.flow_session.specs.Refusing.{Begins}
use Rattle.flow_session.specs.Serving.{Makes}
use Rattle.flow_session.proofs.Replaying.{blank_seen}
use Rattle.flow_txn.specs.Ranges.{IsInRange, TransactionFits}
use Rattle.flow_txn.specs.Records.{record_bytes}
use Rattle.machine.specs.Imports.{nothing_added}
use Rattle.machine.specs.States.{State, blank}
use Rattle.machine.specs.Steps.{after}
use Rattle.machine_laws.specs.Viewed.{view}
use Rattle.reopening_laws.specs.Making.{MadeByCommands}
use Rattle.txn_log.specs.Stored.{is_unmade, has_magic, header_of, header_fault, header_text, length_at}
use Rattle.txn_log.specs.Stores.{Counts, store_of}
use Rattle.txn_log.specs.declared.header.Header.{Header}
use Rattle.compaction_laws.specs.Checkpoints.{summary_of}
use Rattle.compaction_laws.specs.Compact.{counting, counted_blank, IsMadeAnew}
use Rattle.compaction_laws.specs.OwnStores.{IsOwn, IsOwnAfterSome, AreOwnNow}
use Rattle.compaction_laws.specs.Resuming.{IsCheckpointOf}
use Rattle.compaction_laws.proofs.Compact.{blank_anew, history_anew}
use Rattle.compaction_laws.proofs.OwnStores.{new_own}
use Rattle.compaction_laws.proofs.Resumed.{unbroken_image}

-- ---- a new store

abbrev header : Header
header = record { generation = 1; queues = 2; limit = 20; transactions = 0; roots = 0 }

abbrev new_image : Image
new_image = record { a = 1 ∷ header_text header ++ 0 ∷ []; b = [] }

new_counts : store_of new_image ≡ Counts A header [] 42
unfolding is_unmade has_magic header_of header_fault header_text length_at
new_counts = refl

blank_own : IsOwn (blank 2 20) new_image
blank_own = new_own new_image A header 42 new_counts refl refl

-- ---- one with a record

abbrev five : Command
five = asked.Clock (record { minus = None; size = 5; place = 1 })

abbrev clocked : State
clocked = after nothing_added (made.Clock 5) (blank 2 20)

history : MadeByCommands (blank 2 20) (made.Clock 5 ∷ []) clocked
history = (five, clocked, (refl, refl, refl), record { added = nothing_added; adds = refl; next = refl }, refl)

abbrev first : Numbered
first = record { number = 1; transaction = made.Clock 5 }

first_ranged : IsInRange 1 (made.Clock 5)
first_ranged = ((omega arith, omega arith), omega arith)

one_in_range : AreInRange (first ∷ [])
one_in_range = All-cons (λ (n : Numbered). IsInRange n.number n.transaction) first [] first_ranged
    (All-nil (λ (n : Numbered). IsInRange n.number n.transaction))

-- its record behind a gate and its length, and the closed gate
abbrev first_bytes : List ℕ
first_bytes = 1 ∷ 0 ∷ 0 ∷ 0 ∷ 17 ∷ record_bytes 1 (made.Clock 5) ++ 0 ∷ []

abbrev clocked_image : Image
clocked_image = record { a = 1 ∷ header_text header ++ first_bytes; b = [] }

clocked_counts : store_of clocked_image ≡ Counts A header (payloads (first ∷ [])) 64
unfolding is_unmade has_magic header_of header_fault header_text length_at
clocked_counts = refl

clocked_stands : StandsFor (summary_of clocked) clocked_image
clocked_stands = record {
  slot = A;
  header = header;
  records = first ∷ [];
  end = 64;
  counts = clocked_counts;
  comes_to = refl;
  fits = one_in_range;
  later = omega arith;
  live = All-cons (IsLive (summary_of clocked)) first []
      (record { in_range = first_ranged; number = omega arith; no_delete = refl; root = refl })
      (All-nil (IsLive (summary_of clocked)));
}

-- the header is one of a checkpoint of the blank state
none_kept : IsCheckpointOf header (blank 2 20)
none_kept = record {
  counts = record { queues = refl; limit = refl; transactions = refl; roots = refl };
  some_ = omega arith;
  limit = omega arith;
  anew = blank_anew 2 20 0 0;
  fit = All-nil (λ (n : Numbered). TransactionFits n.transaction);
}

clocked_own : IsOwn clocked clocked_image
clocked_own = record {
  anew = history_anew (made.Clock 5 ∷ []) (blank 2 20) clocked (blank_anew 2 20 0 0) history;
  stands = clocked_stands;
  fit = unbroken_image clocked_image A header (blank 2 20) clocked (made.Clock 5 ∷ []) 64 clocked_counts none_kept
      history (All-cons TransactionFits (made.Clock 5) [] (omega arith) (All-nil TransactionFits));
}

-- it is the own one of the state after the CLOCK of a history
left_own : IsOwnAfterSome (blank 2 20) (made.Clock 5 ∷ []) clocked_image
left_own = (1, clocked, history, clocked_own)

-- ---- that of a checkpoint

-- two more transactions were made and a root started, and taken out again
abbrev third : State
third = counting 3 1 clocked

third_anew : IsMadeAnew third
third_anew = record {
  remade = (
    third,
    record {
      placed = record { least = omega arith; counted = omega arith; stays = refl; root = refl; front = tt };
      last = 0;
      command = five;
      judged = (refl, refl, refl);
    },
    (
      after nothing_added (made.Clock 5) (counting 0 1 (counted_blank third)),
      record { added = nothing_added; adds = refl; next = refl },
      refl,
    ),
    refl,
  );
  rising = (omega arith, tt, tt);
}

abbrev kept_header : Header
kept_header = record { generation = 2; queues = 2; limit = 20; transactions = 3; roots = 1 }

one_kept : IsCheckpointOf kept_header third
one_kept = record {
  counts = record { queues = refl; limit = refl; transactions = refl; roots = refl };
  some_ = omega arith;
  limit = omega arith;
  anew = third_anew;
  fit = All-cons (λ (n : Numbered). TransactionFits n.transaction) first [] (omega arith)
      (All-nil (λ (n : Numbered). TransactionFits n.transaction));
}

abbrev kept_image : Image
kept_image = record { a = 1 ∷ header_text kept_header ++ first_bytes; b = [] }

kept_counts : store_of kept_image ≡ Counts A kept_header (payloads (first ∷ [])) 64
unfolding is_unmade has_magic header_of header_fault header_text length_at
kept_counts = refl

kept_stands : StandsFor (summary_of third) kept_image
kept_stands = record {
  slot = A;
  header = kept_header;
  records = first ∷ [];
  end = 64;
  counts = kept_counts;
  comes_to = refl;
  fits = one_in_range;
  later = omega arith;
  live = All-cons (IsLive (summary_of third)) first []
      (record { in_range = first_ranged; number = omega arith; no_delete = refl; root = refl })
      (All-nil (IsLive (summary_of third)));
}

third_own : IsOwn third kept_image
third_own = record {
  anew = third_anew;
  stands = kept_stands;
  fit = unbroken_image kept_image A kept_header third third [] 64 kept_counts one_kept refl (All-nil TransactionFits);
}

-- ---- a call

-- a journal of which a crash leaves the new store before a call, any of both in it, and the one with the record behind
-- it
abbrev leaves : ℕ → ℕ → Image → Type 0
leaves zero from image = image ≡ new_image
leaves (suc now) zero image = (image ≡ new_image) ⊎ (image ≡ clocked_image)
leaves (suc now) (suc from) image = image ≡ clocked_image

left_any : (P : Image → Type 0) → P new_image → P clocked_image → (from : ℕ) (image : Image) → leaves 1 from image
    → P image
left_any P old new zero image left = ⊎_elim (λ is. subst P (sym is) old) (λ is. subst P (sym is) new) left
left_any P old new (suc from) image left = subst P (sym left) new

leaves_only : (P : Image → Type 0) → P new_image → P clocked_image → LeavesOnly (λ (now : ℕ). now) leaves 0 1 P
leaves_only P old new = record {
  later = omega arith;
  each = λ image left. left_any P old new 0 image left;
  before = λ from image early left. inr (left_any P old new from image left);
}

-- what it leaves before the call is the blank state's own
own_now : AreOwnNow (λ (now : ℕ). now) leaves 0 (blank 2 20)
own_now image left = subst (IsOwn (blank 2 20)) (sym left) blank_own

-- the call makes the CLOCK, as a command does
makes : (c : Core) → Begins header c → Makes (Unit {0}) (λ (now : ℕ). now) leaves 0 1 (summary c)
    (λ ts. MadeByCommands (view c) ts clocked)
makes c begins =
    let ts = made.Clock 5 ∷ [] in
    subst (λ (s : State). Makes (Unit {0}) (λ (now : ℕ). now) leaves 0 1 (summary_of s)
    (λ us. MadeByCommands s us clocked)) (sym (blank_seen c (under header) begins.blank begins.counts))
    (record {
      transactions = ts;
      any_moment = λ told. leaves_only (StandsAfterSome (summary_of (blank 2 20)) ts) (0, blank_own.stands)
          (1, clocked_stands);
      fit = λ told now fits. leaves_only HasFitRecords blank_own.fit clocked_own.fit;
      ended = history;
    })
