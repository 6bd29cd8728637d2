-- What the bytes of a store stand for: a summary of a history.
use Rattle.std.specs.Prelude.{◌≡◌, ℕ, ◌+◌, ◌≤◌, None, List, [], ◌∷◌, map, take}
use Rattle.std.specs.List.{All}
use Rattle.flow_model.specs.declared.transactions.Transaction.{Transaction}
use Rattle.flow_model.specs.declared.transactions.Numbered.{Numbered}
use Rattle.flow_disk.specs.declared.disk.Slot.{Slot}
use Rattle.flow_disk.specs.Images.{Image}
use Rattle.txn_log.specs.declared.header.Header.{Header}
use Rattle.txn_log.specs.Stores.{Counts, store_of}
use Rattle.flow_txn.specs.Ranges.{IsInRange}
use Rattle.flow_txn.specs.Records.{record_bytes}
use Rattle.flow_core.specs.Summaries.{Summary, next, deleted, roots_after, all_taken_up}

-- the payloads of numbered transactions
abbrev pub payloads : List Numbered → List (List ℕ)
payloads records = map (λ n. record_bytes n.number n.transaction) records

-- the payloads of transactions, one after the other, under the numbers behind this one
abbrev pub payloads_behind : ℕ → List Transaction → List (List ℕ)
payloads_behind number [] = []
payloads_behind number (t ∷ ts) = record_bytes (number + 1) t ∷ payloads_behind (number + 1) ts

-- numbered transactions are in range: each can be read back from its record
abbrev pub AreInRange : List Numbered → Type 0
AreInRange records = All (λ n. IsInRange n.number n.transaction) records

-- so are transactions, one after the other, under the numbers behind this one
abbrev pub AreInRangeBehind : ℕ → List Transaction → Type 0
AreInRangeBehind number [] = Unit {0}
AreInRangeBehind number (t ∷ ts) = IsInRange (number + 1) t × AreInRangeBehind (number + 1) ts

-- the summary under a header, before its records
abbrev pub under : Header → Summary
under h = record { queues = h.queues; limit = h.limit; transactions = h.transactions; roots = h.roots; live = [] }

-- a header says what a summary does
pub record IsHeaderOf (h : Header) (s : Summary) : Type 0 where
  pub queues : h.queues ≡ s.queues
  pub limit : h.limit ≡ s.limit
  pub transactions : h.transactions ≡ s.transactions
  pub roots : h.roots ≡ s.roots

-- a live transaction is in range, one of those so far, no Delete, and its root is one of those so far
pub record IsLive (s : Summary) (n : Numbered) : Type 0 where
  pub in_range : IsInRange n.number n.transaction
  pub number : n.number ≤ s.transactions
  pub no_delete : deleted n.transaction ≡ None
  pub root : roots_after n.transaction s.roots ≡ s.roots

-- the slot that counts has records that give this summary, each of a transaction in range
pub record StandsFor (s : Summary) (image : Image) : Type 0 where
  pub slot : Slot
  pub header : Header
  pub records : List Numbered
  pub end : ℕ
  pub counts : store_of image ≡ Counts slot header (payloads records) end
  pub comes_to : all_taken_up header.transactions records (under header) ≡ s
  pub fits : AreInRange records
  pub later : header.transactions ≤ s.transactions
  pub live : All (IsLive s) s.live

-- the summary after these transactions, in order
abbrev pub after : Summary → List Transaction → Summary
after s [] = s
after s (t ∷ ts) = after (next t s) ts

-- an image stands for the summary after a front part of these transactions
abbrev pub StandsAfterSome : Summary → List Transaction → Image → Type 0
StandsAfterSome s ts image = (n : ℕ) × StandsFor (after s (take n ts)) image
