-- The summary of a history, as far as a store keeps it: its counts, and its live transactions under their numbers.
use Rattle.std.specs.Prelude.{◌≡◌, ◌⊎◌, ℕ, ◌+◌, ◌<◌, ◌≤◌, max, nat_le, if◌then◌else◌, Option}
use Rattle.std.specs.Prelude.{Some, None, List, [], ◌∷◌, length, unwrap_or}
use Rattle.flow_model.specs.declared.transactions.Transaction.{Transaction}
use Rattle.flow_model.specs.declared.transactions.Numbered.{Numbered}
pub use Rattle.live_history.specs.Transactions.{root_about, is_root, deleted, started, without_root, live_by}
pub use Rattle.live_history.specs.Transactions.{live_after}
use Rattle.flow_core.specs.declared.state.Core.{Core}

-- how many queues there are, how many transactions there may be, how many there and how many roots there were so far,
-- and the transactions that are live
pub record Summary : Type 0 where
  pub queues : ℕ
  pub limit : ℕ
  pub transactions : ℕ
  pub roots : ℕ
  pub live : List Numbered

-- the summary that a state keeps
abbrev pub summary : Core → Summary
summary c = record {
  queues = length c.queues;
  limit = c.limit;
  transactions = c.number;
  roots = c.roots;
  live = c.live.items;
}

-- the same, with the number up to which records are kept ones, and the last number and root of those
abbrev pub noted : Core → ℕ × ℕ × ℕ × Summary
noted c = (c.kept, c.kept_number, c.kept_root, summary c)

-- the number of roots after one more transaction: a Start counts one that is greater
abbrev pub roots_by : Option ℕ → ℕ → ℕ
roots_by None roots = roots
roots_by (Some root) roots = max root roots

abbrev pub roots_after : Transaction → ℕ → ℕ
roots_after t roots = roots_by (started t) roots

-- a summary that counts the root of a transaction
abbrev pub with_root_of : Transaction → Summary → Summary
with_root_of t s = record {
  queues = s.queues;
  limit = s.limit;
  transactions = s.transactions;
  roots = roots_after t s.roots;
  live = s.live;
}

-- a summary with these live transactions
abbrev pub with_live : List Numbered → Summary → Summary
with_live live s = record {
  queues = s.queues;
  limit = s.limit;
  transactions = s.transactions;
  roots = s.roots;
  live = live;
}

-- a summary without the transactions about a root
abbrev pub without : ℕ → Summary → Summary
without root s = with_live (without_root root s.live) s

-- a summary that keeps a transaction under this number
abbrev pub kept_by : ℕ → Transaction → Summary → Summary
kept_by number t s = with_live (live_after number t s.live) s

-- a summary with one transaction more under this number, and this count of transactions
abbrev pub with_transaction : ℕ → ℕ → Transaction → Summary → Summary
with_transaction transactions number t s = record {
  queues = s.queues;
  limit = s.limit;
  transactions = transactions;
  roots = roots_after t s.roots;
  live = live_after number t s.live;
}

-- the summary after the next transaction
abbrev pub next : Transaction → Summary → Summary
next t s = with_transaction (s.transactions + 1) (s.transactions + 1) t s

-- a summary that counts the number of a record, where it isn't one that was kept
abbrev pub counted : ℕ → ℕ → Summary → Summary
counted kept number s = record {
  queues = s.queues;
  limit = s.limit;
  transactions = if nat_le number kept then s.transactions else number;
  roots = s.roots;
  live = s.live;
}

-- the last root of the kept records after one more record
abbrev pub last_kept : ℕ → Numbered → ℕ → ℕ
last_kept kept n root = if nat_le n.number kept then unwrap_or (started n.transaction) root else root

-- the last number of the kept records after one more record
abbrev pub last_number : ℕ → ℕ → ℕ → ℕ
last_number kept number last = if nat_le number kept then number else last

-- the summary after a record is taken up: one that was kept from the transactions up to a number, or the next one
abbrev pub taken_up : ℕ → Numbered → Summary → Summary
taken_up kept n s = with_transaction (counted kept n.number s).transactions n.number n.transaction s

-- a record may stand there: one that was kept is no Delete and counts no root, each other one is the next transaction
abbrev pub Follows : ℕ → Summary → Numbered → Type 0
Follows kept s n =
    ((n.number ≤ kept) × (kept ≡ s.transactions) × (deleted n.transaction ≡ None)
    × (roots_after n.transaction s.roots ≡ s.roots))
    ⊎ ((kept < n.number) × (n.number ≡ s.transactions + 1))

-- the summary after these records, in order
abbrev pub all_taken_up : ℕ → List Numbered → Summary → Summary
all_taken_up kept [] s = s
all_taken_up kept (n ∷ ns) s = all_taken_up kept ns (taken_up kept n s)
