-- Histories of commands with words in range: each transaction is in range, and a store of them is opened again.
use Rattle.std.proofs.Common.{◌≡◌, ℕ, ◌+◌, ◌≤◌, List, [], ◌∷◌, ◌++◌, length, replicate, refl, sym, ap, subst, append-nil, arith}
use Rattle.std.specs.List.{All}
use Rattle.std.proofs.lemmas.List.{length-replicate}
use Rattle.std.proofs.lemmas.List.Elements.{All-nil, All-cons, All-replicate}
use Rattle.std.proofs.lemmas.Option.{none-some}
use Rattle.flow_model.specs.declared.instances.Message.{Message}
use Rattle.flow_model.specs.declared.transactions.Transaction.{Transaction}
use Rattle.flow_session.specs.Histories.{AreInRangeBehind}
use Rattle.flow_session.specs.Replaying.{blank_under}
use Rattle.flow_txn.specs.Ranges.{MessageFits, TransactionFits}
use Rattle.machine.specs.States.{State}
use Rattle.reopening_laws.specs.Making.{MadeByCommands}
use Rattle.reopening_laws.specs.Reopening.{StoresReopen}
use Rattle.reopening_laws.proofs.Limits.{keeps_within}
use Rattle.txn_log.specs.declared.header.Header.{Header}
use Rattle.range_laws.specs.Bounds.{IsBounded}
use Rattle.range_laws.specs.Standing.{StaysInBounds}
use Rattle.range_laws.specs.Words.{MadeByWords, WordedStoresReopen}
use Rattle.range_laws.proofs.Histories.{verdict_in_bounds, next_in_range}

-- what a history of such commands is
record IsFitting (s : State) (ts : List Transaction) (s' : State) : Type 0 where
  pub made : MadeByCommands s ts s'
  pub fits : All TransactionFits ts
  pub bounded : StaysInBounds s'

fitting : (s : State) (ts : List Transaction) (s' : State) → StaysInBounds s → MadeByWords s ts s' → IsFitting s ts s'
fitting s [] s' ok words = record {
  made = words;
  fits = All-nil TransactionFits;
  bounded = subst StaysInBounds (sym words) ok;
}
fitting s (t ∷ ts) s' ok words =
    let more = fitting words.1 ts s' (verdict_in_bounds s words.0 t words.1 ok words.3 words.4) words.5 in
    record {
      made = (words.0, words.1, words.3, words.4, more.made);
      fits = All-cons TransactionFits t ts (next_in_range s ok words.0 t words.2 words.3).1 more.fits;
      bounded = more.bounded;
    }

pub words_fit : (s : State) (ts : List Transaction) (s' : State) → StaysInBounds s → MadeByWords s ts s'
    → MadeByCommands s ts s' × All TransactionFits ts × StaysInBounds s'
words_fit s ts s' ok words = let is = fitting s ts s' ok words in (is.made, is.fits, is.bounded)

-- each is in range under its number, and so are those behind them that are under theirs
pub more_in_range : (s : State) (ts : List Transaction) (mid : State) (us : List Transaction) → StaysInBounds s
    → MadeByWords s ts mid → AreInRangeBehind mid.transactions us → AreInRangeBehind s.transactions (ts ++ us)
more_in_range s [] mid us ok words more = subst (λ (x : State). AreInRangeBehind x.transactions us) words more
more_in_range s (t ∷ ts) mid us ok words more =
    let next = words.1 in
    let step = words.4 in
    let one_more : next.transactions ≡ s.transactions + 1 = ap (λ (x : State). x.transactions) step.next in (
      next_in_range s ok words.0 t words.2 words.3,
      subst (λ (n : ℕ). AreInRangeBehind n (ts ++ us)) one_more
          (more_in_range next ts mid us (verdict_in_bounds s words.0 t next ok words.3 step) words.5 more),
    )

pub words_in_range : (s : State) (ts : List Transaction) (s' : State) → StaysInBounds s → MadeByWords s ts s'
    → AreInRangeBehind s.transactions ts
words_in_range s ts s' ok words =
    subst (AreInRangeBehind s.transactions) (append-nil ts) (more_in_range s ts s' [] ok words tt)

-- the state under the header of a store from which nothing was taken out
pub under_in_bounds : (h : Header) → h.transactions ≡ 0 → h.queues ≤ 16 → h.limit ≤ 10000000
    → StaysInBounds (blank_under h)
under_in_bounds h none few small =
    let nothing : List Message = [] in
    let long : length (replicate h.queues nothing) ≡ h.queues = length-replicate h.queues nothing in
    record {
      room = omega (arith, none);
      limit = small;
      queues = omega (arith, long, few);
      bounded = All-nil (IsBounded []);
      counted = λ root r nobody. absurd (none-some r nobody);
      fit = All-replicate (λ (ms : List Message). All MessageFits ms) h.queues nothing (All-nil MessageFits);
      from_one = refl;
    }

pub worded_stores_reopen : StoresReopen → WordedStoresReopen
worded_stores_reopen reopen image slot h ts end s stop counts none words shows =
    let keeps = keeps_within image slot h _ end counts in
    let is = fitting (blank_under h) ts s (under_in_bounds h none keeps.queues keeps.limit) words in
    reopen image slot h ts end s stop counts none is.made is.fits shows
