-- Live transactions stay live in what follows.
use Rattle.std.proofs.Common.{◌≡◌, ℕ, ◌+◌, ◌≤◌, not, List, [], ◌∷◌, ◌++◌, Option, Some, None, refl, sym, ap, ◌∙◌, arith, append-nil, append_assoc}
use Rattle.std.specs.List.{All}
use Rattle.std.proofs.lemmas.List.Elements.{All-append, All-filter, All-cons, All-nil, All-head, All-tail, All-weaker}
use Rattle.std.proofs.lemmas.Bool.{lt-leb, le-leb}
use Rattle.flow_model.specs.declared.transactions.Transaction.{Transaction}
use Rattle.flow_model.specs.declared.transactions.Numbered.{Numbered}
use Rattle.flow_core.specs.Summaries.{Summary, next, deleted, started, roots_by, live_by, with_transaction, taken_up, all_taken_up, is_root, root_about}
use Rattle.flow_txn.specs.Ranges.{IsInRange}
use Rattle.flow_session.specs.Histories.{IsLive}

roots_rise : (t : Option ℕ) (roots : ℕ) → roots_by t roots ≡ roots_by t (roots_by t roots)
roots_rise None roots = refl
roots_rise (Some root) roots = omega arith

roots_stay : (x t : Option ℕ) (roots : ℕ) → roots_by x roots ≡ roots → roots_by x (roots_by t roots) ≡ roots_by t roots
roots_stay None t roots is = refl
roots_stay (Some r) None roots is = is
roots_stay (Some r) (Some q) roots is = omega (arith, is)

-- a live transaction is live after one more
stays_live : (s : Summary) (transactions number : ℕ) (t : Transaction) (n : Numbered) → s.transactions ≤ transactions → IsLive s n → IsLive (with_transaction transactions number t s) n
stays_live s transactions number t n le is = record {
  in_range = is.in_range;
  number = omega (arith, le, is.number);
  no_delete = is.no_delete;
  root = roots_stay (started n.transaction) (started t) s.roots is.root;
}

-- so is the new one, where it is no Delete
new_live : (s : Summary) (transactions number : ℕ) (t : Transaction) → number ≤ transactions → IsInRange number t
    → deleted t ≡ None → IsLive (with_transaction transactions number t s) (record { number = number; transaction = t })
new_live s transactions number t le in_range no_delete = record {
  in_range = in_range;
  number = le;
  no_delete = no_delete;
  root = sym (roots_rise (started t) s.roots);
}

by : (s : Summary) (transactions number : ℕ) (t : Transaction) (d : Option ℕ) → deleted t ≡ d → number ≤ transactions → IsInRange number t → All (IsLive (with_transaction transactions number t s)) s.live → All (IsLive (with_transaction transactions number t s)) (live_by d number t s.live)
by s transactions number t None is le in_range old = All-append (IsLive (with_transaction transactions number t s)) s.live _ old (All-cons (IsLive (with_transaction transactions number t s)) (record { number = number; transaction = t }) [] (new_live s transactions number t le in_range is) (All-nil (IsLive (with_transaction transactions number t s))))
by s transactions number t (Some root) is le in_range old = All-filter (λ n. not (is_root root (root_about n.transaction))) (IsLive (with_transaction transactions number t s)) s.live old

-- all that is live after one more transaction
pub live_with : (s : Summary) (transactions number : ℕ) (t : Transaction) → s.transactions ≤ transactions → number ≤ transactions → IsInRange number t → All (IsLive s) s.live → All (IsLive (with_transaction transactions number t s)) (with_transaction transactions number t s).live
live_with s transactions number t le under in_range all =
    by s transactions number t (deleted t) refl under in_range (All-weaker (IsLive s) (IsLive (with_transaction transactions number t s)) (λ n is. stays_live s transactions number t n le is) s.live all)

pub all_append : (kept : ℕ) (ns : List Numbered) (n : Numbered) (s : Summary) → all_taken_up kept (ns ++ n ∷ []) s ≡ taken_up kept n (all_taken_up kept ns s)
all_append kept [] n s = refl
all_append kept (m ∷ ns) n s = all_append kept ns n (taken_up kept m s)

pub all_behind : (kept : ℕ) (ns ms : List Numbered) (s : Summary) → all_taken_up kept (ns ++ ms) s ≡ all_taken_up kept ms (all_taken_up kept ns s)
all_behind kept [] ms s = refl
all_behind kept (n ∷ ns) ms s = all_behind kept ns ms (taken_up kept n s)

-- the record of the next transaction is taken up as that transaction
pub taken_next : (kept : ℕ) (s : Summary) (t : Transaction) → kept ≤ s.transactions → taken_up kept (record { number = s.transactions + 1; transaction = t }) s ≡ next t s
taken_next kept s t le = rw (lt-leb (s.transactions + 1) kept (omega (arith, le))) refl

-- what is live under the counts of a summary
abbrev keeps : Summary → List Numbered → Summary
keeps s live = record { queues = s.queues; limit = s.limit; transactions = s.transactions; roots = s.roots; live = live }

-- a kept record counts nothing
taken_kept : (s : Summary) (live : List Numbered) (n : Numbered) → IsLive s n → taken_up s.transactions n (keeps s live) ≡ keeps s (live ++ n ∷ [])
taken_kept s live n is = rw (le-leb n.number s.transactions is.number) (rw (is.no_delete, is.root) refl)

-- kept records, one after the other, are what is live under those counts
kept_behind : (s : Summary) (live ns : List Numbered) → All (IsLive s) ns → all_taken_up s.transactions ns (keeps s live) ≡ keeps s (live ++ ns)
kept_behind s live [] all = ap (keeps s) (sym (append-nil live))
kept_behind s live (n ∷ ns) all =
    ap (all_taken_up s.transactions ns) (taken_kept s live n (All-head (IsLive s) n ns all))
    ∙ kept_behind s (live ++ n ∷ []) ns (All-tail (IsLive s) n ns all)
    ∙ ap (keeps s) (append_assoc live (n ∷ []) ns)

pub all_kept : (s : Summary) → All (IsLive s) s.live → all_taken_up s.transactions s.live (keeps s []) ≡ s
all_kept s all = kept_behind s [] s.live all
