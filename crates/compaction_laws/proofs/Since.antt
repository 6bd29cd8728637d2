-- The records of a checkpoint and those made since, as one list: each is made again, or is the next one.
use Rattle.std.proofs.Common.{◌≡◌, ◌⊎◌, inl, inr, ℕ, ◌+◌, ◌-◌, ◌^◌, ◌<◌, ◌≤◌, max, List, [], ◌∷◌, ◌++◌, refl, sym, ap}
use Rattle.std.proofs.Common.{subst, ◌∙◌, arith}
use Rattle.std.proofs.Common.{Bool, true, false, not, cond, Option, Some, None}
use Rattle.std.specs.List.{All, filter}
use Rattle.std.proofs.lemmas.List.{map-append}
use Rattle.std.proofs.lemmas.List.Elements.{All-nil, All-cons, All-head, All-tail, All-append}
use Rattle.flow_core.specs.declared.judging.Verdict.TheVariants.{Do}
use Rattle.flow_model.specs.declared.commands.Command.{Command}
use Rattle.flow_model.specs.declared.transactions.Numbered.{Numbered}
use Rattle.flow_model.specs.declared.transactions.Transaction.{Transaction}
use Rattle.flow_session.specs.Histories.{payloads, payloads_behind}
use Rattle.flow_txn.specs.Ranges.{IsInRange, TransactionFits}
use Rattle.flow_txn.specs.Records.{record_bytes}
use Rattle.machine.specs.Scripts.{StepsAs, StateOf}
use Rattle.machine.specs.States.{State, templates}
use Rattle.machine.specs.Steps.{root_about, is_root, deleted, live_by, after, Steps}
use Rattle.machine.specs.Verdicts.{IsVerdict}
use Rattle.reopening_laws.proofs.Admitted.{verdict_room}
use Rattle.reopening_laws.proofs.Made.{made_codes}
use Rattle.reopening_laws.specs.Codes.{HaveCodes}
use Rattle.reopening_laws.specs.Making.{MadeByCommands}
use Rattle.compaction_laws.specs.Compact.{counting, IsRemade, LeadBy}
use Rattle.compaction_laws.specs.Resuming.{records_since}
use Rattle.compaction_laws.proofs.Stepping.{to_kept}

-- transactions under the numbers behind one
abbrev pub numbered : ℕ → List Transaction → List Numbered
numbered number [] = []
numbered number (t ∷ ts) = record { number = number + 1; transaction = t } ∷ numbered (number + 1) ts

numbered_payloads : (number : ℕ) (ts : List Transaction) → payloads (numbered number ts) ≡ payloads_behind number ts
numbered_payloads number [] = refl
numbered_payloads number (t ∷ ts) =
    ap (λ (ps : List (List ℕ)). record_bytes (number + 1) t ∷ ps) (numbered_payloads (number + 1) ts)

-- all records
abbrev pub all_since : State → List Transaction → List Numbered
all_since s ts = s.live ++ numbered s.transactions ts

pub since_payloads : (s : State) (ts : List Transaction) → payloads (all_since s ts) ≡ records_since s ts
since_payloads s ts =
    map-append (λ (n : Numbered). record_bytes n.number n.transaction) s.live (numbered s.transactions ts)
    ∙ ap (λ (ps : List (List ℕ)). payloads s.live ++ ps) (numbered_payloads s.transactions ts)

-- ---- records that were made

-- a record is made again, as a kept one, or it is the next one behind them
abbrev pub IsMade : ℕ → State → Numbered → Type 0
IsMade kept s n =
    (IsRemade s n × (s.transactions ≡ kept))
    ⊎ ((command : Command) × IsVerdict s command (Do n.transaction) × (n.number ≡ s.transactions + 1)
    × (kept ≤ s.transactions))

-- records were made, one after the other
abbrev pub AreMade : ℕ → State → List Numbered → State → Type 0
AreMade kept s [] s' = s' ≡ s
AreMade kept s (n ∷ ns) s' =
    (mid : State) × IsMade kept s n × StepsAs n.number s n.transaction mid × AreMade kept mid ns s'

made_again : (kept : ℕ) (ns : List Numbered) (s s' : State) → s.transactions ≡ kept → LeadBy IsRemade s ns s'
    → AreMade kept s ns s'
made_again kept [] s s' count all = all
made_again kept (n ∷ ns) s s' count (mid, is, steps, others) =
    let stands = to_kept s n is.placed mid steps in
    let stays : mid.transactions ≡ s.transactions = ap (λ (x : State). x.transactions) stands.next in
    (mid, inl (is, count), steps, made_again kept ns mid s' (stays ∙ count) others)

next_steps : (s mid : State) (t : Transaction) → Steps s t mid → StepsAs (s.transactions + 1) s t mid
next_steps s mid t steps =
    let before : s.transactions + 1 - 1 ≡ s.transactions = omega arith in
    let count : mid.transactions ≡ s.transactions + 1 = ap (λ (x : State). x.transactions) steps.next in
    let most : max (s.transactions + 1) s.transactions ≡ mid.transactions = omega (arith, count) in (
      mid,
      subst (λ (k : ℕ). Steps (record s { transactions = k }) t mid) (sym before) steps,
      ap (λ (k : ℕ). record mid { transactions = k }) (sym most),
    )

made_next : (kept : ℕ) (ts : List Transaction) (s s' : State) → kept ≤ s.transactions → MadeByCommands s ts s'
    → AreMade kept s (numbered s.transactions ts) s'
made_next kept [] s s' few made = made
made_next kept (t ∷ ts) s s' few (command, mid, judged, steps, others) =
    let count : mid.transactions ≡ s.transactions + 1 = ap (λ (x : State). x.transactions) steps.next in (
      mid,
      inr (command, judged, refl, few),
      next_steps s mid t steps,
      subst (λ (k : ℕ). AreMade kept mid (numbered k ts) s') count
          (made_next kept ts mid s' (omega (arith, few, count)) others),
    )

more_made : (kept : ℕ) (ns ms : List Numbered) (s mid s' : State) → AreMade kept s ns mid → AreMade kept mid ms s'
    → AreMade kept s (ns ++ ms) s'
more_made kept [] ms s mid s' first others = subst (λ (x : State). AreMade kept x ms s') first others
more_made kept (n ∷ ns) ms s mid s' (next, is, steps, first) others =
    (next, is, steps, more_made kept ns ms next mid s' first others)

pub since_made : (s x s' : State) (ts : List Transaction) → x.transactions ≡ s.transactions → LeadBy IsRemade x s.live s
    → MadeByCommands s ts s' → AreMade s.transactions x (all_since s ts) s'
since_made s x s' ts count kept made =
    more_made s.transactions s.live (numbered s.transactions ts) x s s'
    (made_again s.transactions s.live x s count kept) (made_next s.transactions ts s s' (omega arith) made)

pub states_made : (kept : ℕ) (ns : List Numbered) (s s' : State) → AreMade kept s ns s' → StateOf s ns s'
states_made kept [] s s' all = all
states_made kept (n ∷ ns) s s' (mid, is, steps, others) = (mid, steps, states_made kept ns mid s' others)

-- ---- limit, codes and ranges

limit_stays : (number : ℕ) (s mid : State) (t : Transaction) → StepsAs number s t mid → mid.limit ≡ s.limit
limit_stays number s mid t (next, steps, same) =
    ap (λ (x : State). x.limit) same ∙ ap (λ (x : State). x.limit) steps.next

pub step_codes : (kept : ℕ) (s mid : State) (n : Numbered) → IsMade kept s n → StepsAs n.number s n.transaction mid
    → HaveCodes (templates s) → HaveCodes (templates mid)
step_codes kept s mid n (inl (is, count)) (next, steps, same) coded =
    let x = counting (n.number - 1) is.last s in
    let y = after steps.added n.transaction x in
    subst HaveCodes (sym (ap templates same ∙ ap templates steps.next))
    (made_codes x (n.transaction ∷ []) y
    (is.command, y, is.judged, record { added = steps.added; adds = steps.adds; next = refl }, refl) coded)
step_codes kept s mid n (inr (command, judged, number, few)) (next, steps, same) coded =
    let y = after steps.added n.transaction s in
    subst HaveCodes (sym (ap templates same ∙ ap templates steps.next))
    (made_codes s (n.transaction ∷ []) y
    (command, y, judged, record { added = steps.added; adds = steps.adds; next = refl }, refl) coded)

-- a record is in range
abbrev pub Ranged : Numbered → Type 0
Ranged n = IsInRange n.number n.transaction

-- the parts of its transaction are
abbrev pub Fits : Numbered → Type 0
Fits n = TransactionFits n.transaction

number_ranged : (kept : ℕ) (s : State) (n : Numbered) → s.limit < 2 ^ 64 → IsMade kept s n → Fits n → Ranged n
number_ranged kept s n limit (inl (is, count)) fits =
    let room : n.number - 1 < s.limit =
    verdict_room (counting (n.number - 1) is.last s) is.command n.transaction is.judged in
    let least = is.placed.least in
    ((least, omega (arith, room, limit, least)), fits)
number_ranged kept s n limit (inr (command, judged, number, few)) fits =
    let room : s.transactions < s.limit = verdict_room s command n.transaction judged in
    ((omega (arith, number), omega (arith, room, limit, number)), fits)

pub all_ranged : (kept : ℕ) (ns : List Numbered) (s s' : State) → s.limit < 2 ^ 64 → AreMade kept s ns s' → All Fits ns
    → All Ranged ns
all_ranged kept [] s s' limit made fits = All-nil Ranged
all_ranged kept (n ∷ ns) s s' limit (mid, is, steps, others) fits =
    All-cons Ranged n ns (number_ranged kept s n limit is (All-head Fits n ns fits))
    (all_ranged kept ns mid s'
    (subst (λ (k : ℕ). k < 2 ^ 64) (sym (limit_stays n.number s mid n.transaction steps)) limit)
    others (All-tail Fits n ns fits))

numbered_fit : (number : ℕ) (ts : List Transaction) → All TransactionFits ts → All Fits (numbered number ts)
numbered_fit number [] fits = All-nil Fits
numbered_fit number (t ∷ ts) fits =
    All-cons Fits (record { number = number + 1; transaction = t }) (numbered (number + 1) ts)
    (All-head TransactionFits t ts fits) (numbered_fit (number + 1) ts (All-tail TransactionFits t ts fits))

pub since_fit : (s : State) (ts : List Transaction) → All Fits s.live → All TransactionFits ts
    → All Fits (all_since s ts)
since_fit s ts kept fits =
    All-append Fits s.live (numbered s.transactions ts) kept (numbered_fit s.transactions ts fits)

-- ---- live transactions

left_fit : (p : Numbered → Bool) (ns : List Numbered) → All Fits ns → All Fits (filter p ns)
left_fit p [] fits = fits
left_fit p (n ∷ ns) fits = go (p n) (left_fit p ns (All-tail Fits n ns fits))
  where
    go : (keeps : Bool) → All Fits (filter p ns) → All Fits (cond keeps (n ∷ filter p ns) (filter p ns))
    go true rest = All-cons Fits n (filter p ns) (All-head Fits n ns fits) rest
    go false rest = rest

live_fit : (s : State) (t : Transaction) → TransactionFits t → All Fits s.live → (o : Option ℕ)
    → All Fits (live_by o (s.transactions + 1) t s.live)
live_fit s t fit fits None =
    let n : Numbered = record { number = s.transactions + 1; transaction = t } in
    All-append Fits s.live (n ∷ []) fits (All-cons Fits n [] fit (All-nil Fits))
live_fit s t fit fits (Some root) = left_fit (λ n. not (is_root root (root_about n.transaction))) s.live fits

pub history_fits : (ts : List Transaction) (s s' : State) → All Fits s.live → MadeByCommands s ts s'
    → All TransactionFits ts → All Fits s'.live
history_fits [] s s' fits made all = subst (λ (x : State). All Fits x.live) (sym made) fits
history_fits (t ∷ ts) s s' fits (command, mid, judged, steps, others) all =
    let now = live_fit s t (All-head TransactionFits t ts all) fits (deleted t) in
    history_fits ts mid s' (subst (λ (x : State). All Fits x.live) (sym steps.next) now) others
    (All-tail TransactionFits t ts all)

-- ---- a cut

-- records cut at one of them, by their payloads
pub record Cut (ns : List Numbered) (front : List (List ℕ)) (payload : List ℕ) (behind : List (List ℕ)) : Type 0 where
  pub before : List Numbered
  pub here : Numbered
  pub rest : List Numbered
  pub split : ns ≡ before ++ here ∷ rest
  pub front_is : payloads before ≡ front
  pub here_is : record_bytes here.number here.transaction ≡ payload
  pub behind_is : payloads rest ≡ behind

pub first_is : (x y : List ℕ) (xs ys : List (List ℕ)) → x ∷ xs ≡ y ∷ ys → x ≡ y
first_is x y xs ys is = cc

pub rest_is : (x y : List ℕ) (xs ys : List (List ℕ)) → x ∷ xs ≡ y ∷ ys → xs ≡ ys
rest_is x y xs ys is = cc

pub nothing_is : (x : List ℕ) (xs : List (List ℕ)) → [] ≡ x ∷ xs → ⊥
nothing_is x xs is = cc

pub cut : (ns : List Numbered) (front : List (List ℕ)) (payload : List ℕ) (behind : List (List ℕ))
    → payloads ns ≡ front ++ payload ∷ behind → Cut ns front payload behind
cut [] [] payload behind is = absurd (nothing_is payload behind is)
cut [] (x ∷ front) payload behind is = absurd (nothing_is x (front ++ payload ∷ behind) is)
cut (n ∷ ns) [] payload behind is = record {
  before = [];
  here = n;
  rest = ns;
  split = refl;
  front_is = refl;
  here_is = first_is (record_bytes n.number n.transaction) payload (payloads ns) behind is;
  behind_is = rest_is (record_bytes n.number n.transaction) payload (payloads ns) behind is;
}
cut (n ∷ ns) (x ∷ front) payload behind is =
    let first = first_is (record_bytes n.number n.transaction) x (payloads ns) (front ++ payload ∷ behind) is in
    let more = cut ns front payload behind
    (rest_is (record_bytes n.number n.transaction) x (payloads ns) (front ++ payload ∷ behind) is) in
    record {
      before = n ∷ more.before;
      here = more.here;
      rest = more.rest;
      split = ap (λ (ms : List Numbered). n ∷ ms) more.split;
      front_is = ap (λ (p : List ℕ). p ∷ payloads more.before) first
          ∙ ap (λ (ps : List (List ℕ)). x ∷ ps) more.front_is;
      here_is = more.here_is;
      behind_is = more.behind_is;
    }

-- the state at a cut
pub record MadeAt (kept : ℕ) (s : State) (before : List Numbered) (here : Numbered) : Type 0 where
  pub mid : State
  pub state : StateOf s before mid
  pub is : IsMade kept mid here
  pub coded : HaveCodes (templates s) → HaveCodes (templates mid)

pub made_at : (kept : ℕ) (before : List Numbered) (here : Numbered) (rest : List Numbered) (s s' : State)
    → AreMade kept s (before ++ here ∷ rest) s' → MadeAt kept s before here
made_at kept [] here rest s s' (next, is, steps, others) =
    record { mid = s; state = refl; is = is; coded = λ coded. coded }
made_at kept (n ∷ before) here rest s s' (next, is, steps, others) =
    let more = made_at kept before here rest next s' others in
    record {
      mid = more.mid;
      state = (next, steps, more.state);
      is = more.is;
      coded = λ coded. more.coded (step_codes kept s next n is steps coded);
    }

-- what holds of each record holds before a cut, and there
pub ranged_before : (before : List Numbered) (here : Numbered) (rest : List Numbered)
    → All Ranged (before ++ here ∷ rest)
    → All Ranged before × Ranged here
ranged_before [] here rest all = (All-nil Ranged, All-head Ranged here rest all)
ranged_before (n ∷ before) here rest all =
    let more = ranged_before before here rest (All-tail Ranged n (before ++ here ∷ rest) all) in
    (All-cons Ranged n before (All-head Ranged n (before ++ here ∷ rest) all) more.0, more.1)
