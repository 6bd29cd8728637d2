-- The records of a compact state: with other counts, without a root, and with one more.
use Rattle.std.proofs.Common.{◌≡◌, ◌⊎◌, ◌<◌, ◌≤◌, ℕ, ◌+◌, ◌-◌, ◌==◌, max, Bool, true, false, not, cond, if◌then◌else◌}
use Rattle.std.proofs.Common.{Option, Some, None, List, [], ◌∷◌, ◌++◌, length, refl, ap, sym, subst, ◌∙◌, arith, inl}
use Rattle.std.proofs.Common.{inr}
use Rattle.std.proofs.lemmas.List.{length-replicate}
use Rattle.std.specs.List.{filter}
use Rattle.std.specs.Prelude.{IfSome}
use Rattle.flow_core.specs.Summaries.{Summary}
use Rattle.flow_core.specs.declared.judging.Verdict.TheVariants.{Do}
use Rattle.flow_model.specs.declared.commands.Command.{Command}
use Rattle.flow_model.specs.declared.instances.Message.{Message}
use Rattle.flow_model.specs.declared.transactions.Numbered.{Numbered}
use Rattle.flow_model.specs.declared.transactions.Transaction.{Transaction}
use Rattle.flow_model.specs.declared.transactions.Transaction.TheVariants.{Start, Turn, Delete}
use Rattle.recover_queue.specs.Queues.{count_of_root}
use Rattle.machine.specs.Imports.{Added, nothing_added, with_added, Adds}
use Rattle.machine.specs.Queues.{taken_by}
use Rattle.machine.specs.Scripts.{StepsAs, StateOf}
use Rattle.machine.specs.States.{Root, State, blank, templates}
use Rattle.machine.specs.Steps.{root_about, is_root, roots_after, queue_then, given_by, queues_after, clock_after}
use Rattle.machine.specs.Steps.{live_by, deleted, started, last_root_by, after, Steps}
use Rattle.machine.specs.Verdicts.{IsVerdict}
use Rattle.machine.proofs.One.{step}
use Rattle.reopening_laws.specs.Making.{MadeByCommands}
use Rattle.compaction_laws.specs.Compact.{counting, IsInPlace, IsRemade, LeadBy, AreRising, counted_blank, IsCompact}
use Rattle.compaction_laws.specs.Compact.{IsMadeAnew, IsReadyFor}
use Rattle.compaction_laws.specs.Checkpoints.{summary_of}
use Rattle.compaction_laws.proofs.Forgetting.{is_apart, forget, same_test}
use Rattle.compaction_laws.proofs.Judged.{IsApart, StartsNext, ready, takes_front}
use Rattle.compaction_laws.proofs.Queues.{put_length, set_length, passing_none, all_pass, is_of_other}
use Rattle.compaction_laws.proofs.Stepping.{StandsAfter, to_kept, from_kept, counted_more, roots_counted}
use Rattle.compaction_laws.proofs.Stepping.{queues_counted}
use Rattle.compaction_laws.proofs.Stepping.{more_placed, more_remade, forgets_other, other_placed, other_remade}
use Rattle.compaction_laws.proofs.Stepping.{forgets_own, nothing_more}

-- ---- all records

-- records lead to a state, whatever holds of each
pub states_of : (P : State → Numbered → Type 0) (ns : List Numbered) (s s' : State) → LeadBy P s ns s' → StateOf s ns s'
states_of P [] s s' all = all
states_of P (n ∷ ns) s s' (mid, is, steps, others) = (mid, steps, states_of P ns mid s' others)

-- what holds of each record gives what is weaker
pub lead_by : (P Q : State → Numbered → Type 0) → ((s : State) (n : Numbered) → P s n → Q s n) → (ns : List Numbered)
    (s s' : State) → LeadBy P s ns s' → LeadBy Q s ns s'
lead_by P Q weaker [] s s' all = all
lead_by P Q weaker (n ∷ ns) s s' (mid, is, steps, others) =
    (mid, weaker s n is, steps, lead_by P Q weaker ns mid s' others)

-- one more record
pub one_more : (P : State → Numbered → Type 0) (ns : List Numbered) (n : Numbered) (s mid s' : State)
    → LeadBy P s ns mid
    → P mid n → StepsAs n.number mid n.transaction s' → LeadBy P s (ns ++ n ∷ []) s'
one_more P [] n s mid s' all is steps =
    subst (λ (x : State). LeadBy P x (n ∷ []) s') all (s', is, steps, refl)
one_more P (m ∷ ns) n s mid s' (next, was, first, others) is steps =
    (next, was, first, one_more P ns n next mid s' others is steps)

-- what may hold of records in their places: with more counted, and without a root it holds too
pub record IsLasting (P : State → Numbered → Type 0) : Type 0 where
  pub placed : (s : State) (n : Numbered) → P s n → IsInPlace s n
  pub more : (s : State) (n : Numbered) (a b : ℕ) → s.transactions ≤ a → s.last_root ≤ b → P s n → P (counting a b s) n
  pub apart : (r : ℕ) (s : State) (n : Numbered) → IsApart r n.transaction → P s n → P (forget r s) n

module _ (P : State → Numbered → Type 0) (lasts : IsLasting P) where
  -- with more transactions and roots counted
  pub recounted : (a b : ℕ) (ns : List Numbered) (s s' : State) → s.transactions ≤ a → s.last_root ≤ b
      → LeadBy P s ns s'
      → LeadBy P (counting a b s) ns (counting a b s')
  recounted a b [] s s' more more_roots all = ap (counting a b) all
  recounted a b (n ∷ ns) s s' more more_roots (mid, is, steps, others) =
      let stands = to_kept s n (lasts.placed s n is) mid steps in
      let again = lasts.more s n a b more more_roots is in
      let count : mid.transactions ≡ s.transactions = ap (λ (x : State). x.transactions) stands.next in
      let roots : mid.last_root ≡ s.last_root = ap (λ (x : State). x.last_root) stands.next in (
        counting a b mid,
        again,
        from_kept (counting a b s) n (lasts.placed (counting a b s) n again) (counting a b mid)
            (counted_more s mid n a b stands),
        recounted a b ns mid s' (subst (λ k. k ≤ a) (sym count) more) (subst (λ k. k ≤ b) (sym roots) more_roots)
            others,
      )

  -- without a root
  pub forgotten : (r : ℕ) (ns : List Numbered) (s s' : State) → LeadBy P s ns s'
      → LeadBy P (forget r s) (filter (is_apart r) ns) (forget r s')
  forgotten r [] s s' all = ap (forget r) all
  forgotten r (n ∷ ns) s s' (mid, is, steps, others) =
      go (forgotten r ns mid s' others) (is_root r (root_about n.transaction)) refl
    where
      stands : StandsAfter n s mid
      stands = to_kept s n (lasts.placed s n is) mid steps

      go : LeadBy P (forget r mid) (filter (is_apart r) ns) (forget r s') → (b : Bool)
          → is_root r (root_about n.transaction) ≡ b
          → LeadBy P (forget r s) (cond (not b) (n ∷ filter (is_apart r) ns) (filter (is_apart r) ns)) (forget r s')
      go more true about =
          subst (λ (x : State). LeadBy P x (filter (is_apart r) ns) (forget r s'))
          (forgets_own r n s mid about (lasts.placed s n is).front stands) more
      go more false apart =
          let again = lasts.apart r s n apart is in (
            forget r mid,
            again,
            from_kept (forget r s) n (lasts.placed (forget r s) n again) (forget r mid)
                (forgets_other r n s mid apart (lasts.placed s n is).front stands),
            more,
          )

pub places_last : IsLasting IsInPlace
places_last = record { placed = λ s n is. is; more = more_placed; apart = other_placed }

pub remade_lasts : IsLasting IsRemade
remade_lasts = record { placed = λ s n is. is.placed; more = more_remade; apart = other_remade }

-- ---- numbers that rise

-- records with some left out rise, from no greater number and root on
pub rising_left : (p : Numbered → Bool) (ns : List Numbered) (a b a' b' : ℕ) → a' ≤ a → b' ≤ b → AreRising a b ns
    → AreRising a' b' (filter p ns)
rising_left p [] a b a' b' less less_roots rising = tt
rising_left p (n ∷ ns) a b a' b' less less_roots (first, root, others) = go (p n)
    (rising_left p ns n.number (last_root_by (started n.transaction) b) n.number
    (last_root_by (started n.transaction) b') (omega arith) (more_roots (started n.transaction)) others)
    (rising_left p ns n.number (last_root_by (started n.transaction) b) a' b' (omega arith)
    (behind (started n.transaction)) others)
  where
    more_roots : (o : Option ℕ) → last_root_by o b' ≤ last_root_by o b
    more_roots None = less_roots
    more_roots (Some other) = omega arith

    behind : (o : Option ℕ) → b' ≤ last_root_by o b
    behind None = less_roots
    behind (Some other) = omega arith

    lower : (o : Option ℕ) → IfSome o (λ other. b < other) → IfSome o (λ other. b' < other)
    lower None above = tt
    lower (Some other) above = omega arith

    go : (keeps : Bool) → AreRising n.number (last_root_by (started n.transaction) b') (filter p ns)
        → AreRising a' b' (filter p ns) → AreRising a' b' (cond keeps (n ∷ filter p ns) (filter p ns))
    go true more rest = (omega arith, lower (started n.transaction) root, more)
    go false more rest = rest

-- with one record more they rise, where its number and its root are behind those that are counted
rising_more : (ns : List Numbered) (n : Numbered) (a b : ℕ) (s s' : State) → LeadBy IsInPlace s ns s'
    → s.transactions < n.number → IfSome (started n.transaction) (λ root. s.last_root < root) → a ≤ s.transactions
    → b ≤ s.last_root → AreRising a b ns → AreRising a b (ns ++ n ∷ [])
rising_more [] n a b s s' all number root less less_roots rising =
    (omega arith, above (started n.transaction) root, tt)
  where
    above : (o : Option ℕ) → IfSome o (λ other. s.last_root < other) → IfSome o (λ other. b < other)
    above None past = tt
    above (Some other) past = omega arith
rising_more (m ∷ ns) n a b s s' (mid, is, steps, others) number root less less_roots (first, next, more) =
    let stands = to_kept s m is mid steps in
    let count : mid.transactions ≡ s.transactions = ap (λ (x : State). x.transactions) stands.next in
    let roots : mid.last_root ≡ s.last_root = ap (λ (x : State). x.last_root) stands.next in
    let counted = is.counted in (
      first,
      next,
      rising_more ns n m.number (last_root_by (started m.transaction) b) mid s' others
          (omega (arith, number, count))
          (subst (λ (k : ℕ). IfSome (started n.transaction) (λ other. k < other)) (sym roots) root)
          (omega (arith, counted, count))
          (subst (λ (k : ℕ). last_root_by (started m.transaction) b ≤ k) (sym roots)
          (within (started m.transaction) s.last_root less_roots is.root)) more,
    )
  where
    within : (o : Option ℕ) (most : ℕ) → b ≤ most → last_root_by o most ≡ most → last_root_by o b ≤ most
    within None most low high = low
    within (Some other) most low high = omega arith

-- ---- a blank state

pub blank_anew : (queues limit transactions last : ℕ) → IsMadeAnew (counting transactions last (blank queues limit))
blank_anew queues limit transactions last =
    let none : List Message = [] in
    record {
      remade = ap (λ count. counting transactions last (blank count limit)) (sym (length-replicate queues none));
      rising = tt;
    }

pub anew_compact : (s : State) → IsMadeAnew s → IsCompact s
anew_compact s is = lead_by IsRemade IsInPlace (λ x n remade. remade.placed) s.live (counted_blank s) s is.remade

-- ---- one transaction more

taken_length : (t : Transaction) (s : State) → length (taken_by t s.queues) ≡ length s.queues
taken_length (Turn number message) s = set_length s.queues (number - 1) _
taken_length t s = refl

pub queues_length : (s : State) (t : Transaction) → length (queues_after s t) ≡ length s.queues
queues_length s t =
    put_length (queue_then (templates s) (length s.queues) (roots_after s t)) (given_by s t (root_about t))
    (taken_by t s.queues) ∙ taken_length t s

-- a transaction is a Delete, or none is deleted
deletes_or_not : (t : Transaction) → (deleted t ≡ None) ⊎ ((root : ℕ) × (t ≡ Delete root))
deletes_or_not (Delete root) = inr (root, refl)
deletes_or_not t = inl refl

module _ (s : State) (t : Transaction) where
  -- its record
  abbrev pub one : Numbered
  one = record { number = s.transactions + 1; transaction = t }

  -- the state, where the transaction is counted
  abbrev pub counted_one : State
  counted_one = counting (s.transactions + 1) (last_root_by (started t) s.last_root) s

  roots_more : s.last_root ≤ last_root_by (started t) s.last_root
  roots_more = go (started t)
    where
      go : (o : Option ℕ) → s.last_root ≤ last_root_by o s.last_root
      go None = omega arith
      go (Some root) = omega arith

  roots_stay : last_root_by (started t) (last_root_by (started t) s.last_root) ≡ last_root_by (started t) s.last_root
  roots_stay = go (started t)
    where
      go : (o : Option ℕ) → last_root_by o (last_root_by o s.last_root) ≡ last_root_by o s.last_root
      go None = refl
      go (Some root) = omega arith

  pub one_placed : deleted t ≡ None → IsReadyFor s t → IsInPlace counted_one one
  one_placed stays ready = record {
    least = omega arith;
    counted = omega arith;
    stays = stays;
    root = roots_stay;
    front = takes_front s t ready;
  }

  pub one_remade : deleted t ≡ None → (command : Command) → IsVerdict s command (Do t) → IsRemade counted_one one
  one_remade stays command judged =
      let before : s.transactions + 1 - 1 ≡ s.transactions = omega arith in
      record {
        placed = one_placed stays (ready s t command judged).0;
        last = s.last_root;
        command = command;
        judged = subst (λ k. IsVerdict (counting k s.last_root s) command (Do t)) (sym before) judged;
      }

  module _ (added : Added) (adds : Adds s.library t added) where
    one_stands : deleted t ≡ None → StandsAfter one counted_one (after added t s)
    one_stands stays = record {
      added = added;
      adds = adds;
      next = λ i. record {
        library = with_added added s.library;
        clock = clock_after t s.clock;
        roots = roots_counted s (s.transactions + 1) (last_root_by (started t) s.last_root) t i;
        queues = queues_counted s (s.transactions + 1) (last_root_by (started t) s.last_root) t i;
        live = live_by (stays i) (s.transactions + 1) t s.live;
        limit = s.limit;
        transactions = s.transactions + 1;
        last_root = last_root_by (started t) s.last_root;
      };
    }

    -- a transaction that is no Delete is one record more
    pub stays_led : (P : State → Numbered → Type 0) → IsLasting P → deleted t ≡ None → P counted_one one
        → LeadBy P (counted_blank s) s.live s
        → LeadBy P (counted_blank (after added t s)) (after added t s).live (after added t s)
    stays_led P lasts stays is led =
        let z = after added t s in
        let roots = last_root_by (started t) s.last_root in
        let more = recounted P lasts (s.transactions + 1) roots s.live (counted_blank s) s (omega arith) roots_more
        led in
        let all = one_more P s.live one (counting (s.transactions + 1) roots (counted_blank s)) counted_one z more is
        (from_kept counted_one one (lasts.placed counted_one one is) z (one_stands stays)) in
        subst (λ (count : ℕ). LeadBy P (counting (s.transactions + 1) roots (blank count s.limit))
        (live_by (deleted t) (s.transactions + 1) t s.live) z) (sym (queues_length s t))
        (subst (λ (o : Option ℕ). LeadBy P (counting (s.transactions + 1) roots (counted_blank s))
        (live_by o (s.transactions + 1) t s.live) z) (sym stays) all)

-- a record that is in its place behind a state goes on with its live transactions
pub kept_led : (P : State → Numbered → Type 0) → IsLasting P → (s s' : State) (n : Numbered) → P s n
    → StepsAs n.number s n.transaction s' → LeadBy P (counted_blank s) s.live s
    → LeadBy P (counted_blank s') s'.live s'
kept_led P lasts s s' n is steps led =
    let stands = to_kept s n (lasts.placed s n is) s' steps in
    let all = one_more P s.live n (counted_blank s) s s' led is steps in
    subst (λ (x : State). LeadBy P (counted_blank x) x.live s') (sym stands.next)
    (subst (λ (count : ℕ). LeadBy P (counting s.transactions s.last_root (blank count s.limit)) (s.live ++ n ∷ []) s')
    (sym (queues_length s n.transaction)) all)

-- ---- a Delete

abbrev no_root : Option Root
no_root = None

none_either : (b : Bool) → (if b then no_root else no_root) ≡ no_root
none_either true = refl
none_either false = refl

-- a blank state has nothing to forget
blank_forgotten : (r queues limit a b : ℕ)
    → forget r (counting a b (blank queues limit)) ≡ counting a b (blank queues limit)
blank_forgotten r queues limit a b = λ i. record (counting a b (blank queues limit)) {
  roots = λ root. none_either (root == r) i;
  queues = passing_none (is_of_other r) queues i;
}

-- after a Delete the state is the one without its root
deleted_is : (s : State) (r : ℕ) (added : Added) → added ≡ nothing_added → count_of_root r s.queues ≡ 0
    → counting (s.transactions + 1) s.last_root (forget r s) ≡ after added (Delete r) s
deleted_is s r added none quiet = λ i. record {
  library = sym (nothing_more added s.library none) i;
  clock = s.clock;
  roots = λ root. if same_test root r i then None else s.roots root;
  queues = all_pass r s.queues quiet i;
  live = filter (is_apart r) s.live;
  limit = s.limit;
  transactions = s.transactions + 1;
  last_root = s.last_root;
}

delete_led : (P : State → Numbered → Type 0) → IsLasting P → (s : State) (r : ℕ) (added : Added) → added ≡ nothing_added
    → count_of_root r s.queues ≡ 0 → LeadBy P (counted_blank s) s.live s
    → LeadBy P (counted_blank (after added (Delete r) s)) (after added (Delete r) s).live (after added (Delete r) s)
delete_led P lasts s r added none quiet led =
    let more = recounted P lasts (s.transactions + 1) s.last_root (filter (is_apart r) s.live)
    (forget r (counted_blank s))
    (forget r s) (omega arith) (omega arith) (forgotten P lasts r s.live (counted_blank s) s led) in
    subst (λ (x : State). LeadBy P x (filter (is_apart r) s.live) (after added (Delete r) s))
    (ap (counting (s.transactions + 1) s.last_root)
    (blank_forgotten r (length s.queues) s.limit s.transactions s.last_root))
    (subst (λ (x : State). LeadBy P (counting (s.transactions + 1) s.last_root (forget r (counted_blank s)))
    (filter (is_apart r) s.live) x) (deleted_is s r added none quiet) more)

-- ---- a step

-- what holds of each live transaction goes on to hold, where it holds of the one that comes
step_led : (P : State → Numbered → Type 0) → IsLasting P → (s s' : State) (t : Transaction)
    → (deleted t ≡ None → P (counted_one s t) (one s t)) → IsReadyFor s t → Steps s t s'
    → LeadBy P (counted_blank s) s.live s → LeadBy P (counted_blank s') s'.live s'
step_led P lasts s s' t new ready steps led =
    subst (λ (x : State). LeadBy P (counted_blank x) x.live x) (sym steps.next) (elim (deletes_or_not t) [
      | inl stays ↦ stays_led s t steps.added steps.adds P lasts stays (new stays) led
      | inr deletes ↦ of_delete deletes.0 deletes.1
    ])
  where
    of_delete : (root : ℕ) → t ≡ Delete root
        → LeadBy P (counted_blank (after steps.added t s)) (after steps.added t s).live (after steps.added t s)
    of_delete root same =
        subst (λ (u : Transaction). LeadBy P (counted_blank (after steps.added u s)) (after steps.added u s).live
        (after steps.added u s)) (sym same)
        (delete_led P lasts s root steps.added
        (subst (λ (u : Transaction). Adds s.library u steps.added) same steps.adds)
        (subst (IsReadyFor s) same ready) led)

pub step_compact : (s s' : State) (t : Transaction) → IsCompact s → IsReadyFor s t → Steps s t s' → IsCompact s'
step_compact s s' t compact ready steps =
    step_led IsInPlace places_last s s' t (λ stays. one_placed s t stays ready) ready steps compact

-- the live transactions go on to rise
step_rising : (s s' : State) (t : Transaction) → LeadBy IsInPlace (counted_blank s) s.live s → StartsNext s t
    → Steps s t s'
    → AreRising 0 0 s.live → AreRising 0 0 s'.live
step_rising s s' t compact starts steps rising =
    subst (λ (x : State). AreRising 0 0 x.live) (sym steps.next) (go (deleted t))
  where
    next_root : (u : Transaction) → StartsNext s u → IfSome (started u) (λ root. s.last_root < root)
    next_root (Start root process version starter key settings) next = omega (arith, next)
    next_root u next = tt

    go : (o : Option ℕ) → AreRising 0 0 (live_by o (s.transactions + 1) t s.live)
    go None = rising_more s.live (one s t) 0 0 (counted_blank s) s compact (omega arith) (next_root t starts)
        (omega arith)
        (omega arith) rising
    go (Some root) = rising_left (is_apart root) s.live 0 0 0 0 (omega arith) (omega arith) rising

pub step_anew : (s s' : State) (command : Command) (t : Transaction) → IsMadeAnew s → IsVerdict s command (Do t)
    → Steps s t s' → IsMadeAnew s'
step_anew s s' command t anew judged steps =
    let finds = ready s t command judged in
    record {
      remade = step_led IsRemade remade_lasts s s' t (λ stays. one_remade s t stays command judged) finds.0 steps
          anew.remade;
      rising = step_rising s s' t (anew_compact s anew) finds.1 steps anew.rising;
    }

-- ---- a history

pub history_anew : (ts : List Transaction) (s s' : State) → IsMadeAnew s → MadeByCommands s ts s' → IsMadeAnew s'
history_anew [] s s' anew made = subst IsMadeAnew (sym made) anew
history_anew (t ∷ ts) s s' anew (command, mid, judged, steps, others) =
    history_anew ts mid s' (step_anew s mid command t anew judged steps) others

pub live_make : (queues limit : ℕ) (ts : List Transaction) (s : State) → MadeByCommands (blank queues limit) ts s
    → StateOf (counted_blank s) s.live s
live_make queues limit ts s made =
    states_of IsRemade s.live (counted_blank s) s
    (history_anew ts (blank queues limit) s (blank_anew queues limit 0 0) made).remade

-- ---- what the records of a compact state lead to

one_step : (s s' s'' : State) (n : Numbered) → StepsAs n.number s n.transaction s'
    → StepsAs n.number s n.transaction s''
    → s' ≡ s''
one_step s s' s'' n (next, steps, same) (other, goes, again) =
    same ∙ ap (λ (x : State). record x { transactions = max n.number s.transactions })
    (step (record s { transactions = n.number - 1 }) next other n.transaction steps goes) ∙ sym again

pub one_state : (ns : List Numbered) (s s' s'' : State) → StateOf s ns s' → StateOf s ns s'' → s' ≡ s''
one_state [] s s' s'' all other = all ∙ sym other
one_state (n ∷ ns) s s' s'' (mid, steps, all) (next, goes, others) =
    one_state ns next s' s'' (subst (λ (x : State). StateOf x ns s') (one_step s mid next n steps goes) all) others

pub live_one : (s s' : State) → IsCompact s → StateOf (counted_blank s) s.live s' → s' ≡ s
live_one s s' compact leads =
    one_state s.live (counted_blank s) s' s leads (states_of IsInPlace s.live (counted_blank s) s compact)

-- a summary is that of one compact state
pub compact_one : (s s' : State) → IsCompact s → IsCompact s' → summary_of s' ≡ summary_of s → s' ≡ s
compact_one s s' compact compact' same =
    live_one s s' compact
    (subst (λ (m : Summary). StateOf (counting m.transactions m.roots (blank m.queues m.limit)) m.live s') same
    (states_of IsInPlace s'.live (counted_blank s') s' compact'))
