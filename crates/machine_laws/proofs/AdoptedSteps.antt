-- What a call that adopts a record says, whole, is a step of the machine under the number of the record.
use Rattle.std.proofs.Common.{◌≡◌, inl, inr, ℕ, ◌+◌, ◌-◌, ◌≤◌, max, List, Option, Some, None, IfSome}
use Rattle.std.proofs.Common.{refl, sym, ap, subst, ◌∙◌, arith}
use Rattle.std.proofs.lemmas.Bool.{lt-leb, le-leb}
use Rattle.core_laws.specs.RightStates.{IsRightState}
use Rattle.flow_core.specs.Admitting.{IsPlace, IsKeptNumber, IsNextNumber}
use Rattle.flow_core.specs.Allowing.{IsAsked, IsAllowed, IsFree, IsOpen}
use Rattle.flow_core.specs.Driving.{item_of, ChangesRoots, Drives}
use Rattle.flow_core.specs.Shelving.{IsExact, CompletesExactly, performer_named}
use Rattle.flow_core.specs.Keys.{KeysAfter}
use Rattle.flow_core.proofs.HeldKeys.{keys_around}
use Rattle.flow_core.specs.Summaries.{Summary, summary, next, started, root_about, with_transaction}
use Rattle.flow_core.specs.declared.state.Core.{Core}
use Rattle.flow_model.specs.declared.instances.Message.{Message}
use Rattle.flow_model.specs.declared.instances.Path.{Path}
use Rattle.flow_model.specs.declared.names.Name.{Name}
use Rattle.flow_model.specs.declared.transactions.Setting.{Setting}
use Rattle.flow_model.specs.declared.transactions.Transaction.{Transaction}
use Rattle.flow_model.specs.declared.transactions.Transaction.TheVariants.{Import, Start, Turn, Claim, Release}
use Rattle.flow_model.specs.declared.transactions.Transaction.TheVariants.{Transfer, Take, Done, Force, Restart}
use Rattle.flow_model.specs.declared.transactions.Transaction.TheVariants.{Suspend, Resume, Terminate, Delete, Clock}
use Rattle.machine.specs.Steps.{Steps}
use Rattle.navigator.specs.Items.{Entry}
use Rattle.view_laws.specs.Runs.{Event}
use Rattle.machine_laws.specs.Applied.{Adopted, IsGood}
use Rattle.machine_laws.specs.Right.{HoldsOpen}
use Rattle.machine.specs.Scripts.{StepsAs}
use Rattle.machine_laws.specs.Viewed.{view}
use Rattle.machine_laws.proofs.AppliedSteps.{applied_step}

-- ---- a state under another number: all that is asked of it, but the count, is so as before

-- the state as if this many transactions had come, all of which were kept
abbrev renumbered : ℕ → Core → Core
renumbered n c = record c { number = n; kept = n }

module _ (c : Core) (n : ℕ) where
  open_then : (item : Path) → IsOpen c item → IsOpen (renumbered n c) item
  open_then item is = record {
    root = is.root;
    live = is.live;
    runs = is.runs;
    item = is.item;
    there = is.there;
    unended = is.unended;
  }

  asked_then : (t : Transaction) → IsAsked c t → IsAsked (renumbered n c) t
  asked_then (Import text) is = is
  asked_then (Start root process version starter key settings) is = tt
  asked_then (Turn queue message) is = is
  asked_then (Claim item who) is = tt
  asked_then (Release item who) is = tt
  asked_then (Transfer item who to) is = tt
  asked_then (Take item take) is = tt
  asked_then (Done item who settings) is = open_then item is
  asked_then (Force item settings) is = open_then item is
  asked_then (Restart item) is = tt
  asked_then (Suspend root) is = tt
  asked_then (Resume root) is = tt
  asked_then (Terminate root) is = tt
  asked_then (Delete root) is = tt
  asked_then (Clock minutes) is = tt

  holds_then : (t : Transaction) → HoldsOpen c t → HoldsOpen (renumbered n c) t
  holds_then (Import text) is = tt
  holds_then (Start root process version starter key settings) is = tt
  holds_then (Turn queue message) is = tt
  holds_then (Claim item who) is = open_then item is
  holds_then (Release item who) is = open_then item is
  holds_then (Transfer item who to) is = open_then item is
  holds_then (Take item take) is = open_then item is
  holds_then (Done item who settings) is = tt
  holds_then (Force item settings) is = tt
  holds_then (Restart item) is = open_then item is
  holds_then (Suspend root) is = tt
  holds_then (Resume root) is = tt
  holds_then (Terminate root) is = tt
  holds_then (Delete root) is = tt
  holds_then (Clock minutes) is = tt

  good_then : (t : Transaction) → IsGood c t → IsGood (renumbered n c) t
  good_then (Import text) is = is
  good_then (Start root process version starter key settings) is = is
  good_then (Turn queue message) is = tt
  good_then (Claim item who) is = tt
  good_then (Release item who) is = tt
  good_then (Transfer item who to) is = tt
  good_then (Take item take) is = tt
  good_then (Done item who settings) is = tt
  good_then (Force item settings) is = tt
  good_then (Restart item) is = tt
  good_then (Suspend root) is = tt
  good_then (Resume root) is = tt
  good_then (Terminate root) is = tt
  good_then (Delete root) is = tt
  good_then (Clock minutes) is = tt

  -- while kept records are taken up, the same numbers of roots are free
  free_then : (root : ℕ) → IsFree c root → IsFree (renumbered n c) root
  free_then root (inl is) = inl is
  free_then root (inr is) = let same : n ≤ n = omega arith in inr (same, is.1)

  free_now : (root : ℕ) → c.number ≤ c.kept → IsFree (renumbered n c) root → IsFree c root
  free_now root le (inl is) = inl is
  free_now root le (inr is) = inr (le, is.1)

  allowed_then : (t : Transaction) → IsAllowed c t → IsAllowed (renumbered n c) t
  allowed_then t is = record { asked = asked_then t is.asked; free = go (started t) is.free }
    where
      go : (o : Option ℕ) → IfSome o (IsFree c) → IfSome o (IsFree (renumbered n c))
      go None free = tt
      go (Some root) free = free_then root free

  right_then : (runs : ℕ → List Event) → c.number ≤ c.kept → IsRightState c runs → IsRightState (renumbered n c) runs
  right_then runs le right = record {
    are = λ root i live. record { number = (right.are root i live).number; right = (right.are root i live).right };
    told = record {
      told = λ root i live. record {
        began = (right.told.told root i live).began;
        items = (right.told.told root i live).items;
        facts = (right.told.told root i live).facts;
      };
      untold = λ root free. record {
        unbegun = (right.told.untold root (free_now root le free)).unbegun;
        items = (right.told.untold root (free_now root le free)).items;
      };
    };
    counted = λ root free. record {
      absent = (right.counted root (free_now root le free)).absent;
      unqueued = (right.counted root (free_now root le free)).unqueued;
    };
    kept = (let same : n ≤ n = omega arith in same);
    queued = right.queued;
    sound = right.sound;
  }

-- ---- what a transaction does, under other numbers

module _ (c c' : Core) (n n' : ℕ) where
  roots_then : (t : Transaction) (given : List Message) (o : Option ℕ) → ChangesRoots c t given o c'
      → ChangesRoots (renumbered n c) t given o (renumbered n' c')
  roots_then t given None so = so
  roots_then t given (Some root) so = record { here = so.here; others = so.others }

  drives_then : (t : Transaction) → Drives c t c' → Drives (renumbered n c) t (renumbered n' c')
  drives_then t so = record {
    given = so.given;
    roots = roots_then t so.given (root_about t) so.roots;
    queues = so.queues;
    library = so.library;
  }

  completes_then : (item : Path) (performer : Option Name) (settings : List Setting) (o : Option Entry)
      → CompletesExactly c item performer settings o c'
      → CompletesExactly (renumbered n c) item performer settings o (renumbered n' c')
  completes_then item performer settings None so = tt
  completes_then item performer settings (Some e) so = record {
    given = so.given;
    items = so.items;
    roots = record { here = so.roots.here; others = so.roots.others };
    completes = so.completes;
    queues = so.queues;
  }

  exact_then : (t : Transaction) → IsExact c t c' → IsExact (renumbered n c) t (renumbered n' c')
  exact_then (Import text) so = tt
  exact_then (Start root process version starter key settings) so = so
  exact_then (Turn number message) so = record {
    given = so.given;
    items = so.items;
    roots = record { here = so.roots.here; others = so.roots.others };
    takes = so.takes;
    queues = so.queues;
  }
  exact_then (Claim item who) so = tt
  exact_then (Release item who) so = tt
  exact_then (Transfer item who to) so = tt
  exact_then (Take item take) so = tt
  exact_then (Done item who settings) so = completes_then item (performer_named who) settings (item_of c item) so
  exact_then (Force item settings) so = completes_then item None settings (item_of c item) so
  exact_then (Restart item) so = tt
  exact_then (Suspend root) so = tt
  exact_then (Resume root) so = tt
  exact_then (Terminate root) so = tt
  exact_then (Delete root) so = tt
  exact_then (Clock minutes) so = tt

  keys_then : (t : Transaction) → KeysAfter c t c' → KeysAfter (renumbered n c) t (renumbered n' c')
  keys_then t so = keys_around (renumbered n c) c c' (renumbered n' c') refl refl refl refl refl t so

-- ---- the step

-- a summary under another number of transactions
abbrev counting : ℕ → Summary → Summary
counting number s = record {
  queues = s.queues;
  limit = s.limit;
  transactions = number;
  roots = s.roots;
  live = s.live;
}

module _ (c c' : Core) (number : ℕ) (t : Transaction) (runs : ℕ → List Event) (right : IsRightState c runs)
    (is : IsAllowed c t) (opens : HoldsOpen c t) (good : IsGood c t) (adopted : Adopted c number t c') where
  -- a record that was kept: the step is made in the state under the number before its own
  kept_step : IsKeptNumber c number → StepsAs number (view c) t (view c')
  kept_step place =
      let le : c.number ≤ c.kept = omega (arith, place.2) in
      let from = renumbered (number - 1) c in
      let to = renumbered number c' in
      let one : number - 1 + 1 ≡ number = omega (arith, place.1) in
      let came : summary to ≡ next t (summary from) =
      ap (counting number) adopted.taken ∙ ap (λ (k : ℕ). with_transaction k k t (summary c)) (sym one) in
      let kept_count : c'.number ≡ c.number =
      ap (λ (s : Summary). s.transactions) adopted.taken ∙ (rw (le-leb number c.kept place.0) refl) in
      let count : c'.number ≡ max number c.number = omega (arith, kept_count, place.0, place.2) in (
        view to,
        applied_step from to runs (right_then c (number - 1) runs le right) t (allowed_then c (number - 1) t is)
            (holds_then c (number - 1) t opens) (good_then c (number - 1) t good)
            (record {
              drives = drives_then c c' (number - 1) number t adopted.drives;
              came = came;
              clock = adopted.clock;
              store = adopted.store;
              keys = keys_then c c' (number - 1) number t adopted.keys;
              exact = exact_then c c' (number - 1) number t adopted.exact;
            }),
        ap (λ (k : ℕ). record (view c') { transactions = k }) count,
      )

  -- the next transaction
  next_step : IsNextNumber c number → StepsAs number (view c) t (view c')
  next_step place =
      let same : number - 1 ≡ c.number = omega (arith, place.2) in
      let came : summary c' ≡ next t (summary c) =
      adopted.taken
      ∙ (rw (lt-leb number c.kept place.0) (ap (λ (k : ℕ). with_transaction k k t (summary c)) place.2)) in
      let counted : c'.number ≡ c.number + 1 = ap (λ (s : Summary). s.transactions) came in
      let count : c'.number ≡ max number c.number = omega (arith, counted, place.2) in
      let step = applied_step c c' runs right t is opens good
      (record {
        drives = adopted.drives;
        came = came;
        clock = adopted.clock;
        store = adopted.store;
        keys = adopted.keys;
        exact = adopted.exact;
      }) in (
        view c',
        subst (λ (k : ℕ). Steps (record (view c) { transactions = k }) t (view c')) (sym same) step,
        ap (λ (k : ℕ). record (view c') { transactions = k }) count,
      )

pub adopted_step : (c c' : Core) (number : ℕ) (t : Transaction) (runs : ℕ → List Event) → IsRightState c runs
    → IsAllowed c t → HoldsOpen c t → IsGood c t → IsPlace c number t → Adopted c number t c'
    → StepsAs number (view c) t (view c')
adopted_step c c' number t runs right is opens good (inl place) adopted =
    kept_step c c' number t runs right is opens good adopted place.0
adopted_step c c' number t runs right is opens good (inr place) adopted =
    next_step c c' number t runs right is opens good adopted place.0
