-- Numbers above that of the roots so far stay unused.
use Rattle.std.proofs.Common.{◌≡◌, ℕ, ◌-◌, ◌≤◌, List, [], drop, length, Option, Some, None, refl, ap, sym, subst, ◌∙◌, inl, inr}
use Rattle.std.proofs.lemmas.Bool.Decides.{eqb_tells}
use Rattle.std.proofs.lemmas.List.{length-set}
use Rattle.std.proofs.lemmas.Option.{none-some}
use Rattle.std.specs.List.{filter}
use Rattle.std.specs.Prelude.{◌==◌, slice_get}
use Rattle.flow_core.specs.Allowing.{IsFree, CountsRoot}
use Rattle.flow_core.specs.Answers.{instance_of}
use Rattle.flow_core.specs.Driving.{templates, queue_now, put_in, IfLive, BecomesCompleted, item_of, ChangesRoot, Drives}
use Rattle.flow_core.specs.declared.state.Core.{Core}
use Rattle.flow_model.specs.declared.graphs.Template.{Template}
use Rattle.flow_model.specs.declared.instances.Message.{Message}
use Rattle.flow_model.specs.declared.instances.Path.{Path}
use Rattle.flow_model.specs.declared.transactions.Setting.{Setting}
use Rattle.flow_model.specs.declared.transactions.Transaction.{Transaction}
use Rattle.flow_model.specs.declared.transactions.Transaction.TheVariants.{Import, Start, Turn, Claim, Release, Transfer, Take, Done, Force, Restart, Suspend, Resume, Terminate, Delete, Clock}
use Rattle.library_laws.specs.Larger.{Agrees}
use Rattle.navigator.specs.Items.{Entry}
use Rattle.navigator.specs.declared.instance.Instance.{Instance}
use Rattle.recover_queue.specs.Queues.{queue, with_queue, root_of}
use Rattle.core_laws.proofs.Standing.{none_kept, front_of_root, taken_there}
use Rattle.core_laws.proofs.Staying.{stand_still, none_of, start_of}
use Rattle.core_laws.proofs.Asked.{AreOf, MayBe, KeepsStarts}
use Rattle.core_laws.specs.RightStates.{messages_in, IsUnused, AreCounted}

-- where a root isn't live nothing is given, and it isn't live after that
idle_live : (becomes : Instance → Instance → Type 0) (given : List Message) (before after : Option Instance) → IfLive becomes given before after
    → before ≡ None → (after ≡ None) × (given ≡ [])
idle_live becomes given None after is none = is
idle_live becomes given (Some i) after is none = absurd (none-some i (sym none))

idle_completed : (ts : List Template) (item : Path) (settings : List Setting) (given : List Message) (o : Option Entry) (before after : Option Instance)
    → BecomesCompleted ts item settings o given before after → before ≡ None → (after ≡ None) × (given ≡ [])
idle_completed ts item settings given None before after is none = (is.0 ∙ none, is.1)
idle_completed ts item settings given (Some e) before after is none = idle_live _ given before after is none

module _ (c c' : Core) (counted : AreCounted c) where
  -- all numbers, by what happens to the one that a transaction is about
  by_root : (about : ℕ) (given : List Message) (qs : List (List Message)) (becomes : Option Instance → Option Instance → Type 0) → ChangesRoot about becomes c c'
      → c'.queues ≡ put_in (queue_now c') given qs → length qs ≡ length c.queues → 1 ≤ length c.queues → Agrees (templates c) (templates c') → KeepsStarts c c' → AreOf about given
      → ((other : ℕ) → (other ≡ about → ⊥) → (n : ℕ) → messages_in qs other n ≡ messages_in c.queues other n)
      → ((root : ℕ) → IsFree c' root → IsFree c root) → (IsFree c' about → IsUnused c about → IsUnused c' about) → AreCounted c'
  by_root about given qs becomes changes queues many some_ library starts of left still here root free = elim (eqb_tells about root) [
    | inl is ↦
        subst (λ r. IsUnused c' r) is.1
        (here (subst (λ r. IsFree c' r) (sym is.1) free) (subst (λ r. IsUnused c r) (sym is.1) (counted root (still root free))))
    | inr other ↦
        let apart : root ≡ about → ⊥ = λ e. other.1 (sym e) in
        let unused : IsUnused c root = counted root (still root free) in
        record {
          absent = changes.others root apart ∙ unused.absent;
          unqueued = λ n. stand_still c c' given qs queues many some_ library starts root (none_kept about root apart given of) (left root apart) n ∙ unused.unqueued n;
        }
  ]

  -- a transaction about a root, that takes no message, and gives none where the root isn't live
  on_root : (about : ℕ) (given : List Message) (becomes : Option Instance → Option Instance → Type 0) → ChangesRoot about becomes c c'
      → c'.queues ≡ put_in (queue_now c') given c.queues → 1 ≤ length c.queues → Agrees (templates c) (templates c') → KeepsStarts c c' → AreOf about given → ((root : ℕ) → IsFree c' root → IsFree c root)
      → (instance_of c about ≡ None → (instance_of c' about ≡ None) × (given ≡ [])) → AreCounted c'
  on_root about given becomes changes queues some_ library starts of still idle =
      by_root about given c.queues becomes changes queues refl some_ library starts of (λ other apart n. refl) still (λ free unused.
      let none = idle unused.absent in
      record {
        absent = none.0;
        unqueued = λ n. stand_still c c' given c.queues queues refl some_ library starts about (ap (filter (λ m. root_of m == about)) none.1) (λ k. refl) n ∙ unused.unqueued n;
      })

  on_none : (given : List Message) → ((root : ℕ) → instance_of c' root ≡ instance_of c root) → given ≡ [] → c'.queues ≡ put_in (queue_now c') given c.queues
      → 1 ≤ length c.queues → Agrees (templates c) (templates c') → KeepsStarts c c' → ((root : ℕ) → IsFree c' root → IsFree c root) → AreCounted c'
  on_none given same none queues some_ library starts still root free =
      let unused : IsUnused c root = counted root (still root free) in
      record {
        absent = same root ∙ unused.absent;
        unqueued = λ n. stand_still c c' given c.queues queues refl some_ library starts root (ap (filter (λ m. root_of m == root)) none) (λ k. refl) n ∙ unused.unqueued n;
      }

  -- no message of an unused number is taken
  not_taken : (number : ℕ) (message : Message) → 1 ≤ number → slice_get (queue c.queues number) 0 ≡ Some message → IsUnused c (root_of message) → ⊥
  not_taken number message low front unused =
      none-some message (sym (ap (λ l. slice_get l 0) (unused.unqueued number)) ∙ front_of_root (root_of message) c.queues number message low front refl)

  pub stays_counted : (t : Transaction) (drives : Drives c t c') → MayBe c t drives.given c' → c.kept ≤ c.number → CountsRoot c t c' → AreCounted c'
  stays_counted (Import text) drives may kept counts = on_none drives.given drives.roots.0 drives.roots.1 drives.queues may.queued may.library may.starts counts.free
  stays_counted (Start root process version starter key settings) drives may kept counts =
      by_root root drives.given c.queues _ drives.roots drives.queues refl may.queued may.library may.starts
      (start_of (templates c) root process version starter settings drives.given (instance_of c root) (instance_of c' root) drives.roots.here) (λ other apart n. refl)
      counts.free (λ free unused. absurd (counts.used kept root refl free))
  stays_counted (Turn number message) drives may kept counts =
      by_root (root_of message) drives.given (with_queue c.queues number (drop 1 (queue c.queues number))) _ drives.roots drives.queues
      (length-set c.queues (number - 1) (drop 1 (queue c.queues number))) may.queued may.library may.starts may.asked.1
      (λ other apart n. taken_there other c.queues number message may.asked.0.0 may.asked.0.1 (λ e. apart (sym e)) n)
      counts.free (λ free unused. absurd (not_taken number message may.asked.0.0 may.asked.0.1 unused))
  stays_counted (Claim item who) drives may kept counts =
      on_root item.root drives.given _ drives.roots drives.queues may.queued may.library may.starts (none_of item.root drives.given drives.roots.here.1) counts.free
      (λ none. idle_live _ drives.given (instance_of c item.root) (instance_of c' item.root) drives.roots.here.0 none)
  stays_counted (Release item who) drives may kept counts =
      on_root item.root drives.given _ drives.roots drives.queues may.queued may.library may.starts (none_of item.root drives.given drives.roots.here.1) counts.free
      (λ none. idle_live _ drives.given (instance_of c item.root) (instance_of c' item.root) drives.roots.here.0 none)
  stays_counted (Transfer item who to) drives may kept counts =
      on_root item.root drives.given _ drives.roots drives.queues may.queued may.library may.starts (none_of item.root drives.given drives.roots.here.1) counts.free
      (λ none. idle_live _ drives.given (instance_of c item.root) (instance_of c' item.root) drives.roots.here.0 none)
  stays_counted (Take item take) drives may kept counts =
      on_root item.root drives.given _ drives.roots drives.queues may.queued may.library may.starts (none_of item.root drives.given drives.roots.here.1) counts.free
      (λ none. idle_live _ drives.given (instance_of c item.root) (instance_of c' item.root) drives.roots.here.0 none)
  stays_counted (Done item who settings) drives may kept counts =
      on_root item.root drives.given _ drives.roots drives.queues may.queued may.library may.starts may.asked.1 counts.free
      (λ none. idle_completed (templates c) item settings drives.given (item_of c item) (instance_of c item.root) (instance_of c' item.root) drives.roots.here none)
  stays_counted (Force item settings) drives may kept counts =
      on_root item.root drives.given _ drives.roots drives.queues may.queued may.library may.starts may.asked.1 counts.free
      (λ none. idle_completed (templates c) item settings drives.given (item_of c item) (instance_of c item.root) (instance_of c' item.root) drives.roots.here none)
  stays_counted (Restart item) drives may kept counts =
      on_root item.root drives.given _ drives.roots drives.queues may.queued may.library may.starts (none_of item.root drives.given drives.roots.here.1) counts.free
      (λ none. idle_live _ drives.given (instance_of c item.root) (instance_of c' item.root) drives.roots.here.0 none)
  stays_counted (Suspend root) drives may kept counts =
      on_root root drives.given _ drives.roots drives.queues may.queued may.library may.starts (none_of root drives.given drives.roots.here.1) counts.free
      (λ none. idle_live _ drives.given (instance_of c root) (instance_of c' root) drives.roots.here.0 none)
  stays_counted (Resume root) drives may kept counts =
      on_root root drives.given _ drives.roots drives.queues may.queued may.library may.starts (none_of root drives.given drives.roots.here.1) counts.free
      (λ none. idle_live _ drives.given (instance_of c root) (instance_of c' root) drives.roots.here.0 none)
  stays_counted (Terminate root) drives may kept counts =
      on_root root drives.given _ drives.roots drives.queues may.queued may.library may.starts (none_of root drives.given drives.roots.here.1) counts.free
      (λ none. idle_live _ drives.given (instance_of c root) (instance_of c' root) drives.roots.here.0 none)
  stays_counted (Delete root) drives may kept counts =
      on_root root drives.given _ drives.roots drives.queues may.queued may.library may.starts (none_of root drives.given drives.roots.here.1) counts.free
      (λ none. drives.roots.here)
  stays_counted (Clock minutes) drives may kept counts = on_none drives.given drives.roots.0 drives.roots.1 drives.queues may.queued may.library may.starts counts.free
