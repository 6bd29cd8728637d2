-- What a call that applies a transaction says, whole, is a step of the machine.
use Rattle.std.proofs.Common.{◌≡◌, ℕ, List, Option, Some, None, refl, sym, subst, ◌∙◌, append-nil}
use Rattle.activity_states.specs.declared.states.Completed.{Completed}
use Rattle.containers.specs.Settings.{filled}
use Rattle.core_laws.specs.RightStates.{IsRightState}
use Rattle.flow_core.specs.Allowing.{IsAllowed}
use Rattle.flow_core.specs.Answers.{instance_of}
use Rattle.flow_core.specs.Driving.{templates, item_of, Drives, BecomesCompleted, ChangesRoot, clock_after}
use Rattle.flow_core.specs.Shelving as f
use Rattle.flow_core.specs.Shelving.{performer_named}
use Rattle.flow_core.specs.declared.state.Core.{Core}
use Rattle.flow_model.specs.Containers.{fresh}
use Rattle.flow_model.specs.declared.graphs.Template.{Template}
use Rattle.flow_model.specs.declared.graphs.Library.{Library}
use Rattle.flow_model.specs.declared.instances.Message.{Message}
use Rattle.flow_model.specs.declared.instances.Path.{Path}
use Rattle.flow_model.specs.declared.names.Name.{Name}
use Rattle.flow_model.specs.declared.transactions.Setting.{Setting}
use Rattle.flow_model.specs.declared.transactions.Transaction.{Transaction}
use Rattle.flow_model.specs.declared.transactions.Transaction.TheVariants.{Import, Start, Turn, Claim, Release}
use Rattle.flow_model.specs.declared.transactions.Transaction.TheVariants.{Transfer, Take, Done, Force, Restart}
use Rattle.flow_model.specs.declared.transactions.Transaction.TheVariants.{Suspend, Resume, Terminate, Delete, Clock}
use Rattle.machine.specs.Imports.{Added, nothing_added, with_added}
use Rattle.machine.specs.Steps.{Steps, clock_after as clock_seen}
use Rattle.navigator.specs.Items.{Entry}
use Rattle.navigator.specs.declared.instance.Instance.{Instance}
use Rattle.recover_queue.specs.Queues.{root_of as root_of_message}
use Rattle.view_laws.specs.Runs.{Event}
use Rattle.machine_laws.specs.Applied.{Applied, IsGood}
use Rattle.machine_laws.specs.Right.{CompletesIfThere, HoldsOpen}
use Rattle.machine_laws.specs.Viewed.{view, Does, TakesExactly, CompletesExactly, WhereLive}
use Rattle.machine_laws.proofs.RightSteps.{allowed}

some_same : {X : Type 0} (x y : X) → Some x ≡ Some y → x ≡ y
some_same x y e = cc

-- the clock is said in the same words
clock_so : (t : Transaction) (minutes : ℕ) → clock_after t minutes ≡ clock_seen t minutes
clock_so (Import text) minutes = refl
clock_so (Start root process version starter key settings) minutes = refl
clock_so (Turn number message) minutes = refl
clock_so (Claim item who) minutes = refl
clock_so (Release item who) minutes = refl
clock_so (Transfer item who to) minutes = refl
clock_so (Take item take) minutes = refl
clock_so (Done item who settings) minutes = refl
clock_so (Force item settings) minutes = refl
clock_so (Restart item) minutes = refl
clock_so (Suspend root) minutes = refl
clock_so (Resume root) minutes = refl
clock_so (Terminate root) minutes = refl
clock_so (Delete root) minutes = refl
clock_so (Clock at) minutes = refl

nothing_behind : (l : Library) → l ≡ with_added nothing_added l
nothing_behind l = λ i. record { templates = sym (append-nil l.templates) i; people = sym (append-nil l.people) i }

takes_so : (ts : List Template) (clock : ℕ) (message : Message) (given : List Message) (items : List Path)
    (before now : Option Instance) → f.WhereLive (f.TakesGiving ts clock message given items) before now
    → WhereLive (TakesExactly ts clock message given) before now
takes_so ts clock message given items None now so = tt
takes_so ts clock message given items (Some i) None so = tt
takes_so ts clock message given items (Some i) (Some i') so = record { items = items; takes = so.takes }

completes_so : (ts : List Template) (clock : ℕ) (item : Path) (c : Completed) (given : List Message)
    (items : List Path) (before now : Option Instance)
    → f.WhereLive (f.CompletesGiving ts clock item c given items) before now
    → WhereLive (CompletesExactly ts clock item c given) before now
completes_so ts clock item c given items None now so = tt
completes_so ts clock item c given items (Some i) None so = tt
completes_so ts clock item c given items (Some i) (Some i') so = record { items = items; completes = so.completes }

module _ (c c' : Core) (runs : ℕ → List Event) (right : IsRightState c runs) where
  -- a transaction that adds nothing
  abbrev plain : (t : Transaction) → Applied c t c' → (drives : Drives c t c') → c'.store ≡ c.store
      → Does c t nothing_added c'
  plain t applied drives store = record {
    drives = drives;
    came = applied.came;
    clock = applied.clock ∙ clock_so t c.clock;
    library = store ∙ nothing_behind c.store;
  }

  whole : (item : Path) (performer : Option Name) (settings : List Setting) (e : Entry) → item_of c item ≡ Some e
      → f.CompletesExactly c item performer settings (item_of c item) c'
      → f.ExactCompletion c item (record {
        output = filled settings (fresh e.activity.output);
        performer = performer;
      }) c'
  whole item performer settings e there exact =
      subst (λ o. f.CompletesExactly c item performer settings o c') there exact

  roots_so : (item : Path) (performer : Option Name) (settings : List Setting) (e : Entry) → item_of c item ≡ Some e
      → (so : f.ExactCompletion c item (record {
        output = filled settings (fresh e.activity.output);
        performer = performer;
      }) c')
      → ChangesRoot item.root (BecomesCompleted (templates c) item settings (item_of c item) so.given) c c'
  roots_so item performer settings e there so =
      subst (λ o. ChangesRoot item.root (BecomesCompleted (templates c) item settings o so.given) c c')
      (sym there) so.roots

  completes_exactly : (item : Path) (performer : Option Name) (settings : List Setting) (e : Entry)
      → item_of c item ≡ Some e → (so : f.ExactCompletion c item
      (record { output = filled settings (fresh e.activity.output); performer = performer }) c')
      → CompletesIfThere c item performer settings so.given c'
  completes_exactly item performer settings e there so = λ x is.
      let same : e ≡ x = some_same e x (sym there ∙ is) in
      subst (λ (y : Entry). WhereLive (CompletesExactly (templates c) c.clock item
      (record { output = filled settings (fresh y.activity.output); performer = performer }) so.given)
      (instance_of c item.root) (instance_of c' item.root)) same
      (completes_so (templates c) c.clock item
      (record { output = filled settings (fresh e.activity.output); performer = performer }) so.given so.items
      (instance_of c item.root) (instance_of c' item.root) so.completes)

  pub applied_step : (t : Transaction) → IsAllowed c t → HoldsOpen c t → IsGood c t → Applied c t c'
      → Steps (view c) t (view c')
  applied_step (Import text) is opens good applied =
      let added : Added = record { templates = applied.store.added.templates; people = applied.store.added.people } in
      record {
        added = added;
        adds = record {
          faultless = good;
          named = applied.store.named;
          meant = applied.store.meant;
          people = applied.store.people;
        };
        next =
            allowed c runs right c' (Import text) added is opens tt
            (record {
              drives = applied.drives;
              came = applied.came;
              clock = applied.clock;
              library = applied.store.behind;
            }) tt;
      }
  applied_step (Start root process version starter key settings) is opens good applied =
      record {
        added = nothing_added;
        adds = refl;
        next = allowed c runs right c' (Start root process version starter key settings) nothing_added is opens refl
            (plain (Start root process version starter key settings) applied applied.drives applied.store)
            (record { place = good.0; newest = good.1; runs = applied.exact good.0 good.1 });
      }
  applied_step (Turn number message) is opens good applied =
      let so = applied.exact in
      let drives : Drives c (Turn number message) c' = record {
        given = so.given;
        roots = so.roots;
        queues = so.queues;
        library = applied.drives.library;
      } in
      record {
        added = nothing_added;
        adds = refl;
        next =
            allowed c runs right c' (Turn number message) nothing_added is opens refl
            (plain (Turn number message) applied drives applied.store)
            (takes_so (templates c) c.clock message so.given so.items (instance_of c (root_of_message message))
            (instance_of c' (root_of_message message)) so.takes);
      }
  applied_step (Done item who settings) is opens good applied =
      let e = is.asked.item in
      let so = whole item (performer_named who) settings e is.asked.there applied.exact in
      let drives : Drives c (Done item who settings) c' = record {
        given = so.given;
        roots = roots_so item (performer_named who) settings e is.asked.there so;
        queues = so.queues;
        library = applied.drives.library;
      } in
      record {
        added = nothing_added;
        adds = refl;
        next =
            allowed c runs right c' (Done item who settings) nothing_added is opens refl
            (plain (Done item who settings) applied drives applied.store)
            (completes_exactly item (performer_named who) settings e is.asked.there so);
      }
  applied_step (Force item settings) is opens good applied =
      let e = is.asked.item in
      let so = whole item None settings e is.asked.there applied.exact in
      let drives : Drives c (Force item settings) c' = record {
        given = so.given;
        roots = roots_so item None settings e is.asked.there so;
        queues = so.queues;
        library = applied.drives.library;
      } in
      record {
        added = nothing_added;
        adds = refl;
        next =
            allowed c runs right c' (Force item settings) nothing_added is opens refl
            (plain (Force item settings) applied drives applied.store)
            (completes_exactly item None settings e is.asked.there so);
      }
  applied_step (Claim item who) is opens good applied =
      record {
        added = nothing_added;
        adds = refl;
        next = allowed c runs right c' (Claim item who) nothing_added is opens refl
            (plain (Claim item who) applied applied.drives applied.store) tt;
      }
  applied_step (Release item who) is opens good applied =
      record {
        added = nothing_added;
        adds = refl;
        next = allowed c runs right c' (Release item who) nothing_added is opens refl
            (plain (Release item who) applied applied.drives applied.store) tt;
      }
  applied_step (Transfer item who to) is opens good applied =
      record {
        added = nothing_added;
        adds = refl;
        next = allowed c runs right c' (Transfer item who to) nothing_added is opens refl
            (plain (Transfer item who to) applied applied.drives applied.store) tt;
      }
  applied_step (Take item take) is opens good applied =
      record {
        added = nothing_added;
        adds = refl;
        next = allowed c runs right c' (Take item take) nothing_added is opens refl
            (plain (Take item take) applied applied.drives applied.store) tt;
      }
  applied_step (Restart item) is opens good applied =
      record {
        added = nothing_added;
        adds = refl;
        next = allowed c runs right c' (Restart item) nothing_added is opens refl
            (plain (Restart item) applied applied.drives applied.store) tt;
      }
  applied_step (Suspend root) is opens good applied =
      record {
        added = nothing_added;
        adds = refl;
        next = allowed c runs right c' (Suspend root) nothing_added is opens refl
            (plain (Suspend root) applied applied.drives applied.store) tt;
      }
  applied_step (Resume root) is opens good applied =
      record {
        added = nothing_added;
        adds = refl;
        next = allowed c runs right c' (Resume root) nothing_added is opens refl
            (plain (Resume root) applied applied.drives applied.store) tt;
      }
  applied_step (Terminate root) is opens good applied =
      record {
        added = nothing_added;
        adds = refl;
        next = allowed c runs right c' (Terminate root) nothing_added is opens refl
            (plain (Terminate root) applied applied.drives applied.store) tt;
      }
  applied_step (Delete root) is opens good applied =
      record {
        added = nothing_added;
        adds = refl;
        next = allowed c runs right c' (Delete root) nothing_added is opens refl
            (plain (Delete root) applied applied.drives applied.store) tt;
      }
  applied_step (Clock minutes) is opens good applied =
      record {
        added = nothing_added;
        adds = refl;
        next = allowed c runs right c' (Clock minutes) nothing_added is opens refl
            (plain (Clock minutes) applied applied.drives applied.store) tt;
      }
