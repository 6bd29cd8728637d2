-- A transaction that may be meets what the proofs ask of it, and so each state to which transactions lead is right.
use Rattle.std.proofs.Common.{◌≡◌, ℕ, zero, suc, ◌-◌, ◌<◌, ◌≤◌, false, List, [], drop, length, Option, Some, None, refl, ap, sym, subst, ◌∙◌, arith}
use Rattle.std.proofs.lemmas.List.{length-set}
use Rattle.std.proofs.lemmas.Option.{none-some}
use Rattle.activity_states.specs.States.{fate_of}
use Rattle.containers.specs.Settings.{filled}
use Rattle.fate_laws.specs.WellFormed.{Well}
use Rattle.view_laws.specs.NextEvents.{Aimed}
use Rattle.flow_core.proofs.Putting.{put_length}
use Rattle.flow_core.specs.Allowing.{IsAllowed, IsBlank}
use Rattle.flow_core.specs.Allowing.{IsOpen as IsOpenItem}
use Rattle.flow_core.specs.Answers.{instance_of}
use Rattle.flow_core.specs.Driving.{templates, queue_now, taken_by, TemplatesAfter, IfLive, BecomesCompleted, item_of, Drives}
use Rattle.flow_core.specs.Facts.{start_settings}
use Rattle.flow_core.specs.Summaries.{live_after}
use Rattle.flow_core.specs.Verdicts.{IsFront}
use Rattle.flow_core.specs.declared.state.Core.{Core}
use Rattle.flow_model.specs.Containers.{fresh}
use Rattle.flow_model.specs.ScopeContainers.{graph_of}
use Rattle.flow_model.specs.declared.graphs.Container.{Container}
use Rattle.flow_model.specs.declared.graphs.Graph.{Graph}
use Rattle.flow_model.specs.declared.graphs.Template.{Template}
use Rattle.flow_model.specs.declared.instances.Message.{Message}
use Rattle.flow_model.specs.declared.instances.Phase.TheVariants.{Ended}
use Rattle.flow_model.specs.declared.instances.Message.TheVariants.{Begin, Signal, End}
use Rattle.flow_model.specs.declared.instances.Path.{Path}
use Rattle.flow_model.specs.declared.transactions.Setting.{Setting}
use Rattle.flow_model.specs.declared.transactions.Transaction.{Transaction}
use Rattle.flow_model.specs.declared.transactions.Transaction.TheVariants.{Import, Start, Turn, Claim, Release, Transfer, Take, Done, Force, Restart, Suspend, Resume, Terminate, Delete, Clock}
use Rattle.library_laws.proofs.SameGraphs.{longer_agrees}
use Rattle.library_laws.specs.Larger.{Agrees}
use Rattle.navigator.specs.Driven.{IsServedRoot}
use Rattle.navigator.specs.Giving.{root_named}
use Rattle.navigator.specs.Giving.{AreOf as AreNamed}
use Rattle.navigator.specs.Items.{Entry, phase_of}
use Rattle.navigator.specs.declared.instance.Instance.{Instance}
use Rattle.recover_queue.specs.Queues.{queue, root_of}
use Rattle.root_laws.proofs.GoesOn.{turns_named, completes_named}
use Rattle.root_laws.specs.Becoming.{TakesIn, CompletesIn}
use Rattle.root_laws.specs.RightRoots.{root_in}
use Rattle.template_check.proofs.Calling.{sound_none}
use Rattle.template_check.proofs.Together.{well_together, aimed_together}
use Rattle.template_check.specs.Built.{AreSound}
use Rattle.view_laws.specs.Runs.{Event}
use Rattle.core_laws.proofs.Asked.{IsOpen, AreOf, IsAsked, MayBe}
use Rattle.core_laws.proofs.Counted.{stays_counted}
use Rattle.core_laws.proofs.ServedTogether.{all_there, template_there, served_together}
use Rattle.core_laws.proofs.Standing.{front_of_root, none_stand}
use Rattle.core_laws.proofs.Staying.{awaited, none_of, begins, stays_right}
use Rattle.core_laws.proofs.Said.{start_told, starts_after}
use Rattle.core_laws.proofs.Told.{are_told}
use Rattle.core_laws.specs.RightStates.{messages_in, note_queue, input_now, completed_by, has_start, AreRight, runs_after, runs_at, IsRightState, IsRightCore, Makes}

-- ---- what is given names its root

root_is : (m : Message) → root_of m ≡ root_named m
root_is (Begin path) = refl
root_is (Signal path from to v) = refl
root_is (End path) = refl

named_of : (root : ℕ) (given : List Message) → AreNamed root given → AreOf root given
named_of root given named i m there = root_is m ∙ named i m there

module _ (c c' : Core) (runs : ℕ → List Event) (are : AreRight c runs) where
  -- that of a turn
  turn_of : (number : ℕ) (message : Message) (given : List Message) → IsFront c number message
      → (before after : Option Instance) → instance_of c (root_of message) ≡ before → IfLive (TakesIn (templates c) message given) given before after
      → AreOf (root_of message) given
  turn_of number message given front None after live becomes = none_of (root_of message) given becomes.1
  turn_of number message given front (Some i) None live becomes = absurd becomes
  turn_of number message given front (Some i) (Some i') live becomes =
      let root = root_of message in
      let right = (are root i live).right in
      subst (λ (r : ℕ). AreOf r given) (sym (root_is message))
      (named_of (root_named message) given
      (turns_named (templates c) (note_queue c root) (runs root) (messages_in c.queues root) (input_now c root) i i' right number message given
      (front_of_root root c.queues number message front.0 front.1 refl) becomes))

  -- an open item is open however it is looked at
  open_of : (item : Path) → IsOpenItem c item → IsOpen c item
  open_of item is i e live there =
      let same : is.root ≡ i = (let both : Some is.root ≡ Some i = sym is.live ∙ live in cc) in
      let entry : is.item ≡ e = (let both : Some is.item ≡ Some e = sym is.there ∙ there in cc) in
      (subst (λ (u : Instance). u.terminated ≡ false) same is.runs, subst (λ (x : Entry). phase_of (fate_of x.state) x.attempt ≡ Ended → ⊥) entry is.unended)

  -- and that of a completion
  completed_in : (item : Path) (out : Container) (given : List Message) (open_ : IsOpen c item) (e : Entry) → item_of c item ≡ Some e
      → (before after : Option Instance) → instance_of c item.root ≡ before → IfLive (CompletesIn (templates c) item out given) given before after → AreOf item.root given
  completed_in item out given open_ e there None after live becomes = none_of item.root given becomes.1
  completed_in item out given open_ e there (Some i) None live becomes = absurd becomes
  completed_in item out given open_ e there (Some i) (Some i') live becomes =
      let root = item.root in
      let right = (are root i live).right in
      named_of root given
      (completes_named (templates c) (note_queue c root) (runs root) (messages_in c.queues root) (input_now c root) i i' right item out given (open_ i e live there).0
      (awaited c item open_ (runs root) i live right e there) becomes)

  completed_of : (item : Path) (settings : List Setting) (given : List Message) → IsOpen c item → (o : Option Entry) → item_of c item ≡ o
      → BecomesCompleted (templates c) item settings o given (instance_of c item.root) (instance_of c' item.root) → AreOf item.root given
  completed_of item settings given open_ None there becomes = none_of item.root given becomes.1
  completed_of item settings given open_ (Some e) there becomes =
      completed_in item (filled settings (fresh e.activity.output)) given open_ e there (instance_of c item.root) (instance_of c' item.root) refl becomes

-- ---- the library

same_agrees : (ts ts' : List Template) → ts' ≡ ts → Agrees ts ts'
same_agrees ts ts' same = λ t g is. ap (λ us. graph_of us t) same ∙ is

same_sound : (ts ts' : List Template) → ts' ≡ ts → AreSound ts → AreSound ts'
same_sound ts ts' same sound = subst AreSound (sym same) sound

-- a template stays at its place
library_agrees : (t : Transaction) (ts ts' : List Template) → TemplatesAfter t ts ts' → Agrees ts ts'
library_agrees (Import text) ts ts' after = subst (λ us. Agrees ts us) (sym after.0.1) (longer_agrees ts after.0.0)
library_agrees (Start root process version starter key settings) ts ts' after = same_agrees ts ts' after
library_agrees (Turn number message) ts ts' after = same_agrees ts ts' after
library_agrees (Claim item who) ts ts' after = same_agrees ts ts' after
library_agrees (Release item who) ts ts' after = same_agrees ts ts' after
library_agrees (Transfer item who to) ts ts' after = same_agrees ts ts' after
library_agrees (Take item take) ts ts' after = same_agrees ts ts' after
library_agrees (Done item who settings) ts ts' after = same_agrees ts ts' after
library_agrees (Force item settings) ts ts' after = same_agrees ts ts' after
library_agrees (Restart item) ts ts' after = same_agrees ts ts' after
library_agrees (Suspend root) ts ts' after = same_agrees ts ts' after
library_agrees (Resume root) ts ts' after = same_agrees ts ts' after
library_agrees (Terminate root) ts ts' after = same_agrees ts ts' after
library_agrees (Delete root) ts ts' after = same_agrees ts ts' after
library_agrees (Clock minutes) ts ts' after = same_agrees ts ts' after

-- and a sound library stays sound
library_sound : (t : Transaction) (ts ts' : List Template) → TemplatesAfter t ts ts' → AreSound ts → AreSound ts'
library_sound (Import text) ts ts' after = after.1
library_sound (Start root process version starter key settings) ts ts' after = same_sound ts ts' after
library_sound (Turn number message) ts ts' after = same_sound ts ts' after
library_sound (Claim item who) ts ts' after = same_sound ts ts' after
library_sound (Release item who) ts ts' after = same_sound ts ts' after
library_sound (Transfer item who to) ts ts' after = same_sound ts ts' after
library_sound (Take item take) ts ts' after = same_sound ts ts' after
library_sound (Done item who settings) ts ts' after = same_sound ts ts' after
library_sound (Force item settings) ts ts' after = same_sound ts ts' after
library_sound (Restart item) ts ts' after = same_sound ts ts' after
library_sound (Suspend root) ts ts' after = same_sound ts ts' after
library_sound (Resume root) ts ts' after = same_sound ts ts' after
library_sound (Terminate root) ts ts' after = same_sound ts ts' after
library_sound (Delete root) ts ts' after = same_sound ts ts' after
library_sound (Clock minutes) ts ts' after = same_sound ts ts' after

-- each of its processes is one that roots may run
served_root : (ts : List Template) → AreSound ts → (t : ℕ) (g : Graph) (input : Container) → graph_of ts t ≡ Some g → (depth : ℕ) × IsServedRoot (root_in ts depth g input)
served_root ts sound t g input there =
    let served = served_together ts sound t g there in
    let found = template_there ts t g there in
    let well : Well ts served.0 found.0.graph = all_there (λ x. Well ts served.0 x.graph) ts t found.0 found.1 (well_together ts sound served.0) in
    let aimed : Aimed ts served.0 found.0.graph = all_there (λ x. Aimed ts served.0 x.graph) ts t found.0 found.1 (aimed_together ts sound served.0) in (
      served.0,
      record {
        well = subst (λ (h : Graph). Well ts served.0 h) found.2 well;
        served = served.1;
        aimed = subst (λ (h : Graph). Aimed ts served.0 h) found.2 aimed;
      },
    )

-- ---- a transaction that may be

-- as many queues are left by what a transaction takes
taken_length : (t : Transaction) (qs : List (List Message)) → length (taken_by t qs) ≡ length qs
taken_length (Import text) qs = refl
taken_length (Turn number message) qs = length-set qs (number - 1) (drop 1 (queue qs number))
taken_length (Start root process version starter key settings) qs = refl
taken_length (Claim item who) qs = refl
taken_length (Release item who) qs = refl
taken_length (Transfer item who to) qs = refl
taken_length (Take item take) qs = refl
taken_length (Done item who settings) qs = refl
taken_length (Force item settings) qs = refl
taken_length (Restart item) qs = refl
taken_length (Suspend root) qs = refl
taken_length (Resume root) qs = refl
taken_length (Terminate root) qs = refl
taken_length (Delete root) qs = refl
taken_length (Clock minutes) qs = refl

module _ (c c' : Core) (runs : ℕ → List Event) (right : IsRightState c runs) where
  asked : (t : Transaction) (number : ℕ) → c'.live.items ≡ live_after number t c.live.items → IsAllowed c t → (drives : Drives c t c') → IsAsked c t drives.given c'
  asked (Import text) number lives allowed drives = tt
  asked (Start root process version starter key settings) number lives allowed drives = record {
    unused = right.counted root allowed.free;
    served = λ i live g there input. served_root (templates c) right.sound i.template g input there;
    told = ap (start_settings root) lives ∙ start_told c c' runs right.are right.told (library_agrees (Start root process version starter key settings) (templates c) (templates c') drives.library) root process version starter key settings number allowed.free;
  }
  asked (Turn queue' message) number lives allowed drives =
      (allowed.asked, turn_of c c' runs right.are queue' message drives.given allowed.asked (instance_of c (root_of message)) (instance_of c' (root_of message)) refl drives.roots.here)
  asked (Claim item who) number lives allowed drives = tt
  asked (Release item who) number lives allowed drives = tt
  asked (Transfer item who to) number lives allowed drives = tt
  asked (Take item take) number lives allowed drives = tt
  asked (Done item who settings) number lives allowed drives =
      let open_ = open_of c c' runs right.are item allowed.asked in
      (open_, completed_of c c' runs right.are item settings drives.given open_ (item_of c item) refl drives.roots.here)
  asked (Force item settings) number lives allowed drives =
      let open_ = open_of c c' runs right.are item allowed.asked in
      (open_, completed_of c c' runs right.are item settings drives.given open_ (item_of c item) refl drives.roots.here)
  asked (Restart item) number lives allowed drives = tt
  asked (Suspend root) number lives allowed drives = tt
  asked (Resume root) number lives allowed drives = tt
  asked (Terminate root) number lives allowed drives = tt
  asked (Delete root) number lives allowed drives = tt
  asked (Clock minutes) number lives allowed drives = tt

  may_be : (t : Transaction) (number : ℕ) → c'.live.items ≡ live_after number t c.live.items → IsAllowed c t → (drives : Drives c t c') → MayBe c t drives.given c'
  may_be t number lives allowed drives =
      let library = library_agrees t (templates c) (templates c') drives.library in
      record {
        asked = asked t number lives allowed drives;
        queued = right.queued;
        library = library;
        starts = λ root i i' live live'. ap (start_settings root) lives ∙ starts_after c c' runs right.are right.told library t number drives root i i' live live';
      }

  pub state_right : (t : Transaction) → Makes c t c' → IsRightState c' (runs_after c t runs)
  state_right t makes =
      let may = may_be t makes.lives.0 makes.lives.1 makes.allowed makes.drives in
      record {
        are = stays_right c c' runs right.are t makes.drives may;
        told = are_told c c' runs right.told right.are may.library right.kept t makes.lives.0 makes.allowed makes.drives right.counted makes.counts makes.lives.1;
        counted = stays_counted c c' right.counted t makes.drives may right.kept makes.counts;
        kept = makes.counts.kept right.kept;
        queued = subst (λ n. 1 ≤ n) (sym (ap length makes.drives.queues ∙ put_length (queue_now c') makes.drives.given (taken_by t c.queues) ∙ taken_length t c.queues)) right.queued;
        sound = library_sound t (templates c) (templates c') makes.drives.library right.sound;
      }

-- ---- histories

pub blank_right : (c : Core) → IsBlank c → c.kept ≤ c.number → 1 ≤ length c.queues → IsRightState c (λ root. [])
blank_right c blank kept queued = record {
  are = begins c blank.roots;
  told = record {
    told = λ root i live. absurd (none-some i (sym (blank.roots root) ∙ live));
    untold = λ root free. record { unbegun = ap (has_start root) blank.live; items = ap (completed_by root) blank.live };
  };
  counted = λ root free. record { absent = blank.roots root; unqueued = none_stand root c.queues blank.queues };
  kept = kept;
  queued = queued;
  sound = subst AreSound (sym blank.library) (sound_none 0);
}

pub history_right : (states : ℕ → Core) (made : ℕ → Transaction) (runs : ℕ → List Event) (count : ℕ) → IsRightState (states 0) runs
    → ((n : ℕ) → n < count → Makes (states n) (made n) (states (suc n)))
    → (n : ℕ) → n ≤ count → IsRightState (states n) (runs_at states made runs n)
history_right states made runs count right makes zero upto = right
history_right states made runs count right makes (suc n) upto =
    let below : n < count = omega arith in
    state_right (states n) (states (suc n)) (runs_at states made runs n) (history_right states made runs count right makes n (omega arith)) (made n) (makes n below)

-- ---- what a call makes

pub core_right : (c c' : Core) (t : Transaction) → Makes c t c' → IsRightCore c → IsRightCore c'
core_right c c' t makes right = (runs_after c t right.0, state_right c c' right.0 right.1 t makes)
