-- The next event of a legal run may come.
use Rattle.fate_laws.proofs.Items.{parts_one}
use Rattle.fate_laws.proofs.ItemsBelow.{items_of, facts_cover}
use Rattle.fate_laws.specs.WellFormed.{Well}
use Rattle.flow_model.specs.Rows.{same_parts, output_of}
use Rattle.flow_model.specs.declared.graphs.Container.{Container}
use Rattle.flow_model.specs.declared.instances.Fact.{Fact}
use Rattle.flow_model.specs.declared.instances.Part.{Part}
use Rattle.std.proofs.Common.{◌≡◌, ℕ, ◌≤◌, Bool, true, false, List, [], ◌∷◌, ◌++◌, length, refl, sym, ap, ◌∙◌, Option, Some, None, arith, subst}
use Rattle.std.proofs.lemmas.List.{length-map}
use Rattle.view_laws.proofs.AttemptsWithin.{leads_on, end_within, complete_within}
use Rattle.view_laws.proofs.Counting.{has_times, has_none, front_waits}
use Rattle.view_laws.proofs.DueParts.{AreDue}
use Rattle.view_laws.proofs.Grounds.{IsGrounded}
use Rattle.view_laws.proofs.Led.{leads_tells, begin_led, signal_led, end_led, await_led, BeginDue}
use Rattle.view_laws.proofs.MoreDue.{seen_more}
use Rattle.view_laws.proofs.NothingDue.{nothing}
use Rattle.view_laws.proofs.ReadyInView.{awaited_starts}
use Rattle.view_laws.proofs.SameNotes.{itself, one}
use Rattle.view_laws.proofs.SeenNext.{seen_begin, seen_signal, seen_end, seen_completed}
use Rattle.view_laws.proofs.StartedParts.{StartsAlong, along_more}
use Rattle.view_laws.proofs.Trusting.{no_end}
use Rattle.view_laws.proofs.WholeRuns.{running_is, due_times, start_signal, start_end, start_below, taken_spent, told_taken, taken_is_due, signal_due, end_due, put_is_due}
use Rattle.view_laws.specs.Coming.{MaySignal, MayEnd, MayComplete}
use Rattle.view_laws.specs.LegalRuns.{Awaits, AreAwaited}
use Rattle.view_laws.specs.Messages.{Note, BeginNote, SignalNote, EndNote, due_in}
use Rattle.view_laws.specs.NextEvents.{MayGoOn, IsNextBegin, IsNextSignal, MayEndWithin, IsNextEnd, MayCompleteWithin, IsNextCompletion}
use Rattle.view_laws.specs.Queues.{Engine, has, times, spent, TakesFronts}
use Rattle.view_laws.specs.Runs.{Root, Event, Started, Turned, Completed, Held, Stopped, is_stopped, has_started, taken, facts, seen, due_now, due, engine}

-- a path that isn't empty has a last part
record HasLast (p : List Part) : Type 0 where
  path : List Part
  last : Part
  parts : p ≡ path ++ last ∷ []

last_of : (q : Part) (p : List Part) → HasLast (q ∷ p)
last_of q [] = record { path = []; last = q; parts = refl }
last_of q (s ∷ p) = let rest = last_of s p in record { path = q ∷ rest.path; last = rest.last; parts = ap (λ l. q ∷ l) rest.parts }

-- what a list gives only with one more completion, is of that one
later_given : (fs : List Fact) (f : Fact) (p : List Part) (out : Container) → output_of fs p ≡ None → output_of (fs ++ f ∷ []) p ≡ Some out → f.item.parts ≡ p
later_given [] f p out none some = go (same_parts f.item.parts p) refl
  where
    no_some : None ≡ Some out → ⊥
    no_some h = cc

    go : (b : Bool) → same_parts f.item.parts p ≡ b → f.item.parts ≡ p
    go true is = parts_one f.item.parts p is
    go false is = absurd (no_some (rw is at some))
later_given (e ∷ fs) f p out none some = go (same_parts e.item.parts p) refl (later_given fs f p out)
  where
    some_none : Some e.output ≡ None → ⊥
    some_none h = cc

    go : (b : Bool) → same_parts e.item.parts p ≡ b → (output_of fs p ≡ None → output_of (fs ++ f ∷ []) p ≡ Some out → f.item.parts ≡ p) → f.item.parts ≡ p
    go true is rest = absurd (some_none (rw is at none))
    go false is rest = rest (rw is at none) (rw is at some)

module _ (r : Root) (qf : Note → ℕ) (well : Well r.templates r.depth r.graph) where
  abbrev x : Engine Note Event
  x = engine r qf

  -- what counts of messages after a legal run is due
  root_due : (h : List Event) → TakesFronts x h → is_stopped h ≡ false → AreDue r qf r.templates r.depth (seen h) r.graph r.input
  root_due h fronts open_ = record {
    signals = λ p a b v o was. rw (running_is h open_) at (signal_due r qf well h fronts (nothing r qf) p a b v o (rw (running_is h open_) was));
    ends = λ q p was. rw (running_is h open_) at (end_due r qf well h fronts (nothing r qf) q p (rw (running_is h open_) was));
    begins = λ q p was.
        let t = has_times x itself one (taken h) (BeginNote (q ∷ p)) was in
        let d : times x (taken h) (BeginNote (q ∷ p)) ≤ times x (due_now r h) (BeginNote (q ∷ p)) =
        rw (running_is h open_) at (taken_is_due r qf well h fronts (nothing r qf) (BeginNote (q ∷ p))) in
        let u = due_times r qf h (BeginNote (q ∷ p)) in
        let z = start_below r qf (has_started h) q p in
        omega arith;
  }

  -- what is given after a legal run, was given for items that had started
  root_along : (h : List Event) → TakesFronts x h → AreAwaited r h → is_stopped h ≡ false → (q : Part) (p : List Part) (out : Container) → (seen h).given (q ∷ p) ≡ Some out
      → StartsAlong r.templates r.depth (seen h) r.graph r.input (q ∷ p)
  root_along [] fronts awaited open_ q p out given = absurd (no_some given)
    where
      no_some : None ≡ Some out → ⊥
      no_some h = cc
  root_along (Started ∷ h) fronts awaited open_ q p out given = root_along h fronts.0 awaited open_ q p out given
  root_along (Turned m ∷ h) fronts awaited open_ q p out given =
      along_more r qf r.templates r.depth (seen h) (seen (Turned m ∷ h)) (seen_more (Turned m) h) r.graph r.input (q ∷ p) (root_along h fronts.0 awaited open_ q p out given)
  root_along (Held l b ∷ h) fronts awaited open_ q p out given = root_along h fronts.0 awaited open_ q p out given
  root_along (Stopped ∷ h) fronts awaited open_ q p out given = absurd (no_end' open_)
    where
      no_end' : true ≡ false → ⊥
      no_end' h = cc
  root_along (Completed f ∷ h) fronts awaited open_ q p out given =
      along_more r qf r.templates r.depth (seen h) (seen (Completed f ∷ h)) (seen_more (Completed f) h) r.graph r.input (q ∷ p)
      (go (output_of (facts h) (q ∷ p)) refl (λ o is. root_along h fronts.0 awaited.0 awaited.1 q p o is))
    where
      go : (o : Option Container) → output_of (facts h) (q ∷ p) ≡ o
          → ((u : Container) → output_of (facts h) (q ∷ p) ≡ Some u → StartsAlong r.templates r.depth (seen h) r.graph r.input (q ∷ p))
          → StartsAlong r.templates r.depth (seen h) r.graph r.input (q ∷ p)
      go (Some u) is before = before u is
      go None is before =
          let P : List Part → Type 0 = λ l. Awaits r.templates r.depth (seen h) r.graph r.input l in
          awaited_starts r qf r.templates r.depth (seen h) r.graph r.input (q ∷ p) well (root_due h fronts.0 awaited.1)
          (subst P (later_given (facts h) f (q ∷ p) out is given) awaited.2)

  root_grounded : (h : List Event) → TakesFronts x h → AreAwaited r h → is_stopped h ≡ false → IsGrounded r qf r.templates r.depth (seen h) r.graph r.input
  root_grounded h fronts awaited open_ = record {
    due = root_due h fronts open_;
    along = root_along h fronts awaited open_;
    items = items_of (facts h);
    covers = facts_cover (facts h);
    fewer = let long : length (items_of (facts h)) ≡ length (facts h) = length-map (facts h) (λ f. f.item.parts) in omega arith;
    messages = λ p a b o. refl;
  }

  -- ---- the message that is taken

  -- it is due, and wasn't taken
  record IsNext (h : List Event) (m : Note) : Type 0 where
    due_ : 1 ≤ times x (due_now r h) m
    untaken : times x (taken h) m ≡ 0
    unseen : has x (taken h) m ≡ false

  next_note : (h : List Event) (m : Note) → TakesFronts x (Turned m ∷ h) → is_stopped h ≡ false → IsNext h m
  next_note h m fronts open_ =
      let front = fronts.1 m refl in
      let waits = front_waits x itself one h front.0 m front.1 in
      let put = has_times x itself one _ m waits.0 in
      let all = put_is_due r qf well h fronts.0 (nothing r qf) m in
      let none = has_none x itself one (spent x h) m waits.1 in
      let same = taken_spent r qf well h m in
      let untaken : times x (taken h) m ≡ 0 = omega arith in
      let some : 1 ≤ times x (due r h) m = omega arith in
      record { due_ = rw (running_is h open_) at some; untaken = untaken; unseen = go untaken (has x (taken h) m) refl }
    where
      go : times x (taken h) m ≡ 0 → (b : Bool) → has x (taken h) m ≡ b → has x (taken h) m ≡ false
      go none false is = is
      go none true is = let some = has_times x itself one (taken h) m is in absurd (omega arith)

-- the BEGIN that is taken may come
pub begins_may_come : (r : Root) (q : Note → ℕ) (h : List Event) (p : List Part) → MayGoOn r q (Turned (BeginNote p)) h → IsNextBegin r h p
begins_may_come r q h p may =
    let fronts = may.legal.fronts in
    let next = next_note r q may.well h (BeginNote p) fronts may.runs in
    let ground = root_grounded r q may.well h fronts.0 may.legal.awaited may.runs in
    record {
      may = begin_led r q r.templates r.depth (seen h) r.graph r.input p may.well may.aimed ground (below p next.due_, next.unseen);
      known = seen_begin h p;
    }
  where
    below : (l : List Part) → 1 ≤ times (engine r q) (due_now r h) (BeginNote l) → BeginDue r q r.templates r.depth (seen h) r.graph r.input l
    below [] some = tt
    below (s ∷ l) some =
        let all = due_times r q h (BeginNote (s ∷ l)) in
        let none = start_below r q (has_started h) s l in
        omega arith

-- the SIGNAL that is taken may come
pub signals_may_come : (r : Root) (q : Note → ℕ) (h : List Event) (p : List Part) (a b : ℕ) (v : Bool) → MayGoOn r q (Turned (SignalNote p a b v)) h → IsNextSignal r h p a b v
signals_may_come r q h p a b v may =
    let fronts = may.legal.fronts in
    let next = next_note r q may.well h (SignalNote p a b v) fronts may.runs in
    let ground = root_grounded r q may.well h fronts.0 may.legal.awaited may.runs in
    let all = due_times r q h (SignalNote p a b v) in
    let none = start_signal r q (has_started h) p a b v in
    let here = next.due_ in
    let untaken = next.untaken in
    let some : 1 ≤ times (engine r q) (due_in r.templates r.depth (seen h) r.graph r.input) (SignalNote p a b v) = omega arith in
    let leads = signal_led r q r.templates a b v r.depth (seen h) r.graph r.input p may.well may.aimed ground
    (some, λ told. let t = told_taken r q may.well (taken h) p a b v told in absurd (omega arith)) in
    let unsent = leads_tells r.templates (λ depth k g i. MaySignal r.templates depth k g i a b v) (λ k l. k.sent l a b None ≡ None) (λ s l k is. is) (λ depth k g i m. m.unsent)
    r.depth (seen h) r.graph r.input p leads in
    record { may = leads; known = seen_signal h p a b v unsent }

-- the END that is taken may come
pub ends_may_come : (r : Root) (q : Note → ℕ) (h : List Event) (p : List Part) → MayGoOn r q (Turned (EndNote p)) h → IsNextEnd r h p
ends_may_come r q h [] may =
    let next = next_note r q may.well h (EndNote []) may.legal.fronts may.runs in
    let all = due_times r q h (EndNote []) in
    let none = start_end r q (has_started h) [] in
    let below = no_end r q r.templates r.depth (seen h) r.graph r.input in
    let here = next.due_ in
    absurd (omega arith)
ends_may_come r q h (s ∷ p) may =
    let last = last_of s p in
    let P : List Part → Type 0 = λ l. (l ≡ last.path ++ last.last ∷ []) → MayGoOn r q (Turned (EndNote l)) h → IsNextEnd r h l in
    subst P (sym last.parts) (λ same may'. go last.path last.last may') last.parts may
  where
    go : (path : List Part) (last : Part) → MayGoOn r q (Turned (EndNote (path ++ last ∷ []))) h → IsNextEnd r h (path ++ last ∷ [])
    go path last may' =
        let fronts = may'.legal.fronts in
        let next = next_note r q may'.well h (EndNote (path ++ last ∷ [])) fronts may'.runs in
        let ground = root_grounded r q may'.well h fronts.0 may'.legal.awaited may'.runs in
        let all = due_times r q h (EndNote (path ++ last ∷ [])) in
        let none = start_end r q (has_started h) (path ++ last ∷ []) in
        let here = next.due_ in
        let leads = end_led r q r.templates last r.depth (seen h) r.graph r.input path may'.well may'.aimed ground (omega arith, next.unseen) in
        record {
          path = path;
          last = last;
          parts = refl;
          may = leads;
          within =
              leads_on r.templates (λ depth k g i. MayEnd r.templates depth k g i last) (λ depth k g i. MayEndWithin r.templates depth k g i last) (end_within r.templates last)
              r.depth (seen h) r.graph r.input path may'.well (record { items = ground.items; covers = ground.covers; fewer = ground.fewer }) leads;
          known = seen_end h path last;
        }

-- the completion that is accepted may come
pub completions_may_come : (r : Root) (q : Note → ℕ) (h : List Event) (f : Fact) → MayGoOn r q (Completed f) h → IsNextCompletion r h f
completions_may_come r q h f may = at_path f.item.parts refl
  where
    Item : List Part → Type 0
    Item l = Awaits r.templates r.depth (seen h) r.graph r.input l

    by_last : (last : HasLast f.item.parts) → IsNextCompletion r h f
    by_last last =
        let fronts = may.legal.fronts in
        let awaited = may.legal.awaited in
        let ground = root_grounded r q may.well h fronts.0 awaited.0 may.runs in
        let leads = await_led r q r.templates last.last r.depth (seen h) r.graph r.input last.path may.well may.aimed ground (subst Item last.parts awaited.2) in
        let ungiven = leads_tells r.templates (λ depth k g i. MayComplete r.templates depth k g i last.last) (λ k l. k.given (l ++ last.last ∷ []) ≡ None) (λ s l k is. is)
        (λ depth k g i m. m.ungiven) r.depth (seen h) r.graph r.input last.path leads in
        let within =
        leads_on r.templates (λ depth k g i. MayComplete r.templates depth k g i last.last) (λ depth k g i. MayCompleteWithin r.templates depth k g i last.last)
        (λ depth k g i well has m. complete_within r.templates last.last depth k g i m)
        r.depth (seen h) r.graph r.input last.path may.well (record { items = ground.items; covers = ground.covers; fewer = ground.fewer }) leads in
        record { path = last.path; last = last.last; parts = last.parts; may = leads; within = within; known = seen_completed h f last.path last.last last.parts ungiven }

    at_path : (l : List Part) → f.item.parts ≡ l → IsNextCompletion r h f
    at_path [] is = absurd (subst Item is may.legal.awaited.2)
    at_path (s ∷ l) is = let last = last_of s l in by_last (record { path = last.path; last = last.last; parts = is ∙ last.parts })
