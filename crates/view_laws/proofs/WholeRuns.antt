-- The laws of the run of a root.
use Rattle.fate_laws.proofs.Extends.{Extends, and_true}
use Rattle.fate_laws.proofs.Items.{eqb_itself, eqb_one, parts_itself, parts_one}
use Rattle.fate_laws.proofs.Stays.{tree_more, fates_stay}
use Rattle.fate_laws.specs.StartedScopes.{AtScope}
use Rattle.fate_laws.specs.WellFormed.{Well}
use Rattle.flow_model.specs.Rows.{same_parts}
use Rattle.flow_model.specs.Fates.{is_settled}
use Rattle.flow_model.specs.Scopes.{all_of, tree_ends, tree_fate}
use Rattle.flow_model.specs.declared.instances.Part.{Part}
use Rattle.std.proofs.Common.{◌≡◌, ℕ, ◌+◌, ◌≤◌, ◌<◌, ◌==◌, Bool, true, false, not, ◌&&◌, if◌then◌else◌, List, [], ◌∷◌, refl, ap, ◌∙◌, Option, Some, None, arith}
use Rattle.std.specs.Prelude.{is_none}
use Rattle.view_laws.proofs.Counting.{times_filter_yes, times_filter_no, has_none, times-append, times_has, Stays, has_times, put_once, spent_once}
use Rattle.view_laws.proofs.Honest.{Full}
use Rattle.view_laws.proofs.MoreDue.{more_itself, seen_more, due_more}
use Rattle.view_laws.proofs.QuietScopes.{tree_quiet, tree_quiet_fate}
use Rattle.view_laws.proofs.SameNotes.{itself, one}
use Rattle.view_laws.proofs.ShownFates.{tree_right, tree_reached}
use Rattle.view_laws.proofs.SoundScopes.{tree_sound}
use Rattle.view_laws.proofs.Trusting.{all_by, all_sound, all_exact, tree_honest, tree_full, due_once, no_begin}
use Rattle.view_laws.specs.Laws.{IsNoteOnce, IsQuietView}
use Rattle.view_laws.specs.Messages.{Note, BeginNote, SignalNote, EndNote, due_in, same_note}
use Rattle.view_laws.specs.Queues.{Engine, has, times, all_put, spent, queue, TakesFronts}
use Rattle.view_laws.specs.Runs.{kind, facts, Root, Event, Started, Turned, Completed, Held, Stopped, is_stopped, running, has_started, taken, told_by, told, seen, due_now, due, engine}
use Rattle.view_laws.specs.ScopeFacts.{IsSound, IsExact, IsRight, IsReached}

-- ---- one more event

pub running_is : (h : List Event) → is_stopped h ≡ false → running h ≡ h
running_is [] open_ = refl
running_is (Started ∷ h) open_ = rw open_ refl
running_is (Turned m ∷ h) open_ = rw open_ refl
running_is (Completed f ∷ h) open_ = rw open_ refl
running_is (Held p b ∷ h) open_ = rw open_ refl
running_is (Stopped ∷ h) open_ = cc

pub view_stays : (r : Root) (e : Event) (h : List Event)
    → Extends (tree_ends r.templates r.depth (seen (running h)) r.graph r.input) (tree_ends r.templates r.depth (seen (running (e ∷ h))) r.graph r.input)
view_stays r e h = go (is_stopped h) refl
  where
    go : (b : Bool) → is_stopped h ≡ b → Extends (tree_ends r.templates r.depth (seen (running h)) r.graph r.input) (tree_ends r.templates r.depth (seen (running (e ∷ h))) r.graph r.input)
    go true is = rw is (record { kept = λ a s. refl })
    go false is = rw (is, running_is h is) (tree_more r.templates r.depth (seen h) (seen (e ∷ h)) (seen_more e h) r.graph r.input)

pub view_fates_stay : (r : Root) (e : Event) (h : List Event) (a : ℕ) → is_settled (tree_ends r.templates r.depth (seen (running h)) r.graph r.input a) ≡ true
    → tree_fate r.templates r.depth (seen (running (e ∷ h))) r.graph r.input a ≡ tree_fate r.templates r.depth (seen (running h)) r.graph r.input a
view_fates_stay r e h a settled = go (is_stopped h) refl
  where
    go : (b : Bool) → is_stopped h ≡ b → tree_fate r.templates r.depth (seen (running (e ∷ h))) r.graph r.input a ≡ tree_fate r.templates r.depth (seen (running h)) r.graph r.input a
    go true is = rw is refl
    go false is =
        rw (is, running_is h is)
        (fates_stay r.templates r.depth (seen h) (seen (e ∷ h)) (more_itself (taken h) (facts h)) (seen_more e h) r.graph r.input a (rw (running_is h is) at settled))

module _ (r : Root) (q : Note → ℕ) where
  abbrev x : Engine Note Event
  x = engine r q

  abbrev start_note : Bool → List Note
  start_note b = if b then BeginNote [] ∷ [] else []

  pub due_times : (h : List Event) (m : Note) → times x (due_now r h) m ≡ times x (start_note (has_started h)) m + times x (due_in r.templates r.depth (seen h) r.graph r.input) m
  due_times h m = times-append x itself one (start_note (has_started h)) (due_in r.templates r.depth (seen h) r.graph r.input) m

  start_kept : (e : Event) (h : List Event) (m : Note) → times x (start_note (has_started h)) m ≤ times x (start_note (has_started (e ∷ h))) m
  start_kept Started h m = go (has_started h)
    where
      go : (s : Bool) → times x (start_note s) m ≤ times x (start_note true) m
      go true = omega arith
      go false = omega arith
  start_kept (Turned n) h m = omega arith
  start_kept (Completed f) h m = omega arith
  start_kept (Held p b) h m = omega arith
  start_kept Stopped h m = omega arith

  pub due_stays : (e : Event) (h : List Event) (m : Note) → times x (due r h) m ≤ times x (due r (e ∷ h)) m
  due_stays e h m = go (is_stopped h) refl
    where
      go : (b : Bool) → is_stopped h ≡ b → times x (due r h) m ≤ times x (due r (e ∷ h)) m
      go true is = rw is (omega arith)
      go false is =
          let old = due_times h m in
          let new = due_times (e ∷ h) m in
          let more = due_more r q r.templates r.depth (seen h) (seen (e ∷ h)) (seen_more e h) r.graph r.input m in
          let start = start_kept e h m in
          rw (is, running_is h is) (omega arith)

  kinds : (m : Note) → kind m < 3
  kinds (BeginNote p) = omega arith
  kinds (SignalNote p a b v) = omega arith
  kinds (EndNote p) = omega arith

  pub start_signal : (s : Bool) (p : List Part) (a b : ℕ) (v : Bool) → times x (start_note s) (SignalNote p a b v) ≡ 0
  start_signal true p a b v = refl
  start_signal false p a b v = refl

  pub start_end : (s : Bool) (p : List Part) → times x (start_note s) (EndNote p) ≡ 0
  start_end true p = refl
  start_end false p = refl

  pub start_below : (s : Bool) (p : Part) (ps : List Part) → times x (start_note s) (BeginNote (p ∷ ps)) ≡ 0
  start_below true p ps = refl
  start_below false p ps = refl

  start_once : (s : Bool) → times x (start_note s) (BeginNote []) ≤ 1
  start_once true = omega arith
  start_once false = omega arith

  module _ (well : Well r.templates r.depth r.graph) where
    now_once : (h : List Event) (m : Note) → times x (due_now r h) m ≤ 1
    now_once h (BeginNote []) =
        let all = due_times h (BeginNote []) in
        let z = no_begin r q r.templates r.depth (seen h) r.graph r.input in
        let s = start_once (has_started h) in
        omega arith
    now_once h (BeginNote (p ∷ ps)) =
        let all = due_times h (BeginNote (p ∷ ps)) in
        let w = due_once r q r.templates r.depth (seen h) r.graph r.input well (BeginNote (p ∷ ps)) in
        let s = start_below (has_started h) p ps in
        omega arith
    now_once h (SignalNote p a b v) =
        let all = due_times h (SignalNote p a b v) in
        let w = due_once r q r.templates r.depth (seen h) r.graph r.input well (SignalNote p a b v) in
        let s = start_signal (has_started h) p a b v in
        omega arith
    now_once h (EndNote p) =
        let all = due_times h (EndNote p) in
        let w = due_once r q r.templates r.depth (seen h) r.graph r.input well (EndNote p) in
        let s = start_end (has_started h) p in
        omega arith

    stays : ((m : Note) → times x (due r []) m ≡ 0) → (h : List Event) → Stays x itself one h
    stays none [] = none
    stays none (e ∷ h) = (stays none h, λ m. (due_stays e h m, now_once (running (e ∷ h)) m))

    -- ---- what was taken was due

    pub taken_spent : (h : List Event) (m : Note) → times x (taken h) m ≡ times x (spent x h) m
    taken_spent [] m = refl
    taken_spent (Turned n ∷ h) m =
        let rest = taken_spent h m in
        let all = times-append x itself one (taken h) (n ∷ []) m in
        omega arith
    taken_spent (Started ∷ h) m = taken_spent h m
    taken_spent (Completed f ∷ h) m = taken_spent h m
    taken_spent (Held p b ∷ h) m = taken_spent h m
    taken_spent (Stopped ∷ h) m = taken_spent h m

    taken_more : (e : Event) (h : List Event) (m : Note) → times x (taken h) m ≤ times x (taken (e ∷ h)) m
    taken_more (Turned n) h m = let all = times-append x itself one (taken h) (n ∷ []) m in omega arith
    taken_more Started h m = omega arith
    taken_more (Completed f) h m = omega arith
    taken_more (Held p b) h m = omega arith
    taken_more Stopped h m = omega arith

    taken_running : (h : List Event) (m : Note) → times x (taken (running h)) m ≤ times x (taken h) m
    taken_running [] m = omega arith
    taken_running (e ∷ h) m = go (taken_running h m) (taken_more e h m) (is_stopped h) refl
      where
        go : times x (taken (running h)) m ≤ times x (taken h) m → times x (taken h) m ≤ times x (taken (e ∷ h)) m → (b : Bool) → is_stopped h ≡ b
            → times x (taken (running (e ∷ h))) m ≤ times x (taken (e ∷ h)) m
        go rest more true is = rw is (omega arith)
        go rest more false is = rw is (omega arith)

    pub told_taken : (ms : List Note) (p : List Part) (a b : ℕ) (v : Bool) → told ms p a b ≡ Some v → 1 ≤ times x ms (SignalNote p a b v)
    told_taken [] p a b v h = cc
    told_taken (m ∷ ms) p a b v h = go (told_taken ms p a b v) (told_by m p a b) refl
      where
        by : (m : Note) (w : Bool) → told_by m p a b ≡ Some w → same_note (SignalNote p a b w) m ≡ true
        by (BeginNote s) w is = cc
        by (EndNote s) w is = cc
        by (SignalNote s c d u) w is = at (same_parts s p && (c == a) && (d == b)) refl
          where
            at : (e : Bool) → (same_parts s p && (c == a) && (d == b)) ≡ e → same_note (SignalNote p a b w) (SignalNote s c d u) ≡ true
            at false e = let n : None ≡ Some w = rw e at is in cc
            at true e =
                let both = and_true (same_parts s p && (c == a)) _ e in
                let more = and_true (same_parts s p) _ both.0 in
                let u_is : Some u ≡ Some w = rw e at is in
                let u_w : u ≡ w = cc in
                rw (parts_one s p more.0, eqb_one c a more.1, eqb_one d b both.1, u_w) (itself (SignalNote p a b w))

        go : (told ms p a b ≡ Some v → 1 ≤ times x ms (SignalNote p a b v)) → (o : Option Bool) → told_by m p a b ≡ o → 1 ≤ times x (m ∷ ms) (SignalNote p a b v)
        go rest None is = let t = rest (rw is at h) in omega arith
        go rest (Some w) is =
            let e : Some w ≡ Some v = rw is at h in
            let w_v : w ≡ v = cc in
            let hit : same_note (SignalNote p a b v) m ≡ true = by m v (is ∙ ap Some w_v) in
            rw hit (omega arith)

    taken_told : (ms : List Note) (p : List Part) (a b : ℕ) (v : Bool) → 1 ≤ times x ms (SignalNote p a b v) → is_none (told ms p a b) ≡ false
    taken_told [] p a b v some = absurd (omega arith)
    taken_told (m ∷ ms) p a b v some = go (taken_told ms p a b v) (same_note (SignalNote p a b v) m) refl
      where
        go : (1 ≤ times x ms (SignalNote p a b v) → is_none (told ms p a b) ≡ false) → (e : Bool) → same_note (SignalNote p a b v) m ≡ e → is_none (told (m ∷ ms) p a b) ≡ false
        go rest true is =
            let same : SignalNote p a b v ≡ m = one (SignalNote p a b v) m is in
            rw (← same) (rw (parts_itself p, eqb_itself a, eqb_itself b) refl)
        go rest false is =
            let s = rw is at some in
            by (told_by m p a b) refl (rest (omega arith))
          where
            by : (o : Option Bool) → told_by m p a b ≡ o → is_none (told ms p a b) ≡ false → is_none (told (m ∷ ms) p a b) ≡ false
            by None e h = rw e h
            by (Some w) e h = rw e refl

    module _ (h : List Event) (fronts : TakesFronts x h) (nothing : (m : Note) → times x (due r []) m ≡ 0) where
      pub put_is_due : (m : Note) → times x (all_put x h) m ≡ times x (due r h) m
      put_is_due m = put_once x itself one kinds h (stays nothing h) m

      pub taken_is_due : (m : Note) → times x (taken (running h)) m ≤ times x (due r h) m
      taken_is_due m =
          let p = put_is_due m in
          let s = spent_once x itself one h fronts m in
          let t = taken_spent h m in
          let l = taken_running h m in
          omega arith

      queued_or_taken : (m : Note) → times x (all_put x h) m ≡ times x (spent x h) m + times x (queue x h (q m)) m
      queued_or_taken m = go (spent_once x itself one h fronts m) (put_at_most m) (has x (spent x h) m) refl
        where
          put_at_most : (n : Note) → times x (all_put x h) n ≤ 1
          put_at_most n = let p = put_is_due n in let o = now_once (running h) n in omega arith

          go : times x (spent x h) m ≤ times x (all_put x h) m → times x (all_put x h) m ≤ 1 → (b : Bool) → has x (spent x h) m ≡ b
              → times x (all_put x h) m ≡ times x (spent x h) m + times x (queue x h (q m)) m
          go less once true is =
              let some = has_times x itself one (spent x h) m is in
              let none = times_filter_no x itself one (λ n. (q n == q m) && not (has x (spent x h) n)) (all_put x h) m (rw (is, eqb_itself (q m)) refl) in
              omega arith
          go less once false is =
              let none = has_none x itself one (spent x h) m is in
              let all = times_filter_yes x itself one (λ n. (q n == q m) && not (has x (spent x h) n)) (all_put x h) m (rw (is, eqb_itself (q m)) refl) in
              omega arith

      pub note_once : (m : Note) → IsNoteOnce r q h m
      note_once m = record {
        put_once = let p = put_is_due m in let o = now_once (running h) m in omega arith;
        queued_or_taken = queued_or_taken m;
      }

      pub signal_due : (p : List Part) (a b : ℕ) (v : Bool) (o : Option Bool) → (seen (running h)).sent p a b o ≡ Some v
          → 1 ≤ times x (due_in r.templates r.depth (seen (running h)) r.graph r.input) (SignalNote p a b v)
      signal_due p a b v o was =
          let t = told_taken (taken (running h)) p a b v was in
          let d = taken_is_due (SignalNote p a b v) in
          let s = due_times (running h) (SignalNote p a b v) in
          let z = start_signal (has_started (running h)) p a b v in
          omega arith

      pub end_due : (s : Part) (p : List Part) → (seen (running h)).closed (s ∷ p) ≡ true → 1 ≤ times x (due_in r.templates r.depth (seen (running h)) r.graph r.input) (EndNote (s ∷ p))
      end_due s p was =
          let t = has_times x itself one (taken (running h)) (EndNote (s ∷ p)) was in
          let d = taken_is_due (EndNote (s ∷ p)) in
          let u = due_times (running h) (EndNote (s ∷ p)) in
          let z = start_end (has_started (running h)) (s ∷ p) in
          omega arith

      pub sound : Extends (tree_ends r.templates r.depth (seen (running h)) r.graph r.input) (tree_ends r.templates r.depth (all_of (seen (running h))) r.graph r.input)
      sound =
          tree_sound r.templates r.depth (seen (running h)) r.graph r.input well
          (tree_honest r q r.templates r.depth (seen (running h)) r.graph r.input well signal_due end_due)

      pub scopes_right : (path : List Part) → AtScope (IsRight r.templates) r.templates r.depth (seen (running h)) r.graph r.input path
      scopes_right path = all_by r q IsRight tree_right r.templates r.depth (seen (running h)) r.graph r.input path well signal_due end_due

      pub scopes_reached : (path : List Part) → AtScope (IsReached r.templates) r.templates r.depth (seen (running h)) r.graph r.input path
      scopes_reached path = all_by r q IsReached tree_reached r.templates r.depth (seen (running h)) r.graph r.input path well signal_due end_due

      pub scopes_sound : (path : List Part) → AtScope (IsSound r.templates) r.templates r.depth (seen (running h)) r.graph r.input path
      scopes_sound path = all_sound r q r.templates r.depth (seen (running h)) r.graph r.input path well signal_due end_due

      module _ (open_ : is_stopped h ≡ false) (started : has_started h ≡ true) (empty : (n : ℕ) → queue x h n ≡ []) where
        due_taken : (m : Note) → times x (due_now r h) m ≤ times x (taken h) m
        due_taken m =
            let put = rw (running_is h open_) at (put_is_due m) in
            let split = queued_or_taken m in
            let none : times x (queue x h (q m)) m ≡ 0 = rw (empty (q m)) refl in
            let t = taken_spent h m in
            omega arith

        pub root_begun : (seen h).begun [] ≡ true
        root_begun =
            times_has x itself one (taken h) (BeginNote [])
            (let d = due_taken (BeginNote []) in
            let s = due_times h (BeginNote []) in
            let b : times x (start_note (has_started h)) (BeginNote []) ≡ 1 = rw started refl in
            omega arith)

        pub signal_was : (p : List Part) (a b : ℕ) (v : Bool) (o : Option Bool) → (seen h).sent p a b o ≡ Some v → 1 ≤ times x (due_in r.templates r.depth (seen h) r.graph r.input) (SignalNote p a b v)
        signal_was p a b v o was = rw (running_is h open_) at (signal_due p a b v o (rw (running_is h open_) was))

        pub signal_is : (p : List Part) (a b : ℕ) (v : Bool) (o : Option Bool) → 1 ≤ times x (due_in r.templates r.depth (seen h) r.graph r.input) (SignalNote p a b v) → is_none ((seen h).sent p a b o) ≡ false
        signal_is p a b v o some = taken_told (taken h) p a b v (let d = due_taken (SignalNote p a b v) in let s = due_times h (SignalNote p a b v) in omega arith)

        pub begin_is : (p : List Part) → 1 ≤ times x (due_in r.templates r.depth (seen h) r.graph r.input) (BeginNote p) → (seen h).begun p ≡ true
        begin_is p some = times_has x itself one (taken h) (BeginNote p) (let d = due_taken (BeginNote p) in let s = due_times h (BeginNote p) in omega arith)

        pub end_is : (p : List Part) → 1 ≤ times x (due_in r.templates r.depth (seen h) r.graph r.input) (EndNote p) → (seen h).closed p ≡ true
        end_is p some = times_has x itself one (taken h) (EndNote p) (let d = due_taken (EndNote p) in let s = due_times h (EndNote p) in omega arith)

        full : Full r.templates r.depth (seen h) r.graph r.input
        full = tree_full r q r.templates r.depth (seen h) r.graph r.input well root_begun signal_was signal_is begin_is end_is

        pub scopes_exact : (path : List Part) → AtScope (IsExact r.templates) r.templates r.depth (seen h) r.graph r.input path
        scopes_exact path = all_exact r q r.templates r.depth (seen h) r.graph r.input path well root_begun signal_was signal_is begin_is end_is

        pub quiet : IsQuietView r h
        quiet = record {
          fates = tree_quiet_fate r.templates r.depth (seen h) r.graph r.input well full;
          ends = λ a. ap (λ e. e a) (tree_quiet r.templates r.depth (seen h) r.graph r.input well full);
        }
