-- No message is due twice.
use Rattle.fate_laws.proofs.Extends.{and_true}
use Rattle.fate_laws.proofs.Items.{eqb_one, part_itself, part_one}
use Rattle.fate_laws.specs.StartedScopes.{Reaches}
use Rattle.flow_model.specs.Conditions.{holds}
use Rattle.flow_model.specs.Fates.{Ends, is_open}
use Rattle.flow_model.specs.Rows.{same_part}
use Rattle.flow_model.specs.ScopeContainers.{base_of, graph_in, up_to}
use Rattle.flow_model.specs.Scopes.{Known, at, Gives, Runs, Trial, Start, then_start, starts, part, gives, is_fed, trial, fate_given, started_at}
use Rattle.flow_model.specs.declared.graphs.Activity.{Activity}
use Rattle.flow_model.specs.declared.graphs.Container.{Container}
use Rattle.flow_model.specs.declared.graphs.Graph.{Graph, out-Graph}
use Rattle.flow_model.specs.declared.graphs.Template.{Template}
use Rattle.flow_model.specs.declared.instances.Part.{Part}
use Rattle.flow_model.specs.declared.names.Name.{Name}
use Rattle.std.proofs.Common.{◌≡◌, ◌≢◌, ℕ, zero, suc, ◌+◌, ◌≤◌, ◌<◌, Bool, true, false, ◌&&◌, if◌then◌else◌, List, [], ◌∷◌, ◌++◌, map, length, refl, sym, ap, ◌∙◌, Option, Some, None, arith, inl, inr}
use Rattle.std.proofs.Math.Arith.{lt_of_le-ne}
use Rattle.std.proofs.lemmas.Bool.{cases_lt}
use Rattle.std.proofs.lemmas.Bool.Decides.{eqb_tells}
use Rattle.std.proofs.lemmas.Option.{slice_get_past}
use Rattle.std.proofs.lemmas.Slice.Eq.{bytes_eq-Decides}
use Rattle.std.specs.List.{flat_map}
use Rattle.std.specs.Prelude.{slice_get}
use Rattle.std.specs.Str.{bytes_eq}
use Rattle.view_laws.proofs.Counting.{times-append}
use Rattle.view_laws.proofs.MoreDue.{pop, times_popped, times_pushed}
use Rattle.view_laws.proofs.SameNotes.{itself, one}
use Rattle.view_laws.specs.Messages.{Note, BeginNote, SignalNote, EndNote, push, is_given, due_of, due_with, due_at}
use Rattle.view_laws.specs.Queues.{Engine, times}
use Rattle.view_laws.specs.Runs.{Root, Event, engine}

pub reaches_from : (n : ℕ) (gives : Gives) (t : Trial) (j : ℕ) (i : Container) (c : ℕ) (i' : Container) → Reaches n gives t j i c i' → j ≤ c
reaches_from zero gives t j i c i' r = absurd r
reaches_from (suc n) gives t j i c i' (inl r) = let e = r.0 in omega arith
reaches_from (suc n) gives t j i c i' (inr r) = let h = reaches_from n gives t (j + 1) (t.loops r.0) c i' r.3 in omega arith

pub reaches_more : (n : ℕ) (gives : Gives) (t : Trial) (j : ℕ) (i : Container) (c : ℕ) (i' : Container) → Reaches n gives t j i c i' → Reaches (suc n) gives t j i c i'
reaches_more zero gives t j i c i' r = absurd r
reaches_more (suc n) gives t j i c i' (inl r) = inl r
reaches_more (suc n) gives t j i c i' (inr r) = inr (r.0, r.1, r.2, reaches_more n gives t (j + 1) (t.loops r.0) c i' r.3)

module _ (r : Root) (qf : Note → ℕ) where
  abbrev x : Engine Note Event
  x = engine r qf

  -- ---- lists of lists of which one has the message

  flat_none : (f : ℕ → List Note) (m : Note) → ((a : ℕ) → times x (f a) m ≡ 0) → (n k : ℕ) → times x (flat_map f (up_to n k)) m ≡ 0
  flat_none f m none zero k = refl
  flat_none f m none (suc n) k =
      let here = none k in
      let rest = flat_none f m none n (k + 1) in
      let all = times-append x itself one (f k) (flat_map f (up_to n (k + 1))) m in
      omega arith

  flat_before : (f : ℕ → List Note) (m : Note) (b : ℕ) → ((a : ℕ) → a ≢ b → times x (f a) m ≡ 0) → (n k : ℕ) → b < k → times x (flat_map f (up_to n k)) m ≡ 0
  flat_before f m b none zero k less = refl
  flat_before f m b none (suc n) k less =
      let here = none k (λ e. let e' = e in omega arith) in
      let rest = flat_before f m b none n (k + 1) (omega arith) in
      let all = times-append x itself one (f k) (flat_map f (up_to n (k + 1))) m in
      omega arith

  flat_one : (f : ℕ → List Note) (m : Note) (b : ℕ) → ((a : ℕ) → a ≢ b → times x (f a) m ≡ 0) → (n k : ℕ) → k ≤ b → b < n + k
      → times x (flat_map f (up_to n k)) m ≡ times x (f b) m
  flat_one f m b none zero k low high = absurd (omega arith)
  flat_one f m b none (suc n) k low high =
      let all = times-append x itself one (f k) (flat_map f (up_to n (k + 1))) m in
      elim (eqb_tells k b) [
        | inl is ↦
            let e = is.1 in
            let rest = flat_before f m b none n (k + 1) (omega arith) in
            let here : times x (f k) m ≡ times x (f b) m = ap (λ a. times x (f a) m) e in
            omega arith
        | inr other ↦
            let o = other.1 in
            let ne : k ≢ b = o in
            let here = none k ne in
            let less = lt_of_le-ne low ne in
            let rest = flat_one f m b none n (k + 1) (omega arith) (omega arith) in
            omega arith
      ]

  module _ (F : Start → List Note) (m : Note) (c : ℕ) (none : (s : Start) → s.attempt ≢ c → times x (F s) m ≡ 0) (gives : Gives) (t : Trial) where
    abbrev here_and : ℕ → ℕ → Container → List Note
    here_and n j i = flat_map F (then_start t (gives j i) (λ out. starts n gives t (j + 1) (t.loops out)))

    split : (n j : ℕ) (i : Container) → times x (flat_map F (starts (suc n) gives t j i)) m ≡ times x (F (record { attempt = j; input = i })) m + times x (here_and n j i) m
    split n j i = times-append x itself one (F (record { attempt = j; input = i })) (here_and n j i) m

    tail_by : (n j : ℕ) (i : Container) (P : ℕ → Type 0) → P 0 → ((out : Container) → P (times x (flat_map F (starts n gives t (j + 1) (t.loops out))) m)) → P (times x (here_and n j i) m)
    tail_by n j i P zero_ok rest = go (gives j i) refl
      where
        on_exit : (out : Container) → (b : Bool) → holds t.exit out ≡ b → P (times x (flat_map F (then_start t (Some out) (λ o. starts n gives t (j + 1) (t.loops o)))) m)
        on_exit out true is = rw is zero_ok
        on_exit out false is = rw is (rest out)

        go : (o : Option Container) → gives j i ≡ o → P (times x (here_and n j i) m)
        go None is = rw is zero_ok
        go (Some out) is = rw is (on_exit out (holds t.exit out) refl)

    starts_none : (n j : ℕ) (i : Container) → c < j → times x (flat_map F (starts n gives t j i)) m ≡ 0
    starts_none zero j i less = refl
    starts_none (suc n) j i less =
        let here = none (record { attempt = j; input = i }) (λ e. let e' = e in omega arith) in
        let rest = tail_by n j i (λ v. v ≡ 0) refl (λ out. starts_none n (j + 1) (t.loops out) (omega arith)) in
        let all = split n j i in
        omega arith

    starts_once : ((s : Start) → times x (F s) m ≤ 1) → (n j : ℕ) (i : Container) → times x (flat_map F (starts n gives t j i)) m ≤ 1
    starts_once once zero j i = omega arith
    starts_once once (suc n) j i =
        let all = split n j i in
        elim (eqb_tells j c) [
          | inl is ↦
              let e = is.1 in
              let here = once (record { attempt = j; input = i }) in
              let rest = tail_by n j i (λ v. v ≡ 0) refl (λ out. starts_none n (j + 1) (t.loops out) (omega arith)) in
              omega arith
          | inr other ↦
              let here = none (record { attempt = j; input = i }) other.1 in
              let rest = tail_by n j i (λ v. v ≤ 1) (omega arith) (λ out. starts_once once n (j + 1) (t.loops out)) in
              omega arith
        ]

    starts_one : (n j : ℕ) (i i' : Container) → Reaches n gives t j i c i' → times x (flat_map F (starts n gives t j i)) m ≡ times x (F (record { attempt = c; input = i' })) m
    starts_one zero j i i' r = absurd r
    starts_one (suc n) j i i' (inl r) =
        let rest = tail_by n j i (λ v. v ≡ 0) refl (λ out. starts_none n (j + 1) (t.loops out) (let e = r.0 in omega arith)) in
        let all = split n j i in
        let same : times x (F (record { attempt = j; input = i })) m ≡ times x (F (record { attempt = c; input = i' })) m =
        ap (λ a. times x (F (record { attempt = a; input = i })) m) r.0 ∙ ap (λ b. times x (F (record { attempt = c; input = b })) m) r.1 in
        omega arith
    starts_one (suc n) j i i' (inr r) =
        let later = reaches_from n gives t (j + 1) (t.loops r.0) c i' r.3 in
        let here = none (record { attempt = j; input = i }) (λ e. let e' = e in omega arith) in
        let all = split n j i in
        let rest : times x (here_and n j i) m ≡ times x (flat_map F (starts n gives t (j + 1) (t.loops r.0))) m = rw (r.1, r.2) refl in
        let on = starts_one n (j + 1) (t.loops r.0) i' r.3 in
        omega arith

  -- ---- one attempt that has started

  abbrev pub tops : Known → Part → Option Container → List Note
  tops k q out = BeginNote [] ∷ (if k.begun (q ∷ []) && is_given out then EndNote [] ∷ [] else [])

  due_of_is : (k : Known) (q : Part) (out : Option Container) (ns : List Note) → due_of k q out ns ≡ map (push q) (tops k q out ++ ns)
  due_of_is k q out ns = go (k.begun (q ∷ []) && is_given out) refl
    where
      go : (b : Bool) → (k.begun (q ∷ []) && is_given out) ≡ b → due_of k q out ns ≡ map (push q) (tops k q out ++ ns)
      go true is = rw is refl
      go false is = rw is refl

  pop_push : (q : Part) (m : Note) → pop r qf q (push q m) ≡ Some m
  pop_push q (BeginNote p) = rw (part_itself q) refl
  pop_push q (SignalNote p a b v) = rw (part_itself q) refl
  pop_push q (EndNote p) = rw (part_itself q) refl

  pop_other : (p q : Part) (m : Note) → same_part p q ≡ false → pop r qf q (push p m) ≡ None
  pop_other p q (BeginNote n) h = rw h refl
  pop_other p q (SignalNote n a b v) h = rw h refl
  pop_other p q (EndNote n) h = rw h refl

  of_self : (k : Known) (q : Part) (out : Option Container) (ns : List Note) (m : Note) → times x (due_of k q out ns) (push q m) ≡ times x (tops k q out ++ ns) m
  of_self k q out ns m =
      ap (λ l. times x l (push q m)) (due_of_is k q out ns) ∙ times_pushed r qf q (tops k q out ++ ns) (push q m) ∙ ap (times_popped r qf (tops k q out ++ ns)) (pop_push q m)

  pub of_other : (k : Known) (p q : Part) (out : Option Container) (ns : List Note) (m : Note) → same_part p q ≡ false → times x (due_of k q out ns) (push p m) ≡ 0
  of_other k p q out ns m h =
      ap (λ l. times x l (push p m)) (due_of_is k q out ns) ∙ times_pushed r qf q (tops k q out ++ ns) (push p m) ∙ ap (times_popped r qf (tops k q out ++ ns)) (pop_other p q m h)

  -- ---- the activities of a scope

  abbrev pub Below : Type 0
  Below = Known → Graph → Container → List Note

  module _ (ts : List Template) (k : Known) (runs : Runs) (below : Below) (g : Graph) (input : Container) (e : Ends) where
    abbrev pub at_place : ℕ → List Note
    at_place a = due_at ts runs below k g input e a (slice_get (out-Graph g).activities a)

    abbrev pub one_start : Name → Graph → Start → List Note
    one_start name h s = due_of k (part name s.attempt) (runs (at (part name s.attempt) k) h s.input) (below (at (part name s.attempt) k) h s.input)

    abbrev pub inner : Name → Graph → Start → List Note
    inner name h s = tops k (part name s.attempt) (runs (at (part name s.attempt) k) h s.input) ++ below (at (part name s.attempt) k) h s.input

    name_one : (p : Part) (name : Name) (j : ℕ) → same_part p (part name j) ≡ true → (p.name ≡ name) × (j ≡ p.attempt)
    name_one p name j h =
        let both = and_true (bytes_eq p.name name) _ h in
        ((bytes_eq-Decides p.name name).0 both.0, sym (eqb_one p.attempt j both.1))

    other_attempt : (p : Part) (name : Name) (h : Graph) (m : Note) (s : Start) → s.attempt ≢ p.attempt → times x (one_start name h s) (push p m) ≡ 0
    other_attempt p name h m s ne = go (same_part p (part name s.attempt)) refl
      where
        go : (b : Bool) → same_part p (part name s.attempt) ≡ b → times x (one_start name h s) (push p m) ≡ 0
        go true is = absurd (ne (name_one p name s.attempt is).1)
        go false is = of_other k p (part name s.attempt) _ _ m is

    other_name : (p : Part) (name : Name) (h : Graph) (m : Note) → (p.name ≡ name → ⊥) → (ss : List Start) → times x (flat_map (one_start name h) ss) (push p m) ≡ 0
    other_name p name h m ne [] = refl
    other_name p name h m ne (s ∷ ss) =
        let here = go (same_part p (part name s.attempt)) refl in
        let rest = other_name p name h m ne ss in
        let all = times-append x itself one (one_start name h s) (flat_map (one_start name h) ss) (push p m) in
        omega arith
      where
        go : (b : Bool) → same_part p (part name s.attempt) ≡ b → times x (one_start name h s) (push p m) ≡ 0
        go true is = absurd (ne (name_one p name s.attempt is).0)
        go false is = of_other k p (part name s.attempt) _ _ m is

    other_at : (p : Part) (m : Note) (a : ℕ) (o : Option Activity) → ((activity : Activity) → o ≡ Some activity → p.name ≡ activity.name → ⊥)
        → times x (due_at ts runs below k g input e a o) (push p m) ≡ 0
    other_at p m a None ne = refl
    other_at p m a (Some activity) ne = go (graph_in ts activity.work)
      where
        go : (h : Option Graph) → times x (due_with runs below k activity.name h (started_at ts k runs g input e a activity)) (push p m) ≡ 0
        go None = refl
        go (Some h) = other_name p activity.name h m (ne activity refl) (started_at ts k runs g input e a activity)

    abbrev pub Named : Type 0
    Named = (a b : ℕ) (y z : Activity) → slice_get (out-Graph g).activities a ≡ Some y → slice_get (out-Graph g).activities b ≡ Some z → y.name ≡ z.name → a ≡ b

    abbrev pub all_places : List Note
    all_places = flat_map at_place (up_to (length (out-Graph g).activities) 0)

    inside_of : (a : ℕ) (activity : Activity) → slice_get (out-Graph g).activities a ≡ Some activity → a < length (out-Graph g).activities
    inside_of a activity is = elim (cases_lt a (length (out-Graph g).activities)) [
      | inl less ↦ less
      | inr past ↦ (
          let none = slice_get_past (out-Graph g).activities a past in
          let n : None ≡ Some activity = sym none ∙ is in
          absurd (none_some n))
    ]
      where
        none_some : None ≡ Some activity → ⊥
        none_some n = cc

    -- what is due below an activity is due there
    pub place_one : Named → (p : Part) (m : Note) (a : ℕ) (activity : Activity) → slice_get (out-Graph g).activities a ≡ Some activity → p.name ≡ activity.name
        → times x all_places (push p m) ≡ times x (due_at ts runs below k g input e a (Some activity)) (push p m)
    place_one named p m a activity is name =
        flat_one at_place (push p m) a
        (λ b ne. other_at p m b (slice_get (out-Graph g).activities b) (λ z at_b same. ne (named b a z activity at_b is (sym same ∙ name))))
        (length (out-Graph g).activities) 0 (omega arith) (let i = inside_of a activity is in omega arith)
        ∙ ap (λ o. times x (due_at ts runs below k g input e a o) (push p m)) is

    -- where the activity isn't open, nothing is due below it
    pub shut_none : Named → (p : Part) (m : Note) (a : ℕ) (activity : Activity) → slice_get (out-Graph g).activities a ≡ Some activity → p.name ≡ activity.name
        → (is_open (fate_given ts k runs g input e a) && is_fed (out-Graph g).lines a e) ≡ false → times x all_places (push p m) ≡ 0
    shut_none named p m a activity is name shut = place_one named p m a activity is name ∙ go (graph_in ts activity.work)
      where
        go : (h : Option Graph) → times x (due_with runs below k activity.name h (started_at ts k runs g input e a activity)) (push p m) ≡ 0
        go None = refl
        go (Some h) = rw shut refl

    -- what is due in the scope of an attempt that is reached is due
    pub reached_one : Named → (c : ℕ) (i : Container) (m : Note) (a : ℕ) (activity : Activity) (h : Graph) → slice_get (out-Graph g).activities a ≡ Some activity
        → graph_in ts activity.work ≡ Some h → (is_open (fate_given ts k runs g input e a) && is_fed (out-Graph g).lines a e) ≡ true
        → Reaches (suc k.most) (gives ts k runs activity.name activity.work) (trial g a activity (base_of g activity a input e)) 1 (base_of g activity a input e) c i
        → times x all_places (push (part activity.name c) m) ≡ times x (inner activity.name h (record { attempt = c; input = i })) m
    reached_one named c i m a activity h is of open_ reach =
        place_one named (part activity.name c) m a activity is refl
        ∙ rw (of, open_)
        (starts_one (one_start activity.name h) (push (part activity.name c) m) c (λ s ne. other_attempt (part activity.name c) activity.name h m s ne)
        (gives ts k runs activity.name activity.work) (trial g a activity (base_of g activity a input e)) (suc k.most) 1 (base_of g activity a input e) i reach
        ∙ of_self k (part activity.name c) _ _ m)

    -- ---- once

    pub once_at : (p : Part) (m : Note) (a : ℕ) (o : Option Activity) → slice_get (out-Graph g).activities a ≡ o
        → ((activity : Activity) (h : Graph) (s : Start) → slice_get (out-Graph g).activities a ≡ Some activity → graph_in ts activity.work ≡ Some h → times x (inner activity.name h s) m ≤ 1)
        → times x (due_at ts runs below k g input e a o) (push p m) ≤ 1
    once_at p m a None is once = omega arith
    once_at p m a (Some activity) is once = go (graph_in ts activity.work) refl (is_open (fate_given ts k runs g input e a) && is_fed (out-Graph g).lines a e) refl
      where
        one_at_most : (h : Graph) → graph_in ts activity.work ≡ Some h → (s : Start) → times x (one_start activity.name h s) (push p m) ≤ 1
        one_at_most h of s = at_part (same_part p (part activity.name s.attempt)) refl
          where
            at_part : (b : Bool) → same_part p (part activity.name s.attempt) ≡ b → times x (one_start activity.name h s) (push p m) ≤ 1
            at_part false no_ = let z = of_other k p (part activity.name s.attempt) (runs (at (part activity.name s.attempt) k) h s.input) (below (at (part activity.name s.attempt) k) h s.input) m no_ in omega arith
            at_part true yes_ =
                let q : p ≡ part activity.name s.attempt = part_one p (part activity.name s.attempt) yes_ in
                let z = of_self k (part activity.name s.attempt) (runs (at (part activity.name s.attempt) k) h s.input) (below (at (part activity.name s.attempt) k) h s.input) m in
                let w = once activity h s is of in
                let moved : times x (one_start activity.name h s) (push p m) ≡ times x (one_start activity.name h s) (push (part activity.name s.attempt) m) =
                ap (λ u. times x (one_start activity.name h s) (push u m)) q in
                omega arith

        go : (h : Option Graph) → graph_in ts activity.work ≡ h → (b : Bool) → (is_open (fate_given ts k runs g input e a) && is_fed (out-Graph g).lines a e) ≡ b
            → times x (due_with runs below k activity.name h (started_at ts k runs g input e a activity)) (push p m) ≤ 1
        go None of b open_ = omega arith
        go (Some h) of false open_ = rw open_ (omega arith)
        go (Some h) of true open_ =
            rw open_
            (starts_once (one_start activity.name h) (push p m) p.attempt (λ s ne. other_attempt p activity.name h m s ne)
            (gives ts k runs activity.name activity.work) (trial g a activity (base_of g activity a input e))
            (one_at_most h of) (suc k.most) 1 (base_of g activity a input e))

    -- messages of the scope itself aren't among those below
    pub own_none : (m : Note) → ((q : Part) → pop r qf q m ≡ None) → times x all_places m ≡ 0
    own_none m own = flat_none at_place m (λ a. at_option a (slice_get (out-Graph g).activities a)) (length (out-Graph g).activities) 0
      where
        each : (name : Name) (h : Graph) (ss : List Start) → times x (flat_map (one_start name h) ss) m ≡ 0
        each name h [] = refl
        each name h (s ∷ ss) =
            let q = part name s.attempt in
            let o = runs (at q k) h s.input in
            let ns = below (at q k) h s.input in
            let here : times x (one_start name h s) m ≡ 0 =
            ap (λ l. times x l m) (due_of_is k q o ns) ∙ times_pushed r qf q (tops k q o ++ ns) m ∙ ap (times_popped r qf (tops k q o ++ ns)) (own q) in
            let rest = each name h ss in
            let all = times-append x itself one (one_start name h s) (flat_map (one_start name h) ss) m in
            omega arith

        at_option : (a : ℕ) (o : Option Activity) → times x (due_at ts runs below k g input e a o) m ≡ 0
        at_option a None = refl
        at_option a (Some activity) = at_graph (graph_in ts activity.work)
          where
            at_graph : (h : Option Graph) → times x (due_with runs below k activity.name h (started_at ts k runs g input e a activity)) m ≡ 0
            at_graph None = refl
            at_graph (Some h) = each activity.name h (started_at ts k runs g input e a activity)

    flat_once : (p : Part) (m : Note) → Named → ((a : ℕ) → times x (at_place a) (push p m) ≤ 1) → (n j : ℕ) → times x (flat_map at_place (up_to n j)) (push p m) ≤ 1
    flat_once p m named once zero j = omega arith
    flat_once p m named once (suc n) j =
        let all = times-append x itself one (at_place j) (flat_map at_place (up_to n (j + 1))) (push p m) in
        let here = once j in
        let rest = flat_once p m named once n (j + 1) in
        go (slice_get (out-Graph g).activities j) refl all here rest
      where
        go : (o : Option Activity) → slice_get (out-Graph g).activities j ≡ o
            → times x (flat_map at_place (up_to (suc n) j)) (push p m) ≡ times x (at_place j) (push p m) + times x (flat_map at_place (up_to n (j + 1))) (push p m)
            → times x (at_place j) (push p m) ≤ 1 → times x (flat_map at_place (up_to n (j + 1))) (push p m) ≤ 1
            → times x (flat_map at_place (up_to (suc n) j)) (push p m) ≤ 1
        go None is all here rest =
            let z : times x (at_place j) (push p m) ≡ 0 = rw is refl in
            omega arith
        go (Some y) is all here rest = by_name (bytes_eq p.name y.name) refl
          where
            by_name : (b : Bool) → bytes_eq p.name y.name ≡ b → times x (flat_map at_place (up_to (suc n) j)) (push p m) ≤ 1
            by_name true hit =
                let name = (bytes_eq-Decides p.name y.name).0 hit in
                let z = flat_before at_place (push p m) j
                (λ a ne. other_at p m a (slice_get (out-Graph g).activities a) (λ w at_a same. ne (named a j w y at_a is (sym same ∙ name))))
                n (j + 1) (omega arith) in
                omega arith
            by_name false miss =
                let z : times x (at_place j) (push p m) ≡ 0 =
                other_at p m j (slice_get (out-Graph g).activities j)
                (λ w at_j same.
                let e : Some w ≡ Some y = sym at_j ∙ is in
                let same' : p.name ≡ y.name = same ∙ ap name_in e in
                let n : false ≡ true = sym miss ∙ (bytes_eq-Decides p.name y.name).1 same' in
                false_true n) in
                omega arith
              where
                name_in : Option Activity → Name
                name_in None = []
                name_in (Some w) = w.name

                false_true : false ≡ true → ⊥
                false_true h = cc

    pub all_once : Named → (p : Part) (m : Note)
        → ((a : ℕ) (activity : Activity) (h : Graph) (s : Start) → slice_get (out-Graph g).activities a ≡ Some activity → graph_in ts activity.work ≡ Some h → times x (inner activity.name h s) m ≤ 1)
        → times x all_places (push p m) ≤ 1
    all_once named p m once =
        flat_once p m named
        (λ a. once_at p m a (slice_get (out-Graph g).activities a) refl (λ activity h s is of. once a activity h s is of))
        (length (out-Graph g).activities) 0
