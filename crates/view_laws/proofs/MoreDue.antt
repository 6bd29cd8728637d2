-- Any further event tells more, and what is due of a root stays due.
use Rattle.fate_laws.proofs.Attempts.{Keeps}
use Rattle.fate_laws.proofs.Extends.{Extends, joined_kept, and_true, both_true}
use Rattle.fate_laws.proofs.Later.{output_of-append}
use Rattle.fate_laws.proofs.Stays.{more_at, values_more, gives_more, output_more, tree_more}
use Rattle.fate_laws.proofs.Steps.{LinesKept, fed_kept, base_kept}
use Rattle.fate_laws.specs.More.{More}
use Rattle.flow_model.specs.Conditions.{holds}
use Rattle.flow_model.specs.Fates.{Ends, connector_value, joined, fate_by, is_settled, goes_on, tried, is_open}
use Rattle.flow_model.specs.Rows.{same_part, same_parts}
use Rattle.flow_model.specs.ScopeContainers.{base_of, graph_in, up_to}
use Rattle.flow_model.specs.Scopes.{Known, at, Gives, Runs, Trial, Start, then_start, starts, part, gives, is_fed, trial, values_at, fate_given, attempts_at, output, tree_ends, started_at}
use Rattle.flow_model.specs.declared.graphs.Activity.{Activity}
use Rattle.flow_model.specs.declared.graphs.Container.{Container}
use Rattle.flow_model.specs.declared.graphs.Control.{Control}
use Rattle.flow_model.specs.declared.graphs.Graph.{Graph, out-Graph}
use Rattle.flow_model.specs.declared.graphs.Template.{Template}
use Rattle.flow_model.specs.declared.graphs.Work.{Work, Program, Block, Process}
use Rattle.flow_model.specs.declared.instances.Fact.{Fact}
use Rattle.flow_model.specs.declared.instances.Part.{Part}
use Rattle.flow_model.specs.declared.instances.SourceEnd.{SourceEnd}
use Rattle.std.proofs.Common.{◌≡◌, ℕ, zero, suc, ◌+◌, ◌≤◌, ◌==◌, Bool, true, false, ◌&&◌, if◌then◌else◌, List, [], ◌∷◌, ◌++◌, map, length, refl, sym, ◌∙◌, Option, Some, None, arith, length-append}
use Rattle.std.specs.List.{list_any, filter, flat_map, last_or}
use Rattle.std.specs.Prelude.{is_none, slice_get}
use Rattle.view_laws.proofs.Counting.{times-append}
use Rattle.view_laws.proofs.SameNotes.{itself, one}
use Rattle.view_laws.specs.Messages.{Note, BeginNote, SignalNote, EndNote, push, note_of, notes, is_given, due_of, due_with, due_at, due_in, same_truth, same_note}
use Rattle.view_laws.specs.Queues.{Engine, times}
use Rattle.view_laws.specs.Runs.{Root, Event, Started, Turned, Completed, Held, Stopped, taken, facts, told_by, told, known, seen, engine}
use Rattle.flow_model.specs.declared.instances.SourceEnd.TheVariants as end

-- ---- one more event

any_more : (p : Note → Bool) (ms ns : List Note) → list_any p ms ≡ true → list_any p (ms ++ ns) ≡ true
any_more p [] ns h = cc
any_more p (m ∷ ms) ns h = go (any_more p ms ns) (p m) refl
  where
    go : (list_any p ms ≡ true → list_any p (ms ++ ns) ≡ true) → (b : Bool) → p m ≡ b → list_any p ((m ∷ ms) ++ ns) ≡ true
    go rest true is = rw is refl
    go rest false is = rw is (rest (rw is at h))

told_more : (ms ns : List Note) (p : List Part) (a b : ℕ) → is_none (told ms p a b) ≡ false → told (ms ++ ns) p a b ≡ told ms p a b
told_more [] ns p a b h = cc
told_more (m ∷ ms) ns p a b h = go (told_more ms ns p a b) (told_by m p a b) refl
  where
    go : (is_none (told ms p a b) ≡ false → told (ms ++ ns) p a b ≡ told ms p a b) → (o : Option Bool) → told_by m p a b ≡ o
        → told ((m ∷ ms) ++ ns) p a b ≡ told (m ∷ ms) p a b
    go rest None is = rw is (rest (rw is at h))
    go rest (Some v) is = rw is refl

pub more_itself : (ms : List Note) (fs : List Fact) → More (known ms fs) (known ms fs)
more_itself ms fs = record {
  most = omega arith;
  begun = λ p h. h;
  closed = λ p h. h;
  sent = λ p a b v v' same h. refl;
  given = λ p out h. h;
}

-- any further event tells more
pub seen_more : (e : Event) (h : List Event) → More (seen h) (seen (e ∷ h))
seen_more Started h = more_itself (taken h) (facts h)
seen_more (Turned m) h = record {
  most = omega arith;
  begun = λ p is. any_more (same_note (BeginNote p)) (taken h) (m ∷ []) is;
  closed = λ p is. any_more (same_note (EndNote p)) (taken h) (m ∷ []) is;
  sent = λ p a b v v' same is. told_more (taken h) (m ∷ []) p a b is;
  given = λ p out is. is;
}
seen_more (Completed f) h = record {
  most = omega (arith, length-append (facts h) (f ∷ []));
  begun = λ q is. is;
  closed = λ q is. is;
  sent = λ q a b v v' same is. refl;
  given = λ q out is. output_of-append (facts h) (f ∷ []) q out is;
}
seen_more (Held p b) h = more_itself (taken h) (facts h)
seen_more Stopped h = more_itself (taken h) (facts h)

-- ---- due messages

module _ (r : Root) (qf : Note → ℕ) where
  abbrev x : Engine Note Event
  x = engine r qf

  note_kept : (controls : List Control) (c : Control) (s s' : SourceEnd) → (is_settled s ≡ true → s' ≡ s) → (m : Note)
      → times x (note_of c (connector_value controls c s)) m ≤ times x (note_of c (connector_value controls c s')) m
  note_kept controls c end.Unsettled s' kept m = omega arith
  note_kept controls c end.Dead s' kept m = rw (kept refl) (omega arith)
  note_kept controls c (end.Finished out) s' kept m = rw (kept refl) (omega arith)

  notes_kept : (controls cs : List Control) (e e' : Ends) → Extends e e' → (m : Note) → times x (notes controls cs e) m ≤ times x (notes controls cs e') m
  notes_kept controls [] e e' k m = omega arith
  notes_kept controls (c ∷ cs) e e' k m =
      let here = note_kept controls c (e c.from) (e' c.from) (k.kept c.from) m in
      let rest = notes_kept controls cs e e' k m in
      let old = times-append x itself one (note_of c (connector_value controls c (e c.from))) (notes controls cs e) m in
      let new = times-append x itself one (note_of c (connector_value controls c (e' c.from))) (notes controls cs e') m in
      omega arith

  flat_more : {A : Type 0} (f f' : A → List Note) (xs : List A) (m : Note) → ((a : A) → times x (f a) m ≤ times x (f' a) m)
      → times x (flat_map f xs) m ≤ times x (flat_map f' xs) m
  flat_more f f' [] m h = omega arith
  flat_more f f' (a ∷ xs) m h =
      let here = h a in
      let rest = flat_more f f' xs m h in
      let old = times-append x itself one (f a) (flat_map f xs) m in
      let new = times-append x itself one (f' a) (flat_map f' xs) m in
      omega arith

  -- what starts, still starts
  starts_more : (f f' : Start → List Note) (m : Note) → ((s : Start) → times x (f s) m ≤ times x (f' s) m)
      → (gives gives' : Gives) (t : Trial) → ((j : ℕ) (i : Container) → Keeps gives gives' j i)
      → (n n' j : ℕ) (i : Container) → n ≤ n' → times x (flat_map f (starts n gives t j i)) m ≤ times x (flat_map f' (starts n' gives' t j i)) m
  starts_more f f' m more gives gives' t keeps zero n' j i le = omega arith
  starts_more f f' m more gives gives' t keeps (suc n) zero j i le = absurd (omega arith)
  starts_more f f' m more gives gives' t keeps (suc n) (suc n') j i le =
      let here = more (record { attempt = j; input = i }) in
      let rest = go (gives j i) refl (λ out. starts_more f f' m more gives gives' t keeps n n' (j + 1) (t.loops out) (omega arith)) in
      let old = times-append x itself one (f (record { attempt = j; input = i })) (flat_map f (then_start t (gives j i) (λ out. starts n gives t (j + 1) (t.loops out)))) m in
      let new = times-append x itself one (f' (record { attempt = j; input = i })) (flat_map f' (then_start t (gives' j i) (λ out. starts n' gives' t (j + 1) (t.loops out)))) m in
      omega arith
    where
      on_exit : (out : Container) → times x (flat_map f (starts n gives t (j + 1) (t.loops out))) m ≤ times x (flat_map f' (starts n' gives' t (j + 1) (t.loops out))) m
          → (b : Bool) → holds t.exit out ≡ b
          → times x (flat_map f (then_start t (Some out) (λ o. starts n gives t (j + 1) (t.loops o)))) m ≤ times x (flat_map f' (then_start t (Some out) (λ o. starts n' gives' t (j + 1) (t.loops o)))) m
      on_exit out rest true is = rw is (omega arith)
      on_exit out rest false is = rw is rest

      go : (o : Option Container) → gives j i ≡ o
          → ((out : Container) → times x (flat_map f (starts n gives t (j + 1) (t.loops out))) m ≤ times x (flat_map f' (starts n' gives' t (j + 1) (t.loops out))) m)
          → times x (flat_map f (then_start t (gives j i) (λ out. starts n gives t (j + 1) (t.loops out)))) m
          ≤ times x (flat_map f' (then_start t (gives' j i) (λ out. starts n' gives' t (j + 1) (t.loops out)))) m
      go None is rest = rw is (omega arith)
      go (Some out) is rest = rw (keeps j i out is, is) (on_exit out (rest out) (holds t.exit out) refl)

  -- ---- messages of a scope below

  abbrev pub if_part : Bool → Note → Option Note
  if_part b m = if b then Some m else None

  -- the message as the scope below names it
  abbrev pub pop : Part → Note → Option Note
  pop q (BeginNote []) = None
  pop q (BeginNote (p ∷ ps)) = if_part (same_part p q) (BeginNote ps)
  pop q (SignalNote [] a b v) = None
  pop q (SignalNote (p ∷ ps) a b v) = if_part (same_part p q) (SignalNote ps a b v)
  pop q (EndNote []) = None
  pop q (EndNote (p ∷ ps)) = if_part (same_part p q) (EndNote ps)

  abbrev pub same_popped : Option Note → Note → Bool
  same_popped None n = false
  same_popped (Some m) n = same_note m n

  guarded : (b : Bool) (m n : Note) → same_popped (if_part b m) n ≡ (b && same_note m n)
  guarded true m n = refl
  guarded false m n = refl

  and_assoc : (a b c : Bool) → (a && (b && c)) ≡ ((a && b) && c)
  and_assoc true b c = refl
  and_assoc false b c = refl

  same_pushed : (q : Part) (m n : Note) → same_note m (push q n) ≡ same_popped (pop q m) n
  same_pushed q (BeginNote []) (BeginNote ns) = refl
  same_pushed q (BeginNote []) (SignalNote ns c d w) = refl
  same_pushed q (BeginNote []) (EndNote ns) = refl
  same_pushed q (BeginNote (p ∷ ps)) (BeginNote ns) = sym (guarded (same_part p q) (BeginNote ps) (BeginNote ns))
  same_pushed q (BeginNote (p ∷ ps)) (SignalNote ns c d w) = go (same_part p q)
    where
      go : (b : Bool) → false ≡ same_popped (if_part b (BeginNote ps)) (SignalNote ns c d w)
      go true = refl
      go false = refl
  same_pushed q (BeginNote (p ∷ ps)) (EndNote ns) = go (same_part p q)
    where
      go : (b : Bool) → false ≡ same_popped (if_part b (BeginNote ps)) (EndNote ns)
      go true = refl
      go false = refl
  same_pushed q (SignalNote [] a b v) (BeginNote ns) = refl
  same_pushed q (SignalNote [] a b v) (SignalNote ns c d w) = refl
  same_pushed q (SignalNote [] a b v) (EndNote ns) = refl
  same_pushed q (SignalNote (p ∷ ps) a b v) (BeginNote ns) = go (same_part p q)
    where
      go : (e : Bool) → false ≡ same_popped (if_part e (SignalNote ps a b v)) (BeginNote ns)
      go true = refl
      go false = refl
  same_pushed q (SignalNote (p ∷ ps) a b v) (SignalNote ns c d w) = go (same_part p q)
    where
      go : (e : Bool) → (((e && same_parts ps ns) && (a == c)) && (b == d) && same_truth v w) ≡ same_popped (if_part e (SignalNote ps a b v)) (SignalNote ns c d w)
      go true = refl
      go false = refl
  same_pushed q (SignalNote (p ∷ ps) a b v) (EndNote ns) = go (same_part p q)
    where
      go : (e : Bool) → false ≡ same_popped (if_part e (SignalNote ps a b v)) (EndNote ns)
      go true = refl
      go false = refl
  same_pushed q (EndNote []) (BeginNote ns) = refl
  same_pushed q (EndNote []) (SignalNote ns c d w) = refl
  same_pushed q (EndNote []) (EndNote ns) = refl
  same_pushed q (EndNote (p ∷ ps)) (BeginNote ns) = go (same_part p q)
    where
      go : (b : Bool) → false ≡ same_popped (if_part b (EndNote ps)) (BeginNote ns)
      go true = refl
      go false = refl
  same_pushed q (EndNote (p ∷ ps)) (SignalNote ns c d w) = go (same_part p q)
    where
      go : (b : Bool) → false ≡ same_popped (if_part b (EndNote ps)) (SignalNote ns c d w)
      go true = refl
      go false = refl
  same_pushed q (EndNote (p ∷ ps)) (EndNote ns) = sym (guarded (same_part p q) (EndNote ps) (EndNote ns))

  abbrev pub times_popped : List Note → Option Note → ℕ
  times_popped ns None = 0
  times_popped ns (Some m) = times x ns m

  pub times_pushed : (q : Part) (ns : List Note) (m : Note) → times x (map (push q) ns) m ≡ times_popped ns (pop q m)
  times_pushed q [] m = go (pop q m)
    where
      go : (o : Option Note) → 0 ≡ times_popped [] o
      go None = refl
      go (Some n) = refl
  times_pushed q (n ∷ ns) m = rw (same_pushed q m n) (go (times_pushed q ns m) (pop q m) refl)
    where
      go : times x (map (push q) ns) m ≡ times_popped ns (pop q m) → (o : Option Note) → pop q m ≡ o
          → (if same_popped (pop q m) n then 1 else 0) + times x (map (push q) ns) m ≡ times_popped (n ∷ ns) (pop q m)
      go rest None is = let r = rw is at rest in rw is (omega arith)
      go rest (Some k) is = let r = rw is at rest in rw is (omega arith)

  pushed_more : (q : Part) (ns ns' : List Note) (m : Note) → ((n : Note) → times x ns n ≤ times x ns' n) → times x (map (push q) ns) m ≤ times x (map (push q) ns') m
  pushed_more q ns ns' m h = rw (times_pushed q ns m, times_pushed q ns' m) (go (pop q m))
    where
      go : (o : Option Note) → times_popped ns o ≤ times_popped ns' o
      go None = omega arith
      go (Some n) = h n

  -- ---- one attempt that has started

  abbrev pub ends_if : Known → Part → Option Container → List Note
  ends_if k q out = if k.begun (q ∷ []) && is_given out then EndNote (q ∷ []) ∷ [] else []

  given_more : (o o' : Option Container) → ((out : Container) → o ≡ Some out → o' ≡ Some out) → is_given o ≡ true → is_given o' ≡ true
  given_more None o' more h = cc
  given_more (Some out) o' more h = rw (more out refl) refl

  ends_more : (k k' : Known) (q : Part) (o o' : Option Container) (m : Note) → More k k' → ((out : Container) → o ≡ Some out → o' ≡ Some out)
      → times x (ends_if k q o) m ≤ times x (ends_if k' q o') m
  ends_more k k' q o o' m more keeps = go (k.begun (q ∷ []) && is_given o) refl
    where
      go : (b : Bool) → (k.begun (q ∷ []) && is_given o) ≡ b → times x (ends_if k q o) m ≤ times x (ends_if k' q o') m
      go false is = rw is (omega arith)
      go true is =
          let both = and_true (k.begun (q ∷ [])) _ is in
          let also = both_true _ _ (more.begun (q ∷ []) both.0) (given_more o o' keeps both.1) in
          rw (is, also) (omega arith)

  pub of_times : (k : Known) (q : Part) (o : Option Container) (ns : List Note) (m : Note)
      → times x (due_of k q o ns) m ≡ times x (BeginNote (q ∷ []) ∷ []) m + times x (ends_if k q o) m + times x (map (push q) ns) m
  of_times k q o ns m =
      let a = times-append x itself one (BeginNote (q ∷ []) ∷ ends_if k q o) (map (push q) ns) m in
      omega arith

  of_more : (k k' : Known) (q : Part) (o o' : Option Container) (ns ns' : List Note) (m : Note) → More k k' → ((out : Container) → o ≡ Some out → o' ≡ Some out)
      → ((n : Note) → times x ns n ≤ times x ns' n) → times x (due_of k q o ns) m ≤ times x (due_of k' q o' ns') m
  of_more k k' q o o' ns ns' m more keeps below =
      let old = of_times k q o ns m in
      let new = of_times k' q o' ns' m in
      let ends = ends_more k k' q o o' m more keeps in
      let pushed = pushed_more q ns ns' m below in
      omega arith

  -- ---- an activity whose join is true

  pub open_joined : (a : Activity) (v : Option Bool) (outs : List Container) → is_open (fate_by a v outs) ≡ true → v ≡ Some true
  open_joined a None outs h = cc
  open_joined a (Some false) outs h = cc
  open_joined a (Some true) outs h = refl

  goes_open : (w : Work) (n : ℕ) → is_open (goes_on w n) ≡ true
  goes_open (Program p) n = refl
  goes_open (Block g) n = refl
  goes_open (Process t) n = refl

  tried_open : (a : Activity) (n : ℕ) (o : Option Container) → is_open (tried a n o) ≡ true
  tried_open a n None = goes_open a.work 1
  tried_open a n (Some out) = go (holds a.exit out) refl
    where
      go : (b : Bool) → holds a.exit out ≡ b → is_open (tried a n (Some out)) ≡ true
      go true is = rw is refl
      go false is = rw is (goes_open a.work (n + 1))

  pub joined_open : (a : Activity) (v : Option Bool) (outs : List Container) → v ≡ Some true → is_open (fate_by a v outs) ≡ true
  joined_open a v outs h = rw h (tried_open a (length outs) (last_or None outs))

  some_known : (v : Option Bool) → v ≡ Some true → is_none v ≡ false
  some_known v h = rw h refl

  pub open_more : (ts : List Template) (k k' : Known) (runs runs' : Runs) (g : Graph) (i : Container) (e e' : Ends) (a : ℕ) (activity : Activity)
      → More k k' → Extends e e' → slice_get (out-Graph g).activities a ≡ Some activity
      → is_open (fate_given ts k runs g i e a) ≡ true → is_open (fate_given ts k' runs' g i e' a) ≡ true
  open_more ts k k' runs runs' g i e e' a activity more ext is open_ = go (k.begun []) refl
    where
      go : (b : Bool) → k.begun [] ≡ b → is_open (fate_given ts k' runs' g i e' a) ≡ true
      go false no_ = let n : false ≡ true = rw no_ at open_ in cc
      go true yes_ =
          let join = open_joined activity (joined activity.join (values_at k (out-Graph g).controls e a)) (attempts_at ts k runs g i e a (Some activity)) (rw (yes_, is) at open_) in
          let kept = joined_kept activity.join _ _ (values_more k k' (out-Graph g).controls e e' more ext (filter (λ c. c.to == a) (out-Graph g).controls)) (some_known _ join) in
          rw (more.begun [] yes_, is) (joined_open activity _ (attempts_at ts k' runs' g i e' a (Some activity)) (kept ∙ join))

  -- ---- one scope

  abbrev pub Below : Type 0
  Below = Known → Graph → Container → List Note

  abbrev BelowMore : Known → Known → Below → Below → Type 0
  BelowMore k k' below below' = (q : Part) (h : Graph) (i : Container) (n : Note) → times x (below (at q k) h i) n ≤ times x (below' (at q k') h i) n

  at_more : (ts : List Template) (k k' : Known) (runs runs' : Runs) (below below' : Below) → More k k'
      → ((q : Part) (h : Graph) (i out : Container) → runs (at q k) h i ≡ Some out → runs' (at q k') h i ≡ Some out) → BelowMore k k' below below'
      → (g : Graph) (i : Container) (e e' : Ends) → Extends e e' → (m : Note) (a : ℕ) (o : Option Activity) → slice_get (out-Graph g).activities a ≡ o
      → times x (due_at ts runs below k g i e a o) m ≤ times x (due_at ts runs' below' k' g i e' a o) m
  at_more ts k k' runs runs' below below' more rmore bmore g i e e' ext m a None is = omega arith
  at_more ts k k' runs runs' below below' more rmore bmore g i e e' ext m a (Some activity) is =
      go (graph_in ts activity.work) (is_open (fate_given ts k runs g i e a) && is_fed (out-Graph g).lines a e) refl
    where
      go : (h : Option Graph) (b : Bool) → (is_open (fate_given ts k runs g i e a) && is_fed (out-Graph g).lines a e) ≡ b
          → times x (due_with runs below k activity.name h (started_at ts k runs g i e a activity)) m
          ≤ times x (due_with runs' below' k' activity.name h (started_at ts k' runs' g i e' a activity)) m
      go None b s = omega arith
      go (Some h) false s = rw s (omega arith)
      go (Some h) true s =
          let both = and_true (is_open (fate_given ts k runs g i e a)) _ s in
          let lines : LinesKept (out-Graph g).lines a e e' = λ n d less to b from set. ext.kept b set in
          let also = both_true _ _ (open_more ts k k' runs runs' g i e e' a activity more ext is both.0) (fed_kept (out-Graph g).lines a e e' lines both.1) in
          rw (s, also, base_kept g activity a i e e' lines both.1)
          (starts_more
          (λ s. due_of k (part activity.name s.attempt) (runs (at (part activity.name s.attempt) k) h s.input) (below (at (part activity.name s.attempt) k) h s.input))
          (λ s. due_of k' (part activity.name s.attempt) (runs' (at (part activity.name s.attempt) k') h s.input) (below' (at (part activity.name s.attempt) k') h s.input))
          m
          (λ s. of_more k k' (part activity.name s.attempt) _ _ _ _ m more (rmore (part activity.name s.attempt) h s.input) (bmore (part activity.name s.attempt) h s.input))
          (gives ts k runs activity.name activity.work) (gives ts k' runs' activity.name activity.work) (trial g a activity (base_of g activity a i e))
          (gives_more ts k k' runs runs' more rmore activity.name activity.work)
          (suc k.most) (suc k'.most) 1 (base_of g activity a i e) (let le = more.most in omega arith))

  -- ---- to any depth

  pub due_more : (ts : List Template) (depth : ℕ) (k k' : Known) → More k k' → (g : Graph) (i : Container) (m : Note)
      → times x (due_in ts depth k g i) m ≤ times x (due_in ts depth k' g i) m
  due_more ts zero k k' more g i m = notes_kept (out-Graph g).controls (out-Graph g).controls _ _ (tree_more ts zero k k' more g i) m
  due_more ts (suc depth) k k' more g i m =
      let e = tree_ends ts (suc depth) k g i in
      let e' = tree_ends ts (suc depth) k' g i in
      let f = λ (a : ℕ). due_at ts (output ts (suc depth)) (due_in ts depth) k g i e a (slice_get (out-Graph g).activities a) in
      let f' = λ (a : ℕ). due_at ts (output ts (suc depth)) (due_in ts depth) k' g i e' a (slice_get (out-Graph g).activities a) in
      let ext = tree_more ts (suc depth) k k' more g i in
      let own = notes_kept (out-Graph g).controls (out-Graph g).controls e e' ext m in
      let inner = flat_more f f' (up_to (length (out-Graph g).activities) 0) m
      (λ a. at_more ts k k' (output ts (suc depth)) (output ts (suc depth)) (due_in ts depth) (due_in ts depth) more
      (λ q h j out gave. output_more ts (suc depth) (at q k) (at q k') (more_at k k' q more) h j out gave)
      (λ q h j n. due_more ts depth (at q k) (at q k') (more_at k k' q more) h j n)
      g i e e' ext m a (slice_get (out-Graph g).activities a) refl) in
      let old = times-append x itself one (notes (out-Graph g).controls (out-Graph g).controls e) (flat_map f (up_to (length (out-Graph g).activities) 0)) m in
      let new = times-append x itself one (notes (out-Graph g).controls (out-Graph g).controls e') (flat_map f' (up_to (length (out-Graph g).activities) 0)) m in
      omega arith
