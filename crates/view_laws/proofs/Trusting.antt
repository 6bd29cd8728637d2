-- What was taken was due, so what was sent is so; and where nothing is queued, all that is due was taken.
use Rattle.fate_laws.proofs.Attempts.{Along, along_all}
use Rattle.fate_laws.proofs.Extends.{or_false, and_true, both_true}
use Rattle.fate_laws.proofs.Items.{eqb_itself, eqb_one}
use Rattle.fate_laws.specs.StartedScopes.{Reaches, ScopeFact, HasStarted, AtScope}
use Rattle.fate_laws.specs.WellFormed.{AreSimple, Well}
use Rattle.flow_model.specs.Fates.{Ends, connector_value, is_open}
use Rattle.flow_model.specs.ScopeContainers.{base_of}
use Rattle.flow_model.specs.Scopes.{Known, at, Gives, Trial, part, gives, is_fed, trial, fate_given, attempts_at, output, tree_ends}
use Rattle.flow_model.specs.declared.graphs.Activity.{Activity}
use Rattle.flow_model.specs.declared.graphs.Container.{Container}
use Rattle.flow_model.specs.declared.graphs.Control.{Control}
use Rattle.flow_model.specs.declared.graphs.Graph.{Graph, out-Graph}
use Rattle.flow_model.specs.declared.graphs.Template.{Template}
use Rattle.flow_model.specs.declared.instances.Part.{Part}
use Rattle.std.proofs.Common.{◌≡◌, ℕ, zero, suc, ◌+◌, ◌≤◌, ◌==◌, Bool, true, false, ◌&&◌, List, [], ◌∷◌, ◌++◌, refl, sym, ◌∙◌, Option, Some, None, arith, inl, inr, get_or, subst}
use Rattle.std.proofs.lemmas.List.Elements.{All-cons}
use Rattle.std.specs.List.{list_any, All}
use Rattle.std.specs.Prelude.{is_none}
use Rattle.view_laws.proofs.Counting.{times-append}
use Rattle.view_laws.proofs.DueOnce.{reaches_more, tops, all_places, shut_none, reached_one, all_once, own_none}
use Rattle.view_laws.proofs.Honest.{IfClosed, Honest, IfInside, Full}
use Rattle.view_laws.proofs.MoreDue.{joined_open}
use Rattle.view_laws.proofs.QuietScopes.{tree_quiet_fate}
use Rattle.view_laws.proofs.SameNotes.{itself, one}
use Rattle.view_laws.proofs.SoundScopes.{tree_sound}
use Rattle.view_laws.specs.Messages.{Note, BeginNote, SignalNote, EndNote, push, note_of, notes, is_given, due_in, same_note}
use Rattle.view_laws.specs.Queues.{Engine, times}
use Rattle.view_laws.specs.Runs.{Root, Event, engine, told}
use Rattle.view_laws.specs.ScopeFacts.{IsSound, IsExact}

pub along_of : (P : ℕ → Container → Type 0) (gives : Gives) (t : Trial) (n j : ℕ) (i : Container) → ((c : ℕ) (i' : Container) → Reaches n gives t j i c i' → P c i')
    → Along P gives t n j i
along_of P gives t zero j i f = tt
along_of P gives t (suc n) j i f =
    (f j i (inl (refl, refl)), λ out gave goes. along_of P gives t n (j + 1) (t.loops out) (λ c i' reach. f c i' (inr (out, gave, goes, reach))))

eqb_comm : (a b : ℕ) → (a == b) ≡ false → (b == a) ≡ false
eqb_comm a b h = go (b == a) refl
  where
    go : (e : Bool) → (b == a) ≡ e → (b == a) ≡ false
    go false is = is
    go true is =
        let same : b ≡ a = eqb_one b a is in
        let hit : (a == b) ≡ true = rw same (eqb_itself a) in
        let n : false ≡ true = sym h ∙ hit in
        cc

both_comm : (a b c d : ℕ) → ((a == c) && (b == d)) ≡ false → ((c == a) && (d == b)) ≡ false
both_comm a b c d h = go (a == c) refl
  where
    second : (c == a) ≡ true → (d == b) ≡ false → ((c == a) && (d == b)) ≡ false
    second x y = rw (x, y) refl

    go : (e : Bool) → (a == c) ≡ e → ((c == a) && (d == b)) ≡ false
    go false is = rw (eqb_comm a c is) refl
    go true is =
        let e : a ≡ c = eqb_one a c is in
        let back : (c == a) ≡ true = rw e (eqb_itself c) in
        second back (eqb_comm b d (rw is at h))

none_of : (p : Control → Bool) (cs : List Control) → list_any p cs ≡ false → All (λ d. p d ≡ false) cs
none_of p [] h = λ i d less. absurd (omega arith)
none_of p (c ∷ cs) h =
    let both = or_false (p c) _ h in
    All-cons (λ d. p d ≡ false) c cs both.0 (none_of p cs both.1)

module _ (r : Root) (qf : Note → ℕ) where
  abbrev x : Engine Note Event
  x = engine r qf

  -- ---- the signals of a scope

  abbrev fits : ℕ → ℕ → Control → Bool
  fits a b c = (a == c.from) && (b == c.to)

  other_note : (c : Control) (o : Option Bool) (a b : ℕ) (v : Bool) → fits a b c ≡ false → times x (note_of c o) (SignalNote [] a b v) ≡ 0
  other_note c None a b v h = refl
  other_note c (Some w) a b v h = rw h refl

  pub of_note : (c : Control) (o : Option Bool) (v : Bool) → 1 ≤ times x (note_of c o) (SignalNote [] c.from c.to v) → o ≡ Some v
  of_note c None v h = absurd (omega arith)
  of_note c (Some true) true h = refl
  of_note c (Some false) false h = refl
  of_note c (Some true) false h =
      let none : times x (note_of c (Some true)) (SignalNote [] c.from c.to false) ≡ 0 = rw (eqb_itself c.from, eqb_itself c.to) refl in
      absurd (omega arith)
  of_note c (Some false) true h =
      let none : times x (note_of c (Some false)) (SignalNote [] c.from c.to true) ≡ 0 = rw (eqb_itself c.from, eqb_itself c.to) refl in
      absurd (omega arith)

  no_note : (controls cs : List Control) (e : Ends) (a b : ℕ) (v : Bool) → list_any (fits a b) cs ≡ false → times x (notes controls cs e) (SignalNote [] a b v) ≡ 0
  no_note controls [] e a b v h = refl
  no_note controls (c ∷ cs) e a b v h =
      let both = or_false (fits a b c) _ h in
      let here = other_note c (connector_value controls c (e c.from)) a b v both.0 in
      let rest = no_note controls cs e a b v both.1 in
      let all = times-append x itself one (note_of c (connector_value controls c (e c.from))) (notes controls cs e) (SignalNote [] a b v) in
      omega arith

  note_once : (controls cs : List Control) (e : Ends) (a b : ℕ) (v : Bool) → AreSimple cs → times x (notes controls cs e) (SignalNote [] a b v) ≤ 1
  note_once controls [] e a b v simple = omega arith
  note_once controls (c ∷ cs) e a b v simple =
      go (note_once controls cs e a b v simple.1)
      (times-append x itself one (note_of c (connector_value controls c (e c.from))) (notes controls cs e) (SignalNote [] a b v))
      (fits a b c) refl
    where
      at_most : (o : Option Bool) (m : Note) → times x (note_of c o) m ≤ 1
      at_most None m = omega arith
      at_most (Some w) m = by (same_note m (SignalNote [] c.from c.to w)) refl
        where
          by : (b' : Bool) → same_note m (SignalNote [] c.from c.to w) ≡ b' → times x (note_of c (Some w)) m ≤ 1
          by true is = rw is (omega arith)
          by false is = rw is (omega arith)

      go : times x (notes controls cs e) (SignalNote [] a b v) ≤ 1
          → times x (notes controls (c ∷ cs) e) (SignalNote [] a b v) ≡ times x (note_of c (connector_value controls c (e c.from))) (SignalNote [] a b v) + times x (notes controls cs e) (SignalNote [] a b v)
          → (here : Bool) → fits a b c ≡ here → times x (notes controls (c ∷ cs) e) (SignalNote [] a b v) ≤ 1
      go rest all true is =
          let both = and_true (a == c.from) _ is in
          let none = no_note controls cs e a b v (rw (eqb_one a c.from both.0, eqb_one b c.to both.1) (simple.0)) in
          let some = at_most (connector_value controls c (e c.from)) (SignalNote [] a b v) in
          omega arith
      go rest all false is =
          let none = other_note c (connector_value controls c (e c.from)) a b v is in
          omega arith

  pub note_value : (controls cs : List Control) (e : Ends) → AreSimple cs
      → All (λ c. (v : Bool) → 1 ≤ times x (notes controls cs e) (SignalNote [] c.from c.to v) → connector_value controls c (e c.from) ≡ Some v) cs
  note_value controls [] e simple = λ i d less. absurd (omega arith)
  note_value controls (c ∷ cs) e simple =
      All-cons (λ d. (v : Bool) → 1 ≤ times x (notes controls (c ∷ cs) e) (SignalNote [] d.from d.to v) → connector_value controls d (e d.from) ≡ Some v) c cs
      (λ v some.
      let all = times-append x itself one (note_of c (connector_value controls c (e c.from))) (notes controls cs e) (SignalNote [] c.from c.to v) in
      let none = no_note controls cs e c.from c.to v simple.0 in
      of_note c _ v (omega arith))
      (λ i d less v some.
      let apart = none_of (λ f. (c.from == f.from) && (c.to == f.to)) cs simple.0 i d less in
      let f = get_or cs i d in
      let all = times-append x itself one (note_of c (connector_value controls c (e c.from))) (notes controls cs e) (SignalNote [] f.from f.to v) in
      let none = other_note c (connector_value controls c (e c.from)) f.from f.to v (both_comm c.from c.to f.from f.to apart) in
      note_value controls cs e simple.1 i d less v (omega arith))

  note_has : (controls cs : List Control) (e : Ends)
      → All (λ c. (v : Bool) → connector_value controls c (e c.from) ≡ Some v → 1 ≤ times x (notes controls cs e) (SignalNote [] c.from c.to v)) cs
  note_has controls [] e = λ i d less. absurd (omega arith)
  note_has controls (c ∷ cs) e =
      All-cons (λ d. (v : Bool) → connector_value controls d (e d.from) ≡ Some v → 1 ≤ times x (notes controls (c ∷ cs) e) (SignalNote [] d.from d.to v)) c cs
      (λ v is.
      let all = times-append x itself one (note_of c (connector_value controls c (e c.from))) (notes controls cs e) (SignalNote [] c.from c.to v) in
      let hit : times x (note_of c (connector_value controls c (e c.from))) (SignalNote [] c.from c.to v) ≡ 1 = rw (is, itself (SignalNote [] c.from c.to v)) refl in
      omega arith)
      (λ i d less v is.
      let f = get_or cs i d in
      let all = times-append x itself one (note_of c (connector_value controls c (e c.from))) (notes controls cs e) (SignalNote [] f.from f.to v) in
      let rest = note_has controls cs e i d less v is in
      omega arith)

  pub pushed_none : (controls cs : List Control) (e : Ends) (p : Part) (m : Note) → times x (notes controls cs e) (push p m) ≡ 0
  pushed_none controls [] e p m = refl
  pushed_none controls (c ∷ cs) e p m =
      let all = times-append x itself one (note_of c (connector_value controls c (e c.from))) (notes controls cs e) (push p m) in
      let rest = pushed_none controls cs e p m in
      let here = go (connector_value controls c (e c.from)) m in
      omega arith
    where
      go : (o : Option Bool) (n : Note) → times x (note_of c o) (push p n) ≡ 0
      go None n = refl
      go (Some v) (BeginNote ps) = refl
      go (Some v) (SignalNote ps a b w) = refl
      go (Some v) (EndNote ps) = refl

  -- ---- due in a scope

  module _ (ts : List Template) (depth : ℕ) (k : Known) (g : Graph) (i : Container) where
    abbrev pub places : List Note
    places = all_places r qf ts k (output ts (suc depth)) (due_in ts depth) g i (tree_ends ts (suc depth) k g i)

    pub due_split : (m : Note) → times x (due_in ts (suc depth) k g i) m
        ≡ times x (notes (out-Graph g).controls (out-Graph g).controls (tree_ends ts (suc depth) k g i)) m + times x places m
    due_split m = times-append x itself one (notes (out-Graph g).controls (out-Graph g).controls (tree_ends ts (suc depth) k g i)) places m

    pub due_pushed : (p : Part) (m : Note) → times x (due_in ts (suc depth) k g i) (push p m) ≡ times x places (push p m)
    due_pushed p m =
        let a = due_split (push p m) in
        let b = pushed_none (out-Graph g).controls (out-Graph g).controls (tree_ends ts (suc depth) k g i) p m in
        omega arith

    pub due_own : (a b : ℕ) (v : Bool) → times x (due_in ts (suc depth) k g i) (SignalNote [] a b v)
        ≡ times x (notes (out-Graph g).controls (out-Graph g).controls (tree_ends ts (suc depth) k g i)) (SignalNote [] a b v)
    due_own a b v =
        let s = due_split (SignalNote [] a b v) in
        let z = own_none r qf ts k (output ts (suc depth)) (due_in ts depth) g i (tree_ends ts (suc depth) k g i) (SignalNote [] a b v) (λ q. refl) in
        omega arith

  pub tops_signal : (k : Known) (q : Part) (o : Option Container) (p : List Part) (a b : ℕ) (v : Bool) → times x (tops r qf k q o) (SignalNote p a b v) ≡ 0
  tops_signal k q o p a b v = go (k.begun (q ∷ []) && is_given o) refl
    where
      go : (e : Bool) → (k.begun (q ∷ []) && is_given o) ≡ e → times x (tops r qf k q o) (SignalNote p a b v) ≡ 0
      go true is = rw is refl
      go false is = rw is refl

  pub tops_end : (k : Known) (q : Part) (o : Option Container) (q' : Part) (p : List Part) → times x (tops r qf k q o) (EndNote (q' ∷ p)) ≡ 0
  tops_end k q o q' p = go (k.begun (q ∷ []) && is_given o) refl
    where
      go : (e : Bool) → (k.begun (q ∷ []) && is_given o) ≡ e → times x (tops r qf k q o) (EndNote (q' ∷ p)) ≡ 0
      go true is = rw is refl
      go false is = rw is refl

  -- ---- what was told is so

  pub tree_honest : (ts : List Template) (depth : ℕ) (k : Known) (g : Graph) (i : Container) → Well ts depth g
      → ((p : List Part) (a b : ℕ) (v : Bool) (o : Option Bool) → k.sent p a b o ≡ Some v → 1 ≤ times x (due_in ts depth k g i) (SignalNote p a b v))
      → ((q : Part) (p : List Part) → k.closed (q ∷ p) ≡ true → 1 ≤ times x (due_in ts depth k g i) (EndNote (q ∷ p)))
      → Honest ts depth k g i
  tree_honest ts zero k g i well signal closed = record {
    told = λ n d less v was. note_value (out-Graph g).controls (out-Graph g).controls (tree_ends ts zero k g i) well.simple n d less v (signal [] _ _ v _ was);
    inside = λ a activity is fed.
        along_all (IfClosed (λ k' h j. Unit {0}) ts k activity.name activity.work) (gives ts k (output ts zero) activity.name activity.work)
        (trial g a activity (base_of g activity a i (tree_ends ts zero k g i))) (λ j j' h of c. tt) k.most 1 (base_of g activity a i (tree_ends ts zero k g i));
  }
  tree_honest ts (suc depth) k g i well signal closed = record {
    told = λ n d less v was.
        let c = get_or (out-Graph g).controls n d in
        let some = signal [] c.from c.to v _ was in
        let own = due_own ts depth k g i c.from c.to v in
        note_value (out-Graph g).controls (out-Graph g).controls (tree_ends ts (suc depth) k g i) well.simple n d less v (omega arith);
    inside = λ a activity is fed.
        along_of (IfClosed (Honest ts depth) ts k activity.name activity.work) (gives ts k (output ts (suc depth)) activity.name activity.work)
        (trial g a activity (base_of g activity a i (tree_ends ts (suc depth) k g i))) k.most 1 (base_of g activity a i (tree_ends ts (suc depth) k g i))
        (λ c i' reach h of shut.
        let q = part activity.name c in
        let e = tree_ends ts (suc depth) k g i in
        let told_end = closed q [] shut in
        let pushed_end = due_pushed ts depth k g i q (EndNote []) in
        let open_ : (is_open (fate_given ts k (output ts (suc depth)) g i e a) && is_fed (out-Graph g).lines a e) ≡ true =
        must (is_open (fate_given ts k (output ts (suc depth)) g i e a) && is_fed (out-Graph g).lines a e)
        (λ no_. let z = shut_none r qf ts k (output ts (suc depth)) (due_in ts depth) g i e well.named q (EndNote []) a activity is refl no_ in omega arith)
        in
        let one_child = λ (m : Note). reached_one r qf ts k (output ts (suc depth)) (due_in ts depth) g i e well.named c i' m a activity h is of open_
        (reaches_more k.most _ _ 1 (base_of g activity a i e) c i' reach) in
        tree_honest ts depth (at q k) h i' (well.inside a activity is h of)
        (λ p b d v o was.
        let s = signal (q ∷ p) b d v o was in
        let u = due_pushed ts depth k g i q (SignalNote p b d v) in
        let w = one_child (SignalNote p b d v) in
        let y = times-append x itself one (tops r qf k q (output ts (suc depth) (at q k) h i')) (due_in ts depth (at q k) h i') (SignalNote p b d v) in
        let z = tops_signal k q (output ts (suc depth) (at q k) h i') p b d v in
        omega arith)
        (λ q' p was.
        let s = closed q (q' ∷ p) was in
        let u = due_pushed ts depth k g i q (EndNote (q' ∷ p)) in
        let w = one_child (EndNote (q' ∷ p)) in
        let y = times-append x itself one (tops r qf k q (output ts (suc depth) (at q k) h i')) (due_in ts depth (at q k) h i') (EndNote (q' ∷ p)) in
        let z = tops_end k q (output ts (suc depth) (at q k) h i') q' p in
        omega arith));
  }
    where
      must : (b : Bool) → (b ≡ false → ⊥) → b ≡ true
      must true h = refl
      must false h = absurd (h refl)

  -- ---- no message is due twice

  scope_none : (controls cs : List Control) (e : Ends) (m : Note) → ((c : Control) (v : Bool) → same_note m (SignalNote [] c.from c.to v) ≡ false) → times x (notes controls cs e) m ≡ 0
  scope_none controls [] e m other = refl
  scope_none controls (c ∷ cs) e m other =
      let all = times-append x itself one (note_of c (connector_value controls c (e c.from))) (notes controls cs e) m in
      let rest = scope_none controls cs e m other in
      let here = go (connector_value controls c (e c.from)) in
      omega arith
    where
      go : (o : Option Bool) → times x (note_of c o) m ≡ 0
      go None = refl
      go (Some v) = rw (other c v) refl

  pub no_begin : (ts : List Template) (depth : ℕ) (k : Known) (g : Graph) (i : Container) → times x (due_in ts depth k g i) (BeginNote []) ≡ 0
  no_begin ts zero k g i = scope_none (out-Graph g).controls (out-Graph g).controls (tree_ends ts zero k g i) (BeginNote []) (λ c v. refl)
  no_begin ts (suc depth) k g i =
      let s = due_split ts depth k g i (BeginNote []) in
      let a = scope_none (out-Graph g).controls (out-Graph g).controls (tree_ends ts (suc depth) k g i) (BeginNote []) (λ c v. refl) in
      let z = own_none r qf ts k (output ts (suc depth)) (due_in ts depth) g i (tree_ends ts (suc depth) k g i) (BeginNote []) (λ q. refl) in
      omega arith

  pub no_end : (ts : List Template) (depth : ℕ) (k : Known) (g : Graph) (i : Container) → times x (due_in ts depth k g i) (EndNote []) ≡ 0
  no_end ts zero k g i = scope_none (out-Graph g).controls (out-Graph g).controls (tree_ends ts zero k g i) (EndNote []) (λ c v. refl)
  no_end ts (suc depth) k g i =
      let s = due_split ts depth k g i (EndNote []) in
      let a = scope_none (out-Graph g).controls (out-Graph g).controls (tree_ends ts (suc depth) k g i) (EndNote []) (λ c v. refl) in
      let z = own_none r qf ts k (output ts (suc depth)) (due_in ts depth) g i (tree_ends ts (suc depth) k g i) (EndNote []) (λ q. refl) in
      omega arith

  -- what an attempt adds, with what is due in its scope
  topped : (k : Known) (q : Part) (o : Option Container) (ns : List Note) (m : Note) → times x ns m ≤ 1 → times x ns (BeginNote []) ≡ 0 → times x ns (EndNote []) ≡ 0
      → times x (tops r qf k q o ++ ns) m ≤ 1
  topped k q o ns m once b e =
      let all = times-append x itself one (tops r qf k q o) ns m in
      go m all once b e (k.begun (q ∷ []) && is_given o) refl
    where
      go : (m : Note) → times x (tops r qf k q o ++ ns) m ≡ times x (tops r qf k q o) m + times x ns m → times x ns m ≤ 1 → times x ns (BeginNote []) ≡ 0 → times x ns (EndNote []) ≡ 0
          → (c : Bool) → (k.begun (q ∷ []) && is_given o) ≡ c → times x (tops r qf k q o ++ ns) m ≤ 1
      go (BeginNote []) all once b e true is = let t : times x (tops r qf k q o) (BeginNote []) ≡ 1 = rw is refl in omega arith
      go (BeginNote []) all once b e false is = let t : times x (tops r qf k q o) (BeginNote []) ≡ 1 = rw is refl in omega arith
      go (BeginNote (p ∷ ps)) all once b e true is = let t : times x (tops r qf k q o) (BeginNote (p ∷ ps)) ≡ 0 = rw is refl in omega arith
      go (BeginNote (p ∷ ps)) all once b e false is = let t : times x (tops r qf k q o) (BeginNote (p ∷ ps)) ≡ 0 = rw is refl in omega arith
      go (SignalNote p a d v) all once b e true is = let t : times x (tops r qf k q o) (SignalNote p a d v) ≡ 0 = rw is refl in omega arith
      go (SignalNote p a d v) all once b e false is = let t : times x (tops r qf k q o) (SignalNote p a d v) ≡ 0 = rw is refl in omega arith
      go (EndNote []) all once b e true is = let t : times x (tops r qf k q o) (EndNote []) ≡ 1 = rw is refl in omega arith
      go (EndNote []) all once b e false is = let t : times x (tops r qf k q o) (EndNote []) ≡ 0 = rw is refl in omega arith
      go (EndNote (p ∷ ps)) all once b e true is = let t : times x (tops r qf k q o) (EndNote (p ∷ ps)) ≡ 0 = rw is refl in omega arith
      go (EndNote (p ∷ ps)) all once b e false is = let t : times x (tops r qf k q o) (EndNote (p ∷ ps)) ≡ 0 = rw is refl in omega arith

  pub due_once : (ts : List Template) (depth : ℕ) (k : Known) (g : Graph) (i : Container) → Well ts depth g → (m : Note) → times x (due_in ts depth k g i) m ≤ 1
  due_once ts zero k g i well (BeginNote p) = let z = scope_none (out-Graph g).controls (out-Graph g).controls (tree_ends ts zero k g i) (BeginNote p) (λ c v. refl) in omega arith
  due_once ts zero k g i well (EndNote p) = let z = scope_none (out-Graph g).controls (out-Graph g).controls (tree_ends ts zero k g i) (EndNote p) (λ c v. refl) in omega arith
  due_once ts zero k g i well (SignalNote [] a b v) = note_once (out-Graph g).controls (out-Graph g).controls (tree_ends ts zero k g i) a b v well.simple
  due_once ts zero k g i well (SignalNote (p ∷ ps) a b v) =
      let z = pushed_none (out-Graph g).controls (out-Graph g).controls (tree_ends ts zero k g i) p (SignalNote ps a b v) in omega arith
  due_once ts (suc depth) k g i well m =
      go (λ p n. all_once r qf ts k (output ts (suc depth)) (due_in ts depth) g i (tree_ends ts (suc depth) k g i) well.named p n
      (λ a activity h s is of.
      topped k (part activity.name s.attempt) (output ts (suc depth) (at (part activity.name s.attempt) k) h s.input) (due_in ts depth (at (part activity.name s.attempt) k) h s.input) n
      (due_once ts depth (at (part activity.name s.attempt) k) h s.input (well.inside a activity is h of) n)
      (no_begin ts depth (at (part activity.name s.attempt) k) h s.input)
      (no_end ts depth (at (part activity.name s.attempt) k) h s.input)))
      m
    where
      go : ((p : Part) (n : Note) → times x (places ts depth k g i) (push p n) ≤ 1) → (m : Note) → times x (due_in ts (suc depth) k g i) m ≤ 1
      go inner' (BeginNote []) = let z = no_begin ts (suc depth) k g i in omega arith
      go inner' (EndNote []) = let z = no_end ts (suc depth) k g i in omega arith
      go inner' (SignalNote [] a b v) =
          let o = due_own ts depth k g i a b v in
          let w = note_once (out-Graph g).controls (out-Graph g).controls (tree_ends ts (suc depth) k g i) a b v well.simple in
          omega arith
      go inner' (BeginNote (p ∷ ps)) = let s = due_pushed ts depth k g i p (BeginNote ps) in let u = inner' p (BeginNote ps) in omega arith
      go inner' (EndNote (p ∷ ps)) = let s = due_pushed ts depth k g i p (EndNote ps) in let u = inner' p (EndNote ps) in omega arith
      go inner' (SignalNote (p ∷ ps) a b v) = let s = due_pushed ts depth k g i p (SignalNote ps a b v) in let u = inner' p (SignalNote ps a b v) in omega arith

  -- ---- where all that is due was taken

  same_value : (o o' : Option Bool) → ((v : Bool) → o ≡ Some v → o' ≡ Some v) → ((v : Bool) → o' ≡ Some v → is_none o ≡ false) → o ≡ o'
  same_value (Some v) o' told sent = sym (told v refl)
  same_value None None told sent = refl
  same_value None (Some v) told sent = let n : true ≡ false = sent v refl in cc

  pub tops_begin : (k : Known) (q : Part) (o : Option Container) → times x (tops r qf k q o) (BeginNote []) ≡ 1
  tops_begin k q o = go (k.begun (q ∷ []) && is_given o) refl
    where
      go : (e : Bool) → (k.begun (q ∷ []) && is_given o) ≡ e → times x (tops r qf k q o) (BeginNote []) ≡ 1
      go true is = rw is refl
      go false is = rw is refl

  tops_close : (k : Known) (q : Part) (o : Option Container) (out : Container) → k.begun (q ∷ []) ≡ true → o ≡ Some out → times x (tops r qf k q o) (EndNote []) ≡ 1
  tops_close k q o out begun gave = rw (begun, gave) refl

  pub tree_full : (ts : List Template) (depth : ℕ) (k : Known) (g : Graph) (i : Container) → Well ts depth g → k.begun [] ≡ true
      → ((p : List Part) (a b : ℕ) (v : Bool) (o : Option Bool) → k.sent p a b o ≡ Some v → 1 ≤ times x (due_in ts depth k g i) (SignalNote p a b v))
      → ((p : List Part) (a b : ℕ) (v : Bool) (o : Option Bool) → 1 ≤ times x (due_in ts depth k g i) (SignalNote p a b v) → is_none (k.sent p a b o) ≡ false)
      → ((p : List Part) → 1 ≤ times x (due_in ts depth k g i) (BeginNote p) → k.begun p ≡ true)
      → ((p : List Part) → 1 ≤ times x (due_in ts depth k g i) (EndNote p) → k.closed p ≡ true)
      → Full ts depth k g i
  tree_full ts zero k g i well begun signal sent begins ends = record {
    begun = begun;
    told = told_all;
    inside = λ a activity is open_ fed.
        along_all (IfInside (output ts zero) (λ k' h j. Unit {0}) ts k activity.name activity.work) (gives ts k (output ts zero) activity.name activity.work)
        (trial g a activity (base_of g activity a i (tree_ends ts zero k g i))) (λ j j' h of. record { closed = λ out gave. cc; inside = tt }) k.most 1 (base_of g activity a i (tree_ends ts zero k g i));
  }
    where
      told_all : All (λ c. k.sent [] c.from c.to (connector_value (out-Graph g).controls c (tree_ends ts zero k g i c.from)) ≡ connector_value (out-Graph g).controls c (tree_ends ts zero k g i c.from)) (out-Graph g).controls
      told_all n d less =
          let controls = (out-Graph g).controls in
          let e = tree_ends ts zero k g i in
          let c = get_or controls n d in
          same_value (k.sent [] c.from c.to (connector_value controls c (e c.from))) (connector_value controls c (e c.from))
          (λ v is. note_value controls controls e well.simple n d less v (signal [] c.from c.to v _ is))
          (λ v is. sent [] c.from c.to v _ (note_has controls controls e n d less v is))
  tree_full ts (suc depth) k g i well begun signal sent begins ends = record {
    begun = begun;
    told = told_all;
    inside = λ a activity is joined' fed.
        along_of (IfInside (output ts (suc depth)) (Full ts depth) ts k activity.name activity.work) (gives ts k (output ts (suc depth)) activity.name activity.work)
        (trial g a activity (base_of g activity a i (tree_ends ts (suc depth) k g i))) k.most 1 (base_of g activity a i (tree_ends ts (suc depth) k g i))
        (λ c i' reach h of.
        let q = part activity.name c in
        let e = tree_ends ts (suc depth) k g i in
        let open_ : (is_open (fate_given ts k (output ts (suc depth)) g i e a) && is_fed (out-Graph g).lines a e) ≡ true =
        both_true _ _ (rw (begun, is) (joined_open r qf activity _ (attempts_at ts k (output ts (suc depth)) g i e a (Some activity)) joined')) fed in
        let o = output ts (suc depth) (at q k) h i' in
        let ns = due_in ts depth (at q k) h i' in
        let same_due : (m : Note) → times x (due_in ts (suc depth) k g i) (push q m) ≡ times x (tops r qf k q o) m + times x ns m = λ m.
        due_pushed ts depth k g i q m
        ∙ reached_one r qf ts k (output ts (suc depth)) (due_in ts depth) g i e well.named c i' m a activity h is of open_ (reaches_more k.most _ _ 1 (base_of g activity a i e) c i' reach)
        ∙ times-append x itself one (tops r qf k q o) ns m in
        let begun_below : k.begun (q ∷ []) ≡ true = begins (q ∷ []) (let s = same_due (BeginNote []) in let t = tops_begin k q o in omega arith) in
        record {
          closed = λ out gave. ends (q ∷ []) (let s = same_due (EndNote []) in let t = tops_close k q o out begun_below gave in omega arith);
          inside = tree_full ts depth (at q k) h i' (well.inside a activity is h of) begun_below
              (λ p b d v o' was. let s = signal (q ∷ p) b d v o' was in let t = same_due (SignalNote p b d v) in let z = tops_signal k q o p b d v in omega arith)
              (λ p b d v o' some. sent (q ∷ p) b d v o' (let t = same_due (SignalNote p b d v) in omega arith))
              (λ p some. begins (q ∷ p) (let t = same_due (BeginNote p) in omega arith))
              (λ p some. ends (q ∷ p) (let t = same_due (EndNote p) in omega arith));
        });
  }
    where
      told_all : All (λ c. k.sent [] c.from c.to (connector_value (out-Graph g).controls c (tree_ends ts (suc depth) k g i c.from)) ≡ connector_value (out-Graph g).controls c (tree_ends ts (suc depth) k g i c.from)) (out-Graph g).controls
      told_all n d less =
          let controls = (out-Graph g).controls in
          let e = tree_ends ts (suc depth) k g i in
          let c = get_or controls n d in
          same_value (k.sent [] c.from c.to (connector_value controls c (e c.from))) (connector_value controls c (e c.from))
          (λ v is.
          let some = signal [] c.from c.to v _ is in
          let own = due_own ts depth k g i c.from c.to v in
          note_value controls controls e well.simple n d less v (omega arith))
          (λ v is.
          let has' = note_has controls controls e n d less v is in
          let own = due_own ts depth k g i c.from c.to v in
          sent [] c.from c.to v _ (omega arith))

  -- ---- every scope

  -- what is due in a scope that has started is due
  pub child_due : (ts : List Template) (depth : ℕ) (k : Known) (g : Graph) (i : Container) → Well ts (suc depth) g
      → (a : ℕ) (activity : Activity) (c : ℕ) (h : Graph) (i' : Container) → HasStarted ts (suc depth) k g i a activity c h i' → (m : Note)
      → times x (due_in ts (suc depth) k g i) (push (part activity.name c) m)
      ≡ times x (tops r qf k (part activity.name c) (output ts (suc depth) (at (part activity.name c) k) h i')) m + times x (due_in ts depth (at (part activity.name c) k) h i') m
  child_due ts depth k g i well a activity c h i' s m =
      let e = tree_ends ts (suc depth) k g i in
      due_pushed ts depth k g i (part activity.name c) m
      ∙ reached_one r qf ts k (output ts (suc depth)) (due_in ts depth) g i e well.named c i' m a activity h s.is s.of s.active s.reach
      ∙ times-append x itself one (tops r qf k (part activity.name c) (output ts (suc depth) (at (part activity.name c) k) h i')) (due_in ts depth (at (part activity.name c) k) h i') m

  pub all_by : (fact : List Template → ScopeFact) → ((ts : List Template) (depth : ℕ) (k : Known) (g : Graph) (i : Container) → Well ts depth g → Honest ts depth k g i → fact ts depth k g i)
      → (ts : List Template) (depth : ℕ) (k : Known) (g : Graph) (i : Container) (path : List Part) → Well ts depth g
      → ((p : List Part) (a b : ℕ) (v : Bool) (o : Option Bool) → k.sent p a b o ≡ Some v → 1 ≤ times x (due_in ts depth k g i) (SignalNote p a b v))
      → ((q : Part) (p : List Part) → k.closed (q ∷ p) ≡ true → 1 ≤ times x (due_in ts depth k g i) (EndNote (q ∷ p)))
      → AtScope (fact ts) ts depth k g i path
  all_by fact prove ts depth k g i [] well signal closed = prove ts depth k g i well (tree_honest ts depth k g i well signal closed)
  all_by fact prove ts zero k g i (q ∷ path) well signal closed = tt
  all_by fact prove ts (suc depth) k g i (q ∷ path) well signal closed = λ a activity c h i' name s.
      let here = part activity.name c in
      let o = output ts (suc depth) (at here k) h i' in
      let same_due = child_due ts depth k g i well a activity c h i' s in
      let P : Part → Type 0 = λ u. AtScope (fact ts) ts depth (at u k) h i' path in
      subst P name
      (all_by fact prove ts depth (at here k) h i' path (well.inside a activity s.is h s.of)
      (λ p b d v o' was. let w = signal (here ∷ p) b d v o' was in let t = same_due (SignalNote p b d v) in let z = tops_signal k here o p b d v in omega arith)
      (λ q' p was. let w = closed here (q' ∷ p) was in let t = same_due (EndNote (q' ∷ p)) in let z = tops_end k here o q' p in omega arith))

  pub all_sound : (ts : List Template) (depth : ℕ) (k : Known) (g : Graph) (i : Container) (path : List Part) → Well ts depth g
      → ((p : List Part) (a b : ℕ) (v : Bool) (o : Option Bool) → k.sent p a b o ≡ Some v → 1 ≤ times x (due_in ts depth k g i) (SignalNote p a b v))
      → ((q : Part) (p : List Part) → k.closed (q ∷ p) ≡ true → 1 ≤ times x (due_in ts depth k g i) (EndNote (q ∷ p)))
      → AtScope (IsSound ts) ts depth k g i path
  all_sound = all_by IsSound (λ ts depth k g i well honest. (tree_sound ts depth k g i well honest).kept)

  pub all_exact : (ts : List Template) (depth : ℕ) (k : Known) (g : Graph) (i : Container) (path : List Part) → Well ts depth g → k.begun [] ≡ true
      → ((p : List Part) (a b : ℕ) (v : Bool) (o : Option Bool) → k.sent p a b o ≡ Some v → 1 ≤ times x (due_in ts depth k g i) (SignalNote p a b v))
      → ((p : List Part) (a b : ℕ) (v : Bool) (o : Option Bool) → 1 ≤ times x (due_in ts depth k g i) (SignalNote p a b v) → is_none (k.sent p a b o) ≡ false)
      → ((p : List Part) → 1 ≤ times x (due_in ts depth k g i) (BeginNote p) → k.begun p ≡ true)
      → ((p : List Part) → 1 ≤ times x (due_in ts depth k g i) (EndNote p) → k.closed p ≡ true)
      → AtScope (IsExact ts) ts depth k g i path
  all_exact ts depth k g i [] well begun signal sent begins ends = tree_quiet_fate ts depth k g i well (tree_full ts depth k g i well begun signal sent begins ends)
  all_exact ts zero k g i (q ∷ path) well begun signal sent begins ends = tt
  all_exact ts (suc depth) k g i (q ∷ path) well begun signal sent begins ends = λ a activity c h i' name s.
      let here = part activity.name c in
      let o = output ts (suc depth) (at here k) h i' in
      let same_due = child_due ts depth k g i well a activity c h i' s in
      let P : Part → Type 0 = λ u. AtScope (IsExact ts) ts depth (at u k) h i' path in
      subst P name
      (all_exact ts depth (at here k) h i' path (well.inside a activity s.is h s.of)
      (begins (here ∷ []) (let t = same_due (BeginNote []) in let z = tops_begin k here o in omega arith))
      (λ p b d v o' was. let w = signal (here ∷ p) b d v o' was in let t = same_due (SignalNote p b d v) in let z = tops_signal k here o p b d v in omega arith)
      (λ p b d v o' some. sent (here ∷ p) b d v o' (let t = same_due (SignalNote p b d v) in omega arith))
      (λ p some. begins (here ∷ p) (let t = same_due (BeginNote p) in omega arith))
      (λ p some. ends (here ∷ p) (let t = same_due (EndNote p) in omega arith)))
