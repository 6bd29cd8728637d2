-- Messages that are told in a scope, against the notes of it: SIGNALs of an activity that has ended, BEGINs and ENDs.
use Rattle.std.proofs.Common.{◌≡◌, ℕ, zero, suc, ◌<◌, ◌==◌, Bool, true, false, if◌then◌else◌, List, [], ◌∷◌, ◌++◌, map, length, Option, Some, None, refl, ap, sym, ◌∙◌, subst, inl, inr}
use Rattle.std.specs.Prelude.{slice_get, filter_map}
use Rattle.std.specs.List.{filter}
use Rattle.std.proofs.lemmas.Bool.Decides.{eqb_tells}
use Rattle.dead_paths.specs.Signals.{signal_of, signals}
use Rattle.flow_model.specs.Fates.{Ends, connector_value}
use Rattle.flow_model.specs.declared.graphs.Activity.{Activity}
use Rattle.flow_model.specs.declared.graphs.Control.{Control}
use Rattle.flow_model.specs.declared.graphs.Graph.{Graph, out-Graph}
use Rattle.flow_model.specs.declared.graphs.Template.{Template}
use Rattle.flow_model.specs.declared.instances.Message.{Message}
use Rattle.flow_model.specs.declared.instances.Message.TheVariants.{Begin, Signal, End}
use Rattle.flow_model.specs.declared.instances.Part.{Part}
use Rattle.flow_model.specs.declared.instances.Path.{Path}
use Rattle.flow_model.specs.declared.instances.SourceEnd.{SourceEnd}
use Rattle.flow_model.specs.declared.instances.SourceEnd.TheVariants.{Unsettled}
use Rattle.navigator.proofs.Merges.{Merges, merges_same, merges_all, merges_append}
use Rattle.navigator.proofs.OneActivity.{ends_with}
use Rattle.navigator.proofs.Places.{present}
use Rattle.navigator.proofs.SameActivities.{Named, place_found}
use Rattle.navigator.specs.Giving.{root_named, AreOf}
use Rattle.navigator.specs.Reading.{place_of}
use Rattle.navigator.specs.Showing.{graph_along, note_in}
use Rattle.view_laws.specs.Messages.{Note, BeginNote, SignalNote, EndNote, push, note_of, notes}
use Rattle.view_laws.specs.Runs.{kind}

-- ---- messages

-- a message of a scope is this note, from there
abbrev pub IsTold : Graph → Path → Message → Note → Type 0
IsTold g path (Begin p) n = (r : List Part) × (p.parts ≡ path.parts ++ r) × (n ≡ BeginNote r) × (p.root ≡ path.root)
IsTold g path (Signal p from to v) n = (a : ℕ) × (b : ℕ) × (p ≡ path) × (place_of g from ≡ Some a) × (place_of g to ≡ Some b) × (n ≡ SignalNote [] a b v)
IsTold g path (End p) n = (r : List Part) × (p.parts ≡ path.parts ++ r) × (n ≡ EndNote r) × (p.root ≡ path.root)

-- so are all of a list
abbrev pub AreTold : Graph → Path → List Message → List Note → Type 0
AreTold g path [] ns = ns ≡ []
AreTold g path (m ∷ ms) ns = (n : Note) × (rest : List Note) × (ns ≡ n ∷ rest) × IsTold g path m n × AreTold g path ms rest

-- no message is told
pub none_told : (g : Graph) (path : Path) (ms : List Message) → ms ≡ [] → AreTold g path ms []
none_told g path ms is = rw is refl

-- messages behind others
pub told_append : (g : Graph) (path : Path) (ms : List Message) (ns : List Note) (ms' : List Message) (ns' : List Note) → AreTold g path ms ns → AreTold g path ms' ns'
    → AreTold g path (ms ++ ms') (ns ++ ns')
told_append g path [] ns ms' ns' is is' = rw is is'
told_append g path (m ∷ ms) ns ms' ns' is is' = (is.0, is.1 ++ ns', ap (λ l. l ++ ns') is.2, is.3, told_append g path ms is.1 ms' ns' is.4 is')

-- a note of the scope at the end of a path, from where the path begins
abbrev pub push_all : List Part → Note → Note
push_all [] n = n
push_all (q ∷ p) n = push q (push_all p n)

begin_along : (p r : List Part) → push_all p (BeginNote r) ≡ BeginNote (p ++ r)
begin_along [] r = refl
begin_along (q ∷ p) r = ap (push q) (begin_along p r)

end_along : (p r : List Part) → push_all p (EndNote r) ≡ EndNote (p ++ r)
end_along [] r = refl
end_along (q ∷ p) r = ap (push q) (end_along p r)

signal_along : (p : List Part) (a b : ℕ) (v : Bool) → push_all p (SignalNote [] a b v) ≡ SignalNote p a b v
signal_along [] a b v = refl
signal_along (q ∷ p) a b v = ap (push q) (signal_along p a b v)

told_note : (ts : List Template) (g h : Graph) (path : Path) (m : Message) (n : Note) → graph_along ts path.parts g ≡ Some h → IsTold h path m n → note_in ts g m ≡ Some (push_all path.parts n)
told_note ts g h path (Begin p) n along is = ap (λ parts. Some (BeginNote parts)) is.1 ∙ ap Some (sym (begin_along path.parts is.0)) ∙ ap (λ m. Some (push_all path.parts m)) (sym is.2)
told_note ts g h path (Signal p from to v) n along is =
    let here : graph_along ts p.parts g ≡ Some h = ap (λ (q : Path). graph_along ts q.parts g) is.2 ∙ along in
    rw (here, is.3, is.4) (ap (λ (q : Path). Some (SignalNote q.parts is.0 is.1 v)) is.2)
    ∙ ap Some (sym (signal_along path.parts is.0 is.1 v)) ∙ ap (λ m. Some (push_all path.parts m)) (sym is.5)
told_note ts g h path (End p) n along is = ap (λ parts. Some (EndNote parts)) is.1 ∙ ap Some (sym (end_along path.parts is.0)) ∙ ap (λ m. Some (push_all path.parts m)) (sym is.2)

-- it names the root of the scope
told_root : (g : Graph) (path : Path) (m : Message) (n : Note) → IsTold g path m n → root_named m ≡ path.root
told_root g path (Begin p) n is = is.3
told_root g path (Signal p from to v) n is = ap (λ (q : Path). q.root) is.2
told_root g path (End p) n is = is.3

-- so do all of a list
pub told_roots : (g : Graph) (path : Path) (ms : List Message) (ns : List Note) → AreTold g path ms ns → AreOf path.root ms
told_roots g path [] ns is i m there = let n : ⊥ = cc in absurd n
told_roots g path (m ∷ ms) ns is zero m' there = let same : m ≡ m' = cc in subst (λ x. root_named x ≡ path.root) same (told_root g path m is.0 is.3)
told_roots g path (m ∷ ms) ns is (suc i) m' there = told_roots g path ms is.1 is.4 i m' there

-- the messages by the places of their activities
pub told_notes : (ts : List Template) (g h : Graph) (path : Path) (ms : List Message) (ns : List Note) → graph_along ts path.parts g ≡ Some h → AreTold h path ms ns
    → map (note_in ts g) ms ≡ map Some (map (push_all path.parts) ns)
told_notes ts g h path [] ns along is = rw is refl
told_notes ts g h path (m ∷ ms) ns along is =
    let one = told_note ts g h path m is.0 along is.3 in
    let rest = told_notes ts g h path ms is.1 along is.4 in
    rw is.2 (ap (λ o. o ∷ map (note_in ts g) ms) one ∙ ap (λ l. Some (push_all path.parts is.0) ∷ l) rest)

-- ---- kinds

abbrev pub kind_only : ℕ → List Note → List Note
kind_only n ms = filter (λ m. kind m == n) ms

-- the notes of a kind in two lists
pub kind_append : (n : ℕ) (ms ns : List Note) → kind_only n (ms ++ ns) ≡ kind_only n ms ++ kind_only n ns
kind_append n [] ns = refl
kind_append n (m ∷ ms) ns = go (kind m == n) refl (kind_append n ms ns)
  where
    go : (b : Bool) → (kind m == n) ≡ b → kind_only n (ms ++ ns) ≡ kind_only n ms ++ kind_only n ns → kind_only n ((m ∷ ms) ++ ns) ≡ kind_only n (m ∷ ms) ++ kind_only n ns
    go true is rest = rw is (ap (λ l. m ∷ l) rest)
    go false is rest = rw is rest

kind_pushed : (p : List Part) (m : Note) → kind (push_all p m) ≡ kind m
kind_pushed [] m = refl
kind_pushed (q ∷ p) m = one (push_all p m) ∙ kind_pushed p m
  where
    one : (n : Note) → kind (push q n) ≡ kind n
    one (BeginNote r) = refl
    one (SignalNote r a b v) = refl
    one (EndNote r) = refl

-- the kind of a note doesn't depend on where its path begins
pub kind_along : (n : ℕ) (p : List Part) (ms : List Note) → kind_only n (map (push_all p) ms) ≡ map (push_all p) (kind_only n ms)
kind_along n p [] = refl
kind_along n p (m ∷ ms) = go (kind m == n) refl (kind_along n p ms)
  where
    go : (b : Bool) → (kind m == n) ≡ b → kind_only n (map (push_all p) ms) ≡ map (push_all p) (kind_only n ms) → kind_only n (map (push_all p) (m ∷ ms)) ≡ map (push_all p) (kind_only n (m ∷ ms))
    go true is rest = let here : (kind (push_all p m) == n) ≡ true = ap (λ c. c == n) (kind_pushed p m) ∙ is in rw (is, here) (ap (λ l. push_all p m ∷ l) rest)
    go false is rest = let here : (kind (push_all p m) == n) ≡ false = ap (λ c. c == n) (kind_pushed p m) ∙ is in rw (is, here) rest

-- ---- the SIGNALs of an activity that has ended

-- those of the connectors from an activity that has ended so
abbrev pub sent_notes : List Control → List Control → ℕ → SourceEnd → List Note
sent_notes controls [] a now = []
sent_notes controls (c ∷ cs) a now = (if c.from == a then note_of c (connector_value controls c now) else []) ++ sent_notes controls cs a now

-- they become due where it wasn't settled
pub notes_merge : (controls cs : List Control) (e : Ends) (a : ℕ) (now : SourceEnd) → e a ≡ Unsettled
    → Merges (notes controls cs e) (sent_notes controls cs a now) (notes controls cs (ends_with a now e))
notes_merge controls [] e a now was = (refl, refl)
notes_merge controls (c ∷ cs) e a now was =
    merges_append (note_of c (connector_value controls c (e c.from))) (if c.from == a then note_of c (connector_value controls c now) else [])
    (note_of c (connector_value controls c (ends_with a now e c.from))) (notes controls cs e) (sent_notes controls cs a now) (notes controls cs (ends_with a now e))
    here (notes_merge controls cs e a now was)
  where
    here : Merges (note_of c (connector_value controls c (e c.from))) (if c.from == a then note_of c (connector_value controls c now) else []) (note_of c (connector_value controls c (ends_with a now e c.from)))
    here = elim (eqb_tells c.from a) [
      | inl is ↦
          let open_ : e c.from ≡ Unsettled = ap e is.1 ∙ was in
          rw (is.0, open_) (merges_all (note_of c (connector_value controls c now)))
      | inr other ↦ rw other.0 (merges_same (note_of c (connector_value controls c (e c.from))))
    ]

-- they are SIGNALs
pub sent_kinds : (controls cs : List Control) (a : ℕ) (now : SourceEnd) → (n : ℕ) → kind_only n (sent_notes controls cs a now) ≡ (if 0 == n then sent_notes controls cs a now else [])
sent_kinds controls [] a now n = go [] (0 == n)
  where
    go : (l : List Note) (b : Bool) → l ≡ (if b then l else l)
    go l true = refl
    go l false = refl
sent_kinds controls (c ∷ cs) a now n =
    kind_append n (here_notes (c.from == a)) (sent_notes controls cs a now) ∙ ap (λ l. kind_only n (here_notes (c.from == a)) ++ l) (sent_kinds controls cs a now n)
    ∙ go (c.from == a) (connector_value controls c now) (0 == n) refl
  where
    here_notes : Bool → List Note
    here_notes b = if b then note_of c (connector_value controls c now) else []

    go : (b : Bool) (o : Option Bool) (d : Bool) → (0 == n) ≡ d
        → kind_only n (if b then note_of c o else []) ++ (if d then sent_notes controls cs a now else []) ≡ (if d then (if b then note_of c o else []) ++ sent_notes controls cs a now else [])
    go false o true is = refl
    go false o false is = refl
    go true None true is = refl
    go true None false is = refl
    go true (Some v) true is = rw is refl
    go true (Some v) false is = rw is refl

module _ (g : Graph) (path : Path) (named : Named g) (a : ℕ) (activity : Activity) (there : slice_get (out-Graph g).activities a ≡ Some activity) (now : SourceEnd) where
  told_of : (cs : List Control) → ((i : ℕ) (c : Control) → slice_get cs i ≡ Some c → c.to < length (out-Graph g).activities)
      → AreTold g path (filter_map (signal_of g path now) (filter (λ c. c.from == a) cs)) (sent_notes (out-Graph g).controls cs a now)
  told_of [] targets = refl
  told_of (c ∷ cs) targets =
      let rest : AreTold g path (filter_map (signal_of g path now) (filter (λ c. c.from == a) cs)) (sent_notes (out-Graph g).controls cs a now) = told_of cs (λ i d at. targets (suc i) d at) in
      elim (eqb_tells c.from a) [
        | inl is ↦
            let target = present (out-Graph g).activities c.to (targets 0 c refl) in
            let source : slice_get (out-Graph g).activities c.from ≡ Some activity = ap (slice_get (out-Graph g).activities) is.1 ∙ there in
            rw (is.0) (go (connector_value (out-Graph g).controls c now) refl source target rest)
        | inr other ↦ rw other.0 rest
      ]
    where
      go : (o : Option Bool) → connector_value (out-Graph g).controls c now ≡ o → slice_get (out-Graph g).activities c.from ≡ Some activity
          → (y : Activity) × (slice_get (out-Graph g).activities c.to ≡ Some y)
          → AreTold g path (filter_map (signal_of g path now) (filter (λ c. c.from == a) cs)) (sent_notes (out-Graph g).controls cs a now)
          → AreTold g path (filter_map (signal_of g path now) (c ∷ filter (λ c. c.from == a) cs)) (note_of c (connector_value (out-Graph g).controls c now) ++ sent_notes (out-Graph g).controls cs a now)
      go None is from to more = rw (from, to.1, is) more
      go (Some v) is from to more =
          let found_from : place_of g activity.name ≡ Some c.from = place_found g c.from activity named from in
          let found_to : place_of g to.0.name ≡ Some c.to = place_found g c.to to.0 named to.1 in
          rw (from, to.1, is) (SignalNote [] c.from c.to v, sent_notes (out-Graph g).controls cs a now, refl, (c.from, c.to, refl, found_from, found_to, refl), more)

  -- the SIGNALs that are told are those
  pub told_signals : ((i : ℕ) (c : Control) → slice_get (out-Graph g).controls i ≡ Some c → c.to < length (out-Graph g).activities)
      → AreTold g path (signals g path a now) (sent_notes (out-Graph g).controls (out-Graph g).controls a now)
  told_signals targets = told_of (out-Graph g).controls targets
