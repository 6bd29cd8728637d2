-- Who knows more sees the same of all that was settled, to any depth.
use Rattle.fate_laws.proofs.Attempts.{Keeps, along_all, closed}
use Rattle.fate_laws.proofs.Complete.{complete_kept, settled_at}
use Rattle.fate_laws.proofs.Extends.{Extends, or_false, value_kept, joined_kept}
use Rattle.fate_laws.proofs.Lines.{fed_same}
use Rattle.fate_laws.proofs.Rounds.{rounds_kept}
use Rattle.fate_laws.proofs.Steps.{step_kept, attempts_kept, closed_of}
use Rattle.fate_laws.specs.More.{More}
use Rattle.flow_model.specs.Containers.{with_return_code}
use Rattle.flow_model.specs.Fates.{Ends, connector_value, fate_by, ended, is_settled}
use Rattle.flow_model.specs.ScopeContainers.{graph_of, up_to, is_complete, output_by, base_of}
use Rattle.flow_model.specs.Scopes.{Known, at, Runs, part, scope_gives, gives, trial, step, rounds, fate_given, output, tree_ends, tree_fate}
use Rattle.flow_model.specs.declared.graphs.Activity.{Activity}
use Rattle.flow_model.specs.declared.graphs.Container.{Container}
use Rattle.flow_model.specs.declared.graphs.Control.{Control}
use Rattle.flow_model.specs.declared.graphs.Graph.{Graph, out-Graph}
use Rattle.flow_model.specs.declared.graphs.MapEnd.TheVariants.{Border}
use Rattle.flow_model.specs.declared.graphs.Template.{Template}
use Rattle.flow_model.specs.declared.graphs.Work.{Work, Program, Block, Process}
use Rattle.flow_model.specs.declared.instances.Fate.TheVariants.{Waiting}
use Rattle.flow_model.specs.declared.instances.Part.{Part}
use Rattle.flow_model.specs.declared.names.Name.{Name}
use Rattle.std.proofs.Common.{◌≡◌, ℕ, zero, suc, ◌≤◌, Bool, true, false, if◌then◌else◌, List, [], ◌∷◌, map, length, refl, sym, ap, ◌∙◌, Option, Some, None, arith, inl, inr}
use Rattle.std.proofs.lemmas.Bool.{cases_lt}
use Rattle.std.proofs.lemmas.Option.{slice_get_past}
use Rattle.std.specs.List.{list_any, last_or}
use Rattle.std.specs.Option.{option_map}
use Rattle.std.specs.Prelude.{is_none, slice_get}
use Rattle.flow_model.specs.declared.instances.SourceEnd.TheVariants as end

-- ---- one scope

pub more_at : (k k' : Known) (q : Part) → More k k' → More (at q k) (at q k')
more_at k k' q m = record {
  most = m.most;
  begun = λ p. m.begun (q ∷ p);
  closed = λ p. m.closed (q ∷ p);
  sent = λ p. m.sent (q ∷ p);
  given = λ p. m.given (q ∷ p);
}

pub values_more : (k k' : Known) (controls : List Control) (e e' : Ends) → More k k' → Extends e e' → (cs : List Control)
    → list_any is_none (map (λ c. k.sent [] c.from c.to (connector_value controls c (e c.from))) cs) ≡ false
    → map (λ c. k'.sent [] c.from c.to (connector_value controls c (e' c.from))) cs ≡ map (λ c. k.sent [] c.from c.to (connector_value controls c (e c.from))) cs
values_more k k' controls e e' m x [] known = refl
values_more k k' controls e e' m x (c ∷ cs) known =
    let both = or_false (is_none (k.sent [] c.from c.to (connector_value controls c (e c.from)))) _ known in
    let first = m.sent [] c.from c.to (connector_value controls c (e c.from)) (connector_value controls c (e' c.from)) (value_kept controls c (e c.from) (e' c.from) (x.kept c.from)) both.0 in
    let rest = values_more k k' controls e e' m x cs both.1 in
    cc

-- what the scopes below give, stays
abbrev pub RunsMore : Known → Known → Runs → Runs → Type 0
RunsMore k k' runs runs' = (q : Part) (g : Graph) (i out : Container) → runs (at q k) g i ≡ Some out → runs' (at q k') g i ≡ Some out

pub some_map : (f : Container → Container) (o o' : Option Container) → ((out : Container) → o ≡ Some out → o' ≡ Some out) → (out : Container)
    → option_map f o ≡ Some out → option_map f o' ≡ Some out
some_map f None o' more out h = cc
some_map f (Some x) o' more out h = rw (more x refl) h

pub scope_gives_more : (k k' : Known) (runs runs' : Runs) → More k k' → RunsMore k k' runs runs' → (g : Option Graph) (q : Part) (i out : Container)
    → scope_gives k runs g q i ≡ Some out → scope_gives k' runs' g q i ≡ Some out
scope_gives_more k k' runs runs' m r None q i out h = cc
scope_gives_more k k' runs runs' m r (Some g) q i out h = go (k.closed (q ∷ [])) refl
  where
    go : (b : Bool) → k.closed (q ∷ []) ≡ b → scope_gives k' runs' (Some g) q i ≡ Some out
    go false is = let n : None ≡ Some out = rw is at h in cc
    go true is = rw (m.closed (q ∷ []) is) (some_map with_return_code (runs (at q k) g i) (runs' (at q k') g i) (r q g i) out (rw is at h))

pub gives_more : (ts : List Template) (k k' : Known) (runs runs' : Runs) → More k k' → RunsMore k k' runs runs' → (name : Name) (w : Work) (j : ℕ) (i : Container)
    → Keeps (gives ts k runs name w) (gives ts k' runs' name w) j i
gives_more ts k k' runs runs' m r name (Program p) j i = λ out h. m.given (part name j ∷ []) out h
gives_more ts k k' runs runs' m r name (Block g) j i = λ out h. scope_gives_more k k' runs runs' m r (Some g) (part name j) i out h
gives_more ts k k' runs runs' m r name (Process t) j i = λ out h. scope_gives_more k k' runs runs' m r (graph_of ts t) (part name j) i out h

pub step_more : (ts : List Template) (k k' : Known) (runs runs' : Runs) → More k k' → RunsMore k k' runs runs' → (g : Graph) (input : Container) (e e' : Ends)
    → Extends e e' → Extends (step ts k runs g input e) (step ts k' runs' g input e')
step_more ts k k' runs runs' m r g input e e' x = record {
  kept = λ a h. step_kept ts k k' runs runs' g input e e' a (m.begun []) (values_more k k' (out-Graph g).controls e e' m x _)
      (λ activity is. attempts_kept ts k k' runs runs' g input e e' a activity m.most (λ i d less to b from s. x.kept b s)
      (λ fed. along_all _ _ (trial g a activity (base_of g activity a input e)) (gives_more ts k k' runs runs' m r activity.name activity.work) k.most 1 (base_of g activity a input e)))
      h;
}

-- ---- a complete scope

waits_past : (b : Bool) → (if b then Waiting else Waiting) ≡ Waiting
waits_past true = refl
waits_past false = refl

pub unsettled_past : (ts : List Template) (k : Known) (runs : Runs) (g : Graph) (input : Container) (n b : ℕ) → length (out-Graph g).activities ≤ b
    → rounds (step ts k runs g input) n b ≡ end.Unsettled
unsettled_past ts k runs g input zero b past = refl
unsettled_past ts k runs g input (suc n) b past = rw (slice_get_past (out-Graph g).activities b past, waits_past (k.begun [])) refl

pub output_kept : (g : Graph) (input : Container) (e e' : Ends) → Extends e e' → ((b : ℕ) → length (out-Graph g).activities ≤ b → e' b ≡ e b)
    → (out : Container) → output_by g input e ≡ Some out → output_by g input e' ≡ Some out
output_kept g input e e' x past out h = go (is_complete g e) refl
  where
    go : (b : Bool) → is_complete g e ≡ b → output_by g input e' ≡ Some out
    go false is = let n : None ≡ Some out = rw is at h in cc
    go true is =
        let whole : is_complete g e' ≡ true = complete_kept e e' x (up_to (length (out-Graph g).activities) 0) is in
        let same : (b : ℕ) → e' b ≡ e b = λ b. elim (cases_lt b (length (out-Graph g).activities)) [
          | inl inside ↦ x.kept b (settled_at e (length (out-Graph g).activities) 0 b is (omega arith) (omega arith))
          | inr outside ↦ past b outside
        ] in
        rw (whole, fed_same (out-Graph g).lines Border input e e' _ (λ k d l to b from. same b)) (rw is at h)

-- ---- to any depth

pub output_more : (ts : List Template) (depth : ℕ) (k k' : Known) → More k k' → (g : Graph) (i out : Container)
    → output ts depth k g i ≡ Some out → output ts depth k' g i ≡ Some out
output_more ts zero k k' m g i out h = cc
output_more ts (suc depth) k k' m g i out h =
    output_kept g i _ _
    (rounds_kept _ _ (step_more ts k k' (output ts depth) (output ts depth) m (λ q c j o. output_more ts depth (at q k) (at q k') (more_at k k' q m) c j o) g i) _)
    (λ b past. unsettled_past ts k' (output ts depth) g i _ b past ∙ sym (unsettled_past ts k (output ts depth) g i _ b past))
    out h

-- what is settled in a scope stays
pub tree_more : (ts : List Template) (depth : ℕ) (k k' : Known) → More k k' → (g : Graph) (i : Container)
    → Extends (tree_ends ts depth k g i) (tree_ends ts depth k' g i)
tree_more ts depth k k' m g i =
    rounds_kept _ _ (step_more ts k k' (output ts depth) (output ts depth) m (λ q c j o. output_more ts depth (at q k) (at q k') (more_at k k' q m) c j o) g i) _

-- ---- the fates of what is settled

fate_by_kept : (a : Activity) (v v' : Option Bool) (outs outs' : List Container) → (is_none v ≡ false → v' ≡ v) → (closed a.exit outs ≡ true → outs' ≡ outs)
    → is_settled (ended (fate_by a v outs) outs) ≡ true → fate_by a v' outs' ≡ fate_by a v outs
fate_by_kept a None v' outs outs' same stay h = cc
fate_by_kept a (Some false) v' outs outs' same stay h = rw (same refl) refl
fate_by_kept a (Some true) v' outs outs' same stay h = rw (same refl, stay (closed_of a (length outs) outs (last_or None outs) h)) refl

-- one round more settles no less
rounds_more : (next : Ends → Ends) → ((e e' : Ends) → Extends e e' → Extends (next e) (next e')) → (n : ℕ) → Extends (rounds next n) (rounds next (suc n))
rounds_more next grow zero = record { kept = λ a h. cc }
rounds_more next grow (suc n) = grow _ _ (rounds_more next grow n)

module _ (ts : List Template) (k k' : Known) (runs runs' : Runs) (more : More k k') (r : RunsMore k k' runs runs') (g : Graph) (input : Container) (e e' : Ends) (x : Extends e e') where
  fate_more : (a : ℕ) → is_settled (step ts k runs g input e a) ≡ true → fate_given ts k' runs' g input e' a ≡ fate_given ts k runs g input e a
  fate_more a settled = go (k.begun []) refl (slice_get (out-Graph g).activities a) refl
    where
      go : (b : Bool) → k.begun [] ≡ b → (o : Option Activity) → slice_get (out-Graph g).activities a ≡ o → fate_given ts k' runs' g input e' a ≡ fate_given ts k runs g input e a
      go false no_ o is = let n : false ≡ true = rw no_ at settled in cc
      go true yes_ None is = let n : false ≡ true = rw (yes_, is) at settled in cc
      go true yes_ (Some activity) is =
          rw (more.begun [] yes_, yes_, is)
          (fate_by_kept activity _ _ _ _
          (joined_kept activity.join _ _ (values_more k k' (out-Graph g).controls e e' more x _))
          (attempts_kept ts k k' runs runs' g input e e' a activity more.most (λ i d less to b from s. x.kept b s)
          (λ fed. along_all _ _ (trial g a activity (base_of g activity a input e)) (gives_more ts k k' runs runs' more r activity.name activity.work) k.most 1 (base_of g activity a input e)))
          (rw (yes_, is) at settled))

outputs_more : (ts : List Template) (depth : ℕ) (k k' : Known) → More k k' → RunsMore k k' (output ts depth) (output ts depth)
outputs_more ts depth k k' more q c j o h = output_more ts depth (at q k) (at q k') (more_at k k' q more) c j o h

-- where what counts of a value does not turn once the value is known
pub fates_stay : (ts : List Template) (depth : ℕ) (k k' : Known) → More k k → More k k' → (g : Graph) (i : Container) (a : ℕ)
    → is_settled (tree_ends ts depth k g i a) ≡ true → tree_fate ts depth k' g i a ≡ tree_fate ts depth k g i a
fates_stay ts depth k k' steady more g i a settled =
    let again = (rounds_more (step ts k (output ts depth) g i) (step_more ts k k (output ts depth) (output ts depth) steady (outputs_more ts depth k k steady) g i) (length (out-Graph g).activities)).kept a settled in
    fate_more ts k k' (output ts depth) (output ts depth) more (outputs_more ts depth k k' more) g i (tree_ends ts depth k g i) (tree_ends ts depth k' g i)
    (tree_more ts depth k k' more g i) a (ap is_settled again ∙ settled)
