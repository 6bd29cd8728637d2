-- What is told follows from what is told, and stays. So a line that is justified once is justified later, and tells nothing more then.
use Rattle.std.proofs.Common.{◌≡◌, ◌⊎◌, ℕ, zero, suc, ◌-◌, ◌==◌, Bool, true, false, cond, List, [], ◌∷◌, length, Option, Some, None, refl, sym, ap, subst, ◌∙◌, arith, inl, inr, ⊎_elim}
use Rattle.std.specs.Prelude.{option_map, option_and_then, is_some, IfSome, replicate, slice_get, slice_set, bytes_eq}
use Rattle.std.specs.Option.{option_or}
use Rattle.std.specs.Cmp.Lexicographic.{bytes_decides}
use Rattle.std.proofs.Math.Path.{fun_ext}
use Rattle.std.proofs.lemmas.Bool.{false≢true, cond-true, cond-false}
use Rattle.std.proofs.lemmas.List.{length-set}
use Rattle.std.proofs.lemmas.Option.{same_Some, none-some}
use Rattle.flow_model.specs.declared.graphs.Activity.{Activity}
use Rattle.flow_model.specs.declared.graphs.Container.{Container}
use Rattle.flow_model.specs.declared.graphs.Graph.{Graph, out-Graph}
use Rattle.flow_model.specs.declared.instances.Part.{Part}
use Rattle.flow_model.specs.declared.instances.Path.{Path}
use Rattle.flow_model.specs.declared.instances.SourceEnd.{SourceEnd}
use Rattle.flow_model.specs.declared.instances.SourceEnd.TheVariants as end
use Rattle.flow_model.specs.declared.names.Name.{Name}
use Rattle.flow_model.specs.Conditions.{holds}
use Rattle.flow_model.specs.Fates.{is_settled}
use Rattle.flow_model.specs.Paths.{spelling}
use Rattle.flow_model.specs.Rows.{below}
use Rattle.flow_model.specs.ScopeContainers.{graph_in, looped}
use Rattle.flow_model.specs.Scopes.{part}
use Rattle.blocks_subprocs.specs.Ends.{ends_of}
use Rattle.fate_laws.proofs.Extends.{Extends}
use Rattle.certificates.specs.declared.lines.CertLine.{CertLine}
use Rattle.certificates.specs.declared.lines.CertLine.TheVariants.{Scope, Dead, Finished, Ended}
use Rattle.certificates.specs.Told.{Opened, Told, Basis, Placed, opened, with_end, with_output, same_path, beginning, changed, activity_at, join_in, joined_at, is_active, first_input, first_start, start_after, next_start, attempt_start, start, gave, final_at, last_part, outer, root_graph, begins_as, begins, scope_gives, line_scope, next, taken}
use Rattle.certificates.proofs.Growth.{and_then_parts, map_parts, if_parts, not_if_parts, Grows, grows_none, Stays, AllGrow, joined_parts, join_more, joined_more, gives_more, final_one, final_at_more, begins_more, IsAlike, final_alike}
use Rattle.certificates.proofs.Laid.{and_then_if, map_if, cond_if, at_some, stands}

-- ---- lists of ends

head_same : (x y : SourceEnd) (xs ys : List SourceEnd) → x ∷ xs ≡ y ∷ ys → x ≡ y
head_same x y xs ys e = cc

tail_same : (x y : SourceEnd) (xs ys : List SourceEnd) → x ∷ xs ≡ y ∷ ys → xs ≡ ys
tail_same x y xs ys e = cc

set_twice : (l : List SourceEnd) (a : ℕ) (e : SourceEnd) → slice_set (slice_set l a e) a e ≡ slice_set l a e
set_twice [] a e = refl
set_twice (x ∷ l) zero e = refl
set_twice (x ∷ l) (suc a) e = ap (λ (m : List SourceEnd). x ∷ m) (set_twice l a e)

set_cases : (l : List SourceEnd) (a c : ℕ) (e : SourceEnd) → ((c ≡ a) × (ends_of (slice_set l a e) c ≡ e)) ⊎ (ends_of (slice_set l a e) c ≡ ends_of l c)
set_cases [] a c e = inr refl
set_cases (x ∷ l) zero zero e = inl (refl, refl)
set_cases (x ∷ l) zero (suc c) e = inr refl
set_cases (x ∷ l) (suc a) zero e = inr refl
set_cases (x ∷ l) (suc a) (suc c) e = ⊎_elim (λ h. inl (ap suc h.0, h.1)) (λ h. inr h) (set_cases l a c e)

-- an end that is told is told later
set_more : (l m : List SourceEnd) → length m ≡ length l → Extends (ends_of l) (ends_of m) → (a : ℕ) (e : SourceEnd) → is_settled e ≡ true → slice_set l a e ≡ l → slice_set m a e ≡ m
set_more [] [] long x a e settled h = refl
set_more [] (z ∷ m) long x a e settled h = absurd (omega (arith, long))
set_more (y ∷ l) [] long x a e settled h = absurd (omega (arith, long))
set_more (y ∷ l) (z ∷ m) long x zero e settled h =
    let is = head_same e y l l h in
    ap (λ (w : SourceEnd). w ∷ m) (is ∙ sym (x.kept zero (ap is_settled (sym is) ∙ settled)))
set_more (y ∷ l) (z ∷ m) long x (suc a) e settled h =
    ap (λ (n : List SourceEnd). z ∷ n)
    (set_more l m (omega (arith, long)) (record { kept = λ c known. x.kept (suc c) known }) a e settled (tail_same y y (slice_set l a e) l h))

none_settled : (n a : ℕ) → ends_of (replicate n end.Unsettled) a ≡ end.Unsettled
none_settled zero a = refl
none_settled (suc n) zero = refl
none_settled (suc n) (suc a) = none_settled n a

-- ---- what is told follows

-- how an activity of a scope has ended follows
abbrev pub EndFollows : Basis → Told → Path → Opened → Placed → SourceEnd → Type 0
EndFollows b t p s x end.Unsettled = Unit {0}
EndFollows b t p s x end.Dead = join_in s x ≡ Some false
EndFollows b t p s x (end.Finished out) = (n : ℕ) × (join_in s x ≡ Some true) × (final_at b t p n x ≡ Some out)

abbrev StandsIn : Opened → Placed → Type 0
StandsIn s x = slice_get (out-Graph s.graph).activities x.place ≡ Some x.activity

-- all that is told follows
pub record IsSound (b : Basis) (t : Told) : Type 0 where
  pub alike : IsAlike t
  pub ends : (p : Path) (s : Opened) → t p ≡ Some s → (x : Placed) → StandsIn s x → EndFollows b t p s x (ends_of s.ends x.place)
  pub output : (p : Path) (s : Opened) (out : Container) → t p ≡ Some s → s.output ≡ Some out → scope_gives s ≡ Some out

pub sound_none : (b : Basis) → IsSound b (λ p. None)
sound_none b = record {
  alike = λ p q e. refl;
  ends = λ p s is x at. absurd (none-some s is);
  output = λ p s out is given. absurd (none-some s is);
}

follows_more : (b : Basis) (t t' : Told) → AllGrow t t' → (p : Path) (s s' : Opened) → Grows s s' → (x : Placed) (e : SourceEnd) → EndFollows b t p s x e → EndFollows b t' p s' x e
follows_more b t t' grow p s s' more x end.Unsettled h = tt
follows_more b t t' grow p s s' more x end.Dead h = join_more s s' more x false h
follows_more b t t' grow p s s' more x (end.Finished out) h = (h.0, join_more s s' more x true h.1, final_at_more b t t' grow p h.0 x out h.2)

follows_alike : (b : Basis) (t : Told) → IsAlike t → (p q : Path) → spelling p ≡ spelling q → (s : Opened) (x : Placed) (e : SourceEnd) → EndFollows b t p s x e → EndFollows b t q s x e
follows_alike b t alike p q same s x end.Unsettled h = tt
follows_alike b t alike p q same s x end.Dead h = h
follows_alike b t alike p q same s x (end.Finished out) h = (h.0, h.1, sym (final_alike b t alike p q same h.0 x) ∙ h.2)

-- only one end follows
follows_one : (b : Basis) (t : Told) (p : Path) (s : Opened) (x : Placed) (e e' : SourceEnd) → EndFollows b t p s x e → EndFollows b t p s x e' → is_settled e ≡ true → is_settled e' ≡ true → e ≡ e'
follows_one b t p s x end.Unsettled e' h k known known' = absurd (false≢true known)
follows_one b t p s x end.Dead end.Unsettled h k known known' = absurd (false≢true known')
follows_one b t p s x end.Dead end.Dead h k known known' = refl
follows_one b t p s x end.Dead (end.Finished out) h k known known' = absurd (false≢true (same_Some false true (sym h ∙ k.1)))
follows_one b t p s x (end.Finished out) end.Unsettled h k known known' = absurd (false≢true known')
follows_one b t p s x (end.Finished out) end.Dead h k known known' = absurd (false≢true (same_Some false true (sym k ∙ h.1)))
follows_one b t p s x (end.Finished out) (end.Finished out') h k known known' =
    ap end.Finished (final_one x.activity.exit (gave b t p x.activity.name x.activity.work) h.0 k.0 out out' h.2 k.2)

-- ---- lines that stand

pub record BegunStands (b : Basis) (t : Told) (p : Path) : Type 0 where
  pub scope : Opened
  pub told : t p ≡ Some scope
  pub begins : is_some (begins b t p) ≡ true

pub record EndStands (t : Told) (p : Path) (name : Name) (truth : Bool) (e : SourceEnd) (x : Placed) : Type 0 where
  pub scope : Opened
  pub told : t p ≡ Some scope
  pub joined : joined_at truth name scope ≡ Some x
  pub kept : with_end x.place e scope ≡ scope

pub record DeadStands (t : Told) (p : Path) (name : Name) : Type 0 where
  pub activity : Placed
  pub here : EndStands t p name false end.Dead activity

pub record FinishedStands (b : Basis) (t : Told) (p : Path) (name : Name) (n : ℕ) : Type 0 where
  pub activity : Placed
  pub out : Container
  pub here : EndStands t p name true (end.Finished out) activity
  pub last : final_at b t p n activity ≡ Some out

pub record EndedStands (t : Told) (p : Path) : Type 0 where
  pub inside : (length p.parts == 0) ≡ false
  pub scope : Opened
  pub out : Container
  pub told : t p ≡ Some scope
  pub gives : scope_gives scope ≡ Some out
  pub kept : with_output out scope ≡ scope

-- what a line says is told, and follows
abbrev pub Stands : Basis → Told → CertLine → Type 0
Stands b t (Scope p) = BegunStands b t p
Stands b t (Dead p name) = DeadStands t p name
Stands b t (Finished p name n) = FinishedStands b t p name n
Stands b t (Ended p) = EndedStands t p

-- ---- a line that stands follows, and tells nothing more

spelt : (p q : Path) → same_path p q ≡ true → spelling p ≡ spelling q
spelt p q e = (bytes_decides (spelling p) (spelling q)).0 e

itself : (p : Path) → same_path p p ≡ true
itself p = (bytes_decides (spelling p) (spelling p)).1 refl

some_there : {X : Type 0} (o : Option X) → is_some o ≡ true → (x : X) × (o ≡ Some x)
some_there None h = absurd (false≢true h)
some_there (Some x) h = (x, refl)

module _ (t : Told) (alike : IsAlike t) (p : Path) (s : Opened) (told : t p ≡ Some s) where
  told_at : (q : Path) → same_path p q ≡ true → t q ≡ Some s
  told_at q e = sym (alike p q (spelt p q e)) ∙ told

  beginning_same : (r : Opened) → beginning t p r ≡ t
  beginning_same r = fun_ext (λ q. at q (same_path p q) refl)
    where
      at : (q : Path) (k : Bool) → same_path p q ≡ k → beginning t p r q ≡ t q
      at q true e = cond-true (same_path p q) (option_or (t q) (Some r)) (t q) e ∙ ap (λ (o : Option Opened). option_or o (Some r)) (told_at q e) ∙ sym (told_at q e)
      at q false e = cond-false (same_path p q) (option_or (t q) (Some r)) (t q) e

  changed_same : (f : Opened → Opened) → f s ≡ s → changed t p f ≡ t
  changed_same f same = fun_ext (λ q. at q (same_path p q) refl)
    where
      at : (q : Path) (k : Bool) → same_path p q ≡ k → changed t p f q ≡ t q
      at q true e = cond-true (same_path p q) (option_map f (t q)) (t q) e ∙ ap (option_map f) (told_at q e) ∙ ap Some same ∙ sym (told_at q e)
      at q false e = cond-false (same_path p q) (option_map f (t q)) (t q) e

module _ (b : Basis) (t : Told) (alike : IsAlike t) where
  pub next_again : (line : CertLine) → Stands b t line → next b t line ≡ Some t
  next_again (Scope p) h =
      let begun = some_there (begins b t p) h.begins in
      ap (option_map (beginning t p)) begun.1 ∙ ap Some (beginning_same t alike p h.scope h.told begun.0)
  next_again (Dead p name) h =
      ap (λ (o : Option Opened). option_map (λ x. changed t p (with_end x.place end.Dead)) (option_and_then (joined_at false name) o)) h.here.told
      ∙ ap (option_map (λ x. changed t p (with_end x.place end.Dead))) h.here.joined
      ∙ ap Some (changed_same t alike p h.here.scope h.here.told (with_end h.activity.place end.Dead) h.here.kept)
  next_again (Finished p name n) h =
      ap (λ (o : Option Opened). option_and_then (λ x. option_map (λ out. changed t p (with_end x.place (end.Finished out))) (final_at b t p n x)) (option_and_then (joined_at true name) o)) h.here.told
      ∙ ap (option_and_then (λ x. option_map (λ out. changed t p (with_end x.place (end.Finished out))) (final_at b t p n x))) h.here.joined
      ∙ ap (option_map (λ out. changed t p (with_end h.activity.place (end.Finished out)))) h.last
      ∙ ap Some (changed_same t alike p h.here.scope h.here.told (with_end h.activity.place (end.Finished h.out)) h.here.kept)
  next_again (Ended p) h =
      cond-false (length p.parts == 0) None (option_map (λ out. changed t p (with_output out)) (option_and_then scope_gives (t p))) h.inside
      ∙ ap (λ (o : Option Opened). option_map (λ out. changed t p (with_output out)) (option_and_then scope_gives o)) h.told
      ∙ ap (option_map (λ out. changed t p (with_output out))) h.gives
      ∙ ap Some (changed_same t alike p h.scope h.told (with_output h.out) h.kept)

-- ---- a line that stands, stands later

ends_stay : (s : Opened) (l : List SourceEnd) → l ≡ s.ends → record { graph = s.graph; input = s.input; ends = l; output = s.output } ≡ s
ends_stay s l e = ap (λ (m : List SourceEnd). let u : Opened = record { graph = s.graph; input = s.input; ends = m; output = s.output } in u) e

output_stays : (s : Opened) (o : Option Container) → o ≡ s.output → record { graph = s.graph; input = s.input; ends = s.ends; output = o } ≡ s
output_stays s o e = ap (λ (w : Option Container). let u : Opened = record { graph = s.graph; input = s.input; ends = s.ends; output = w } in u) e

module _ (b : Basis) (t t' : Told) (grow : AllGrow t t') where
  end_stands_more : (p : Path) (name : Name) (truth : Bool) (e : SourceEnd) (x : Placed) → is_settled e ≡ true → EndStands t p name truth e x → EndStands t' p name truth e x
  end_stands_more p name truth e x settled h =
      let later = grow p h.scope h.told in
      record {
        scope = later.scope;
        told = later.told;
        joined = joined_more h.scope later.scope later.grows truth name x h.joined;
        kept = ends_stay later.scope (slice_set later.scope.ends x.place e)
            (set_more h.scope.ends later.scope.ends later.grows.long later.grows.ends x.place e settled (ap (λ (u : Opened). u.ends) h.kept));
      }

  pub stands_more : (line : CertLine) → Stands b t line → Stands b t' line
  stands_more (Scope p) h =
      let later = grow p h.scope h.told in
      let begun = some_there (begins b t p) h.begins in
      record { scope = later.scope; told = later.told; begins = begins_more b t t' grow p begun.0 begun.1 }
  stands_more (Dead p name) h = record { activity = h.activity; here = end_stands_more p name false end.Dead h.activity refl h.here }
  stands_more (Finished p name n) h = record {
    activity = h.activity;
    out = h.out;
    here = end_stands_more p name true (end.Finished h.out) h.activity refl h.here;
    last = final_at_more b t t' grow p n h.activity h.out h.last;
  }
  stands_more (Ended p) h =
      let later = grow p h.scope h.told in
      record {
        inside = h.inside;
        scope = later.scope;
        out = h.out;
        told = later.told;
        gives = gives_more h.scope later.scope later.grows h.out h.gives;
        kept = output_stays later.scope (Some h.out) (sym (later.grows.output h.out (sym (ap (λ (u : Opened). u.output) h.kept))));
      }

-- ---- after a line

-- what is told after a line: more, which follows, and of which the line is a part
pub record After (b : Basis) (t : Told) (line : CertLine) (t' : Told) : Type 0 where
  pub grow : AllGrow t t'
  pub sound : IsSound b t'
  pub line_stands : Stands b t' line

-- one scope is changed
module _ (b : Basis) (t : Told) (sound : IsSound b t) (p : Path) (s : Opened) (told : t p ≡ Some s) (f : Opened → Opened) (more : Grows s (f s)) where
  at_path : (q : Path) → same_path p q ≡ true → changed t p f q ≡ Some (f s)
  at_path q e = cond-true (same_path p q) (option_map f (t q)) (t q) e ∙ ap (option_map f) (told_at t sound.alike p s told q e)

  elsewhere : (q : Path) → same_path p q ≡ false → changed t p f q ≡ t q
  elsewhere q e = cond-false (same_path p q) (option_map f (t q)) (t q) e

  changed_grow : AllGrow t (changed t p f)
  changed_grow q r is = at (same_path p q) refl
    where
      at : (k : Bool) → same_path p q ≡ k → Stays (changed t p f) q r
      at true e =
          let same = same_Some s r (sym (told_at t sound.alike p s told q e) ∙ is) in
          record { scope = f s; told = at_path q e; grows = subst (λ (u : Opened). Grows u (f s)) same more }
      at false e = record { scope = r; told = elsewhere q e ∙ is; grows = grows_none r }

  changed_alike : IsAlike (changed t p f)
  changed_alike q r e =
      ap (λ (l : List ℕ). cond (bytes_eq (spelling p) l) (option_map f (t q)) (t q)) e
      ∙ ap (λ (o : Option Opened). cond (same_path p r) (option_map f o) o) (sound.alike q r e)

  changed_sound : ((x : Placed) → StandsIn s x → EndFollows b (changed t p f) p (f s) x (ends_of (f s).ends x.place))
      → ((out : Container) → (f s).output ≡ Some out → scope_gives (f s) ≡ Some out) → IsSound b (changed t p f)
  changed_sound ends output = record {
    alike = changed_alike;
    ends = λ q r is x there. ends_at q r is x there (same_path p q) refl;
    output = λ q r out is given. output_at q r out is given (same_path p q) refl;
  }
    where
      ends_at : (q : Path) (r : Opened) → changed t p f q ≡ Some r → (x : Placed) → StandsIn r x → (k : Bool) → same_path p q ≡ k → EndFollows b (changed t p f) q r x (ends_of r.ends x.place)
      ends_at q r is x there true e =
          let same = same_Some (f s) r (sym (at_path q e) ∙ is) in
          let there_before : StandsIn s x = ap (λ (g : Graph). slice_get (out-Graph g).activities x.place) (sym more.graph ∙ ap (λ (u : Opened). u.graph) same) ∙ there in
          subst (λ (u : Opened). EndFollows b (changed t p f) q u x (ends_of u.ends x.place)) same
          (follows_alike b (changed t p f) changed_alike p q (spelt p q e) (f s) x (ends_of (f s).ends x.place) (ends x there_before))
      ends_at q r is x there false e =
          follows_more b t (changed t p f) changed_grow q r r (grows_none r) x (ends_of r.ends x.place) (sound.ends q r (sym (elsewhere q e) ∙ is) x there)

      output_at : (q : Path) (r : Opened) (out : Container) → changed t p f q ≡ Some r → r.output ≡ Some out → (k : Bool) → same_path p q ≡ k → scope_gives r ≡ Some out
      output_at q r out is given true e =
          let same = same_Some (f s) r (sym (at_path q e) ∙ is) in
          ap scope_gives (sym same) ∙ output out (ap (λ (u : Opened). u.output) same ∙ given)
      output_at q r out is given false e = sound.output q r out (sym (elsewhere q e) ∙ is) given

placed_same : (x y : Placed) → x.place ≡ y.place → x.activity ≡ y.activity → x ≡ y
placed_same x y places activities =
    ap (λ (a : ℕ). let u : Placed = record { place = a; activity = x.activity } in u) places
    ∙ ap (λ (v : Activity). let u : Placed = record { place = y.place; activity = v } in u) activities

-- one more activity has ended
module _ (b : Basis) (t : Told) (sound : IsSound b t) (p : Path) (s : Opened) (told : t p ≡ Some s) (truth : Bool) (name : Name) (x : Placed) (joined : joined_at truth name s ≡ Some x)
    (e : SourceEnd) (settled : is_settled e ≡ true) (follows : EndFollows b t p s x e) where
  there : StandsIn s x
  there = stands s.graph name x (joined_parts truth name s x joined).0

  end_grows : Grows s (with_end x.place e s)
  end_grows = record {
    graph = refl;
    input = refl;
    long = length-set s.ends x.place e;
    ends = record { kept = λ c known. at c known (set_cases s.ends x.place c e) };
    output = λ out is. is;
  }
    where
      at : (c : ℕ) → is_settled (ends_of s.ends c) ≡ true → ((c ≡ x.place) × (ends_of (slice_set s.ends x.place e) c ≡ e)) ⊎ (ends_of (slice_set s.ends x.place e) c ≡ ends_of s.ends c)
          → ends_of (slice_set s.ends x.place e) c ≡ ends_of s.ends c
      at c known (inl h) =
          let at_c = ap (ends_of s.ends) h.0 in
          h.1 ∙ follows_one b t p s x e (ends_of s.ends x.place) follows (sound.ends p s told x there) settled (ap is_settled (sym at_c) ∙ known) ∙ sym at_c
      at c known (inr h) = h

  end_grow : AllGrow t (changed t p (with_end x.place e))
  end_grow = changed_grow b t sound p s told (with_end x.place e) end_grows

  end_sound : IsSound b (changed t p (with_end x.place e))
  end_sound =
      changed_sound b t sound p s told (with_end x.place e) end_grows
      (λ y is. at y is (set_cases s.ends x.place y.place e))
      (λ out is. gives_more s (with_end x.place e s) end_grows out (sound.output p s out told is))
    where
      later : (y : Placed) (d : SourceEnd) → EndFollows b t p s y d → EndFollows b (changed t p (with_end x.place e)) p (with_end x.place e s) y d
      later y d h = follows_more b t (changed t p (with_end x.place e)) end_grow p s (with_end x.place e s) end_grows y d h

      at : (y : Placed) → StandsIn s y → ((y.place ≡ x.place) × (ends_of (slice_set s.ends x.place e) y.place ≡ e)) ⊎ (ends_of (slice_set s.ends x.place e) y.place ≡ ends_of s.ends y.place)
          → EndFollows b (changed t p (with_end x.place e)) p (with_end x.place e s) y (ends_of (slice_set s.ends x.place e) y.place)
      at y is (inl h) =
          let activities = same_Some y.activity x.activity (sym is ∙ ap (slice_get (out-Graph s.graph).activities) h.0 ∙ there) in
          let same = placed_same x y (sym h.0) (sym activities) in
          subst (EndFollows b (changed t p (with_end x.place e)) p (with_end x.place e s) y) (sym h.1)
          (subst (λ (z : Placed). EndFollows b (changed t p (with_end x.place e)) p (with_end x.place e s) z e) same (later x e follows))
      at y is (inr h) =
          subst (EndFollows b (changed t p (with_end x.place e)) p (with_end x.place e s) y) (sym h)
          (later y (ends_of s.ends y.place) (sound.ends p s told y is))

  end_stands : EndStands (changed t p (with_end x.place e)) p name truth e x
  end_stands = record {
    scope = with_end x.place e s;
    told = at_path b t sound p s told (with_end x.place e) end_grows p (itself p);
    joined = joined_more s (with_end x.place e s) end_grows truth name x joined;
    kept = ends_stay (with_end x.place e s) (slice_set (slice_set s.ends x.place e) x.place e) (set_twice s.ends x.place e);
  }

-- a scope has ended
module _ (b : Basis) (t : Told) (sound : IsSound b t) (p : Path) (s : Opened) (told : t p ≡ Some s) (out : Container) (gives : scope_gives s ≡ Some out) where
  output_grows : Grows s (with_output out s)
  output_grows = record {
    graph = refl;
    input = refl;
    long = refl;
    ends = record { kept = λ a known. refl };
    output = λ o is. sym gives ∙ sound.output p s o told is;
  }

  output_grow : AllGrow t (changed t p (with_output out))
  output_grow = changed_grow b t sound p s told (with_output out) output_grows

  output_sound : IsSound b (changed t p (with_output out))
  output_sound =
      changed_sound b t sound p s told (with_output out) output_grows
      (λ x is. follows_more b t (changed t p (with_output out)) output_grow p s (with_output out s) output_grows x (ends_of s.ends x.place) (sound.ends p s told x is))
      (λ o is. gives ∙ is)

  output_stands : (length p.parts == 0) ≡ false → EndedStands (changed t p (with_output out)) p
  output_stands inside = record {
    inside = inside;
    scope = with_output out s;
    out = out;
    told = at_path b t sound p s told (with_output out) output_grows p (itself p);
    gives = gives;
    kept = refl;
  }

-- a scope as it begins
record IsFresh (s : Opened) : Type 0 where
  ends : (a : ℕ) → ends_of s.ends a ≡ end.Unsettled
  output : s.output ≡ None

fresh_opened : (g : Graph) (input : Container) → IsFresh (opened g input)
fresh_opened g input = record { ends = none_settled (length (out-Graph g).activities); output = refl }

fresh_begins : (b : Basis) (t : Told) (p : Path) (o : Option Part) → IfSome (begins_as b t p o) IsFresh
fresh_begins b t p None = map_if IsFresh (λ g. opened g b.input) (root_graph b) (λ g is. fresh_opened g b.input)
fresh_begins b t p (Some q) =
    and_then_if IsFresh (λ s. option_and_then (start b.templates t p q s) (activity_at s.graph q.name)) (t p)
    (λ s is. and_then_if IsFresh (start b.templates t p q s) (activity_at s.graph q.name)
    (λ x named. cond_if IsFresh (is_active s x) (attempt_start b.templates t p q s x) None (attempt s x) tt))
  where
    after : (s : Opened) (x : Placed) (last : Opened) → IfSome (next_start s x last) IsFresh
    after s x last =
        and_then_if IsFresh (start_after s x last) last.output
        (λ out is. cond_if IsFresh (holds x.activity.exit out) None (Some (opened last.graph (looped (out-Graph s.graph).loops x.place out (first_input s x)))) tt (fresh_opened last.graph _))

    attempt : (s : Opened) (x : Placed) → IfSome (attempt_start b.templates t p q s x) IsFresh
    attempt s x =
        cond_if IsFresh (q.attempt == 0) None (cond (q.attempt == 1) (first_start b.templates s x) (option_and_then (next_start s x) (t (below p (part q.name (q.attempt - 1)))))) tt
        (cond_if IsFresh (q.attempt == 1) (first_start b.templates s x) (option_and_then (next_start s x) (t (below p (part q.name (q.attempt - 1)))))
        (map_if IsFresh (λ g. opened g (first_input s x)) (graph_in b.templates x.activity.work) (λ g is. fresh_opened g (first_input s x)))
        (and_then_if IsFresh (next_start s x) (t (below p (part q.name (q.attempt - 1)))) (λ last there. after s x last)))

module _ (b : Basis) (t : Told) (sound : IsSound b t) (p : Path) (r : Opened) (is_begun : begins b t p ≡ Some r) where
  fresh : IsFresh r
  fresh = at_some IsFresh (begins b t p) r is_begun (fresh_begins b t (outer p) (last_part p))

  begun_grow : AllGrow t (beginning t p r)
  begun_grow q s is = record { scope = s; told = at (same_path p q) refl; grows = grows_none s }
    where
      at : (k : Bool) → same_path p q ≡ k → beginning t p r q ≡ Some s
      at true e = cond-true (same_path p q) (option_or (t q) (Some r)) (t q) e ∙ ap (λ (o : Option Opened). option_or o (Some r)) is
      at false e = cond-false (same_path p q) (option_or (t q) (Some r)) (t q) e ∙ is

  -- what is told was told before, or is of the scope that begins
  either : (q : Path) (s : Opened) → beginning t p r q ≡ Some s → (t q ≡ Some s) ⊎ (r ≡ s)
  either q s is = at (same_path p q) refl
    where
      of : (o : Option Opened) → option_or o (Some r) ≡ Some s → (o ≡ Some s) ⊎ (r ≡ s)
      of None h = inr (same_Some r s h)
      of (Some old) h = inl h

      at : (k : Bool) → same_path p q ≡ k → (t q ≡ Some s) ⊎ (r ≡ s)
      at true e = of (t q) (sym (cond-true (same_path p q) (option_or (t q) (Some r)) (t q) e) ∙ is)
      at false e = inl (sym (cond-false (same_path p q) (option_or (t q) (Some r)) (t q) e) ∙ is)

  begun_sound : IsSound b (beginning t p r)
  begun_sound = record {
    alike = λ q s e.
        ap (λ (l : List ℕ). cond (bytes_eq (spelling p) l) (option_or (t q) (Some r)) (t q)) e
        ∙ ap (λ (o : Option Opened). cond (same_path p s) (option_or o (Some r)) o) (sound.alike q s e);
    ends = λ q s is x there. ⊎_elim
        (λ before. follows_more b t (beginning t p r) begun_grow q s s (grows_none s) x (ends_of s.ends x.place) (sound.ends q s before x there))
        (λ same. subst (EndFollows b (beginning t p r) q s x) (sym (fresh.ends x.place) ∙ ap (λ (u : Opened). ends_of u.ends x.place) same) tt)
        (either q s is);
    output = λ q s out is given. ⊎_elim
        (λ before. sound.output q s out before given)
        (λ same. absurd (none-some out (sym fresh.output ∙ ap (λ (u : Opened). u.output) same ∙ given)))
        (either q s is);
  }

  begun_stands : BegunStands b (beginning t p r) p
  begun_stands = at (t p) refl
    where
      here : (o : Option Opened) → t p ≡ o → beginning t p r p ≡ option_or o (Some r)
      here o is = cond-true (same_path p p) (option_or (t p) (Some r)) (t p) (itself p) ∙ ap (λ (v : Option Opened). option_or v (Some r)) is

      again : is_some (begins b (beginning t p r) p) ≡ true
      again = begins_more b t (beginning t p r) begun_grow p r is_begun

      at : (o : Option Opened) → t p ≡ o → BegunStands b (beginning t p r) p
      at None is = record { scope = r; told = here None is; begins = again }
      at (Some s) is = record { scope = s; told = here (Some s) is; begins = again }

-- ---- any line

module _ (b : Basis) (t : Told) (sound : IsSound b t) where
  after_scope : (p : Path) (t' : Told) → next b t (Scope p) ≡ Some t' → After b t (Scope p) t'
  after_scope p t' h =
      let begun = map_parts (beginning t p) (begins b t p) t' h in
      subst (After b t (Scope p)) begun.2 (record {
        grow = begun_grow b t sound p begun.0 begun.1;
        sound = begun_sound b t sound p begun.0 begun.1;
        line_stands = begun_stands b t sound p begun.0 begun.1;
      })

  after_dead : (p : Path) (name : Name) (t' : Told) → next b t (Dead p name) ≡ Some t' → After b t (Dead p name) t'
  after_dead p name t' h =
      let found = map_parts (λ x. changed t p (with_end x.place end.Dead)) (option_and_then (joined_at false name) (t p)) t' h in
      let scope = and_then_parts (joined_at false name) (t p) found.0 found.1 in
      let join = (joined_parts false name scope.0 found.0 scope.2).1 in
      subst (After b t (Dead p name)) found.2 (record {
        grow = end_grow b t sound p scope.0 scope.1 false name found.0 scope.2 end.Dead refl join;
        sound = end_sound b t sound p scope.0 scope.1 false name found.0 scope.2 end.Dead refl join;
        line_stands = record { activity = found.0; here = end_stands b t sound p scope.0 scope.1 false name found.0 scope.2 end.Dead refl join };
      })

  after_finished : (p : Path) (name : Name) (n : ℕ) (t' : Told) → next b t (Finished p name n) ≡ Some t' → After b t (Finished p name n) t'
  after_finished p name n t' h =
      let found = and_then_parts (λ x. option_map (λ out. changed t p (with_end x.place (end.Finished out))) (final_at b t p n x)) (option_and_then (joined_at true name) (t p)) t' h in
      let scope = and_then_parts (joined_at true name) (t p) found.0 found.1 in
      let join = (joined_parts true name scope.0 found.0 scope.2).1 in
      let last = map_parts (λ out. changed t p (with_end found.0.place (end.Finished out))) (final_at b t p n found.0) t' found.2 in
      let follows : EndFollows b t p scope.0 found.0 (end.Finished last.0) = (n, join, last.1) in
      let stands_here = end_stands b t sound p scope.0 scope.1 true name found.0 scope.2 (end.Finished last.0) refl follows in
      let grow = end_grow b t sound p scope.0 scope.1 true name found.0 scope.2 (end.Finished last.0) refl follows in
      subst (After b t (Finished p name n)) last.2 (record {
        grow = grow;
        sound = end_sound b t sound p scope.0 scope.1 true name found.0 scope.2 (end.Finished last.0) refl follows;
        line_stands = record {
          activity = found.0;
          out = last.0;
          here = stands_here;
          last = final_at_more b t (changed t p (with_end found.0.place (end.Finished last.0))) grow p n found.0 last.0 last.1;
        };
      })

  after_ended : (p : Path) (t' : Told) → next b t (Ended p) ≡ Some t' → After b t (Ended p) t'
  after_ended p t' h =
      let inside = not_if_parts (length p.parts == 0) (option_map (λ out. changed t p (with_output out)) (option_and_then scope_gives (t p))) t' h in
      let found = map_parts (λ out. changed t p (with_output out)) (option_and_then scope_gives (t p)) t' inside.1 in
      let scope = and_then_parts scope_gives (t p) found.0 found.1 in
      subst (After b t (Ended p)) found.2 (record {
        grow = output_grow b t sound p scope.0 scope.1 found.0 scope.2;
        sound = output_sound b t sound p scope.0 scope.1 found.0 scope.2;
        line_stands = output_stands b t sound p scope.0 scope.1 found.0 scope.2 inside.0;
      })

  after_next : (line : CertLine) (t' : Told) → next b t line ≡ Some t' → After b t line t'
  after_next (Scope p) t' h = after_scope p t' h
  after_next (Dead p name) t' h = after_dead p name t' h
  after_next (Finished p name n) t' h = after_finished p name n t' h
  after_next (Ended p) t' h = after_ended p t' h

-- a line of this root, which stands
pub record IsAgain (b : Basis) (t : Told) (line : CertLine) : Type 0 where
  pub own : ((line_scope line).root == b.root) ≡ true
  pub line_stands : Stands b t line

pub again_more : (b : Basis) (t t' : Told) → AllGrow t t' → (line : CertLine) → IsAgain b t line → IsAgain b t' line
again_more b t t' grow line h = record { own = h.own; line_stands = stands_more b t t' grow line h.line_stands }

-- it is taken again, and tells nothing more
pub taken_again : (b : Basis) (t : Told) → IsSound b t → (line : CertLine) → IsAgain b t line → taken b t line ≡ Some t
taken_again b t sound line h = cond-true ((line_scope line).root == b.root) (next b t line) None h.own ∙ next_again b t sound.alike line h.line_stands

-- what is told after a line that is taken
pub record Taken (b : Basis) (t : Told) (line : CertLine) (t' : Told) : Type 0 where
  pub grow : AllGrow t t'
  pub sound : IsSound b t'
  pub again : IsAgain b t' line

pub taken_after : (b : Basis) (t : Told) → IsSound b t → (line : CertLine) (t' : Told) → taken b t line ≡ Some t' → Taken b t line t'
taken_after b t sound line t' h =
    let parts = if_parts ((line_scope line).root == b.root) (next b t line) t' h in
    let after = after_next b t sound line t' parts.1 in
    record { grow = after.grow; sound = after.sound; again = record { own = parts.0; line_stands = after.line_stands } }
