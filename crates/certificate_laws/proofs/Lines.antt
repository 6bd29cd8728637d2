-- Each line that is justified is right, and what is told after it is.
use Rattle.std.proofs.Common.{◌≡◌, ◌⊎◌, ℕ, zero, suc, ◌+◌, ◌-◌, ◌<◌, ◌≤◌, ◌==◌, Bool, true, false, not, ◌&&◌, if◌then◌else◌, List, [], ◌∷◌, ◌++◌, length, length-append, take, get_or, Option, Some, None, refl, sym, ap, subst, ◌∙◌, arith, inl, inr}
use Rattle.std.specs.Prelude.{option_map, option_and_then, is_some, unwrap_or, IfSome, slice_get, ◌^◌}
use Rattle.std.specs.List.{All, list_all}
use Rattle.std.proofs.lemmas.Bool.{false≢true}
use Rattle.std.proofs.lemmas.Bool.Decides.{eqb_tells}
use Rattle.std.proofs.lemmas.List.{take_more, take_all, length-replicate}
use Rattle.std.proofs.lemmas.List.Sums.{fold-append}
use Rattle.std.proofs.lemmas.List.Elements.{All-append, All-take}
use Rattle.std.proofs.lemmas.Option.{same_Some, none-some, slice_get_within, slice_get-get_or, get_or_from_slice_get, slice_get_cases}
use Rattle.flow_model.specs.declared.graphs.Container.{Container}
use Rattle.flow_model.specs.declared.graphs.Graph.{Graph, out-Graph}
use Rattle.flow_model.specs.declared.graphs.Template.{Template}
use Rattle.flow_model.specs.declared.graphs.Work.{Work, Program, Block, Process}
use Rattle.flow_model.specs.declared.instances.Fate.{Fate}
use Rattle.flow_model.specs.declared.instances.Fate.TheVariants as fate
use Rattle.flow_model.specs.declared.instances.Part.{Part}
use Rattle.flow_model.specs.declared.instances.Path.{Path}
use Rattle.flow_model.specs.declared.instances.SourceEnd.TheVariants as end
use Rattle.flow_model.specs.declared.names.Name.{Name}
use Rattle.flow_model.specs.Conditions.{holds}
use Rattle.flow_model.specs.Fates.{is_settled}
use Rattle.flow_model.specs.Paths.{IsStep}
use Rattle.flow_model.specs.Rows.{below, by_facts, output_of}
use Rattle.flow_model.specs.ScopeContainers.{graph_in, looped, up_to}
use Rattle.flow_model.specs.Scopes.{Known, at, part, gives, tries, output}
use Rattle.flow_model.specs.Words.{is_name}
use Rattle.fate_laws.specs.WellFormed.{Well}
use Rattle.fate_laws.proofs.Extends.{and_true}
use Rattle.certificates.specs.declared.lines.CertLine.{CertLine}
use Rattle.certificates.specs.declared.lines.CertLine.TheVariants.{Scope, Dead, Finished, Ended}
use Rattle.certificates.specs.Told.{Basis, Told, Opened, Placed, opened, with_end, with_output, beginning, changed, activity_at, join_in, joined_at, is_active, first_input, first_start, start_after, next_start, attempt_start, start, gave, goes_on, stops, final_at, scope_gives, last_part, outer, inner_begins, root_begins, root_graph, begins_as, begins, line_scope, next, taken}
use Rattle.certificates.specs.Justified.{told, AreJustified}
use Rattle.certificates.proofs.Laid.{map_if, and_then_if, cond_if, stands}
use Rattle.certificate_laws.specs.Standings.{Standing, fate_in, gives_in, base_in, trial_in, attempt_input, scope_in}
use Rattle.certificate_laws.specs.Right.{HasEnded, root_in, IsRead, IsLineRead, AreOwn}
use Rattle.certificate_laws.proofs.Chains.{first_attempt, next_attempt, all_tries, stops_gave, AreLast}
use Rattle.certificate_laws.proofs.Scopes.{standing_of, RightAt, RightScope, joined_parts, dead_fate, dead_end, finished_fate, finished_end, right_base}
use Rattle.certificate_laws.proofs.Spellings.{apart, accepted_is}
use Rattle.certificate_laws.proofs.Steps.{name_is, none_settled, opened_right, scope_gave}
use Rattle.certificate_laws.proofs.Told.{all_in, end_right, output_right, has_ended, RightTold, beginning_right, changed_right}

-- the activity of this name in the scope at this path has this fate
pub record HasFate (ts : List Template) (root : Standing) (path : List Part) (name : Name) (f : Fate) : Type 0 where
  pub scope : Standing
  pub activity : Placed
  pub there : scope_in ts root path ≡ Some scope
  pub named : activity_at scope.graph name ≡ Some activity
  pub fate : fate_in ts scope activity.place ≡ f

-- what the line says is so, of the scope at its path
abbrev pub IsRightThere : List Template → Standing → CertLine → Type 0
IsRightThere ts root (Scope p) = is_some (scope_in ts root p.parts) ≡ true
IsRightThere ts root (Dead p name) = HasFate ts root p.parts name fate.Dead
IsRightThere ts root (Finished p name n) = HasFate ts root p.parts name (fate.Finished n)
IsRightThere ts root (Ended p) = HasEnded ts root p.parts

-- ---- options

pub and_then_parts : {X Y : Type 0} (f : X → Option Y) (o : Option X) (y : Y) → option_and_then f o ≡ Some y → (x : X) × (o ≡ Some x) × (f x ≡ Some y)
and_then_parts f None y h = absurd (none-some y h)
and_then_parts f (Some x) y h = (x, refl, h)

pub map_parts : {X Y : Type 0} (f : X → Y) (o : Option X) (y : Y) → option_map f o ≡ Some y → (x : X) × (o ≡ Some x) × (f x ≡ y)
map_parts f None y h = absurd (none-some y h)
map_parts f (Some x) y h = (x, refl, same_Some (f x) y h)

pub if_parts : {X : Type 0} (b : Bool) (o : Option X) (x : X) → (if b then o else None) ≡ Some x → (b ≡ true) × (o ≡ Some x)
if_parts true o x h = (refl, h)
if_parts false o x h = absurd (none-some x h)

pub not_if_parts : {X : Type 0} (b : Bool) (o : Option X) (x : X) → (if b then None else o) ≡ Some x → (b ≡ false) × (o ≡ Some x)
not_if_parts true o x h = absurd (none-some x h)
not_if_parts false o x h = (refl, h)

pub differ : (a b : ℕ) → (a == b) ≡ false → a ≡ b → ⊥
differ a b h e = elim (eqb_tells a b) [ inl is ↦ false≢true (sym h ∙ is.0) | inr other ↦ other.1 e ]

pub same : (a b : ℕ) → (a == b) ≡ true → a ≡ b
same a b h = elim (eqb_tells a b) [ inl is ↦ is.1 | inr other ↦ absurd (false≢true (sym other.0 ∙ h)) ]

-- ---- paths that are read

module _ (most : ℕ) where
  pub outer_read : (p : Path) → IsRead most p → IsRead most (outer p)
  outer_read p read = record {
    path = record { counted = read.path.counted; small = read.path.small; steps = All-take IsStep (length p.parts - 1) p.parts read.path.steps };
    few = All-take (λ (q : Part). q.attempt ≤ most) (length p.parts - 1) p.parts read.few;
  }

  one_of : {X : Type 0} (P : X → Type 0) (x : X) → P x → All P (x ∷ [])
  one_of P x is zero d less = is
  one_of P x is (suc k) d less = absurd (omega arith)

  pub below_read : (p : Path) (name : Name) (j : ℕ) → most < 2 ^ 64 → IsRead most p → is_name name ≡ true → 1 ≤ j → j ≤ most → IsRead most (below p (part name j))
  below_read p name j bounded read named pos le = record {
    path = record {
      counted = read.path.counted;
      small = read.path.small;
      steps = All-append IsStep p.parts (part name j ∷ []) read.path.steps (one_of IsStep (part name j) (record { named = named; counted = pos; small = omega (arith, le, bounded) }));
    };
    few = All-append (λ (q : Part). q.attempt ≤ most) p.parts (part name j ∷ []) read.few (one_of (λ (q : Part). q.attempt ≤ most) (part name j) le);
  }

  part_in : (p : Path) (q : Part) → last_part p ≡ Some q → q ≡ get_or p.parts (length p.parts - 1) q
  part_in p q is = sym (get_or_from_slice_get p.parts (length p.parts - 1) q q is)

  pub last_read : (p : Path) (q : Part) → IsRead most p → last_part p ≡ Some q → IsStep q × (q.attempt ≤ most)
  last_read p q read is =
      let less = slice_get_within p.parts (length p.parts - 1) q is in
      let e = sym (part_in p q is) in
      (subst IsStep e (read.path.steps (length p.parts - 1) q less), subst (λ (r : Part). r.attempt ≤ most) e (read.few (length p.parts - 1) q less))

-- a path is its last step below the path before it
pub path_parts : (p : Path) (q : Part) → last_part p ≡ Some q → (outer p).parts ++ q ∷ [] ≡ p.parts
path_parts p q is =
    let n : ℕ = length p.parts - 1 in
    let less : length p.parts - 1 < length p.parts = slice_get_within p.parts (length p.parts - 1) q is in
    ap (λ (r : Part). take (length p.parts - 1) p.parts ++ r ∷ []) (sym (get_or_from_slice_get p.parts (length p.parts - 1) q q is))
    ∙ sym (take_more p.parts (length p.parts - 1) q less)
    ∙ take_all ((length p.parts - 1) + 1) p.parts (omega arith)

pub path_is : (p : Path) (q : Part) → last_part p ≡ Some q → below (outer p) q ≡ p
path_is p q is = ap (λ (l : List Part). let r : Path = record { root = p.root; parts = l } in r) (path_parts p q is)

pub no_parts : (p : Path) → last_part p ≡ None → p.parts ≡ []
no_parts p is = go p.parts is
  where
    go : (l : List Part) → slice_get l (length l - 1) ≡ None → l ≡ []
    go [] h = refl
    go (q ∷ l) h = absurd (none-some (get_or (q ∷ l) (length (q ∷ l) - 1) q) (sym h ∙ slice_get-get_or (q ∷ l) (length (q ∷ l) - 1) q (omega arith)))

-- ---- one line

module _ (b : Basis) (g : Graph) (total most : ℕ) (bounded : most < 2 ^ 64) (runs_root : root_graph b ≡ Some g) (well : Well b.templates total g) (own : AreOwn most b.root b.facts) where
  abbrev ts : List Template
  ts = b.templates

  abbrev root : Standing
  root = root_in b g total most

  abbrev RightHere : Path → Opened → Type 0
  RightHere p s = RightScope b.templates (root_in b g total most) b.facts most total p s

  abbrev pub Told_right : Told → Type 0
  Told_right t = RightTold b.templates (root_in b g total most) b.facts most total (apart most bounded) t

  -- what is told after a line is right, and so is the line
  pub record Good (line : CertLine) (t : Told) : Type 0 where
    pub told : Told_right t
    pub line_right : IsRightThere b.templates (root_in b g total most) line

  module _ (t : Told) (told : Told_right t) (p : Path) (read : IsRead most p) where
    -- the activity of a name whose join is told, with its scope
    pub record Joined (truth : Bool) (name : Name) (x : Placed) : Type 0 where
      pub scope : Opened
      pub at : t p ≡ Some scope
      pub right : RightHere p scope
      pub named : activity_at scope.graph name ≡ Some x
      pub join : join_in scope x ≡ Some truth

    joined_of : (truth : Bool) (name : Name) (x : Placed) → option_and_then (joined_at truth name) (t p) ≡ Some x → Joined truth name x
    joined_of truth name x is =
        let parts = and_then_parts (joined_at truth name) (t p) x is in
        let found = joined_parts truth name parts.0 x parts.2 in
        record { scope = parts.0; at = parts.1; right = told p parts.0 read parts.1; named = found.0; join = found.1 }

    dead_line : (name : Name) → IfSome (next b t (Dead p name)) (Good (Dead p name))
    dead_line name =
        map_if (Good (Dead p name)) (λ (x : Placed). changed t p (with_end x.place end.Dead)) (option_and_then (joined_at false name) (t p)) (λ x is. good x (joined_of false name x is))
      where
        good : (x : Placed) → Joined false name x → Good (Dead p name) (changed t p (with_end x.place end.Dead))
        good x j =
            let at_ = stands j.scope.graph name x j.named in
            let r = j.right.right in
            record {
              told = changed_right b.templates (root_in b g total most) b.facts most total (apart most bounded) t p (with_end x.place end.Dead) read told
                  (λ s here. subst (λ u. RightHere p (with_end x.place end.Dead u)) (same_Some j.scope s (sym j.at ∙ here))
                  (end_right b.templates (root_in b g total most) b.facts most total p j.scope j.right.depth j.right.base r x.place end.Dead
                  (dead_end b.templates j.right.depth j.right.base j.scope r.well r.ends x at_ j.join)));
              line_right = record {
                scope = standing_of j.right.depth j.right.base j.scope;
                activity = x;
                there = r.there;
                named = j.named;
                fate = dead_fate b.templates j.right.depth j.right.base j.scope r.well r.ends x at_ j.join;
              };
            }

    -- ---- a finished activity

    module _ (own_root : p.root ≡ b.root) (name : Name) (is_named : is_name name ≡ true) (n : ℕ) (few : n ≤ most) (x : Placed) (j : Joined true name x) (out : Container) (ends : final_at b t p n x ≡ Some out) where
      abbrev st : Standing
      st = standing_of j.right.depth j.right.base j.scope

      name_same : x.activity.name ≡ name
      name_same = name_is j.scope.graph name x j.named

      abbrev given_at : ℕ → Option Container
      given_at i = gave b t p x.activity.name x.activity.work i

      -- what an attempt is told to have given, it gave
      scope_given : (i : ℕ) (k o : Container) → 1 ≤ i → i ≤ n → attempt_input (suc j.right.base.most) (gives_in ts st x) (trial_in ts st x) 1 (base_in ts st x) i ≡ Some k
          → option_and_then (λ (s : Opened). s.output) (t (below p (part x.activity.name i))) ≡ Some o → gives_in ts st x i k ≡ Some o
      scope_given i k o pos le input given =
          let parts = and_then_parts (λ (s : Opened). s.output) (t (below p (part x.activity.name i))) o given in
          let inner = told (below p (part x.activity.name i)) parts.0 (below_read most p x.activity.name i bounded read (ap is_name name_same ∙ is_named) pos (omega arith)) parts.1 in
          let h = scope_gave b.templates (root_in b g total most) b.facts most total p j.scope j.right.base x.activity.name i x (ap (activity_at j.scope.graph) name_same ∙ j.named)
          parts.0 inner.depth inner.base inner.right o parts.2 j.right.depth j.right.right in
          let same_input : k ≡ parts.0.input = same_Some k parts.0.input (sym input ∙ h.input) in
          ap (gives_in ts st x i) same_input ∙ h.gave

      attempt_gave : (w : Work) → x.activity.work ≡ w → (i : ℕ) (k o : Container) → 1 ≤ i → i ≤ n
          → attempt_input (suc j.right.base.most) (gives_in ts st x) (trial_in ts st x) 1 (base_in ts st x) i ≡ Some k → gave b t p x.activity.name w i ≡ Some o → gives_in ts st x i k ≡ Some o
      attempt_gave (Program y) is i k o pos le input given =
          ap (λ (w : Work). gives ts st.known (output ts st.depth) x.activity.name w i k) is
          ∙ j.right.right.given (part x.activity.name i ∷ [])
          ∙ sym (accepted_is most bounded b.root (below p (part x.activity.name i)) (below_read most p x.activity.name i bounded read (ap is_name name_same ∙ is_named) pos (omega arith)) own_root b.facts own)
          ∙ given
      attempt_gave (Block h) is i k o pos le input given = scope_given i k o pos le input given
      attempt_gave (Process y) is i k o pos le input given = scope_given i k o pos le input given

      parts_of : ((n ≡ 0) → ⊥) × (list_all (λ i. goes_on x.activity.exit (given_at i)) (up_to (n - 1) 1) ≡ true) × (stops x.activity.exit (given_at n) ≡ Some out)
      parts_of =
          let all = if_parts (not (n == 0) && list_all (λ i. goes_on x.activity.exit (given_at i)) (up_to (n - 1) 1)) (stops x.activity.exit (given_at n)) out ends in
          let both = and_true (not (n == 0)) _ all.0 in
          (differ n 0 (not_true (n == 0) both.0), both.1, all.1)
        where
          not_true : (c : Bool) → not c ≡ true → c ≡ false
          not_true true h = absurd (false≢true h)
          not_true false h = refl

      pos_n : 1 ≤ n
      pos_n = let nz = parts_of.0 in at_least n nz
        where
          at_least : (m : ℕ) → (m ≡ 0 → ⊥) → 1 ≤ m
          at_least zero nz = absurd (nz refl)
          at_least (suc m) nz = omega arith

      last_here : AreLast (tries j.right.base.most (gives_in ts st x) (trial_in ts st x) 1 (base_in ts st x)) n out
      last_here =
          all_tries (gives_in ts st x) (trial_in ts st x) given_at j.right.base.most n (base_in ts st x) out (let e = j.right.right.bound in omega (arith, e, few))
          (λ i pos less. all_in (λ l. goes_on x.activity.exit (given_at l)) (n - 1) 1 i parts_of.1 pos (omega arith)) parts_of.2
          (λ i k o pos le input given. attempt_gave x.activity.work refl i k o pos le input given) pos_n

      stop_out : holds x.activity.exit out ≡ true
      stop_out = (stops_gave x.activity.exit (given_at n) out parts_of.2).1

      finished_good : Good (Finished p name n) (changed t p (with_end x.place (end.Finished out)))
      finished_good =
          let at_ = stands j.scope.graph name x j.named in
          let r = j.right.right in
          record {
            told = changed_right b.templates (root_in b g total most) b.facts most total (apart most bounded) t p (with_end x.place (end.Finished out)) read told
                (λ s here. subst (λ u. RightHere p (with_end x.place (end.Finished out) u)) (same_Some j.scope s (sym j.at ∙ here))
                (end_right b.templates (root_in b g total most) b.facts most total p j.scope j.right.depth j.right.base r x.place (end.Finished out)
                (finished_end b.templates j.right.depth j.right.base j.scope r.well r.ends x at_ n out last_here.counted (last_here.last None) stop_out j.join)));
            line_right = record {
              scope = standing_of j.right.depth j.right.base j.scope;
              activity = x;
              there = r.there;
              named = j.named;
              fate = finished_fate b.templates j.right.depth j.right.base j.scope r.well r.ends x at_ n out last_here.counted (last_here.last None) stop_out j.join;
            };
          }

    finished_line : p.root ≡ b.root → (name : Name) → is_name name ≡ true → (n : ℕ) → n ≤ most → IfSome (next b t (Finished p name n)) (Good (Finished p name n))
    finished_line own_root name is_named n few =
        and_then_if (Good (Finished p name n)) (λ (x : Placed). option_map (λ (out : Container). changed t p (with_end x.place (end.Finished out))) (final_at b t p n x)) (option_and_then (joined_at true name) (t p))
        (λ x is. map_if (Good (Finished p name n)) (λ (out : Container). changed t p (with_end x.place (end.Finished out))) (final_at b t p n x)
        (λ out ends. finished_good own_root name is_named n few x (joined_of true name x is) out ends))

    -- ---- a scope that has ended

    ended_line : IfSome (next b t (Ended p)) (Good (Ended p))
    ended_line =
        cond_if (Good (Ended p)) (length p.parts == 0) None (option_map (λ (out : Container). changed t p (with_output out)) (option_and_then scope_gives (t p))) tt
        (map_if (Good (Ended p)) (λ (out : Container). changed t p (with_output out)) (option_and_then scope_gives (t p)) (λ out is. good out (and_then_parts scope_gives (t p) out is)))
      where
        good : (out : Container) → ((s : Opened) × (t p ≡ Some s) × (scope_gives s ≡ Some out)) → Good (Ended p) (changed t p (with_output out))
        good out parts =
            let r = told p parts.0 read parts.1 in
            record {
              told = changed_right b.templates (root_in b g total most) b.facts most total (apart most bounded) t p (with_output out) read told
                  (λ s here. subst (λ u. RightHere p (with_output out u)) (same_Some parts.0 s (sym parts.1 ∙ here))
                  (output_right b.templates (root_in b g total most) b.facts most total p parts.0 r.depth r.base r.right out parts.2));
              line_right = has_ended b.templates (root_in b g total most) b.facts most total p parts.0 r.depth r.base r.right out parts.2;
            }

    -- ---- a scope that begins

    empty_right : p.parts ≡ [] → RightHere p (opened g b.input)
    empty_right empty = record {
      depth = total;
      base = by_facts most b.facts;
      right = record {
        there = ap (scope_in b.templates (root_in b g total most)) empty;
        deep = let none = ap (λ (l : List Part). length l) empty in omega (arith, none);
        well = well;
        bound = refl;
        given = λ r. ap (λ (l : List Part). output_of b.facts (l ++ r)) (sym empty);
        long = length-replicate (length (out-Graph g).activities) end.Unsettled;
        ends = record { kept = λ a settled. absurd (false≢true (ap is_settled (sym (none_settled (length (out-Graph g).activities) a)) ∙ settled)) };
        output = λ out gave_. absurd (none-some out gave_);
      };
    }

    root_right : (s : Opened) → last_part p ≡ None → root_begins b ≡ Some s → RightHere p s
    root_right s none is =
        let parts = map_parts (λ (h : Graph). opened h b.input) (root_graph b) s is in
        let graphs : g ≡ parts.0 = same_Some g parts.0 (sym runs_root ∙ parts.1) in
        subst (λ u. RightHere p u) (ap (λ (h : Graph). opened h b.input) graphs ∙ parts.2) (empty_right (no_parts p none))

    module _ (deep : length p.parts ≤ total) (q : Part) (last_q : last_part p ≡ Some q) (s so : Opened) (x : Placed) (named : activity_at so.graph q.name ≡ Some x) (active : is_active so x ≡ true)
        (d : ℕ) (base : Known) (right : RightAt b.templates (root_in b g total most) b.facts most total (outer p) so (suc d) base) where
      abbrev there_ : Standing
      there_ = standing_of (suc d) base so

      begun_right : (h : Graph) (i : Container) → graph_in ts x.activity.work ≡ Some h
          → attempt_input (suc base.most) (gives_in ts there_ x) (trial_in ts there_ x) 1 (base_in ts there_ x) q.attempt ≡ Some i → opened h i ≡ s → RightHere p s
      begun_right h i runs input is =
          subst (λ (r : Path). RightHere r s) (path_is p q last_q)
          (subst (λ u. RightHere (below (outer p) q) u) is
          (record { depth = d; base = at q base; right = opened_right b.templates (root_in b g total most) b.facts most total (outer p) so d base right q x named h i runs active input }))

      base_same : base_in ts there_ x ≡ first_input so x
      base_same = right_base b.templates (suc d) base so right.well right.ends x active

      first_right : (q.attempt == 1) ≡ true → first_start b.templates so x ≡ Some s → RightHere p s
      first_right one is =
          let parts = map_parts (λ (h : Graph). opened h (first_input so x)) (graph_in b.templates x.activity.work) s is in
          begun_right parts.0 (first_input so x) parts.1
          (first_attempt base.most (gives_in ts there_ x) (trial_in ts there_ x) 1 q.attempt (base_in ts there_ x) (sym (same q.attempt 1 one)) ∙ ap Some base_same) parts.2

      later_right : (q.attempt == 0) ≡ false → (q.attempt == 1) ≡ false → option_and_then (next_start so x) (t (below (outer p) (part q.name (q.attempt - 1)))) ≡ Some s → RightHere p s
      later_right nz no_one is =
          let a = and_then_parts (next_start so x) (t (below (outer p) (part q.name (q.attempt - 1)))) s is in
          let c = and_then_parts (start_after so x a.0) a.0.output s a.2 in
          let e = not_if_parts (holds x.activity.exit c.0) (Some (opened a.0.graph (looped (out-Graph so.graph).loops x.place c.0 (first_input so x)))) s c.2 in
          let known = last_read most p q read last_q in
          let n0 = differ q.attempt 0 nz in
          let n1 = differ q.attempt 1 no_one in
          let pos : 1 ≤ q.attempt - 1 = at_least q.attempt n0 n1 in
          let le : q.attempt - 1 ≤ most = omega (arith, known.1) in
          let inner = told (below (outer p) (part q.name (q.attempt - 1))) a.0 (below_read most (outer p) q.name (q.attempt - 1) bounded (outer_read most p read) known.0.named pos le) a.1 in
          let h = scope_gave b.templates (root_in b g total most) b.facts most total (outer p) so base q.name (q.attempt - 1) x named a.0 inner.depth inner.base inner.right c.0 c.1 (suc d) right in
          let bound = right.bound in
          let known_le = known.1 in
          let follows = next_attempt (gives_in ts there_ x) (trial_in ts there_ x) (suc base.most) 1 (q.attempt - 1) (base_in ts there_ x) a.0.input c.0 pos (omega (arith, pos, known_le, bound)) h.input h.gave e.0 in
          let again : (q.attempt - 1) + 1 ≡ q.attempt = omega (arith, pos) in
          begun_right a.0.graph (looped (out-Graph so.graph).loops x.place c.0 (first_input so x)) h.runs
          (ap (λ (m : ℕ). attempt_input (suc base.most) (gives_in ts there_ x) (trial_in ts there_ x) 1 (base_in ts there_ x) m) (sym again) ∙ follows
          ∙ ap (λ (i : Container). Some (looped (out-Graph so.graph).loops x.place c.0 i)) base_same)
          (same_Some _ s e.1)
        where
          at_least : (m : ℕ) → (m ≡ 0 → ⊥) → (m ≡ 1 → ⊥) → 1 ≤ m - 1
          at_least m n0 n1 = omega (arith, n0, n1)

      attempt_right : attempt_start b.templates t (outer p) q so x ≡ Some s → RightHere p s
      attempt_right is =
          let e = not_if_parts (q.attempt == 0) (if q.attempt == 1 then first_start b.templates so x else option_and_then (next_start so x) (t (below (outer p) (part q.name (q.attempt - 1))))) s is in
          go (q.attempt == 1) refl e.0 e.1
        where
          go : (c : Bool) → (q.attempt == 1) ≡ c → (q.attempt == 0) ≡ false
              → (if c then first_start b.templates so x else option_and_then (next_start so x) (t (below (outer p) (part q.name (q.attempt - 1))))) ≡ Some s → RightHere p s
          go true one nz h = first_right one h
          go false no_one nz h = later_right nz no_one h

    inner_right : length p.parts ≤ total → (q : Part) → last_part p ≡ Some q → (s : Opened) → inner_begins b t (outer p) q ≡ Some s → RightHere p s
    inner_right deep q last_q s is =
        let a = and_then_parts (λ (so : Opened). option_and_then (start b.templates t (outer p) q so) (activity_at so.graph q.name)) (t (outer p)) s is in
        let c = and_then_parts (start b.templates t (outer p) q a.0) (activity_at a.0.graph q.name) s a.2 in
        let e = if_parts (is_active a.0 c.0) (attempt_start b.templates t (outer p) q a.0 c.0) s c.2 in
        let r = told (outer p) a.0 (outer_read most p read) a.1 in
        by_depth a.0 c.0 c.1 e.0 e.1 r.depth r.base r.right
      where
        by_depth : (so : Opened) (x : Placed) → activity_at so.graph q.name ≡ Some x → is_active so x ≡ true → attempt_start b.templates t (outer p) q so x ≡ Some s
            → (d : ℕ) (base : Known) → RightAt b.templates (root_in b g total most) b.facts most total (outer p) so d base → RightHere p s
        by_depth so x named active starts zero base right =
            let long = ap (λ (l : List Part). length l) (path_parts p q last_q) in
            let both = length-append (outer p).parts (q ∷ []) in
            absurd (omega (arith, long, both, right.deep, deep))
        by_depth so x named active starts (suc d) base right = attempt_right deep q last_q s so x named active d base right starts

    scope_line : length p.parts ≤ total → IfSome (next b t (Scope p)) (Good (Scope p))
    scope_line deep = map_if (Good (Scope p)) (beginning t p) (begins b t p) (λ s is. good s (begun (last_part p) refl s is))
      where
        begun : (o : Option Part) → last_part p ≡ o → (s : Opened) → begins_as b t (outer p) o ≡ Some s → RightHere p s
        begun None at_ s is = root_right s at_ is
        begun (Some q) at_ s is = inner_right deep q at_ s is

        good : (s : Opened) → RightHere p s → Good (Scope p) (beginning t p s)
        good s r = record {
          told = beginning_right b.templates (root_in b g total most) b.facts most total (apart most bounded) t p s read told r;
          line_right = ap is_some r.right.there;
        }

  -- ---- all lines

  next_good : (t : Told) → Told_right t → (line : CertLine) → IsLineRead total most line → (line_scope line).root ≡ b.root → IfSome (next b t line) (Good line)
  next_good t told (Scope p) read own_root = scope_line t told p read.0 read.1
  next_good t told (Dead p name) read own_root = dead_line t told p read.0 name
  next_good t told (Finished p name n) read own_root = finished_line t told p read.0 own_root name read.1 n read.2
  next_good t told (Ended p) read own_root = ended_line t told p read

  taken_good : (t : Told) → Told_right t → (line : CertLine) → IsLineRead total most line → IfSome (taken b t line) (Good line)
  taken_good t told line read = go ((line_scope line).root == b.root) refl
    where
      go : (c : Bool) → ((line_scope line).root == b.root) ≡ c → IfSome (if c then next b t line else None) (Good line)
      go false e = tt
      go true e = next_good t told line read (same (line_scope line).root b.root e)

  module _ (lines : List CertLine) (read : All (IsLineRead total most) lines) where
    one_more : (n : ℕ) (line : CertLine) → n < length lines → get_or lines n line ≡ line → Told_right (told b (take n lines)) → Told_right (told b (take (n + 1) lines))
    one_more n line less is before = subst Told_right (sym more) (either (taken b (told b (take n lines)) line) (taken_good (told b (take n lines)) before line (subst (IsLineRead total most) is (read n line less))))
      where
        more : told b (take (n + 1) lines) ≡ unwrap_or (taken b (told b (take n lines)) line) (told b (take n lines))
        more =
            ap (told b) (take_more lines n line less ∙ ap (λ (l : CertLine). take n lines ++ l ∷ []) is)
            ∙ fold-append (λ t l. unwrap_or (taken b t l) t) (λ p. None) (take n lines) (line ∷ [])

        either : (o : Option Told) → IfSome o (Good line) → Told_right (unwrap_or o (told b (take n lines)))
        either None h = before
        either (Some t) h = h.told

    pub told_right : (n : ℕ) → n ≤ length lines → Told_right (told b (take n lines))
    told_right zero le = λ p s reads is. absurd (none-some s is)
    told_right (suc n) le = go (slice_get_cases lines n).1 (told_right n (omega arith))
      where
        go : ((l : CertLine) × (n < length lines) × (slice_get lines n ≡ Some l) × (get_or lines n l ≡ l)) ⊎ ((length lines ≤ n) × (slice_get lines n ≡ None))
            → Told_right (told b (take n lines)) → Told_right (told b (take (suc n) lines))
        go (inl h) before =
            let next_ : n + 1 ≡ suc n = omega arith in
            subst (λ m. Told_right (told b (take m lines))) next_ (one_more n h.0 h.1 h.3 before)
        go (inr h) before = absurd (omega (arith, h.0, le))

    pub all_right : AreJustified b lines (length lines) → All (IsRightThere b.templates (root_in b g total most)) lines
    all_right justified k d less =
        let line = get_or lines k d in
        let there_ = slice_get-get_or lines k d less in
        some_right (get_or lines k d) (taken b (told b (take k lines)) (get_or lines k d)) (justified k (get_or lines k d) less there_)
        (taken_good (told b (take k lines)) (told_right k (omega arith)) (get_or lines k d) (read k d less))
      where
        some_right : (line : CertLine) (o : Option Told) → is_some o ≡ true → IfSome o (Good line) → IsRightThere b.templates (root_in b g total most) line
        some_right line None some h = absurd (false≢true some)
        some_right line (Some t) some h = h.line_right
