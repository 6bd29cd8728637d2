-- The scopes of a root, from the root down: each that starts by the completions begins by justified lines, and what has ended in it is certified.
use Rattle.std.proofs.Common.{◌≡◌, ◌⊎◌, ℕ, zero, suc, ◌+◌, ◌<◌, ◌≤◌, ◌==◌, ◌&&◌, true, false, List, [], ◌∷◌, ◌++◌, length, length-append, take, Some, None, refl, sym, ap, subst, ◌∙◌, arith, inl, inr, get_or}
use Rattle.std.specs.Prelude.{option_map, option_and_then, slice_get, ◌≢◌, ◌^◌}
use Rattle.std.proofs.lemmas.List.{take_all, take_more}
use Rattle.std.proofs.lemmas.List.Elements.{All-nil, All-take}
use Rattle.std.proofs.lemmas.Option.{none-some, same_Some, slice_get_cases}
use Rattle.std.proofs.Math.Path.{fun_ext}
use Rattle.flow_model.specs.declared.graphs.Activity.{Activity}
use Rattle.flow_model.specs.declared.graphs.Container.{Container}
use Rattle.flow_model.specs.declared.graphs.Graph.{Graph, out-Graph}
use Rattle.flow_model.specs.declared.instances.Part.{Part}
use Rattle.flow_model.specs.declared.instances.Path.{Path}
use Rattle.flow_model.specs.Fates.{Ends, is_open, is_settled}
use Rattle.flow_model.specs.Paths.{IsStep}
use Rattle.flow_model.specs.Rows.{below}
use Rattle.flow_model.specs.ScopeContainers.{graph_in, is_complete}
use Rattle.flow_model.specs.Scopes.{at, is_fed, part}
use Rattle.blocks_subprocs.specs.Ends.{ends_of}
use Rattle.fate_laws.specs.Equations.{join_of}
use Rattle.fate_laws.specs.WellFormed.{Well}
use Rattle.fate_laws.proofs.Extends.{and_true, both_true}
use Rattle.certificates.specs.declared.lines.CertLine.{CertLine}
use Rattle.certificates.specs.declared.lines.CertLine.TheVariants.{Scope, Ended}
use Rattle.certificates.specs.Justified.{told}
use Rattle.certificates.specs.Told.{Basis, Placed, activity_at, begins, is_active, is_known, join_in, opened, root_graph}
use Rattle.certificates.proofs.Growth.{and_then_parts, grows_none, if_parts, map_parts}
use Rattle.certificates.proofs.Laid.{stands}
use Rattle.certificates.proofs.Sound.{sound_none}
use Rattle.certificate_laws.specs.Right.{AreOwn, IsLineRead, IsRead, root_in}
use Rattle.certificate_laws.specs.Standings.{Standing, attempt_input, base_in, ends_in, fate_in, gives_in, input_in, scope_in, step_at, step_by, step_down, step_to, trial_in}
use Rattle.certificate_laws.proofs.Lines.{last_read}
use Rattle.certificate_laws.proofs.Scopes.{RightScope, solves, standing_of}
use Rattle.certificate_laws.proofs.Steps.{name_is, one_down}
use Rattle.certificate_laws.proofs.Told.{all_in}
use Rattle.explanation_laws.specs.Certified.{AreReadScopes, HasCertificate, IsCertified}
use Rattle.explanation_laws.proofs.Longer.{Good, HasBegun, Whole, WholeAt, begun_line, ended_line, right_scope}
use Rattle.explanation_laws.proofs.Names.{known_as, last_below, other_number}
use Rattle.explanation_laws.proofs.Tries.{reached}
use Rattle.explanation_laws.proofs.Walks.{all_certified, open_join, whole}

not_empty : (l : List Part) → l ≢ [] → (length l == 0) ≡ false
not_empty [] some = absurd (some refl)
not_empty (q ∷ l) some = other_number (length (q ∷ l)) 0 (λ none. omega (arith, none))

module _ (b : Basis) (g : Graph) (total most : ℕ) (bounded : most < 2 ^ 64) (is_root : root_graph b ≡ Some g) (well : Well b.templates total g)
    (own : AreOwn most b.root b.facts) (named : AreReadScopes b g total most) where
  -- ---- all is told of a scope that has begun

  walk_all : (d : ℕ) → ((m : ℕ) → suc m ≡ d → WholeAt b (root_in b g total most) total most m) → WholeAt b (root_in b g total most) total most d
  walk_all d inside before good p read own_root s begun base right =
      whole b g total most bounded is_root well own p read own_root d inside base s right (named p.parts (standing_of d base s) right.there) before good begun

  whole_at : (d : ℕ) → WholeAt b (root_in b g total most) total most d
  whole_at zero = walk_all zero (λ m deep. absurd (omega (arith, deep)))
  whole_at (suc d) = walk_all (suc d) (λ m deep. let same : d ≡ m = omega (arith, deep) in subst (λ (n : ℕ). WholeAt b (root_in b g total most) total most n) same (whole_at d))

  -- ---- scopes that have begun

  -- justified lines by which a scope has begun; its own is the last
  pub record Began (p : Path) : Type 0 where
    pub before : List CertLine
    pub begun : HasBegun b total most before p

  module _ (p : Path) (read : IsRead most p) (own_root : p.root ≡ b.root) (began : Began p) where
    abbrev lines : List CertLine
    lines = began.before ++ Scope p ∷ []

    abbrev good : Good b total most lines
    good = began.begun.longer.good

    right_here : RightScope b.templates (root_in b g total most) b.facts most total p began.begun.scope
    right_here = right_scope b g total most bounded is_root well own lines good p began.begun.scope read began.begun.here

    all : Whole b (root_in b g total most) total most lines p
    all = whole_at right_here.depth lines good p read own_root began.begun.scope began.begun.here right_here.base right_here.right

    abbrev here : Standing
    here = standing_of all.right.depth all.right.base all.scope

    ends_same : ends_of all.scope.ends ≡ ends_in b.templates here
    ends_same = fun_ext all.all

    -- the scope one step down begins, where it starts by the completions
    module _ (q : Part) (inner_read : IsRead most (below p q)) (inner : Standing) (there : scope_in b.templates (root_in b g total most) (below p q).parts ≡ Some inner) where
      stepped : step_down b.templates q here ≡ Some inner
      stepped =
          sym (ap (option_and_then (step_down b.templates q)) all.right.right.there)
          ∙ sym (one_down b.templates (root_in b g total most) p.parts q) ∙ there

      began_below : Began (below p q)
      began_below = by_depth all.right.depth refl stepped
        where
          tried : (x : Placed) → activity_at all.scope.graph q.name ≡ Some x → (h : Graph) → graph_in b.templates x.activity.work ≡ Some h
              → (is_open (fate_in b.templates here x.place) && is_fed (out-Graph all.scope.graph).lines x.place (ends_in b.templates here)) ≡ true
              → (i : Container) → attempt_input (suc here.known.most) (gives_in b.templates here x) (trial_in b.templates here x) 1 (base_in b.templates here x) q.attempt ≡ Some i
              → length (below p q).parts ≤ total → Began (below p q)
          tried x is_named h runs active i has_input deep =
              let both = and_true (is_open (fate_in b.templates here x.place)) _ active in
              let is = stands all.scope.graph q.name x is_named in
              let solved = solves b.templates all.right.depth all.right.base all.scope.graph all.scope.input all.right.right.well in
              let join : join_in all.scope x ≡ Some true =
              ap (λ (f : Ends). join_of all.scope.graph f x.place x.activity) ends_same
              ∙ open_join x.activity _ _ (fate_in b.templates here x.place) (solved.fate x.place x.activity is) both.0 in
              let starts : is_active all.scope x ≡ true =
              both_true (is_known true (join_in all.scope x)) (is_fed (out-Graph all.scope.graph).lines x.place (ends_of all.scope.ends))
              (known_as true (join_in all.scope x) join)
              (ap (λ (f : Ends). is_fed (out-Graph all.scope.graph).lines x.place f) ends_same ∙ both.1) in
              let step = last_read most (below p q) q inner_read (last_below p q) in
              let at_ = reached b g total most bounded is_root well own p read own_root all.right.depth (λ m deep_. whole_at m) all.right.base all.scope all.right.right
              (named p.parts here all.right.right.there) x.place x.activity is h runs both.0 both.1
              all.lines all.longer.good all.scope all.here (grows_none all.scope) starts i q.attempt step.0.counted step.1 has_input in
              let paths : below p (part x.activity.name q.attempt) ≡ below p q = ap (λ n. below p (part n q.attempt)) (name_is all.scope.graph q.name x is_named) in
              record {
                before = at_.later;
                begun = begun_line b total most at_.later at_.longer.good (below p q) inner_read own_root deep at_.scope_there
                    (ap (begins b (told b at_.later)) (sym paths) ∙ at_.is_there);
              }

          by_depth : (d : ℕ) → all.right.depth ≡ d → step_at b.templates q here d ≡ Some inner → Began (below p q)
          by_depth zero same step = absurd (none-some inner step)
          by_depth (suc d) same step =
              let found = and_then_parts (step_by b.templates d q here) (activity_at here.graph q.name) inner step in
              let runs = and_then_parts (step_to b.templates d q here found.0) (graph_in b.templates found.0.activity.work) inner found.2 in
              let input = map_parts (λ (i : Container). let st : Standing = record { depth = d; known = at q here.known; graph = runs.0; input = i } in st) (input_in b.templates here found.0 q.attempt) inner runs.2 in
              let active = if_parts (is_open (fate_in b.templates here found.0.place) && is_fed (out-Graph here.graph).lines found.0.place (ends_in b.templates here)) _ input.0 input.1 in
              let long = length-append p.parts (q ∷ []) in
              let sum = all.right.right.deep in
              tried found.0 found.1 runs.0 runs.1 active.0 input.0 active.1 (omega (arith, same, long, sum))

    -- ---- what is certified of it

    pub scope_certified : HasCertificate b total most (Scope p)
    scope_certified = record { before = began.before; read = began.begun.longer.good.read; justified = began.begun.longer.good.justified }

    module _ (scope : Standing) (there : scope_in b.templates (root_in b g total most) p.parts ≡ Some scope) where
      pub settled_certified : (a : ℕ) (x : Activity) → slice_get (out-Graph scope.graph).activities a ≡ Some x → IsCertified b total most p x.name (fate_in b.templates scope a)
      settled_certified a x is =
          let same : standing_of right_here.depth right_here.base began.begun.scope ≡ scope =
          same_Some (standing_of right_here.depth right_here.base began.begun.scope) scope (sym right_here.right.there ∙ there) in
          subst (λ (st : Standing). slice_get (out-Graph st.graph).activities a ≡ Some x → IsCertified b total most p x.name (fate_in b.templates st a)) same
          (λ is_. all_certified b g total most bounded is_root well own p read own_root right_here.depth (λ m deep. whole_at m) right_here.base began.begun.scope right_here.right
          (named p.parts (standing_of right_here.depth right_here.base began.begun.scope) right_here.right.there) lines good began.begun.here a x is_) is

      pub complete_certified : p.parts ≢ [] → is_complete scope.graph (ends_in b.templates scope) ≡ true → HasCertificate b total most (Ended p)
      complete_certified inside complete =
          let same : here ≡ scope = same_Some here scope (sym all.right.right.there ∙ there) in
          let complete_here : is_complete all.scope.graph (ends_in b.templates here) ≡ true =
          subst (λ (st : Standing). is_complete st.graph (ends_in b.templates st) ≡ true) (sym same) complete in
          let long = all.right.right.long in
          let ended = ended_line b total most all.lines all.longer.good p read own_root (not_empty p.parts inside) all.scope all.here
          (λ c less. ap is_settled (all.all c)
          ∙ all_in (λ (k : ℕ). is_settled (ends_in b.templates here k)) (length (out-Graph all.scope.graph).activities) 0 c complete_here (omega arith) (omega (arith, less, long))) in
          record { before = all.lines; read = ended.longer.good.read; justified = ended.longer.good.justified }

  -- ---- from the root down

  no_lines : Good b total most []
  no_lines = record {
    justified = λ i line less at_. absurd (omega (arith, less));
    read = All-nil (IsLineRead total most);
    sound = sound_none b;
  }

  module _ (to : Path) (read : IsRead most to) (own_root : to.root ≡ b.root) where
    -- the path of the first steps
    abbrev path_of : List Part → Path
    path_of l = record { root = to.root; parts = l }

    front_read : (n : ℕ) → IsRead most (path_of (take n to.parts))
    front_read n = record {
      path = record { counted = read.path.counted; small = read.path.small; steps = All-take IsStep n to.parts read.path.steps };
      few = All-take (λ (q : Part). q.attempt ≤ most) n to.parts read.few;
    }

    root_begins_ : begins b (told b []) (path_of []) ≡ Some (opened g b.input)
    root_begins_ = ap (option_map (λ (h : Graph). opened h b.input)) is_root

    root_began : Began (path_of [])
    root_began = record {
      before = [];
      begun = begun_line b total most [] no_lines (path_of []) (front_read zero) own_root (omega arith) (opened g b.input) root_begins_;
    }

    -- one step further
    module _ (n : ℕ) (q : Part) (is : take (suc n) to.parts ≡ take n to.parts ++ q ∷ [])
        (can : (scope : Standing) → scope_in b.templates (root_in b g total most) (take n to.parts) ≡ Some scope → Began (path_of (take n to.parts))) where
      further : (scope : Standing) → scope_in b.templates (root_in b g total most) (take (suc n) to.parts) ≡ Some scope → Began (path_of (take (suc n) to.parts))
      further scope there =
          let here_ : scope_in b.templates (root_in b g total most) (take n to.parts ++ q ∷ []) ≡ Some scope =
          ap (scope_in b.templates (root_in b g total most)) (sym is) ∙ there in
          let step = and_then_parts (step_down b.templates q) (scope_in b.templates (root_in b g total most) (take n to.parts)) scope
          (sym (one_down b.templates (root_in b g total most) (take n to.parts) q) ∙ here_) in
          subst (λ (l : List Part). Began (path_of l)) (sym is)
          (began_below (path_of (take n to.parts)) (front_read n) own_root (can step.0 step.1) q
          (subst (λ (l : List Part). IsRead most (path_of l)) is (front_read (suc n))) scope here_)

    fronts_began : (n : ℕ) → n ≤ length to.parts → (scope : Standing) → scope_in b.templates (root_in b g total most) (take n to.parts) ≡ Some scope → Began (path_of (take n to.parts))
    fronts_began zero le scope there = root_began
    fronts_began (suc n) le scope there = go (slice_get_cases to.parts n).1 (fronts_began n (omega arith))
      where
        go : ((q : Part) × (n < length to.parts) × (slice_get to.parts n ≡ Some q) × (get_or to.parts n q ≡ q)) ⊎ ((length to.parts ≤ n) × (slice_get to.parts n ≡ None))
            → ((scope_ : Standing) → scope_in b.templates (root_in b g total most) (take n to.parts) ≡ Some scope_ → Began (path_of (take n to.parts)))
            → Began (path_of (take (suc n) to.parts))
        go (inl h) can =
            let next_ : n + 1 ≡ suc n = omega arith in
            further n h.0 (ap (λ (m : ℕ). take m to.parts) (sym next_) ∙ take_more to.parts n h.0 h.1 ∙ ap (λ (r : Part). take n to.parts ++ r ∷ []) h.3) can scope there
        go (inr h) can = absurd (omega (arith, h.0, le))

    pub began_at : (scope : Standing) → scope_in b.templates (root_in b g total most) to.parts ≡ Some scope → Began to
    began_at scope there =
        let all_ : take (length to.parts) to.parts ≡ to.parts = take_all (length to.parts) to.parts (omega arith) in
        subst (λ (l : List Part). Began (path_of l)) all_
        (fronts_began (length to.parts) (omega arith) scope (ap (scope_in b.templates (root_in b g total most)) all_ ∙ there))
