-- The attempts of a block or process activity, each with the lines of its scope.
use Rattle.std.proofs.Common.{◌≡◌, ℕ, zero, suc, ◌+◌, ◌-◌, ◌<◌, ◌≤◌, ◌==◌, Bool, true, false, ◌&&◌, List, [], ◌∷◌, ◌++◌, length, length-append, Option, Some, None, refl, sym, ap, subst, ◌∙◌, arith, inl, inr}
use Rattle.std.specs.Prelude.{option_map, option_and_then, slice_get, ◌^◌}
use Rattle.std.specs.List.{last_or}
use Rattle.std.proofs.lemmas.Bool.{cases_lt, cond-false, cond-true}
use Rattle.std.proofs.lemmas.Bool.Decides.{eqb_tells}
use Rattle.std.proofs.lemmas.Option.{none-some, same_Some}
use Rattle.flow_model.specs.declared.graphs.Activity.{Activity}
use Rattle.flow_model.specs.declared.graphs.Container.{Container}
use Rattle.flow_model.specs.declared.graphs.Graph.{Graph, out-Graph}
use Rattle.flow_model.specs.declared.graphs.MapEnd.TheVariants.{Border}
use Rattle.flow_model.specs.declared.graphs.Work.{Work, Program, Block, Process}
use Rattle.flow_model.specs.declared.instances.Part.{Part}
use Rattle.flow_model.specs.declared.instances.Path.{Path}
use Rattle.flow_model.specs.Conditions.{holds}
use Rattle.flow_model.specs.Containers.{fresh, with_return_code}
use Rattle.flow_model.specs.Fates.{is_open, is_settled}
use Rattle.flow_model.specs.Rows.{below}
use Rattle.flow_model.specs.ScopeContainers.{base_of, fed, graph_in, is_complete, looped}
use Rattle.flow_model.specs.Scopes.{Gives, Known, Trial, all_of, at, gives, is_fed, output, part, trial, tries}
use Rattle.blocks_subprocs.specs.Ends.{ends_of}
use Rattle.fate_laws.specs.WellFormed.{Well}
use Rattle.fate_laws.proofs.Extends.{and_true, both_true}
use Rattle.fate_laws.proofs.Steps.{fed_kept}
use Rattle.certificates.specs.declared.lines.CertLine.{CertLine}
use Rattle.certificates.specs.declared.lines.CertLine.TheVariants.{Scope, Ended}
use Rattle.certificates.specs.Justified.{told}
use Rattle.certificates.specs.Told.{Basis, Opened, Placed, Told, activity_at, attempt_start, begins, begins_as, final_at, first_input, first_start, gave, inner_begins, is_active, is_known, join_in, next_start, opened, outer, root_graph, start, start_after, with_output}
use Rattle.certificates.proofs.Growth.{Grows, Stays, and_then_parts, if_parts, join_more, map_parts, not_if_parts}
use Rattle.certificate_laws.specs.Right.{AreOwn, IsRead, root_in}
use Rattle.certificate_laws.specs.Standings.{Standing, after, attempt_input, ends_in, fate_in, input_in, scope_in, step_at, step_by, step_down, step_to}
use Rattle.certificate_laws.proofs.Chains.{next_attempt}
use Rattle.certificate_laws.proofs.Lines.{below_read}
use Rattle.certificate_laws.proofs.Scopes.{RightAt, RightScope, known_so, lines_kept, standing_of}
use Rattle.certificate_laws.proofs.Steps.{gives_scope, one_down}
use Rattle.certificate_laws.proofs.Told.{all_in}
use Rattle.explanation_laws.specs.Certified.{HasReadActivities}
use Rattle.explanation_laws.proofs.Attempts.{IsChain, chain_final, go_of, some_last, some_rest, stop_of, tries_more, tries_none, tries_one}
use Rattle.explanation_laws.proofs.Longer.{Good, HasBegun, HasEnded, Longer, Whole, WholeAt, begun_line, ended_line, longer_none, longer_on, right_scope}
use Rattle.explanation_laws.proofs.Names.{known_as, last_below, other_number, outer_below, placed_here, same_number}

-- attempts that start once, start later
pub active_later : (s s' : Opened) → Grows s s' → (y : Placed) → is_active s y ≡ true → is_active s' y ≡ true
active_later s s' more y active =
    let both = and_true (is_known true (join_in s y)) _ active in
    both_true (is_known true (join_in s' y)) (is_fed (out-Graph s'.graph).lines y.place (ends_of s'.ends))
    (known_as true (join_in s' y) (join_more s s' more y true (known_so true (join_in s y) both.0)))
    (ap (λ (k : Graph). is_fed (out-Graph k).lines y.place (ends_of s'.ends)) more.graph
    ∙ fed_kept (out-Graph s.graph).lines y.place (ends_of s.ends) (ends_of s'.ends) (lines_kept s.graph y.place (ends_of s.ends) (ends_of s'.ends) more.ends) both.1)

-- of a scope such that there are lines for all that lies inside it; of an activity with a graph of its own, whose attempts start; behind lines
-- by which they start
module _ (b : Basis) (g : Graph) (total most : ℕ) (bounded : most < 2 ^ 64) (is_root : root_graph b ≡ Some g) (well : Well b.templates total g)
    (own : AreOwn most b.root b.facts)
    (p : Path) (read : IsRead most p) (own_root : p.root ≡ b.root) (d : ℕ)
    (inside : (m : ℕ) → suc m ≡ d → WholeAt b (root_in b g total most) total most m)
    (base : Known) (s0 : Opened) (right : RightAt b.templates (root_in b g total most) b.facts most total p s0 d base) (acts : HasReadActivities s0.graph)
    (a : ℕ) (x : Activity) (is : slice_get (out-Graph s0.graph).activities a ≡ Some x) (h : Graph) (runs : graph_in b.templates x.work ≡ Some h)
    (is_tried : is_open (fate_in b.templates (standing_of d base s0) a) ≡ true)
    (all_fed : is_fed (out-Graph s0.graph).lines a (ends_in b.templates (standing_of d base s0)) ≡ true)
    (front : List CertLine) (good : Good b total most front) (scope : Opened) (here : told b front p ≡ Some scope) (grown : Grows s0 scope)
    (active : is_active scope (record { place = a; activity = x }) ≡ true) where
  abbrev st : Standing
  st = standing_of d base s0

  abbrev placed_x : Placed
  placed_x = record { place = a; activity = x }

  abbrev first : Container
  first = base_of s0.graph x a s0.input (ends_in b.templates st)

  abbrev attempt_gives : Gives
  attempt_gives = gives b.templates (all_of base) (output b.templates d) x.name x.work

  abbrev repeats : Trial
  repeats = trial s0.graph a x first

  abbrev path_of : ℕ → Path
  path_of j = below p (part x.name j)

  abbrev input_of : ℕ → Option Container
  input_of j = attempt_input (suc base.most) attempt_gives repeats 1 first j

  named_x : activity_at s0.graph x.name ≡ Some placed_x
  named_x = placed_here b.templates d s0.graph right.well acts a x is

  own_line : (p.root == b.root) ≡ true
  own_line = ap (λ (n : ℕ). n == b.root) own_root ∙ same_number b.root

  -- ---- how an attempt begins

  module _ (lines : List CertLine) (more : Longer b total most front lines) where
    stays : Stays (told b lines) p scope
    stays = more.grow p scope here

    abbrev now : Opened
    now = stays.scope

    named_now : activity_at now.graph x.name ≡ Some placed_x
    named_now = ap (λ (k : Graph). activity_at k x.name) (stays.grows.graph ∙ grown.graph) ∙ named_x

    active_now : is_active now placed_x ≡ true
    active_now = active_later scope now stays.grows placed_x active

    starts_as : (j : ℕ) (o : Option Opened) → attempt_start b.templates (told b lines) p (part x.name j) now placed_x ≡ o → begins b (told b lines) (path_of j) ≡ o
    starts_as j o starts =
        ap (λ (q : Option Part). begins_as b (told b lines) (outer (path_of j)) q) (last_below p (part x.name j))
        ∙ ap (λ (r : Path). inner_begins b (told b lines) r (part x.name j)) (outer_below p (part x.name j))
        ∙ ap (option_and_then (λ (s : Opened). option_and_then (start b.templates (told b lines) p (part x.name j) s) (activity_at s.graph x.name))) stays.told
        ∙ ap (option_and_then (start b.templates (told b lines) p (part x.name j) now)) named_now
        ∙ cond-true (is_active now placed_x) (attempt_start b.templates (told b lines) p (part x.name j) now placed_x) None active_now
        ∙ starts

    begins_first : begins b (told b lines) (path_of 1) ≡ Some (opened h (first_input now placed_x))
    begins_first = starts_as 1 (Some (opened h (first_input now placed_x))) (ap (option_map (λ (k : Graph). opened k (first_input now placed_x))) runs)

    begins_next : (j : ℕ) → 1 ≤ j → (last : Opened) (o : Container) → told b lines (path_of j) ≡ Some last → last.output ≡ Some o → holds x.exit o ≡ false
        → begins b (told b lines) (path_of (j + 1)) ≡ Some (opened last.graph (looped (out-Graph now.graph).loops a o (first_input now placed_x)))
    begins_next j pos last o is_told has_given goes =
        let back : (j + 1) - 1 ≡ j = omega arith in
        starts_as (j + 1) (Some (opened last.graph (looped (out-Graph now.graph).loops a o (first_input now placed_x))))
        (cond-false ((j + 1) == 0) None _ (other_number (j + 1) 0 (λ e. omega (arith, e)))
        ∙ cond-false ((j + 1) == 1) (first_start b.templates now placed_x) _ (other_number (j + 1) 1 (λ e. omega (arith, e, pos)))
        ∙ ap (λ (m : ℕ). option_and_then (next_start now placed_x) (told b lines (below p (part x.name m)))) back
        ∙ ap (option_and_then (next_start now placed_x)) is_told
        ∙ ap (option_and_then (start_after now placed_x last)) has_given
        ∙ cond-false (holds x.exit o) None (Some (opened last.graph (looped (out-Graph now.graph).loops a o (first_input now placed_x)))) goes)

  -- ---- an attempt that gives something: the lines of its scope, and of its end

  -- what an attempt gave is told
  pub record Attempted (lines : List CertLine) (j : ℕ) (o : Container) : Type 0 where
    pub later : List CertLine
    pub longer : Longer b total most lines later
    pub inner : Opened
    pub there : told b later (path_of j) ≡ Some inner
    pub gave_it : inner.output ≡ Some o

  module _ (lines : List CertLine) (more : Longer b total most front lines) (j : ℕ) (pos : 1 ≤ j) (le : j ≤ most) (r : Opened)
      (is_begun : begins b (told b lines) (path_of j) ≡ Some r) (i : Container) (has_input : input_of j ≡ Some i) (o : Container)
      (gives_it : attempt_gives j i ≡ Some o) where
    abbrev inner_known : Known
    inner_known = at (part x.name j) (all_of base)

    scope_gave : option_map with_return_code (output b.templates d inner_known h i) ≡ Some o
    scope_gave = sym (gives_scope b.templates base (output b.templates d) x.name x.work h j i runs) ∙ gives_it

    level : (m : ℕ) × (suc m ≡ d)
    level = by_depth d refl scope_gave
      where
        by_depth : (n : ℕ) → d ≡ n → option_map with_return_code (output b.templates n inner_known h i) ≡ Some o → (m : ℕ) × (suc m ≡ d)
        by_depth zero deep gave_so = absurd (none-some o gave_so)
        by_depth (suc m) deep gave_so = (m, sym deep)

    -- the scope as it starts by the completions
    abbrev truth : Standing
    truth = record { depth = level.0; known = inner_known; graph = h; input = i }

    started : input_in b.templates st placed_x j ≡ Some i
    started =
        cond-true (is_open (fate_in b.templates st a) && is_fed (out-Graph s0.graph).lines a (ends_in b.templates st)) (input_of j) None (both_true _ _ is_tried all_fed)
        ∙ has_input

    stepped : (n : ℕ) → suc level.0 ≡ n → step_at b.templates (part x.name j) st n ≡ Some truth
    stepped zero deep = absurd (omega (arith, deep))
    stepped (suc n) deep =
        let same : n ≡ level.0 = omega (arith, deep) in
        ap (option_and_then (step_by b.templates n (part x.name j) st)) named_x
        ∙ ap (option_and_then (step_to b.templates n (part x.name j) st placed_x)) runs
        ∙ ap (option_map (λ (k : Container). let u : Standing = record { depth = n; known = inner_known; graph = h; input = k } in u)) started
        ∙ ap (λ (l : ℕ). let u : Standing = record { depth = l; known = inner_known; graph = h; input = i } in Some u) same

    inner_there : scope_in b.templates (root_in b g total most) (path_of j).parts ≡ Some truth
    inner_there =
        one_down b.templates (root_in b g total most) p.parts (part x.name j)
        ∙ ap (option_and_then (step_down b.templates (part x.name j))) right.there
        ∙ stepped d level.1

    complete : is_complete h (ends_in b.templates truth) ≡ true
    complete =
        let made = map_parts with_return_code (output b.templates d inner_known h i) o scope_gave in
        let given : output b.templates (suc level.0) inner_known h i ≡ Some made.0 = ap (λ (n : ℕ). output b.templates n inner_known h i) level.1 ∙ made.1 in
        (if_parts (is_complete h (ends_in b.templates truth)) (Some (fed (out-Graph h).lines Border i (ends_in b.templates truth) (fresh (out-Graph h).output))) made.0 given).0

    path_read : IsRead most (path_of j)
    path_read = below_read most p x.name j bounded read (acts.named a x is) pos le

    long_path : length (path_of j).parts ≡ length p.parts + 1
    long_path = let long = length-append p.parts (part x.name j ∷ []) in omega (arith, long)

    deep_path : length (path_of j).parts ≤ total
    deep_path = let sum = right.deep in let lower = level.1 in omega (arith, long_path, sum, lower)

    -- it begins

    begun : HasBegun b total most lines (path_of j)
    begun = begun_line b total most lines more.good (path_of j) path_read own_root deep_path r is_begun

    abbrev begun_lines : List CertLine
    begun_lines = lines ++ Scope (path_of j) ∷ []

    begun_right : RightScope b.templates (root_in b g total most) b.facts most total (path_of j) begun.scope
    begun_right = right_scope b g total most bounded is_root well own begun_lines begun.longer.good (path_of j) begun.scope path_read begun.here

    -- all inside it is told

    inner_depth : suc begun_right.depth ≡ d
    inner_depth = let sum = right.deep in let inner_sum = begun_right.right.deep in omega (arith, long_path, sum, inner_sum)

    whole : Whole b (root_in b g total most) total most begun_lines (path_of j)
    whole =
        inside begun_right.depth inner_depth begun_lines begun.longer.good (path_of j) path_read own_root begun.scope begun.here begun_right.base begun_right.right

    abbrev whole_standing : Standing
    whole_standing = standing_of whole.right.depth whole.right.base whole.scope

    whole_truth : whole_standing ≡ truth
    whole_truth = same_Some whole_standing truth (sym whole.right.right.there ∙ inner_there)

    whole_complete : is_complete whole.scope.graph (ends_in b.templates whole_standing) ≡ true
    whole_complete = subst (λ (u : Standing). is_complete u.graph (ends_in b.templates u) ≡ true) (sym whole_truth) complete

    ends_settled : (c : ℕ) → c < length whole.scope.ends → is_settled (ends_of whole.scope.ends c) ≡ true
    ends_settled c less =
        let long = whole.right.right.long in
        ap is_settled (whole.all c)
        ∙ all_in (λ (k : ℕ). is_settled (ends_in b.templates whole_standing k)) (length (out-Graph whole.scope.graph).activities) 0 c whole_complete (omega arith) (omega (arith, less, long))

    -- it ends

    ended : HasEnded b total most whole.lines (path_of j) whole.scope
    ended =
        ended_line b total most whole.lines whole.longer.good (path_of j) path_read own_root
        (other_number (length (path_of j).parts) 0 (λ none. omega (arith, none, long_path))) whole.scope whole.here ends_settled

    abbrev ended_lines : List CertLine
    ended_lines = whole.lines ++ Ended (path_of j) ∷ []

    abbrev ended_scope : Opened
    ended_scope = with_output ended.out whole.scope

    ended_right : RightScope b.templates (root_in b g total most) b.facts most total (path_of j) ended_scope
    ended_right = right_scope b g total most bounded is_root well own ended_lines ended.longer.good (path_of j) ended_scope path_read ended.here

    ended_truth : standing_of ended_right.depth ended_right.base ended_scope ≡ truth
    ended_truth = same_Some (standing_of ended_right.depth ended_right.base ended_scope) truth (sym ended_right.right.there ∙ inner_there)

    out_is : ended.out ≡ o
    out_is =
        same_Some ended.out o
        (sym (ended_right.right.output ended.out refl)
        ∙ ap (λ (u : Standing). option_map with_return_code (output b.templates (suc u.depth) u.known u.graph u.input)) ended_truth
        ∙ ap (λ (n : ℕ). option_map with_return_code (output b.templates n inner_known h i)) level.1
        ∙ scope_gave)

    attempted : Attempted lines j o
    attempted = record {
      later = ended_lines;
      longer = longer_on b total most lines begun_lines ended_lines begun.longer
          (longer_on b total most begun_lines whole.lines ended_lines whole.longer ended.longer);
      inner = ended_scope;
      there = ended.here;
      gave_it = ap (λ (k : Container). Some k) out_is;
    }

  -- ---- attempts one after the other, up to the last

  gave_inner : (w : Work) → graph_in b.templates w ≡ Some h → (t : Told) (j : ℕ) → gave b t p x.name w j ≡ option_and_then (λ (s : Opened). s.output) (t (path_of j))
  gave_inner (Program y) has t j = absurd (none-some h has)
  gave_inner (Block k) has t j = refl
  gave_inner (Process y) has t j = refl

  abbrev gave_by : List CertLine → ℕ → Option Container
  gave_by lines j = gave b (told b lines) p x.name x.work j

  -- what they gave is told
  record Chain (lines : List CertLine) (j n : ℕ) (out : Container) : Type 0 where
    later : List CertLine
    longer : Longer b total most lines later
    chain : IsChain x.exit (gave_by later) j n out

  given_later : (lines : List CertLine) (j : ℕ) (o : Container) (done : Attempted lines j o) (lines' : List CertLine) → Longer b total most done.later lines' → gave_by lines' j ≡ Some o
  given_later lines j o done lines' on =
      let kept = on.grow (path_of j) done.inner done.there in
      gave_inner x.work runs (told b lines') j ∙ ap (option_and_then (λ (s : Opened). s.output)) kept.told ∙ kept.grows.output o done.gave_it

  tries_told : (count j : ℕ) (i out : Container) (v : Option Container) (lines : List CertLine) → Longer b total most front lines → 1 ≤ j → j + count ≤ most + 1
      → input_of j ≡ Some i → (r : Opened) → begins b (told b lines) (path_of j) ≡ Some r → 0 < length (tries count attempt_gives repeats j i)
      → last_or v (tries count attempt_gives repeats j i) ≡ Some out → holds x.exit out ≡ true → Chain lines j (length (tries count attempt_gives repeats j i)) out
  tries_told zero j i out v lines more pos few has_input r is_begun some last closes = absurd (omega (arith, some))
  tries_told (suc count) j i out v lines more pos few has_input r is_begun some last closes =
      by_output (attempt_gives j i) refl
      (λ o lines' more' has_input' r' is_begun' some' last'. tries_told count (j + 1) (repeats.loops o) out (Some o) lines' more' (omega arith) (omega (arith, few)) has_input' r' is_begun' some' last' closes)
    where
      Goal : Type 0
      Goal = Chain lines j (length (tries (suc count) attempt_gives repeats j i)) out

      rest_of : Container → List Container
      rest_of o = tries count attempt_gives repeats (j + 1) (repeats.loops o)

      Rest : Type 0
      Rest = (o : Container) (lines' : List CertLine) → Longer b total most front lines' → input_of (j + 1) ≡ Some (repeats.loops o) → (r' : Opened)
          → begins b (told b lines') (path_of (j + 1)) ≡ Some r' → 0 < length (rest_of o) → last_or (Some o) (rest_of o) ≡ Some out → Chain lines' (j + 1) (length (rest_of o)) out

      le : j ≤ most
      le = omega (arith, few)

      attempt : (o : Container) → attempt_gives j i ≡ Some o → Attempted lines j o
      attempt o gives_it = attempted lines more j pos le r is_begun i has_input o gives_it

      only : (o : Container) → attempt_gives j i ≡ Some o → holds x.exit o ≡ true → Goal
      only o gives_it stops_ =
          let done = attempt o gives_it in
          let one : tries (suc count) attempt_gives repeats j i ≡ o ∷ [] = tries_one attempt_gives repeats count j i o gives_it stops_ in
          let same : o ≡ out = same_Some o out (sym (ap (last_or v) one) ∙ last) in
          let given = given_later lines j o done done.later (longer_none b total most done.later done.longer.good) in
          subst (λ (n : ℕ). Chain lines j n out) (sym (ap (λ (os : List Container). length os) one))
          (record {
            later = done.later;
            longer = done.longer;
            chain = record {
              goes = λ l low high. absurd (omega (arith, low, high));
              last = λ l is_l. let at_j : l ≡ j = omega (arith, is_l) in
                  stop_of x.exit (gave_by done.later) (gave_by done.later l) out (ap (gave_by done.later) at_j ∙ given ∙ ap (λ (k : Container). Some k) same) closes;
            };
          })

      further : (o : Container) → attempt_gives j i ≡ Some o → holds x.exit o ≡ false → Rest → Goal
      further o gives_it goes_ rest =
          let done = attempt o gives_it in
          let all : tries (suc count) attempt_gives repeats j i ≡ o ∷ rest_of o = tries_more attempt_gives repeats count j i o gives_it goes_ in
          let last_ : last_or (Some o) (rest_of o) ≡ Some out = sym (ap (last_or v) all) ∙ last in
          let bound = right.bound in
          let next_input = next_attempt attempt_gives repeats (suc base.most) 1 j first i o pos (omega (arith, le, bound)) has_input gives_it goes_ in
          let on = longer_on b total most front lines done.later more done.longer in
          let made = rest o done.later on next_input _ (begins_next done.later on j pos done.inner o done.there done.gave_it goes_) (some_rest x.exit o out (rest_of o) last_ goes_ closes) last_ in
          let given = given_later lines j o done made.later made.longer in
          subst (λ (n : ℕ). Chain lines j n out) (sym (ap (λ (os : List Container). length os) all))
          (record {
            later = made.later;
            longer = longer_on b total most lines done.later made.later done.longer made.longer;
            chain = record {
              goes = λ l low high. elim (cases_lt j l) [
                | inl beyond ↦ made.chain.goes l (omega (arith, beyond)) (omega (arith, high))
                | inr within ↦
                    let at_j : l ≡ j = omega (arith, low, within) in
                    go_of x.exit (gave_by made.later) (gave_by made.later l) o (ap (gave_by made.later) at_j ∙ given) goes_
              ];
              last = λ l is_l. made.chain.last l (omega (arith, is_l));
            };
          })

      on_exit : (o : Container) → attempt_gives j i ≡ Some o → (c : Bool) → holds x.exit o ≡ c → Rest → Goal
      on_exit o gives_it true e rest = only o gives_it e
      on_exit o gives_it false e rest = further o gives_it e rest

      by_output : (u : Option Container) → attempt_gives j i ≡ u → Rest → Goal
      by_output None gives_it rest =
          let none : tries (suc count) attempt_gives repeats j i ≡ [] = tries_none attempt_gives repeats count j i gives_it in
          let long = ap (λ (os : List Container). length os) none in
          absurd (omega (arith, some, long))
      by_output (Some o) gives_it rest = on_exit o gives_it (holds x.exit o) refl rest

  -- lines by which the last attempt is known
  pub record Final (n : ℕ) (out : Container) : Type 0 where
    pub later : List CertLine
    pub longer : Longer b total most front later
    pub is_final : final_at b (told b later) p n placed_x ≡ Some out

  pub final_told : (n : ℕ) (out : Container) → length (tries base.most attempt_gives repeats 1 first) ≡ n → last_or None (tries base.most attempt_gives repeats 1 first) ≡ Some out
      → holds x.exit out ≡ true → Final n out
  final_told n out counted last closes =
      let bound = right.bound in
      let some = some_last (tries base.most attempt_gives repeats 1 first) out last in
      let own_front = longer_none b total most front good in
      let made = tries_told base.most 1 first out None front own_front (omega arith) (omega (arith, bound)) refl _ (begins_first front own_front) some last closes in
      record {
        later = made.later;
        longer = made.longer;
        is_final =
            ap (λ (m : ℕ). final_at b (told b made.later) p m placed_x) (sym counted)
            ∙ chain_final x.exit (gave_by made.later) (length (tries base.most attempt_gives repeats 1 first)) out some made.chain;
      }

  -- ---- attempts one after the other, up to one that starts

  pub record Reached (lines : List CertLine) (c : ℕ) : Type 0 where
    pub later : List CertLine
    pub longer : Longer b total most lines later
    pub scope_there : Opened
    pub is_there : begins b (told b later) (path_of c) ≡ Some scope_there

  reach : (count j : ℕ) (i k : Container) (c : ℕ) (lines : List CertLine) → Longer b total most front lines → 1 ≤ j → j ≤ c → c ≤ most → input_of j ≡ Some i
      → attempt_input count attempt_gives repeats j i c ≡ Some k → (r : Opened) → begins b (told b lines) (path_of j) ≡ Some r → Reached lines c
  reach zero j i k c lines more pos low few has_input is_reached r is_begun = absurd (none-some k is_reached)
  reach (suc count) j i k c lines more pos low few has_input is_reached r is_begun = elim (eqb_tells j c) [
    | inl there ↦ record {
      later = lines;
      longer = longer_none b total most lines more.good;
      scope_there = r;
      is_there = ap (λ (m : ℕ). begins b (told b lines) (path_of m)) (sym there.1) ∙ is_begun;
    }
    | inr other ↦
        further other.0 other.1
        (λ o lines' more' strict has_input' is_reached' r' is_begun'. reach count (j + 1) (repeats.loops o) k c lines' more' (omega arith) strict few has_input' is_reached' r' is_begun')
  ]
    where
      Rest : Type 0
      Rest = (o : Container) (lines' : List CertLine) → Longer b total most front lines' → j + 1 ≤ c → input_of (j + 1) ≡ Some (repeats.loops o)
          → attempt_input count attempt_gives repeats (j + 1) (repeats.loops o) c ≡ Some k → (r' : Opened) → begins b (told b lines') (path_of (j + 1)) ≡ Some r' → Reached lines' c

      further : (j == c) ≡ false → (j ≡ c → ⊥) → Rest → Reached lines c
      further no_ ne rest =
          let strict : j + 1 ≤ c = omega (arith, ne, low) in
          let behind = sym (cond-false (j == c) (Some i) (option_and_then (after repeats (λ (u : Container). attempt_input count attempt_gives repeats (j + 1) u c)) (attempt_gives j i)) no_) ∙ is_reached in
          let output_ = and_then_parts (after repeats (λ (u : Container). attempt_input count attempt_gives repeats (j + 1) u c)) (attempt_gives j i) k behind in
          let goes = not_if_parts (holds x.exit output_.0) (attempt_input count attempt_gives repeats (j + 1) (repeats.loops output_.0) c) k output_.2 in
          let bound = right.bound in
          let done = attempted lines more j pos (omega (arith, low, few)) r is_begun i has_input output_.0 output_.1 in
          let next_input = next_attempt attempt_gives repeats (suc base.most) 1 j first i output_.0 pos (omega (arith, low, few, bound)) has_input output_.1 goes.0 in
          let on = longer_on b total most front lines done.later more done.longer in
          let made = rest output_.0 done.later on strict next_input goes.1 _ (begins_next done.later on j pos done.inner output_.0 done.there done.gave_it goes.0) in
          record {
            later = made.later;
            longer = longer_on b total most lines done.later made.later done.longer made.longer;
            scope_there = made.scope_there;
            is_there = made.is_there;
          }

  pub reached : (k : Container) (c : ℕ) → 1 ≤ c → c ≤ most → input_of c ≡ Some k → Reached front c
  reached k c pos few has_input =
      let own_front = longer_none b total most front good in
      reach (suc base.most) 1 first k c front own_front (omega arith) pos few refl has_input _ (begins_first front own_front)
