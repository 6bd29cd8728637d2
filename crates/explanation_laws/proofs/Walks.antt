-- The lines of one scope: along the order of its activities, those of the scopes inside it, and one for each activity that is settled.
use Rattle.std.proofs.Common.{◌≡◌, ℕ, zero, suc, ◌<◌, ◌≤◌, ◌==◌, Bool, true, false, List, [], ◌∷◌, ◌++◌, length, Option, Some, None, refl, sym, ap, subst, ◌∙◌, arith, inl, inr}
use Rattle.std.specs.Prelude.{option_map, option_and_then, is_none, unwrap_or, slice_get, slice_set, slice_index, ◌^◌}
use Rattle.std.specs.List.{last_or}
use Rattle.std.proofs.lemmas.Bool.{cases_lt, cond-true, false≢true}
use Rattle.std.proofs.lemmas.Option.{none-some, same_Some, slice_get_within, slice_get_past}
use Rattle.flow_model.specs.declared.graphs.Activity.{Activity}
use Rattle.flow_model.specs.declared.graphs.Container.{Container}
use Rattle.flow_model.specs.declared.graphs.Graph.{Graph, out-Graph}
use Rattle.flow_model.specs.declared.graphs.Program.{Program as ProgramWork}
use Rattle.flow_model.specs.declared.graphs.Work.{Work, Program, Block, Process}
use Rattle.flow_model.specs.declared.instances.Fate.{Fate}
use Rattle.flow_model.specs.declared.instances.Fate.TheVariants as fate
use Rattle.flow_model.specs.declared.instances.Path.{Path}
use Rattle.flow_model.specs.declared.instances.SourceEnd.{SourceEnd}
use Rattle.flow_model.specs.declared.instances.SourceEnd.TheVariants as end
use Rattle.flow_model.specs.Conditions.{holds}
use Rattle.flow_model.specs.Fates.{Ends, is_open, is_settled, joined}
use Rattle.flow_model.specs.Rows.{below}
use Rattle.flow_model.specs.ScopeContainers.{base_of, graph_in}
use Rattle.flow_model.specs.Scopes.{Known, all_of, gives, is_fed, output, part, scope_gives, trial}
use Rattle.blocks_subprocs.specs.Ends.{ends_of}
use Rattle.fate_laws.specs.Equations.{IsEnd, IsFate, Solves, join_of, outputs_of, values_into}
use Rattle.fate_laws.specs.WellFormed.{Well}
use Rattle.fate_laws.proofs.Extends.{Extends, both_true}
use Rattle.fate_laws.proofs.Forward.{SameControls, SameLines, is_fed_same, values_same}
use Rattle.fate_laws.proofs.Solutions.{HasOrder, activity_at as activity_in, order_of, settled_inside}
use Rattle.fate_laws.proofs.Stays.{unsettled_past}
use Rattle.fate_laws.proofs.Wired.{fed_where_known, known_values}
use Rattle.certificates.specs.declared.lines.CertLine.{CertLine}
use Rattle.certificates.specs.declared.lines.CertLine.TheVariants.{Dead, Finished}
use Rattle.certificates.specs.Justified.{told}
use Rattle.certificates.specs.Told.{Basis, Opened, Placed, Told, accepted, changed, final, final_at, gave, is_active, is_known, join_in, joined_at, root_graph, same_path, taken, with_end}
use Rattle.certificates.proofs.Growth.{Grows}
use Rattle.certificate_laws.specs.Right.{AreOwn, IsLineRead, IsRead, root_in}
use Rattle.certificate_laws.specs.Standings.{Standing, ends_in, fate_in}
use Rattle.certificate_laws.proofs.Lines.{below_read}
use Rattle.certificate_laws.proofs.Scopes.{RightAt, solves, standing_of}
use Rattle.certificate_laws.proofs.Spellings.{accepted_is}
use Rattle.explanation_laws.specs.Certified.{HasCertificate, HasReadActivities, IsCertified}
use Rattle.explanation_laws.proofs.Attempts.{chain_final, no_tries, some_last, tries_chain, tries_few}
use Rattle.explanation_laws.proofs.Lines.{told_more}
use Rattle.explanation_laws.proofs.Lists.{set_cases, set_here}
use Rattle.explanation_laws.proofs.Longer.{Good, Longer, Whole, WholeAt, longer_none, longer_on, one_more, right_scope}
use Rattle.explanation_laws.proofs.Names.{joined_here, known_as, same_itself, same_number}
use Rattle.explanation_laws.proofs.Tries.{final_told}

-- the join of an activity whose attempts start is true
pub open_join : (x : Activity) (v : Option Bool) (outs : List Container) (f : Fate) → IsFate x v outs f → is_open f ≡ true → v ≡ Some true
open_join x v outs fate.Waiting of open_ = absurd (false≢true open_)
open_join x v outs fate.Dead of open_ = absurd (false≢true open_)
open_join x v outs (fate.Ready n) of open_ = ((of.ready n).0 refl).0
open_join x v outs (fate.Running n) of open_ = ((of.running n).0 refl).0
open_join x v outs (fate.Finished n) of open_ = ((of.finished n).0 refl).0

-- ends that are told as they are stay so
still : (e l m : Ends) → Extends l m → Extends m e → (c : ℕ) → l c ≡ e c → m c ≡ e c
still e l m more kept c is = by_end (m c) refl
  where
    unsettled : (t : SourceEnd) → e c ≡ t → m c ≡ end.Unsettled → m c ≡ e c
    unsettled end.Unsettled ended now_ = now_ ∙ sym ended
    unsettled end.Dead ended now_ = more.kept c (ap is_settled (is ∙ ended)) ∙ is
    unsettled (end.Finished out) ended now_ = more.kept c (ap is_settled (is ∙ ended)) ∙ is

    by_end : (t : SourceEnd) → m c ≡ t → m c ≡ e c
    by_end end.Unsettled now_ = unsettled (e c) refl now_
    by_end end.Dead now_ = sym (kept.kept c (ap is_settled now_))
    by_end (end.Finished out) now_ = sym (kept.kept c (ap is_settled now_))

-- of a scope that has begun, such that there are lines for all that lies inside it
module _ (b : Basis) (g : Graph) (total most : ℕ) (bounded : most < 2 ^ 64) (is_root : root_graph b ≡ Some g) (well : Well b.templates total g)
    (own : AreOwn most b.root b.facts) (p : Path) (read : IsRead most p) (own_root : p.root ≡ b.root) (d : ℕ)
    (inside : (m : ℕ) → suc m ≡ d → WholeAt b (root_in b g total most) total most m)
    (base : Known) (s0 : Opened) (right : RightAt b.templates (root_in b g total most) b.facts most total p s0 d base) (acts : HasReadActivities s0.graph)
    (before : List CertLine) (good : Good b total most before) (begun : told b before p ≡ Some s0) where
  abbrev known : Known
  known = all_of base

  abbrev st : Standing
  st = standing_of d base s0

  abbrev e : Ends
  e = ends_in b.templates st

  abbrev fates : ℕ → Fate
  fates = fate_in b.templates st

  solved : Solves b.templates d known s0.graph s0.input fates e
  solved = solves b.templates d base s0.graph s0.input right.well

  ordered : HasOrder s0.graph
  ordered = order_of b.templates d s0.graph right.well

  abbrev place : ℕ → ℕ
  place j = slice_index ordered.order j

  abbrev outs : ℕ → Activity → List Container
  outs a x = outputs_of b.templates d known s0.graph s0.input e a x

  own_line : (p.root == b.root) ≡ true
  own_line = ap (λ (n : ℕ). n == b.root) own_root ∙ same_number b.root

  -- what such lines tell of the scope
  record Later (lines : List CertLine) : Type 0 where
    scope : Opened
    here : told b lines p ≡ Some scope
    grown : Grows s0 scope
    kept : Extends (ends_of scope.ends) e

  later : (lines : List CertLine) → Longer b total most before lines → Later lines
  later lines longer =
      let stays = longer.grow p s0 begun in
      let r = right_scope b g total most bounded is_root well own lines longer.good p stays.scope read stays.told in
      let same : standing_of r.depth r.base stays.scope ≡ st = same_Some (standing_of r.depth r.base stays.scope) st (sym r.right.there ∙ right.there) in
      record {
        scope = stays.scope;
        here = stays.told;
        grown = stays.grows;
        kept = subst (λ (u : Standing). Extends (ends_of stays.scope.ends) (ends_in b.templates u)) same r.right.ends;
      }

  -- lines that tell how the first activities of the order have ended
  record Walk (count : ℕ) : Type 0 where
    lines : List CertLine
    longer : Longer b total most before lines
    passed : (s : Opened) → told b lines p ≡ Some s → (j : ℕ) → j < count → ends_of s.ends (place j) ≡ e (place j)

  -- ---- one activity of the order

  module _ (i : ℕ) (less : i < length ordered.order) (w : Walk i) (x : Activity) (is : slice_get (out-Graph s0.graph).activities (place i) ≡ Some x) where
    abbrev a : ℕ
    a = place i

    abbrev placed_x : Placed
    placed_x = record { place = place i; activity = x }

    fate_of : IsFate x (join_of s0.graph e a x) (outs a x) (fates a)
    fate_of = solved.fate a x is

    end_of : IsEnd (fates a) (outs a x) (e a)
    end_of = solved.end a x is

    -- behind the lines of the activities before it
    module _ (lines : List CertLine) (more : Longer b total most w.lines lines) where
      all_more : Longer b total most before lines
      all_more = longer_on b total most before w.lines lines w.longer more

      now : Later lines
      now = later lines all_more

      passed_now : (j : ℕ) → j < i → ends_of now.scope.ends (place j) ≡ e (place j)
      passed_now j earlier =
          let was = later w.lines w.longer in
          let stays = more.grow p was.scope was.here in
          let same : stays.scope ≡ now.scope = same_Some stays.scope now.scope (sym stays.told ∙ now.here) in
          subst (λ (u : Opened). ends_of u.ends (place j) ≡ e (place j)) same
          (still e (ends_of was.scope.ends) (ends_of stays.scope.ends) stays.grows.ends (subst (λ (u : Opened). Extends (ends_of u.ends) e) (sym same) now.kept) (place j)
          (w.passed was.scope was.here j earlier))

      sources : SameControls (out-Graph s0.graph).controls a (ends_of now.scope.ends) e
      sources n c h to = let source = ordered.flow.ordered.forward i less n c h to in rw source.2 at (passed_now source.0 source.1)

      feeding : SameLines (out-Graph s0.graph).lines a (ends_of now.scope.ends) e
      feeding n l h to c from_ = let source = ordered.flow.fed i less n l h to c from_ in rw source.2 at (passed_now source.0 source.1)

      join_told : join_in now.scope placed_x ≡ join_of s0.graph e a x
      join_told =
          ap (λ (k : Graph). join_of k (ends_of now.scope.ends) a x) now.grown.graph
          ∙ ap (joined x.join) (values_same known (out-Graph s0.graph).controls (ends_of now.scope.ends) e a (out-Graph s0.graph).controls sources)

      joined_told : (v : Bool) → join_of s0.graph e a x ≡ Some v → option_and_then (joined_at v x.name) (told b lines p) ≡ Some placed_x
      joined_told v join =
          ap (option_and_then (joined_at v x.name)) now.here
          ∙ joined_here b.templates d s0.graph right.well acts a x is v now.scope now.grown.graph (join_told ∙ join)

      active_told : join_of s0.graph e a x ≡ Some true → is_fed (out-Graph s0.graph).lines a e ≡ true → is_active now.scope placed_x ≡ true
      active_told join fed_ =
          both_true (is_known true (join_in now.scope placed_x)) (is_fed (out-Graph now.scope.graph).lines a (ends_of now.scope.ends))
          (known_as true (join_in now.scope placed_x) (join_told ∙ join))
          (ap (λ (k : Graph). is_fed (out-Graph k).lines a (ends_of now.scope.ends)) now.grown.graph
          ∙ is_fed_same (out-Graph s0.graph).lines a (ends_of now.scope.ends) e feeding ∙ fed_)

      abbrev ended_as : SourceEnd → Told
      ended_as end_ = changed (told b lines) p (with_end a end_)

      dead_taken : fates a ≡ fate.Dead → taken b (told b lines) (Dead p x.name) ≡ Some (ended_as end.Dead)
      dead_taken dead =
          cond-true (p.root == b.root) _ None own_line
          ∙ ap (option_map (λ (y : Placed). changed (told b lines) p (with_end y.place end.Dead))) (joined_told false (fate_of.dead.0 dead))

      finished_taken : (n : ℕ) (out : Container) → join_of s0.graph e a x ≡ Some true → final_at b (told b lines) p n placed_x ≡ Some out
          → taken b (told b lines) (Finished p x.name n) ≡ Some (ended_as (end.Finished out))
      finished_taken n out join is_final =
          cond-true (p.root == b.root) _ None own_line
          ∙ ap (option_and_then (λ (y : Placed). option_map (λ (o : Container). changed (told b lines) p (with_end y.place (end.Finished o))) (final_at b (told b lines) p n y)))
          (joined_told true join)
          ∙ ap (option_map (λ (o : Container). changed (told b lines) p (with_end a (end.Finished o)))) is_final

      inside_ends : a < length now.scope.ends
      inside_ends =
          let within = slice_get_within (out-Graph s0.graph).activities a x is in
          let long = right.long in
          let same = now.grown.long in
          omega (arith, within, long, same)

      -- the walk with a line more
      walk_on : (line : CertLine) → IsLineRead total most line → (end_ : SourceEnd) → e a ≡ end_ → taken b (told b lines) line ≡ Some (ended_as end_) → Walk (suc i)
      walk_on line line_read end_ ended takes =
          let one = one_more b total most lines more.good line line_read (ended_as end_) takes in
          record {
            lines = lines ++ line ∷ [];
            longer = longer_on b total most before lines (lines ++ line ∷ []) all_more one;
            passed = λ s is_told j before_. subst (λ (u : Opened). ends_of u.ends (place j) ≡ e (place j)) (same_Some (with_end a end_ now.scope) s (sym told_now ∙ is_told)) (ended_at j before_);
          }
        where
          told_now : told b (lines ++ line ∷ []) p ≡ Some (with_end a end_ now.scope)
          told_now =
              ap (λ (t : Told). t p) (told_more b lines line (ended_as end_) takes)
              ∙ cond-true (same_path p p) (option_map (with_end a end_) (told b lines p)) (told b lines p) (same_itself p)
              ∙ ap (option_map (with_end a end_)) now.here

          ended_at : (j : ℕ) → j < suc i → ends_of (slice_set now.scope.ends a end_) (place j) ≡ e (place j)
          ended_at j before_ = elim (cases_lt j i) [
            | inl earlier ↦ elim (set_cases now.scope.ends a (place j) end_) [
              | inl changed_ ↦ changed_.1 ∙ sym ended ∙ sym (ap e changed_.0)
              | inr same ↦ same ∙ passed_now j earlier
            ]
            | inr last ↦
                let at_i : j ≡ i = omega (arith, before_, last) in
                ap (λ (k : ℕ). ends_of (slice_set now.scope.ends a end_) (place k)) at_i
                ∙ set_here now.scope.ends a end_ inside_ends ∙ sym ended ∙ ap (λ (k : ℕ). e (place k)) (sym at_i)
          ]

    -- ---- the line of the activity

    -- a line that tells how it has ended follows, behind lines of scopes inside
    record LineFollows (line : CertLine) (end_ : SourceEnd) : Type 0 where
      lines : List CertLine
      more : Longer b total most w.lines lines
      takes : taken b (told b lines) line ≡ Some (changed (told b lines) p (with_end a end_))

    own_walk : Longer b total most w.lines w.lines
    own_walk = longer_none b total most w.lines w.longer.good

    dead_follows : fates a ≡ fate.Dead → LineFollows (Dead p x.name) end.Dead
    dead_follows dead = record { lines = w.lines; more = own_walk; takes = dead_taken w.lines own_walk dead }

    module _ (n : ℕ) (out : Container) (finished : fates a ≡ fate.Finished n) (ended : e a ≡ end.Finished out) where
      join_true : join_of s0.graph e a x ≡ Some true
      join_true = ((fate_of.finished n).0 finished).0

      counted : length (outs a x) ≡ n
      counted = ((fate_of.finished n).0 finished).1

      last_is : last_or None (outs a x) ≡ Some out
      last_is = ((end_of.finished out).0 ended).2

      closes : holds x.exit out ≡ true
      closes =
          let parts = (fate_of.finished n).0 finished in
          let same : parts.2 ≡ out = same_Some parts.2 out (sym parts.3 ∙ last_is) in
          ap (holds x.exit) (sym same) ∙ parts.4

      final_follows : (lines : List CertLine) → Longer b total most w.lines lines → final_at b (told b lines) p n placed_x ≡ Some out → LineFollows (Finished p x.name n) (end.Finished out)
      final_follows lines more is_final = record { lines = lines; more = more; takes = finished_taken lines more n out join_true is_final }

      -- a program

      module _ (program : ProgramWork) (runs : x.work ≡ Program program) where
        abbrev given : ℕ → Option Container
        given j = accepted b.facts (below p (part x.name j))

        gives_given : (j : ℕ) (input : Container) → 1 ≤ j → j ≤ most → gives b.templates known (output b.templates d) x.name x.work j input ≡ given j
        gives_given j input pos le =
            ap (λ (work : Work). gives b.templates known (output b.templates d) x.name work j input) runs
            ∙ right.given (part x.name j ∷ [])
            ∙ sym (accepted_is most bounded b.root (below p (part x.name j)) (below_read most p x.name j bounded read (acts.named a x is) pos le) own_root b.facts own)

        program_final : (t : Told) → final_at b t p n placed_x ≡ Some out
        program_final t =
            let first = base_of s0.graph x a s0.input e in
            let bound = right.bound in
            let some = some_last (outs a x) out last_is in
            ap (λ (work : Work). final x.exit (gave b t p x.name work) n) runs
            ∙ ap (final x.exit given) (sym counted)
            ∙ chain_final x.exit given (length (outs a x)) out some
            (tries_chain (gives b.templates known (output b.templates d) x.name x.work) (trial s0.graph a x first) given most gives_given
            base.most 1 first out None (omega arith) (omega (arith, bound)) some last_is closes)

        program_follows : LineFollows (Finished p x.name n) (end.Finished out)
        program_follows = final_follows w.lines own_walk (program_final (told b w.lines))

      -- a block or process activity

      all_fed : is_fed (out-Graph s0.graph).lines a e ≡ true
      all_fed =
          fed_where_known b.templates known (output b.templates d) s0.graph s0.input ordered.order ordered.flow (λ k c less_ v h. h) ordered.wired
          (settled_inside b.templates d known s0.graph s0.input) a
          (known_values x (values_into (out-Graph s0.graph).controls e a) (ap is_none join_true))

      inner_follows : (h : Graph) → graph_in b.templates x.work ≡ Some h → LineFollows (Finished p x.name n) (end.Finished out)
      inner_follows h runs =
          let at_walk = now w.lines own_walk in
          let made = final_told b g total most bounded is_root well own p read own_root d inside base s0 right acts a x is h runs (ap is_open finished) all_fed
          w.lines w.longer.good at_walk.scope at_walk.here at_walk.grown (active_told w.lines own_walk join_true all_fed) n out counted last_is closes in
          final_follows made.later made.longer made.is_final

      finished_follows : LineFollows (Finished p x.name n) (end.Finished out)
      finished_follows = by_work x.work refl
        where
          no_graph : (t : ℕ) → x.work ≡ Process t → graph_in b.templates (Process t) ≡ None → LineFollows (Finished p x.name n) (end.Finished out)
          no_graph t runs none =
              let first = base_of s0.graph x a s0.input e in
              let gives_nothing : gives b.templates known (output b.templates d) x.name x.work 1 first ≡ None =
              ap (λ (work : Work). gives b.templates known (output b.templates d) x.name work 1 first) runs
              ∙ ap (λ (o : Option Graph). scope_gives known (output b.templates d) o (part x.name 1) first) none in
              absurd (none-some out (ap (last_or None) (sym (no_tries (gives b.templates known (output b.templates d) x.name x.work) (trial s0.graph a x first) base.most 1 first gives_nothing)) ∙ last_is))

          by_graph : (t : ℕ) → x.work ≡ Process t → (o : Option Graph) → graph_in b.templates (Process t) ≡ o → LineFollows (Finished p x.name n) (end.Finished out)
          by_graph t runs None none = no_graph t runs none
          by_graph t runs (Some h) has = inner_follows h (ap (graph_in b.templates) runs ∙ has)

          by_work : (work : Work) → x.work ≡ work → LineFollows (Finished p x.name n) (end.Finished out)
          by_work (Program program) runs = program_follows program runs
          by_work (Block h) runs = inner_follows h (ap (graph_in b.templates) runs)
          by_work (Process t) runs = by_graph t runs (graph_in b.templates (Process t)) refl

    few_attempts : (n : ℕ) → fates a ≡ fate.Finished n → n ≤ most
    few_attempts n finished =
        let long = ((fate_of.finished n).0 finished).1 in
        let bound = right.bound in
        let few = tries_few (gives b.templates known (output b.templates d) x.name x.work) (trial s0.graph a x (base_of s0.graph x a s0.input e)) base.most 1 (base_of s0.graph x a s0.input e) in
        omega (arith, long, bound, few)

    -- the walk as it is, where the activity isn't settled
    walk_past : e a ≡ end.Unsettled → Walk (suc i)
    walk_past ended = record {
      lines = w.lines;
      longer = w.longer;
      passed = λ s is_told j before_. elim (cases_lt j i) [
        | inl earlier ↦ w.passed s is_told j earlier
        | inr last ↦
            let at_i : j ≡ i = omega (arith, before_, last) in
            ap (λ (k : ℕ). ends_of s.ends (place k)) at_i ∙ not_yet s is_told ∙ ap (λ (k : ℕ). e (place k)) (sym at_i)
      ];
    }
      where
        not_yet : (s : Opened) → told b w.lines p ≡ Some s → ends_of s.ends a ≡ e a
        not_yet s is_told =
            let was = later w.lines w.longer in
            let same : was.scope ≡ s = same_Some was.scope s (sym was.here ∙ is_told) in
            by_end (subst (λ (u : Opened). Extends (ends_of u.ends) e) same was.kept) (ends_of s.ends a) refl
          where
            by_end : Extends (ends_of s.ends) e → (t : SourceEnd) → ends_of s.ends a ≡ t → ends_of s.ends a ≡ e a
            by_end kept end.Unsettled told_ = told_ ∙ sym ended
            by_end kept end.Dead told_ = sym (kept.kept a (ap is_settled told_))
            by_end kept (end.Finished out) told_ = sym (kept.kept a (ap is_settled told_))

    next_walk : Walk (suc i)
    next_walk = by_end (e a) refl
      where
        by_end : (t : SourceEnd) → e a ≡ t → Walk (suc i)
        by_end end.Unsettled ended = walk_past ended
        by_end end.Dead ended =
            let f = dead_follows (end_of.dead.0 ended) in
            walk_on f.lines f.more (Dead p x.name) (read, acts.named a x is) end.Dead ended f.takes
        by_end (end.Finished out) ended =
            let parts = (end_of.finished out).0 ended in
            let f = finished_follows parts.0 out parts.1 ended in
            walk_on f.lines f.more (Finished p x.name parts.0) (read, acts.named a x is, few_attempts parts.0 parts.1) (end.Finished out) ended f.takes

    follows_certified : (line : CertLine) (end_ : SourceEnd) → IsLineRead total most line → LineFollows line end_ → HasCertificate b total most line
    follows_certified line end_ line_read f =
        let one = one_more b total most f.lines f.more.good line line_read (changed (told b f.lines) p (with_end a end_)) f.takes in
        record { before = f.lines; read = one.good.read; justified = one.good.justified }

    line_certified : IsCertified b total most p x.name (fates a)
    line_certified = record {
      dead = λ dead. follows_certified (Dead p x.name) end.Dead (read, acts.named a x is) (dead_follows dead);
      finished = λ n finished.
          let parts = (fate_of.finished n).0 finished in
          let ended : e a ≡ end.Finished parts.2 = (end_of.finished parts.2).1 (n, finished, parts.3) in
          follows_certified (Finished p x.name n) (end.Finished parts.2) (read, acts.named a x is, few_attempts n finished) (finished_follows n parts.2 finished ended);
    }

  -- ---- all activities

  first_walk : Walk 0
  first_walk = record {
    lines = before;
    longer = longer_none b total most before good;
    passed = λ s is_told j less. absurd (omega (arith, less));
  }

  walk : (i : ℕ) → i ≤ length ordered.order → Walk i
  walk zero le = first_walk
  walk (suc i) le =
      let less : i < length ordered.order = omega (arith, le) in
      let x = activity_in s0.graph (place i) (ordered.flow.ordered.in_range i 0 less) in
      next_walk i less (walk i (omega (arith, le))) x.0 x.1

  pub all_certified : (a : ℕ) (x : Activity) → slice_get (out-Graph s0.graph).activities a ≡ Some x → IsCertified b total most p x.name (fates a)
  all_certified a x is =
      let at_ = ordered.flow.ordered.covers a (slice_get_within (out-Graph s0.graph).activities a x is) in
      subst (λ (c : ℕ). IsCertified b total most p x.name (fates c)) at_.2
      (line_certified at_.0 at_.1 (walk at_.0 (omega (arith, at_.1))) x (ap (slice_get (out-Graph s0.graph).activities) at_.2 ∙ is))

  -- all that the completions say of the ends is told
  pub whole : Whole b (root_in b g total most) total most before p
  whole =
      let all = walk (length ordered.order) (omega arith) in
      let l = later all.lines all.longer in
      let r = right_scope b g total most bounded is_root well own all.lines all.longer.good p l.scope read l.here in
      let same : st ≡ standing_of r.depth r.base l.scope = same_Some st (standing_of r.depth r.base l.scope) (sym right.there ∙ r.right.there) in
      record {
        lines = all.lines;
        longer = all.longer;
        scope = l.scope;
        here = l.here;
        right = r;
        all = λ a. all_told all l.scope l.here l.grown a ∙ ap (λ (u : Standing). ends_in b.templates u a) same;
      }
    where
      all_told : (w : Walk (length ordered.order)) (s : Opened) → told b w.lines p ≡ Some s → Grows s0 s → (a : ℕ) → ends_of s.ends a ≡ e a
      all_told w s is_told grown a = elim (cases_lt a (length (out-Graph s0.graph).activities)) [
        | inl within ↦
            let at_ = ordered.flow.ordered.covers a within in
            ap (ends_of s.ends) (sym at_.2) ∙ w.passed s is_told at_.0 at_.1 ∙ ap e at_.2
        | inr past ↦
            let long = right.long in
            let same = grown.long in
            ap (λ (o : Option SourceEnd). unwrap_or o end.Unsettled) (slice_get_past s.ends a (omega (arith, past, long, same)))
            ∙ sym (unsettled_past b.templates known (output b.templates d) s0.graph s0.input (length (out-Graph s0.graph).activities) a past)
      ]
