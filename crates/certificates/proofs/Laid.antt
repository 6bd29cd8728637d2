-- The graphs of the scopes that are told of are laid out right at every depth, where those of the templates are.
use Rattle.std.proofs.Common.{◌≡◌, ℕ, zero, suc, ◌-◌, ◌==◌, Bool, true, false, cond, List, length, Option, Some, None, refl, sym, subst}
use Rattle.std.specs.Prelude.{IfSome, option_map, option_and_then, slice_get, nat_lt, position, bytes_eq, ◌^◌}
use Rattle.std.specs.List.{All}
use Rattle.std.specs.Option.{option_or}
use Rattle.std.proofs.lemmas.Option.{get_or_from_slice_get, slice_get_within}
use Rattle.flow_model.specs.declared.graphs.Activity.{Activity}
use Rattle.flow_model.specs.declared.graphs.Graph.{Graph, out-Graph}
use Rattle.flow_model.specs.declared.graphs.Template.{Template}
use Rattle.flow_model.specs.declared.instances.Part.{Part}
use Rattle.flow_model.specs.declared.instances.Path.{Path}
use Rattle.flow_model.specs.declared.instances.SourceEnd.TheVariants as end
use Rattle.flow_model.specs.declared.names.Name.{Name}
use Rattle.flow_model.specs.Conditions.{holds}
use Rattle.flow_model.specs.Rows.{below}
use Rattle.flow_model.specs.Scopes.{part}
use Rattle.flow_model.specs.ScopeContainers.{graph_in, looped}
use Rattle.fate_laws.specs.Layout.{IsLaid, Laid, OfInside}
use Rattle.certificates.specs.declared.lines.CertLine.{CertLine}
use Rattle.certificates.specs.declared.lines.CertLine.TheVariants.{Scope, Dead, Finished, Ended}
use Rattle.certificates.specs.Told.{Opened, Told, Basis, Placed, opened, same_path, beginning, changed, with_end, with_output, placed, activity_at, first_input, is_active, first_start, attempt_start, start_after, next_start, start, joined_at, final_at, scope_gives, last_part, outer, inner_begins, root_begins, root_graph, begins_as, begins, line_scope, next, taken}
use Rattle.certificates.specs.Kept.{AreLaid, AreLaidTemplates}

-- ---- what holds of the value of an option

pub and_then_if : {X Y : Type 0} (Q : Y → Type 0) (f : X → Option Y) (o : Option X) → ((x : X) → o ≡ Some x → IfSome (f x) Q) → IfSome (option_and_then f o) Q
and_then_if Q f None h = tt
and_then_if Q f (Some x) h = h x refl

pub map_if : {X Y : Type 0} (Q : Y → Type 0) (f : X → Y) (o : Option X) → ((x : X) → o ≡ Some x → Q (f x)) → IfSome (option_map f o) Q
map_if Q f None h = tt
map_if Q f (Some x) h = h x refl

pub if_is : {X : Type 0} (Q : X → Type 0) (o : Option X) → ((x : X) → o ≡ Some x → Q x) → IfSome o Q
if_is Q None h = tt
if_is Q (Some x) h = h x refl

pub cond_if : {X : Type 0} (Q : X → Type 0) (b : Bool) (o p : Option X) → IfSome o Q → IfSome p Q → IfSome (cond b o p) Q
cond_if Q true o p y n = y
cond_if Q false o p y n = n

pub at_some : {X : Type 0} (Q : X → Type 0) (o : Option X) (x : X) → o ≡ Some x → IfSome o Q → Q x
at_some {X = X} Q o x is h = let P : Option X → Type 0 = λ v. IfSome v Q in subst P is h

-- ---- activities by their names

-- what stands at the place of an activity is the activity
pub stands : (g : Graph) (name : Name) (x : Placed) → activity_at g name ≡ Some x → slice_get (out-Graph g).activities x.place ≡ Some x.activity
stands g name x is = at_some (λ y. slice_get (out-Graph g).activities y.place ≡ Some y.activity) (activity_at g name) x is (and_then_if (λ y. slice_get (out-Graph g).activities y.place ≡ Some y.activity) (placed g) (position (λ y. bytes_eq y.name name) (out-Graph g).activities) (λ a here. in_place a))
  where
    in_place : (a : ℕ) → IfSome (placed g a) (λ y. slice_get (out-Graph g).activities y.place ≡ Some y.activity)
    in_place a = cond_if (λ y. slice_get (out-Graph g).activities y.place ≡ Some y.activity) (nat_lt a (2 ^ 32)) (option_map (λ y. record { place = a; activity = y }) (slice_get (out-Graph g).activities a)) None
        (map_if (λ y. slice_get (out-Graph g).activities y.place ≡ Some y.activity) (λ y. record { place = a; activity = y }) (slice_get (out-Graph g).activities a) (λ y is. is)) tt

-- ---- scopes

module _ (ts : List Template) where
  abbrev pub IsLaidThrough : Graph → Type 0
  IsLaidThrough g = (depth : ℕ) → Laid ts depth g

  abbrev pub IsLaidScope : Opened → Type 0
  IsLaidScope s = IsLaidThrough s.graph

  abbrev pub IsLaidTemplate : Template → Type 0
  IsLaidTemplate u = IsLaidThrough u.graph

  abbrev pub AreLaidThrough : Told → Type 0
  AreLaidThrough t = (p : Path) → IfSome (t p) IsLaidScope

  pub laid_here : (t : Told) → AreLaidThrough t → AreLaid t
  laid_here t laid p = here (t p) (laid p)
    where
      here : (o : Option Opened) → IfSome o IsLaidScope → IfSome o (λ s. IsLaid s.graph)
      here None h = tt
      here (Some s) h = (h zero).here

  -- the graph that an activity runs is laid out right
  pub laid_inside : (g h : Graph) (x : Placed) → IsLaidThrough g → slice_get (out-Graph g).activities x.place ≡ Some x.activity → graph_in ts x.activity.work ≡ Some h → IsLaidThrough h
  laid_inside g h x laid stands runs depth =
      let P : Option Activity → Type 0 = λ o. OfInside ts (Laid ts depth) o in
      subst P stands ((laid (suc depth)).inside x.place) h runs

  beginning_laid : (t : Told) (p : Path) (s : Opened) → AreLaidThrough t → IsLaidThrough s.graph → AreLaidThrough (beginning t p s)
  beginning_laid t p s laid new q = cond_if IsLaidScope (same_path p q) (option_or (t q) (Some s)) (t q) (either (t q) (laid q)) (laid q)
    where
      either : (o : Option Opened) → IfSome o IsLaidScope → IfSome (option_or o (Some s)) IsLaidScope
      either None h = new
      either (Some old) h = h

  changed_laid : (t : Told) (p : Path) (f : Opened → Opened) → ((s : Opened) → (f s).graph ≡ s.graph) → AreLaidThrough t → AreLaidThrough (changed t p f)
  changed_laid t p f same laid q =
      cond_if IsLaidScope (same_path p q) (option_map f (t q)) (t q)
      (map_if IsLaidScope f (t q) (λ s is. subst IsLaidThrough (sym (same s)) (at_some IsLaidScope (t q) s is (laid q)))) (laid q)

  module _ (b : Basis) (all : AreLaidTemplates ts) (of : b.templates ≡ ts) (t : Told) (laid : AreLaidThrough t) where
    told_laid : (p : Path) (s : Opened) → t p ≡ Some s → IsLaidThrough s.graph
    told_laid p s is = at_some IsLaidScope (t p) s is (laid p)

    first_laid : (s : Opened) (x : Placed) → IsLaidThrough s.graph → slice_get (out-Graph s.graph).activities x.place ≡ Some x.activity → IfSome (first_start ts s x) IsLaidScope
    first_laid s x here is = map_if IsLaidScope (λ g. opened g (first_input s x)) (graph_in ts x.activity.work) (λ g runs. laid_inside s.graph g x here is runs)

    next_laid_after : (s : Opened) (x : Placed) (last : Opened) → IsLaidThrough last.graph → IfSome (next_start s x last) IsLaidScope
    next_laid_after s x last here =
        and_then_if IsLaidScope (start_after s x last) last.output (λ out is. cond_if IsLaidScope (holds x.activity.exit out) None (Some (opened last.graph (looped (out-Graph s.graph).loops x.place out (first_input s x)))) tt here)

    start_laid : (p : Path) (q : Part) (s : Opened) (x : Placed) → IsLaidThrough s.graph → slice_get (out-Graph s.graph).activities x.place ≡ Some x.activity
        → IfSome (start ts t p q s x) IsLaidScope
    start_laid p q s x here is =
        cond_if IsLaidScope (is_active s x) (attempt_start ts t p q s x) None
        (cond_if IsLaidScope (q.attempt == 0) None (cond (q.attempt == 1) (first_start ts s x) (option_and_then (next_start s x) (t (below p (part q.name (q.attempt - 1)))))) tt
        (cond_if IsLaidScope (q.attempt == 1) (first_start ts s x) (option_and_then (next_start s x) (t (below p (part q.name (q.attempt - 1))))) (first_laid s x here is)
        (and_then_if IsLaidScope (next_start s x) (t (below p (part q.name (q.attempt - 1)))) (λ last there. next_laid_after s x last (told_laid (below p (part q.name (q.attempt - 1))) last there)))))
        tt

    inner_laid : (p : Path) (q : Part) → IfSome (inner_begins b t p q) IsLaidScope
    inner_laid p q =
        subst (λ us. IfSome (option_and_then (λ s. option_and_then (start us t p q s) (activity_at s.graph q.name)) (t p)) IsLaidScope) (sym of)
        (and_then_if IsLaidScope (λ s. option_and_then (start ts t p q s) (activity_at s.graph q.name)) (t p)
        (λ s is. and_then_if IsLaidScope (start ts t p q s) (activity_at s.graph q.name) (λ x at_name. start_laid p q s x (told_laid p s is) (stands s.graph q.name x at_name))))

    template_laid : (us : List Template) (k : ℕ) → ((depth : ℕ) → All (λ u. Laid ts depth u.graph) us) → IfSome (slice_get us k) IsLaidTemplate
    template_laid us k each = if_is IsLaidTemplate (slice_get us k) (λ u is. λ depth. subst (λ (y : Template). Laid ts depth y.graph) (get_or_from_slice_get us k u u is) (each depth k u (slice_get_within us k u is)))

    root_laid : IfSome (root_begins b) IsLaidScope
    root_laid =
        map_if IsLaidScope (λ g. opened g b.input) (root_graph b)
        (λ g is. at_some IsLaidThrough (root_graph b) g is (map_if IsLaidThrough (λ (x : Template). x.graph) (slice_get b.templates b.template)
        (λ x there. at_some IsLaidTemplate (slice_get b.templates b.template) x there (template_laid b.templates b.template (subst (λ us. (depth : ℕ) → All (λ u. Laid ts depth u.graph) us) (sym of) all)))))

    begins_laid : (p : Path) (o : Option Part) → IfSome (begins_as b t p o) IsLaidScope
    begins_laid p None = root_laid
    begins_laid p (Some q) = inner_laid p q

    -- so they are after a line
    pub next_laid : (line : CertLine) → IfSome (next b t line) AreLaidThrough
    next_laid (Scope p) = map_if AreLaidThrough (beginning t p) (begins b t p) (λ s is. beginning_laid t p s laid (at_some IsLaidScope (begins b t p) s is (begins_laid (outer p) (last_part p))))
    next_laid (Dead p name) = map_if AreLaidThrough (λ x. changed t p (with_end x.place end.Dead)) (option_and_then (joined_at false name) (t p)) (λ x is. changed_laid t p (with_end x.place end.Dead) (λ s. refl) laid)
    next_laid (Finished p name n) =
        and_then_if AreLaidThrough (λ x. option_map (λ out. changed t p (with_end x.place (end.Finished out))) (final_at b t p n x)) (option_and_then (joined_at true name) (t p))
        (λ x is. map_if AreLaidThrough (λ out. changed t p (with_end x.place (end.Finished out))) (final_at b t p n x) (λ out given. changed_laid t p (with_end x.place (end.Finished out)) (λ s. refl) laid))
    next_laid (Ended p) =
        cond_if AreLaidThrough (length p.parts == 0) None (option_map (λ out. changed t p (with_output out)) (option_and_then scope_gives (t p))) tt
        (map_if AreLaidThrough (λ out. changed t p (with_output out)) (option_and_then scope_gives (t p)) (λ out given. changed_laid t p (with_output out) (λ s. refl) laid))

    pub taken_laid : (line : CertLine) → IfSome (taken b t line) AreLaidThrough
    taken_laid line = cond_if AreLaidThrough ((line_scope line).root == b.root) (next b t line) None (next_laid line) tt
