-- What is told of a scope only grows, and what follows from it once follows from it later.
use Rattle.std.proofs.Common.{◌≡◌, ◌⊎◌, ℕ, zero, suc, ◌+◌, ◌-◌, ◌<◌, ◌≤◌, ◌==◌, Bool, true, false, not, ◌&&◌, if◌then◌else◌, List, [], ◌∷◌, ◌++◌, length, map, append_assoc, decimal, Option, Some, None, refl, sym, ap, ◌∙◌, arith, inl, inr}
use Rattle.std.specs.Prelude.{option_map, option_and_then, is_some, is_none, unwrap_or, bytes_eq}
use Rattle.std.specs.List.{filter, list_any, list_all}
use Rattle.std.proofs.Math.Path.{fun_ext}
use Rattle.std.proofs.lemmas.Bool.{cases_lt, false≢true, cond-true, cond-false}
use Rattle.std.proofs.lemmas.List.{append-nil}
use Rattle.std.proofs.lemmas.Option.{same_Some, none-some, slice_get_past}
use Rattle.flow_model.specs.declared.graphs.Activity.{Activity}
use Rattle.flow_model.specs.declared.graphs.Container.{Container}
use Rattle.flow_model.specs.declared.graphs.Control.{Control}
use Rattle.flow_model.specs.declared.graphs.Expr.{Expr}
use Rattle.flow_model.specs.declared.graphs.Graph.{Graph, out-Graph}
use Rattle.flow_model.specs.declared.graphs.MapEnd.TheVariants.{Border}
use Rattle.flow_model.specs.declared.graphs.Template.{Template}
use Rattle.flow_model.specs.declared.graphs.Work.{Work, Program, Block, Process}
use Rattle.flow_model.specs.declared.instances.Fact.{Fact}
use Rattle.flow_model.specs.declared.instances.Part.{Part}
use Rattle.flow_model.specs.declared.instances.Path.{Path}
use Rattle.flow_model.specs.declared.instances.SourceEnd.{SourceEnd}
use Rattle.flow_model.specs.declared.instances.SourceEnd.TheVariants as end
use Rattle.flow_model.specs.declared.names.Name.{Name}
use Rattle.flow_model.specs.Conditions.{holds}
use Rattle.flow_model.specs.Containers.{fresh, with_return_code}
use Rattle.flow_model.specs.Fates.{Ends, is_settled}
use Rattle.flow_model.specs.Paths.{part_spelling, parts_spelling, spelling}
use Rattle.flow_model.specs.Rows.{below}
use Rattle.flow_model.specs.ScopeContainers.{fed, graph_in, looped, up_to}
use Rattle.flow_model.specs.Scopes.{part, is_fed}
use Rattle.blocks_subprocs.specs.Ends.{ends_of}
use Rattle.fate_laws.specs.Equations.{value_in, values_into, join_of}
use Rattle.fate_laws.proofs.Extends.{Extends, value_kept, or_false, joined_kept, and_true, both_true}
use Rattle.fate_laws.proofs.Steps.{fed_kept}
use Rattle.certificates.specs.Told.{Opened, Told, Basis, Placed, opened, accepted, activity_at, join_in, first_input, is_known, joined_at, is_active, first_start, start_after, next_start, attempt_start, start, gave, goes_on, stops, final, final_at, last_part, outer, inner_begins, begins_as, begins, scope_gives}

-- ---- the parts of what is computed step by step

pub and_then_parts : {X Y : Type 0} (f : X → Option Y) (o : Option X) (y : Y) → option_and_then f o ≡ Some y → (x : X) × (o ≡ Some x) × (f x ≡ Some y)
and_then_parts f None y h = absurd (none-some y h)
and_then_parts f (Some x) y h = (x, refl, h)

pub map_parts : {X Y : Type 0} (f : X → Y) (o : Option X) (y : Y) → option_map f o ≡ Some y → (x : X) × (o ≡ Some x) × (f x ≡ y)
map_parts f None y h = absurd (none-some y h)
map_parts f (Some x) y h = (x, refl, same_Some (f x) y h)

pub if_parts : {X : Type 0} (b : Bool) (o : Option X) (x : X) → (if b then o else None) ≡ Some x → (b ≡ true) × (o ≡ Some x)
if_parts true o x h = (refl, h)
if_parts false o x h = absurd (none-some x h)

pub not_if_parts : {X : Type 0} (b : Bool) (o : Option X) (x : X) → (if b then None else o) ≡ Some x → (b ≡ false) × (o ≡ Some x)
not_if_parts true o x h = absurd (none-some x h)
not_if_parts false o x h = (refl, h)

-- ---- one scope

-- what is told of a scope, and what is told of it later
pub record Grows (s s' : Opened) : Type 0 where
  pub graph : s'.graph ≡ s.graph
  pub input : s'.input ≡ s.input
  pub long : length s'.ends ≡ length s.ends
  pub ends : Extends (ends_of s.ends) (ends_of s'.ends)
  pub output : (out : Container) → s.output ≡ Some out → s'.output ≡ Some out

pub grows_none : (s : Opened) → Grows s s
grows_none s = record { graph = refl; input = refl; long = refl; ends = record { kept = λ a settled. refl }; output = λ out is. is }

values_kept : (controls : List Control) (e e' : Ends) → Extends e e' → (cs : List Control) → list_any is_none (map (value_in controls e) cs) ≡ false
    → map (value_in controls e') cs ≡ map (value_in controls e) cs
values_kept controls e e' x [] known = refl
values_kept controls e e' x (c ∷ cs) known =
    let both = or_false (is_none (value_in controls e c)) _ known in
    let one : value_in controls e' c ≡ value_in controls e c = value_kept controls c (e c.from) (e' c.from) (x.kept c.from) both.0 in
    let rest = values_kept controls e e' x cs both.1 in
    rw (one, rest) refl

join_kept : (g : Graph) (e e' : Ends) (a : ℕ) (activity : Activity) (b : Bool) → Extends e e' → join_of g e a activity ≡ Some b → join_of g e' a activity ≡ Some b
join_kept g e e' a activity b x is =
    joined_kept activity.join (values_into (out-Graph g).controls e a) (values_into (out-Graph g).controls e' a)
    (λ known. values_kept (out-Graph g).controls e e' x (filter (λ c. c.to == a) (out-Graph g).controls) known) (ap is_none is) ∙ is

known_so : (b : Bool) (v : Option Bool) → is_known b v ≡ true → v ≡ Some b
known_so true None h = absurd (false≢true h)
known_so false None h = absurd (false≢true h)
known_so true (Some v) h = ap Some h
known_so false (Some true) h = absurd (false≢true h)
known_so false (Some false) h = refl

known_as : (b : Bool) (v : Option Bool) → v ≡ Some b → is_known b v ≡ true
known_as true v is = ap (is_known true) is
known_as false v is = ap (is_known false) is

-- an activity whose join is known to be so
pub joined_parts : (b : Bool) (name : Name) (s : Opened) (x : Placed) → joined_at b name s ≡ Some x → (activity_at s.graph name ≡ Some x) × (join_in s x ≡ Some b)
joined_parts b name s x is =
    let found = and_then_parts (λ y. if is_known b (join_in s y) then Some y else None) (activity_at s.graph name) x is in
    let known = if_parts (is_known b (join_in s found.0)) (Some found.0) x found.2 in
    let same = same_Some found.0 x known.1 in
    (found.1 ∙ ap Some same, ap (join_in s) (sym same) ∙ known_so b (join_in s found.0) known.0)

joined_by : (b : Bool) (name : Name) (s : Opened) (x : Placed) → activity_at s.graph name ≡ Some x → join_in s x ≡ Some b → joined_at b name s ≡ Some x
joined_by b name s x named join =
    ap (option_and_then (λ y. if is_known b (join_in s y) then Some y else None)) named
    ∙ cond-true (is_known b (join_in s x)) (Some x) None (known_as b (join_in s x) join)

settled_each : (l : List SourceEnd) (a : ℕ) → list_all is_settled l ≡ true → a < length l → is_settled (ends_of l a) ≡ true
settled_each [] a h less = absurd (omega arith)
settled_each (x ∷ l) zero h less = (and_true (is_settled x) _ h).0
settled_each (x ∷ l) (suc a) h less = settled_each l a (and_true (is_settled x) _ h).1 (omega arith)

all_settled : (l : List SourceEnd) → ((a : ℕ) → a < length l → is_settled (ends_of l a) ≡ true) → list_all is_settled l ≡ true
all_settled [] h = refl
all_settled (x ∷ l) h = both_true (is_settled x) (list_all is_settled l) (h zero (omega arith)) (all_settled l (λ a less. h (suc a) (omega arith)))

past_end : (l : List SourceEnd) (a : ℕ) → length l ≤ a → ends_of l a ≡ end.Unsettled
past_end l a le = ap (λ (o : Option SourceEnd). unwrap_or o end.Unsettled) (slice_get_past l a le)

module _ (s s' : Opened) (more : Grows s s') where
  pub join_more : (x : Placed) (b : Bool) → join_in s x ≡ Some b → join_in s' x ≡ Some b
  join_more x b is =
      ap (λ (g : Graph). join_of g (ends_of s'.ends) x.place x.activity) more.graph
      ∙ join_kept s.graph (ends_of s.ends) (ends_of s'.ends) x.place x.activity b more.ends is

  named_more : (name : Name) (x : Placed) → activity_at s.graph name ≡ Some x → activity_at s'.graph name ≡ Some x
  named_more name x is = ap (λ (g : Graph). activity_at g name) more.graph ∙ is

  pub joined_more : (b : Bool) (name : Name) (x : Placed) → joined_at b name s ≡ Some x → joined_at b name s' ≡ Some x
  joined_more b name x is =
      let parts = joined_parts b name s x is in
      joined_by b name s' x (named_more name x parts.0) (join_more x b parts.1)

  active_more : (x : Placed) → is_active s x ≡ true → is_active s' x ≡ true
  active_more x active =
      let both = and_true (is_known true (join_in s x)) _ active in
      both_true (is_known true (join_in s' x)) (is_fed (out-Graph s'.graph).lines x.place (ends_of s'.ends))
      (known_as true (join_in s' x) (join_more x true (known_so true (join_in s x) both.0)))
      (ap (λ (g : Graph). is_fed (out-Graph g).lines x.place (ends_of s'.ends)) more.graph
      ∙ fed_kept (out-Graph s.graph).lines x.place (ends_of s.ends) (ends_of s'.ends) (λ i d less to c from settled. more.ends.kept c settled) both.1)

  -- a scope all of whose ends are told gives the same
  pub gives_more : (out : Container) → scope_gives s ≡ Some out → scope_gives s' ≡ Some out
  gives_more out h =
      cond-true (list_all is_settled s'.ends) (Some (given s'.graph s'.input (ends_of s'.ends))) None (all_settled s'.ends (λ a less. stays a (omega (arith, less, more.long))))
      ∙ ap (λ (g : Graph). Some (given g s'.input (ends_of s'.ends))) more.graph
      ∙ ap (λ (i : Container). Some (given s.graph i (ends_of s'.ends))) more.input
      ∙ ap (λ (e : Ends). Some (given s.graph s.input e)) (fun_ext same)
      ∙ parts.1
    where
      given : Graph → Container → Ends → Container
      given g i e = with_return_code (fed (out-Graph g).lines Border i e (fresh (out-Graph g).output))

      parts : (list_all is_settled s.ends ≡ true) × (Some (given s.graph s.input (ends_of s.ends)) ≡ Some out)
      parts = if_parts (list_all is_settled s.ends) (Some (given s.graph s.input (ends_of s.ends))) out h

      stays : (a : ℕ) → a < length s.ends → is_settled (ends_of s'.ends a) ≡ true
      stays a less =
          let settled = settled_each s.ends a parts.0 less in
          ap is_settled (more.ends.kept a settled) ∙ settled

      same : (a : ℕ) → ends_of s'.ends a ≡ ends_of s.ends a
      same a = at (cases_lt a (length s.ends))
        where
          at : (a < length s.ends) ⊎ (length s.ends ≤ a) → ends_of s'.ends a ≡ ends_of s.ends a
          at (inl inside) = more.ends.kept a (settled_each s.ends a parts.0 inside)
          at (inr outside) = past_end s'.ends a (omega (arith, outside, more.long)) ∙ sym (past_end s.ends a outside)

-- ---- all scopes

-- what is told of a scope later
pub record Stays (t : Told) (p : Path) (s : Opened) : Type 0 where
  pub scope : Opened
  pub told : t p ≡ Some scope
  pub grows : Grows s scope

abbrev pub AllGrow : Told → Told → Type 0
AllGrow t t' = (p : Path) (s : Opened) → t p ≡ Some s → Stays t' p s

goes_on_more : (exit : Option Expr) (o o' : Option Container) → ((out : Container) → o ≡ Some out → o' ≡ Some out) → goes_on exit o ≡ true → goes_on exit o' ≡ true
goes_on_more exit None o' more h = absurd (false≢true h)
goes_on_more exit (Some out) o' more h = ap (goes_on exit) (more out refl) ∙ h

stops_more : (exit : Option Expr) (o o' : Option Container) → ((out : Container) → o ≡ Some out → o' ≡ Some out) → (out : Container) → stops exit o ≡ Some out → stops exit o' ≡ Some out
stops_more exit None o' more out h = absurd (none-some out h)
stops_more exit (Some given) o' more out h = ap (stops exit) (more given refl) ∙ h

each_more : (f g : ℕ → Bool) → ((j : ℕ) → f j ≡ true → g j ≡ true) → (js : List ℕ) → list_all f js ≡ true → list_all g js ≡ true
each_more f g more [] h = refl
each_more f g more (j ∷ js) h =
    let both = and_true (f j) _ h in
    both_true (g j) (list_all g js) (more j both.0) (each_more f g more js both.1)

module _ (exit : Option Expr) (gives : ℕ → Option Container) where
  final_parts : (n : ℕ) (out : Container) → final exit gives n ≡ Some out
      → (not (n == 0) ≡ true) × (list_all (λ j. goes_on exit (gives j)) (up_to (n - 1) 1) ≡ true) × (stops exit (gives n) ≡ Some out)
  final_parts n out h =
      let chosen = if_parts (not (n == 0) && list_all (λ j. goes_on exit (gives j)) (up_to (n - 1) 1)) (stops exit (gives n)) out h in
      let both = and_true (not (n == 0)) _ chosen.0 in
      (both.0, both.1, chosen.1)

  pub final_more : (gives' : ℕ → Option Container) → ((j : ℕ) (out : Container) → gives j ≡ Some out → gives' j ≡ Some out)
      → (n : ℕ) (out : Container) → final exit gives n ≡ Some out → final exit gives' n ≡ Some out
  final_more gives' more n out h =
      let parts = final_parts n out h in
      cond-true (not (n == 0) && list_all (λ j. goes_on exit (gives' j)) (up_to (n - 1) 1)) (stops exit (gives' n)) None
      (both_true (not (n == 0)) (list_all (λ j. goes_on exit (gives' j)) (up_to (n - 1) 1)) parts.0
      (each_more (λ j. goes_on exit (gives j)) (λ j. goes_on exit (gives' j)) (λ j. goes_on_more exit (gives j) (gives' j) (more j)) (up_to (n - 1) 1) parts.1))
      ∙ stops_more exit (gives n) (gives' n) (more n) out parts.2

  -- an attempt behind which no more follows isn't one behind which one more follows
  stops_or_goes : (o : Option Container) (out : Container) → stops exit o ≡ Some out → goes_on exit o ≡ true → ⊥
  stops_or_goes None out h on = false≢true on
  stops_or_goes (Some given) out h on =
      let holds_so = if_parts (holds exit given) (Some given) out h in
      false≢true (ap not (sym holds_so.0) ∙ on)

  all_in : (f : ℕ → Bool) (n k a : ℕ) → list_all f (up_to n k) ≡ true → k ≤ a → a < n + k → f a ≡ true
  all_in f zero k a h low high = absurd (omega arith)
  all_in f (suc n) k a h low high =
      let both = and_true (f k) (list_all f (up_to n (k + 1))) h in
      at_least both.0 (λ more. all_in f n (k + 1) a both.1 (omega arith) (omega arith)) (cases_lt k a)
    where
      at_least : f k ≡ true → (k < a → f a ≡ true) → (k < a) ⊎ (a ≤ k) → f a ≡ true
      at_least here rest (inl more) = rest more
      at_least here rest (inr less) = let same : k ≡ a = omega arith in ap f (sym same) ∙ here

  counted : (n : ℕ) → not (n == 0) ≡ true → 1 ≤ n
  counted zero h = absurd (false≢true h)
  counted (suc n) h = omega arith

  earlier : (n m : ℕ) (out out' : Container) → final exit gives n ≡ Some out → final exit gives m ≡ Some out' → n < m → ⊥
  earlier n m out out' h k less =
      let first = final_parts n out h in
      let second = final_parts m out' k in
      let low = counted n first.0 in
      stops_or_goes (gives n) out first.2 (all_in (λ j. goes_on exit (gives j)) (m - 1) 1 n second.1 low (omega arith))

  -- the last attempt is one
  pub final_one : (n m : ℕ) (out out' : Container) → final exit gives n ≡ Some out → final exit gives m ≡ Some out' → out ≡ out'
  final_one n m out out' h k = at (cases_lt n m) (cases_lt m n)
    where
      at : (n < m) ⊎ (m ≤ n) → (m < n) ⊎ (n ≤ m) → out ≡ out'
      at (inl less) other = absurd (earlier n m out out' h k less)
      at (inr more) (inl less) = absurd (earlier m n out' out k h less)
      at (inr more) (inr less) =
          let same : n ≡ m = omega arith in
          same_Some out out' (sym h ∙ ap (final exit gives) same ∙ k)

module _ (b : Basis) (t t' : Told) (grow : AllGrow t t') where
  output_more : (p : Path) (out : Container) → option_and_then (λ s. s.output) (t p) ≡ Some out → option_and_then (λ s. s.output) (t' p) ≡ Some out
  output_more p out h =
      let found = and_then_parts (λ s. s.output) (t p) out h in
      let later = grow p found.0 found.1 in
      ap (option_and_then (λ s. s.output)) later.told ∙ later.grows.output out found.2

  gave_more : (p : Path) (name : Name) (w : Work) (j : ℕ) (out : Container) → gave b t p name w j ≡ Some out → gave b t' p name w j ≡ Some out
  gave_more p name (Program x) j out h = h
  gave_more p name (Block g) j out h = output_more (below p (part name j)) out h
  gave_more p name (Process k) j out h = output_more (below p (part name j)) out h

  pub final_at_more : (p : Path) (n : ℕ) (x : Placed) (out : Container) → final_at b t p n x ≡ Some out → final_at b t' p n x ≡ Some out
  final_at_more p n x out h =
      final_more x.activity.exit (gave b t p x.activity.name x.activity.work) (gave b t' p x.activity.name x.activity.work)
      (λ j o is. gave_more p x.activity.name x.activity.work j o is) n out h

  -- ---- scopes that begin

  after_more : (s s' last : Opened) (last' : Opened) (x : Placed) (out : Container) (r : Opened) → start_after s x last out ≡ Some r → is_some (start_after s' x last' out) ≡ true
  after_more s s' last last' x out r h =
      let on = not_if_parts (holds x.activity.exit out) (Some (opened last.graph (looped (out-Graph s.graph).loops x.place out (first_input s x)))) r h in
      ap is_some (cond-false (holds x.activity.exit out) None (Some (opened last'.graph (looped (out-Graph s'.graph).loops x.place out (first_input s' x)))) on.0)

  next_more : (s s' : Opened) (x : Placed) (p : Path) (r : Opened) → option_and_then (next_start s x) (t p) ≡ Some r → is_some (option_and_then (next_start s' x) (t' p)) ≡ true
  next_more s s' x p r h =
      let found = and_then_parts (next_start s x) (t p) r h in
      let given = and_then_parts (start_after s x found.0) found.0.output r found.2 in
      let later = grow p found.0 found.1 in
      ap (λ (o : Option Opened). is_some (option_and_then (next_start s' x) o)) later.told
      ∙ ap (λ (o : Option Container). is_some (option_and_then (start_after s' x later.scope) o)) (later.grows.output given.0 given.1)
      ∙ after_more s s' found.0 later.scope x given.0 r given.2

  first_more : (ts : List Template) (s s' : Opened) (x : Placed) (r : Opened) → first_start ts s x ≡ Some r → is_some (first_start ts s' x) ≡ true
  first_more ts s s' x r h =
      let found = map_parts (λ g. opened g (first_input s x)) (graph_in ts x.activity.work) r h in
      ap (λ (o : Option Graph). is_some (option_map (λ g. opened g (first_input s' x)) o)) found.1

  choice_more : (a c : Bool) (o1 o2 o3 o4 : Option Opened) (r : Opened) → (o1 ≡ Some r → is_some o3 ≡ true) → (o2 ≡ Some r → is_some o4 ≡ true)
      → (if a then None else if c then o1 else o2) ≡ Some r → is_some (if a then None else if c then o3 else o4) ≡ true
  choice_more true c o1 o2 o3 o4 r f g h = absurd (none-some r h)
  choice_more false true o1 o2 o3 o4 r f g h = f h
  choice_more false false o1 o2 o3 o4 r f g h = g h

  attempt_more : (ts : List Template) (p : Path) (q : Part) (s s' : Opened) (x : Placed) (r : Opened) → attempt_start ts t p q s x ≡ Some r → is_some (attempt_start ts t' p q s' x) ≡ true
  attempt_more ts p q s s' x r h =
      choice_more (q.attempt == 0) (q.attempt == 1) (first_start ts s x) (option_and_then (next_start s x) (t (below p (part q.name (q.attempt - 1)))))
      (first_start ts s' x) (option_and_then (next_start s' x) (t' (below p (part q.name (q.attempt - 1))))) r
      (first_more ts s s' x r) (next_more s s' x (below p (part q.name (q.attempt - 1))) r) h

  start_more : (ts : List Template) (p : Path) (q : Part) (s s' : Opened) (more : Grows s s') (x : Placed) (r : Opened) → start ts t p q s x ≡ Some r → is_some (start ts t' p q s' x) ≡ true
  start_more ts p q s s' more x r h =
      let parts = if_parts (is_active s x) (attempt_start ts t p q s x) r h in
      ap is_some (cond-true (is_active s' x) (attempt_start ts t' p q s' x) None (active_more s s' more x parts.0))
      ∙ attempt_more ts p q s s' x r parts.1

  inner_more : (p : Path) (q : Part) (r : Opened) → inner_begins b t p q ≡ Some r → is_some (inner_begins b t' p q) ≡ true
  inner_more p q r h =
      let found = and_then_parts (λ s. option_and_then (start b.templates t p q s) (activity_at s.graph q.name)) (t p) r h in
      let named = and_then_parts (start b.templates t p q found.0) (activity_at found.0.graph q.name) r found.2 in
      let later = grow p found.0 found.1 in
      ap (λ (o : Option Opened). is_some (option_and_then (λ s. option_and_then (start b.templates t' p q s) (activity_at s.graph q.name)) o)) later.told
      ∙ ap (λ (o : Option Placed). is_some (option_and_then (start b.templates t' p q later.scope) o)) (named_more found.0 later.scope later.grows q.name named.0 named.1)
      ∙ start_more b.templates p q found.0 later.scope later.grows named.0 r named.2

  begins_as_more : (p : Path) (o : Option Part) (r : Opened) → begins_as b t p o ≡ Some r → is_some (begins_as b t' p o) ≡ true
  begins_as_more p None r h = ap is_some h
  begins_as_more p (Some q) r h = inner_more p q r h

  -- a scope that begins once begins later
  pub begins_more : (p : Path) (r : Opened) → begins b t p ≡ Some r → is_some (begins b t' p) ≡ true
  begins_more p r h = begins_as_more (outer p) (last_part p) r h

-- ---- paths that are written alike

parts_last : (ps : List Part) (q : Part) → parts_spelling (ps ++ q ∷ []) ≡ parts_spelling ps ++ part_spelling q
parts_last [] q = append-nil (part_spelling q)
parts_last (r ∷ ps) q = ap (λ (l : List ℕ). part_spelling r ++ l) (parts_last ps q) ∙ sym (append_assoc (part_spelling r) (parts_spelling ps) (part_spelling q))

below_spelling : (p : Path) (q : Part) → spelling (below p q) ≡ spelling p ++ part_spelling q
below_spelling p q = ap (λ (l : List ℕ). decimal p.root ++ l) (parts_last p.parts q) ∙ sym (append_assoc (decimal p.root) (parts_spelling p.parts) (part_spelling q))

below_alike : (p p' : Path) (q : Part) → spelling p ≡ spelling p' → spelling (below p q) ≡ spelling (below p' q)
below_alike p p' q e = below_spelling p q ∙ ap (λ (l : List ℕ). l ++ part_spelling q) e ∙ sym (below_spelling p' q)

accepted_alike : (fs : List Fact) (p p' : Path) → spelling p ≡ spelling p' → accepted fs p ≡ accepted fs p'
accepted_alike [] p p' e = refl
accepted_alike (f ∷ fs) p p' e =
    ap (λ (l : List ℕ). if bytes_eq (spelling f.item) l then Some f.output else accepted fs p) e
    ∙ ap (λ (o : Option Container). if bytes_eq (spelling f.item) (spelling p') then Some f.output else o) (accepted_alike fs p p' e)

-- the same is told of paths that are written alike
abbrev pub IsAlike : Told → Type 0
IsAlike t = (p q : Path) → spelling p ≡ spelling q → t p ≡ t q

module _ (b : Basis) (t : Told) (alike : IsAlike t) (p p' : Path) (e : spelling p ≡ spelling p') where
  gave_alike : (name : Name) (w : Work) (j : ℕ) → gave b t p name w j ≡ gave b t p' name w j
  gave_alike name (Program x) j = accepted_alike b.facts (below p (part name j)) (below p' (part name j)) (below_alike p p' (part name j) e)
  gave_alike name (Block g) j = ap (option_and_then (λ s. s.output)) (alike (below p (part name j)) (below p' (part name j)) (below_alike p p' (part name j) e))
  gave_alike name (Process k) j = ap (option_and_then (λ s. s.output)) (alike (below p (part name j)) (below p' (part name j)) (below_alike p p' (part name j) e))

  pub final_alike : (n : ℕ) (x : Placed) → final_at b t p n x ≡ final_at b t p' n x
  final_alike n x = ap (λ (g : ℕ → Option Container). final x.activity.exit g n) (fun_ext (gave_alike x.activity.name x.activity.work))
