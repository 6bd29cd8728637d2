-- The parts of a graph, one by one: two things that are meant by the same text, by two readings that agree on its
-- leaves, are one.
use Rattle.std.proofs.Common.{◌≡◌, ℕ, zero, suc, Option, Some, None, List, [], ◌∷◌, refl, sym, ap, ◌∙◌, subst, arith}
use Rattle.std.specs.Prelude.{slice_get}
use Rattle.std.specs.List.{All}
use Rattle.std.specs.Option.{option_and_then}
use Rattle.flow_model.specs.declared.graphs.DataLine.{DataLine}
use Rattle.flow_model.specs.declared.graphs.Expr.{Expr}
use Rattle.flow_model.specs.declared.graphs.Leaf.{Leaf}
use Rattle.flow_model.specs.declared.graphs.LeafMap.{LeafMap}
use Rattle.flow_model.specs.declared.graphs.LoopLine.{LoopLine}
use Rattle.flow_model.specs.declared.graphs.When.{When}
use Rattle.flow_model.specs.declared.graphs.When.TheVariants as when
use Rattle.flow_model.specs.declared.trees.ActivityTree.{ActivityTree}
use Rattle.flow_model.specs.declared.trees.Cond.{Cond}
use Rattle.flow_model.specs.declared.trees.CondAt.{CondAt}
use Rattle.flow_model.specs.declared.trees.ControlTree.{ControlTree}
use Rattle.flow_model.specs.declared.trees.DataTree.{DataTree}
use Rattle.flow_model.specs.declared.trees.EndTree.{EndTree}
use Rattle.flow_model.specs.declared.trees.EndTree.TheVariants as end
use Rattle.flow_model.specs.declared.trees.EndsTree.{EndsTree}
use Rattle.flow_model.specs.declared.trees.EndsTree.TheVariants as ends
use Rattle.flow_model.specs.declared.trees.MapTree.{MapTree}
use Rattle.flow_model.specs.declared.trees.NameAt.{NameAt}
use Rattle.flow_model.specs.declared.trees.WhenTree.{WhenTree}
use Rattle.flow_model.specs.declared.trees.WhenTree.TheVariants as written
use Rattle.leaf_rules.specs.Leaves.{Leafing, with_code, input_leaves, output_leaves, source_leaves, target_leaves, line_source, line_target}
use Rattle.template_check.specs.Meant.{AreParts, NoneLeft, NoPart, OnePart, IsOne, IsResolvedBy, IsExit, IsWhen, IsControl, IsMap, AreMaps, IsBetween, IsDataBy, IsDataLine, IsRound, IsLoopBy, IsLoopLine}
use Rattle.text_graphs.specs.GraphTexts.{GraphText}
use Rattle.text_graphs.specs.Texts.{activities_in, number_in}
use Rattle.text_laws.proofs.Conditions.{some_one, resolved_one}

-- ---- parts of a list

all_first : {X : Type 0} (P : X → Type 0) (x : X) (xs : List X) → All P (x ∷ xs) → P x
all_first P x xs h = h 0 x (omega arith)

all_later : {X : Type 0} (P : X → Type 0) (x : X) (xs : List X) → All P (x ∷ xs) → All P xs
all_later P x xs h = λ k d less. h (suc k) d (omega arith)

-- what two relations tell of one thing is one
abbrev pub Agree : {X Y : Type 0} → (X → Y → Type 0) → (X → Y → Type 0) → X → Type 0
Agree {X} {Y} R S x = (a b : Y) → R x a → S x b → a ≡ b

pub parts_one : {X Y : Type 0} (R S : X → Option Y → Type 0) (xs : List X) (ys zs : List Y) → All (Agree R S) xs
    → AreParts R xs ys → AreParts S xs zs → ys ≡ zs
parts_one R S xs ys zs agree NoneLeft NoneLeft = refl
parts_one R S xs ys zs agree (NoPart {x = x} {xs = more} {ys = y} h hs) (NoPart {ys = z} j js) =
    parts_one R S more y z (all_later (Agree R S) x more agree) hs js
parts_one R S xs ys zs agree (NoPart {x = x} {xs = more} h hs) (OnePart {y = y} j js) =
    let e : None ≡ Some y = all_first (Agree R S) x more agree None (Some y) h j in cc
parts_one R S xs ys zs agree (OnePart {x = x} {y = y} {xs = more} h hs) (NoPart j js) =
    let e : Some y ≡ None = all_first (Agree R S) x more agree (Some y) None h j in cc
parts_one R S xs ys zs agree (OnePart {x = x} {y = y} {xs = more} {ys = ys'} h hs) (OnePart {y = z} {ys = zs'} j js) =
    let e : Some y ≡ Some z = all_first (Agree R S) x more agree (Some y) (Some z) h j in
    let head : y ≡ z = cc in
    ap (λ w. w ∷ ys') head ∙ ap (λ ws. z ∷ ws) (parts_one R S more ys' zs' (all_later (Agree R S) x more agree) hs js)

pub one_agrees : {X Y : Type 0} (R S : X → Y → Type 0) (x : X) → Agree R S x → Agree (IsOne R) (IsOne S) x
one_agrees R S x agree None b h j = absurd h
one_agrees R S x agree (Some a) None h j = absurd j
one_agrees R S x agree (Some a) (Some b) h j = ap (λ y. Some y) (agree a b h j)

-- where each thing gives one
pub ones_one : {X Y : Type 0} (R S : X → Y → Type 0) (xs : List X) (ys zs : List Y) → All (Agree R S) xs
    → AreParts (IsOne R) xs ys → AreParts (IsOne S) xs zs → ys ≡ zs
ones_one R S xs ys zs agree h j =
    parts_one (IsOne R) (IsOne S) xs ys zs
    (λ k d less. one_agrees R S _ (agree k d less)) h j

-- ---- conditions

pub by_one : (ls ms : Option (List Leaf)) (c : Cond) (e f : Expr) → ls ≡ ms → IsResolvedBy ls c e → IsResolvedBy ms c f → e ≡ f
by_one ls ms c e f same h j = go ms (subst (λ xs. IsResolvedBy xs c e) same h) j
  where
    go : (xs : Option (List Leaf)) → IsResolvedBy xs c e → IsResolvedBy xs c f → e ≡ f
    go None h j = absurd h
    go (Some leaves) h j = resolved_one leaves c e f h j

pub exit_one : (ls ms : Option (List Leaf)) (c : Option CondAt) (e f : Option Expr) → ls ≡ ms → IsExit ls c e → IsExit ms c f → e ≡ f
exit_one ls ms None None None same h j = refl
exit_one ls ms None None (Some f) same h j = absurd j
exit_one ls ms None (Some e) f same h j = absurd h
exit_one ls ms (Some c) None f same h j = absurd h
exit_one ls ms (Some c) (Some e) None same h j = absurd j
exit_one ls ms (Some c) (Some e) (Some f) same h j = ap (λ x. Some x) (by_one ls ms c.cond e f same h j)

pub when_one : (ls ms : Option (List Leaf)) (w : WhenTree) (e f : When) → ls ≡ ms → IsWhen ls w e → IsWhen ms w f → e ≡ f
when_one ls ms written.Always e f same h j = h ∙ sym j
when_one ls ms (written.Cond c) when.Always f same h j = absurd h
when_one ls ms (written.Cond c) (when.Cond e) when.Always same h j = absurd j
when_one ls ms (written.Cond c) (when.Cond e) (when.Cond f) same h j = ap (λ x. when.Cond x) (by_one ls ms c.cond e f same h j)
when_one ls ms (written.Cond c) (when.Cond e) when.Otherwise same h j = absurd j
when_one ls ms (written.Cond c) when.Otherwise f same h j = absurd h
when_one ls ms written.Otherwise e f same h j = h ∙ sym j

-- ---- leaves

-- two tellings of leaves agree on the containers of a graph
pub record AgreeOn (l m : Leafing) (g : GraphText) : Type 0 where
  pub input : l g.input ≡ m g.input
  pub output : l g.output ≡ m g.output
  pub activities : All (λ a. (l a.input.name ≡ m a.input.name) × (l a.output.name ≡ m a.output.name)) (activities_in g.elements)

-- what holds of all holds of the one at a place
at_place : {X : Type 0} (P : X → Type 0) (xs : List X) (n : ℕ) (x : X) → All P xs → slice_get xs n ≡ Some x → P x
at_place P [] n x all h = absurd (no_some h)
  where
    no_some : None ≡ Some x → ⊥
    no_some h = cc
at_place {X} P (y ∷ ys) zero x all h = let e : Some y ≡ Some x = h in let same : y ≡ x = cc in subst P same (all_first P y ys all)
at_place {X} P (y ∷ ys) (suc n) x all h = at_place P ys n x (all_later P y ys all) h

module _ (l m : Leafing) (g : GraphText) (agree : AgreeOn l m g) where
  -- of the activity at a place
  at_number : {X : Type 0} (f : Leafing → ActivityTree → Option X) → ((a : ActivityTree) → l a.input.name ≡ m a.input.name → l a.output.name ≡ m a.output.name → f l a ≡ f m a)
      → (n : Option ℕ) → option_and_then (f l) (option_and_then (λ place. slice_get (activities_in g.elements) place) n) ≡ option_and_then (f m) (option_and_then (λ place. slice_get (activities_in g.elements) place) n)
  at_number f same None = refl
  at_number {X} f same (Some n) = go (slice_get (activities_in g.elements) n) refl
    where
      go : (a : Option ActivityTree) → slice_get (activities_in g.elements) n ≡ a → option_and_then (f l) a ≡ option_and_then (f m) a
      go None is = refl
      go (Some a) is = let both = at_place (λ (b : ActivityTree). (l b.input.name ≡ m b.input.name) × (l b.output.name ≡ m b.output.name)) (activities_in g.elements) n a agree.activities is in same a both.0 both.1

  pub outputs_agree : (name : List ℕ) → output_leaves l g.elements name ≡ output_leaves m g.elements name
  outputs_agree name = at_number (λ k activity. with_code (k activity.output.name)) (λ a input output. ap with_code output) (number_in g.elements name)

  pub inputs_agree : (name : List ℕ) → input_leaves l g.elements name ≡ input_leaves m g.elements name
  inputs_agree name = at_number (λ k activity. k activity.input.name) (λ a input output. input) (number_in g.elements name)

  sources_agree : (e : EndTree) → source_leaves l g e ≡ source_leaves m g e
  sources_agree end.Border = agree.input
  sources_agree (end.Activity name) = outputs_agree name.name

  targets_agree : (e : EndTree) → target_leaves l g e ≡ target_leaves m g e
  targets_agree end.Border = agree.output
  targets_agree (end.Activity name) = inputs_agree name.name

  pub line_sources_agree : (e : EndsTree) → line_source l g e ≡ line_source m g e
  line_sources_agree (ends.Line from to) = sources_agree from
  line_sources_agree (ends.Loop name) = outputs_agree name.name

  pub line_targets_agree : (e : EndsTree) → line_target l g e ≡ line_target m g e
  line_targets_agree (ends.Line from to) = targets_agree to
  line_targets_agree (ends.Loop name) = inputs_agree name.name

-- ---- connectors and lines

map_one : (from to : List Leaf) (t : MapTree) (x y : LeafMap) → IsMap from to t x → IsMap from to t y → x ≡ y
map_one from to t x y h j =
    let reads = some_one h.reads j.reads in
    let writes = some_one h.writes j.writes in
    λ i. record { from = reads i; to = writes i }

maps_between : (from to : Option (List Leaf)) (ts : List MapTree) (xs ys : List LeafMap) → AreMaps from to ts xs → AreMaps from to ts ys → xs ≡ ys
maps_between None to ts xs ys h j = absurd h
maps_between (Some from) None ts xs ys h j = absurd h
maps_between (Some from) (Some to) ts xs ys h j = ones_one (IsMap from to) (IsMap from to) ts xs ys (λ k d less. map_one from to _) h j

maps_one : (from from' to to' : Option (List Leaf)) (ts : List MapTree) (xs ys : List LeafMap) → from ≡ from' → to ≡ to' → AreMaps from to ts xs → AreMaps from' to' ts ys → xs ≡ ys
maps_one from from' to to' ts xs ys e f h j = maps_between from' to' ts xs ys (subst (λ o. AreMaps from' o ts xs) f (subst (λ o. AreMaps o to ts xs) e h)) j

module _ (l m : Leafing) (g : GraphText) (agree : AgreeOn l m g) where
  pub control_one : (c : ControlTree) → Agree (IsControl l g.elements) (IsControl m g.elements) c
  control_one c x y h j =
      let from = some_one h.from j.from in
      let to = some_one h.to j.to in
      let means = when_one (output_leaves l g.elements c.from.name) (output_leaves m g.elements c.from.name) c.when x.when y.when (outputs_agree l m g agree c.from.name) h.when j.when in
      λ i. record { from = from i; to = to i; when = means i }

  between_one : (from to : EndTree) (d : DataTree) (x y : DataLine) → IsBetween l g from to d x → IsBetween m g from to d y → x ≡ y
  between_one from to d x y h j =
      let begins = some_one h.begins j.begins in
      let leads = some_one h.leads j.leads in
      let maps = maps_one (line_source l g d.ends) (line_source m g d.ends) (line_target l g d.ends) (line_target m g d.ends) d.maps x.maps y.maps (line_sources_agree l m g agree d.ends) (line_targets_agree l m g agree d.ends) h.maps j.maps in
      λ i. record { from = begins i; to = leads i; maps = maps i }

  data_by : (d : DataTree) (e : EndsTree) (x y : Option DataLine) → IsDataBy l g d e x → IsDataBy m g d e y → x ≡ y
  data_by d (ends.Line from to) None y h j = absurd h
  data_by d (ends.Line from to) (Some x) None h j = absurd j
  data_by d (ends.Line from to) (Some x) (Some y) h j = ap (λ z. Some z) (between_one from to d x y h j)
  data_by d (ends.Loop name) x y h j = h ∙ sym j

  pub data_one : (d : DataTree) → Agree (IsDataLine l g) (IsDataLine m g) d
  data_one d x y h j = data_by d d.ends x y h j

  round_one : (name : NameAt) (d : DataTree) (x y : LoopLine) → IsRound l g name d x → IsRound m g name d y → x ≡ y
  round_one name d x y h j =
      let of = some_one h.of j.of in
      let maps = maps_one (line_source l g d.ends) (line_source m g d.ends) (line_target l g d.ends) (line_target m g d.ends) d.maps x.maps y.maps (line_sources_agree l m g agree d.ends) (line_targets_agree l m g agree d.ends) h.maps j.maps in
      λ i. record { activity = of i; maps = maps i }

  loop_by : (d : DataTree) (e : EndsTree) (x y : Option LoopLine) → IsLoopBy l g d e x → IsLoopBy m g d e y → x ≡ y
  loop_by d (ends.Line from to) x y h j = h ∙ sym j
  loop_by d (ends.Loop name) None y h j = absurd h
  loop_by d (ends.Loop name) (Some x) None h j = absurd j
  loop_by d (ends.Loop name) (Some x) (Some y) h j = ap (λ z. Some z) (round_one name d x y h j)

  pub loop_one : (d : DataTree) → Agree (IsLoopLine l g) (IsLoopLine m g) d
  loop_one d x y h j = loop_by d d.ends x y h j
