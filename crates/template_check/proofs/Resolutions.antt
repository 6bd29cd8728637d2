-- Conditions and maps whose leaves are known.
use Rattle.std.proofs.Common.{◌≡◌, Option, Some, None, Ok, List, sym, subst}
use Rattle.conditions.specs.Faults.{fault_of}
use Rattle.conditions.specs.Resolving.{IsResolved, IsOutcome, IsResolution}
use Rattle.conditions.specs.declared.resolving.TypeFault.{TypeFault}
use Rattle.flow_model.specs.declared.graphs.Expr.{Expr}
use Rattle.flow_model.specs.declared.graphs.Leaf.{Leaf}
use Rattle.flow_model.specs.declared.graphs.LeafMap.{LeafMap}
use Rattle.flow_model.specs.declared.graphs.When.TheVariants as when
use Rattle.flow_model.specs.declared.trees.Cond.{Cond}
use Rattle.flow_model.specs.declared.trees.CondAt.{CondAt}
use Rattle.flow_model.specs.declared.graphs.DataLine.{DataLine}
use Rattle.flow_model.specs.declared.graphs.LoopLine.{LoopLine}
use Rattle.flow_model.specs.declared.trees.DataTree.{DataTree}
use Rattle.flow_model.specs.declared.trees.EndTree.{EndTree}
use Rattle.flow_model.specs.declared.trees.EndsTree.{EndsTree}
use Rattle.flow_model.specs.declared.trees.EndsTree.TheVariants as ends
use Rattle.flow_model.specs.declared.trees.MapTree.{MapTree}
use Rattle.flow_model.specs.declared.trees.NameAt.{NameAt}
use Rattle.template_check.specs.Built.{end_in}
use Rattle.text_graphs.specs.GraphTexts.{GraphText}
use Rattle.leaf_rules.specs.Leaves.{Leafing, line_source, line_target}
use Rattle.text_graphs.specs.Texts.{number_in}
use Rattle.flow_model.specs.declared.trees.WhenTree.{WhenTree}
use Rattle.flow_model.specs.declared.trees.WhenTree.TheVariants as written
use Rattle.template_check.specs.Meant.{AreParts, IsOne, IsMap, AreMaps, IsExit, IsWhen, IsBetween, IsDataBy, IsDataLine, IsRound, IsLoopBy, IsLoopLine}

outcome_made : (fault : Option TypeFault) (leaves : List Leaf) (cond : Cond) (made : Expr) → IsOutcome fault leaves cond (Ok made) → IsResolved leaves cond made
outcome_made None leaves cond made h = h
outcome_made (Some fault) leaves cond made h = cc

-- what is made of a condition is what it is resolved to
pub made_resolved : (leaves : List Leaf) (cond : Cond) (made : Expr) → IsResolution leaves cond (Ok made) → IsResolved leaves cond made
made_resolved leaves cond made h = outcome_made (fault_of leaves cond) leaves cond made h

pub exit_made : (known : Option (List Leaf)) (said : Option CondAt) (leaves : List Leaf) (cond : CondAt) (made : Expr) → Some leaves ≡ known → Some cond ≡ said
    → IsResolved leaves cond.cond made → IsExit known said (Some made)
exit_made known said leaves cond made there is h =
    subst (λ (o : Option (List Leaf)). IsExit o said (Some made)) there (subst (λ (o : Option CondAt). IsExit (Some leaves) o (Some made)) is h)

pub no_exit : (known : Option (List Leaf)) (said : Option CondAt) → None ≡ said → IsExit known said None
no_exit known said is = subst (λ (o : Option CondAt). IsExit known o None) is tt

pub when_made : (known : Option (List Leaf)) (control : WhenTree) (leaves : List Leaf) (cond : CondAt) (made : Expr) → Some leaves ≡ known → control ≡ written.Cond cond
    → IsResolved leaves cond.cond made → IsWhen known control (when.Cond made)
when_made known control leaves cond made there is h =
    subst (λ (o : Option (List Leaf)). IsWhen o control (when.Cond made)) there (subst (λ (w : WhenTree). IsWhen (Some leaves) w (when.Cond made)) (sym is) h)

pub maps_made : (from to : Option (List Leaf)) (sources targets : List Leaf) (maps : List MapTree) (made : List LeafMap) → Some sources ≡ from → Some targets ≡ to
    → AreParts (IsOne (IsMap sources targets)) maps made → AreMaps from to maps made
maps_made from to sources targets maps made there here h =
    subst (λ (o : Option (List Leaf)). AreMaps o to maps made) there (subst (λ (o : Option (List Leaf)). AreMaps (Some sources) o maps made) here h)

-- a DATA line and a LOOP line
pub data_made : (leaves : Leafing) (g : GraphText) (line : DataTree) (from to : EndTree) (made : DataLine) → line.ends ≡ ends.Line from to → end_in g.elements from ≡ Some made.from → end_in g.elements to ≡ Some made.to
    → AreMaps (line_source leaves g line.ends) (line_target leaves g line.ends) line.maps made.maps → IsDataLine leaves g line (Some made)
data_made leaves g line from to made is begins leads maps =
    let whole : IsBetween leaves g from to line made = record { begins = begins; leads = leads; maps = maps } in
    subst (λ (e : EndsTree). IsDataBy leaves g line e (Some made)) (sym is) whole

pub round_made : (leaves : Leafing) (g : GraphText) (line : DataTree) (name : NameAt) (made : LoopLine) → line.ends ≡ ends.Loop name → number_in g.elements name.name ≡ Some made.activity
    → AreMaps (line_source leaves g line.ends) (line_target leaves g line.ends) line.maps made.maps → IsLoopLine leaves g line (Some made)
round_made leaves g line name made is of maps =
    let whole : IsRound leaves g name line made = record { of = of; maps = maps } in
    subst (λ (e : EndsTree). IsLoopBy leaves g line e (Some made)) (sym is) whole
