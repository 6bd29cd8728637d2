use Rattle.std.proofs.Common.{◌≡◌, ℕ, map, take}
use Rattle.std.specs.List.{All}
use Rattle.template_check.specs.Built.{IsSoundWork}
use Rattle.process_rules.specs.Calling.{place_behind, IsCallingWork}
use Rattle.text_graphs.specs.Texts.{names_in, activities_in}
use Rattle.text_graphs.specs.GraphTexts.{text_of}
use Rattle.template_check.specs.Meant.{AreParts, IsOne, IsActivity, MeantTo, reading_of}
use Rattle.template_check.proofs.building.Builder.+building.Given as goal

abbrev pub invariant-activities-loop-element : goal.invariant-activities-loop-element
invariant-activities-loop-element l = record {
  named : map (λ a. a.name) l.activities ≡ names_in (take l.element-index l.elements);
  sound : All (λ x. IsSoundWork x.work) l.activities;
  calls : All (λ x. IsCallingWork (place_behind l.self.known.catalog.now.library l.scope.process) x.work) l.activities;
  meant : (depth : ℕ) → AreParts (IsOne (IsActivity (MeantTo (reading_of l.self) depth) (reading_of l.self) (text_of l.scope))) (activities_in (take l.element-index l.elements)) l.activities;
}
