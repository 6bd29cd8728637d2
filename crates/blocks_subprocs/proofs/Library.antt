-- The graph of a template, by the template's place.
use Rattle.std.proofs.Common.{◌≡◌, ℕ, zero, suc, List, [], ◌∷◌, refl}
use Rattle.std.specs.Prelude.{slice_get}
use Rattle.std.specs.Option.{option_map}
use Rattle.flow_model.specs.ScopeContainers.{graph_of}
use Rattle.flow_model.specs.declared.graphs.Template.{Template}

pub template_graph : (templates : List Template) (t : ℕ) → graph_of templates t ≡ option_map (λ x. x.graph) (slice_get templates t)
template_graph [] t = refl
template_graph (x ∷ xs) zero = refl
template_graph (x ∷ xs) (suc t) = template_graph xs t
