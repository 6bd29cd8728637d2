-- What holds of each scope of a graph that is well, holds of every scope that has started.
use Rattle.std.proofs.Common.{ℕ, zero, suc, List, [], ◌∷◌}
use Rattle.flow_model.specs.declared.graphs.Container.{Container}
use Rattle.flow_model.specs.declared.graphs.Graph.{Graph}
use Rattle.flow_model.specs.declared.graphs.Template.{Template}
use Rattle.flow_model.specs.declared.instances.Part.{Part}
use Rattle.flow_model.specs.Scopes.{Known, at, all_of}
use Rattle.fate_laws.specs.Equations.{IsSolved}
use Rattle.fate_laws.specs.StartedScopes.{ScopeFact, AtScope}
use Rattle.fate_laws.specs.WellFormed.{Well}
use Rattle.fate_laws.proofs.Solutions.{fates_solve, order_of}

-- by the completions alone
everywhere : (fact : ScopeFact) (ts : List Template) → ((depth : ℕ) (k : Known) (g : Graph) (i : Container) → Well ts depth g → fact depth (all_of k) g i)
    → (depth : ℕ) (k : Known) (g : Graph) (i : Container) (path : List Part) → Well ts depth g → AtScope fact ts depth (all_of k) g i path
everywhere fact ts each depth k g i [] well = each depth k g i well
everywhere fact ts each zero k g i (q ∷ path) well = tt
everywhere fact ts each (suc depth) k g i (q ∷ path) well =
    λ a activity c h i' is started. everywhere fact ts each depth (at q k) h i' path (well.inside a activity started.is h started.of)

pub fates_solve_below : (ts : List Template) (depth : ℕ) (k : Known) (g : Graph) (i : Container) (path : List Part) → Well ts depth g
    → AtScope (IsSolved ts) ts depth (all_of k) g i path
fates_solve_below ts =
    everywhere (IsSolved ts) ts (λ depth k g i well. let has = order_of ts depth g well in fates_solve ts depth k g i has.order has.flow has.wired)
