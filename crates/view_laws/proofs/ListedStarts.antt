-- The attempts that have started are those that start.
use Rattle.std.proofs.Common.{ℕ, List}
use Rattle.flow_model.specs.declared.graphs.Container.{Container}
use Rattle.flow_model.specs.declared.graphs.Graph.{Graph}
use Rattle.flow_model.specs.declared.graphs.Template.{Template}
use Rattle.flow_model.specs.Scopes.{Known}
use Rattle.view_laws.proofs.StartedParts.{listed_starts, starts_listed}
use Rattle.view_laws.specs.ScopeFacts.{AreStarted}

pub started_listed : (ts : List Template) (depth : ℕ) (k : Known) (g : Graph) (i : Container) → AreStarted ts depth k g i
started_listed ts depth k g i = record {
  listed = λ a activity c h i' has. starts_listed ts depth k g i a activity c i' (record { is = has.is; active = has.active; reach = has.reach });
  started = λ a activity h number s is of found.
      let starts = listed_starts ts depth k g i a activity number s is found in
      record { is = is; of = of; active = starts.active; reach = starts.reach };
}
