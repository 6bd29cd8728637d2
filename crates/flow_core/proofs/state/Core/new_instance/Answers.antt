use Rattle.std.proofs.Common.{ℕ, Option, sym, ap, subst, ◌∙◌, option_map}
use Rattle.flow_model.specs.declared.graphs.Template.{Template}
use Rattle.blocks_subprocs.proofs.Library.{template_graph}
use Rattle.containers.specs.Settings.{filled}
use Rattle.flow_model.specs.ScopeContainers.{graph_of}
use Rattle.flow_core.specs.Driving.{templates, IsVersionPlace}
use Rattle.std.proofs.Common.{Some, ◌≡◌}
use Rattle.std.proofs.lemmas.Option.{none-some}
use Rattle.flow_core.proofs.Moved.{starts_in, runs_at}
use Rattle.flow_core.proofs.state.Core.new_instance.Goals as goal

pub returns-clause-made : goal.returns-clause-made
returns-clause-made c =
    starts_in c.start.result (templates c.args.self.now) c.library.result.now.templates c.in-Some.place c.in-Some-template.template.now.graph c.in_ok-input-2.input c.args.root
    c.args.process.now c.args.version c.args.starter.now c.in_ok-starter.starter c.args.settings.now
    (subst (λ (o : Option ℕ). IsVersionPlace
    (templates c.args.self.now) c.args.process.now c.args.version o) c.in-Some.is c.version_place.ensures.version)
    (ap (λ l. l.templates) c.library.ensures) c.in_ok-starter.ensures (template_graph (templates c.args.self.now) c.in-Some.place ∙ sym (ap (option_map (λ (t : Template). t.graph)) c.in-Some-template.ensures))
    (c.in_ok-input-2.ensures ∙ ap (filled c.args.settings.now) c.in_ok-input.ensures) c.start.ensures

pub returns-in_default-clause-placed : goal.returns-in_default-clause-placed
returns-in_default-clause-placed c = λ place newest. none-some place
    (sym c.in_default.is ∙ c.version_place.ensures.newest place newest)

pub returns-clause-placed : goal.returns-clause-placed
returns-clause-placed c = λ place newest.
    let same : c.in-Some.place ≡ place = (let both : Some c.in-Some.place ≡ Some place = sym c.in-Some.is
    ∙ c.version_place.ensures.newest place newest in cc) in
    runs_at c.start.result c.library.result.now.templates c.in-Some.place c.args.root c.in_ok-starter.starter
    c.in_ok-input-2.input c.in-Some-template.template.now.graph place same
    (ap (λ l. graph_of l.templates c.in-Some.place) c.library.ensures
    ∙ template_graph (templates c.args.self.now) c.in-Some.place
    ∙ sym (ap (option_map (λ (t : Template). t.graph)) c.in-Some-template.ensures)) c.start.ensures
