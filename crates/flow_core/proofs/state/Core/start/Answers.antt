use Rattle.std.proofs.Common.{◌≡◌, List, [], ◌∷◌, Option, subst, option_copied}
use Rattle.flow_model.specs.declared.instances.Message.TheVariants.{Begin}
use Rattle.flow_model.specs.declared.instances.Part.{Part}
use Rattle.navigator.specs.declared.instance.Instance.{Instance}
use Rattle.flow_core.specs.Driving.{templates, IsMade, put_in, queue_now}
use Rattle.std.proofs.Common.{sym, ap, ◌∙◌}
use Rattle.flow_core.specs.Answers.{instance_of}
use Rattle.flow_core.specs.Driving.{RunsAt}
use Rattle.flow_core.specs.declared.state.Core.{Core}
use Rattle.flow_core.proofs.Moved.{starts, starts_none}
use Rattle.flow_core.proofs.state.Core.start.Goals as goal

pub returns-clause-drives : goal.returns-clause-drives
returns-clause-drives c =
    starts c.args.self.now c.add_root.new.self c.put.new.self c.args.root c.args.process.now c.args.version c.args.starter.now (option_copied c.args.key) c.args.settings.now c.in-Some.instance
    (subst (λ (o : Option Instance). IsMade
    (templates c.args.self.now) c.args.root c.args.process.now c.args.version c.args.starter.now
    c.args.settings.now o) c.in-Some.is c.in_ok-made.ensures.made)
    c.in_ok-add_root.ensures.rest c.in_ok-add_root.ensures.roots c.in_ok-put.ensures.rest
    (subst (λ (parts : List Part). c.put.new.self.queues ≡ put_in (queue_now c.add_root.new.self) (Begin (record { root = c.args.root; parts = parts }) ∷ []) c.add_root.new.self.queues)
    c.new.ensures c.in_ok-put.ensures.queues)

pub returns-in_default-clause-drives : goal.returns-in_default-clause-drives
returns-in_default-clause-drives c =
    starts_none c.args.self.now c.args.root c.args.process.now c.args.version c.args.starter.now (option_copied c.args.key) c.args.settings.now
    (subst (λ (o : Option Instance). IsMade
    (templates c.args.self.now) c.args.root c.args.process.now c.args.version c.args.starter.now
    c.args.settings.now o) c.in_default.is c.in_ok-made.ensures.made)

pub returns-in_default-clause-placed : goal.returns-in_default-clause-placed
returns-in_default-clause-placed c = λ place newest.
    absurd (subst (λ (o : Option Instance). RunsAt place o) c.in_default.is
    (c.in_ok-made.ensures.placed place newest))

pub returns-in_default-clause-keys : goal.returns-in_default-clause-keys
returns-in_default-clause-keys c = λ place newest.
    absurd (subst (λ (o : Option Instance). RunsAt place o) c.in_default.is
    (c.in_ok-made.ensures.placed place newest))

pub returns-clause-placed : goal.returns-clause-placed
returns-clause-placed c = λ place newest.
    let now = ap (λ (k : Core). instance_of k c.args.root) c.in_ok-put.ensures.rest
    ∙ c.in_ok-add_root.ensures.roots.here in
    subst (λ (o : Option Instance). RunsAt place o) (sym now)
    (subst (λ (o : Option Instance). RunsAt place o) c.in-Some.is (c.in_ok-made.ensures.placed place newest))
