use Rattle.std.proofs.Common.{◌⊎◌}
use Rattle.process_rules.specs.Counts.{IsExtra}
use Rattle.text_graphs.specs.Texts.{activities_in, controls_in, lines_in}
use Rattle.text_graphs.proofs.Finding.{least_either}
use Rattle.process_rules.proofs.counts.extra_in_graph.Goals as goal

pub returns-clause-extra : goal.returns-clause-extra
returns-clause-extra c =
    let elements = c.args.scope.now.elements.now in
    let lines = least_either (IsExtra (λ x. x.place) 4096 (controls_in elements)) (IsExtra (λ x. x.place) 4096 (lines_in elements)) c.extra_control.result c.extra_line.result c.extra_control.ensures.extra c.extra_line.ensures in
    rw (c.lesser.ensures.least, c.lesser-lines.ensures.least)
    (least_either (IsExtra (λ x. x.place) 1024 (activities_in elements)) (λ p. IsExtra (λ x. x.place) 4096 (controls_in elements) p ⊎ IsExtra (λ x. x.place) 4096 (lines_in elements) p) c.extra_activity.result _ c.extra_activity.ensures.extra lines)
