use Rattle.std.proofs.Common.{ap}
use Rattle.flow_core.proofs.HeldKeys.{keys_around}
use Rattle.flow_core.specs.declared.state.Core.{Core}
use Rattle.flow_core.proofs.Exact.{exact_around}
use Rattle.flow_core.proofs.Moved.{drives_around}
use Rattle.flow_core.proofs.Shelved.{shelves_around}
use Rattle.flow_core.proofs.state.Core.apply_as.Goals as goal

pub returns-clause-drives : goal.returns-clause-drives
returns-clause-drives c =
    let before = c.args.self.now in
    let counted = c.count_root.new.self in
    drives_around before counted c.change_by.new.self c.keep.new.self c.args.t.now c.count_root.ensures.rest c.in_ok-keep.ensures.rest
    c.in_ok-note.ensures.drives

pub returns-clause-shelves : goal.returns-clause-shelves
returns-clause-shelves c =
    let before = c.args.self.now in
    let counted = c.count_root.new.self in
    shelves_around before counted c.change_by.new.self c.keep.new.self c.args.t.now c.count_root.ensures.rest c.in_ok-keep.ensures.rest
    c.in_ok-note.ensures.shelves

pub returns-clause-exact : goal.returns-clause-exact
returns-clause-exact c =
    let before = c.args.self.now in
    let counted = c.count_root.new.self in
    exact_around before counted c.change_by.new.self c.keep.new.self c.args.t.now c.count_root.ensures.rest
    c.in_ok-keep.ensures.rest
    c.in_ok-note.ensures.exact

pub returns-clause-keys : goal.returns-clause-keys
returns-clause-keys c =
    keys_around c.args.self.now c.count_root.new.self c.change_by.new.self c.keep.new.self
    (ap (λ (k : Core). k.keys) c.count_root.ensures.rest) (ap (λ (k : Core). k.live_roots) c.count_root.ensures.rest)
    (ap (λ (k : Core). k.store) c.count_root.ensures.rest) (ap (λ (k : Core). k.keys) c.in_ok-keep.ensures.rest)
    (ap (λ (k : Core). k.live_roots) c.in_ok-keep.ensures.rest) c.args.t.now c.in_ok-note.ensures.keys
