use Rattle.std.proofs.Common.{ℕ, ap, refl, subst, ◌∙◌}
use Rattle.flow_core.specs.Driving.{Drives}
use Rattle.flow_core.specs.Summaries.{Summary, roots_after}
use Rattle.flow_core.specs.declared.state.Core.{Core}
use Rattle.flow_core.proofs.Counting.{counts_taken}
use Rattle.flow_core.proofs.Exact.{exact_earlier}
use Rattle.flow_core.proofs.HeldKeys.{keys_around}
use Rattle.flow_core.proofs.Moved.{drives_earlier}
use Rattle.flow_core.proofs.Shelved.{shelves_earlier}
use Rattle.flow_core.proofs.state.Core.adopt.Goals as goal
use Rattle.flow_core.specs.Shelving.{Shelves, IsExact}

pub returns-clause-drives : goal.returns-clause-drives
returns-clause-drives c =
    let before = c.args.self.now in
    let counted = c.count.new.self in
    let after = c.apply_as.new.self in
    drives_earlier before counted after c.args.t
    (subst (λ (k : Core). Drives k c.args.t after) (rw c.admits.ensures.same at c.count.ensures.rest) c.in_ok-apply_as.ensures.drives)

pub returns-clause-shelves : goal.returns-clause-shelves
returns-clause-shelves c =
    let before = c.args.self.now in
    let counted = c.count.new.self in
    let after = c.apply_as.new.self in
    shelves_earlier before counted after c.args.t
    (subst (λ (k : Core). Shelves k c.args.t after) (rw c.admits.ensures.same at c.count.ensures.rest) c.in_ok-apply_as.ensures.shelves)

pub returns-clause-counts : goal.returns-clause-counts
returns-clause-counts c =
    let before = c.args.self.now in
    let taken = c.in_ok-apply_as.ensures.applied in
    counts_taken before c.apply_as.new.self c.args.number c.args.t (ap (λ (n : ℕ × ℕ × ℕ × Summary). n.0) taken ∙ (rw c.admits.ensures.same at c.count.ensures.kept))
    (ap (λ (n : ℕ × ℕ × ℕ × Summary). n.3.roots) taken ∙ ap (λ (s : Summary). roots_after c.args.t s.roots) (rw c.admits.ensures.same at c.count.ensures.counted))
    (ap (λ (n : ℕ × ℕ × ℕ × Summary). n.3.transactions) taken ∙ ap (λ (s : Summary). s.transactions) (rw c.admits.ensures.same at c.count.ensures.counted))
    (ap (λ (n : ℕ × ℕ × ℕ × Summary). n.2) taken ∙ (rw c.admits.ensures.same at c.count.ensures.kept_root))
    (c.in_ok-admits.ensures.follows c.if-not-branch.false) (c.in_ok-admits.ensures.free c.if-not-branch.false)

pub returns-clause-kept_root : goal.returns-clause-kept_root
returns-clause-kept_root c =
    ap (λ (n : ℕ × ℕ × ℕ × Summary). n.2) c.in_ok-apply_as.ensures.applied ∙ (rw c.admits.ensures.same at c.count.ensures.kept_root)

pub returns-clause-exact : goal.returns-clause-exact
returns-clause-exact c =
    let before = c.args.self.now in
    let counted = c.count.new.self in
    let after = c.apply_as.new.self in
    exact_earlier before counted after c.args.t
    (subst (λ (k : Core). IsExact k c.args.t after) (rw c.admits.ensures.same at c.count.ensures.rest)
    c.in_ok-apply_as.ensures.exact)

pub returns-clause-keys : goal.returns-clause-keys
returns-clause-keys c =
    keys_around c.args.self.now c.count.new.self c.apply_as.new.self c.apply_as.new.self
    (ap (λ (k : Core). k.keys) (rw c.admits.ensures.same at c.count.ensures.rest)) (ap (λ (k : Core). k.live_roots) (rw c.admits.ensures.same at c.count.ensures.rest))
    (ap (λ (k : Core). k.store) (rw c.admits.ensures.same at c.count.ensures.rest)) refl refl c.args.t c.in_ok-apply_as.ensures.keys

pub returns-clause-follows : goal.returns-clause-follows
returns-clause-follows c = c.in_ok-admits.ensures.follows c.if-not-branch.false

pub returns-clause-admitted : goal.returns-clause-admitted
returns-clause-admitted c = c.in_ok-admits.ensures.admitted c.if-not-branch.false
