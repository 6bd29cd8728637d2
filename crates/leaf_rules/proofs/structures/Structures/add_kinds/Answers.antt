use Rattle.std.proofs.Common.{sym, ◌∙◌, arith}
use Rattle.leaf_rules.specs.Structures.{behind}
use Rattle.leaf_rules.proofs.Edging.{kind_below, kinds_past, kinds_next}
use Rattle.leaf_rules.proofs.structures.Structures.add_kinds.Goals as goal
use Rattle.leaf_rules.proofs.structures.Structures.add_kinds.Goals.{in-None, in-Some+in_ok-add-in-Some}

pub loop-member-preserved : goal.loop-member-preserved
loop-member-preserved c =
    let structures = behind c.args.self.now.definitions.items in
    let members = c.args.structure.now.members in
    let before = c.args.edges.now.pairs.items in
    let i = c.loop-member.member-index in
    let m = c.member-item.result in
    let less = rw c.as_slice-member-items.ensures at c.loop-member-test.true in
    let is = rw c.as_slice-member-items.ensures at c.member-item.is in
    let nodes = c.loop-member.invariant.0 in
    elim c.match-kind_number.branch [
      | in-None w ↦ rw w.edges-is (nodes, kinds_past structures c.args.to members i m less is before c.loop-member.edges.pairs.items (sym w.in-None.ensures) c.loop-member.invariant.1)
      | in-Some+in_ok-add-in-Some w ↦
          let below = kind_below structures m.kind w.in-Some.from (sym w.in-Some.ensures) in
          let within = c.requires.within in
          let all = c.requires.nodes in
          let added = w.in_ok-add-in-Some.ensures.added (omega (arith, nodes, below, all)) (omega (arith, nodes, within)) in
          rw w.edges-is (
            w.in_ok-add-in-Some.ensures.nodes ∙ nodes,
            kinds_next structures c.args.to members i m less is before c.loop-member.edges.pairs.items w.in-Some.from (sym w.in-Some.ensures) w.add.new.self.pairs.items added c.loop-member.invariant.1,
          )
    ]
