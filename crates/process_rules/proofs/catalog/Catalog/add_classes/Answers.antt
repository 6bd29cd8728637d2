use Rattle.process_rules.proofs.Classed.{still_classed}
use Rattle.process_rules.proofs.catalog.Catalog.add_classes.Goals as goal

pub invariant_of-self-clause-classed : goal.invariant_of-self-clause-classed
invariant_of-self-clause-classed c =
    let s = c.args.self.now in
    still_classed s.classes.classes c.extend.new.self.classes s.library.templates s.containers c.extend.ensures.kept s.classed
