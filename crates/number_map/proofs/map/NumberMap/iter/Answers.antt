use Rattle.number_map.proofs.Rows.{entries_rise}
use Rattle.number_map.proofs.map.NumberMap.iter.Goals as goal

pub returns-clause-rising : goal.returns-clause-rising
returns-clause-rising g c = rw (← c.self.view_is) (entries_rise c.self.inside.rows.items c.self.invariant)
