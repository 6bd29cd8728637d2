use Rattle.std.proofs.Common.{sym, ◌∙◌}
use Rattle.std.proofs.lemmas.Bool.{not-true, not-false}
use Rattle.text_graphs.proofs.Again.{known_next, is_known, least_new, least_again}
use Rattle.text_graphs.proofs.least.Repeats.meet.Goals as goal

pub returns-then-not-is_new : goal.returns-then-not-is_new
returns-then-not-is_new c = λ names met.
    let self = c.args.self.now in
    let name = c.args.name.now in
    let keys = c.in_ok-_place.ensures.keys in
    let tells = is_known self.met.keys c.as_slice.result names name c.in_ok-_place.is_new c.as_slice.ensures c.in_ok-_place.ensures.added met.known in
    record {
      known = known_next self.met.keys c.insert_full.new.self.keys c.as_slice.result names name c.as_slice.ensures keys met.known;
      least = least_again names name self.first c.lesser-self.result c.lesser-self.ensures.least (not-false _ (sym tells ∙ c.if-not-is_new.true)) met.least;
    }

pub returns-else-not-is_new : goal.returns-else-not-is_new
returns-else-not-is_new c = λ names met.
    let self = c.args.self.now in
    let name = c.args.name.now in
    let keys = c.in_ok-_place.ensures.keys in
    let tells = is_known self.met.keys c.as_slice.result names name c.in_ok-_place.is_new c.as_slice.ensures c.in_ok-_place.ensures.added met.known in
    record {
      known = known_next self.met.keys c.insert_full.new.self.keys c.as_slice.result names name c.as_slice.ensures keys met.known;
      least = least_new names name self.first (not-true _ (sym tells ∙ c.if-not-is_new.false)) met.least;
    }
