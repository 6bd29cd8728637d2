use Rattle.std.proofs.Common.{ap, ◌∙◌}
use Rattle.staff_worklists.specs.Shelves.{shelves_of}
use Rattle.staff_worklists.specs.Listing.{seen_on}
use Rattle.staff_worklists.proofs.Found.{listing, nothing_found}
use Rattle.staff_worklists.proofs.worklists.Worklists.worklist.Goals as goal

pub returns : goal.returns
returns c =
    let shelves = c.args.self.now.shelves in
    let person = c.args.person.now in
    listing shelves person c.add_seen.new.found c.lines_of.result
    (λ r. c.in_ok-add_seen.ensures r ∙ ap (λ o. seen_on shelves (shelves_of person) o r) (nothing_found c.new-found.result c.new-found.ensures.empty r)) c.lines_of.ensures
