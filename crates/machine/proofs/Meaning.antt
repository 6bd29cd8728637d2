-- A text means one thing behind a library.
use Rattle.std.proofs.Common.{◌≡◌, ℕ, List}
use Rattle.flow_model.specs.declared.graphs.Library.{Library}
use Rattle.machine.specs.Imports.{Added, IsMeaning}
use Rattle.text_laws.proofs.Templates.{templates_one, people_one}

pub means_one : (library : Library) (text : List ℕ) (x y : Added) → IsMeaning library text x → IsMeaning library text y
    → x ≡ y
means_one library text x y a b =
    let templates = templates_one text library x.templates y.templates a.named b.named a.meant b.meant in
    let people = people_one text x.people y.people a.people b.people in
    λ i. record { templates = templates i; people = people i }
