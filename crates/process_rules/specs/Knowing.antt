-- What the names of processes stand for in a text: those that stand before in it, else the newest of the library.
use Rattle.std.specs.Borrow.{Bor}
use Rattle.std.specs.Prelude.{◌≡◌, ℕ, Option, List, bytes_eq, length, map, vec_len}
use Rattle.std.specs.List.{list_any}
use Rattle.std.specs.Option.{option_map}
use Rattle.std.specs.HashMap as hash
use Rattle.std.specs.HashMap.{HashMap}
use Rattle.flow_model.specs.declared.graphs.Library.{Library}
use Rattle.flow_model.specs.declared.trees.PersonTree.{PersonTree}
use Rattle.flow_model.specs.declared.trees.ProcessTree.{ProcessTree}
use Rattle.process_rules.specs.Calling.{before_this, text_or, stored_named, place_among}
use Rattle.process_rules.specs.Imports.{last_place}
use Rattle.process_rules.specs.declared.people.Callee.{Callee}
use Rattle.process_rules.specs.declared.people.Known.{Known}

-- names lead to the last process of each
abbrev pub AreLast : {S : Type 0} → List ProcessTree → HashMap (Bor (List ℕ)) ℕ S → Type 0
AreLast processes numbers = (key : List ℕ) → hash.get_by (λ k. bytes_eq key k.now) numbers
    ≡ last_place (λ p. bytes_eq p.name.name key) processes

-- these are the processes that are known
pub record IsKnowing (known : Known) (processes : List ProcessTree) : Type 0 where
  pub numbered : AreLast processes known.numbers
  pub counted : vec_len known.processes ≡ length processes
  pub listed : map (λ p. p.now) known.processes.items ≡ processes

-- the people of a text are known by their names
abbrev pub ArePeople : Known → List PersonTree → Type 0
ArePeople known people = (name : List ℕ) → list_any (λ k. bytes_eq name k.now) known.people.keys
    ≡ list_any (λ n. bytes_eq name n.name) (map (λ q. q.name) people)

-- what an activity in the process of this number runs by a name: the process of the text, where it stands before
abbrev pub callee_named : Library → List ProcessTree → ℕ → List ℕ → Option Callee
callee_named library processes number name = text_or
    (before_this number (last_place (λ p. bytes_eq p.name.name name) processes)) (stored_named library name)

-- its place in the library, once the text is added
abbrev pub place_named : Library → List ProcessTree → ℕ → List ℕ → Option ℕ
place_named library processes number name = option_map (place_among library)
    (callee_named library processes number name)
