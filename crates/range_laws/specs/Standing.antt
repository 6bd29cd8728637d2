-- What each step keeps of a state, so that it stands in range.
use Rattle.std.specs.Prelude.{◌≡◌, ℕ, ◌≤◌, Some, None, List, length, slice_get}
use Rattle.std.specs.List.{All}
use Rattle.flow_model.specs.declared.instances.Message.{Message}
use Rattle.flow_txn.specs.Ranges.{MessageFits}
use Rattle.machine.specs.Moves.{scopes_had}
use Rattle.machine.specs.Rows.{Step, Standing, Row, Scopes}
use Rattle.machine.specs.States.{Root, State, templates}
use Rattle.range_laws.specs.Bounds.{IsBounded}

-- the activity at each place of a scope has had no more scopes than this says of the place
abbrev pub HaveHad : (ℕ → ℕ) → List Standing → Type 0
HaveHad most standings = (a : ℕ) (x : Standing) → slice_get standings a ≡ Some x → scopes_had x ≤ most a

-- no activity of any scope has had more than this
abbrev pub HaveHadAtMost : ℕ → Scopes → Type 0
HaveHadAtMost most s = (steps : List Step) (r : Row) → s steps ≡ Some r → HaveHad (λ a. most) r.standings

-- no root has the number 0: roots are counted from 1
abbrev pub HasNoZero : State → Type 0
HasNoZero s = s.roots 0 ≡ None

-- all messages of all queues fit
abbrev pub AllFit : List (List Message) → Type 0
AllFit queues = All (λ messages. All MessageFits messages) queues

-- A state stays within its bounds: it has room for what was made, few queues and a small limit; its templates are
-- bounded, no activity has had more scopes than there were transactions, the messages in its queues fit, and its roots
-- are counted from 1.
pub record StaysInBounds (s : State) : Type 0 where
  pub room : s.transactions ≤ s.limit
  pub limit : s.limit ≤ 10000000
  pub queues : length s.queues ≤ 16
  pub bounded : All (IsBounded (templates s)) (templates s)
  pub counted : (root : ℕ) (r : Root) → s.roots root ≡ Some r → HaveHadAtMost s.transactions r.scopes
  pub fit : AllFit s.queues
  pub from_one : HasNoZero s
