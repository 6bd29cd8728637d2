-- The replies of a session to a script are the machine's.
use Rattle.std.proofs.Common.{ℕ, List, [], ◌∷◌, ◌++◌, refl, subst}
use Rattle.flow_core.specs.Summaries.{Summary}
use Rattle.flow_disk.specs.Images.{Image}
use Rattle.flow_disk.specs.declared.disk.Slot.{Slot}
use Rattle.machine.specs.Scripts as machine
use Rattle.machine_laws.specs.WholeStates.{IsWhole}
use Rattle.flow_session.specs.Inputs.{Given}
use Rattle.flow_session.specs.Scripts.{ServesOne, ServesAll, NoInput, OneMore}
use Rattle.flow_session.specs.declared.serving.Session.{Session}
use Rattle.flow_session.specs.Sittings.{sitting}
use Rattle.flow_session.proofs.Served.{input_served}

-- ---- one input behind others

-- one more input of the machine behind others
replies_behind : (inputs : List machine.Given) (replies : List (List ℕ)) (input : machine.Given) (reply : List ℕ)
    (a b c : machine.Sitting) → machine.Replies a inputs replies b
    → machine.ServesInput b.unended input b.state c.state c.unended reply
    → machine.Replies a (inputs ++ input ∷ []) (replies ++ reply ∷ []) c
replies_behind [] [] input reply a b c before one = (
  c,
  subst (λ (x : machine.Sitting). machine.ServesInput x.unended input x.state c.state c.unended reply) before one,
  refl,
)
replies_behind [] (r ∷ rs) input reply a b c before one = absurd before
replies_behind (i ∷ is) [] input reply a b c before one = absurd before
replies_behind (i ∷ is) (r ∷ rs) input reply a b c before one =
    (before.0, before.1, replies_behind is rs input reply before.0 b c before.2 one)

-- ---- scripts

module _ {J : Type 0} (tells : Type 0) (holds : J → Summary → Type 0) (moment : J → ℕ)
    (left_since : J → ℕ → Image → Type 0) (place : J → Slot × ℕ) (moved : J → J → Summary → Type 0) where
  -- a whole state stays whole
  one_whole : (input : Given) (reply : List ℕ) (s s' : Session) (j j' : J)
      → ServesOne tells holds moment left_since place moved input reply s s' j j' → IsWhole s.core → IsWhole s'.core
  one_whole input reply s s' j j' one whole = record {
    right = one.right whole.right;
    keyed = one.makes.ended.keyed whole.right.0 whole.keyed;
  }

  all_whole : (s : Session) (j : J) (inputs : List Given) (replies : List (List ℕ)) (s' : Session) (j' : J)
      → ServesAll tells holds moment left_since place moved s j inputs replies s' j' → IsWhole s.core → IsWhole s'.core
  all_whole s j _ _ _ _ NoInput whole = whole
  all_whole s j _ _ _ _ (OneMore {inputs} {replies} {input} {reply} {s'} {s''} {j'} {j''} all one) whole =
      one_whole input reply s' s'' j' j'' one (all_whole s j inputs replies s' j' all whole)

  pub script_replied : (s : Session) (j : J) (inputs : List Given) (replies : List (List ℕ)) (s' : Session) (j' : J)
      → ServesAll tells holds moment left_since place moved s j inputs replies s' j' → IsWhole s.core
      → machine.Replies (sitting s) inputs replies (sitting s')
  script_replied s j _ _ _ _ NoInput whole = refl
  script_replied s j _ _ _ _ (OneMore {inputs} {replies} {input} {reply} {s'} {s''} {j'} {j''} all one) whole =
      let now = all_whole s j inputs replies s' j' all whole in
      let first = script_replied s j inputs replies s' j' all whole in
      let last = input_served s' s'' input reply one.served now in
      replies_behind inputs replies input reply (sitting s) (sitting s') (sitting s'') first last
