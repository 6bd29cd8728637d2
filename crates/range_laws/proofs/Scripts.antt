-- A script, input by input: its transactions are made by commands with words in range, and so each is in range.
use Rattle.std.proofs.Common.{ℕ, ◌≤◌, List, refl}
use Rattle.core_laws.specs.RightStates.{IsRightCore}
use Rattle.flow_core.specs.Summaries.{Summary, summary}
use Rattle.flow_disk.specs.Images.{Image}
use Rattle.flow_disk.specs.declared.disk.Slot.{Slot}
use Rattle.flow_session.specs.Histories.{StandsFor}
use Rattle.flow_session.specs.Inputs.{Given, unended}
use Rattle.flow_session.specs.Leading.{LeadsBy}
use Rattle.flow_session.specs.Scripts.{ServesOne, ServesAll, NoInput, OneMore}
use Rattle.flow_session.specs.Serving.{Makes}
use Rattle.flow_session.specs.declared.serving.Session.{Session}
use Rattle.flow_session.proofs.Calls.{makes_nothing, makes_more, makes_so}
use Rattle.flow_session.proofs.Leading.{leads_none, leads_more}
use Rattle.machine_laws.specs.Viewed.{view}
use Rattle.machine_laws.specs.Keyed.{AreKeyed}
use Rattle.worklist_laws.specs.Shelved.{IsRightAndListed}
use Rattle.range_laws.specs.Sessions.{MakesInRange, ScriptsMakeInRange}
use Rattle.range_laws.specs.Standing.{HasNoZero, StaysInBounds}
use Rattle.range_laws.specs.Words.{MadeByWords}
use Rattle.range_laws.proofs.Asked.{more_worded, input_worded}
use Rattle.range_laws.proofs.Words.{words_fit, words_in_range}

module _ {J : Type 0} (tells : Type 0) (holds : J → Summary → Type 0) (moment : J → ℕ)
    (left_since : J → ℕ → Image → Type 0) (place : J → Slot × ℕ) (moved : J → J → Summary → Type 0) where
  -- one input
  one_worded : (input : Given) (reply : List ℕ) (s s' : Session) (j j' : J)
      → ServesOne tells holds moment left_since place moved input reply s s' j j' → IsRightCore s.core
      → Makes tells moment left_since j j' (summary s.core)
      (λ ts. LeadsBy s.core ts s'.core
      × (AreKeyed s.core → HasNoZero (view s.core) → MadeByWords (view s.core) ts (view s'.core)))
  one_worded input reply s s' j j' one right = record {
    transactions = one.makes.transactions;
    any_moment = one.makes.any_moment;
    fit = one.makes.fit;
    ended = (
      one.makes.ended,
      λ keyed from_one.
          input_worded s.core right keyed s'.core from_one (unended s) input one.makes.transactions one.asked
          one.makes.ended,
    );
  }

  still_right : (s : Session) (j : J) (inputs : List Given) (replies : List (List ℕ)) (s' : Session) (j' : J)
      → ServesAll tells holds moment left_since place moved s j inputs replies s' j' → IsRightAndListed s.core
      → IsRightAndListed s'.core
  still_right s j _ _ _ _ NoInput right = right
  still_right s j _ _ _ _ (OneMore {inputs} {replies} {input} {reply} {s'} {s''} {j'} {j''} all one) right =
      one.right (still_right s j inputs replies s' j' all right)

  module _ (at_rest : (journal : J) (s : Summary) (c : Image) → tells → holds journal s
      → left_since journal (moment journal) c → StandsFor s c)
      (counts_now : (journal : J) (t : ℕ) (c : Image) → t ≤ moment journal → left_since journal (moment journal) c
      → left_since journal t c)
      (s : Session) (j : J) (right : IsRightAndListed s.core) (keyed : AreKeyed s.core)
      (ok : StaysInBounds (view s.core)) where
    -- the inputs so far
    made_so_far : (inputs : List Given) (replies : List (List ℕ)) (s' : Session) (j' : J)
        → (tells → holds j (summary s.core))
        → ServesAll tells holds moment left_since place moved s j inputs replies s' j'
        → Makes tells moment left_since j j' (summary s.core)
        (λ ts. LeadsBy s.core ts s'.core × MadeByWords (view s.core) ts (view s'.core))
    made_so_far _ _ _ _ held_now NoInput =
        makes_nothing tells moment left_since holds at_rest j (summary s.core) _ held_now (leads_none s.core, refl)
    made_so_far _ _ _ _ held_now (OneMore {inputs} {replies} {input} {reply} {s'} {s''} {j'} {j''} all one) =
        makes_more tells moment left_since counts_now j j' j'' (summary s.core) (summary s'.core) _ _ _
        (made_so_far inputs replies s' j' held_now all) (λ ts so. so.0.came)
        (one_worded input reply s' s'' j' j'' one (still_right s j inputs replies s' j' all right).0)
        (λ ts us a b. (
          leads_more s.core s'.core s''.core ts us a.0 b.0,
          more_worded (view s.core) ts us (view s'.core) (view s''.core) a.1
              (b.1 (a.0.keyed right.0 keyed) (words_fit (view s.core) ts (view s'.core) ok a.1).2.from_one),
        ))

  pub scripts_in_range : ((journal : J) (s : Summary) (c : Image) → tells → holds journal s
      → left_since journal (moment journal) c → StandsFor s c)
      → ((journal : J) (t : ℕ) (c : Image) → t ≤ moment journal → left_since journal (moment journal) c
      → left_since journal t c) → ScriptsMakeInRange tells holds moment left_since place moved
  scripts_in_range at_rest counts_now s j inputs replies s' j' held_now all whole ok =
      makes_so tells moment left_since j j' (summary s.core)
      (λ ts. LeadsBy s.core ts s'.core × MadeByWords (view s.core) ts (view s'.core))
      (λ ts. MakesInRange s.core ts s'.core)
      (made_so_far at_rest counts_now s j whole.right whole.keyed ok inputs replies s' j' held_now all)
      (λ ts so. record {
        leads = so.0;
        made = so.1;
        in_range = words_in_range (view s.core) ts (view s'.core) ok so.1;
        bounded = (words_fit (view s.core) ts (view s'.core) ok so.1).2;
      })
