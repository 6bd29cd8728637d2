-- What stands after the first inputs of a script, and what a whole script makes.
use Rattle.std.proofs.Common.{◌≡◌, ◌⊎◌, inl, inr, ℕ, ◌+◌, ◌≤◌, ◌<◌, List, [], ◌∷◌, ◌++◌, length, take, refl, sym, ap, subst, ◌∙◌, arith}
use Rattle.std.proofs.lemmas.List.{length-append, take-append-le}
use Rattle.std.proofs.Math.Nat.{eq-or-lt_of_le}
use Rattle.std.proofs.Math.Seq.{take-length}
use Rattle.flow_disk.specs.Images.{Image}
use Rattle.flow_disk.specs.declared.disk.Slot.{Slot}
use Rattle.flow_core.specs.Summaries.{Summary, summary}
use Rattle.flow_session.specs.Histories.{StandsFor}
use Rattle.flow_session.specs.Scripts.{ServesOne, ServesAll, NoInput, OneMore, IsKeptFrom, AnsweredIsKept, ScriptsAreRuns, ScriptsKeepRight, ScriptsMakeAsked, AskNothing, AskMore}
use Rattle.flow_session.specs.Inputs.{Given}
use Rattle.flow_session.specs.declared.serving.Session.{Session}
use Rattle.flow_session.specs.Asking.{AsksOf}
use Rattle.flow_session.specs.Leading.{LeadsBy}
use Rattle.flow_session.specs.Serving.{Makes}
use Rattle.flow_session.proofs.Calls.{makes_nothing, makes_more}
use Rattle.flow_session.proofs.Leading.{leads_none, leads_more, leads_on}

module _ {J : Type 0} (tells : Type 0) (holds : J → Summary → Type 0) (moment : J → ℕ)
    (left_since : J → ℕ → Image → Type 0) (place : J → Slot × ℕ) (moved : J → J → Summary → Type 0) where
  -- there are as many replies as inputs
  pub as_many : (s : Session) (j : J) (inputs : List Given) (replies : List (List ℕ)) (s' : Session) (j' : J) → ServesAll tells holds moment left_since place moved s j inputs replies s' j' → length replies ≡ length inputs
  as_many s j _ _ _ _ NoInput = refl
  as_many s j _ _ _ _ (OneMore {inputs} {replies} {input} {reply} {s'} {s''} {j'} {j''} all one) =
      length-append replies (reply ∷ []) ∙ ap (λ n. n + 1) (as_many s j inputs replies s' j' all) ∙ sym (length-append inputs (input ∷ []))

  pub keep_right : ScriptsKeepRight tells holds moment left_since place moved
  keep_right s j _ _ _ _ NoInput right = right
  keep_right s j _ _ _ _ (OneMore {inputs} {replies} {input} {reply} {s'} {s''} {j'} {j''} all one) right = one.right (keep_right s j inputs replies s' j' all right)

  -- the transactions of one input, which asks for them
  one_asked : (input : Given) (reply : List ℕ) (s s' : Session) (j j' : J)
      → ServesOne tells holds moment left_since place moved input reply s s' j j'
      → Makes tells moment left_since j j' (summary s.core) (λ ts. AsksOf s input ts × LeadsBy s.core ts s'.core)
  one_asked input reply s s' j j' one = record {
    transactions = one.makes.transactions;
    any_moment = one.makes.any_moment;
    fit = one.makes.fit;
    ended = (one.asked, one.makes.ended);
  }

  module _ (at_rest : (journal : J) (s : Summary) (c : Image) → tells → holds journal s
      → left_since journal (moment journal) c → StandsFor s c)
      (counts_now : (journal : J) (t : ℕ) (c : Image) → t ≤ moment journal → left_since journal (moment journal) c
      → left_since journal t c) where
    -- all of them
    kept_whole : (s : Session) (j : J) (inputs : List Given) (replies : List (List ℕ)) (s' : Session) (j' : J) (n : ℕ) → ServesAll tells holds moment left_since place moved s j inputs replies s' j' → (tells → holds j' (summary s'.core)) → n ≡ length inputs
        → IsKeptFrom tells holds moment left_since place moved s j (take n inputs) (take n replies) s' j'
    kept_whole s j inputs replies s' j' n all held_now is =
        let these : take n inputs ≡ inputs = ap (λ k. take k inputs) is ∙ take-length inputs in
        let those : take n replies ≡ replies = ap (λ k. take k replies) (is ∙ sym (as_many s j inputs replies s' j' all)) ∙ take-length replies in
        record {
          session = s';
          journal = j';
          served = subst (λ (is : List Given). ServesAll tells holds moment left_since place moved s j is (take n replies) s' j') (sym these) (subst (λ (rs : List (List ℕ)). ServesAll tells holds moment left_since place moved s j inputs rs s' j') (sym those) all);
          kept = held_now;
          goes_on = makes_nothing tells moment left_since holds at_rest j' (summary s'.core) (λ ts. LeadsBy s'.core ts s'.core) held_now
              (leads_none s'.core);
        }

    -- one more input behind them
    kept_longer : (s : Session) (j : J) (inputs : List Given) (replies : List (List ℕ)) (input : Given) (reply : List ℕ) (s' s'' : Session) (j' j'' : J) (n : ℕ) → n ≤ length inputs → length replies ≡ length inputs → ServesOne tells holds moment left_since place moved input reply s' s'' j' j''
        → IsKeptFrom tells holds moment left_since place moved s j (take n inputs) (take n replies) s' j' → IsKeptFrom tells holds moment left_since place moved s j (take n (inputs ++ input ∷ [])) (take n (replies ++ reply ∷ [])) s'' j''
    kept_longer s j inputs replies input reply s' s'' j' j'' n within same one h =
        let these = take-append-le n inputs (input ∷ []) within in
        let those = take-append-le n replies (reply ∷ []) (omega (arith, within, same)) in
        record {
          session = h.session;
          journal = h.journal;
          served = subst (λ (is : List Given). ServesAll tells holds moment left_since place moved s j is (take n (replies ++ reply ∷ [])) h.session h.journal) (sym these)
              (subst (λ (rs : List (List ℕ)). ServesAll tells holds moment left_since place moved s j (take n inputs) rs h.session h.journal) (sym those) h.served);
          kept = h.kept;
          goes_on = leads_on tells moment left_since counts_now h.journal j' j'' h.session.core s'.core s''.core h.goes_on one.makes;
        }

    pub answered_kept : AnsweredIsKept tells holds moment left_since place moved
    answered_kept s j _ _ _ _ held_now NoInput n within = kept_whole s j [] [] s j n NoInput held_now (omega (arith, within))
    answered_kept s j _ _ _ _ held_now (OneMore {inputs} {replies} {input} {reply} {s'} {s''} {j'} {j''} all one) n within = go (eq-or-lt_of_le within) (λ short. answered_kept s j inputs replies s' j' held_now all n short)
      where
        go : (n ≡ length (inputs ++ input ∷ [])) ⊎ (n < length (inputs ++ input ∷ [])) → (n ≤ length inputs → IsKeptFrom tells holds moment left_since place moved s j (take n inputs) (take n replies) s' j')
            → IsKeptFrom tells holds moment left_since place moved s j (take n (inputs ++ input ∷ [])) (take n (replies ++ reply ∷ [])) s'' j''
        go (inl whole) before = kept_whole s j (inputs ++ input ∷ []) (replies ++ reply ∷ []) s'' j'' n (OneMore all one) one.kept whole
        go (inr front) before =
            let short : n ≤ length inputs = omega (arith, front, length-append inputs (input ∷ [])) in
            kept_longer s j inputs replies input reply s' s'' j' j'' n short (as_many s j inputs replies s' j' all) one (before short)

    pub are_runs : ScriptsAreRuns tells holds moment left_since place moved
    are_runs s j _ _ _ _ held_now NoInput =
        makes_nothing tells moment left_since holds at_rest j (summary s.core) (λ ts. LeadsBy s.core ts s.core) held_now
        (leads_none s.core)
    are_runs s j _ _ _ _ held_now (OneMore {inputs} {replies} {input} {reply} {s'} {s''} {j'} {j''} all one) =
        leads_on tells moment left_since counts_now j j' j'' s.core s'.core s''.core
        (are_runs s j inputs replies s' j' held_now all) one.makes

    pub make_asked : ScriptsMakeAsked tells holds moment left_since place moved
    make_asked s j _ _ _ _ held_now NoInput =
        makes_nothing tells moment left_since holds at_rest j (summary s.core) _ held_now (AskNothing, leads_none s.core)
    make_asked s j _ _ _ _ held_now (OneMore {inputs} {replies} {input} {reply} {s'} {s''} {j'} {j''} all one) =
        makes_more tells moment left_since counts_now j j' j'' (summary s.core) (summary s'.core) _ _ _
        (make_asked s j inputs replies s' j' held_now all) (λ ts so. so.1.came) (one_asked input reply s' s'' j' j'' one)
        (λ ts us a b. (AskMore input us reply a.0 b.0 one.served, leads_more s.core s'.core s''.core ts us a.1 b.1))
