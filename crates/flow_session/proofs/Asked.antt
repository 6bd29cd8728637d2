-- What calls make of what is asked for, and what the journal keeps of it.
use Rattle.std.proofs.Common.{◌≡◌, ◌⊎◌, inl, inr, ⊎_elim, ℕ, suc, ◌-◌, ◌<◌, ◌≤◌, List, [], ◌∷◌, ◌++◌, length, take, Result, Ok, Err, IfErr, OnOk, refl, sym, ap, subst, ◌∙◌, append-nil, arith}
use Rattle.flow_core.specs.Summaries.{Summary, summary}
use Rattle.flow_core.specs.Verdicts.{IsFront}
use Rattle.flow_core.specs.declared.state.Core.{Core}
use Rattle.flow_disk.specs.Images.{Image}
use Rattle.flow_disk.specs.Moments.{LeavesOnly}
use Rattle.flow_model.specs.declared.commands.Command.TheVariants.{Drain, Turn as TurnCommand}
use Rattle.flow_model.specs.declared.instances.Message.{Message}
use Rattle.flow_model.specs.declared.transactions.Transaction.{Transaction}
use Rattle.flow_model.specs.declared.transactions.Transaction.TheVariants.{Turn}
use Rattle.flow_session.specs.Asking.{Asks, NoneAsked, JudgedSo, TurnsSoFar, OneMoreTurn, AreTurns, OneTaken, IsTurnOf, AsksInside}
use Rattle.flow_session.specs.Draining.{IsNextQueue, queue_behind}
use Rattle.flow_session.specs.Fitting.{AreFitAlone, AreFitNow, HasFitRecords, IsFitNext}
use Rattle.flow_session.specs.Histories.{StandsFor, after}
use Rattle.flow_session.specs.Inputs.{Given, Line, Long, End, Unended}
use Rattle.flow_session.specs.Leading.{LeadsBy, MakesAsked, MakesSteps}
use Rattle.flow_session.specs.Serving.{Makes, WithOrWithout, KeepsMade, but_last}
use Rattle.flow_session.specs.declared.serving.Stop.{Stop}
use Rattle.flow_session.specs.declared.serving.Stop.TheVariants.{StoreFault, NoMemory}
use Rattle.flow_session.proofs.Calls.{after_append, leaves_now, makes_none, makes_one, makes_more, makes_nothing, makes_so}
use Rattle.flow_session.proofs.Leading.{leads_none, leads_more}
use Rattle.flow_session.proofs.Rights.{whatever}

-- ---- turns

-- what a TURN asks for
turn_asks : (c : Core) (q : ℕ) (us : List Transaction) → Asks c (TurnCommand q) us
    → (us ≡ []) ⊎ ((m : Message) × IsFront c q m × (c.number < c.limit) × (us ≡ Turn q m ∷ []))
turn_asks c q _ NoneAsked = inl refl
turn_asks c q _ (JudgedSo is) = inr (is.1.0, is.1.1, is.0, ap (λ x. x ∷ []) is.1.2)

-- turns that were taken, and the one that was under way when the call stopped
pub turns_stopped : (c d : Core) (ts us : List Transaction) (from queue : ℕ) → AreTurns c ts from d
    → IsNextQueue d from queue → Asks d (TurnCommand queue) us → Asks c Drain (ts ++ us)
turns_stopped c d ts us from queue taken next asks =
    ⊎_elim (λ none. subst (λ (x : List Transaction). Asks c Drain (ts ++ x)) (sym none)
    (subst (Asks c Drain) (sym (append-nil ts)) (TurnsSoFar taken)))
    (λ one. subst (λ (x : List Transaction). Asks c Drain (ts ++ x)) (sym one.3) (OneMoreTurn taken next one.1 one.2))
    (turn_asks d queue us asks)

-- a TURN that stops may have made nothing
pub no_turn : {T : Type 0} (r : Result T Stop) (c c' : Core) (q : ℕ)
    → IfErr r (λ stop. Asks c (TurnCommand q) [] × OnOk r (IsTurnOf c c' q []))
no_turn (Ok x) c c' q = tt
no_turn (Err stop) c c' q = (NoneAsked, tt)

-- an input may ask for nothing
pub none_inside : (c : Core) (u : Unended) (input : Given) → AsksInside c u input []
none_inside c u (Line line) = inl refl
none_inside c u Long = refl
none_inside c u End = refl

-- ---- what is kept

-- a list without its last transaction, behind one more and behind others
but_last_cons : (t u : Transaction) (us : List Transaction) → but_last (t ∷ u ∷ us) ≡ t ∷ but_last (u ∷ us)
but_last_cons t u us =
    let more : suc (suc (length us)) - 1 ≡ suc (length us) = omega arith in
    let one : suc (length us) - 1 ≡ length us = omega arith in
    ap (λ n. take n (t ∷ u ∷ us)) more ∙ ap (λ n. t ∷ take n (u ∷ us)) (sym one)

but_last_behind : (ts : List Transaction) (u : Transaction) (us : List Transaction)
    → but_last (ts ++ u ∷ us) ≡ ts ++ but_last (u ∷ us)
but_last_behind [] u us = refl
but_last_behind (t ∷ []) u us = but_last_cons t u us
but_last_behind (t ∷ t' ∷ ts) u us =
    but_last_cons t t' (ts ++ u ∷ us) ∙ ap (λ xs. t ∷ xs) (but_last_behind (t' ∷ ts) u us)

module _ {J : Type 0} (holds : J → Summary → Type 0) (moment : J → ℕ) (left_since : J → ℕ → Image → Type 0) where
  -- all is kept where a call succeeds, and where there was no memory
  keeps_all : {T : Type 0} (r : Result T Stop) (journal : J) (s : Summary) (ts : List Transaction)
      → IfErr r (λ stop. stop ≡ NoMemory) → holds journal (after s ts) → KeepsMade holds moment left_since journal s ts r
  keeps_all (Ok x) journal s ts silent is = is
  keeps_all {T} (Err stop) journal s ts silent is =
      subst (λ e. KeepsMade {T = T} holds moment left_since journal s ts (Err e)) (sym silent) is

  -- an image behind the first transactions
  stands_behind : (s : Summary) (ts us : List Transaction) (image : Image)
      → StandsFor (after (after s ts) (but_last us)) image ⊎ StandsFor (after (after s ts) us) image
      → StandsFor (after s (but_last (ts ++ us))) image ⊎ StandsFor (after s (ts ++ us)) image
  stands_behind s ts [] image stands =
      inr (subst (λ xs. StandsFor (after s xs) image) (sym (append-nil ts)) (⊎_elim (λ is. is) (λ is. is) stands))
  stands_behind s ts (u ∷ us) image stands =
      ⊎_elim (λ is. inl (subst (λ x. StandsFor x image)
      (sym (ap (after s) (but_last_behind ts u us) ∙ after_append s ts (but_last (u ∷ us)))) is))
      (λ is. inr (subst (λ x. StandsFor x image) (sym (after_append s ts (u ∷ us))) is)) stands

  kept_behind : (T U : Type 0) (stop : Stop) (journal : J) (s : Summary) (ts us : List Transaction)
      → KeepsMade {T = T} holds moment left_since journal (after s ts) us (Err stop)
      → KeepsMade {T = U} holds moment left_since journal s (ts ++ us) (Err stop)
  kept_behind T U NoMemory journal s ts us kept = subst (holds journal) (sym (after_append s ts us)) kept
  kept_behind T U StoreFault journal s ts us kept = λ image left. stands_behind s ts us image (kept image left)

-- ---- calls

module _ {J : Type 0} (tells : Type 0) (holds : J → Summary → Type 0) (moment : J → ℕ)
    (left_since : J → ℕ → Image → Type 0) where
  -- a call that asks for what another one does
  pub asked_so : {T : Type 0} (r : Result T Stop) (old new : J) (c c' : Core) (IsAsked IsSo : List Transaction → Type 0)
      → MakesAsked tells holds moment left_since old new c c' IsAsked r
      → ((ts : List Transaction) → IsAsked ts → IsSo ts)
      → MakesAsked tells holds moment left_since old new c c' IsSo r
  asked_so r old new c c' IsAsked IsSo makes leads =
      makes_so tells moment left_since old new (summary c) _ _ makes
      (λ ts ends. record { asked = leads ts ends.asked; leads = ends.leads; kept = ends.kept })

  -- what a call makes, without that it was asked for
  pub made_steps : {T : Type 0} (r : Result T Stop) (old new : J) (c c' : Core) (IsAsked : List Transaction → Type 0)
      → MakesAsked tells holds moment left_since old new c c' IsAsked r → MakesSteps tells moment left_since old new c c' r
  made_steps r old new c c' IsAsked makes = record {
    transactions = makes.transactions;
    any_moment = makes.any_moment;
    fit = makes.fit;
    ended = makes.ended.leads;
  }

  -- calls that are done, behind which nothing more is made
  pub asked_so_far : {T : Type 0} (r : Result T Stop) (old new : J) (c d : Core) (IsFirst IsAsked : List Transaction → Type 0)
      → IfErr r (λ stop. stop ≡ NoMemory)
      → Makes tells moment left_since old new (summary c) (λ ts. IsFirst ts × LeadsBy c ts d)
      → (tells → holds new (summary d)) → ((ts : List Transaction) → IsFirst ts → IsAsked ts)
      → MakesAsked tells holds moment left_since old new c d IsAsked r
  asked_so_far r old new c d IsFirst IsAsked silent makes held leads =
      makes_so tells moment left_since old new (summary c) _ _ makes
      (λ ts first. record {
        asked = leads ts first.0;
        leads = whatever r first.1;
        kept = λ told.
            keeps_all holds moment left_since r new (summary c) ts silent (subst (holds new) first.1.came (held told));
      })

  -- calls that are done, behind which one stops
  pub asked_stopped : (T U : Type 0) (stop : Stop)
      → ((journal : J) (t : ℕ) (c : Image) → t ≤ moment journal → left_since journal (moment journal) c
      → left_since journal t c)
      → (old mid new : J) (c d e : Core)
      (IsFirst IsMid IsAsked : List Transaction → Type 0)
      → Makes tells moment left_since old mid (summary c) (λ ts. IsFirst ts × LeadsBy c ts d)
      → MakesAsked {T = T} tells holds moment left_since mid new d e IsMid (Err stop)
      → ((ts us : List Transaction) → IsFirst ts → IsMid us → IsAsked (ts ++ us))
      → MakesAsked {T = U} tells holds moment left_since old new c e IsAsked (Err stop)
  asked_stopped T U stop counts_now old mid new c d e IsFirst IsMid IsAsked first second leads =
      makes_more tells moment left_since counts_now old mid new (summary c) (summary d) _ _ _ first (λ ts so. so.1.came) second
      (λ ts us a b. record {
        asked = leads ts us a.0 b.asked;
        leads = tt;
        kept = λ told.
            kept_behind holds moment left_since T U stop new (summary c) ts us
            (subst (λ s. KeepsMade {T = T} holds moment left_since new s us (Err stop)) a.1.came (b.kept told));
      })

  -- one more turn behind those that were taken
  pub turns_on : {T : Type 0} (x : T)
      → ((journal : J) (t : ℕ) (c : Image) → t ≤ moment journal → left_since journal (moment journal) c
      → left_since journal t c)
      → (old mid new : J) (c d e : Core) (from queue : ℕ) (IsMid : List Transaction → Type 0)
      → Makes tells moment left_since old mid (summary c) (λ ts. AreTurns c ts from d × LeadsBy c ts d)
      → MakesAsked tells holds moment left_since mid new d e (λ us. IsMid us × IsTurnOf d e queue us) (Ok x)
      → IsNextQueue d from queue
      → Makes tells moment left_since old new (summary c)
      (λ ts. AreTurns c ts (queue_behind (length d.queues) queue) e × LeadsBy c ts e)
  turns_on x counts_now old mid new c d e from queue IsMid first second next =
      makes_more tells moment left_since counts_now old mid new (summary c) (summary d) _ _ _ first (λ ts so. so.1.came) second
      (λ ts us a b. (OneTaken a.0 next b.asked.1, leads_more c d e ts us a.1 b.leads))

  module _ (at_rest : (journal : J) (s : Summary) (c : Image) → tells → holds journal s
      → left_since journal (moment journal) c → StandsFor s c) where
    -- a call that leaves an open journal alone
    pub asked_nothing : {T : Type 0} (r : Result T Stop) (journal : J) (c : Core) (IsAsked : List Transaction → Type 0)
        → (tells → holds journal (summary c)) → IfErr r (λ stop. stop ≡ NoMemory) → IsAsked []
        → MakesAsked tells holds moment left_since journal journal c c IsAsked r
    asked_nothing r journal c IsAsked held silent none =
        makes_nothing tells moment left_since holds at_rest journal (summary c) _ held (record {
          asked = none;
          leads = whatever r (leads_none c);
          kept = λ told. keeps_all holds moment left_since r journal (summary c) [] silent (held told);
        })

    -- a call that stops for want of memory, with nothing made
    pub stopped_first : (T : Type 0) (stop : Stop) (journal : J) (c c' : Core) (IsAsked : List Transaction → Type 0)
        → (tells → holds journal (summary c)) → stop ≡ NoMemory → IsAsked []
        → MakesAsked {T = T} tells holds moment left_since journal journal c c' IsAsked (Err stop)
    stopped_first T stop journal c c' IsAsked held silent none =
        subst (λ e. MakesAsked {T = T} tells holds moment left_since journal journal c c' IsAsked (Err e)) (sym silent)
        (makes_nothing tells moment left_since holds at_rest journal (summary c) _ held
        (record { asked = none; leads = tt; kept = held }))

    module _ (counts_now : (journal : J) (t : ℕ) (c : Image) → t ≤ moment journal
        → left_since journal (moment journal) c → left_since journal t c) where
      -- a call that stops while it makes one transaction
      pub one_stopped : (T : Type 0) (stop : Stop) (old new : J) (c c' : Core) (t : Transaction)
          (IsAsked : List Transaction → Type 0) → (tells → holds old (summary c)) → (stop ≡ NoMemory → new ≡ old)
          → (tells → LeavesOnly moment left_since old new (WithOrWithout t (summary c)))
          → (tells → AreFitNow moment left_since old → IsFitNext (summary c) t
          → LeavesOnly moment left_since old new HasFitRecords)
          → IsAsked [] → IsAsked (t ∷ [])
          → MakesAsked {T = T} tells holds moment left_since old new c c' IsAsked (Err stop)
      one_stopped T NoMemory old new c c' t IsAsked held undone leaves fit none one =
          subst (λ j. MakesAsked {T = T} tells holds moment left_since old j c c' IsAsked (Err NoMemory))
          (sym (undone refl)) (stopped_first T NoMemory old c c' IsAsked held refl none)
      one_stopped T StoreFault old new c c' t IsAsked held undone leaves fit none one =
          makes_one tells moment left_since old new (summary c) t _ leaves fit (record {
            asked = one;
            leads = tt;
            kept = λ told. leaves_now moment left_since counts_now old new (WithOrWithout t (summary c)) (leaves told);
          })

      -- a call that makes one transaction, or stops
      pub asked_one : {T : Type 0} (r : Result T Stop) (old new : J) (c c' : Core) (t : Transaction)
          (IsAsked : List Transaction → Type 0) → (tells → holds old (summary c))
          → IfErr r (λ stop. stop ≡ NoMemory → new ≡ old)
          → (tells → LeavesOnly moment left_since old new (WithOrWithout t (summary c)))
          → (tells → AreFitNow moment left_since old → IsFitNext (summary c) t
          → LeavesOnly moment left_since old new HasFitRecords)
          → (tells → OnOk r (holds new (summary c'))) → OnOk r (LeadsBy c (t ∷ []) c')
          → IfErr r (λ stop. IsAsked []) → IsAsked (t ∷ [])
          → MakesAsked tells holds moment left_since old new c c' IsAsked r
      asked_one (Ok x) old new c c' t IsAsked held undone leaves fit kept leads none one =
          makes_one tells moment left_since old new (summary c) t _ leaves fit (record {
            asked = one;
            leads = leads;
            kept = λ told. subst (holds new) leads.came (kept told);
          })
      asked_one {T} (Err stop) old new c c' t IsAsked held undone leaves fit kept leads none one =
          one_stopped T stop old new c c' t IsAsked held undone leaves fit none one

      -- a call that moves the journal, or stops
      pub asked_moved : (T : Type 0) (stop : Stop) (old new : J) (c : Core) (IsAsked : List Transaction → Type 0)
          → (stop ≡ NoMemory → tells → holds new (summary c))
          → (tells → LeavesOnly moment left_since old new (StandsFor (summary c)))
          → (tells → AreFitNow moment left_since old → AreFitAlone (summary c)
          → LeavesOnly moment left_since old new HasFitRecords)
          → IsAsked []
          → MakesAsked {T = T} tells holds moment left_since old new c c IsAsked (Err stop)
      asked_moved T NoMemory old new c IsAsked stays leaves fit none =
          makes_none tells moment left_since old new (summary c) _ leaves fit
          (record { asked = none; leads = tt; kept = stays refl })
      asked_moved T StoreFault old new c IsAsked stays leaves fit none =
          makes_none tells moment left_since old new (summary c) _ leaves fit (record {
            asked = none;
            leads = tt;
            kept = λ told. λ image left. inr (leaves_now moment left_since counts_now old new (StandsFor (summary c)) (leaves told) image left);
          })
