-- What an input does, from what the steps of a session do.
use Rattle.std.proofs.Common.{◌≡◌, ◌≤◌, ℕ, length, Bool, true, false, List, [], Option, Some, None, Result, Ok, Err, IfOk, OnOk, refl, ap, subst, ◌∙◌}
use Rattle.std.specs.Global.{Vec}
use Rattle.std.specs.Option.{option_map}
use Rattle.command_lang.specs.Reading.{AreLineTokens, SaysCommand, IsOnlyCommand}
use Rattle.flow_model.specs.declared.commands.Command.{Command}
use Rattle.flow_model.specs.declared.commands.Command.TheVariants.{Import, Start, Turn, Drain, Claim, Release, Transfer, Take, Done, Force, Restart, Suspend, Resume, Terminate, Delete, Clock, Checkpoint, Ask}
use Rattle.flow_model.specs.declared.commands.Query.{Query}
use Rattle.flow_core.specs.declared.state.Core.{Core}
use Rattle.flow_session.specs.Inputs.{Unended, IsCommanded, ServesLine, IsWrongAt, BlankLine, CommandLine, WrongLine, ServesText, unended, unended_in, word_text}
use Rattle.flow_session.specs.Replying.{IsObeyed}
use Rattle.flow_session.specs.declared.serving.Session.{Session}

-- no text is gathered
pub none_gathered : (s : Session) → s.gathered ≡ None → unended s ≡ None
none_gathered s is = ap (λ g. option_map unended_in g) is

module _ (old new : Core) (after : Option Unended) (reply : List ℕ) where
  -- a command that is none of those with a meaning of their own
  commanded : (command : Command) → ((text : List ℕ) → command ≡ Import text → ⊥) → (command ≡ Drain → ⊥) → (command ≡ Checkpoint → ⊥) → ((q : Query) → command ≡ Ask q → ⊥) → IsObeyed old new command reply → after ≡ None
      → IsCommanded old new command after reply
  commanded (Import text) no_import no_drain no_checkpoint no_ask is outside = absurd (no_import text refl)
  commanded (Start process starter key written) no_import no_drain no_checkpoint no_ask is outside = (is, outside)
  commanded (Turn queue) no_import no_drain no_checkpoint no_ask is outside = (is, outside)
  commanded Drain no_import no_drain no_checkpoint no_ask is outside = absurd (no_drain refl)
  commanded (Claim token who) no_import no_drain no_checkpoint no_ask is outside = (is, outside)
  commanded (Release token who) no_import no_drain no_checkpoint no_ask is outside = (is, outside)
  commanded (Transfer token who to) no_import no_drain no_checkpoint no_ask is outside = (is, outside)
  commanded (Take token) no_import no_drain no_checkpoint no_ask is outside = (is, outside)
  commanded (Done token who outcome) no_import no_drain no_checkpoint no_ask is outside = (is, outside)
  commanded (Force token outcome) no_import no_drain no_checkpoint no_ask is outside = (is, outside)
  commanded (Restart token) no_import no_drain no_checkpoint no_ask is outside = (is, outside)
  commanded (Suspend root) no_import no_drain no_checkpoint no_ask is outside = (is, outside)
  commanded (Resume root) no_import no_drain no_checkpoint no_ask is outside = (is, outside)
  commanded (Terminate root) no_import no_drain no_checkpoint no_ask is outside = (is, outside)
  commanded (Delete root) no_import no_drain no_checkpoint no_ask is outside = (is, outside)
  commanded (Clock minutes) no_import no_drain no_checkpoint no_ask is outside = (is, outside)
  commanded Checkpoint no_import no_drain no_checkpoint no_ask is outside = absurd (no_checkpoint refl)
  commanded (Ask query) no_import no_drain no_checkpoint no_ask is outside = absurd (no_ask query refl)

-- a line that is blank
pub says_blank : (s : Session) (line reply : List ℕ) → length line ≤ 65536 → AreLineTokens line [] → s.gathered ≡ None
    → reply ≡ [] → ServesLine line s.core s.core (unended s) reply
says_blank s line reply short tokens outside none =
    BlankLine short tokens (record { same = refl; gathers = none_gathered s outside; replies = none })

module _ {E : Type 0} where
  -- what `obey` replies to it
  pub obeyed : (s s' : Session) (command : Command) (r : Result (Vec ℕ) E) → ((text : List ℕ) → command ≡ Import text → ⊥) → (command ≡ Drain → ⊥) → (command ≡ Checkpoint → ⊥) → ((q : Query) → command ≡ Ask q → ⊥)
      → IfOk r (λ reply. IsObeyed s.core s'.core command reply.items) → OnOk r (s'.gathered ≡ s.gathered) → s.gathered ≡ None → IfOk r (λ reply. IsCommanded s.core s'.core command (unended s') reply.items)
  obeyed s s' command (Ok reply) no_import no_drain no_checkpoint no_ask is kept outside =
      commanded s.core s'.core (unended s') reply.items command no_import no_drain no_checkpoint no_ask is (none_gathered s' (kept ∙ outside))
  obeyed s s' command (Err e) no_import no_drain no_checkpoint no_ask is kept outside = tt

  -- a line that says a command
  pub says_command : (old new : Core) (after : Option Unended) (line : List ℕ) (command : Command) (r : Result (Vec ℕ) E) → length line ≤ 65536 → SaysCommand line (Some command) → IsOnlyCommand line (Some command) → IfOk r (λ reply. IsCommanded old new command after reply.items)
      → IfOk r (λ reply. ServesLine line old new after reply.items)
  says_command old new after line command (Ok reply) short says one is = CommandLine short (says, one) is
  says_command old new after line command (Err e) short says one is = tt

  -- a line that can't be read
  pub says_none : (s : Session) (line : List ℕ) (place : ℕ) (r : Result (Vec ℕ) E) → length line ≤ 65536 → IsWrongAt line place → s.gathered ≡ None → IfOk r (λ reply. reply.items ≡ word_text place) → IfOk r (λ reply. ServesLine line s.core s.core (unended s) reply.items)
  says_none s line place (Ok reply) short refused outside is = WrongLine short refused (record { same = refl; gathers = none_gathered s outside; replies = is })
  says_none s line place (Err e) short refused outside is = tt

  -- a text that is ended, none of whose lines was too long
  pub ended_text : (s s' : Session) (has_long : Bool) (text said : List ℕ) (r : Result (Vec ℕ) E) → has_long ≡ false → said ≡ text → IfOk r (λ reply. IsObeyed s.core s'.core (Import said) reply.items) → OnOk r (s'.gathered ≡ s.gathered) → s.gathered ≡ None
      → IfOk r (λ reply. ServesText has_long text s.core s'.core (unended s') reply.items)
  ended_text s s' true text said r long same is kept outside = absurd (let e : true ≡ false = long in cc)
  ended_text s s' false text said (Ok reply) long same is kept outside = (subst (λ (t : List ℕ). IsObeyed s.core s'.core (Import t) reply.items) same is, none_gathered s' (kept ∙ outside))
  ended_text s s' false text said (Err e) long same is kept outside = tt
