-- What an input does to a session, and what is replied, is what the machine does and replies.
use Rattle.std.proofs.Common.{◌≡◌, inl, inr, ℕ, Bool, true, false, Option, Some, None, List, [], length, sym, ap, subst}
use Rattle.std.specs.Prelude.{if◌then◌else◌}
use Rattle.flow_core.specs.declared.state.Core.{Core}
use Rattle.flow_model.specs.declared.commands.Command.{Command}
use Rattle.flow_model.specs.declared.commands.Command.TheVariants.{Import, Start, Turn, Drain, Claim, Release, Transfer}
use Rattle.flow_model.specs.declared.commands.Command.TheVariants.{Take, Done, Force, Restart, Suspend, Resume}
use Rattle.flow_model.specs.declared.commands.Command.TheVariants.{Terminate, Delete, Clock, Checkpoint, Ask}
use Rattle.machine.specs.Scripts as machine
use Rattle.machine_laws.specs.Viewed.{view}
use Rattle.machine_laws.proofs.EachQuery.{answer_seen}
use Rattle.machine_laws.proofs.Obeyed.{command_obeyed, refusal_obeyed, same_obeyed}
use Rattle.machine_laws.specs.WholeStates.{IsWhole}
use Rattle.flow_session.specs.Inputs as session
use Rattle.flow_session.specs.Inputs.{Given, Line, Long, End, Unended, unended, is_end}
use Rattle.flow_session.specs.Replying.{IsObeyed, IsUnmade, checkpoint_text}
use Rattle.flow_session.specs.declared.serving.Session.{Session}
use Rattle.flow_session.specs.Sittings.{sitting}
use Rattle.flow_session.proofs.Turning.{drain_seen}

-- ---- what changes nothing

answers_seen : (c c' : Core) (gathered after : Option Unended) (text reply : List ℕ)
    → session.Answers c c' gathered after text reply
    → machine.Answers (view c) (view c') gathered after text reply
answers_seen c c' gathered after text reply is = record {
  same = ap view is.same;
  gathers = is.gathers;
  replies = is.replies;
}

-- ---- commands

module _ (c : Core) (whole : IsWhole c) where
  unmade_seen : (command : Command) (reply : List ℕ) → IsUnmade c command reply
      → machine.IsObeyed (view c) (view c) command reply
  unmade_seen command reply (inl (refusal, is, told)) =
      subst (machine.IsObeyed (view c) (view c) command) (sym told)
      (refusal_obeyed c command refusal whole.keyed is)
  unmade_seen command reply (inr (root, is, told)) =
      subst (machine.IsObeyed (view c) (view c) command) (sym told)
      (same_obeyed c command root whole.keyed is)

  obeyed_seen : (c' : Core) (command : Command) (reply : List ℕ) → IsObeyed c c' command reply
      → machine.IsObeyed (view c) (view c') command reply
  obeyed_seen c' command reply (inl made) =
      subst (machine.IsObeyed (view c) (view c') command) (sym made.told)
      (command_obeyed c c' command made.transaction made.note whole.right.0.0 whole.right.0.1 whole.keyed made.judged
      made.applied made.noted).0
  obeyed_seen c' command reply (inr (same, unmade)) =
      subst (λ x. machine.IsObeyed (view c) x command reply) (sym (ap view same)) (unmade_seen command reply unmade)

  -- a command that is obeyed, and no text is gathered afterwards
  ended_seen : (c' : Core) (command : Command) (after : Option Unended) (reply : List ℕ)
      → IsObeyed c c' command reply × (after ≡ None)
      → machine.IsObeyed (view c) (view c') command reply × (after ≡ None)
  ended_seen c' command after reply (obeyed, none) = (obeyed_seen c' command reply obeyed, none)

  module _ (c' : Core) (after : Option Unended) (reply : List ℕ) where
    commanded_seen : (command : Command) → session.IsCommanded c c' command after reply
        → machine.IsCommanded (view c) (view c') command after reply
    commanded_seen (Import text) is = answers_seen c c' (Some session.no_lines) after [] reply is
    commanded_seen Drain is = (drain_seen c c' reply is.0 whole.right.0, is.1)
    commanded_seen Checkpoint is =
        answers_seen c c' None after (checkpoint_text (length c.live.items)) reply is
    commanded_seen (Ask query) is =
        (ap view is.0, is.1, answer_seen c query reply whole.right is.2)
    commanded_seen (Start process starter key settings) is = ended_seen c' (Start process starter key settings) after reply is
    commanded_seen (Turn queue) is = ended_seen c' (Turn queue) after reply is
    commanded_seen (Claim token who) is = ended_seen c' (Claim token who) after reply is
    commanded_seen (Release token who) is = ended_seen c' (Release token who) after reply is
    commanded_seen (Transfer token who to) is = ended_seen c' (Transfer token who to) after reply is
    commanded_seen (Take token) is = ended_seen c' (Take token) after reply is
    commanded_seen (Done token who outcome) is = ended_seen c' (Done token who outcome) after reply is
    commanded_seen (Force token outcome) is = ended_seen c' (Force token outcome) after reply is
    commanded_seen (Restart token) is = ended_seen c' (Restart token) after reply is
    commanded_seen (Suspend root) is = ended_seen c' (Suspend root) after reply is
    commanded_seen (Resume root) is = ended_seen c' (Resume root) after reply is
    commanded_seen (Terminate root) is = ended_seen c' (Terminate root) after reply is
    commanded_seen (Delete root) is = ended_seen c' (Delete root) after reply is
    commanded_seen (Clock minutes) is = ended_seen c' (Clock minutes) after reply is

    -- ---- lines and inputs outside an IMPORT

    line_seen : (line : List ℕ) → session.ServesLine line c c' after reply
        → machine.ServesLine line (view c) (view c') after reply
    line_seen line (session.LongLine long is) =
        (machine.AsLong, long, answers_seen c c' None after session.long_text reply is)
    line_seen line (session.BlankLine short blank is) =
        (machine.AsBlank, (short, blank), answers_seen c c' None after [] reply is)
    line_seen line (session.CommandLine {command} short says is) =
        (machine.AsCommand command, (short, says), commanded_seen command is)
    line_seen line (session.WrongLine {place} short wrong is) = (
      machine.AsWrong place,
      (short, wrong),
      answers_seen c c' None after (session.word_text place) reply is,
    )

    outside_seen : (input : Given) → session.ServesOutside input c c' after reply
        → machine.ServesOutside input (view c) (view c') after reply
    outside_seen (Line line) is = line_seen line is
    outside_seen Long is = answers_seen c c' None after session.long_text reply is
    outside_seen End is = answers_seen c c' None after [] reply is

    -- ---- inputs inside an IMPORT

    text_seen : (has_long : Bool) (text : List ℕ) → session.ServesText has_long text c c' after reply
        → machine.ServesText has_long text (view c) (view c') after reply
    text_seen true text is = answers_seen c c' None after session.long_text reply is
    text_seen false text is = ended_seen c' (Import text) after reply is

    text_line_seen : (ends : Bool) (u : Unended) (line : List ℕ) → session.ServesTextLine ends u line c c' after reply
        → machine.ServesTextLine ends u line (view c) (view c') after reply
    text_line_seen true u line is = text_seen u.has_long u.text is
    text_line_seen false u line is =
        answers_seen c c' (Some (record u { text = session.with_line u.text line })) after [] reply is

    inside_seen : (u : Unended) (input : Given) → session.ServesInside u input c c' after reply
        → machine.ServesInside u input (view c) (view c') after reply
    inside_seen u (Line line) is = text_line_seen (is_end line) u line is
    inside_seen u Long is = answers_seen c c' (Some (record u { has_long = true })) after [] reply is
    inside_seen u End is =
        answers_seen c c' None after (if u.has_long then session.long_text else session.unended_text) reply is

    input_seen : (o : Option Unended) (input : Given) → session.ServesInput o input c c' after reply
        → machine.ServesInput o input (view c) (view c') after reply
    input_seen None input is = outside_seen input is
    input_seen (Some u) input is = inside_seen u input is

-- an input of a session is an input of the machine
pub input_served : (s s' : Session) (input : Given) (reply : List ℕ) → session.IsServed s s' input reply
    → IsWhole s.core
    → machine.ServesInput (sitting s).unended input (view s.core) (view s'.core) (sitting s').unended reply
input_served s s' input reply is whole =
    input_seen s.core whole s'.core (unended s') reply (unended s) input is
