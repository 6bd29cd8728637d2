-- A record that is made again is admitted among the kept ones.
use Rattle.std.proofs.Common.{◌≡◌, inl, ℕ, ◌-◌, ◌<◌, ◌≤◌, Option, Some, None, arith}
use Rattle.std.specs.Prelude.{IfSome}
use Rattle.flow_core.specs.Admitting.{IsDue, IsAdmitted}
use Rattle.flow_core.specs.Allowing.{Subject, IsThere}
use Rattle.flow_core.specs.Driving.{templates}
use Rattle.flow_core.specs.declared.state.Core.{Core}
use Rattle.flow_model.specs.declared.instances.Path.{Path}
use Rattle.flow_model.specs.declared.transactions.Numbered.{Numbered}
use Rattle.flow_model.specs.declared.transactions.Transaction.{Transaction}
use Rattle.flow_model.specs.declared.transactions.Transaction.TheVariants.{Import, Start, Turn, Claim, Release}
use Rattle.flow_model.specs.declared.transactions.Transaction.TheVariants.{Transfer, Take, Done, Force, Restart}
use Rattle.flow_model.specs.declared.transactions.Transaction.TheVariants.{Suspend, Resume, Terminate, Delete, Clock}
use Rattle.machine.specs.Steps.{started, last_root_by}
use Rattle.machine_laws.specs.Viewed.{view}
use Rattle.machine_laws.specs.Keyed.{AreKeyed}
use Rattle.reopening_laws.proofs.Admitted.{command_admitted}
use Rattle.reopening_laws.proofs.Codes.{items_have_codes}
use Rattle.reopening_laws.specs.Codes.{HaveCodes}
use Rattle.compaction_laws.specs.Compact.{IsRemade}
use Rattle.compaction_laws.specs.Resuming.{IsBehindKept}

-- a state of the engine that counts only the transactions and roots before a record
abbrev before_it : Core → ℕ → ℕ → Core
before_it c number last = record c { number = number; roots = last; kept = 0 }

module _ (c : Core) (number last : ℕ) where
  keyed_before : AreKeyed c → AreKeyed (before_it c number last)
  keyed_before keyed = record { holders = keyed.holders; starts = keyed.starts; held = keyed.held }

  there_now : (path : Path) (s : Subject) → IsThere (before_it c number last) path s → IsThere c path s
  there_now path s is = record {
    there = is.there;
    program = is.program;
    mode = is.mode;
    starter = is.starter;
    performer = is.performer;
  }

  -- what is due goes by neither count
  due_now : (t : Transaction) → IsDue (before_it c number last) t → IsDue c t
  due_now (Import text) due = due
  due_now (Start root process version starter key settings) due = record {
    template = due.template;
    newest = due.newest;
    number = due.number;
    declared = due.declared;
    unused = due.unused;
    fit = due.fit;
  }
  due_now (Turn queue message) due = due
  due_now (Claim item who) (s, there, due) = (s, there_now item s there, due)
  due_now (Release item who) (s, there, due) = (s, there_now item s there, due)
  due_now (Transfer item who to) (s, there, due) = (s, there_now item s there, due)
  due_now (Take item take) (s, there, due) = (s, there_now item s there, due)
  due_now (Done item who settings) (s, there, due) = (s, there_now item s there, due)
  due_now (Force item settings) (s, there, due) = (s, there_now item s there, due)
  due_now (Restart item) (s, there, due) = (s, there_now item s there, due)
  due_now (Suspend root) due = due
  due_now (Resume root) due = due
  due_now (Terminate root) due = due
  due_now (Delete root) due = due
  due_now (Clock minutes) due = due

kept_root : (c : Core) (o : Option ℕ) → last_root_by o c.roots ≡ c.roots → IfSome o (λ root. c.kept_root < root)
    → IfSome o (λ root. (c.kept_root < root) × (root ≤ c.roots))
kept_root c None most behind = tt
kept_root c (Some root) most behind = (behind, omega arith)

pub kept_admitted : (c : Core) (n : Numbered) → AreKeyed c → HaveCodes (templates c) → c.number ≡ c.kept
    → IsRemade (view c) n → IsBehindKept c n → IsAdmitted c n.number n.transaction
kept_admitted c n keyed coded at is behind =
    let d = before_it c (n.number - 1) is.last in
    let admitted = command_admitted d (keyed_before c (n.number - 1) is.last keyed) (items_have_codes (view d) coded)
    (omega arith) is.command n.transaction is.judged in
    let counted : n.number ≤ c.number = is.placed.counted in
    record {
      place = inl (
        (omega (arith, counted, at), behind.0, at),
        (is.placed.stays, kept_root c (started n.transaction) is.placed.root behind.1),
      );
      due = due_now c (n.number - 1) is.last n.transaction admitted.due;
    }
