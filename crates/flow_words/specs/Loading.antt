-- What `load` serves and prints: a script that two numbers make, and the line that sums it up.
use Rattle.std.specs.Prelude.{◌≡◌, ◌⊎◌, ℕ, zero, suc, ◌+◌, ◌*◌, ◌/◌, ◌%◌, ◌-◌, ◌^◌, min, nat_lt, Bool, true, false}
use Rattle.std.specs.Prelude.{if◌then◌else◌, count_by, Option, List, [], ◌∷◌, ◌++◌, length, map}
use Rattle.std.specs.Prelude.{codes, decimal}
use Rattle.std.specs.List.{flat_map}
use Rattle.std.specs.Io.KnownBytes.{Keeps}
use Rattle.flow_core.specs.Answers.{done_roots}
use Rattle.flow_core.specs.Verdicts.{fate_now}
use Rattle.flow_core.specs.declared.state.Core.{Core}
use Rattle.flow_model.specs.declared.instances.Fate.{Fate}
use Rattle.flow_model.specs.declared.instances.Fate.TheVariants.{Finished}
use Rattle.flow_model.specs.declared.instances.Path.{Path}
use Rattle.flow_model.specs.declared.transactions.Numbered.{Numbered}
use Rattle.flow_disk.specs.declared.disk.Slot.TheVariants.{A}
use Rattle.flow_session.specs.Inputs.{Given, Line}
use Rattle.flow_session.specs.Scripts.{ServesAll}
use Rattle.flow_session.specs.declared.journal.NoJournal.{NoJournal}
use Rattle.flow_session.specs.declared.serving.Session.{Session}
use Rattle.live_history.specs.Transactions.{is_turn}
use Rattle.flow_words.specs.Printed.{Prints}
use Rattle.flow_words.specs.Scripts.{IsFresh, all_replies}
use Rattle.flow_words.specs.declared.load.Loading.{Loading}
use Rattle.flow_words.specs.declared.status.Status.{Status}
use Rattle.flow_words.specs.declared.status.Status.TheVariants.{Done, NoMemory}

-- ---- amounts

-- the number of the generator that comes after another one
abbrev pub next_number : ℕ → ℕ
next_number x = (x * 1103515245 + 12345) % 2147483648

-- the number of a root: the seed is that of root 0, and each other one comes after the one before
abbrev pub number_of : ℕ → ℕ → ℕ
number_of seed zero = seed
number_of seed (suc root) = next_number (number_of seed root)

-- the amount that a number of the generator gives
abbrev pub amount_by : ℕ → ℕ
amount_by x = x / 65536 % 201

-- an amount takes the way of those above 100
abbrev pub is_above : ℕ → Bool
is_above amount = nat_lt 100 amount

-- ---- the script

-- the lines of the text that is imported
unfoldable pub loan_text : List (List ℕ)
loan_text =
    codes "STRUCTURE 'Loan' 'Amount' : LONG ; 'Risk' : STRING ; END 'Loan'" ∷ codes
    "PERSON 'ann' ROLES 'clerk' END 'ann'" ∷ codes "PROCESS 'P' ('Loan','Loan')"
    ∷ codes "PROGRAM_ACTIVITY 'A' ('Loan','Loan') END 'A'" ∷ codes "PROGRAM_ACTIVITY 'B' ('Loan','Loan') END 'B'" ∷
    codes "PROGRAM_ACTIVITY 'C' ('Loan','Loan') END 'C'"
    ∷ codes "PROGRAM_ACTIVITY 'D' ('Loan','Loan') WHEN AT_LEAST_ONE CONNECTOR TRUE END 'D'" ∷ codes
    "CONTROL FROM 'A' TO 'B' WHEN ('Amount' > 100)" ∷ codes "CONTROL FROM 'A' TO 'C' OTHERWISE"
    ∷ codes "CONTROL FROM 'B' TO 'D'" ∷ codes "CONTROL FROM 'C' TO 'D'" ∷ codes
    "DATA FROM SOURCE TO 'A' MAP 'Amount' TO 'Amount'" ∷ codes "DATA FROM 'D' TO SINK MAP 'Amount' TO 'Amount'"
    ∷ codes "END 'P'" ∷ []

-- these lines, one after the other
abbrev pub lines : List (List ℕ) → List Given
lines texts = map Line texts

-- an IMPORT of the text
abbrev pub import_script : List Given
import_script = lines (codes "IMPORT" ∷ []) ++ lines loan_text ++ lines (codes "." ∷ [])

-- a line, and a DRAIN behind it
abbrev pub drained : List ℕ → List Given
drained line = lines (line ∷ codes "DRAIN" ∷ [])

-- a START with an amount
abbrev pub start_line : ℕ → List ℕ
start_line amount = codes "START 'P' BY 'ann' WITH 'Amount' = " ++ decimal amount

-- a FORCE of the first attempt of an activity of a root, whose name is one letter
abbrev pub force_line : ℕ → ℕ → List ℕ
force_line root letter = codes "FORCE '" ++ decimal root ++ 47 ∷ letter ∷ codes "#1'"

-- one that gives an amount
abbrev pub force_with : ℕ → ℕ → ℕ → List ℕ
force_with root letter amount = force_line root letter ++ codes " WITH 'Amount' = " ++ decimal amount

-- the letter of the activity on the way of an amount: B above 100, else C
abbrev pub way : ℕ → ℕ
way amount = if is_above amount then 66 else 67

-- the lines for a root: a START, and a FORCE of A, of B or C, and of D, with a DRAIN behind each
unfoldable pub root_script : ℕ → ℕ → List Given
root_script root amount = drained (start_line amount) ++ drained (force_with root 65 amount)
    ++ drained (force_line root (way amount)) ++ drained (force_line root 68)

-- the lines for this number of first roots
abbrev pub roots_script : ℕ → ℕ → List Given
roots_script seed zero = []
roots_script seed (suc root) = roots_script seed root ++ root_script (suc root) (amount_by (number_of seed (suc root)))

-- the script that a seed and a number of roots make
abbrev pub load_script : ℕ → ℕ → List Given
load_script seed roots = import_script ++ roots_script seed roots

-- ---- how it is served

-- inputs are served in memory, one after the other, with these replies
abbrev pub ServesInMemory : Session → NoJournal → List Given → List (List ℕ) → Session → NoJournal → Type 0
ServesInMemory s j inputs replies s' j' = ServesAll ⊥ (λ _ _. ⊥) (λ _. 0) (λ _ _ _. ⊥) (λ _. (A, 0))
    (λ _ _ _. Unit {0}) s j inputs replies s' j'

-- ---- what is counted

-- the messages that were taken: the Turns among the live transactions
abbrev pub turns_of : List Numbered → ℕ
turns_of live = count_by (λ n. is_turn n.transaction) live

-- the live roots that are done, as far as 64 bits tell them
abbrev pub done_in : Core → ℕ
done_in c = min (done_roots c) (2 ^ 64 - 1)

abbrev pub is_finished : Fate → Bool
is_finished (Finished attempt) = true
is_finished fate = false

-- the item of the first attempt of a root's B
abbrev pub item_b : ℕ → Path
item_b root = record { root = root; parts = record { name = codes "B"; attempt = 1 } ∷ [] }

-- of this number of first roots, so many have a finished B, as the state shows it
abbrev pub AreFinished : Core → ℕ → ℕ → Type 0
AreFinished c zero count = count ≡ 0
AreFinished c (suc root) count = (before : ℕ) × AreFinished c root before
    × (count ≡ before + (if is_finished (fate_now c (item_b (suc root))) then 1 else 0))

-- ---- the line

-- the line of a load: seed, roots, and what is counted, with a space before each number
abbrev pub load_line : List ℕ → List ℕ
load_line numbers = codes "ok LOAD" ++ flat_map (λ n. 32 ∷ decimal n) numbers ++ 10 ∷ []

-- The script of a load was served over the empty history of a store with 4 queues and a limit of 10,000,000, and the
-- text sums it up: the transactions, the turns, the roots that are done, the roots whose B is finished, and the bytes
-- of all replies.
pub record IsLoaded (seed roots : ℕ) (text : List ℕ) : Type 0 where
  pub before : Session
  pub after : Session
  pub journal : NoJournal
  pub journal' : NoJournal
  pub replies : List (List ℕ)
  pub fresh : IsFresh 4 10000000 before
  pub served : ServesInMemory before journal (load_script seed roots) replies after journal'
  pub finished : ℕ
  pub counted : AreFinished after.core roots finished
  pub told : text ≡ load_line (seed ∷ roots ∷ after.core.number ∷ turns_of after.core.live.items ∷ done_in after.core ∷
      finished ∷ length (all_replies replies) ∷ [])

-- ---- the steps of a load

-- inputs lead from one moment of a load to another, and the bytes of their replies are counted
pub record Serves (inputs : List Given) (old new : Loading) : Type 0 where
  pub replies : List (List ℕ)
  pub served : ServesInMemory old.session old.journal inputs replies new.session new.journal
  pub counted : new.bytes ≡ old.bytes + length (all_replies replies)

-- the line of a load that has come so far
pub record IsSummary (seed roots : ℕ) (load : Loading) (text : List ℕ) : Type 0 where
  pub finished : ℕ
  pub counted : AreFinished load.session.core roots finished
  pub told : text ≡ load_line (seed ∷ roots ∷ load.session.core.number ∷ turns_of load.session.core.live.items
      ∷ done_in load.session.core ∷ finished ∷ load.bytes ∷ [])

-- ---- what is printed

-- the line of a load is printed; without memory nothing is
abbrev pub PrintsLoaded : ℕ → ℕ → Option (List ℕ) → Option (List ℕ) → Status → Type 0
PrintsLoaded seed roots held held' ended = ((ended ≡ NoMemory) × Keeps held held')
    ⊎ ((text : List ℕ) × IsLoaded seed roots text × Prints text Done held held' ended)
