-- How each keyword is spelled, and which of them begin with a letter.
use Rattle.std.specs.Prelude.{ℕ, ◌==◌, if◌then◌else◌, List, [], ◌∷◌, codes}
use Rattle.flow_table.specs.declared.keyword.Keyword.{Keyword}
use Rattle.flow_table.specs.declared.keyword.Keyword.TheVariants as word

-- the bytes with which a keyword is written
abbrev pub keyword_spelling : Keyword → List ℕ
keyword_spelling word.Structure = codes "STRUCTURE"
keyword_spelling word.Person = codes "PERSON"
keyword_spelling word.Roles = codes "ROLES"
keyword_spelling word.Process = codes "PROCESS"
keyword_spelling word.ProgramActivity = codes "PROGRAM_ACTIVITY"
keyword_spelling word.ProcessActivity = codes "PROCESS_ACTIVITY"
keyword_spelling word.Block = codes "BLOCK"
keyword_spelling word.End = codes "END"
keyword_spelling word.Long = codes "LONG"
keyword_spelling word.String = codes "STRING"
keyword_spelling word.Start = codes "START"
keyword_spelling word.Automatic = codes "AUTOMATIC"
keyword_spelling word.Manual = codes "MANUAL"
keyword_spelling word.When = codes "WHEN"
keyword_spelling word.All = codes "ALL"
keyword_spelling word.Connectors = codes "CONNECTORS"
keyword_spelling word.Connector = codes "CONNECTOR"
keyword_spelling word.True = codes "TRUE"
keyword_spelling word.AtLeastOne = codes "AT_LEAST_ONE"
keyword_spelling word.Exit = codes "EXIT"
keyword_spelling word.DoneBy = codes "DONE_BY"
keyword_spelling word.Role = codes "ROLE"
keyword_spelling word.Starter = codes "STARTER"
keyword_spelling word.Performer = codes "PERFORMER"
keyword_spelling word.Of = codes "OF"
keyword_spelling word.Expires = codes "EXPIRES"
keyword_spelling word.Control = codes "CONTROL"
keyword_spelling word.From = codes "FROM"
keyword_spelling word.To = codes "TO"
keyword_spelling word.Otherwise = codes "OTHERWISE"
keyword_spelling word.Data = codes "DATA"
keyword_spelling word.Source = codes "SOURCE"
keyword_spelling word.Sink = codes "SINK"
keyword_spelling word.Loop = codes "LOOP"
keyword_spelling word.Map = codes "MAP"
keyword_spelling word.Or = codes "OR"
keyword_spelling word.And = codes "AND"
keyword_spelling word.Not = codes "NOT"
keyword_spelling word.Import = codes "IMPORT"
keyword_spelling word.By = codes "BY"
keyword_spelling word.Key = codes "KEY"
keyword_spelling word.With = codes "WITH"
keyword_spelling word.Turn = codes "TURN"
keyword_spelling word.Drain = codes "DRAIN"
keyword_spelling word.Claim = codes "CLAIM"
keyword_spelling word.Release = codes "RELEASE"
keyword_spelling word.Transfer = codes "TRANSFER"
keyword_spelling word.Take = codes "TAKE"
keyword_spelling word.Done = codes "DONE"
keyword_spelling word.Rc = codes "RC"
keyword_spelling word.Force = codes "FORCE"
keyword_spelling word.Restart = codes "RESTART"
keyword_spelling word.Suspend = codes "SUSPEND"
keyword_spelling word.Resume = codes "RESUME"
keyword_spelling word.Terminate = codes "TERMINATE"
keyword_spelling word.Delete = codes "DELETE"
keyword_spelling word.Clock = codes "CLOCK"
keyword_spelling word.Checkpoint = codes "CHECKPOINT"
keyword_spelling word.Show = codes "SHOW"
keyword_spelling word.Output = codes "OUTPUT"
keyword_spelling word.Input = codes "INPUT"
keyword_spelling word.Worklist = codes "WORKLIST"
keyword_spelling word.Queue = codes "QUEUE"
keyword_spelling word.Audit = codes "AUDIT"
keyword_spelling word.Templates = codes "TEMPLATES"
keyword_spelling word.AtLeast = codes "AT_LEAST"

-- the keywords that begin with the letter of this code: A has 65
abbrev pub with_letter : ℕ → List Keyword
with_letter letter =
    if letter == 65 then word.Automatic ∷ word.All ∷ word.AtLeastOne ∷ word.And ∷ word.Audit ∷ word.AtLeast ∷ [] else
    if letter == 66 then word.Block ∷ word.By ∷ [] else
    if letter == 67 then word.Connectors ∷ word.Connector ∷ word.Control ∷ word.Claim ∷ word.Clock ∷
    word.Checkpoint ∷ [] else
    if letter == 68 then word.DoneBy ∷ word.Data ∷ word.Drain ∷ word.Done ∷ word.Delete ∷ [] else
    if letter == 69 then word.End ∷ word.Exit ∷ word.Expires ∷ [] else
    if letter == 70 then word.From ∷ word.Force ∷ [] else
    if letter == 73 then word.Import ∷ word.Input ∷ [] else
    if letter == 75 then word.Key ∷ [] else
    if letter == 76 then word.Long ∷ word.Loop ∷ [] else
    if letter == 77 then word.Manual ∷ word.Map ∷ [] else
    if letter == 78 then word.Not ∷ [] else
    if letter == 79 then word.Of ∷ word.Otherwise ∷ word.Or ∷ word.Output ∷ [] else
    if letter == 80 then word.Person ∷ word.Process ∷ word.ProgramActivity ∷ word.ProcessActivity ∷
    word.Performer ∷ [] else
    if letter == 81 then word.Queue ∷ [] else
    if letter == 82 then word.Roles ∷ word.Role ∷ word.Release ∷ word.Rc ∷ word.Restart ∷ word.Resume ∷ [] else
    if letter == 83 then word.Structure ∷ word.String ∷ word.Start ∷ word.Starter ∷ word.Source ∷ word.Sink ∷
    word.Suspend ∷ word.Show ∷ [] else
    if letter == 84 then word.True ∷ word.To ∷ word.Turn ∷ word.Transfer ∷ word.Take ∷ word.Terminate ∷
    word.Templates ∷ [] else
    if letter == 87 then word.When ∷ word.With ∷ word.Worklist ∷ [] else
    []
