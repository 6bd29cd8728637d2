-- A script that is served input by input: what stands after each, and how the run ends.
use Rattle.std.proofs.Common.{◌≡◌, ◌≢◌, inl, inr, ℕ, ◌+◌, Option, Some, None, IfErr, OnOk, Result, Ok, Err, Bool, true, false, ◌==◌, ◌≤◌, if◌then◌else◌, List, [], ◌∷◌, ◌++◌, map, length, take, refl, sym, ap, subst, ◌∙◌, append_assoc, append-nil, eqb-true, arith}
use Rattle.std.specs.Io.KnownBytes.{Appends, Keeps}
use Rattle.std.specs.List.{list_any}
use Rattle.std.specs.Prelude.{nat_le, ◌||◌}
use Rattle.std.proofs.lemmas.Bool.{leb-true, leb-false}
use Rattle.std.proofs.lemmas.List.{length-append}
use Rattle.std.proofs.lemmas.Grind.{flat_map-append}
use Rattle.std.proofs.Math.Seq.{take-length, take-append-add}
use Rattle.flow_disk.specs.Images.{Image}
use Rattle.flow_disk.specs.declared.disk.Slot.{Slot}
use Rattle.flow_io.specs.Inputs.{Input as LineInput}
use Rattle.flow_io.specs.Inputs as io
use Rattle.flow_io.specs.declared.lines.IoStop.{IoStop}
use Rattle.flow_io.specs.declared.lines.IoStop.TheVariants as io_stop
use Rattle.flow_io.specs.Reading.{Reading}
use Rattle.flow_io.specs.Serving.{unserved, ServesInputs}
use Rattle.flow_io.specs.declared.lines.Line.{Line}
use Rattle.flow_io.specs.declared.lines.Line.TheVariants.{Text, TooLong, Ended}
use Rattle.flow_io.proofs.Known.{Appends-joined}
use Rattle.flow_core.specs.Summaries.{Summary, summary}
use Rattle.flow_session.specs.Histories.{StandsFor}
use Rattle.flow_session.specs.Scripts.{ServesOne, ServesAll, NoInput, OneMore}
use Rattle.flow_session.specs.Inputs.{Given}
use Rattle.flow_session.specs.Inputs as session
use Rattle.flow_session.specs.declared.serving.Session.{Session}
use Rattle.flow_session.proofs.Calls.{makes_nothing, makes_so}
use Rattle.flow_session.proofs.Queued.{stands_queue}
use Rattle.flow_session.proofs.Scripts.{make_asked}
use Rattle.machine_laws.specs.Keyed.{AreKeyed}
use Rattle.machine_laws.specs.WholeStates.{IsWhole}
use Rattle.flow_session.proofs.RepliedScripts.{script_replied}
use Rattle.worklist_laws.specs.Shelved.{IsRightAndListed}
use Rattle.text_words.specs.Gathered.{found_input}
use Rattle.text_words.specs.Limits.{IsWithinLimit, IsBeyondLimit}
use Rattle.flow_words.specs.Endings.{status_of, ServeCause}
use Rattle.flow_words.specs.Printed.{PrintsPart}
use Rattle.flow_words.specs.Scripts.{input_of, script_inputs, AreFirst, all_replies, ServesAndPrints, ServesScript}
use Rattle.flow_words.specs.declared.status.Status.{Status}
use Rattle.flow_words.specs.declared.status.Status.TheVariants.{ReadFault, WriteFault, NoMemory, ScriptTooLong}

-- ---- what is printed

-- nothing more
pub printed_none : (held : Option (List ℕ)) → Appends held held []
printed_none None = tt
printed_none (Some xs) = sym (append-nil xs)

pub keeps_same : (held : Option (List ℕ)) → Keeps held held
keeps_same None = tt
keeps_same (Some xs) = refl

-- no bytes are no reply
pub nothing_printed : (held : Option (List ℕ)) (reply : List ℕ) → (length reply == 0) ≡ true → Appends held held reply
nothing_printed held reply empty = go reply empty
  where
    go : (l : List ℕ) → (length l == 0) ≡ true → Appends held held l
    go [] e = printed_none held
    go (b ∷ bs) e = absurd (let l : length (b ∷ bs) ≡ 0 = eqb-true (length (b ∷ bs)) 0 e in omega (arith, l))

-- what is kept behind what was printed
kept_behind : (a b c : Option (List ℕ)) (xs : List ℕ) → Appends a b xs → Keeps b c → Appends a c xs
kept_behind None b c xs h k = tt
kept_behind (Some a) None c xs h k = absurd h
kept_behind (Some a) (Some b) None xs h k = absurd k
kept_behind (Some a) (Some b) (Some c) xs h k = k ∙ h

replies_more : (replies : List (List ℕ)) (reply : List ℕ) → all_replies (replies ++ reply ∷ []) ≡ all_replies replies ++ reply
replies_more replies reply = flat_map-append (λ (r : List ℕ). r) replies (reply ∷ []) ∙ ap (λ (l : List ℕ). all_replies replies ++ l) (append-nil reply)

-- all of it is a front part
all_printed : (a b : Option (List ℕ)) (text : List ℕ) → Appends a b text → PrintsPart a b text
all_printed a b text h = (length text, omega arith, subst (Appends a b) (sym (take-length text)) h)

-- a front part of the last reply behind the others
part_printed : (a b c : Option (List ℕ)) (replies : List (List ℕ)) (reply : List ℕ) → Appends a b (all_replies replies) → PrintsPart b c reply → PrintsPart a c (all_replies (replies ++ reply ∷ []))
part_printed a b c replies reply h (n, within, part) =
    let before = all_replies replies in
    let is = replies_more replies reply in (
      length before + n,
      rw is (rw (length-append before reply) (omega (arith, within))),
      subst (λ (l : List ℕ). Appends a c (take (length before + n) l)) (sym is)
          (subst (Appends a c) (sym (take-append-add before reply n)) (Appends-joined a b c before (take n reply) (before ++ take n reply) h part refl)),
    )

-- ---- which inputs are left

-- these inputs were served, and the others stand before the reader
abbrev pub AreServed : Option (List ℕ) → Option (List ℕ) → Reading → List Given → Type 0
AreServed (Some bytes) (Some left) lines first = script_inputs bytes ≡ first ++ map input_of (unserved lines left)
AreServed (Some bytes) None lines first = ⊥
AreServed None left lines first = Unit {0}

none_served : (bytes : Option (List ℕ)) → AreServed bytes bytes (record { held = []; room = 268435456; text = [] }) []
none_served None = tt
none_served (Some bytes) = refl

-- the inputs that are left
abbrev others : Option (List ℕ) → Reading → List Given
others None lines = []
others (Some left) lines = map input_of (unserved lines left)

are_first : (bytes left : Option (List ℕ)) (lines : Reading) (first : List Given) → AreServed bytes left lines first → AreFirst bytes first (others left lines)
are_first None left lines first h = tt
are_first (Some bytes) None lines first h = absurd h
are_first (Some bytes) (Some left) lines first h = h

regrouped : (first : List Given) (input : Given) (rest : List Given) → first ++ input ∷ rest ≡ (first ++ input ∷ []) ++ rest
regrouped first input rest = sym (append_assoc first (input ∷ []) rest)

-- one more input was served, and it isn't the end
one_served : (bytes left left' : Option (List ℕ)) (lines lines' : Reading) (first : List Given) (found : Line) → AreServed bytes left lines first → ServesInputs lines left lines' left' (Ok found) → found ≢ Ended
    → AreServed bytes left' lines' (first ++ input_of (found_input found lines'.text) ∷ [])
one_served None left left' lines lines' first found h s not_end = tt
one_served (Some bytes) None left' lines lines' first found h s not_end = absurd h
one_served (Some bytes) (Some left) None lines lines' first found h s not_end = absurd s
one_served (Some bytes) (Some left) (Some left') lines lines' first Text h s not_end =
    h ∙ ap (λ (l : List LineInput). first ++ map input_of l) s ∙ regrouped first _ (map input_of (unserved lines' left'))
one_served (Some bytes) (Some left) (Some left') lines lines' first TooLong h s not_end =
    h ∙ ap (λ (l : List LineInput). first ++ map input_of l) s ∙ regrouped first _ (map input_of (unserved lines' left'))
one_served (Some bytes) (Some left) (Some left') lines lines' first Ended h s not_end = absurd (not_end refl)

-- the end was served
end_served : (bytes left left' : Option (List ℕ)) (lines lines' : Reading) (first : List Given) → AreServed bytes left lines first → ServesInputs lines left lines' left' (Ok Ended)
    → AreFirst bytes (first ++ input_of (found_input Ended lines'.text) ∷ []) []
end_served None left left' lines lines' first h s = tt
end_served (Some bytes) None left' lines lines' first h s = absurd h
end_served (Some bytes) (Some left) None lines lines' first h s = absurd s
end_served (Some bytes) (Some left) (Some left') lines lines' first h s =
    h ∙ ap (λ (l : List LineInput). first ++ map input_of l) s ∙ sym (append-nil (first ++ input_of (found_input Ended lines'.text) ∷ []))

-- an input was served, whose call failed or whose reply isn't printed whole: the others stand behind it
abbrev others_behind : Option (List ℕ) → Option (List ℕ) → Reading → Line → List Given
others_behind left left' lines' Ended = []
others_behind left left' lines' Text = others left' lines'
others_behind left left' lines' TooLong = others left' lines'

first_behind : (bytes left left' : Option (List ℕ)) (lines lines' : Reading) (first : List Given) (found : Line) → AreServed bytes left lines first → ServesInputs lines left lines' left' (Ok found)
    → AreFirst bytes (first ++ input_of (found_input found lines'.text) ∷ []) (others_behind left left' lines' found)
first_behind bytes left left' lines lines' first Text h s = are_first bytes left' lines' _ (one_served bytes left left' lines lines' first Text h s (λ e. let f : Text ≡ Ended = e in cc))
first_behind bytes left left' lines lines' first TooLong h s = are_first bytes left' lines' _ (one_served bytes left left' lines lines' first TooLong h s (λ e. let f : TooLong ≡ Ended = e in cc))
first_behind bytes left left' lines lines' first Ended h s = end_served bytes left left' lines lines' first h s

-- ---- the end of a script

-- an input is the end
abbrev is_last : Given → Bool
is_last (session.Line line) = false
is_last session.Long = false
is_last session.End = true

-- the end is among these inputs
abbrev pub has_last : List Given → Bool
has_last inputs = list_any is_last inputs

line_goes_on : (line : List ℕ) (b : Bool) → is_last (input_of (if b then io.Served line else io.PassedOver)) ≡ false
line_goes_on line true = refl
line_goes_on line false = refl

-- a line that isn't the last leaves what is said of the others
behind_line : (line : List ℕ) (rest : List Given) → has_last (input_of (io.input_of line) ∷ rest) ≡ has_last rest
behind_line line rest = ap (λ (b : Bool). b || has_last rest) (line_goes_on line (nat_le (length line) 65536))

last_of : (whole : Bool) (line : List ℕ)
    → has_last (map input_of (if whole then io.last_inputs line else [])) ≡ whole
last_of true [] = refl
last_of true (b ∷ bs) = behind_line (b ∷ bs) (session.End ∷ [])
last_of false line = refl

-- the inputs of some bytes have an end exactly where nothing stands behind them
last_from : (whole : Bool) (line bytes : List ℕ) → has_last (map input_of (io.inputs_from whole line bytes)) ≡ whole
last_from whole line [] = last_of whole line
last_from whole line (b ∷ bs) = go (b == 10) (last_from whole [] bs) (last_from whole (line ++ b ∷ []) bs)
  where
    go : (c : Bool) → has_last (map input_of (io.inputs_from whole [] bs)) ≡ whole
        → has_last (map input_of (io.inputs_from whole (line ++ b ∷ []) bs)) ≡ whole
        → has_last (map input_of (if c then io.input_of line ∷ io.inputs_from whole [] bs
        else io.inputs_from whole (line ++ b ∷ []) bs)) ≡ whole
    go true behind longer = behind_line line (map input_of (io.inputs_from whole [] bs)) ∙ behind
    go false behind longer = longer

last_in_script : (bytes : List ℕ) → has_last (script_inputs bytes) ≡ nat_le (length bytes) 268435456
last_in_script bytes = last_from (nat_le (length bytes) 268435456) [] (take 268435456 bytes)

any_append : (a b : List Given) → has_last (a ++ b) ≡ (has_last a || has_last b)
any_append [] b = refl
any_append (i ∷ a) b = go (is_last i) (any_append a b)
  where
    go : (x : Bool) → has_last (a ++ b) ≡ (has_last a || has_last b)
        → (x || has_last (a ++ b)) ≡ ((x || has_last a) || has_last b)
    go true h = refl
    go false h = h

-- one more input that isn't the end
still_going : (first : List Given) (input : Given) → has_last first ≡ false → is_last input ≡ false
    → has_last (first ++ input ∷ []) ≡ false
still_going first input before now =
    any_append first (input ∷ []) ∙ ap (λ (b : Bool). b || has_last (input ∷ [])) before
    ∙ ap (λ (b : Bool). b || false) now

-- what was found isn't the end
found_going : (found : Line) (text : List ℕ) → found ≢ Ended → is_last (input_of (found_input found text)) ≡ false
found_going Text text not_end = refl
found_going TooLong text not_end = refl
found_going Ended text not_end = absurd (not_end refl)

-- a script whose end was served isn't too long
within : (bytes : Option (List ℕ)) (first : List Given) (text : List ℕ)
    → AreFirst bytes (first ++ input_of (found_input Ended text) ∷ []) [] → IsWithinLimit bytes
within None first text h = tt
within (Some bytes) first text h =
    let last : has_last (script_inputs bytes) ≡ true =
    ap has_last h ∙ ap has_last (append-nil (first ++ session.End ∷ [])) ∙ any_append first (session.End ∷ [])
    ∙ go (has_last first) in
    leb-true (length bytes) 268435456 (sym (last_in_script bytes) ∙ last)
  where
    go : (x : Bool) → (x || true) ≡ true
    go true = refl
    go false = refl

-- a script of which no input is left, and whose end wasn't served, is too long
pub beyond : (bytes left left' : Option (List ℕ)) (lines lines' : Reading) (first : List Given)
    → AreServed bytes left lines first → has_last first ≡ false
    → ServesInputs lines left lines' left' (Err io_stop.ScriptTooLong)
    → (others left lines ≡ []) × IsBeyondLimit bytes
beyond None None left' lines lines' first h going s = (refl, tt)
beyond None (Some left) None lines lines' first h going s = absurd s
beyond None (Some left) (Some left') lines lines' first h going s = (ap (map input_of) s, tt)
beyond (Some bytes) None left' lines lines' first h going s = absurd h
beyond (Some bytes) (Some left) None lines lines' first h going s = absurd s
beyond (Some bytes) (Some left) (Some left') lines lines' first h going s =
    let none : script_inputs bytes ≡ first =
    h ∙ ap (λ (l : List LineInput). first ++ map input_of l) s ∙ append-nil first in
    let no_last : nat_le (length bytes) 268435456 ≡ false =
    sym (last_in_script bytes) ∙ ap has_last none ∙ going in
    (ap (map input_of) s, leb-false (length bytes) 268435456 no_last)

-- a reader that stops for this reason
pub too_long : (bytes left left' : Option (List ℕ)) (lines lines' : Reading) (first : List Given) (stop : IoStop)
    (status : Status) → AreServed bytes left lines first → has_last first ≡ false
    → ServesInputs lines left lines' left' (Err stop) → status ≡ status_of stop → status ≡ ScriptTooLong
    → (others left lines ≡ []) × IsBeyondLimit bytes
too_long bytes left left' lines lines' first io_stop.ScriptTooLong status h going s is long =
    beyond bytes left left' lines lines' first h going s
too_long bytes left left' lines lines' first io_stop.ReadFault status h going s is long =
    absurd (let f : ReadFault ≡ ScriptTooLong = sym is ∙ long in cc)
too_long bytes left left' lines lines' first io_stop.NoMemory status h going s is long =
    absurd (let f : NoMemory ≡ ScriptTooLong = sym is ∙ long in cc)

-- serving an input never ends a run as too long
pub never_long : (put put' store store' : ℕ) (r : Result (Unit {0}) Status) (s x : Status) → r ≡ Err x → x ≡ s
    → ServeCause put put' store store' s → r ≡ Err ScriptTooLong → ⊥
never_long put put' store store' r s x is same cause long =
    let both : Err x ≡ Err ScriptTooLong = sym is ∙ long in
    let here : x ≡ ScriptTooLong = cc in
    subst (ServeCause put put' store store') (sym same ∙ here) cause

-- ---- one input

module _ {J : Type 0} (tells : Type 0) (holds : J → Summary → Type 0) (moment : J → ℕ) (left_since : J → ℕ → Image → Type 0) (place : J → Slot × ℕ) (moved : J → J → Summary → Type 0) where
  -- a reply that is printed, or a front part of it
  pub printed_one : (held held' : Option (List ℕ)) (input : Given) (reply : List ℕ) (s s' : Session) (j j' : J) (r : Result (Unit {0}) Status) → ServesOne tells holds moment left_since place moved input reply s s' j j' → OnOk r (Appends held held' reply)
      → IfErr r (λ status. (status ≡ WriteFault) × PrintsPart held held' reply) → ServesAndPrints tells holds moment left_since place moved held held' input s s' j j' r
  printed_one held held' input reply s s' j j' (Ok done) one whole part = (reply, one, whole)
  printed_one held held' input reply s s' j j' (Err status) one whole part = inr (reply, one, part.1)

-- the first inputs, where the next one isn't counted among them
first_left : (bytes : Option (List ℕ)) (first : List Given) (input : Given) (rest : List Given)
    → AreFirst bytes (first ++ input ∷ []) rest → AreFirst bytes first (input ∷ rest)
first_left None first input rest h = tt
first_left (Some bytes) first input rest h = h ∙ sym (regrouped first input rest)

-- ---- the run

module _ {J : Type 0} (tells : Type 0) (holds : J → Summary → Type 0) (moment : J → ℕ) (left_since : J → ℕ → Image → Type 0) (place : J → Slot × ℕ) (moved : J → J → Summary → Type 0) where
  -- what stands after some inputs
  pub record SoFar (bytes left : Option (List ℕ)) (lines : Reading) (held held' : Option (List ℕ)) (s s' : Session) (j j' : J) : Type 0 where
    pub first : List Given
    pub replies : List (List ℕ)
    pub inputs : AreServed bytes left lines first
    pub served : ServesAll tells holds moment left_since place moved s j first replies s' j'
    pub printed : Appends held held' (all_replies replies)
    pub going : has_last first ≡ false

  -- nothing was served yet
  pub nothing_so_far : (bytes : Option (List ℕ)) (lines : Reading) (held : Option (List ℕ)) (s : Session) (j : J) → lines ≡ record { held = []; room = 268435456; text = [] } → SoFar bytes bytes lines held held s s j j
  nothing_so_far bytes lines held s j is = record {
    first = [];
    replies = [];
    inputs = subst (λ (l : Reading). AreServed bytes bytes l []) (sym is) (none_served bytes);
    served = NoInput;
    printed = printed_none held;
    going = refl;
  }

  -- one more input
  pub one_so_far : (bytes left left' : Option (List ℕ)) (lines lines' : Reading) (held mid held' : Option (List ℕ)) (s s' s'' : Session) (j j' j'' : J) (found : Line) (input : Given) → SoFar bytes left lines held mid s s' j j'
      → ServesInputs lines left lines' left' (Ok found) → found ≢ Ended → input ≡ input_of (found_input found lines'.text) → ServesAndPrints tells holds moment left_since place moved mid held' input s' s'' j' j'' (Ok tt)
      → SoFar bytes left' lines' held held' s s'' j j''
  one_so_far bytes left left' lines lines' held mid held' s s' s'' j j' j'' found input h serves not_end is (reply, served, printed) = record {
    first = h.first ++ input ∷ [];
    replies = h.replies ++ reply ∷ [];
    inputs = subst (λ (i : Given). AreServed bytes left' lines' (h.first ++ i ∷ [])) (sym is) (one_served bytes left left' lines lines' h.first found h.inputs serves not_end);
    served = OneMore h.served served;
    printed = Appends-joined held mid held' (all_replies h.replies) reply (all_replies (h.replies ++ reply ∷ [])) h.printed printed (sym (replies_more h.replies reply));
    going = still_going h.first input h.going
        (ap is_last is ∙ found_going found lines'.text not_end);
  }

  module _ (at_rest : (journal : J) (s : Summary) (c : Image) → tells → holds journal s → left_since journal (moment journal) c → StandsFor s c)
      (counts_now : (journal : J) (t : ℕ) (c : Image) → t ≤ moment journal → left_since journal (moment journal) c → left_since journal t c) where
    -- a run that stops before it reads an input
    pub stopped : (bytes left : Option (List ℕ)) (lines : Reading) (held held' : Option (List ℕ)) (s s' : Session) (j j' : J) (status : Status) → SoFar bytes left lines held held' s s' j j' → (tells → holds j' (summary s'.core))
        → (status ≡ ScriptTooLong → (others left lines ≡ []) × IsBeyondLimit bytes) → (tells → holds j (summary s.core))
        → ServesScript tells holds moment left_since place moved bytes held held' s s' j j' (Err status)
    stopped bytes left lines held held' s s' j j' status h held_now long began = record {
      first = h.first;
      others = others left lines;
      replies = h.replies;
      last = s';
      journal = j';
      inputs = are_first bytes left lines h.first h.inputs;
      served = h.served;
      answered = λ whole. script_replied tells holds moment left_since place moved s j h.first h.replies s' j' h.served whole;
      leads = make_asked tells holds moment left_since place moved at_rest counts_now s j h.first h.replies s' j' began h.served;
      under_way = makes_nothing tells moment left_since holds at_rest j' (summary s'.core) _ held_now (inl refl);
      printed = all_printed held held' (all_replies h.replies) h.printed;
      whole = λ e. absurd (let f : Err status ≡ Ok tt = e in cc);
      too_long = λ e. long (let f : Err status ≡ Err ScriptTooLong = e in cc);
    }

    -- a run whose last call fails, or whose last reply isn't printed whole
    pub failed : (bytes left left' : Option (List ℕ)) (lines lines' : Reading) (held mid held' : Option (List ℕ)) (s s' s'' : Session) (j j' j'' : J) (found : Line) (input : Given) (status : Status) (result : Result (Unit {0}) Status) → SoFar bytes left lines held mid s s' j j'
        → ServesInputs lines left lines' left' (Ok found) → input ≡ input_of (found_input found lines'.text) → result ≡ Err status
        → ServesAndPrints tells holds moment left_since place moved mid held' input s' s'' j' j'' (Err status) → (result ≡ Ok tt → ⊥) → (result ≡ Err ScriptTooLong → ⊥)
        → (tells → holds j (summary s.core))
        → ServesScript tells holds moment left_since place moved bytes held held' s s'' j j'' result
    failed bytes left left' lines lines' held mid held' s s' s'' j j' j'' found input status result h serves is same (inl (stop, stops, keeps, makes)) fails short began = record {
      first = h.first;
      others = input ∷ others_behind left left' lines' found;
      replies = h.replies;
      last = s';
      journal = j';
      inputs = first_left bytes h.first input (others_behind left left' lines' found)
          (subst (λ (i : Given). AreFirst bytes (h.first ++ i ∷ []) (others_behind left left' lines' found)) (sym is)
          (first_behind bytes left left' lines lines' h.first found h.inputs serves));
      served = h.served;
      answered = λ whole. script_replied tells holds moment left_since place moved s j h.first h.replies s' j' h.served whole;
      leads = make_asked tells holds moment left_since place moved at_rest counts_now s j h.first h.replies s' j' began h.served;
      under_way = makes_so tells moment left_since j' j'' (summary s'.core) _ _ makes (λ ts e. inr (record {
        input = input;
        rest = others_behind left left' lines' found;
        next = refl;
        asked = e.asked;
        stop = stop;
        status = same ∙ ap Err stops;
        kept = e.kept;
      }));
      printed = all_printed held held' (all_replies h.replies) (kept_behind held mid held' (all_replies h.replies) h.printed keeps);
      whole = λ e. absurd (fails e);
      too_long = λ e. absurd (short e);
    }
    failed bytes left left' lines lines' held mid held' s s' s'' j j' j'' found input status result h serves is same (inr (reply, served, part)) fails short began = record {
      first = h.first ++ input ∷ [];
      others = others_behind left left' lines' found;
      replies = h.replies ++ reply ∷ [];
      last = s'';
      journal = j'';
      inputs = subst (λ (i : Given). AreFirst bytes (h.first ++ i ∷ []) (others_behind left left' lines' found)) (sym is) (first_behind bytes left left' lines lines' h.first found h.inputs serves);
      served = OneMore h.served served;
      answered = λ whole. script_replied tells holds moment left_since place moved s j
          (h.first ++ input ∷ []) (h.replies ++ reply ∷ []) s'' j'' (OneMore h.served served) whole;
      leads =
          make_asked tells holds moment left_since place moved at_rest counts_now s j (h.first ++ input ∷ []) (h.replies ++ reply ∷ [])
          s'' j'' began (OneMore h.served served);
      under_way = makes_nothing tells moment left_since holds at_rest j'' (summary s''.core) _ served.kept (inl refl);
      printed = part_printed held mid held' h.replies reply h.printed part;
      whole = λ e. absurd (fails e);
      too_long = λ e. absurd (short e);
    }

    -- a run that serves all
    pub ended : (bytes left left' : Option (List ℕ)) (lines lines' : Reading) (held mid held' : Option (List ℕ)) (s s' s'' : Session) (j j' j'' : J) (found : Line) (input : Given) → SoFar bytes left lines held mid s s' j j'
        → ServesInputs lines left lines' left' (Ok found) → found ≡ Ended → input ≡ input_of (found_input found lines'.text) → ServesAndPrints tells holds moment left_since place moved mid held' input s' s'' j' j'' (Ok tt)
        → (tells → holds j (summary s.core))
        → ServesScript tells holds moment left_since place moved bytes held held' s s'' j j'' (Ok tt)
    ended bytes left left' lines lines' held mid held' s s' s'' j j' j'' found input h serves at_end is (reply, served, printed) began =
        let served_end = end_served bytes left left' lines lines' h.first h.inputs
        (subst (λ (f : Line). ServesInputs lines left lines' left' (Ok f)) at_end serves) in
        let whole_text = Appends-joined held mid held' (all_replies h.replies) reply (all_replies (h.replies ++ reply ∷ [])) h.printed printed (sym (replies_more h.replies reply)) in
        record {
          first = h.first ++ input ∷ [];
          others = [];
          replies = h.replies ++ reply ∷ [];
          last = s'';
          journal = j'';
          inputs = subst (λ (i : Given). AreFirst bytes (h.first ++ i ∷ []) []) (sym is)
              (subst (λ (f : Line). AreFirst bytes (h.first ++ input_of (found_input f lines'.text) ∷ []) []) (sym at_end) served_end);
          served = OneMore h.served served;
          answered = λ whole. script_replied tells holds moment left_since place moved s j
              (h.first ++ input ∷ []) (h.replies ++ reply ∷ []) s'' j'' (OneMore h.served served) whole;
          leads =
              make_asked tells holds moment left_since place moved at_rest counts_now s j (h.first ++ input ∷ []) (h.replies ++ reply ∷ [])
              s'' j'' began (OneMore h.served served);
          under_way = makes_nothing tells moment left_since holds at_rest j'' (summary s''.core) _ served.kept (inl refl);
          printed = all_printed held held' (all_replies (h.replies ++ reply ∷ [])) whole_text;
          whole = λ _. (refl, refl, refl, whole_text, within bytes h.first lines'.text served_end);
          too_long = λ e. absurd (let f : Ok tt ≡ Err ScriptTooLong = e in cc);
        }

-- what an opened store stands for, the disk stood for before
pub stood_there : {D : Type 0} (seen : D → Image) (old new : D) (s : Summary) → seen new ≡ seen old → StandsFor s (seen new) → StandsFor s (seen old)
stood_there seen old new s same stands = subst (StandsFor s) same stands

-- the session over an opened store is whole
pub opened_whole : (s : Session) (image : Image) → (1 ≤ (summary s.core).queues → IsRightAndListed s.core)
    → StandsFor (summary s.core) image → AreKeyed s.core → IsWhole s.core
opened_whole s image right stands keyed = record {
  right = right (stands_queue image (summary s.core) stands);
  keyed = keyed;
}
