-- How far commands are read behind their first word, and whole commands and completions.
use Rattle.std.proofs.Common.{◌≡◌, ℕ, ◌<◌, true, List, [], ◌∷◌, ◌++◌, length, Some, refl, ap, sym, ◌∙◌, subst, arith, append-nil}
use Rattle.std.specs.Prelude.{Result, IfErr}
use Rattle.std.specs.Result.{IsErrAnd}
use Rattle.std.proofs.lemmas.Result.{err_from_is_err_and}
use Rattle.flow_table.specs.declared.keyword.Keyword.{Keyword}
use Rattle.flow_table.specs.declared.keyword.Keyword.TheVariants as word
use Rattle.flow_model.specs.declared.commands.Command.{Command}
use Rattle.flow_model.specs.declared.commands.Command.TheVariants as command
use Rattle.flow_model.specs.declared.commands.Completion.{Completion}
use Rattle.flow_model.specs.declared.commands.Query.TheVariants as query
use Rattle.flow_model.specs.declared.commands.Target.{Target}
use Rattle.flow_model.specs.declared.instances.Who.{Who}
use Rattle.flow_model.specs.declared.names.Name.{Name}
use Rattle.flow_model.specs.declared.trees.NameAt.{NameAt}
use Rattle.fdl_lexer.specs.declared.kinds.What.TheVariants as what
use Rattle.fdl_parser.specs.declared.cursor.SyntaxFault.{SyntaxFault}
use Rattle.fdl_parser.specs.Tokens.{Tokens, first_kind, IsToken, IsName, IsItemToken, IsNumber}
use Rattle.fdl_parser.specs.Stops.{Reads, Anything, AtEnd, first_and, IsTaken, IsStop, Stops}
use Rattle.fdl_parser.proofs.Stops.{Seq, stops_form, taken_as, taken_less, stops_less, can_both, taken_both, taken_quoted, stop_second, stops_first, stops_second, first_kept, same_first}
use Rattle.fdl_parser.proofs.StopsTokens.{taken_word, taken_name, taken_item}
use Rattle.command_lang.specs.Refusing.{is_first_word, NoWord, SomeCommand, SomeCompletion, IsFirstFault, Refuses}
use Rattle.command_lang.specs.Grammar.{IsNamed, IsWith, IsKey, IsOutcome, IsWho, IsTarget, IsBehind, Import, Start, Turn, Drain, Claim, Release, Transfer, Take, Done, Force, Restart, Suspend, Resume, Terminate, Delete, Clock, Checkpoint, Show, Output, Input, Worklist, Queue, Audit, Templates, IsCommand, WordAndRest, IsCompletion, DoneTarget}
use Rattle.command_lang.proofs.Forms.{WordForm, can_named, taken_named, can_with, with_no, can_key, can_outcome, can_who, taken_who, can_target, taken_target}

-- one form is another
pub record IsForm (F G : Tokens → Tokens → Type 0) : Type 0 where
  pub into : (a b : Tokens) → F a b → G a b
  pub out : (a b : Tokens) → G a b → F a b

-- what stands alone behind the first word
pub alone_taken : {F G : Tokens → Tokens → Type 0} {a b : Tokens} → IsForm F G → IsTaken Anything F a b → IsTaken AtEnd G a b
alone_taken f h = taken_as f.into f.out (taken_less (λ x q. tt) h)

pub alone_stops : {F G : Tokens → Tokens → Type 0} {a r : Tokens} {e : SyntaxFault} → IsForm F G → Stops Anything F a r e → Stops AtEnd G a r e
alone_stops f h = stops_form f.into f.out (stops_less (λ x q. tt) h)

pub form_taken : {F G : Tokens → Tokens → Type 0} {a b : Tokens} → IsForm F G → IsTaken AtEnd F a b → IsTaken AtEnd G a b
form_taken f h = taken_as f.into f.out h

pub form_stops : {F G : Tokens → Tokens → Type 0} {a r : Tokens} {e : SyntaxFault} → IsForm F G → Stops AtEnd F a r e → Stops AtEnd G a r e
form_stops f h = stops_form f.into f.out h

-- ---- a number, an item or a name

turn_out : {c : Command} {a b : Tokens} → IsBehind word.Turn c a b → Reads IsNumber a b
turn_out (Turn {n = x} h) = (x, h)

pub turn_form : IsForm (Reads IsNumber) (Reads (IsBehind word.Turn))
turn_form = record { into = λ a b h. (command.Turn h.0.size, Turn h.1); out = λ a b h. turn_out h.1 }

suspend_out : {c : Command} {a b : Tokens} → IsBehind word.Suspend c a b → Reads IsNumber a b
suspend_out (Suspend {n = x} h) = (x, h)

pub suspend_form : IsForm (Reads IsNumber) (Reads (IsBehind word.Suspend))
suspend_form = record { into = λ a b h. (command.Suspend h.0.size, Suspend h.1); out = λ a b h. suspend_out h.1 }

resume_out : {c : Command} {a b : Tokens} → IsBehind word.Resume c a b → Reads IsNumber a b
resume_out (Resume {n = x} h) = (x, h)

pub resume_form : IsForm (Reads IsNumber) (Reads (IsBehind word.Resume))
resume_form = record { into = λ a b h. (command.Resume h.0.size, Resume h.1); out = λ a b h. resume_out h.1 }

terminate_out : {c : Command} {a b : Tokens} → IsBehind word.Terminate c a b → Reads IsNumber a b
terminate_out (Terminate {n = x} h) = (x, h)

pub terminate_form : IsForm (Reads IsNumber) (Reads (IsBehind word.Terminate))
terminate_form = record { into = λ a b h. (command.Terminate h.0.size, Terminate h.1); out = λ a b h. terminate_out h.1 }

delete_out : {c : Command} {a b : Tokens} → IsBehind word.Delete c a b → Reads IsNumber a b
delete_out (Delete {n = x} h) = (x, h)

pub delete_form : IsForm (Reads IsNumber) (Reads (IsBehind word.Delete))
delete_form = record { into = λ a b h. (command.Delete h.0.size, Delete h.1); out = λ a b h. delete_out h.1 }

clock_out : {c : Command} {a b : Tokens} → IsBehind word.Clock c a b → Reads IsNumber a b
clock_out (Clock {n = x} h) = (x, h)

pub clock_form : IsForm (Reads IsNumber) (Reads (IsBehind word.Clock))
clock_form = record { into = λ a b h. (command.Clock h.0, Clock h.1); out = λ a b h. clock_out h.1 }

show_out : {c : Command} {a b : Tokens} → IsBehind word.Show c a b → Reads IsNumber a b
show_out (Show {n = x} h) = (x, h)

pub show_form : IsForm (Reads IsNumber) (Reads (IsBehind word.Show))
show_form = record { into = λ a b h. (command.Ask (query.Show h.0.size), Show h.1); out = λ a b h. show_out h.1 }

output_out : {c : Command} {a b : Tokens} → IsBehind word.Output c a b → Reads IsNumber a b
output_out (Output {n = x} h) = (x, h)

pub output_form : IsForm (Reads IsNumber) (Reads (IsBehind word.Output))
output_form = record { into = λ a b h. (command.Ask (query.Output h.0.size), Output h.1); out = λ a b h. output_out h.1 }

queue_out : {c : Command} {a b : Tokens} → IsBehind word.Queue c a b → Reads IsNumber a b
queue_out (Queue {n = x} h) = (x, h)

pub queue_form : IsForm (Reads IsNumber) (Reads (IsBehind word.Queue))
queue_form = record { into = λ a b h. (command.Ask (query.Queue h.0.size), Queue h.1); out = λ a b h. queue_out h.1 }

audit_out : {c : Command} {a b : Tokens} → IsBehind word.Audit c a b → Reads IsNumber a b
audit_out (Audit {n = x} h) = (x, h)

pub audit_form : IsForm (Reads IsNumber) (Reads (IsBehind word.Audit))
audit_form = record { into = λ a b h. (command.Ask (query.Audit h.0.size), Audit h.1); out = λ a b h. audit_out h.1 }

take_out : {c : Command} {a b : Tokens} → IsBehind word.Take c a b → Reads IsItemToken a b
take_out (Take {item = x} h) = (x, h)

pub take_form : IsForm (Reads IsItemToken) (Reads (IsBehind word.Take))
take_form = record { into = λ a b h. (command.Take h.0, Take h.1); out = λ a b h. take_out h.1 }

restart_out : {c : Command} {a b : Tokens} → IsBehind word.Restart c a b → Reads IsItemToken a b
restart_out (Restart {item = x} h) = (x, h)

pub restart_form : IsForm (Reads IsItemToken) (Reads (IsBehind word.Restart))
restart_form = record { into = λ a b h. (command.Restart h.0, Restart h.1); out = λ a b h. restart_out h.1 }

input_out : {c : Command} {a b : Tokens} → IsBehind word.Input c a b → Reads IsItemToken a b
input_out (Input {item = x} h) = (x, h)

pub input_form : IsForm (Reads IsItemToken) (Reads (IsBehind word.Input))
input_form = record { into = λ a b h. (command.Ask (query.Input h.0), Input h.1); out = λ a b h. input_out h.1 }

worklist_out : {c : Command} {a b : Tokens} → IsBehind word.Worklist c a b → Reads IsName a b
worklist_out (Worklist {n = x} h) = (x, h)

pub worklist_form : IsForm (Reads IsName) (Reads (IsBehind word.Worklist))
worklist_form = record { into = λ a b h. (command.Ask (query.Worklist h.0.name), Worklist h.1); out = λ a b h. worklist_out h.1 }

-- ---- nothing

nothing_taken : {w : Keyword} {a : Tokens} → (c : Command) → ((rest : Tokens) → IsBehind w c rest rest) → ((d : Command) (x y : Tokens) → IsBehind w d x y → y ≡ x) → IsTaken AtEnd (Reads (IsBehind w)) a a
nothing_taken c reads only = record { front = []; cut = refl; reads = λ rest. (c, reads rest); only = λ rest other same p h. only h.0 rest other h.1 }

import_only : {d : Command} {x y : Tokens} → IsBehind word.Import d x y → y ≡ x
import_only Import = refl

pub import_taken : {a : Tokens} → IsTaken AtEnd (Reads (IsBehind word.Import)) a a
import_taken = nothing_taken (command.Import []) (λ rest. Import) (λ d x y h. import_only h)

drain_only : {d : Command} {x y : Tokens} → IsBehind word.Drain d x y → y ≡ x
drain_only Drain = refl

pub drain_taken : {a : Tokens} → IsTaken AtEnd (Reads (IsBehind word.Drain)) a a
drain_taken = nothing_taken (command.Drain) (λ rest. Drain) (λ d x y h. drain_only h)

checkpoint_only : {d : Command} {x y : Tokens} → IsBehind word.Checkpoint d x y → y ≡ x
checkpoint_only Checkpoint = refl

pub checkpoint_taken : {a : Tokens} → IsTaken AtEnd (Reads (IsBehind word.Checkpoint)) a a
checkpoint_taken = nothing_taken (command.Checkpoint) (λ rest. Checkpoint) (λ d x y h. checkpoint_only h)

templates_only : {d : Command} {x y : Tokens} → IsBehind word.Templates d x y → y ≡ x
templates_only Templates = refl

pub templates_taken : {a : Tokens} → IsTaken AtEnd (Reads (IsBehind word.Templates)) a a
templates_taken = nothing_taken (command.Ask query.Templates) (λ rest. Templates) (λ d x y h. templates_only h)

-- ---- more parts

abbrev pub ItemBy : Tokens → Tokens → Type 0
ItemBy = Seq (Reads IsItemToken) (Reads (IsNamed word.By))

claim_out : {c : Command} {a b : Tokens} → IsBehind word.Claim c a b → ItemBy a b
claim_out (Claim {item = i} {person = n} {b = m} h j) = (m, (i, h), (n, j))

pub claim_form : IsForm ItemBy (Reads (IsBehind word.Claim))
claim_form = record { into = λ a b h. (command.Claim h.1.0 h.2.0, Claim h.1.1 h.2.1); out = λ a b h. claim_out h.1 }

release_out : {c : Command} {a b : Tokens} → IsBehind word.Release c a b → ItemBy a b
release_out (Release {item = i} {person = n} {b = m} h j) = (m, (i, h), (n, j))

pub release_form : IsForm ItemBy (Reads (IsBehind word.Release))
release_form = record { into = λ a b h. (command.Release h.1.0 h.2.0, Release h.1.1 h.2.1); out = λ a b h. release_out h.1 }

pub item_by_taken : {item : List ℕ} {n : Name} {a b c : Tokens} → IsItemToken item a b → IsNamed word.By n b c → IsTaken Anything ItemBy a c
item_by_taken h j = taken_both (λ b c q g. tt) (taken_item h) (taken_named j)

pub item_by_item : {a r : Tokens} {e : SyntaxFault} → Stops Anything (Reads IsItemToken) a r e → Stops Anything ItemBy a r e
item_by_item h = stops_first (λ b c q g. tt) h (can_named word.By)

pub item_by_person : {item : List ℕ} {a b r : Tokens} {e : SyntaxFault} → IsItemToken item a b → Stops Anything (Reads (IsNamed word.By)) b r e → Stops Anything ItemBy a r e
item_by_person i h = stops_second (λ b c q g. tt) (taken_item i) h

abbrev pub TransferForm : Tokens → Tokens → Type 0
TransferForm = Seq (Reads IsItemToken) (Seq (Reads (IsNamed word.By)) (Reads (IsNamed word.To)))

transfer_out : {c : Command} {a b : Tokens} → IsBehind word.Transfer c a b → TransferForm a b
transfer_out (Transfer {item = i} {from = n} {to = o} {b = m} {c = k} h j l) = (m, (i, h), (k, (n, j), (o, l)))

pub transfer_form : IsForm TransferForm (Reads (IsBehind word.Transfer))
transfer_form = record { into = λ a b h. (command.Transfer h.1.0 h.2.1.0 h.2.2.0, Transfer h.1.1 h.2.1.1 h.2.2.1); out = λ a b h. transfer_out h.1 }

pub transfer_taken : {item : List ℕ} {n o : Name} {a b c d : Tokens} → IsItemToken item a b → IsNamed word.By n b c → IsNamed word.To o c d → IsTaken Anything TransferForm a d
transfer_taken h j l = taken_both (λ b c q g. tt) (taken_item h) (taken_both (λ b c q g. tt) (taken_named j) (taken_named l))

pub transfer_item : {a r : Tokens} {e : SyntaxFault} → Stops Anything (Reads IsItemToken) a r e → Stops Anything TransferForm a r e
transfer_item h = stops_first (λ b c q g. tt) h (can_both (λ b c q g. tt) (can_named word.By) (can_named word.To))

pub transfer_from : {item : List ℕ} {a b r : Tokens} {e : SyntaxFault} → IsItemToken item a b → Stops Anything (Reads (IsNamed word.By)) b r e → Stops Anything TransferForm a r e
transfer_from i h = stops_second (λ b c q g. tt) (taken_item i) (stops_first (λ b c q g. tt) h (can_named word.To))

pub transfer_to : {item : List ℕ} {n : Name} {a b c r : Tokens} {e : SyntaxFault} → IsItemToken item a b → IsNamed word.By n b c → Stops Anything (Reads (IsNamed word.To)) c r e → Stops Anything TransferForm a r e
transfer_to i n h = stops_second (λ b c q g. tt) (taken_item i) (stops_second (λ b c q g. tt) (taken_named n) h)

abbrev pub ForceForm : Tokens → Tokens → Type 0
ForceForm = Seq (Reads IsItemToken) (Reads IsOutcome)

force_out : {c : Command} {a b : Tokens} → IsBehind word.Force c a b → ForceForm a b
force_out (Force {item = i} {o = o} {b = m} h j) = (m, (i, h), (o, j))

pub force_form : IsForm ForceForm (Reads (IsBehind word.Force))
force_form = record { into = λ a b h. (command.Force h.1.0 h.2.0, Force h.1.1 h.2.1); out = λ a b h. force_out h.1 }

pub force_taken : {item : List ℕ} {a b c : Tokens} → IsItemToken item a b → IsTaken AtEnd (Reads IsOutcome) b c → IsTaken AtEnd ForceForm a c
force_taken h j = taken_both (λ b c q g. tt) (taken_item h) j

pub force_item : {a r : Tokens} {e : SyntaxFault} → Stops Anything (Reads IsItemToken) a r e → Stops AtEnd ForceForm a r e
force_item h = stops_first (λ b c q g. tt) h can_outcome

pub force_outcome : {item : List ℕ} {a b r : Tokens} {e : SyntaxFault} → IsItemToken item a b → Stops AtEnd (Reads IsOutcome) b r e → Stops AtEnd ForceForm a r e
force_outcome i h = stops_second (λ b c q g. tt) (taken_item i) h

abbrev pub DoneForm : Tokens → Tokens → Type 0
DoneForm = Seq (Reads IsItemToken) (Seq (Reads IsWho) (Reads IsOutcome))

done_out : {c : Command} {a b : Tokens} → IsBehind word.Done c a b → DoneForm a b
done_out (Done {item = i} {by = w} {o = o} {b = m} {c = k} h j l) = (m, (i, h), (k, (w, j), (o, l)))

pub done_form : IsForm DoneForm (Reads (IsBehind word.Done))
done_form = record { into = λ a b h. (command.Done h.1.0 h.2.1.0 h.2.2.0, Done h.1.1 h.2.1.1 h.2.2.1); out = λ a b h. done_out h.1 }

pub done_taken : {item : List ℕ} {w : Who} {a b c d : Tokens} → IsItemToken item a b → IsWho w b c → IsTaken AtEnd (Reads IsOutcome) c d → IsTaken AtEnd DoneForm a d
done_taken h j l = taken_both (λ b c q g. tt) (taken_item h) (taken_both (λ b c q g. tt) (taken_who j) l)

pub done_item : {a r : Tokens} {e : SyntaxFault} → Stops Anything (Reads IsItemToken) a r e → Stops AtEnd DoneForm a r e
done_item h = stops_first (λ b c q g. tt) h (can_both (λ b c q g. tt) can_who can_outcome)

pub done_who : {item : List ℕ} {a b r : Tokens} {e : SyntaxFault} → IsItemToken item a b → Stops Anything (Reads IsWho) b r e → Stops AtEnd DoneForm a r e
done_who i h = stops_second (λ b c q g. tt) (taken_item i) (stops_first (λ b c q g. tt) h can_outcome)

pub done_outcome : {item : List ℕ} {w : Who} {a b c r : Tokens} {e : SyntaxFault} → IsItemToken item a b → IsWho w b c → Stops AtEnd (Reads IsOutcome) c r e → Stops AtEnd DoneForm a r e
done_outcome i w h = stops_second (λ b c q g. tt) (taken_item i) (stops_second (λ b c q g. tt) (taken_who w) h)

-- ---- START

abbrev KeyForm : Tokens → Tokens → Type 0
KeyForm = Seq (Reads IsKey) (Reads IsWith)

abbrev pub StartForm : Tokens → Tokens → Type 0
StartForm = Seq (Reads IsName) (Seq (Reads (IsNamed word.By)) KeyForm)

start_out : {c : Command} {a b : Tokens} → IsBehind word.Start c a b → StartForm a b
start_out (Start {starter = s} {n = n} {key = k} {ss = ss} {b = b} {c = c} {d = d} h j l m) = (b, (n, h), (c, (s, j), (d, (k, l), (ss, m))))

pub start_form : IsForm StartForm (Reads (IsBehind word.Start))
start_form = record { into = λ a b h. (command.Start h.1.0.name h.2.1.0 h.2.2.1.0 h.2.2.2.0, Start h.1.1 h.2.1.1 h.2.2.1.1 h.2.2.2.1); out = λ a b h. start_out h.1 }

no_key : what.Word word.With ≡ what.Word word.Key → ⊥
no_key e = cc

pub start_taken : {n : NameAt} {s : Name} {a b c d r : Tokens} → IsName n a b → IsNamed word.By s b c → IsTaken (NoWord word.Key) (Reads IsKey) c d → IsTaken AtEnd (Reads IsWith) d r → IsTaken AtEnd StartForm a r
start_taken h j l m = taken_both (λ b c q g. tt) (taken_name h) (taken_both (λ b c q g. tt) (taken_named j) (taken_both (with_no word.Key no_key) l m))

pub start_process : {a r : Tokens} {e : SyntaxFault} → Stops Anything (Reads IsName) a r e → Stops AtEnd StartForm a r e
start_process h = stops_first (λ b c q g. tt) h (can_both (λ b c q g. tt) (can_named word.By) (can_both (with_no word.Key no_key) can_key can_with))

pub start_starter : {n : NameAt} {a b r : Tokens} {e : SyntaxFault} → IsName n a b → Stops Anything (Reads (IsNamed word.By)) b r e → Stops AtEnd StartForm a r e
start_starter n h = stops_second (λ b c q g. tt) (taken_name n) (stops_first (λ b c q g. tt) h (can_both (with_no word.Key no_key) can_key can_with))

pub start_key : {n : NameAt} {s : Name} {a b c r : Tokens} {e : SyntaxFault} → IsName n a b → IsNamed word.By s b c → Stops (NoWord word.Key) (Reads IsKey) c r e → Stops AtEnd StartForm a r e
start_key n s h = stops_second (λ b c q g. tt) (taken_name n) (stops_second (λ b c q g. tt) (taken_named s) (stops_first (with_no word.Key no_key) h can_with))

pub start_settings : {n : NameAt} {s : Name} {a b c d r : Tokens} {e : SyntaxFault} → IsName n a b → IsNamed word.By s b c → IsTaken (NoWord word.Key) (Reads IsKey) c d → Stops AtEnd (Reads IsWith) d r e → Stops AtEnd StartForm a r e
start_settings n s k h = stops_second (λ b c q g. tt) (taken_name n) (stops_second (λ b c q g. tt) (taken_named s) (stops_second (with_no word.Key no_key) k h))

-- ---- the end of the line

-- a form that is read up to a further token stops there
stop_end : {F : Tokens → Tokens → Type 0} {a b : Tokens} → IsTaken AtEnd F a b → 0 < length b → IsStop AtEnd F a b
stop_end {F} {a} {b} f some = record {
  front = f.front;
  cut = f.cut;
  more = [];
  lexed = tt;
  goes_on = λ rest p. f.reads rest;
  blocked = λ others rest p h. left b others some (sym (f.only (first_and b others) rest (first_kept b others) p h) ∙ p);
}
  where
    left : (b others : Tokens) → 0 < length b → first_and b others ≡ [] → ⊥
    left [] others some e = omega arith
    left (t ∷ ts) others some e = cc

-- ---- whole commands

command_of : {w : Keyword} {a : Tokens} → Seq (WordForm w) (Reads (IsBehind w)) a [] → SomeCommand a
command_of h = (h.2.0, WordAndRest h.1.1 h.2.1)

same_word : (v w : Keyword) → Some (what.Word v) ≡ Some (what.Word w) → v ≡ w
same_word v w e = cc

word_of : {w : Keyword} {a : Tokens} → first_kind a ≡ Some (what.Word w) → SomeCommand a → Seq (WordForm w) (Reads (IsBehind w)) a []
word_of {w} {a} here h = go h.1
  where
    go : {c : Command} → IsCommand c a → Seq (WordForm w) (Reads (IsBehind w)) a []
    go {c} (WordAndRest {w = v} {p = p} {b = b} j k) =
        let same : v ≡ w = same_word v w (sym (ap first_kind j.first) ∙ here) in
        let token_ : Keyword → Type 0 = λ n. IsToken (what.Word n) p a b in
        let behind_ : Keyword → Type 0 = λ n. IsBehind n c b [] in
        (b, (p, subst token_ same j), (c, subst behind_ same k))

command_stop : {w : Keyword} {a r : Tokens} → first_kind a ≡ Some (what.Word w) → IsStop AtEnd (Seq (WordForm w) (Reads (IsBehind w))) a r → IsFirstFault SomeCommand a r
command_stop {w} {a} {r} here h = record {
  front = h.front;
  cut = h.cut;
  more = h.more;
  lexed = h.lexed;
  begins = subst (λ (x : Tokens). SomeCommand (h.front ++ x)) (append-nil h.more) (command_of (h.goes_on [] refl));
  blocked = λ others c. h.blocked others [] refl (word_of (same_first a h.front r others h.cut ∙ here) c);
}

pub refuses_behind : {w : Keyword} {p : ℕ} {a b r : Tokens} {e : SyntaxFault} → IsToken (what.Word w) p a b → Stops AtEnd (Reads (IsBehind w)) b r e → Refuses SomeCommand a r e
refuses_behind {w} t h = record {
  first = λ place is q. command_stop {w = w} (ap first_kind t.first) (stop_second (λ b c q g. tt) (taken_word t) (h.stop place is (taken_quoted (taken_word t) q)));
}

pub refuses_end : {w : Keyword} {p : ℕ} {a b r : Tokens} {e : SyntaxFault} → IsToken (what.Word w) p a b → IsTaken AtEnd (Reads (IsBehind w)) b r → 0 < length r → Refuses SomeCommand a r e
refuses_end {w} t h some = record { first = λ place is q. command_stop {w = w} (ap first_kind t.first) (stop_end (taken_both (λ b c q g. tt) (taken_word t) h) some) }

-- a command begins with each word that something stands behind
first_word : {w : Keyword} {c : Command} {a b : Tokens} → IsBehind w c a b → is_first_word w ≡ true
first_word Import = refl
first_word (Start h j k l) = refl
first_word (Turn h) = refl
first_word Drain = refl
first_word (Claim h j) = refl
first_word (Release h j) = refl
first_word (Transfer h j k) = refl
first_word (Take h) = refl
first_word (Done h j k) = refl
first_word (Force h j) = refl
first_word (Restart h) = refl
first_word (Suspend h) = refl
first_word (Resume h) = refl
first_word (Terminate h) = refl
first_word (Delete h) = refl
first_word (Clock h) = refl
first_word Checkpoint = refl
first_word (Show h) = refl
first_word (Output h) = refl
first_word (Input h) = refl
first_word (Worklist h) = refl
first_word (Queue h) = refl
first_word (Audit h) = refl
first_word Templates = refl

pub refuses_first : {a : Tokens} {e : SyntaxFault} → ((w : Keyword) → first_kind a ≡ Some (what.Word w) → is_first_word w ≡ true → ⊥) → Refuses SomeCommand a a e
refuses_first {a} not = record {
  first = λ place is q.
      record {
        front = [];
        cut = refl;
        more = record { kind = what.Word word.Drain; place = 0; bytes = [] } ∷ [];
        lexed = (tt, tt);
        begins = (command.Drain, WordAndRest {w = word.Drain} {p = 0} (record { bytes = []; first = refl }) Drain);
        blocked = λ others c. go others c.1;
      };
}
  where
    go : (others : Tokens) {c : Command} → IsCommand c (first_and a others) → ⊥
    go others (WordAndRest {w = w} j k) = not w (sym (first_kept a others) ∙ ap first_kind j.first) (first_word k)

-- ---- whole completions

abbrev CompletionForm : Tokens → Tokens → Type 0
CompletionForm = Seq (WordForm word.Done) (Seq (Reads IsTarget) (Reads IsOutcome))

completion_of : {a : Tokens} → CompletionForm a [] → SomeCompletion a
completion_of h = (record { target = h.2.1.0; outcome = h.2.2.0 }, DoneTarget h.1.1 h.2.1.1 h.2.2.1)

completion_form : {a : Tokens} {c : Completion} → IsCompletion c a → CompletionForm a []
completion_form (DoneTarget {t = t} {o = o} {p = p} {b = b} {c = c} j k l) = (b, (p, j), (c, (t, k), (o, l)))

completion_stop : {a r : Tokens} → IsStop AtEnd CompletionForm a r → IsFirstFault SomeCompletion a r
completion_stop {a} {r} h = record {
  front = h.front;
  cut = h.cut;
  more = h.more;
  lexed = h.lexed;
  begins = subst (λ (x : Tokens). SomeCompletion (h.front ++ x)) (append-nil h.more) (completion_of (h.goes_on [] refl));
  blocked = λ others c. h.blocked others [] refl (completion_form c.1);
}

refuses_form : {a r : Tokens} {e : SyntaxFault} → Stops AtEnd CompletionForm a r e → Refuses SomeCompletion a r e
refuses_form h = record { first = λ place is q. completion_stop (h.stop place is q) }

pub refuses_done : {a r : Tokens} {e : SyntaxFault} → Stops Anything (WordForm word.Done) a r e → Refuses SomeCompletion a r e
refuses_done h = refuses_form (stops_first (λ b c q g. tt) h (can_both (λ b c q g. tt) can_target can_outcome))

pub refuses_target : {p : ℕ} {a b r : Tokens} {e : SyntaxFault} → IsToken (what.Word word.Done) p a b → Stops Anything (Reads IsTarget) b r e → Refuses SomeCompletion a r e
refuses_target t h = refuses_form (stops_second (λ b c q g. tt) (taken_word t) (stops_first (λ b c q g. tt) h can_outcome))

pub refuses_outcome : {p : ℕ} {t : Target} {a b c r : Tokens} {e : SyntaxFault} → IsToken (what.Word word.Done) p a b → IsTarget t b c → Stops AtEnd (Reads IsOutcome) c r e → Refuses SomeCompletion a r e
refuses_outcome t u h = refuses_form (stops_second (λ b c q g. tt) (taken_word t) (stops_second (λ b c q g. tt) (taken_target u) h))

pub refuses_done_end : {p : ℕ} {t : Target} {a b c r : Tokens} {e : SyntaxFault} → IsToken (what.Word word.Done) p a b → IsTarget t b c → IsTaken AtEnd (Reads IsOutcome) c r → 0 < length r → Refuses SomeCompletion a r e
refuses_done_end t u h some = record { first = λ place is q. completion_stop (stop_end (taken_both (λ b c q g. tt) (taken_word t) (taken_both (λ b c q g. tt) (taken_target u) h)) some) }

-- what the exit of a `?` gives on
pub refused_err : {T : Type 0} {S : Tokens → Type 0} {a r : Tokens} → (result : Result T SyntaxFault) (e : SyntaxFault) → IsErrAnd result (λ y. y ≡ e) → Refuses S a r e → IfErr result (Refuses S a r)
refused_err result e is h =
    let p = err_from_is_err_and result is in
    rw (p.1, p.2) h
