-- What stands in queues fits, where what was there fits and what is put.
use Rattle.std.proofs.Common.{◌≡◌, ℕ, zero, suc, ◌-◌, List, [], ◌∷◌, ◌++◌, length, drop, Some, refl, ap}
use Rattle.std.proofs.Common.{subst, ◌∙◌}
use Rattle.std.specs.List.{All}
use Rattle.std.specs.Prelude.{slice_get, slice_index_or, slice_set}
use Rattle.std.proofs.lemmas.List.Elements.{All-nil, All-cons, All-head, All-tail, All-append, All-drop}
use Rattle.std.proofs.lemmas.Option.{none-some}
use Rattle.flow_model.specs.declared.instances.Message.{Message}
use Rattle.flow_model.specs.declared.transactions.Transaction.{Transaction}
use Rattle.flow_model.specs.declared.transactions.Transaction.TheVariants.{Import, Start, Turn, Claim, Release}
use Rattle.flow_model.specs.declared.transactions.Transaction.TheVariants.{Transfer, Take, Done, Force, Restart}
use Rattle.flow_model.specs.declared.transactions.Transaction.TheVariants.{Suspend, Resume, Terminate, Delete, Clock}
use Rattle.flow_txn.specs.Ranges.{MessageFits}
use Rattle.machine.specs.Queues.{put_in, taken_by}
use Rattle.recover_queue.specs.Queues.{queue, with_queue}
use Rattle.range_laws.specs.Standing.{AllFit}

-- ---- lists

pub all_at : {X : Type 0} (P : X → Type 0) (xs : List X) (i : ℕ) (x : X) → All P xs → slice_get xs i ≡ Some x → P x
all_at P [] i x all at = absurd (none-some x at)
all_at P (y ∷ ys) zero x all at = subst P (let e : y ≡ x = cc in e) (All-head P y ys all)
all_at P (y ∷ ys) (suc i) x all at = all_at P ys i x (All-tail P y ys all) at

all_put : {X : Type 0} (P : X → Type 0) (xs : List X) (i : ℕ) (x : X) → All P xs → P x → All P (slice_set xs i x)
all_put P [] i x all one = all
all_put P (y ∷ ys) zero x all one = All-cons P x ys one (All-tail P y ys all)
all_put P (y ∷ ys) (suc i) x all one =
    All-cons P y (slice_set ys i x) (All-head P y ys all) (all_put P ys i x (All-tail P y ys all) one)

put_length : {X : Type 0} (xs : List X) (i : ℕ) (x : X) → length (slice_set xs i x) ≡ length xs
put_length [] i x = refl
put_length (y ∷ ys) zero x = refl
put_length (y ∷ ys) (suc i) x = ap suc (put_length ys i x)

-- ---- queues

abbrev QueueFits : List Message → Type 0
QueueFits messages = All MessageFits messages

at_fits : (qs : List (List Message)) (k : ℕ) → AllFit qs → QueueFits (slice_index_or qs k [])
at_fits [] k all = All-nil MessageFits
at_fits (q ∷ qs) zero all = All-head QueueFits q qs all
at_fits (q ∷ qs) (suc k) all = at_fits qs k (All-tail QueueFits q qs all)

pub queue_fits : (qs : List (List Message)) (number : ℕ) → AllFit qs → QueueFits (queue qs number)
queue_fits qs number all = at_fits qs (number - 1) all

pub front_fits : (qs : List (List Message)) (number : ℕ) (m : Message) → AllFit qs
    → slice_get (queue qs number) 0 ≡ Some m → MessageFits m
front_fits qs number m all at = all_at MessageFits (queue qs number) 0 m (queue_fits qs number all) at

with_fits : (qs : List (List Message)) (number : ℕ) (ms : List Message) → AllFit qs → QueueFits ms
    → AllFit (with_queue qs number ms)
with_fits qs number ms all new = all_put QueueFits qs (number - 1) ms all new

pub put_fits : (f : Message → ℕ) (ms : List Message) (qs : List (List Message)) → QueueFits ms → AllFit qs
    → AllFit (put_in f ms qs)
put_fits f [] qs new all = all
put_fits f (m ∷ ms) qs new all =
    put_fits f ms (with_queue qs (f m) (queue qs (f m) ++ m ∷ [])) (All-tail MessageFits m ms new)
    (with_fits qs (f m) (queue qs (f m) ++ m ∷ []) all
    (All-append MessageFits (queue qs (f m)) (m ∷ []) (queue_fits qs (f m) all)
    (All-cons MessageFits m [] (All-head MessageFits m ms new) (All-nil MessageFits))))

put_in_length : (f : Message → ℕ) (ms : List Message) (qs : List (List Message)) → length (put_in f ms qs) ≡ length qs
put_in_length f [] qs = refl
put_in_length f (m ∷ ms) qs =
    put_in_length f ms (with_queue qs (f m) (queue qs (f m) ++ m ∷ []))
    ∙ put_length qs (f m - 1) (queue qs (f m) ++ m ∷ [])

-- ---- a transaction takes its message

pub taken_fits : (t : Transaction) (qs : List (List Message)) → AllFit qs → AllFit (taken_by t qs)
taken_fits (Turn number message) qs all =
    with_fits qs number (drop 1 (queue qs number)) all
    (All-drop MessageFits 1 (queue qs number) (queue_fits qs number all))
taken_fits (Import text) qs all = all
taken_fits (Start root process version starter key settings) qs all = all
taken_fits (Claim item who) qs all = all
taken_fits (Release item who) qs all = all
taken_fits (Transfer item who to) qs all = all
taken_fits (Take item take) qs all = all
taken_fits (Done item who settings) qs all = all
taken_fits (Force item settings) qs all = all
taken_fits (Restart item) qs all = all
taken_fits (Suspend root) qs all = all
taken_fits (Resume root) qs all = all
taken_fits (Terminate root) qs all = all
taken_fits (Delete root) qs all = all
taken_fits (Clock minutes) qs all = all

taken_length : (t : Transaction) (qs : List (List Message)) → length (taken_by t qs) ≡ length qs
taken_length (Turn number message) qs = put_length qs (number - 1) (drop 1 (queue qs number))
taken_length (Import text) qs = refl
taken_length (Start root process version starter key settings) qs = refl
taken_length (Claim item who) qs = refl
taken_length (Release item who) qs = refl
taken_length (Transfer item who to) qs = refl
taken_length (Take item take) qs = refl
taken_length (Done item who settings) qs = refl
taken_length (Force item settings) qs = refl
taken_length (Restart item) qs = refl
taken_length (Suspend root) qs = refl
taken_length (Resume root) qs = refl
taken_length (Terminate root) qs = refl
taken_length (Delete root) qs = refl
taken_length (Clock minutes) qs = refl

-- the queues stay as many
pub queues_stay : (f : Message → ℕ) (ms : List Message) (t : Transaction) (qs : List (List Message))
    → length (put_in f ms (taken_by t qs)) ≡ length qs
queues_stay f ms t qs = put_in_length f ms (taken_by t qs) ∙ taken_length t qs
