-- A history that commands make, cut at one of its transactions; what it counts, and that its library has codes.
use Rattle.std.proofs.Common.{◌≡◌, ℕ, suc, ◌+◌, List, [], ◌∷◌, ◌++◌, length, refl, sym, ap, subst, ◌∙◌, arith}
use Rattle.std.specs.List.{All}
use Rattle.std.proofs.lemmas.List.Elements.{All-nil, All-cons, All-head, All-tail}
use Rattle.flow_core.specs.declared.judging.Verdict.TheVariants.{Do}
use Rattle.flow_model.specs.declared.commands.Command.{Command}
use Rattle.flow_model.specs.declared.graphs.Library.{Library}
use Rattle.flow_model.specs.declared.graphs.Template.{Template}
use Rattle.flow_model.specs.declared.transactions.Transaction.{Transaction}
use Rattle.flow_model.specs.declared.transactions.Transaction.TheVariants.{Import, Start, Turn, Claim, Release}
use Rattle.flow_model.specs.declared.transactions.Transaction.TheVariants.{Transfer, Take, Done, Force, Restart}
use Rattle.flow_model.specs.declared.transactions.Transaction.TheVariants.{Suspend, Resume, Terminate, Delete, Clock}
use Rattle.flow_session.specs.Histories.{payloads_behind}
use Rattle.flow_txn.specs.Records.{record_bytes}
use Rattle.machine.specs.Imports.{Added, Adds, nothing_added}
use Rattle.machine.specs.States.{State, templates}
use Rattle.machine.specs.Steps.{Steps}
use Rattle.machine.specs.Verdicts.{IsVerdict}
use Rattle.text_graphs.specs.Texts.{processes_in}
use Rattle.reopening_laws.specs.Codes.{HasCodes, HaveCodes}
use Rattle.reopening_laws.specs.Making.{MadeByCommands}
use Rattle.reopening_laws.proofs.Codes.{all_meant, more_codes}

-- ---- a cut

-- the transactions before one, that one, and those behind it, by their payloads
pub record CutAt (number : ℕ) (ts : List Transaction) (front : List (List ℕ)) (payload : List ℕ)
    (behind : List (List ℕ)) : Type 0 where
  pub before : List Transaction
  pub here : Transaction
  pub rest : List Transaction
  pub split : ts ≡ before ++ here ∷ rest
  pub front_is : payloads_behind number before ≡ front
  pub here_is : record_bytes (number + length before + 1) here ≡ payload
  pub behind_is : payloads_behind (number + length before + 1) rest ≡ behind

first_is : (x y : List ℕ) (xs ys : List (List ℕ)) → x ∷ xs ≡ y ∷ ys → x ≡ y
first_is x y xs ys is = cc

rest_is : (x y : List ℕ) (xs ys : List (List ℕ)) → x ∷ xs ≡ y ∷ ys → xs ≡ ys
rest_is x y xs ys is = cc

nothing_is : (x : List ℕ) (xs : List (List ℕ)) → [] ≡ x ∷ xs → ⊥
nothing_is x xs is = cc

pub cut_at : (number : ℕ) (ts : List Transaction) (front : List (List ℕ)) (payload : List ℕ) (behind : List (List ℕ))
    → payloads_behind number ts ≡ front ++ payload ∷ behind → CutAt number ts front payload behind
cut_at number [] [] payload behind is = absurd (nothing_is payload behind is)
cut_at number [] (x ∷ front) payload behind is = absurd (nothing_is x (front ++ payload ∷ behind) is)
cut_at number (t ∷ ts) [] payload behind is =
    let zero_more : number + 1 ≡ number + 0 + 1 = omega arith in
    record {
      before = [];
      here = t;
      rest = ts;
      split = refl;
      front_is = refl;
      here_is = ap (λ n. record_bytes n t) (sym zero_more) ∙ first_is (record_bytes (number + 1) t) payload _ _ is;
      behind_is = ap (λ n. payloads_behind n ts) (sym zero_more) ∙ rest_is (record_bytes (number + 1) t) payload _ _ is;
    }
cut_at number (t ∷ ts) (x ∷ front) payload behind is =
    let first = first_is (record_bytes (number + 1) t) x _ _ is in
    let more = cut_at (number + 1) ts front payload behind (rest_is (record_bytes (number + 1) t) x _ _ is) in
    let one_more : number + 1 + length more.before + 1 ≡ number + suc (length more.before) + 1 = omega arith in
    record {
      before = t ∷ more.before;
      here = more.here;
      rest = more.rest;
      split = ap (λ us. t ∷ us) more.split;
      front_is = ap (λ p. p ∷ payloads_behind (number + 1) more.before) first ∙ ap (λ ps. x ∷ ps) more.front_is;
      here_is = ap (λ n. record_bytes n more.here) (sym one_more) ∙ more.here_is;
      behind_is = ap (λ n. payloads_behind n more.rest) (sym one_more) ∙ more.behind_is;
    }

-- what commands made before a transaction, the command of that, and what they made behind it
pub record MadeAt (s : State) (before : List Transaction) (t : Transaction) (rest : List Transaction)
    (s' : State) : Type 0 where
  pub mid : State
  pub made : MadeByCommands s before mid
  pub command : Command
  pub judged : IsVerdict mid command (Do t)
  pub next : State
  pub step : Steps mid t next
  pub others : MadeByCommands next rest s'

pub made_at : (s : State) (before : List Transaction) (t : Transaction) (rest : List Transaction) (s' : State)
    → MadeByCommands s (before ++ t ∷ rest) s' → MadeAt s before t rest s'
made_at s [] t rest s' all =
    record { mid = s; made = refl; command = all.0; judged = all.2; next = all.1; step = all.3; others = all.4 }
made_at s (u ∷ before) t rest s' all =
    let more = made_at all.1 before t rest s' all.4 in
    record {
      mid = more.mid;
      made = (all.0, all.1, all.2, all.3, more.made);
      command = more.command;
      judged = more.judged;
      next = more.next;
      step = more.step;
      others = more.others;
    }

-- ---- counts

pub made_count : (s : State) (ts : List Transaction) (s' : State) → MadeByCommands s ts s'
    → (s'.transactions ≡ s.transactions + length ts) × (s'.limit ≡ s.limit)
made_count s [] s' all =
    let number : s'.transactions ≡ s.transactions = ap (λ x. x.transactions) all in
    (omega (arith, number), ap (λ x. x.limit) all)
made_count s (t ∷ ts) s' all =
    let more = made_count all.1 ts s' all.4 in
    let one : all.1.transactions ≡ s.transactions + 1 = ap (λ x. x.transactions) all.3.next in
    let number : s'.transactions ≡ s.transactions + suc (length ts) = omega (arith, more.0, one) in
    (number, more.1 ∙ ap (λ x. x.limit) all.3.next)

-- ---- return codes

none_added : (added : Added) → added ≡ nothing_added → HaveCodes added.templates
none_added added is = subst (λ (x : Added). HaveCodes x.templates) (sym is) (All-nil (λ (t : Template). HasCodes t.graph))

added_codes : (library : Library) (t : Transaction) (added : Added) → Adds library t added → HaveCodes added.templates
added_codes library (Import text) added is =
    all_meant is.meant.reading 0 (processes_in is.meant.tree.items) added.templates is.meant.meant
added_codes library (Start root process version starter key settings) added is = none_added added is
added_codes library (Turn queue message) added is = none_added added is
added_codes library (Claim item who) added is = none_added added is
added_codes library (Release item who) added is = none_added added is
added_codes library (Transfer item who to) added is = none_added added is
added_codes library (Take item take) added is = none_added added is
added_codes library (Done item who settings) added is = none_added added is
added_codes library (Force item settings) added is = none_added added is
added_codes library (Restart item) added is = none_added added is
added_codes library (Suspend root) added is = none_added added is
added_codes library (Resume root) added is = none_added added is
added_codes library (Terminate root) added is = none_added added is
added_codes library (Delete root) added is = none_added added is
added_codes library (Clock minutes) added is = none_added added is

step_codes : (s : State) (t : Transaction) (s' : State) → Steps s t s' → HaveCodes (templates s) → HaveCodes (templates s')
step_codes s t s' step coded =
    subst HaveCodes (sym (ap templates step.next))
    (more_codes (templates s) step.added.templates coded (added_codes s.library t step.added step.adds))

pub made_codes : (s : State) (ts : List Transaction) (s' : State) → MadeByCommands s ts s' → HaveCodes (templates s)
    → HaveCodes (templates s')
made_codes s [] s' all coded = subst HaveCodes (sym (ap templates all)) coded
made_codes s (t ∷ ts) s' all coded = made_codes all.1 ts s' all.4 (step_codes s t all.1 all.3 coded)

-- ---- what is in range

pub fits_before : (P : Transaction → Type 0) (before : List Transaction) (t : Transaction) (rest : List Transaction)
    → All P (before ++ t ∷ rest) → All P before × P t
fits_before P [] t rest all = (All-nil P, All-head P t rest all)
fits_before P (u ∷ before) t rest all =
    let more = fits_before P before t rest (All-tail P u (before ++ t ∷ rest) all) in
    (All-cons P u before (All-head P u (before ++ t ∷ rest) all) more.0, more.1)
