-- What is found among the transactions about a root is what is found among all.
use Rattle.std.proofs.Common.{◌≡◌, ℕ, Bool, true, false, if◌then◌else◌, List, [], ◌∷◌, refl, sym, ap, ◌∙◌}
use Rattle.flow_model.specs.declared.transactions.Numbered.{Numbered}
use Rattle.flow_model.specs.declared.transactions.Transaction.{Transaction}
use Rattle.flow_model.specs.declared.transactions.Transaction.TheVariants.{Import, Start, Turn, Claim, Release}
use Rattle.flow_model.specs.declared.transactions.Transaction.TheVariants.{Transfer, Take, Done, Force, Restart}
use Rattle.flow_model.specs.declared.transactions.Transaction.TheVariants.{Suspend, Resume, Terminate, Delete, Clock}
use Rattle.live_history.specs.Transactions.{root_about, is_root, started, about, settings_in, start_settings}

-- the Start of a root is about it
started_about : (root : ℕ) (t : Transaction) → is_root root (started t) ≡ true → is_root root (root_about t) ≡ true
started_about root (Import text) is = cc
started_about root (Start r process version starter key settings) is = is
started_about root (Turn queue message) is = cc
started_about root (Claim item who) is = cc
started_about root (Release item who) is = cc
started_about root (Transfer item who to) is = cc
started_about root (Take item take) is = cc
started_about root (Done item who settings) is = cc
started_about root (Force item settings) is = cc
started_about root (Restart item) is = cc
started_about root (Suspend r) is = cc
started_about root (Resume r) is = cc
started_about root (Terminate r) is = cc
started_about root (Delete r) is = cc
started_about root (Clock minutes) is = cc

start_step : (root : ℕ) (n : Numbered) (found live : List Numbered) → start_settings root found ≡ start_settings root live → (b s : Bool)
    → is_root root (started n.transaction) ≡ s → (s ≡ true → b ≡ true)
    → start_settings root (if b then n ∷ found else found) ≡ start_settings root (n ∷ live)
start_step root n found live same true s is only = ap (λ l. if is_root root (started n.transaction) then settings_in n.transaction else l) same
start_step root n found live same false true is only = let no_ : false ≡ true = only refl in cc
start_step root n found live same false false is only = same ∙ sym (ap (λ (b : Bool). if b then settings_in n.transaction else start_settings root live) is)

pub start_about : (root : ℕ) (live : List Numbered) → start_settings root (about root live) ≡ start_settings root live
start_about root [] = refl
start_about root (n ∷ live) =
    start_step root n (about root live) live (start_about root live) (is_root root (root_about n.transaction))
    (is_root root (started n.transaction)) refl (started_about root n.transaction)
