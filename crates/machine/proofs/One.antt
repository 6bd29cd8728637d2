-- One step and one history lead to one state.
use Rattle.std.proofs.Common.{◌≡◌, List, [], ◌∷◌, sym, ap, subst, ◌∙◌}
use Rattle.flow_model.specs.declared.transactions.Transaction.{Transaction}
use Rattle.flow_model.specs.declared.graphs.Library.{Library}
use Rattle.flow_model.specs.declared.transactions.Transaction.TheVariants.{Import, Start, Turn, Claim, Release}
use Rattle.flow_model.specs.declared.transactions.Transaction.TheVariants.{Transfer, Take, Done, Force, Restart}
use Rattle.flow_model.specs.declared.transactions.Transaction.TheVariants.{Suspend, Resume, Terminate, Delete, Clock}
use Rattle.machine.proofs.Meaning.{means_one}
use Rattle.machine.specs.Imports.{Added, Adds}
use Rattle.machine.specs.States.{State}
use Rattle.machine.specs.Steps.{after, Steps, Runs}

-- what an Import adds is what its text means, which is one thing; what every other transaction adds is nothing
pub adds_one : (library : Library) (t : Transaction) (x y : Added) → Adds library t x → Adds library t y → x ≡ y
adds_one library (Import text) x y a b = means_one library text x y a b
adds_one library (Start root process version starter key settings) x y a b = a ∙ sym b
adds_one library (Turn queue message) x y a b = a ∙ sym b
adds_one library (Claim item who) x y a b = a ∙ sym b
adds_one library (Release item who) x y a b = a ∙ sym b
adds_one library (Transfer item who to) x y a b = a ∙ sym b
adds_one library (Take item take) x y a b = a ∙ sym b
adds_one library (Done item who settings) x y a b = a ∙ sym b
adds_one library (Force item settings) x y a b = a ∙ sym b
adds_one library (Restart item) x y a b = a ∙ sym b
adds_one library (Suspend root) x y a b = a ∙ sym b
adds_one library (Resume root) x y a b = a ∙ sym b
adds_one library (Terminate root) x y a b = a ∙ sym b
adds_one library (Delete root) x y a b = a ∙ sym b
adds_one library (Clock minutes) x y a b = a ∙ sym b

pub step : (s s' s'' : State) (t : Transaction) → Steps s t s' → Steps s t s'' → s' ≡ s''
step s s' s'' t d e =
    d.next ∙ ap (λ added. after added t s) (adds_one s.library t d.added e.added d.adds e.adds) ∙ sym e.next

pub one_history : (ts : List Transaction) (s s' s'' : State) → Runs s ts s' → Runs s ts s'' → s' ≡ s''
one_history [] s s' s'' a b = a ∙ sym b
one_history (t ∷ ts) s s' s'' a b =
    one_history ts b.0 s' s'' (subst (λ m. Runs m ts s') (step s a.0 b.0 t a.1 b.1) a.2) b.2
