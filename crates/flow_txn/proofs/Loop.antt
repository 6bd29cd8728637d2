-- Reading so many things one after the other, as a loop does.
use Rattle.std.proofs.Common.{◌≡◌, ℕ, suc, ◌-◌, ◌+◌, ◌≤◌, ◌<◌, List, [], ◌∷◌, ◌++◌, Option, Some, None, refl, sym, ap, ◌∙◌, append_assoc, arith}
use Rattle.std.proofs.lemmas.List.{append-nil}
use Rattle.flow_txn.specs.declared.faults.RecordFault.{RecordFault}
use Rattle.flow_txn.specs.declared.faults.RecordFault.TheVariants.{BadRecord, NoMemory}
use Rattle.flow_txn.specs.Reading.{◌>>=◌, Fails, many}

-- what was read before, and what is still read
abbrev pub with_front : {A : Type 0} → List A → Option (List A × List ℕ) → Option (List A × List ℕ)
with_front before read = read >>= λ x. Some (before ++ x.0, x.1)

regroup : {A : Type 0} (before : List A) (a : A) (read : Option (List A × List ℕ)) → with_front before (read >>= λ x. Some (a ∷ x.0, x.1)) ≡ with_front (before ++ a ∷ []) read
regroup {A} before a (Some x) = ap (λ (as' : List A). Some (as', x.1)) (simp append_assoc)
regroup before a None = refl

pub goes_on : {A : Type 0} (r : List ℕ → Option (A × List ℕ)) (before : List A) (count i : ℕ) (bytes : List ℕ) (a : A) (after : List ℕ) (total : Option (List A × List ℕ)) → i < count → r bytes ≡ Some (a, after)
    → with_front before (many r (count - i) bytes) ≡ total → with_front (before ++ a ∷ []) (many r (count - (i + 1)) after) ≡ total
goes_on r before count i bytes a after total lt h so_far =
    let k : count - i ≡ suc (count - (i + 1)) = omega arith in
    let one : with_front before (many r (count - i) bytes) ≡ with_front (before ++ a ∷ []) (many r (count - (i + 1)) after) = rw (k, h) (regroup before a (many r (count - (i + 1)) after)) in
    sym one ∙ so_far

pub ends : {A : Type 0} (r : List ℕ → Option (A × List ℕ)) (e : RecordFault) (before : List A) (count i : ℕ) (bytes : List ℕ) (total : Option (List A × List ℕ)) → i < count → Fails e (r bytes)
    → with_front before (many r (count - i) bytes) ≡ total → Fails e total
ends r NoMemory before count i bytes total lt h so_far = tt
ends r BadRecord before count i bytes total lt h so_far =
    let k : count - i ≡ suc (count - (i + 1)) = omega arith in
    let one : with_front before (many r (count - i) bytes) ≡ None = rw (k, h) refl in
    sym so_far ∙ one

pub is_done : {A : Type 0} (r : List ℕ → Option (A × List ℕ)) (before : List A) (count i : ℕ) (bytes : List ℕ) (total : Option (List A × List ℕ)) → count ≤ i → with_front before (many r (count - i) bytes) ≡ total → total ≡ Some (before, bytes)
is_done {A} r before count i bytes total le so_far =
    let k : count - i ≡ 0 = omega arith in
    let one : with_front before (many r (count - i) bytes) ≡ Some (before, bytes) = rw k (ap (λ (as' : List A). Some (as', bytes)) (append-nil before)) in
    sym so_far ∙ one
