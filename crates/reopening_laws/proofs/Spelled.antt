-- The bytes of a record in range are those of one transaction.
use Rattle.std.proofs.Common.{◌≡◌, ℕ, List, Option, Some, None, Ok, Err, refl, sym, ◌∙◌}
use Rattle.flow_model.specs.declared.transactions.Transaction.{Transaction}
use Rattle.flow_txn.specs.Ranges.{IsInRange}
use Rattle.flow_txn.specs.Reading.{whole}
use Rattle.flow_txn.specs.Records.{record_bytes}
use Rattle.flow_txn.specs.declared.faults.RecordFault.TheVariants.{BadRecord}
use Rattle.flow_txn.proofs.KindFormats.{is_same, is_bad}

-- two with the same bytes are one
record AreOne (n n' : ℕ) (t t' : Transaction) : Type 0 where
  pub number : n ≡ n'
  pub transaction : t ≡ t'

by_read : (bytes : List ℕ) (o : Option (ℕ × Transaction)) → whole bytes ≡ o → (n n' : ℕ) (t t' : Transaction)
    → IsInRange n t → IsInRange n' t' → record_bytes n t ≡ bytes → record_bytes n' t' ≡ bytes → AreOne n n' t t'
by_read bytes None read n n' t t' range range' is is' = absurd (is_bad bytes (Err BadRecord) read refl n t range is)
by_read bytes (Some x) read n n' t t' range range' is is' =
    let one = is_same bytes (Ok (record { number = x.0; transaction = x.1 })) read n t range is in
    let other = is_same bytes (Ok (record { number = x.0; transaction = x.1 })) read n' t' range' is' in
    record { number = sym one.0 ∙ other.0; transaction = sym one.1 ∙ other.1 }

pub one_record : (n n' : ℕ) (t t' : Transaction) → IsInRange n t → IsInRange n' t'
    → record_bytes n t ≡ record_bytes n' t' → (n ≡ n') × (t ≡ t')
one_record n n' t t' range range' same =
    let one = by_read (record_bytes n' t') (whole (record_bytes n' t')) refl n n' t t' range range' same refl in
    (one.number, one.transaction)
