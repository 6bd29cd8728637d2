-- A store of which no record is unfit is opened, unless a fault or want of memory comes.
use Rattle.std.proofs.Common.{◌≡◌, ◌⊎◌, inl, inr, ℕ, List, refl, sym, ◌∙◌}
use Rattle.flow_disk.specs.Images.{Image}
use Rattle.flow_disk.specs.declared.disk.Slot.{Slot}
use Rattle.flow_session.specs.Fitting.{HasFitRecords}
use Rattle.flow_session.specs.Refusing.{IsUnopened}
use Rattle.txn_log.specs.Stores.{StoreState, NoStore, ForeignIn, DamagedIn, Counts, store_of}
use Rattle.txn_log.specs.declared.header.Header.{Header}
use Rattle.txn_log.specs.declared.stops.LogStop.{LogStop}
use Rattle.txn_log.specs.declared.stops.LogStop.TheVariants as log

module _ (image : Image) (slot : Slot) (h : Header) (bytes : List (List ℕ)) (end : ℕ)
    (counts : store_of image ≡ Counts slot h bytes end) (fit : HasFitRecords image) where
  never : {X : Type 0} (state : StoreState) → store_of image ≡ state → (Counts slot h bytes end ≡ state → ⊥) → X
  never state shows other = absurd (other (sym counts ∙ shows))

  pub fit_opens : (stop : LogStop) → IsUnopened image stop → (stop ≡ log.StoreFault) ⊎ (stop ≡ log.NoMemory)
  fit_opens log.Unmade shows = never NoStore shows (λ e. cc)
  fit_opens log.Made shows = absurd shows
  fit_opens (log.Foreign other) shows = never (ForeignIn other) shows (λ e. cc)
  fit_opens (log.Damaged other place) (inl shows) = never (DamagedIn other place) shows (λ e. cc)
  fit_opens (log.Damaged other place) (inr broken) = absurd (fit other place broken)
  fit_opens log.StoreFault shows = inl refl
  fit_opens log.NoMemory shows = inr refl
