-- What a journal on a disk is while it is open, and which summary its records give.
use Rattle.std.specs.Prelude.{◌≡◌, ℕ, ◌≤◌, false, List}
use Rattle.std.proofs.Common.{subst, sym}
use Rattle.std.specs.List.{All}
use Rattle.flow_model.specs.declared.transactions.Numbered.{Numbered}
use Rattle.txn_log.specs.declared.opening.Opened.{Opened}
use Rattle.txn_log.specs.declared.header.Header.{Header}
use Rattle.flow_disk.specs.Images.{Image}
use Rattle.flow_disk.specs.Moments.{Only}
use Rattle.txn_log.specs.Standing.{StandsOn}
use Rattle.txn_log.specs.declared.log.Log.{Log}
use Rattle.flow_core.specs.Summaries.{Summary, all_taken_up}
use Rattle.flow_session.specs.Histories.{AreInRange, IsLive, StandsFor, payloads, under}

-- the log hasn't failed and stands on the disk, a crash now leaves what a read gives, and that stands for the summary
pub record IsOpen {D : Type 0} (seen : D → Image) (images : D → Image → Type 0) (log : Log) (disk : D)
    (s : Summary) : Type 0 where
  pub alive : log.failed ≡ false
  pub stands : StandsOn log (seen disk)
  pub only : Only (seen disk) (images disk)
  pub holds : StandsFor s (seen disk)

-- each image of now stands for the summary
pub rests : {D : Type 0} (seen : D → Image) (images : D → Image → Type 0) (log : Log) (disk : D) (s : Summary)
    (c : Image) → IsOpen seen images log disk s → images disk c → StandsFor s c
rests seen images log disk s c is now = subst (StandsFor s) (sym (is.only c now)) is.holds

-- taken up under a header, records in range with these payloads give a summary
pub record Brings (h : Header) (bytes : List (List ℕ)) (s : Summary) : Type 0 where
  pub records : List Numbered
  pub spelled : payloads records ≡ bytes
  pub comes_to : all_taken_up h.transactions records (under h) ≡ s
  pub fits : AreInRange records
  pub later : h.transactions ≤ s.transactions
  pub live : All (IsLive s) s.live

-- the records of an opened store give this summary
abbrev pub ComesTo : Opened → Summary → Type 0
ComesTo opened s = Brings opened.header opened.records s
