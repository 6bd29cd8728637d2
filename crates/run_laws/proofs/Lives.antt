-- A store from run to run is a state's own.
use Rattle.std.proofs.Common.{◌≡◌, inl, inr, ℕ, ◌≤◌, List, [], ◌++◌, take, refl, sym, subst}
use Rattle.std.specs.Prelude.{Option}
use Rattle.flow_disk.specs.Images.{Image}
use Rattle.flow_disk.specs.declared.disk.Disk.{Ghosts}
use Rattle.flow_model.specs.declared.transactions.Transaction.{Transaction}
use Rattle.flow_words.specs.Correct.{PrintsWord}
use Rattle.flow_words.specs.Following.{PrintsFollowed}
use Rattle.flow_words.specs.Outside.{files}
use Rattle.flow_words.specs.Scripts.{RunsStore}
use Rattle.flow_words.specs.declared.word.Word.{Word}
use Rattle.machine.specs.States.{State, blank}
use Rattle.reopening_laws.specs.Making.{MadeByCommands}
use Rattle.reopening_laws.proofs.Sessions.{made_more}
use Rattle.txn_log.specs.Stores.{NoStore, store_of}
use Rattle.compaction_laws.specs.OwnStores.{IsOwn, IsOwnAfterSome}
use Rattle.run_laws.specs.Lives.{WasMade, WasRun, WasFollowed, WasKept, LeftStoresAreOwn, LeftStoresReopen}
use Rattle.run_laws.specs.Making.{MayBeOwn}
use Rattle.run_laws.proofs.Follows.{follows_keep}
use Rattle.run_laws.proofs.Fronts.{own_reopened}
use Rattle.run_laws.proofs.Making.{correct_news}
use Rattle.run_laws.proofs.Runs.{keep_own}

-- commands lead from a state to one whose own this image is
abbrev IsOwnFrom : State → Image → Type 0
IsOwnFrom s image = (ts : List Transaction) × (s' : State) × MadeByCommands s ts s' × IsOwn s' image

-- the image of a store that is made
made_own : (queues limit : ℕ) (was image : Image) → store_of was ≡ NoStore → (store_of image ≡ NoStore → ⊥)
    → MayBeOwn queues limit was image → IsOwnFrom (blank queues limit) image
made_own queues limit was image none some_ (inl same) =
    absurd (some_ (subst (λ (c : Image). store_of c ≡ NoStore) (sym same) none))
made_own queues limit was image none some_ (inr (before, inl without)) = absurd (some_ without)
made_own queues limit was image none some_ (inr (before, inr own)) = ([], blank queues limit, refl, own)

-- an image that is left of a store to which commands led
own_on : (s : State) (ts : List Transaction) (mid : State) → MadeByCommands s ts mid → (us : List Transaction)
    → (image : Image) → IsOwnAfterSome mid us image → IsOwnFrom s image
own_on s ts mid first us image (n, s', made, own) =
    (ts ++ take n us, s', made_more s ts (take n us) mid s' first made, own)

module _ {D : Type 0} (g : Ghosts D)
    (counts_now : (disk : D) (t : ℕ) (image : Image) → t ≤ g.moment disk → g.images disk image
    → g.left_since disk t image)
    (only_now : (disk : D) (image : Image) → g.left_since disk (g.moment disk) image → g.images disk image) where
  pub left_stores_own : LeftStoresAreOwn g
  left_stores_own settings _ (WasMade {image} words c old new ended settled none correct says left some_) =
      let makes = correct_news g words c old new ended settings settled correct says in
      made_own settings.queues settings.limit (g.seen old) image none some_ (makes.any_moment.each image left)
  left_stores_own settings _ (WasRun {image} words c old new ended settled lives correct says left) =
      let runs : RunsStore c (files g old new) ended =
      subst (λ (o : Option Word). PrintsWord words o c (files g old new) ended) says correct.prints in
      let was = left_stores_own settings (g.seen old) lives in
      let keeps = keep_own g counts_now only_now c old new ended was.1 settled was.3 runs in
      own_on (blank settings.queues settings.limit) was.0 was.1 was.2 (keeps.answered ++ keeps.under_way) image
      (keeps.any_moment.each image left)
  left_stores_own settings _ (WasFollowed {image} words c old new ended settled lives correct says left) =
      let prints : PrintsFollowed c (files g old new) ended =
      subst (λ (o : Option Word). PrintsWord words o c (files g old new) ended) says correct.prints in
      let was = left_stores_own settings (g.seen old) lives in
      let keeps = follows_keep g counts_now only_now c old new ended was.1 settled was.3 prints in
      own_on (blank settings.queues settings.limit) was.0 was.1 was.2 keeps.transactions image
      (keeps.any_moment.each image left)
  left_stores_own settings _ (WasKept {image} old new lives keeps left) =
      let was = left_stores_own settings (g.seen old) lives in
      (was.0, was.1, was.2, subst (IsOwn was.1) (sym (keeps.each image left)) was.3)

  pub left_stores_reopen : LeftStoresReopen g
  left_stores_reopen settings image lives =
      let is = left_stores_own settings image lives in
      (is.0, is.1, is.2, own_reopened is.1 image is.3)
