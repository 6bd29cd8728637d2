-- Each step keeps a state within its bounds, where what it takes from its command is in range.
use Rattle.std.proofs.Common.{◌≡◌, ℕ, zero, suc, ◌+◌, ◌^◌, ◌<◌, ◌≤◌, Bool, true, false, List, [], ◌∷◌, ◌++◌, length, Option, Some, None}
use Rattle.std.proofs.Common.{refl, sym, subst, arith, eqb-true}
use Rattle.std.specs.List.{All}
use Rattle.std.specs.Option.{option_map_or}
use Rattle.std.specs.Prelude.{if◌then◌else◌}
use Rattle.std.proofs.lemmas.List.Elements.{All-nil, All-cons, All-head, All-tail}
use Rattle.std.proofs.lemmas.Option.{none-some}
use Rattle.activity_states.specs.declared.states.Completed.{Completed}
use Rattle.containers.specs.Settings.{filled}
use Rattle.flow_model.specs.Containers.{fresh}
use Rattle.flow_model.specs.ScopeContainers.{graph_of}
use Rattle.flow_model.specs.declared.graphs.Graph.{Graph, out-Graph}
use Rattle.flow_model.specs.declared.graphs.Template.{Template}
use Rattle.flow_model.specs.declared.instances.Message.{Message}
use Rattle.flow_model.specs.declared.instances.Message.TheVariants.{Begin}
use Rattle.flow_model.specs.declared.instances.Path.{Path}
use Rattle.flow_model.specs.declared.names.Name.{Name}
use Rattle.flow_model.specs.declared.transactions.Setting.{Setting}
use Rattle.flow_model.specs.declared.transactions.Transaction.{Transaction}
use Rattle.flow_model.specs.declared.transactions.Transaction.TheVariants.{Import, Start, Turn, Claim, Release}
use Rattle.flow_model.specs.declared.transactions.Transaction.TheVariants.{Transfer, Take, Done, Force, Restart}
use Rattle.flow_model.specs.declared.transactions.Transaction.TheVariants.{Suspend, Resume, Terminate, Delete, Clock}
use Rattle.flow_txn.specs.Ranges.{IsCounted, PartFits, MessageFits}
use Rattle.machine.specs.Items.{Entry}
use Rattle.machine.specs.Moves.{Outcome, takes, completes_item, holds_item, Holding, ByPerson, ByAgent, ByNobody}
use Rattle.machine.specs.Queues.{taken_by}
use Rattle.machine.specs.States.{Root, State, templates, item_of}
use Rattle.machine.specs.Steps.{After, stays, quietly, moved_in, version_place, started_from, started_at, turned, holds, completed_at, performer_named, becomes}
use Rattle.machine.specs.Steps.{root_about, is_root, given_by, roots_after, queue_then, Steps}
use Rattle.range_laws.specs.Bounds.{IsInBounds, IsBounded}
use Rattle.range_laws.specs.Standing.{HaveHadAtMost, StaysInBounds}
use Rattle.range_laws.proofs.Queues.{put_fits, taken_fits, queues_stay}
use Rattle.range_laws.proofs.Scenes.{some_is, counted_weaker, fresh_counted}
use Rattle.range_laws.proofs.Walks.{OutcomeFits, PathIsNamed, takes_fits, completion_fits, hold_counted}

-- what a transaction takes from its command is in range
abbrev pub Brings : Transaction → Type 0
Brings (Import text) = Unit {0}
Brings (Start root process version starter key settings) = IsCounted root
Brings (Turn queue message) = MessageFits message
Brings (Claim item who) = Unit {0}
Brings (Release item who) = Unit {0}
Brings (Transfer item who to) = Unit {0}
Brings (Take item take) = Unit {0}
Brings (Done item who settings) = PathIsNamed item
Brings (Force item settings) = PathIsNamed item
Brings (Restart item) = Unit {0}
Brings (Suspend root) = Unit {0}
Brings (Resume root) = Unit {0}
Brings (Terminate root) = Unit {0}
Brings (Delete root) = Unit {0}
Brings (Clock minutes) = Unit {0}

-- a root, if it is there, is counted to a number
abbrev RootFits : ℕ → Option Root → Type 0
RootFits n o = (r : Root) → o ≡ Some r → HaveHadAtMost n r.scopes

-- so is the root after a step, and the messages that the step gives fit
abbrev AfterFits : ℕ → After → Type 0
AfterFits n x = RootFits n x.root × All MessageFits x.given

-- the graph of a bounded template nests at most 17 levels, itself the first
pub record HasLevels (ts : List Template) (g : Graph) : Type 0 where
  pub levels : ℕ
  pub few : levels ≤ 17
  pub bounded : IsInBounds ts levels g

pub graph_bounded : (ts us : List Template) (place : ℕ) (g : Graph) → All (IsBounded ts) us → graph_of us place ≡ Some g
    → HasLevels ts g
graph_bounded ts [] place g all at = absurd (none-some g at)
graph_bounded ts (u ∷ us) zero g all at =
    let one = All-head (IsBounded ts) u us all in
    let shallow = one.shallow in
    record {
      levels = suc u.depth;
      few = omega (arith, shallow);
      bounded = subst (IsInBounds ts (suc u.depth)) (some_is u.graph g at) one.graph;
    }
graph_bounded ts (u ∷ us) (suc place) g all at =
    graph_bounded ts us place g (All-tail (IsBounded ts) u us all) at

module _ (ts : List Template) (all : All (IsBounded ts) ts) (before : ℕ) (small : before + 2 < 2 ^ 64) where
  wider : (r : Root) → HaveHadAtMost before r.scopes → HaveHadAtMost (before + 1) r.scopes
  wider r counted = counted_weaker before (before + 1) (omega arith) r.scopes counted

  stays_fit : (o : Option Root) → RootFits before o → AfterFits (before + 1) (stays o)
  stays_fit o fits = ((λ r is. wider r (fits r is)), All-nil MessageFits)

  one_fits : (n : ℕ) (r : Root) → HaveHadAtMost n r.scopes → RootFits n (Some r)
  one_fits n r counted x is = subst (λ (y : Root). HaveHadAtMost n y.scopes) (some_is r x is) counted

  moved_fits : (move : Graph → Outcome) (r : Root) (o : Option Graph) → HaveHadAtMost before r.scopes
      → ((g : Graph) → o ≡ Some g → OutcomeFits (before + 1) (move g)) → AfterFits (before + 1) (moved_in move r o)
  moved_fits move r None counted moves = stays_fit (Some r) (one_fits before r counted)
  moved_fits move r (Some g) counted moves =
      let ok = moves g refl in
      (one_fits (before + 1) (record r { scopes = (move g).scopes }) ok.0, ok.1)

  -- ---- a root after a step

  started_fits : (root : ℕ) (starter : Name) (settings : List Setting) (o : Option ℕ) (r : Option Root)
      → IsCounted root → RootFits before r → AfterFits (before + 1) (started_at ts root starter settings o r)
  started_fits root starter settings None r counted fits = stays_fit r fits
  started_fits root starter settings (Some place) r counted fits = go (graph_of ts place)
    where
      go : (o : Option Graph) → AfterFits (before + 1) (started_from root starter settings place o r)
      go None = stays_fit r fits
      go (Some g) =
          let input = filled settings (fresh (out-Graph g).input) in
          let none : 0 < 2 ^ 8 = omega arith in (
            (λ x is. subst (λ (y : Root). HaveHadAtMost (before + 1) y.scopes) (some_is _ x is)
                (fresh_counted (before + 1) g input)),
            All-cons MessageFits (Begin (record { root = root; parts = [] })) [] (counted, none, All-nil PartFits)
                (All-nil MessageFits),
          )

  turned_fits : (clock : ℕ) (m : Message) (o : Option Root) → MessageFits m → RootFits before o
      → AfterFits (before + 1) (turned ts clock m o)
  turned_fits clock m None one fits = stays_fit None fits
  turned_fits clock m (Some r) one fits = go r.terminated
    where
      goes : (g : Graph) → graph_of ts r.template ≡ Some g → OutcomeFits (before + 1) (takes ts clock m g r.scopes)
      goes g is =
          let has = graph_bounded ts ts r.template g all is in
          takes_fits ts has.levels has.few g has.bounded r.scopes before small (fits r refl) clock m one

      go : (b : Bool) → AfterFits (before + 1) (if b then stays (Some r) else moved_in
          (λ g. takes ts clock m g r.scopes) r (graph_of ts r.template))
      go true = stays_fit (Some r) fits
      go false =
          moved_fits (λ g. takes ts clock m g r.scopes) r (graph_of ts r.template) (fits r refl) goes

  holds_fit : (item : Path) (change : Holding) (o : Option Root) → RootFits before o
      → AfterFits (before + 1) (quietly (holds ts item change) o)
  holds_fit item change None fits = stays_fit None fits
  holds_fit item change (Some r) fits = (
    one_fits (before + 1) (holds ts item change r) (wider (holds ts item change r) (go (graph_of ts r.template) refl)),
    All-nil MessageFits,
  )
    where
      go : (o : Option Graph) → graph_of ts r.template ≡ o
          → HaveHadAtMost before (option_map_or (λ g. holds_item ts item.parts change g r.scopes) o r.scopes)
      go None is = fits r refl
      go (Some g) is =
          let has = graph_bounded ts ts r.template g all is in
          hold_counted ts has.levels g has.bounded r.scopes before (fits r refl) change item.parts

  completed_fits : (clock : ℕ) (item : Path) (performer : Option Name) (settings : List Setting) (e : Option Entry)
      (o : Option Root) → PathIsNamed item → RootFits before o
      → AfterFits (before + 1) (completed_at ts clock item performer settings e o)
  completed_fits clock item performer settings e None named fits = stays_fit None fits
  completed_fits clock item performer settings None (Some r) named fits = stays_fit (Some r) fits
  completed_fits clock item performer settings (Some e) (Some r) named fits =
      let c : Completed = record { output = filled settings (fresh e.activity.output); performer = performer } in
      moved_fits (λ g. completes_item ts clock item c g r.scopes) r (graph_of ts r.template) (fits r refl)
      (λ g is.
      let has = graph_bounded ts ts r.template g all is in
      completion_fits ts has.levels has.few g has.bounded r.scopes before small (fits r refl) clock item c named)

  -- nothing happens to its scopes
  quiet_fits : (change : Root → Root) → ((r : Root) → (change r).scopes ≡ r.scopes) → (o : Option Root)
      → RootFits before o → AfterFits (before + 1) (quietly change o)
  quiet_fits change same None fits = stays_fit None fits
  quiet_fits change same (Some r) fits = (
    one_fits (before + 1) (change r) (subst (HaveHadAtMost (before + 1)) (sym (same r)) (wider r (fits r refl))),
    All-nil MessageFits,
  )

module _ (s : State) (ok : StaysInBounds s) (room : s.transactions < s.limit) where
  small : s.transactions + 2 < 2 ^ 64
  small = let limit = ok.limit in omega (arith, room, limit)

  becomes_fits : (t : Transaction) (o : Option Root) → Brings t → RootFits s.transactions o
      → AfterFits (s.transactions + 1) (becomes s t o)
  becomes_fits (Import text) o brings fits = stays_fit (templates s) ok.bounded s.transactions small o fits
  becomes_fits (Start root process version starter key settings) o brings fits =
      started_fits (templates s) ok.bounded s.transactions small root starter settings
      (version_place s.library process version) o brings fits
  becomes_fits (Turn queue message) o brings fits =
      turned_fits (templates s) ok.bounded s.transactions small s.clock message o brings fits
  becomes_fits (Claim item who) o brings fits =
      holds_fit (templates s) ok.bounded s.transactions small item (ByPerson who) o fits
  becomes_fits (Release item who) o brings fits =
      holds_fit (templates s) ok.bounded s.transactions small item ByNobody o fits
  becomes_fits (Transfer item who to) o brings fits =
      holds_fit (templates s) ok.bounded s.transactions small item (ByPerson to) o fits
  becomes_fits (Take item take) o brings fits =
      holds_fit (templates s) ok.bounded s.transactions small item ByAgent o fits
  becomes_fits (Done item by settings) o brings fits =
      completed_fits (templates s) ok.bounded s.transactions small s.clock item (performer_named by) settings
      (item_of s item) o brings fits
  becomes_fits (Force item settings) o brings fits =
      completed_fits (templates s) ok.bounded s.transactions small s.clock item None settings (item_of s item) o brings
      fits
  becomes_fits (Restart item) o brings fits =
      holds_fit (templates s) ok.bounded s.transactions small item ByNobody o fits
  becomes_fits (Suspend root) o brings fits =
      quiet_fits (templates s) ok.bounded s.transactions small (λ i. record i { suspended = true }) (λ r. refl) o fits
  becomes_fits (Resume root) o brings fits =
      quiet_fits (templates s) ok.bounded s.transactions small (λ i. record i { suspended = false }) (λ r. refl) o fits
  becomes_fits (Terminate root) o brings fits =
      quiet_fits (templates s) ok.bounded s.transactions small (λ i. record i { terminated = true }) (λ r. refl) o fits
  becomes_fits (Delete root) o brings fits =
      stays_fit (templates s) ok.bounded s.transactions small None (λ r none. absurd (none-some r none))
  becomes_fits (Clock minutes) o brings fits = stays_fit (templates s) ok.bounded s.transactions small o fits

  -- ---- all roots and queues

  root_before : (root : ℕ) → RootFits s.transactions (s.roots root)
  root_before root r is = ok.counted root r is

  roots_counted : (t : Transaction) → Brings t → (root : ℕ) → RootFits (s.transactions + 1) (roots_after s t root)
  roots_counted t brings root r is = go (is_root root (root_about t)) is
    where
      go : (b : Bool) → (if b then (becomes s t (s.roots root)).root else s.roots root) ≡ Some r
          → HaveHadAtMost (s.transactions + 1) r.scopes
      go true at = (becomes_fits t (s.roots root) brings (root_before root)).0 r at
      go false at =
          counted_weaker s.transactions (s.transactions + 1) (omega arith) r.scopes (ok.counted root r at)

  -- a root with the number 0 isn't there afterwards, where it wasn't before
  zero_becomes : (t : Transaction) → Brings t → is_root 0 (root_about t) ≡ true → (becomes s t None).root ≡ None
  zero_becomes (Import text) brings so = refl
  zero_becomes (Start root process version starter key settings) brings so =
      let counted = brings.0 in
      let none = eqb-true root 0 so in
      absurd (omega (arith, counted, none))
  zero_becomes (Turn queue message) brings so = refl
  zero_becomes (Claim item who) brings so = refl
  zero_becomes (Release item who) brings so = refl
  zero_becomes (Transfer item who to) brings so = refl
  zero_becomes (Take item take) brings so = refl
  zero_becomes (Done item by settings) brings so = refl
  zero_becomes (Force item settings) brings so = refl
  zero_becomes (Restart item) brings so = refl
  zero_becomes (Suspend root) brings so = refl
  zero_becomes (Resume root) brings so = refl
  zero_becomes (Terminate root) brings so = refl
  zero_becomes (Delete root) brings so = refl
  zero_becomes (Clock minutes) brings so = refl

  still_no_zero : (t : Transaction) → Brings t → roots_after s t 0 ≡ None
  still_no_zero t brings = go (is_root 0 (root_about t)) refl
    where
      go : (b : Bool) → is_root 0 (root_about t) ≡ b
          → (if b then (becomes s t (s.roots 0)).root else s.roots 0) ≡ None
      go true so =
          subst (λ (o : Option Root). (becomes s t o).root ≡ None) (sym ok.from_one) (zero_becomes t brings so)
      go false so = ok.from_one

  given_fits : (t : Transaction) → Brings t → (o : Option ℕ) → All MessageFits (given_by s t o)
  given_fits t brings None = All-nil MessageFits
  given_fits t brings (Some root) = (becomes_fits t (s.roots root) brings (root_before root)).1

  pub step_in_bounds : (t : Transaction) (s' : State) → Brings t → (step : Steps s t s')
      → (let ts = templates s ++ step.added.templates in All (IsBounded ts) ts) → StaysInBounds s'
  step_in_bounds t s' brings step bounded =
      let f = queue_then (templates s) (length s.queues) (roots_after s t) in
      let given = given_by s t (root_about t) in
      let many = queues_stay f given t s.queues in
      let few = ok.queues in
      subst StaysInBounds (sym step.next) (record {
        room = omega (arith, room);
        limit = ok.limit;
        queues = omega (arith, many, few);
        bounded = bounded;
        counted = λ root r is. roots_counted t brings root r is;
        fit = put_fits f given (taken_by t s.queues) (given_fits t brings (root_about t))
            (taken_fits t s.queues ok.fit);
        from_one = still_no_zero t brings;
      })
