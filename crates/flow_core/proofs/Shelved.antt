-- The worklists around a transaction: what it lists goes by the roots and the library alone.
use Rattle.std.proofs.Common.{◌≡◌, ℕ, Bool, true, false, if◌then◌else◌, List, [], ◌∷◌, ◌++◌, Option, Some, None, refl, sym, ap, subst, ◌∙◌}
use Rattle.std.proofs.lemmas.Option.{none-some}
use Rattle.std.specs.Prelude.{bytes_eq, option_map, Result, Ok, Err, OnOk}
use Rattle.containers.specs.Settings.{filled}
use Rattle.flow_model.specs.Containers.{fresh}
use Rattle.flow_model.specs.declared.graphs.Container.{Container}
use Rattle.flow_model.specs.declared.instances.ItemLine.{ItemLine}
use Rattle.flow_model.specs.declared.instances.Path.{Path}
use Rattle.flow_model.specs.declared.transactions.Transaction.{Transaction}
use Rattle.flow_model.specs.declared.transactions.Transaction.TheVariants.{Import, Start, Turn, Claim, Release, Transfer, Take, Done, Force, Restart, Suspend, Resume, Terminate, Delete, Clock}
use Rattle.navigator.specs.Items.{Entry}
use Rattle.flow_model.specs.declared.instances.Message.{Message}
use Rattle.flow_model.specs.declared.names.Name.{Name}
use Rattle.flow_model.specs.declared.transactions.Setting.{Setting}
use Rattle.activity_states.specs.declared.states.Completed.{Completed}
use Rattle.navigator.specs.declared.instance.Instance.{Instance}
use Rattle.recover_queue.specs.Queues.{root_of}
use Rattle.staff_worklists.specs.declared.worklists.Listed.{Listed}
use Rattle.flow_core.specs.Answers.{instance_of}
use Rattle.flow_core.specs.Driving.{templates, item_of}
use Rattle.flow_core.specs.Shelving.{Standing, SameStanding, stands, line_now, rank_now, with_line, listed_if, listed, all_listed, unlisted, MakesReady, CompletesReady, IfRootLive, TurnShelves, CompletionShelves, CompletesShelves, HoldShelves, performer_named, Shelves}
use Rattle.flow_core.specs.declared.state.Core.{Core}

-- ---- shelves that are the same

pub same_trans : (u v w : Standing) → SameStanding u v → SameStanding v w → SameStanding u w
same_trans u v w first then_ name rank = first name rank ∙ then_ name rank

-- what is listed on shelves that are the same leaves shelves that are
listed_if_same : (path : Path) (line : Option ItemLine) (own : Option (List ℕ)) (v w : Standing) → SameStanding v w → SameStanding (listed_if path line own v) (listed_if path line own w)
listed_if_same path None own v w same = same
listed_if_same path (Some line) None v w same = same
listed_if_same path (Some line) (Some own) v w same = λ name rank. go _ (v name rank) (w name rank) (bytes_eq own rank) (same name rank)
  where
    go : (x y z : Option Listed) (b : Bool) → y ≡ z → (if b then x else y) ≡ (if b then x else z)
    go x y z true is = refl
    go x y z false is = is

pub listed_same : (c : Core) (path : Path) (v w : Standing) → SameStanding v w → SameStanding (listed c v path) (listed c w path)
listed_same c path v w same = listed_if_same path (line_now c path) (rank_now c path) v w same

pub all_listed_same : (c : Core) (paths : List Path) (v w : Standing) → SameStanding v w → SameStanding (all_listed c paths v) (all_listed c paths w)
all_listed_same c [] v w same = same
all_listed_same c (path ∷ paths) v w same = all_listed_same c paths (listed c v path) (listed c w path) (listed_same c path v w same)

all_listed_more : (c : Core) (paths : List Path) (path : Path) (w : Standing) → all_listed c (paths ++ path ∷ []) w ≡ listed c (all_listed c paths w) path
all_listed_more c [] path w = refl
all_listed_more c (first ∷ paths) path w = all_listed_more c paths path (listed c w first)

-- one more item is listed
pub list_next : (c b d : Core) (done : List Path) (path : Path) → b ≡ record c { worklists = b.worklists } → SameStanding (stands b) (all_listed c done (stands c))
    → d ≡ record b { worklists = d.worklists } → SameStanding (stands d) (listed b (stands b) path)
    → (d ≡ record c { worklists = d.worklists }) × SameStanding (stands d) (all_listed c (done ++ path ∷ []) (stands c))
list_next c b d done path rest standing rest' standing' = (
  rest' ∙ ap (λ (k : Core). record k { worklists = d.worklists }) rest,
  subst (SameStanding (stands d)) (sym (all_listed_more c done path (stands c)))
      (same_trans (stands d) (listed c (stands b) path) (listed c (all_listed c done (stands c)) path)
      (subst (SameStanding (stands d)) (ap (λ (k : Core). listed k (stands b) path) rest) standing')
      (listed_same c path (stands b) (all_listed c done (stands c)) standing)),
)

-- an item that is there is listed as its line says
pub listed_here : (c : Core) (path : Path) (line : ItemLine) (own : List ℕ) (w : Standing) → line_now c path ≡ Some line → rank_now c path ≡ Some own
    → SameStanding w (with_line path line own (stands c)) → SameStanding w (listed c (stands c) path)
listed_here c path line own w lined ranked same =
    subst (SameStanding w)
    (sym (ap (λ (o : Option ItemLine). listed_if path o (rank_now c path) (stands c)) lined
    ∙ ap (λ (o : Option (List ℕ)). listed_if path (Some line) o (stands c)) ranked)) same

-- what is listed behind messages that were put is listed as it stood before
pub follow_shelves : (c b d : Core) (items : List Path) → b ≡ record c { queues = b.queues } → SameStanding (stands d) (all_listed b items (stands b))
    → SameStanding (stands d) (all_listed c items (stands c))
follow_shelves c b d items before h = subst (λ (k : Core). SameStanding (stands d) (all_listed k items (stands k))) before h

-- ---- one transaction

-- a hold is changed, and its item is listed
pub hold_shelves : (c b d : Core) (item : Path) → b ≡ record c { live_roots = b.live_roots } → d ≡ record b { worklists = d.worklists }
    → SameStanding (stands d) (listed b (stands b) item) → HoldShelves c item d
hold_shelves c b d item before after h =
    subst (SameStanding (stands d)) (ap (λ v. listed b v item) (ap stands before) ∙ sym (ap (λ (k : Core). listed k (stands c) item) after)) h

-- a message is taken from its queue and by its root, and what is given of it is put and listed
pub turn_shelves : (c a b d : Core) (message : Message) (items : List Path) → a ≡ record c { queues = a.queues } → b ≡ record a { live_roots = b.live_roots }
    → d ≡ record b { queues = d.queues; worklists = d.worklists }
    → IfRootLive (MakesReady (templates a) a.clock message) items (instance_of a (root_of message)) (instance_of b (root_of message))
    → SameStanding (stands d) (all_listed b items (stands b)) → TurnShelves c message d
turn_shelves c a b d message items taken changed followed ready h = record {
  items = items;
  ready = subst (λ (o : Option Instance). IfRootLive (MakesReady (templates c) c.clock message) items (instance_of c (root_of message)) o) (sym (ap (λ (k : Core). instance_of k (root_of message)) followed))
      (subst (λ (k : Core). IfRootLive (MakesReady (templates k) k.clock message) items (instance_of k (root_of message)) (instance_of b (root_of message))) taken ready);
  stand = subst (SameStanding (stands d)) (ap (all_listed b items) (ap stands changed ∙ ap stands taken) ∙ sym (ap (λ (k : Core). all_listed k items (stands c)) followed)) h;
}

-- an item is taken off, completed by its root, and what is given of it is put and listed
pub completion_shelves : (c a b d : Core) (item : Path) (completed : Completed) (items : List Path) → a ≡ record c { worklists = a.worklists }
    → SameStanding (stands a) (unlisted c item (stands c)) → b ≡ record a { live_roots = b.live_roots } → d ≡ record b { queues = d.queues; worklists = d.worklists }
    → IfRootLive (CompletesReady (templates a) a.clock item completed) items (instance_of a item.root) (instance_of b item.root)
    → SameStanding (stands d) (all_listed b items (stands b)) → CompletionShelves c item completed d
completion_shelves c a b d item completed items taken off changed followed ready h = record {
  items = items;
  ready = subst (λ (o : Option Instance). IfRootLive (CompletesReady (templates c) c.clock item completed) items (instance_of c item.root) o) (sym (ap (λ (k : Core). instance_of k item.root) followed))
      (subst (λ (k : Core). IfRootLive (CompletesReady (templates k) k.clock item completed) items (instance_of k item.root) (instance_of b item.root)) taken ready);
  stand = subst (SameStanding (stands d)) (sym (ap (λ (k : Core). all_listed k items (unlisted c item (stands c))) followed))
      (same_trans (stands d) (all_listed b items (stands a)) (all_listed b items (unlisted c item (stands c)))
      (subst (SameStanding (stands d)) (ap (all_listed b items) (ap stands changed)) h)
      (all_listed_same b items (stands a) (unlisted c item (stands c)) off));
}

-- so it is where the item is there
pub completes_shelves : (c d : Core) (item : Path) (performer : Option Name) (settings : List Setting) (output : Container) (o : Option Entry)
    → Some output ≡ option_map (λ e. filled settings (fresh e.activity.output)) o → CompletionShelves c item (record { output = output; performer = performer }) d
    → CompletesShelves c item performer settings o d
completes_shelves c d item performer settings output None is h = absurd (none-some output (sym is))
completes_shelves c d item performer settings output (Some e) is h =
    let same : output ≡ filled settings (fresh e.activity.output) = cc in
    subst (λ (x : Container). CompletionShelves c item (record { output = x; performer = performer }) d) same h

-- ---- around a transaction

completes_earlier : (a n c : Core) (item : Path) (performer : Option Name) (settings : List Setting) (o : Option Entry)
    → CompletesShelves (record a { number = n.number; roots = n.roots; kept_number = n.kept_number; kept_root = n.kept_root }) item performer settings o c
    → CompletesShelves a item performer settings o c
completes_earlier a n c item performer settings None h = h
completes_earlier a n c item performer settings (Some e) h = record { items = h.items; ready = h.ready; stand = h.stand }

-- numbers don't matter
pub shelves_earlier : (a n c : Core) (t : Transaction) → Shelves (record a { number = n.number; roots = n.roots; kept_number = n.kept_number; kept_root = n.kept_root }) t c → Shelves a t c
shelves_earlier a n c (Turn number message) h = record { items = h.items; ready = h.ready; stand = h.stand }
shelves_earlier a n c (Done item who settings) h = completes_earlier a n c item (performer_named who) settings (item_of a item) h
shelves_earlier a n c (Force item settings) h = completes_earlier a n c item None settings (item_of a item) h
shelves_earlier a n c (Claim item who) h = h
shelves_earlier a n c (Release item who) h = h
shelves_earlier a n c (Transfer item who to) h = h
shelves_earlier a n c (Take item take) h = h
shelves_earlier a n c (Restart item) h = h
shelves_earlier a n c (Terminate root) h = h
shelves_earlier a n c (Import text) h = h
shelves_earlier a n c (Start root process version starter key settings) h = h
shelves_earlier a n c (Suspend root) h = h
shelves_earlier a n c (Resume root) h = h
shelves_earlier a n c (Delete root) h = h
shelves_earlier a n c (Clock minutes) h = h

completes_kept : (a c d : Core) (item : Path) (performer : Option Name) (settings : List Setting) (o : Option Entry) → CompletesShelves a item performer settings o c
    → CompletesShelves a item performer settings o (record c { live = d.live })
completes_kept a c d item performer settings None h = h
completes_kept a c d item performer settings (Some e) h = record { items = h.items; ready = h.ready; stand = h.stand }

-- nor does it which transactions are live
shelves_kept : (a c d : Core) (t : Transaction) → Shelves a t c → Shelves a t (record c { live = d.live })
shelves_kept a c d (Turn number message) h = record { items = h.items; ready = h.ready; stand = h.stand }
shelves_kept a c d (Done item who settings) h = completes_kept a c d item (performer_named who) settings (item_of a item) h
shelves_kept a c d (Force item settings) h = completes_kept a c d item None settings (item_of a item) h
shelves_kept a c d (Claim item who) h = h
shelves_kept a c d (Release item who) h = h
shelves_kept a c d (Transfer item who to) h = h
shelves_kept a c d (Take item take) h = h
shelves_kept a c d (Restart item) h = h
shelves_kept a c d (Terminate root) h = h
shelves_kept a c d (Import text) h = h
shelves_kept a c d (Start root process version starter key settings) h = h
shelves_kept a c d (Suspend root) h = h
shelves_kept a c d (Resume root) h = h
shelves_kept a c d (Delete root) h = h
shelves_kept a c d (Clock minutes) h = h

pub shelves_around : (a b c d : Core) (t : Transaction) → b ≡ record a { roots = b.roots } → d ≡ record c { live = d.live } → Shelves b t c → Shelves a t d
shelves_around a b c d t before after h =
    subst (λ (k : Core). Shelves a t k) (sym after) (shelves_kept a c d t (shelves_earlier a (record a { roots = b.roots }) c t (subst (λ (k : Core). Shelves k t c) before h)))

pub shelves_numbered : {T E : Type 0} (r : Result T E) (a : Core) (n : ℕ) (c : Core) (t : Transaction) → OnOk r (Shelves (record a { number = n }) t c) → OnOk r (Shelves a t c)
shelves_numbered (Ok x) a n c t h = shelves_earlier a (record a { number = n }) c t h
shelves_numbered (Err e) a n c t h = tt
