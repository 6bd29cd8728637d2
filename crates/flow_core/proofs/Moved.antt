-- What each transaction drives, from what its steps do.
use Rattle.std.proofs.Common.{◌≡◌, ℕ, List, [], ◌∷◌, length, Option, Some, None, refl, sym, ap, subst, ◌∙◌, inl, inr, option_map, Result, Ok, Err, IfOk, OnOk}
use Rattle.std.proofs.lemmas.Option.{none-some}
use Rattle.number_map.specs.Entries.{value_under}
use Rattle.flow_model.specs.Containers.{fresh}
use Rattle.flow_model.specs.ScopeContainers.{graph_of}
use Rattle.flow_model.specs.declared.graphs.Container.{Container}
use Rattle.flow_model.specs.declared.graphs.Graph.{Graph, out-Graph}
use Rattle.flow_model.specs.declared.graphs.Template.{Template}
use Rattle.flow_model.specs.declared.instances.Message.{Message}
use Rattle.flow_model.specs.declared.instances.Message.TheVariants.{Begin}
use Rattle.flow_model.specs.declared.instances.Path.{Path}
use Rattle.flow_model.specs.declared.names.Name.{Name}
use Rattle.flow_model.specs.declared.transactions.Setting.{Setting}
use Rattle.flow_model.specs.declared.transactions.Transaction.{Transaction}
use Rattle.flow_model.specs.declared.transactions.Transaction.TheVariants.{Start, Release, Transfer}
use Rattle.containers.specs.Settings.{filled}
use Rattle.navigator.specs.Instances.{IsStarted, Starts}
use Rattle.navigator.specs.declared.instance.HoldChange.TheVariants as hold
use Rattle.navigator.specs.declared.instance.Instance.{Instance}
use Rattle.flow_core.specs.Answers.{instance_of}
use Rattle.flow_core.specs.Driving.{templates, IsVersionAt, RunsAt, HasNoVersion, IsMade, StartsIn, BecomesStarted}
use Rattle.flow_core.specs.Driving.{ChangesRoot, ChangesRoots, HoldsItem, Drives, put_in, queue_now}
use Rattle.flow_core.specs.Summaries.{root_about}
use Rattle.flow_core.specs.declared.state.Core.{Core}
use Rattle.flow_core.proofs.Putting.{put_length, same_queue}

-- ---- roots

-- a state with the same roots has the same instances
pub same_roots : (b c : Core) → c.live_roots ≡ b.live_roots → (root : ℕ) → instance_of c root ≡ instance_of b root
same_roots b c same root = ap (λ roots. option_map (λ r. r.instance) (value_under root roots)) same

-- a change of a root goes from any state with the roots of the one before to any with the roots of the one after
pub changes_between : (root : ℕ) (becomes : Option Instance → Option Instance → Type 0) (a b c d : Core) → b.live_roots ≡ a.live_roots → ChangesRoot root becomes b c
    → d.live_roots ≡ c.live_roots → ChangesRoot root becomes a d
changes_between root becomes a b c d before changes after = record {
  here = subst (λ (o : Option Instance). becomes o (instance_of d root)) (same_roots a b before root)
      (subst (λ (o : Option Instance). becomes (instance_of b root) o) (sym (same_roots c d after root)) changes.here);
  others = λ other no_. same_roots c d after other ∙ changes.others other no_ ∙ same_roots a b before other;
}

-- what happens to a root may be told by more that is so
pub changes_as : (root : ℕ) (becomes becomes' : Option Instance → Option Instance → Type 0) (a b : Core)
    → ((before after : Option Instance) → becomes before after → becomes' before after) → ChangesRoot root becomes a b → ChangesRoot root becomes' a b
changes_as root becomes becomes' a b more changes = record { here = more _ _ changes.here; others = changes.others }

-- ---- what follows is put

-- what is put behind the changes of the roots
pub put_then : (c2 c3 : Core) (given : List Message) (qs : List (List Message)) → c3.live_roots ≡ c2.live_roots → c3.store ≡ c2.store
    → c3.queues ≡ put_in (queue_now c2) given c2.queues → c2.queues ≡ qs → c3.queues ≡ put_in (queue_now c3) given qs
put_then c2 c3 given qs roots store queues before =
    let many : length c3.queues ≡ length c2.queues = ap length queues ∙ put_length (queue_now c2) given c2.queues in
    let same : queue_now c3 ≡ queue_now c2 = same_queue c3 c2 roots store many in
    queues ∙ ap (λ (f : Message → ℕ). put_in f given c2.queues) (sym same) ∙ ap (put_in (queue_now c3) given) before

-- ---- transactions

pub starts : (c c1 c2 : Core) (root : ℕ) (process : Name) (version : ℕ) (starter : Name) (key : Option Name) (settings : List Setting) (i : Instance)
    → StartsIn (templates c) root process version starter settings i → c1 ≡ record c { live_roots = c1.live_roots; keys = c1.keys } → ChangesRoot root (λ before after. after ≡ Some i) c c1
    → c2 ≡ record c1 { queues = c2.queues } → c2.queues ≡ put_in (queue_now c1) (Begin (record { root = root; parts = [] }) ∷ []) c1.queues
    → Drives c (Start root process version starter key settings) c2
starts c c1 c2 root process version starter key settings i started rest changes put queues = record {
  given = Begin (record { root = root; parts = [] }) ∷ [];
  roots = changes_between root _ c c c1 c2 refl
      (changes_as root _ (BecomesStarted (templates c) root process version starter settings (Begin (record { root = root; parts = [] }) ∷ [])) c c1
      (λ before after e. subst (λ (o : Option Instance). BecomesStarted (templates c) root process version starter settings (Begin (record { root = root; parts = [] }) ∷ []) before o) (sym e) (inr (started, refl)))
      changes)
      (ap (λ (k : Core). k.live_roots) put);
  queues = put_then c1 c2 (Begin (record { root = root; parts = [] }) ∷ []) c.queues (ap (λ (k : Core). k.live_roots) put) (ap (λ (k : Core). k.store) put) queues
      (ap (λ (k : Core). k.queues) rest);
  library = ap templates put ∙ ap templates rest;
}

-- no root is started where the version isn't there
pub starts_none : (c : Core) (root : ℕ) (process : Name) (version : ℕ) (starter : Name) (key : Option Name) (settings : List Setting)
    → HasNoVersion (templates c) process version → Drives c (Start root process version starter key settings) c
starts_none c root process version starter key settings none = record {
  given = [];
  roots = record { here = stays (instance_of c root); others = λ other apart. refl };
  queues = refl;
  library = refl;
}
  where
    stays : (o : Option Instance) → BecomesStarted (templates c) root process version starter settings [] o o
    stays None = ((refl, refl), none)
    stays (Some i) = inl ((refl, refl), none)

pub starts_in : {E : Type 0} (r : Result (Option Instance) E) (ts ts' : List Template) (template : ℕ) (g : Graph) (input : Container) (root : ℕ) (process : Name) (version : ℕ)
    (starter starter' : Name) (settings : List Setting) → IsVersionAt ts process version template
    → ts' ≡ ts → starter' ≡ starter → graph_of ts template ≡ Some g → input ≡ filled settings (fresh (out-Graph g).input) → IfOk r (λ i. Starts ts' template root starter' input i)
    → IfOk r (λ made. IsMade ts root process version starter settings made)
starts_in (Err e) ts ts' template g input root process version starter starter' settings at_ same named there is made = tt
starts_in (Ok None) ts ts' template g input root process version starter starter' settings at_ same named there is made =
    absurd (none-some g (sym (sym (ap (λ us. graph_of us template) same) ∙ made) ∙ there))
starts_in (Ok (Some i)) ts ts' template g input root process version starter starter' settings at_ same named there is made = record {
  template = template;
  version_at = at_;
  graph = g;
  input = input;
  there = there;
  filled = is;
  started = subst (λ (name : Name). IsStarted ts template root name input i) named (subst (λ (us : List Template). IsStarted us template root starter' input i) same made);
}

-- a hold that changes is what a Release and a Transfer do
pub released : {T E : Type 0} (r : Result T E) (c c' : Core) (item : Path) (who : Name) → OnOk r (HoldsItem c item hold.Nobody c') → OnOk r (Drives c (Release item who) c')
released (Ok x) c c' item who h = record { given = []; roots = h.roots; queues = h.queues; library = h.library }
released (Err e) c c' item who h = tt

pub transferred : {T E : Type 0} (r : Result T E) (c c' : Core) (item : Path) (who to : Name) → OnOk r (HoldsItem c item (hold.Person to) c') → OnOk r (Drives c (Transfer item who to) c')
transferred (Ok x) c c' item who to h = record { given = []; roots = h.roots; queues = h.queues; library = h.library }
transferred (Err e) c c' item who to h = tt

-- ---- around a transaction

roots_earlier : (a n c : Core) (t : Transaction) (given : List Message) (o : Option ℕ)
    → ChangesRoots (record a { number = n.number; roots = n.roots; kept_number = n.kept_number; kept_root = n.kept_root }) t given o c → ChangesRoots a t given o c
roots_earlier a n c t given None h = h
roots_earlier a n c t given (Some root) h = record { here = h.here; others = h.others }

-- numbers don't matter
pub drives_earlier : (a n c : Core) (t : Transaction) → Drives (record a { number = n.number; roots = n.roots; kept_number = n.kept_number; kept_root = n.kept_root }) t c → Drives a t c
drives_earlier a n c t h = record { given = h.given; roots = roots_earlier a n c t h.given (root_about t) h.roots; queues = h.queues; library = h.library }

-- nor does the number of roots so far, nor which transactions are live
roots_counted : (a : Core) (r : ℕ) (c : Core) (t : Transaction) (given : List Message) (o : Option ℕ) → ChangesRoots (record a { roots = r }) t given o c → ChangesRoots a t given o c
roots_counted a r c t given None h = h
roots_counted a r c t given (Some root) h = record { here = h.here; others = h.others }

roots_kept : (a c d : Core) (t : Transaction) (given : List Message) (o : Option ℕ) → ChangesRoots a t given o c → ChangesRoots a t given o (record c { live = d.live })
roots_kept a c d t given None h = h
roots_kept a c d t given (Some root) h = record { here = h.here; others = h.others }

drives_counted : (a : Core) (r : ℕ) (c : Core) (t : Transaction) → Drives (record a { roots = r }) t c → Drives a t c
drives_counted a r c t h = record { given = h.given; roots = roots_counted a r c t h.given (root_about t) h.roots; queues = h.queues; library = h.library }

drives_kept : (a c d : Core) (t : Transaction) → Drives a t c → Drives a t (record c { live = d.live })
drives_kept a c d t h = record { given = h.given; roots = roots_kept a c d t h.given (root_about t) h.roots; queues = h.queues; library = h.library }

pub drives_around : (a b c d : Core) (t : Transaction) → b ≡ record a { roots = b.roots } → d ≡ record c { live = d.live } → Drives b t c → Drives a t d
drives_around a b c d t before after h =
    subst (λ (k : Core). Drives a t k) (sym after) (drives_kept a c d t (drives_counted a b.roots c t (subst (λ (k : Core). Drives k t c) before h)))

roots_numbered : (a : Core) (n : ℕ) (c : Core) (t : Transaction) (given : List Message) (o : Option ℕ) → ChangesRoots (record a { number = n }) t given o c → ChangesRoots a t given o c
roots_numbered a n c t given None h = h
roots_numbered a n c t given (Some root) h = record { here = h.here; others = h.others }

pub drives_numbered : {T E : Type 0} (r : Result T E) (a : Core) (n : ℕ) (c : Core) (t : Transaction) → OnOk r (Drives (record a { number = n }) t c) → OnOk r (Drives a t c)
drives_numbered (Ok x) a n c t h = record { given = h.given; roots = roots_numbered a n c t h.given (root_about t) h.roots; queues = h.queues; library = h.library }
drives_numbered (Err e) a n c t h = tt

-- a root that was started from a template that is there runs at its place
pub runs_at : {E : Type 0} (r : Result (Option Instance) E) (ts : List Template) (t number : ℕ) (name : Name)
    (input : Container) (g : Graph) (place : ℕ) → t ≡ place → graph_of ts t ≡ Some g
    → IfOk r (λ i. Starts ts t number name input i) → IfOk r (RunsAt place)
runs_at (Err e) ts t number name input g place same there is = tt
runs_at (Ok None) ts t number name input g place same there is = none-some g (sym is ∙ there)
runs_at (Ok (Some i)) ts t number name input g place same there is = is.template ∙ same
