-- What a turn and a completion say exactly, around a transaction.
use Rattle.std.proofs.Common.{◌≡◌, ℕ, List, Option, Some, None, sym, subst, Result, Ok, Err, OnOk}
use Rattle.flow_model.specs.declared.instances.Path.{Path}
use Rattle.flow_model.specs.declared.names.Name.{Name}
use Rattle.flow_model.specs.declared.transactions.Setting.{Setting}
use Rattle.flow_model.specs.declared.transactions.Transaction.{Transaction}
use Rattle.flow_model.specs.declared.transactions.Transaction.TheVariants.{Import, Start, Turn, Claim, Release}
use Rattle.flow_model.specs.declared.transactions.Transaction.TheVariants.{Transfer, Take, Done, Force, Restart}
use Rattle.flow_model.specs.declared.transactions.Transaction.TheVariants.{Suspend, Resume, Terminate, Delete, Clock}
use Rattle.navigator.specs.Items.{Entry}
use Rattle.flow_core.specs.Answers.{instance_of}
use Rattle.flow_core.specs.Driving.{item_of, IfNewest, RunsAt}
use Rattle.flow_core.specs.Shelving.{performer_named, CompletesExactly, StartsNewest}
use Rattle.flow_core.specs.Shelving.{IsExact}
use Rattle.flow_core.specs.declared.state.Core.{Core}

-- what a completion does, doesn't depend on the numbers that a state keeps
completes_earlier : (a n c : Core) (item : Path) (performer : Option Name) (settings : List Setting) (o : Option Entry)
    → CompletesExactly (record a {
      number = n.number;
      roots = n.roots;
      kept_number = n.kept_number;
      kept_root = n.kept_root;
    }) item performer settings o c → CompletesExactly a item performer settings o c
completes_earlier a n c item performer settings None h = h
completes_earlier a n c item performer settings (Some e) h = record {
  given = h.given;
  items = h.items;
  roots = record { here = h.roots.here; others = h.roots.others };
  completes = h.completes;
  queues = h.queues;
}

pub exact_earlier : (a n c : Core) (t : Transaction)
    → IsExact (record a {
      number = n.number;
      roots = n.roots;
      kept_number = n.kept_number;
      kept_root = n.kept_root;
    }) t c → IsExact a t c
exact_earlier a n c (Turn number message) h = record {
  given = h.given;
  items = h.items;
  roots = record { here = h.roots.here; others = h.roots.others };
  takes = h.takes;
  queues = h.queues;
}
exact_earlier a n c (Done item who settings) h =
    completes_earlier a n c item (performer_named who) settings (item_of a item) h
exact_earlier a n c (Force item settings) h = completes_earlier a n c item None settings (item_of a item) h
exact_earlier a n c (Claim item who) h = h
exact_earlier a n c (Release item who) h = h
exact_earlier a n c (Transfer item who to) h = h
exact_earlier a n c (Take item take) h = h
exact_earlier a n c (Restart item) h = h
exact_earlier a n c (Terminate root) h = h
exact_earlier a n c (Import text) h = h
exact_earlier a n c (Start root process version starter key settings) h = h
exact_earlier a n c (Suspend root) h = h
exact_earlier a n c (Resume root) h = h
exact_earlier a n c (Delete root) h = h
exact_earlier a n c (Clock minutes) h = h

-- nor on which transactions are live after it
completes_kept : (a c d : Core) (item : Path) (performer : Option Name) (settings : List Setting) (o : Option Entry)
    → CompletesExactly a item performer settings o c
    → CompletesExactly a item performer settings o (record c { live = d.live })
completes_kept a c d item performer settings None h = h
completes_kept a c d item performer settings (Some e) h = record {
  given = h.given;
  items = h.items;
  roots = record { here = h.roots.here; others = h.roots.others };
  completes = h.completes;
  queues = h.queues;
}

exact_kept : (a c d : Core) (t : Transaction) → IsExact a t c → IsExact a t (record c { live = d.live })
exact_kept a c d (Turn number message) h = record {
  given = h.given;
  items = h.items;
  roots = record { here = h.roots.here; others = h.roots.others };
  takes = h.takes;
  queues = h.queues;
}
exact_kept a c d (Done item who settings) h =
    completes_kept a c d item (performer_named who) settings (item_of a item) h
exact_kept a c d (Force item settings) h = completes_kept a c d item None settings (item_of a item) h
exact_kept a c d (Claim item who) h = h
exact_kept a c d (Release item who) h = h
exact_kept a c d (Transfer item who to) h = h
exact_kept a c d (Take item take) h = h
exact_kept a c d (Restart item) h = h
exact_kept a c d (Terminate root) h = h
exact_kept a c d (Import text) h = h
exact_kept a c d (Start root process version starter key settings) h = h
exact_kept a c d (Suspend root) h = h
exact_kept a c d (Resume root) h = h
exact_kept a c d (Delete root) h = h
exact_kept a c d (Clock minutes) h = h

pub exact_around : (a b c d : Core) (t : Transaction) → b ≡ record a { roots = b.roots }
    → d ≡ record c { live = d.live } → IsExact b t c → IsExact a t d
exact_around a b c d t before after h =
    subst (λ (k : Core). IsExact a t k) (sym after)
    (exact_kept a c d t (exact_earlier a (record a { roots = b.roots }) c t
    (subst (λ (k : Core). IsExact k t c) before h)))

pub exact_numbered : {T E : Type 0} (r : Result T E) (a : Core) (n : ℕ) (c : Core) (t : Transaction)
    → OnOk r (IsExact (record a { number = n }) t c) → OnOk r (IsExact a t c)
exact_numbered (Ok x) a n c t h = exact_earlier a (record a { number = n }) c t h
exact_numbered (Err e) a n c t h = tt

-- the premises of a Start's clause stand before its result
pub started_newest : {T E : Type 0} (r : Result T E) (c c' : Core) (root : ℕ) (process : Name) (version : ℕ)
    → IfNewest c.store process version (λ place. OnOk r (RunsAt place (instance_of c' root)))
    → OnOk r (StartsNewest c root process version c')
started_newest (Ok x) c c' root process version h = λ place newest. h place newest
started_newest (Err e) c c' root process version h = tt
