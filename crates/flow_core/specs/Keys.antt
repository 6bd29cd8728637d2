-- The keys of the live roots, and what a transaction makes of them.
use Rattle.std.specs.Prelude.{◌≡◌, ℕ, ◌==◌, Bool, false, if◌then◌else◌, Option, Some, None, option_and_then, bytes_eq}
use Rattle.std.specs.Option.{option_map_or}
use Rattle.flow_model.specs.declared.names.Name.{Name}
use Rattle.flow_model.specs.declared.transactions.Transaction.{Transaction}
use Rattle.flow_model.specs.declared.transactions.Transaction.TheVariants.{Import, Start, Turn, Claim, Release}
use Rattle.flow_model.specs.declared.transactions.Transaction.TheVariants.{Transfer, Take, Done, Force, Restart}
use Rattle.flow_model.specs.declared.transactions.Transaction.TheVariants.{Suspend, Resume, Terminate, Delete, Clock}
use Rattle.flow_core.specs.Admitting.{root_with}
use Rattle.flow_core.specs.Answers.{root_at}
use Rattle.flow_core.specs.Driving.{IfNewest}
use Rattle.flow_core.specs.declared.state.Core.{Core}

-- the key of a live root, if it has one
abbrev pub key_of : Core → ℕ → Option Name
key_of c root = option_and_then (λ r. r.key) (root_at c root)

-- the live root that has a key
abbrev pub holder : Core → Name → Option ℕ
holder c key = root_with c (Some key)

-- a key is this one
abbrev pub is_key : Name → Option Name → Bool
is_key key held = option_map_or (λ other. bytes_eq other key) held false

-- each key has this root, and each root this key
pub record HasKeys (root_of : Name → Option ℕ) (named : ℕ → Option Name) (c : Core) : Type 0 where
  pub holders : (key : Name) → holder c key ≡ root_of key
  pub keys : (root : ℕ) → key_of c root ≡ named root

-- all keys stay with their roots
abbrev pub KeepsKeys : Core → Core → Type 0
KeepsKeys c c' = HasKeys (holder c) (key_of c) c'

-- a root that starts has the key that its START names
abbrev pub StartsKey : ℕ → Option Name → Core → Core → Type 0
StartsKey root started c c' =
    HasKeys (λ key. if is_key key started then Some root else holder c key)
    (λ other. if root == other then started else key_of c other) c'

-- nobody has the key of a root that is deleted
abbrev pub FreesKey : ℕ → Core → Core → Type 0
FreesKey root c c' =
    HasKeys (λ key. if is_key key (key_of c root) then None else holder c key)
    (λ other. if root == other then None else key_of c other) c'

-- the keys after a transaction: a START gives its root its key, a DELETE frees that of its root
abbrev pub KeysAfter : Core → Transaction → Core → Type 0
KeysAfter c (Import text) c' = KeepsKeys c c'
KeysAfter c (Start root process version starter key settings) c' =
    IfNewest c.store process version (λ place. StartsKey root key c c')
KeysAfter c (Turn queue message) c' = KeepsKeys c c'
KeysAfter c (Claim item who) c' = KeepsKeys c c'
KeysAfter c (Release item who) c' = KeepsKeys c c'
KeysAfter c (Transfer item who to) c' = KeepsKeys c c'
KeysAfter c (Take item take) c' = KeepsKeys c c'
KeysAfter c (Done item by settings) c' = KeepsKeys c c'
KeysAfter c (Force item settings) c' = KeepsKeys c c'
KeysAfter c (Restart item) c' = KeepsKeys c c'
KeysAfter c (Suspend root) c' = KeepsKeys c c'
KeysAfter c (Resume root) c' = KeepsKeys c c'
KeysAfter c (Terminate root) c' = KeepsKeys c c'
KeysAfter c (Delete root) c' = FreesKey root c c'
KeysAfter c (Clock minutes) c' = KeepsKeys c c'
