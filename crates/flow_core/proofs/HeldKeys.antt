-- Which root holds a key, after one key was given to a root or freed, and around a transaction.
use Rattle.std.proofs.Common.{◌≡◌, ℕ, List, Bool, true, false, if◌then◌else◌, ◌==◌, Option, Some, None, sym, ap, subst, ◌∙◌, ⊎_elim}
use Rattle.std.specs.Cmp.Lexicographic.{bytes_decides, nat_list_eq_equiv}
use Rattle.std.specs.Str.{bytes_eq}
use Rattle.std.specs.Global.{Vec}
use Rattle.std.specs.HashMap.{HashMap, UpdatesBy, get_by}
use Rattle.std.specs.Map.{lookup, IsKeyTest, AreApart, KeepsOthers}
use Rattle.std.proofs.lemmas.Bool.{cases_Bool}
use Rattle.number_map.specs.Entries.{value_under}
use Rattle.std.specs.Option.{option_and_then}
use Rattle.flow_core.specs.Driving.{IsNewestVersion}
use Rattle.flow_core.specs.Keys.{holder, key_of, is_key, HasKeys, KeepsKeys, StartsKey, FreesKey, KeysAfter}
use Rattle.flow_core.specs.declared.state.Core.{Core}
use Rattle.number_map.proofs.Rows.{if_yes, if_no}
use Rattle.flow_model.specs.declared.names.Name.{Name}
use Rattle.flow_model.specs.declared.transactions.Transaction.{Transaction}
use Rattle.flow_model.specs.declared.transactions.Transaction.TheVariants.{Import, Start, Turn, Claim, Release}
use Rattle.flow_model.specs.declared.transactions.Transaction.TheVariants.{Transfer, Take, Done, Force, Restart}
use Rattle.flow_model.specs.declared.transactions.Transaction.TheVariants.{Suspend, Resume, Terminate, Delete, Clock}
use Rattle.flow_model.specs.declared.graphs.Library.{Library}

apart : (bs cs ks : List ℕ) → bytes_eq bs cs ≡ false → bytes_eq bs ks ≡ true → bytes_eq cs ks ≡ false
apart bs cs ks n y = nat_list_eq_equiv.symm cs ks ∙ sym (nat_list_eq_equiv.congr bs ks cs y) ∙ n

others : {K X : Type 0} (eq : K → K → Bool) (test : K → Bool) (old new : List (K × X)) → KeepsOthers eq test old new → (other : K → Bool) → IsKeyTest eq other → AreApart test other → lookup other new ≡ lookup other old
unfolding KeepsOthers
others eq test old new h = h

-- whoever stands at a key in a map
abbrev pub at_key : {X S : Type 0} → HashMap (Vec ℕ) X S → List ℕ → Option X
at_key m key = get_by (λ k. bytes_eq key k.items) m

-- a change at one key leaves all others as they are
pub written : {X S : Type 0} (m n : HashMap (Vec ℕ) X S) (key : List ℕ) (w : Option X)
    → UpdatesBy (λ x y. bytes_eq x.items y.items) (λ k. bytes_eq key k.items) m n w
    → (held : List ℕ) → at_key n held ≡ (if bytes_eq key held then w else at_key m held)
written m n key w h held =
    ⊎_elim
    (λ y. subst (λ l. at_key n l ≡ w) ((bytes_decides key held).0 y) h.1 ∙ sym (if_yes (bytes_eq key held) w (at_key m held) y))
    (λ no. others _ _ _ _ h.3 _ (λ x y. nat_list_eq_equiv.congr held x.items y.items) (λ k. apart key held k.items no)
    ∙ sym (if_no (bytes_eq key held) w (at_key m held) no))
    (cases_Bool (bytes_eq key held))

-- ---- around a transaction

-- what a transaction makes of the keys, from any state with the keys and roots of the one before it to any with those of
-- the one after it
module _ (a b c d : Core) (keys : b.keys ≡ a.keys) (roots : b.live_roots ≡ a.live_roots) (store : b.store ≡ a.store)
    (keys' : d.keys ≡ c.keys) (roots' : d.live_roots ≡ c.live_roots) where
  held : (key : Name) → holder b key ≡ holder a key
  held key = ap (λ ks. get_by (λ k. bytes_eq key k.items) ks) keys

  held' : (key : Name) → holder d key ≡ holder c key
  held' key = ap (λ ks. get_by (λ k. bytes_eq key k.items) ks) keys'

  named : (root : ℕ) → key_of b root ≡ key_of a root
  named root = ap (λ rs. option_and_then (λ r. r.key) (value_under root rs)) roots

  named' : (root : ℕ) → key_of d root ≡ key_of c root
  named' root = ap (λ rs. option_and_then (λ r. r.key) (value_under root rs)) roots'

  has_keys : (f g : Name → Option ℕ) (h k : ℕ → Option Name) → ((key : Name) → f key ≡ g key)
      → ((root : ℕ) → h root ≡ k root) → HasKeys f h c → HasKeys g k d
  has_keys f g h k same same' so = record {
    holders = λ key. held' key ∙ so.holders key ∙ same key;
    keys = λ root. named' root ∙ so.keys root ∙ same' root;
  }

  keeps : KeepsKeys b c → KeepsKeys a d
  keeps so = has_keys (holder b) (holder a) (key_of b) (key_of a) held named so

  starts : (root : ℕ) (started : Option Name) → StartsKey root started b c → StartsKey root started a d
  starts root started so =
      has_keys (λ key. if is_key key started then Some root else holder b key)
      (λ key. if is_key key started then Some root else holder a key)
      (λ other. if root == other then started else key_of b other)
      (λ other. if root == other then started else key_of a other)
      (λ key. ap (λ (o : Option ℕ). if is_key key started then Some root else o) (held key))
      (λ other. ap (λ (o : Option Name). if root == other then started else o) (named other)) so

  frees : (root : ℕ) → FreesKey root b c → FreesKey root a d
  frees root so =
      has_keys (λ key. if is_key key (key_of b root) then None else holder b key)
      (λ key. if is_key key (key_of a root) then None else holder a key)
      (λ other. if root == other then None else key_of b other)
      (λ other. if root == other then None else key_of a other)
      (λ key. ap (λ (o : Option Name). if is_key key o then None else holder b key) (named root)
      ∙ ap (λ (o : Option ℕ). if is_key key (key_of a root) then None else o) (held key))
      (λ other. ap (λ (o : Option Name). if root == other then None else o) (named other)) so

  pub keys_around : (t : Transaction) → KeysAfter b t c → KeysAfter a t d
  keys_around (Import text) so = keeps so
  keys_around (Start root process version starter key settings) so = λ place newest.
      starts root key (so place (subst (λ (s : Library). IsNewestVersion s process version place) (sym store) newest))
  keys_around (Turn number message) so = keeps so
  keys_around (Claim item who) so = keeps so
  keys_around (Release item who) so = keeps so
  keys_around (Transfer item who to) so = keeps so
  keys_around (Take item take) so = keeps so
  keys_around (Done item who settings) so = keeps so
  keys_around (Force item settings) so = keeps so
  keys_around (Restart item) so = keeps so
  keys_around (Suspend root) so = keeps so
  keys_around (Resume root) so = keeps so
  keys_around (Terminate root) so = keeps so
  keys_around (Delete root) so = frees root so
  keys_around (Clock minutes) so = keeps so
