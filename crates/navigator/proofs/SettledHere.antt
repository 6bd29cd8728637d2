-- What an event gives that changes one activity of a scope: it is settled, or one more of its attempts begins.
use Rattle.std.proofs.Common.{◌≡◌, ℕ, zero, suc, ◌-◌, ◌<◌, ◌==◌, Bool, true, false, ◌&&◌, if◌then◌else◌, List, [], ◌∷◌, length, Option, Some, None, refl, ap, sym, ◌∙◌, subst, arith, inl, inr, append-nil}
use Rattle.std.specs.Prelude.{not, slice_get, slice_set}
use Rattle.std.specs.List.{flat_map}
use Rattle.std.proofs.Math.Path.{fun_ext}
use Rattle.std.proofs.lemmas.Bool.Decides.{eqb_tells}
use Rattle.std.proofs.lemmas.Option.{slice_get_within}
use Rattle.blocks_subprocs.specs.Ends.{ends_of}
use Rattle.dead_paths.specs.Signals.{signals}
use Rattle.flow_model.specs.Fates.{Ends, is_settled}
use Rattle.flow_model.specs.ScopeContainers.{up_to}
use Rattle.flow_model.specs.Scopes.{Known, at, tree_ends}
use Rattle.flow_model.specs.declared.graphs.Activity.{Activity}
use Rattle.flow_model.specs.declared.graphs.Container.{Container}
use Rattle.flow_model.specs.declared.graphs.Control.{Control}
use Rattle.flow_model.specs.declared.graphs.Graph.{Graph, out-Graph}
use Rattle.flow_model.specs.declared.graphs.Template.{Template}
use Rattle.flow_model.specs.declared.instances.Message.TheVariants.{End}
use Rattle.flow_model.specs.declared.instances.Part.{Part}
use Rattle.flow_model.specs.declared.instances.Path.{Path}
use Rattle.flow_model.specs.declared.instances.SourceEnd.{SourceEnd}
use Rattle.flow_model.specs.declared.instances.SourceEnd.TheVariants.{Unsettled}
use Rattle.navigator.proofs.DueParts.{own_notes, end_note, is_over, scopes_in}
use Rattle.navigator.proofs.FreshHere.{IsGivenAt, begin_notes, Grown, over_is, not_over, given_here}
use Rattle.navigator.proofs.Leading.{set_other}
use Rattle.navigator.proofs.Merges.{Merges, merges_same, merges_all, flat_only}
use Rattle.navigator.proofs.OneActivity.{ends_with, set_ends}
use Rattle.navigator.proofs.Places.{set_read}
use Rattle.navigator.proofs.SameActivities.{named_of}
use Rattle.navigator.proofs.ShownAgain.{IsSameInside}
use Rattle.navigator.proofs.ToldNotes.{AreTold, kind_only, sent_notes, sent_kinds, notes_merge, told_signals}
use Rattle.view_laws.specs.NextEvents.{Aimed}
use Rattle.navigator.specs.Serving.{Served}
use Rattle.navigator.specs.Steps.{Told, end_after, is_root}
use Rattle.navigator.specs.Views.{Shows}
use Rattle.navigator.specs.declared.scopes.ActivityState.{ActivityState}
use Rattle.navigator.specs.declared.scopes.ScopeState.{ScopeState, out-ScopeState}
use Rattle.fate_laws.specs.WellFormed.{Well}
use Rattle.view_laws.specs.Messages.{EndNote}

-- ---- lists of states and ends

-- where one state is put in, the others are as before
pub grown_one : (ts : List Template) (g : Graph) (states states' : List ActivityState) (a : ℕ) (activity : Activity) (old new : ActivityState) (o : Option (List Part))
    → slice_get (out-Graph g).activities a ≡ Some activity → slice_get states a ≡ Some old → states' ≡ slice_set states a new → Grown ts activity old new o
    → (x : ℕ) (y : Activity) (was now : ActivityState) → slice_get (out-Graph g).activities x ≡ Some y → slice_get states x ≡ Some was → slice_get states' x ≡ Some now
    → Grown ts y was now (if x == a then o else None)
grown_one ts g states states' a activity old new o there stands set grown x y was now is before after = elim (eqb_tells x a) [
  | inl same ↦
      let one : Some activity ≡ Some y = sym there ∙ ap (slice_get (out-Graph g).activities) (sym same.1) ∙ is in
      let two : Some old ≡ Some was = sym stands ∙ ap (slice_get states) (sym same.1) ∙ before in
      let three : Some new ≡ Some now = sym (set_read states a old new stands) ∙ ap (λ l. slice_get l a) (sym set) ∙ ap (slice_get states') (sym same.1) ∙ after in
      let that : activity ≡ y = cc in
      let first : old ≡ was = cc in
      let last : new ≡ now = cc in
      rw same.0 (subst (λ z. Grown ts z was now o) that (subst (λ z. Grown ts activity z now o) first (subst (λ z. Grown ts activity old z o) last grown)))
  | inr apart ↦
      let both : Some now ≡ Some was = sym after ∙ ap (λ l. slice_get l x) set ∙ set_other states a x new apart.1 ∙ before in
      let that : now ≡ was = cc in
      rw apart.0 (inl (ap scopes_in that, refl))
]

-- connectors lead to activities, at any depth
pub targets_of : (ts : List Template) (depth : ℕ) (g : Graph) → Aimed ts depth g → (i : ℕ) (c : Control) → slice_get (out-Graph g).controls i ≡ Some c → c.to < length (out-Graph g).activities
targets_of ts zero g aimed = aimed.each
targets_of ts (suc depth) g aimed = aimed.each

-- ---- one activity

module _ (ts : List Template) (depth : ℕ) (k k' : Known) (g : Graph) (input : Container) (s s' : ScopeState) (path : Path) (tells : Told)
    (well : Well ts depth g) (served : Served ts depth g) (aimed : Aimed ts depth g) (shows : Shows ts depth k g input s) (shows' : Shows ts depth k' g input s')
    (inside : (r : Part) → IsSameInside (at r k) (at r k')) (a : ℕ) (activity : Activity) (there : slice_get (out-Graph g).activities a ≡ Some activity) (o : Option (List Part))
    (begun : (out-ScopeState s').begun ≡ (out-ScopeState s).begun)
    (grown : (x : ℕ) (y : Activity) (was now : ActivityState) → slice_get (out-Graph g).activities x ≡ Some y → slice_get (out-ScopeState s).states.items x ≡ Some was
    → slice_get (out-ScopeState s').states.items x ≡ Some now → Grown ts y was now (if x == a then o else None))
    (begins : AreTold g path tells.begins (begin_notes o)) where
  abbrev n : ℕ
  n = length (out-Graph g).activities

  abbrev e : Ends
  e = tree_ends ts depth k g input

  less : a < n
  less = slice_get_within (out-Graph g).activities a activity there

  abbrev opens : ℕ → Option (List Part)
  opens x = if x == a then o else None

  begins_here : AreTold g path tells.begins (flat_map (λ x. begin_notes (opens x)) (up_to n 0))
  begins_here =
      let one : flat_map (λ x. begin_notes (opens x)) (up_to n 0) ≡ begin_notes (opens a)
      = flat_only (λ x. begin_notes (opens x)) a n 0 (λ x apart. elim (eqb_tells x a) [ inl is ↦ absurd (apart is.1) | inr other ↦ rw other.0 refl ]) (omega arith) (let l = less in omega arith) in
      let this : begin_notes (opens a) ≡ begin_notes o = elim (eqb_tells a a) [ inl is ↦ rw is.0 refl | inr other ↦ absurd (other.1 refl) ] in
      subst (AreTold g path tells.begins) (sym (one ∙ this)) begins

  -- it isn't settled: one more of its attempts begins, or none
  pub opens_given : (out-ScopeState s').ends.items ≡ (out-ScopeState s).ends.items → (out-ScopeState s').unsettled ≡ (out-ScopeState s).unsettled
      → tells.signals ≡ [] → tells.ends ≡ [] → IsGivenAt ts depth k k' g input path tells
  opens_given ends unsettled silent none =
      let same : tree_ends ts depth k' g input ≡ e = fun_ext (λ x. sym (shows'.ends x) ∙ ap (λ es. ends_of es x) ends ∙ shows.ends x) in
      let over : is_over ts depth k' g input ≡ is_over ts depth k g input
      = over_is ts depth k' g input s' shows' ∙ ap (λ b. b && ((out-ScopeState s').unsettled == 0)) begun ∙ ap (λ m. (out-ScopeState s).begun && (m == 0)) unsettled
      ∙ sym (over_is ts depth k g input s shows) in
      given_here ts depth k k' g input s s' path tells served shows shows' inside []
      (subst (λ (f : Ends). Merges (own_notes g e) [] (own_notes g f)) (sym same) (merges_same (own_notes g e)))
      opens grown (λ m. nothing (0 == m)) (rw silent refl) begins_here false
      (subst (λ b. Merges (end_note (is_over ts depth k g input)) [] (end_note b)) (sym over) (merges_same (end_note (is_over ts depth k g input))))
      (rw none (none_ended (is_root path.parts)))
    where
      nothing : (b : Bool) → kind_only 0 [] ≡ (if b then [] else [])
      nothing true = refl
      nothing false = refl

      none_ended : (b : Bool) → (if b then [] else end_note false) ≡ []
      none_ended true = refl
      none_ended false = refl

  -- it is settled: its SIGNALs go out, and the END of the scope where it was the last
  pub settles_given : (now : SourceEnd) → e a ≡ Unsettled → (out-ScopeState s').begun ≡ true
      → (out-ScopeState s').ends.items ≡ slice_set (out-ScopeState s).ends.items a now → (out-ScopeState s').unsettled ≡ (out-ScopeState s).unsettled - 1
      → tells.signals ≡ signals g path a now → tells.ends ≡ end_after path ((out-ScopeState s).unsettled - 1) → IsGivenAt ts depth k k' g input path tells
  settles_given now was started ends unsettled sends ended =
      let controls = (out-Graph g).controls in
      let inside_ends : a < length (out-ScopeState s).ends.items = let long = shows.ended in let l = less in omega arith in
      let same : tree_ends ts depth k' g input ≡ ends_with a now e
      = fun_ext (λ x. sym (shows'.ends x) ∙ ap (λ es. ends_of es x) ends ∙ set_ends (out-ScopeState s).ends.items a now x inside_ends ∙ ap (λ (f : Ends). ends_with a now f x) (fun_ext shows.ends)) in
      let before : is_over ts depth k g input ≡ false = not_over ts depth k g input a less (ap is_settled was) in
      let after : is_over ts depth k' g input ≡ ((out-ScopeState s).unsettled - 1 == 0)
      = over_is ts depth k' g input s' shows' ∙ ap (λ b. b && ((out-ScopeState s').unsettled == 0)) started ∙ ap (λ m. m == 0) unsettled in
      given_here ts depth k k' g input s s' path tells served shows shows' inside (sent_notes controls controls a now)
      (subst (λ (f : Ends). Merges (own_notes g e) (sent_notes controls controls a now) (own_notes g f)) (sym same) (notes_merge controls controls e a now was))
      opens grown (sent_kinds controls controls a now)
      (subst (λ ms. AreTold g path ms (sent_notes controls controls a now)) (sym sends)
      (told_signals g path (named_of ts depth g well) a activity there now (targets_of ts depth g aimed)))
      begins_here ((out-ScopeState s).unsettled - 1 == 0)
      (subst (λ b. Merges (end_note b) (end_note ((out-ScopeState s).unsettled - 1 == 0)) (end_note (is_over ts depth k' g input))) (sym before)
      (subst (λ b. Merges [] (end_note ((out-ScopeState s).unsettled - 1 == 0)) (end_note b)) (sym after) (merges_all (end_note ((out-ScopeState s).unsettled - 1 == 0)))))
      (subst (λ ms. AreTold g path ms (if is_root path.parts then [] else end_note ((out-ScopeState s).unsettled - 1 == 0))) (sym ended)
      (told_end ((out-ScopeState s).unsettled - 1 == 0) (is_root path.parts)))
    where
      told_end : (b r : Bool) → AreTold g path (if b && not r then End path ∷ [] else []) (if r then [] else end_note b)
      told_end true true = refl
      told_end true false = (EndNote [], [], refl, ([], sym (append-nil path.parts), refl, refl), refl)
      told_end false true = refl
      told_end false false = refl
