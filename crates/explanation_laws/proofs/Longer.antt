-- Justified lines that go on: what they tell of the scopes grows, and is right.
use Rattle.std.proofs.Common.{◌≡◌, ℕ, ◌<◌, ◌≤◌, ◌==◌, true, false, List, [], ◌∷◌, ◌++◌, length, Option, Some, None, refl, sym, ap, subst, ◌∙◌, arith}
use Rattle.std.specs.Prelude.{option_map, option_and_then, is_some, ◌^◌}
use Rattle.std.specs.List.{All, list_all}
use Rattle.std.specs.Option.{option_or}
use Rattle.std.proofs.lemmas.Bool.{cond-false, cond-true, false≢true}
use Rattle.std.proofs.lemmas.List.{take_all}
use Rattle.std.proofs.lemmas.List.Elements.{All-nil, All-cons, All-append}
use Rattle.flow_model.specs.declared.graphs.Container.{Container}
use Rattle.flow_model.specs.declared.graphs.Graph.{Graph, out-Graph}
use Rattle.flow_model.specs.declared.graphs.MapEnd.TheVariants.{Border}
use Rattle.flow_model.specs.declared.instances.Path.{Path}
use Rattle.flow_model.specs.Containers.{fresh, with_return_code}
use Rattle.flow_model.specs.Fates.{is_settled}
use Rattle.flow_model.specs.ScopeContainers.{fed}
use Rattle.flow_model.specs.Scopes.{Known}
use Rattle.blocks_subprocs.specs.Ends.{ends_of}
use Rattle.fate_laws.specs.WellFormed.{Well}
use Rattle.certificates.specs.declared.lines.CertLine.{CertLine}
use Rattle.certificates.specs.declared.lines.CertLine.TheVariants.{Scope, Ended}
use Rattle.certificates.specs.Justified.{AreJustified, told}
use Rattle.certificates.specs.Told.{Basis, Opened, Told, beginning, begins, changed, root_graph, same_path, scope_gives, taken, with_output}
use Rattle.certificates.proofs.Growth.{AllGrow, Grows, grows_none}
use Rattle.certificates.proofs.Sound.{IsSound, taken_after}
use Rattle.certificate_laws.specs.Right.{AreOwn, IsLineRead, IsRead, root_in}
use Rattle.certificate_laws.specs.Standings.{Standing, ends_in}
use Rattle.certificate_laws.proofs.Lines.{told_right}
use Rattle.certificate_laws.proofs.Scopes.{RightAt, RightScope, standing_of}
use Rattle.explanation_laws.proofs.Lines.{told_more, justified_more}
use Rattle.explanation_laws.proofs.Lists.{all_settled}
use Rattle.explanation_laws.proofs.Names.{same_itself, same_number}

pub some_there : {X : Type 0} (o : Option X) → is_some o ≡ true → (x : X) × (o ≡ Some x)
some_there None h = absurd (false≢true h)
some_there (Some x) h = (x, refl)

-- ---- what is told of the scopes grows

pub grows_on : (s t u : Opened) → Grows s t → Grows t u → Grows s u
grows_on s t u x y = record {
  graph = y.graph ∙ x.graph;
  input = y.input ∙ x.input;
  long = y.long ∙ x.long;
  ends = record { kept = λ a settled. let here = x.ends.kept a settled in y.ends.kept a (ap is_settled here ∙ settled) ∙ here };
  output = λ out is. y.output out (x.output out is);
}

all_grow_on : (t u v : Told) → AllGrow t u → AllGrow u v → AllGrow t v
all_grow_on t u v x y p s is =
    let first = x p s is in
    let second = y p first.scope first.told in
    record { scope = second.scope; told = second.told; grows = grows_on s first.scope second.scope first.grows second.grows }

all_grow_none : (t : Told) → AllGrow t t
all_grow_none t p s is = record { scope = s; told = is; grows = grows_none s }

-- ---- lines

-- justified lines, as they are read
pub record Good (b : Basis) (total most : ℕ) (lines : List CertLine) : Type 0 where
  pub justified : AreJustified b lines (length lines)
  pub read : All (IsLineRead total most) lines
  pub sound : IsSound b (told b lines)

-- such lines that tell all that others tell
pub record Longer (b : Basis) (total most : ℕ) (before lines : List CertLine) : Type 0 where
  pub good : Good b total most lines
  pub grow : AllGrow (told b before) (told b lines)

module _ (b : Basis) (total most : ℕ) where
  pub longer_none : (lines : List CertLine) → Good b total most lines → Longer b total most lines lines
  longer_none lines good = record { good = good; grow = all_grow_none (told b lines) }

  pub longer_on : (l m n : List CertLine) → Longer b total most l m → Longer b total most m n → Longer b total most l n
  longer_on l m n x y = record { good = y.good; grow = all_grow_on (told b l) (told b m) (told b n) x.grow y.grow }

  -- one line more
  pub one_more : (lines : List CertLine) → Good b total most lines → (line : CertLine) → IsLineRead total most line → (t : Told)
      → taken b (told b lines) line ≡ Some t → Longer b total most lines (lines ++ line ∷ [])
  one_more lines good line read t takes =
      let after = taken_after b (told b lines) good.sound line t takes in
      let same = told_more b lines line t takes in
      record {
        good = record {
          justified = justified_more b lines line t takes good.justified;
          read = All-append (IsLineRead total most) lines (line ∷ []) good.read
              (All-cons (IsLineRead total most) line [] read (All-nil (IsLineRead total most)));
          sound = subst (IsSound b) (sym same) after.sound;
        };
        grow = subst (AllGrow (told b lines)) (sym same) after.grow;
      }

-- ---- the line of a scope that begins, and that of one that has ended

-- it has begun by the line
pub record HasBegun (b : Basis) (total most : ℕ) (lines : List CertLine) (p : Path) : Type 0 where
  pub longer : Longer b total most lines (lines ++ Scope p ∷ [])
  pub scope : Opened
  pub here : told b (lines ++ Scope p ∷ []) p ≡ Some scope

-- it has told by the line what it gave
pub record HasEnded (b : Basis) (total most : ℕ) (lines : List CertLine) (p : Path) (scope : Opened) : Type 0 where
  pub longer : Longer b total most lines (lines ++ Ended p ∷ [])
  pub out : Container
  pub here : told b (lines ++ Ended p ∷ []) p ≡ Some (with_output out scope)

module _ (b : Basis) (total most : ℕ) (lines : List CertLine) (good : Good b total most lines) (p : Path) (read : IsRead most p) (own_root : p.root ≡ b.root) where
  own_line : (p.root == b.root) ≡ true
  own_line = ap (λ (n : ℕ). n == b.root) own_root ∙ same_number b.root

  module _ (deep : length p.parts ≤ total) (r : Opened) (is_begun : begins b (told b lines) p ≡ Some r) where
    abbrev begun_told : Told
    begun_told = beginning (told b lines) p r

    begin_taken : taken b (told b lines) (Scope p) ≡ Some begun_told
    begin_taken = cond-true (p.root == b.root) _ None own_line ∙ ap (option_map (beginning (told b lines) p)) is_begun

    begun_some : is_some (told b (lines ++ Scope p ∷ []) p) ≡ true
    begun_some =
        ap (λ (t : Told). is_some (t p)) (told_more b lines (Scope p) begun_told begin_taken)
        ∙ ap is_some (cond-true (same_path p p) (option_or (told b lines p) (Some r)) (told b lines p) (same_itself p))
        ∙ either (told b lines p)
      where
        either : (v : Option Opened) → is_some (option_or v (Some r)) ≡ true
        either None = refl
        either (Some s) = refl

    pub begun_line : HasBegun b total most lines p
    begun_line =
        let there = some_there (told b (lines ++ Scope p ∷ []) p) begun_some in
        record {
          longer = one_more b total most lines good (Scope p) (read, deep) begun_told begin_taken;
          scope = there.0;
          here = there.1;
        }

  module _ (inside : (length p.parts == 0) ≡ false) (scope : Opened) (here : told b lines p ≡ Some scope)
      (settled : (c : ℕ) → c < length scope.ends → is_settled (ends_of scope.ends c) ≡ true) where
    abbrev out : Container
    out = with_return_code (fed (out-Graph scope.graph).lines Border scope.input (ends_of scope.ends) (fresh (out-Graph scope.graph).output))

    gives_out : scope_gives scope ≡ Some out
    gives_out = cond-true (list_all is_settled scope.ends) (Some out) None (all_settled scope.ends settled)

    abbrev given_told : Container → Told
    given_told k = changed (told b lines) p (with_output k)

    end_taken : taken b (told b lines) (Ended p) ≡ Some (given_told out)
    end_taken =
        cond-true (p.root == b.root) _ None own_line
        ∙ cond-false (length p.parts == 0) None (option_map given_told (option_and_then scope_gives (told b lines p))) inside
        ∙ ap (λ (v : Option Opened). option_map given_told (option_and_then scope_gives v)) here
        ∙ ap (option_map given_told) gives_out

    pub ended_line : HasEnded b total most lines p scope
    ended_line = record {
      longer = one_more b total most lines good (Ended p) read (given_told out) end_taken;
      out = out;
      here =
          ap (λ (t : Told). t p) (told_more b lines (Ended p) (given_told out) end_taken)
          ∙ cond-true (same_path p p) (option_map (with_output out) (told b lines p)) (told b lines p) (same_itself p)
          ∙ ap (option_map (with_output out)) here;
    }

-- ---- what is told is right

module _ (b : Basis) (g : Graph) (total most : ℕ) (bounded : most < 2 ^ 64) (is_root : root_graph b ≡ Some g) (well : Well b.templates total g)
    (own : AreOwn most b.root b.facts) where
  pub right_scope : (lines : List CertLine) → Good b total most lines → (p : Path) (s : Opened) → IsRead most p → told b lines p ≡ Some s
      → RightScope b.templates (root_in b g total most) b.facts most total p s
  right_scope lines good p s read is =
      told_right b g total most bounded is_root well own lines good.read (length lines) (omega arith) p s read
      (ap (λ (ls : List CertLine). told b ls p) (take_all (length lines) lines (omega arith)) ∙ is)

-- ---- a scope of which all is told

-- lines that tell how all activities of a scope have ended
pub record Whole (b : Basis) (root : Standing) (total most : ℕ) (before : List CertLine) (p : Path) : Type 0 where
  pub lines : List CertLine
  pub longer : Longer b total most before lines
  pub scope : Opened
  pub here : told b lines p ≡ Some scope
  pub right : RightScope b.templates root b.facts most total p scope
  pub all : (a : ℕ) → ends_of scope.ends a ≡ ends_in b.templates (standing_of right.depth right.base scope) a

-- there are such lines behind those by which the scope has begun
abbrev pub WholeAt : Basis → Standing → ℕ → ℕ → ℕ → Type 0
WholeAt b root total most d =
    (before : List CertLine) → Good b total most before → (p : Path) → IsRead most p → p.root ≡ b.root → (s : Opened) → told b before p ≡ Some s
    → (base : Known) → RightAt b.templates root b.facts most total p s d base → Whole b root total most before p
