-- A line has a certificate exactly where what it says is so by the completions.
use Rattle.std.proofs.Common.{◌≡◌, ◌↔◌, ℕ, List, [], ◌∷◌, ◌++◌, length, length-append, Some, refl, sym, subst, arith, get_or}
use Rattle.std.specs.Prelude.{◌≢◌}
use Rattle.std.specs.List.{Contains}
use Rattle.std.proofs.lemmas.Option.{get_or_from_slice_get}
use Rattle.flow_model.specs.declared.graphs.Graph.{Graph}
use Rattle.flow_model.specs.declared.instances.Fate.{Fate}
use Rattle.flow_model.specs.declared.instances.Fate.TheVariants as fate
use Rattle.flow_model.specs.declared.instances.FateRow.{FateRow}
use Rattle.flow_model.specs.declared.instances.Path.{Path}
use Rattle.flow_model.specs.declared.names.Name.{Name}
use Rattle.flow_model.specs.Rows.{by_facts}
use Rattle.certificates.specs.declared.lines.CertLine.{CertLine}
use Rattle.certificates.specs.declared.lines.CertLine.TheVariants.{Scope, Dead, Finished, Ended}
use Rattle.certificates.specs.Told.{Basis}
use Rattle.certificate_laws.specs.Right.{HasEnded, IsRead, IsRight, root_in, rows_in}
use Rattle.certificate_laws.specs.Standings.{Standing, scope_in}
use Rattle.certificate_laws.proofs.Lines.{all_right}
use Rattle.certificate_laws.proofs.Shown.{all_shown}
use Rattle.explanation_laws.specs.Certified.{HasCertificate, IsCertified, IsOwnLine, IsReadRoot}
use Rattle.explanation_laws.proofs.Lists.{at_end}
use Rattle.explanation_laws.proofs.Longer.{some_there}
use Rattle.explanation_laws.proofs.Rows.{rows_place}
use Rattle.explanation_laws.proofs.Scopes.{began_at, complete_certified, scope_certified, settled_certified}

module _ (b : Basis) (g : Graph) (depth most : ℕ) (r : IsReadRoot b g depth most) where
  certified_right : (line : CertLine) → HasCertificate b depth most line → IsRight b g depth most line
  certified_right line c =
      let lines : List CertLine = c.before ++ line ∷ [] in
      let long = length-append c.before (line ∷ []) in
      let last : get_or lines (length c.before) line ≡ line = get_or_from_slice_get lines (length c.before) line line (at_end c.before line) in
      let all = all_shown b g depth most lines c.justified (all_right b g depth most r.bounded r.graph r.well r.own lines c.read c.justified) in
      subst (IsRight b g depth most) last (all (length c.before) line (omega (arith, long)))

  module _ (p : Path) (read : IsRead most p) (own : p.root ≡ b.root) where
    scope_there : (scope : Standing) → scope_in b.templates (root_in b g depth most) p.parts ≡ Some scope → HasCertificate b depth most (Scope p)
    scope_there scope there =
        scope_certified b g depth most r.bounded r.graph r.well r.own r.scopes p read own
        (began_at b g depth most r.bounded r.graph r.well r.own r.scopes p read own scope there)

    shown_certified : (name : Name) (f : Fate) → Contains (rows_in b g depth most) (record { scope = p; name = name; fate = f }) → IsCertified b depth most p name f
    shown_certified name f shown =
        let row : FateRow = record { scope = p; name = name; fate = f } in
        let root : Path = record { root = b.root; parts = [] } in
        let place = rows_place b g depth most r.scopes row depth (by_facts most b.facts) g b.input root r.well refl shown in
        let began = began_at b g depth most r.bounded r.graph r.well r.own r.scopes p read own place.scope place.there in
        let certified = settled_certified b g depth most r.bounded r.graph r.well r.own r.scopes p read own began place.scope place.there place.place place.activity place.is in
        subst (λ (n : Name). IsCertified b depth most p n f) (sym place.name)
        (subst (λ (k : Fate). IsCertified b depth most p place.activity.name k) (sym place.fate) certified)

    end_certified : p.parts ≢ [] → HasEnded b.templates (root_in b g depth most) p.parts → HasCertificate b depth most (Ended p)
    end_certified inside ended =
        complete_certified b g depth most r.bounded r.graph r.well r.own r.scopes p read own
        (began_at b g depth most r.bounded r.graph r.well r.own r.scopes p read own ended.scope ended.there) ended.scope ended.there inside ended.complete

  right_certified : (line : CertLine) → IsOwnLine b depth most line → IsRight b g depth most line → HasCertificate b depth most line
  right_certified (Scope p) l h = let there = some_there (scope_in b.templates (root_in b g depth most) p.parts) h in scope_there p l.read.0 l.own there.0 there.1
  right_certified (Dead p name) l h = (shown_certified p l.read.0 l.own name fate.Dead h).dead refl
  right_certified (Finished p name n) l h = (shown_certified p l.read.0 l.own name (fate.Finished n) h).finished n refl
  right_certified (Ended p) l h = end_certified p l.read l.own (l.inside p refl) h

  pub certified_exactly : (line : CertLine) → IsOwnLine b depth most line → HasCertificate b depth most line ↔ IsRight b g depth most line
  certified_exactly line l = (certified_right line, right_certified line l)
