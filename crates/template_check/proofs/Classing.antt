-- The containers of each template are of the classes that the table of the text tells.
use Rattle.std.proofs.Common.{◌≡◌, ℕ, zero, suc, ◌+◌, List, [], ◌∷◌, ◌++◌, length, Option, Some, None, sym, ap, subst, ◌∙◌, arith}
use Rattle.std.proofs.lemmas.List.{length-append}
use Rattle.flow_model.specs.declared.graphs.Leaf.{Leaf}
use Rattle.flow_model.specs.declared.graphs.Template.{Template}
use Rattle.flow_model.specs.declared.trees.ProcessTree.{ProcessTree}
use Rattle.leaf_rules.specs.TableClasses.{table_classes}
use Rattle.leaf_rules.specs.Leaves.{table_leaves}
use Rattle.leaf_rules.specs.declared.leaf_classes.LeafClass.{LeafClass}
use Rattle.leaf_rules.specs.declared.members.LeafTable.{LeafTable}
use Rattle.process_rules.specs.Containers.{IsClassKnown, HasClasses}
use Rattle.process_rules.specs.declared.catalog.ContainerClasses.{ContainerClasses}
use Rattle.text_graphs.specs.GraphTexts.{process_text}
use Rattle.template_check.specs.Classed.{IsClassNamed, HaveClasses}
use Rattle.template_check.specs.Meant.{IsMeant, reading_of}
use Rattle.template_check.specs.declared.building.Builder.{Builder}

-- the class of the structure of a name has the leaves that the table has by that name
class_known : (table : LeafTable) (class : Option ℕ) (name : List ℕ) (leaves : List Leaf) → IsClassNamed table class name → table_leaves table name ≡ Some leaves
    → IsClassKnown (table_classes table) class leaves
class_known table None name leaves named is = tt
class_known table (Some number) name leaves named is = named.0 ∙ is

-- the containers of a template that a process means have the leaves of the structures that the process names
pub has_classes : (builder : Builder) (number : ℕ) (p : ProcessTree) (t : Template) (found : ContainerClasses) → IsMeant (reading_of builder) (process_text number p) t.graph
    → IsClassNamed builder.table found.input p.input.name → IsClassNamed builder.table found.output p.output.name → HasClasses (table_classes builder.table) t found
has_classes builder number p t found meant input output = record {
  input = class_known builder.table found.input p.input.name _ input (meant (suc zero)).input;
  output = class_known builder.table found.output p.output.name _ output (meant (suc zero)).output;
}

-- as many containers as templates
pub one_longer : (ts : List Template) (cs : List ContainerClasses) (t : Template) (c : ContainerClasses) → length cs ≡ length ts → length (cs ++ c ∷ []) ≡ length (ts ++ t ∷ [])
one_longer ts cs t c even = length-append cs (c ∷ []) ∙ ap (λ (n : ℕ). n + 1) even ∙ sym (length-append ts (t ∷ []))

module _ (classes : List LeafClass) where
  classes_push : (ts : List Template) (cs : List ContainerClasses) (t : Template) (c : ContainerClasses) → length cs ≡ length ts → HaveClasses classes ts cs → HasClasses classes t c
      → HaveClasses classes (ts ++ t ∷ []) (cs ++ c ∷ [])
  classes_push [] [] t c even all here zero u found get got =
      let template : t ≡ u = cc in
      let containers : c ≡ found = cc in
      subst (λ (v : Template). HasClasses classes v found) template (subst (λ (d : ContainerClasses). HasClasses classes t d) containers here)
  classes_push [] [] t c even all here (suc k) u found get got = cc
  classes_push [] (d ∷ cs) t c even all here k u found get got = absurd (omega (arith, even))
  classes_push (v ∷ ts) [] t c even all here k u found get got = absurd (omega (arith, even))
  classes_push (v ∷ ts) (d ∷ cs) t c even all here zero u found get got = all zero u found get got
  classes_push (v ∷ ts) (d ∷ cs) t c even all here (suc k) u found get got =
      classes_push ts cs t c (omega (arith, even)) (λ n w e there is. all (suc n) w e there is) here k u found get got

  -- one more template, with its containers
  pub classes_next : (ts next : List Template) (cs after : List ContainerClasses) (t : Template) (c : ContainerClasses) → length cs ≡ length ts → next ≡ ts ++ t ∷ [] → after ≡ cs ++ c ∷ []
      → HaveClasses classes ts cs → HasClasses classes t c → HaveClasses classes next after
  classes_next ts next cs after t c even now more all here =
      subst (λ (us : List Template). HaveClasses classes us after) (sym now) (subst (λ (ds : List ContainerClasses). HaveClasses classes (ts ++ t ∷ []) ds) (sym more) (classes_push ts cs t c even all here))
