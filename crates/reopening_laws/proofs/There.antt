-- An item of the machine, with what its tests ask, is one of the engine.
use Rattle.std.proofs.Common.{◌≡◌, Option, Some, None, option_map, option_and_then, refl, sym, ap, ◌∙◌}
use Rattle.std.proofs.lemmas.Option.{none-some}
use Rattle.flow_core.specs.Allowing.{Subject, IsThere, mode_in, performer_for}
use Rattle.flow_core.specs.Answers.{instance_of}
use Rattle.flow_core.specs.Driving.{item_of, program_in}
use Rattle.flow_core.specs.declared.state.Core.{Core}
use Rattle.flow_model.specs.declared.graphs.Program.{Program as ProgramOf}
use Rattle.flow_model.specs.declared.instances.Path.{Path}
use Rattle.machine.specs.Verdicts as machine
use Rattle.machine_laws.specs.Viewed.{view, root_of, entry_of}
use Rattle.machine_laws.proofs.Seen.{items}
use Rattle.machine_laws.proofs.Subjects.{seen, performers}
use Rattle.navigator.specs.Items.{Entry}
use Rattle.navigator.specs.declared.instance.Instance.{Instance}

-- an item of the engine that the machine sees so
pub record ThereAs (c : Core) (path : Path) (m : machine.Subject) : Type 0 where
  pub subject : Subject
  pub there : IsThere c path subject
  pub same : seen subject ≡ m

some_same : {X : Type 0} (x y : X) → Some x ≡ Some y → x ≡ y
some_same x y is = cc

module _ (c : Core) (path : Path) (m : machine.Subject) where
  in_root : (e : Entry) → item_of c path ≡ Some e → (p : ProgramOf) → program_in e.activity.work ≡ Some p
      → (o : Option Instance) → instance_of c path.root ≡ o
      → machine.subject_by (entry_of e) (Some p) (option_map root_of o) ≡ Some m → ThereAs c path m
  in_root e there p runs None live none = absurd (none-some m none)
  in_root e there p runs (Some i) live is =
      let both : record {
        item = entry_of e;
        program = p;
        mode = machine.mode_in (root_of i);
        starter = i.starter;
        performer = machine.performer_by (entry_of e) p.by;
      } ≡ m = some_same _ m is in
      let same : performer_for e p ≡ machine.performer_by (entry_of e) p.by = sym (performers e p.by) in
      record {
        subject = record {
          item = e;
          program = p;
          mode = mode_in i;
          starter = i.starter;
          performer = performer_for e p;
        };
        there = record {
          there = there;
          program = runs;
          mode = ap (option_map mode_in) live;
          starter = ap (option_map (λ j. j.starter)) live;
          performer = refl;
        };
        same = (λ j. record {
          item = entry_of e;
          program = p;
          mode = mode_in i;
          starter = i.starter;
          performer = same j;
        }) ∙ both;
      }

  in_program : (e : Entry) → item_of c path ≡ Some e → (o : Option ProgramOf) → program_in e.activity.work ≡ o
      → machine.subject_by (entry_of e) o ((view c).roots path.root) ≡ Some m → ThereAs c path m
  in_program e there None runs none = absurd (none-some m none)
  in_program e there (Some p) runs is = in_root e there p runs (instance_of c path.root) refl is

  in_item : (o : Option Entry) → item_of c path ≡ o
      → option_and_then (λ e. machine.subject_by e (program_in e.activity.work) ((view c).roots path.root))
      (option_map entry_of o) ≡ Some m → ThereAs c path m
  in_item None there none = absurd (none-some m none)
  in_item (Some e) there is = in_program e there (program_in e.activity.work) refl is

  pub there_as : machine.subject_of (view c) path ≡ Some m → ThereAs c path m
  there_as is =
      in_item (item_of c path) refl
      (ap (option_and_then (λ e. machine.subject_by e (program_in e.activity.work) ((view c).roots path.root)))
      (sym (items c path)) ∙ is)
