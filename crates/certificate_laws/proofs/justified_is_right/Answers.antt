use Rattle.certificate_laws.proofs.Lines.{all_right}
use Rattle.certificate_laws.proofs.Shown.{all_shown}
use Rattle.certificate_laws.proofs.justified_is_right.Goals as goal

pub returns : goal.returns
returns c = λ b g depth most lines bounded runs_root well own read justified.
    all_shown b g depth most lines justified (all_right b g depth most bounded runs_root well own lines read justified)
