use Rattle.meaning_laws.proofs.Texts.{text_meant_once}
use Rattle.meaning_laws.proofs.laws.faultless_texts_mean_once.Goals as goal

pub returns : goal.returns
returns c = text_meant_once
