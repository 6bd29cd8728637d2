use Rattle.meaning_laws.proofs.Texts.{text_meant}
use Rattle.meaning_laws.proofs.laws.faultless_texts_mean.Goals as goal

pub returns : goal.returns
returns c = text_meant
