use Rattle.text_rows.proofs.RoundTripLemmas.{texts_tell}
use Rattle.text_rows.proofs.reading.texts_tell_rows.Goals as goal

pub returns : goal.returns
returns c = texts_tell
