use Rattle.drive_kit.proofs.BackLemmas.{texts_are_read, texts_differ}
use Rattle.drive_kit.proofs.laws.texts_tell_histories.Goals as goal

pub returns-clause-read_back : goal.returns-clause-read_back
returns-clause-read_back c = texts_are_read

pub returns-clause-differ : goal.returns-clause-differ
returns-clause-differ c = texts_differ
