use Rattle.o2_model.proofs.Entries.{in-fill, fill-in}
use Rattle.o2_laws.proofs.entry_laws.entries_fill_their_bytes.Goals as goal

pub returns-clause-fill : goal.returns-clause-fill
returns-clause-fill c = in-fill

pub returns-clause-found : goal.returns-clause-found
returns-clause-found c bytes es = fill-in es bytes
