use Rattle.o2_laws.proofs.LogReadings.{read_spells, spells_read}
use Rattle.o2_laws.proofs.log_laws.log_is_what_its_blocks_spell.Goals as goal

pub returns-clause-read : goal.returns-clause-read
returns-clause-read c = read_spells

pub returns-clause-spelled : goal.returns-clause-spelled
returns-clause-spelled c = spells_read
