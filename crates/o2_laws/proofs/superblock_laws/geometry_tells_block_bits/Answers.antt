use Rattle.o2_laws.proofs.Geometries.{geometry_bits, geometry_opened, geometry_numbers}
use Rattle.o2_laws.proofs.superblock_laws.geometry_tells_block_bits.Goals as goal

pub returns-clause-bits : goal.returns-clause-bits
returns-clause-bits c = geometry_bits

pub returns-clause-volume : goal.returns-clause-volume
returns-clause-volume c = geometry_opened

pub returns-clause-numbers : goal.returns-clause-numbers
returns-clause-numbers c = geometry_numbers
