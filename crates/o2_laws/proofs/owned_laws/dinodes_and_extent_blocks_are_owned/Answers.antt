use Rattle.o2_laws.proofs.Held.BitsHeld.{inode_bit_held, dinode_held, metadata_held}
use Rattle.o2_laws.proofs.Held.HeldBlocks.{held_owned}
use Rattle.o2_laws.proofs.owned_laws.dinodes_and_extent_blocks_are_owned.Goals as goal

pub returns-clause-bit : goal.returns-clause-bit
returns-clause-bit c = λ v b h. held_owned v b (inode_bit_held v b h)

pub returns-clause-dinode : goal.returns-clause-dinode
returns-clause-dinode c = λ v b h. held_owned v b (dinode_held v b h)

pub returns-clause-metadata : goal.returns-clause-metadata
returns-clause-metadata c = λ v b none h. held_owned v b (metadata_held v b none h)
