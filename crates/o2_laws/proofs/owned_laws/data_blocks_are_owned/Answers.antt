use Rattle.o2_laws.proofs.Held.DataHeld.{data_held, content_held, directory_held}
use Rattle.o2_laws.proofs.Held.HeldBlocks.{held_owned}
use Rattle.o2_laws.proofs.owned_laws.data_blocks_are_owned.Goals as goal

pub returns-clause-data : goal.returns-clause-data
returns-clause-data c = λ v i b is apart h. held_owned v b (data_held v i b is apart h)

pub returns-clause-contents : goal.returns-clause-contents
returns-clause-contents c = λ v i b is apart h. held_owned v b (content_held v i b is apart h)

pub returns-clause-directories : goal.returns-clause-directories
returns-clause-directories c = λ v d b is apart h. held_owned v b (directory_held v d b is apart h)
