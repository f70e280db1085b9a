use Rattle.o2_chain.proofs.OneAllocator.{groups_within, links_within}
use Rattle.o2_chain.proofs.walk_law.walks_are_of_the_volume.Goals as goal

pub returns : goal.returns
returns c = record { groups = groups_within; links = links_within }
