-- CHAIN_LINK, number 9, at the allocator or the group that has the link: the link is 0, or the block of a good group that was not
-- walked before.
use Rattle.std.specs.Prelude.{ℕ, List}
use Rattle.o2_model.specs.Volume.{Volume}
use Rattle.o2_model.specs.Groups.{group_walk}

abbrev pub chain_link_faults : Volume → List ℕ
chain_link_faults v = (group_walk v).faults
