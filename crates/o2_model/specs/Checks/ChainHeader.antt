-- CHAIN_HEADER, number 5, at the allocator: in the global bitmap cl_bpc is 1 and cl_cpg the clusters of a group, else cl_bpc is
-- the blocks of a cluster and a group has at least two bits; cl_count is at least 1 and fits the dinode, and cl_next_free_rec is
-- at most cl_count.
use Rattle.std.specs.Prelude.{ℕ, List}
use Rattle.o2_model.specs.Faults.{fails_at}
use Rattle.o2_model.specs.Volume.{Volume}
use Rattle.o2_model.specs.Allocators.{allocators, is_sound_chain_header}

abbrev pub chain_header_faults : Volume → List ℕ
chain_header_faults v = fails_at (λ a. a.block) (is_sound_chain_header v) (allocators v)
