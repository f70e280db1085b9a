-- The chain list of an allocator, by its bytes.
use Rattle.std.proofs.Common.{◌≡◌, true, List, ℕ, drop, refl}
use Rattle.o2_ondisk.specs.ChainListHeaders.{chain_list_header_of}
use Rattle.o2_ondisk.specs.ChainRecs.{chain_rec_of}
use Rattle.o2_ondisk.specs.Dinodes.{last_part_place, list_records_place}
use Rattle.o2_ondisk.specs.declared.chain_list_header.ChainListHeader.{ChainListHeader}
use Rattle.o2_model.specs.declared.allocator.Allocator.{Allocator}
use Rattle.o2_model.specs.Words.{table}
use Rattle.o2_model.specs.Volume.{Volume}
use Rattle.o2_model.specs.Allocators.{chains, chain_list_header, is_sound_chain_header}

-- the head of the list in the dinode's bytes
pub head_is : (v : Volume) (b : ℕ) (bytes : List ℕ) (h : ChainListHeader) → h ≡ chain_list_header_of (drop last_part_place bytes) → bytes ≡ v.at b → h ≡ chain_list_header v b
head_is v b bytes h is same = rw same at is

-- the records of a sound list
pub chains_are : (v : Volume) (a : Allocator) (bytes : List ℕ) (h : ChainListHeader) → bytes ≡ v.at a.block → h ≡ chain_list_header v a.block → is_sound_chain_header v a ≡ true → table chain_rec_of 16 list_records_place h.next_free_rec bytes ≡ chains v a
unfolding chains
chains_are v a bytes h same is sound = rw (same, is, sound) refl
