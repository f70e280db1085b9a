-- What the walk over all chains of an allocator has kept.
use Rattle.std.proofs.Common.{◌≡◌, true, List, [], refl, ◌∙◌, ap, subst}
use Rattle.o2_ondisk.specs.declared.chain_rec.ChainRec.{ChainRec}
use Rattle.o2_model.specs.declared.allocator.Allocator.{Allocator}
use Rattle.o2_model.specs.Faults.{fails_unless}
use Rattle.o2_model.specs.Volume.{Volume}
use Rattle.o2_model.specs.Allocators.{chains, chain_heads, is_sound_chain_header}
use Rattle.o2_model.specs.Groups.{walk_chains}
use Rattle.o2_view.specs.declared.run.Run.{Run}
use Rattle.o2_chain.specs.Readings.{Keeps, heads_of}
use Rattle.o2_chain.specs.Walks.{allocator_walk, walked_before}
use Rattle.o2_chain.specs.declared.walked.Walked.{Walked}

-- it is the walk of the definition
pub keeps_all : (v : Volume) (a : Allocator) (before : List Run) (given records : List ChainRec) (walked : Walked) → given ≡ records → records ≡ chains v a
    → Keeps v a before walked (walk_chains v a 0 (heads_of given) (record { groups = walked_before v before; faults = [] })) → Keeps v a before walked (allocator_walk v a before)
unfolding allocator_walk chain_heads
keeps_all v a before given records walked same are h =
    subst (λ rs. Keeps v a before walked (walk_chains v a 0 (heads_of rs) (record { groups = walked_before v before; faults = [] }))) (same ∙ are) h

-- the same, from the heads of the chains
pub keeps_from : (v : Volume) (a : Allocator) (before : List Run) (given : List ChainRec) (walked : Walked) → heads_of given ≡ chain_heads v a
    → Keeps v a before walked (walk_chains v a 0 (heads_of given) (record { groups = walked_before v before; faults = [] })) → Keeps v a before walked (allocator_walk v a before)
unfolding allocator_walk
keeps_from v a before given walked heads h =
    subst (λ hs. Keeps v a before walked (walk_chains v a 0 hs (record { groups = walked_before v before; faults = [] }))) heads h

-- the heads of the chains in a row
pub heads_in : (v : Volume) (a : Allocator) (given records : List ChainRec) → given ≡ records → records ≡ chains v a → heads_of given ≡ chain_heads v a
unfolding chain_heads
heads_in v a given records same are = ap heads_of (same ∙ are)

-- a sound header is no fault
pub sound_header : (v : Volume) (a : Allocator) → is_sound_chain_header v a ≡ true → fails_unless a.block (is_sound_chain_header v a) ≡ []
sound_header v a sound = rw sound refl
