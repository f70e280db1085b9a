-- What a walk has met so far, as the reader keeps it.
use Rattle.std.specs.Prelude.{◌≡◌, ℕ, ◌+◌, ◌-◌, ◌*◌, ◌/◌, ◌^◌, ◌≤◌, Bool, true, false, ◌&&◌, ◌==◌, nat_le, List, [], ◌∷◌, ◌++◌, map, length, if◌then◌else◌}
use Rattle.std.specs.List.{list_any}
use Rattle.o2_ondisk.specs.Signatures.{group_signature}
use Rattle.o2_ondisk.specs.declared.chain_rec.ChainRec.{ChainRec}
use Rattle.o2_model.specs.declared.allocator.Allocator.{Allocator}
use Rattle.o2_model.specs.declared.geo.Geo.{Geo}
use Rattle.o2_model.specs.Words.{among, Apart}
use Rattle.o2_model.specs.Volume.{Volume, block_size, blocks}
use Rattle.o2_model.specs.Allocators.{are_clusters}
use Rattle.o2_model.specs.Groups.{GroupWalk, group_desc, holds_cluster, is_good_group, walk_chain, walk_chains}
use Rattle.o2_view.specs.Plans.{is_in_runs}
use Rattle.o2_view.specs.declared.run.Run.{Run}
use Rattle.o2_chain.specs.Walks.{walked_before, group_in}
use Rattle.o2_chain.specs.declared.group.Group.{Group}
use Rattle.o2_chain.specs.declared.walked.Walked.{Walked}

-- the descriptor is one of this volume, of this block and of the allocator, and its bits fit its bitmap, which fits the block
abbrev pub is_descriptor : Volume → Allocator → ℕ → Bool
is_descriptor v a b =
    (group_desc v b).signature.0 == group_signature
    && (group_desc v b).blkno == b
    && (group_desc v b).generation == v.geo.generation
    && (group_desc v b).parent_dinode == a.block
    && nat_le (0x40 + (group_desc v b).size) (block_size v)
    && nat_le (group_desc v b).bits (8 * (group_desc v b).size)

-- the blocks that were looked at
abbrev pub looked_at : Walked → List ℕ
looked_at walked = map (λ run. run.0) walked.seen

-- They, and 0, are all different, and below n.
pub record HasLooked (n : ℕ) (walked : Walked) : Type 0 where
  pub single : walked.seen ≡ map (λ b. (b, 1)) (looked_at walked)
  pub apart : Apart n (looked_at walked)

-- the clusters of the group as a run, where the allocator's bits are blocks
abbrev pub runs_of_group : Geo → Allocator → Group → List (ℕ × ℕ)
runs_of_group geo a g = if are_clusters a.bit_use then [] else (g.block / 2 ^ (geo.cluster_bits - geo.block_bits), g.bits / 2 ^ (geo.cluster_bits - geo.block_bits)) ∷ []

-- the reader keeps this walk
pub record Keeps (v : Volume) (a : Allocator) (before : List Run) (walked : Walked) (w : GroupWalk) : Type 0 where
  pub groups : w.groups ≡ walked_before v before ++ map (group_in a) walked.groups.items
  pub faults : walked.faults.items ≡ w.faults
  pub clusters : (c : ℕ) → is_in_runs walked.clusters c ≡ list_any (holds_cluster v c) w.groups
  pub starts : (b : ℕ) → is_in_runs walked.starts b ≡ among (map (λ g. g.block) (walked_before v before)) b
  -- a group that was met was looked at
  pub met : (b : ℕ) → among (map (λ g. g.block) walked.groups.items) b ≡ true → is_in_runs walked.seen b ≡ true
  -- no block that was looked at is a good group any more
  pub seen : (b : ℕ) → is_in_runs walked.seen b ≡ true → is_good_group v a w.groups b ≡ false

-- The reader keeps a walk from which the chain, from this link on, gives this whole. As many groups may come as there are
-- blocks that were not looked at.
pub record Left (v : Volume) (a : Allocator) (before : List Run) (chain holder link : ℕ) (walked : Walked) (whole : GroupWalk) : Type 0 where
  pub now : GroupWalk
  pub most : ℕ
  pub enough : blocks v ≤ most + length (looked_at walked)
  pub keeps : Keeps v a before walked now
  pub gives : walk_chain v a chain most holder link now ≡ whole

-- the blocks at which these chains begin
abbrev pub heads_of : List ChainRec → List ℕ
heads_of records = map (λ r. r.blkno) records

-- The reader keeps a walk from which the chains left give this whole.
pub record LeftChains (v : Volume) (a : Allocator) (before : List Run) (chain : ℕ) (left : List ChainRec) (walked : Walked) (whole : GroupWalk) : Type 0 where
  pub now : GroupWalk
  pub keeps : Keeps v a before walked now
  pub gives : walk_chains v a chain (heads_of left) now ≡ whole
