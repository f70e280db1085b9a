-- Two volumes whose numbers of clusters and slots may differ: where neither reading has a fault, blocks that agree on its anchors give
-- the same entries of a directory, and the same log of a journal.
use Rattle.std.proofs.Common.{◌≡◌, ℕ, ◌*◌, [], ◌∷◌, ◌++◌, refl, sym, ◌∙◌, ap}
use Rattle.std.specs.Prelude.{flat_map, slice_get}
use Rattle.std.specs.List.{range_with_len}
use Rattle.std.specs.Option.{option_map_or}
use Rattle.o2_model.specs.Words.{among}
use Rattle.o2_model.specs.Orders.{from_to}
use Rattle.o2_model.specs.Volume.{Volume, over, per_cluster}
use Rattle.o2_laws.specs.Frames.{SameOn}
use Rattle.o2_model.specs.Inodes.{extents, leaf_records, extent_blocks_of}
use Rattle.o2_model.specs.Directories.{dir_blocks, entries_of_block, directory_entries}
use Rattle.o2_model.specs.LeafRecords.{blocks_under}
use Rattle.o2_model.specs.Journals.{journal_blocks, journal_block, journal_super}
use Rattle.o2_model.specs.Logs.{log_blocks, log_in}
use Rattle.o2_model.specs.Anchors.{directory_anchors, journal_anchors}
use Rattle.o2_laws.proofs.WellRead.{extents_well, extent_blocks_are}
use Rattle.o2_laws.proofs.Agreeing.{map_agree, option_agree}
use Rattle.o2_replay_laws.proofs.Stable.SameDirectory.{looked_at_is_anchor, directory_extents_same, directory_blocks_same}
use Rattle.o2_replay_laws.proofs.Stable.SameJournal.{among_got}
use Rattle.o2_replay_laws.proofs.Stable.Alike.{SameSizes, extents_alike}
use Rattle.o2_laws.proofs.Members.{among_left, among_right}

alike_per_cluster : (v u : Volume) → SameSizes v u → per_cluster u ≡ per_cluster v
alike_per_cluster v u sizes = rw (sizes.block_bits, sizes.cluster_bits) refl

-- ---- a directory
-- with the same extents, the numbers of clusters and slots do not count
dir_blocks_by_list : (v u : Volume) → SameSizes v u → (d : ℕ) → extents u d ≡ extents (over v u.at) d → dir_blocks u d ≡ dir_blocks (over v u.at) d
unfolding dir_blocks
dir_blocks_by_list v u sizes d list = rw (leaf_records, list, sizes.block_bits, sizes.cluster_bits) refl

pub entries_alike : (v u : Volume) → SameSizes v u → (d : ℕ) → SameOn (directory_anchors v d) v u.at → (extents v d).faults ≡ [] → (extents u d).faults ≡ []
    → directory_entries u d ≡ directory_entries v d
unfolding directory_entries
entries_alike v u sizes d same none here =
    let list : extents u d ≡ extents v d = extents_alike v u sizes d (record { same = λ b h. same.same b (looked_at_is_anchor v d b none h) }) none here in
    ap (flat_map entries_of_block) (dir_blocks_by_list v u sizes d (list ∙ sym (directory_extents_same v u.at d same none)) ∙ directory_blocks_same v u.at d same none)

-- ---- a journal
module _ (v u : Volume) (sizes : SameSizes v u) (j : ℕ) (same : SameOn (journal_anchors v j) v u.at) (none : (extents v j).faults ≡ []) (here : (extents u j).faults ≡ []) where
  list_alike : extents u j ≡ extents v j
  list_alike =
      let are : (extents v j).seen ≡ extent_blocks_of v j = (extents_well v j).seen none ∙ sym (extent_blocks_are v j) in
      extents_alike v u sizes j (record { same = λ b h. same.same b (among_left (j ∷ extent_blocks_of v j) (journal_blocks v j) b (ap (λ ns. among (j ∷ ns) b) (sym are) ∙ h)) }) none here

  blocks_alike : journal_blocks u j ≡ journal_blocks v j
  unfolding journal_blocks
  blocks_alike =
      ap (λ t. flat_map (blocks_under u) t.leaves) list_alike
      ∙ ap (λ n. flat_map (λ leaf. range_with_len leaf.block (leaf.clusters * n)) (leaf_records v j)) (alike_per_cluster v u sizes)

  block_alike : (k : ℕ) → journal_block u j k ≡ journal_block v j k
  block_alike k =
      ap (λ bs. option_map_or u.at (slice_get bs k) []) blocks_alike
      ∙ option_agree u.at v.at (slice_get (journal_blocks v j) k) [] (λ b is. same.same b (among_right (j ∷ extent_blocks_of v j) (journal_blocks v j) b (among_got (journal_blocks v j) k b is)))

  log_blocks_alike : log_blocks u j ≡ log_blocks v j
  unfolding log_blocks
  log_blocks_alike =
      let super = journal_super v j in
      let places = from_to super.start super.maxlen ++ from_to super.first super.start in
      rw (block_alike 0, map_agree (journal_block u j) (journal_block v j) places (λ k is. block_alike k)) refl

  pub log_alike : log_in u j ≡ log_in v j
  unfolding log_in
  log_alike = rw (log_blocks_alike, block_alike 0) refl
