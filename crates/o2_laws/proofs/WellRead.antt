-- What the reading of extents gives on every volume: leaf records of whole clusters, and where nothing is wrong no other blocks than extent blocks are looked at.
use Rattle.std.proofs.Common.{◌≡◌, inl, inr, ℕ, zero, suc, ◌+◌, ◌%◌, true, false, ◌==◌, List, [], ◌∷◌, refl, sym, ap, arith}
use Rattle.std.specs.Prelude.{flat_map}
use Rattle.std.specs.List.{AllByRecursion}
use Rattle.std.proofs.lemmas.Bool.{cases_Bool}
use Rattle.std.proofs.lemmas.Bool.Decides.{nat_tests}
use Rattle.std.proofs.lemmas.List.{append-nil}
use Rattle.o2_ondisk.specs.declared.extent_rec.ExtentRec.{ExtentRec}
use Rattle.o2_model.specs.declared.leaf.Leaf.{Leaf}
use Rattle.o2_model.specs.Words.{push}
use Rattle.o2_model.specs.Volume.{Volume, per_cluster}
use Rattle.o2_model.specs.Clusters.{are_clusters_in_range}
use Rattle.o2_model.specs.Extents.{Extents, LeafRule, may_follow, leaf_clusters, leaf_of, list_in_block, with_leaf, with_seen, with_fault, end_of, is_sound_header, is_extent_block, is_sound_leaf, names_new_block, most_in_block, with_met, records_in_block, read_records, read_list, nothing_read, extent_list}
use Rattle.o2_model.specs.Extents.LeafRule.{ToClusters, ToBlocks}
use Rattle.o2_model.specs.Inodes.{extents, has_list, most_flags, most_in_dinode, extent_lists_of, leaf_records, records_of, extent_blocks_of}
use Rattle.o2_laws.proofs.Readings.{push_some}

-- the record begins with the first block of a cluster
abbrev pub BeginsCluster : Volume → Leaf → Type 0
BeginsCluster v leaf = leaf.block % per_cluster v ≡ 0

-- the same where leaf records tell clusters
abbrev pub BeginsAsAsked : Volume → LeafRule → Leaf → Type 0
BeginsAsAsked v (ToClusters flags) leaf = BeginsCluster v leaf
BeginsAsAsked v ToBlocks leaf = Unit {0}

pub record IsWellRead (v : Volume) (m : LeafRule) (t : Extents) : Type 0 where
  pub seen : t.faults ≡ [] → t.seen ≡ t.blocks
  pub leaves : AllByRecursion (BeginsAsAsked v m) t.leaves

leaf_begins : (v : Volume) (m low : ℕ) (leaf : Leaf) → is_sound_leaf v m low leaf ≡ true → BeginsCluster v leaf
unfolding is_sound_leaf are_clusters_in_range
leaf_begins v m low leaf h = grind (arith, nat_tests)

begins_as_asked : (v : Volume) (m : LeafRule) (leaves : List Leaf) (leaf : Leaf) → may_follow v m leaves leaf ≡ true → BeginsAsAsked v m leaf
begins_as_asked v (ToClusters flags) leaves leaf h = leaf_begins v flags (end_of leaves) leaf h
begins_as_asked v ToBlocks leaves leaf h = tt

push_leaf : (P : Leaf → Type 0) (leaves : List Leaf) (leaf : Leaf) → AllByRecursion P leaves → P leaf → AllByRecursion P (push leaves leaf)
push_leaf P [] leaf all is = (is, tt)
push_leaf P (x ∷ xs) leaf all is = (all.0, push_leaf P xs leaf all.1 is)

pub well_none : (v : Volume) (m : LeafRule) → IsWellRead v m nothing_read
well_none v m = record { seen = λ h. refl; leaves = tt }

well_leaf : (v : Volume) (m : LeafRule) (t : Extents) (leaf : Leaf) → BeginsAsAsked v m leaf → IsWellRead v m t → IsWellRead v m (with_leaf t leaf)
well_leaf v m t leaf begins h = record { seen = h.seen; leaves = push_leaf (BeginsAsAsked v m) t.leaves leaf h.leaves begins }

well_fault : (v : Volume) (m : LeafRule) (t : Extents) (b : ℕ) → IsWellRead v m t → IsWellRead v m (with_fault t b)
well_fault v m t b h = record { seen = λ none. absurd (push_some t.faults b none); leaves = h.leaves }

-- a block that is looked at and found wrong
well_bad : (v : Volume) (m : LeafRule) (t : Extents) (b holder : ℕ) → IsWellRead v m t → IsWellRead v m (with_fault (with_seen t b) holder)
well_bad v m t b holder h = record { seen = λ none. absurd (push_some t.faults holder none); leaves = h.leaves }

well_met : (v : Volume) (m : LeafRule) (t : Extents) (b : ℕ) → IsWellRead v m t → IsWellRead v m (with_met v b (with_seen t b))
unfolding with_met
well_met v m t b h = elim (cases_Bool (is_sound_header (most_in_block v) (list_in_block v b).header)) [
  | inl sound ↦ rw sound (record { seen = λ none. ap (λ bs. push bs b) (h.seen none); leaves = h.leaves })
  | inr bad ↦ rw bad (record { seen = λ none. absurd (push_some t.faults b none); leaves = h.leaves })
]

reading_well : (v : Volume) (m : LeafRule) (depth holder low : ℕ) (rs : List ExtentRec) (t : Extents) → IsWellRead v m t → IsWellRead v m (read_records v m depth holder low rs t)
reading_well v m depth holder low [] t h = h
reading_well v m zero holder low (r ∷ rs) t h =
    elim (cases_Bool (leaf_clusters r == 0)) [
      | inl empty ↦ rw empty (reading_well v m zero holder low rs t h)
      | inr some ↦ elim (cases_Bool (may_follow v m t.leaves (leaf_of r))) [
        | inl sound ↦ rw (some, sound) (reading_well v m zero holder low rs (with_leaf t (leaf_of r)) (well_leaf v m t (leaf_of r) (begins_as_asked v m t.leaves (leaf_of r) sound) h))
        | inr bad ↦ rw (some, bad) (well_fault v m t holder h)
      ]
    ]
reading_well v m (suc depth) holder low (r ∷ rs) t h =
    elim (cases_Bool (names_new_block v low t.seen r)) [
      | inr old ↦ rw old (well_fault v m t holder h)
      | inl new ↦ elim (cases_Bool (is_extent_block v depth r.blkno)) [
        | inr bad ↦ rw (new, bad) (well_bad v m t r.blkno holder h)
        | inl good ↦
            rw (new, good) (reading_well v m (suc depth) holder (r.cpos + 1) rs _
            (reading_well v m depth r.blkno 0 (records_in_block v r.blkno) (with_met v r.blkno (with_seen t r.blkno)) (well_met v m t r.blkno h)))
      ]
    ]

pub list_well : (v : Volume) (m : LeafRule) (holder place most : ℕ) → IsWellRead v m (read_list v m holder place most)
list_well v m holder place most =
    let list = extent_list place (v.at holder) in
    elim (cases_Bool (is_sound_header most list.header)) [
      | inr bad ↦ rw bad (well_fault v m nothing_read holder (well_none v m))
      | inl sound ↦ rw sound (reading_well v m list.header.tree_depth holder 0 list.records nothing_read (well_none v m))
    ]

pub extents_well : (v : Volume) (b : ℕ) → IsWellRead v (ToClusters (most_flags v b)) (extents v b)
unfolding extents
extents_well v b = elim (cases_Bool (has_list v b)) [
  | inr none ↦ rw none (well_none v (ToClusters (most_flags v b)))
  | inl has ↦ rw has (list_well v (ToClusters (most_flags v b)) b 0xc0 (most_in_dinode v))
]

-- ---- an inode has one list
pub no_list : (v : Volume) (b : ℕ) → has_list v b ≡ false → extents v b ≡ nothing_read
unfolding extents
no_list v b none = rw none refl

-- what its lists have is what this one has
one_list : {A : Type 0} (v : Volume) (b : ℕ) (part : Extents → List A) → part nothing_read ≡ [] → flat_map part (extent_lists_of v b) ≡ part (extents v b)
unfolding extent_lists_of
one_list v b part empty = elim (cases_Bool (has_list v b)) [
  | inl has ↦ rw has (append-nil (part (extents v b)))
  | inr none ↦ rw (none, no_list v b none) (sym empty)
]

pub records_are : (v : Volume) (b : ℕ) → records_of v b ≡ leaf_records v b
records_are v b = one_list v b (λ t. t.leaves) refl

pub extent_blocks_are : (v : Volume) (b : ℕ) → extent_blocks_of v b ≡ (extents v b).blocks
extent_blocks_are v b = one_list v b (λ t. t.blocks) refl
