-- Blocks that agree on a directory's anchors have the same directory: extents, blocks, entries, and what is asked of it.
use Rattle.std.proofs.Common.{◌≡◌, ◌⊎◌, inl, inr, ℕ, Bool, true, false, ◌&&◌, not, ◌==◌, List, [], ◌∷◌, ◌++◌, map, refl, sym, ◌∙◌, ap}
use Rattle.std.proofs.lemmas.Bool.{cases_Bool, or_left, or_cases, and_parts, eq-eqb}
use Rattle.std.proofs.lemmas.List.Folds.{list_any-append}
use Rattle.o2_ondisk.specs.Bits.{has_bits}
use Rattle.o2_model.specs.declared.system_file.SystemFile.{SystemFile}
use Rattle.o2_model.specs.Words.{among}
use Rattle.o2_model.specs.Orders.{is_none_of}
use Rattle.o2_laws.specs.Frames.{SameOn}
use Rattle.o2_model.specs.Volume.{Volume, over, dinode, is_valid}
use Rattle.o2_model.specs.Inodes.{extents, is_inline, has_list, holds_list, has_data, has_fast_text, no_list_flags, is_directory, kind, extent_blocks_of}
use Rattle.o2_model.specs.Directories.{dir_blocks, directory_entries, own_inodes}
use Rattle.o2_model.specs.SystemFiles.{system_inode}
use Rattle.o2_model.specs.Anchors.{directory_anchors}
use Rattle.o2_model.specs.Checks.Extent.{extent_faults}
use Rattle.o2_model.specs.Checks.InodeSize.{inode_size_faults}
use Rattle.o2_model.specs.Checks.DirBlock.{dir_block_faults}
use Rattle.o2_model.specs.Checks.DirentName.{dirent_name_faults}
use Rattle.o2_model.specs.Checks.DirentDup.{dirent_dup_faults}
use Rattle.o2_model.specs.Checks.Sysdir.{directory_faults, is_sound_directory}
use Rattle.o2_laws.proofs.Readings.{extents_same}
use Rattle.o2_model.proofs.Readings.{faults_of_own_list}
use Rattle.o2_laws.proofs.SameEntries.{dir_blocks_same, entries_same}
use Rattle.o2_laws.proofs.WellRead.{extents_well, extent_blocks_are, no_list}
use Rattle.o2_laws.proofs.Found.{append_nothing, none_of}
use Rattle.o2_laws.proofs.Kept.JournalsKeep.{extent_faults_same}
use Rattle.o2_laws.proofs.Kept.InodeChecksKeep.{size_same}
use Rattle.o2_laws.proofs.Members.{among_left, among_right}

-- ---- what is among the anchors
among_both : (xs ys : List ℕ) (b : ℕ) → among (xs ++ ys) b ≡ true → (among xs b ≡ true) ⊎ (among ys b ≡ true)
among_both xs ys b h = or_cases (among xs b) (among ys b) (sym (list_any-append (λ m. b == m) xs ys) ∙ h)

pub among_first : (b : ℕ) (bs : List ℕ) → among (b ∷ bs) b ≡ true
among_first b bs = or_left _ _ (eq-eqb b b refl)

-- an inline inode has no list
inline_no_list : (v : Volume) (d : ℕ) → is_inline v d ≡ true → has_list v d ≡ false
unfolding holds_list
inline_no_list v d inline = rw inline (lacks (has_data (kind v d)) (not (has_fast_text (dinode v d))) (not (has_bits (dinode v d).flags.0 no_list_flags)))
  where
    lacks : (a b c : Bool) → (a && b && false && c) ≡ false
    lacks true true c = refl
    lacks true false c = refl
    lacks false b c = refl

pub looked_at_is_anchor : (v : Volume) (d b : ℕ) → (extents v d).faults ≡ [] → among (d ∷ (extents v d).seen) b ≡ true → among (directory_anchors v d) b ≡ true
looked_at_is_anchor v d b none h = elim (cases_Bool (is_inline v d)) [
  | inl inline ↦
      let empty : (extents v d).seen ≡ [] = ap (λ t. t.seen) (no_list v d (inline_no_list v d inline)) in
      rw inline (ap (λ ns. among (d ∷ ns) b) (sym empty) ∙ h)
  | inr outside ↦
      let are : (extents v d).seen ≡ extent_blocks_of v d = (extents_well v d).seen none ∙ sym (extent_blocks_are v d) in
      rw outside (among_left (d ∷ extent_blocks_of v d) _ b (ap (λ ns. among (d ∷ ns) b) (sym are) ∙ h))
]

pub dir_block_is_anchor : (v : Volume) (d b : ℕ) → among (map (λ x. x.block) (dir_blocks v d)) b ≡ true → among (directory_anchors v d) b ≡ true
unfolding dir_blocks
dir_block_is_anchor v d b h = elim (cases_Bool (is_inline v d)) [
  | inl inline ↦ rw inline (rw inline at h)
  | inr outside ↦ rw outside (among_right (d ∷ extent_blocks_of v d) _ b (rw outside at h))
]

pub directory_is_anchor : (v : Volume) (d : ℕ) → among (directory_anchors v d) d ≡ true
directory_is_anchor v d = elim (cases_Bool (is_inline v d)) [
  | inl inline ↦ rw inline (among_first d [])
  | inr outside ↦ rw outside (among_left (d ∷ extent_blocks_of v d) _ d (among_first d (extent_blocks_of v d)))
]

-- ---- over other blocks
module _ (v : Volume) (at : ℕ → List ℕ) (d : ℕ) (same : SameOn (directory_anchors v d) v at) (none : (extents v d).faults ≡ []) where
  pub inode_same_here : at d ≡ v.at d
  inode_same_here = same.same d (directory_is_anchor v d)

  pub directory_extents_same : extents (over v at) d ≡ extents v d
  directory_extents_same = extents_same v at d (record { same = λ b h. same.same b (looked_at_is_anchor v d b none h) }) none

  same_places : SameOn (map (λ x. x.block) (dir_blocks v d)) v at
  same_places = record { same = λ b h. same.same b (dir_block_is_anchor v d b h) }

  pub directory_blocks_same : dir_blocks (over v at) d ≡ dir_blocks v d
  directory_blocks_same = dir_blocks_same v at d inode_same_here directory_extents_same same_places

  pub directory_entries_same : directory_entries (over v at) d ≡ directory_entries v d
  directory_entries_same = entries_same v at d inode_same_here directory_extents_same same_places

  inline_same : is_inline (over v at) d ≡ is_inline v d
  inline_same = rw inode_same_here refl

  extent_blocks_same : extent_blocks_of (over v at) d ≡ extent_blocks_of v d
  extent_blocks_same = extent_blocks_are (over v at) d ∙ (ap (λ t. t.blocks) directory_extents_same ∙ sym (extent_blocks_are v d))

  pub directory_anchors_same : directory_anchors (over v at) d ≡ directory_anchors v d
  directory_anchors_same = rw (inline_same, extent_blocks_same, directory_blocks_same) refl

-- ---- the volume's own directory
own_entries : (v : Volume) (at : ℕ → List ℕ) → directory_entries (over v at) v.geo.sysdir ≡ directory_entries v v.geo.sysdir → own_inodes (over v at) ≡ own_inodes v
unfolding own_inodes
own_entries v at entries = rw entries refl

pub system_inode_same : (v : Volume) (at : ℕ → List ℕ) (file : SystemFile) → directory_entries (over v at) v.geo.sysdir ≡ directory_entries v v.geo.sysdir
    → system_inode (over v at) file ≡ system_inode v file
unfolding system_inode
system_inode_same v at file entries = rw entries refl

-- it is sound as it was
pub sound_directory_same : (v : Volume) (at : ℕ → List ℕ) → SameOn (directory_anchors v v.geo.sysdir) v at → (extents v v.geo.sysdir).faults ≡ []
    → is_sound_directory (over v at) v.geo.sysdir ≡ is_sound_directory v v.geo.sysdir
unfolding is_sound_directory is_valid is_directory
sound_directory_same v at same none =
    let d = v.geo.sysdir in
    let inode = inode_same_here v at d same none in
    let list = directory_extents_same v at d same none in
    let blocks = directory_blocks_same v at d same none in
    let entries = directory_entries_same v at d same none in
    let extent = extent_faults_same v at d list in
    let size = size_same v at d inode list (own_entries v at entries) (λ h. blocks) in
    rw (extent, size, blocks, entries, inode) refl

-- a sound directory has no fault in its extents
pub sound_extents : (v : Volume) (d : ℕ) → is_sound_directory v d ≡ true → (extents v d).faults ≡ []
unfolding is_sound_directory
sound_extents v d sound =
    let parts = and_parts (is_valid v d && is_directory v d) (is_none_of (directory_faults v d)) sound in
    let three = extent_faults v d ++ inode_size_faults v d ++ dir_block_faults v d in
    let none : three ++ dirent_name_faults v d ≡ [] = first_none (three ++ dirent_name_faults v d) (dirent_dup_faults v d) (none_of (directory_faults v d) parts.1) in
    let early : extent_faults v d ++ inode_size_faults v d ≡ [] = first_none _ (dir_block_faults v d) (first_none three (dirent_name_faults v d) none) in
    sym (faults_of_own_list v d) ∙ first_none (extent_faults v d) (inode_size_faults v d) early
  where
    first_none : (xs ys : List ℕ) → xs ++ ys ≡ [] → xs ≡ []
    first_none xs ys h = (append_nothing xs ys h).0
