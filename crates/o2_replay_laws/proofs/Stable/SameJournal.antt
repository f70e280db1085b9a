-- Blocks that agree on a journal's anchors have the same journal: extents, blocks, what is wrong with it, and its log.
use Rattle.std.proofs.Common.{◌≡◌, inl, inr, ℕ, zero, suc, true, ◌&&◌, not, List, [], ◌∷◌, ◌++◌, refl, sym, ◌∙◌, ap, Some, None}
use Rattle.std.specs.Prelude.{flat_map, slice_get}
use Rattle.std.specs.Option.{option_map_or}
use Rattle.std.proofs.lemmas.Bool.{cases_Bool, or_left, or_right, and_parts, eq-eqb}
use Rattle.o2_ondisk.specs.JournalSupers.{journal_super_of}
use Rattle.o2_model.specs.declared.journal_part.JournalPart.TheVariants as part
use Rattle.o2_model.specs.Words.{among}
use Rattle.o2_model.specs.Orders.{is_none_of, from_to}
use Rattle.o2_laws.specs.Frames.{SameOn}
use Rattle.o2_model.specs.Volume.{Volume, over}
use Rattle.o2_model.specs.Inodes.{extents, leaf_records, extent_blocks_of}
use Rattle.o2_model.specs.LeafRecords.{blocks_under}
use Rattle.o2_model.specs.Journals.{is_dirty, journal_blocks, journal_block, journal_super, is_sound_journal_super, has_known_features}
use Rattle.o2_model.specs.Logs.{log_blocks, log_in}
use Rattle.o2_model.specs.Dirty.{has_journal_extents, journal_part_fault}
use Rattle.o2_model.specs.Anchors.{journal_anchors}
use Rattle.o2_model.specs.Checks.Extent.{extent_faults}
use Rattle.o2_laws.proofs.Readings.{extents_same}
use Rattle.o2_model.proofs.Readings.{faults_of_own_list}
use Rattle.o2_laws.proofs.WellRead.{extents_well, extent_blocks_are}
use Rattle.o2_laws.proofs.Agreeing.{map_agree, option_agree}
use Rattle.o2_laws.proofs.Kept.JournalsKeep.{extent_faults_same}
use Rattle.o2_replay_laws.proofs.Stable.SameDirectory.{among_first}
use Rattle.o2_laws.proofs.Found.{none_of}
use Rattle.o2_laws.proofs.Members.{among_left, among_right}

pub among_got : (ns : List ℕ) (k n : ℕ) → slice_get ns k ≡ Some n → among ns n ≡ true
among_got [] k n is = cc
among_got (m ∷ ns) zero n is = or_left _ _ (eq-eqb n m (let e : m ≡ n = cc in sym e))
among_got (m ∷ ns) (suc k) n is = or_right _ _ (among_got ns k n is)

journal_is_anchor : (v : Volume) (j : ℕ) → among (journal_anchors v j) j ≡ true
journal_is_anchor v j = among_first j _

extent_block_is_anchor : (v : Volume) (j b : ℕ) → among (j ∷ extent_blocks_of v j) b ≡ true → among (journal_anchors v j) b ≡ true
extent_block_is_anchor v j b h = among_left (j ∷ extent_blocks_of v j) (journal_blocks v j) b h

block_is_anchor : (v : Volume) (j b : ℕ) → among (journal_blocks v j) b ≡ true → among (journal_anchors v j) b ≡ true
block_is_anchor v j b h = among_right (j ∷ extent_blocks_of v j) (journal_blocks v j) b h

pub journal_blocks_by_list : (v : Volume) (at : ℕ → List ℕ) (j : ℕ) → extents (over v at) j ≡ extents v j → journal_blocks (over v at) j ≡ journal_blocks v j
unfolding journal_blocks
journal_blocks_by_list v at j list = ap (λ t. flat_map (blocks_under v) t.leaves) list

pub is_dirty_same : (v : Volume) (at : ℕ → List ℕ) (b : ℕ) → at b ≡ v.at b → is_dirty (over v at) b ≡ is_dirty v b
is_dirty_same v at b same = rw same refl

-- ---- over other blocks
module _ (v : Volume) (at : ℕ → List ℕ) (j : ℕ) (same : SameOn (journal_anchors v j) v at) (none : (extents v j).faults ≡ []) where
  pub journal_inode_same : at j ≡ v.at j
  journal_inode_same = same.same j (journal_is_anchor v j)

  pub journal_extents_same : extents (over v at) j ≡ extents v j
  journal_extents_same =
      let are : (extents v j).seen ≡ extent_blocks_of v j = (extents_well v j).seen none ∙ sym (extent_blocks_are v j) in
      extents_same v at j (record { same = λ b h. same.same b (extent_block_is_anchor v j b (ap (λ ns. among (j ∷ ns) b) (sym are) ∙ h)) }) none

  journal_extent_blocks_same : extent_blocks_of (over v at) j ≡ extent_blocks_of v j
  journal_extent_blocks_same = extent_blocks_are (over v at) j ∙ (ap (λ t. t.blocks) journal_extents_same ∙ sym (extent_blocks_are v j))

  pub journal_blocks_same : journal_blocks (over v at) j ≡ journal_blocks v j
  journal_blocks_same = journal_blocks_by_list v at j journal_extents_same

  pub journal_anchors_same : journal_anchors (over v at) j ≡ journal_anchors v j
  journal_anchors_same = rw (journal_extent_blocks_same, journal_blocks_same) refl

  pub journal_block_same : (k : ℕ) → journal_block (over v at) j k ≡ journal_block v j k
  journal_block_same k =
      ap (λ bs. option_map_or at (slice_get bs k) []) journal_blocks_same
      ∙ option_agree at v.at (slice_get (journal_blocks v j) k) [] (λ b is. same.same b (block_is_anchor v j b (among_got (journal_blocks v j) k b is)))

  pub journal_super_same : journal_super (over v at) j ≡ journal_super v j
  journal_super_same = ap journal_super_of (journal_block_same 0)

  sound_super_same : is_sound_journal_super (over v at) j ≡ is_sound_journal_super v j
  unfolding is_sound_journal_super
  sound_super_same = rw (journal_block_same 0, journal_blocks_same) refl

  features_same : has_known_features (over v at) j ≡ has_known_features v j
  unfolding has_known_features
  features_same = rw (journal_block_same 0) refl

  journal_leaves_same : leaf_records (over v at) j ≡ leaf_records v j
  journal_leaves_same = ap (λ t. t.leaves) journal_extents_same

  has_extents_same : has_journal_extents (over v at) j ≡ has_journal_extents v j
  has_extents_same = rw (extent_faults_same v at j journal_extents_same, journal_leaves_same) refl

  pub part_fault_same : journal_part_fault (over v at) j ≡ journal_part_fault v j
  unfolding journal_part_fault
  part_fault_same = rw (has_extents_same, sound_super_same, features_same) refl

  blocks_of_log_same : log_blocks (over v at) j ≡ log_blocks v j
  unfolding log_blocks
  blocks_of_log_same =
      let super = journal_super v j in
      let places = from_to super.start super.maxlen ++ from_to super.first super.start in
      rw (journal_block_same 0, map_agree (journal_block (over v at) j) (journal_block v j) places (λ k is. journal_block_same k)) refl

  pub log_in_same : log_in (over v at) j ≡ log_in v j
  unfolding log_in
  log_in_same = rw (blocks_of_log_same, journal_block_same 0) refl

-- ---- a journal that can be used has no fault in its extents
pub usable_has_extents : (v : Volume) (j : ℕ) → journal_part_fault v j ≡ None → has_journal_extents v j ≡ true
unfolding journal_part_fault
usable_has_extents v j none = elim (cases_Bool (has_journal_extents v j)) [
  | inl has ↦ has
  | inr lacks ↦ let e : Some part.Extents ≡ None = rw lacks at none in cc
]

pub usable_extents : (v : Volume) (j : ℕ) → journal_part_fault v j ≡ None → (extents v j).faults ≡ []
usable_extents v j none =
    let has = usable_has_extents v j none in
    let parts = and_parts (is_none_of (extent_faults v j) && not (is_none_of (leaf_records v j))) _ has in
    let first = and_parts (is_none_of (extent_faults v j)) _ parts.0 in
    sym (faults_of_own_list v j) ∙ none_of (extent_faults v j) first.0
