-- Where nothing fails, blocks that agree on the held ones have the same superblock and backups, the same numbers for a user, and the
-- same structures that are not supported.
use Rattle.std.proofs.Common.{◌≡◌, ℕ, ◌-◌, ◌*◌, ◌/◌, Bool, true, ◌==◌, List, [], ◌++◌, map, refl, sym, ◌∙◌, ap, subst, arith, Option}
use Rattle.std.specs.Prelude.{filter, drop}
use Rattle.std.specs.List.{Contains}
use Rattle.std.proofs.lemmas.Bool.{eq-eqb, eqb-true}
use Rattle.std.proofs.lemmas.Nat.{pow_pos}
use Rattle.std.proofs.Math.Nat.{mul-div_cancel}
use Rattle.o2_ondisk.specs.Bits.{has_bits, has_xattr_dyn_feature, dio_orphaned_inode_flag}
use Rattle.o2_ondisk.specs.Dinodes.{dinode_of}
use Rattle.o2_ondisk.specs.Super.{super_of}
use Rattle.o2_model.specs.declared.check.Check.TheVariants as check
use Rattle.o2_model.specs.declared.allocator.Group.{Group}
use Rattle.o2_model.specs.declared.oddity.Oddity.{Oddity}
use Rattle.o2_model.specs.declared.oddity.Oddity.TheVariants.{DiscontiguousGroup, Attributes, DioOrphan}
use Rattle.o2_model.specs.Orders.{rising, first_of}
use Rattle.o2_model.specs.Volume.{Volume, over, per_cluster}
use Rattle.o2_model.specs.Clusters.{cluster_of}
use Rattle.o2_model.specs.ClusterGroups.{backup_clusters}
use Rattle.o2_model.specs.SystemFiles.{slots}
use Rattle.o2_model.specs.Groups.{groups, inodes_of}
use Rattle.o2_model.specs.Structures.{is_discontiguous, discontiguous_groups, inodes_with_attributes, direct_write_orphans, each_for, unsupported_structure}
use Rattle.o2_model.specs.AfterReplay.{VolumeGeometry, journal_length, geometry_of}
use Rattle.o2_model.specs.Checks.Super.{is_sound_super}
use Rattle.o2_model.specs.Checks.BackupSuper.{is_backup, backup_blocks}
use Rattle.o2_model.specs.Failing.{faults, failing}
use Rattle.o2_laws.proofs.Held.HeldBlocks.{is_held}
use Rattle.o2_laws.proofs.Held.HeldBlocks.{AgreesOnHeld}
use Rattle.o2_laws.proofs.Agreeing.{filter_agree_on, fails_agree}
use Rattle.o2_laws.proofs.Found.{found, any_map, passing}
use Rattle.o2_laws.proofs.Rising.{any_rising}
use Rattle.o2_laws.proofs.Held.GroupsHeld.{descriptor_held, backup_held}
use Rattle.o2_laws.proofs.Held.HeldTells.{dinode_same, listed_is_inode}
use Rattle.o2_laws.proofs.Held.HeldTables.{held_tell_groups, held_tell_inodes}
use Rattle.o2_laws.proofs.Held.HeldImages.{super_held}
use Rattle.o2_laws.proofs.Kept.JournalsKeep.{held_tell_journal_lengths}

-- ---- the superblock
super_block_same : (v : Volume) (at : ℕ → List ℕ) → failing v ≡ [] → AgreesOnHeld v at → at 2 ≡ v.at 2
super_block_same v at none agrees = agrees.same 2 (super_held v 2 none (omega arith))

pub keeps_super : (v : Volume) (at : ℕ → List ℕ) → failing v ≡ [] → AgreesOnHeld v at → faults (over v at) check.Super ≡ faults v check.Super
unfolding faults is_sound_super
keeps_super v at none agrees = rw (super_block_same v at none agrees) refl

pub held_tell_geometry : (v : Volume) (at : ℕ → List ℕ) → failing v ≡ [] → AgreesOnHeld v at → geometry_of (over v at) ≡ geometry_of v
held_tell_geometry v at none agrees =
    let told : List ℕ → List ℕ → VolumeGeometry = λ bytes lengths. record {
      block_bits = v.geo.block_bits;
      cluster_bits = v.geo.cluster_bits;
      clusters = v.geo.clusters;
      slots = v.geo.slots;
      label = (super_of (drop 0xc0 bytes)).label;
      uuid = (super_of (drop 0xc0 bytes)).uuid;
      journals = lengths;
    } in
    ap (λ bytes. told bytes (map (journal_length (over v at)) (slots v))) (super_block_same v at none agrees)
    ∙ ap (told (v.at 2)) (held_tell_journal_lengths v at none agrees)

-- ---- its backups
-- the block of a backup is held
backup_block_held : (v : Volume) (b : ℕ) → Contains (backup_blocks v) b → is_held v b ≡ true
backup_block_held v b is =
    let c = passing (λ c. c * per_cluster v == b) (backup_clusters v)
    (sym (any_map (λ m. m == b) (λ c. c * per_cluster v) (backup_clusters v)) ∙ found (λ m. m == b) (backup_blocks v) b is (eq-eqb b b refl)) in
    let here : c.item ≡ cluster_of v b = sym (mul-div_cancel c.item (pow_pos (v.geo.cluster_bits - v.geo.block_bits))) ∙ ap (λ x. x / per_cluster v) (eqb-true (c.item * per_cluster v) b c.passes) in
    backup_held v b (found (λ m. m == cluster_of v b) (backup_clusters v) c.item c.inside (eq-eqb c.item (cluster_of v b) here))

backup_same : (v : Volume) (at : ℕ → List ℕ) (b : ℕ) → at b ≡ v.at b → at 2 ≡ v.at 2 → is_backup (over v at) b ≡ is_backup v b
unfolding is_backup
backup_same v at b same super = rw (same, super) refl

pub keeps_backup_super : (v : Volume) (at : ℕ → List ℕ) → failing v ≡ [] → AgreesOnHeld v at → faults (over v at) check.BackupSuper ≡ faults v check.BackupSuper
unfolding faults
keeps_backup_super v at none agrees =
    fails_agree (λ b. b) (is_backup (over v at)) (is_backup v) (backup_blocks v) (λ b is. backup_same v at b (agrees.same b (backup_block_held v b is)) (super_block_same v at none agrees))

-- ---- structures that are not supported
discontiguous_same : (v : Volume) (at : ℕ → List ℕ) (b : ℕ) → at b ≡ v.at b → is_discontiguous (over v at) b ≡ is_discontiguous v b
unfolding is_discontiguous
discontiguous_same v at b same = rw same refl

-- so is a group's in order
listed_group_held : (v : Volume) (b : ℕ) → Contains (rising (map (λ g. g.block) (groups v))) b → is_held v b ≡ true
listed_group_held v b is =
    let g = passing (λ (g : Group). b == g.block) (groups v)
    (sym (any_map (λ m. b == m) (λ (g : Group). g.block) (groups v))
    ∙ (sym (any_rising (λ m. b == m) (map (λ g. g.block) (groups v))) ∙ found (λ m. b == m) (rising (map (λ g. g.block) (groups v))) b is (eq-eqb b b refl))) in
    subst (λ x. is_held v x ≡ true) (sym (eqb-true b g.item.block g.passes)) (descriptor_held v g.item g.inside)

discontiguous_groups_same : (v : Volume) (at : ℕ → List ℕ) → failing v ≡ [] → AgreesOnHeld v at → discontiguous_groups (over v at) ≡ discontiguous_groups v
discontiguous_groups_same v at none agrees =
    ap (λ w. filter (is_discontiguous (over v at)) (rising (map (λ g. g.block) w.groups))) (held_tell_groups v at none agrees)
    ∙ filter_agree_on (is_discontiguous (over v at)) (is_discontiguous v) (rising (map (λ g. g.block) (groups v))) (λ b is. discontiguous_same v at b (agrees.same b (listed_group_held v b is)))

-- inodes of some kind, by what their dinodes say
marked_inodes_same : (v : Volume) (at : ℕ → List ℕ) (p : List ℕ → Bool) → failing v ≡ [] → AgreesOnHeld v at → filter (λ b. p (at b)) (inodes_of (over v at)) ≡ filter (λ b. p (v.at b)) (inodes_of v)
marked_inodes_same v at p none agrees =
    ap (filter (λ b. p (at b))) (held_tell_inodes v at none agrees)
    ∙ filter_agree_on (λ b. p (at b)) (λ b. p (v.at b)) (inodes_of v) (λ b is. ap p (dinode_same v at b agrees (listed_is_inode v b is)))

pub held_tell_structure : (v : Volume) (at : ℕ → List ℕ) → failing v ≡ [] → AgreesOnHeld v at → unsupported_structure (over v at) ≡ unsupported_structure v
unfolding unsupported_structure
held_tell_structure v at none agrees =
    let all : List ℕ → List ℕ → List ℕ → Option (Oddity × ℕ) = λ a b c. first_of (each_for DiscontiguousGroup a ++ each_for Attributes b ++ each_for DioOrphan c) in
    ap (λ a. all a (inodes_with_attributes (over v at)) (direct_write_orphans (over v at))) (discontiguous_groups_same v at none agrees)
    ∙ (ap (λ b. all (discontiguous_groups v) b (direct_write_orphans (over v at))) (marked_inodes_same v at (λ bytes. has_bits (dinode_of bytes).dyn_features.0 has_xattr_dyn_feature) none agrees)
    ∙ ap (all (discontiguous_groups v) (inodes_with_attributes v)) (marked_inodes_same v at (λ bytes. has_bits (dinode_of bytes).flags.0 dio_orphaned_inode_flag) none agrees))
