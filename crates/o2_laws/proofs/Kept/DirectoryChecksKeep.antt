-- Where nothing fails, the checks of each directory's blocks and names fail at the same blocks over blocks that agree on the held
-- ones.
use Rattle.std.proofs.Common.{◌≡◌, ℕ, List, [], map, ◌∙◌, ap}
use Rattle.std.specs.Prelude.{flat_map, filter}
use Rattle.o2_model.specs.declared.check.Check.TheVariants as check
use Rattle.o2_model.specs.Faults.{fails_at}
use Rattle.o2_model.specs.Orders.{later_like}
use Rattle.o2_model.specs.Volume.{Volume, over}
use Rattle.o2_model.specs.Inodes.{is_directory}
use Rattle.o2_model.specs.declared.entry.Entry.{Entry}
use Rattle.o2_model.specs.Directories.{DirBlock}
use Rattle.o2_model.specs.Groups.{inodes_of}
use Rattle.o2_model.specs.Checks.DirBlock.{is_sound_dir_block, dir_block_faults}
use Rattle.o2_model.specs.Checks.DirentName.{is_sound_name, dirent_name_faults}
use Rattle.o2_model.specs.Checks.DirentDup.{are_namesakes, dirent_dup_faults}
use Rattle.o2_model.specs.Failing.{of_each_directory, faults, failing}
use Rattle.o2_laws.proofs.Held.HeldBlocks.{AgreesOnHeld}
use Rattle.o2_laws.proofs.Members.{contains_filter}
use Rattle.o2_laws.proofs.Agreeing.{flat_map_agree, filter_agree_on}
use Rattle.o2_laws.proofs.SameInodes.{directory_same}
use Rattle.o2_laws.proofs.Held.HeldTells.{dinode_same, listed_is_inode}
use Rattle.o2_laws.proofs.Held.HeldTables.{held_tell_inodes}
use Rattle.o2_laws.proofs.Held.HeldDirectories.{IsDirectoryInode, blocks_of_directory, entries_of_directory, names_of_directory}

-- what is judged alike of each directory
directories_same : (v : Volume) (at : ℕ → List ℕ) → failing v ≡ [] → AgreesOnHeld v at → filter (is_directory (over v at)) (inodes_of (over v at)) ≡ filter (is_directory v) (inodes_of v)
directories_same v at none agrees =
    ap (filter (is_directory (over v at))) (held_tell_inodes v at none agrees)
    ∙ filter_agree_on (is_directory (over v at)) (is_directory v) (inodes_of v) (λ b is. directory_same v at b (dinode_same v at b agrees (listed_is_inode v b is)))

pub each_directory_keeps : (v : Volume) (at : ℕ → List ℕ) (faults_of : Volume → ℕ → List ℕ) → failing v ≡ [] → AgreesOnHeld v at
    → ((d : ℕ) → IsDirectoryInode v d → faults_of (over v at) d ≡ faults_of v d) → of_each_directory (over v at) faults_of ≡ of_each_directory v faults_of
each_directory_keeps v at faults_of none agrees same =
    ap (flat_map (faults_of (over v at))) (directories_same v at none agrees)
    ∙ flat_map_agree (faults_of (over v at)) (faults_of v) (filter (is_directory v) (inodes_of v)) (λ d is.
    let parts = contains_filter (is_directory v) (inodes_of v) d is in
    same d (record { inode = listed_is_inode v d parts.0; directory = parts.1 }))

pub keeps_dir_block : (v : Volume) (at : ℕ → List ℕ) → failing v ≡ [] → AgreesOnHeld v at → faults (over v at) check.DirBlock ≡ faults v check.DirBlock
unfolding faults
keeps_dir_block v at none agrees =
    each_directory_keeps v at dir_block_faults none agrees (λ d is. ap (fails_at (λ (b : DirBlock). b.block) is_sound_dir_block) (blocks_of_directory v at d none agrees is))

pub keeps_dirent_name : (v : Volume) (at : ℕ → List ℕ) → failing v ≡ [] → AgreesOnHeld v at → faults (over v at) check.DirentName ≡ faults v check.DirentName
unfolding faults
keeps_dirent_name v at none agrees =
    each_directory_keeps v at dirent_name_faults none agrees (λ d is. ap (fails_at (λ (e : Entry). e.block) (λ e. is_sound_name e.name)) (entries_of_directory v at d none agrees is))

pub keeps_dirent_dup : (v : Volume) (at : ℕ → List ℕ) → failing v ≡ [] → AgreesOnHeld v at → faults (over v at) check.DirentDup ≡ faults v check.DirentDup
unfolding faults
keeps_dirent_dup v at none agrees =
    each_directory_keeps v at dirent_dup_faults none agrees (λ d is. ap (λ es. map (λ (e : Entry). e.block) (later_like are_namesakes es)) (names_of_directory v at d none agrees is))
