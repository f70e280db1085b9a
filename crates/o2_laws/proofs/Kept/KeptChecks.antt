-- Where nothing fails, blocks that agree on the held ones, with sound superblocks of journals, keep every check.
use Rattle.std.proofs.Common.{◌≡◌, ℕ, List, [], ◌∷◌, ◌++◌, map, refl, ◌∙◌, ap}
use Rattle.o2_model.specs.declared.check.Check.{Check}
use Rattle.o2_model.specs.declared.check.Check.TheVariants as check
use Rattle.o2_model.specs.Volume.{Volume, over}
use Rattle.o2_model.specs.Orders.{rising}
use Rattle.o2_model.specs.Failing.{faults, skeleton, further, pairs, first_or_else, failing}
use Rattle.o2_laws.specs.Agrees.{HasSoundJournalSupers}
use Rattle.o2_laws.proofs.Held.HeldBlocks.{AgreesOnHeld}
use Rattle.o2_laws.proofs.Kept.OdditiesKeep.{keeps_super, keeps_backup_super}
use Rattle.o2_laws.proofs.Kept.SkeletonKeeps.{keeps_sysdir, keeps_sysfile, keeps_root, keeps_slot_map}
use Rattle.o2_laws.proofs.Kept.GroupChecksKeep.{keeps_chain_header, keeps_chain_link, keeps_group_missing, keeps_inode_alloc_bit, keeps_inode_suballoc, keeps_group_chain, keeps_group_free_bits, keeps_chain_bits, keeps_alloc_totals}
use Rattle.o2_laws.proofs.Kept.JournalsKeep.{keeps_journal, keeps_journal_dirty}
use Rattle.o2_laws.proofs.Kept.InodeChecksKeep.{keeps_inode_kind, keeps_extent, keeps_inode_size, keeps_inode_clusters}
use Rattle.o2_laws.proofs.Kept.MetadataChecksKeep.{keeps_meta_block, keeps_meta_suballoc}
use Rattle.o2_laws.proofs.Kept.LeafBlocksKeep.{keeps_eb_next, keeps_last_eb}
use Rattle.o2_laws.proofs.Kept.DirectoryChecksKeep.{keeps_dir_block, keeps_dirent_name, keeps_dirent_dup}
use Rattle.o2_laws.proofs.Kept.TreeChecksKeep.{keeps_dir_dots, keeps_dirent_inode, keeps_dirent_type, keeps_dir_parent, keeps_inode_count}
use Rattle.o2_laws.proofs.Kept.OrphanChecksKeep.{keeps_orphan_flag, keeps_orphan_entry, keeps_not_connected}
use Rattle.o2_laws.proofs.Kept.RefcountChecksKeep.{keeps_ref_tree, keeps_ref_cover, keeps_ref_count, keeps_ref_users}
use Rattle.o2_laws.proofs.Kept.DxKeeps.{keeps_dx}
use Rattle.o2_laws.proofs.Kept.DupClustersKeeps.{keeps_dup_clusters}
use Rattle.o2_laws.proofs.Kept.SlotPartsKeep.{keeps_local_alloc, keeps_truncate_log}
use Rattle.o2_laws.proofs.Kept.AllocBitsKeep.{keeps_block_alloc_bit, keeps_cluster_alloc_bit}

-- each check fails at the same blocks
pub check_keeps : (v : Volume) (at : ℕ → List ℕ) → failing v ≡ [] → AgreesOnHeld v at → HasSoundJournalSupers v at → (c : Check) → faults (over v at) c ≡ faults v c
check_keeps v at none agrees supers check.Super = keeps_super v at none agrees
check_keeps v at none agrees supers check.Sysdir = keeps_sysdir v at none agrees
check_keeps v at none agrees supers check.Sysfile = keeps_sysfile v at none agrees
check_keeps v at none agrees supers check.Root = keeps_root v at none agrees
check_keeps v at none agrees supers check.ChainHeader = keeps_chain_header v at none agrees
check_keeps v at none agrees supers check.Journal = keeps_journal v at none agrees supers
check_keeps v at none agrees supers check.SlotMap = keeps_slot_map v at none agrees
check_keeps v at none agrees supers check.JournalDirty = keeps_journal_dirty v at none agrees
check_keeps v at none agrees supers check.ChainLink = keeps_chain_link v at none agrees
check_keeps v at none agrees supers check.GroupMissing = keeps_group_missing v at none agrees
check_keeps v at none agrees supers check.InodeAllocBit = keeps_inode_alloc_bit v at none agrees
check_keeps v at none agrees supers check.InodeSuballoc = keeps_inode_suballoc v at none agrees
check_keeps v at none agrees supers check.InodeKind = keeps_inode_kind v at none agrees
check_keeps v at none agrees supers check.Extent = keeps_extent v at none agrees
check_keeps v at none agrees supers check.MetaBlock = keeps_meta_block v at none agrees
check_keeps v at none agrees supers check.MetaSuballoc = keeps_meta_suballoc v at none agrees
check_keeps v at none agrees supers check.EbNext = keeps_eb_next v at none agrees
check_keeps v at none agrees supers check.LastEb = keeps_last_eb v at none agrees
check_keeps v at none agrees supers check.InodeSize = keeps_inode_size v at none agrees
check_keeps v at none agrees supers check.DirBlock = keeps_dir_block v at none agrees
check_keeps v at none agrees supers check.DirentName = keeps_dirent_name v at none agrees
check_keeps v at none agrees supers check.DirentDup = keeps_dirent_dup v at none agrees
check_keeps v at none agrees supers check.DirDots = keeps_dir_dots v at none agrees
check_keeps v at none agrees supers check.DirentInode = keeps_dirent_inode v at none agrees
check_keeps v at none agrees supers check.DirentType = keeps_dirent_type v at none agrees
check_keeps v at none agrees supers check.DirParent = keeps_dir_parent v at none agrees
check_keeps v at none agrees supers check.OrphanFlag = keeps_orphan_flag v at none agrees
check_keeps v at none agrees supers check.OrphanEntry = keeps_orphan_entry v at none agrees
check_keeps v at none agrees supers check.NotConnected = keeps_not_connected v at none agrees
check_keeps v at none agrees supers check.RefTree = keeps_ref_tree v at none agrees
check_keeps v at none agrees supers check.RefCover = keeps_ref_cover v at none agrees
check_keeps v at none agrees supers check.RefCount = keeps_ref_count v at none agrees
check_keeps v at none agrees supers check.RefUsers = keeps_ref_users v at none agrees
check_keeps v at none agrees supers check.Dx = keeps_dx v at none agrees
check_keeps v at none agrees supers check.InodeClusters = keeps_inode_clusters v at none agrees
check_keeps v at none agrees supers check.InodeCount = keeps_inode_count v at none agrees
check_keeps v at none agrees supers check.DupClusters = keeps_dup_clusters v at none agrees
check_keeps v at none agrees supers check.LocalAlloc = keeps_local_alloc v at none agrees
check_keeps v at none agrees supers check.TruncateLog = keeps_truncate_log v at none agrees
check_keeps v at none agrees supers check.BackupSuper = keeps_backup_super v at none agrees
check_keeps v at none agrees supers check.BlockAllocBit = keeps_block_alloc_bit v at none agrees
check_keeps v at none agrees supers check.ClusterAllocBit = keeps_cluster_alloc_bit v at none agrees
check_keeps v at none agrees supers check.GroupChain = keeps_group_chain v at none agrees
check_keeps v at none agrees supers check.GroupFreeBits = keeps_group_free_bits v at none agrees
check_keeps v at none agrees supers check.ChainBits = keeps_chain_bits v at none agrees
check_keeps v at none agrees supers check.AllocTotals = keeps_alloc_totals v at none agrees

pairs_same : (v : Volume) (at : ℕ → List ℕ) (checks : List Check) → failing v ≡ [] → AgreesOnHeld v at → HasSoundJournalSupers v at → pairs (over v at) checks ≡ pairs v checks
pairs_same v at [] none agrees supers = refl
pairs_same v at (c ∷ cs) none agrees supers =
    ap (λ bs. map (λ b. (c, b)) (rising bs) ++ pairs (over v at) cs) (check_keeps v at none agrees supers c)
    ∙ ap (λ ps. map (λ b. (c, b)) (rising (faults v c)) ++ ps) (pairs_same v at cs none agrees supers)

-- Nothing fails there either.
pub none_fails_over : (v : Volume) (at : ℕ → List ℕ) → failing v ≡ [] → AgreesOnHeld v at → HasSoundJournalSupers v at → failing (over v at) ≡ []
unfolding failing
none_fails_over v at none agrees supers =
    ap (λ ps. first_or_else ps (pairs (over v at) further)) (pairs_same v at skeleton none agrees supers)
    ∙ (ap (first_or_else (pairs v skeleton)) (pairs_same v at further none agrees supers) ∙ none)
