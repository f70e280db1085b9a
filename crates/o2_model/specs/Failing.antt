-- The table of checks, and where they fail.
use Rattle.std.specs.Prelude.{◌≡◌, ℕ, false, List, [], ◌∷◌, map, flat_map, filter}
use Rattle.o2_model.specs.declared.check.Check.{Check}
use Rattle.o2_model.specs.declared.check.Check.TheVariants as check
use Rattle.o2_model.specs.Words.{among}
use Rattle.o2_model.specs.Orders.{rising}
use Rattle.o2_model.specs.Volume.{Volume}
use Rattle.o2_model.specs.Inodes.{is_directory}
use Rattle.o2_model.specs.Groups.{inodes_of}
use Rattle.o2_model.specs.Checks.Super.{super_faults}
use Rattle.o2_model.specs.Checks.Sysdir.{sysdir_faults}
use Rattle.o2_model.specs.Checks.Sysfile.{sysfile_faults}
use Rattle.o2_model.specs.Checks.Root.{root_faults}
use Rattle.o2_model.specs.Checks.ChainHeader.{chain_header_faults}
use Rattle.o2_model.specs.Checks.Journal.{journal_faults}
use Rattle.o2_model.specs.Checks.SlotMap.{slot_map_faults}
use Rattle.o2_model.specs.Checks.JournalDirty.{journal_dirty_faults}
use Rattle.o2_model.specs.Checks.ChainLink.{chain_link_faults}
use Rattle.o2_model.specs.Checks.GroupMissing.{group_missing_faults}
use Rattle.o2_model.specs.Checks.InodeAllocBit.{inode_alloc_bit_faults}
use Rattle.o2_model.specs.Checks.InodeSuballoc.{inode_suballoc_faults}
use Rattle.o2_model.specs.Checks.InodeKind.{inode_kind_faults}
use Rattle.o2_model.specs.Checks.Extent.{extent_faults}
use Rattle.o2_model.specs.Checks.MetaBlock.{meta_block_faults}
use Rattle.o2_model.specs.Checks.MetaSuballoc.{meta_suballoc_faults}
use Rattle.o2_model.specs.Checks.EbNext.{eb_next_faults}
use Rattle.o2_model.specs.Checks.LastEb.{last_eb_faults}
use Rattle.o2_model.specs.Checks.InodeSize.{inode_size_faults}
use Rattle.o2_model.specs.Checks.DirBlock.{dir_block_faults}
use Rattle.o2_model.specs.Checks.DirentName.{dirent_name_faults}
use Rattle.o2_model.specs.Checks.DirentDup.{dirent_dup_faults}
use Rattle.o2_model.specs.Checks.DirDots.{dir_dots_faults}
use Rattle.o2_model.specs.Checks.DirentInode.{dirent_inode_faults}
use Rattle.o2_model.specs.Checks.DirentType.{dirent_type_faults}
use Rattle.o2_model.specs.Checks.DirParent.{dir_parent_faults}
use Rattle.o2_model.specs.Checks.OrphanFlag.{orphan_flag_faults}
use Rattle.o2_model.specs.Checks.OrphanEntry.{orphan_entry_faults}
use Rattle.o2_model.specs.Checks.NotConnected.{not_connected_faults}
use Rattle.o2_model.specs.Checks.RefTree.{ref_tree_faults}
use Rattle.o2_model.specs.Checks.RefCover.{ref_cover_faults}
use Rattle.o2_model.specs.Checks.RefCount.{ref_count_faults}
use Rattle.o2_model.specs.Checks.RefUsers.{ref_users_faults}
use Rattle.o2_model.specs.Checks.Dx.{dx_faults}
use Rattle.o2_model.specs.Checks.InodeClusters.{inode_clusters_faults}
use Rattle.o2_model.specs.Checks.InodeCount.{inode_count_faults}
use Rattle.o2_model.specs.Checks.DupClusters.{dup_clusters_faults}
use Rattle.o2_model.specs.Checks.LocalAlloc.{local_alloc_faults}
use Rattle.o2_model.specs.Checks.TruncateLog.{truncate_log_faults}
use Rattle.o2_model.specs.Checks.BackupSuper.{backup_super_faults}
use Rattle.o2_model.specs.Checks.BlockAllocBit.{block_alloc_bit_faults}
use Rattle.o2_model.specs.Checks.ClusterAllocBit.{cluster_alloc_bit_faults}
use Rattle.o2_model.specs.Checks.GroupChain.{group_chain_faults}
use Rattle.o2_model.specs.Checks.GroupFreeBits.{group_free_bits_faults}
use Rattle.o2_model.specs.Checks.ChainBits.{chain_bits_faults}
use Rattle.o2_model.specs.Checks.AllocTotals.{alloc_totals_faults}

-- ---- where a check fails
-- what is judged inode by inode
abbrev pub of_each_inode : Volume → (Volume → ℕ → List ℕ) → List ℕ
of_each_inode v faults_of = flat_map (faults_of v) (inodes_of v)

-- what is judged directory by directory, in the tree or not
abbrev pub of_each_directory : Volume → (Volume → ℕ → List ℕ) → List ℕ
of_each_directory v faults_of = flat_map (faults_of v) (filter (is_directory v) (inodes_of v))

-- the blocks at which the check fails, in any order and some more than once
unfoldable pub faults : Volume → Check → List ℕ
faults v check.Super = super_faults v
faults v check.Sysdir = sysdir_faults v
faults v check.Sysfile = sysfile_faults v
faults v check.Root = root_faults v
faults v check.ChainHeader = chain_header_faults v
faults v check.Journal = journal_faults v
faults v check.SlotMap = slot_map_faults v
faults v check.JournalDirty = journal_dirty_faults v
faults v check.ChainLink = chain_link_faults v
faults v check.GroupMissing = group_missing_faults v
faults v check.InodeAllocBit = inode_alloc_bit_faults v
faults v check.InodeSuballoc = of_each_inode v inode_suballoc_faults
faults v check.InodeKind = of_each_inode v inode_kind_faults
faults v check.Extent = of_each_inode v extent_faults
faults v check.MetaBlock = meta_block_faults v
faults v check.MetaSuballoc = meta_suballoc_faults v
faults v check.EbNext = eb_next_faults v
faults v check.LastEb = last_eb_faults v
faults v check.InodeSize = of_each_inode v inode_size_faults
faults v check.DirBlock = of_each_directory v dir_block_faults
faults v check.DirentName = of_each_directory v dirent_name_faults
faults v check.DirentDup = of_each_directory v dirent_dup_faults
faults v check.DirDots = dir_dots_faults v
faults v check.DirentInode = dirent_inode_faults v
faults v check.DirentType = dirent_type_faults v
faults v check.DirParent = dir_parent_faults v
faults v check.OrphanFlag = orphan_flag_faults v
faults v check.OrphanEntry = orphan_entry_faults v
faults v check.NotConnected = not_connected_faults v
faults v check.RefTree = ref_tree_faults v
faults v check.RefCover = ref_cover_faults v
faults v check.RefCount = ref_count_faults v
faults v check.RefUsers = ref_users_faults v
faults v check.Dx = dx_faults v
faults v check.InodeClusters = of_each_inode v inode_clusters_faults
faults v check.InodeCount = inode_count_faults v
faults v check.DupClusters = dup_clusters_faults v
faults v check.LocalAlloc = local_alloc_faults v
faults v check.TruncateLog = truncate_log_faults v
faults v check.BackupSuper = backup_super_faults v
faults v check.BlockAllocBit = block_alloc_bit_faults v
faults v check.ClusterAllocBit = cluster_alloc_bit_faults v
faults v check.GroupChain = group_chain_faults v
faults v check.GroupFreeBits = group_free_bits_faults v
faults v check.ChainBits = chain_bits_faults v
faults v check.AllocTotals = alloc_totals_faults v

-- The check holds at the block.
abbrev pub Holds : Volume → Check → ℕ → Type 0
Holds v c b = among (faults v c) b ≡ false

-- ---- the table
-- The checks of the skeleton, numbers 1 to 7: where one of them fails, no other is judged.
abbrev pub skeleton : List Check
skeleton = check.Super ∷ check.Sysdir ∷ check.Sysfile ∷ check.Root ∷ check.ChainHeader ∷ check.Journal ∷ check.SlotMap ∷ []

-- the others, by their numbers
abbrev pub further : List Check
further =
    check.JournalDirty ∷ check.ChainLink ∷ check.GroupMissing ∷ check.InodeAllocBit ∷ check.InodeSuballoc ∷ check.InodeKind
    ∷ check.Extent ∷ check.MetaBlock ∷ check.MetaSuballoc ∷ check.EbNext ∷ check.LastEb ∷ check.InodeSize ∷ check.DirBlock
    ∷ check.DirentName ∷ check.DirentDup ∷ check.DirDots ∷ check.DirentInode ∷ check.DirentType ∷ check.DirParent
    ∷ check.OrphanFlag ∷ check.OrphanEntry ∷ check.NotConnected ∷ check.RefTree ∷ check.RefCover ∷ check.RefCount
    ∷ check.RefUsers ∷ check.Dx ∷ check.InodeClusters ∷ check.InodeCount ∷ check.DupClusters ∷ check.LocalAlloc
    ∷ check.TruncateLog ∷ check.BackupSuper ∷ check.BlockAllocBit ∷ check.ClusterAllocBit ∷ check.GroupChain
    ∷ check.GroupFreeBits ∷ check.ChainBits ∷ check.AllocTotals ∷ []

-- the failing pairs of these checks, by check and then by block, each once
abbrev pub pairs : Volume → List Check → List (Check × ℕ)
pairs v checks = flat_map (λ c. map (λ b. (c, b)) (rising (faults v c))) checks

-- the first of the skeleton alone, else all others
abbrev pub first_or_else : List (Check × ℕ) → List (Check × ℕ) → List (Check × ℕ)
first_or_else [] others = others
first_or_else (pair ∷ rest) others = pair ∷ []

-- The checks that fail, each with the block.
unfoldable pub failing : Volume → List (Check × ℕ)
failing v = first_or_else (pairs v skeleton) (pairs v further)
