-- What checks, oddities and the parts of a journal print.
use Rattle.std.specs.Prelude.{ℕ, List, codes}
use Rattle.o2_model.specs.declared.check.Check.{Check}
use Rattle.o2_model.specs.declared.check.Check.TheVariants as check
use Rattle.o2_model.specs.declared.journal_part.JournalPart.{JournalPart}
use Rattle.o2_model.specs.declared.journal_part.JournalPart.TheVariants as part
use Rattle.o2_model.specs.declared.oddity.Oddity.{Oddity}
use Rattle.o2_model.specs.declared.oddity.Oddity.TheVariants as oddity

abbrev pub check_name : Check → List ℕ
check_name check.Super = codes "SUPER"
check_name check.Sysdir = codes "SYSDIR"
check_name check.Sysfile = codes "SYSFILE"
check_name check.Root = codes "ROOT"
check_name check.ChainHeader = codes "CHAIN_HEADER"
check_name check.Journal = codes "JOURNAL"
check_name check.SlotMap = codes "SLOT_MAP"
check_name check.JournalDirty = codes "JOURNAL_DIRTY"
check_name check.ChainLink = codes "CHAIN_LINK"
check_name check.GroupMissing = codes "GROUP_MISSING"
check_name check.InodeAllocBit = codes "INODE_ALLOC_BIT"
check_name check.InodeSuballoc = codes "INODE_SUBALLOC"
check_name check.InodeKind = codes "INODE_KIND"
check_name check.Extent = codes "EXTENT"
check_name check.MetaBlock = codes "META_BLOCK"
check_name check.MetaSuballoc = codes "META_SUBALLOC"
check_name check.EbNext = codes "EB_NEXT"
check_name check.LastEb = codes "LAST_EB"
check_name check.InodeSize = codes "INODE_SIZE"
check_name check.DirBlock = codes "DIR_BLOCK"
check_name check.DirentName = codes "DIRENT_NAME"
check_name check.DirentDup = codes "DIRENT_DUP"
check_name check.DirDots = codes "DIR_DOTS"
check_name check.DirentInode = codes "DIRENT_INODE"
check_name check.DirentType = codes "DIRENT_TYPE"
check_name check.DirParent = codes "DIR_PARENT"
check_name check.OrphanFlag = codes "ORPHAN_FLAG"
check_name check.OrphanEntry = codes "ORPHAN_ENTRY"
check_name check.NotConnected = codes "NOT_CONNECTED"
check_name check.RefTree = codes "REF_TREE"
check_name check.RefCover = codes "REF_COVER"
check_name check.RefCount = codes "REF_COUNT"
check_name check.RefUsers = codes "REF_USERS"
check_name check.Dx = codes "DX"
check_name check.InodeClusters = codes "INODE_CLUSTERS"
check_name check.InodeCount = codes "INODE_COUNT"
check_name check.DupClusters = codes "DUP_CLUSTERS"
check_name check.LocalAlloc = codes "LOCAL_ALLOC"
check_name check.TruncateLog = codes "TRUNCATE_LOG"
check_name check.BackupSuper = codes "BACKUP_SUPER"
check_name check.BlockAllocBit = codes "BLOCK_ALLOC_BIT"
check_name check.ClusterAllocBit = codes "CLUSTER_ALLOC_BIT"
check_name check.GroupChain = codes "GROUP_CHAIN"
check_name check.GroupFreeBits = codes "GROUP_FREE_BITS"
check_name check.ChainBits = codes "CHAIN_BITS"
check_name check.AllocTotals = codes "ALLOC_TOTALS"

abbrev pub oddity_text : Oddity → List ℕ
oddity_text oddity.Metaecc = codes "metaecc"
oddity_text oddity.Quota = codes "quota"
oddity_text oddity.HeartbeatDevice = codes "heartbeat device"
oddity_text oddity.LocalMount = codes "local mount"
oddity_text oddity.InProgress = codes "in progress"
oddity_text oddity.UnknownFeatures = codes "unknown features"
oddity_text oddity.Clusters = codes "clusters"
oddity_text oddity.DiscontiguousGroup = codes "discontiguous group"
oddity_text oddity.Attributes = codes "attributes"
oddity_text oddity.DioOrphan = codes "dio orphan"

abbrev pub journal_part_text : JournalPart → List ℕ
journal_part_text part.Extents = codes "extents"
journal_part_text part.Superblock = codes "superblock"
journal_part_text part.Features = codes "features"
