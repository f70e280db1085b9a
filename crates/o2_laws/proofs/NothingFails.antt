-- Where nothing fails, no check does.
use Rattle.std.proofs.Common.{◌≡◌, []}
use Rattle.std.specs.List.{AllByRecursion}
use Rattle.o2_model.specs.declared.check.Check.{Check}
use Rattle.o2_model.specs.declared.check.Check.TheVariants as check
use Rattle.o2_model.specs.Volume.{Volume}
use Rattle.o2_model.specs.Failing.{faults, skeleton, further, failing}
use Rattle.o2_model.proofs.Skeletons.{none_of_both}
use Rattle.o2_laws.proofs.Failing.{each_none}

-- Each check is in one of the two lists.
in_lists : (v : Volume) → AllByRecursion (λ c. faults v c ≡ []) skeleton → AllByRecursion (λ c. faults v c ≡ []) further → (c : Check) → faults v c ≡ []
in_lists v s f check.Super = s.0
in_lists v s f check.Sysdir = s.1.0
in_lists v s f check.Sysfile = s.1.1.0
in_lists v s f check.Root = s.1.1.1.0
in_lists v s f check.ChainHeader = s.1.1.1.1.0
in_lists v s f check.Journal = s.1.1.1.1.1.0
in_lists v s f check.SlotMap = s.1.1.1.1.1.1.0
in_lists v s f check.JournalDirty = f.0
in_lists v s f check.ChainLink = f.1.0
in_lists v s f check.GroupMissing = f.1.1.0
in_lists v s f check.InodeAllocBit = f.1.1.1.0
in_lists v s f check.InodeSuballoc = f.1.1.1.1.0
in_lists v s f check.InodeKind = f.1.1.1.1.1.0
in_lists v s f check.Extent = f.1.1.1.1.1.1.0
in_lists v s f check.MetaBlock = f.1.1.1.1.1.1.1.0
in_lists v s f check.MetaSuballoc = f.1.1.1.1.1.1.1.1.0
in_lists v s f check.EbNext = f.1.1.1.1.1.1.1.1.1.0
in_lists v s f check.LastEb = f.1.1.1.1.1.1.1.1.1.1.0
in_lists v s f check.InodeSize = f.1.1.1.1.1.1.1.1.1.1.1.0
in_lists v s f check.DirBlock = f.1.1.1.1.1.1.1.1.1.1.1.1.0
in_lists v s f check.DirentName = f.1.1.1.1.1.1.1.1.1.1.1.1.1.0
in_lists v s f check.DirentDup = f.1.1.1.1.1.1.1.1.1.1.1.1.1.1.0
in_lists v s f check.DirDots = f.1.1.1.1.1.1.1.1.1.1.1.1.1.1.1.0
in_lists v s f check.DirentInode = f.1.1.1.1.1.1.1.1.1.1.1.1.1.1.1.1.0
in_lists v s f check.DirentType = f.1.1.1.1.1.1.1.1.1.1.1.1.1.1.1.1.1.0
in_lists v s f check.DirParent = f.1.1.1.1.1.1.1.1.1.1.1.1.1.1.1.1.1.1.0
in_lists v s f check.OrphanFlag = f.1.1.1.1.1.1.1.1.1.1.1.1.1.1.1.1.1.1.1.0
in_lists v s f check.OrphanEntry = f.1.1.1.1.1.1.1.1.1.1.1.1.1.1.1.1.1.1.1.1.0
in_lists v s f check.NotConnected = f.1.1.1.1.1.1.1.1.1.1.1.1.1.1.1.1.1.1.1.1.1.0
in_lists v s f check.RefTree = f.1.1.1.1.1.1.1.1.1.1.1.1.1.1.1.1.1.1.1.1.1.1.0
in_lists v s f check.RefCover = f.1.1.1.1.1.1.1.1.1.1.1.1.1.1.1.1.1.1.1.1.1.1.1.0
in_lists v s f check.RefCount = f.1.1.1.1.1.1.1.1.1.1.1.1.1.1.1.1.1.1.1.1.1.1.1.1.0
in_lists v s f check.RefUsers = f.1.1.1.1.1.1.1.1.1.1.1.1.1.1.1.1.1.1.1.1.1.1.1.1.1.0
in_lists v s f check.Dx = f.1.1.1.1.1.1.1.1.1.1.1.1.1.1.1.1.1.1.1.1.1.1.1.1.1.1.0
in_lists v s f check.InodeClusters = f.1.1.1.1.1.1.1.1.1.1.1.1.1.1.1.1.1.1.1.1.1.1.1.1.1.1.1.0
in_lists v s f check.InodeCount = f.1.1.1.1.1.1.1.1.1.1.1.1.1.1.1.1.1.1.1.1.1.1.1.1.1.1.1.1.0
in_lists v s f check.DupClusters = f.1.1.1.1.1.1.1.1.1.1.1.1.1.1.1.1.1.1.1.1.1.1.1.1.1.1.1.1.1.0
in_lists v s f check.LocalAlloc = f.1.1.1.1.1.1.1.1.1.1.1.1.1.1.1.1.1.1.1.1.1.1.1.1.1.1.1.1.1.1.0
in_lists v s f check.TruncateLog = f.1.1.1.1.1.1.1.1.1.1.1.1.1.1.1.1.1.1.1.1.1.1.1.1.1.1.1.1.1.1.1.0
in_lists v s f check.BackupSuper = f.1.1.1.1.1.1.1.1.1.1.1.1.1.1.1.1.1.1.1.1.1.1.1.1.1.1.1.1.1.1.1.1.0
in_lists v s f check.BlockAllocBit = f.1.1.1.1.1.1.1.1.1.1.1.1.1.1.1.1.1.1.1.1.1.1.1.1.1.1.1.1.1.1.1.1.1.0
in_lists v s f check.ClusterAllocBit = f.1.1.1.1.1.1.1.1.1.1.1.1.1.1.1.1.1.1.1.1.1.1.1.1.1.1.1.1.1.1.1.1.1.1.0
in_lists v s f check.GroupChain = f.1.1.1.1.1.1.1.1.1.1.1.1.1.1.1.1.1.1.1.1.1.1.1.1.1.1.1.1.1.1.1.1.1.1.1.0
in_lists v s f check.GroupFreeBits = f.1.1.1.1.1.1.1.1.1.1.1.1.1.1.1.1.1.1.1.1.1.1.1.1.1.1.1.1.1.1.1.1.1.1.1.1.0
in_lists v s f check.ChainBits = f.1.1.1.1.1.1.1.1.1.1.1.1.1.1.1.1.1.1.1.1.1.1.1.1.1.1.1.1.1.1.1.1.1.1.1.1.1.0
in_lists v s f check.AllocTotals = f.1.1.1.1.1.1.1.1.1.1.1.1.1.1.1.1.1.1.1.1.1.1.1.1.1.1.1.1.1.1.1.1.1.1.1.1.1.1.0

-- Where nothing fails, each check has no block where it fails.
pub no_check_fails : (v : Volume) → failing v ≡ [] → (c : Check) → faults v c ≡ []
no_check_fails v h c =
    let both = none_of_both v h in
    in_lists v (each_none v skeleton both.0) (each_none v further both.1) c
