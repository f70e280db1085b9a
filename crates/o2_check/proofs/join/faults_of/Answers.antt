-- Each list that a pass has, and each judge's.
use Rattle.std.proofs.Common.{◌≡◌, ◌<◌, ◌^◌, ◌++◌, sym, ◌∙◌, ap, subst}
use Rattle.std.proofs.lemmas.Result.{IfOk-weaker}
use Rattle.o2_model.specs.declared.check.Check.{Check}
use Rattle.o2_model.specs.declared.geo.Geo.{Geo}
use Rattle.o2_model.specs.Orders.{rising}
use Rattle.o2_model.specs.Failing.{faults}
use Rattle.o2_view.specs.Geos.{blocks_of}
use Rattle.o2_tables.specs.Rows.{IsGroupTable, IsInodeTable, IsRefcountTreeTable}
use Rattle.o2_check.proofs.FirstPairs.{skeleton_none}
use Rattle.o2_check.proofs.ListFaults.{kinds_told, extents_told, sizes_told, dir_blocks_told, names_told, again_told, next_told, last_told, links_told, second_told, backups_told, copy_told, few_clusters}
use Rattle.o2_check.proofs.join.faults_of.Goals as goal

pub returns-in-Super : goal.returns-in-Super
returns-in-Super c v numbers holds are = ap rising c.new.ensures.items ∙ skeleton_none v c.args.check c.in-Super.is holds

pub returns-in-ChainLink : goal.returns-in-ChainLink
returns-in-ChainLink c = copy_told c.copied-in-ChainLink.result c.args.geo.now c.args.findings.now c.args.check _ _ c.in-ChainLink.is (λ v are. ap rising c.as_slice.ensures ∙ links_told v _ are.tables.skeleton.links) c.copied-in-ChainLink.ensures

pub returns-in-InodeKind : goal.returns-in-InodeKind
returns-in-InodeKind c = copy_told c.copied-in-InodeKind.result c.args.geo.now c.args.findings.now c.args.check _ _ c.in-InodeKind.is (λ v are. ap rising c.deref-in-InodeKind.ensures.value ∙ kinds_told v _ are.tables.judged) c.copied-in-InodeKind.ensures

pub returns-in-Extent : goal.returns-in-Extent
returns-in-Extent c = copy_told c.copied-in-Extent.result c.args.geo.now c.args.findings.now c.args.check _ _ c.in-Extent.is (λ v are. ap rising c.deref-in-Extent.ensures.value ∙ extents_told v _ are.tables.judged) c.copied-in-Extent.ensures

pub returns-in-InodeSize : goal.returns-in-InodeSize
returns-in-InodeSize c = copy_told c.copied-in-InodeSize.result c.args.geo.now c.args.findings.now c.args.check _ _ c.in-InodeSize.is (λ v are. ap rising c.deref-in-InodeSize.ensures.value ∙ sizes_told v _ are.tables.judged) c.copied-in-InodeSize.ensures

pub returns-in-DirBlock : goal.returns-in-DirBlock
returns-in-DirBlock c = copy_told c.copied-in-DirBlock.result c.args.geo.now c.args.findings.now c.args.check _ _ c.in-DirBlock.is (λ v are. ap rising c.deref-in-DirBlock.ensures.value ∙ dir_blocks_told v _ are.tables.judged) c.copied-in-DirBlock.ensures

pub returns-in-DirentName : goal.returns-in-DirentName
returns-in-DirentName c = copy_told c.copied-in-DirentName.result c.args.geo.now c.args.findings.now c.args.check _ _ c.in-DirentName.is (λ v are. ap rising c.deref-in-DirentName.ensures.value ∙ names_told v _ are.tables.judged) c.copied-in-DirentName.ensures

pub returns-in-DirentDup : goal.returns-in-DirentDup
returns-in-DirentDup c = copy_told c.copied-in-DirentDup.result c.args.geo.now c.args.findings.now c.args.check _ _ c.in-DirentDup.is (λ v are. ap rising c.deref-in-DirentDup.ensures.value ∙ again_told v _ are.tables.judged) c.copied-in-DirentDup.ensures

pub returns-in-DirParent : goal.returns-in-DirParent
returns-in-DirParent c = copy_told c.copied-in-DirParent.result c.args.geo.now c.args.findings.now c.args.check _ _ c.in-DirParent.is (λ v are. ap rising c.deref-in-DirParent.ensures.value ∙ second_told v _ are.walk.second) c.copied-in-DirParent.ensures

pub returns-in-BackupSuper : goal.returns-in-BackupSuper
returns-in-BackupSuper c = copy_told c.copied-in-BackupSuper.result c.args.geo.now c.args.findings.now c.args.check _ _ c.in-BackupSuper.is (λ v are. ap rising c.deref-in-BackupSuper.ensures.value ∙ backups_told v _ are.tables.backups) c.copied-in-BackupSuper.ensures

pub returns-in-EbNext : goal.returns-in-EbNext
returns-in-EbNext c =
    copy_told c.joined.result c.args.geo.now c.args.findings.now c.args.check _ _ c.in-EbNext.is
    (λ v are. ap (λ ns. rising (ns ++ c.deref-in-EbNext-2.result.now)) c.deref-in-EbNext.ensures.value ∙ (ap (λ ns. rising (c.args.findings.now.tables.inodes.next_leaves.items ++ ns)) c.deref-in-EbNext-2.ensures.value ∙ next_told v _ _ are.tables.judged are.tables.trees))
    c.joined.ensures

pub returns-in-LastEb : goal.returns-in-LastEb
returns-in-LastEb c =
    copy_told c.joined-in-LastEb.result c.args.geo.now c.args.findings.now c.args.check _ _ c.in-LastEb.is
    (λ v are. ap (λ ns. rising (ns ++ c.deref-in-LastEb-2.result.now)) c.deref-in-LastEb.ensures.value ∙ (ap (λ ns. rising (c.args.findings.now.tables.inodes.last_leaves.items ++ ns)) c.deref-in-LastEb-2.ensures.value ∙ last_told v _ _ are.tables.judged are.tables.trees))
    c.joined-in-LastEb.ensures

pub returns-in-InodeAllocBit : goal.returns-in-InodeAllocBit
returns-in-InodeAllocBit c = IfOk-weaker c.inode_alloc_bit.result _ _
    (λ found told v numbers holds are.
    told v (subst (λ (geo : Geo). blocks_of geo < 2 ^ 64) (sym numbers) c.requires.few) (subst (IsGroupTable v) (sym c.as_slice-groups.ensures) are.tables.skeleton.groups) are.inodes
    ∙ ap (λ (k : Check). rising (faults v k)) (sym c.in-InodeAllocBit.is))
    c.inode_alloc_bit.ensures

pub returns-in-InodeSuballoc : goal.returns-in-InodeSuballoc
returns-in-InodeSuballoc c = IfOk-weaker c.inode_suballoc.result _ _
    (λ found told v numbers holds are.
    told v (subst (λ (geo : Geo). blocks_of geo < 2 ^ 64) (sym numbers) c.requires.few) (subst (IsGroupTable v) (sym c.as_slice-groups.ensures) are.tables.skeleton.groups) (subst (IsInodeTable v) (sym c.deref-in-InodeSuballoc.ensures.value) are.tables.inodes)
    ∙ ap (λ (k : Check). rising (faults v k)) (sym c.in-InodeSuballoc.is))
    c.inode_suballoc.ensures

pub returns-in-MetaBlock : goal.returns-in-MetaBlock
returns-in-MetaBlock c = IfOk-weaker c.meta_block.result _ _
    (λ found told v numbers holds are.
    told v (subst (λ (geo : Geo). blocks_of geo < 2 ^ 64) (sym numbers) c.requires.few) (subst (IsGroupTable v) (sym c.as_slice-groups.ensures) are.tables.skeleton.groups) (subst (IsInodeTable v) (sym c.deref-in-MetaBlock.ensures.value) are.tables.inodes)
    (subst (IsRefcountTreeTable v) (sym c.deref-in-MetaBlock-2.ensures.value) are.tables.trees.table)
    ∙ ap (λ (k : Check). rising (faults v k)) (sym c.in-MetaBlock.is))
    c.meta_block.ensures

pub returns-in-MetaSuballoc : goal.returns-in-MetaSuballoc
returns-in-MetaSuballoc c = IfOk-weaker c.meta_suballoc.result _ _
    (λ found told v numbers holds are.
    told v (subst (λ (geo : Geo). blocks_of geo < 2 ^ 64) (sym numbers) c.requires.few) (subst (IsGroupTable v) (sym c.as_slice-groups.ensures) are.tables.skeleton.groups) (subst (IsInodeTable v) (sym c.deref-in-MetaSuballoc.ensures.value) are.tables.inodes)
    (subst (IsRefcountTreeTable v) (sym c.deref-in-MetaSuballoc-2.ensures.value) are.tables.trees.table)
    ∙ ap (λ (k : Check). rising (faults v k)) (sym c.in-MetaSuballoc.is))
    c.meta_suballoc.ensures

pub returns-in-BlockAllocBit : goal.returns-in-BlockAllocBit
returns-in-BlockAllocBit c = IfOk-weaker c.block_alloc_bit.result _ _
    (λ found told v numbers holds are.
    told v (subst (λ (geo : Geo). blocks_of geo < 2 ^ 64) (sym numbers) c.requires.few) (subst (IsGroupTable v) (sym c.as_slice-groups.ensures) are.tables.skeleton.groups) are.in_use
    ∙ ap (λ (k : Check). rising (faults v k)) (sym c.in-BlockAllocBit.is))
    c.block_alloc_bit.ensures

pub returns-in-ClusterAllocBit : goal.returns-in-ClusterAllocBit
returns-in-ClusterAllocBit c = IfOk-weaker c.cluster_alloc_bit.result _ _
    (λ found told v numbers holds are.
    told v (subst (λ n. n < 2 ^ 32) are.judged.clusters (few_clusters c.args.findings.now.judged.claims)) are.judged.clusters (subst (IsGroupTable v) (sym c.as_slice-groups.ensures) are.tables.skeleton.groups) are.judged.owners
    ∙ ap (λ (k : Check). rising (faults v k)) (sym c.in-ClusterAllocBit.is))
    c.cluster_alloc_bit.ensures
