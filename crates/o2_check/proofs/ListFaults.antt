-- Where checks fail that are judged in a pass, as its lists tell it.
use Rattle.std.proofs.Common.{◌≡◌, ℕ, ◌<◌, ◌^◌, List, [], ◌∷◌, ◌++◌, Result, Ok, Err, refl, sym, ◌∙◌, ap}
use Rattle.std.specs.Prelude.{flat_map, IfOk}
use Rattle.std.specs.Global.{Vec}
use Rattle.std.proofs.lemmas.Grind.{flat_map-append}
use Rattle.o2_model.specs.declared.check.Check.{Check}
use Rattle.o2_model.specs.declared.check.Check.TheVariants as check
use Rattle.o2_model.specs.declared.geo.Geo.{Geo}
use Rattle.o2_model.specs.Orders.{rising}
use Rattle.o2_model.specs.Volume.{Volume}
use Rattle.o2_model.specs.Inodes.{extent_lists_of}
use Rattle.o2_model.specs.Groups.{group_walk, inodes_of}
use Rattle.o2_model.specs.RefcountTrees.{refcount_roots, leaf_list}
use Rattle.o2_model.specs.Tree.{tree_walk}
use Rattle.o2_model.specs.Checks.EbNext.{leaf_blocks, next_faults}
use Rattle.o2_model.specs.Checks.BackupSuper.{backup_super_faults}
use Rattle.o2_model.specs.Failing.{faults}
use Rattle.o2_claims.specs.Owners.{clusters_of}
use Rattle.o2_claims.specs.declared.claims.Claims.{Claims}
use Rattle.o2_inodes.specs.InodeSurveys.{TellsInodes}
use Rattle.o2_inodes.specs.declared.survey.InodeSurvey.{InodeSurvey}
use Rattle.o2_refcount.specs.TreeReadings.{IsTreeSurvey, next_faults_of}
use Rattle.o2_refcount.specs.declared.trees.TreeSurvey.{TreeSurvey}
use Rattle.o2_skeleton.specs.Skeleton.{HasSkeleton}
use Rattle.o2_check.specs.Findings.{AreFindings}
use Rattle.o2_check.specs.declared.findings.Findings.{Findings}

-- ---- inode by inode
pub kinds_told : (v : Volume) (s : InodeSurvey) → TellsInodes v (inodes_of v) s → rising s.kinds.items ≡ rising (faults v check.InodeKind)
unfolding faults
kinds_told v s tells = ap rising tells.kinds

pub extents_told : (v : Volume) (s : InodeSurvey) → TellsInodes v (inodes_of v) s → rising s.extents.items ≡ rising (faults v check.Extent)
unfolding faults
extents_told v s tells = ap rising tells.extents

pub sizes_told : (v : Volume) (s : InodeSurvey) → TellsInodes v (inodes_of v) s → rising s.sizes.items ≡ rising (faults v check.InodeSize)
unfolding faults
sizes_told v s tells = ap rising tells.sizes

pub dir_blocks_told : (v : Volume) (s : InodeSurvey) → TellsInodes v (inodes_of v) s → rising s.dir_blocks.items ≡ rising (faults v check.DirBlock)
unfolding faults
dir_blocks_told v s tells = ap rising tells.dir_blocks

pub names_told : (v : Volume) (s : InodeSurvey) → TellsInodes v (inodes_of v) s → rising s.names.items ≡ rising (faults v check.DirentName)
unfolding faults
names_told v s tells = ap rising tells.names

pub again_told : (v : Volume) (s : InodeSurvey) → TellsInodes v (inodes_of v) s → rising s.again.items ≡ rising (faults v check.DirentDup)
unfolding faults
again_told v s tells = tells.again

-- ---- of inodes and of refcount trees
of_lists : (v : Volume) (roots : List ℕ) → flat_map (λ t. next_faults v (leaf_blocks v t)) (flat_map (λ root. leaf_list v root ∷ []) roots) ≡ flat_map (next_faults_of v) roots
of_lists v [] = refl
of_lists v (root ∷ roots) = ap (λ ns. next_faults_of v root ++ ns) (of_lists v roots)

pub next_told : (v : Volume) (s : InodeSurvey) (t : TreeSurvey) → TellsInodes v (inodes_of v) s → IsTreeSurvey v t
    → rising (s.next_leaves.items ++ t.next_leaves.items) ≡ rising (faults v check.EbNext)
unfolding faults
next_told v s t tells trees =
    ap rising
    (ap (λ ns. ns ++ t.next_leaves.items) tells.next
    ∙ (ap (λ ns. flat_map (λ u. next_faults v (leaf_blocks v u)) (flat_map (extent_lists_of v) (inodes_of v)) ++ ns) (trees.next ∙ sym (of_lists v (refcount_roots v)))
    ∙ sym (flat_map-append (λ u. next_faults v (leaf_blocks v u)) (flat_map (extent_lists_of v) (inodes_of v)) (flat_map (λ root. leaf_list v root ∷ []) (refcount_roots v)))))

pub last_told : (v : Volume) (s : InodeSurvey) (t : TreeSurvey) → TellsInodes v (inodes_of v) s → IsTreeSurvey v t
    → rising (s.last_leaves.items ++ t.last_leaves.items) ≡ rising (faults v check.LastEb)
unfolding faults
last_told v s t tells trees = rw (tells.last, trees.last) refl

-- ---- of chains, of the tree and of backups
pub links_told : (v : Volume) (links : List ℕ) → links ≡ (group_walk v).faults → rising links ≡ rising (faults v check.ChainLink)
unfolding faults
links_told v links are = ap rising are

pub second_told : (v : Volume) (second : List ℕ) → second ≡ (tree_walk v).faults → rising second ≡ rising (faults v check.DirParent)
unfolding faults
second_told v second are = ap rising are

pub backups_told : (v : Volume) (found : List ℕ) → found ≡ backup_super_faults v → rising found ≡ rising (faults v check.BackupSuper)
unfolding faults
backups_told v found are = ap rising are

-- ---- a list that was copied
pub copy_told : {E : Type 0} (r : Result (Vec ℕ) E) (geo : Geo) (f : Findings) (c d : Check) (found : List ℕ) → c ≡ d
    → ((v : Volume) → AreFindings v f → rising found ≡ rising (faults v d)) → IfOk r (λ copy. copy.items ≡ found)
    → IfOk r (λ blocks. (v : Volume) → v.geo ≡ geo → HasSkeleton v → AreFindings v f → rising blocks.items ≡ rising (faults v c))
copy_told (Ok copy) geo f c d found same told is = λ v numbers holds are. ap rising is ∙ (told v are ∙ ap (λ k. rising (faults v k)) (sym same))
copy_told (Err e) geo f c d found same told is = tt

-- ---- numbers of 32 bits
pub few_clusters : (claims : Claims) → clusters_of claims < 2 ^ 32
unfolding clusters_of
few_clusters claims = claims.fits
