-- The indexes so far were judged.
use Rattle.std.proofs.Common.{◌≡◌, ◌++◌, map, take}
use Rattle.o2_model.specs.Volume.{Volume}
use Rattle.o2_model.specs.Claims.{structure_claims, inode_claims}
use Rattle.o2_claims.specs.Owners.{clusters_of, AreOwners}
use Rattle.o2_tree.specs.TreeRows.{IsIndexTable}
use Rattle.o2_judges_index.specs.IndexRows.{AreBlockUses}
use Rattle.o2_judges_index.specs.Judgements.{IsJudgedTo}
use Rattle.o2_judges_index.proofs.judge.judge_indexes.Given as goal

abbrev pub invariant-loop-row : goal.invariant-loop-row
invariant-loop-row l = record {
  clusters : clusters_of l.claims ≡ clusters_of l.fn.claims;
  told : (v : Volume) → AreBlockUses v l.uses → IsIndexTable v l.indexes → clusters_of l.fn.claims ≡ v.geo.clusters → AreOwners (structure_claims v ++ inode_claims v) l.fn.claims
      → IsJudgedTo v (map (λ r. r.directory) (take l.row-index l.indexes)) l.judged l.claims;
}
