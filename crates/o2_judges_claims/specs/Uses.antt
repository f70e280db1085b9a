-- The uses of clusters, told as one goes along.
use Rattle.std.specs.Prelude.{ℕ, ◌+◌, Bool, true, false, ◌&&◌, ◌||◌, not, ◌==◌, List, map, flat_map, Option, Some, None}
use Rattle.std.specs.List.{range_with_len, list_all}
use Rattle.std.specs.Option.{option_map_or}
use Rattle.std.specs.BTreeMap.{get}
use Rattle.std.specs.Ordering.{nat_cmp}
use Rattle.o2_tally.specs.Gathered.{IsGathered}
use Rattle.o2_claims.specs.declared.claims.Claims.{Claims}
use Rattle.o2_claims.specs.Owners.{has_owner}
use Rattle.o2_tables.specs.declared.inodes.ClusterRun.{ClusterRun}
use Rattle.o2_tables.specs.declared.inodes.InodeRow.{InodeRow}
use Rattle.o2_judges_claims.specs.declared.sharers.Sharer.{Sharer}
use Rattle.o2_judges_claims.specs.declared.sharers.Sharer.TheVariants.{Inode, Tree}
use Rattle.o2_judges_claims.specs.declared.sharers.PlacedUse.{PlacedUse}
use Rattle.o2_judges_claims.specs.declared.sharers.Together.{Together}
use Rattle.o2_judges_claims.specs.declared.uses.Uses.{Uses}

abbrev pub is_same : Sharer → Sharer → Bool
is_same (Inode a) (Inode b) = a == b
is_same (Inode a) (Tree b) = false
is_same (Tree a) (Inode b) = false
is_same (Tree a) (Tree b) = a == b

-- ---- uses by rows
-- who uses the clusters of the row
abbrev pub sharer_of : ℕ → Option ℕ → Sharer
sharer_of block None = Inode block
sharer_of block (Some root) = Tree root

abbrev pub sharer : InodeRow → Sharer
sharer row = sharer_of row.block row.tree

-- the use of its k-th cluster by a run
abbrev pub use_at : Sharer → ClusterRun → ℕ → PlacedUse
use_at by run k = record { cluster = run.start + k; is_shared = run.is_shared; by = by }

abbrev pub uses_in_run : Sharer → ClusterRun → List PlacedUse
uses_in_run by run = map (use_at by run) (range_with_len 0 run.clusters)

abbrev pub uses_in_row : InodeRow → List PlacedUse
uses_in_row row = flat_map (uses_in_run (sharer row)) row.runs

-- ---- what they are together
abbrev pub with_use : Option Together → PlacedUse → Together
with_use None u = record { are_several = false; may_share = u.is_shared; by = u.by }
with_use (Some t) u = record { are_several = true; may_share = t.may_share && u.is_shared && is_same t.by u.by; by = t.by }

-- these uses were added
abbrev pub AreUses : List PlacedUse → Uses → Type 0
AreUses us uses = IsGathered (λ u. u.cluster) with_use us uses.of

abbrev pub is_good : Together → Bool
is_good t = not t.are_several || t.may_share

abbrev pub is_good_at : Uses → ℕ → Bool
is_good_at uses c = option_map_or is_good (get nat_cmp uses.of c) true

-- ---- what they may be
-- no structure has the cluster, and its uses may stand together
abbrev pub is_free_and_good : Claims → Uses → ℕ → Bool
is_free_and_good structures uses c = not (has_owner structures c) && is_good_at uses c

abbrev pub are_good_in_run : Claims → Uses → ClusterRun → Bool
are_good_in_run structures uses run = list_all (λ k. is_free_and_good structures uses (run.start + k)) (range_with_len 0 run.clusters)

abbrev pub are_good_in_row : Claims → Uses → InodeRow → Bool
are_good_in_row structures uses row = list_all (are_good_in_run structures uses) row.runs
