-- What the checks of refcount trees ask of rows.
use Rattle.std.specs.Prelude.{ℕ, ◌-◌, ◌%◌, ◌^◌, min, Bool, ◌&&◌, ◌||◌, not, ◌==◌, nat_lt, List, [], flat_map, if◌then◌else◌}
use Rattle.std.specs.List.{list_all, list_any}
use Rattle.std.specs.Option.{is_some}
use Rattle.o2_ondisk.specs.declared.refcount_rec.RefcountRec.{RefcountRec}
use Rattle.o2_model.specs.declared.placed_refcount.PlacedRefcount.{PlacedRefcount}
use Rattle.o2_model.specs.Faults.{fails_unless}
use Rattle.o2_model.specs.Checks.RefCover.{record_clusters}
use Rattle.o2_tables.specs.declared.inodes.InodeRow.{InodeRow}
use Rattle.o2_tables.specs.declared.refcounts.RefcountTreeRow.{RefcountTreeRow}
use Rattle.o2_judges_refcount.specs.References.{users_of, times_of}
use Rattle.o2_judges_refcount.specs.declared.sharing.References.{References}

-- ---- inodes
-- one of its runs is shared
unfoldable pub shares : InodeRow → Bool
shares row = list_any (λ run. run.is_shared) row.runs

-- the inode, where it shares clusters and has no tree in range
unfoldable pub inode_faults : InodeRow → List ℕ
inode_faults row = if shares row then fails_unless row.block (is_some row.tree) else []

-- ---- trees, beside what inodes refer to
-- the root tells how many inodes the tree has, modulo 2^32
abbrev pub has_users : References → RefcountTreeRow → Bool
has_users r t = t.users == users_of r t.root.block % 2 ^ 32

-- all clusters of the record are referred to so often as its first
abbrev pub is_even : References → ℕ → RefcountRec → Bool
is_even r root x = list_all (λ c. times_of r root c == times_of r root x.cpos) (record_clusters x)

-- and this one is referred to
abbrev pub is_shared : References → ℕ → RefcountRec → Bool
is_shared r root x = nat_lt 0 (times_of r root x.cpos) && is_even r root x

-- where they are, the record tells how often
abbrev pub has_count : References → ℕ → PlacedRefcount → Bool
has_count r root p = not (is_shared r root p.fields) || p.fields.refcount == min (times_of r root p.fields.cpos) (2 ^ 32 - 1)

-- the block of a record that tells another number
unfoldable pub record_faults : References → ℕ → PlacedRefcount → List ℕ
record_faults r root p = fails_unless p.block (has_count r root p)

-- those of the tree's records, where its root is a refcount block
abbrev pub count_faults : References → RefcountTreeRow → List ℕ
count_faults r t = if t.root.is_refcount_block then flat_map (record_faults r t.root.block) t.records else []
