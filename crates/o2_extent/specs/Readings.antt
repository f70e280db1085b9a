-- What was read of a tree, as the reader keeps it.
use Rattle.std.specs.Prelude.{◌≡◌, ℕ, ◌+◌, ◌-◌, ◌*◌, ◌^◌, ◌≤◌, true, All, List, [], ◌∷◌, length, map}
use Rattle.std.specs.List.{AllByRecursion}
use Rattle.o2_disk.specs.declared.disk.Disk as disk
use Rattle.o2_ondisk.specs.declared.extent_rec.ExtentRec.{ExtentRec}
use Rattle.o2_model.specs.declared.geo.Geo.{Geo}
use Rattle.o2_model.specs.declared.leaf.Leaf.{Leaf}
use Rattle.o2_model.specs.Volume.{Volume}
use Rattle.o2_model.specs.Extents.{Extents, LeafRule, extent_block, list_in_block, end_of, names_new_block, is_extent_block, records_in_block, with_met, with_seen, with_fault, read_records}
use Rattle.o2_model.specs.Checks.Extent.{extent_faults}
use Rattle.o2_model.specs.declared.check.Check.TheVariants as check
use Rattle.o2_view.specs.Geos.{blocks_of}
use Rattle.o2_view.specs.OwnChecks.{OwnCheck}
use Rattle.o2_view.specs.Counted.{CallsBut}
use Rattle.o2_view.specs.Views.{view_state}
use Rattle.o2_view.specs.declared.view.View.{View}
use Rattle.o2_extent.specs.declared.list_block.ListBlock.{ListBlock}
use Rattle.o2_extent.specs.declared.reading.Reading.{Reading}

-- the clusters of the record lie within the volume of these numbers
abbrev pub IsWithin : Geo → Leaf → Type 0
IsWithin geo leaf = leaf.block + leaf.clusters * 2 ^ (geo.cluster_bits - geo.block_bits) ≤ blocks_of geo

-- the clusters of each of these records do
abbrev pub Within : Geo → List Leaf → Type 0
Within geo leaves = All (IsWithin geo) leaves

-- The row tells what the extent block says of itself, and how deep its list is.
pub record IsListBlock (v : Volume) (row : ListBlock) : Type 0 where
  pub fields : row.fields ≡ extent_block v row.block
  pub depth : row.depth ≡ (list_in_block v row.block).header.tree_depth

-- The rows are those of these extent blocks, in order.
pub record AreListBlocks (v : Volume) (blocks : List ℕ) (rows : List ListBlock) : Type 0 where
  pub listed : map (λ r. r.block) rows ≡ blocks
  pub each : AllByRecursion (IsListBlock v) rows

-- the reader keeps this reading
pub record Keeps (v : Volume) (reading : Reading) (t : Extents) : Type 0 where
  pub leaves : reading.leaves.items ≡ t.leaves
  pub end : reading.end ≡ end_of t.leaves
  pub seen : reading.seen ≡ t.seen
  pub blocks : AreListBlocks v t.blocks reading.blocks.items
  pub faults : reading.faults.items ≡ t.faults

-- The reader keeps a reading from which the records left give this whole.
pub record Left (v : Volume) (rule : LeafRule) (depth holder low : ℕ) (left : List ExtentRec) (reading : Reading) (whole : Extents) : Type 0 where
  pub now : Extents
  pub keeps : Keeps v reading now
  pub gives : read_records v rule depth holder low left now ≡ whole

-- After a record of a leaf list the reader keeps a reading from which the records left give what they give with it.
pub record GoesOn (v : Volume) (rule : LeafRule) (t : Extents) (r : ExtentRec) (reading : Reading) : Type 0 where
  pub now : Extents
  pub keeps : Keeps v reading now
  pub gives : (holder low : ℕ) (rs : List ExtentRec) → read_records v rule 0 holder low (r ∷ rs) t ≡ read_records v rule 0 holder low rs now

-- A record of a leaf list is bad, and the reader keeps what it kept.
pub record Stops (v : Volume) (rule : LeafRule) (t : Extents) (r : ExtentRec) (reading : Reading) : Type 0 where
  pub keeps : Keeps v reading t
  pub gives : (holder low : ℕ) (rs : List ExtentRec) → read_records v rule 0 holder low (r ∷ rs) t ≡ with_fault t holder

-- A record of a list of this depth names the block of the next list, which was looked at and has these records.
pub record Enters (v : Volume) (depth low : ℕ) (t : Extents) (r : ExtentRec) (reading : Reading) (below : List ExtentRec) : Type 0 where
  pub names : names_new_block v low t.seen r ≡ true
  pub is_one : is_extent_block v (depth - 1) r.blkno ≡ true
  pub records : below ≡ records_in_block v r.blkno
  pub keeps : Keeps v reading (with_met v r.blkno (with_seen t r.blkno))

module _ {D : Type 0} {N : ℕ} {g : disk.Ghosts D} where
  -- Where the disk tells its content, it was called at most once for each block that was looked at.
  pub record LooksAtMost (seen_before seen : List ℕ) (old new : View D N g) : Type 0 where
    pub grew : length seen_before ≤ length seen
    pub calls : CallsBut (length seen_before) (length seen) (view_state old) (view_state new)

-- what a reader of the extents of the inode at `owner` judges: EXTENT
abbrev pub extent_checks : ℕ → List OwnCheck
extent_checks owner = record { check = check.Extent; faults = λ v. extent_faults v owner } ∷ []
