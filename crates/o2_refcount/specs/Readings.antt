-- What was read of a refcount tree, as the reader keeps it.
use Rattle.std.specs.Prelude.{◌≡◌, ℕ, ◌≤◌, List, [], ◌∷◌, ◌++◌, fold, length}
use Rattle.o2_ondisk.specs.declared.refcount_rec.RefcountRec.{RefcountRec}
use Rattle.o2_model.specs.declared.check.Check.TheVariants as check
use Rattle.o2_model.specs.Checks.RefTree.{ref_tree_faults_of}
use Rattle.o2_model.specs.RefcountTrees.{Refcounts, refcount_end, read_refcount_block}
use Rattle.o2_model.specs.Volume.{Volume}
use Rattle.o2_model.specs.Words.{push}
use Rattle.o2_view.specs.OwnChecks.{OwnCheck}
use Rattle.o2_refcount.specs.declared.reading.Reading.{Reading}

-- what a reader of the tree with this root judges: REF_TREE, of this tree alone
abbrev pub ref_tree_checks : ℕ → List OwnCheck
ref_tree_checks root = record { check = check.RefTree; faults = λ v. ref_tree_faults_of v root } ∷ []

-- ---- a reading of records
-- nothing was read yet
abbrev pub nothing_read : Refcounts
nothing_read = record { records = []; faults = [] }

-- the reading with one record more, which stands in block b
abbrev pub with_record : Refcounts → ℕ → RefcountRec → Refcounts
with_record t b r = record t { records = push t.records (record { block = b; fields = r }) }

-- the reading with a block that is at fault
abbrev pub with_fault : Refcounts → ℕ → Refcounts
with_fault t b = record t { faults = push t.faults b }

-- the reading with the records of these blocks
abbrev pub with_blocks : Volume → Refcounts → List ℕ → Refcounts
with_blocks v t bs = fold (read_refcount_block v) t bs

-- The reader keeps this reading, with these faults before its own.
pub record Keeps (before : List ℕ) (reading : Reading) (t : Refcounts) : Type 0 where
  pub records : reading.records.items ≡ t.records
  pub end : reading.end ≡ refcount_end t.records
  pub faults : reading.faults.items ≡ before ++ t.faults

-- None of these blocks is at fault, and each of their records has one of so many counts.
pub record IsReadWhole (v : Volume) (bs to : List ℕ) : Type 0 where
  pub sound : (with_blocks v nothing_read bs).faults ≡ []
  pub each : length (with_blocks v nothing_read bs).records ≤ length to
