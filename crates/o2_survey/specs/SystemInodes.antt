-- Inodes that entries of the system directory name.
use Rattle.std.specs.Prelude.{◌≡◌, ℕ, true, not, List, map, filter, is_some}
use Rattle.std.specs.BTreeMap.{get}
use Rattle.std.specs.Option.{IfSome}
use Rattle.std.specs.Ordering.{nat_cmp}
use Rattle.o2_model.specs.declared.entry.Entry.{Entry}
use Rattle.o2_model.specs.Words.{among}
use Rattle.o2_model.specs.Volume.{Volume, is_in_range, is_valid, dinode}
use Rattle.o2_model.specs.Directories.{is_dot}
use Rattle.o2_model.specs.Inodes.{kind}
use Rattle.o2_model.specs.RefcountTrees.{has_refcount}
use Rattle.o2_survey.specs.declared.system_inode.SystemInode.{SystemInode}
use Rattle.o2_survey.specs.declared.named_inodes.SystemInodes.{SystemInodes}

-- the inodes that these entries name, those of the dots left out
abbrev pub named_by : List Entry → List ℕ
named_by es = map (λ e. e.inode) (filter (λ e. not (is_dot e)) es)

-- The row tells what the dinode in the block says.
pub record IsSystemInode (v : Volume) (b : ℕ) (row : SystemInode) : Type 0 where
  pub is_valid : row.is_valid ≡ is_valid v b
  pub kind : row.kind ≡ kind v b
  pub flags : row.flags ≡ (dinode v b).flags
  pub shares : row.has_refcount ≡ has_refcount v b
  pub role_data : row.role_data ≡ (dinode v b).role_data

-- What was read is the volume's: each row, which is of a block in range, and each block that is kept.
pub record AreRead (v : Volume) (inodes : SystemInodes) : Type 0 where
  pub inside : (b : ℕ) → IfSome (get nat_cmp inodes.rows b) (λ row. is_in_range v b ≡ true)
  pub rows : (b : ℕ) → IfSome (get nat_cmp inodes.rows b) (IsSystemInode v b)
  pub blocks : (b : ℕ) → IfSome (get nat_cmp inodes.blocks b) (λ block. block ≡ v.at b)

-- The same, and each of these inodes that is in range has a row.
pub record AreSystemInodes (v : Volume) (named : List ℕ) (inodes : SystemInodes) : Type 0 where
  pub read : AreRead v inodes
  pub whole : (b : ℕ) → among named b ≡ true → is_in_range v b ≡ true → is_some (get nat_cmp inodes.rows b) ≡ true
