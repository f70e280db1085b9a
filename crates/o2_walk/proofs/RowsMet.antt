-- Rows of inodes tell which entries are followed.
use Rattle.std.proofs.Common.{◌≡◌, ℕ, false, ◌&&◌, not, refl, sym, ◌∙◌, ap}
use Rattle.std.specs.BTreeSet.{BTreeSet}
use Rattle.o2_ondisk.specs.Bits.{has_bits, system_inode_flag}
use Rattle.o2_model.specs.declared.entry.Entry.{Entry}
use Rattle.o2_model.specs.Volume.{Volume, dinode}
use Rattle.o2_model.specs.Words.{among}
use Rattle.o2_model.specs.Directories.{own_inodes}
use Rattle.o2_model.specs.Inodes.{kind, is_directory, is_directory_kind}
use Rattle.o2_model.specs.Groups.{is_inode}
use Rattle.o2_model.specs.Tree.{names_users}
use Rattle.o2_tally.specs.Again.{has_number}
use Rattle.o2_tables.specs.declared.inodes.InodeRow.{InodeRow}
use Rattle.o2_tree.specs.TreeRows.{IsInodeAt}
use Rattle.o2_tree.specs.TreeWalks.{AreOwn}

-- The row of an inode tells whether an entry that names it names one of the users.
pub user_is : (v : Volume) (e : Entry) (row : InodeRow) (own : BTreeSet ℕ) → AreOwn v own → IsInodeAt v e.inode row
    → (not (has_bits row.flags.0 system_inode_flag) && not (has_number own row.block)) ≡ names_users v e
unfolding names_users
user_is v e row own are at =
    ap (λ f. not (has_bits f.0 system_inode_flag) && not (has_number own row.block)) at.says.flags
    ∙ (ap (λ b. not (has_bits (dinode v row.block).flags.0 system_inode_flag) && not b) (are.each row.block)
    ∙ (ap (λ b. not (has_bits (dinode v b).flags.0 system_inode_flag) && not (among (own_inodes v) b)) at.block
    ∙ ap (λ b. b && not (has_bits (dinode v e.inode).flags.0 system_inode_flag) && not (among (own_inodes v) e.inode)) (sym at.is)))

-- An entry that names no inode names none of the users.
pub no_user : (v : Volume) (e : Entry) (b : ℕ) → e.inode ≡ b → is_inode v b ≡ false → names_users v e ≡ false
unfolding names_users
no_user v e b same none = rw (ap (is_inode v) same ∙ none) refl

-- The row tells whether the inode is a directory.
pub directory_is : (v : Volume) (b : ℕ) (row : InodeRow) → IsInodeAt v b row → is_directory_kind row.kind ≡ is_directory v b
unfolding is_directory
directory_is v b row at = ap is_directory_kind at.says.kind ∙ ap (λ n. is_directory_kind (kind v n)) at.block
