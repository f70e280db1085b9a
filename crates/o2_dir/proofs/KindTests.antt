-- What the dinode that was read tells of the inode's kind.
use Rattle.std.proofs.Common.{◌≡◌, ℕ, Bool, List}
use Rattle.o2_ondisk.specs.Dinodes.{dinode_of}
use Rattle.o2_ondisk.specs.Kinds.{kind_of_mode}
use Rattle.o2_ondisk.specs.declared.dinode.Dinode.{Dinode}
use Rattle.o2_model.specs.Volume.{Volume}
use Rattle.o2_model.specs.Inodes.{is_directory, is_directory_kind}
use Rattle.o2_dir.proofs.FileSizes.{kind_test_told}

pub directory_told : (v : Volume) (b : ℕ) (bytes : List ℕ) (d : Dinode) (told_of is : Bool) → bytes ≡ v.at b → d ≡ dinode_of bytes → told_of ≡ is_directory_kind (kind_of_mode d.mode) → told_of ≡ is → is_directory v b ≡ is
unfolding is_directory
directory_told v b bytes d told_of is holds dinode_is tells tested = kind_test_told is_directory_kind bytes (v.at b) d told_of is holds dinode_is tells tested
