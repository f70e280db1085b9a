-- The dinode tells whether the inode is a directory.
use Rattle.std.proofs.Common.{◌∙◌}
use Rattle.o2_dir.proofs.KindTests.{directory_told}
use Rattle.o2_dir.proofs.path_step.directory_block.Goals as goal

pub returns-then-not-is_of_directory-clause-no : goal.returns-then-not-is_of_directory-clause-no
returns-then-not-is_of_directory-clause-no g c v shows =
    directory_told v c.args.inode _ _ _ _ (c.as_slice.ensures ∙ c.in_ok-block.ensures.bytes v shows) c.read_dinode-dinode.ensures c.is_of_directory.ensures c.if-not-is_of_directory.true

pub returns-clause-yes : goal.returns-clause-yes
returns-clause-yes g c v shows =
    directory_told v c.args.inode _ _ _ _ (c.as_slice.ensures ∙ c.in_ok-block.ensures.bytes v shows) c.read_dinode-dinode.ensures c.is_of_directory.ensures c.if-not-is_of_directory.false
