-- Two tests of one dinode.
use Rattle.std.proofs.Common.{◌≡◌, true, false, refl, sym, ◌∙◌, ap}
use Rattle.o2_ondisk.specs.Dinodes.{dinode_of}
use Rattle.o2_model.specs.Volume.{is_valid}
use Rattle.o2_model.specs.Inodes.{is_directory}
use Rattle.o2_dir.proofs.KindTests.{directory_told}
use Rattle.o2_skeleton.proofs.directories.valid_directory.Goals as goal

pub returns-then-not-is_of_directory-clause-none : goal.returns-then-not-is_of_directory-clause-none
returns-then-not-is_of_directory-clause-none g c v shows =
    let holds = c.as_slice.ensures ∙ c.in_ok-block.ensures.bytes v shows in
    let valid : is_valid v c.args.inode ≡ true = sym (c.is_valid_dinode.ensures v shows.numbers (c.read_dinode-dinode.ensures ∙ ap dinode_of holds)) ∙ c.if-not-is_valid_dinode.false in
    let other : is_directory v c.args.inode ≡ false = directory_told v c.args.inode _ _ _ _ holds c.read_dinode-dinode.ensures c.is_of_directory.ensures c.if-not-is_of_directory.true in
    rw (valid, other) refl

pub returns-clause-some : goal.returns-clause-some
returns-clause-some g c v shows =
    let bytes = c.in_ok-block.ensures.bytes v shows in
    let holds = c.as_slice.ensures ∙ bytes in
    let valid : is_valid v c.args.inode ≡ true = sym (c.is_valid_dinode.ensures v shows.numbers (c.read_dinode-dinode.ensures ∙ ap dinode_of holds)) ∙ c.if-not-is_valid_dinode.false in
    let directory : is_directory v c.args.inode ≡ true = directory_told v c.args.inode _ _ _ _ holds c.read_dinode-dinode.ensures c.is_of_directory.ensures c.if-not-is_of_directory.false in
    (rw (valid, directory) refl, bytes)
