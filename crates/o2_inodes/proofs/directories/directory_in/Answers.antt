-- The dinode's mode says whether there is a directory.
use Rattle.std.proofs.Common.{sym, ◌∙◌, ap}
use Rattle.o2_ondisk.specs.Dinodes.{dinode_of}
use Rattle.o2_ondisk.specs.Kinds.{kind_of_mode}
use Rattle.o2_ondisk.specs.declared.dinode.Dinode.{Dinode}
use Rattle.o2_model.specs.Inodes.{is_directory_kind}
use Rattle.o2_inodes.proofs.DirectoriesTold.{directory_by}
use Rattle.o2_inodes.proofs.directories.directory_in.Goals as goal

pub returns-then-not-is_of_directory-clause-told : goal.returns-then-not-is_of_directory-clause-told
returns-then-not-is_of_directory-clause-told g c v shows held =
    let is = c.read_dinode.ensures ∙ ap dinode_of held.holds in
    directory_by v c.args.b _ (sym (c.is_of_directory.ensures ∙ ap (λ (d : Dinode). is_directory_kind (kind_of_mode d.mode)) is) ∙ c.if-not-is_of_directory.true)

pub returns-clause-told : goal.returns-clause-told
returns-clause-told g c v shows held =
    let is = c.read_dinode.ensures ∙ ap dinode_of held.holds in
    record {
      is = directory_by v c.args.b _ (sym (c.is_of_directory.ensures ∙ ap (λ (d : Dinode). is_directory_kind (kind_of_mode d.mode)) is) ∙ c.if-not-is_of_directory.false);
      whole = c.in_ok-directory.ensures.told v shows held;
    }
