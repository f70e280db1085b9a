-- The dinode that was read is the volume's.
use Rattle.std.proofs.Common.{◌≡◌, sym, ◌∙◌, ap}
use Rattle.o2_ondisk.specs.Dinodes.{dinode_of}
use Rattle.o2_model.specs.Volume.{dinode}
use Rattle.o2_dir.proofs.FileParts.{kind_told, true_is_false}
use Rattle.o2_dir.proofs.data_inode.has_bytes.Goals as goal

pub returns-then-not-is_valid_dinode-clause-no : goal.returns-then-not-is_valid_dinode-clause-no
returns-then-not-is_valid_dinode-clause-no g c is v shows has =
    let b = c.args.inode in
    let tells : c.read_dinode-dinode.result ≡ dinode v b =
    c.read_dinode-dinode.ensures ∙ ap dinode_of (c.as_slice.ensures ∙ c.in_ok-block.ensures.bytes v shows) in
    true_is_false (sym has.valid ∙ (sym (c.is_valid_dinode.ensures v shows.numbers tells) ∙ c.if-not-is_valid_dinode.true))

pub returns-clause-yes : goal.returns-clause-yes
returns-clause-yes g c is v shows =
    let b = c.args.inode in
    let tells : c.read_dinode-dinode.result ≡ dinode v b =
    c.read_dinode-dinode.ensures ∙ ap dinode_of (c.as_slice.ensures ∙ c.in_ok-block.ensures.bytes v shows) in
    let kind = kind_told v b c.read_dinode-dinode.result tells in
    record { valid = sym (c.is_valid_dinode.ensures v shows.numbers tells) ∙ c.if-not-is_valid_dinode.false; kind = sym kind ∙ (sym c.is_of_file_or_link.ensures ∙ is) }

pub returns-clause-no : goal.returns-clause-no
returns-clause-no g c is v shows has =
    let b = c.args.inode in
    let tells : c.read_dinode-dinode.result ≡ dinode v b =
    c.read_dinode-dinode.ensures ∙ ap dinode_of (c.as_slice.ensures ∙ c.in_ok-block.ensures.bytes v shows) in
    let kind = kind_told v b c.read_dinode-dinode.result tells in
    true_is_false (sym has.kind ∙ (sym kind ∙ (sym c.is_of_file_or_link.ensures ∙ is)))
