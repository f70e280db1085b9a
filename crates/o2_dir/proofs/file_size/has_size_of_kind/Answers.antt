-- The size is judged by what the inode is.
use Rattle.std.proofs.Common.{length, refl, ◌∙◌}
use Rattle.std.proofs.lemmas.Result.{IfOk-weaker}
use Rattle.o2_model.specs.Volume.{dinode}
use Rattle.o2_model.specs.Inodes.{is_directory_kind, is_file_kind, is_link_kind}
use Rattle.o2_dir.proofs.AnyBlocks.{inline_told, size_told_of}
use Rattle.o2_dir.proofs.FileSizes.{inline_size, link_size, file_size, other_size, directory_is, kind_test_told}
use Rattle.o2_dir.proofs.Whole.{block_is}
use Rattle.o2_dir.proofs.file_size.has_size_of_kind.Goals as goal

pub returns-then-is_inline : goal.returns-then-is_inline
returns-then-is_inline c v same b read may =
    let bytes = c.args.bytes.now in
    let inside = inline_told bytes (v.at b) _ _ _ read.holds c.read_dinode-dinode.ensures c.is_inline.ensures c.if-is_inline.true in
    let long = block_is v c.args.geo.now (length bytes) same c.requires.size in
    c.has_room.ensures.test ∙ inline_size v b c.read_dinode-dinode.result.size bytes read.holds long (size_told_of bytes (v.at b) _ read.holds c.read_dinode-dinode.ensures) inside

pub returns-then-is_of_link : goal.returns-then-is_of_link
returns-then-is_of_link c v same b read may =
    let bytes = c.args.bytes.now in
    let outside = inline_told bytes (v.at b) _ _ _ read.holds c.read_dinode-dinode.ensures c.is_inline.ensures c.if-is_inline.false in
    let link = kind_test_told is_link_kind bytes (v.at b) _ _ _ read.holds c.read_dinode-dinode.ensures c.is_of_link.ensures c.if-is_of_link.true in
    let long = block_is v c.args.geo.now (length bytes) same c.requires.size in
    c.has_text.ensures ∙ link_size v b c.read_dinode-dinode.result bytes c.args.leaves.now read long c.read_dinode-dinode.ensures outside link

pub returns-then-is_of_directory : goal.returns-then-is_of_directory
returns-then-is_of_directory c = IfOk-weaker c.has_directory_size.result _ _
    (λ has is v same b read may.
    let bytes = c.args.bytes.now in
    let outside = inline_told bytes (v.at b) _ _ _ read.holds c.read_dinode-dinode.ensures c.is_inline.ensures c.if-is_inline.false in
    let directory = kind_test_told is_directory_kind bytes (v.at b) _ _ _ read.holds c.read_dinode-dinode.ensures c.is_of_directory.ensures c.if-is_of_directory.true in
    is v b same (record {
      outside = outside;
      directory = directory_is v b directory;
      tells = size_told_of bytes (v.at b) _ read.holds c.read_dinode-dinode.ensures;
      are = read.are;
    }))
    c.has_directory_size.ensures

pub returns-then-not-is_of_file : goal.returns-then-not-is_of_file
returns-then-not-is_of_file c v same b read may =
    let bytes = c.args.bytes.now in
    let outside = inline_told bytes (v.at b) _ _ _ read.holds c.read_dinode-dinode.ensures c.is_inline.ensures c.if-is_inline.false in
    let link = kind_test_told is_link_kind bytes (v.at b) _ _ _ read.holds c.read_dinode-dinode.ensures c.is_of_link.ensures c.if-is_of_link.false in
    let directory = kind_test_told is_directory_kind bytes (v.at b) _ _ _ read.holds c.read_dinode-dinode.ensures c.is_of_directory.ensures c.if-is_of_directory.false in
    let file = kind_test_told is_file_kind bytes (v.at b) _ _ _ read.holds c.read_dinode-dinode.ensures c.is_of_file.ensures c.if-not-is_of_file.true in
    other_size v b outside link directory file

pub returns : goal.returns
returns c v same b read may =
    let bytes = c.args.bytes.now in
    let outside = inline_told bytes (v.at b) _ _ _ read.holds c.read_dinode-dinode.ensures c.is_inline.ensures c.if-is_inline.false in
    let file = kind_test_told is_file_kind bytes (v.at b) _ _ _ read.holds c.read_dinode-dinode.ensures c.is_of_file.ensures c.if-not-is_of_file.false in
    may ∙ file_size v b (dinode v b).size refl outside file
