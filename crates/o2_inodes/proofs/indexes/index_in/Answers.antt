-- The directory's flag says whether there is an index.
use Rattle.std.proofs.Common.{sym, ◌∙◌, ap, subst}
use Rattle.o2_ondisk.specs.Bits.{has_bits, indexed_dir_dyn_feature}
use Rattle.o2_ondisk.specs.Dinodes.{dinode_of}
use Rattle.o2_ondisk.specs.declared.dinode.Dinode.{Dinode}
use Rattle.o2_inodes.specs.Directories.{IsDirectoryRead, TellsDirectory}
use Rattle.o2_inodes.proofs.IndexesTold.{no_index, index_by}
use Rattle.o2_inodes.proofs.indexes.index_in.Goals as goal

pub returns-in_default-clause-told : goal.returns-in_default-clause-told
returns-in_default-clause-told g c v shows holds tells = no_index v c.args.b (subst (TellsDirectory v c.args.b) c.in_default.is tells)

pub returns-then-not-has-clause-told : goal.returns-then-not-has-clause-told
returns-then-not-has-clause-told g c v shows holds tells =
    let read : IsDirectoryRead v c.args.b c.in-Some.directory = subst (TellsDirectory v c.args.b) c.in-Some.is tells in
    let is = c.read_dinode-dinode.ensures ∙ ap dinode_of holds in
    index_by v c.args.b _ read.is (sym (c.has.ensures ∙ ap (λ (d : Dinode). has_bits d.dyn_features.0 indexed_dir_dyn_feature) is) ∙ c.if-not-has.true)

pub returns-clause-told : goal.returns-clause-told
returns-clause-told g c v shows holds tells =
    let read : IsDirectoryRead v c.args.b c.in-Some.directory = subst (TellsDirectory v c.args.b) c.in-Some.is tells in
    let is = c.read_dinode-dinode.ensures ∙ ap dinode_of holds in
    record {
      is = index_by v c.args.b _ read.is (sym (c.has.ensures ∙ ap (λ (d : Dinode). has_bits d.dyn_features.0 indexed_dir_dyn_feature) is) ∙ c.if-not-has.false);
      of = c.in_ok-row.ensures.of;
      says = c.in_ok-row.ensures.told v shows (ap (λ (d : Dinode). d.dx_root) (sym is)) (record {
        entries = c.as_slice.ensures ∙ read.whole.entries;
        blocks = c.as_slice-2.ensures ∙ read.whole.blocks;
        trailers = read.whole.trailers;
      });
    }
