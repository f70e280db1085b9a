-- A block has few bytes, and what is wrong with the blocks is wrong with the directory.
use Rattle.std.proofs.Common.{◌^◌, sym, ◌∙◌, ap, arith}
use Rattle.std.proofs.lemmas.Result.{IfErr-weaker}
use Rattle.o2_model.specs.declared.geo.Geo.{Geo}
use Rattle.o2_extent.proofs.Sizes.{few_bytes}
use Rattle.o2_dir.specs.Fails.{directory_checks}
use Rattle.o2_dir.proofs.AnyBlocks.{inline_told, size_told_of}
use Rattle.o2_dir.proofs.Faults.{fails_by}
use Rattle.o2_dir.proofs.directory.entries_by.Goals as goal

pub inlined-requires-clause-most : goal.inlined-requires-clause-most
inlined-requires-clause-most g c = omega (arith, few_bytes c.args.geo.now c.requires.geo.sizes, c.requires.size)

pub returns-then-is_inline-clause-fails : goal.returns-then-is_inline-clause-fails
returns-then-is_inline-clause-fails g c = fails_by c.inlined.result _ c.args.view.now c.args.view.now (directory_checks c.args.inode) ⊥ c.inlined.ensures.device c.inlined.ensures.present
    (IfErr-weaker c.inlined.result _ _
    (λ fault bad check b is.
    let found = bad check b is in
    record {
      own = found.0;
      first = λ v seen.
          let bytes = c.args.bytes.now in
          let at = v.at c.args.inode in
          let read = seen.read in
          found.1 v (c.requires.size ∙ ap (λ (geo : Geo). 2 ^ geo.block_bits) (sym seen.shows.numbers)) (record {
            inside = inline_told bytes at _ _ _ read.holds c.read_dinode-dinode.ensures c.is_inline.ensures c.if-is_inline.true;
            sound = read.sound;
            tells = size_told_of bytes at _ read.holds c.read_dinode-dinode.ensures;
            holds = read.holds;
          });
    })
    c.inlined.ensures.bad)
