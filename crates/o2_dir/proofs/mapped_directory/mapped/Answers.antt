-- The places are those of the directory's blocks.
use Rattle.std.proofs.Common.{inl, inr, map, refl, sym, ◌∙◌}
use Rattle.std.proofs.lemmas.Result.{IfErr-weaker}
use Rattle.o2_model.specs.declared.check.Check.TheVariants.{InodeSize}
use Rattle.o2_dir.specs.Blocks.{block_at_place}
use Rattle.o2_dir.specs.Fails.{directory_checks}
use Rattle.o2_dir.proofs.Faults.{both_ok, fails_by}
use Rattle.o2_dir.proofs.Whole.{maps, size_told, places_told, entries_kept, faults_kept, fails_size, fails_blocks, size_sound}
use Rattle.o2_dir.proofs.mapped_directory.mapped.Goals as goal

pub returns-then-not-has_size-clause-fails : goal.returns-then-not-has_size-clause-fails
returns-then-not-has_size-clause-fails g c = record {
  own = inr (inl refl);
  first = λ v seen.
      let h = seen.mapped in
      let size = size_told v c.args.geo.now c.args.inode c.args.size c.args.leaves.now seen.shows.numbers (maps v c.args.inode c.args.size c.args.leaves.now h) _ _ _ c.as_slice.result.now _
      c.block_bytes-bytes.ensures.bytes c.blocks_per_cluster-per_cluster.ensures.blocks c.in_ok-places.ensures.places c.as_slice.ensures.value c.has_size.ensures in
      fails_size v c.args.inode InodeSize c.args.inode refl refl h.sound (sym size ∙ c.if-not-has_size.true);
}

pub returns-clause-told : goal.returns-clause-told
returns-clause-told g c = both_ok c.settle.result _ _ _
    (λ es sound none v seen.
    let told = places_told v c.args.geo.now c.args.inode c.args.size c.args.leaves.now seen.shows.numbers seen.mapped _ _ _ _ c.as_slice-2.result.now _
    c.block_bytes-bytes.ensures.bytes c.blocks_per_cluster-per_cluster.ensures.blocks c.in_ok-places.ensures.places c.as_slice.ensures.value c.as_slice-2.ensures.value c.has_size.ensures in
    let kept = (c.in_ok-whole.ensures.read v seen.shows).kept in (
      (told.sound, (size_sound v c.args.inode (sym told.size ∙ c.if-not-has_size.false), (sym (faults_kept v c.args.inode _ c.in_ok-whole.whole.reading told.blocks kept) ∙ none, tt))),
      sound (map (block_at_place v) c.as_slice-2.result.now) kept ∙ entries_kept v c.args.inode _ told.blocks,
    ))
    c.settle.ensures.sound
    c.settle.ensures.none

pub returns-clause-fails : goal.returns-clause-fails
returns-clause-fails g c = fails_by c.settle.result _ c.args.view.now c.read_places.new.view (directory_checks c.args.inode) ⊥ c.settle.ensures.device c.settle.ensures.present
    (IfErr-weaker c.settle.result _ _
    (λ fault bad check b is.
    let found = bad check b is in
    record {
      own = inr (inr (inl found.0));
      first = λ v seen.
          let told = places_told v c.args.geo.now c.args.inode c.args.size c.args.leaves.now seen.shows.numbers seen.mapped _ _ _ _ c.as_slice-2.result.now _
          c.block_bytes-bytes.ensures.bytes c.blocks_per_cluster-per_cluster.ensures.blocks c.in_ok-places.ensures.places c.as_slice.ensures.value c.as_slice-2.ensures.value c.has_size.ensures in
          let faults = faults_kept v c.args.inode _ c.in_ok-whole.whole.reading told.blocks (c.in_ok-whole.ensures.read v seen.shows).kept in
          fails_blocks v c.args.inode check b _ found.0 told.sound (sym told.size ∙ c.if-not-has_size.false) faults found.1;
    })
    c.settle.ensures.bad)
