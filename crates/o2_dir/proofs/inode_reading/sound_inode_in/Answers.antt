-- The size is judged by what was read, and both tell of the inode.
use Rattle.std.proofs.Common.{inl, inr, refl, sym, ◌∙◌, ap}
use Rattle.o2_ondisk.specs.Dinodes.{dinode_of}
use Rattle.o2_view.proofs.Shown.{still_shows}
use Rattle.o2_dir.specs.Fails.{IsRead}
use Rattle.o2_dir.proofs.FileParts.{fails_size, as_read}
use Rattle.o2_dir.proofs.Whole.{size_sound}
use Rattle.o2_dir.proofs.inode_reading.sound_inode_in.Goals as goal

pub returns-clause-told : goal.returns-clause-told
returns-clause-told g c v seen =
    let b = c.args.inode in
    let holds = seen.is in
    let told = c.in_ok-leaves.ensures.told v (record { shows = seen.shows; is = c.as_slice.ensures ∙ seen.is }) in
    let read : IsRead v b c.args.block c.in_ok-leaves.leaves = record { holds = holds; sound = told.0.0; are = told.1 } in
    let size = c.in_ok-has_sound_size.ensures.sound v (still_shows c.records_in.ensures.reads seen.shows) (as_read v b _ _ _ _ c.as_slice-2.ensures c.as_slice-3.ensures read) in
    record {
      number = refl;
      dinode = c.read_dinode-dinode.ensures ∙ ap dinode_of (c.as_slice-4.ensures ∙ holds);
      read = as_read v b _ _ _ _ refl c.new.ensures read;
      size = size_sound v b (sym size ∙ c.if-not-branch.false);
    }

pub returns-then-not-branch-clause-fails : goal.returns-then-not-branch-clause-fails
returns-then-not-branch-clause-fails g c = record {
  own = inr (inl refl);
  first = λ v seen.
      let b = c.args.inode in
      let told = c.in_ok-leaves.ensures.told v (record { shows = seen.shows; is = c.as_slice.ensures ∙ seen.is }) in
      let read : IsRead v b c.args.block c.in_ok-leaves.leaves = record { holds = seen.is; sound = told.0.0; are = told.1 } in
      let size = c.in_ok-has_sound_size.ensures.sound v (still_shows c.records_in.ensures.reads seen.shows) (as_read v b _ _ _ _ c.as_slice-2.ensures c.as_slice-3.ensures read) in
      fails_size v b read.sound (sym size ∙ c.if-not-branch.true);
}
