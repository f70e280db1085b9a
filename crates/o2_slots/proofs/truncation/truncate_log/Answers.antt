-- The header decides.
use Rattle.std.proofs.Common.{◌≡◌, inl, false, true, refl, sym, ◌∙◌}
use Rattle.o2_model.specs.TruncateLogs.{is_sound_truncate_header}
use Rattle.o2_model.proofs.Faults.{fails_nowhere}
use Rattle.o2_slots.proofs.Judged.{fails_there}
use Rattle.o2_slots.proofs.Headers.{log_fits, log_runs}
use Rattle.o2_slots.proofs.truncation.truncate_log.Goals as goal

pub returns-then-not-fits-clause-fails : goal.returns-then-not-fits-clause-fails
returns-then-not-fits-clause-fails g c = record {
  own = inl refl;
  first = λ v shows.
      let bytes = c.as_slice-bytes.ensures ∙ c.in_ok-block.ensures.bytes v shows in
      let sound : is_sound_truncate_header v c.args.inode ≡ false = log_fits v c.args.geo.now c.args.inode c.as_slice-bytes.result.now c.header_of-header.result shows.numbers bytes c.header_of-header.ensures ∙ (sym c.fits.ensures ∙ c.if-not-fits.true) in
      inl (refl, fails_there c.args.inode (is_sound_truncate_header v c.args.inode) sound);
}

pub returns-clause-told : goal.returns-clause-told
returns-clause-told g c v shows =
    let bytes = c.as_slice-bytes.ensures ∙ c.in_ok-block.ensures.bytes v shows in
    let sound : is_sound_truncate_header v c.args.inode ≡ true = log_fits v c.args.geo.now c.args.inode c.as_slice-bytes.result.now c.header_of-header.result shows.numbers bytes c.header_of-header.ensures ∙ (sym c.fits.ensures ∙ c.if-not-fits.false) in
    ((fails_nowhere c.args.inode (is_sound_truncate_header v c.args.inode) sound, tt), c.from.ensures ∙ (c.in_ok-runs.ensures ∙ log_runs v c.args.inode c.as_slice-bytes.result.now c.header_of-header.result bytes c.header_of-header.ensures sound))
