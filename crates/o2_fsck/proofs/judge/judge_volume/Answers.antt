-- The volume was opened, and then checked.
use Rattle.std.proofs.Common.{refl, sym, ◌∙◌, subst}
use Rattle.o2_cause.specs.declared.cause.Cause.{Cause}
use Rattle.o2_open.specs.Devices.{volume_on}
use Rattle.o2_fsck.specs.Verdicts.{ComesFor}
use Rattle.o2_fsck.proofs.DeviceChecked.{comes_fault}
use Rattle.o2_fsck.proofs.judge.judge_volume.Goals as goal

pub returns-in-Ok-clause-told : goal.returns-in-Ok-clause-told
returns-in-Ok-clause-told g c I told =
    let found = c.in_ok-geo.ensures.found I told in
    let report = c.in-Ok.ensures.told (volume_on c.in_ok-geo.geo I) (record { image = I; told = c.open_for_reading.ensures.reads.content ∙ told; is = refl }) in
    record {
      volume = volume_on c.in_ok-geo.geo I;
      is = found.0;
      supported = found.1;
      holds = (λ skeleton. (report.whole skeleton).supported, c.into_pairs.ensures ∙ report.pairs);
    }

pub returns-in-Err-clause-refused : goal.returns-in-Err-clause-refused
returns-in-Err-clause-refused g c I told =
    let found = c.in_ok-geo.ensures.found I told in
    subst (λ (cause : Cause). ComesFor I cause) (sym c.cause_for.ensures)
    (comes_fault I (volume_on c.in_ok-geo.geo I) found.0 found.1 (g.D.Disk.state c.open_for_reading.new.device) (g.D.Disk.state c.check_device.new.device) c.in_ok-geo.geo
    (record { image = I; told = c.open_for_reading.ensures.reads.content ∙ told; is = refl }) c.in-Err.fault c.in-Err.ensures.fails)
