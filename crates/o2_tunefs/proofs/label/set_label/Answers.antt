use Rattle.std.proofs.Common.{◌∙◌, inl, inr, ⊎_elim, refl, subst}
use Rattle.o2_disk.specs.Image.{Image}
use Rattle.o2_disk.specs.Device.{IsSettled}
use Rattle.o2_disk.proofs.Moments.{reads_both, settled_after_reads, leaves_itself, leaves_after_reads, weaker}
use Rattle.o2_tunefs.proofs.Relabels.{relabelled_is}
use Rattle.o2_tunefs.proofs.label.set_label.Goals as goal

pub returns-then-label-gt-LABEL_SIZE-clause-any_moment : goal.returns-then-label-gt-LABEL_SIZE-clause-any_moment
returns-then-label-gt-LABEL_SIZE-clause-any_moment g c I settled = leaves_itself I (g.met.D.Disk.only_now c.args.device.now) settled (inl refl) c.open_volume.ensures.reads

-- ---- the device failed while the label was put
pub returns-in_err-put_label-clause-either : goal.returns-in_err-put_label-clause-either
returns-in_err-put_label-clause-either g c I content =
    let found = c.in_ok-sector.ensures.found I content in
    let made = relabelled_is c.args.label.now c.padded.result c.in_ok-sector.sector.bits I found.0 c.padded.ensures in
    let after = c.put_label.ensures.either I (c.open_volume.ensures.reads.content ∙ content) found.1 in
    (after.0, after.1, ⊎_elim (λ old. inl old) (λ new. inr (new ∙ made)) after.2)

pub returns-in_err-put_label-clause-idle : goal.returns-in_err-put_label-clause-idle
returns-in_err-put_label-clause-idle g c I content same =
    let found = c.in_ok-sector.ensures.found I content in
    let made = relabelled_is c.args.label.now c.padded.result c.in_ok-sector.sector.bits I found.0 c.padded.ensures in
    reads_both c.open_volume.ensures.reads (c.put_label.ensures.idle I (c.open_volume.ensures.reads.content ∙ content) found.1 (made ∙ same))

pub returns-in_err-put_label-clause-any_moment : goal.returns-in_err-put_label-clause-any_moment
returns-in_err-put_label-clause-any_moment g c I settled =
    let found = c.in_ok-sector.ensures.found I settled.content in
    let made = relabelled_is c.args.label.now c.padded.result c.in_ok-sector.sector.bits I found.0 c.padded.ensures in
    leaves_after_reads I (g.met.D.Disk.only_now c.args.device.now) settled (inl refl) c.open_volume.ensures.reads
    (weaker (λ X left. ⊎_elim (λ old. inl old) (λ new. inr (new ∙ made)) left) (c.put_label.ensures.any_moment I (settled_after_reads I c.open_volume.ensures.reads settled) found.1))

-- ---- the label was put
pub returns-clause-done : goal.returns-clause-done
returns-clause-done g c I content =
    let found = c.in_ok-sector.ensures.found I content in
    let made = relabelled_is c.args.label.now c.padded.result c.in_ok-sector.sector.bits I found.0 c.padded.ensures in
    (_, c.in_ok-put_label.ensures.done I (c.open_volume.ensures.reads.content ∙ content) found.1, made)

pub returns-clause-either : goal.returns-clause-either
returns-clause-either g c I content =
    let found = c.in_ok-sector.ensures.found I content in
    let made = relabelled_is c.args.label.now c.padded.result c.in_ok-sector.sector.bits I found.0 c.padded.ensures in
    let after = c.put_label.ensures.either I (c.open_volume.ensures.reads.content ∙ content) found.1 in
    (after.0, after.1, ⊎_elim (λ old. inl old) (λ new. inr (new ∙ made)) after.2)

pub returns-clause-idle : goal.returns-clause-idle
returns-clause-idle g c I content same =
    let found = c.in_ok-sector.ensures.found I content in
    let made = relabelled_is c.args.label.now c.padded.result c.in_ok-sector.sector.bits I found.0 c.padded.ensures in
    reads_both c.open_volume.ensures.reads (c.put_label.ensures.idle I (c.open_volume.ensures.reads.content ∙ content) found.1 (made ∙ same))

pub returns-clause-any_moment : goal.returns-clause-any_moment
returns-clause-any_moment g c I settled =
    let found = c.in_ok-sector.ensures.found I settled.content in
    let made = relabelled_is c.args.label.now c.padded.result c.in_ok-sector.sector.bits I found.0 c.padded.ensures in
    leaves_after_reads I (g.met.D.Disk.only_now c.args.device.now) settled (inl refl) c.open_volume.ensures.reads
    (weaker (λ X left. ⊎_elim (λ old. inl old) (λ new. inr (new ∙ made)) left) (c.put_label.ensures.any_moment I (settled_after_reads I c.open_volume.ensures.reads settled) found.1))

pub returns-clause-settled : goal.returns-clause-settled
returns-clause-settled g c I settled =
    let found = c.in_ok-sector.ensures.found I settled.content in
    let made = relabelled_is c.args.label.now c.padded.result c.in_ok-sector.sector.bits I found.0 c.padded.ensures in
    subst (λ (J : Image). IsSettled (g.D.Disk.state c.put_label.new.device) J) made (c.in_ok-put_label.ensures.settled I (settled_after_reads I c.open_volume.ensures.reads settled) found.1)
