use Rattle.std.proofs.Common.{◌≡◌, ◌∙◌, inl, inr, ⊎_elim, refl, sym, ap, subst, arith, Some, true}
use Rattle.std.proofs.lemmas.Result.{on_ok_weaker}
use Rattle.std.proofs.lemmas.Slice.Eq.{bytes_eq-Decides}
use Rattle.o2_ondisk.specs.declared.superblock.Super.{Super}
use Rattle.o2_disk.specs.Image.{Image}
use Rattle.o2_disk.specs.Device.{IsSettled}
use Rattle.o2_disk.proofs.Moments.{reads_none, leaves_itself, weaker}
use Rattle.o2_model.specs.Label.{with_label}
use Rattle.o2_tunefs.proofs.Relabels.{same_label, is_there, written_is}
use Rattle.o2_tunefs.proofs.label.put_label.Goals as goal

-- the label is there: the image with it is the same
same : goal.returns-then-eq-clause-done
same g c I content is =
    let size = g.met.D.Disk.has_sectors c.args.device.now I content in
    let told = ap (λ (s : Super). s.label) (sym (c.superblock.ensures.volume I is)) ∙ (bytes_eq-Decides c.superblock.result.label c.args.label.now).0 (sym c.eq.ensures ∙ c.if-eq.true) in
    content ∙ ap (λ (J : Image). Some J) (sym (same_label I c.args.sector.now is (g.met.D.Disk.is_image c.args.device.now I content) (omega (arith, size, c.requires.within)) c.args.label.now c.told-label told))

pub returns-then-eq-clause-done : goal.returns-then-eq-clause-done
returns-then-eq-clause-done g c I content is = same g c I content is

pub returns-then-eq-clause-any_moment : goal.returns-then-eq-clause-any_moment
returns-then-eq-clause-any_moment g c I settled is = leaves_itself I (g.met.D.Disk.only_now c.args.device.now) settled (inl refl) (reads_none (g.D.Disk.state c.args.device.now))

pub returns-then-eq-clause-settled : goal.returns-then-eq-clause-settled
returns-then-eq-clause-settled g c I settled is =
    let now = same g c I settled.content is in
    let one : I ≡ with_label c.args.sector.now.bits c.args.label.now I = cc in
    record { content = now; only = λ X may. settled.only X may ∙ one }

-- ---- the sector with the label is written
pub returns-clause-done : goal.returns-clause-done
returns-clause-done g c = on_ok_weaker c.put_sector.result (λ done I content is.
    let size = g.met.D.Disk.has_sectors c.args.device.now I content in
    let made = written_is I c.args.sector.now is (g.met.D.Disk.is_image c.args.device.now I content) (omega (arith, size, c.requires.within)) c.args.label.now c.told-label c.labelled.result c.labelled.ensures in
    done I content ∙ ap (λ (J : Image). Some J) made) c.put_sector.ensures.written

pub returns-clause-either : goal.returns-clause-either
returns-clause-either g c I content is =
    let size = g.met.D.Disk.has_sectors c.args.device.now I content in
    let made = written_is I c.args.sector.now is (g.met.D.Disk.is_image c.args.device.now I content) (omega (arith, size, c.requires.within)) c.args.label.now c.told-label c.labelled.result c.labelled.ensures in
    let after = c.put_sector.ensures.either I content in
    (after.0, after.1, ⊎_elim (λ old. inl old) (λ new. inr (new ∙ made)) after.2)

pub returns-clause-idle : goal.returns-clause-idle
returns-clause-idle g c I content is same =
    let size = g.met.D.Disk.has_sectors c.args.device.now I content in
    let there = is_there I c.args.sector.now is (g.met.D.Disk.is_image c.args.device.now I content) (omega (arith, size, c.requires.within)) c.args.label.now c.told-label same in
    let equal = ap (λ (s : Super). s.label) (c.superblock.ensures.volume I is) ∙ there in
    let yes : c.eq.result ≡ true = c.eq.ensures ∙ (bytes_eq-Decides c.superblock.result.label c.args.label.now).1 equal in
    absurd (let no = c.if-eq.false in let never : ⊥ = cc (yes, no) in never)

pub returns-clause-any_moment : goal.returns-clause-any_moment
returns-clause-any_moment g c I settled is =
    let size = g.met.D.Disk.has_sectors c.args.device.now I settled.content in
    let made = written_is I c.args.sector.now is (g.met.D.Disk.is_image c.args.device.now I settled.content) (omega (arith, size, c.requires.within)) c.args.label.now c.told-label c.labelled.result c.labelled.ensures in
    weaker (λ X left. ⊎_elim (λ old. inl old) (λ new. inr (new ∙ made)) left) (c.put_sector.ensures.any_moment I settled)

pub returns-clause-settled : goal.returns-clause-settled
returns-clause-settled g c = on_ok_weaker c.put_sector.result (λ done I settled is.
    let size = g.met.D.Disk.has_sectors c.args.device.now I settled.content in
    let made = written_is I c.args.sector.now is (g.met.D.Disk.is_image c.args.device.now I settled.content) (omega (arith, size, c.requires.within)) c.args.label.now c.told-label c.labelled.result c.labelled.ensures in
    subst (λ (J : Image). IsSettled (g.D.Disk.state c.put_sector.new.disk) J) made (done I settled)) c.put_sector.ensures.done
