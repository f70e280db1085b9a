-- The check of a view of the whole device.
use Rattle.std.proofs.Common.{rules, arith, ap}
use Rattle.std.proofs.lemmas.Result.{IfOk-weaker}
use Rattle.o2_fsck.proofs.DeviceChecked.{device_fails}
use Rattle.o2_fsck.proofs.judge.check_device.Goals as goal

pub returns-clause-told : goal.returns-clause-told
returns-clause-told g c = IfOk-weaker c.check-report.result _ _ (λ report told v on. told v (c.in_ok-view.ensures.shows v on)) c.check-report.ensures.told

pub returns-clause-fails : goal.returns-clause-fails
returns-clause-fails g c =
    device_fails c.in_ok-view.view c.check-report.new.view c.args.geo.now (g.D.Disk.state c.args.device.now) c.in_ok-view.ensures.shows (ap g.D.Disk.state c.in_ok-view.ensures.disk) c.check-report.result _ (search rules) c.check-report.ensures.fails
