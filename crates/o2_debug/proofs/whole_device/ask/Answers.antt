-- The view is of all whole blocks of the device, and shows the volume on it.
use Rattle.std.proofs.Common.{rules, sym, ap, arith, refl}
use Rattle.std.proofs.lemmas.Result.{on_ok_weaker}
use Rattle.o2_open.specs.Devices.{volume_on}
use Rattle.o2_debug.proofs.WholeDevice.{device_fails}
use Rattle.o2_debug.proofs.whole_device.ask.Goals as goal

pub command-answer-requires : goal.command-answer-requires
command-answer-requires g c = (omega arith, (sym c.in-Ok.ensures.bits, (c.requires.least, (c.requires.most, (c.in-Ok.ensures.blocks, c.requires.path)))))

pub returns-clause-told : goal.returns-clause-told
returns-clause-told g c = on_ok_weaker c.command-answer.result
    (λ answers I told. answers (volume_on c.args.geo.now I) (c.in-Ok.ensures.shows (volume_on c.args.geo.now I) (record { image = I; told = told; is = refl })))
    c.command-answer.ensures.told

pub returns-clause-some : goal.returns-clause-some
returns-clause-some g c I told = c.command-answer.ensures.some (volume_on c.args.geo.now I) (c.in-Ok.ensures.shows (volume_on c.args.geo.now I) (record { image = I; told = told; is = refl }))

pub returns-clause-fails : goal.returns-clause-fails
returns-clause-fails g c =
    device_fails c.in-Ok.view c.args.geo.now (g.D.Disk.state c.args.device.now) c.in-Ok.ensures.shows c.command-answer.result _ c.command-answer.new.view c.args.query.now
    (g.K.Sink.state c.args.out.now) (g.K.Sink.state c.command-answer.new.out) _ (ap g.D.Disk.state c.in-Ok.ensures.disk) (search rules) c.command-answer.ensures.fails
