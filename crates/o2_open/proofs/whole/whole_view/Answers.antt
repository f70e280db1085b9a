-- The view is of all whole blocks of the device, and shows the volume on it.
use Rattle.o2_open.proofs.WholeDevice.{made_shows, made_blocks}
use Rattle.o2_open.proofs.whole.whole_view.Goals as goal

pub returns-clause-shows : goal.returns-clause-shows
returns-clause-shows g c = made_shows c.args.geo.now c.args.device.now c.new.result c.new.ensures.bits c.new.ensures.disk c.new.ensures.plan c.new.ensures.closed

pub returns-clause-blocks : goal.returns-clause-blocks
returns-clause-blocks g c = made_blocks c.args.geo.now c.args.device.now c.new.result c.sectors.result g.met.D.Disk.has_sectors c.sectors.ensures c.requires.least c.new.ensures.blocks c.new.ensures.disk
