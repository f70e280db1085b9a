use Rattle.o2_tunefs.proofs.Relabels.{padded_is}
use Rattle.o2_tunefs.proofs.label.padded.Goals as goal

pub returns : goal.returns
returns c = padded_is c.put_first.new.field c.args.label.now c.put_first.ensures
