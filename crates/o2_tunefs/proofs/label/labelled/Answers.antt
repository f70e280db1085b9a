use Rattle.o2_tunefs.proofs.Relabels.{labelled_is}
use Rattle.o2_tunefs.proofs.label.labelled.Goals as goal

pub returns : goal.returns
returns c = labelled_is c.args.bytes.now c.args.label.now c.write_label.new.block c.told-bytes c.write_label.ensures.put
