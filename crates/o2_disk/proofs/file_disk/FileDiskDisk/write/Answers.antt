use Rattle.o2_disk.proofs.Images.{torn_none}
use Rattle.o2_disk.proofs.file_disk.FileDiskDisk.write.Goals as goal

pub returns-then-is_err-clause-crash : goal.returns-then-is_err-clause-crash
returns-then-is_err-clause-crash c X here = (X, here, torn_none c.args.at c.args.bytes.now X)

pub returns-clause-crash : goal.returns-clause-crash
returns-clause-crash c X here = (X, here, torn_none c.args.at c.args.bytes.now X)
