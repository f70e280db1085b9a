-- The fields from this one on are left.
use Rattle.std.proofs.Common.{drop}
use Rattle.o2_ondisk.specs.Fields.{put_all_by, put_in}
use Rattle.o2_ondisk.proofs.TableLaws.{Left}
use Rattle.o2_ondisk.proofs.layout.put_in_order.Given as goal

abbrev pub invariant-loop-k : goal.invariant-loop-k
invariant-loop-k l = Left (put_in l.order) (drop l.k l.fields) (drop l.k l.values) l.block (put_all_by (put_in l.order) l.fields l.values l.fn.block)
