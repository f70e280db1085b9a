-- The bytes of the number, in either order.
use Rattle.std.proofs.Common.{◌∙◌, ap, sym, arith}
use Rattle.o2_ondisk.specs.Fields.{put_in}
use Rattle.o2_ondisk.specs.declared.layout.Order.{Order}
use Rattle.o2_ondisk.proofs.NumberPuts.{put_mid_is, put_mid_is_big}
use Rattle.o2_ondisk.proofs.layout.put_number.Goals as goal

pub returns-in-LowFirst : goal.returns-in-LowFirst
returns-in-LowFirst c = put_mid_is c.args.at c.args.width _ c.args.value c.args.block.now c.copy_from_slice.new.self c.to_le_bytes.result c.requires.width (omega arith) c.copy_from_slice.ensures.after c.to_le_bytes.ensures
    ∙ ap (λ (o : Order). put_in o c.args.at c.args.width c.args.value c.args.block.now) (sym c.in-LowFirst.is)

pub returns-in-HighFirst : goal.returns-in-HighFirst
returns-in-HighFirst c = put_mid_is_big c.args.at c.args.width _ c.args.value c.args.block.now c.copy_from_slice-in-HighFirst.new.self c.to_be_bytes.result c.requires.width (omega arith) c.copy_from_slice-in-HighFirst.ensures.after c.to_be_bytes.ensures
    ∙ ap (λ (o : Order). put_in o c.args.at c.args.width c.args.value c.args.block.now) (sym c.in-HighFirst.is)
