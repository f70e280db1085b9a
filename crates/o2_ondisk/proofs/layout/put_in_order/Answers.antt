use Rattle.std.proofs.Common.{arith, ap, ◌∙◌, List, ℕ, get_or, refl}
use Rattle.std.proofs.lemmas.List.{get_or_default}
use Rattle.o2_ondisk.specs.Fields.{put_in, put_all_by, number_in, numbers_by}
use Rattle.o2_ondisk.specs.declared.layout.Field.{Field}
use Rattle.o2_ondisk.proofs.TableLaws.{codec_of, left_more, left_none, numbers_at-put_all, get_or-put_all_outside}
use Rattle.o2_ondisk.proofs.layout.put_in_order.Goals as goal

pub put_number-requires-clause-fits : goal.put_number-requires-clause-fits
put_number-requires-clause-fits c =
    let none : Field = record { at = 0; width = 0 } in
    let f = get_or c.args.fields.now c.loop-k.k none in
    (left_more (number_in c.args.order) (put_in c.args.order) (codec_of c.args.order) c.args.fields.now c.args.values.now c.loop-k.block (put_all_by (put_in c.args.order) c.args.fields.now c.args.values.now c.args.block.now) c.loop-k.k f (get_or c.args.values.now c.loop-k.k 0) c.loop-k-test.true (omega (arith, c.requires.values, c.loop-k-test.true))
    (get_or_default c.args.fields.now c.loop-k.k none f c.loop-k-test.true) refl c.loop-k.invariant).1

pub returns-clause-put : goal.returns-clause-put
returns-clause-put c = left_none (number_in c.args.order) (put_in c.args.order) (codec_of c.args.order) c.args.fields.now c.args.values.now c.loop-k.block (put_all_by (put_in c.args.order) c.args.fields.now c.args.values.now c.args.block.now) c.loop-k.k c.loop-k-test.false c.loop-k.invariant

pub returns-clause-back : goal.returns-clause-back
returns-clause-back c fit =
    ap (numbers_by (number_in c.args.order) c.args.fields.now) (returns-clause-put c) ∙ numbers_at-put_all (number_in c.args.order) (put_in c.args.order) (codec_of c.args.order) 0 c.args.fields.now c.args.values.now c.args.block.now c.requires.layout c.requires.values fit

pub returns-clause-alone : goal.returns-clause-alone
returns-clause-alone c i out =
    ap (λ (l : List ℕ). get_or l i 0) (returns-clause-put c) ∙ get_or-put_all_outside (number_in c.args.order) (put_in c.args.order) (codec_of c.args.order) 0 c.args.fields.now c.args.values.now c.args.block.now c.requires.layout i out
