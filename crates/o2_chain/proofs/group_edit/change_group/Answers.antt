-- The bits stand behind the descriptor.
use Rattle.std.proofs.Common.{◌≡◌, ℕ, ◌+◌, ◌-◌, ◌/◌, ◌%◌, ◌^◌, ◌==◌, ◌∙◌, ap, arith}
use Rattle.o2_ondisk.specs.declared.group_desc.GroupDesc.{GroupDesc}
use Rattle.o2_model.specs.Groups.{is_bit_set_in}
use Rattle.o2_chain.specs.Edits.{clear_after}
use Rattle.o2_chain.proofs.Bitmaps.{same_change}
use Rattle.o2_chain.proofs.Descriptors.{same_group_desc, past_group_desc}
use Rattle.o2_chain.proofs.group_edit.change_group.Goals as goal

pub returns : goal.returns
returns c =
    let old = c.read_group_desc-desc.result in
    let with_count = λ (d : GroupDesc) (n : ℕ). let x : GroupDesc = record d { free_bits_count = n } in x in
    record {
      fields = same_group_desc c.change_bits.new.bytes c.write_group_desc.new.block c.change_bits.ensures.others
          ∙ (c.write_group_desc.ensures.back
          ∙ (ap (with_count old) c.clear_bits.ensures
          ∙ ap (λ d. with_count d (clear_after 65536 c.args.set d.free_bits_count (c.args.range.end - c.args.range.first))) c.read_group_desc-desc.ensures));
      bits = λ k. let same : is_bit_set_in 0x40 c.write_group_desc.new.block k ≡ is_bit_set_in 0x40 c.args.bytes.now k =
          ap (λ (n : ℕ). n / 2 ^ (k % 8) % 2 == 1) (c.write_group_desc.ensures.alone (0x40 + k / 8) (past_group_desc (0x40 + k / 8) (omega arith))) in
          c.change_bits.ensures.bits k ∙ same_change c.args.range.first c.args.range.end k c.args.range.first c.args.range.end k c.args.set (is_bit_set_in 0x40 c.write_group_desc.new.block) (is_bit_set_in 0x40 c.args.bytes.now) (λ from under. (from, under)) (λ from under. (from, under)) same;
      others = λ i out low. c.change_bits.ensures.others i low ∙ c.write_group_desc.ensures.alone i out;
      size = c.change_bits.auto.bytes ∙ c.write_group_desc.auto.block;
    }
