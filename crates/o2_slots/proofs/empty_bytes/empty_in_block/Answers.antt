-- The slots of the block that are to be emptied.
use Rattle.std.proofs.Common.{◌≡◌, ◌+◌, ◌*◌, cond, get_or, ◌∙◌, ap}
use Rattle.std.specs.Prelude.{max, min}
use Rattle.o2_slots.specs.Emptied.{empty_byte}
use Rattle.o2_slots.proofs.EntryPlaces.{in_block}
use Rattle.o2_slots.proofs.empty_bytes.empty_in_block.Goals as goal

pub returns : goal.returns
returns c =
    let geo = c.args.geo.now in
    let count = c.entries_per_block-per_block.result in
    let k = c.args.k in
    let first : c.max-first.result ≡ max c.args.from (k * count) = c.max-first.ensures ∙ ap (λ n. max n (k * count)) c.from.ensures in
    let end : c.min-end.result ≡ min geo.slots (k * count + count) = c.min-end.ensures ∙ ap (λ n. min n (k * count + count)) c.from-slots.ensures in
    record {
      size = c.empty_entries.auto.bytes;
      bytes = λ i low.
          c.empty_entries.ensures i
          ∙ ap (λ says. cond says (empty_byte geo) (get_or c.args.bytes.now i 0)) (in_block geo count k c.args.from c.max-first.result c.min-end.result i c.entries_per_block-per_block.ensures.whole low first end);
    }
