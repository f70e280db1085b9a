-- The volume lies in the view.
use Rattle.std.proofs.Common.{arith, sym, ◌∙◌}
use Rattle.o2_extent.proofs.tests.read_records.Goals as goal

pub records-requires : goal.records-requires
records-requires g c = (
  omega arith,
  record {
    volume = record {
      sizes = c.numbers.ensures.sizes;
      numbers = c.numbers.ensures.numbers;
      bits = c.numbers.ensures.bits ∙ sym c.in_ok-view.ensures.bits;
      within = omega (arith, c.numbers.ensures.blocks, c.in_ok-view.ensures.blocks);
    };
    inside = omega (arith, c.in_ok-view.ensures.blocks);
  },
)
