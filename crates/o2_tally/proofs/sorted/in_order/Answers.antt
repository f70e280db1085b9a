-- A sort and a removal of repetitions.
use Rattle.std.proofs.Common.{◌∙◌, sym, eqb}
use Rattle.std.proofs.lemmas.List.Filters.{dedup_is}
use Rattle.o2_tally.proofs.Sames.{rising_sorted}
use Rattle.o2_tally.proofs.sorted.in_order.Goals as goal

pub returns : goal.returns
returns c = dedup_is eqb _ _ c.without_repetitions.ensures ∙ sym (rising_sorted _ _ c.sort_unstable.ensures.permutation c.sort_unstable.ensures.sorted)
