-- The clear bits below this one are added.
use Rattle.std.proofs.Common.{◌/◌, ◌%◌, ◌^◌}
use Rattle.std.specs.Prelude.{◌==◌, not}
use Rattle.o2_view.specs.RunLists.{Gains}
use Rattle.o2_chain.proofs.clear_bits.add_clear_of_byte.Given as goal

abbrev pub invariant-loop-k : goal.invariant-loop-k
invariant-loop-k l = Gains (λ k. not (l.byte / 2 ^ k % 2 == 1)) l.first l.k l.fn.runs l.runs
