-- GROUP_CHAIN, number 43, at the group: bg_chain is the number of the chain that reaches it.
use Rattle.std.specs.Prelude.{ℕ, ◌==◌, List}
use Rattle.o2_model.specs.Faults.{fails_at}
use Rattle.o2_model.specs.Volume.{Volume}
use Rattle.o2_model.specs.Groups.{groups, group_desc}

abbrev pub group_chain_faults : Volume → List ℕ
group_chain_faults v = fails_at (λ g. g.block) (λ g. (group_desc v g.block).chain == g.chain) (groups v)
