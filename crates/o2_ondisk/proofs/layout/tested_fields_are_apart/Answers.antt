use Rattle.o2_ondisk.proofs.Spread.{all_apart, all_within, layout_is_disjoint}
use Rattle.o2_ondisk.proofs.layout.tested_fields_are_apart.Goals as goal

pub returns-clause-apart : goal.returns-clause-apart
returns-clause-apart c size fields test = all_apart 0 fields size test

pub returns-clause-within : goal.returns-clause-within
returns-clause-within c size fields test = all_within 0 fields size test

pub returns-clause-numbers : goal.returns-clause-numbers
returns-clause-numbers c size fields test = layout_is_disjoint 0 fields size test
