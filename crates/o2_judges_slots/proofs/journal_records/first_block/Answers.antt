-- By the first record that has clusters.
use Rattle.o2_judges_slots.proofs.BlocksUnder.{first_under, first_inside}
use Rattle.o2_judges_slots.proofs.journal_records.first_block.Goals as goal

pub returns-clause-first : goal.returns-clause-first
returns-clause-first c v = first_under v c.args.leaves.now c.in_ok-first.first c.in_ok-first.ensures

pub returns-clause-inside : goal.returns-clause-inside
returns-clause-inside c numbers within = first_inside numbers c.args.leaves.now c.in_ok-first.first within c.in_ok-first.ensures
