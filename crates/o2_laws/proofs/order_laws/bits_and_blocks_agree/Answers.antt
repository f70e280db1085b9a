use Rattle.o2_laws.proofs.BitPlaces.{bit_of_its_block, no_bit_before, no_bit_behind}
use Rattle.o2_laws.proofs.order_laws.bits_and_blocks_agree.Goals as goal

pub returns-clause-inside : goal.returns-clause-inside
returns-clause-inside c = bit_of_its_block

pub returns-clause-before : goal.returns-clause-before
returns-clause-before c = no_bit_before

pub returns-clause-behind : goal.returns-clause-behind
returns-clause-behind c = no_bit_behind
