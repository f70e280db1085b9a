use Rattle.o2_laws.proofs.Rising.{rising_is, rising_sorted, none_rising}
use Rattle.o2_laws.proofs.order_laws.rising_numbers_are_the_list_in_order.Goals as goal

pub returns-clause-only : goal.returns-clause-only
returns-clause-only c = rising_is

pub returns-clause-sorted : goal.returns-clause-sorted
returns-clause-sorted c = rising_sorted

pub returns-clause-none : goal.returns-clause-none
returns-clause-none c = none_rising
