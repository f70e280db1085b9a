use Rattle.o2_words.proofs.Options.{any_order}
use Rattle.o2_words.proofs.laws.options_come_in_any_order.Goals as goal

pub returns : goal.returns
returns c = any_order
