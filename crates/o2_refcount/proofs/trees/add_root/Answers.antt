-- One tree more.
use Rattle.o2_refcount.proofs.trees.add_root.Goals as goal

pub returns-clause-added : goal.returns-clause-added
returns-clause-added g c v shows roots are = c.in_ok-add_tree.ensures v roots c.args.root are (c.in_ok-tree.ensures.told v shows)
