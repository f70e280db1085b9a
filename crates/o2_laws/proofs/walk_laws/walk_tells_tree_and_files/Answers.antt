use Rattle.o2_laws.proofs.FirstNames.{tree-first, value-among, among-value, files-of-tree, sharing-counted}
use Rattle.o2_laws.proofs.walk_laws.walk_tells_tree_and_files.Goals as goal

pub returns-clause-tree : goal.returns-clause-tree
returns-clause-tree c = tree-first

pub returns-clause-values : goal.returns-clause-values
returns-clause-values c = value-among

pub returns-clause-paths : goal.returns-clause-paths
returns-clause-paths c = among-value

pub returns-clause-files : goal.returns-clause-files
returns-clause-files c = files-of-tree

pub returns-clause-sharing : goal.returns-clause-sharing
returns-clause-sharing c = sharing-counted
