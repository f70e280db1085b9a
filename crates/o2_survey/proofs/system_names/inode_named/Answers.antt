-- A look-up by the order of names is one by the name.
use Rattle.std.proofs.Common.{◌∙◌}
use Rattle.o2_survey.proofs.NameMaps.{by_order}
use Rattle.o2_survey.proofs.system_names.inode_named.Goals as goal

pub returns : goal.returns
returns c = c.copied.ensures ∙ (c.get.ensures.value ∙ by_order c.args.inodes.now.entries c.args.name.now)
