-- What is asked of the leaf records of a list, as the reader passes it on.
use Rattle.std.specs.Prelude.{Bool, true, false}
use Rattle.o2_model.specs.Extents.{LeafRule}
use Rattle.o2_model.specs.Extents.LeafRule.{ToClusters, ToBlocks}
use Rattle.o2_extent.specs.declared.rule.LeafRule.{LeafRule as Rule}
use Rattle.o2_extent.specs.declared.rule.LeafRule.TheVariants as rule

-- the rule as the definitions have it
abbrev pub rule_of : Rule → LeafRule
rule_of (rule.ToClusters most_flags) = ToClusters most_flags
rule_of rule.ToBlocks = ToBlocks

-- the records tell clusters
abbrev pub tells_clusters : Rule → Bool
tells_clusters (rule.ToClusters most_flags) = true
tells_clusters rule.ToBlocks = false
