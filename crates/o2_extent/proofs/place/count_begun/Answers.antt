-- The search finds where the records that begin at the cluster or before end.
use Rattle.std.proofs.Common.{rules}
use Rattle.std.specs.Prelude.{nat_le}
use Rattle.std.proofs.lemmas.List.Sorted.{IsPartitionPoint-from_clause, IsPartitionedBy-leb}
use Rattle.o2_model.specs.declared.leaf.Leaf.{Leaf}
use Rattle.o2_extent.proofs.Places.{begins_rise}
use Rattle.o2_extent.proofs.place.count_begun.Goals as goal

pub returns-clause-point : goal.returns-clause-point
returns-clause-point c =
    let parted = IsPartitionedBy-leb (λ (leaf : Leaf). leaf.cpos) _ c.args.c (begins_rise _ c.requires) in
    IsPartitionPoint-from_clause (λ (leaf : Leaf). nat_le leaf.cpos c.args.c) _ _ c.partition_point.ensures.partitioned parted (λ a r q k. search rules)
