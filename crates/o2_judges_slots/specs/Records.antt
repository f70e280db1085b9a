-- Leaf records with clusters.
use Rattle.std.specs.Prelude.{Bool, not, ◌==◌}
use Rattle.o2_model.specs.declared.leaf.Leaf.{Leaf}

-- there are clusters under the record
abbrev pub has_clusters : Leaf → Bool
has_clusters leaf = not (leaf.clusters == 0)
