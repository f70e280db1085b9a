-- Records that rise, as those of a list that is well formed do.
use Rattle.std.specs.Prelude.{ℕ, ◌+◌, ◌≤◌, List, [], ◌∷◌}
use Rattle.o2_model.specs.declared.leaf.Leaf.{Leaf}

-- the first of these records begins at this cluster or later, and each other one where the one before ends or later
abbrev pub RiseFrom : ℕ → List Leaf → Type 0
RiseFrom low [] = Unit {0}
RiseFrom low (leaf ∷ leaves) = (low ≤ leaf.cpos) × RiseFrom (leaf.cpos + leaf.clusters) leaves

-- each of these records begins where the one before ends or later
abbrev pub AreRising : List Leaf → Type 0
AreRising leaves = RiseFrom 0 leaves
