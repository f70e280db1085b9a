-- Names that a reader of a directory met.
use Rattle.std.specs.Prelude.{ℕ, Bool, bytes_eq, List}
use Rattle.std.specs.List.{list_any}
use Rattle.std.specs.BTreeSet.{BTreeSet}
use Rattle.std.specs.Borrow.{Bor}

-- the name is one of them
abbrev pub has_name : BTreeSet (Bor (List ℕ)) → List ℕ → Bool
has_name names name = list_any (λ (met : Bor (List ℕ)). bytes_eq name met.now) names.keys
