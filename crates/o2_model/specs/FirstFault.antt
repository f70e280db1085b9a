-- Which of some checks fails first, and where.
use Rattle.std.specs.Prelude.{◌≡◌, ◌⊎◌, ℕ, List, [], ◌∷◌}
use Rattle.o2_model.specs.declared.check.Check.{Check}
use Rattle.o2_model.specs.Words.{IsLeast}

-- Each check stands with the blocks where it fails. This is the first of them that fails, and this is the least block at which it does.
abbrev pub FailsFirst : List (Check × List ℕ) → Check → ℕ → Type 0
FailsFirst [] c b = ⊥
FailsFirst (asked ∷ rest) c b = ((c ≡ asked.0) × IsLeast b asked.1) ⊎ ((asked.1 ≡ []) × FailsFirst rest c b)
