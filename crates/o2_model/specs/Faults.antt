-- Where a check fails: at the places of the items that lack something.
use Rattle.std.specs.Prelude.{ℕ, Bool, not, List, [], ◌∷◌, map, filter, if◌then◌else◌}

-- the items that lack something
abbrev pub those_not : {A : Type 0} → (A → Bool) → List A → List A
those_not holds items = filter (λ x. not (holds x)) items

-- this block, unless the fact holds
abbrev pub fails_unless : ℕ → Bool → List ℕ
fails_unless block holds = if holds then [] else block ∷ []

-- the places of the items that lack something
abbrev pub fails_at : {A : Type 0} → (A → ℕ) → (A → Bool) → List A → List ℕ
fails_at place holds items = map place (those_not holds items)
