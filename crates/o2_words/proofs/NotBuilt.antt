-- Words of a tool, or of an option, that is not built.
use Rattle.std.proofs.Common.{◌≡◌, ◌⊎◌, inl, inr, ⊎_elim, ℕ, List, ◌∷◌, codes, ◌∙◌, ap}
use Rattle.o2_words.specs.CommandLine.{Words, IsFirst, AreFirst, IsNotBuilt}

abbrev pub IsUnbuiltTool : List ℕ → Type 0
IsUnbuiltTool tool = (tool ≡ codes "mkfs") ⊎ (tool ≡ codes "sample")

abbrev pub IsUnbuiltOption : List ℕ → Type 0
IsUnbuiltOption option = (option ≡ codes "-N") ⊎ (option ≡ codes "-J") ⊎ (option ≡ codes "-S")

pub unbuilt_tool : (words rest : Words) (tool : List ℕ) → words ≡ tool ∷ rest → IsUnbuiltTool tool → IsNotBuilt words
unbuilt_tool words rest tool shown one = elim one [
  | inl e ↦ inl (named (codes "mkfs") e)
  | inr e ↦ inr (inl (named (codes "sample") e))
]
  where
    named : (name : List ℕ) → tool ≡ name → IsFirst name words
    named name e = (rest, shown ∙ ap (λ (t : List ℕ). t ∷ rest) e)

pub unbuilt_option : (words rest : Words) (tool option : List ℕ) → words ≡ tool ∷ option ∷ rest → tool ≡ codes "tunefs" → IsUnbuiltOption option → IsNotBuilt words
unbuilt_option words rest tool option shown is one = elim one [
  | inl e ↦ inr (inr (inl (named (codes "-N") e)))
  | inr one ↦ elim one [
    | inl e ↦ inr (inr (inr (inl (named (codes "-J") e))))
    | inr e ↦ inr (inr (inr (inr (named (codes "-S") e))))
  ]
]
  where
    named : (name : List ℕ) → option ≡ name → AreFirst (codes "tunefs") name words
    named name e = (rest, shown ∙ ap (λ (t : List ℕ). t ∷ option ∷ rest) is ∙ ap (λ (t : List ℕ). codes "tunefs" ∷ t ∷ rest) e)

-- and no others
pub unbuilt : (words rest : Words) (tool option : List ℕ) → words ≡ tool ∷ option ∷ rest → IsNotBuilt words → IsUnbuiltTool tool ⊎ IsUnbuiltOption option
unbuilt words rest tool option shown built =
    ⊎_elim (λ a. inl (inl (first (codes "mkfs") a)))
    (⊎_elim (λ a. inl (inr (first (codes "sample") a)))
    (⊎_elim (λ a. inr (inl (second (codes "-N") a)))
    (⊎_elim (λ a. inr (inr (inl (second (codes "-J") a))))
    (λ a. inr (inr (inr (second (codes "-S") a)))))))
    built
  where
    first : (name : List ℕ) → IsFirst name words → tool ≡ name
    first name is = let e = is.1 in cc (e, shown)

    second : (name : List ℕ) → AreFirst (codes "tunefs") name words → option ≡ name
    second name are = let e = are.1 in cc (e, shown)
