-- Paths as they are written.
use Rattle.std.specs.Prelude.{◌≡◌, ◌≢◌, ◌⊎◌, ℕ, ◌==◌, Bool, true, false, not, List, [], ◌∷◌, ◌++◌, codes}
use Rattle.std.specs.List.{list_all, join_with_byte}

-- a byte of a name in a path is no slash
abbrev pub is_of_name : ℕ → Bool
is_of_name b = not (b == 47)

-- a name in a path has bytes, and no slash among them
abbrev pub is_name : List ℕ → Bool
is_name [] = false
is_name (b ∷ bs) = list_all is_of_name (b ∷ bs)

-- names, at least one, with a slash between each two
pub record AreJoinedNames (text : List ℕ) : Type 0 where
  pub names : List (List ℕ)
  pub some : names ≢ []
  pub are_names : list_all is_name names ≡ true
  pub form : text ≡ join_with_byte 47 names

-- where a path begins: at the root, or at the system directory
abbrev pub IsStart : List ℕ → Type 0
IsStart start = (start ≡ codes "/") ⊎ (start ≡ codes "//")

-- A path is the root or the system directory, maybe followed by joined names.
pub record IsPath (text : List ℕ) : Type 0 where
  pub start : List ℕ
  pub rest : List ℕ
  pub is_start : IsStart start
  pub names : (rest ≡ []) ⊎ AreJoinedNames rest
  pub form : text ≡ start ++ rest
