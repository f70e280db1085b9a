-- What a plan holds, and what a block is under it.
use Rattle.std.specs.Prelude.{◌≡◌, ℕ, ◌+◌, ◌<◌, ◌≤◌, Bool, ◌&&◌, ◌==◌, nat_le, nat_lt, List, [], ◌∷◌, ◌++◌, length, fold, All, Option, Some, None, if◌then◌else◌, replicate}
use Rattle.std.specs.List.{list_any}
use Rattle.std.specs.Option.{option_or}
use Rattle.std.specs.Map.{lookup, values_of}
use Rattle.std.specs.Ordering.{nat_cmp}
use Rattle.std.specs.BTreeMap.{is_at, insert_entry}

-- A plan as contracts see it.
pub record Planned : Type 0 where
  -- blocks of free space with their bytes, in the order in which they were planned
  pub fresh : List (ℕ × List ℕ)
  -- runs of blocks that are cleared: the first block, and how many there are
  pub zeros : List (ℕ × ℕ)
  -- blocks that change through the log with their bytes, by rising block
  pub home : List (ℕ × List ℕ)

abbrev pub no_plan : Planned
no_plan = record { fresh = []; zeros = []; home = [] }

-- ---- one piece more
-- the plan with these bytes for home block b, in place of those that it had
abbrev pub with_home : Planned → ℕ → List ℕ → Planned
with_home p b bytes = record p { home = insert_entry nat_cmp p.home b bytes }

abbrev pub with_fresh : Planned → ℕ → List ℕ → Planned
with_fresh p b bytes = record p { fresh = p.fresh ++ (b, bytes) ∷ [] }

abbrev pub with_zeros : Planned → ℕ → ℕ → Planned
with_zeros p first count = record p { zeros = p.zeros ++ (first, count) ∷ [] }

-- ---- what a block is under it
-- the bytes of home block b
abbrev pub home_at : Planned → ℕ → Option (List ℕ)
home_at p b = lookup (is_at (nat_cmp b)) p.home

-- the bytes of the last of these blocks that is b
abbrev pub last_of : List (ℕ × List ℕ) → ℕ → Option (List ℕ)
last_of blocks b = fold (λ found e. if e.0 == b then Some e.1 else found) None blocks

-- the bytes of the last fresh block b
abbrev pub fresh_at : Planned → ℕ → Option (List ℕ)
fresh_at p b = last_of p.fresh b

-- number b lies in the run, told by its first number and how many there are
abbrev pub is_in_run : ℕ → ℕ × ℕ → Bool
is_in_run b run = nat_le run.0 b && nat_lt b (run.0 + run.1)

-- number b lies in one of the runs
abbrev pub is_in_runs : List (ℕ × ℕ) → ℕ → Bool
is_in_runs runs b = list_any (is_in_run b) runs

-- a block of so many zeros
unfoldable pub zero_block : ℕ → List ℕ
zero_block size = replicate size 0

-- what the plan has for block b, of so many bytes: those of a home block, else of the last fresh block, else zeros in a run of zeros
unfoldable pub planned_at : ℕ → Planned → ℕ → Option (List ℕ)
planned_at size p b = option_or (home_at p b) (option_or (fresh_at p b) (if is_in_runs p.zeros b then Some (zero_block size) else None))

-- no home block and no fresh block lies among these
abbrev pub IsUnplanned : Planned → ℕ → ℕ → Type 0
IsUnplanned p first count = (b : ℕ) → first ≤ b → b < first + count → (home_at p b ≡ None) × (fresh_at p b ≡ None)

-- ---- sizes
-- each of its pieces of bytes has so many
pub record AreWhole (size : ℕ) (p : Planned) : Type 0 where
  pub fresh : All (λ bytes. length bytes ≡ size) (values_of p.fresh)
  pub home : All (λ bytes. length bytes ≡ size) (values_of p.home)
