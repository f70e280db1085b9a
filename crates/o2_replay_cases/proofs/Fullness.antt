-- A test of each number below a bound, computed at once.
use Rattle.std.proofs.Common.{◌≡◌, ℕ, zero, suc, ◌+◌, ◌<◌, Bool, true, ◌==◌, List, length, ◌∙◌, ap, arith}
use Rattle.std.specs.List.{list_all, range_with_len}
use Rattle.std.proofs.lemmas.Bool.{and_parts, eqb-true}
use Rattle.o2_replay_cases.specs.WholeImages.{are_full}
use Rattle.o2_cases_volumes.specs.WholeVolume.{on_device}

from_start : (p : ℕ → Bool) (start count k : ℕ) → list_all p (range_with_len start count) ≡ true → k < count → p (start + k) ≡ true
from_start p start zero k all low = absurd (omega (arith, low))
from_start p start (suc count) zero all low = ap p (omega arith) ∙ (and_parts (p start) _ all).0
from_start p start (suc count) (suc k) all low = ap p (omega arith) ∙ from_start p (start + 1) count k (and_parts (p start) _ all).1 (omega (arith, low))

-- where all of a range pass, each number below its end does
pub each_below : (p : ℕ → Bool) (count k : ℕ) → list_all p (range_with_len 0 count) ≡ true → k < count → p k ≡ true
each_below p count k all low = ap p (omega arith) ∙ from_start p 0 count k all low

-- where each block has 512 bytes, each block below the bound does
pub full_blocks : (blocks : ℕ → List ℕ) → are_full blocks ≡ true → (s : ℕ) → s < 128 → length (on_device blocks s) ≡ 512
full_blocks blocks all s low = eqb-true (length (on_device blocks s)) 512 (each_below (λ s. length (on_device blocks s) == 512) 128 s all low)
