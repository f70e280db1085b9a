-- What a map keeps of the items of each number.
use Rattle.std.specs.Prelude.{◌≡◌, ℕ, ◌==◌, List, filter, fold, Option, Some, None, unwrap_or}
use Rattle.std.specs.BTreeMap.{BTreeMap, get}
use Rattle.std.specs.Ordering.{nat_cmp}
use Rattle.o2_model.specs.Files.{times_in}
use Rattle.o2_tally.specs.declared.counts.Counts.{Counts}

-- what the items with this key, in order, make together, where there are some
abbrev pub gathered : {A S : Type 0} → (A → ℕ) → (Option S → A → S) → List A → ℕ → Option S
gathered key step items k = fold (λ s x. Some (step s x)) None (filter (λ x. key x == k) items)

-- the map has at each key what the items with this key make together
pub record IsGathered {A S : Type 0} (key : A → ℕ) (step : Option S → A → S) (items : List A) (m : BTreeMap ℕ S) : Type 0 where
  pub each : (k : ℕ) → get nat_cmp m k ≡ gathered key step items k

-- how often the number came, as the counts have it
abbrev pub count_of : Counts → ℕ → ℕ
count_of counts n = unwrap_or (get nat_cmp counts.times n) 0

-- These numbers came, each so often.
pub record IsCount (ns : List ℕ) (counts : Counts) : Type 0 where
  pub each : (n : ℕ) → count_of counts n ≡ times_in ns n
