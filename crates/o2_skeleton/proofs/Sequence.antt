-- Checks that are judged one after the other.
use Rattle.std.proofs.Common.{◌≡◌, inl, inr, ℕ, ◌<◌, ◌≤◌, Bool, true, false, nat_lt, ◌==◌, List, [], ◌∷◌, refl, sym, ◌∙◌, ap, arith, All}
use Rattle.std.specs.List.{AllByRecursion, list_any}
use Rattle.std.proofs.lemmas.Bool.{cases_lt, false≢true}
use Rattle.std.proofs.lemmas.Bool.Decides.{nat_tests}
use Rattle.std.proofs.lemmas.List.Elements.{All-from_recursion, All-weaker}
use Rattle.std.proofs.lemmas.List.Folds.{list_any_none}
use Rattle.o2_model.specs.declared.check.Check.TheVariants as check
use Rattle.o2_model.specs.Checks.ChainHeader.{chain_header_faults}
use Rattle.o2_model.specs.Checks.Sysfile.{sysfile_faults}
use Rattle.o2_model.specs.Failing.{faults}
use Rattle.o2_model.specs.Orders.{rising}
use Rattle.o2_model.specs.Volume.{Volume}
use Rattle.o2_model.specs.Words.{IsLeast}
use Rattle.o2_tally.proofs.Sames.{any_rising}
use Rattle.o2_view.proofs.Faults.{rose_before}
use Rattle.o2_view.specs.OwnChecks.{OwnCheck, ReadFailsOf}
use Rattle.o2_view.specs.Views.{OnlyReads, view_state}
use Rattle.o2_view.specs.declared.view.View.{View}
use Rattle.o2_disk.specs.declared.disk.Disk as disk
use Rattle.o2_view.specs.declared.fault.ReadFault.{ReadFault}
use Rattle.o2_view.specs.declared.fault.ReadFault.TheVariants as read
use Rattle.o2_skeleton.specs.SkeletonTables.{TablesFail, TellsLeast}

-- ---- the same blocks in another order
any_same : (p : ℕ → Bool) (ns ms : List ℕ) → rising ns ≡ rising ms → list_any p ns ≡ list_any p ms
any_same p ns ms same = sym (any_rising p ns) ∙ (ap (list_any p) same ∙ any_rising p ms)

pub none_same : (ns ms : List ℕ) → ns ≡ [] → rising ns ≡ rising ms → ms ≡ []
none_same ns [] none same = refl
none_same ns (m ∷ ms) none same = absurd (false≢true (sym (ap (list_any (λ _. true)) none) ∙ any_same (λ _. true) ns (m ∷ ms) same))

not_below : (b : ℕ) (ms : List ℕ) → list_any (λ m. nat_lt m b) ms ≡ false → AllByRecursion (λ m. b ≤ m) ms
not_below b [] none = tt
not_below b (m ∷ ms) none = elim (cases_lt m b) [
  | inl low ↦ absurd (false≢true (sym none ∙ rw (below m b low) refl))
  | inr high ↦ (high, not_below b ms (rw (above m b high) at none))
]
  where
    below : (m b : ℕ) → m < b → nat_lt m b ≡ true
    below m b low = grind (arith, nat_tests, low)

    above : (m b : ℕ) → b ≤ m → nat_lt m b ≡ false
    above m b high = grind (arith, nat_tests, high)

none_below : (b : ℕ) (ms : List ℕ) → All (λ m. b ≤ m) ms → list_any (λ m. nat_lt m b) ms ≡ false
none_below b ms all = list_any_none (λ m. nat_lt m b) ms (All-weaker (λ m. b ≤ m) (λ m. nat_lt m b ≡ false) above ms all)
  where
    above : (m : ℕ) → b ≤ m → nat_lt m b ≡ false
    above m high = grind (arith, nat_tests, high)

pub least_same : (b : ℕ) (ns ms : List ℕ) → rising ns ≡ rising ms → IsLeast b ns → IsLeast b ms
least_same b ns ms same least = record {
  is_among = sym (any_same (λ m. b == m) ns ms same) ∙ least.is_among;
  each = All-from_recursion (λ m. b ≤ m) ms (not_below b ms (sym (any_same (λ m. nat_lt m b) ns ms same) ∙ none_below b ns least.each));
}

-- ---- a check by its table
module _ (Of : Volume → Type 0) (own : OwnCheck) (found : List ℕ) (told : (v : Volume) → Of v → rising found ≡ rising (own.faults v)) where
  pub table_holds : found ≡ [] → (v : Volume) → Of v → own.faults v ≡ []
  table_holds none v is = none_same found (own.faults v) none (told v is)

  pub table_fails : (fault : ReadFault) → TellsLeast own.check found fault → TablesFail Of own fault
  table_fails read.NoMemory why = absurd why
  table_fails read.DeviceFault why = absurd why
  table_fails (read.Bad c b) why = record { own = inl why.0; first = λ v is. inl (why.0, least_same b found (own.faults v) (told v is) why.1) }

-- ---- faults by the table of checks
pub headers_by_table : (v : Volume) (ns : List ℕ) → rising ns ≡ rising (faults v check.ChainHeader) → rising ns ≡ rising (chain_header_faults v)
unfolding faults
headers_by_table v ns same = same

pub files_by_table : (v : Volume) (ns : List ℕ) → rising ns ≡ rising (faults v check.Sysfile) → rising ns ≡ rising (sysfile_faults v)
unfolding faults
files_by_table v ns same = same

-- ---- one check, then the others
module _ {D : Type 0} {N : ℕ} {g : disk.Ghosts D} (old mid new : View D N g) (Of Was : Volume → Type 0) (own : OwnCheck) (rest : List OwnCheck) where
  pub fails_behind : OnlyReads old mid → ((v : Volume) → Of v → Was v) → ((v : Volume) → Of v → own.faults v ≡ []) → (fault : ReadFault) → ReadFailsOf Was mid new rest fault → ReadFailsOf Of old new (own ∷ rest) fault
  fails_behind only was none read.NoMemory why = tt
  fails_behind only was none read.DeviceFault why = rose_before (view_state old).faults (view_state mid).faults (view_state new).faults only.later why
  fails_behind only was none (read.Bad c b) why = record { own = inr why.own; first = λ v of. inr (none v of, why.first v (was v of)) }
