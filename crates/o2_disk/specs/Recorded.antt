-- The laws of a record of calls.
use Rattle.std.proofs.Common.{◌≡◌, ℕ, ◌-◌, ◌<◌, ◌≤◌, ◌^◌, List, [], ◌∷◌, ◌++◌, length, Some, option_to_list, sym, ◌∙◌, ap, subst, arith, length-append}
use Rattle.std.proofs.lemmas.List.{take_all, get_or_default}
use Rattle.std.proofs.lemmas.List.FromFn.{length-map-range_with_len, get_or-map-range_with_len}
use Rattle.std.specs.List.{Contains}
use Rattle.std.specs.BTreeMap.{BTreeMap}
use Rattle.o2_disk.specs.Image.{Image, IsImage, IsSector, sector}
use Rattle.o2_disk.specs.declared.call.Call.{Call}
use Rattle.o2_disk.specs.declared.call.Call.TheVariants.{Read, Write, Zeros, Sync, FailedSync}
use Rattle.o2_disk.specs.Stored.{stored}
use Rattle.o2_disk.specs.Calls.{Choices, newest, put_by, step, run, start, IsOutcome, shown, Since}

-- ---- one sector's choices
pub has_choice-append : (xs ys : List (List ℕ)) → 0 < length xs → 0 < length (xs ++ ys)
has_choice-append xs ys some = omega (arith, length-append xs ys)

pub has_choice-step : (c : Call) (may : Choices) → ((s : ℕ) → 0 < length (may s)) → (s : ℕ) → 0 < length (step c may s)
has_choice-step Read may some s = some s
has_choice-step (Write at bytes) may some s = has_choice-append (may s) (option_to_list (put_by (Write at bytes) s)) (some s)
has_choice-step (Zeros at sectors) may some s = has_choice-append (may s) (option_to_list (put_by (Zeros at sectors) s)) (some s)
has_choice-step Sync may some s = omega arith
has_choice-step FailedSync may some s = some s

has_choice : (may : Choices) (calls : List Call) → ((s : ℕ) → 0 < length (may s)) → (s : ℕ) → 0 < length (run may calls s)
has_choice may [] some s = some s
has_choice may (c ∷ calls) some s = has_choice (step c may) calls (has_choice-step c may some) s

pub some_choice : (base : BTreeMap ℕ (List ℕ)) (calls : List Call) (s : ℕ) → 0 < length (run (start base) calls s)
some_choice base calls s = has_choice (start base) calls (λ s. omega arith) s

pub contains_newest : (choices : List (List ℕ)) → 0 < length choices → Contains choices (newest choices)
contains_newest choices some = (length choices - 1, omega (arith, some), get_or_default choices (length choices - 1) (newest choices) [] (omega (arith, some)))

-- ---- what a read gives
pub length-shown : (n : ℕ) (may : Choices) → length (shown n may) ≡ n
unfolding shown
length-shown n may = length-map-range_with_len (λ s. newest (may s)) 0 n

pub sector-shown : (n : ℕ) (may : Choices) (s : ℕ) → s < n → sector (shown n may) s ≡ newest (may s)
unfolding shown
sector-shown n may s h = get_or-map-range_with_len (λ s. newest (may s)) 0 n s s [] h (omega arith)

-- ---- the laws of the trait
pub has_sectors : (n : ℕ) (base : BTreeMap ℕ (List ℕ)) (calls : List Call) (I : Image) → Some (shown n (run (start base) calls)) ≡ Some I → length I ≡ n
has_sectors n base calls I is = let same : shown n (run (start base) calls) ≡ I = cc in ap length (sym same) ∙ length-shown n (run (start base) calls)

pub shown_is_outcome : (n : ℕ) (base : BTreeMap ℕ (List ℕ)) (calls : List Call) (I : Image) → Some (shown n (run (start base) calls)) ≡ Some I → IsOutcome n (run (start base) calls) I
shown_is_outcome n base calls I is =
    let may = run (start base) calls in
    let same : shown n may ≡ I = cc in
    subst (λ (J : Image). IsOutcome n may J) same (record {
      size = length-shown n may;
      each = λ s h. subst (λ (v : List ℕ). Contains (may s) v) (sym (sector-shown n may s h)) (contains_newest (may s) (some_choice base calls s));
    })

pub is_image : (n : ℕ) (base : BTreeMap ℕ (List ℕ)) (calls : List Call) (now : BTreeMap ℕ (List ℕ)) → n < 2 ^ 64 → ((s : ℕ) → stored now s ≡ newest (run (start base) calls s)) → ((s : ℕ) → IsSector (stored now s))
    → (I : Image) → Some (shown n (run (start base) calls)) ≡ Some I → IsImage I
is_image n base calls now few agrees sound I is =
    let may = run (start base) calls in
    let same : shown n may ≡ I = cc in
    subst IsImage same (record {
      few = omega (arith, few, length-shown n may);
      each = λ s h. subst IsSector (agrees s ∙ sym (sector-shown n may s (omega (arith, h, length-shown n may)))) (sound s);
    })

pub counts_now : (n : ℕ) (base : BTreeMap ℕ (List ℕ)) (calls : List Call) (t : ℕ) (X : Image) → t ≤ length calls → IsOutcome n (run (start base) calls) X → Since n base calls t X
counts_now n base calls t X le here = record {
  moment = length calls;
  from = le;
  past = omega arith;
  outcome = subst (λ (l : List Call). IsOutcome n (run (start base) l) X) (sym (take_all (length calls) calls (omega arith))) here;
}

pub only_now : (n : ℕ) (base : BTreeMap ℕ (List ℕ)) (calls : List Call) (X : Image) → Since n base calls (length calls) X → IsOutcome n (run (start base) calls) X
only_now n base calls X since = subst (λ (l : List Call). IsOutcome n (run (start base) l) X) (take_all since.moment calls since.from) since.outcome
