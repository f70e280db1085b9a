-- What a crash left of each sector, and a walk over the keys of a map.
use Rattle.std.proofs.Common.{◌≡◌, ◌≢◌, inl, inr, ℕ, suc, ◌+◌, ◌-◌, ◌*◌, ◌%◌, ◌<◌, false, List, [], ◌∷◌, ◌++◌, length, take, get_or, Option, Some, None, unwrap_or, option_to_list, refl, sym, ◌∙◌, ap, subst, arith}
use Rattle.std.proofs.lemmas.List.{take_more, get_or_default, append-nil, get_or_append_left, length_push}
use Rattle.std.proofs.lemmas.Bool.{cases_eq, cases_lt}
use Rattle.std.proofs.Math.Seq.{get_or-append_seam}
use Rattle.std.specs.Ordering.{nat_cmp, eq_by_cmp}
use Rattle.std.specs.Option.{is_some}
use Rattle.std.specs.List.{Contains, list_any}
use Rattle.std.specs.BTreeMap.{BTreeMap, get}
use Rattle.o2_disk.specs.Image.{image_of, zero_sector}
use Rattle.o2_disk.specs.declared.call.Call.{Call}
use Rattle.o2_disk.specs.declared.call.Call.TheVariants.{Read, Write, Zeros, Sync, FailedSync}
use Rattle.o2_disk.specs.Stored.{stored}
use Rattle.o2_disk.specs.Calls.{Choices, IsOutcome, newest, put_by, put_or_zeros, step, run, start, chosen}
use Rattle.o2_disk.specs.Recorded.{some_choice, has_choice-step}
use Rattle.o2_disk.proofs.Images.{length-image_of, sector-image_of}
use Rattle.o2_disk.proofs.Puts.{run_more}

-- a step of one sector
step_at : (c : Call) (may : Choices) (s : ℕ) → step c may s ≡ step c (λ _. may s) s
step_at Read may s = refl
step_at (Write at bytes) may s = refl
step_at (Zeros at sectors) may s = refl
step_at Sync may s = refl
step_at FailedSync may s = refl

pub choices_more : (base : BTreeMap ℕ (List ℕ)) (calls : List Call) (k s : ℕ) (item : Call) (old new : List (List ℕ)) → old ≡ run (start base) (take k calls) s → k < length calls → item ≡ get_or calls k item → new ≡ step item (λ _. old) s
    → new ≡ run (start base) (take (k + 1) calls) s
choices_more base calls k s item old new so_far within is one =
    let more : take (k + 1) calls ≡ take k calls ++ item ∷ [] = take_more calls k item within ∙ ap (λ (c : Call). take k calls ++ c ∷ []) (sym is) in
    one ∙ ap (λ (l : List (List ℕ)). step item (λ _. l) s) so_far ∙ sym (step_at item (run (start base) (take k calls)) s)
    ∙ sym (ap (λ (m : Choices). m s) (run_more (start base) (take k calls) item)) ∙ sym (ap (λ (l : List Call). run (start base) l s) more)

-- ---- a sector that no call changed holds zeros in each choice
abbrev pub AllZeros : List (List ℕ) → Type 0
AllZeros xs = (j : ℕ) → j < length xs → get_or xs j [] ≡ zero_sector

zeros_put : (xs : List (List ℕ)) (o : Option (List ℕ)) → AllZeros xs → unwrap_or o zero_sector ≡ zero_sector → AllZeros (xs ++ option_to_list o)
zeros_put xs None zeros is = subst AllZeros (sym (append-nil xs)) zeros
zeros_put xs (Some v) zeros is = λ j h. elim (cases_lt j (length xs)) [
  | inl before ↦ get_or_append_left xs (v ∷ []) [] j before ∙ zeros j before
  | inr from ↦ let last : j ≡ length xs = omega (arith, h, from, length_push xs v) in ap (λ (k : ℕ). get_or (xs ++ v ∷ []) k []) last ∙ get_or-append_seam xs v [] [] ∙ is
]

zeros_step : (c : Call) (may : Choices) (s : ℕ) → 0 < length (may s) → AllZeros (may s) → unwrap_or (put_by c s) zero_sector ≡ zero_sector → AllZeros (step c may s)
zeros_step Read may s some zeros is = zeros
zeros_step (Write at bytes) may s some zeros is = zeros_put (may s) (put_by (Write at bytes) s) zeros is
zeros_step (Zeros at sectors) may s some zeros is = zeros_put (may s) (put_by (Zeros at sectors) s) zeros is
zeros_step Sync may s some zeros is = λ j h. let first : j ≡ 0 = omega (arith, h) in ap (λ (k : ℕ). get_or (newest (may s) ∷ []) k []) first ∙ zeros (length (may s) - 1) (omega (arith, some))
zeros_step FailedSync may s some zeros is = zeros

zeros_run : (may : Choices) (calls : List Call) (s : ℕ) → ((q : ℕ) → 0 < length (may q)) → AllZeros (may s) → ((k : ℕ) → k < length calls → put_or_zeros calls k s ≡ zero_sector) → AllZeros (run may calls s)
zeros_run may [] s some zeros touched = zeros
zeros_run may (c ∷ calls) s some zeros touched = zeros_run (step c may) calls s (has_choice-step c may some) (zeros_step c may s (some s) zeros (touched 0 (omega arith))) (λ k h. touched (suc k) (omega (arith, h)))

chosen_zero : (choice s : ℕ) (xs : List (List ℕ)) → 0 < length xs → AllZeros xs → chosen choice s xs ≡ zero_sector
chosen_zero choice s xs some zeros = zeros (choice * (s + 1) % length xs) (omega (arith, some))

pub chosen_untouched : (base held : BTreeMap ℕ (List ℕ)) (calls : List Call) (choice s : ℕ) → ((s : ℕ) → get nat_cmp held s ≡ None → stored base s ≡ zero_sector)
    → ((s k : ℕ) → get nat_cmp held s ≡ None → k < length calls → put_or_zeros calls k s ≡ zero_sector) → get nat_cmp held s ≡ None → chosen choice s (run (start base) calls s) ≡ zero_sector
chosen_untouched base held calls choice s untouched touched none = chosen_zero choice s (run (start base) calls s) (some_choice base calls s)
    (zeros_run (start base) calls s (λ q. omega arith) (λ j h. let first : j ≡ 0 = omega (arith, h) in ap (λ (k : ℕ). get_or (stored base s ∷ []) k []) first ∙ untouched s none) (λ k h. touched s k none h))

-- a sector's number among its choices
pub at_number : (choice s number : ℕ) (items all : List (List ℕ)) (x : List ℕ) → items ≡ all → number ≡ choice * (s + 1) % length items → number < length items → x ≡ get_or items number x → x ≡ chosen choice s all
at_number choice s number items all x same is within found =
    found ∙ get_or_default items number x [] within ∙ ap (λ (k : ℕ). get_or items k []) is ∙ ap (λ (l : List (List ℕ)). chosen choice s l) same

-- a key that is not the first
pub later_key : (q s : ℕ) (rest : List ℕ) → q ≢ s → list_any (eq_by_cmp nat_cmp q) rest ≡ false → list_any (eq_by_cmp nat_cmp q) (s ∷ rest) ≡ false
later_key q s rest apart none = grind arith

pub no_key : (m : BTreeMap ℕ (List ℕ)) (q : ℕ) → is_some (get nat_cmp m q) ≡ false → get nat_cmp m q ≡ None
no_key m q none = at_place (get nat_cmp m q) none
  where
    at_place : (o : Option (List ℕ)) → is_some o ≡ false → o ≡ None
    at_place None none = refl
    at_place (Some v) none = cc

-- a walk over the keys, of which `rest` are left
pub keys_begin : (held base : BTreeMap ℕ (List ℕ)) (keys : List ℕ) (f : ℕ → List ℕ) → ((q : ℕ) → is_some (get nat_cmp held q) ≡ list_any (eq_by_cmp nat_cmp q) keys) → ((q : ℕ) → get nat_cmp held q ≡ None → f q ≡ zero_sector)
    → ((q : ℕ) → stored base q ≡ zero_sector) → (q : ℕ) → list_any (eq_by_cmp nat_cmp q) keys ≡ false → stored base q ≡ f q
keys_begin held base keys f has absent empty q none = empty q ∙ sym (absent q (no_key held q (has q ∙ none)))

pub keys_step : (old new : BTreeMap ℕ (List ℕ)) (s : ℕ) (rest all : List ℕ) (f : ℕ → List ℕ) → all ≡ s ∷ rest → stored new s ≡ f s → ((q : ℕ) → q ≢ s → stored new q ≡ stored old q)
    → ((q : ℕ) → list_any (eq_by_cmp nat_cmp q) all ≡ false → stored old q ≡ f q) → (q : ℕ) → list_any (eq_by_cmp nat_cmp q) rest ≡ false → stored new q ≡ f q
keys_step old new s rest all f is here others so_far q none = elim (cases_eq q s) [
  | inl same ↦ subst (λ (k : ℕ). stored new k ≡ f k) (sym same) here
  | inr apart ↦ others q apart ∙ so_far q (ap (λ (l : List ℕ). list_any (eq_by_cmp nat_cmp q) l) is ∙ later_key q s rest apart none)
]

-- an image of choices is one that a crash may leave
pub chosen_outcome : (n choice : ℕ) (base : BTreeMap ℕ (List ℕ)) (calls : List Call) → IsOutcome n (run (start base) calls) (image_of n (λ s. chosen choice s (run (start base) calls s)))
chosen_outcome n choice base calls = record {
  size = length-image_of n (λ s. chosen choice s (run (start base) calls s));
  each = λ s h. subst (λ (v : List ℕ). Contains (run (start base) calls s) v) (sym (sector-image_of n (λ s. chosen choice s (run (start base) calls s)) s h)) (one_of choice s (run (start base) calls s) (some_choice base calls s));
}
  where
    one_of : (choice s : ℕ) (xs : List (List ℕ)) → 0 < length xs → Contains xs (chosen choice s xs)
    one_of choice s xs some =
        let below : choice * (s + 1) % length xs < length xs = omega (arith, some) in
        (choice * (s + 1) % length xs, below, get_or_default xs (choice * (s + 1) % length xs) (chosen choice s xs) [] below)
