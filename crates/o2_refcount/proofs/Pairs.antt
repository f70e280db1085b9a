-- Records beside the counts that they get.
use Rattle.std.proofs.Common.{◌≡◌, ℕ, suc, ◌+◌, ◌<◌, ◌≤◌, Bool, ◌||◌, ◌==◌, true, false, List, [], ◌∷◌, ◌++◌, map, filter, take, drop, length, get_or, refl, sym, ◌∙◌, ap, arith}
use Rattle.std.specs.List.{zip, range_with_len}
use Rattle.std.proofs.lemmas.Bool.{false≢true}
use Rattle.std.proofs.lemmas.Bool.Decides.{nat_tests}
use Rattle.std.proofs.lemmas.List.{append-nil}
use Rattle.std.proofs.lemmas.List.Elements.{filter-append}
use Rattle.o2_ondisk.specs.declared.refcount_rec.RefcountRec.{RefcountRec}
use Rattle.o2_model.specs.declared.placed_refcount.PlacedRefcount.{PlacedRefcount}
use Rattle.o2_model.specs.Words.{among}
use Rattle.o2_refcount.specs.Recounts.{recounted, holders}
use Rattle.o2_refcount.proofs.Grown.{placed}

-- the records of block b among these, alone and beside their counts
abbrev pub of_block : ℕ → List PlacedRefcount → List PlacedRefcount
of_block b ps = filter (λ p. p.block == b) ps

abbrev pub pairs_of_block : ℕ → List (PlacedRefcount × ℕ) → List (PlacedRefcount × ℕ)
pairs_of_block b pairs = filter (λ p. p.0.block == b) pairs

-- ---- lists side by side
pub zip-append : (ps qs : List PlacedRefcount) (ms : List ℕ) → length ps ≤ length ms → zip (ps ++ qs) ms ≡ zip ps ms ++ zip qs (drop (length ps) ms)
zip-append [] qs ms few = refl
zip-append (p ∷ ps) qs [] few = absurd (omega (arith, few))
zip-append (p ∷ ps) qs (m ∷ ms) few = ap (λ (rest : List (PlacedRefcount × ℕ)). (p, m) ∷ rest) (zip-append ps qs ms (omega (arith, few)))

-- as many counts as there are records are enough
pub zip-take : (b : ℕ) (rs : List RefcountRec) (ms : List ℕ) → zip (placed b rs) (take (length rs) ms) ≡ zip (placed b rs) ms
zip-take b [] ms = refl
zip-take b (r ∷ rs) [] = refl
zip-take b (r ∷ rs) (m ∷ ms) = ap (λ (rest : List (PlacedRefcount × ℕ)). (record { block = b; fields = r }, m) ∷ rest) (zip-take b rs ms)

-- ---- the records of a block among these
same_block : (b : ℕ) → (b == b) ≡ true
same_block b = grind (arith, nat_tests)

turned : (b c : ℕ) → (b == c) ≡ false → (c == b) ≡ false
turned b c apart = grind (arith, nat_tests)

pub first_out : (x y : Bool) → (x || y) ≡ false → x ≡ false
first_out true y h = h
first_out false y h = refl

pub rest_out : (x y : Bool) → (x || y) ≡ false → y ≡ false
rest_out true y h = absurd (false≢true (sym h))
rest_out false y h = h

none_of_block : (b : ℕ) (ps : List PlacedRefcount) → among (holders ps) b ≡ false → of_block b ps ≡ []
none_of_block b [] out = refl
none_of_block b (p ∷ ps) out = let here = turned b p.block (first_out _ _ out) in rw here (none_of_block b ps (rest_out _ _ out))

no_pair_of_block : (b : ℕ) (ps : List PlacedRefcount) (ms : List ℕ) → among (holders ps) b ≡ false → pairs_of_block b (zip ps ms) ≡ []
no_pair_of_block b [] ms out = refl
no_pair_of_block b (p ∷ ps) [] out = refl
no_pair_of_block b (p ∷ ps) (m ∷ ms) out = let here = turned b p.block (first_out _ _ out) in rw here (no_pair_of_block b ps ms (rest_out _ _ out))

all_of_block : (b : ℕ) (rs : List RefcountRec) → of_block b (placed b rs) ≡ placed b rs
all_of_block b [] = refl
all_of_block b (r ∷ rs) = let here = same_block b in rw here (ap (λ (rest : List PlacedRefcount). record { block = b; fields = r } ∷ rest) (all_of_block b rs))

all_pairs_of_block : (b : ℕ) (rs : List RefcountRec) (ms : List ℕ) → pairs_of_block b (zip (placed b rs) ms) ≡ zip (placed b rs) ms
all_pairs_of_block b [] ms = refl
all_pairs_of_block b (r ∷ rs) [] = refl
all_pairs_of_block b (r ∷ rs) (m ∷ ms) = let here = same_block b in rw here (ap (λ (rest : List (PlacedRefcount × ℕ)). (record { block = b; fields = r }, m) ∷ rest) (all_pairs_of_block b rs ms))

-- those of a block that comes last, and comes for the first time
pub of_last : (b : ℕ) (ps : List PlacedRefcount) (rs : List RefcountRec) → among (holders ps) b ≡ false → of_block b (ps ++ placed b rs) ≡ placed b rs
of_last b ps rs out =
    filter-append (λ (p : PlacedRefcount). p.block == b) ps (placed b rs)
    ∙ (ap (λ (xs : List PlacedRefcount). xs ++ of_block b (placed b rs)) (none_of_block b ps out) ∙ all_of_block b rs)

pub pairs_of_last : (b : ℕ) (ps : List PlacedRefcount) (rs : List RefcountRec) (ms : List ℕ) → length ps ≤ length ms → among (holders ps) b ≡ false
    → pairs_of_block b (zip (ps ++ placed b rs) ms) ≡ zip (placed b rs) (take (length rs) (drop (length ps) ms))
pairs_of_last b ps rs ms few out =
    ap (pairs_of_block b) (zip-append ps (placed b rs) ms few)
    ∙ (filter-append (λ (p : PlacedRefcount × ℕ). p.0.block == b) (zip ps ms) (zip (placed b rs) (drop (length ps) ms))
    ∙ (ap (λ (xs : List (PlacedRefcount × ℕ)). xs ++ pairs_of_block b (zip (placed b rs) (drop (length ps) ms))) (no_pair_of_block b ps ms out)
    ∙ (all_pairs_of_block b rs (drop (length ps) ms) ∙ sym (zip-take b rs (drop (length ps) ms)))))

-- those of another block stay
pub none_placed : (b c : ℕ) (rs : List RefcountRec) → (c == b) ≡ false → among (holders (placed b rs)) c ≡ false
none_placed b c [] apart = refl
none_placed b c (r ∷ rs) apart = rw apart (none_placed b c rs apart)

pub of_other : (b c : ℕ) (ps : List PlacedRefcount) (rs : List RefcountRec) → (c == b) ≡ false → of_block c (ps ++ placed b rs) ≡ of_block c ps
of_other b c ps rs apart =
    filter-append (λ (p : PlacedRefcount). p.block == c) ps (placed b rs)
    ∙ (ap (λ (xs : List PlacedRefcount). of_block c ps ++ xs) (none_of_block c (placed b rs) (none_placed b c rs apart)) ∙ append-nil (of_block c ps))

pub pairs_of_other : (b c : ℕ) (ps : List PlacedRefcount) (rs : List RefcountRec) (ms : List ℕ) → length ps ≤ length ms → (c == b) ≡ false
    → pairs_of_block c (zip (ps ++ placed b rs) ms) ≡ pairs_of_block c (zip ps ms)
pairs_of_other b c ps rs ms few apart =
    ap (pairs_of_block c) (zip-append ps (placed b rs) ms few)
    ∙ (filter-append (λ (p : PlacedRefcount × ℕ). p.0.block == c) (zip ps ms) (zip (placed b rs) (drop (length ps) ms))
    ∙ (ap (λ (xs : List (PlacedRefcount × ℕ)). pairs_of_block c (zip ps ms) ++ xs) (no_pair_of_block c (placed b rs) (drop (length ps) ms) (none_placed b c rs apart))
    ∙ append-nil (pairs_of_block c (zip ps ms))))

-- ---- what they say
pub placed_say : (b : ℕ) (rs : List RefcountRec) → map (λ p. p.fields) (placed b rs) ≡ rs
placed_say b [] = refl
placed_say b (r ∷ rs) = ap (λ (rest : List RefcountRec). r ∷ rest) (placed_say b rs)

pub placed_counted : (b : ℕ) (rs : List RefcountRec) (ms : List ℕ) → map (λ p. recounted p.0.fields p.1) (zip (placed b rs) ms) ≡ map (λ p. recounted p.0 p.1) (zip rs ms)
placed_counted b [] ms = refl
placed_counted b (r ∷ rs) [] = refl
placed_counted b (r ∷ rs) (m ∷ ms) = ap (λ (rest : List RefcountRec). recounted r m ∷ rest) (placed_counted b rs ms)

-- records that each have the count beside them
pub each_counted : (new old : ℕ → RefcountRec) (at : ℕ) (ms : List ℕ) → ((k : ℕ) → k < length ms → new (at + k) ≡ recounted (old (at + k)) (get_or ms k 0))
    → map new (range_with_len at (length ms)) ≡ map (λ p. recounted p.0 p.1) (zip (map old (range_with_len at (length ms))) ms)
each_counted new old at [] each = refl
each_counted new old at (m ∷ ms) each =
    let place : at + 0 ≡ at = omega arith in
    let here : new at ≡ recounted (old at) m = sym (ap new place) ∙ (each 0 (omega arith) ∙ ap (λ j. recounted (old j) m) place) in
    let rest = each_counted new old (at + 1) ms (λ k low.
    let next : at + suc k ≡ at + 1 + k = omega arith in
    sym (ap new next) ∙ (each (suc k) (omega (arith, low)) ∙ ap (λ j. recounted (old j) (get_or ms k 0)) next)) in
    ap (λ (r : RefcountRec). r ∷ map new (range_with_len (at + 1) (length ms))) here ∙ ap (λ (rs : List RefcountRec). recounted (old at) m ∷ rs) rest
