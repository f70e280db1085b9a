-- The place at which words leave the forms of a list.
use Rattle.std.proofs.Common.{◌≡◌, ◌⊎◌, inl, inr, ℕ, ◌+◌, ◌-◌, ◌<◌, ◌≤◌, List, [], ◌∷◌, ◌++◌, length, take, drop, get_or, String, string_bytes, sym, ◌∙◌, ap, subst, arith, add-one, max, cond, sum_by}
use Rattle.std.proofs.Math.Nat.{le-max_left, le-max_right, max-eq_left, max-eq_right}
use Rattle.std.specs.declared.alloc.Global.{Global}
use Rattle.std.specs.declared.cmp.Ordering.{Ordering}
use Rattle.std.specs.declared.cmp.Ordering.TheVariants.{Less, Equal, Greater}
use Rattle.std.specs.Ordering.{ord_max, nat_cmp, is_lt}
use Rattle.std.specs.Cmp.{nat_cmp_is}
use Rattle.std.proofs.lemmas.Bool.{cases_lt, cases_order}
use Rattle.std.proofs.lemmas.List.{drop_more, take_more, append_assoc, get_or-map, length-map, get_or_default}
use Rattle.std.proofs.lemmas.List.Sums.{sum_by_more}
use Rattle.std.proofs.Math.Seq.{take-add}
use Rattle.o2_words.specs.Forms.{Words, texts, Form, Follows, Leads, Matches, StopsAt, most_words, BeginsLineOf, ReachesTo}
use Rattle.o2_words.proofs.Readings.{leads_on, leads_back, leads_more, has_line}

-- ---- the words as strings
pub text_at : (words : List (String Global)) (k : ℕ) (word : String Global) (text : List ℕ) → k < length words → word ≡ get_or words k word → text ≡ string_bytes word → get_or (texts words) k [] ≡ text
text_at words k word text within is told = get_or-map string_bytes words k word [] within ∙ ap string_bytes (sym is) ∙ sym told

pub within_texts : (words : List (String Global)) (k : ℕ) → k ≤ length words → k ≤ length (texts words)
within_texts words k within = omega (arith, length-map words string_bytes)

-- ---- one form
-- a word more is read
pub reads_more : (form left next : Form) (words : Words) (k : ℕ) (word : List ℕ) → k < length words → get_or words k [] ≡ word → Leads form (take k words) left → Follows left word next → Leads form (take (k + 1) words) next
reads_more form left next words k word within is leads step =
    subst (λ (w : Words). Leads form w next) (sym (take_more words k [] within ∙ ap (λ (w : List ℕ). take k words ++ w ∷ []) is)) (leads_more form left next (take k words) word leads step)

-- the words before the place begin a line of the form
begins_at : (form : Form) (words : Words) (place : ℕ) → StopsAt form words place → (more : Words) × Matches form (take place words ++ more)
begins_at form words place stops =
    let line = has_line stops.left in
    (line.0, (line.1.0, leads_on form stops.left line.1.0 (take place words) line.0 stops.leads line.1.1, line.1.2))

-- and with the word there, or at a later place, they don't
ends_at : (form : Form) (words more : Words) (place last : ℕ) → StopsAt form words place → place ≤ last → last < length words → Matches form (take (last + 1) words ++ more) → ⊥
ends_at form words more place last stops before within line =
    let some : place < length words = omega (arith, before, within) in
    let parted : take (last + 1) words ≡ take place words ++ take (last + 1 - place) (drop place words) = (let n : last + 1 ≡ place + (last + 1 - place) = omega (arith, before) in ap (λ (k : ℕ). take k words) n ∙ take-add place (last + 1 - place) words) in
    let word = get_or words place [] in
    let behind = take (last - place) (drop (place + 1) words) in
    let next : take (last + 1 - place) (drop place words) ≡ word ∷ behind = (let n : last + 1 - place ≡ (last - place) + 1 = omega (arith, before) in ap (λ (k : ℕ). take k (drop place words)) n ∙ ap (λ (w : Words). take ((last - place) + 1) w) (drop_more words place [] some) ∙ take_first word (last - place) (drop (place + 1) words)) in
    let all : take (last + 1) words ++ more ≡ take place words ++ (word ∷ (behind ++ more)) = ap (λ (w : Words). w ++ more) (parted ∙ ap (λ (w : Words). take place words ++ w) next) ∙ append_assoc (take place words) (word ∷ behind) more in
    let on : Leads stops.left (word ∷ (behind ++ more)) line.0 = leads_back form stops.left line.0 (take place words) (word ∷ (behind ++ more)) stops.leads (subst (λ (w : Words). Leads form w line.0) all line.1) in
    stops.stops some on.0 on.1
  where
    take_first : (word : List ℕ) (n : ℕ) (rest : Words) → take (n + 1) (word ∷ rest) ≡ word ∷ take n rest
    take_first word n rest = rw add-one

-- ---- the forms of a list
-- the farther of two places
pub farther : (a b : ℕ) → ord_max nat_cmp a b ≡ max a b
farther a b = elim (cases_order a b) [
  | inl same ↦ ap (λ (o : Ordering). cond (is_lt o) a b) (sym (nat_cmp_is b a Equal (sym same))) ∙ sym (max-eq_right (let le : a ≤ b = omega (arith, same) in le))
  | inr other ↦ elim other [
    | inl below ↦ ap (λ (o : Ordering). cond (is_lt o) a b) (sym (nat_cmp_is b a Greater below)) ∙ sym (max-eq_right (let le : a ≤ b = omega (arith, below) in le))
    | inr above ↦ ap (λ (o : Ordering). cond (is_lt o) a b) (sym (nat_cmp_is b a Less above)) ∙ sym (max-eq_left (let le : b ≤ a = omega (arith, above) in le))
  ]
]

-- the place is the farthest one of the first n forms
pub record IsFarthest (forms : List Form) (words : Words) (n : ℕ) (place : ℕ) : Type 0 where
  pub covered : (k : ℕ) → k < n → (p : ℕ) × StopsAt (get_or forms k []) words p × (p ≤ place)
  pub best : 0 < n → (k : ℕ) × (k < n) × StopsAt (get_or forms k []) words place
  pub few : place ≤ sum_by most_words (take n forms)

module _ (forms : List Form) (words : Words) (n old p : ℕ) (within : n < length forms) (far : IsFarthest forms words n old) (stops : StopsAt (get_or forms n []) words p) (few : p ≤ most_words (get_or forms n [])) where
  more_words : sum_by most_words (take (n + 1) forms) ≡ sum_by most_words (take n forms) + most_words (get_or forms n [])
  more_words = sum_by_more most_words forms n [] within

  covered_more : (place : ℕ) → old ≤ place → p ≤ place → (k : ℕ) → k < n + 1 → (q : ℕ) × StopsAt (get_or forms k []) words q × (q ≤ place)
  covered_more place a b k below = elim (cases_lt k n) [
    | inl before ↦ (let one = far.covered k before in (one.0, one.1, omega (arith, one.2, a)))
    | inr last ↦ (let same : n ≡ k = omega (arith, below, last) in (p, subst (λ (j : ℕ). StopsAt (get_or forms j []) words p) same stops, b))
  ]

  pub farthest_more : (place : ℕ) → old ≤ place → p ≤ place → (place ≡ old) ⊎ (place ≡ p) → (0 < n) ⊎ (place ≡ p) → IsFarthest forms words (n + 1) place
  farthest_more place a b one first = record {
    covered = covered_more place a b;
    best = λ some. elim first [
      | inr new ↦ (n, omega arith, subst (StopsAt (get_or forms n []) words) (sym new) stops)
      | inl more ↦ elim one [
        | inl same ↦ (let best = far.best more in (best.0, omega (arith, best.1), subst (StopsAt (get_or forms best.0 []) words) (sym same) best.2))
        | inr new ↦ (n, omega arith, subst (StopsAt (get_or forms n []) words) (sym new) stops)
      ]
    ];
    few = elim one [
      | inl same ↦ omega (arith, same, more_words, far.few)
      | inr new ↦ omega (arith, new, more_words, few)
    ];
  }

  -- the farther of the two
  pub farthest_of_two : IsFarthest forms words (n + 1) (max old p)
  farthest_of_two = farthest_more (max old p) (le-max_left old p) (le-max_right old p) (elim (cases_lt old p) [
    | inl before ↦ (let le : old ≤ p = omega (arith, before) in inr (max-eq_right le))
    | inr behind ↦ inl (max-eq_left behind)
  ]) (elim (cases_lt 0 n) [
    | inl some ↦ inl some
    | inr none ↦ (let zero : old ≤ p = omega (arith, nothing none) in inr (max-eq_right zero))
  ])
    where
      nothing : n ≤ 0 → old ≤ 0
      nothing none = let no : n ≡ 0 = omega (arith, none) in let few : old ≤ sum_by most_words (take 0 forms) = subst (λ (k : ℕ). old ≤ sum_by most_words (take k forms)) no far.few in few

-- it is the place up to which the words are in order
pub reaches : (forms : List Form) (words : Words) (place : ℕ) → 0 < length forms → IsFarthest forms words (length forms) place → ReachesTo forms words place
reaches forms words place some far =
    let best = far.best some in
    let begun = begins_at (get_or forms best.0 []) words place best.2 in
    record {
      within = best.2.within;
      begins = (begun.0, (best.0, get_or forms best.0 [], best.1, in_range forms best.0 best.1, begun.1));
      leaves = λ within begins. leaves within begins;
    }
  where
    in_range : (xs : List Form) (k : ℕ) → k < length xs → get_or xs k (get_or xs k []) ≡ get_or xs k []
    in_range xs k within = get_or_default xs k (get_or xs k []) [] within

    leaves : place < length words → BeginsLineOf forms (take (place + 1) words) → ⊥
    leaves within (more, (k, form, below, is, line)) =
        let one = far.covered k below in
        let same : get_or forms k [] ≡ form = get_or_default forms k [] form below ∙ is in
        ends_at form words more one.0 place (subst (λ (f : Form). StopsAt f words one.0) same one.1) one.2 within line
