-- The spans of runs of numbers.
use Rattle.std.proofs.Common.{◌≡◌, inl, inr, ℕ, ◌+◌, ◌<◌, ◌≤◌, Bool, true, false, ◌||◌, List, [], ◌∷◌, ◌++◌, refl, sym, ◌∙◌, ap, subst, arith, Option, Some, None}
use Rattle.std.proofs.lemmas.Bool.{cases_eq, cases_lt}
use Rattle.std.proofs.lemmas.Bool.Decides.{nat_tests}
use Rattle.std.proofs.lemmas.List.Folds.{list_any-append}
use Rattle.std.specs.BTreeMap.{BTreeMap, get, is_at}
use Rattle.std.specs.Map.{lookup}
use Rattle.std.specs.Ordering.{nat_cmp}
use Rattle.std.specs.Prelude.{◌≢◌}
use Rattle.o2_view.specs.Plans.{is_in_run, is_in_runs}
use Rattle.o2_view.specs.Indexes.{AreSpans, IsAdding}

-- ---- one run more
in_run : (first count b : ℕ) → first ≤ b → b < first + count → is_in_run b (first, count) ≡ true
in_run first count b low high = grind (arith, nat_tests)

pub is_in : (first count b : ℕ) → is_in_run b (first, count) ≡ true → (first ≤ b) × (b < first + count)
is_in first count b h = (grind (arith, nat_tests), grind (arith, nat_tests))

pub is_out : (first count b : ℕ) → is_in_run b (first, count) ≡ false → first ≤ b → first + count ≤ b
is_out first count b h low = grind (arith, nat_tests)

not_in_run : (first count b : ℕ) → (first ≤ b → first + count ≤ b) → is_in_run b (first, count) ≡ false
not_in_run first count b out = elim (cases_lt b first) [
  | inl below ↦ grind (arith, nat_tests)
  | inr from ↦ let past = out from in grind (arith, nat_tests)
]

last_any : (p : ℕ × ℕ → Bool) (run : ℕ × ℕ) (is : Bool) → p run ≡ is → (before : Bool) → (before || (p run || false)) ≡ (before || is)
last_any p run true h before = rw h refl
last_any p run false h before = rw h refl

module _ (runs : List (ℕ × ℕ)) (first count b : ℕ) where
  in_both : (is : Bool) → is_in_run b (first, count) ≡ is → is_in_runs (runs ++ (first, count) ∷ []) b ≡ (is_in_runs runs b || is)
  in_both is h = list_any-append (is_in_run b) runs ((first, count) ∷ []) ∙ last_any (is_in_run b) (first, count) is h (is_in_runs runs b)

  runs_before : is_in_runs runs b ≡ true → is_in_runs (runs ++ (first, count) ∷ []) b ≡ true
  runs_before before = list_any-append (is_in_run b) runs ((first, count) ∷ []) ∙ rw before refl

  pub runs_here : first ≤ b → b < first + count → is_in_runs (runs ++ (first, count) ∷ []) b ≡ true
  runs_here low high = in_both true (in_run first count b low high) ∙ or_true (is_in_runs runs b)
    where
      or_true : (x : Bool) → (x || true) ≡ true
      or_true true = refl
      or_true false = refl

  pub runs_other : is_in_run b (first, count) ≡ false → is_in_runs (runs ++ (first, count) ∷ []) b ≡ is_in_runs runs b
  runs_other out = in_both false out ∙ or_false (is_in_runs runs b)
    where
      or_false : (x : Bool) → (x || false) ≡ x
      or_false true = refl
      or_false false = refl

  not_in_runs : is_in_runs runs b ≡ false → (first ≤ b → first + count ≤ b) → is_in_runs (runs ++ (first, count) ∷ []) b ≡ false
  not_in_runs before out = in_both false (not_in_run first count b out) ∙ rw before refl

-- ---- the spans with it
some_is : {a b : ℕ} → Some a ≡ Some b → a ≡ b
some_is e = cc

module _ (runs : List (ℕ × ℕ)) (first count : ℕ) (end : ℕ → Option ℕ) (are : AreSpans runs end) where
  -- a run of nothing
  pub adds_none : count ≡ 0 → AreSpans (runs ++ (first, count) ∷ []) end
  adds_none none = record {
    inside = λ s e b is low high. runs_before runs first count b (are.inside s e b is low high);
    others = λ b out. not_in_runs runs first count b (are.others b out) (λ low. omega arith);
    filled = are.filled;
    rise = are.rise;
  }

  -- a run that lies in a span
  pub adds_within : (s e : ℕ) → end s ≡ Some e → s ≤ first → first + count ≤ e → AreSpans (runs ++ (first, count) ∷ []) end
  adds_within s e is low high = record {
    inside = λ s e b is low high. runs_before runs first count b (are.inside s e b is low high);
    others = λ b out. not_in_runs runs first count b (are.others b out) (λ from. let past = out s e is (omega (arith, low, from)) in omega (arith, past, high));
    filled = are.filled;
    rise = are.rise;
  }

  -- where the last of the spans that begin no later ends before the run, so do all of them
  pub none_longer : (s e : ℕ) → end s ≡ Some e → ((t d : ℕ) → end t ≡ Some d → t ≤ first → t ≤ s) → e < first + count → (t d : ℕ) → end t ≡ Some d → t ≤ first → d < first + count
  none_longer s e is last less t d at low = elim (cases_lt t s) [
    | inl before ↦ let rise = are.rise t s d e at is before in omega (arith, rise, less)
    | inr from ↦
        let same : t ≡ s = omega (arith, from, last t d at low) in
        let d_is : d ≡ e = some_is (sym at ∙ (ap end same ∙ is)) in
        omega (arith, d_is, less)
  ]

  -- a run that ends behind all spans that begin no later
  pub adds_span : (new : ℕ → Option ℕ) → 0 < count → ((s e : ℕ) → end s ≡ Some e → s ≤ first → e < first + count) → new first ≡ Some (first + count) → ((q : ℕ) → q ≢ first → new q ≡ end q)
      → IsAdding (runs ++ (first, count) ∷ []) first (first + count) new
  adds_span new some longer here others = record {
    here = here;
    inside = λ s e b is low high. elim (cases_eq s first) [
      | inl same ↦ let last : e ≡ first + count = some_is (sym is ∙ (ap new same ∙ here)) in runs_here runs first count b (omega (arith, same, low)) (omega (arith, high, last))
      | inr apart ↦ runs_before runs first count b (are.inside s e b (sym (others s apart) ∙ is) low high)
    ];
    others = λ b out.
        let past : first ≤ b → first + count ≤ b = out first (first + count) here in
        not_in_runs runs first count b
        (are.others b (λ s e is low. elim (cases_eq s first) [
          | inl same ↦ let less = longer s e is (omega (arith, same)) in let more = past (omega (arith, same, low)) in omega (arith, less, more)
          | inr apart ↦ out s e (others s apart ∙ is) low
        ]))
        past;
    filled = λ s e is. elim (cases_eq s first) [
      | inl same ↦ let last : e ≡ first + count = some_is (sym is ∙ (ap new same ∙ here)) in omega (arith, same, last, some)
      | inr apart ↦ are.filled s e (sym (others s apart) ∙ is)
    ];
    rise = λ s t d e apart is its below. elim (cases_eq t first) [
      | inl same ↦
          let last : e ≡ first + count = some_is (sym its ∙ (ap new same ∙ here)) in
          let less = longer s d (sym (others s apart) ∙ is) (omega (arith, same, below)) in
          omega (arith, less, last)
      | inr other ↦ are.rise s t d e (sym (others s apart) ∙ is) (sym (others t other) ∙ its) below
    ];
  }

-- ---- spans that end no later go
module _ (runs : List (ℕ × ℕ)) (first last : ℕ) (end : ℕ → Option ℕ) (adding : IsAdding runs first last end) where
  pub drops_span : (new : ℕ → Option ℕ) (s e : ℕ) → end s ≡ Some e → first < s → e ≤ last → new s ≡ None → ((q : ℕ) → q ≢ s → new q ≡ end q) → IsAdding runs first last new
  drops_span new s e is behind within gone others = record {
    here = others first (λ same. omega (arith, same, behind)) ∙ adding.here;
    inside = λ t d b at low high. adding.inside t d b (kept t d at) low high;
    others = λ b out. adding.others b (λ t d at low. elim (cases_eq t s) [
      | inl same ↦
          let d_is : d ≡ e = some_is (sym at ∙ (ap end same ∙ is)) in
          let past = out first last (others first (λ same. omega (arith, same, behind)) ∙ adding.here) (omega (arith, same, low, behind)) in
          omega (arith, d_is, within, past)
      | inr apart ↦ out t d (others t apart ∙ at) low
    ]);
    filled = λ t d at. adding.filled t d (kept t d at);
    rise = λ t u d f apart at its below. adding.rise t u d f apart (kept t d at) (kept u f its) below;
  }
    where
      kept : (t d : ℕ) → new t ≡ Some d → end t ≡ Some d
      kept t d at = elim (cases_eq t s) [
        | inl same ↦ absurd (is_none (sym gone ∙ (sym (ap new same) ∙ at)))
        | inr apart ↦ sym (others t apart) ∙ at
      ]
        where
          is_none : None ≡ Some d → ⊥
          is_none e = cc

  -- where the next one ends later, so do all behind it
  pub later_ones : (s e : ℕ) → first < s → end s ≡ Some e → ((t d : ℕ) → end t ≡ Some d → first < t → s ≤ t) → last < e → (t d : ℕ) → end t ≡ Some d → first < t → last < d
  later_ones s e behind is next later t d at after = elim (cases_lt s t) [
    | inl less ↦ let more = adding.rise s t e d (λ same. omega (arith, same, behind)) is at less in omega (arith, more, later)
    | inr from ↦
        let same : t ≡ s = omega (arith, from, next t d at after) in
        let d_is : d ≡ e = some_is (sym at ∙ (ap end same ∙ is)) in
        omega (arith, d_is, later)
  ]

  -- then these are spans of the runs again
  pub spans_again : ((t e : ℕ) → end t ≡ Some e → first < t → last < e) → AreSpans runs end
  spans_again later = record {
    inside = adding.inside;
    others = adding.others;
    filled = adding.filled;
    rise = λ s t d e is its below. elim (cases_eq s first) [
      | inl same ↦ let d_is : d ≡ last = some_is (sym is ∙ (ap end same ∙ adding.here)) in let more = later t e its (omega (arith, same, below)) in omega (arith, d_is, more)
      | inr apart ↦ adding.rise s t d e apart is its below
    ];
  }

-- ---- the search
is_below : (t s : ℕ) → t ≤ s → t ≢ s → t < s
is_below t s le ne = elim (cases_lt t s) [
  | inl less ↦ less
  | inr more ↦ absurd (ne (omega (arith, le, more)))
]

pub has_span : (runs : List (ℕ × ℕ)) (end : ℕ → Option ℕ) (b s e : ℕ) → AreSpans runs end → end s ≡ Some e → s ≤ b → ((t d : ℕ) → end t ≡ Some d → t ≤ b → t ≤ s)
    → (b < e → is_in_runs runs b ≡ true) × (e ≤ b → is_in_runs runs b ≡ false)
has_span runs end b s e are is low last = (
  λ within. are.inside s e b is low within,
  λ past. are.others b (λ t d at below. elim (cases_eq t s) [
    | inl same ↦ let d_is : d ≡ e = some_is (sym at ∙ (ap end same ∙ is)) in omega (arith, d_is, past)
    | inr apart ↦ let before = last t d at below in let less = are.rise t s d e at is (is_below t s before apart) in omega (arith, less, past)
  ]),
)

-- a span that begins below the end of a run and ends behind its beginning meets it
module _ (runs : List (ℕ × ℕ)) (end : ℕ → Option ℕ) (first count s e : ℕ) (are : AreSpans runs end) (is : end s ≡ Some e) where
  pub meets_span : s < first + count → 0 < count → first < e → (b : ℕ) × (first ≤ b) × (b < first + count) × (is_in_runs runs b ≡ true)
  meets_span below some within = elim (cases_lt first s) [
    | inl before ↦ (s, omega arith, below, are.inside s e s is (omega arith) (are.filled s e is))
    | inr from ↦ (first, omega arith, omega arith, are.inside s e first is from within)
  ]

-- ---- a table that did not change
pub same_spans : (runs : List (ℕ × ℕ)) (old new : BTreeMap ℕ ℕ) → new.entries ≡ old.entries → AreSpans runs (get nat_cmp old) → AreSpans runs (get nat_cmp new)
same_spans runs old new same are = subst (λ es. AreSpans runs (λ k. lookup (is_at (nat_cmp k)) es)) (sym same) are
