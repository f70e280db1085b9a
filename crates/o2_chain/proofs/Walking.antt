-- What the reader keeps of a walk, step by step.
use Rattle.std.proofs.Common.{◌≡◌, inl, inr, ℕ, zero, suc, ◌+◌, ◌-◌, ◌*◌, ◌/◌, ◌^◌, ◌<◌, Bool, true, false, ◌&&◌, ◌||◌, eqb, List, [], ◌∷◌, ◌++◌, map, refl, sym, ◌∙◌, ap, subst, arith}
use Rattle.std.specs.Prelude.{not}
use Rattle.std.specs.List.{range_with_len, list_any, list_all}
use Rattle.std.proofs.Math.Nat.{mul-div_cancel_left, mul_comm}
use Rattle.std.proofs.lemmas.Bool.{cases_Bool, false≢true}
use Rattle.std.proofs.lemmas.Bool.Decides.{nat_tests}
use Rattle.std.proofs.lemmas.List.{map-append}
use Rattle.std.proofs.lemmas.List.Folds.{list_any-append}
use Rattle.o2_model.specs.declared.allocator.Allocator.{Allocator}
use Rattle.o2_model.specs.declared.allocator.Group.{Group as Group-walked}
use Rattle.o2_model.specs.declared.geo.Geo.{Geo}
use Rattle.o2_model.specs.Words.{among, push}
use Rattle.o2_model.specs.Volume.{Volume, per_cluster}
use Rattle.o2_model.specs.Clusters.{cluster_of}
use Rattle.o2_model.specs.Allocators.{are_clusters}
use Rattle.o2_model.specs.Groups.{GroupWalk, group_desc, group_clusters, holds_cluster, is_fixed, is_block_group, is_good_group, with_group}
use Rattle.o2_view.specs.Geos.{HasSizes}
use Rattle.o2_view.specs.Plans.{is_in_run, is_in_runs}
use Rattle.o2_view.specs.declared.run.Run.{Run}
use Rattle.o2_extent.proofs.Sizes.{some_per_cluster}
use Rattle.o2_chain.specs.Walks.{group_of_run, walked_before, group_in}
use Rattle.o2_chain.specs.Readings.{Keeps, runs_of_group}
use Rattle.o2_chain.specs.declared.group.Group.{Group}
use Rattle.o2_chain.specs.declared.walked.Walked.{Walked}

-- ---- clusters in a row
differ : (n m : ℕ) → (n ≡ m → ⊥) → eqb n m ≡ false
differ n m h = grind (arith, nat_tests)

pub among_row : (first count c : ℕ) → among (range_with_len first count) c ≡ is_in_run c (first, count)
among_row first zero c = grind (arith, nat_tests)
among_row first (suc count) c = elim (cases_Bool (eqb c first)) [
  | inl same ↦ rw same (grind (arith, nat_tests))
  | inr other ↦ rw (other, among_row (first + 1) count c) (grind (arith, nat_tests))
]

-- ---- the start
append_none : {A : Type 0} (xs : List A) → xs ++ [] ≡ xs
append_none [] = refl
append_none (x ∷ xs) = ap (λ rest. x ∷ rest) (append_none xs)

module _ (v : Volume) (geo : Geo) (same : v.geo ≡ geo) (sizes : HasSizes geo) where
  some : 0 < per_cluster v
  some = rw same (some_per_cluster geo sizes)

  divided : (n : ℕ) → n * per_cluster v / per_cluster v ≡ n
  divided n = ap (λ m. m / per_cluster v) (mul_comm n (per_cluster v)) ∙ mul-div_cancel_left n some

  run_clusters : (run : Run) (c : ℕ) → is_in_run c (run.start, run.clusters) ≡ holds_cluster v c (group_of_run v run)
  run_clusters run c = sym (ap (λ cs. among cs c) (both run) ∙ among_row run.start run.clusters c)
    where
      both : (run : Run) → group_clusters v (run.start * per_cluster v) (run.clusters * per_cluster v) ≡ range_with_len run.start run.clusters
      both run = rw (divided run.start, divided run.clusters) refl

  pub clusters_before : (before : List Run) (c : ℕ) → is_in_runs (map (λ (run : Run). (run.start, run.clusters)) before) c ≡ list_any (holds_cluster v c) (walked_before v before)
  clusters_before [] c = refl
  clusters_before (run ∷ runs) c = rw (run_clusters run c, clusters_before runs c) refl

  one_block : (b start : ℕ) → is_in_run b (start, 1) ≡ eqb b start
  one_block b start = grind (arith, nat_tests)

  pub starts_before : (before : List Run) (b : ℕ) → is_in_runs (map (λ (run : Run). (run.start * 2 ^ (geo.cluster_bits - geo.block_bits), 1)) before) b ≡ among (map (λ g. g.block) (walked_before v before)) b
  starts_before before b = subst (λ (g : Geo). is_in_runs (map (λ (run : Run). (run.start * 2 ^ (g.cluster_bits - g.block_bits), 1)) before) b ≡ among (map (λ g. g.block) (walked_before v before)) b) same (starts before)
    where
      starts : (before : List Run) → is_in_runs (map (λ (run : Run). (run.start * per_cluster v, 1)) before) b ≡ among (map (λ g. g.block) (walked_before v before)) b
      starts [] = refl
      starts (run ∷ runs) = rw (one_block b (run.start * per_cluster v), starts runs) refl

  pub keeps_start : (a : Allocator) (before : List Run) (walked : Walked) → walked.groups.items ≡ [] → walked.faults.items ≡ [] → walked.seen ≡ []
      → walked.starts ≡ map (λ (run : Run). (run.start * 2 ^ (geo.cluster_bits - geo.block_bits), 1)) before → walked.clusters ≡ map (λ (run : Run). (run.start, run.clusters)) before
      → Keeps v a before walked (record { groups = walked_before v before; faults = [] })
  keeps_start a before walked groups faults seen starts clusters = record {
    groups = rw groups (sym (append_none (walked_before v before)));
    faults = faults;
    clusters = λ c. ap (λ runs. is_in_runs runs c) clusters ∙ clusters_before before c;
    starts = λ b. ap (λ runs. is_in_runs runs b) starts ∙ starts_before before b;
    met = λ b is. absurd (false≢true (rw groups at is));
    seen = λ b is. absurd (false≢true (rw seen at is));
  }

-- ---- one group more
pub both : (x y : Bool) → x ≡ true → y ≡ true → (x && y) ≡ true
both true y h k = k
both false y h k = h

pub first : (x y : Bool) → (x && y) ≡ true → x ≡ true
first true y h = refl
first false y h = h

pub second : (x y : Bool) → (x && y) ≡ true → y ≡ true
second true y h = h
second false y h = absurd (false≢true h)

is_not : (x : Bool) → not x ≡ true → x ≡ false
is_not false h = refl
is_not true h = absurd (false≢true h)

or_first : (x y : Bool) → x ≡ true → (x || y) ≡ true
or_first true y h = refl
or_first false y h = absurd (false≢true h)

or_last : (x y : Bool) → y ≡ true → (x || y) ≡ true
or_last true y h = refl
or_last false y h = h

either : {x y p q : Bool} → x ≡ p → y ≡ q → (x || y) ≡ (p || q)
either e f = cc

append_assoc : {A : Type 0} (xs ys zs : List A) → (xs ++ ys) ++ zs ≡ xs ++ (ys ++ zs)
append_assoc [] ys zs = refl
append_assoc (x ∷ xs) ys zs = ap (λ rest. x ∷ rest) (append_assoc xs ys zs)

neither : (x y : Bool) → (x || y) ≡ false → x ≡ false
neither false y h = refl
neither true y h = absurd (false≢true (sym h))

-- What was a group that was no good is none behind one more.
module _ (v : Volume) (a : Allocator) (walked : List Group-walked) (g : Group-walked) where
  fewer : (c : ℕ) → list_any (holds_cluster v c) (push walked g) ≡ false → list_any (holds_cluster v c) walked ≡ false
  fewer c none = neither (list_any (holds_cluster v c) walked) _ (sym (list_any-append (holds_cluster v c) walked (g ∷ [])) ∙ none)

  free_one : (c : ℕ) → (not (is_fixed v c) && not (list_any (holds_cluster v c) (push walked g))) ≡ true → (not (is_fixed v c) && not (list_any (holds_cluster v c) walked)) ≡ true
  free_one c free =
      let rest = not (list_any (holds_cluster v c) (push walked g)) in
      both (not (is_fixed v c)) _ (first (not (is_fixed v c)) rest free) (ap not (fewer c (is_not (list_any (holds_cluster v c) (push walked g)) (second (not (is_fixed v c)) rest free))))

  free_before : (cs : List ℕ) → list_all (λ c. not (is_fixed v c) && not (list_any (holds_cluster v c) (push walked g))) cs ≡ true → list_all (λ c. not (is_fixed v c) && not (list_any (holds_cluster v c) walked)) cs ≡ true
  free_before [] all = refl
  free_before (c ∷ cs) all = both _ _ (free_one c (first _ _ all)) (free_before cs (second _ _ all))

  other_block : (b : ℕ) → among (map (λ g. g.block) (push walked g)) b ≡ false → among (map (λ g. g.block) walked) b ≡ false
  other_block b none =
      neither (among (map (λ g. g.block) walked) b) _
      (sym (ap (λ bs. among bs b) (map-append (λ (g : Group-walked). g.block) walked (g ∷ [])) ∙ list_any-append (eqb b) (map (λ g. g.block) walked) (g.block ∷ [])) ∙ none)

  block_group_before : (b : ℕ) → is_block_group v (push walked g) b ≡ true → is_block_group v walked b ≡ true
  block_group_before b good =
      let free = free_before (group_clusters v b (group_desc v b).bits) (grind (arith, nat_tests, good)) in
      grind (arith, nat_tests, good, free)

  good_before : (b : ℕ) → is_good_group v a (push walked g) b ≡ true → is_good_group v a walked b ≡ true
  unfolding is_good_group
  good_before b good =
      let none = other_block b (grind (arith, nat_tests, good)) in
      elim (cases_Bool (are_clusters a.bit_use)) [
        | inl clusters ↦ grind (arith, nat_tests, good, none, clusters)
        | inr blocks ↦
            let place = block_group_before b (grind (arith, nat_tests, good, blocks)) in
            grind (arith, nat_tests, good, none, blocks, place)
      ]

  pub still_bad : (b : ℕ) → is_good_group v a walked b ≡ false → is_good_group v a (push walked g) b ≡ false
  still_bad b bad = elim (cases_Bool (is_good_group v a (push walked g) b)) [
    | inr no_more ↦ no_more
    | inl good ↦ absurd (false≢true (sym bad ∙ good_before b good))
  ]

  pub bad_again : is_good_group v a (push walked g) g.block ≡ false
  unfolding is_good_group
  bad_again =
      let there : among (map (λ g. g.block) (push walked g)) g.block ≡ true =
      ap (λ bs. among bs g.block) (map-append (λ (g : Group-walked). g.block) walked (g ∷ []))
      ∙ (list_any-append (eqb g.block) (map (λ g. g.block) walked) (g.block ∷ []) ∙ last (among (map (λ g. g.block) walked) g.block) g.block)
      in
      grind (arith, nat_tests, there)
    where
      last : (x : Bool) (n : ℕ) → (x || (eqb n n || false)) ≡ true
      last x n = grind (arith, nat_tests)

-- ---- what is kept
module _ (v : Volume) (a : Allocator) (before : List Run) (walked new : Walked) (w : GroupWalk) (h : Keeps v a before walked w) where
  in_runs_more : (runs more : List (ℕ × ℕ)) (b : ℕ) → is_in_runs (runs ++ more) b ≡ (is_in_runs runs b || is_in_runs more b)
  in_runs_more runs more b = list_any-append (is_in_run b) runs more

  -- a block more was looked at, which is no good group
  pub keeps_bad : (b : ℕ) → new.groups ≡ walked.groups → new.faults ≡ walked.faults → new.starts ≡ walked.starts → new.clusters ≡ walked.clusters → new.seen ≡ walked.seen ++ (b, 1) ∷ []
      → is_good_group v a w.groups b ≡ false → Keeps v a before new w
  keeps_bad b groups faults starts clusters seen bad = record {
    groups = rw groups h.groups;
    faults = rw faults h.faults;
    clusters = rw clusters h.clusters;
    starts = rw starts h.starts;
    met = λ c is. rw seen (in_runs_more walked.seen ((b, 1) ∷ []) c ∙ or_first _ _ (h.met c (rw groups at is)));
    seen = λ c is. elim (cases_Bool (is_in_runs walked.seen c)) [
      | inl old ↦ h.seen c old
      | inr other ↦ subst (λ d. is_good_group v a w.groups d ≡ false) (sym (the_new c other (sym (in_runs_more walked.seen ((b, 1) ∷ []) c) ∙ rw seen at is))) bad
    ];
  }
    where
      the_new : (c : ℕ) → is_in_runs walked.seen c ≡ false → (is_in_runs walked.seen c || is_in_runs ((b, 1) ∷ []) c) ≡ true → c ≡ b
      the_new c other is = let last : is_in_runs ((b, 1) ∷ []) c ≡ true = rw other at is in grind (arith, nat_tests, last)

  -- a good group was met
  pub keeps_good : (geo : Geo) → v.geo ≡ geo → (g : Group) → new.groups.items ≡ push walked.groups.items g → new.faults ≡ walked.faults → new.starts ≡ walked.starts → new.clusters ≡ walked.clusters ++ runs_of_group geo a g
      → new.seen ≡ walked.seen ++ (g.block, 1) ∷ [] → Keeps v a before new (with_group w a g.chain g.block g.bits)
  keeps_good geo same g groups faults starts clusters seen = record {
    groups = ap (λ gs. push gs (group_in a g)) h.groups ∙ (append_assoc (walked_before v before) _ _ ∙ ap (λ gs. walked_before v before ++ gs) (sym (ap (map (group_in a)) groups ∙ map-append (group_in a) walked.groups.items (g ∷ []))));
    faults = rw faults h.faults;
    clusters = λ c. ap (λ runs. is_in_runs runs c) clusters ∙ (in_runs_more walked.clusters (runs_of_group geo a g) c ∙ (either (h.clusters c) (of_group c) ∙ sym (list_any-append (holds_cluster v c) w.groups (group_in a g ∷ []))));
    starts = rw starts h.starts;
    met = λ c is. rw seen (in_runs_more walked.seen ((g.block, 1) ∷ []) c ∙ met_more c is);
    seen = λ c is. elim (cases_Bool (is_in_runs walked.seen c)) [
      | inl old ↦ still_bad v a w.groups (group_in a g) c (h.seen c old)
      | inr other ↦ subst (λ d. is_good_group v a (push w.groups (group_in a g)) d ≡ false) (sym (the_new c other (sym (in_runs_more walked.seen ((g.block, 1) ∷ []) c) ∙ rw seen at is))) (bad_again v a w.groups (group_in a g))
    ];
  }
    where
      the_new : (c : ℕ) → is_in_runs walked.seen c ≡ false → (is_in_runs walked.seen c || is_in_runs ((g.block, 1) ∷ []) c) ≡ true → c ≡ g.block
      the_new c other is = let last : is_in_runs ((g.block, 1) ∷ []) c ≡ true = rw other at is in grind (arith, nat_tests, last)

      met_more : (c : ℕ) → among (map (λ (g : Group). g.block) new.groups.items) c ≡ true → (is_in_runs walked.seen c || is_in_runs ((g.block, 1) ∷ []) c) ≡ true
      met_more c is = elim (cases_Bool (among (map (λ (g : Group). g.block) walked.groups.items) c)) [
        | inl old ↦ or_first _ _ (h.met c old)
        | inr other ↦
            let parts : (among (map (λ (g : Group). g.block) walked.groups.items) c || among (g.block ∷ []) c) ≡ true =
            sym (ap (λ gs. among (map (λ (g : Group). g.block) gs) c) groups ∙ (ap (λ bs. among bs c) (map-append (λ (g : Group). g.block) walked.groups.items (g ∷ [])) ∙ list_any-append (eqb c) (map (λ (g : Group). g.block) walked.groups.items) (g.block ∷ []))) ∙ is
            in
            let last : among (g.block ∷ []) c ≡ true = rw other at parts in
            or_last (is_in_runs walked.seen c) _ (grind (arith, nat_tests, last))
      ]

      of_group : (c : ℕ) → is_in_runs (runs_of_group geo a g) c ≡ (holds_cluster v c (group_in a g) || false)
      of_group c = elim (cases_Bool (are_clusters a.bit_use)) [
        | inl clusters ↦ rw clusters refl
        | inr blocks ↦ rw (blocks, sym same, among_row (cluster_of v g.block) (g.bits / per_cluster v) c) refl
      ]
