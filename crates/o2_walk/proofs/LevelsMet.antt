-- The walk goes on by one entry, by one directory, and stays where each directory was looked through.
use Rattle.std.proofs.Common.{◌≡◌, inl, inr, ℕ, zero, suc, ◌+◌, ◌<◌, ◌≤◌, List, [], ◌∷◌, ◌++◌, not, length, map, filter, fold, take, get_or, Some, None, refl, sym, ◌∙◌, ap, add-one, arith}
use Rattle.std.specs.Prelude.{slice_get}
use Rattle.std.specs.Option.{option_map, option_map_or}
use Rattle.std.proofs.lemmas.Bool.{cases_lt}
use Rattle.std.proofs.lemmas.List.{take_more}
use Rattle.std.proofs.lemmas.List.Elements.{filter-append}
use Rattle.std.proofs.lemmas.List.Sums.{fold-append}
use Rattle.std.proofs.lemmas.Option.{slice_get_past}
use Rattle.o2_model.specs.declared.entry.Entry.{Entry}
use Rattle.o2_model.specs.Volume.{Volume}
use Rattle.o2_model.specs.Directories.{is_dot}
use Rattle.o2_model.specs.Tree.{Entered, TreeWalk, follow, look_through, names_users, walk_after}
use Rattle.o2_tree.specs.TreeWalks.{entered_row}
use Rattle.o2_walk.specs.TreeWalked.{followed_of}

-- ---- one entry more
followed-append : (v : Volume) (es fs : List Entry) → followed_of v (es ++ fs) ≡ followed_of v es ++ followed_of v fs
followed-append v es fs =
    ap (filter (names_users v)) (filter-append (λ e. not (is_dot e)) es fs)
    ∙ filter-append (names_users v) (filter (λ e. not (is_dot e)) es) (filter (λ e. not (is_dot e)) fs)

-- What the walk meets by the entry at a place, behind those before, is what it meets by all these.
pub one_more : (v : Volume) (d : Entered) (w : TreeWalk) (es : List Entry) (i : ℕ) (e : Entry) → i < length es
    → fold (follow v d) (fold (follow v d) w (followed_of v (take i es))) (followed_of v (get_or es i e ∷ [])) ≡ fold (follow v d) w (followed_of v (take (i + 1) es))
one_more v d w es i e within =
    sym (fold-append (follow v d) w (followed_of v (take i es)) (followed_of v (get_or es i e ∷ [])))
    ∙ ap (fold (follow v d) w) (sym (followed-append v (take i es) (get_or es i e ∷ [])) ∙ ap (followed_of v) (sym (take_more es i e within)))

-- ---- one directory more
-- where a look for the directory at a place finds none, or one
pub none_at : (ds : List Entered) (n : ℕ) → option_map (λ r. r.inode) (slice_get (map entered_row ds) n) ≡ None → length ds ≤ n
none_at [] n none = omega arith
none_at (d ∷ ds) zero none = cc
none_at (d ∷ ds) (suc n) none = let later = none_at ds n none in omega (arith, later)

pub one_at : (ds : List Entered) (n b : ℕ) → option_map (λ r. r.inode) (slice_get (map entered_row ds) n) ≡ Some b → (d : Entered) × (slice_get ds n ≡ Some d) × (d.inode ≡ b)
one_at [] n b one = cc
one_at (d ∷ ds) zero b one = (d, refl, cc)
one_at (d ∷ ds) (suc n) b one = one_at ds n b one

pub next_level : (v : Volume) (n : ℕ) (d : Entered) → slice_get (walk_after v n).entered n ≡ Some d → look_through v (walk_after v n) d ≡ walk_after v (n + 1)
next_level v n d there =
    sym (ap (λ found. option_map_or (look_through v (walk_after v n)) found (walk_after v n)) there)
    ∙ ap (walk_after v) (sym (add-one n))

-- Once each directory was looked through, nothing is left to do.
pub stays : (v : Volume) (n m : ℕ) → length (walk_after v n).entered ≤ n → n ≤ m → walk_after v n ≡ walk_after v m
stays v n zero past low = ap (walk_after v) (nothing n low)
  where
    nothing : (n : ℕ) → n ≤ 0 → n ≡ 0
    nothing n low = omega (arith, low)
stays v n (suc m) past low = elim (cases_lt m n) [
  | inl last ↦ ap (walk_after v) (same n m low last)
  | inr before ↦ once (walk_after v n) (walk_after v m) (stays v n m past before) (slice_get_past (walk_after v n).entered m (further (length (walk_after v n).entered) n m past before))
]
  where
    same : (n m : ℕ) → n ≤ suc m → m < n → n ≡ suc m
    same n m low last = omega (arith, low, last)

    further : (l n m : ℕ) → l ≤ n → n ≤ m → l ≤ m
    further l n m past before = omega (arith, past, before)

    once : (w x : TreeWalk) → w ≡ x → slice_get w.entered m ≡ None → w ≡ option_map_or (look_through v x) (slice_get x.entered m) x
    once w x is none = is ∙ ap (λ found. option_map_or (look_through v x) found x) (sym none ∙ ap (λ (y : TreeWalk). slice_get y.entered m) is)
