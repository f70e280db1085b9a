-- The groups of a packing, one after the other.
use Rattle.std.proofs.Common.{◌≡◌, ◌≢◌, ℕ, zero, suc, ◌+◌, ◌-◌, ◌≤◌, ◌<◌, List, [], ◌∷◌, ◌++◌, All, length, take, drop, map, flat_map, refl, sym, ◌∙◌, ap, subst, arith, Some}
use Rattle.std.specs.Prelude.{slice_get}
use Rattle.std.proofs.lemmas.List.{append_assoc, append-nil, length-take-le, take-append-drop, length-drop, drop-drop, drop_all, take_rest, map_push}
use Rattle.std.proofs.lemmas.List.Elements.{All-cons, All-head, All-drop}
use Rattle.o2_model.specs.declared.entry.Entry.{Entry}
use Rattle.o2_dir.specs.Packings.{HasName, IsPacking, need_of, needs_of}

-- ---- one group more
-- the first item of the rest
first_of : (xs : List Entry) (k : ℕ) (y : Entry) (ys : List Entry) → drop k xs ≡ y ∷ ys → slice_get xs k ≡ Some y
first_of [] zero y ys is = cc
first_of [] (suc k) y ys is = cc
first_of (x ∷ xs) zero y ys is = cc
first_of (x ∷ xs) (suc k) y ys is = first_of xs k y ys is

-- no further entry has room behind these
abbrev pub IsFull : ℕ → List Entry → ℕ → Type 0
IsFull room rest count = (next : Entry) → slice_get rest count ≡ Some next → room < needs_of (take count rest) + need_of next

-- a piece has room for an entry
pub some_fit : (room : ℕ) (rest : List Entry) (count : ℕ) → All HasName rest → 268 ≤ room → 1 ≤ length rest → IsFull room rest count → 1 ≤ count
some_fit room rest (suc count) names least some full = omega arith
some_fit room [] zero names least some full = absurd (omega arith)
some_fit room (e ∷ es) zero names least some full =
    let named : HasName e = All-head HasName e es names in
    let over : room < needs_of [] + need_of e = full e refl in
    absurd (omega (arith, over, named.1, least))

full_more : (room : ℕ) (g rest : List Entry) (later : List (List Entry)) → flat_map (λ group. group) later ≡ rest
    → ((next : Entry) (others : List Entry) → rest ≡ next ∷ others → room < needs_of g + need_of next)
    → ((front back : List (List Entry)) (group others : List Entry) (next : Entry) → later ≡ front ++ group ∷ (next ∷ others) ∷ back → room < needs_of group + need_of next)
    → (front back : List (List Entry)) (group others : List Entry) (next : Entry) → g ∷ later ≡ front ++ group ∷ (next ∷ others) ∷ back → room < needs_of group + need_of next
full_more room g rest later joined first before [] back group others next is =
    let same : g ≡ group = cc in
    let tail : later ≡ (next ∷ others) ∷ back = cc in
    let begins : rest ≡ next ∷ (others ++ flat_map (λ group. group) back) = sym joined ∙ ap (flat_map (λ group. group)) tail in
    subst (λ (xs : List Entry). room < needs_of xs + need_of next) same (first next (others ++ flat_map (λ group. group) back) begins)
full_more room g rest later joined first before (f ∷ front) back group others next is =
    let tail : later ≡ front ++ group ∷ (next ∷ others) ∷ back = cc in
    before front back group others next tail

-- a group in front of those of the rest
packs_first : (room : ℕ) (rest : List Entry) (count : ℕ) (later : List (List Entry)) → 1 ≤ count → count ≤ length rest → needs_of (take count rest) ≤ room → IsFull room rest count
    → IsPacking room (drop count rest) later → IsPacking room rest (take count rest ∷ later)
packs_first room rest count later some within fit full h = record {
  joined = ap (λ (es : List Entry). take count rest ++ es) h.joined ∙ take-append-drop count rest;
  some = All-cons (λ group. group ≢ []) (take count rest) later (λ none. absurd (omega (arith, ap length none, length-take-le count rest within))) h.some;
  fit = All-cons (λ group. needs_of group ≤ room) (take count rest) later fit h.fit;
  full = full_more room (take count rest) (drop count rest) later h.joined (λ next others is. full next (first_of rest count next others is)) h.full;
}

-- ---- all groups
-- what is packed so far, in front of any packing of the rest
abbrev pub PacksBefore : ℕ → List Entry → ℕ → List (List Entry) → Type 0
PacksBefore room es at groups = (later : List (List Entry)) → IsPacking room (drop at es) later → IsPacking room es (groups ++ later)

pub packs_more : (room : ℕ) (es : List Entry) (at count : ℕ) (groups : List (List Entry)) → 1 ≤ count → count ≤ length (drop at es) → needs_of (take count (drop at es)) ≤ room → IsFull room (drop at es) count
    → PacksBefore room es at groups → PacksBefore room es (at + count) (groups ++ take count (drop at es) ∷ [])
packs_more room es at count groups some within fit full before later h =
    let group = take count (drop at es) in
    let rest : IsPacking room (drop count (drop at es)) later = subst (λ (xs : List Entry). IsPacking room xs later) (sym (drop-drop count at es)) h in
    subst (IsPacking room es) (sym (append_assoc groups (group ∷ []) later)) (before (group ∷ later) (packs_first room (drop at es) count later some within fit full rest))

no_groups : (front back : List (List Entry)) (group : List Entry) → [] ≡ front ++ group ∷ back → ⊥
no_groups [] back group is = cc
no_groups (f ∷ front) back group is = cc

pub packs_all : (room : ℕ) (es : List Entry) (at : ℕ) (groups : List (List Entry)) → length es ≤ at → PacksBefore room es at groups → IsPacking room es groups
packs_all room es at groups end before =
    let none : IsPacking room (drop at es) [] = record {
      joined = sym (drop_all at es end);
      some = λ k d low. absurd (omega arith);
      fit = λ k d low. absurd (omega arith);
      full = λ front back group others next is. absurd (no_groups front ((next ∷ others) ∷ back) group is);
    } in
    subst (IsPacking room es) (append-nil groups) (before [] none)

-- ---- one piece of the code's loop
-- the entries from `at` on of which so many make a piece
pub record IsPiece (room : ℕ) (rest : List Entry) (count : ℕ) : Type 0 where
  pub some : 1 ≤ count
  pub within : count ≤ length rest
  pub fit : needs_of (take count rest) ≤ room
  pub full : IsFull room rest count

pub one_piece : (room : ℕ) (es : List Entry) (at count : ℕ) (part : List Entry) → part ≡ take (length es - at) (drop at es) → All HasName es → 268 ≤ room → at < length es
    → count ≤ length part → needs_of (take count part) ≤ room → IsFull room part count → IsPiece room (drop at es) count
one_piece room es at count part is names least low within fit full =
    let same : part ≡ drop at es = is ∙ take_rest es at in
    let full_rest : IsFull room (drop at es) count = subst (λ (xs : List Entry). IsFull room xs count) same full in
    record {
      some = some_fit room (drop at es) count (All-drop HasName at es names) least (omega (arith, low, length-drop at es)) full_rest;
      within = omega (arith, within, ap length same);
      fit = subst (λ (xs : List Entry). needs_of (take count xs) ≤ room) same fit;
      full = full_rest;
    }

-- the measure falls
pub smaller : (n at count : ℕ) → at < n → 1 ≤ count → n - (at + count) < n - at
smaller n at count low some = omega arith

pub one_more : {A B C : Type 0} (f : A → C) (h : B → C) (old new : List A) (b : A) (groups : List B) (g : B) → new ≡ old ++ b ∷ [] → f b ≡ h g → map f old ≡ map h groups → map f new ≡ map h (groups ++ g ∷ [])
one_more f h old new b groups g is one before =
    ap (map f) is ∙ (map_push f old b ∙ (ap (λ xs. xs ++ f b ∷ []) before ∙ (ap (λ x. map h groups ++ x ∷ []) one ∙ sym (map_push h groups g))))
