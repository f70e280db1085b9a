-- For each torn image one of the four images has its first sectors of block 2 and of the system directory.
use Rattle.std.proofs.Common.{◌≡◌, ◌≢◌, inl, inr, ℕ, ◌*◌, ◌+◌, ◌<◌, ◌≤◌, Bool, true, false, cond, ◌==◌, List, [], ◌∷◌, length, refl, sym, ◌∙◌, ap, subst, arith}
use Rattle.std.specs.List.{Contains}
use Rattle.std.proofs.lemmas.Bool.{cases_Bool, cases_lt, eq-eqb, eqb-true, false≢true}
use Rattle.o2_disk.specs.Image.{Image, sector, piece}
use Rattle.o2_disk.proofs.Images.{same_image, length-image_of, sector-image_of, sector_past}
use Rattle.o2_model.specs.Words.{among}
use Rattle.o2_model.specs.Logs.{LoggedBlock}
use Rattle.o2_replay_laws.specs.FourImages.{with_sectors}
use Rattle.o2_replay_laws.proofs.Stable.TornBlocks.{IsTornBy, old_or_put}

-- ---- an image with some sectors of another one
pub length-with_sectors : (ss : List ℕ) (K J : Image) → length (with_sectors ss K J) ≡ length J
length-with_sectors ss K J = length-image_of (length J) _

pub with_none : (K J : Image) → with_sectors [] K J ≡ J
with_none K J = same_image (with_sectors [] K J) J (length-with_sectors [] K J) (λ n low. sector-image_of (length J) _ n (subst (λ m. n < m) (length-with_sectors [] K J) low))

pub sector_not_taken : (ss : List ℕ) (K J : Image) (n : ℕ) → among ss n ≡ false → sector (with_sectors ss K J) n ≡ sector J n
sector_not_taken ss K J n none = elim (cases_lt n (length J)) [
  | inl there ↦ sector-image_of (length J) _ n there ∙ ap (λ x. cond x (sector K n) (sector J n)) none
  | inr past ↦ sector_past (with_sectors ss K J) n (omega (arith, past, length-with_sectors ss K J)) ∙ sym (sector_past J n past)
]

pub sector_taken : (ss : List ℕ) (K J : Image) (n : ℕ) → among ss n ≡ true → n < length J → sector (with_sectors ss K J) n ≡ sector K n
sector_taken ss K J n is there = sector-image_of (length J) _ n there ∙ ap (λ x. cond x (sector K n) (sector J n)) is

-- ---- four lists of sectors
abbrev pub chosen : ℕ → ℕ → Bool → Bool → List ℕ
chosen a b true true = a ∷ b ∷ []
chosen a b true false = a ∷ []
chosen a b false true = b ∷ []
chosen a b false false = []

different : (a b : ℕ) → a ≢ b → (a == b) ≡ false
different a b apart = elim (cases_Bool (a == b)) [ inl same ↦ absurd (apart (eqb-true a b same)) | inr other ↦ other ]

chosen_first : (a b : ℕ) (x y : Bool) → a ≢ b → among (chosen a b x y) a ≡ x
chosen_first a b true true apart = rw (eq-eqb a a refl) refl
chosen_first a b true false apart = rw (eq-eqb a a refl) refl
chosen_first a b false true apart = rw (different a b apart) refl
chosen_first a b false false apart = refl

chosen_second : (a b : ℕ) (x y : Bool) → a ≢ b → among (chosen a b x y) b ≡ y
chosen_second a b true true apart = rw (different b a (λ e. apart (sym e)), eq-eqb b b refl) refl
chosen_second a b true false apart = rw (different b a (λ e. apart (sym e))) refl
chosen_second a b false true apart = rw (eq-eqb b b refl) refl
chosen_second a b false false apart = refl

chosen_none : (a b n : ℕ) (x y : Bool) → n ≢ a → n ≢ b → among (chosen a b x y) n ≡ false
chosen_none a b n true true first second = rw (different n a first, different n b second) refl
chosen_none a b n true false first second = rw (different n a first) refl
chosen_none a b n false true first second = rw (different n b second) refl
chosen_none a b n false false first second = refl

-- ---- the choice
-- Whether a sector of V is the new one: then it is that of K, and else that of J.
pub record Pick (J K V : Image) (n : ℕ) : Type 0 where
  pub is_new : Bool
  pub new : is_new ≡ true → n < length J → sector K n ≡ sector V n
  pub old : is_new ≡ false → sector J n ≡ sector V n

pub pick_first : (k : ℕ) (ws : List LoggedBlock) (J K V : Image) → 1 ≤ k → IsTornBy k ws J V → (b : ℕ)
    → ((w : LoggedBlock) → Contains ws w → w.block ≡ b → k * b < length J → sector K (k * b) ≡ piece w.bytes 0) → Pick J K V (k * b)
pick_first k ws J K V some torn b left =
    let zeroth : k * b + 0 ≡ k * b = omega arith in
    elim (old_or_put k ws J V torn b 0 (omega (arith, some))) [
      | inl old ↦ record { is_new = false; new = λ e. absurd (false≢true e); old = λ e. sym (subst (λ n. sector V n ≡ sector J n) zeroth old) }
      | inr put ↦ record {
        is_new = true;
        new = λ e there. left put.write put.inside put.at_block there ∙ sym (ap (λ n. sector V n) (sym zeroth) ∙ put.bytes);
        old = λ e. absurd (false≢true (sym e));
      }
    ]

-- the image with the picked sectors has those of V
module _ (J K V : Image) (a b : ℕ) (apart : a ≢ b) (size : length V ≡ length J) (one : Pick J K V a) (two : Pick J K V b) where
  picked : Image
  picked = with_sectors (chosen a b one.is_new two.is_new) K J

  by_pick : (n : ℕ) (p : Pick J K V n) → among (chosen a b one.is_new two.is_new) n ≡ p.is_new → sector (with_sectors (chosen a b one.is_new two.is_new) K J) n ≡ sector V n
  by_pick n p is = elim (cases_Bool p.is_new) [
    | inr old ↦ sector_not_taken (chosen a b one.is_new two.is_new) K J n (is ∙ old) ∙ p.old old
    | inl new ↦ elim (cases_lt n (length J)) [
      | inl there ↦ sector_taken (chosen a b one.is_new two.is_new) K J n (is ∙ new) there ∙ p.new new there
      | inr past ↦
          sector_past (with_sectors (chosen a b one.is_new two.is_new) K J) n (omega (arith, past, length-with_sectors (chosen a b one.is_new two.is_new) K J))
          ∙ sym (sector_past V n (omega (arith, past, size)))
    ]
  ]

  pub picked_first : sector (with_sectors (chosen a b one.is_new two.is_new) K J) a ≡ sector V a
  picked_first = by_pick a one (chosen_first a b one.is_new two.is_new apart)

  pub picked_second : sector (with_sectors (chosen a b one.is_new two.is_new) K J) b ≡ sector V b
  picked_second = by_pick b two (chosen_second a b one.is_new two.is_new apart)

  pub picked_other : (n : ℕ) → n ≢ a → n ≢ b → sector (with_sectors (chosen a b one.is_new two.is_new) K J) n ≡ sector J n
  picked_other n first second = sector_not_taken (chosen a b one.is_new two.is_new) K J n (chosen_none a b n one.is_new two.is_new first second)
