-- What a list of writes leaves in a block: the bytes of a write to it, or the bytes from before.
use Rattle.std.proofs.Common.{◌≡◌, inl, inr, ℕ, Bool, true, false, ◌==◌, List, [], ◌∷◌, ◌++◌, map, refl, sym, ◌∙◌, ap, arith}
use Rattle.std.specs.Prelude.{nat_eq}
use Rattle.std.specs.List.{list_any, Contains, IsDistinct, AllByRecursion}
use Rattle.std.proofs.lemmas.Bool.{cases_Bool, eq-eqb, eqb-true, false≢true, or_left, or_right}
use Rattle.o2_model.specs.Words.{among}
use Rattle.o2_model.specs.Logs.{LoggedBlock}
use Rattle.o2_model.specs.Dirty.{bytes_after}
use Rattle.o2_laws.proofs.Found.{passing, found}
use Rattle.o2_laws.proofs.Members.{contains_cases, among_right}

-- one of the writes is to the block
abbrev pub writes_to : List LoggedBlock → ℕ → Bool
writes_to ws b = list_any (λ w. w.block == b) ws

-- A write of the list to the block.
pub record WriteTo (ws : List LoggedBlock) (b : ℕ) : Type 0 where
  pub write : LoggedBlock
  pub inside : Contains ws write
  pub at_block : write.block ≡ b

pub write_of : (ws : List LoggedBlock) (b : ℕ) → writes_to ws b ≡ true → WriteTo ws b
write_of ws b h =
    let one = passing (λ w. w.block == b) ws h in
    record { write = one.item; inside = one.inside; at_block = eqb-true one.item.block b one.passes }

pub writes_there : (ws : List LoggedBlock) (w : LoggedBlock) → Contains ws w → writes_to ws w.block ≡ true
writes_there ws w is = found (λ x. x.block == w.block) ws w is (eq-eqb w.block w.block refl)

pub not_written : (ws : List LoggedBlock) (b : ℕ) → ((w : LoggedBlock) → Contains ws w → w.block ≡ b → ⊥) → writes_to ws b ≡ false
not_written ws b none = elim (cases_Bool (writes_to ws b)) [
  | inr none_there ↦ none_there
  | inl written ↦ let one = write_of ws b written in absurd (none one.write one.inside one.at_block)
]

pub among_blocks : (ws : List LoggedBlock) (w : LoggedBlock) → Contains ws w → among (map (λ x. x.block) ws) w.block ≡ true
among_blocks [] w is = absurd (omega (arith, is.1))
among_blocks (x ∷ ws) w is = elim (contains_cases x w ws is) [
  | inl same ↦ or_left _ _ (eq-eqb w.block x.block (ap (λ y. y.block) (sym same)))
  | inr later ↦ or_right _ _ (among_blocks ws w later)
]

-- ---- the bytes
pub bytes_kept : (ws : List LoggedBlock) (b : ℕ) (before : List ℕ) → writes_to ws b ≡ false → bytes_after ws b before ≡ before
bytes_kept [] b before none = refl
bytes_kept (w ∷ ws) b before none = elim (cases_Bool (w.block == b)) [
  | inl here ↦ absurd (false≢true (sym none ∙ or_left _ _ here))
  | inr other ↦ rw other (bytes_kept ws b before (rw other at none))
]

-- those from before do not count where there is a write
pub bytes_put : (ws : List LoggedBlock) (b : ℕ) (x y : List ℕ) → writes_to ws b ≡ true → bytes_after ws b x ≡ bytes_after ws b y
bytes_put [] b x y some = absurd (false≢true some)
bytes_put (w ∷ ws) b x y some = elim (cases_Bool (w.block == b)) [
  | inl here ↦ rw here refl
  | inr other ↦ rw other (bytes_put ws b x y (rw other at some))
]

-- where each block is written once, they are those of the one write
pub bytes_of_write : (ws : List LoggedBlock) (w : LoggedBlock) (before : List ℕ) → IsDistinct nat_eq (map (λ x. x.block) ws) → Contains ws w → bytes_after ws w.block before ≡ w.bytes
unfolding IsDistinct
bytes_of_write [] w before distinct is = absurd (omega (arith, is.1))
bytes_of_write (x ∷ ws) w before distinct is = elim (contains_cases x w ws is) [
  | inl here ↦
      let none : writes_to ws w.block ≡ false = not_written ws w.block (λ y inside same.
      absurd (false≢true (sym (apart x ws y distinct.0 inside) ∙ eq-eqb x.block y.block (ap (λ z. z.block) here ∙ sym same)))) in
      rw (eq-eqb x.block w.block (ap (λ z. z.block) here)) (bytes_kept ws w.block x.bytes none ∙ ap (λ z. z.bytes) here)
  | inr there ↦ bytes_of_write ws w _ distinct.1 there
]
  where
    apart : (x : LoggedBlock) (ws : List LoggedBlock) (y : LoggedBlock) → AllByRecursion (λ b. nat_eq x.block b ≡ false) (map (λ z. z.block) ws) → Contains ws y → (x.block == y.block) ≡ false
    apart x [] y all inside = absurd (omega (arith, inside.1))
    apart x (z ∷ zs) y all inside = elim (contains_cases z y zs inside) [
      | inl same ↦ rw (← same) all.0
      | inr later ↦ apart x zs y all.1 later
    ]

-- ---- lists of numbers that are all different
pub first_apart : (a : ℕ) (ns : List ℕ) (b : ℕ) → IsDistinct nat_eq (a ∷ ns) → among ns b ≡ true → a ≡ b → ⊥
unfolding IsDistinct
first_apart a [] b distinct is same = absurd (false≢true is)
first_apart a (n ∷ ns) b distinct is same = elim (cases_Bool (b == n)) [
  | inl here ↦ absurd (false≢true (sym distinct.0.0 ∙ eq-eqb a n (same ∙ eqb-true b n here)))
  | inr other ↦ first_apart a ns b (distinct.0.1, distinct.1.1) (rw other at is) same
]

pub parts_apart : (xs ys : List ℕ) (a b : ℕ) → IsDistinct nat_eq (xs ++ ys) → among xs a ≡ true → among ys b ≡ true → a ≡ b → ⊥
unfolding IsDistinct
parts_apart [] ys a b distinct here there same = absurd (false≢true here)
parts_apart (x ∷ xs) ys a b distinct here there same = elim (cases_Bool (a == x)) [
  | inl first ↦ first_apart x (xs ++ ys) b distinct (among_right xs ys b there) (sym (eqb-true a x first) ∙ same)
  | inr later ↦ parts_apart xs ys a b distinct.1 (rw later at here) there same
]
