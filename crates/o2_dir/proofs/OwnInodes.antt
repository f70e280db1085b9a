-- The inodes that the system directory names.
use Rattle.std.proofs.Common.{◌≡◌, inl, inr, ℕ, zero, suc, ◌<◌, Bool, true, false, ◌||◌, not, ◌==◌, List, [], ◌∷◌, map, filter, get_or, length, refl, sym, ◌∙◌, ap, arith}
use Rattle.std.proofs.lemmas.Bool.{cases_Bool, or_left, or_right, eq-eqb}
use Rattle.std.proofs.lemmas.Bool.Decides.{nat_tests}
use Rattle.o2_model.specs.Words.{among}
use Rattle.o2_model.specs.Volume.{Volume}
use Rattle.o2_model.specs.Directories.{is_dot, directory_entries, own_inodes}
use Rattle.o2_model.specs.declared.entry.Entry.{Entry}

-- whether one of these entries that is no dot names the inode
abbrev pub names : List Entry → ℕ → Bool
names es n = among (map (λ e. e.inode) (filter (λ e. not (is_dot e)) es)) n

-- the entry at this place is one that does
pub named_at : (es : List Entry) (i : ℕ) (d : Entry) (n : ℕ) → i < length es → is_dot (get_or es i d) ≡ false → n ≡ (get_or es i d).inode → names es n ≡ true
named_at [] i d n low other is = absurd (omega arith)
named_at (e ∷ es) zero d n low other is = rw other (or_left _ _ (eq-eqb n e.inode is))
named_at (e ∷ es) (suc i) d n low other is = elim (cases_Bool (is_dot e)) [
  | inl dot ↦ rw dot (named_at es i d n (omega arith) other is)
  | inr other_too ↦ rw other_too (or_right (n == e.inode) _ (named_at es i d n (omega arith) other is))
]

pub sysdir_is_own : (v : Volume) (n : ℕ) → n ≡ v.geo.sysdir → among (own_inodes v) n ≡ true
unfolding own_inodes
sysdir_is_own v n is = or_left _ _ (eq-eqb n v.geo.sysdir is)

differ : (n m : ℕ) → (n ≡ m → ⊥) → (n == m) ≡ false
differ n m h = grind (arith, nat_tests)

or_none : (a b : Bool) → a ≡ false → (a || b) ≡ b
or_none true b h = cc
or_none false b h = refl

-- so the entries of the system directory say it of any other inode
pub others_are_named : (v : Volume) (n : ℕ) (es : List Entry) → (n ≡ v.geo.sysdir → ⊥) → es ≡ directory_entries v v.geo.sysdir → names es n ≡ among (own_inodes v) n
unfolding own_inodes
others_are_named v n es differs are =
    let other : (n == v.geo.sysdir) ≡ false = differ n v.geo.sysdir differs in
    ap (λ es. names es n) are ∙ sym (or_none (n == v.geo.sysdir) (names (directory_entries v v.geo.sysdir) n) other)
