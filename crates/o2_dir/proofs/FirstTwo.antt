-- The first two entries of a directory.
use Rattle.std.proofs.Common.{◌≡◌, inl, inr, arith, ℕ, Bool, true, false, ◌&&◌, List, [], ◌∷◌, drop, refl, sym, ◌∙◌, ap, Some}
use Rattle.std.proofs.lemmas.Bool.{cases_Bool}
use Rattle.std.specs.Prelude.{codes, bytes_eq}
use Rattle.o2_ondisk.specs.DirEntries.{dir_entry_of}
use Rattle.o2_model.specs.Directories.{NamedEntry, entry_at_front, is_live, has_entry, Fill, entries_in}
use Rattle.o2_model.specs.Checks.DirBlock.{begin_with_dots}
use Rattle.o2_model.proofs.Entries.{within, in-fill}
use Rattle.o2_dir.specs.Blocks.{begins_with}

no_entry : has_entry [] ≡ false
no_entry = elim (cases_Bool (has_entry [])) [
  | inl good ↦ absurd (omega (arith, (within [] good).long, (within [] good).inside))
  | inr bad ↦ bad
]

none_named : (name : List ℕ) → begins_with name [] ≡ false
none_named name = rw no_entry refl

and_none : (a : Bool) → (a && false) ≡ false
and_none true = refl
and_none false = refl

and_four : (a b c d : Bool) → (a && b && c && d) ≡ ((a && b) && (c && d))
and_four true true c d = refl
and_four true false c d = refl
and_four false b c d = refl

two : (bytes behind : List ℕ) (a b : NamedEntry) → has_entry bytes ≡ true → a ≡ entry_at_front bytes → has_entry behind ≡ true → b ≡ entry_at_front behind
    → (is_live a && bytes_eq a.name (codes ".") && is_live b && bytes_eq b.name (codes "..")) ≡ (begins_with (codes ".") bytes && begins_with (codes "..") behind)
two bytes behind a b first is_a second is_b = rw (is_a, is_b, first, second)
    (and_four (is_live (entry_at_front bytes)) (bytes_eq (entry_at_front bytes).name (codes ".")) (is_live (entry_at_front behind)) (bytes_eq (entry_at_front behind).name (codes "..")))

are : (bytes : List ℕ) (es : List NamedEntry) → Fill es bytes → begin_with_dots es ≡ (begins_with (codes ".") bytes && begins_with (codes "..") (drop (dir_entry_of bytes).rec_len bytes))
are bytes [] h = sym (ap (λ bs. begins_with (codes ".") bs && begins_with (codes "..") (drop (dir_entry_of bs).rec_len bs)) h ∙ rw no_entry refl)
are bytes (a ∷ []) h =
    let rest : drop (dir_entry_of bytes).rec_len bytes ≡ [] = sym (ap (λ x. drop x.fields.rec_len bytes) h.1) ∙ h.2 in
    sym (ap (λ bs. begins_with (codes ".") bytes && begins_with (codes "..") bs) rest ∙ (ap (λ x. begins_with (codes ".") bytes && x) (none_named (codes "..")) ∙ and_none _))
are bytes (a ∷ b ∷ es) h =
    two bytes (drop a.fields.rec_len bytes) a b h.0 h.1 h.2.0 h.2.1 ∙ ap (λ x. begins_with (codes ".") bytes && begins_with (codes "..") (drop x.fields.rec_len bytes)) h.1

pub dots_are : (bytes : List ℕ) (es : List NamedEntry) → entries_in bytes ≡ Some es → begin_with_dots es ≡ (begins_with (codes ".") bytes && begins_with (codes "..") (drop (dir_entry_of bytes).rec_len bytes))
dots_are bytes es h = are bytes es (in-fill bytes es h)
