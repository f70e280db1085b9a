-- An entry of a piece: its bytes, and what is read from them.
use Rattle.std.proofs.Common.{◌≡◌, ℕ, ◌+◌, ◌-◌, ◌*◌, ◌/◌, ◌%◌, ◌≤◌, true, List, [], ◌∷◌, ◌++◌, length, take, drop, map, flat_map, All, replicate, refl, sym, ◌∙◌, ap, subst, arith}
use Rattle.std.proofs.lemmas.Bool.Decides.{nat_tests}
use Rattle.std.proofs.lemmas.List.{length-append, length-replicate, drop_at, take_at, append_assoc}
use Rattle.std.proofs.lemmas.List.Elements.{All-head, All-tail}
use Rattle.o2_ondisk.specs.Number.{number_at}
use Rattle.o2_ondisk.specs.Fields.{put_at, put_all}
use Rattle.o2_ondisk.specs.DirEntries.{dir_entry_of, dir_entry_fields, dir_entry_numbers}
use Rattle.o2_ondisk.specs.declared.dir_entry.DirEntry.{DirEntry}
use Rattle.o2_ondisk.proofs.NumberLaws.{number_at-append_left}
use Rattle.o2_ondisk.proofs.TableLaws.{length-put_all, low_first}
use Rattle.o2_model.specs.declared.entry.Entry.{Entry}
use Rattle.o2_model.specs.Directories.{Fill, NamedEntry, has_entry}
use Rattle.o2_dir.specs.Packings.{IsTold, Placed, need_of, placed_fields, placed_front, placed_bytes, placed_entry}
use Rattle.o2_dir.proofs.VoidedEntries.{is_entry, test_is}

-- ---- as long as it needs to be
-- an entry that is as long as it needs to be
abbrev pub fitted : Entry → Placed
fitted e = record { len = need_of e; entry = e }

-- the fields of an entry, by its length and its name
abbrev pub fields_with : Entry → ℕ → List ℕ → DirEntry
fields_with e len name = record { inode = e.inode; rec_len = len; name_len = length name; file_type = e.file_type }

-- the first 12 bytes with these
abbrev pub front_with : Entry → ℕ → List ℕ → List ℕ
front_with e len name = put_all dir_entry_fields (dir_entry_numbers (fields_with e len name)) (replicate 12 0)

-- its bytes
abbrev pub fitted_bytes : Entry → List ℕ
fitted_bytes e = placed_bytes (fitted e)

-- ---- what is read
-- what makes an entry readable
pub record IsSound (p : Placed) : Type 0 where
  pub told : IsTold p
  pub multiple : p.len % 4 ≡ 0
  pub room : 12 + length p.entry.name ≤ p.len

front_long : (p : Placed) → length (placed_front p) ≡ 12
unfolding placed_front
front_long p = length-put_all number_at put_at low_first 0 dir_entry_fields (dir_entry_numbers (placed_fields p)) (replicate 12 0) refl

pub long : (p : Placed) → 12 + length p.entry.name ≤ p.len → length (placed_bytes p) ≡ p.len
long p room =
    let name = p.entry.name in
    let count = p.len - (12 + length name) in
    omega (arith, length-append (placed_front p) (name ++ replicate count 0), length-append name (replicate {A = ℕ} count 0), length-replicate {A = ℕ} count 0, front_long p, room)

fields_front : (front rest : List ℕ) → 12 ≤ length front → dir_entry_of (front ++ rest) ≡ dir_entry_of front
fields_front front rest low =
    let inode = number_at-append_left 0 8 front rest (omega (arith, low)) in
    let len = number_at-append_left 8 2 front rest (omega (arith, low)) in
    let name = number_at-append_left 0xa 1 front rest (omega (arith, low)) in
    let kind = number_at-append_left 0xb 1 front rest (omega (arith, low)) in
    rw (inode, len, name, kind) refl

module _ (p : Placed) (sound : IsSound p) (rest : List ℕ) where
  abbrev tail_of : List ℕ
  tail_of = (p.entry.name ++ replicate (p.len - (12 + length p.entry.name)) 0) ++ rest

  split : placed_bytes p ++ rest ≡ placed_front p ++ tail_of
  split = append_assoc (placed_front p) (p.entry.name ++ replicate (p.len - (12 + length p.entry.name)) 0) rest

  fields_are : dir_entry_of (placed_bytes p ++ rest) ≡ placed_fields p
  fields_are = ap dir_entry_of split ∙ (fields_front (placed_front p) tail_of (omega (arith, front_long p)) ∙ sound.told)

  name_is : take (length p.entry.name) (drop 0xc (placed_bytes p ++ rest)) ≡ p.entry.name
  name_is =
      let name = p.entry.name in
      let pad = replicate {A = ℕ} (p.len - (12 + length name)) 0 in
      ap (λ (bs : List ℕ). take (length name) (drop 0xc bs)) split
      ∙ (ap (take (length name)) (drop_at (placed_front p) tail_of 0xc (front_long p))
      ∙ (ap (take (length name)) (append_assoc name pad rest) ∙ take_at name (pad ++ rest) (length name) refl))

  test_of : has_entry (placed_bytes p ++ rest) ≡ true
  test_of =
      let all : length (placed_bytes p ++ rest) ≡ p.len + length rest = length-append (placed_bytes p) rest ∙ ap (λ (n : ℕ). n + length rest) (long p sound.room) in
      test_is (placed_bytes p ++ rest)
      ∙ (ap (λ (d : DirEntry). is_entry d (length (placed_bytes p ++ rest))) fields_are ∙ (ap (is_entry (placed_fields p)) all ∙ passes p.len (length p.entry.name) (length rest) p.entry.inode p.entry.file_type sound.multiple sound.room))
    where
      passes : (len name more inode kind : ℕ) → len % 4 ≡ 0 → 12 + name ≤ len → is_entry (record { inode = inode; rec_len = len; name_len = name; file_type = kind }) (len + more) ≡ true
      passes len name more inode kind multiple room = grind (arith, nat_tests)

  entry_is : placed_entry p ≡ record { fields = dir_entry_of (placed_bytes p ++ rest); name = take (dir_entry_of (placed_bytes p ++ rest)).name_len (drop 0xc (placed_bytes p ++ rest)) }
  entry_is = sym (ap (λ (d : DirEntry). named d (take d.name_len (drop 0xc (placed_bytes p ++ rest)))) fields_are ∙ ap (named (placed_fields p)) name_is)
    where
      named : DirEntry → List ℕ → NamedEntry
      named fields name = record { fields = fields; name = name }

pub sound_fill : (ps : List Placed) → All IsSound ps → Fill (map placed_entry ps) (flat_map placed_bytes ps)
sound_fill [] sound = refl
sound_fill (p ∷ ps) sound =
    let first = All-head IsSound p ps sound in
    let rest = flat_map placed_bytes ps in (
      test_of p first rest,
      entry_is p first rest,
      subst (Fill (map placed_entry ps)) (sym (drop_at (placed_bytes p) rest p.len (long p first.room))) (sound_fill ps (All-tail IsSound p ps sound)),
    )

-- an entry that is as long as it needs to be is readable
pub need_multiple : (n : ℕ) → n / 4 * 4 % 4 ≡ 0
need_multiple n = omega arith

pub fitted_sound : (e : Entry) → IsTold (fitted e) → IsSound (fitted e)
fitted_sound e told = record { told = told; multiple = need_multiple (12 + length e.name + 3); room = omega arith }
