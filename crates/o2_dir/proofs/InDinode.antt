-- A directory whose entries stand in its dinode.
use Rattle.std.proofs.Common.{◌≡◌, inl, inr, ℕ, ◌+◌, ◌-◌, ◌^◌, ◌≤◌, Bool, true, cond, ◌&&◌, List, [], ◌∷◌, flat_map, length, take, drop, refl, sym, ◌∙◌, ap, subst, arith, Option, None, Result, Ok, Err}
use Rattle.std.specs.Prelude.{IfOk}
use Rattle.std.specs.Result.{IfErr}
use Rattle.std.proofs.lemmas.Result.{IfErr-weaker}
use Rattle.std.specs.Prelude.{nat_le}
use Rattle.std.proofs.lemmas.Bool.Decides.{nat_tests}
use Rattle.o2_ondisk.specs.Number.{number_at}
use Rattle.o2_model.specs.Volume.{Volume, block_size, dinode}
use Rattle.o2_model.specs.declared.check.Check.{Check}
use Rattle.o2_model.specs.declared.check.Check.TheVariants as Checks
use Rattle.o2_model.specs.Words.{IsLeast}
use Rattle.o2_model.specs.Inodes.{is_inline, kind}
use Rattle.o2_model.specs.Directories.{NamedEntry, DirBlock, dir_blocks, directory_entries, entries_in, entries_of_block, inline_block}
use Rattle.o2_model.specs.Checks.InodeSize.{has_sound_size, is_inline_size, is_size_of_kind}
use Rattle.o2_dir.specs.Blocks.{Keeps, blocks_in_dinode}
use Rattle.o2_dir.specs.declared.reading.Reading.{Reading}
use Rattle.o2_model.specs.declared.entry.Entry.{Entry}
use Rattle.o2_dir.specs.declared.fault.DirFault.{DirFault}
use Rattle.o2_dir.specs.declared.fault.DirFault.TheVariants as Faults
use Rattle.o2_view.specs.OwnChecks.{NoneFails, IsOwn, FailsFirst}
use Rattle.o2_dir.specs.Fails.{IsInline, directory_checks}
use Rattle.o2_dir.proofs.Whole.{entries_kept, faults_kept, fails_blocks, size_sound}

-- ---- sizes and bytes that are told are those of the dinode
fits : (a size n p : ℕ) → n ≡ p → size ≡ a → 200 + size ≤ n → nat_le a (p - 200) ≡ true
fits a size n p long tells room = grind (arith, nat_tests)

same_test : (a size n p : ℕ) (at bytes : List ℕ) → n ≡ p → size ≡ a → bytes ≡ at
    → (nat_le a (number_at 0xc0 2 at) && nat_le (number_at 0xc0 2 at) (p - 200)) ≡ (nat_le size (number_at 0xc0 2 bytes) && nat_le (number_at 0xc0 2 bytes) (n - 200))
same_test a size n p at bytes long tells holds =
    ap (λ k. nat_le k (number_at 0xc0 2 at) && nat_le (number_at 0xc0 2 at) (p - 200)) (sym tells)
    ∙ (ap (λ k. nat_le size (number_at 0xc0 2 at) && nat_le (number_at 0xc0 2 at) (k - 200)) (sym long)
    ∙ ap (λ bs. nat_le size (number_at 0xc0 2 bs) && nat_le (number_at 0xc0 2 bs) (n - 200)) (sym holds))

found_is : (a size n p : ℕ) (at bytes : List ℕ) → n ≡ p → size ≡ a → bytes ≡ at → 200 + size ≤ n
    → cond (nat_le a (p - 200)) (entries_in (take a (drop 0xc8 at))) None ≡ entries_in (take size (drop 0xc8 bytes))
found_is a size n p at bytes long tells holds room =
    ap (λ (b : Bool). cond b (entries_in (take a (drop 0xc8 at))) None) (fits a size n p long tells room)
    ∙ (ap (λ k. entries_in (take k (drop 0xc8 at))) (sym tells)
    ∙ ap (λ bs. entries_in (take size (drop 0xc8 bs))) (sym holds))

abbrev one_block : ℕ → Option (List NamedEntry) → List DirBlock
one_block d o = record { place = 0; block = d; found = o } ∷ []

-- ---- of a directory
size_inside : (v : Volume) (d : ℕ) → is_inline v d ≡ true → has_sound_size v d ≡ is_inline_size v d
unfolding has_sound_size
size_inside v d inside = ap (λ (b : Bool). cond b (is_inline_size v d) (is_size_of_kind v d (kind v d))) inside

pub size_is : (v : Volume) (d size : ℕ) (bytes : List ℕ) → length bytes ≡ 2 ^ v.geo.block_bits → IsInline v d size bytes
    → has_sound_size v d ≡ (nat_le size (number_at 0xc0 2 bytes) && nat_le (number_at 0xc0 2 bytes) (length bytes - 200))
size_is v d size bytes long h = size_inside v d h.inside ∙ same_test (dinode v d).size size (length bytes) (block_size v) (v.at d) bytes long h.tells h.holds

taken : {A : Type 0} (b : Bool) (x y : A) → b ≡ true → cond b x y ≡ x
taken b x y is = ap (λ c. cond c x y) is

blocks_inside : (v : Volume) (d : ℕ) → is_inline v d ≡ true → dir_blocks v d ≡ inline_block v d ∷ []
unfolding dir_blocks
blocks_inside v d inside = taken _ _ _ inside

in_dinode : (d size : ℕ) (bytes : List ℕ) → one_block d (entries_in (take size (drop 0xc8 bytes))) ≡ blocks_in_dinode d size bytes
unfolding blocks_in_dinode
in_dinode d size bytes = refl

pub blocks_are : (v : Volume) (d size : ℕ) (bytes : List ℕ) → length bytes ≡ 2 ^ v.geo.block_bits → IsInline v d size bytes → 200 + size ≤ length bytes
    → dir_blocks v d ≡ blocks_in_dinode d size bytes
blocks_are v d size bytes long h room =
    let found = found_is (dinode v d).size size (length bytes) (block_size v) (v.at d) bytes long h.tells h.holds room in
    blocks_inside v d h.inside ∙ (ap (one_block d) found ∙ in_dinode d size bytes)

-- what was read of the inline bytes
pub is_read : (reading : Reading) (d size : ℕ) (bytes part : List ℕ) → part ≡ take size (drop 0xc8 bytes)
    → Keeps reading (record { place = 0; block = d; found = entries_in part } ∷ []) → Keeps reading (blocks_in_dinode d size bytes)
unfolding blocks_in_dinode
is_read reading d size bytes part is kept = subst (λ (bs : List ℕ). Keeps reading (record { place = 0; block = d; found = entries_in bs } ∷ [])) is kept

-- ---- the answers
pub told : (r : Result (List Entry) DirFault) (reading : Reading) (d size : ℕ) (bytes : List ℕ) → 200 + size ≤ length bytes → Keeps reading (blocks_in_dinode d size bytes)
    → (nat_le size (number_at 0xc0 2 bytes) && nat_le (number_at 0xc0 2 bytes) (length bytes - 200)) ≡ true
    → IfOk r (λ es. (bs : List DirBlock) → Keeps reading bs → es ≡ flat_map entries_of_block bs)
    → IfOk r (λ _. reading.faults.items ≡ [])
    → IfOk r (λ es. (v : Volume) → length bytes ≡ 2 ^ v.geo.block_bits → IsInline v d size bytes → NoneFails (directory_checks d) v × (es ≡ directory_entries v d))
told (Ok es) reading d size bytes room kept test sound none = λ v long h.
    let blocks = blocks_in_dinode d size bytes in
    let are = blocks_are v d size bytes long h room in (
      (h.sound, (size_sound v d (size_is v d size bytes long h ∙ test), (sym (faults_kept v d blocks reading are kept) ∙ none, tt))),
      sound blocks kept ∙ entries_kept v d blocks are,
    )
told (Err fault) reading d size bytes room kept test sound none = tt

pub bad_told : (r : Result (List Entry) DirFault) (reading : Reading) (d size : ℕ) (bytes : List ℕ) → 200 + size ≤ length bytes → Keeps reading (blocks_in_dinode d size bytes)
    → (nat_le size (number_at 0xc0 2 bytes) && nat_le (number_at 0xc0 2 bytes) (length bytes - 200)) ≡ true
    → IfErr r (λ fault. (check : Check) (b : ℕ) → fault ≡ Faults.Bad check b → (check ≡ Checks.DirBlock) × IsLeast b reading.faults.items)
    → IfErr r (λ fault. (check : Check) (b : ℕ) → fault ≡ Faults.Bad check b
    → IsOwn (directory_checks d) check × ((v : Volume) → length bytes ≡ 2 ^ v.geo.block_bits → IsInline v d size bytes → FailsFirst (directory_checks d) v check b))
bad_told r reading d size bytes room kept test = IfErr-weaker r
    (λ fault. (check : Check) (b : ℕ) → fault ≡ Faults.Bad check b → (check ≡ Checks.DirBlock) × IsLeast b reading.faults.items)
    (λ fault. (check : Check) (b : ℕ) → fault ≡ Faults.Bad check b
    → IsOwn (directory_checks d) check × ((v : Volume) → length bytes ≡ 2 ^ v.geo.block_bits → IsInline v d size bytes → FailsFirst (directory_checks d) v check b))
    (λ fault bad check b is.
    let first = bad check b is in (
      inr (inr (inl first.0)),
      λ v long h. fails_blocks v d check b reading.faults.items first.0 h.sound (size_is v d size bytes long h ∙ test)
          (faults_kept v d (blocks_in_dinode d size bytes) reading (blocks_are v d size bytes long h room) kept) first.1,
    ))
