-- The entries that fill some bytes, once one of them is void.
use Rattle.std.proofs.Common.{◌≡◌, inl, inr, ℕ, ◌+◌, ◌≤◌, ◌%◌, Bool, true, false, ◌&&◌, ◌||◌, ◌==◌, not, List, [], ◌∷◌, ◌++◌, length, take, drop, map, filter, refl, sym, ◌∙◌, ap, subst, arith, lit<, Option, Some, None}
use Rattle.std.specs.Prelude.{sum_by, nat_le, is_some}
use Rattle.std.proofs.lemmas.Bool.{cases_Bool}
use Rattle.std.proofs.lemmas.Bool.Decides.{nat_tests}
use Rattle.std.proofs.lemmas.List.{length-drop}
use Rattle.std.proofs.lemmas.List.Sums.{sum_by-cons}
use Rattle.o2_ondisk.specs.Fields.{put_at}
use Rattle.o2_ondisk.specs.DirEntries.{dir_entry_of}
use Rattle.o2_ondisk.specs.declared.dir_entry.DirEntry.{DirEntry}
use Rattle.o2_ondisk.proofs.TableLaws.{length-put_at, number_at-put_at, number_at-put_at_apart, bytes_at-put_at_apart}
use Rattle.o2_model.specs.Volume.{Volume}
use Rattle.o2_model.specs.declared.entry.Entry.{Entry}
use Rattle.o2_model.specs.Directories.{NamedEntry, Fill, entry_at_front, entries_in, has_entry, is_live, live_from}
use Rattle.o2_model.proofs.Entries.{within, fill-in, in-fill}
use Rattle.o2_dir.specs.VoidEntries.{BeginsAt, AreVoidedAt, filled_bytes, told_of, void_of, with_void}
use Rattle.o2_dir.proofs.LiveVoided.{fill_long, live_gone}
use Rattle.o2_dir.proofs.VoidedBytes.{drop-put_at, drop-put_at_behind, filled_voided}

-- ---- one entry
-- its fields, once zeros stand for its inode
fields_void : (bytes : List ℕ) → 12 ≤ length bytes → dir_entry_of (put_at 0 8 0 bytes) ≡ record (dir_entry_of bytes) { inode = 0 }
fields_void bytes long =
    let inode = number_at-put_at 0 8 0 bytes (omega (arith, long)) (lit< tt) in
    let len = number_at-put_at_apart 0 8 0 bytes (omega (arith, long)) 8 2 (inr (omega arith)) in
    let name = number_at-put_at_apart 0 8 0 bytes (omega (arith, long)) 0xa 1 (inr (omega arith)) in
    let kind = number_at-put_at_apart 0 8 0 bytes (omega (arith, long)) 0xb 1 (inr (omega arith)) in
    rw (inode, len, name, kind) refl

-- its fields, where zeros are put behind them
fields_before : (at : ℕ) (bytes : List ℕ) → 12 ≤ at → at + 8 ≤ length bytes → dir_entry_of (put_at at 8 0 bytes) ≡ dir_entry_of bytes
fields_before at bytes low fits =
    let inode = number_at-put_at_apart at 8 0 bytes fits 0 8 (inl (omega (arith, low))) in
    let len = number_at-put_at_apart at 8 0 bytes fits 8 2 (inl (omega (arith, low))) in
    let name = number_at-put_at_apart at 8 0 bytes fits 0xa 1 (inl (omega (arith, low))) in
    let kind = number_at-put_at_apart at 8 0 bytes fits 0xb 1 (inl (omega (arith, low))) in
    rw (inode, len, name, kind) refl

abbrev pub is_entry : DirEntry → ℕ → Bool
is_entry d size = d.rec_len % 4 == 0 && nat_le 12 d.rec_len && nat_le d.rec_len size && (d.inode == 0 || nat_le (12 + d.name_len) d.rec_len)

pub test_is : (bytes : List ℕ) → has_entry bytes ≡ is_entry (dir_entry_of bytes) (length bytes)
unfolding has_entry
test_is bytes = refl

and_true : (a b : Bool) → (a && b) ≡ true → (a && true) ≡ true
and_true true b both = refl
and_true false b both = both

-- void, it still stands there
entry_void : (bytes : List ℕ) → has_entry bytes ≡ true → has_entry (put_at 0 8 0 bytes) ≡ true
entry_void bytes good =
    let w = within bytes good in
    let d = dir_entry_of bytes in
    let long : 12 ≤ length bytes = omega (arith, w.long, w.inside) in
    let size : length (put_at 0 8 0 bytes) ≡ length bytes = length-put_at 0 8 0 bytes (omega (arith, long)) in
    test_is (put_at 0 8 0 bytes)
    ∙ (ap (is_entry (dir_entry_of (put_at 0 8 0 bytes))) size
    ∙ (ap (λ (x : DirEntry). is_entry x (length bytes)) (fields_void bytes long)
    ∙ and_true (d.rec_len % 4 == 0 && nat_le 12 d.rec_len && nat_le d.rec_len (length bytes)) (d.inode == 0 || nat_le (12 + d.name_len) d.rec_len) (sym (test_is bytes) ∙ good)))

entry_before : (at : ℕ) (bytes : List ℕ) → 12 ≤ at → at + 8 ≤ length bytes → has_entry (put_at at 8 0 bytes) ≡ has_entry bytes
entry_before at bytes low fits =
    test_is (put_at at 8 0 bytes)
    ∙ (ap (is_entry (dir_entry_of (put_at at 8 0 bytes))) (length-put_at at 8 0 bytes fits)
    ∙ (ap (λ (x : DirEntry). is_entry x (length bytes)) (fields_before at bytes low fits) ∙ sym (test_is bytes)))

-- the name of a live entry ends within it
name_within : (bytes : List ℕ) → has_entry bytes ≡ true → is_live (entry_at_front bytes) ≡ true → 12 + (dir_entry_of bytes).name_len ≤ (dir_entry_of bytes).rec_len
unfolding has_entry
name_within bytes good live = grind (arith, nat_tests)

abbrev named : DirEntry → List ℕ → NamedEntry
named fields name = record { fields = fields; name = name }

told_void : (e : NamedEntry) → is_live e ≡ false → told_of e ≡ named e.fields []
told_void e void = rw void refl

-- an entry before the one that becomes void tells the same
told_before : (at : ℕ) (bytes : List ℕ) → has_entry bytes ≡ true → (dir_entry_of bytes).rec_len ≤ at → at + 8 ≤ length bytes → told_of (entry_at_front (put_at at 8 0 bytes)) ≡ told_of (entry_at_front bytes)
told_before at bytes good low fits =
    let new = put_at at 8 0 bytes in
    let d = dir_entry_of bytes in
    let same : dir_entry_of new ≡ d = fields_before at bytes (omega (arith, low, (within bytes good).long)) fits in
    elim (cases_Bool (is_live (entry_at_front bytes))) [
      | inl live ↦
          let name : take d.name_len (drop 0xc new) ≡ take d.name_len (drop 0xc bytes) = bytes_at-put_at_apart at 8 0 bytes fits 0xc d.name_len (inl (omega (arith, low, name_within bytes good live))) in
          ap told_of (ap (λ (x : DirEntry). named x (take x.name_len (drop 0xc new))) same ∙ ap (named d) name)
      | inr void ↦
          told_void (entry_at_front new) (ap (λ (x : DirEntry). not (x.inode == 0)) same ∙ void)
          ∙ (ap (λ (x : DirEntry). named x []) same ∙ sym (told_void (entry_at_front bytes) void))
    ]

-- ---- all entries
abbrev len_of : NamedEntry → ℕ
len_of e = e.fields.rec_len

-- the entry lies within the bytes
pub room_of : (front : List NamedEntry) (e : NamedEntry) (back : List NamedEntry) (bytes : List ℕ) → Fill (front ++ e ∷ back) bytes → sum_by len_of front + 12 ≤ length bytes
room_of [] e back bytes h = let w = within bytes h.0 in omega (arith, w.long, w.inside)
room_of (f ∷ front) e back bytes h =
    let rest = room_of front e back (drop f.fields.rec_len bytes) h.2 in
    omega (arith, rest, length-drop f.fields.rec_len bytes, sum_by-cons len_of f front)

-- what fills the bytes once the entry is void
record Voided (at : ℕ) (front : List NamedEntry) (e : NamedEntry) (back : List NamedEntry) (bytes : List ℕ) : Type 0 where
  entries : List NamedEntry
  fill : Fill entries (put_at at 8 0 bytes)
  told : map told_of entries ≡ map told_of (front ++ void_of e ∷ back)

void_fill : (front : List NamedEntry) (e : NamedEntry) (back : List NamedEntry) (bytes : List ℕ) → Fill (front ++ e ∷ back) bytes → Voided (sum_by len_of front) front e back bytes
void_fill [] e back bytes h =
    let new = put_at 0 8 0 bytes in
    let w = within bytes h.0 in
    let long : 12 ≤ length bytes = omega (arith, w.long, w.inside) in
    let fields : dir_entry_of new ≡ record (dir_entry_of bytes) { inode = 0 } = fields_void bytes long in
    let len : e.fields.rec_len ≡ (dir_entry_of bytes).rec_len = ap (λ (x : NamedEntry). x.fields.rec_len) h.1 in
    let rest : drop (dir_entry_of new).rec_len new ≡ drop e.fields.rec_len bytes =
    ap (λ (x : DirEntry). drop x.rec_len new) fields ∙ (drop-put_at_behind 0 8 0 (dir_entry_of bytes).rec_len bytes (omega (arith, long)) (omega (arith, w.long)) ∙ ap (λ (k : ℕ). drop k bytes) (sym len)) in
    record {
      entries = entry_at_front new ∷ back;
      fill = (entry_void bytes h.0, refl, subst (Fill back) (sym rest) h.2);
      told = ap (λ (x : NamedEntry). x ∷ map told_of back)
          (told_void (entry_at_front new) (ap (λ (x : DirEntry). not (x.inode == 0)) fields)
          ∙ (ap (λ (x : DirEntry). named x []) fields ∙ ap (λ (x : NamedEntry). named (record (x.fields) { inode = 0 }) []) (sym h.1)));
    }
void_fill (f ∷ front) e back bytes h =
    let len = f.fields.rec_len in
    let at = sum_by len_of front in
    let place : sum_by len_of (f ∷ front) ≡ len + at = sum_by-cons len_of f front in
    let new = put_at (len + at) 8 0 bytes in
    let is : len ≡ (dir_entry_of bytes).rec_len = ap (λ (x : NamedEntry). x.fields.rec_len) h.1 in
    let room = room_of front e back (drop len bytes) h.2 in
    let fits : len + at + 8 ≤ length bytes = omega (arith, room, length-drop len bytes) in
    let low : 12 ≤ len = omega (arith, is, (within bytes h.0).long) in
    let good : has_entry new ≡ true = entry_before (len + at) bytes (omega (arith, low)) fits ∙ h.0 in
    let same : dir_entry_of new ≡ dir_entry_of bytes = fields_before (len + at) bytes (omega (arith, low)) fits in
    let behind = void_fill front e back (drop len bytes) h.2 in
    let rest : drop (dir_entry_of new).rec_len new ≡ put_at at 8 0 (drop len bytes) =
    ap (λ (x : DirEntry). drop x.rec_len new) same ∙ (ap (λ (k : ℕ). drop k new) (sym is) ∙ drop-put_at len at 8 0 bytes fits) in
    subst (λ (n : ℕ). Voided n (f ∷ front) e back bytes) (sym place) (record {
      entries = entry_at_front new ∷ behind.entries;
      fill = (good, refl, subst (Fill behind.entries) (sym rest) behind.fill);
      told = ap (λ (x : NamedEntry). x ∷ map told_of behind.entries) (told_before (len + at) bytes h.0 (omega (arith, is)) fits ∙ ap told_of (sym h.1))
          ∙ ap (λ (xs : List NamedEntry). told_of f ∷ xs) behind.told;
    })

-- ---- of a volume
-- no room for an entry there: no entry begins there
pub begins_within : (at : ℕ) (es : List NamedEntry) (bytes : List ℕ) → entries_in bytes ≡ Some es → BeginsAt at es → at + 12 ≤ length bytes
begins_within at es bytes found begins =
    let fill : Fill (begins.front ++ begins.entry ∷ begins.back) bytes = subst (λ (xs : List NamedEntry). Fill xs bytes) begins.are (in-fill bytes es found) in
    omega (arith, room_of begins.front begins.entry begins.back bytes fill, begins.place)

-- a place that is too far back for an entry
pub begins_without : (at : ℕ) (es : List NamedEntry) (bytes : List ℕ) → nat_le (at + 12) (length bytes) ≡ false → entries_in bytes ≡ Some es → BeginsAt at es → ⊥
begins_without at es bytes small found begins = let room : at + 12 ≤ length bytes = begins_within at es bytes found begins in too_long (at + 12) (length bytes) small room
  where
    too_long : (a b : ℕ) → nat_le a b ≡ false → a ≤ b → ⊥
    too_long a b small room = grind (arith, nat_tests)

-- no entries are found
pub none_found : {A : Type 0} (o : Option A) → ((x : A) → o ≡ Some x → ⊥) → is_some o ≡ false
none_found None none = refl
none_found (Some x) none = absurd (none x refl)

-- the entries of the block once this one is void
pub entries_voided : (v : Volume) (inode block at : ℕ) (old : List NamedEntry) → entries_in (filled_bytes v inode block) ≡ Some old → BeginsAt at old
    → (new : List NamedEntry) × (entries_in (filled_bytes (with_void v inode block at) inode block) ≡ Some new) × AreVoidedAt at old new
entries_voided v inode block at old found begins =
    let bytes = filled_bytes v inode block in
    let fill : Fill (begins.front ++ begins.entry ∷ begins.back) bytes = subst (λ (xs : List NamedEntry). Fill xs bytes) begins.are (in-fill bytes old found) in
    let voided : Voided at begins.front begins.entry begins.back bytes =
    subst (λ (n : ℕ). Voided n begins.front begins.entry begins.back bytes) (sym begins.place) (void_fill begins.front begins.entry begins.back bytes fill) in (
      voided.entries,
      ap entries_in (filled_voided v inode block at (begins_within at old bytes found begins)) ∙ fill-in voided.entries (put_at at 8 0 bytes) voided.fill,
      record {
        begins = begins;
        are = voided.told;
        live = λ b.
            live_gone b begins.front begins.entry begins.back voided.entries (fill_long (begins.front ++ begins.entry ∷ begins.back) bytes fill) voided.told
            ∙ (ap (λ (n : ℕ). filter (λ (e : Entry). not (e.at == n)) (live_from b 0 (begins.front ++ begins.entry ∷ begins.back))) (sym begins.place)
            ∙ ap (λ (es : List NamedEntry). filter (λ (e : Entry). not (e.at == at)) (live_from b 0 es)) (sym begins.are));
      },
    )
