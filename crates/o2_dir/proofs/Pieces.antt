-- The bytes of a piece, and the entries that are read from them.
use Rattle.std.proofs.Common.{◌≡◌, ◌≢◌, ℕ, ◌+◌, ◌-◌, ◌%◌, ◌≤◌, ◌<◌, List, [], ◌∷◌, ◌++◌, length, take, map, flat_map, All, get_or, refl, sym, ◌∙◌, ap, subst, arith, Some}
use Rattle.std.proofs.lemmas.List.{length-append, take_all, take_more, append-nil}
use Rattle.std.proofs.lemmas.List.Concat.{flat_map-append}
use Rattle.std.proofs.lemmas.List.Elements.{All-push, All-map}
use Rattle.std.proofs.lemmas.List.Sums.{sum_by-cons, sum_by_push}
use Rattle.o2_model.specs.declared.entry.Entry.{Entry}
use Rattle.o2_model.specs.Directories.{entries_in}
use Rattle.o2_model.proofs.Entries.{fill-in}
use Rattle.o2_dir.specs.Packings.{IsTold, Placed, need_of, needs_of, placed, placed_bytes, piece_bytes, piece_entries}
use Rattle.o2_dir.proofs.PlacedEntries.{IsSound, fitted, fitted_bytes, fitted_sound, long, need_multiple, sound_fill}

-- the last entry of a piece behind these
abbrev last_of : ℕ → List Entry → Entry → Placed
last_of room front last = record { len = room - needs_of front; entry = last }

placed-push : (room : ℕ) (front : List Entry) (last : Entry) → placed room (front ++ last ∷ []) ≡ map fitted front ++ last_of room front last ∷ []
placed-push room [] last = let none : room - 0 ≡ room = omega arith in ap (λ (n : ℕ). (record { len = n; entry = last }) ∷ []) (sym none)
placed-push room (e ∷ []) last =
    let one : need_of e ≡ needs_of (e ∷ []) = sym (sum_by-cons need_of e [] ∙ omega arith) in
    ap (λ (n : ℕ). fitted e ∷ (record { len = room - n; entry = last }) ∷ []) one
placed-push room (e ∷ f ∷ es) last =
    let less : room - need_of e - needs_of (f ∷ es) ≡ room - needs_of (e ∷ f ∷ es) = omega (arith, sum_by-cons need_of e (f ∷ es)) in
    ap (λ (ps : List Placed). fitted e ∷ ps) (placed-push (room - need_of e) (f ∷ es) last)
    ∙ ap (λ (n : ℕ). map fitted (e ∷ f ∷ es) ++ (record { len = n; entry = last }) ∷ []) less

fitted_all : (es : List Entry) → flat_map placed_bytes (map fitted es) ≡ flat_map fitted_bytes es
fitted_all [] = refl
fitted_all (e ∷ es) = ap (λ (bs : List ℕ). fitted_bytes e ++ bs) (fitted_all es)

pub piece_is : (room : ℕ) (front : List Entry) (last : Entry) → flat_map fitted_bytes front ++ placed_bytes (last_of room front last) ≡ piece_bytes room (front ++ last ∷ [])
piece_is room front last =
    let all = last_of room front last ∷ [] in
    sym (ap (flat_map placed_bytes) (placed-push room front last)
    ∙ (flat_map-append placed_bytes (map fitted front) all
    ∙ (ap (λ (bs : List ℕ). bs ++ flat_map placed_bytes all) (fitted_all front) ∙ ap (λ (bs : List ℕ). flat_map fitted_bytes front ++ bs) (append-nil (placed_bytes (last_of room front last))))))

-- the bytes of the entries before the last one, each as long as it needs to be
pub record IsFront (bytes : List ℕ) (front : List Entry) : Type 0 where
  pub are : bytes ≡ flat_map fitted_bytes front
  pub long : length bytes ≡ needs_of front
  pub told : All (λ e. IsTold (fitted e)) front

pub front_more : (old new : List ℕ) (es : List Entry) (i : ℕ) (e : Entry) (len : ℕ) → i < length es → e ≡ get_or es i e → len ≡ need_of e
    → new ≡ old ++ placed_bytes (record { len = len; entry = e }) → length new ≡ length old + len → IsTold (record { len = len; entry = e }) → IsFront old (take i es) → IsFront new (take (i + 1) es)
front_more old new es i e len low is fits put long told h =
    let more : take (i + 1) es ≡ take i es ++ e ∷ [] = take_more es i e low ∙ ap (λ (y : Entry). take i es ++ y ∷ []) (sym is) in
    let front = take i es in
    subst (IsFront new) (sym more) (record {
      are = put
          ∙ (ap (λ (n : ℕ). old ++ placed_bytes (record { len = n; entry = e })) fits
          ∙ (ap (λ (bs : List ℕ). bs ++ fitted_bytes e) h.are
          ∙ sym (flat_map-append fitted_bytes front (e ∷ []) ∙ ap (λ (bs : List ℕ). flat_map fitted_bytes front ++ bs) (append-nil (fitted_bytes e)))));
      long = long ∙ omega (arith, h.long, fits, sum_by_push need_of front e);
      told = All-push (λ e. IsTold (fitted e)) front e h.told (subst (λ (n : ℕ). IsTold (record { len = n; entry = e })) fits told);
    })

-- a list is its last item behind those before it
pub last_split : (xs : List Entry) (i : ℕ) (x : Entry) → i + 1 ≡ length xs → x ≡ get_or xs i x → xs ≡ take i xs ++ x ∷ []
last_split xs i x end is = sym (take_all (i + 1) xs (omega (arith, end))) ∙ (take_more xs i x (omega (arith, end)) ∙ ap (λ (y : Entry). take i xs ++ y ∷ []) (sym is))

-- ---- of a piece
needs_multiple : (es : List Entry) → needs_of es % 4 ≡ 0
needs_multiple [] = refl
needs_multiple (e ∷ es) = omega (arith, sum_by-cons need_of e es, needs_multiple es, need_multiple (12 + length e.name + 3))

fitted_sounds : (es : List Entry) → All (λ e. IsTold (fitted e)) es → All IsSound (map fitted es)
fitted_sounds es told = All-map IsSound fitted es (λ k d low. fitted_sound (get_or es k d) (told k d low))

pub piece_read : (room : ℕ) (front : List Entry) (last : Entry) → room % 4 ≡ 0 → needs_of (front ++ last ∷ []) ≤ room → All (λ e. IsTold (fitted e)) front → IsTold (last_of room front last)
    → entries_in (piece_bytes room (front ++ last ∷ [])) ≡ Some (piece_entries room (front ++ last ∷ []))
piece_read room front last multiple fit told last_told =
    let needs : needs_of (front ++ last ∷ []) ≡ needs_of front + need_of last = sum_by_push need_of front last in
    let last_sound : IsSound (last_of room front last) = record {
      told = last_told;
      multiple = omega (arith, multiple, needs_multiple front);
      room = omega (arith, fit, needs);
    } in
    let sound : All IsSound (placed room (front ++ last ∷ [])) =
    subst (λ (ps : List Placed). All IsSound ps) (sym (placed-push room front last)) (All-push IsSound (map fitted front) (last_of room front last) (fitted_sounds front told) last_sound) in
    fill-in (piece_entries room (front ++ last ∷ [])) (piece_bytes room (front ++ last ∷ [])) (sound_fill (placed room (front ++ last ∷ [])) sound)

-- ---- once the last entry is put
module _ (room : ℕ) (es : List Entry) (i : ℕ) (e : Entry) (old new : List ℕ) (len : ℕ) (end : i + 1 ≡ length es) (is : e ≡ get_or es i e) (left : len ≡ room - length old)
    (put : new ≡ old ++ placed_bytes (record { len = len; entry = e })) (front : IsFront old (take i es)) where
  all : es ≡ take i es ++ e ∷ []
  all = last_split es i e end is

  length_is : len ≡ room - needs_of (take i es)
  length_is = left ∙ ap (λ (n : ℕ). room - n) front.long

  pub piece_done : new ≡ piece_bytes room es
  piece_done =
      put
      ∙ (ap (λ (bs : List ℕ). bs ++ placed_bytes (record { len = len; entry = e })) front.are
      ∙ (ap (λ (n : ℕ). flat_map fitted_bytes (take i es) ++ placed_bytes (record { len = n; entry = e })) length_is
      ∙ (piece_is room (take i es) e ∙ ap (piece_bytes room) (sym all))))

  pub read_done : room % 4 ≡ 0 → needs_of es ≤ room → IsTold (record { len = len; entry = e }) → entries_in new ≡ Some (piece_entries room es)
  read_done multiple fit told =
      let fits : needs_of (take i es ++ e ∷ []) ≤ room = subst (λ (xs : List Entry). needs_of xs ≤ room) all fit in
      let last_told : IsTold (last_of room (take i es) e) = subst (λ (n : ℕ). IsTold (record { len = n; entry = e })) length_is told in
      ap entries_in (piece_done ∙ ap (piece_bytes room) all) ∙ (piece_read room (take i es) e multiple fits front.told last_told ∙ ap (λ (xs : List Entry). Some (piece_entries room xs)) (sym all))

-- ---- how long it is
piece_long : (room : ℕ) (es : List Entry) → es ≢ [] → needs_of es ≤ room → length (piece_bytes room es) ≡ room
piece_long room [] some fit = absurd (some refl)
piece_long room (e ∷ []) some fit =
    let p : Placed = record { len = room; entry = e } in
    ap length (append-nil (placed_bytes p)) ∙ long p (omega (arith, fit, sum_by-cons need_of e []))
piece_long room (e ∷ f ∷ es) some fit =
    let rest = piece_long (room - need_of e) (f ∷ es) (λ none. absurd (omega (arith, ap length none))) (omega (arith, fit, sum_by-cons need_of e (f ∷ es))) in
    omega (arith, rest, fit, sum_by-cons need_of e (f ∷ es), length-append (fitted_bytes e) (piece_bytes (room - need_of e) (f ∷ es)), long (fitted e) (omega arith))

pub all_long : (room : ℕ) (groups : List (List Entry)) → All (λ group. group ≢ []) groups → All (λ group. needs_of group ≤ room) groups → All (λ bytes. length bytes ≡ room) (map (piece_bytes room) groups)
all_long room groups some fit = All-map (λ bytes. length bytes ≡ room) (piece_bytes room) groups (λ k d low. piece_long room (get_or groups k d) (some k d low) (fit k d low))
