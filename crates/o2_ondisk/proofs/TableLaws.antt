-- The laws of tables of fields, in either order of a number's bytes.
use Rattle.std.proofs.Common.{◌≡◌, ◌⊎◌, inl, inr, ⊎_elim, ℕ, ◌+◌, ◌<◌, ◌≤◌, ◌^◌, true, List, [], ◌∷◌, ◌++◌, length, take, drop, get_or, refl, sym, ◌∙◌, ap, subst, arith}
use Rattle.std.proofs.lemmas.List.{get_or-take, length-take-le, drop_at, drop_more, drop_all}
use Rattle.std.proofs.lemmas.Bool.{cases_lt}
use Rattle.std.proofs.lemmas.Bool.Decides.{nat_tests}
use Rattle.byteorder.specs.Endian.{little_from, little_bytes, big_from, big_bytes}
use Rattle.byteorder.specs.Numbers.{length-bytes_low_first, little_number-reads_back, length-bytes_high_first, big_number-reads_back}
use Rattle.o2_ondisk.specs.Number.{number_at, big_number_at}
use Rattle.o2_ondisk.specs.declared.layout.Order.{Order}
use Rattle.o2_ondisk.specs.declared.layout.Order.TheVariants.{LowFirst, HighFirst}
use Rattle.o2_ondisk.specs.Fields.{put_in, number_in, put_at, big_put_at, put_all_by, numbers_by, is_layout, Fit, IsOutside, paste_at, bytes_at, is_apart}
use Rattle.o2_ondisk.specs.declared.layout.Field.{Field}
use Rattle.o2_ondisk.proofs.NumberLaws.{number_at-same, big_number_at-same}
use Rattle.o2_ondisk.proofs.PasteLaws.{length-paste_at, get_or-paste_at_before, get_or-paste_at_behind, number_at-paste_at_apart, bytes_at-paste_at_apart}

-- what the laws of tables ask of a way to read and to put a number
pub record IsCodec (number : ℕ → ℕ → List ℕ → ℕ) (put : ℕ → ℕ → ℕ → List ℕ → List ℕ) : Type 0 where
  pub same : (at width : ℕ) (xs ys : List ℕ) → ((k : ℕ) → at ≤ k → k < at + width → get_or xs k 0 ≡ get_or ys k 0) → number at width xs ≡ number at width ys
  pub long : (at width value : ℕ) (bytes : List ℕ) → at + width ≤ length bytes → length (put at width value bytes) ≡ length bytes
  pub before : (at width value : ℕ) (bytes : List ℕ) → at + width ≤ length bytes → (i : ℕ) → i < at → get_or (put at width value bytes) i 0 ≡ get_or bytes i 0
  pub behind : (at width value : ℕ) (bytes : List ℕ) → at + width ≤ length bytes → (i : ℕ) → at + width ≤ i → get_or (put at width value bytes) i 0 ≡ get_or bytes i 0
  pub back : (at width value : ℕ) (bytes : List ℕ) → at + width ≤ length bytes → value < 256 ^ width → number at width (put at width value bytes) ≡ value

-- ---- one number
pub length-put_at : (at width value : ℕ) (bytes : List ℕ) → at + width ≤ length bytes → length (put_at at width value bytes) ≡ length bytes
unfolding put_at
length-put_at at width value bytes fits = length-paste_at at (little_bytes width value) bytes (omega (arith, length-bytes_low_first 0 width value))

pub get_or-put_at_before : (at width value : ℕ) (bytes : List ℕ) → at + width ≤ length bytes → (i : ℕ) → i < at → get_or (put_at at width value bytes) i 0 ≡ get_or bytes i 0
unfolding put_at
get_or-put_at_before at width value bytes fits i h = get_or-paste_at_before at (little_bytes width value) bytes (omega (arith, length-bytes_low_first 0 width value)) i h

pub get_or-put_at_behind : (at width value : ℕ) (bytes : List ℕ) → at + width ≤ length bytes → (i : ℕ) → at + width ≤ i → get_or (put_at at width value bytes) i 0 ≡ get_or bytes i 0
unfolding put_at
get_or-put_at_behind at width value bytes fits i h =
    let long = length-bytes_low_first 0 width value in
    get_or-paste_at_behind at (little_bytes width value) bytes (omega (arith, long)) i (omega (arith, long))

pub number_at-put_at : (at width value : ℕ) (bytes : List ℕ) → at + width ≤ length bytes → value < 256 ^ width → number_at at width (put_at at width value bytes) ≡ value
unfolding put_at number_at paste_at
number_at-put_at at width value bytes fits small =
    ap (λ (l : List ℕ). little_from 0 width l) (drop_at (take at bytes) (little_bytes width value ++ drop (at + length (little_bytes width value)) bytes) at (length-take-le at bytes (omega arith)))
    ∙ little_number-reads_back width value (drop (at + length (little_bytes width value)) bytes) small

-- a number put elsewhere leaves a number and a run of bytes
pub number_at-put_at_apart : (at width value : ℕ) (bytes : List ℕ) → at + width ≤ length bytes → (from many : ℕ) → (from + many ≤ at) ⊎ (at + width ≤ from) → number_at from many (put_at at width value bytes) ≡ number_at from many bytes
unfolding put_at
number_at-put_at_apart at width value bytes fits from many side =
    let long = length-bytes_low_first 0 width value in
    number_at-paste_at_apart at (little_bytes width value) bytes (omega (arith, long)) from many (⊎_elim (λ before. inl before) (λ behind. inr (omega (arith, long, behind))) side)

pub bytes_at-put_at_apart : (at width value : ℕ) (bytes : List ℕ) → at + width ≤ length bytes → (from many : ℕ) → (from + many ≤ at) ⊎ (at + width ≤ from) → bytes_at from many (put_at at width value bytes) ≡ bytes_at from many bytes
unfolding put_at
bytes_at-put_at_apart at width value bytes fits from many side =
    let long = length-bytes_low_first 0 width value in
    bytes_at-paste_at_apart at (little_bytes width value) bytes (omega (arith, long)) from many (⊎_elim (λ before. inl before) (λ behind. inr (omega (arith, long, behind))) side)

pub length-big_put_at : (at width value : ℕ) (bytes : List ℕ) → at + width ≤ length bytes → length (big_put_at at width value bytes) ≡ length bytes
unfolding big_put_at
length-big_put_at at width value bytes fits = length-paste_at at (big_bytes width value) bytes (omega (arith, length-bytes_high_first width value))

pub get_or-big_put_at_before : (at width value : ℕ) (bytes : List ℕ) → at + width ≤ length bytes → (i : ℕ) → i < at → get_or (big_put_at at width value bytes) i 0 ≡ get_or bytes i 0
unfolding big_put_at
get_or-big_put_at_before at width value bytes fits i h = get_or-paste_at_before at (big_bytes width value) bytes (omega (arith, length-bytes_high_first width value)) i h

pub get_or-big_put_at_behind : (at width value : ℕ) (bytes : List ℕ) → at + width ≤ length bytes → (i : ℕ) → at + width ≤ i → get_or (big_put_at at width value bytes) i 0 ≡ get_or bytes i 0
unfolding big_put_at
get_or-big_put_at_behind at width value bytes fits i h =
    let long = length-bytes_high_first width value in
    get_or-paste_at_behind at (big_bytes width value) bytes (omega (arith, long)) i (omega (arith, long))

pub big_number_at-big_put_at : (at width value : ℕ) (bytes : List ℕ) → at + width ≤ length bytes → value < 256 ^ width → big_number_at at width (big_put_at at width value bytes) ≡ value
unfolding big_put_at big_number_at paste_at
big_number_at-big_put_at at width value bytes fits small =
    ap (λ (l : List ℕ). big_from 0 width l) (drop_at (take at bytes) (big_bytes width value ++ drop (at + length (big_bytes width value)) bytes) at (length-take-le at bytes (omega arith)))
    ∙ big_number-reads_back width value (drop (at + length (big_bytes width value)) bytes) small

pub low_first : IsCodec number_at put_at
low_first = record {
  same = number_at-same;
  long = length-put_at;
  before = get_or-put_at_before;
  behind = get_or-put_at_behind;
  back = number_at-put_at;
}

pub high_first : IsCodec big_number_at big_put_at
high_first = record {
  same = big_number_at-same;
  long = length-big_put_at;
  before = get_or-big_put_at_before;
  behind = get_or-big_put_at_behind;
  back = big_number_at-big_put_at;
}

-- each order is one
pub codec_of : (order : Order) → IsCodec (number_in order) (put_in order)
codec_of LowFirst = low_first
codec_of HighFirst = high_first

-- ---- a table
-- what the test of a table says
module _ (low : ℕ) (f : Field) (fields : List Field) (size : ℕ) (test : is_layout low (f ∷ fields) size ≡ true) where
  low_start : low ≤ f.at
  low_start = grind (arith, nat_tests)

  low_width : f.width ≤ 8
  low_width = grind (arith, nat_tests)

  rest_test : is_layout (f.at + f.width) fields size ≡ true
  rest_test = grind (arith, nat_tests)

pub ends_within : (low : ℕ) (fields : List Field) (size : ℕ) → is_layout low fields size ≡ true → low ≤ size
ends_within low [] size test = grind (arith, nat_tests)
ends_within low (f ∷ fields) size test =
    let rest = ends_within (f.at + f.width) fields size (rest_test low f fields size test) in
    omega (arith, low_start low f fields size test, rest)

module _ (at count : ℕ) (f : Field) (fields : List Field) (test : is_apart at count (f ∷ fields) ≡ true) where
  apart_side : (f.at + f.width ≤ at) ⊎ (at + count ≤ f.at)
  apart_side = grind (arith, nat_tests)

  apart_rest : is_apart at count fields ≡ true
  apart_rest = grind (arith, nat_tests)

-- what is left to put, and that it gives what all of it gives
pub record Left (put : ℕ → ℕ → ℕ → List ℕ → List ℕ) (fields : List Field) (values bytes all : List ℕ) : Type 0 where
  pub low : ℕ
  pub layout : is_layout low fields (length bytes) ≡ true
  pub same : put_all_by put fields values bytes ≡ all

module _ (number : ℕ → ℕ → List ℕ → ℕ) (put : ℕ → ℕ → ℕ → List ℕ → List ℕ) (codec : IsCodec number put) where
  -- the test of the rest, on the bytes with the first number put
  next_test : (low : ℕ) (f : Field) (fields : List Field) (v : ℕ) (bytes : List ℕ) → is_layout low (f ∷ fields) (length bytes) ≡ true → is_layout (f.at + f.width) fields (length (put f.at f.width v bytes)) ≡ true
  next_test low f fields v bytes test =
      let rest = rest_test low f fields (length bytes) test in
      subst (λ (n : ℕ). is_layout (f.at + f.width) fields n ≡ true) (sym (codec.long f.at f.width v bytes (ends_within (f.at + f.width) fields (length bytes) rest))) rest

  -- the first field ends within the bytes
  first_fits : (low : ℕ) (f : Field) (fields : List Field) (bytes : List ℕ) → is_layout low (f ∷ fields) (length bytes) ≡ true → f.at + f.width ≤ length bytes
  first_fits low f fields bytes test = ends_within (f.at + f.width) fields (length bytes) (rest_test low f fields (length bytes) test)

  -- writes behind `low` leave what stands before it
  pub get_or-put_all_before : (low : ℕ) (fields : List Field) (values bytes : List ℕ) → is_layout low fields (length bytes) ≡ true → (i : ℕ) → i < low → get_or (put_all_by put fields values bytes) i 0 ≡ get_or bytes i 0
  get_or-put_all_before low [] values bytes test i h = refl
  get_or-put_all_before low (f ∷ fields) [] bytes test i h = refl
  get_or-put_all_before low (f ∷ fields) (v ∷ values) bytes test i h =
      let start = low_start low f fields (length bytes) test in
      get_or-put_all_before (f.at + f.width) fields values (put f.at f.width v bytes) (next_test low f fields v bytes test) i (omega (arith, start, h))
      ∙ codec.before f.at f.width v bytes (first_fits low f fields bytes test) i (omega (arith, start, h))

  pub length-put_all : (low : ℕ) (fields : List Field) (values bytes : List ℕ) → is_layout low fields (length bytes) ≡ true → length (put_all_by put fields values bytes) ≡ length bytes
  length-put_all low [] values bytes test = refl
  length-put_all low (f ∷ fields) [] bytes test = refl
  length-put_all low (f ∷ fields) (v ∷ values) bytes test =
      length-put_all (f.at + f.width) fields values (put f.at f.width v bytes) (next_test low f fields v bytes test)
      ∙ codec.long f.at f.width v bytes (first_fits low f fields bytes test)

  -- a read gives back what was put
  pub numbers_at-put_all : (low : ℕ) (fields : List Field) (values bytes : List ℕ) → is_layout low fields (length bytes) ≡ true → length values ≡ length fields → Fit fields values → numbers_by number fields (put_all_by put fields values bytes) ≡ values
  numbers_at-put_all low [] [] bytes test same fit = refl
  numbers_at-put_all low [] (v ∷ values) bytes test same fit = absurd (omega arith)
  numbers_at-put_all low (f ∷ fields) [] bytes test same fit = absurd fit
  numbers_at-put_all low (f ∷ fields) (v ∷ values) bytes test same fit =
      let next = next_test low f fields v bytes test in
      let end = put_all_by put fields values (put f.at f.width v bytes) in
      let head : number f.at f.width end ≡ v =
      codec.same f.at f.width end (put f.at f.width v bytes) (λ k from to. get_or-put_all_before (f.at + f.width) fields values (put f.at f.width v bytes) next k to)
      ∙ codec.back f.at f.width v bytes (first_fits low f fields bytes test) fit.0 in
      let tail = numbers_at-put_all (f.at + f.width) fields values (put f.at f.width v bytes) next (omega (arith, same)) fit.1 in
      ap (λ (n : ℕ). n ∷ numbers_by number fields end) head ∙ ap (λ (l : List ℕ). v ∷ l) tail

  -- and nothing else changes
  pub get_or-put_all_outside : (low : ℕ) (fields : List Field) (values bytes : List ℕ) → is_layout low fields (length bytes) ≡ true → (i : ℕ) → IsOutside fields i → get_or (put_all_by put fields values bytes) i 0 ≡ get_or bytes i 0
  get_or-put_all_outside low [] values bytes test i out = refl
  get_or-put_all_outside low (f ∷ fields) [] bytes test i out = refl
  get_or-put_all_outside low (f ∷ fields) (v ∷ values) bytes test i out =
      let fits = first_fits low f fields bytes test in
      get_or-put_all_outside (f.at + f.width) fields values (put f.at f.width v bytes) (next_test low f fields v bytes test) i out.1
      ∙ elim (cases_lt i f.at) [
        | inl before ↦ codec.before f.at f.width v bytes fits i before
        | inr from ↦ elim (cases_lt i (f.at + f.width)) [
          | inl within ↦ absurd (out.0 from within)
          | inr behind ↦ codec.behind f.at f.width v bytes fits i behind
        ]
      ]

  -- a table within the first n bytes reads these alone
  pub numbers_at-take : (low : ℕ) (fields : List Field) (size n : ℕ) (bytes : List ℕ) → is_layout low fields size ≡ true → size ≤ n → numbers_by number fields (take n bytes) ≡ numbers_by number fields bytes
  numbers_at-take low [] size n bytes test within = refl
  numbers_at-take low (f ∷ fields) size n bytes test within =
      let rest = rest_test low f fields size test in
      let fits = ends_within (f.at + f.width) fields size rest in
      ap (λ (v : ℕ). v ∷ numbers_by number fields (take n bytes)) (codec.same f.at f.width (take n bytes) bytes (λ k from to. get_or-take n bytes k 0 (omega (arith, fits, within, to))))
      ∙ ap (λ (l : List ℕ). number f.at f.width bytes ∷ l) (numbers_at-take (f.at + f.width) fields size n bytes rest within)

  -- bytes put apart from a table leave its numbers
  pub numbers_at-paste_at : (at : ℕ) (new bytes : List ℕ) → at + length new ≤ length bytes → (fields : List Field) → is_apart at (length new) fields ≡ true → numbers_by number fields (paste_at at new bytes) ≡ numbers_by number fields bytes
  numbers_at-paste_at at new bytes fits [] test = refl
  numbers_at-paste_at at new bytes fits (f ∷ fields) test =
      let side : (f.at + f.width ≤ at) ⊎ (at + length new ≤ f.at) = apart_side at (length new) f fields test in
      ap (λ (n : ℕ). n ∷ numbers_by number fields (paste_at at new bytes)) (codec.same f.at f.width (paste_at at new bytes) bytes (λ k from to. ⊎_elim (λ before. get_or-paste_at_before at new bytes fits k (omega (arith, before, to))) (λ behind. get_or-paste_at_behind at new bytes fits k (omega (arith, behind, from))) side))
      ∙ ap (λ (l : List ℕ). number f.at f.width bytes ∷ l) (numbers_at-paste_at at new bytes fits fields (apart_rest at (length new) f fields test))

  -- one step of the loop that puts all numbers
  pub left_more : (fields : List Field) (values bytes all : List ℕ) (k : ℕ) (f : Field) (v : ℕ) → k < length fields → k < length values → f ≡ get_or fields k f → v ≡ get_or values k 0
      → Left put (drop k fields) (drop k values) bytes all → (f.width ≤ 8) × (f.at + f.width ≤ length bytes) × Left put (drop (k + 1) fields) (drop (k + 1) values) (put f.at f.width v bytes) all
  left_more fields values bytes all k f v h h' is is' left =
      let fs : drop k fields ≡ f ∷ drop (k + 1) fields = drop_more fields k f h ∙ ap (λ (x : Field). x ∷ drop (k + 1) fields) (sym is) in
      let vs : drop k values ≡ v ∷ drop (k + 1) values = drop_more values k 0 h' ∙ ap (λ (x : ℕ). x ∷ drop (k + 1) values) (sym is') in
      let test : is_layout left.low (f ∷ drop (k + 1) fields) (length bytes) ≡ true = ap (λ (l : List Field). is_layout left.low l (length bytes)) (sym fs) ∙ left.layout in (
        low_width left.low f (drop (k + 1) fields) (length bytes) test,
        first_fits left.low f (drop (k + 1) fields) bytes test,
        record {
          low = f.at + f.width;
          layout = next_test left.low f (drop (k + 1) fields) v bytes test;
          same = sym (ap (λ (l : List Field). put_all_by put l (v ∷ drop (k + 1) values) bytes) fs) ∙ sym (ap (λ (l : List ℕ). put_all_by put (drop k fields) l bytes) vs) ∙ left.same;
        },
      )

  -- its end
  pub left_none : (fields : List Field) (values bytes all : List ℕ) (k : ℕ) → length fields ≤ k → Left put (drop k fields) (drop k values) bytes all → bytes ≡ all
  left_none fields values bytes all k past left = sym (ap (λ (l : List Field). put_all_by put l (drop k values) bytes) (drop_all k fields past)) ∙ left.same
