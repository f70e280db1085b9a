-- What the names left of a path say of the whole path.
use Rattle.std.proofs.Common.{◌≡◌, ◌≢◌, inl, inr, ℕ, ◌+◌, ◌-◌, ◌<◌, ◌≤◌, get_or, Bool, true, false, ◌==◌, List, [], ◌∷◌, ◌++◌, length, take, drop, ◌⊎◌, refl, sym, ◌∙◌, ap, subst, arith, append_assoc}
use Rattle.std.specs.List.{list_all, join_with_byte, position_or_len}
use Rattle.std.proofs.lemmas.Bool.{cases_Bool, eqb-true}
use Rattle.std.proofs.lemmas.Bool.Decides.{nat_tests}
use Rattle.std.proofs.lemmas.List.{append-nil, take_rest, drop-drop}
use Rattle.std.proofs.Math.Seq.{take-append_seam, drop-append-add}
use Rattle.o2_model.specs.declared.geo.Geo.{Geo}
use Rattle.o2_model.specs.Volume.{Volume}
use Rattle.o2_model.specs.declared.entry.Entry.{Entry}
use Rattle.o2_dir.specs.PathTexts.{is_of_name, is_name}
use Rattle.o2_dir.specs.Paths.{AreNames, Begins, StepsTo, Leads, OnTheWay}
use Rattle.o2_dir.proofs.PathNames.{left_of, right_of, is_other}

-- ---- the first slash
pub is_slash : (b : ℕ) → b ≡ 47 → (b == 47) ≡ true
is_slash b is = rw is refl

is_none : (b : ℕ) → (b ≡ 47 → ⊥) → (b == 47) ≡ false
is_none b other = elim (cases_Bool (b == 47)) [
  | inl slash ↦ absurd (other (eqb-true b 47 slash))
  | inr other_byte ↦ other_byte
]

pub none_so_far : (text : List ℕ) (k : ℕ) → ((j : ℕ) → j < k → (get_or text j 0 == 47) ≡ false) → (get_or text k 0 ≡ 47 → ⊥) → (j : ℕ) → j < k + 1 → (get_or text j 0 == 47) ≡ false
none_so_far text k before here j below = elim (cases_Bool (j == k)) [
  | inl same ↦ subst (λ (n : ℕ). (get_or text n 0 == 47) ≡ false) (sym (eqb-true j k same)) (is_none (get_or text k 0) here)
  | inr other ↦ before j (grind (arith, nat_tests, other, below))
]

pub none_to : (text : List ℕ) (k : ℕ) → ((j : ℕ) → j < k → (get_or text j 0 == 47) ≡ false) → length text ≤ k → (j : ℕ) → j < length text → (get_or text j 0 == 47) ≡ false
none_to text k before past j below = before j (grind (arith, nat_tests, below, past))

-- ---- the first of some joined names
length_is : (n rest : List ℕ) → list_all is_of_name n ≡ true → (rest ≡ []) ⊎ ((more : List ℕ) × (rest ≡ 47 ∷ more)) → position_or_len (λ b. b == 47) (n ++ rest) ≡ length n
length_is [] rest plain (inl none) = rw none refl
length_is [] rest plain (inr more) = rw more.1 refl
length_is (b ∷ bs) rest plain end =
    let more = length_is bs rest (right_of (is_of_name b) (list_all is_of_name bs) plain) end in
    rw (is_other b (left_of (is_of_name b) (list_all is_of_name bs) plain)) (omega (arith, more))

-- what follows the first name
abbrev behind_first : List (List ℕ) → List ℕ
behind_first [] = []
behind_first (m ∷ ms) = 47 ∷ join_with_byte 47 (m ∷ ms)

joined : (n : List ℕ) (ns : List (List ℕ)) → join_with_byte 47 (n ∷ ns) ≡ n ++ behind_first ns
joined n [] = sym (append-nil n)
joined n (m ∷ ms) = refl

ends_name : (ns : List (List ℕ)) → (behind_first ns ≡ []) ⊎ ((more : List ℕ) × (behind_first ns ≡ 47 ∷ more))
ends_name [] = inl refl
ends_name (m ∷ ms) = inr (join_with_byte 47 (m ∷ ms), refl)

plain_name : (n : List ℕ) → is_name n ≡ true → list_all is_of_name n ≡ true
plain_name [] is = absurd (let none : ⊥ = cc is in none)
plain_name (b ∷ bs) is = is

some_name : (n rest : List ℕ) → is_name n ≡ true → n ++ rest ≢ []
some_name [] rest is none = cc is
some_name (b ∷ bs) rest is none = cc none

drop_behind : (ns : List (List ℕ)) → drop 1 (behind_first ns) ≡ join_with_byte 47 ns
drop_behind [] = refl
drop_behind (m ∷ ms) = refl

-- The first of the names and the text of the others.
record First (text n : List ℕ) (ns : List (List ℕ)) : Type 0 where
  first : take (position_or_len (λ b. b == 47) text) text ≡ n
  others : AreNames (drop (position_or_len (λ b. b == 47) text + 1) text) ns

first_is : (text n : List ℕ) (ns : List (List ℕ)) → AreNames text (n ∷ ns) → First text n ns
first_is text n ns h =
    let name = left_of (is_name n) (list_all is_name ns) h.are_names in
    let form : text ≡ n ++ behind_first ns = h.form ∙ joined n ns in
    let count : position_or_len (λ b. b == 47) text ≡ length n = ap (position_or_len (λ b. b == 47)) form ∙ length_is n (behind_first ns) (plain_name n name) (ends_name ns) in
    record {
      first = ap (λ k. take k text) count ∙ (ap (take (length n)) form ∙ take-append_seam n (behind_first ns));
      others = record {
        are_names = right_of (is_name n) (list_all is_name ns) h.are_names;
        form = ap (λ k. drop (k + 1) text) count ∙ (ap (drop (length n + 1)) form ∙ (drop-append-add n (behind_first ns) 1 ∙ drop_behind ns));
      };
    }

-- ---- whether text is left
pub empty_is : (text : List ℕ) (empty : Bool) → empty ≡ (length text == 0) → empty ≡ true → text ≡ []
empty_is [] empty test is = refl
empty_is (b ∷ bs) empty test is = absurd (let none = eqb-true (length (b ∷ bs)) 0 (sym test ∙ is) in omega (arith, none))

pub some_are : (text : List ℕ) (empty : Bool) → empty ≡ (length text == 0) → empty ≡ false → text ≢ []
some_are text empty test is none = absurd (let same : true ≡ false = sym (test ∙ ap (λ (t : List ℕ). length t == 0) none) ∙ is in cc same)

-- the rest behind a name and its slash
pub rest_behind : (k : ℕ) (text part rest : List ℕ) → part ≡ take (length text - k) (drop k text) → rest ≡ drop 1 part → rest ≡ drop (k + 1) text
rest_behind k text part rest is behind = behind ∙ (ap (drop 1) (is ∙ take_rest text k) ∙ drop-drop 1 k text)

-- ---- the names left
-- The names before these led to this inode, and the text is that of these.
pub record Remains (v : Volume) (start : ℕ) (names : List (List ℕ)) (now : ℕ) (text : List ℕ) : Type 0 where
  pub gone : List (List ℕ)
  pub left : List (List ℕ)
  pub all : names ≡ gone ++ left
  pub led : Leads v start gone now
  pub are : AreNames text left

pub all_remain : (v : Volume) (start : ℕ) (names : List (List ℕ)) (text : List ℕ) → AreNames text names → Remains v start names start text
all_remain v start names text h = record { gone = []; left = names; all = refl; led = refl; are = h }

-- the names left lead on from where the others led
leads_on : (v : Volume) (start : ℕ) (gone left : List (List ℕ)) (now i : ℕ) → Leads v start gone now → Leads v now left i → Leads v start (gone ++ left) i
leads_on v start [] left now i led on = subst (λ (d : ℕ). Leads v d left i) led on
leads_on v start (name ∷ gone) left now i led on = (led.0, led.1, leads_on v led.0.inode gone left now i led.2 on)

-- what holds on the way of the names left holds on the whole way
holds_on : (Holds : Volume → ℕ → List ℕ → Type 0) (v : Volume) (start : ℕ) (gone left : List (List ℕ)) (now : ℕ) → Leads v start gone now → OnTheWay Holds v now left → OnTheWay Holds v start (gone ++ left)
holds_on Holds v start [] left now led on = subst (λ (d : ℕ). OnTheWay Holds v d left) led on
holds_on Holds v start (name ∷ gone) left now led on = inr (led.0, led.1, holds_on Holds v led.0.inode gone left now led.2 on)

-- the first of the names left, and those behind it
record Next (text : List ℕ) (left : List (List ℕ)) : Type 0 where
  name : List ℕ
  others : List (List ℕ)
  is : left ≡ name ∷ others
  is_first : First text name others

next : (text : List ℕ) (left : List (List ℕ)) → text ≢ [] → AreNames text left → Next text left
next text [] some h = absurd (some h.form)
next text (n ∷ ns) some h = record { name = n; others = ns; is = refl; is_first = first_is text n ns h }

pub one_less : (v : Volume) (start : ℕ) (names : List (List ℕ)) (now : ℕ) (text : List ℕ) (k : ℕ) (e : Entry) → text ≢ [] → k ≡ position_or_len (λ b. b == 47) text
    → StepsTo v now (take k text) e → Remains v start names now text → Remains v start names e.inode (drop (k + 1) text)
one_less v start names now text k e some is step h =
    let n = next text h.left some h.are in
    let steps : StepsTo v now n.name e = subst (λ (name : List ℕ). StepsTo v now name e) (ap (λ c. take c text) is ∙ n.is_first.first) step in
    record {
      gone = h.gone ++ n.name ∷ [];
      left = n.others;
      all = h.all ∙ (ap (λ (ns : List (List ℕ)). h.gone ++ ns) n.is ∙ sym (append_assoc h.gone (n.name ∷ []) n.others));
      led = leads_on v start h.gone (n.name ∷ []) now e.inode h.led (e, steps, refl);
      are = subst (λ (c : ℕ). AreNames (drop (c + 1) text) n.others) (sym is) n.is_first.others;
    }

-- what holds of the first of the names left holds on the way
pub holds_here : (Holds : Volume → ℕ → List ℕ → Type 0) (v : Volume) (start : ℕ) (names : List (List ℕ)) (now : ℕ) (text : List ℕ) (k : ℕ) → text ≢ [] → k ≡ position_or_len (λ b. b == 47) text
    → Holds v now (take k text) → Remains v start names now text → OnTheWay Holds v start names
holds_here Holds v start names now text k some is here h =
    let n = next text h.left some h.are in
    let first : Holds v now n.name = subst (λ (name : List ℕ). Holds v now name) (ap (λ c. take c text) is ∙ n.is_first.first) here in
    let on : OnTheWay Holds v now h.left = subst (λ (ns : List (List ℕ)). OnTheWay Holds v now ns) (sym n.is) (inl first) in
    subst (λ (ns : List (List ℕ)). OnTheWay Holds v start ns) (sym h.all) (holds_on Holds v start h.gone h.left now h.led on)

no_names : (names : List (List ℕ)) → AreNames [] names → names ≡ []
no_names [] h = refl
no_names (n ∷ ns) h = absurd (some_name n (behind_first ns) (left_of (is_name n) (list_all is_name ns) h.are_names) (sym (h.form ∙ joined n ns)))

pub none_left : (v : Volume) (start : ℕ) (names : List (List ℕ)) (now : ℕ) (text : List ℕ) → text ≡ [] → Remains v start names now text → Leads v start names now
none_left v start names now text end h =
    let none = no_names h.left (subst (λ (t : List ℕ). AreNames t h.left) end h.are) in
    let on : Leads v now h.left now = subst (λ (ns : List (List ℕ)). Leads v now ns now) (sym none) refl in
    subst (λ (ns : List (List ℕ)). Leads v start ns now) (sym h.all) (leads_on v start h.gone h.left now now h.led on)

-- ---- where a path begins
no_slash_first : (names : List (List ℕ)) (rest : List ℕ) → list_all is_name names ≡ true → join_with_byte 47 names ≢ 47 ∷ rest
no_slash_first [] rest are form = cc form
no_slash_first ([] ∷ ns) rest are form = cc are
no_slash_first ((b ∷ bs) ∷ ns) rest are form =
    let plain = left_of (is_of_name b) (list_all is_of_name bs) (left_of (is_name (b ∷ bs)) (list_all is_name ns) are) in
    let begins : b ∷ (bs ++ behind_first ns) ≡ 47 ∷ rest = sym (joined (b ∷ bs) ns) ∙ form in
    let slash : b ≡ 47 = cc begins in
    let same : true ≡ false = sym (is_slash b slash) ∙ is_other b plain in
    cc same

-- the names of a path in the system directory
pub of_system : (geo : Geo) (text rest : List ℕ) (start : ℕ) (names : List (List ℕ)) → text ≡ 47 ∷ 47 ∷ drop 2 text → rest ≡ drop 2 text → Begins geo text start names
    → (start ≡ geo.sysdir) × AreNames rest names
of_system geo text rest start names two is (inl (at_root, h)) =
    let begins : 47 ∷ join_with_byte 47 names ≡ 47 ∷ 47 ∷ drop 2 text = sym h.form ∙ two in
    let second : join_with_byte 47 names ≡ 47 ∷ drop 2 text = cc begins in
    absurd (no_slash_first names (drop 2 text) h.are_names second)
of_system geo text rest start names two is (inr (at_system, h)) = (at_system, record { are_names = h.are_names; form = is ∙ ap (drop 2) h.form })

-- the names of a path from the root
pub of_root : (geo : Geo) (text rest : List ℕ) (start : ℕ) (names : List (List ℕ)) → ((more : List ℕ) → text ≢ 47 ∷ 47 ∷ more) → rest ≡ drop 1 text → Begins geo text start names
    → (start ≡ geo.root) × AreNames rest names
of_root geo text rest start names one is (inl (at_root, h)) = (at_root, record { are_names = h.are_names; form = is ∙ ap (drop 1) h.form })
of_root geo text rest start names one is (inr (at_system, h)) = absurd (one (join_with_byte 47 names) h.form)
