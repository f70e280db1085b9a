-- Options come in any order.
use Rattle.std.proofs.Common.{◌≡◌, ◌≢◌, ◌⊎◌, inl, inr, ℕ, zero, suc, ◌+◌, ◌<◌, List, [], ◌∷◌, ◌++◌, take, drop, get_or, refl, sym, ◌∙◌, ap, subst, arith, HoldsAt}
use Rattle.o2_words.specs.Names.{text_of}
use Rattle.o2_words.specs.Kinds.{Fits}
use Rattle.o2_words.specs.Parts.{Reads}
use Rattle.o2_words.specs.Forms.{Words, Form, left_behind, IsPassed, IsReader, IsOption, Follows, Leads, Matches}
use Rattle.o2_words.specs.declared.form.Part.{Part}
use Rattle.o2_words.specs.declared.form.Part.TheVariants.{One, Optional}
use Rattle.o2_words.specs.declared.kind.Kind.{Kind}
use Rattle.o2_words.specs.declared.name.Name.{Name}
use Rattle.o2_words.proofs.Readings.{some_part, first_reads, one_rest, leads_on, leads_back}
use Rattle.o2_words.proofs.Worded.{reads_itself}

-- ---- an option that is taken out of a form
-- it is the first part
pub record IsFirstOption (part : Part) (word : List ℕ) (value : Kind) : Type 0 where
  pub name : Name
  pub is : part ≡ Optional name value
  pub named : word ≡ text_of name

-- the word is the option's name, its value is of this kind, and these parts are left
abbrev pub Takes : Form → List ℕ → Kind → Form → Type 0
Takes [] word value rest = ⊥
Takes (part ∷ form) word value rest =
    (IsFirstOption part word value × (rest ≡ form))
    ⊎ (IsPassed word part × (more : Form) × Takes form word value more × (rest ≡ part ∷ more))

-- the same by its place
record Stands (form : Form) (word : List ℕ) (value : Kind) (rest : Form) : Type 0 where
  place : ℕ
  name : Name
  reader : IsReader form word place
  is : HoldsAt (λ part. part ≡ Optional name value) form place
  left : rest ≡ take place form ++ drop (place + 1) form

-- a part before all the others
one_behind : (part : Part) (form : Form) (place : ℕ) → take (suc place) (part ∷ form) ++ drop (suc place + 1) (part ∷ form) ≡ part ∷ (take place form ++ drop (place + 1) form)
one_behind part form place = let n : suc place + 1 ≡ suc (place + 1) = omega arith in ap (λ (k : ℕ). part ∷ (take place form ++ drop k (part ∷ form))) n

reader_behind : (part : Part) (form : Form) (word : List ℕ) (place : ℕ) → IsReader (part ∷ form) word (suc place) → IsReader form word place
reader_behind part form word place reader = record {
  within = omega (arith, reader.within);
  reads = λ d. reader.reads d;
  passed = λ k d low high. reader.passed (suc k) d (omega arith) (omega (arith, high));
}

takes_of : (form : Form) (word : List ℕ) (place : ℕ) (name : Name) (value : Kind) → IsReader form word place → HoldsAt (λ part. part ≡ Optional name value) form place
    → Takes form word value (take place form ++ drop (place + 1) form)
takes_of [] word place name value reader is = absurd (omega (arith, reader.within))
takes_of (part ∷ form) word zero name value reader is =
    inl (record { name = name; is = is some_part; named = subst (λ (p : Part). Reads p word) (is some_part) (reader.reads some_part) }, refl)
takes_of (part ∷ form) word (suc place) name value reader is =
    inr (reader.passed 0 some_part (omega arith) (omega arith), take place form ++ drop (place + 1) form, takes_of form word place name value (reader_behind part form word place reader) (λ d. is d), one_behind part form place)

passed_more : (part : Part) (form : Form) (word : List ℕ) (place : ℕ) → IsPassed word part → IsReader form word place → (k : ℕ) (d : Part) → k < suc place → IsPassed word (get_or (part ∷ form) k d)
passed_more part form word place first reader zero d high = first
passed_more part form word place first reader (suc k) d high = reader.passed k d (omega arith) (omega (arith, high))

stands_of : (form : Form) (word : List ℕ) (value : Kind) (rest : Form) → Takes form word value rest → Stands form word value rest
stands_of [] word value rest takes = absurd takes
stands_of (part ∷ form) word value rest (inl (first, same)) = record {
  place = 0;
  name = first.name;
  reader = record {
    within = omega arith;
    reads = λ d. subst (λ (p : Part). Reads p word) (sym first.is) first.named;
    passed = λ k d low high. absurd (omega (arith, high));
  };
  is = λ d. first.is;
  left = same;
}
stands_of (part ∷ form) word value rest (inr (passed, more, takes, same)) =
    let s = stands_of form word value more takes in
    record {
      place = suc s.place;
      name = s.name;
      reader = record {
        within = omega (arith, s.reader.within);
        reads = λ d. s.reader.reads d;
        passed = λ k d low high. passed_more part form word s.place passed s.reader k d high;
      };
      is = λ d. s.is d;
      left = same ∙ ap (λ (f : Form). part ∷ f) s.left ∙ sym (one_behind part form s.place);
    }

follows_of : (form : Form) (word : List ℕ) (value : Kind) (rest : Form) → Takes form word value rest → Follows form word (One value ∷ rest)
follows_of form word value rest takes =
    let s = stands_of form word value rest takes in
    record {
      place = s.place;
      reader = s.reader;
      leaves = λ d. ap (λ (f : Form). One value ∷ f) s.left ∙ sym (ap (λ (p : Part). left_behind p (take s.place form) (drop (s.place + 1) form)) (s.is d));
    }

-- ---- two options
one_name : (part : Part) (a b : List ℕ) (k l : Kind) → IsFirstOption part a k → IsFirstOption part b l → a ≡ b
one_name part a b k l first other =
    let same : Optional first.name k ≡ Optional other.name l = sym first.is ∙ other.is in
    let names : first.name ≡ other.name = cc same in
    first.named ∙ ap text_of names ∙ sym other.named

-- each may be taken behind the other, and the same is left
both_taken : (form : Form) (a b : List ℕ) (k l : Kind) (ra rb : Form) → a ≢ b → Takes form a k ra → Takes form b l rb → (both : Form) × Takes ra b l both × Takes rb a k both
both_taken [] a b k l ra rb unlike first other = absurd first
both_taken (part ∷ form) a b k l ra rb unlike (inl (first, same)) (inl (other, same')) = absurd (unlike (one_name part a b k l first other))
both_taken (part ∷ form) a b k l ra rb unlike (inl (first, same)) (inr (passed, more, other, same')) =
    (more, subst (λ (f : Form). Takes f b l more) (sym same) other, subst (λ (f : Form). Takes f a k more) (sym same') (inl (first, refl)))
both_taken (part ∷ form) a b k l ra rb unlike (inr (passed, more, first, same)) (inl (other, same')) =
    (more, subst (λ (f : Form). Takes f b l more) (sym same) (inl (other, refl)), subst (λ (f : Form). Takes f a k more) (sym same') first)
both_taken (part ∷ form) a b k l ra rb unlike (inr (passed, more, first, same)) (inr (passed', more', other, same')) =
    let both = both_taken form a b k l more more' unlike first other in
    (part ∷ both.0, subst (λ (f : Form). Takes f b l (part ∷ both.0)) (sym same) (inr (passed', both.0, both.1, refl)), subst (λ (f : Form). Takes f a k (part ∷ both.0)) (sym same') (inr (passed, both.0, both.2, refl)))

-- an option and its value, at the beginning of words
given : (form : Form) (word value : List ℕ) (kind : Kind) (rest : Form) (more : Words) → Takes form word kind rest → Matches form (word ∷ value ∷ more) → Fits kind value × Matches rest more
given form word value kind rest more takes (end, (next, follows, (behind, follows', leads)), may) =
    let same : next ≡ One kind ∷ rest = one_rest form word next (One kind ∷ rest) follows (follows_of form word kind rest takes) in
    let itself : Follows (One kind ∷ rest) value behind = subst (λ (f : Form). Follows f value behind) same follows' in
    let read = reads_itself kind rest behind value itself.place itself.reader itself.leaves in
    (read.0, (end, subst (λ (f : Form). Leads f more end) read.1 leads, may))

give : (form : Form) (word value : List ℕ) (kind : Kind) (rest : Form) (more : Words) → Takes form word kind rest → Fits kind value → Matches rest more → Matches form (word ∷ value ∷ more)
give form word value kind rest more takes fits (end, leads, may) =
    (end, (One kind ∷ rest, follows_of form word kind rest takes, (rest, first_reads (One kind) rest value fits, leads)), may)

exchanged : (form : Form) (a b x y : List ℕ) (more : Words) → IsOption form a → IsOption form b → a ≢ b → Matches form (a ∷ x ∷ b ∷ y ∷ more) → Matches form (b ∷ y ∷ a ∷ x ∷ more)
exchanged form a b x y more first other unlike line =
    let ra = take first.place form ++ drop (first.place + 1) form in
    let rb = take other.place form ++ drop (other.place + 1) form in
    let takes : Takes form a first.value ra = takes_of form a first.place first.name first.value first.reader first.is in
    let takes' : Takes form b other.value rb = takes_of form b other.place other.name other.value other.reader other.is in
    let both = both_taken form a b first.value other.value ra rb unlike takes takes' in
    let one = given form a x first.value ra (b ∷ y ∷ more) takes line in
    let two = given ra b y other.value both.0 more both.1 one.1 in
    give form b y other.value rb (a ∷ x ∷ more) takes' two.0 (give rb a x first.value both.0 more both.2 one.0 two.1)

-- behind words that were read
pub any_order : (form left : Form) (before more : Words) (a b x y : List ℕ) → Leads form before left → IsOption left a → IsOption left b → a ≢ b → Matches form (before ++ a ∷ x ∷ b ∷ y ∷ more) → Matches form (before ++ b ∷ y ∷ a ∷ x ∷ more)
any_order form left before more a b x y leads first other unlike (end, all, may) =
    let line = exchanged left a b x y more first other unlike (end, leads_back form left end before (a ∷ x ∷ b ∷ y ∷ more) leads all, may) in
    (line.0, leads_on form left line.0 before (b ∷ y ∷ a ∷ x ∷ more) leads line.1, line.2)
