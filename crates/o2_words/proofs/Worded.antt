-- Lines of forms whose parts all have to stand.
use Rattle.std.proofs.Common.{◌≡◌, ℕ, zero, suc, ◌+◌, ◌<◌, List, [], ◌∷◌, take, drop, refl, sym, ◌∙◌, ap, subst, arith, All, HoldsAt}
use Rattle.std.proofs.lemmas.List.Elements.{All-nil}
use Rattle.o2_words.specs.Names.{text_of}
use Rattle.o2_words.specs.Kinds.{Fits, IsDevice}
use Rattle.o2_words.specs.Parts.{MayBeLeft}
use Rattle.o2_words.specs.Forms.{Words, Form, left_behind, IsReader, Leads, Matches}
use Rattle.o2_words.specs.declared.form.Part.TheVariants.{One}
use Rattle.o2_words.specs.declared.kind.Kind.{Kind}
use Rattle.o2_words.specs.declared.kind.Kind.TheVariants.{Fixed, Device}
use Rattle.o2_words.specs.declared.name.Name.{Name}
use Rattle.o2_words.proofs.Readings.{some_part, first_reads}

-- ---- a part that has to stand
-- a line of a form that begins with it: its word, and a line of what is behind
pub record Parted (kind : Kind) (form : Form) (words : Words) : Type 0 where
  pub word : List ℕ
  pub more : Words
  pub is : words ≡ word ∷ more
  pub fits : Fits kind word
  pub behind : Matches form more

-- it reads the word itself
pub reads_itself : (kind : Kind) (form next : Form) (word : List ℕ) (place : ℕ) → IsReader (One kind ∷ form) word place
    → HoldsAt (λ part. next ≡ left_behind part (take place (One kind ∷ form)) (drop (place + 1) (One kind ∷ form))) (One kind ∷ form) place → Fits kind word × (next ≡ form)
reads_itself kind form next word zero reader leaves = (reader.reads some_part, leaves some_part)
reads_itself kind form next word (suc place) reader leaves = absurd ((reader.passed 0 some_part (omega arith) (omega arith)).may)

pub parted : (kind : Kind) (form : Form) (words : Words) → Matches (One kind ∷ form) words → Parted kind form words
parted kind form [] (rest, same, may) = absurd (let all : All MayBeLeft (One kind ∷ form) = subst (All MayBeLeft) same may in all 0 some_part (omega arith))
parted kind form (word ∷ more) (rest, (next, follows, leads), may) =
    let read = reads_itself kind form next word follows.place follows.reader follows.leaves in
    record { word = word; more = more; is = refl; fits = read.0; behind = (rest, subst (λ (f : Form). Leads f more rest) read.1 leads, may) }

pub joined : (kind : Kind) (form : Form) (word : List ℕ) (more : Words) → Fits kind word → Matches form more → Matches (One kind ∷ form) (word ∷ more)
joined kind form word more fits (rest, leads, may) = (rest, (form, first_reads (One kind) form word fits, leads), may)

-- the empty form
pub ended : (words : Words) → Matches [] words → words ≡ []
ended [] line = refl
ended (word ∷ more) (rest, (next, follows, leads), may) = absurd (omega (arith, follows.reader.within))

pub empty_line : Matches [] []
empty_line = ([], refl, All-nil MayBeLeft)

-- ---- four parts that have to stand: a tool, an option, what it is given, and a device
abbrev pub form_of : Name → Name → Kind → Form
form_of tool option given = One (Fixed tool) ∷ One (Fixed option) ∷ One given ∷ One Device ∷ []

-- a line of such a form
pub record Worded (tool option : Name) (given : Kind) (words : Words) : Type 0 where
  pub word : List ℕ
  pub device : List ℕ
  pub is : words ≡ text_of tool ∷ text_of option ∷ word ∷ device ∷ []
  pub fits : Fits given word
  pub names : IsDevice device

pub worded : (tool option : Name) (given : Kind) (words : Words) → Matches (form_of tool option given) words → Worded tool option given words
worded tool option given words line =
    let first = parted (Fixed tool) (One (Fixed option) ∷ One given ∷ One Device ∷ []) words line in
    let second = parted (Fixed option) (One given ∷ One Device ∷ []) first.more first.behind in
    let third = parted given (One Device ∷ []) second.more second.behind in
    let last = parted Device [] third.more third.behind in
    record {
      word = third.word;
      device = last.word;
      is = first.is ∙ ap (λ (w : List ℕ). w ∷ first.more) first.fits ∙ ap (λ (ws : Words). text_of tool ∷ ws)
          (second.is ∙ ap (λ (w : List ℕ). w ∷ second.more) second.fits ∙ ap (λ (ws : Words). text_of option ∷ ws)
          (third.is ∙ ap (λ (ws : Words). third.word ∷ ws) (last.is ∙ ap (λ (ws : Words). last.word ∷ ws) (ended last.more last.behind))));
      fits = third.fits;
      names = last.fits;
    }

pub line_worded : (tool option : Name) (given : Kind) (words : Words) → Worded tool option given words → Matches (form_of tool option given) words
line_worded tool option given words line =
    subst (Matches (form_of tool option given)) (sym line.is)
    (joined (Fixed tool) (One (Fixed option) ∷ One given ∷ One Device ∷ []) (text_of tool) (text_of option ∷ line.word ∷ line.device ∷ []) refl
    (joined (Fixed option) (One given ∷ One Device ∷ []) (text_of option) (line.word ∷ line.device ∷ []) refl
    (joined given (One Device ∷ []) line.word (line.device ∷ []) line.fits
    (joined Device [] line.device [] line.names empty_line))))

-- ---- three: a tool, what it is given, and a device
abbrev pub short_form_of : Name → Kind → Form
short_form_of tool given = One (Fixed tool) ∷ One given ∷ One Device ∷ []

-- a line of such a form
pub record ShortWorded (tool : Name) (given : Kind) (words : Words) : Type 0 where
  pub word : List ℕ
  pub device : List ℕ
  pub is : words ≡ text_of tool ∷ word ∷ device ∷ []
  pub fits : Fits given word
  pub names : IsDevice device

pub short_worded : (tool : Name) (given : Kind) (words : Words) → Matches (short_form_of tool given) words → ShortWorded tool given words
short_worded tool given words line =
    let first = parted (Fixed tool) (One given ∷ One Device ∷ []) words line in
    let second = parted given (One Device ∷ []) first.more first.behind in
    let last = parted Device [] second.more second.behind in
    record {
      word = second.word;
      device = last.word;
      is = first.is ∙ ap (λ (w : List ℕ). w ∷ first.more) first.fits ∙ ap (λ (ws : Words). text_of tool ∷ ws)
          (second.is ∙ ap (λ (ws : Words). second.word ∷ ws) (last.is ∙ ap (λ (ws : Words). last.word ∷ ws) (ended last.more last.behind)));
      fits = second.fits;
      names = last.fits;
    }

pub line_short_worded : (tool : Name) (given : Kind) (words : Words) → ShortWorded tool given words → Matches (short_form_of tool given) words
line_short_worded tool given words line =
    subst (Matches (short_form_of tool given)) (sym line.is)
    (joined (Fixed tool) (One given ∷ One Device ∷ []) (text_of tool) (line.word ∷ line.device ∷ []) refl
    (joined given (One Device ∷ []) line.word (line.device ∷ []) line.fits
    (joined Device [] line.device [] line.names empty_line)))
