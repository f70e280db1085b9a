-- What ends a run, by the words.
use Rattle.std.proofs.Common.{◌≡◌, ◌⊎◌, inl, inr, List, [], ◌∷◌, ℕ, ◌<◌, ◌≤◌, length, get_or, String, string_bytes, sym, ◌∙◌, ap, subst, arith}
use Rattle.std.specs.Prelude.{slice_index_or}
use Rattle.std.specs.declared.alloc.Global.{Global}
use Rattle.std.proofs.lemmas.List.{length-map}
use Rattle.o2_disk.specs.Device.{DiskState, Rose}
use Rattle.o2_disk.specs.Output.{SinkState}
use Rattle.o2_cause.specs.Causes.{cause_line, EndsBy}
use Rattle.o2_cause.specs.Taken.{Takes, TakesSome}
use Rattle.o2_cause.specs.declared.cause.Cause.{Cause}
use Rattle.o2_cause.specs.declared.cause.Cause.TheVariants as cause
use Rattle.o2_words.specs.CommandLine.{Words, texts, IsLaterLine, IsMendLine, RefusesWords, label_of, device_of, checked_device_of}
use Rattle.o2_words.specs.Commands.{ReadsLabel, ReadsCheck}
use Rattle.o2_words.specs.declared.command.WordFault.{WordFault}
use Rattle.o2_words.specs.declared.command.WordFault.TheVariants as fault
use Rattle.o2_words.proofs.Places.{text_at}
use Rattle.o2_words.proofs.Refused.{refused_debugfs, refused_mend}
use Rattle.o2_debug.specs.declared.query.Query.{Query}
use Rattle.o2_tunefs.specs.LabelRun.{LabelRun}
use Rattle.o2_debugfs.specs.QueryRun.{QueryRun}
use Rattle.o2_fsck.specs.CheckRun.{CheckRun}
use Rattle.o2_tools.specs.Refused.{cause_of, RefusesBy}

-- the label that was read is the one that the words give
pub label_read : (label : List ℕ) (place : ℕ) (words : Words) → ReadsLabel label place words → label ≡ label_of words
label_read label place words reads = sym (ap (λ (line : Words). slice_index_or line 2 []) reads.line.form)

-- ---- refused words, and the end by the cause of their fault
module _ (words : Words) (why : WordFault) (refuses : RefusesWords words why) (result : Cause) (ends : EndsBy (cause_of why) result) where
  pub refused_by : RefusesBy words result
  refused_by = elim ends [
    | inl same ↦ (why, same, refuses)
    | inr none ↦ (fault.NoMemory, none.0, tt)
  ]

  -- for want of memory
  pub by_memory : why ≡ fault.NoMemory → result ≡ cause.NoMemory
  by_memory gone = elim ends [
    | inl same ↦ same ∙ ap cause_of gone
    | inr none ↦ none.0
  ]

  -- a line of debugfs, or of fsck, that waits for a later version
  late_or_gone : (why ≡ fault.Later) ⊎ (why ≡ fault.NoMemory) → (result ≡ cause.Later) ⊎ (result ≡ cause.NoMemory)
  late_or_gone waits = elim ends [
    | inl same ↦ elim waits [
      | inl late ↦ inl (same ∙ ap cause_of late)
      | inr gone ↦ inr (same ∙ ap cause_of gone)
    ]
    | inr none ↦ inr none.0
  ]

  pub by_later : IsLaterLine words ⊎ IsMendLine words → (result ≡ cause.Later) ⊎ (result ≡ cause.NoMemory)
  by_later (inl line) = late_or_gone (refused_debugfs words why (line.word, (line.device, line.line)) refuses)
  by_later (inr line) = late_or_gone (refused_mend words why line refuses)

-- the name of the device is the word at its place
pub name_read : (words : List (String Global)) (place : ℕ) (word : String Global) (text : List ℕ) → place ≡ 3 → 4 ≤ length (texts words) → word ≡ get_or words place word → text ≡ string_bytes word → text ≡ device_of (texts words)
name_read words place word text third long is told =
    let within : place < length words = omega (arith, third, long, length-map words string_bytes) in
    sym (text_at words place word text within is told) ∙ ap (λ (k : ℕ). get_or (texts words) k []) third

-- the same in a line of fsck
pub last_name_read : (words : List (String Global)) (place : ℕ) (word : String Global) (text : List ℕ) → ReadsCheck place (texts words) → word ≡ get_or words place word → text ≡ string_bytes word → text ≡ checked_device_of (texts words)
last_name_read words place word text reads is told =
    let within : place < length words = subst (λ (n : ℕ). place < n) (length-map words string_bytes) reads.within in
    sym (text_at words place word text within is told) ∙ ap (λ (k : ℕ). get_or (texts words) k []) reads.place

-- a line of four words
pub four_words : (words : Words) (one two three four : List ℕ) → words ≡ one ∷ two ∷ three ∷ four ∷ [] → 4 ≤ length words
four_words words one two three four is = let long : length words ≡ 4 = ap length is in omega (arith, long)

-- ---- the same run, told of the words
pub label_as : {label label' name name' : List ℕ} {old new new' : DiskState} {before after after' : SinkState} {cause cause' : Cause}
    → label ≡ label' → name ≡ name' → new' ≡ new → after' ≡ after → cause' ≡ cause → LabelRun label name old new before after cause → LabelRun label' name' old new' before after' cause'
label_as {label} {label'} {name} {name'} {old} {new} {new'} {before} {after} {after'} {cause} {cause'} l n d s k run =
    subst (λ (x : Cause). LabelRun label' name' old new' before after' x) (sym k)
    (subst (λ (x : SinkState). LabelRun label' name' old new' before x cause) (sym s)
    (subst (λ (x : DiskState). LabelRun label' name' old x before after cause) (sym d)
    (subst (λ (x : List ℕ). LabelRun label' x old new before after cause) n
    (subst (λ (x : List ℕ). LabelRun x name old new before after cause) l run))))

pub query_as : {query query' : Query} {name name' : List ℕ} {old new new' : DiskState} {before after after' : SinkState} {cause cause' : Cause}
    → query ≡ query' → name ≡ name' → new' ≡ new → after' ≡ after → cause' ≡ cause → QueryRun query name old new before after cause → QueryRun query' name' old new' before after' cause'
query_as {query} {query'} {name} {name'} {old} {new} {new'} {before} {after} {after'} {cause} {cause'} q n d s k run =
    subst (λ (x : Cause). QueryRun query' name' old new' before after' x) (sym k)
    (subst (λ (x : SinkState). QueryRun query' name' old new' before x cause) (sym s)
    (subst (λ (x : DiskState). QueryRun query' name' old x before after cause) (sym d)
    (subst (λ (x : List ℕ). QueryRun query' x old new before after cause) n
    (subst (λ (x : Query). QueryRun x name old new before after cause) q run))))

pub check_as : {name name' : List ℕ} {old new new' : DiskState} {before after after' : SinkState} {cause cause' : Cause}
    → name ≡ name' → new' ≡ new → after' ≡ after → cause' ≡ cause → CheckRun name old new before after cause → CheckRun name' old new' before after' cause'
check_as {name} {name'} {old} {new} {new'} {before} {after} {after'} {cause} {cause'} n d s k run =
    subst (λ (x : Cause). CheckRun name' old new' before after' x) (sym k)
    (subst (λ (x : SinkState). CheckRun name' old new' before x cause) (sym s)
    (subst (λ (x : DiskState). CheckRun name' old x before after cause) (sym d)
    (subst (λ (x : List ℕ). CheckRun x old new before after cause) n run)))

pub line_as : {tool tool' : List ℕ} {before after after' : SinkState} {cause cause' : Cause} → tool ≡ tool' → after' ≡ after → cause' ≡ cause → TakesSome before after (cause_line tool cause) → TakesSome before after' (cause_line tool' cause')
line_as {tool} {tool'} {before} {after} {after'} {cause} {cause'} t s k some =
    subst (λ (x : Cause). TakesSome before after' (cause_line tool' x)) (sym k)
    (subst (λ (x : SinkState). TakesSome before x (cause_line tool' cause)) (sym s)
    (subst (λ (x : List ℕ). TakesSome before after (cause_line x cause)) t some))

pub all_as : {tool tool' : List ℕ} {before after after' : SinkState} {cause cause' : Cause} → tool ≡ tool' → after' ≡ after → cause' ≡ cause
    → ((Rose before.faults after.faults → ⊥) → Takes before after (cause_line tool cause)) → (Rose before.faults after'.faults → ⊥) → Takes before after' (cause_line tool' cause')
all_as {tool} {tool'} {before} {after} {after'} {cause} {cause'} t s k all =
    subst (λ (x : SinkState). (Rose before.faults x.faults → ⊥) → Takes before x (cause_line tool' cause')) (sym s)
    (subst (λ (x : Cause). (Rose before.faults after.faults → ⊥) → Takes before after (cause_line tool' x)) (sym k)
    (subst (λ (x : List ℕ). (Rose before.faults after.faults → ⊥) → Takes before after (cause_line x cause)) t all))
