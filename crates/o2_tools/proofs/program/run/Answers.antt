-- By what was read of the words.
use Rattle.std.proofs.Common.{◌≡◌, ◌⊎◌, inl, inr, ℕ, refl, sym, ◌∙◌, ap, subst}
use Rattle.o2_disk.specs.Device.{DiskState, ReadsOnly}
use Rattle.o2_disk.proofs.Moments.{reads_none, leaves_itself}
use Rattle.o2_cause.specs.Causes.{cause_line, EndsBy, IsRefusal}
use Rattle.o2_cause.specs.Taken.{Takes, TakesSome}
use Rattle.o2_cause.specs.declared.cause.Cause.{Cause}
use Rattle.o2_cause.specs.declared.cause.Cause.TheVariants as cause
use Rattle.o2_words.specs.CommandLine.{texts, label_of, device_of, word_of, checked_device_of}
use Rattle.o2_words.specs.Commands.{Says, ReadsLabel, ReadsQuery, ReadsCheck}
use Rattle.o2_words.specs.QueryWords.{IsForLater}
use Rattle.o2_words.specs.declared.command.Command.{Command}
use Rattle.o2_words.specs.declared.letters.Answer.TheVariants.{No, Yes}
use Rattle.o2_words.proofs.Lines.{is_line}
use Rattle.o2_words.proofs.Refused.{refused_tunefs, refused_query, refused_check, not_both, not_later, not_tunefs_and_fsck, not_debugfs_and_fsck, one_of_both}
use Rattle.o2_words.proofs.OneQuery.{asks_one}
use Rattle.o2_tunefs.proofs.Runs.{not_begun}
use Rattle.o2_debugfs.proofs.Runs.{not_begun as not_asked}
use Rattle.o2_fsck.proofs.Runs.{not_begun as not_checked}
use Rattle.o2_tools.specs.Refused.{RefusesBy}
use Rattle.o2_tools.proofs.Ends.{label_read, name_read, last_name_read, four_words, refused_by, by_memory, by_later, label_as, query_as, check_as, line_as, all_as}
use Rattle.o2_tools.proofs.program.run.Goals as goal
use Rattle.o2_tools.proofs.program.run.Goals.{in-Err, in-Ok-Label, in-Ok-Debug, in-Ok-Check}

pub returns-clause-words : goal.returns-clause-words
returns-clause-words g c other = elim c.match-read_words.branch [
  | in-Err w ↦
      let words = texts c.args.words.now in
      let ends = subst (λ (k : Cause). EndsBy k w.put_line-cause.result) w.cause_of_fault.ensures w.put_line-cause.ensures.ends in
      subst (RefusesBy words) (sym (c.by.ensures.cause ∙ w.cause-is)) (refused_by words w.in-Err.fault w.in-Err.ensures w.put_line-cause.result ends)
  | in-Ok-Label w ↦
      let words = texts c.args.words.now in
      let says : ReadsLabel w.in-Ok-Label.label w.in-Ok-Label.place words = subst (λ (k : Command). Says k words) w.in-Ok-Label.field-0-is w.in-Ok-Label.ensures in
      absurd (other (is_line words (inl (_, (_, says.line)))))
  | in-Ok-Debug w ↦
      let words = texts c.args.words.now in
      let says : ReadsQuery w.in-Ok-Debug.query w.in-Ok-Debug.place words = subst (λ (k : Command). Says k words) w.in-Ok-Debug.field-0-is w.in-Ok-Debug.ensures in
      absurd (other (is_line words (inr (inl (_, (_, says.line))))))
  | in-Ok-Check w ↦
      let words = texts c.args.words.now in
      let says : ReadsCheck w.in-Ok-Check.place words = subst (λ (k : Command). Says k words) w.in-Ok-Check.field-0-is w.in-Ok-Check.ensures in
      absurd (other (is_line words (inr (inr (No, (says.letters, (_, says.line)))))))
]

pub returns-clause-later : goal.returns-clause-later
returns-clause-later g c later = elim c.match-read_words.branch [
  | in-Err w ↦
      let words = texts c.args.words.now in
      let ends = subst (λ (k : Cause). EndsBy k w.put_line-cause.result) w.cause_of_fault.ensures w.put_line-cause.ensures.ends in
      subst (λ (k : Cause). (k ≡ cause.Later) ⊎ (k ≡ cause.NoMemory)) (sym (c.by.ensures.cause ∙ w.cause-is)) (by_later words w.in-Err.fault w.in-Err.ensures w.put_line-cause.result ends later)
  | in-Ok-Label w ↦
      let words = texts c.args.words.now in
      let says : ReadsLabel w.in-Ok-Label.label w.in-Ok-Label.place words = subst (λ (k : Command). Says k words) w.in-Ok-Label.field-0-is w.in-Ok-Label.ensures in
      absurd (elim later [
        | inl waits ↦ not_both words (_, (_, says.line)) (waits.word, (waits.device, waits.line))
        | inr mends ↦ not_tunefs_and_fsck words (_, (_, says.line)) (Yes, mends)
      ])
  | in-Ok-Debug w ↦
      let words = texts c.args.words.now in
      let says : ReadsQuery w.in-Ok-Debug.query w.in-Ok-Debug.place words = subst (λ (k : Command). Says k words) w.in-Ok-Debug.field-0-is w.in-Ok-Debug.ensures in
      absurd (elim later [
        | inl waits ↦ (let same : word_of words ≡ waits.word = (let e = says.line.form in let f = waits.line.form in cc (e, f)) in not_later w.in-Ok-Debug.query (word_of words) says.asks (subst IsForLater (sym same) waits.later))
        | inr mends ↦ not_debugfs_and_fsck words (_, (_, says.line)) (Yes, mends)
      ])
  | in-Ok-Check w ↦
      let words = texts c.args.words.now in
      let says : ReadsCheck w.in-Ok-Check.place words = subst (λ (k : Command). Says k words) w.in-Ok-Check.field-0-is w.in-Ok-Check.ensures in
      absurd (elim later [
        | inl waits ↦ not_debugfs_and_fsck words (waits.word, (waits.device, waits.line)) (No, (says.letters, (_, says.line)))
        | inr mends ↦ one_of_both words (says.letters, (_, says.line)) mends
      ])
]

-- ---- the tools
pub returns-clause-label : goal.returns-clause-label
returns-clause-label g c line = elim c.match-read_words.branch [
  | in-Err w ↦
      let words = texts c.args.words.now in
      let put = w.put_line-cause.ensures in
      let state = g.K.Sink.state in
      let ends = subst (λ (k : Cause). EndsBy k w.put_line-cause.result) w.cause_of_fault.ensures put.ends in
      let memory = by_memory words w.in-Err.fault w.in-Err.ensures w.put_line-cause.result ends (refused_tunefs words w.in-Err.fault line w.in-Err.ensures) in
      label_as refl refl (ap g.D.Disk.state w.device-is) (ap state w.out-is) (c.by.ensures.cause ∙ w.cause-is ∙ memory)
      (not_begun (label_of words) (device_of words) (g.D.Disk.state c.args.device.now) (g.met.D.Disk.only_now c.args.device.now) (state c.args.out.now) (state w.put_line-cause.new.out) put.stops (
        λ calm. subst (λ (k : Cause). Takes (state c.args.out.now) (state w.put_line-cause.new.out) (cause_line w.first_word.result.now k)) memory (put.all calm),
        subst (λ (k : Cause). TakesSome (state c.args.out.now) (state w.put_line-cause.new.out) (cause_line w.first_word.result.now k)) memory put.some,
      ))
  | in-Ok-Label w ↦
      let words = texts c.args.words.now in
      let says : ReadsLabel w.in-Ok-Label.label w.in-Ok-Label.place words = subst (λ (k : Command). Says k words) w.in-Ok-Label.field-0-is w.in-Ok-Label.ensures in
      label_as (w.as_slice.ensures ∙ label_read w.in-Ok-Label.label w.in-Ok-Label.place words says)
      (name_read c.args.words.now w.in-Ok-Label.place w.index-words-place.result w.as_str-name.result.now says.place (four_words words _ _ _ _ says.line.form) w.index-words-place.is w.as_str-name.ensures.value)
      (ap g.D.Disk.state w.device-is) (ap g.K.Sink.state w.out-is) (c.by.ensures.cause ∙ w.cause-is) w.run_label-cause.ensures
  | in-Ok-Debug w ↦
      let words = texts c.args.words.now in
      let says : ReadsQuery w.in-Ok-Debug.query w.in-Ok-Debug.place words = subst (λ (k : Command). Says k words) w.in-Ok-Debug.field-0-is w.in-Ok-Debug.ensures in
      absurd (not_both words line (_, (_, says.line)))
  | in-Ok-Check w ↦
      let words = texts c.args.words.now in
      let says : ReadsCheck w.in-Ok-Check.place words = subst (λ (k : Command). Says k words) w.in-Ok-Check.field-0-is w.in-Ok-Check.ensures in
      absurd (not_tunefs_and_fsck words line (No, (says.letters, (_, says.line))))
]

pub returns-clause-query : goal.returns-clause-query
returns-clause-query g c query asks = elim c.match-read_words.branch [
  | in-Err w ↦
      let words = texts c.args.words.now in
      let put = w.put_line-cause.ensures in
      let state = g.K.Sink.state in
      let ends = subst (λ (k : Cause). EndsBy k w.put_line-cause.result) w.cause_of_fault.ensures put.ends in
      let memory = by_memory words w.in-Err.fault w.in-Err.ensures w.put_line-cause.result ends (refused_query words w.in-Err.fault (query, asks) w.in-Err.ensures) in
      query_as refl refl (ap g.D.Disk.state w.device-is) (ap state w.out-is) (c.by.ensures.cause ∙ w.cause-is ∙ memory)
      (not_asked query (device_of words) (g.D.Disk.state c.args.device.now) (state c.args.out.now) (state w.put_line-cause.new.out) put.stops (
        λ calm. subst (λ (k : Cause). Takes (state c.args.out.now) (state w.put_line-cause.new.out) (cause_line w.first_word.result.now k)) memory (put.all calm),
        subst (λ (k : Cause). TakesSome (state c.args.out.now) (state w.put_line-cause.new.out) (cause_line w.first_word.result.now k)) memory put.some,
      ))
  | in-Ok-Label w ↦
      let words = texts c.args.words.now in
      let says : ReadsLabel w.in-Ok-Label.label w.in-Ok-Label.place words = subst (λ (k : Command). Says k words) w.in-Ok-Label.field-0-is w.in-Ok-Label.ensures in
      absurd (not_both words (_, (_, says.line)) (_, (_, asks.line)))
  | in-Ok-Debug w ↦
      let words = texts c.args.words.now in
      let says : ReadsQuery w.in-Ok-Debug.query w.in-Ok-Debug.place words = subst (λ (k : Command). Says k words) w.in-Ok-Debug.field-0-is w.in-Ok-Debug.ensures in
      query_as (asks_one w.in-Ok-Debug.query query (word_of words) says.asks asks.asks)
      (name_read c.args.words.now w.in-Ok-Debug.place w.index-words-place-in-Ok-Debug.result w.as_str-name-in-Ok-Debug.result.now says.place (four_words words _ _ _ _ says.line.form) w.index-words-place-in-Ok-Debug.is w.as_str-name-in-Ok-Debug.ensures.value)
      (ap g.D.Disk.state w.device-is) (ap g.K.Sink.state w.out-is) (c.by.ensures.cause ∙ w.cause-is) w.run_query-cause.ensures
  | in-Ok-Check w ↦
      let words = texts c.args.words.now in
      let says : ReadsCheck w.in-Ok-Check.place words = subst (λ (k : Command). Says k words) w.in-Ok-Check.field-0-is w.in-Ok-Check.ensures in
      absurd (not_debugfs_and_fsck words (_, (_, asks.line)) (No, (says.letters, (_, says.line))))
]

pub returns-clause-check : goal.returns-clause-check
returns-clause-check g c line = elim c.match-read_words.branch [
  | in-Err w ↦
      let words = texts c.args.words.now in
      let put = w.put_line-cause.ensures in
      let state = g.K.Sink.state in
      let ends = subst (λ (k : Cause). EndsBy k w.put_line-cause.result) w.cause_of_fault.ensures put.ends in
      let memory = by_memory words w.in-Err.fault w.in-Err.ensures w.put_line-cause.result ends (refused_check words w.in-Err.fault line w.in-Err.ensures) in
      check_as refl (ap g.D.Disk.state w.device-is) (ap state w.out-is) (c.by.ensures.cause ∙ w.cause-is ∙ memory)
      (not_checked (checked_device_of words) (g.D.Disk.state c.args.device.now) (state c.args.out.now) (state w.put_line-cause.new.out) put.stops
      (ap state (put.silent (ap (λ (k : Cause). cause_line w.first_word.result.now k) memory))))
  | in-Ok-Label w ↦
      let words = texts c.args.words.now in
      let says : ReadsLabel w.in-Ok-Label.label w.in-Ok-Label.place words = subst (λ (k : Command). Says k words) w.in-Ok-Label.field-0-is w.in-Ok-Label.ensures in
      absurd (not_tunefs_and_fsck words (_, (_, says.line)) (No, line))
  | in-Ok-Debug w ↦
      let words = texts c.args.words.now in
      let says : ReadsQuery w.in-Ok-Debug.query w.in-Ok-Debug.place words = subst (λ (k : Command). Says k words) w.in-Ok-Debug.field-0-is w.in-Ok-Debug.ensures in
      absurd (not_debugfs_and_fsck words (_, (_, says.line)) (No, line))
  | in-Ok-Check w ↦
      let words = texts c.args.words.now in
      let says : ReadsCheck w.in-Ok-Check.place words = subst (λ (k : Command). Says k words) w.in-Ok-Check.field-0-is w.in-Ok-Check.ensures in
      check_as (last_name_read c.args.words.now w.in-Ok-Check.place w.index-words-place-in-Ok-Check.result w.as_str-name-in-Ok-Check.result.now says w.index-words-place-in-Ok-Check.is w.as_str-name-in-Ok-Check.ensures.value)
      (ap g.D.Disk.state w.device-is) (ap g.K.Sink.state w.out-is) (c.by.ensures.cause ∙ w.cause-is) w.run_check-cause.ensures
]

-- ---- other words
pub returns-clause-front : goal.returns-clause-front
returns-clause-front g c other = elim c.match-read_words.branch [
  | in-Err w ↦ line_as w.first_word.ensures (ap g.K.Sink.state w.out-is) (c.by.ensures.cause ∙ w.cause-is) w.put_line-cause.ensures.some
  | in-Ok-Label w ↦
      let words = texts c.args.words.now in
      let says : ReadsLabel w.in-Ok-Label.label w.in-Ok-Label.place words = subst (λ (k : Command). Says k words) w.in-Ok-Label.field-0-is w.in-Ok-Label.ensures in
      absurd (other (inl (_, (_, says.line))))
  | in-Ok-Debug w ↦
      let words = texts c.args.words.now in
      let says : ReadsQuery w.in-Ok-Debug.query w.in-Ok-Debug.place words = subst (λ (k : Command). Says k words) w.in-Ok-Debug.field-0-is w.in-Ok-Debug.ensures in
      absurd (other (inr (inl (w.in-Ok-Debug.query, subst (λ (k : ℕ). ReadsQuery w.in-Ok-Debug.query k words) says.place says))))
  | in-Ok-Check w ↦
      let words = texts c.args.words.now in
      let says : ReadsCheck w.in-Ok-Check.place words = subst (λ (k : Command). Says k words) w.in-Ok-Check.field-0-is w.in-Ok-Check.ensures in
      absurd (other (inr (inr (says.letters, (_, says.line)))))
]

pub returns-clause-output : goal.returns-clause-output
returns-clause-output g c other = elim c.match-read_words.branch [
  | in-Err w ↦ all_as w.first_word.ensures (ap g.K.Sink.state w.out-is) (c.by.ensures.cause ∙ w.cause-is) w.put_line-cause.ensures.all
  | in-Ok-Label w ↦
      let words = texts c.args.words.now in
      let says : ReadsLabel w.in-Ok-Label.label w.in-Ok-Label.place words = subst (λ (k : Command). Says k words) w.in-Ok-Label.field-0-is w.in-Ok-Label.ensures in
      absurd (other (inl (_, (_, says.line))))
  | in-Ok-Debug w ↦
      let words = texts c.args.words.now in
      let says : ReadsQuery w.in-Ok-Debug.query w.in-Ok-Debug.place words = subst (λ (k : Command). Says k words) w.in-Ok-Debug.field-0-is w.in-Ok-Debug.ensures in
      absurd (other (inr (inl (w.in-Ok-Debug.query, subst (λ (k : ℕ). ReadsQuery w.in-Ok-Debug.query k words) says.place says))))
  | in-Ok-Check w ↦
      let words = texts c.args.words.now in
      let says : ReadsCheck w.in-Ok-Check.place words = subst (λ (k : Command). Says k words) w.in-Ok-Check.field-0-is w.in-Ok-Check.ensures in
      absurd (other (inr (inr (says.letters, (_, says.line)))))
]

-- ---- a refusal
pub returns-clause-kept : goal.returns-clause-kept
returns-clause-kept g c refuses I settled = leaves_itself I (g.met.D.Disk.only_now c.args.device.now) settled refl (elim c.match-read_words.branch [
  | in-Err w ↦ subst (λ (d : DiskState). ReadsOnly (g.D.Disk.state c.args.device.now) d) (sym (ap g.D.Disk.state w.device-is)) (reads_none (g.D.Disk.state c.args.device.now))
  | in-Ok-Label w ↦ subst (λ (d : DiskState). ReadsOnly (g.D.Disk.state c.args.device.now) d) (sym (ap g.D.Disk.state w.device-is)) (w.run_label-cause.ensures.refused (subst IsRefusal (c.by.ensures.cause ∙ w.cause-is) refuses))
  | in-Ok-Debug w ↦ subst (λ (d : DiskState). ReadsOnly (g.D.Disk.state c.args.device.now) d) (sym (ap g.D.Disk.state w.device-is)) w.run_query-cause.ensures.reads
  | in-Ok-Check w ↦ subst (λ (d : DiskState). ReadsOnly (g.D.Disk.state c.args.device.now) d) (sym (ap g.D.Disk.state w.device-is)) w.run_check-cause.ensures.reads
])
