-- One block more.
use Rattle.std.proofs.Common.{refl, sym, ◌∙◌}
use Rattle.std.proofs.lemmas.Result.{on_ok_weaker}
use Rattle.o2_model.specs.Directories.{DirBlock, entries_in}
use Rattle.o2_dir.proofs.Kept.{empty_unsound, filled_sound, some_found, none_found, keeps_bad, keeps_good}
use Rattle.o2_dir.proofs.reading.add_block.Goals as goal

pub returns-then-not-branch : goal.returns-then-not-branch
returns-then-not-branch c =
    let b : DirBlock = record { place = c.args.place; block = c.args.block; found = entries_in c.args.bytes.now } in
    let none = none_found (entries_in c.args.bytes.now) (sym c.in_ok-add_entries.ensures.filled ∙ c.if-not-branch.true) in
    on_ok_weaker c.put.result
    (λ is bs h. keeps_bad c.args.reading.now _ bs b (empty_unsound b none) is c.in_ok-add_entries.ensures.entries h)
    c.put.ensures.added

pub returns-then-not-begins_well : goal.returns-then-not-begins_well
returns-then-not-begins_well c =
    let b : DirBlock = record { place = c.args.place; block = c.args.block; found = entries_in c.args.bytes.now } in
    let found = some_found (entries_in c.args.bytes.now) (sym c.in_ok-add_entries.ensures.filled ∙ c.if-not-branch.false) in
    let bad = sym (c.begins_well.ensures found.0 found.1) ∙ c.if-not-begins_well.true in
    on_ok_weaker c.put-then-not-begins_well.result
    (λ is bs h. keeps_bad c.args.reading.now _ bs b (filled_sound b found.0 found.1 ∙ bad) is c.in_ok-add_entries.ensures.entries h)
    c.put-then-not-begins_well.ensures.added

pub returns : goal.returns
returns c bs h =
    let b : DirBlock = record { place = c.args.place; block = c.args.block; found = entries_in c.args.bytes.now } in
    let found = some_found (entries_in c.args.bytes.now) (sym c.in_ok-add_entries.ensures.filled ∙ c.if-not-branch.false) in
    let good = sym (c.begins_well.ensures found.0 found.1) ∙ c.if-not-begins_well.false in
    keeps_good c.args.reading.now _ bs b (filled_sound b found.0 found.1 ∙ good) refl c.in_ok-add_entries.ensures.entries h
