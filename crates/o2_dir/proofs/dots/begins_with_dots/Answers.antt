-- The dots are the first two entries.
use Rattle.std.proofs.Common.{◌≡◌, ◌&&◌, true, false, drop, sym, ◌∙◌, ap}
use Rattle.std.specs.Prelude.{codes}
use Rattle.std.proofs.lemmas.List.{take_rest}
use Rattle.o2_ondisk.specs.DirEntries.{dir_entry_of}
use Rattle.o2_dir.specs.Blocks.{begins_with}
use Rattle.o2_dir.proofs.FirstTwo.{dots_are}
use Rattle.o2_dir.proofs.dots.begins_with_dots.Goals as goal

pub returns-then-not-begins_with_named : goal.returns-then-not-begins_with_named
returns-then-not-begins_with_named c es h =
    let bad : begins_with (codes ".") c.args.bytes.now ≡ false = sym c.begins_with_named.ensures ∙ c.if-not-begins_with_named.true in
    sym (dots_are c.args.bytes.now es h ∙ ap (λ x. x && begins_with (codes "..") (drop (dir_entry_of c.args.bytes.now).rec_len c.args.bytes.now)) bad)

pub returns : goal.returns
returns c es h =
    let bytes = c.args.bytes.now in
    let good : begins_with (codes ".") bytes ≡ true = sym c.begins_with_named.ensures ∙ c.if-not-begins_with_named.false in
    let len : c.from.result ≡ (dir_entry_of bytes).rec_len = c.from.ensures ∙ ap (λ x. x.rec_len) c.read_dir_entry-first.ensures in
    (rw take_rest at c.begins_with_named-2.ensures)
    ∙ (ap (λ n. begins_with (codes "..") (drop n bytes)) len ∙ sym (dots_are bytes es h ∙ ap (λ x. x && begins_with (codes "..") (drop (dir_entry_of bytes).rec_len bytes)) good))
