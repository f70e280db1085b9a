-- A block that is looked at is new and in range.
use Rattle.std.proofs.Common.{◌≡◌, ◌-◌, true, false, refl, sym, ◌∙◌, subst, arith}
use Rattle.o2_model.specs.Extents.{names_new_block, is_extent_block, with_seen}
use Rattle.o2_model.proofs.Looks.{new_below}
use Rattle.o2_view.specs.Geos.{bare}
use Rattle.o2_extent.specs.Readings.{Keeps}
use Rattle.o2_extent.proofs.Steps.{old_block, other_block, seen_apart}
use Rattle.o2_extent.proofs.tree.enter.Goals as goal

pub look-requires : goal.look-requires
look-requires g c =
    let names = sym (c.may_look.ensures (bare c.args.geo.now) refl) ∙ c.if-not-may_look.false in
    (omega arith, record { volume = c.requires.geo; inside = omega (arith, new_below (bare c.args.geo.now) c.args.low c.args.reading.now.seen c.args.r.now names, c.requires.geo.within) })

pub returns-in_err-block-clause-apart : goal.returns-in_err-block-clause-apart
returns-in_err-block-clause-apart g c =
    seen_apart (bare c.args.geo.now) c.args.low _ _ _ c.args.r.now (sym (c.may_look.ensures (bare c.args.geo.now) refl) ∙ c.if-not-may_look.false) c.requires.geo.within c.in_ok-add_seen.ensures.seen

pub returns-in_err-add_fault-2-clause-apart : goal.returns-in_err-add_fault-2-clause-apart
returns-in_err-add_fault-2-clause-apart g c =
    seen_apart (bare c.args.geo.now) c.args.low _ _ _ c.args.r.now (sym (c.may_look.ensures (bare c.args.geo.now) refl) ∙ c.if-not-may_look.false) c.requires.geo.within
    (c.add_fault-then-not-has_extent_block.ensures.seen ∙ c.in_ok-add_seen.ensures.seen)

pub returns-then-not-has_extent_block-clause-apart : goal.returns-then-not-has_extent_block-clause-apart
returns-then-not-has_extent_block-clause-apart g c =
    seen_apart (bare c.args.geo.now) c.args.low _ _ _ c.args.r.now (sym (c.may_look.ensures (bare c.args.geo.now) refl) ∙ c.if-not-may_look.false) c.requires.geo.within
    (c.add_fault-then-not-has_extent_block.ensures.seen ∙ c.in_ok-add_seen.ensures.seen)

pub returns-in_err-records-clause-apart : goal.returns-in_err-records-clause-apart
returns-in_err-records-clause-apart g c =
    seen_apart (bare c.args.geo.now) c.args.low _ _ _ c.args.r.now (sym (c.may_look.ensures (bare c.args.geo.now) refl) ∙ c.if-not-may_look.false) c.requires.geo.within
    (c.meet.ensures.seen ∙ c.in_ok-add_seen.ensures.seen)

pub returns-clause-apart : goal.returns-clause-apart
returns-clause-apart g c =
    seen_apart (bare c.args.geo.now) c.args.low _ _ _ c.args.r.now (sym (c.may_look.ensures (bare c.args.geo.now) refl) ∙ c.if-not-may_look.false) c.requires.geo.within
    (c.meet.ensures.seen ∙ c.in_ok-add_seen.ensures.seen)

pub returns-then-not-has_extent_block-clause-bad : goal.returns-then-not-has_extent_block-clause-bad
returns-then-not-has_extent_block-clause-bad g c v shows m rs t k =
    let r = c.args.r.now in
    let names : names_new_block v c.args.low t.seen r ≡ true = subst (λ s. names_new_block v c.args.low s r ≡ true) k.seen (sym (c.may_look.ensures v shows.numbers) ∙ c.if-not-may_look.false) in
    let bytes : c.as_slice-bytes.result.now ≡ v.at r.blkno = c.as_slice-bytes.ensures ∙ c.in_ok-block.ensures.bytes v shows in
    let bad : is_extent_block v (c.args.depth - 1) r.blkno ≡ false = sym (c.has_extent_block.ensures v shows.numbers bytes) ∙ c.if-not-has_extent_block.true in
    subst (Keeps v _) (sym (other_block v m c.args.depth c.args.holder c.args.low r rs t c.requires.inner names bad))
    (c.in_ok-add_fault-2.ensures.added v (with_seen t r.blkno) (c.in_ok-add_seen.ensures.added v t k))

pub returns-then-not-may_look-clause-bad : goal.returns-then-not-may_look-clause-bad
returns-then-not-may_look-clause-bad g c v shows m rs t k =
    let r = c.args.r.now in
    let old : names_new_block v c.args.low t.seen r ≡ false = subst (λ s. names_new_block v c.args.low s r ≡ false) k.seen (sym (c.may_look.ensures v shows.numbers) ∙ c.if-not-may_look.true) in
    subst (Keeps v c.add_fault.new.reading) (sym (old_block v m c.args.depth c.args.holder c.args.low r rs t c.requires.inner old)) (c.in_ok-add_fault.ensures.added v t k)

pub returns-clause-good : goal.returns-clause-good
returns-clause-good g c v shows t k =
    let r = c.args.r.now in
    let names : names_new_block v c.args.low t.seen r ≡ true = subst (λ s. names_new_block v c.args.low s r ≡ true) k.seen (sym (c.may_look.ensures v shows.numbers) ∙ c.if-not-may_look.false) in
    let bytes : c.as_slice-bytes.result.now ≡ v.at r.blkno = c.as_slice-bytes.ensures ∙ c.in_ok-block.ensures.bytes v shows in
    record {
      names = names;
      is_one = sym (c.has_extent_block.ensures v shows.numbers bytes) ∙ c.if-not-has_extent_block.false;
      records = c.in_ok-records.ensures.records v shows.numbers bytes;
      keeps = c.in_ok-records.ensures.met v shows.numbers bytes (with_seen t r.blkno) (c.in_ok-add_seen.ensures.added v t k);
    }
