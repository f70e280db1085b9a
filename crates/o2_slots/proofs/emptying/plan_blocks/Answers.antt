-- One block more.
use Rattle.std.proofs.Common.{◌≡◌, ◌+◌, ◌*◌, ◌/◌, ◌%◌, ◌^◌, ◌<◌, ◌≤◌, min, true, [], ◌∷◌, refl, sym, subst, arith}
use Rattle.o2_model.specs.Words.{among}
use Rattle.o2_model.specs.Volume.{over}
use Rattle.o2_model.specs.declared.geo.Geo.{Geo}
use Rattle.o2_view.specs.Views.{with_block}
use Rattle.o2_view.proofs.HomePlans.{home_none, home_both, only_both, still_lies}
use Rattle.o2_extent.proofs.Views.{few_blocks}
use Rattle.o2_slots.specs.Entries.{entry_size}
use Rattle.o2_slots.specs.Emptied.{entry_blocks, IsEmptiedBlock}
use Rattle.o2_slots.proofs.BlockSlots.{in_first, all_slots, has_slots, reaches_first, has_entry, none_other}
use Rattle.o2_slots.proofs.EmptiedVolumes.{none_emptied, begun, next, ended}
use Rattle.o2_slots.proofs.emptying.plan_blocks.Goals as goal

pub returns-then-geo-from-clause-emptied : goal.returns-then-geo-from-clause-emptied
returns-then-geo-from-clause-emptied g c v shows = (v, shows, none_emptied v c.args.place c.args.from (rw shows.numbers c.if-geo-from.true))

pub loop-k-init : goal.loop-k-init
loop-k-init g c = record {
  emptied = λ v shows.
      let count = c.entries_per_block-per_block.result in
      let whole : count * entry_size v.geo ≡ 2 ^ v.geo.block_bits = rw shows.numbers c.entries_per_block-per_block.ensures.whole in
      (v, shows, rw c.from.ensures (begun v count whole c.args.place c.args.from));
  alone = λ b out. refl;
  plans = home_none c.args.view.now;
}

pub overflow_add-place : goal.overflow_add-place
overflow_add-place g c =
    let count = c.entries_per_block-per_block.result in
    let k = c.loop-k.k in
    let entries : 0 < count = omega (arith, c.entries_per_block-per_block.ensures.some) in
    let end : c.div_ceil-k-end.result ≡ c.args.geo.now.slots / count + min 1 (c.args.geo.now.slots % count) = rw c.from-2.ensures at c.div_ceil-k-end.ensures in
    let slots : k * count < c.args.geo.now.slots = has_slots c.args.geo.now.slots count c.div_ceil-k-end.result k entries end c.loop-k-test.true in
    let inside = in_first c.args.geo.now count k c.requires.geo.sizes c.entries_per_block-per_block.ensures.whole c.requires.geo.numbers.few_slots slots in
    omega (arith, inside, c.requires.within, few_blocks c.requires.geo)

pub plan_block-requires : goal.plan_block-requires
plan_block-requires g c =
    let count = c.entries_per_block-per_block.result in
    let k = c.loop-k.k in
    let entries : 0 < count = omega (arith, c.entries_per_block-per_block.ensures.some) in
    let end : c.div_ceil-k-end.result ≡ c.args.geo.now.slots / count + min 1 (c.args.geo.now.slots % count) = rw c.from-2.ensures at c.div_ceil-k-end.ensures in
    let slots : k * count < c.args.geo.now.slots = has_slots c.args.geo.now.slots count c.div_ceil-k-end.result k entries end c.loop-k-test.true in
    let inside = in_first c.args.geo.now count k c.requires.geo.sizes c.entries_per_block-per_block.ensures.whole c.requires.geo.numbers.few_slots slots in
    let late : c.args.from / count ≤ k = rw c.from.ensures at c.loop-k.auto.k in
    let lies = still_lies c.requires.geo c.loop-k.invariant.plans in (
      omega arith,
      (
        record { volume = lies; inside = omega (arith, inside, c.requires.within, lies.within) },
        (c.if-geo-from.false, rw (← c.entries_per_block-per_block.ensures.value) (slots, reaches_first c.args.from count k entries late)),
      ),
    )

pub loop-k-preserved : goal.loop-k-preserved
loop-k-preserved g c =
    let geo = c.args.geo.now in
    let place = c.args.place in
    let from = c.args.from in
    let count = c.entries_per_block-per_block.result in
    let k = c.loop-k.k in
    let entries : 0 < count = omega (arith, c.entries_per_block-per_block.ensures.some) in
    let end : c.div_ceil-k-end.result ≡ geo.slots / count + min 1 (geo.slots % count) = rw c.from-2.ensures at c.div_ceil-k-end.ensures in
    let slots : k * count < geo.slots = has_slots geo.slots count c.div_ceil-k-end.result k entries end c.loop-k-test.true in
    let late : from / count ≤ k = rw c.from.ensures at c.loop-k.auto.k in
    let one : among (entry_blocks geo place from) (place + k) ≡ true = has_entry geo count c.entries_per_block-per_block.ensures.whole entries place from k c.if-geo-from.false slots (reaches_first from count k entries late) in
    record {
      emptied = λ v shows.
          let whole : count * entry_size v.geo ≡ 2 ^ v.geo.block_bits = rw shows.numbers c.entries_per_block-per_block.ensures.whole in
          let (w, shown, below) = c.loop-k.invariant.emptied v shows in
          let (bytes, planned, changed) = c.in_ok-plan_block.ensures.planned w shown in (
            over w (with_block (place + k) bytes w.at),
            planned,
            next v count whole place from w k bytes (subst (λ (x : Geo). among (entry_blocks x place from) (place + k) ≡ true) (sym shows.numbers) one) below (subst (λ (x : Geo). IsEmptiedBlock x k from (w.at (place + k)) bytes) (sym shows.numbers) changed),
          );
      alone = only_both c.args.view.now c.loop-k.view c.plan_block.new.view (entry_blocks geo place from) ((place + k) ∷ []) (entry_blocks geo place from) (λ b out. out) (λ b out. none_other (entry_blocks geo place from) (place + k) b one out)
          c.loop-k.invariant.alone c.in_ok-plan_block.ensures.alone;
      plans = home_both c.loop-k.invariant.plans c.plan_block.ensures.plans;
    }

pub returns-clause-emptied : goal.returns-clause-emptied
returns-clause-emptied g c v shows =
    let geo = c.args.geo.now in
    let count = c.entries_per_block-per_block.result in
    let entries : 0 < count = omega (arith, c.entries_per_block-per_block.ensures.some) in
    let whole : count * entry_size v.geo ≡ 2 ^ v.geo.block_bits = rw shows.numbers c.entries_per_block-per_block.ensures.whole in
    let end : c.div_ceil-k-end.result ≡ geo.slots / count + min 1 (geo.slots % count) = rw c.from-2.ensures at c.div_ceil-k-end.ensures in
    let all : v.geo.slots ≤ c.loop-k.k * count = rw shows.numbers (all_slots geo.slots count c.div_ceil-k-end.result c.loop-k.k entries end c.loop-k-test.false) in
    let (w, shown, below) = c.loop-k.invariant.emptied v shows in
    (w, shown, ended v count whole c.args.place c.args.from w c.loop-k.k all below)
