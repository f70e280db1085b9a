-- One block more.
use Rattle.std.proofs.Common.{◌≡◌, inl, inr, ℕ, ◌+◌, ◌-◌, ◌^◌, ◌≤◌, List, [], ◌∷◌, length, take, drop, get_or, refl, ◌∙◌, ap, subst, arith}
use Rattle.std.proofs.lemmas.Bool.{cases_lt}
use Rattle.std.proofs.lemmas.List.{drop_more, length-drop, take_rest}
use Rattle.o2_model.specs.declared.geo.Geo.{Geo}
use Rattle.o2_model.specs.RefcountTrees.{refcount_records, read_refcount_block}
use Rattle.o2_model.specs.Volume.{over, block_size}
use Rattle.o2_extent.proofs.Sizes.{some_bytes}
use Rattle.o2_view.specs.Views.{with_block}
use Rattle.o2_view.proofs.HomePlans.{home_both, only_both}
use Rattle.o2_refcount.specs.Readings.{nothing_read, with_blocks}
use Rattle.o2_refcount.specs.Recounts.{HasCounts, holders}
use Rattle.o2_refcount.proofs.BlockByBlock.{Comes, comes, used_now, range_now, room_now, goes_on, stays, held_before, held_last}
use Rattle.o2_refcount.proofs.edit.plan_blocks.Goals as goal

pub loop-b-preserved : goal.loop-b-preserved
loop-b-preserved g c = record {
  within =
      let rest = take_rest c.args.to.now c.loop-b.from in
      omega (arith, c.loop-b.invariant.within, c.in_ok-from.ensures.few, ap (λ (xs : List ℕ). length xs) rest, length-drop c.loop-b.from c.args.to.now);
  planned = λ v shows read.
      let bs = c.args.blocks.now in
      let to = c.args.to.now in
      let i = c.loop-b.b-index in
      let from = c.loop-b.from in
      let b = get_or bs i 0 in
      let rest = drop (i + 1) bs in
      let whole = with_blocks v nothing_read bs in
      let some = c.in_ok-from.field-0 in
      let (now, w, shown, going, only) = c.loop-b.invariant.planned v shows read in
      let next = read_refcount_block v now b in
      let first : drop i bs ≡ b ∷ rest = drop_more bs i 0 (omega arith) in
      let k : Comes v now b to = comes v w (drop i bs) now whole from to b rest first going read.sound read.each in
      let slice : take (length to - from) (drop from to) ≡ drop from to = take_rest to from in
      let long : 512 ≤ block_size v = omega (arith, some_bytes c.args.geo.now c.requires.sizes, ap (λ (geo : Geo). 2 ^ geo.block_bits) shows.numbers) in
      let used = used_now v w now to b going.recounted k in
      let many : some ≡ length (refcount_records v b) =
      c.in_ok-from.ensures.used w shown (range_now v w now to b going.recounted k) (room_now v w now to b going.recounted k long)
      (omega (arith, used, k.enough, going.place, ap (λ (xs : List ℕ). length xs) slice, length-drop from to))
      ∙ used in
      elim (cases_lt 0 some) [
        | inl pos ↦
            let (bytes, planned, has) = c.in_ok-from.ensures.planned pos w shown in (
              next,
              over w (with_block b bytes w.at),
              planned,
              goes_on v w (drop i bs) now whole from to b rest first going k some many pos bytes (subst (λ (xs : List ℕ). HasCounts (w.at b) bytes (take some xs)) slice has),
              only_both c.args.view.now c.loop-b.view c.plan_block.new.view (holders now.records) (b ∷ []) (holders next.records)
                  (held_before v now to b k) (held_last v now to b k (omega (arith, pos, many))) only c.in_ok-from.ensures.alone,
            )
        | inr none ↦
            let zero : some ≡ 0 = omega (arith, none) in (
              next,
              w,
              c.in_ok-from.ensures.kept zero w shown,
              stays v w (drop i bs) now whole from to b rest first going k some many zero,
              only_both c.args.view.now c.loop-b.view c.plan_block.new.view (holders now.records) [] (holders next.records)
                  (held_before v now to b k) (λ c free. refl) only (c.in_ok-from.ensures.none zero),
            )
      ];
  plans = home_both c.loop-b.invariant.plans c.in_ok-from.ensures.plans;
}
