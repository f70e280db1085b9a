-- One group more.
use Rattle.std.proofs.Common.{◌≡◌, inl, inr, ℕ, ◌-◌, ◌<◌, map, take, get_or, [], ◌∷◌, ◌++◌, length, refl, sym, ◌∙◌, ap, arith}
use Rattle.std.proofs.lemmas.Bool.{cases_eq}
use Rattle.std.proofs.lemmas.List.{take_all}
use Rattle.o2_model.specs.declared.allocator.Allocator.{Allocator}
use Rattle.o2_model.specs.Volume.{Volume}
use Rattle.o2_chain.specs.Edits.{shared_by, edited_chain}
use Rattle.o2_chain.specs.Walks.{group_in}
use Rattle.o2_chain.proofs.ChainCounts.{record_at, chain_none, small_free, each_record, counted, shared_more, walked_more, step_here, step_other}
use Rattle.o2_chain.proofs.allocator_edit.change_chains.Goals.{then-chain-used, else-chain-used}
use Rattle.o2_chain.proofs.allocator_edit.change_chains.Goals as goal

pub loop-group-init : goal.loop-group-init
loop-group-init c = record {
  records = λ v numbers a k low. chain_none v c.args.set c.args.run k (record_at c.args.bytes.now k) (small_free c.args.bytes.now k (λ i. omega (arith, c.type_inv.bytes i)));
  total = λ v numbers a. refl;
  others = λ i out. refl;
}

pub loop-group-preserved : goal.loop-group-preserved
loop-group-preserved c =
    let i = c.loop-group.group-index in
    let g = get_or c.args.groups.now i (record { chain = 0; block = 0; bits = 0 }) in
    let n = c.bits_of_run-range.result.end - c.bits_of_run-range.result.first in
    let low : i < length c.args.groups.now = omega arith in
    let more = λ (a : Allocator). walked_more a c.args.groups.now i (record { chain = 0; block = 0; bits = 0 }) low in
    let so_far = λ (a : Allocator). map (group_in a) (take i c.args.groups.now) in
    let each : (v : Volume) → v.geo ≡ c.args.geo.now → (a : Allocator) → (k : ℕ) → k < c.args.used → record_at c.if-chain-used.bytes k ≡ edited_chain v c.args.set c.args.run (so_far a ++ group_in a g ∷ []) (k, record_at c.args.bytes.now k) =
    λ v numbers a k under. let before = c.loop-group.invariant.records v numbers a k under in elim c.if-chain-used.branch [
      | then-chain-used w ↦ elim (cases_eq g.chain k) [
        | inl same ↦ step_here v c.args.set c.args.run (so_far a) (group_in a g) c.args.bytes.now c.loop-group.bytes c.if-chain-used.bytes k before n
            (ap (λ bytes. record_at bytes k) w.bytes-is ∙ (ap (record_at w.change_chain.new.bytes) (sym same) ∙ (w.change_chain.ensures.record ∙ ap (λ j. counted c.args.set n (record_at c.loop-group.bytes j)) same))) (c.bits_of_run-range.ensures.count v numbers a) same
        | inr apart ↦ step_other v c.args.set c.args.run (so_far a) (group_in a g) c.args.bytes.now c.loop-group.bytes c.if-chain-used.bytes k before
            (λ j out. ap (λ bytes. get_or bytes j 0) w.bytes-is ∙ w.change_chain.ensures.others j out) apart
      ]
      | else-chain-used w ↦ step_other v c.args.set c.args.run (so_far a) (group_in a g) c.args.bytes.now c.loop-group.bytes c.if-chain-used.bytes k before
          (λ j out. ap (λ bytes. get_or bytes j 0) w.bytes-is) (omega (arith, w.if-chain-used.false, under))
    ] in
    record {
      records = λ v numbers a k under. each v numbers a k under ∙ ap (λ gs. edited_chain v c.args.set c.args.run gs (k, record_at c.args.bytes.now k)) (sym (more a));
      total = λ v numbers a.
          omega (arith, c.loop-group.invariant.total v numbers a, ap (shared_by v c.args.run) (more a), shared_more v c.args.run (so_far a) (group_in a g), c.bits_of_run-range.ensures.count v numbers a);
      others = λ j out. elim c.if-chain-used.branch [
        | then-chain-used w ↦ ap (λ bytes. get_or bytes j 0) w.bytes-is ∙ (w.change_chain.ensures.others j (λ from under. out (omega (arith, from)) (omega (arith, under, w.if-chain-used.true))) ∙ c.loop-group.invariant.others j out)
        | else-chain-used w ↦ ap (λ bytes. get_or bytes j 0) w.bytes-is ∙ c.loop-group.invariant.others j out
      ];
    }

pub returns-clause-records : goal.returns-clause-records
returns-clause-records c v numbers a =
    let all : take c.loop-group.group-index c.args.groups.now ≡ c.args.groups.now = take_all c.loop-group.group-index c.args.groups.now (omega arith) in
    each_record c.args.bytes.now c.loop-group.bytes (edited_chain v c.args.set c.args.run (map (group_in a) c.args.groups.now)) c.args.used
    (λ k under. c.loop-group.invariant.records v numbers a k under ∙ ap (λ gs. edited_chain v c.args.set c.args.run (map (group_in a) gs) (k, record_at c.args.bytes.now k)) all)
