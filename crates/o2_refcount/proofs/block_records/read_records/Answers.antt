-- One record more, or the first that may not follow.
use Rattle.std.proofs.Common.{◌≡◌, ◌+◌, ◌-◌, ◌*◌, ◌∷◌, true, false, List, drop, sym, ◌∙◌, ap, subst, arith}
use Rattle.std.proofs.lemmas.List.{take_rest}
use Rattle.std.proofs.lemmas.Result.{on_ok_weaker}
use Rattle.o2_ondisk.specs.RefcountRecs.{refcount_rec_of}
use Rattle.o2_ondisk.specs.declared.refcount_rec.RefcountRec.{RefcountRec}
use Rattle.o2_model.specs.RefcountTrees.{refcount_end, is_sound_refcount, read_refcounts}
use Rattle.o2_refcount.specs.Readings.{Keeps, with_record}
use Rattle.o2_refcount.proofs.Steps.{records_from, next_record, good_record, bad_record}
use Rattle.o2_refcount.proofs.block_records.read_records.Goals as goal

pub loop-k-init : goal.loop-k-init
loop-k-init c v numbers before t keeps =
    let all : c.args.used - 0 ≡ c.args.used = omega arith in
    record { now = t; keeps = keeps; gives = ap (λ n. read_refcounts v c.args.b (records_from c.args.bytes.now 0 n) t) all }

pub loop-k-preserved : goal.loop-k-preserved
loop-k-preserved c v numbers before t keeps =
    let bytes = c.args.bytes.now in
    let b = c.args.b in
    let k = c.loop-k.k in
    let r = c.read_refcount_rec-r.result in
    let rest = records_from bytes (k + 1) (c.args.used - (k + 1)) in
    let left = c.loop-k.invariant v numbers before t keeps in
    let is : r ≡ refcount_rec_of (drop (0x90 + 16 * k) bytes) = c.read_refcount_rec-r.ensures ∙ ap refcount_rec_of (take_rest bytes (0x90 + 16 * k)) in
    let all : records_from bytes k (c.args.used - k) ≡ r ∷ rest = next_record bytes k c.args.used (omega arith) ∙ ap (λ (x : RefcountRec). x ∷ rest) (sym is) in
    let good : is_sound_refcount v (refcount_end left.now.records) r ≡ true =
    ap (λ low. is_sound_refcount v low r) (sym left.keeps.end) ∙ (sym (c.is_sound_record.ensures.test v numbers) ∙ c.if-not-is_sound_record.false) in
    record {
      now = with_record left.now b r;
      keeps = c.in_ok-add_record.ensures before left.now left.keeps;
      gives = sym (good_record v b r rest left.now good) ∙ (sym (ap (λ (rs : List RefcountRec). read_refcounts v b rs left.now) all) ∙ left.gives);
    }

pub returns-then-not-is_sound_record : goal.returns-then-not-is_sound_record
returns-then-not-is_sound_record c = on_ok_weaker c.add_fault.result
    (λ added v numbers before t keeps.
    let bytes = c.args.bytes.now in
    let b = c.args.b in
    let k = c.loop-k.k in
    let r = c.read_refcount_rec-r.result in
    let rest = records_from bytes (k + 1) (c.args.used - (k + 1)) in
    let left = c.loop-k.invariant v numbers before t keeps in
    let is : r ≡ refcount_rec_of (drop (0x90 + 16 * k) bytes) = c.read_refcount_rec-r.ensures ∙ ap refcount_rec_of (take_rest bytes (0x90 + 16 * k)) in
    let all : records_from bytes k (c.args.used - k) ≡ r ∷ rest = next_record bytes k c.args.used (omega arith) ∙ ap (λ (x : RefcountRec). x ∷ rest) (sym is) in
    let bad : is_sound_refcount v (refcount_end left.now.records) r ≡ false =
    ap (λ low. is_sound_refcount v low r) (sym left.keeps.end) ∙ (sym (c.is_sound_record.ensures.test v numbers) ∙ c.if-not-is_sound_record.true) in
    subst (Keeps before _)
    (sym (bad_record v b r rest left.now bad) ∙ (sym (ap (λ (rs : List RefcountRec). read_refcounts v b rs left.now) all) ∙ left.gives))
    (added before left.now left.keeps))
    c.add_fault.ensures

pub returns : goal.returns
returns c v numbers before t keeps =
    let left = c.loop-k.invariant v numbers before t keeps in
    let none : c.args.used - c.loop-k.k ≡ 0 = omega arith in
    subst (Keeps before _) (sym (ap (λ n. read_refcounts v c.args.b (records_from c.args.bytes.now c.loop-k.k n) left.now) none) ∙ left.gives) left.keeps
