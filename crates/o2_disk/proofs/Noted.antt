-- What a disk is after a call that took a number.
use Rattle.std.proofs.Common.{◌≡◌, ◌⊎◌, inl, inr, ⊎_elim, ℕ, ◌+◌, ◌-◌, ◌*◌, ◌/◌, ◌%◌, ◌<◌, ◌≤◌, List, [], ◌∷◌, ◌++◌, length, take, get_or, Option, Some, None, unwrap_or, option_to_list, refl, sym, ◌∙◌, ap, subst, arith}
use Rattle.std.proofs.lemmas.List.{ext_get_or, take_all, take-append-le, length_push, get_or_append_left}
use Rattle.std.proofs.lemmas.List.FromFn.{length-map-range_with_len, get_or-map-range_with_len}
use Rattle.std.proofs.lemmas.List.Elements.{Contains-append_left, Contains-append_cases, Contains-push}
use Rattle.std.proofs.lemmas.Bool.{cases_lt}
use Rattle.std.proofs.Math.Seq.{get_or-append_seam}
use Rattle.std.specs.List.{Contains}
use Rattle.std.specs.Ordering.{nat_cmp}
use Rattle.std.specs.BTreeMap.{BTreeMap, get}
use Rattle.o2_disk.specs.Image.{Image, IsSector, sector, byte, bytes_from, sectors_in, piece, written, Torn, InRange, zero_sector}
use Rattle.o2_disk.specs.Device.{Keeps, Elapses}
use Rattle.o2_disk.specs.declared.disk.How.{How}
use Rattle.o2_disk.specs.declared.call.Call.{Call}
use Rattle.o2_disk.specs.declared.call.Call.TheVariants.{Read, Sync}
use Rattle.o2_disk.specs.Stored.{stored}
use Rattle.o2_disk.specs.Attaches.{Attachment}
use Rattle.o2_disk.specs.Calls.{Choices, newest, put_into, put_by, put_or_zeros, step, run, start, IsOutcome, shown, mem_state, RecordsWrite}
use Rattle.o2_disk.specs.Recorded.{some_choice, contains_newest, length-shown, sector-shown, has_sectors}
use Rattle.o2_disk.proofs.Images.{torn_all, same_image, length-written, sector-written_in, sector-written_other, in_or_out, sector_past}
use Rattle.o2_disk.proofs.Puts.{newest_step, run_more, choose, inside, outside, is_sector_piece, IsPut, is_put, shown-same}

module _ (base : BTreeMap ℕ (List ℕ)) (calls new : List Call) (c : Call) (is : new ≡ calls ++ c ∷ []) where
  -- what each sector may hold then
  one_more : run (start base) new ≡ step c (run (start base) calls)
  one_more = ap (λ (l : List Call). run (start base) l) is ∙ run_more (start base) calls c

  newest_one : (s : ℕ) → newest (run (start base) new s) ≡ unwrap_or (put_by c s) (newest (run (start base) calls s))
  newest_one s = ap (λ (m : Choices). newest (m s)) one_more ∙ newest_step c (run (start base) calls) s

  -- ---- the struct's ghost fields
  pub agrees_more : (old now : BTreeMap ℕ (List ℕ)) → ((s : ℕ) → stored old s ≡ newest (run (start base) calls s)) → ((s : ℕ) → stored now s ≡ unwrap_or (put_by c s) (stored old s)) → (s : ℕ) → stored now s ≡ newest (run (start base) new s)
  agrees_more old now agrees puts s = puts s ∙ ap (λ (l : List ℕ). unwrap_or (put_by c s) l) (agrees s) ∙ sym (newest_one s)

  pub touched_more : (old now : BTreeMap ℕ (List ℕ)) → ((s : ℕ) → get nat_cmp now s ≡ None → get nat_cmp old s ≡ None) → ((s : ℕ) → stored now s ≡ unwrap_or (put_by c s) (stored old s))
      → ((s k : ℕ) → get nat_cmp old s ≡ None → k < length calls → put_or_zeros calls k s ≡ zero_sector) → (s k : ℕ) → get nat_cmp now s ≡ None → k < length new → put_or_zeros new k s ≡ zero_sector
  touched_more old now keys puts touched s k none within = elim (cases_lt k (length calls)) [
    | inl before ↦ ap (λ (l : List Call). put_or_zeros l k s) is ∙ ap (λ (x : Call). unwrap_or (put_by x s) zero_sector) (get_or_append_left calls (c ∷ []) Read k before) ∙ touched s k (keys s none) before
    | inr from ↦
        let last : k ≡ length calls = omega (arith, within, from, ap length is, length_push calls c) in
        ap (λ (l : List Call). put_or_zeros l k s) is ∙ ap (λ (j : ℕ). put_or_zeros (calls ++ c ∷ []) j s) last
        ∙ ap (λ (x : Call). unwrap_or (put_by x s) zero_sector) (get_or-append_seam calls c [] Read) ∙ here (put_by c s) refl
  ]
    where
      here : (o : Option (List ℕ)) → put_by c s ≡ o → unwrap_or (put_by c s) zero_sector ≡ zero_sector
      here None what = ap (λ (o : Option (List ℕ)). unwrap_or o zero_sector) what
      here (Some v) what =
          ap (λ (o : Option (List ℕ)). unwrap_or o zero_sector) what
          ∙ sym (puts s ∙ ap (λ (o : Option (List ℕ)). unwrap_or o (stored old s)) what)
          ∙ ap (λ (o : Option (List ℕ)). unwrap_or o zero_sector) none

  module _ (attaches : List Attachment) (attached : Option How) (n faults more : ℕ) where
    pub elapses_more : Elapses (mem_state attaches attached n base calls faults) (mem_state attaches attached n base new more)
    elapses_more = record {
      later = omega (arith, ap length is, length_push calls c);
      nothing_else = λ t X le since. elim (cases_lt (length calls) since.moment) [
        | inl late ↦ inr (subst (λ (l : List Call). IsOutcome n (run (start base) l) X) (take_all since.moment new (omega (arith, ap length is, length_push calls c, late))) since.outcome)
        | inr early ↦ inl (record {
          moment = since.moment;
          from = since.from;
          past = early;
          outcome = subst (λ (l : List Call). IsOutcome n (run (start base) l) X) (ap (take since.moment) is ∙ take-append-le since.moment calls (c ∷ []) early) since.outcome;
        })
      ];
      keeps = λ t X le since. record {
        moment = since.moment;
        from = since.from;
        past = omega (arith, ap length is, length_push calls c, since.past);
        outcome = subst (λ (l : List Call). IsOutcome n (run (start base) l) X) (sym (ap (take since.moment) is ∙ take-append-le since.moment calls (c ∷ []) since.past)) since.outcome;
      };
    }

    -- a call that changes nothing
    pub keeps_plain : ((m : Choices) → step c m ≡ m) → Keeps (mem_state attaches attached n base calls faults) (mem_state attaches attached n base new more)
    keeps_plain plain = record {
      content = ap (λ (m : Choices). Some (shown n m)) (one_more ∙ plain (run (start base) calls));
      may_leave = λ X out. subst (λ (m : Choices). IsOutcome n m X) (one_more ∙ plain (run (start base) calls)) out;
    }

  pub pending_plain : (n : ℕ) → ((m : Choices) → step c m ≡ m) → (X : Image) → IsOutcome n (run (start base) calls) X → IsOutcome n (run (start base) new) X
  pending_plain n plain X out = subst (λ (m : Choices). IsOutcome n m X) (sym (one_more ∙ plain (run (start base) calls))) out

-- ---- a sync
module _ (base : BTreeMap ℕ (List ℕ)) (calls new : List Call) (is : new ≡ calls ++ Sync ∷ []) (n : ℕ) where
  may : Choices
  may = run (start base) calls

  pub durable : (I : Image) → Some (shown n (run (start base) calls)) ≡ Some I → (X : Image) → IsOutcome n (run (start base) new) X → X ≡ I
  durable I told X out =
      let here : shown n (run (start base) calls) ≡ I = cc in
      let o = subst (λ (m : Choices). IsOutcome n m X) (one_more base calls new Sync is) out in
      same_image X (shown n (run (start base) calls)) (o.size ∙ sym (length-shown n (run (start base) calls))) (λ s h.
      let k : s < n = omega (arith, h, o.size) in
      let one = o.each s k in
      sym (only (newest (run (start base) calls s)) (sector X s) one) ∙ sym (sector-shown n (run (start base) calls) s k)) ∙ here
    where
      only : (a x : List ℕ) → Contains (a ∷ []) x → a ≡ x
      only a x found =
          let first : found.0 ≡ 0 = omega (arith, found.1) in
          sym (ap (λ (k : ℕ). get_or (a ∷ []) k x) first) ∙ found.2

  pub keeps_sync : (attaches : List Attachment) (attached : Option How) (faults more : ℕ) → Keeps (mem_state attaches attached n base calls faults) (mem_state attaches attached n base new more)
  keeps_sync attaches attached faults more = record {
    content = ap (λ (I : Image). Some I) (shown-same n (run (start base) new) (run (start base) calls) (λ s. newest_one base calls new Sync is s));
    may_leave = λ X out. outcome_of X (durable (shown n (run (start base) calls)) refl X out);
  }
    where
      outcome_of : (X : Image) → X ≡ shown n (run (start base) calls) → IsOutcome n (run (start base) calls) X
      outcome_of X same = record {
        size = ap length same ∙ length-shown n (run (start base) calls);
        each = λ s h. subst (λ (v : List ℕ). Contains (run (start base) calls s) v) (sym (ap (λ (J : Image). sector J s) same ∙ sector-shown n (run (start base) calls) s h)) (contains_newest (run (start base) calls s) (some_choice base calls s));
      }

-- ---- a write
module _ (base : BTreeMap ℕ (List ℕ)) (calls new : List Call) (n at : ℕ) (bytes : List ℕ) (wrote : (c : Call) × (new ≡ calls ++ c ∷ []) × RecordsWrite at bytes c) where
  put : IsPut at bytes wrote.0
  put = is_put at bytes wrote.0 wrote.2

  choices : (s : ℕ) → run (start base) new s ≡ run (start base) calls s ++ option_to_list (put_into at bytes s)
  choices s = ap (λ (m : Choices). m s) (one_more base calls new wrote.0 wrote.1) ∙ put.adds (run (start base) calls) s ∙ ap (λ (o : Option (List ℕ)). run (start base) calls s ++ option_to_list o) (put.puts s)

  choices_in : (s : ℕ) → InRange at bytes s → run (start base) new s ≡ run (start base) calls s ++ piece bytes (s - at) ∷ []
  choices_in s r = choices s ∙ ap (λ (o : Option (List ℕ)). run (start base) calls s ++ option_to_list o) (inside at bytes s r)

  shown_written : shown n (run (start base) new) ≡ written (shown n (run (start base) calls)) at bytes
  shown_written = same_image (shown n (run (start base) new)) (written (shown n (run (start base) calls)) at bytes)
      (length-shown n (run (start base) new) ∙ sym (length-shown n (run (start base) calls)) ∙ sym (length-written (shown n (run (start base) calls)) at bytes))
      (λ s h.
      let k : s < n = omega (arith, h, length-shown n (run (start base) new)) in
      sector-shown n (run (start base) new) s k ∙ newest_one base calls new wrote.0 wrote.1 s ∙ ap (λ (o : Option (List ℕ)). unwrap_or o (newest (run (start base) calls s))) (put.puts s) ∙ elim (in_or_out at bytes s) [
        | inl r ↦ ap (λ (o : Option (List ℕ)). unwrap_or o (newest (run (start base) calls s))) (inside at bytes s r) ∙ sym (sector-written_in (shown n (run (start base) calls)) at bytes s r (omega (arith, k, length-shown n (run (start base) calls))))
        | inr out ↦ ap (λ (o : Option (List ℕ)). unwrap_or o (newest (run (start base) calls s))) (outside at bytes s out) ∙ sym (sector-shown n (run (start base) calls) s k) ∙ sym (sector-written_other (shown n (run (start base) calls)) at bytes s out)
      ])

  pub content_written : (I : Image) → Some (shown n (run (start base) calls)) ≡ Some I → Some (shown n (run (start base) new)) ≡ Some (written I at bytes)
  content_written I told =
      let here : shown n (run (start base) calls) ≡ I = cc in
      ap (λ (J : Image). Some J) (shown_written ∙ ap (λ (J : Image). written J at bytes) here)

  pub told_write : at + sectors_in bytes ≤ n → (I : Image) → Some (shown n (run (start base) calls)) ≡ Some I → (J : Image) × (Some (shown n (run (start base) new)) ≡ Some J) × Torn at bytes I J
  told_write within I told = (written I at bytes, content_written I told, torn_all at bytes I (omega (arith, within, has_sectors n base calls I told)))

  pub pending_write : (X : Image) → IsOutcome n (run (start base) calls) X → IsOutcome n (run (start base) new) X
  pending_write X out = record {
    size = out.size;
    each = λ s h. subst (λ (l : List (List ℕ)). Contains l (sector X s)) (sym (choices s)) (Contains-append_left (run (start base) calls s) (option_to_list (put_into at bytes s)) (sector X s) (out.each s h));
  }

  -- what a sector held before, where it holds v now
  before : (s : ℕ) (v : List ℕ) → Contains (run (start base) new s) v → (y : List ℕ) × (Contains (run (start base) calls s) y × ((v ≡ y) ⊎ (InRange at bytes s × (v ≡ piece bytes (s - at)))))
  before s v found = ⊎_elim
      (λ old. (v, (old, inl refl)))
      (λ late. at_range (in_or_out at bytes s) late)
      (Contains-append_cases (run (start base) calls s) (option_to_list (put_into at bytes s)) v (subst (λ (l : List (List ℕ)). Contains l v) (choices s) found))
    where
      at_range : InRange at bytes s ⊎ (InRange at bytes s → ⊥) → Contains (option_to_list (put_into at bytes s)) v → (y : List ℕ) × (Contains (run (start base) calls s) y × ((v ≡ y) ⊎ (InRange at bytes s × (v ≡ piece bytes (s - at)))))
      at_range (inl r) late =
          let one = subst (λ (o : Option (List ℕ)). Contains (option_to_list o) v) (inside at bytes s r) late in
          let first : one.0 ≡ 0 = omega (arith, one.1) in
          (newest (run (start base) calls s), (contains_newest (run (start base) calls s) (some_choice base calls s), inr (r, sym one.2 ∙ ap (λ (k : ℕ). get_or (piece bytes (s - at) ∷ []) k v) first)))
      at_range (inr out) late =
          let none = subst (λ (o : Option (List ℕ)). Contains (option_to_list o) v) (outside at bytes s out) late in
          absurd (omega (arith, none.1))

  pub follows_write : (X : Image) → IsOutcome n (run (start base) new) X → (Y : Image) × IsOutcome n (run (start base) calls) Y × Torn at bytes Y X
  follows_write X out =
      let was = choose n (λ s y. Contains (run (start base) calls s) y × ((sector X s ≡ y) ⊎ (InRange at bytes s × (sector X s ≡ piece bytes (s - at))))) (λ s h. before s (sector X s) (out.each s h)) in (
        was.0,
        record { size = was.1; each = λ s h. (was.2 s h).0 },
        record {
          size = out.size ∙ sym was.1;
          each = λ s. elim (cases_lt s n) [
            | inl h ↦ (was.2 s h).1
            | inr past ↦ inl (sector_past X s (omega (arith, past, out.size)) ∙ sym (sector_past was.0 s (omega (arith, past, was.1))))
          ];
        },
      )

  pub leads_write : (Y X : Image) → IsOutcome n (run (start base) calls) Y → Torn at bytes Y X → IsOutcome n (run (start base) new) X
  leads_write Y X out torn = record {
    size = torn.size ∙ out.size;
    each = λ s h. ⊎_elim
        (λ same. subst (λ (v : List ℕ). Contains (run (start base) new s) v) (sym same) ((pending_write Y out).each s h))
        (λ fresh. subst (λ (v : List ℕ). Contains (run (start base) new s) v) (sym fresh.1) (subst (λ (l : List (List ℕ)). Contains l (piece bytes (s - at))) (sym (choices_in s fresh.0)) (Contains-push (run (start base) calls s) (piece bytes (s - at)))))
        (torn.each s);
  }

  -- the ghost fields
  module _ (old now : BTreeMap ℕ (List ℕ)) (puts : (s : ℕ) → stored now s ≡ unwrap_or (put_into at bytes s) (stored old s)) where
    puts_by : (s : ℕ) → stored now s ≡ unwrap_or (put_by wrote.0 s) (stored old s)
    puts_by s = puts s ∙ sym (ap (λ (o : Option (List ℕ)). unwrap_or o (stored old s)) (put.puts s))

    pub agrees_write : ((s : ℕ) → stored old s ≡ newest (run (start base) calls s)) → (s : ℕ) → stored now s ≡ newest (run (start base) new s)
    agrees_write agrees = agrees_more base calls new wrote.0 wrote.1 old now agrees puts_by

    pub touched_write : ((s : ℕ) → get nat_cmp now s ≡ None → get nat_cmp old s ≡ None)
        → ((s k : ℕ) → get nat_cmp old s ≡ None → k < length calls → put_or_zeros calls k s ≡ zero_sector) → (s k : ℕ) → get nat_cmp now s ≡ None → k < length new → put_or_zeros new k s ≡ zero_sector
    touched_write keys touched = touched_more base calls new wrote.0 wrote.1 old now keys puts_by touched

    pub sound_write : ((i : ℕ) → get_or bytes i 0 < 256) → ((s : ℕ) → IsSector (stored old s)) → (s : ℕ) → IsSector (stored now s)
    sound_write low sound s = subst IsSector (sym (puts s)) (here (in_or_out at bytes s))
      where
        here : InRange at bytes s ⊎ (InRange at bytes s → ⊥) → IsSector (unwrap_or (put_into at bytes s) (stored old s))
        here (inl r) = subst (λ (o : Option (List ℕ)). IsSector (unwrap_or o (stored old s))) (sym (inside at bytes s r)) (is_sector_piece bytes (s - at) (omega (arith, r.0, r.1)) low)
        here (inr out) = subst (λ (o : Option (List ℕ)). IsSector (unwrap_or o (stored old s))) (sym (outside at bytes s out)) (sound s)

-- the bytes of a read
pub bytes_read : (base : BTreeMap ℕ (List ℕ)) (calls : List Call) (n at : ℕ) (now : BTreeMap ℕ (List ℕ)) (old out : List ℕ) (I : Image) → at + length old / 512 ≤ n → length old % 512 ≡ 0
    → Some (shown n (run (start base) calls)) ≡ Some I → ((s : ℕ) → stored now s ≡ newest (run (start base) calls s)) → length out ≡ length old
    → ((i : ℕ) → i < length old → get_or out i 0 ≡ get_or (stored now (at + i / 512)) (i % 512) 0) → out ≡ bytes_from I (512 * at) (length old)
bytes_read base calls n at now old out I within whole told agrees long each =
    let here : shown n (run (start base) calls) ≡ I = cc in
    ext_get_or 0 out (bytes_from I (512 * at) (length old)) (long ∙ sym (length-map-range_with_len (byte I) (512 * at) (length old))) (λ i h.
    let k : i < length old = omega (arith, h, long) in
    let place : (512 * at + i) / 512 ≡ at + i / 512 = omega arith in
    let low : (512 * at + i) % 512 ≡ i % 512 = omega arith in
    each i k ∙ ap (λ (l : List ℕ). get_or l (i % 512) 0) (agrees (at + i / 512) ∙ sym (sector-shown n (run (start base) calls) (at + i / 512) (omega (arith, k, within, whole))) ∙ ap (λ (J : Image). sector J (at + i / 512)) here)
    ∙ sym (ap (λ (s : ℕ). get_or (sector I s) (i % 512) 0) place) ∙ sym (ap (λ (j : ℕ). get_or (sector I ((512 * at + i) / 512)) j 0) low)
    ∙ sym (get_or-map-range_with_len (byte I) (512 * at) (length old) i (512 * at + i) 0 k refl))
