-- What a sink took, piece by piece.
use Rattle.std.proofs.Common.{◌≡◌, ℕ, ◌+◌, ◌-◌, ◌≤◌, ◌<◌, List, [], ◌∷◌, ◌++◌, length, take, drop, get_or, Some, sym, ◌∙◌, ap, append_assoc}
use Rattle.std.specs.List.{concat}
use Rattle.std.proofs.Math.Seq.{take-add}
use Rattle.std.proofs.lemmas.List.{take_all, take_more, take_rest, take-append-drop, append-nil, drop_more}
use Rattle.std.proofs.lemmas.List.Folds.{concat-append}
use Rattle.o2_disk.specs.Output.{SinkState}
use Rattle.o2_cause.specs.Taken.{Takes, TakesSome}

-- nothing was put
pub takes_nothing : (d : SinkState) → Takes d d []
takes_nothing d = record { taken = λ T told. told ∙ ap (λ (t : List ℕ). Some t) (sym (append-nil T)) }

-- a call that put nothing
pub takes_none : {a b : SinkState} → b.taken ≡ a.taken → Takes a b []
takes_none same = record { taken = λ T told. same ∙ told ∙ ap (λ (t : List ℕ). Some t) (sym (append-nil T)) }

-- one text, and then another
pub takes_both : {a b c : SinkState} {s t : List ℕ} → Takes a b s → Takes b c t → Takes a c (s ++ t)
takes_both {s = s} {t = t} first second = record {
  taken = λ T told. second.taken (T ++ s) (first.taken T told) ∙ ap (λ (u : List ℕ). Some u) (append_assoc T s t);
}

-- the same text in another shape
pub takes_as : {a b : SinkState} {s t : List ℕ} → s ≡ t → Takes a b s → Takes a b t
takes_as same takes = record { taken = λ T told. takes.taken T told ∙ ap (λ (u : List ℕ). Some (T ++ u)) same }

-- n bytes more, of those behind the first k
pub takes_more : {a b c : SinkState} → (k n : ℕ) (text : List ℕ) → Takes a b (take k text) → ((T : List ℕ) → b.taken ≡ Some T → c.taken ≡ Some (T ++ take n (take (length text - k) (drop k text)))) → Takes a c (take (k + n) text)
takes_more k n text first second = takes_as (ap (λ (rest : List ℕ). take k text ++ take n rest) (take_rest text k) ∙ sym (take-add k n text)) (takes_both first (record { taken = second }))

-- all of it
pub takes_whole : {a b : SinkState} → (k : ℕ) (text : List ℕ) → length text ≤ k → Takes a b (take k text) → Takes a b text
takes_whole k text past takes = takes_as (take_all k text past) takes

-- all of a text is some of it
pub all_is_some : {a b : SinkState} {text : List ℕ} → Takes a b text → TakesSome a b text
all_is_some {text = text} takes = record {
  some = λ T told. record { front = text; rest = []; whole = sym (append-nil text); taken = takes.taken T told };
}

-- the first k bytes were taken, and a put that failed took none
pub stopped_at : {a b : SinkState} → (c : SinkState) (k : ℕ) (text : List ℕ) → Takes a b (take k text) → c.taken ≡ b.taken → TakesSome a c text
stopped_at c k text takes same = record {
  some = λ T told. record { front = take k text; rest = drop k text; whole = sym (take-append-drop k text); taken = same ∙ takes.taken T told };
}

-- all of a text, and some of the next
pub some_of_next : {a b c : SinkState} {s t : List ℕ} → Takes a b s → TakesSome b c t → TakesSome a c (s ++ t)
some_of_next {s = s} first next = record {
  some = λ T told.
      let part = next.some (T ++ s) (first.taken T told) in
      record {
        front = s ++ part.front;
        rest = part.rest;
        whole = ap (λ (u : List ℕ). s ++ u) part.whole ∙ sym (append_assoc s part.front part.rest);
        taken = part.taken ∙ ap (λ (u : List ℕ). Some u) (append_assoc T s part.front);
      };
}

-- some of the first text is some of both
pub some_of_both : {a b : SinkState} {s : List ℕ} → (t : List ℕ) → TakesSome a b s → TakesSome a b (s ++ t)
some_of_both t first = record {
  some = λ T told.
      let part = first.some T told in
      record {
        front = part.front;
        rest = part.rest ++ t;
        whole = ap (λ (u : List ℕ). u ++ t) part.whole ∙ append_assoc part.front part.rest t;
        taken = part.taken;
      };
}

-- the same text in another shape
pub some_as : {a b : SinkState} {s t : List ℕ} → s ≡ t → TakesSome a b s → TakesSome a b t
some_as same first = record {
  some = λ T told. let part = first.some T told in record { front = part.front; rest = part.rest; whole = sym same ∙ part.whole; taken = part.taken };
}

-- ---- lines
-- one line more
pub lines_more : (lines : List (List ℕ)) (i : ℕ) (item line : List ℕ) → i < length lines → item ≡ get_or lines i item → line ≡ item → concat (take i lines) ++ line ≡ concat (take (i + 1) lines)
lines_more lines i item line within is same = sym (
    ap concat (take_more lines i item within)
    ∙ ap (λ (l : List ℕ). concat (take i lines ++ l ∷ [])) (sym is)
    ∙ concat-append (take i lines) (item ∷ [])
    ∙ ap (λ (l : List ℕ). concat (take i lines) ++ l) (append-nil item ∙ sym same)
    )

-- those before a line, the line, and those behind it
pub lines_around : (lines : List (List ℕ)) (i : ℕ) (item line : List ℕ) → i < length lines → item ≡ get_or lines i item → line ≡ item → concat (take i lines) ++ (line ++ concat (drop (i + 1) lines)) ≡ concat lines
lines_around lines i item line within is same =
    ap (λ (l : List ℕ). concat (take i lines) ++ (l ++ concat (drop (i + 1) lines))) (same ∙ is)
    ∙ (ap (λ (ls : List (List ℕ)). concat (take i lines) ++ concat ls) (sym (drop_more lines i item within))
    ∙ (sym (concat-append (take i lines) (drop i lines))
    ∙ ap concat (take-append-drop i lines)))
