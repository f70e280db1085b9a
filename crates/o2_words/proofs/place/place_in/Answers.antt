-- A word that is not read, and a word more that is.
use Rattle.std.proofs.Common.{◌≡◌, ◌+◌, ◌<◌, ℕ, List, length, get_or, [], sym, subst, arith}
use Rattle.o2_words.specs.Forms.{texts, Form, Follows}
use Rattle.o2_words.proofs.Readings.{one_fewer}
use Rattle.o2_words.proofs.Places.{text_at, within_texts, reads_more}
use Rattle.o2_words.proofs.place.place_in.Goals as goal

pub returns-in-None-clause-stops : goal.returns-in-None-clause-stops
returns-in-None-clause-stops c =
    let words = c.args.words.now in
    let k = c.loop-place.place in
    let is : get_or (texts words) k [] ≡ c.as_str.result.now = text_at words k c.index-words-place.result c.as_str.result.now (omega arith) c.index-words-place.is c.as_str.ensures.value in
    let none : (rest : Form) → Follows c.deref.result.now c.as_str.result.now rest → ⊥ = rw c.in-None.is at c.in_ok-read_word.ensures in
    record {
      within = within_texts words k (omega arith);
      left = c.loop-place.left.items;
      leads = c.loop-place.invariant.read;
      stops = λ within rest follows. none rest (subst (λ (f : Form). Follows f c.as_str.result.now rest) (sym c.deref.ensures.value) (subst (λ (w : List ℕ). Follows c.loop-place.left.items w rest) is follows));
    }

pub loop-place-preserved : goal.loop-place-preserved
loop-place-preserved c =
    let words = c.args.words.now in
    let k = c.loop-place.place in
    let is : get_or (texts words) k [] ≡ c.as_str.result.now = text_at words k c.index-words-place.result c.as_str.result.now (omega arith) c.index-words-place.is c.as_str.ensures.value in
    let there : Follows c.deref.result.now c.as_str.result.now c.in-Some.rest.items = rw c.in-Some.is at c.in_ok-read_word.ensures in
    let follows : Follows c.loop-place.left.items c.as_str.result.now c.in-Some.rest.items = subst (λ (f : Form). Follows f c.as_str.result.now c.in-Some.rest.items) c.deref.ensures.value there in
    let within : k < length (texts words) = omega (arith, within_texts words (k + 1) (omega arith)) in
    record {
      read = reads_more c.args.form.now c.loop-place.left.items c.in-Some.rest.items (texts words) k c.as_str.result.now within is c.loop-place.invariant.read follows;
      few = omega (arith, one_fewer c.loop-place.left.items c.as_str.result.now c.in-Some.rest.items follows);
    }
