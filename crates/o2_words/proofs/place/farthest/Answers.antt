-- The farther place of two, and the farthest of all.
use Rattle.std.proofs.Common.{◌≡◌, ◌+◌, ◌<◌, ◌≤◌, ℕ, List, [], length, map, get_or, arith, sym, ◌∙◌, subst}
use Rattle.std.proofs.lemmas.List.{length-map, get_or-map}
use Rattle.o2_words.specs.Forms.{texts, Form, StopsAt, most_words}
use Rattle.o2_words.proofs.Places.{IsFarthest, farther, farthest_of_two, reaches}
use Rattle.o2_words.proofs.place.farthest.Goals as goal

pub loop-form-preserved : goal.loop-form-preserved
loop-form-preserved c =
    let forms : List Form = map (λ form. form.now) c.args.forms.now in
    let words = texts c.args.words.now in
    let k = c.loop-form.form-index in
    let place = c.in_ok-place_in.field-0 in
    let within : k < length c.args.forms.now = omega arith in
    let here : k < length forms = omega (arith, length-map c.args.forms.now (λ form. form.now)) in
    let stops : StopsAt (get_or forms k []) words place = subst (λ (f : Form). StopsAt f words place) (sym (get_or-map (λ form. form.now) c.args.forms.now k _ [] within)) c.in_ok-place_in.ensures.stops in
    let few : place ≤ most_words (get_or forms k []) = subst (λ (f : Form). place ≤ most_words f) (sym (get_or-map (λ form. form.now) c.args.forms.now k _ [] within)) c.in_ok-place_in.ensures.few in
    subst (IsFarthest forms words (k + 1)) (sym (c.max-farthest.ensures ∙ farther c.loop-form.farthest place)) (farthest_of_two forms words k c.loop-form.farthest place here c.loop-form.invariant stops few)

pub returns-clause-reaches : goal.returns-clause-reaches
returns-clause-reaches c =
    let forms : List Form = map (λ form. form.now) c.args.forms.now in
    let n : c.loop-form.form-index ≡ length forms = omega (arith, length-map c.args.forms.now (λ form. form.now)) in
    reaches forms (texts c.args.words.now) c.loop-form.farthest (omega (arith, length-map c.args.forms.now (λ form. form.now))) (subst (λ (k : ℕ). IsFarthest forms (texts c.args.words.now) k c.loop-form.farthest) n c.loop-form.invariant)
