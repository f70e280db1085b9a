-- The farthest place of the forms so far.
use Rattle.std.proofs.Common.{map}
use Rattle.o2_words.specs.Forms.{texts}
use Rattle.o2_words.proofs.Places.{IsFarthest}
use Rattle.o2_words.proofs.place.farthest.Given as goal

abbrev pub invariant-loop-form : goal.invariant-loop-form
invariant-loop-form l = IsFarthest (map (λ form. form.now) l.forms) (texts l.words) l.form-index l.farthest
