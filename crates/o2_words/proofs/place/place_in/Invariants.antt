-- The words so far are read.
use Rattle.std.proofs.Common.{◌+◌, ◌≤◌, take}
use Rattle.o2_words.specs.Forms.{Leads, texts, most_words}
use Rattle.o2_words.proofs.place.place_in.Given as goal

abbrev pub invariant-loop-place : goal.invariant-loop-place
invariant-loop-place l = record { read : Leads l.form (take l.place (texts l.words)) l.left.items; few : l.place + most_words l.left.items ≤ most_words l.form }
