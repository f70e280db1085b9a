-- One hash more.
use Rattle.std.proofs.Common.{◌≡◌, ◌+◌, ◌∙◌, ap}
use Rattle.o2_indexes.specs.Places.{times_at}
use Rattle.o2_indexes.proofs.PlacesTold.{place_added}
use Rattle.o2_indexes.proofs.places.PlaceCounts.add.Goals as goal

pub returns-in-Ok-clause-ok : goal.returns-in-Ok-clause-ok
returns-in-Ok-clause-ok c ps are =
    let more : c.in-Some.now ≡ times_at c.args.self.now c.args.place + 1 = c.in-Some.ensures.1 ∙ ap (λ n. n + 1) c.count.ensures in
    place_added c.args.self.now _ ps c.args.place c.in-Some.now are more c.in-Ok.ensures.updates.0
