-- A run more, or a longer last one.
use Rattle.std.proofs.Common.{◌≡◌, true, length, ◌-◌, refl, sym, ◌∙◌, ap, subst, arith}
use Rattle.std.specs.Vec.{vec_len}
use Rattle.o2_view.specs.FreeRuns.{RiseApartFrom}
use Rattle.o2_view.specs.RunLists.{end_of_runs, Gains}
use Rattle.o2_view.specs.declared.run_list.RunList.TheInside.{Inside}
use Rattle.o2_view.proofs.RunLists.{ends_with, rise_push, gains_push, rise_longer, gains_longer}
use Rattle.o2_view.proofs.run_list.RunList.add.Goals.{in-Some, in_default-last_mut}
use Rattle.o2_view.proofs.run_list.RunList.add.Goals as goal

pub invariant_of-self-then-not-ends_at : goal.invariant_of-self-then-not-ends_at
invariant_of-self-then-not-ends_at c =
    let apart = c.ends_at.ensures.apart c.if-not-ends_at.true in
    subst (RiseApartFrom 0) (sym c.in-Ok.ensures.items)
    (rise_push c.self.inside.runs.items _ c.self.invariant (rw c.self.view_is c.requires.behind) (rw c.deref.ensures.value at apart) c.requires.some)

pub returns-then-not-ends_at : goal.returns-then-not-ends_at
returns-then-not-ends_at c =
    rw (← c.self.view_is)
    (subst (Gains (λ k. true) c.args.first c.args.count c.self.inside.runs.items) (sym c.in-Ok.ensures.items) (gains_push c.self.inside.runs.items c.args.first c.args.count))

pub overflow_add-last : goal.overflow_add-last
overflow_add-last c =
    let runs = c.self.inside.runs in
    let item = c.in-Some.ensures.item in
    let end = ends_with runs.items (vec_len runs - 1) c.in-Some.last.now (omega (arith, item.3.0, runs.ok.0)) item.1 in
    let meets : end_of_runs runs.items ≡ c.args.first = sym (ap end_of_runs c.deref.ensures.value) ∙ c.ends_at.ensures.meets c.if-not-ends_at.false in
    omega (arith, end, meets, c.requires.fits)

pub invariant_of-self-2 : goal.invariant_of-self-2
invariant_of-self-2 c =
    let runs = c.self.inside.runs in
    let meets : end_of_runs runs.items ≡ c.args.first = sym (ap end_of_runs c.deref.ensures.value) ∙ c.ends_at.ensures.meets c.if-not-ends_at.false in
    elim c.match-last_mut.branch [
      | in-Some w ↦
          let item = w.in-Some.ensures.item in
          subst (λ (inside : Inside). RiseApartFrom 0 inside.runs.items) (sym w.self-inside-is)
          (rise_longer runs.items (vec_len runs - 1) w.in-Some.last.now _ c.args.first c.args.count (omega (arith, item.3.0, runs.ok.0)) meets item.1 refl c.self.invariant)
      | in_default-last_mut w ↦ absurd (omega (arith, w.in_default-last_mut.ensures.item.3, c.ends_at.ensures.some c.if-not-ends_at.false, ap length c.deref.ensures.value))
    ]

pub returns : goal.returns
returns c =
    let runs = c.self.inside.runs in
    let meets : end_of_runs runs.items ≡ c.args.first = sym (ap end_of_runs c.deref.ensures.value) ∙ c.ends_at.ensures.meets c.if-not-ends_at.false in
    elim c.match-last_mut.branch [
      | in-Some w ↦
          let item = w.in-Some.ensures.item in
          subst (λ (inside : Inside). Gains (λ k. true) c.args.first c.args.count c.args.self.now inside.runs.items) (sym w.self-inside-is)
          (rw (← c.self.view_is) (gains_longer runs.items (vec_len runs - 1) w.in-Some.last.now _ c.args.first c.args.count (omega (arith, item.3.0, runs.ok.0)) meets item.1 refl))
      | in_default-last_mut w ↦ absurd (omega (arith, w.in_default-last_mut.ensures.item.3, c.ends_at.ensures.some c.if-not-ends_at.false, ap length c.deref.ensures.value))
    ]
