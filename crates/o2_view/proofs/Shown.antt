-- What a view shows after a call.
use Rattle.std.proofs.Common.{◌≡◌, inl, inr, ◌⊎◌, ℕ, ◌*◌, ◌/◌, ◌^◌, true, false, List, length, refl, sym, ◌∙◌, ap, arith, Option, Some, None}
use Rattle.std.proofs.lemmas.Bool.{cases_Bool, cases_eq}
use Rattle.std.proofs.lemmas.Bool.Decides.{nat_tests}
use Rattle.std.specs.Prelude.{◌≢◌, ◌==◌, unwrap_or}
use Rattle.std.specs.Option.{option_or}
use Rattle.o2_disk.specs.Image.{Image, block_at}
use Rattle.o2_disk.specs.declared.disk.Disk as disk
use Rattle.o2_model.specs.Volume.{Volume, over}
use Rattle.o2_model.specs.declared.geo.Geo.{Geo}
use Rattle.o2_view.specs.Plans.{no_plan, with_home, with_fresh, with_zeros, home_at, fresh_at, is_in_run, is_in_runs, zero_block, planned_at, IsUnplanned}
use Rattle.o2_view.specs.Views.{view_state, view_bits, view_blocks, view_plan, closed_at, changed_at, Shows, OnlyReads, OnlyPlans, with_block, with_run}
use Rattle.o2_view.specs.declared.view.View.{View}
use Rattle.o2_view.proofs.Places.{last_here, last_other}
use Rattle.o2_view.proofs.PlannedBlocks.{home_planned, fresh_planned, zeros_planned, same_planned, none_planned}
use Rattle.o2_view.proofs.Spans.{runs_here, runs_other, is_in}

same_changed : {p q c d : Option (List ℕ)} → q ≡ p → d ≡ c → option_or q d ≡ option_or p c
same_changed first second = cc

block_here : (b c : ℕ) (bytes : List ℕ) (at : ℕ → List ℕ) → b ≡ c → with_block b bytes at c ≡ bytes
block_here b c bytes at same = let test : (b == c) ≡ true = grind (arith, nat_tests) in rw test refl

block_other : (b c : ℕ) (bytes : List ℕ) (at : ℕ → List ℕ) → (b ≡ c → ⊥) → with_block b bytes at c ≡ at c
block_other b c bytes at other = let test : (b == c) ≡ false = grind (arith, nat_tests) in rw test refl

module _ {D : Type 0} {N : ℕ} {g : disk.Ghosts D} where
  -- ---- the blocks under the plans
  planned_same : (old new : View D N g) → view_bits new ≡ view_bits old → (b : ℕ) → planned_at (2 ^ view_bits new) (view_plan new) b ≡ planned_at (2 ^ view_bits old) (view_plan new) b
  planned_same old new bits b = ap (λ n. planned_at (2 ^ n) (view_plan new) b) bits

  -- a volume whose blocks are as they were is still shown
  shows_same : {old new : View D N g} {geo : Geo} {v : Volume} → (view_state new).content ≡ (view_state old).content → view_bits new ≡ view_bits old → view_blocks new ≡ view_blocks old
      → ((b : ℕ) → changed_at new b ≡ changed_at old b) → Shows old geo v → Shows new geo v
  shows_same {old} {new} {geo} {v} content bits blocks changed shows = record {
    image = shows.image;
    told = content ∙ shows.told;
    numbers = shows.numbers;
    size = shows.size;
    blocks = λ b low. shows.blocks b (omega (arith, low, blocks)) ∙ (ap (λ c. unwrap_or c (block_at (2 ^ view_bits old) shows.image b)) (sym (changed b)) ∙ ap (λ n. unwrap_or (changed_at new b) (block_at (2 ^ n) shows.image b)) (sym bits));
  }

  -- a call that only reads keeps what is shown
  pub still_shows : {old new : View D N g} {geo : Geo} {v : Volume} → OnlyReads old new → Shows old geo v → Shows new geo v
  still_shows {old} {new} only shows = shows_same only.reads.content only.same.bits only.same.blocks only.same.changed shows

  pub showed_before : {old new : View D N g} {geo : Geo} {v : Volume} → OnlyReads old new → Shows new geo v → Shows old geo v
  showed_before {old} {new} only shows = shows_same (sym only.reads.content) (sym only.same.bits) (sym only.same.blocks) (λ b. sym (only.same.changed b)) shows

  -- where the device tells its content, some volume is shown
  pub some_volume : (view : View D N g) (geo : Geo) (I : Image) → (view_state view).content ≡ Some I
      → Shows view geo (record { geo = geo; at = λ b. unwrap_or (changed_at view b) (block_at (2 ^ view_bits view) I b); on_device = 512 * length I / 2 ^ geo.block_bits })
  some_volume view geo I told = record { image = I; told = told; numbers = refl; size = refl; blocks = λ b low. refl }

  -- over the bare device it is the device's
  pub bare_volume : (view : View D N g) (geo : Geo) (I : Image) → (view_state view).content ≡ Some I → view_plan view ≡ no_plan → ((b : ℕ) → closed_at view b ≡ None)
      → Shows view geo (record { geo = geo; at = block_at (2 ^ view_bits view) I; on_device = 512 * length I / 2 ^ geo.block_bits })
  bare_volume view geo I told none closed = record {
    image = I;
    told = told;
    numbers = refl;
    size = refl;
    blocks = λ b low. ap (λ c. unwrap_or c (block_at (2 ^ view_bits view) I b)) (sym (same_changed (ap (λ p. planned_at (2 ^ view_bits view) p b) none ∙ none_planned (2 ^ view_bits view) b) (closed b)));
  }

  -- ---- plans
  -- A change of the plan: each block is as it was, or has these bytes in the plan.
  shows_changed : {old new : View D N g} {geo : Geo} {v : Volume} → OnlyPlans old new → (at : ℕ → List ℕ)
      → ((b : ℕ) → ((at b ≡ v.at b) × (planned_at (2 ^ view_bits old) (view_plan new) b ≡ planned_at (2 ^ view_bits old) (view_plan old) b)) ⊎ (planned_at (2 ^ view_bits old) (view_plan new) b ≡ Some (at b)))
      → Shows old geo v → Shows new geo (over v at)
  shows_changed {old} {new} {geo} {v} only at each shows = record {
    image = shows.image;
    told = ap (λ d. (g.state d.now).content) only.disk ∙ shows.told;
    numbers = shows.numbers;
    size = shows.size;
    blocks = λ b low. elim (each b) [
      | inl same ↦
          same.0 ∙ (shows.blocks b (omega (arith, low, only.blocks))
          ∙ (ap (λ c. unwrap_or c (block_at (2 ^ view_bits old) shows.image b)) (sym (same_changed (planned_same old new only.bits b ∙ same.1) (only.closed b)))
          ∙ ap (λ n. unwrap_or (changed_at new b) (block_at (2 ^ n) shows.image b)) (sym only.bits)))
      | inr planned ↦ ap (λ c. unwrap_or c (block_at (2 ^ view_bits new) shows.image b)) (sym (same_changed (planned_same old new only.bits b ∙ planned) refl))
    ];
  }

  pub shows_home : {old new : View D N g} {geo : Geo} {v : Volume} → OnlyPlans old new → (b : ℕ) (bytes : List ℕ) → view_plan new ≡ with_home (view_plan old) b bytes
      → home_at (view_plan new) b ≡ Some bytes → ((c : ℕ) → c ≢ b → home_at (view_plan new) c ≡ home_at (view_plan old) c) → Shows old geo v → Shows new geo (over v (with_block b bytes v.at))
  shows_home {old} {new} {geo} {v} only b bytes is here others shows = shows_changed only (with_block b bytes v.at)
      (λ c. elim (cases_eq b c) [
        | inl same ↦ inr (home_planned _ (view_plan new) c bytes (ap (home_at (view_plan new)) (sym same) ∙ here) ∙ ap (λ x. Some x) (sym (block_here b c bytes v.at same)))
        | inr other ↦ inl (
          block_other b c bytes v.at other,
          same_planned _ (view_plan new) (view_plan old) c (others c (λ e. other (sym e))) (ap (λ p. fresh_at p c) is) (ap (λ p. is_in_runs p.zeros c) is),
        )
      ])
      shows

  pub shows_fresh : {old new : View D N g} {geo : Geo} {v : Volume} → OnlyPlans old new → (b : ℕ) (bytes : List ℕ) → view_plan new ≡ with_fresh (view_plan old) b bytes
      → home_at (view_plan old) b ≡ None → Shows old geo v → Shows new geo (over v (with_block b bytes v.at))
  shows_fresh {old} {new} {geo} {v} only b bytes is none shows = shows_changed only (with_block b bytes v.at)
      (λ c. elim (cases_eq b c) [
        | inl same ↦ inr (
            fresh_planned _ (view_plan new) c bytes (ap (λ p. home_at p c) is ∙ (ap (home_at (view_plan old)) (sym same) ∙ none)) (ap (λ p. fresh_at p c) is ∙ last_here (view_plan old).fresh b bytes c same)
            ∙ ap (λ x. Some x) (sym (block_here b c bytes v.at same))
            )
        | inr other ↦ inl (
          block_other b c bytes v.at other,
          same_planned _ (view_plan new) (view_plan old) c (ap (λ p. home_at p c) is) (ap (λ p. fresh_at p c) is ∙ last_other (view_plan old).fresh b bytes c other) (ap (λ p. is_in_runs p.zeros c) is),
        )
      ])
      shows

  pub shows_zeros : {old new : View D N g} {geo : Geo} {v : Volume} → OnlyPlans old new → (first count : ℕ) → view_plan new ≡ with_zeros (view_plan old) first count
      → IsUnplanned (view_plan old) first count → Shows old geo v → Shows new geo (over v (with_run first count (zero_block (2 ^ view_bits old)) v.at))
  shows_zeros {old} {new} {geo} {v} only first count is none shows = shows_changed only (with_run first count (zero_block (2 ^ view_bits old)) v.at)
      (λ c. elim (cases_Bool (is_in_run c (first, count))) [
        | inl inside ↦
            let in_run = is_in first count c inside in
            let free = none c in_run.0 in_run.1 in
            inr (
            zeros_planned _ (view_plan new) c (ap (λ p. home_at p c) is ∙ free.0) (ap (λ p. fresh_at p c) is ∙ free.1) (ap (λ p. is_in_runs p.zeros c) is ∙ runs_here (view_plan old).zeros first count c in_run.0 in_run.1)
            ∙ rw inside refl
            )
        | inr outside ↦ inl (
          rw outside refl,
          same_planned _ (view_plan new) (view_plan old) c (ap (λ p. home_at p c) is) (ap (λ p. fresh_at p c) is) (ap (λ p. is_in_runs p.zeros c) is ∙ runs_other (view_plan old).zeros first count c outside),
        )
      ])
      shows

  -- a plan that is closed is still shown
  pub shows_closed : {old new : View D N g} {geo : Geo} {v : Volume} → (view_state new).content ≡ (view_state old).content → view_bits new ≡ view_bits old → view_blocks new ≡ view_blocks old
      → view_plan new ≡ no_plan → ((b : ℕ) → closed_at new b ≡ changed_at old b) → Shows old geo v → Shows new geo v
  shows_closed {old} {new} content bits blocks none under shows =
      shows_same content bits blocks (λ b. same_changed (ap (λ p. planned_at (2 ^ view_bits new) p b) none ∙ none_planned (2 ^ view_bits new) b) (under b)) shows
