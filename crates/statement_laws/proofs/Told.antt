-- What a tenant may read off a statement whose entries the dispatcher told: the word of demand 3, in figures. Assumes
-- nothing.
use Rattle.std.specs.Prelude.{Ok}
use mathlib.Core.Path.{◌≡◌, refl, ◌∙◌}
use mathlib.Core.Bool.{Bool, true, false}
use mathlib.Core.List.{List, [], ◌∷◌}
use Prim.Native.Nat.{ℕ, ◌≤◌}
use native.Mathlib.Omega.{arith}
use lib.Dec.{eqb}
use lib.IntN.{◌+ℤ◌}
use borrow.Author.Tests.{eqb-true, lt-ltb, le-ltb}
use Rattle.lists.specs.Choice.{pick}
use Rattle.lists.specs.Places.{nth}
use Rattle.plan.specs.declared.Plan.{Plan}
use Rattle.plan.specs.Place.{place_of, has_guest, has_task}
use Rattle.planfile.specs.Records.{read_of}
use Rattle.margins.specs.Margin.{margin_of}
use Rattle.verdict.specs.declared.TaskVerdict.TheVariants.{Met}
use Rattle.verdict.specs.Verdict.{task_verdict}
use Rattle.verdict.specs.Quoted.{Quoted}
use Rattle.logblock.specs.declared.Entry.{Entry}
use Rattle.history.specs.Calls.{start, play, answer_of, CanStart}
use Rattle.dispatcher.specs.declared.Answer.TheVariants.{Finished}
use Rattle.history.specs.Named.{guest_by, deadline_by}
use Rattle.statement.specs.Lines.{margins_at, empty}
use Rattle.statement_laws.specs.Entries.{names, ages_of, greatest, late_in, margins_in}
use Rattle.statement_laws.specs.LineSays.{task_line}
use Rattle.statement_laws.specs.Taken.{statement_after, counted_entries}
use Rattle.statement_laws.specs.Told.{ToldFinish, EachTold, told_margins}
use Rattle.lists.proofs.All.{and_left, and_right}
use Rattle.plan.proofs.RangesLaws.{within_right}
use Rattle.verdict.proofs.Quoted.{met_quoted}
use Rattle.verdict_laws.proofs.Tasks.{quoted_means}
use Rattle.history.proofs.NeverLate.{never_late, met_not_late}
use Rattle.statement_laws.proofs.Counts.{statement_counts}

-- A quoted task is one of the plan's.
quoted_there : (p : Plan) (id number R : ℕ) → Quoted p id number R
    → (has_guest p id ≡ true) × (has_task p id number ≡ true)
unfolding has_guest has_task
quoted_there p id number R quoted =
    let t = (quoted_means p id number R quoted).0 in (
      lt-ltb (place_of p id) p.count t.there.place,
      within_right (guest_by p id).tasks number (omega (arith, t.from_1)) (omega (arith, t.from_1, t.in_guest)),
    )

-- None is late where the greatest age is within the deadline.
none_late : (deadline : ℕ) (ages : List ℕ) → greatest ages ≤ deadline → late_in deadline ages ≡ 0
unfolding greatest late_in
none_late deadline [] h = refl
none_late deadline (age ∷ ages) h =
    rw (le-ltb deadline age (omega arith), none_late deadline ages (omega arith)) refl

module _ (p : Plan) (id number : ℕ) where
  -- An entry that names the task was told as its finish.
  named_told : (e : Entry) → names id number e ≡ true → (t : ToldFinish p e)
      → answer_of t.call (play t.before (start p)) ≡ Finished id number e.age t.margin
  named_told e n t =
      let a : e.guest ≡ id = eqb-true _ _ (and_left (eqb e.guest id) _ n) in
      let b : e.task ≡ number = eqb-true _ _ (and_right (eqb e.guest id) _ n) in
      t.told ∙ rw (a, b) refl

  -- Where each age that was told of the task is at most R, so is the greatest of them.
  told_most : (R : ℕ)
      → ((e : Entry) → names id number e ≡ true → ToldFinish p e → e.age ≤ R)
      → (es : List Entry)
      → EachTold p es
      → greatest (ages_of id number es) ≤ R
  unfolding ages_of greatest
  told_most R most [] told = omega arith
  told_most R most (e ∷ es) told = by (names id number e) refl (told_most R most es told.1)
    where
      by : (n : Bool) → names id number e ≡ n → greatest (ages_of id number es) ≤ R
          → greatest (pick n (e.age ∷ ages_of id number es) (ages_of id number es)) ≤ R
      by true q h = omega (arith, most e q told.0)
      by false q h = h

  -- Where each margin that was told of the task is the deadline less the age, so is their sum.
  told_sum :
      ((e : Entry) → names id number e ≡ true → (t : ToldFinish p e)
      → t.margin ≡ margin_of (deadline_by p id number) e.age)
      → (es : List Entry) (told : EachTold p es)
      → margins_in (deadline_by p id number) (ages_of id number es) ≡ told_margins p id number es told
  unfolding ages_of margins_in told_margins
  told_sum is [] told = refl
  told_sum is (e ∷ es) told = by (names id number e) refl (told_sum is es told.1)
    where
      by : (n : Bool) → names id number e ≡ n
          → margins_in (deadline_by p id number) (ages_of id number es) ≡ told_margins p id number es told.1
          → margins_in (deadline_by p id number) (pick n (e.age ∷ ages_of id number es) (ages_of id number es))
          ≡ pick n (told.0.margin +ℤ told_margins p id number es told.1) (told_margins p id number es told.1)
      by true q h = rw (h, is e q told.0) refl
      by false q h = h

module _ (plan : List ℕ) (logs : List (List ℕ)) (can : CanStart (read_of plan).plan)
    (told : EachTold (read_of plan).plan (counted_entries plan logs empty)) (id number R : ℕ) where
  -- What was told of a quoted task is in time for R, and has its margin.
  as_told : Quoted (read_of plan).plan id number R
      → (e : Entry) → names id number e ≡ true → (t : ToldFinish (read_of plan).plan e)
      → (e.age ≤ R) × (t.margin ≡ margin_of (deadline_by (read_of plan).plan id number) e.age)
  as_told quoted e n t =
      never_late (read_of plan).plan id number R quoted can t.before t.call e.age t.margin
      (named_told (read_of plan).plan id number e n t)

  -- 4. A task is quoted R, and what was counted is what the dispatcher told: the longest age in the task's line is at
  -- most R.
  pub longest_within_R :
      Quoted (read_of plan).plan id number R
      → nth (statement_after plan logs empty).longest (task_line (read_of plan).plan id number) ≤ R
  longest_within_R quoted =
      let p : Plan = (read_of plan).plan in
      let there = quoted_there p id number R quoted in
      rw (statement_counts plan logs id number there.0 there.1).longest
      (told_most p id number R
      (λ e n t. (as_told quoted e n t).0)
      (counted_entries plan logs empty) told)

  -- The sum in its line is that of the margins that were told.
  pub sum_as_told :
      Quoted (read_of plan).plan id number R
      → margins_at (statement_after plan logs empty) (task_line (read_of plan).plan id number)
      ≡ told_margins (read_of plan).plan id number (counted_entries plan logs empty) told
  sum_as_told quoted =
      let p : Plan = (read_of plan).plan in
      let there = quoted_there p id number R quoted in
      (statement_counts plan logs id number there.0 there.1).margins
      ∙ told_sum p id number
      (λ e n t. (as_told quoted e n t).1)
      (counted_entries plan logs empty) told

  -- A task is met: none is late in its line.
  pub met_none_late :
      task_verdict (read_of plan).plan id number ≡ Ok (Met R)
      → nth (statement_after plan logs empty).late (task_line (read_of plan).plan id number) ≡ 0
  met_none_late met =
      let p : Plan = (read_of plan).plan in
      let there = quoted_there p id number R (met_quoted p id number R met) in
      (statement_counts plan logs id number there.0 there.1).late
      ∙ none_late (deadline_by p id number) (ages_of id number (counted_entries plan logs empty))
      (told_most p id number (deadline_by p id number)
      (λ e n t. (met_not_late p id number R met can t.before t.call e.age t.margin
      (named_told p id number e n t)).0)
      (counted_entries plan logs empty) told)
