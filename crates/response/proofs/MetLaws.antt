-- What a search for a window says of its task, and hands on to the search for the task below. Assumes nothing.
use Rattle.std.specs.Prelude.{Some, None, is_some}
use mathlib.Core.Path.{◌≡◌, refl, sym, ap, ◌∙◌}
use mathlib.Core.Bool.{true, false}
use Prim.Native.Nat.{ℕ, suc, ◌+◌, ◌-◌, ◌≤◌, ◌<◌}
use native.Mathlib.Decide.{dec_lt}
use native.Mathlib.Numerals.{add-one}
use native.Mathlib.Omega.{arith}
use Rattle.equation.specs.System.{System, right, response_of, later, task_under}
use Rattle.rounding.specs.declared.Edges.{Edges}
use Rattle.rounding.specs.Edges.{Behind}
use Rattle.response.specs.Ready.{Ready}
use Rattle.response.specs.Columns.{met_under, fitted_in, accepted_in}
use lib.Dec.{leb}
use borrow.Author.Tests.{le-leb, lt-leb}
use Rattle.response.specs.Window.{Begins, FindsWindow, MetTo}
use Rattle.lists.proofs.All.{all_by, all_fails}
use Rattle.rounding.proofs.EdgesLaws.{kept_more}
use Rattle.equation.proofs.Rise.{Grows}
use Rattle.equation.proofs.Solve.{Solved, solve_answers}
use Rattle.equation.proofs.Standing.{stands_fresh}
use Rattle.equation.proofs.System.{Regular}
use Rattle.equation.proofs.Warm.{stands_below}
use Rattle.response.proofs.TaskLaws.{regular}

-- a search may begin at 1 with edges that stand behind every window
pub begins_fresh : (S : System) → Grows S.above → (i : ℕ) → Ready S i → {e : Edges} → Behind S.run S.every S.gap e i 1
    → Begins S i 1 e
begins_fresh S g i ready b =
    let x = regular S g i ready in
    record { stands = stands_fresh S i x.0 x.1; behind = b }

module _ (S : System) (i most : ℕ) {e : Edges} where
  -- no window: no response
  pub finds_none : FindsWindow S i (most - S.gap i) e None → None ≡ task_under S i most
  unfolding task_under
  finds_none f = ap (later (S.gap i)) f.is

  module _ {w : ℕ} (f : FindsWindow S i (most - S.gap i) e (Some w)) where
    -- a window: its response
    pub finds_at : Some (w + S.gap i) ≡ task_under S i most
    unfolding task_under response_of
    finds_at = ap (later (S.gap i)) f.is

    -- the response is at most `most`
    pub finds_within : w + S.gap i ≤ most
    finds_within =
        let o : Solved (right S i) (most - S.gap i) w = rw (← f.is) at (solve_answers (right S i) (most - S.gap i)) in
        omega (arith, o.low, o.high)

    -- the search for the task below may begin where this one ended
    pub begins_below : Grows S.above → 1 ≤ S.every i → Ready S i → Ready S (i + 1) → Begins S (i + 1) w e
    begins_below g some upper lower =
        let x = regular S g i upper in
        let s = x.1 in
        let o : Solved (right S i) (most - S.gap i) w = rw (← f.is) at (solve_answers (right S i) (most - S.gap i)) in
        let below : Regular S (suc i) x.0 = record {
          some = s.some;
          within = s.within;
          grows = g;
          runs = (rw add-one at lower).runs;
          fits = s.fits;
          ends = s.ends;
        } in
        record {
          stands = rw add-one (stands_below S i x.0 s below some w o.low (f.stands w refl));
          behind = kept_more (f.kept w refl) w (omega arith);
        }

-- The tasks from `from` up to r are met.
pub record MetSo (S : System) (deadline : ℕ → ℕ) (from n r : ℕ) : Type 0 where
  pub low : from ≤ r
  pub high : r ≤ n
  pub met : (j : ℕ) → from ≤ j → j < r → is_some (task_under S j (deadline j)) ≡ true

-- a loop starts: none has been looked at
pub met_none : (S : System) (deadline : ℕ → ℕ) (from n : ℕ) → from ≤ n → MetSo S deadline from n from
met_none S deadline from n h = record { low = omega arith; high = h; met = λ j l b. absurd (omega arith) }

module _ {S : System} {deadline : ℕ → ℕ} {from n r : ℕ} (s : MetSo S deadline from n r) where
  -- a turn: one more is met
  pub met_next : r < n → is_some (task_under S r (deadline r)) ≡ true → MetSo S deadline from n (r + 1)
  met_next h e = record {
    low = omega (arith, s.low);
    high = omega arith;
    met = λ j l b.
        elim (dec_lt j r) [
          | yes k ↦ s.met j l k
          | no k ↦ let q : r ≡ j = omega arith in rw (← q) e
        ];
  }

  -- the loop's end: the next one is not met, or there is none
  pub met_ends : (r < n → is_some (task_under S r (deadline r)) ≡ false) → MetTo S deadline from n r
  met_ends e = record { low = s.low; high = s.high; met = s.met; unmet = e }

-- all tasks are met exactly where none is the first that is not
pub met_tests : (S : System) (deadline : ℕ → ℕ) (n r : ℕ) → MetTo S deadline 0 n r → leb n r ≡ met_under S deadline n
unfolding met_under
met_tests S deadline n r s =
    let f = λ (i : ℕ). is_some (task_under S i (deadline i)) in
    elim (dec_lt r n) [
      | yes h ↦ lt-leb n r h ∙ all_fails f n r h (s.unmet h)
      | no h ↦ le-leb n r (omega arith) ∙ sym (all_by f n (λ j l. s.met j (omega arith) (omega arith)))
    ]

-- a fitted guest is accepted where all its tasks are met
pub fit_accepts : (S : System) (deadline : ℕ → ℕ) (n : ℕ) → fitted_in S ≡ true
    → met_under S deadline n ≡ accepted_in S deadline n
unfolding accepted_in
fit_accepts S deadline n e = rw e refl
