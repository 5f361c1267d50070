-- The tests of all tasks are few: each task is searched from where the one before it ended, so the climb to 32 is shared
-- by them. Assumes nothing.
use Rattle.std.specs.Prelude.{Option, Some, None}
use mathlib.Core.Path.{◌≡◌, refl, sym, ◌∙◌, ap}
use mathlib.Core.Bool.{Bool, true, false, false≢true, ◌&&◌}
use Prim.Native.Nat.{ℕ, zero, suc, min, ◌+◌, ◌-◌, ◌*◌, ◌≤◌, ◌<◌}
use native.Mathlib.Decide.{dec_le}
use native.Mathlib.Omega.{arith}
use Rattle.lists.specs.Choice.{pick}
use Rattle.lists.specs.Search.{least}
use Rattle.plan.specs.Ranges.{longest}
use Rattle.capacity.specs.Search.{few}
use Rattle.capacity.specs.Tries.{tries_in, tries_from, end_of, tests_in}
use Rattle.equation.proofs.Halve.{Halving}
use Rattle.lists.proofs.All.{and_true}
use Rattle.lists.proofs.Search.{First, Says, least_says}
use Rattle.capacity.proofs.Tries.{past_most, climb_most, from_small}

-- the first that passes is no more than one that does
first_under : {f : ℕ → Bool} {d x y a : ℕ} → First f d x y → f a ≡ true → x ≤ a → y ≤ a
first_under {f} {d} {x} {y} {a} s e l =
    elim (dec_le y a) [ yes h ↦ h | no n ↦ absurd (false≢true (sym (s.first a l (omega arith)) ∙ e)) ]

module _ (fit : ℕ → Bool) (m : ℕ → ℕ → Bool) (period : ℕ) where
  -- no task is left: no test is made
  no_task_lem : (i c : ℕ) → tests_in fit m period 0 i c ≡ 0
  unfolding tests_in
  no_task_lem i c = refl

  -- the tests for task i and those after it
  abbrev first : (i c : ℕ) → ℕ
  first i c = tries_from fit (λ z. fit z && m i z) period c

  -- a task that is met somewhere: those after it are searched from there
  task_goes_on : (left i c d : ℕ) → end_of fit m period i c ≡ Some d
      → tests_in fit m period (suc left) i c ≡ first i c + tests_in fit m period left (suc i) d
  unfolding tests_in
  task_goes_on left i c d e = rw (e, tests_in) refl

  -- a task that is met nowhere is the last that is searched
  task_ends : (left i c : ℕ) → end_of fit m period i c ≡ None → tests_in fit m period (suc left) i c ≡ first i c
  unfolding tests_in
  task_ends left i c e = rw (e, tests_in) (omega arith)

  -- where the search of a task ends says whether one was found
  ended : (i c : ℕ) → Says (λ z. fit z && m i z) (period + 1 - c) c (end_of fit m period i c)
  ended i c = least_says (λ z. fit z && m i z) (period + 1 - c) c

  -- the tests for one task, from past 32 and from before
  one_most : period ≤ longest → (i c : ℕ) → min c (few + 1) + first i c ≤ few + 1 + 35
  one_most short i c = go (fit c && m i c)
    where
      go : (b : Bool)
          → min c (few + 1)
          + suc (pick b 0 (tries_in fit (λ z. fit z && m i z) period (period + 1) (c + 1) (period + 1)))
          ≤ few + 1 + 35
      go true = omega arith
      go false =
          elim (dec_le (c + 1) (few + 1)) [
            | yes l ↦ omega (arith, climb_most fit (λ z. fit z && m i z) period (period + 1) (c + 1) short l)
            | no n ↦ omega (
              arith,
              past_most fit (λ z. fit z && m i z) period (period + 1) (c + 1) short (omega arith),
            )
          ]

  module _ (n : ℕ) (good : (i : ℕ) → i < n → Halving fit (λ z. fit z && m i z)) where
    -- Where all are met at a, up to 32, a test for each task and one for each capacity that is passed: no more than a
    -- search upward makes.
    pub tests_small : (a : ℕ) → 1 ≤ a → a ≤ period → a ≤ few → fit a ≡ true → (left i c : ℕ) → i + left ≤ n
        → ((j : ℕ) → j < n → m j a ≡ true) → 1 ≤ c → c ≤ a → c + tests_in fit m period left i c ≤ a + left
    tests_small a low high l f zero i c h w pos k = omega (arith, no_task_lem i c)
    tests_small a low high l f (suc left) i c h w pos k =
        go (end_of fit m period i c) refl (ended i c) (λ d. tests_small a low high l f left (suc i) d (omega arith) w)
      where
        go : (e : Option ℕ) → end_of fit m period i c ≡ e → Says (λ z. fit z && m i z) (period + 1 - c) c e
            → ((d : ℕ) → 1 ≤ d → d ≤ a → d + tests_in fit m period left (suc i) d ≤ a + left)
            → c + tests_in fit m period (suc left) i c ≤ a + suc left
        go None q s more = absurd (false≢true (sym (s.never a k (omega arith)) ∙ and_true f (w i (omega arith))))
        go (Some d) q s more =
            let under = first_under s (and_true f (w i (omega arith))) k in
            let t = from_small fit (λ z. fit z && m i z) (good i (omega arith)) period d (omega (arith, s.low))
            (omega (arith, under)) s.holds (omega (arith, under)) c s.low in
            omega (arith, task_goes_on left i c d q, t, more d (omega (arith, s.low)) under)

    -- At most 32 + 35 * n tests are made for n tasks: the climb to 32 is shared by them.
    pub tests_most : period ≤ longest → (left i c : ℕ) → i + left ≤ n → 1 ≤ c
        → min c (few + 1) + tests_in fit m period left i c ≤ few + 1 + 35 * left
    tests_most short zero i c h pos = omega (arith, no_task_lem i c)
    tests_most short (suc left) i c h pos =
        go (end_of fit m period i c) refl (ended i c) (λ d. tests_most short left (suc i) d (omega arith))
      where
        go : (e : Option ℕ) → end_of fit m period i c ≡ e → Says (λ z. fit z && m i z) (period + 1 - c) c e
            → ((d : ℕ) → 1 ≤ d → min d (few + 1) + tests_in fit m period left (suc i) d ≤ few + 1 + 35 * left)
            → min c (few + 1) + tests_in fit m period (suc left) i c ≤ few + 1 + 35 * suc left
        go None q s more = omega (arith, task_ends left i c q, one_most short i c)
        go (Some d) q s more =
            let rest = more d (omega (arith, s.low)) in
            elim (dec_le d few) [
              | no o ↦ omega (arith, task_goes_on left i c d q, one_most short i c, rest)
              | yes o ↦ let t = from_small fit (λ z. fit z && m i z) (good i (omega arith)) period d
                  (omega (arith, s.low)) (omega (arith, s.low, s.high)) s.holds o c s.low in
                  omega (arith, task_goes_on left i c d q, s.low, t, rest)
            ]

-- the tests depend on no other tasks than those that are searched
pub tests_ext : (fit : ℕ → Bool) (m m' : ℕ → ℕ → Bool) (period n : ℕ) → ((i : ℕ) → i < n → m i ≡ m' i)
    → (left i c : ℕ) → i + left ≤ n → tests_in fit m period left i c ≡ tests_in fit m' period left i c
tests_ext fit m m' period n e zero i c h = no_task_lem fit m period i c ∙ sym (no_task_lem fit m' period i c)
tests_ext fit m m' period n e (suc left) i c h =
    go (end_of fit m period i c) refl (λ d. tests_ext fit m m' period n e left (suc i) d (omega arith))
  where
    q : m i ≡ m' i
    q = e i (omega arith)

    same : tries_from fit (λ z. fit z && m i z) period c ≡ tries_from fit (λ z. fit z && m' i z) period c
    same = ap (λ (f : ℕ → Bool). tries_from fit (λ z. fit z && f z) period c) q

    ends : end_of fit m period i c ≡ end_of fit m' period i c
    ends = ap (λ (f : ℕ → Bool). least (λ z. fit z && f z) (period + 1 - c) c) q

    go : (o : Option ℕ) → end_of fit m period i c ≡ o
        → ((d : ℕ) → tests_in fit m period left (suc i) d ≡ tests_in fit m' period left (suc i) d)
        → tests_in fit m period (suc left) i c ≡ tests_in fit m' period (suc left) i c
    go None o more =
        omega (arith, task_ends fit m period left i c o, task_ends fit m' period left i c (sym ends ∙ o), same)
    go (Some d) o more =
        omega (
          arith,
          task_goes_on fit m period left i c d o,
          task_goes_on fit m' period left i c d (sym ends ∙ o),
          same,
          more d,
        )
