-- A guest's tasks in two orders: where the guest is accepted in some order, it is accepted in one that goes by
-- deadline. Assumes nothing.
use mathlib.Core.Path.{◌≡◌, refl, sym, ◌∙◌, ap}
use mathlib.Core.Bool.{true, false}
use mathlib.Core.List.{List}
use Prim.Native.Nat.{ℕ, ◌-◌, ◌≤◌, ◌<◌}
use native.Mathlib.Omega.{arith}
use Rattle.lists.specs.Places.{nth}
use Rattle.equation.specs.System.{gap_for}
use Rattle.plan.specs.Charge.{charged_run}
use Rattle.plan.specs.Marks.{is_bound}
use Rattle.plan.specs.Records.{run_of, every_of, deadline_of}
use Rattle.plan.specs.declared.Guest.{Guest}
use Rattle.response.specs.Columns.{met_under, fitted_in, accepted_in, accepted_under}
use Rattle.response.specs.Task.{gap, system_of}
use Rattle.order.specs.Reordered.{reordered}
use Rattle.order_laws.specs.Orders.{IsOrder, GoesBy}
use Rattle.lists.proofs.All.{and_left, and_right, and_true, all_at, all_by}
use Rattle.equation.proofs.Rise.{Grows}
use Rattle.equation.proofs.System.{Regular}
use Rattle.plan.proofs.Charge.{charged_least}
use Rattle.plan.proofs.RangesLaws.{GuestIn}
use Rattle.response.proofs.TaskLaws.{regular}
use Rattle.order.proofs.Reordered.{run_at, every_at, deadline_at, task_in}
use Rattle.order_laws.proofs.ByDeadline.{TwoOrders, response_meets, meets_response, by_deadline}
use Rattle.order_laws.proofs.Orders.{stands_at, each_stands}

module _ (g : Guest) (s : GuestIn g) (free : (i : ℕ) → i < g.tasks → is_bound g i ≡ false) (above : ℕ → ℕ)
    (a b : List ℕ) (oa : IsOrder g.tasks a) (ob : IsOrder g.tasks b) where
  -- Where the task at place i of b stands in a.
  abbrev at : ℕ → ℕ
  at i = stands_at a g.tasks (nth b i)

  -- It is one of the places, and holds that task.
  at_is : (i : ℕ) → i < g.tasks → (at i < g.tasks) × (nth a (at i) ≡ nth b i)
  at_is i h = each_stands g.tasks a oa (nth b i) (ob.named i h)

  -- An unbound task meets the whole gap.
  free_gap : (i : ℕ) → i < g.tasks → gap g i ≡ g.period - g.capacity
  unfolding gap gap_for
  free_gap i h = rw (free i h) refl

  -- The guest in the order a and in the order b.
  two_orders : TwoOrders (system_of above (reordered g a)) (system_of above (reordered g b)) (deadline_of (reordered g a))
      (deadline_of (reordered g b)) at g.tasks (g.period - g.capacity)
  unfolding gap
  two_orders = record {
    capacity = refl;
    period = refl;
    above = refl;
    low = λ i h. (at_is i h).0;
    once = λ i j h l e. ob.once i j h l (sym (at_is i h).1 ∙ ap (nth a) e ∙ (at_is j l).1);
    run = λ i h. ap (λ (x : ℕ). charged_run x g.charge)
        (same (run_of g) i h (run_at g s b ob.named i h) (run_at g s a oa.named (at i) (at_is i h).0));
    every = λ i h. same (every_of g) i h (every_at g s b ob.named i h)
        (every_at g s a oa.named (at i) (at_is i h).0);
    deadline = λ i h. same (deadline_of g) i h (deadline_at g s b ob.named i h)
        (deadline_at g s a oa.named (at i) (at_is i h).0);
    gap = free_gap;
    gap' = free_gap;
    runs = λ i h.
        omega (arith, (task_in g s a oa.named i h).runs, charged_least (run_of (reordered g a) i) g.charge);
    some = λ i h. (task_in g s a oa.named i h).some;
    held = λ i h. (task_in g s a oa.named i h).in_time;
  }
    where
      same : (f : ℕ → ℕ) {x y : ℕ} → (i : ℕ) → i < g.tasks → x ≡ f (nth b i) → y ≡ f (nth a (at i)) → x ≡ y
      same f i h p q = p ∙ ap f (sym (at_is i h).1) ∙ sym q

  -- Where all tasks are met in the order a and b goes by deadline, all are met in the order b.
  pub best_order : Grows above → GoesBy (deadline_of g) g.tasks b
      → accepted_under above (reordered g a) ≡ true → accepted_under above (reordered g b) ≡ true
  unfolding accepted_in met_under
  best_order grows goes e =
      let fits = and_left (fitted_in (system_of above (reordered g a))) _ e in
      let all = and_right (fitted_in (system_of above (reordered g a))) _ e in
      and_true fits
      (all_by _ g.tasks (λ i h. (
      let w = by_deadline _ _ _ _ at g.tasks (g.period - g.capacity) two_orders rises (sure fits)
      (λ j l.
      response_meets (system_of above (reordered g a)) j (deadline_of (reordered g a) j) (all_at _ g.tasks j l all))
      i h in
      meets_response (system_of above (reordered g b)) i (deadline_of (reordered g b) i) w.0 w.1)))
    where
      rises : (i j : ℕ) → i < j → j < g.tasks → deadline_of (reordered g b) i ≤ deadline_of (reordered g b) j
      rises i j h l =
          let named = ob.named in
          omega (arith, deadline_at g s b named i (omega arith), deadline_at g s b named j l, goes.rises i j h l)

      sure : fitted_in (system_of above (reordered g a)) ≡ true → (i : ℕ) → i < g.tasks
          → (x : ℕ) × Regular (system_of above (reordered g b)) i x
      sure fits i h = regular (system_of above (reordered g b)) grows i record {
        some = s.head.some;
        within = s.head.fits;
        fits = fits;
        runs = omega (
          arith,
          (task_in g s b ob.named i h).runs,
          charged_least (run_of (reordered g b) i) g.charge,
        );
      }
