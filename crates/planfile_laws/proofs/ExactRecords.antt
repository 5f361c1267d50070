-- When each refusal of the writer and of records handed over is given. Assumes nothing.
use mathlib.Core.Path.{◌≡◌, refl, sym, ap}
use mathlib.Core.Bool.{Bool, true, false, ◌&&◌}
use mathlib.Core.List.{List, []}
use Prim.Native.Nat.{ℕ, suc, ◌<◌}
use native.Mathlib.Omega.{arith}
use lib.Dec.{leb}
use Rattle.plan.specs.declared.Guest.{Guest}
use Rattle.plan.specs.declared.Plan.{Plan}
use Rattle.plan.specs.Records.{guest_at}
use Rattle.plan.specs.Ranges.{most_guests, within, guest_ok, tasks_ok}
use Rattle.plan.specs.Server.{is_deferrable, is_periodic}
use Rattle.plan.specs.First.{refused, first_refused}
use Rattle.plan.specs.Order.{new_id, number_of, guest_number, counted_by, plan_refusal}
use Rattle.lists.specs.Exactly.{◌exactly_when◌, ◌not_but◌}
use Rattle.block.specs.Layout.{block_size, last_place}
use Rattle.blockwriter.specs.Writing.{write_number}
use Rattle.planfile_laws.specs.Exact.{FirstAt}
use Rattle.planfile_laws.specs.Causes.{Outside, WrongHead, WrongGuest, WrongTask}
use Rattle.plan.specs.Periodic.{all_periodic, start_refusal}
use Rattle.plan.specs.declared.Refusal.{Refusal}
use Rattle.planfile_laws.proofs.Causes.{leb_fails, within_fails, head_fails, guest_fails, tasks_fail, periodic_fails, some_fails}
use Rattle.lists.proofs.Exactly.{among, not_given, given_first, given_later}
use Rattle.planfile_laws.proofs.Order.{one_first, place_first}
use Rattle.plan.proofs.PeriodicLaws.{starts_by, deferrable_refused}

-- The writer, lent a buffer of so many bytes.
module _ (g : Guest) (place size : ℕ) where
  -- 12: the buffer is shorter than 512.
  pub write_twelve : (write_number g place size ≡ 12) exactly_when (size < block_size)
  unfolding write_number among
  write_twelve = given_first (leb block_size size) 12 _ (omega arith) refl (leb_fails block_size size)

  -- 3: the place is above 7.
  pub write_three : (write_number g place size ≡ 3) exactly_when ((size < block_size) not_but (last_place < place))
  unfolding write_number among
  write_three =
      given_later (leb block_size size) 12 3 _ (λ q. omega arith) (leb_fails block_size size)
      (given_first (leb place last_place) 3 _ (omega arith) refl (leb_fails place last_place))

  -- 4: the id is 0, or capacity, period or number of tasks is outside its range.
  pub write_four : (write_number g place size ≡ 4)
      exactly_when ((size < block_size) not_but (last_place < place) not_but WrongHead g)
  unfolding write_number among
  write_four =
      given_later (leb block_size size) 12 4 _ (λ q. omega arith) (leb_fails block_size size)
      (given_later (leb place last_place) 3 4 _ (λ q. omega arith) (leb_fails place last_place)
      (given_first (guest_ok g) 4 _ (omega arith) refl (head_fails g)))

  -- 6: a task's run, period or deadline is outside its range, or a bound task's period is no multiple of its guest's.
  pub write_six : (write_number g place size ≡ 6)
      exactly_when ((size < block_size) not_but (last_place < place) not_but WrongHead g not_but WrongTask g)
  unfolding write_number among
  write_six =
      given_later (leb block_size size) 12 6 _ (λ q. omega arith) (leb_fails block_size size)
      (given_later (leb place last_place) 3 6 _ (λ q. omega arith) (leb_fails place last_place)
      (given_later (guest_ok g) 4 6 _ (λ q. omega arith) (head_fails g)
      (given_first (tasks_ok g) 6 _ (omega arith) refl (tasks_fail g))))

  -- 23: the guest is Deferrable.
  pub write_twenty_three : (write_number g place size ≡ 23)
      exactly_when (
      (size < block_size)
      not_but (last_place < place)
      not_but WrongHead g
      not_but WrongTask g
      not_but (is_deferrable g ≡ true))
  unfolding write_number among
  write_twenty_three =
      given_later (leb block_size size) 12 23 _ (λ q. omega arith) (leb_fails block_size size)
      (given_later (leb place last_place) 3 23 _ (λ q. omega arith) (leb_fails place last_place)
      (given_later (guest_ok g) 4 23 _ (λ q. omega arith) (head_fails g)
      (given_later (tasks_ok g) 6 23 _ (λ q. omega arith) (tasks_fail g)
      (given_first (is_periodic g) 23 [] (omega arith) refl (periodic_fails g)))))

-- The numbers of the guest at place k.
module _ (gs : List Guest) (k : ℕ) where
  -- 4: the id is 0 or already seen at an earlier place, or capacity, period or number of tasks is outside its range.
  pub records_four : (guest_number gs k ≡ 4) exactly_when WrongGuest (guest_at gs k) (λ j. (guest_at gs j).id) k
  unfolding guest_number number_of among
  records_four =
      given_first (guest_ok (guest_at gs k) && new_id (λ j. (guest_at gs j).id) k) 4 _ (omega arith) refl
      (guest_fails (guest_at gs k) (λ j. (guest_at gs j).id) k)

  -- 6: a task's run, period or deadline is outside its range, or a bound task's period is no multiple of its guest's.
  pub records_six : (guest_number gs k ≡ 6)
      exactly_when (WrongGuest (guest_at gs k) (λ j. (guest_at gs j).id) k not_but WrongTask (guest_at gs k))
  unfolding guest_number number_of among
  records_six =
      given_later (guest_ok (guest_at gs k) && new_id (λ j. (guest_at gs j).id) k) 4 6 _ (λ q. omega arith)
      (guest_fails (guest_at gs k) (λ j. (guest_at gs j).id) k)
      (given_first (tasks_ok (guest_at gs k)) 6 [] (omega arith) refl (tasks_fail (guest_at gs k)))

  never_one : guest_number gs k ≡ 1 → ⊥
  unfolding guest_number number_of among
  never_one = not_given _ 1 (omega arith) refl

-- Records handed over as a plan.
module _ (p : Plan) where
  not_counted : within 1 most_guests p.count ≡ false → plan_refusal p ≡ refused 1 0
  unfolding plan_refusal counted_by
  not_counted e = rw e refl

  is_counted : within 1 most_guests p.count ≡ true
      → plan_refusal p ≡ first_refused (guest_number p.guests) p.count 0
  unfolding plan_refusal counted_by
  is_counted e = rw e refl

  -- 1: the guest count is not 1 to 8.
  pub records_one : ((plan_refusal p).number ≡ 1) exactly_when Outside 1 most_guests p.count
  records_one =
      one_first (guest_number p.guests) p.count (plan_refusal p) (never_one p.guests)
      (within 1 most_guests p.count)
      not_counted is_counted (within_fails 1 most_guests p.count)

  -- 1 comes with place 0.
  pub records_one_place : (plan_refusal p).number ≡ 1 → plan_refusal p ≡ refused 1 0
  records_one_place e = not_counted ((within_fails 1 most_guests p.count).1 (records_one.0 e))

  -- A number from 2 on at place k: the count is right, the guest at place k has that number, and every guest before
  -- it has none.
  pub record_exactly :
      (n k : ℕ)
      → (plan_refusal p ≡ refused (suc (suc n)) k)
      exactly_when
      (Outside 1 most_guests p.count not_but FirstAt (guest_number p.guests) p.count 0 (suc (suc n)) k)
  record_exactly n k =
      place_first (guest_number p.guests) p.count (plan_refusal p) (never_one p.guests)
      (within 1 most_guests p.count) n k
      not_counted is_counted (within_fails 1 most_guests p.count)

-- A fresh start from records in order.
module _ (p : Plan) (order : (plan_refusal p).number ≡ 0) where
  -- 23 is given where a guest fails the test.
  by_test : (b : Bool) → all_periodic p ≡ b → start_refusal p ≡ refused 23 0 → all_periodic p ≡ false
  by_test false q e = q
  by_test true q e = absurd (omega (arith, starts_by p order q, ap (λ (r : Refusal). r.number) e))

  -- 23: a guest is Deferrable.
  pub start_twenty_three : (start_refusal p ≡ refused 23 0)
      exactly_when ((k : ℕ) × ((k < p.count) × (is_deferrable (guest_at p.guests k) ≡ true)))
  unfolding all_periodic
  start_twenty_three =
      let w =
      some_fails (λ k. is_periodic (guest_at p.guests k)) p.count
      (λ k. is_deferrable (guest_at p.guests k) ≡ true) (λ k. periodic_fails (guest_at p.guests k)) in
      (λ e. w.0 (by_test (all_periodic p) refl e), λ h. sym (deferrable_refused p order (w.1 h)))
