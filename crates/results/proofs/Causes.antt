-- Demand 1, causes are exact: when each number is given for plan files, for records handed over as a plan and by the
-- writer, and when not. `A not_but B`: the cause A, which is asked earlier, does not hold, but B does. When 9 and 10
-- are given, and 17, stands in Dispatcher.
use mathlib.Core.Path.{◌≡◌}
use mathlib.Core.Bool.{Bool, true}
use mathlib.Core.List.{List, []}
use Prim.Native.Nat.{ℕ, suc, ◌<◌}
use lib.ListN.{length}
use Rattle.plan.specs.declared.Guest.{Guest}
use Rattle.plan.specs.declared.Plan.{Plan}
use Rattle.plan.specs.First.{refused}
use Rattle.plan.specs.Order.{guest_number, plan_refusal}
use Rattle.plan.specs.Ranges.{most_guests}
use Rattle.plan.specs.Records.{guest_at}
use Rattle.lists.specs.Exactly.{◌exactly_when◌, ◌not_but◌}
use Rattle.block.specs.Layout.{block_size, last_place}
use Rattle.block.specs.Reading.{guest_of}
use Rattle.blockwriter.specs.Writing.{write_number}
use Rattle.blockfile.specs.File.{block_at, id_at, blocks_in, number_at, blocks_refusal, file_refusal}
use Rattle.planfile.specs.Finder.{found_place, found}
use Rattle.planfile_laws.specs.Causes.{Outside, WrongLength, WrongSum, WrongOpening, WrongHead, WrongGuest, WrongZero, WrongTask}
use Rattle.planfile_laws.specs.Exact.{FirstAt}
use Rattle.plan.specs.Periodic.{start_refusal}
use Rattle.plan.specs.Server.{is_deferrable}
use Rattle.planfile_laws.proofs.Exact as exact
use Rattle.planfile_laws.proofs.ExactRecords as records
use Rattle.plan.proofs.PeriodicLaws as starting

-- Blocks one after the other: a plan's bytes, where places count (`placed` is true, and `file_refusal` is this), or a
-- sheet's, where they do not.
module _ (placed : Bool) (s : List ℕ) where
  -- 1: the length is 0, not a multiple of 512, or above 4,096.
  pub one_exactly : ((blocks_refusal placed s).number ≡ 1) exactly_when WrongLength (length s)
  one_exactly = exact.one_exactly placed s

  -- 1 comes with place 0.
  pub one_place : (blocks_refusal placed s).number ≡ 1 → blocks_refusal placed s ≡ refused 1 0
  one_place = exact.one_place placed s

  -- 2 to 6 at place k: the length is right, block k has that number, and no block before it has one.
  pub block_exactly :
      (n k : ℕ)
      → (blocks_refusal placed s ≡ refused (suc (suc n)) k)
      exactly_when (WrongLength (length s) not_but FirstAt (number_at placed s) (blocks_in s) 0 (suc (suc n)) k)
  block_exactly = exact.block_exactly placed s

-- Block k of them.
module _ (placed : Bool) (s : List ℕ) (k : ℕ) where
  -- 2: the block's words do not sum to zero.
  pub two_exactly : (number_at placed s k ≡ 2) exactly_when WrongSum (block_at s k)
  two_exactly = exact.two_exactly placed s k

  -- 3: the kind is neither 1 nor 2, or it is 2 with neither marks nor a Deferrable Server, or, where places count, the
  -- place is not the block's own.
  pub three_exactly :
      (number_at placed s k ≡ 3) exactly_when (WrongSum (block_at s k) not_but WrongOpening placed (block_at s k) k)
  three_exactly = exact.three_exactly placed s k

  -- 4: the id is 0 or already seen in an earlier block, or capacity, period or number of tasks is outside its range.
  pub four_exactly :
      (number_at placed s k ≡ 4)
      exactly_when
      (WrongSum (block_at s k) not_but WrongOpening placed (block_at s k) k
      not_but WrongGuest (guest_of (block_at s k)) (id_at s) k)
  four_exactly = exact.four_exactly placed s k

  -- 5: a byte that must be zero is not, a mark is past the tasks, or byte 22 is no server's.
  pub five_exactly :
      (number_at placed s k ≡ 5)
      exactly_when
      (WrongSum (block_at s k)
      not_but WrongOpening placed (block_at s k) k
      not_but WrongGuest (guest_of (block_at s k)) (id_at s) k
      not_but WrongZero (block_at s k))
  five_exactly = exact.five_exactly placed s k

  -- 6: a task's run, period or deadline is outside its range, or a task is bound and its period is not a multiple of
  -- its guest's.
  pub six_exactly :
      (number_at placed s k ≡ 6)
      exactly_when
      (WrongSum (block_at s k)
      not_but WrongOpening placed (block_at s k) k
      not_but WrongGuest (guest_of (block_at s k)) (id_at s) k
      not_but WrongZero (block_at s k)
      not_but WrongTask (guest_of (block_at s k)))
  six_exactly = exact.six_exactly placed s k

-- The finder, for a guest's id.
module _ (s : List ℕ) (id : ℕ) where
  -- 7: the plan is well formed, and no block has the id.
  pub seven_exactly :
      (found_place s id ≡ refused 7 0)
      exactly_when (((file_refusal s).number ≡ 0) × ((k : ℕ) → k < blocks_in s → id_at s k ≡ id → ⊥))
  seven_exactly = exact.seven_exactly s id

  -- A block is found at place k: the plan is well formed, and block k has the id.
  pub found_exactly :
      (k : ℕ)
      → (found_place s id ≡ refused 0 k) exactly_when (((file_refusal s).number ≡ 0) × ((k < blocks_in s) × (id_at s k ≡ id)))
  found_exactly = exact.found_exactly s id

  -- The finder hands back that block as it stands in the lent plan.
  pub found_block : (k : ℕ) → found_place s id ≡ refused 0 k → found s id ≡ block_at s k
  found_block = exact.found_block s id

  -- On a refusal the finder hands back an empty part.
  pub found_nothing : (n k : ℕ) → found_place s id ≡ refused (suc n) k → found s id ≡ []
  found_nothing = exact.found_nothing s id

-- Records handed over as a plan.
module _ (p : Plan) where
  -- 1: the guest count is not 1 to 8.
  pub records_one : ((plan_refusal p).number ≡ 1) exactly_when Outside 1 most_guests p.count
  records_one = records.records_one p

  -- 1 comes with place 0.
  pub records_one_place : (plan_refusal p).number ≡ 1 → plan_refusal p ≡ refused 1 0
  records_one_place = records.records_one_place p

  -- 4 or 6 at place k: the count is right, the guest at place k has that number, and no guest before it has one.
  pub record_exactly :
      (n k : ℕ)
      → (plan_refusal p ≡ refused (suc (suc n)) k)
      exactly_when
      (Outside 1 most_guests p.count not_but FirstAt (guest_number p.guests) p.count 0 (suc (suc n)) k)
  record_exactly = records.record_exactly p

-- The guest at place k of records handed over.
module _ (gs : List Guest) (k : ℕ) where
  -- 4: the id is 0 or already seen at an earlier place, or capacity, period or number of tasks is outside its range.
  pub records_four : (guest_number gs k ≡ 4) exactly_when WrongGuest (guest_at gs k) (λ j. (guest_at gs j).id) k
  records_four = records.records_four gs k

  -- 6: a task's run, period or deadline is outside its range, or a task is bound and its period is not a multiple of
  -- its guest's.
  pub records_six :
      (guest_number gs k ≡ 6)
      exactly_when (WrongGuest (guest_at gs k) (λ j. (guest_at gs j).id) k not_but WrongTask (guest_at gs k))
  records_six = records.records_six gs k

-- The writer, lent a buffer of so many bytes.
module _ (g : Guest) (place size : ℕ) where
  -- 12: the buffer is shorter than 512.
  pub write_twelve : (write_number g place size ≡ 12) exactly_when (size < block_size)
  write_twelve = records.write_twelve g place size

  -- 3: the place is above 7.
  pub write_three : (write_number g place size ≡ 3) exactly_when ((size < block_size) not_but (last_place < place))
  write_three = records.write_three g place size

  -- 4: the id is 0, or capacity, period or number of tasks is outside its range.
  pub write_four :
      (write_number g place size ≡ 4) exactly_when ((size < block_size) not_but (last_place < place) not_but WrongHead g)
  write_four = records.write_four g place size

  -- 6: a task's run, period or deadline is outside its range, or a task is bound and its period is not a multiple of
  -- its guest's.
  pub write_six :
      (write_number g place size ≡ 6)
      exactly_when ((size < block_size) not_but (last_place < place) not_but WrongHead g not_but WrongTask g)
  write_six = records.write_six g place size

  -- 23: the guest is Deferrable.
  pub write_twenty_three :
      (write_number g place size ≡ 23)
      exactly_when (
      (size < block_size)
      not_but (last_place < place)
      not_but WrongHead g
      not_but WrongTask g
      not_but (is_deferrable g ≡ true))
  write_twenty_three = records.write_twenty_three g place size

-- A fresh start is refused as its records are.
pub start_records_first : (p : Plan) → 0 < (plan_refusal p).number → plan_refusal p ≡ start_refusal p
start_records_first = starting.records_refused

-- 23, from records in order: a guest of the plan is Deferrable.
pub start_twenty_three :
    (p : Plan)
    → (plan_refusal p).number ≡ 0
    → (start_refusal p ≡ refused 23 0)
    exactly_when ((k : ℕ) × ((k < p.count) × (is_deferrable (guest_at p.guests k) ≡ true)))
start_twenty_three = records.start_twenty_three
