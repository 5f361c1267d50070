-- Read-back: the file of a plan that passes the records' order reads as that plan with zeros past its guests and tasks,
-- and with 1 for any number that says Deferrable. Assumes nothing.
use mathlib.Core.Path.{◌≡◌, refl, sym, ap, ◌∙◌}
use mathlib.Core.Bool.{Bool, true, false}
use mathlib.Core.List.{List, ◌++◌}
use Prim.Native.Nat.{ℕ, ◌*◌, ◌%◌, ◌≤◌, ◌<◌}
use native.Mathlib.Omega.{arith}
use lib.ListN.{length, drop, replicate}
use borrow.Author.Tests.{eq-eqb, le-leb, not-false}
use Rattle.plan.specs.Marks.{is_bound}
use Rattle.plan.specs.Ranges.{most_guests, head_ok, task_ok, start_ok, tasks_ok}
use Rattle.block.specs.Layout.{block_size}
use Rattle.block.specs.Reading.{guest_of}
use Rattle.plan.specs.declared.Guest.{Guest}
use Rattle.plan.specs.declared.Plan.{Plan}
use Rattle.plan.specs.Records.{guest_at, every_of, blank}
use Rattle.plan.specs.First.{fine}
use Rattle.plan.specs.Server.{is_periodic}
use Rattle.plan.specs.Order.{new_id, plan_refusal}
use Rattle.plan.specs.Periodic.{all_periodic}
use Rattle.blockwriter.specs.Writing.{block_of, write_number, write_refusal, written}
use Rattle.blockfile.specs.File.{block_at, id_at, blocks_in, most_bytes, size_ok, number_at, file_refusal}
use Rattle.blockfile.specs.Records.{records_of}
use Rattle.planfile.specs.Records.{read_of}
use Rattle.planfile_laws.specs.File.{file_of, cleared_guest, cleared}
use Rattle.planfile_laws.specs.Fits.{PlanInTypes}
use Rattle.lists.proofs.All.{and_true, all_by, all_ext}
use Rattle.lists.proofs.Table.{table_ext}
use Rattle.plan.proofs.RangesLaws.{TaskIn, HeadIn, GuestIn}
use Rattle.plan.proofs.First.{first_fine}
use Rattle.plan.proofs.Order.{PlanIn, plan_in}
use Rattle.plan.proofs.PeriodicLaws.{none_deferrable}
use Rattle.blockparts.proofs.Parts.{by_none}
use Rattle.blockwriter.proofs.Writing.{none, block_length}
use Rattle.blockfile.proofs.File.{sized}
use Rattle.blockfile.proofs.Joined.{joined_length, joined_at}
use Rattle.planfile.proofs.Records.{reading, read_fine}
use Rattle.planfile_laws.proofs.BlockBack.{number_back, guest_back}

-- A guest in its ranges passes the tests.
head_passes : {id capacity period tasks : ℕ} → HeadIn id capacity period tasks → head_ok id capacity period tasks ≡ true
unfolding head_ok
head_passes {id} {capacity} {period} {tasks} h =
    and_true
    (and_true (and_true (le-leb _ _ h.named) (and_true (le-leb _ _ h.some) (le-leb _ _ h.fits)))
    (and_true (le-leb 1 period (omega arith)) (le-leb _ _ h.short)))
    (and_true (le-leb _ _ h.many) (le-leb _ _ h.few))

task_passes : {run every deadline : ℕ} → TaskIn run every deadline → task_ok run every deadline ≡ true
unfolding task_ok
task_passes t =
    and_true
    (and_true (and_true (le-leb _ _ t.runs) (le-leb _ _ t.run_short))
    (and_true (le-leb _ _ t.some) (le-leb _ _ t.short)))
    (and_true (le-leb _ _ t.due) (le-leb _ _ t.in_time))

start_passes : (b : Bool) (period every : ℕ) → (b ≡ true → every % period ≡ 0) → start_ok b period every ≡ true
unfolding start_ok
start_passes true period every h = eq-eqb _ _ (h refl)
start_passes false period every h = refl

tasks_pass : (g : Guest) → GuestIn g → tasks_ok g ≡ true
unfolding tasks_ok
tasks_pass g i =
    and_true (all_by _ g.tasks (λ k l. task_passes (i.tasks k l)))
    (all_by _ g.tasks (λ k l. start_passes (is_bound g k) g.period (every_of g k) (i.starts k l)))

module _ (p : Plan) (fits : PlanInTypes p) (ok : (plan_refusal p).number ≡ 0) where
  inside : PlanIn p
  inside = plan_in p ok

  blocks : ℕ → List ℕ
  blocks k = block_of (guest_at p.guests k) k

  s : List ℕ
  s = file_of p

  size : length s ≡ block_size * p.count
  unfolding s file_of blocks
  size = joined_length blocks p.count (λ k l. block_length (guest_at p.guests k) k)

  block_at_lem : (k : ℕ) → k < p.count → block_at s k ≡ block_of (guest_at p.guests k) k
  unfolding s file_of blocks
  block_at_lem k l = joined_at blocks p.count (λ k l. block_length (guest_at p.guests k) k) k l

  guest_at_lem : (k : ℕ) → k < p.count → guest_of (block_at s k) ≡ cleared_guest (guest_at p.guests k)
  guest_at_lem k l =
      let i = inside.guests k l in
      ap (λ (b : List ℕ). guest_of b) (block_at_lem k l)
      ∙ guest_back (guest_at p.guests k) k (fits k l) (omega (arith, inside.few)) (head_passes i.head)
      (tasks_pass (guest_at p.guests k) i)

  new_at : (k : ℕ) → k < p.count → new_id (id_at s) k ≡ true
  unfolding new_id
  new_at k l =
      let id : (j : ℕ) → j ≤ k → id_at s j ≡ (guest_at p.guests j).id =
      λ j m. ap (λ (g : Guest). g.id) (guest_at_lem j (omega arith)) in
      all_ext _ _ k (λ j m. rw (id j (omega arith), id k (omega arith)) refl) ∙ inside.new k l

  number_zero : (k : ℕ) → k < p.count → number_at true s k ≡ 0
  unfolding number_at
  number_zero k l =
      let i = inside.guests k l in
      rw (block_at_lem k l)
      (number_back (guest_at p.guests k) k (fits k l) (omega (arith, inside.few)) (head_passes i.head)
      (tasks_pass (guest_at p.guests k) i) (new_id (id_at s) k) (new_at k l))

  count_is : blocks_in s ≡ p.count
  count_is = rw size (omega arith)

  size_right : size_ok (length s) ≡ true
  size_right =
      let a = inside.some in
      let b = inside.few in
      rw size
      (and_true
      (and_true (le-leb 1 (block_size * p.count) (omega arith)) (le-leb (block_size * p.count) most_bytes (omega arith)))
      (eq-eqb (block_size * p.count % block_size) 0 (omega arith)))

  nothing_refused : fine ≡ file_refusal s
  nothing_refused =
      sym (first_fine (number_at true s) (blocks_in s) 0 (λ z l m. number_zero z (omega (arith, count_is))))
      ∙ sized true s size_right

  records_are : records_of (block_at s) p.count ≡ (cleared p).guests
  unfolding records_of cleared
  records_are =
      ap (λ (gs : List Guest). gs ++ drop p.count (replicate most_guests blank)) (table_ext _ _ p.count guest_at_lem)

  -- The whole file.
  back : read_of s ≡ reading fine (cleared p)
  unfolding cleared
  back =
      sym (read_fine s fine nothing_refused (omega arith))
      ∙ ap (λ (n : ℕ). reading fine (record { count = n; guests = records_of (block_at s) n })) count_is
      ∙ ap (λ (gs : List Guest). reading fine (record { count = p.count; guests = gs })) records_are

-- For records that pass the check, the file of their blocks is read without a refusal as those records, with zeros
-- past the counts and 1 for any number that says Deferrable.
pub read_back : (p : Plan) → PlanInTypes p → (plan_refusal p).number ≡ 0
    → read_of (file_of p) ≡ record { refusal = fine; plan = cleared p }
unfolding s
read_back p fits ok = back p fits ok

-- Where each guest is Periodic, each block of that file is what the writer, which refuses none of them, leaves in the
-- first 512 of the lent bytes.
pub written_so : (p : Plan) → (plan_refusal p).number ≡ 0 → all_periodic p ≡ true → (k : ℕ) → k < p.count
    → (before : List ℕ) → block_size ≤ length before
    → (write_refusal (guest_at p.guests k) k (length before) ≡ fine)
    × (written (guest_at p.guests k) k before ≡ block_of (guest_at p.guests k) k ++ drop block_size before)
written_so p ok periodic k l before h =
    let i = plan_in p ok in
    let g : Guest = guest_at p.guests k in
    let n : 0 ≡ write_number g k (length before) =
    none g k (length before) h (omega (arith, i.few)) (head_passes (i.guests k l).head)
    (tasks_pass g (i.guests k l)) (not-false (is_periodic g) (none_deferrable p periodic k l)) in
    (rw (← n) refl, sym (by_none _ (block_of g k) before (sym n)))
