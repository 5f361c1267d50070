-- How the code comes to the converter's refusal and output. Assumes nothing.
use mathlib.Core.Path.{◌≡◌, refl, sym, ap, ◌∙◌}
use mathlib.Core.List.{List, [], ◌++◌}
use Prim.Native.Nat.{ℕ, zero, suc, ◌*◌, ◌≤◌, ◌<◌}
use native.Mathlib.Omega.{arith}
use lib.Dec.{leb}
use lib.ListN.{length, drop}
use borrow.Author.Tests.{le-leb, lt-leb, leb-true}
use Rattle.plan.specs.Ranges.{most_guests, most_tasks}
use Rattle.plan.specs.First.{refused, fine}
use Rattle.plan.specs.Order.{new_id}
use Rattle.block.specs.Layout.{block_size}
use Rattle.block.specs.Reading.{task_count, own_place}
use Rattle.blockfile.specs.File.{block_at, id_at, blocks_in, number_at, file_refusal}
use Rattle.conversion.specs.Converting.{converted_bytes}
use Rattle.conversion.specs.Outcome.{room_number, convert_refusal, out_by}
use Rattle.lists.proofs.Refusals.{none_left, go_on, stop, passed}
use Rattle.plan.proofs.First.{refused_here, or_after, after_zero}
use Rattle.block.proofs.Reading.{block_in, few_in_block}
use Rattle.blockfile.proofs.File.{file_in}

module _ (s : List ℕ) (room : ℕ) where
  -- Where reading is refused, converting is.
  pub reading_refused : 0 < (file_refusal s).number → file_refusal s ≡ convert_refusal s room
  unfolding convert_refusal
  reading_refused h =
      refused_here (file_refusal s).number (file_refusal s).place (refused (room_number (length s) room) 0) h

  -- Bytes that are read are refused by the number of the room.
  then_by : {n : ℕ} → (file_refusal s).number ≤ 0 → n ≡ room_number (length s) room → refused n 0 ≡ convert_refusal s room
  unfolding convert_refusal
  then_by h q =
      ap (λ (n : ℕ). refused n 0) q
      ∙ or_after (file_refusal s).number (file_refusal s).place (refused (room_number (length s) room) 0) h

  -- The output is shorter than the plan.
  pub twelve : (file_refusal s).number ≤ 0 → room < length s → refused 12 0 ≡ convert_refusal s room
  unfolding room_number
  twelve h l = then_by h (sym (stop 12 [] (lt-leb (length s) room l)))

  -- Nothing is refused.
  pub none : (file_refusal s).number ≤ 0 → length s ≤ room → fine ≡ convert_refusal s room
  unfolding room_number
  none h l = then_by h (sym (go_on 12 [] (le-leb (length s) room l) ∙ none_left))

  -- Where nothing is refused, the bytes read as a plan, and there is room for it.
  pub convert_in : (convert_refusal s room).number ≡ 0 → ((file_refusal s).number ≡ 0) × (length s ≤ room)
  unfolding convert_refusal room_number
  convert_in e =
      let z = after_zero (file_refusal s).number (file_refusal s).place (refused (room_number (length s) room) 0) e in
      (z.0, leb-true (length s) room (passed (leb (length s) room) 12 [] (omega arith) z.1).0)

  -- A conversion that is not refused has number and place 0.
  pub convert_fine : (convert_refusal s room).number ≡ 0 → convert_refusal s room ≡ fine
  convert_fine e = let i = convert_in e in sym (none (omega (arith, i.0)) i.1)

-- What a plan's bytes have that are read without a refusal.
module _ (s : List ℕ) (ok : (file_refusal s).number ≡ 0) where
  -- Its blocks are at most eight, and nothing is behind them.
  pub blocks_few : blocks_in s ≤ most_guests
  blocks_few = let z = (file_in s ok).size in omega arith

  pub blocks_all : block_size * blocks_in s ≡ length s
  blocks_all = let z = (file_in s ok).size in omega arith

  -- No block has more than 16 tasks.
  pub tasks_few : (k : ℕ) → k < blocks_in s → task_count (block_at s k) ≤ most_tasks
  unfolding number_at
  tasks_few k l =
      let i = block_in (block_at s k) (own_place (block_at s k) k) (new_id (id_at s) k) ((file_in s ok).blocks k l) in
      few_in_block (block_at s k) (new_id (id_at s) k) i.heads

module _ (s before : List ℕ) where
  -- A refusal writes nothing.
  pub out_refused : (x : ℕ) → 0 < x → before ≡ out_by x s before
  unfolding out_by
  out_refused zero h = absurd (omega arith)
  out_refused (suc n) h = refl

  -- Number 0: the plan is written.
  pub out_written : (x : ℕ) → x ≡ 0 → converted_bytes s ++ drop (length s) before ≡ out_by x s before
  unfolding out_by
  out_written x e = rw e refl
