-- A file with nothing wrong comes back the same, byte for byte, and so does what was salvaged. Assumes nothing.
use mathlib.Core.Path.{◌≡◌, refl, sym, ap, ◌∙◌}
use mathlib.Core.Bool.{true, not}
use mathlib.Core.List.{List, ◌∷◌, [], ◌++◌}
use Prim.Native.Nat.{ℕ, zero, suc, ◌*◌, ◌≤◌, ◌<◌}
use native.Mathlib.Omega.{arith}
use lib.ListN.{length, drop}
use lib.Seq.{take_all}
use lib.Dec.{eqb}
use borrow.Author.Tests.{eqb-true}
use Rattle.lists.specs.Places.{nth}
use Rattle.lists.specs.Table.{table}
use Rattle.words.specs.Bytes.{Bytes}
use Rattle.plan.specs.declared.Refusal.{Refusal}
use Rattle.plan.specs.Ranges.{guest_ok}
use Rattle.plan.specs.Order.{new_id}
use Rattle.block.specs.Layout.{block_size}
use Rattle.block.specs.Reading.{place_in, guest_of, kind_ok, own_place}
use Rattle.blockfile.specs.File.{block_at, id_at, blocks_in, number_at, file_refusal}
use Rattle.salvage.specs.Keeping.{new_among, number_after, kept_places, drop_number}
use Rattle.salvage.specs.Fates.{fate}
use Rattle.salvage.specs.Moving.{moved, moved_up}
use Rattle.salvage.specs.Outcome.{listed_in, kept_in, number_of, output_by, output_of}
use Rattle.salvage_laws.specs.Saved.{kept_block, saved}
use Rattle.lists.proofs.All.{and_right, all_ext}
use Rattle.lists.proofs.Table.{table_length, table_at}
use Rattle.block.proofs.Reading.{BlockIn, block_in, passes_too}
use Rattle.blockfile.proofs.File.{FileIn, file_in}
use Rattle.blockfile.proofs.Joined.{joined_ext, blocks_joined}
use Rattle.planfile_laws.proofs.Joined.{joined_bytes}
use Rattle.planfile_laws.proofs.OnlyOurs.{block_bytes}
use Rattle.salvage.proofs.Keeping.{none_kept, kept_on}
use Rattle.salvage.proofs.Outcome.{listed_whole, none}
use Rattle.salvage_laws.proofs.Moved.{moved_bytes, moved_own}
use Rattle.salvage_laws.proofs.Kept.{fate_kept}
use Rattle.salvage_laws.proofs.ReadsAsPlan.{not_refused}

module _ (s : List ℕ) (ok : (file_refusal s).number ≡ 0) where
  inside : FileIn s
  inside = file_in s ok

  -- Each block passes at its own place.
  passes : (k : ℕ) → k < blocks_in s → BlockIn (block_at s k) (own_place (block_at s k) k) (new_id (id_at s) k)
  unfolding number_at
  passes k l = block_in (block_at s k) (own_place (block_at s k) k) (new_id (id_at s) k) (inside.blocks k l)

  -- Where all blocks before it are kept, its id is asked of all of them.
  ids_same : (n : ℕ) → kept_places s n ≡ table (λ k. k) n → new_among s (kept_places s n) n ≡ new_id (id_at s) n
  unfolding new_among new_id
  ids_same n e =
      rw (e, table_length (λ k. k) n)
      (all_ext _ _ n (λ j l. ap (λ (i : ℕ). not (eqb (id_at s i) (id_at s n))) (table_at (λ k. k) 0 n j l)))

  number_none : (n : ℕ) → n < blocks_in s → kept_places s n ≡ table (λ k. k) n → drop_number s n ≡ 0
  unfolding number_after
  number_none n l e =
      let i = passes n l in
      passes_too (block_at s n) (own_place (block_at s n) n) true (new_id (id_at s) n) (new_among s (kept_places s n) n) i refl
      (ids_same n e ∙ and_right (guest_ok (guest_of (block_at s n))) (new_id (id_at s) n) i.heads)

  all_kept : (n : ℕ) → n ≤ blocks_in s → kept_places s n ≡ table (λ k. k) n
  unfolding table
  all_kept zero h = none_kept s
  all_kept (suc n) h =
      let e = all_kept n (omega arith) in
      kept_on s n (number_none n (omega arith) e) ∙ ap (λ (ks : List ℕ). ks ++ (n ∷ [])) e

  listed_all : listed_in (length s) ≡ blocks_in s
  listed_all = sym (listed_whole (length s) inside.size.most)

  kept_all : kept_in s ≡ table (λ k. k) (blocks_in s)
  kept_all = rw listed_all (all_kept (blocks_in s) (omega arith))

  -- Each block is kept, at its own place.
  pub all_stay : (k : ℕ) → k < blocks_in s → fate s k ≡ record { number = 0; place = k }
  all_stay k l =
      let e = all_kept k (omega arith) in
      fate_kept s k (number_none k l e)
      ∙ ap (λ (p : ℕ). record { number = 0; place = p }) (ap length e ∙ table_length (λ i. i) k)

  stays : Bytes s → (j : ℕ) → j < blocks_in s → moved (block_at s (nth (table (λ k. k) (blocks_in s)) j)) j ≡ block_at s j
  stays bytes j l =
      let i = passes j l in
      ap (λ (k : ℕ). moved (block_at s k) j) (table_at (λ k. k) 0 (blocks_in s) j l)
      ∙ moved_own (block_at s j) j (block_bytes s bytes j) i.sums
      (eqb-true (place_in (block_at s j)) j (and_right (kind_ok (block_at s j)) (own_place (block_at s j) j) i.opens))

  -- The saved bytes are the file's.
  pub saved_same : Bytes s → saved s ≡ s
  unfolding moved_up
  saved_same bytes =
      let w = inside.size.whole in
      rw (kept_all, table_length (λ k. k) (blocks_in s)) (joined_ext _ _ (blocks_in s) (stays bytes))
      ∙ blocks_joined s (blocks_in s)
      ∙ take_all (block_size * blocks_in s) s (omega arith)

  -- An output that has room for the file is not refused.
  pub same_fine : (room : ℕ) → length s ≤ room → number_of s room ≡ 0
  same_fine room h =
      let w = inside.size.whole in
      let n : length (kept_in s) ≡ blocks_in s = ap length kept_all ∙ table_length (λ k. k) (blocks_in s) in
      sym
      (none (length s) (length (kept_in s)) room inside.size.most (omega arith)
      (omega (arith, n, inside.size.some)))

-- Where nothing is refused, the output is the saved bytes and what stood behind.
pub output_is : (s before : List ℕ) → number_of s (length before) ≡ 0
    → output_of s before ≡ saved s ++ drop (length (saved s)) before
unfolding output_by
output_is s before e = rw e refl

-- A file that reads as a plan comes back the same: its bytes, and behind them what stood there.
pub nothing_wrong_same : (s before : List ℕ) → Bytes s → (file_refusal s).number ≡ 0 → length s ≤ length before
    → output_of s before ≡ s ++ drop (length s) before
nothing_wrong_same s before bytes ok room =
    output_is s before (same_fine s ok (length before) room)
    ∙ ap (λ (x : List ℕ). x ++ drop (length x) before) (saved_same s ok bytes)

saved_bytes : (s : List ℕ) → Bytes s → Bytes (saved s)
unfolding moved_up
saved_bytes s bytes =
    joined_bytes (λ j. moved (kept_block s j) j) (length (kept_in s))
    (λ j. moved_bytes (kept_block s j) j (block_bytes s bytes (nth (kept_in s) j)))

-- Salvaging what was salvaged changes nothing.
pub salvaged_again_same : (s : List ℕ) (room : ℕ) → Bytes s → number_of s room ≡ 0 → (before : List ℕ)
    → length (saved s) ≤ length before → output_of (saved s) before ≡ saved s ++ drop (length (saved s)) before
salvaged_again_same s room bytes e before h =
    nothing_wrong_same (saved s) before (saved_bytes s bytes)
    (ap (λ (r : Refusal). r.number) (not_refused s room e)) h
