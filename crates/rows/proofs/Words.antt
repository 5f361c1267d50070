-- A plan read from rows. Assumes nothing.
use mathlib.Core.Path.{◌≡◌, sym, ◌∙◌, ap}
use mathlib.Core.List.{List, []}
use Prim.Native.Nat.{ℕ, ◌+◌, ◌*◌, ◌/◌, ◌%◌, ◌<◌}
use native.Mathlib.Decide.{ℕ_discrete}
use native.Mathlib.Omega.{arith}
use lib.ListN.{length, get_or, set, length-set}
use lib.Seq.{ext_get_or, get_or-set_same, get_or-set_other}
use Rattle.lists.specs.Table.{table}
use Rattle.plan.specs.declared.Guest.{Guest}
use Rattle.plan.specs.declared.Plan.{Plan}
use Rattle.plan.specs.Placed.{with_guest}
use Rattle.plan.specs.Records.{absent, guest_at}
use Rattle.rows.specs.Words.{guest_of, guests_of, plan_of}
use Rattle.lists.proofs.Table.{table_length, table_at, table_ext}

-- the guest at place k of a plan that is read from rows
pub guest_is : (count : ℕ) (rows : List (List ℕ)) (k : ℕ) → k < 8
    → guest_of (get_or rows k []) ≡ guest_at (plan_of count rows).guests k
guest_is count rows k h = sym (table_at (λ j. guest_of (get_or rows j [])) absent 8 k h)

-- a list is the table of its places
pub table_of : {A : Type 0} (d : A) (l : List A) (n : ℕ) → length l ≡ n → table (λ i. get_or l i d) n ≡ l
table_of {A} d l n e =
    let f : ℕ → A = λ i. get_or l i d in
    ext_get_or d (table f n) l (table_length f n ∙ sym e) (λ i h. table_at f d n i (omega (arith, table_length f n)))

-- rows that say each guest of a plan say the plan
pub plan_is : (p : Plan) (rows : List (List ℕ)) → length p.guests ≡ 8
    → ((k : ℕ) → k < 8 → guest_of (get_or rows k []) ≡ guest_at p.guests k) → plan_of p.count rows ≡ p
plan_is p rows long each =
    let e : table (λ k. guest_of (get_or rows k [])) 8 ≡ p.guests =
    table_ext (λ k. guest_of (get_or rows k [])) (λ k. get_or p.guests k absent) 8 each ∙ table_of absent p.guests 8 long in
    ap (λ (l : List Guest). record { count = p.count; guests = l }) e

-- a loop's turn: one more row is written
pub rows_next : (gs : List Guest) (rows : List (List ℕ)) (k : ℕ) (row : List ℕ) → k < length rows
    → ((j : ℕ) → j < k → guest_of (get_or rows j []) ≡ guest_at gs j) → guest_of row ≡ guest_at gs k
    → (j : ℕ) → j < k + 1 → guest_of (get_or (set rows k row) j []) ≡ guest_at gs j
rows_next gs rows k row l h e j b =
    elim (ℕ_discrete j k) [
      | yes q ↦ rw q (ap guest_of (get_or-set_same rows k row [] l) ∙ e)
      | no q ↦ ap guest_of (get_or-set_other rows k j row [] q) ∙ h j (omega arith)
    ]

-- a row put at a place says the plan with its guest there
pub plan_put : (count : ℕ) (rows : List (List ℕ)) (k : ℕ) (row : List ℕ) {g : Guest} → k < 8 → length rows ≡ 8 → guest_of row ≡ g
    → plan_of count (set rows k row) ≡ with_guest (plan_of count rows) k g
unfolding with_guest
plan_put count rows k row {g} h long e =
    let f : ℕ → Guest = λ j. guest_of (get_or (set rows k row) j []) in
    let same : guests_of (set rows k row) ≡ set (guests_of rows) k g =
    ext_get_or absent (table f 8) (set (guests_of rows) k g)
    (table_length f 8 ∙ sym (length-set (guests_of rows) k g ∙ table_length (λ j. guest_of (get_or rows j [])) 8))
    (λ j l.
    let b : j < 8 = omega (arith, table_length f 8) in
    table_at f absent 8 j b
    ∙ elim (ℕ_discrete j k) [
      | yes q ↦
          rw q (ap guest_of (get_or-set_same rows k row [] (omega arith)) ∙ e
          ∙ sym (get_or-set_same (guests_of rows) k g absent (omega (arith, table_length (λ j. guest_of (get_or rows j [])) 8))))
      | no q ↦
          ap guest_of (get_or-set_other rows k j row [] q) ∙ guest_is count rows j b ∙ sym (get_or-set_other (guests_of rows) k j g absent q)
    ]) in
    ap (λ (gs : List Guest). record { count = count; guests = gs }) same

-- two halves of a word
pub low_half : (a b : ℕ) → a < 65536 → (a + b * 65536) % 65536 ≡ a
low_half a b h = omega arith

pub high_half : (a b : ℕ) → a < 65536 → (a + b * 65536) / 65536 ≡ b
high_half a b h = omega arith
