-- A plan's records as words, 54 of them for each guest: as a C struct of numbers lies in memory, on a machine that
-- stores the low byte first.
use Rattle.std.specs.Prelude.{List, [], ℕ, ◌+◌, ◌/◌, ◌%◌, get_or}
use Rattle.lists.specs.Places.{nth}
use Rattle.lists.specs.Table.{table}
use Rattle.plan.specs.declared.Guest.{Guest}
use Rattle.plan.specs.declared.Plan.{Plan}

-- 16 words from one on
unfoldable pub column : List ℕ → (first : ℕ) → List ℕ
column row first = table (λ i. nth row (first + i)) 16

-- the record that 54 words say: the charge and the marks are the low and the high half of one word
abbrev pub guest_of : List ℕ → Guest
guest_of row = record {
  id = nth row 0;
  capacity = nth row 1;
  period = nth row 2;
  tasks = nth row 3;
  charge = nth row 4 % 65536;
  marks = nth row 4 / 65536;
  deferrable = nth row 5;
  run = column row 6;
  every = column row 22;
  deadline = column row 38;
}

-- the guests of 8 such rows
abbrev pub guests_of : List (List ℕ) → List Guest
guests_of rows = table (λ k. guest_of (get_or rows k [])) 8

-- the plan of so many of them
abbrev pub plan_of : (count : ℕ) → List (List ℕ) → Plan
plan_of count rows = record { count = count; guests = guests_of rows }
