-- Where the ticks went, in an array of 17: places 0 to 7 count each guest's ticks, 8 to 15 those of them that it
-- idled away, 16 those that no guest had.
use Rattle.std.specs.Prelude.{ℕ, ◌+◌, ◌%◌, Bool, true, false, List, slice_set}
use Rattle.lists.specs.Places.{nth}

-- 2 to the 64, where each number starts again at 0
abbrev pub wrap : ℕ
wrap = 18446744073709551616

-- where the ticks stand that guest k idled away
abbrev pub idled_at : ℕ → ℕ
idled_at k = 8 + k

-- where the ticks stand that no guest had
abbrev pub nobodys : ℕ
nobodys = 16

-- one more at place k
unfoldable pub one_more : List ℕ → ℕ → List ℕ
one_more l k = slice_set l k ((nth l k + 1) % wrap)

-- a tick counted, by whether a guest has it, whether a task of it works, and the guest's place
unfoldable pub tallied : (held worked : Bool) → ℕ → List ℕ → List ℕ
tallied false worked k usage = one_more usage nobodys
tallied true true k usage = one_more usage k
tallied true false k usage = one_more (one_more usage k) (idled_at k)
