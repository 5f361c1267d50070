-- Ticks counted by their answers, and how many a guest had.
use Rattle.std.specs.Prelude.{Bool, true, false, List, ℕ, ◌+◌, eqb, get_or}
use Rattle.lists.specs.Sum.{sum_to}
use Rattle.dispatcher.specs.declared.Answer.{Answer}
use Rattle.dispatcher.specs.declared.Answer.TheVariants.{Silent, Nobody, Idled, Worked, Finished}

-- 1 for a test that holds
unfoldable pub bit : Bool → ℕ
bit true = 1
bit false = 0

-- 1 where the answer names the guest, with a task or idle
unfoldable pub names : (id : ℕ) → Answer → ℕ
names id Silent = 0
names id Nobody = 0
names id (Idled guest) = bit (eqb guest id)
names id (Worked guest task) = bit (eqb guest id)
names id (Finished guest task age margin) = bit (eqb guest id)

-- the answer of tick m, from 0
abbrev pub answer_at : List Answer → ℕ → Answer
answer_at l m = get_or l m Silent

-- how many of the n ticks from tick m on a test counts
unfoldable pub count_of : (Answer → ℕ) → List Answer → ℕ → ℕ → ℕ
count_of f l m n = sum_to (λ j. f (answer_at l (m + j))) n

-- how many of the n ticks from tick m on the guest had
abbrev pub share : (id : ℕ) → List Answer → ℕ → ℕ → ℕ
share id l m n = count_of (names id) l m n
