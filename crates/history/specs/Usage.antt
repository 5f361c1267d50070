-- Where the ticks of a history went: what the numbers beside a state count, by the answers of the history's ticks.
use Rattle.std.specs.Prelude.{◌≡◌, List, ℕ, ◌+◌, ◌%◌, ◌<◌, eqb, length}
use Rattle.lists.specs.Places.{nth}
use Rattle.lists.specs.Sum.{sum_to}
use Rattle.plan.specs.declared.Plan.{Plan}
use Rattle.plan.specs.Records.{guest_at}
use Rattle.arrays.specs.Usage.{wrap, idled_at, nobodys}
use Rattle.dispatcher.specs.declared.Answer.{Answer}
use Rattle.dispatcher.specs.declared.Answer.TheVariants.{Silent, Nobody, Idled, Worked, Finished}
use Rattle.history.specs.Share.{bit, names, count_of}

-- 1 where the guest idled the tick away
unfoldable pub idles : (id : ℕ) → Answer → ℕ
idles id Silent = 0
idles id Nobody = 0
idles id (Idled guest) = bit (eqb guest id)
idles id (Worked guest task) = 0
idles id (Finished guest task age margin) = 0

-- 1 where nobody had the tick
unfoldable pub unhad : Answer → ℕ
unhad Silent = 0
unhad Nobody = 1
unhad (Idled guest) = 0
unhad (Worked guest task) = 0
unhad (Finished guest task age margin) = 0

-- how many of all these ticks a test counts
abbrev pub in_all : (Answer → ℕ) → List Answer → ℕ
in_all f l = count_of f l 0 (length l)

-- Each number is the count of such ticks, and all guests' ticks and nobody's are the ticks done; all modulo 2 to the
-- 64.
pub record Accounts (p : Plan) (l : List Answer) (usage : List ℕ) : Type 0 where
  pub ticks : (k : ℕ) → k < p.count → nth usage k ≡ in_all (names (guest_at p.guests k).id) l % wrap
  pub idled : (k : ℕ) → k < p.count → nth usage (idled_at k) ≡ in_all (idles (guest_at p.guests k).id) l % wrap
  pub nobody : nth usage nobodys ≡ in_all unhad l % wrap
  pub all : (sum_to (nth usage) p.count + nth usage nobodys) % wrap ≡ length l % wrap
