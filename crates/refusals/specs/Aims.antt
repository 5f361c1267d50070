-- A release over lent arrays: its refusals, and the place that it is for.
-- Inner: no promise of an entry names this.
use Rattle.std.specs.Prelude.{◌≡◌, List, [], ◌∷◌, ℕ, ◌-◌, ◌<◌, eqb, Result, Ok, Err}
use Rattle.lists.specs.Places.{nth}
use Rattle.lists.specs.Refusals.{refusal, ◌or_refuse◌}
use Rattle.plan.specs.declared.Guest.{Guest}
use Rattle.plan.specs.declared.Plan.{Plan}
use Rattle.plan.specs.Records.{guest_at, every_of}
use Rattle.plan.specs.Charge.{charged}
use Rattle.plan.specs.Marks.{may_start}
use Rattle.plan.specs.Place.{place_of, has_number, has_guest, has_task}
use Rattle.arrays.specs.Place.{place_at}
use Rattle.refusals.specs.declared.Aim.{Aim}
use Rattle.refusals.specs.Check.{passes}

-- what a release that no number refuses sets: the place of task i of guest g, at place k, its charged run and its
-- period
pub record Taking (g : Guest) (k i : ℕ) (r : Aim) : Type 0 where
  pub place : r.at ≡ place_at k i
  pub inside : r.at < 128
  pub run : r.run ≡ charged g i
  pub period : r.every ≡ every_of g i

-- the refusals of a release that is for guest g, at place k: 8, 17, 9, 10
abbrev pub take_number : Guest → (k task position : ℕ) (rest wait : List ℕ) → ℕ
take_number g k task position rest wait =
    refusal (
    has_number g.tasks task or_refuse 8
    ∷ may_start g position (task - 1) or_refuse 17
    ∷ eqb (nth wait (place_at k (task - 1))) 0 or_refuse 9
    ∷ eqb (nth rest (place_at k (task - 1))) 0 or_refuse 10
    ∷ [])

-- the outcome of the refusals of a release that is for guest g, at place k
abbrev pub AimsAt : Guest → (k task position : ℕ) (rest wait : List ℕ) → Result Aim ℕ → Type 0
AimsAt g k task position rest wait (Ok a) = (take_number g k task position rest wait ≡ 0) × Taking g k (task - 1) a
AimsAt g k task position rest wait (Err n) = (take_number g k task position rest wait ≡ n) × (0 < n)

-- all refusals of a release: 14, 7, 8, 17, 9, 10
unfoldable pub aim_number : Plan → (left position rest wait age : List ℕ) (id task : ℕ) → ℕ
aim_number p left position rest wait age id task =
    let k = place_of p id in
    refusal (
    passes p left position rest wait age or_refuse 14
    ∷ has_guest p id or_refuse 7
    ∷ has_task p id task or_refuse 8
    ∷ may_start (guest_at p.guests k) (nth position k) (task - 1) or_refuse 17
    ∷ eqb (nth wait (place_at k (task - 1))) 0 or_refuse 9
    ∷ eqb (nth rest (place_at k (task - 1))) 0 or_refuse 10
    ∷ [])

-- a release that nothing refuses has the place that it is for
pub record Aimed (p : Plan) (left position rest wait age : List ℕ) (id task : ℕ) (a : Aim) : Type 0 where
  pub taken : aim_number p left position rest wait age id task ≡ 0
  pub takes : Taking (guest_at p.guests (place_of p id)) (place_of p id) (task - 1) a

-- the outcome of all refusals of a release
abbrev pub Aims : Plan → (left position rest wait age : List ℕ) (id task : ℕ) → Result Aim ℕ → Type 0
Aims p left position rest wait age id task (Ok a) = Aimed p left position rest wait age id task a
Aims p left position rest wait age id task (Err n) = (aim_number p left position rest wait age id task ≡ n) × (0 < n)
