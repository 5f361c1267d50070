-- A tick keeps the guest part, and a fitted guest has used up its capacity when its period ends.
-- Strategy: while the guests above or g itself claim ticks, the window y goes on by one a tick; it stays below x, since
-- x ticks hold the whole capacity and all that is asked above. When nobody claims a tick, a new window starts. Assumes
-- nothing.
use mathlib.Core.Path.{◌≡◌, refl, ap}
use Prim.Native.Nat.{ℕ, zero, suc, ◌+◌, ◌-◌, ◌*◌, ◌≤◌, ◌<◌}
use native.Mathlib.Decide.{dec_le, dec_lt, ℕ_discrete}
use native.Mathlib.Omega.{arith}
use Rattle.lists.specs.Sum.{sum_to}
use Rattle.equation.specs.Guest.{guest_side}
use Rattle.windows.specs.Equation.{above}
use Rattle.windows.specs.GuestTick.{Moved, GuestTick, GuestFits}
use Rattle.windows.specs.GuestTick.Moved.{on, over}
use Rattle.windows.specs.Supply.{spent, Supply}
use Rattle.lists.proofs.Sum.{sum_le, sum_same, sum_add, sum_bump, sum_zero}
use Rattle.rounding.proofs.Asked.{asked_mono, asked_counts}
use Rattle.windows.proofs.GuestTick.{begun, held_le, count_on, count_new, most_on, pace_on, owed_on, owed_new}

-- what a guest has used, where it holds something
spent_some : (h c : ℕ) → 0 < h → spent h c ≡ c - h
unfolding spent
spent_some zero c p = absurd (omega arith)
spent_some (suc h) c p = refl

-- what counts as used is never the whole capacity
spent_below : (h c : ℕ) → 0 < c → spent h c < c
unfolding spent
spent_below zero c p = p
spent_below (suc h) c p = omega arith

-- nothing is used of a full capacity
spent_full : (c : ℕ) → spent c c ≡ 0
unfolding spent
spent_full zero = refl
spent_full (suc c) = omega arith

-- nothing counts as used of an empty capacity
spent_none : (c : ℕ) → spent 0 c ≡ 0
unfolding spent
spent_none c = refl

-- what counts as used does not fall, if nothing is left at the period's end
spent_on : {cap per p l q h : ℕ} → Moved cap per p l q h → (p + 1 ≡ per → l ≡ 0) → spent l cap ≤ spent h cap
spent_on (on a b e) i = rw e (omega arith)
spent_on {cap = c} (over a b e) i = rw (i a, e) (omega (arith, spent_none c, spent_full c))

-- the equation of a fitted guest, as a sum
pub fits_sum : {cap per : ℕ → ℕ} {g x : ℕ} → GuestFits cap per g x → x ≡ cap g + above cap per g x
unfolding guest_side
fits_sum F = F.solves

module _ (cap per : ℕ → ℕ) (g x k : ℕ) (held pos left held' pos' : ℕ → ℕ)
    (F : GuestFits cap per g x) (S : Supply cap per g x held pos) (t : GuestTick cap per g k held pos left held' pos') where
  -- all that guests above hold after the tick
  above_held : sum_to held' g ≤ sum_to left g + sum_to (λ j. begun (pos' j) * cap j) g
  above_held =
      omega (
        arith,
        sum_le held' (λ j. left j + begun (pos' j) * cap j) g (λ j l. held_le (t.moved j (omega arith))),
        sum_add left (λ j. begun (pos' j) * cap j) g,
      )

  -- what the tick leaves guest g
  left_g : left g ≤ held g × held g ≤ left g + 1
  left_g =
      elim (ℕ_discrete g k) [
        | yes e ↦ (let h : left g + 1 ≡ held g = rw (← e) at (t.served.took (omega arith)) in omega arith)
        | no e ↦ omega (arith, t.served.same g (omega arith) e)
      ]

  -- the window goes on, one tick longer
  go_on : suc S.y + sum_to left g ≤ sum_to (λ j. S.m j * cap j) g + spent (left g) (cap g)
      → spent (held g) (cap g) ≤ spent (left g) (cap g)
      → (0 < left g → 0 < held g)
      → Supply cap per g x held' pos' × (pos g + 1 ≡ per g → left g ≡ 0)
  go_on b grows has = (
    record {
      y = suc S.y;
      m = λ j. S.m j + begun (pos' j);
      counts = λ j l. count_on (S.m j) S.y (t.moved j (omega arith)) (S.counts j l);
      shared = omega (arith, above_held, counted, kept);
      upto = λ v l.
          elim (dec_le v S.y) [
            | yes h ↦ omega (arith, S.upto v h, kept)
            | no n ↦ (let e : v ≡ suc S.y = omega arith in rw e (omega (arith, asks, kept)))
          ];
      within = shorter;
      owed = owed_on S.y (t.moved g (omega arith)) (λ l. S.owed (has l));
      most = most_on (t.moved g (omega arith)) (omega (arith, S.most, left_g));
      pace = pace_on (t.moved g (omega arith)) (omega (arith, S.pace, left_g));
    },
    drained,
  )
    where
      asks : sum_to (λ j. S.m j * cap j) g ≤ above cap per g (suc S.y)
      asks = asked_counts cap per (λ j. 0) S.m g (suc S.y) F.periods (λ j l. omega (arith, S.counts j l))

      shorter : suc S.y < x
      shorter =
          elim (dec_lt (suc S.y) x) [
            | yes l ↦ l
            | no n ↦
                (let e : x ≡ suc S.y = omega (arith, S.within) in
                absurd (omega (arith, asks, fits_sum F, ap (above cap per g) e, spent_below (left g) (cap g) F.some)))
          ]

      counted : sum_to (λ j. (S.m j + begun (pos' j)) * cap j) g ≡ sum_to (λ j. S.m j * cap j) g + sum_to (λ j. begun (pos' j) * cap j) g
      counted =
          omega (
            arith,
            sum_same (λ j. (S.m j + begun (pos' j)) * cap j) (λ j. S.m j * cap j + begun (pos' j) * cap j) g
                (λ j l. omega arith),
            sum_add (λ j. S.m j * cap j) (λ j. begun (pos' j) * cap j) g,
          )

      drained : pos g + 1 ≡ per g → left g ≡ 0
      drained e =
          elim (dec_lt 0 (left g)) [
            | yes l ↦ absurd (omega (arith, S.owed (has l), F.inside, shorter))
            | no n ↦ omega arith
          ]

      kept : spent (left g) (cap g) ≤ spent (held' g) (cap g)
      kept = spent_on (t.moved g (omega arith)) drained

  -- nobody up to g has anything left: a new window starts
  restart : ((j : ℕ) → j < g → left j ≡ 0) → left g ≡ 0
      → Supply cap per g x held' pos' × (pos g + 1 ≡ per g → left g ≡ 0)
  restart none empty = (
    record {
      y = 0;
      m = λ j. begun (pos' j);
      counts = λ j l. count_new (t.moved j (omega arith));
      shared = omega (arith, above_held, sum_zero left g none);
      upto = λ v l. omega arith;
      within = omega (arith, F.some, fits_sum F);
      owed = owed_new (t.moved g (omega arith)) empty;
      most = most_on (t.moved g (omega arith)) (omega (arith, S.most, left_g));
      pace = pace_on (t.moved g (omega arith)) (omega (arith, S.pace, left_g));
    },
    λ e. empty,
  )

  -- the invariant and the used-up capacity, by who has the tick
  tick : Supply cap per g x held' pos' × (pos g + 1 ≡ per g → left g ≡ 0)
  tick =
      elim (dec_lt k g) [
        | yes l ↦
            (let e : left g ≡ held g = t.served.same g (omega arith) (λ z. omega arith) in
            go_on
            (rw e
            (omega (arith, S.shared, sum_bump left held 1 g k l (t.served.took (omega arith)) (λ j a n. t.served.same j (omega arith) n))))
            (rw e (omega arith)) (λ h. omega arith))
        | no l ↦
            elim (dec_lt g k) [
              | yes h ↦
                  restart (λ j a. omega (arith, t.served.before j (omega arith) (omega arith), t.served.same j (omega arith) (λ z. omega arith)))
                  (omega (arith, t.served.before g (omega arith) (omega arith), t.served.same g (omega arith) (λ z. omega arith)))
              | no h ↦ mine (omega arith)
            ]
      ]
    where
      mine : k ≡ g → Supply cap per g x held' pos' × (pos g + 1 ≡ per g → left g ≡ 0)
      mine e =
          let a : left g + 1 ≡ held g = rw e at (t.served.took (omega arith)) in
          elim (dec_lt 0 (left g)) [
            | yes h ↦
                go_on
                (omega (
                  arith,
                  S.shared,
                  spent_some (held g) (cap g) (omega arith),
                  spent_some (left g) (cap g) h,
                  S.most,
                  sum_same left held g (λ j l. t.served.same j (omega arith) (λ z. omega arith)),
                ))
                (omega (arith, spent_some (held g) (cap g) (omega arith), spent_some (left g) (cap g) h)) (λ z. omega arith)
            | no n ↦
                restart (λ j l. omega (arith, t.served.before j (omega arith) (omega arith), t.served.same j (omega arith) (λ z. omega arith)))
                (omega arith)
          ]

  -- A tick keeps the invariant.
  pub supply_tick : Supply cap per g x held' pos'
  supply_tick = tick.0

  -- Sure of its capacity: with the last tick of its period guest g has used all of it.
  pub used_up : pos g + 1 ≡ per g → left g ≡ 0
  used_up = tick.1

-- The invariant holds where every position is 0 and every guest is about to be filled.
pub supply_fresh :
    (cap per : ℕ → ℕ) (g x : ℕ) (held pos : ℕ → ℕ)
    → GuestFits cap per g x
    → ((k : ℕ) → k ≤ g → held k ≡ cap k)
    → ((k : ℕ) → k ≤ g → pos k ≡ 0)
    → Supply cap per g x held pos
supply_fresh cap per g x held pos F full start = record {
  y = 0;
  m = λ k. 1;
  counts = λ k l. omega (arith, start k (omega arith));
  shared = omega (arith, sum_same held (λ k. 1 * cap k) g (λ k l. omega (arith, full k (omega arith))));
  upto = λ v l. omega arith;
  within = omega (arith, F.some, fits_sum F);
  owed = λ h. omega (arith, start g (omega arith));
  most = omega (arith, full g (omega arith));
  pace = omega (arith, full g (omega arith));
}

-- How much is used by position pos g, for any demand l that a window of v ticks holds.
pub supplied :
    (cap per : ℕ → ℕ) (g x : ℕ) (held pos : ℕ → ℕ)
    → GuestFits cap per g x
    → Supply cap per g x held pos
    → (l v : ℕ)
    → l ≤ cap g
    → v ≡ l + above cap per g v
    → l + held g ≤ cap g + (v - pos g)
supplied cap per g x held pos F S l v h e =
    elim (dec_lt 0 (held g)) [
      | no n ↦ omega arith
      | yes s ↦
          elim (dec_le v S.y) [
            | yes p ↦ omega (arith, S.upto v p, spent_some (held g) (cap g) s, S.most)
            | no p ↦
                omega (
                  arith,
                  S.upto S.y (omega arith),
                  asked_mono cap per (λ j. 0) g {v = S.y} {w = v} (omega arith),
                  spent_some (held g) (cap g) s,
                  S.owed s,
                  S.most,
                )
          ]
    ]
