-- The search for a task's window: from load to window and back, until the load stays. Assumes nothing.
use Rattle.std.specs.Prelude.{Option, Some, None}
use mathlib.Core.Path.{◌≡◌, refl, sym, ◌∙◌, ap}
use mathlib.Core.Logic.{◌⊎◌, inl, inr}
use Prim.Native.Nat.{ℕ, ◌+◌, ◌-◌, ◌*◌, ◌≤◌, ◌<◌}
use native.Mathlib.Decide.{dec_lt}
use native.Mathlib.Nat.{mul-le-mul_left}
use native.Mathlib.Omega.{arith}
use Rattle.rounding.specs.declared.Edges.{Edges}
use Rattle.rounding.specs.Edges.{Kept}
use Rattle.rounding.specs.Asked.{asked}
use Rattle.rounding.specs.Up.{up}
use Rattle.equation.specs.Guest.{guest_side, guest_under}
use Rattle.equation.specs.Solve.{solve}
use Rattle.equation.specs.Standing.{Rising, before, rest, window_of, Stands}
use Rattle.equation.specs.System.{System, load, right, response_of, later, server_periods}
use Rattle.plan.specs.Ranges.{longest}
use Rattle.response.specs.Ready.{Ready}
use Rattle.response.specs.Window.{FindsWindow}
use Rattle.lists.proofs.Search.{at_of}
use Rattle.rounding.proofs.Up.{Blocks, blocks}
use Rattle.equation.proofs.Solve.{Under, Solved, Answers, solve_none, solve_answers}
use Rattle.equation.proofs.Standing.{stands_on, stands_none, stands_turn, stands_found, turn_later}
use Rattle.equation.proofs.System.{Regular, load_some}
use Rattle.equation.proofs.Rise.{Grows}
use Rattle.equation.proofs.Side.{side_start}
use Rattle.response.proofs.GuestLaws.{response_says, from_under}

-- the task's equation is regular under a fitted guest
pub regular : (S : System) → Grows S.above → (i : ℕ) → Ready S i → (x : ℕ) × Regular S i x
regular S g i r =
    let x = at_of (guest_under S.above S.capacity S.period) r.fits in
    let s = response_says S.above S.capacity S.period x.0 x.1 in (
      x.0,
      record {
        some = r.some;
        within = r.within;
        grows = g;
        runs = r.runs;
        fits = omega (arith, s.sol);
        ends = s.high;
      },
    )

-- A load of at least 1 and where it ends, under guests that take `above v` from v ticks.
module _ (above : ℕ → ℕ) (capacity period l room : ℕ) (some : 1 ≤ capacity) (low : 1 ≤ l) where
  -- how the load lies in server periods
  pub load_lies : Blocks l capacity (up l capacity - 1)
  load_lies = blocks l capacity some low

  -- past its last server period's start none of the room is left
  window_late : room ≤ before capacity period l → None ≡ window_of above capacity period l room
  unfolding window_of
  window_late h =
      let left = rest capacity l in
      let e : guest_under above left (room - before capacity period l) ≡ None =
      sym (from_under above left _ left (side_start above left) (omega (arith, load_lies.more))) in
      rw e refl

  -- a load that is more than the room ends with none of its windows
  pub window_large : capacity ≤ period → room < l → None ≡ window_of above capacity period l room
  unfolding window_of
  window_large within h =
      let left = rest capacity l in
      let m = up l capacity - 1 in
      let e : guest_under above left (room - before capacity period l) ≡ None =
      sym (from_under above left _ left (side_start above left)
      (omega (arith, load_lies.more, mul-le-mul_left m within))) in
      rw e refl

  -- The last server period, after m whole ones: p is where it starts, and left what is left for it.
  module _ {m p left : ℕ} (hm : m ≡ server_periods l capacity - 1) (hs : p ≡ m * period)
      (hr : left ≡ l - m * capacity) where
    -- where it starts
    hp : p ≡ before capacity period l
    hp = hs ∙ ap (λ (k : ℕ). k * period) hm

    -- what is left for it
    hl : left ≡ rest capacity l
    hl = hr ∙ ap (λ (k : ℕ). l - k * capacity) hm

    -- past the room there is no window
    pub window_past : room ≤ p → None ≡ window_of above capacity period l room
    window_past h = window_late (omega (arith, hp))

    -- where what is left begins, it climbs through
    pub begun_rises : (w r : ℕ)
        → (before capacity period l < w → Rising (guest_side above (rest capacity l)) (w - before capacity period l))
        → (r ≡ left) ⊎ ((p < w) × (r ≡ w - p)) → (1 ≤ r) × Rising (guest_side above left) r
    begun_rises w r h (inl e) =
        (omega (arith, load_lies.more, hl), rw e (side_start above left))
    begun_rises w r h (inr (k, e)) =
        (omega arith, rw (e, hp, hl) (h (omega (arith, hp))))

    -- no window: nothing is found in the last server period
    pub window_missing : None ≡ guest_under above left (room - p) → None ≡ window_of above capacity period l room
    unfolding window_of
    window_missing e = rw (← hp, ← hl, ← e) refl

    -- the window, off what was found in the last server period
    pub window_is : (v : ℕ) → Some v ≡ guest_under above left (room - p)
        → Some (p + v) ≡ window_of above capacity period l room
    unfolding window_of response_of
    window_is v e = let q : p + v ≡ v + p = omega arith in rw (← hp, ← hl, ← e, q) refl

    -- it is within the room
    pub window_within : (v : ℕ) → p ≤ room → Some v ≡ guest_under above left (room - p) → p + v ≤ room
    unfolding guest_under
    window_within v h e =
        let o : Solved (guest_side above left) (room - p) v =
        rw (← e) at (solve_answers (guest_side above left) (room - p)) in
        omega (arith, o.high)

  -- no window: nothing was found in the last server period
  pub window_none : None ≡ window_of above capacity period l room
      → guest_under above (rest capacity l) (room - before capacity period l) ≡ None
  unfolding window_of
  window_none e = go (guest_under above (rest capacity l) (room - before capacity period l)) e
    where
      go : (g : Option ℕ) → None ≡ later (before capacity period l) g → g ≡ None
      go None q = refl
      go (Some v) q = absurd cc

  -- a window: it ends with what was found in the last server period
  pub window_found : (r : ℕ) → Some r ≡ window_of above capacity period l room
      → (v : ℕ) × (guest_under above (rest capacity l) (room - before capacity period l) ≡ Some v)
      × (r ≡ before capacity period l + v) × (r ≤ room)
  unfolding window_of guest_under response_of
  window_found r e = go (solve f t) refl (solve_answers f t)
    where
      f : ℕ → ℕ
      f = guest_side above (rest capacity l)

      t : ℕ
      t = room - before capacity period l

      go : (g : Option ℕ) → solve f t ≡ g → Answers f t g
          → (v : ℕ) × (solve f t ≡ Some v) × (r ≡ before capacity period l + v) × (r ≤ room)
      go None q a =
          let k : Some r ≡ None = e ∙ ap (λ (g : Option ℕ). later (before capacity period l) g) q in
          absurd cc
      go (Some v) q a =
          let k : Some r ≡ Some (v + before capacity period l) =
          e ∙ ap (λ (g : Option ℕ). later (before capacity period l) g) q in
          let b : r ≡ v + before capacity period l = cc in
          (v, q, omega arith, omega (arith, a.low, a.high))

-- The search for the window of task i stands at w, within the room, where the task's load is l; the edges of the tasks
-- above are those of w.
pub record Searching (S : System) (i room : ℕ) (e : Edges) (w l : ℕ) : Type 0 where
  pub x : ℕ
  pub sure : Regular S i x
  pub short : room ≤ longest
  pub high : w ≤ room
  pub stands : Stands S i w
  pub kept : Kept S.run S.every S.gap e i w
  pub is : l ≡ load S i w

-- a task's run and what those above it ask are its load
pub load_is : (S : System) (i w own asks : ℕ) → own ≡ S.run i → asks ≡ asked S.run S.every S.gap i w
    → own + asks ≡ load S i w
unfolding load
load_is S i w own asks e q = omega arith

-- no window at all: a first gap past `most`, or a search that stands past the room
pub finds_late : (S : System) (i t : ℕ) (e : Edges) (w : ℕ) → t < w → Under (right S i) w
    → FindsWindow S i t e None
finds_late S i t e w past under =
    record { is = solve_none (right S i) t w past under; stands = λ w e. absurd cc; kept = λ w e. absurd cc }

module _ {S : System} {i room : ℕ} {e : Edges} {w l : ℕ} (s : Searching S i room e w l) where
  -- there is a load
  pub search_some : 1 ≤ l
  search_some = omega (arith, s.is, load_some S i w s.sure.runs)

  -- past the start of its last server period it may climb on from w
  pub search_on : before S.capacity S.period l < w
      → Rising (guest_side S.above (rest S.capacity l)) (w - before S.capacity S.period l)
  search_on = stands_on S i s.x s.sure w l s.stands s.is

  -- the load ends with no window: nor does the search
  pub search_none : None ≡ window_of S.above S.capacity S.period l room → FindsWindow S i room e None
  search_none h =
      let none = window_none S.above S.capacity S.period l room s.sure.some search_some h in
      record {
        is = stands_none S i s.x s.sure w l s.stands s.is room none;
        stands = λ w e. absurd cc;
        kept = λ w e. absurd cc;
      }

  -- Here r is the window that the load ends with.
  module _ (r : ℕ) (h : Some r ≡ window_of S.above S.capacity S.period l room) where
    found : (v : ℕ)
        × (guest_under S.above (rest S.capacity l) (room - before S.capacity S.period l) ≡ Some v)
        × (r ≡ before S.capacity S.period l + v) × (r ≤ room)
    found = window_found S.above S.capacity S.period l room s.sure.some search_some r h

    -- the window is within the room, and no sooner than w
    pub search_later : (w ≤ r) × (r ≤ room)
    search_later = (
      omega (arith, found.2, turn_later S i s.x s.sure w l s.stands s.is found.0 _ found.1),
      found.3,
    )

    -- the search stands there
    pub search_stands : Stands S i r
    search_stands = rw found.2 (stands_turn S i s.x s.sure w l s.stands s.is found.0 _ found.1)

    -- the load is within the room
    pub search_room : l ≤ room
    search_room =
        elim (dec_lt room l) [
          | yes k ↦
              let z = window_large S.above S.capacity S.period l room s.sure.some search_some
              s.sure.within k in
              let q : Some r ≡ None = h ∙ sym z in
              absurd cc
          | no k ↦ omega arith
        ]

    module _ (e' : Edges) (more : ℕ) (kept : Kept S.run S.every S.gap e' i r) (is : more ≡ load S i r) where
      -- a turn
      pub search_turn : Searching S i room e' r more
      search_turn = record {
        x = s.x;
        sure = s.sure;
        short = s.short;
        high = found.3;
        stands = search_stands;
        kept = kept;
        is = is;
      }

      -- the search ends where the load stays
      pub search_found : more ≤ l → FindsWindow S i room e' (Some r)
      search_found stays = record {
        is =
            ap Some found.2
            ∙ stands_found S i s.x s.sure w l s.stands s.is found.0 _ found.1 room
            (omega (arith, found.2, found.3)) (omega (arith, is, ap (load S i) found.2));
        stands = λ k q. let b : r ≡ k = cc in rw (← b) search_stands;
        kept = λ k q. let b : r ≡ k = cc in rw (← b) kept;
      }
