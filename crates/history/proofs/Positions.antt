-- Where guests stand: a guest's position is the ticks done since the fresh start, modulo its period, and no release moves
-- it. So a bound task's guest is back at position 0 whenever whole periods of the task have passed since a taken release
-- of it. Assumes nothing.
use mathlib.Core.Path.{◌≡◌, refl, sym, ap, ◌∙◌}
use mathlib.Core.Bool.{true}
use mathlib.Core.List.{List, [], ◌∷◌, ◌++◌}
use Prim.Native.Nat.{ℕ, ◌+◌, ◌-◌, ◌*◌, ◌/◌, ◌%◌, ◌<◌}
use native.Mathlib.Nat.{mod-lt, mul-mod_left, div-add-mod'}
use native.Mathlib.Omega.{arith}
use lib.ListN.{take}
use Rattle.plan.specs.declared.Plan.{Plan}
use Rattle.plan.specs.Place.{place_of}
use Rattle.plan.specs.Records.{guest_at}
use Rattle.dispatcher.specs.declared.Dispatcher.{Dispatcher}
use Rattle.dispatcher.specs.declared.Released.{Released}
use Rattle.dispatcher.specs.Release.{taken, release}
use Rattle.sheet.specs.Sheet.{pair_guest, pair_task}
use Rattle.history.specs.Calls.{Call, releasing, start, after, play, released, ticks_of, ticks_in, CanStart}
use Rattle.history.specs.Named.{bound_by, position_by, every_by, guest_by, StartsHere}
use Rattle.history.specs.Sheets.{releases, up_to_pair}
use Rattle.plan.proofs.Order.{plan_in}
use Rattle.dispatcher_laws.proofs.Release.{Took, release_took}
use Rattle.dispatcher_laws.proofs.Release.Took.{kept, took}
use Rattle.dispatcher_laws.proofs.Seen.{pos_at}
use Rattle.dispatcher_laws.proofs.Sound.{at_0, guest_in_lem, task_in}
use Rattle.history.proofs.Clocks.{sound_reached}
use Rattle.history.proofs.Sheets.{play_append, ticks_append}
use Rattle.history.proofs.Sure.{position_is}
use Rattle.plan.proofs.PeriodicLaws.{starts_in_order}

-- A release moves no guest.
release_stands : (d : Dispatcher) (id task : ℕ) → (release d id task).state.position ≡ d.position
unfolding taken
release_stands d id task = by (release_took d id task)
  where
    by : {r : Released} → Took d id task r → r.state.position ≡ d.position
    by (kept n e) = ap (λ (z : Dispatcher). z.position) e
    by (took k t F e) = ap (λ (z : Dispatcher). z.position) e

-- Releases one after the other move no guest.
releases_stand : (pairs : List ℕ) (d : Dispatcher) → (play (releases pairs) d).position ≡ d.position
unfolding releases play after
releases_stand [] d = refl
releases_stand (pair ∷ pairs) d =
    releases_stand pairs (release d (pair_guest pair) (pair_task pair)).state
    ∙ release_stands d (pair_guest pair) (pair_task pair)

-- A task that may start before a sheet may start where pair i of it is released.
pub here_in_sheet :
    (p : Plan) (id number : ℕ) (cs : List Call) (pairs : List ℕ) (i : ℕ) (d : Dispatcher)
    → StartsHere p id number (play cs d)
    → StartsHere p id number (play (up_to_pair cs pairs i) d)
here_in_sheet p id number cs pairs i d here =
    rw (play_append cs (releases (take i pairs)) d, releases_stand (take i pairs) (play cs d)) here

-- Whole periods and whole multiples of them are whole periods.
whole_sum : (a m b t : ℕ) → a % t ≡ 0 → b % t ≡ 0 → (a + m * b) % t ≡ 0
whole_sum a m b t p q =
    let l = div-add-mod' a t in
    let r = div-add-mod' b t in
    let e : a + m * b ≡ (a / t + m * (b / t)) * t =
    omega (arith, l, ap (λ (z : ℕ). m * z) (sym r ∙ ap (λ (z : ℕ). b / t * t + z) q)) in
    rw e (mul-mod_left (a / t + m * (b / t)) t)

module _ (p : Plan) (can : CanStart p) where
  -- A guest's position is the ticks done, modulo its period.
  position_mod :
      (g : ℕ) → g < p.count → (cs : List Call)
      → pos_at (play cs (start p)) g ≡ ticks_in cs (start p) % (guest_at p.guests g).period
  position_mod g h cs =
      let G = ((plan_in p (starts_in_order p can)).guests g h).head in
      let T = (guest_at p.guests g).period in
      let n = ticks_in cs (start p) in
      position_is p g h can cs (n / T) (n % T) (mod-lt n (omega (arith, G.some, G.fits)))
      (sym (div-add-mod' n T))

  module _ (id number : ℕ) (cs : List Call) (taken-it : (release (play cs (start p)) id number).refusal.number ≡ 0)
      (ds : List Call) (bound : bound_by p id number ≡ true) where
    -- The whole history.
    abbrev all : List Call
    all = cs ++ (releasing id number ∷ ds)

    -- Its state.
    all_state : play all (start p) ≡ play ds (released p id number cs)
    unfolding play
    all_state = play_append cs (releasing id number ∷ ds) (start p)

    -- Its ticks.
    all_ticks : ticks_in all (start p) ≡ ticks_in cs (start p) + ticks_in ds (released p id number cs)
    unfolding ticks_in ticks_of
    all_ticks = omega (arith, ticks_append cs (releasing id number ∷ ds) (start p))

    -- When whole periods of a bound task have passed since a taken release of it, its guest is at position 0 again.
    pub back_at_0 :
        (m : ℕ) → ticks_in ds (released p id number cs) ≡ m * every_by p id number
        → position_by p id (play ds (released p id number cs)) ≡ 0
    back_at_0 m e =
        let D = sound_reached p can cs in
        let g = place_of p id in
        let h = guest_in_lem p (play cs (start p)) D id number taken-it in
        let i = task_in p (play cs (start p)) D id number taken-it in
        let T = (guest_by p id).period in
        let then0 : ticks_in cs (start p) % T ≡ 0 =
        sym (position_mod g h cs) ∙ at_0 p (play cs (start p)) D id number taken-it bound in
        let whole : every_by p id number % T ≡ 0 = ((plan_in p (starts_in_order p can)).guests g h).starts (number - 1) i bound in
        ap (λ (z : Dispatcher). pos_at z g) (sym all_state)
        ∙ position_mod g h all
        ∙ ap (λ (z : ℕ). z % T) (all_ticks ∙ ap (λ (z : ℕ). ticks_in cs (start p) + z) e)
        ∙ whole_sum (ticks_in cs (start p)) m (every_by p id number) T then0 whole
