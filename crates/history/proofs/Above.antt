-- A task that is quoted has a guest that is fitted, under guests that are fitted: so each of them is sure of its
-- capacity. Assumes nothing.
use mathlib.Core.Path.{◌≡◌, refl}
use mathlib.Core.List.{List}
use Prim.Native.Nat.{ℕ, suc, ◌*◌, ◌≤◌, ◌<◌}
use native.Mathlib.Omega.{arith}
use Rattle.std.specs.Prelude.{Result, Ok, Err}
use Rattle.plan.specs.declared.Plan.{Plan}
use Rattle.plan.specs.declared.Refusal.{Refusal}
use Rattle.plan.specs.Place.{place_of}
use Rattle.verdict.specs.declared.GuestVerdict.{GuestVerdict}
use Rattle.verdict.specs.declared.GuestVerdict.TheVariants.{Fitted, Unfit}
use Rattle.verdict.specs.Verdict.{guest_verdict}
use Rattle.verdict.specs.Quoted.{Quoted}
use Rattle.verdict_laws.specs.Guests.{There, GuestSolves, GuestMeans}
use Rattle.history.specs.Calls.{Call, start, ticks_in, answers, CanStart}
use Rattle.history.specs.Named.{guest_by}
use Rattle.history.specs.Share.{share}
use Rattle.verdict_laws.proofs.Ids.{found_id}
use Rattle.verdict_laws.proofs.Guests.{guest_verdict_means}
use Rattle.verdict_laws.proofs.Tasks.{quoted_means}
use Rattle.history.proofs.Sure.{sure_of_capacity}

-- A guest whose equation has a solution is called fitted.
solved_fitted :
    (p : Plan) (id k x : ℕ)
    → GuestSolves p k x
    → (v : Result GuestVerdict Refusal)
    → guest_verdict p id ≡ v
    → GuestMeans p k v
    → (y : ℕ) × (guest_verdict p id ≡ Ok (Fitted y))
solved_fitted p id k x G (Err r) e m = absurd m
solved_fitted p id k x G (Ok (Fitted y)) e m = (y, e)
solved_fitted p id k x G (Ok Unfit) e m = absurd (m x G)

-- The guest of a quoted task, and each guest above it, is fitted.
pub quoted_fitted :
    (p : Plan) (id number R : ℕ)
    → Quoted p id number R
    → (above : ℕ)
    → place_of p above ≤ place_of p id
    → (x : ℕ) × (guest_verdict p above ≡ Ok (Fitted x))
quoted_fitted p id number R quoted above h =
    let (T, Q) = quoted_means p id number R quoted in
    let (x, G) = Q.fitted (place_of p above) h in
    let place : place_of p above < p.count = omega (arith, T.there.place) in
    let there : There p above (place_of p above) =
    record { order = T.there.order; place = place; named = found_id p above (place_of p above) refl place } in
    solved_fitted p above (place_of p above) x G (guest_verdict p above) refl
    (guest_verdict_means p above (place_of p above) there)

-- The guest of a quoted task, and each guest above it, is sure of its capacity.
pub quoted_sure :
    (p : Plan) (id number R : ℕ)
    → Quoted p id number R
    → (above : ℕ)
    → place_of p above ≤ place_of p id
    → CanStart p
    → (cs : List Call) (k : ℕ)
    → suc k * (guest_by p above).period ≤ ticks_in cs (start p)
    → share above (answers cs (start p)) (k * (guest_by p above).period) (guest_by p above).period
    ≡ (guest_by p above).capacity
quoted_sure p id number R quoted above h can cs k l =
    let (x, e) = quoted_fitted p id number R quoted above h in
    sure_of_capacity p above x e can cs k l
