-- The servers of a plan one of whose guests has another capacity. Assumes nothing.
use mathlib.Core.Path.{◌≡◌, refl, sym, ◌∙◌, ap}
use mathlib.Core.List.{List}
use Prim.Native.Nat.{ℕ, ◌<◌}
use native.Mathlib.Decide.{ℕ_discrete}
use native.Mathlib.Omega.{arith}
use lib.ListN.{length, set, length-set}
use lib.Seq.{get_or-set_same, get_or-set_other}
use Rattle.plan.specs.declared.Guest.{Guest}
use Rattle.plan.specs.Filled.{Filled}
use Rattle.plan.specs.Records.{guest_at, absent}
use Rattle.response.specs.Columns.{ServersOf}
use Rattle.response.specs.Interference.{jitter}
use Rattle.response.specs.declared.servers.Servers.{Servers}
use Rattle.capacity.specs.Capacity.{at_capacity}

-- the guests after
module _ (gs : List Guest) (k c : ℕ) (here : k < length gs) where
  abbrev after : List Guest
  after = set gs k (at_capacity (guest_at gs k) c)

  -- a number of each guest that is not the capacity is as it was
  kept : (f : Guest → ℕ) → f (at_capacity (guest_at gs k) c) ≡ f (guest_at gs k) → (j : ℕ) → f (guest_at gs j) ≡ f (guest_at after j)
  kept f e j =
      elim (ℕ_discrete j k) [
        | yes q ↦ rw q (sym (ap f (get_or-set_same gs k (at_capacity (guest_at gs k) c) absent here) ∙ e))
        | no q ↦ ap f (sym (get_or-set_other gs k j (at_capacity (guest_at gs k) c) absent q))
      ]

  -- a column of such numbers stands
  stands : (f : Guest → ℕ) → f (at_capacity (guest_at gs k) c) ≡ f (guest_at gs k) → {r : List ℕ} {n : ℕ}
      → Filled r (λ j. f (guest_at gs j)) n → Filled r (λ j. f (guest_at after j)) n
  stands f e F = record { long = F.long; holds = λ j h. F.holds j h ∙ kept f e j }

  -- the column of capacities has the other one at its place
  capacities_put : {r : List ℕ} {n : ℕ} → k < 16 → Filled r (λ j. (guest_at gs j).capacity) n
      → Filled (set r k c) (λ j. (guest_at after j).capacity) n
  capacities_put {r} {n} l F = record {
    long = length-set r k c ∙ F.long;
    holds = λ j h.
        elim (ℕ_discrete j k) [
          | yes q ↦
              rw q (get_or-set_same r k c 0 (omega (arith, F.long))
              ∙ sym (ap (λ (g : Guest). g.capacity) (get_or-set_same gs k (at_capacity (guest_at gs k) c) absent here)))
          | no q ↦
              get_or-set_other r k j c 0 q ∙ F.holds j h
              ∙ ap (λ (g : Guest). g.capacity) (sym (get_or-set_other gs k j (at_capacity (guest_at gs k) c) absent q))
        ];
  }

  -- a Periodic guest puts nothing off with either
  same_jitter : (guest_at gs k).deferrable ≡ 0 → jitter (at_capacity (guest_at gs k) c) ≡ jitter (guest_at gs k)
  unfolding jitter
  same_jitter z = rw z refl

  -- so the servers are those of the guests after, where the guest is Periodic
  pub servers_put : {s : Servers} {n : ℕ} → k < 16 → (guest_at gs k).deferrable ≡ 0 → ServersOf gs n s
      → ServersOf after n (record { capacities = set s.capacities k c; periods = s.periods; jitters = s.jitters })
  servers_put l z C = record {
    capacities = capacities_put l C.capacities;
    periods = stands (λ g. g.period) refl C.periods;
    jitters = stands jitter (same_jitter z) C.jitters;
  }

  -- each guest after is Periodic where each was
  pub periodic_put : {n : ℕ} → ((j : ℕ) → j < n → (guest_at gs j).deferrable ≡ 0) → (j : ℕ) → j < n
      → (guest_at after j).deferrable ≡ 0
  periodic_put f j h = sym (kept (λ g. g.deferrable) refl j) ∙ f j h
