-- The turns of the search, over any numbers that can be halved, and its two ends. Assumes nothing.
use Rattle.std.specs.Prelude.{Option, Some, None}
use mathlib.Core.Path.{◌≡◌, refl, ◌∙◌, ap}
use mathlib.Core.Bool.{Bool, true, false, ◌&&◌}
use Prim.Native.Nat.{ℕ, ◌+◌, ◌-◌, ◌≤◌, ◌<◌}
use native.Mathlib.Omega.{arith}
use Rattle.lists.specs.Search.{least}
use Rattle.capacity.specs.declared.search.Span.{Span}
use Rattle.std.specs.Option.{option_or}
use Rattle.capacity.specs.Search.{smallest_of, next_try, Known, Narrows}
use Rattle.lists.proofs.All.{and_false_left}
use Rattle.lists.proofs.Search.{least_is}
use Rattle.equation.proofs.Halve.{Halving, halve_none, halve_left, halve_right, halve_lower, halve_here}
use Rattle.capacity.proofs.NextTry.{unfit_ends, working_ends, unmet_small, after_small, after_ends, Fewer, after_fewer}

-- nothing is left to try: the answer is the best so far
pub empty_span : (works : ℕ → Bool) (lo hi : ℕ) (best : Option ℕ) → hi ≤ lo → best ≡ smallest_of works lo hi best
unfolding smallest_of
empty_span works lo hi best h = ap (λ (f : Option ℕ). option_or f best) (halve_none works lo hi h)

-- where none works yet the answer is that of the whole interval
pub whole_span : (works : ℕ → Bool) (lo hi : ℕ) → smallest_of works lo hi None ≡ least works (hi - lo) lo
unfolding smallest_of
whole_span works lo hi = go (least works (hi - lo) lo)
  where
    go : (f : Option ℕ) → option_or f None ≡ f
    go None = refl
    go (Some c) = refl

-- a turn, by what the capacity tried comes to
module _ (fit works : ℕ → Bool) (good : Halving fit works) (period : ℕ) (s : Span) (c : ℕ) (pos : 1 ≤ s.lo)
    (t : (c ≡ next_try period s.lo s.hi) × ((s.lo ≤ c) × (c < s.hi))) where
  -- it is unfit: the answer is to the left
  pub turn_left : fit c ≡ false → Narrows fit works period s record { lo = s.lo; hi = c; best = s.best }
  unfolding smallest_of
  turn_left e =
      let left = after_ends fit works period s.lo s.hi c t.0 (unfit_ends fit works c e) in
      record {
        low = left.0;
        high = left.1;
        same = ap (λ (f : Option ℕ). option_or f s.best) (halve_left fit works good s.lo c s.hi pos t.1.0 t.1.1 e);
      }

  -- it is fitted and does not work: the answer is to the right
  pub turn_right : (fit c ≡ true) × (works c ≡ false)
      → Narrows fit works period s record { lo = c + 1; hi = s.hi; best = s.best }
  unfolding smallest_of
  turn_right e =
      let left = after_small fit works period s.lo s.hi c t.0 (unmet_small fit works c e) in
      record {
        low = left.0;
        high = left.1;
        same = ap (λ (f : Option ℕ). option_or f s.best)
            (halve_right fit works good s.lo c s.hi pos t.1.0 t.1.1 e.0 e.1);
      }

  -- it works: the answer is to the left, or else here
  pub turn_here : works c ≡ true → Narrows fit works period s record { lo = s.lo; hi = c; best = Some c }
  unfolding smallest_of
  turn_here e =
      let left = after_ends fit works period s.lo s.hi c t.0 (working_ends fit works c e) in
      record { low = left.0; high = left.1; same = go (least works (c - s.lo) s.lo) refl }
    where
      go : (f : Option ℕ) → least works (c - s.lo) s.lo ≡ f
          → option_or f (Some c) ≡ option_or (least works (s.hi - s.lo) s.lo) s.best
      go None a =
          ap (λ (f : Option ℕ). option_or f s.best) (halve_here fit works good s.lo c s.hi pos t.1.0 t.1.1 e a)
      go (Some y) a =
          ap (λ (f : Option ℕ). option_or f s.best) (halve_lower fit works good s.lo c s.hi pos t.1.0 t.1.1 a)

-- a turn leaves fewer of the capacities to try
pub narrows_fewer : {fit works : ℕ → Bool} {period : ℕ} {s r : Span} → Narrows fit works period s r
    → s.lo < s.hi → Fewer s.lo s.hi r.lo r.hi
narrows_fewer n h = rw (n.low, n.high) (after_fewer _ _ _ _ _ h)

-- a guest above is unfit: nothing works
pub above_unfit : {b : Bool} (f : ℕ → Bool) (n : ℕ) → b ≡ false → None ≡ least (λ c. b && f c) n 1
above_unfit f n e = least_is _ n 1 None record { never = λ z h k. and_false_left (f z) e }

-- all above are fitted: what works is what the search finds
pub above_fitted : {b : Bool} (f g : ℕ → Bool) {r : Option ℕ} (n : ℕ) → b ≡ true → f ≡ g → r ≡ least f n 1
    → r ≡ least (λ c. b && g c) n 1
above_fitted f g n e k a = rw e (a ∙ ap (λ (t : ℕ → Bool). least t n 1) k)

-- a capacity that is fitted is known to work where none past it is left to try
pub known_here : (fit : ℕ → Bool) (c : ℕ) → fit c ≡ true → Known fit c (Some c)
known_here fit c f b e = let q : c ≡ b = cc in (omega arith, rw (← q) f)
