-- Edges moved on with a window. Assumes nothing.
use mathlib.Core.Path.{◌≡◌, refl, sym, ◌∙◌, ap, subst}
use mathlib.Core.List.{List}
use Prim.Native.Nat.{ℕ, zero, suc, ◌+◌, ◌-◌, ◌*◌, ◌≤◌, ◌<◌}
use native.Mathlib.Decide.{dec_lt, ℕ_discrete}
use native.Mathlib.Nat.{add-mul, mul-le-mul}
use native.Mathlib.Omega.{arith}
use lib.Dec.{ltb}
use lib.ListN.{length, set, replicate, length-set, length-replicate, get_or-replicate, get_or-eq_default}
use lib.Seq.{get_or-set_same, get_or-set_other}
use borrow.Author.Tests.{lt-ltb, le-ltb}
use Rattle.lists.specs.Choice.{pick}
use Rattle.lists.specs.Places.{nth}
use Rattle.lists.specs.Sum.{sum_to}
use Rattle.rounding.specs.Up.{up}
use Rattle.rounding.specs.Asked.{asked}
use Rattle.rounding.specs.Short.{bound, long}
use Rattle.rounding.specs.declared.Edges.{Edges}
use Rattle.rounding.specs.Edges.{Kept, Behind}
use Rattle.lists.proofs.Sum.{sum_none, sum_next, sum_last, sum_same, sum_zero}
use Rattle.rounding.proofs.Asked.{asked_none, asked_next}
use Rattle.rounding.proofs.Up.{up_mono, up_le, up_most, up_past, up_stays}

-- The loop has moved on the first k of n edges; the others are still those of the counts that it began with.
pub record Moving (cost every late : ℕ → ℕ) (edge : List ℕ) (n v asks k : ℕ) : Type 0 where
  pub count : ℕ → ℕ
  pub few : (j : ℕ) → j < n → count j * cost j ≤ long * bound
  pub behind : (j : ℕ) → j < n → count j ≤ up (v + late j) (every j)
  pub full : length edge ≡ 16
  pub passed : (j : ℕ) → j < k → nth edge j ≡ up (v + late j) (every j) * every j
  pub small : (j : ℕ) → j < k → up (v + late j) (every j) * cost j ≤ long * bound
  pub ahead : (j : ℕ) → k ≤ j → j < n → nth edge j ≡ count j * every j
  pub rest : (j : ℕ) → n ≤ j → nth edge j ≡ 0
  pub is : asks + sum_to (λ j. count j * cost j) k ≡ sum_to (λ j. count j * cost j) n + asked cost every late k v
  pub most : asked cost every late k v ≤ k * (long * bound)

-- of what is at most long * bound each, the d past the first k are at most d times that
sum_tail : (f : ℕ → ℕ) (k d : ℕ) → ((j : ℕ) → j < k + d → f j ≤ long * bound)
    → sum_to f (k + d) ≤ sum_to f k + d * (long * bound)
sum_tail f k zero h = omega (arith, ap (sum_to f) (let e : k + 0 ≡ k = omega arith in e))
sum_tail f k (suc d) h =
    let e : k + suc d ≡ suc (k + d) = omega arith in
    omega (
      arith,
      ap (sum_to f) e,
      sum_last f (k + d),
      sum_tail f k d (λ j l. h j (omega arith)),
      h (k + d) (omega arith),
    )

-- an edge that moves on passes the window by no more than one block
pub edge_most : (old end b more : ℕ) → more ≡ up (end - old) b → old < end → old + more * b ≤ end + b
edge_most old end b more e h = rw e (omega (arith, up_most (end - old) b))

-- what a moved edge asks more
pub more_most : (a b : ℕ) → a ≤ long → b < bound → a * b ≤ long * bound
more_most a b h l = let k : b ≤ bound = omega arith in mul-le-mul h k

module _ (cost every late : ℕ → ℕ) (n v : ℕ) where
  -- the loop starts: no edge has moved
  pub moving_start : {e : Edges} → length e.at ≡ 16 → Behind cost every late e n v
      → Moving cost every late e.at n v e.sum 0
  moving_start l b = record {
    count = b.count;
    few = b.small;
    behind = b.behind;
    full = l;
    passed = λ j h. absurd (omega arith);
    small = λ j h. absurd (omega arith);
    ahead = λ j h. b.edges j;
    rest = b.rest;
    is = omega (arith, b.is, sum_none (λ j. b.count j * cost j), asked_none cost every late v);
    most = omega (arith, asked_none cost every late v);
  }

  module _ {edge : List ℕ} {asks k : ℕ} (m : Moving cost every late edge n v asks k) where
    -- what has been asked is far within 64 bits
    pub moving_most : k < n → asks ≤ n * (long * bound)
    moving_most h =
        let e : k + (n - k) ≡ n = omega arith in
        let t = sum_tail (λ j. m.count j * cost j) k (n - k) (λ j h. m.few j (omega arith)) in
        omega (arith, ap (sum_to (λ j. m.count j * cost j)) e, m.is, m.most)

    -- the number that the window's end is short of its edge by, in the first place that is ahead
    edge_here : k < n → nth edge k ≡ m.count k * every k
    edge_here h = m.ahead k (omega arith) h

    -- the turn, once the quotient at k is known and what it asks more
    turn : k < n → (edge' : List ℕ) (t : ℕ) → length edge' ≡ 16
        → ((j : ℕ) → (j ≡ k → ⊥) → nth edge' j ≡ nth edge j)
        → nth edge' k ≡ up (v + late k) (every k) * every k
        → m.count k * cost k + t ≡ up (v + late k) (every k) * cost k
        → up (v + late k) (every k) * cost k ≤ long * bound
        → Moving cost every late edge' n v (asks + t) (k + 1)
    turn h edge' t l same here more little =
        let s = sum_next (λ j. m.count j * cost j) k in
        let a = asked_next cost every late k v in
        record {
          count = m.count;
          few = m.few;
          behind = m.behind;
          full = l;
          passed = λ j b.
              elim (ℕ_discrete j k) [
                | yes e ↦ rw e here
                | no e ↦ same j e ∙ m.passed j (omega arith)
              ];
          small = λ j b.
              elim (ℕ_discrete j k) [
                | yes e ↦ rw e little
                | no e ↦ m.small j (omega arith)
              ];
          ahead = λ j b c. same j (λ e. omega arith) ∙ m.ahead j (omega arith) c;
          rest = λ j b. same j (λ e. omega arith) ∙ m.rest j b;
          is = omega (arith, m.is, s, a);
          most = omega (arith, m.most, a);
        }

    -- the window has not passed the edge: nothing moves
    pub moving_stays : k < n → v + late k ≤ nth edge k → Moving cost every late edge n v asks (k + 1)
    moving_stays h le =
        let e = up_stays (v + late k) (every k) (m.count k) (m.behind k h) (omega (arith, edge_here h)) in
        let q : asks + 0 ≡ asks = omega arith in
        rw q at
        (turn h edge 0 m.full (λ j b. refl) (rw e (edge_here h))
        (rw e (omega arith))
        (rw e (m.few k h)))

    -- the window has passed the edge: it moves on by as many blocks as hold what is past
    pub moving_moves : k < n → n ≤ 16 → v + late k < long → nth edge k < v + late k → (more a b : ℕ)
        → more ≡ up (v + late k - nth edge k) (every k) → a ≡ more → b ≡ cost k → b < bound
        → Moving cost every late (set edge k (nth edge k + more * every k)) n v (asks + a * b) (k + 1)
    moving_moves h seats short past more a b e ea eb cheap =
        let here = edge_here h in
        let q : up (v + late k) (every k) ≡ m.count k + more =
        rw (e, here) (up_past (v + late k) (every k) (m.count k) (m.behind k h) (omega arith)) in
        let little = more_most (up (v + late k) (every k)) (cost k) (omega (arith, up_le (v + late k) (every k)))
        (omega arith) in
        rw (ea, eb)
        (turn h (set edge k (nth edge k + more * every k)) (more * cost k) (length-set edge k _ ∙ m.full)
        (λ j n. get_or-set_other edge k j _ 0 n)
        (get_or-set_same edge k _ 0 (omega (arith, m.full)) ∙ rw (q, here) (sym (add-mul (m.count k) more (every k))))
        (rw q (sym (add-mul (m.count k) more (cost k))))
        little)

-- an array of zeros has no edges
zeros : (k : ℕ) → nth (replicate 16 0) k ≡ 0
zeros k =
    elim (dec_lt k 16) [
      | yes h ↦ get_or-replicate 16 k 0 0 h
      | no h ↦ get_or-eq_default {A = ℕ} (replicate 16 0) 0 {n = k} (rw (length-replicate {A = ℕ} 16 0) (omega arith))
    ]

-- it stands behind every window
pub none_behind : (cost every late : ℕ → ℕ) (n v : ℕ)
    → Behind cost every late (record { at = replicate 16 0; sum = 0 }) n v
none_behind cost every late n v = record {
  count = λ k. 0;
  edges = λ k h. omega (arith, zeros k);
  small = λ k h. omega arith;
  behind = λ k h. omega arith;
  is = sym (sum_zero (λ k. 0 * cost k) n (λ k h. omega arith));
  rest = λ k h. zeros k;
}

module _ {cost every late : ℕ → ℕ} {e : Edges} {n v : ℕ} (s : Kept cost every late e n v) where
  -- what is kept at a window stands behind each that is no shorter
  pub kept_behind : (w : ℕ) → v ≤ w → Behind cost every late e n w
  unfolding asked
  kept_behind w h = record {
    count = λ k. up (v + late k) (every k);
    edges = s.edges;
    small = s.small;
    behind = λ k l. up_mono (every k) (omega arith);
    is = s.is;
    rest = s.rest;
  }

  -- the quotients that are kept, and 0 past them
  abbrev counts : ℕ → ℕ
  counts k = pick (ltb k n) (up (v + late k) (every k)) 0

  -- a count below n is the quotient
  count_here : (k : ℕ) → k < n → counts k ≡ up (v + late k) (every k)
  count_here k h = rw (lt-ltb k n h) refl

  -- the next one has none
  count_next : counts n ≡ 0
  count_next = rw (le-ltb n n (omega arith)) refl

  -- one more, which has no edge yet, stands behind too
  pub kept_more : (w : ℕ) → v ≤ w → Behind cost every late e (n + 1) w
  unfolding asked
  kept_more w h = record {
    count = counts;
    edges = λ k l. go k l (λ q. nth e.at k ≡ q * every k) (s.edges k) (λ e. omega (arith, s.rest k (omega arith)));
    small = λ k l. go k l (λ q. q * cost k ≤ long * bound) (s.small k) (λ e. omega arith);
    behind = λ k l. go k l (λ q. q ≤ up (w + late k) (every k)) (λ b. up_mono (every k) (omega arith)) (λ e. omega arith);
    is =
        s.is
        ∙ sum_same (λ k. up (v + late k) (every k) * cost k) (λ k. counts k * cost k) n
        (λ k b. ap (λ (q : ℕ). q * cost k) (sym (count_here k b)))
        ∙ (let e = sum_next (λ k. counts k * cost k) n in
        let z : counts n * cost n ≡ 0 * cost n = ap (λ (q : ℕ). q * cost n) count_next in
        omega arith);
    rest = λ k l. s.rest k (omega arith);
  }
    where
      go : (k : ℕ) → k < n + 1 → (P : ℕ → Type 0) → (k < n → P (up (v + late k) (every k))) → (k ≡ n → P 0)
          → P (counts k)
      go k l P here next =
          elim (dec_lt k n) [
            | yes b ↦ subst P (sym (count_here k b)) (here b)
            | no b ↦
                let e : k ≡ n = omega arith in
                subst P (sym (ap counts e ∙ count_next)) (next e)
          ]

  -- what is asked is far within 64 bits
  pub kept_most : e.sum ≤ n * (long * bound)
  unfolding asked
  kept_most =
      let q : 0 + n ≡ n = omega arith in
      omega (
        arith,
        s.is,
        ap (sum_to (λ k. up (v + late k) (every k) * cost k)) q,
        sum_none (λ k. up (v + late k) (every k) * cost k),
        sum_tail (λ k. up (v + late k) (every k) * cost k) 0 n (λ k l. s.small k (omega arith)),
      )
