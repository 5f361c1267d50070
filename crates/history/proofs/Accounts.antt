-- What one tick more does to the numbers that count ticks: its answer says where one is added, modulo 2 to the 64.
-- Assumes nothing.
use mathlib.Core.Path.{◌≡◌, refl, ap, sym, subst, ◌∙◌}
use mathlib.Core.List.{List, [], ◌∷◌, ◌++◌}
use Prim.Native.Nat.{ℕ, suc, ◌+◌, ◌%◌, ◌≤◌, ◌<◌}
use native.Mathlib.Decide.{ℕ_discrete}
use native.Mathlib.Omega.{arith}
use lib.ListN.{length, length-append}
use Rattle.lists.specs.Places.{nth}
use Rattle.lists.specs.Sum.{sum_to}
use Rattle.plan.specs.declared.Plan.{Plan}
use Rattle.arrays.specs.Usage.{wrap, idled_at, nobodys, one_more}
use Rattle.dispatcher.specs.declared.Answer.{Answer}
use Rattle.history.specs.Share.{names, count_of}
use Rattle.history.specs.Usage.{idles, unhad, in_all, Accounts}
use Rattle.lists.proofs.Sum.{sum_same, sum_change}
use Rattle.plan.proofs.Order.{PlanIn}
use Rattle.arrays.proofs.Tallies.{more_long, more_here, more_else}
use Rattle.verdict_laws.proofs.Ids.{id_of}
use Rattle.history.proofs.Share.{count_next}

-- One answer more adds to a count what the test says of it.
in_all_next : (f : Answer → ℕ) (l : List Answer) (a : Answer) → in_all f (l ++ (a ∷ [])) ≡ in_all f l + f a
in_all_next f l a =
    let e : length (l ++ (a ∷ [])) ≡ suc (length l) = simp length-append (omega arith) in
    ap (λ (n : ℕ). count_of f (l ++ (a ∷ [])) 0 n) e ∙ count_next f l a 0 (length l) (omega arith)

module _ (f : Answer → ℕ) (l : List Answer) (a : Answer) {x y : ℕ} (e : x ≡ in_all f l % wrap) where
  -- An answer that is counted adds one to its place.
  goes_up : f a ≡ 1 → y ≡ (x + 1) % wrap → y ≡ in_all f (l ++ (a ∷ [])) % wrap
  goes_up h g = omega (arith, in_all_next f l a)

  -- An answer that is not counted leaves the place as it was.
  stays_put : f a ≡ 0 → y ≡ x → y ≡ in_all f (l ++ (a ∷ [])) % wrap
  stays_put h g = omega (arith, in_all_next f l a)

-- A sum of places grows by one where one of them does, whatever that place wraps to.
sum_more :
    (u : List ℕ) (n k : ℕ) → k < n → k < length u
    → sum_to (nth (one_more u k)) n + nth u k ≡ sum_to (nth u) n + (nth u k + 1) % wrap
sum_more u n k h l =
    omega (arith, sum_change (nth (one_more u k)) (nth u) n k h (λ j b q. more_else u k j q), more_here u k l)

-- A sum of places stands where none of them grows.
sum_still : (u : List ℕ) (n k : ℕ) → n ≤ k → sum_to (nth (one_more u k)) n ≡ sum_to (nth u) n
sum_still u n k h = sum_same (nth (one_more u k)) (nth u) n (λ j b. more_else u k j (λ q. omega arith))

-- The numbers after one tick more, by its answer: who is named, who idled, and whether nobody had it.
module _ (p : Plan) (P : PlanIn p) (l : List Answer) (a : Answer) (u : List ℕ) (long : length u ≡ 17)
    (A : Accounts p l u) where
  -- The numbers are right after a tick that nobody had.
  pub by_nobody :
      ((id : ℕ) → names id a ≡ 0) → ((id : ℕ) → idles id a ≡ 0) → unhad a ≡ 1
      → Accounts p (l ++ (a ∷ [])) (one_more u nobodys)
  by_nobody m i z = record {
    ticks =
        λ k h. stays_put (names (id_of p k)) l a (A.ticks k h) (m (id_of p k))
        (more_else u 16 k (λ q. omega (arith, P.few)));
    idled =
        λ k h. stays_put (idles (id_of p k)) l a (A.idled k h) (i (id_of p k))
        (more_else u 16 (8 + k) (λ q. omega (arith, P.few)));
    nobody = goes_up unhad l a A.nobody z (more_here u 16 (omega arith));
    all =
        let e : length (l ++ (a ∷ [])) ≡ suc (length l) = simp length-append (omega arith) in
        omega (arith, A.all, sum_still u p.count 16 (omega (arith, P.few)), more_here u 16 (omega arith));
  }

  -- The tick is guest h's.
  module _ (h : ℕ) (in_plan : h < p.count) (mine : names (id_of p h) a ≡ 1)
      (others : (k : ℕ) → k < p.count → (h ≡ k → ⊥) → names (id_of p k) a ≡ 0) (z : unhad a ≡ 0) where
    -- Each guest's ticks are right after a tick of guest h.
    ticks_by :
        (v : List ℕ) → ((k : ℕ) → k < 8 → nth v k ≡ nth (one_more u h) k) → (k : ℕ) → k < p.count
        → nth v k ≡ in_all (names (id_of p k)) (l ++ (a ∷ [])) % wrap
    ticks_by v s k b =
        elim (ℕ_discrete h k) [
          | yes e ↦
              goes_up (names (id_of p k)) l a (A.ticks k b) (subst (λ (x : ℕ). names (id_of p x) a ≡ 1) e mine)
              (s k (omega (arith, P.few))
              ∙ subst (λ (x : ℕ). nth (one_more u h) x ≡ (nth u x + 1) % wrap) e (more_here u h (omega (arith, P.few))))
          | no n ↦
              stays_put (names (id_of p k)) l a (A.ticks k b) (others k b n)
              (s k (omega (arith, P.few)) ∙ more_else u h k (λ q. n (sym q)))
        ]

    -- The sum is right after a tick of guest h.
    all_by : (v : List ℕ) → ((k : ℕ) → k < 8 → nth v k ≡ nth (one_more u h) k) → nth v nobodys ≡ nth u nobodys
        → (sum_to (nth v) p.count + nth v nobodys) % wrap ≡ length (l ++ (a ∷ [])) % wrap
    all_by v s q =
        let e : length (l ++ (a ∷ [])) ≡ suc (length l) = simp length-append (omega arith) in
        omega (
          arith,
          A.all,
          sum_same (nth v) (nth (one_more u h)) p.count (λ k b. s k (omega (arith, P.few))),
          sum_more u p.count h in_plan (omega (arith, P.few)),
        )

    -- The numbers are right after a tick that a task of guest h had.
    pub by_worked : ((k : ℕ) → idles (id_of p k) a ≡ 0) → Accounts p (l ++ (a ∷ [])) (one_more u h)
    by_worked i = record {
      ticks = ticks_by (one_more u h) (λ k b. refl);
      idled =
          λ k b. stays_put (idles (id_of p k)) l a (A.idled k b) (i k)
          (more_else u h (8 + k) (λ q. omega (arith, P.few)));
      nobody = stays_put unhad l a A.nobody z (more_else u h 16 (λ q. omega (arith, P.few)));
      all = all_by (one_more u h) (λ k b. refl) (more_else u h 16 (λ q. omega (arith, P.few)));
    }

    -- The numbers are right after a tick that guest h idled away.
    pub by_idled :
        idles (id_of p h) a ≡ 1 → ((k : ℕ) → k < p.count → (h ≡ k → ⊥) → idles (id_of p k) a ≡ 0)
        → Accounts p (l ++ (a ∷ [])) (one_more (one_more u h) (idled_at h))
    by_idled one rest = record {
      ticks = ticks_by v low;
      idled =
          λ k b.
          elim (ℕ_discrete h k) [
            | yes e ↦
                goes_up (idles (id_of p k)) l a (A.idled k b) (subst (λ (x : ℕ). idles (id_of p x) a ≡ 1) e one)
                (subst (λ (x : ℕ). nth v (8 + x) ≡ (nth u (8 + x) + 1) % wrap) e
                (omega (
                  arith,
                  more_here (one_more u h) (8 + h) (omega (arith, P.few, more_long u h)),
                  more_else u h (8 + h) (λ q. omega arith),
                )))
            | no n ↦
                stays_put (idles (id_of p k)) l a (A.idled k b) (rest k b n)
                (more_else (one_more u h) (8 + h) (8 + k) (λ q. n (omega arith))
                ∙ more_else u h (8 + k) (λ q. omega (arith, P.few)))
          ];
      nobody = stays_put unhad l a A.nobody z last;
      all = all_by v low last;
    }
      where
        v : List ℕ
        v = one_more (one_more u h) (idled_at h)

        low : (k : ℕ) → k < 8 → nth v k ≡ nth (one_more u h) k
        low k b = more_else (one_more u h) (8 + h) k (λ q. omega arith)

        last : nth v nobodys ≡ nth u nobodys
        last =
            more_else (one_more u h) (8 + h) 16 (λ q. omega (arith, P.few))
            ∙ more_else u h 16 (λ q. omega (arith, P.few))
