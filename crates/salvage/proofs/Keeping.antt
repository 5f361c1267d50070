-- What the kept places are: each is that of a block that passes, behind those kept before it. Assumes nothing.
use Rattle.std.proofs.Common.{◌≡◌, ℕ, zero, suc, ◌<◌, ◌≤◌, true, List, [], ◌∷◌, ◌++◌, length, sym, refl, ap, ◌∙◌, ⊎_elim, eq-or-lt_of_le, arith, length-append}
use lib.ListN.{get_or-append}
use lib.Seq.{get_or-append_seam}
use Rattle.lists.specs.Places.{nth}
use Rattle.blockfile.specs.File.{block_at}
use Rattle.salvage.specs.Keeping.{new_among, number_after, kept_by, kept_places, drop_number, new_place}
use Rattle.block.proofs.Reading.{BlockIn, block_in}

by_kept : (x k : ℕ) (ks : List ℕ) → x ≡ 0 → kept_by x k ks ≡ ks ++ (k ∷ [])
unfolding kept_by
by_kept x k ks e = rw e refl

by_dropped : (x k : ℕ) (ks : List ℕ) → 0 < x → kept_by x k ks ≡ ks
unfolding kept_by
by_dropped zero k ks h = absurd (omega arith)
by_dropped (suc x) k ks h = refl

-- None is kept yet.
pub none_kept : (s : List ℕ) → kept_places s 0 ≡ []
unfolding kept_places
none_kept s = refl

-- Block n is kept.
pub kept_on : (s : List ℕ) (n : ℕ) → drop_number s n ≡ 0 → kept_places s (suc n) ≡ kept_places s n ++ (n ∷ [])
unfolding kept_places
kept_on s n e = by_kept (drop_number s n) n (kept_places s n) e

-- Block n is dropped.
pub dropped_on : (s : List ℕ) (n : ℕ) → 0 < drop_number s n → kept_places s (suc n) ≡ kept_places s n
unfolding kept_places
dropped_on s n h = by_dropped (drop_number s n) n (kept_places s n) h

-- A kept block passes every test.
pub passing : (s : List ℕ) (k : ℕ) → drop_number s k ≡ 0 → BlockIn (block_at s k) true (new_among s (kept_places s k) k)
unfolding number_after
passing s k e = block_in (block_at s k) true (new_among s (kept_places s k) k) e

-- What is kept at place j of a list of places below n: a block that passes, after as many as j others, which are those
-- before it in the list.
pub record KeptIn (s ks : List ℕ) (n j : ℕ) : Type 0 where
  pub below : nth ks j < n
  pub passes : drop_number s (nth ks j) ≡ 0
  pub place : new_place s (nth ks j) ≡ j
  pub before : (i : ℕ) → i < j → nth (kept_places s (nth ks j)) i ≡ nth ks i

-- One block more is dropped.
still : (s ks : List ℕ) (n j : ℕ) → KeptIn s ks n j → KeptIn s ks (suc n) j
still s ks n j k = record { below = omega arith; passes = k.passes; place = k.place; before = k.before }

-- One block more is kept.
behind : (s ks : List ℕ) (n m j : ℕ) → j < length ks → KeptIn s ks n j → KeptIn s (ks ++ (m ∷ [])) (suc n) j
behind s ks n m j l k =
    let same : (i : ℕ) → i < length ks → nth (ks ++ (m ∷ [])) i ≡ nth ks i =
    λ i h. get_or-append ks (m ∷ []) 0 i h in
    record {
      below = rw (same j l) (omega arith);
      passes = rw (same j l) k.passes;
      place = rw (same j l) k.place;
      before = λ i h. rw (same j l, same i (omega arith)) (k.before i h);
    }

-- That block itself.
latest : (s : List ℕ) (n : ℕ) → drop_number s n ≡ 0 → KeptIn s (kept_places s n ++ (n ∷ [])) (suc n) (new_place s n)
latest s n e =
    let here : nth (kept_places s n ++ (n ∷ [])) (new_place s n) ≡ n = get_or-append_seam (kept_places s n) n [] 0 in
    record {
      below = rw here (omega arith);
      passes = rw here e;
      place = rw here refl;
      before = λ i h. rw here (sym (get_or-append (kept_places s n) (n ∷ []) 0 i h));
    }

-- Each of the kept places.
pub kept_in_lem : (s : List ℕ) (n j : ℕ) → j < new_place s n → KeptIn s (kept_places s n) n j
kept_in_lem s zero j l = absurd (omega (arith, ap length (none_kept s)))
kept_in_lem s (suc n) j l = by (drop_number s n) refl (kept_in_lem s n j)
  where
    by : (x : ℕ) → drop_number s n ≡ x → (j < new_place s n → KeptIn s (kept_places s n) n j)
        → KeptIn s (kept_places s (suc n)) (suc n) j
    by zero e h =
        let m = ap length (kept_on s n e) ∙ length-append (kept_places s n) (n ∷ []) in
        rw (kept_on s n e)
        (⊎_elim (λ q. rw q (latest s n e)) (λ b. behind s (kept_places s n) n n j b (h b))
        (eq-or-lt_of_le {n = j} {m = new_place s n} (omega arith)))
    by (suc x) e h =
        let d = dropped_on s n (omega arith) in
        rw d (still s (kept_places s n) n j (h (rw d at l)))

-- At most n places are kept.
pub kept_most : (s : List ℕ) (n : ℕ) → new_place s n ≤ n
kept_most s zero = omega (arith, ap length (none_kept s))
kept_most s (suc n) = by (drop_number s n) refl (kept_most s n)
  where
    by : (x : ℕ) → drop_number s n ≡ x → new_place s n ≤ n → new_place s (suc n) ≤ suc n
    by zero e h = omega (arith, ap length (kept_on s n e), length-append (kept_places s n) (n ∷ []))
    by (suc x) e h = omega (arith, ap length (dropped_on s n (omega arith)))
