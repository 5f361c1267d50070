-- Laws of counted ticks. Assumes nothing.
use Rattle.std.proofs.Common.{◌≡◌, ℕ, ◌+◌, ◌%◌, ◌<◌, List, length, length-set, get_or-set_other, get_or-set_same}
use Rattle.lists.specs.Places.{nth}
use Rattle.arrays.specs.Usage.{wrap, one_more}

module _ (l : List ℕ) (k : ℕ) where
  -- The array keeps its length.
  pub more_long : length (one_more l k) ≡ length l
  unfolding one_more
  more_long = length-set l k ((nth l k + 1) % wrap)

  -- The place that is counted has one more, modulo 2 to the 64.
  pub more_here : k < length l → nth (one_more l k) k ≡ (nth l k + 1) % wrap
  unfolding one_more
  more_here h = get_or-set_same l k ((nth l k + 1) % wrap) 0 h

  -- The other places stand.
  pub more_else : (j : ℕ) → (j ≡ k → ⊥) → nth (one_more l k) j ≡ nth l j
  unfolding one_more
  more_else j h = get_or-set_other l k j ((nth l k + 1) % wrap) 0 h
