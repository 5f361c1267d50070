-- A refusal with its place: the first place whose number is not 0. An answer is a refusal or else what was asked for.
use Rattle.std.specs.Prelude.{ℕ, zero, suc, Result, Ok, Err}
use Rattle.plan.specs.declared.Refusal.{Refusal}

-- the refusal by number n at place k
abbrev pub refused : ℕ → ℕ → Refusal
refused n k = record { number = n; place = k }

-- no refusal
abbrev pub fine : Refusal
fine = refused 0 0

-- the refusal by number n at place k, or what comes after where n is 0
unfoldable pub or_else : ℕ → ℕ → Refusal → Refusal
or_else zero k after = after
or_else (suc n) k after = refused (suc n) k

-- the first refusal of the m places from k on, place by place
unfoldable pub first_refused : (ℕ → ℕ) → ℕ → ℕ → Refusal
first_refused number zero k = fine
first_refused number (suc m) k = or_else (number k) k (first_refused number m (suc k))

-- a refusal by its number and place, or the answer where the number is 0
unfoldable pub refused_by : {A : Type 0} → (ℕ → ℕ → A) → ℕ → ℕ → A → A
refused_by refuse zero place answer = answer
refused_by refuse (suc n) place answer = refuse (suc n) place

-- a refusal, or the answer where its number is 0
abbrev pub refuse_or : {A : Type 0} → (ℕ → ℕ → A) → Refusal → A → A
refuse_or refuse r answer = refused_by refuse r.number r.place answer

-- the refusal by number n at place k, or the answer where n is 0
abbrev pub refused_or : {A : Type 0} → (number place : ℕ) → A → Result A Refusal
refused_or zero place answer = Ok answer
refused_or (suc n) place answer = Err (refused (suc n) place)

-- a refusal, or the answer where its number is 0
abbrev pub unless_refused : {A : Type 0} → Refusal → A → Result A Refusal
unless_refused r answer = refused_or r.number r.place answer
