-- When a thing holds, and when not. Refusals and tables are stated with it.

-- Each follows from the other.
infix 20 ◌exactly_when◌
abbrev pub ◌exactly_when◌ : Type 0 → Type 0 → Type 0
A exactly_when B = (A → B) × (B → A)

-- The cause that comes earlier in the order does not hold, but the other does.
infixr 30 ◌not_but◌
abbrev pub ◌not_but◌ : Type 0 → Type 0 → Type 0
A not_but B = (A → ⊥) × B
