-- A log cut between blocks: its parts joined again, and what two calls on its parts say together.
use Rattle.std.specs.Prelude.{◌≡◌, List, [], ◌∷◌, ◌++◌, ℕ, ◌+◌, ◌%◌, length}
use Rattle.plan.specs.declared.Refusal.{Refusal}
use Rattle.plan.specs.First.{refused, fine, or_else}
use Rattle.block.specs.Layout.{block_size}
use Rattle.statement.specs.declared.Stated.{Stated}

-- A log of whole blocks.
abbrev pub Whole : (log : List ℕ) → Type 0
Whole log = length log % block_size ≡ 0

-- Each part of a log is of whole blocks.
abbrev pub EachWhole : (parts : List (List ℕ)) → Type 0
EachWhole [] = Unit {0}
EachWhole (part ∷ parts) = Whole part × EachWhole parts

-- The log that was cut into these parts.
unfoldable pub uncut : (parts : List (List ℕ)) → List ℕ
uncut [] = []
uncut (part ∷ parts) = part ++ uncut parts

-- What is first passed over in a call: its number, and its position.
abbrev pub first_in : Stated → Refusal
first_in r = refused r.number r.position

-- The first that is passed over of two parts, the first part of so many blocks: that of the first part if there is one,
-- else that of the second with its position moved on.
unfoldable pub first_of : (blocks : ℕ) → (first second : Refusal) → Refusal
first_of blocks first second =
    or_else first.number first.place (or_else second.number (blocks + second.place) fine)

-- The outcomes of a call on a part of so many blocks and of the call on the rest of the log, told as one.
abbrev pub together : (blocks : ℕ) → (first second : Stated) → Stated
together blocks first second = record {
  refusal = first.refusal;
  statement = second.statement;
  passed = first.passed + second.passed;
  position = (first_of blocks (first_in first) (first_in second)).place;
  number = (first_of blocks (first_in first) (first_in second)).number;
}
