-- Kept blocks move up: their places and checks are written anew, and nothing else in them changes.
use Rattle.std.specs.Prelude.{ℕ, List, length}
use Rattle.lists.specs.Places.{nth}
use Rattle.words.specs.Word.{word}
use Rattle.words.specs.Bytes.{with_word}
use Rattle.words.specs.Wrap.{wrapped, complement}
use Rattle.block.specs.Layout.{kind_place_word, check_word, halves}
use Rattle.block.specs.Reading.{kind_in}
use Rattle.blockfile.specs.File.{block_at}
use Rattle.blockfile.specs.Joined.{joined}

-- The block with this place in it.
abbrev pub placed_at : List ℕ → (place : ℕ) → List ℕ
placed_at b place = with_word b kind_place_word (halves (kind_in b) place)

-- The block with its check written anew, the wrapping complement of the rest.
abbrev pub checked_anew : List ℕ → List ℕ
checked_anew b = with_word b check_word (complement (wrapped (word b) check_word))

-- The block moved to a place.
unfoldable pub moved : List ℕ → (place : ℕ) → List ℕ
moved b place = checked_anew (placed_at b place)

-- The blocks of a file at these places, moved up and one after the other.
unfoldable pub moved_up : List ℕ → (kept : List ℕ) → List ℕ
moved_up s kept = joined (λ j. moved (block_at s (nth kept j)) j) (length kept)
