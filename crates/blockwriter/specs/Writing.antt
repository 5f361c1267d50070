-- What the writer writes, and its refusals in their order.
use Rattle.std.specs.Prelude.{◌||◌, List, [], ◌∷◌, ℕ, leb, set, length, replicate}
use Rattle.lists.specs.Choice.{pick}
use Rattle.lists.specs.Places.{nth}
use Rattle.lists.specs.Refusals.{refusal, ◌or_refuse◌}
use Rattle.words.specs.Bytes.{bytes_of}
use Rattle.plan.specs.declared.Guest.{Guest}
use Rattle.plan.specs.declared.Refusal.{Refusal}
use Rattle.plan.specs.Records.{run_of, every_of, deadline_of}
use Rattle.plan.specs.Marks.{live_marks}
use Rattle.plan.specs.Server.{says_deferrable, is_periodic}
use Rattle.plan.specs.Ranges.{within, guest_ok, tasks_ok}
use Rattle.plan.specs.First.{refused}
use Rattle.block.specs.Layout.{block_size, block_words, kind_place_word, plain_kind, extended_kind, deferrable_server, last_place, id_word, capacity_word, period_word, tasks_charge_word, marks_server_word, first_task, halves}
use Rattle.blockparts.specs.Parts.{with_entries, with_check, written_by}

-- Every record has one block, as old plans have it. The writer refuses a Deferrable guest, so that byte 22 is 1 in old
-- plans alone.

-- The number that stands for a record's number of its server.
abbrev pub server_of : (deferrable : ℕ) → ℕ
server_of deferrable = pick (says_deferrable deferrable) deferrable_server 0

-- The number that stands for a guest's server.
abbrev pub server_for : Guest → ℕ
server_for g = server_of g.deferrable

-- The kind of a guest with these marks and this server: 2 where one of its tasks has a mark or the server is
-- Deferrable, else 1.
abbrev pub kind_for : (marks server : ℕ) → ℕ
kind_for marks server = pick (leb 1 marks || leb 1 server) extended_kind plain_kind

-- Words x with kind, place, marks and server put in.
unfoldable pub with_kind : (marks server place : ℕ) → List ℕ → List ℕ
with_kind marks server place x =
    set (set x kind_place_word (halves (kind_for marks server) place)) marks_server_word (halves marks server)

-- Words x with the head's numbers put in, the marks past the tasks as zero.
unfoldable pub with_head : Guest → (place : ℕ) → List ℕ → List ℕ
with_head g place x =
    set
    (set
    (set (set (with_kind (live_marks g) (server_for g) place x) id_word g.id) capacity_word g.capacity)
    period_word g.period)
    tasks_charge_word (halves g.tasks g.charge)

-- The block's words but for the check: the head, the guest's entries, and zeros everywhere else.
unfoldable pub words_of : Guest → (place : ℕ) → List ℕ
words_of g place =
    with_entries first_task (run_of g) (every_of g) (deadline_of g) g.tasks (with_head g place (replicate block_words 0))

-- A guest's block at a place.
unfoldable pub block_of : Guest → (place : ℕ) → List ℕ
block_of g place = bytes_of (nth (with_check (words_of g place))) block_words

-- The number that the writer refuses by, 0 for none, for a lent buffer of so many bytes.
unfoldable pub write_number : Guest → (place size : ℕ) → ℕ
write_number g place size =
    refusal (
    leb block_size size or_refuse 12
    ∷ leb place last_place or_refuse 3
    ∷ guest_ok g or_refuse 4
    ∷ tasks_ok g or_refuse 6
    ∷ is_periodic g or_refuse 23
    ∷ [])

-- Numbers 2 to 6 come with the place, all others with place 0.
abbrev pub with_place : (number place : ℕ) → Refusal
with_place number place = refused number (pick (within 2 6 number) place 0)

-- The writer's refusal.
abbrev pub write_refusal : Guest → (place size : ℕ) → Refusal
write_refusal g place size = with_place (write_number g place size) place

-- The lent bytes after the writer.
abbrev pub written : Guest → (place : ℕ) → List ℕ → List ℕ
written g place before = written_by (write_number g place (length before)) (block_of g place) before
