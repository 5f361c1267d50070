-- The entries of a log block, each a finished job: its guest, its task and its age.
use Rattle.std.specs.Prelude.{Bool, ◌&&◌, ℕ, get_or}
use Rattle.lists.specs.All.{all_to}
use Rattle.plan.specs.Ranges.{longest, within}
use Rattle.logblock.specs.declared.Entry.{Entry}
use Rattle.logblock.specs.declared.Entries.{Entries}
use Rattle.logblock.specs.Layout.{most_jobs}

-- An entry of zeros.
abbrev pub no_entry : Entry
no_entry = record { guest = 0; task = 0; age = 0 }

-- Entry i, from 0.
abbrev pub entry_at : Entries → ℕ → Entry
entry_at es i = get_or es.entries i no_entry

-- Passes 18: 1 to 41 jobs, and each of them has an age of 1 to 1,000,000.
unfoldable pub jobs_ok : (jobs : ℕ) → (age : ℕ → ℕ) → Bool
jobs_ok jobs age = within 1 most_jobs jobs && all_to (λ i. within 1 longest (age i)) jobs
