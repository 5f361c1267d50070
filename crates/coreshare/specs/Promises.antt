-- Ten exports tell an enum's case as a number, and six a refusal or its absence as a struct, and each promises its
-- entry's outcome, told so. The others give what their entries give and carry the entries' own promises.
use Rattle.std.specs.Prelude.{◌≡◌, List, ℕ, length}
use Rattle.plan.specs.declared.Guest.{Guest}
use Rattle.plan.specs.declared.Plan.{Plan}
use Rattle.plan.specs.declared.Refusal.{Refusal}
use Rattle.plan.specs.Order.{plan_refusal}
use Rattle.blockwriter.specs.Writing.{write_refusal, written}
use Rattle.planfile.specs.declared.Reading.{Reading}
use Rattle.planfile.specs.Records.{read_of}
use Rattle.planfile.specs.Finder.{found_place}
use Rattle.conversion.specs.Outcome.{convert_refusal, converted_out}
use Rattle.verdict.specs.Verdict.{guest_verdict, task_verdict, acceptance}
use Rattle.capacity.specs.Answer.{smallest_capacity}
use Rattle.amendment.specs.Verdict.{pair_or}
use Rattle.logblock.specs.declared.Entries.{Entries}
use Rattle.logblock.specs.Writing.{log_refusal, log_written}
use Rattle.dispatcher.specs.declared.Dispatcher.{Dispatcher}
use Rattle.dispatcher.specs.Entries.{tick, run}
use Rattle.coreshare.specs.declared.Verdict.{Verdict}
use Rattle.coreshare.specs.declared.Tick.{Tick}
use Rattle.coreshare.specs.declared.Run.{Run}
use Rattle.coreshare.specs.Told.{refusing, guest_told, task_told, plan_told, capacity_told, tick_told, run_told}

-- `cs_guest_verdict` gives the guest's verdict, told in numbers.
abbrev pub TellsGuest : Plan → ℕ → Verdict → Type 0
TellsGuest p id r = r ≡ guest_told (guest_verdict p id)

-- `cs_task_verdict` gives the task's verdict, told in numbers.
abbrev pub TellsTask : Plan → ℕ → ℕ → Verdict → Type 0
TellsTask p id number r = r ≡ task_told (task_verdict p id number)

-- `cs_accept` gives the plan's acceptance, told in numbers.
abbrev pub TellsPlan : Plan → Verdict → Type 0
TellsPlan p r = r ≡ plan_told (acceptance p)

-- `cs_smallest_capacity` gives the capacity or the refusal, told in numbers.
abbrev pub TellsCapacity : Plan → ℕ → Verdict → Type 0
TellsCapacity p id r = r ≡ capacity_told (smallest_capacity p id)

-- `cs_amended_guest_verdict` gives the pair's refusal, or the guest's verdict in the amended plan, told in numbers.
abbrev pub TellsGuestIn : (plan sheet : List ℕ) → (id : ℕ) → Verdict → Type 0
TellsGuestIn plan sheet id r = r ≡ pair_or refusing plan sheet (λ p. guest_told (guest_verdict p id))

-- `cs_amended_task_verdict` gives the pair's refusal, or the task's verdict in the amended plan, told in numbers.
abbrev pub TellsTaskIn : (plan sheet : List ℕ) → (id number : ℕ) → Verdict → Type 0
TellsTaskIn plan sheet id number r = r ≡ pair_or refusing plan sheet (λ p. task_told (task_verdict p id number))

-- `cs_amended_accept` gives the pair's refusal, or the amended plan's acceptance, told in numbers.
abbrev pub TellsPair : (plan sheet : List ℕ) → Verdict → Type 0
TellsPair plan sheet r = r ≡ pair_or refusing plan sheet (λ p. plan_told (acceptance p))

-- `cs_amended_smallest_capacity` gives the pair's refusal, or what the amended plan's guest gets, told in numbers.
abbrev pub TellsCapacityIn : (plan sheet : List ℕ) → (id : ℕ) → Verdict → Type 0
TellsCapacityIn plan sheet id r = r ≡ pair_or refusing plan sheet (λ p. capacity_told (smallest_capacity p id))

-- `cs_tick` gives the refusal, the answer told in numbers, and the next state.
abbrev pub TellsTick : Dispatcher → Tick → Type 0
TellsTick d r = r ≡ tick_told (tick d)

-- `cs_run` gives the refusal, the ticks done, the last answer told in numbers, and the next state.
abbrev pub TellsRun : Dispatcher → ℕ → Run → Type 0
TellsRun d n r = r ≡ run_told (run d n)

-- `cs_read` gives the refusal, or number 0, and the plan's records, or on a refusal zeros.
abbrev pub TellsReading : List ℕ → Reading → Type 0
TellsReading s r = r ≡ read_of s

-- `cs_check` gives the records' refusal, or number 0.
abbrev pub TellsCheck : Plan → Refusal → Type 0
TellsCheck p r = r ≡ plan_refusal p

-- `cs_write` gives the refusal, or number 0, and settles every byte of the lent buffer.
abbrev pub TellsWrite : Guest → (place : ℕ) → (before : List ℕ) → Refusal → (after : List ℕ) → Type 0
TellsWrite g place before r after = (r ≡ write_refusal g place (length before)) × (after ≡ written g place before)

-- `cs_find` gives the found block's place, or the refusal.
abbrev pub TellsPlace : List ℕ → (id : ℕ) → Refusal → Type 0
TellsPlace s id r = r ≡ found_place s id

-- `cs_convert` gives the refusal, or number 0, and settles every byte of the lent output.
abbrev pub TellsConverted : (plan before : List ℕ) → Refusal → (after : List ℕ) → Type 0
TellsConverted plan before r after = (r ≡ convert_refusal plan (length before)) × (after ≡ converted_out plan before)

-- `cs_write_log` gives the refusal, or number 0, and settles every byte of the lent buffer.
abbrev pub TellsLog : Entries → (before : List ℕ) → Refusal → (after : List ℕ) → Type 0
TellsLog es before r after = (r ≡ log_refusal es (length before)) × (after ≡ log_written es before)
