-- What the dispatcher's calls promise: the whole outcome, on refusals too.
use Rattle.std.specs.Prelude.{◌≡◌, ℕ}
use Rattle.plan.specs.declared.Plan.{Plan}
use Rattle.plan.specs.declared.Refusal.{Refusal}
use Rattle.plan.specs.Periodic.{start_refusal}
use Rattle.dispatcher.specs.declared.Dispatcher.{Dispatcher}
use Rattle.dispatcher.specs.declared.Started.{Started}
use Rattle.dispatcher.specs.declared.Released.{Released}
use Rattle.dispatcher.specs.declared.Ticked.{Ticked}
use Rattle.dispatcher.specs.declared.Ran.{Ran}
use Rattle.dispatcher.specs.Fresh.{fresh, started_in}
use Rattle.dispatcher.specs.Release.{release}
use Rattle.dispatcher.specs.Entries.{tick, run}

-- a fresh start has the one outcome that its definition gives
abbrev pub Starts : Plan → Started → Type 0
Starts p r = r ≡ fresh p

-- a fresh start in place has the refusal of its plan, and leaves the one state that the definition gives
abbrev pub StartsIn : Dispatcher → Refusal → (after : Dispatcher) → Type 0
StartsIn d r after = (r ≡ start_refusal d.plan) × (after ≡ started_in (start_refusal d.plan).number d)

-- a release of a task, by guest id and task number, has the one outcome that its definition gives
abbrev pub Releases : Dispatcher → ℕ → ℕ → Released → Type 0
Releases d id task r = r ≡ release d id task

-- a tick has the one outcome that its definition gives
abbrev pub Ticks : Dispatcher → Ticked → Type 0
Ticks d r = r ≡ tick d

-- a run of n ticks has the one outcome that its definition gives
abbrev pub Runs : Dispatcher → ℕ → Ran → Type 0
Runs d n r = r ≡ run d n
