-- What is said of the order proposed for a guest's tasks.
use Rattle.std.specs.Prelude.{◌≡◌, true, false, List, ℕ, suc, ◌≤◌, ◌<◌, Ok}
use Rattle.lists.specs.Places.{nth}
use Rattle.plan.specs.Marks.{is_bound}
use Rattle.plan.specs.Records.{guest_at, run_of, every_of, deadline_of}
use Rattle.plan.specs.Server.{is_deferrable}
use Rattle.plan.specs.declared.Guest.{Guest}
use Rattle.plan.specs.declared.Plan.{Plan}
use Rattle.response.specs.Guest.{fitted_to}
use Rattle.response.specs.Met.{all_met}
use Rattle.verdict.specs.Verdict.{task_verdict}
use Rattle.verdict.specs.declared.TaskVerdict.TheVariants.{Met}
use Rattle.verdict_laws.specs.Guests.{There}
use Rattle.verdict_laws.specs.Tasks.{SaysNotMet}
use Rattle.order.specs.Reordered.{with_order}
use Rattle.order_laws.specs.Orders.{IsOrder, GoesBy}

-- Records in order, whose guest at place k has the id, is Periodic and has no bound task.
pub record Orderable (p : Plan) (id k : ℕ) : Type 0 where
  pub there : There p id k
  pub periodic : is_deferrable (guest_at p.guests k) ≡ false
  pub unbound : (i : ℕ) → i < (guest_at p.guests k).tasks → is_bound (guest_at p.guests k) i ≡ false

-- The task at place i of g is the one at place j of h: run, period and deadline together.
pub record SameTask (g : Guest) (i : ℕ) (h : Guest) (j : ℕ) : Type 0 where
  pub run : run_of g i ≡ run_of h j
  pub every : every_of g i ≡ every_of h j
  pub deadline : deadline_of g i ≡ deadline_of h j

-- The guest g is h with its tasks in an order: the same tasks, each once, and nothing else moved, entries past them
-- included.
pub record Reorders (h : Guest) (order : List ℕ) (g : Guest) : Type 0 where
  pub each_once : IsOrder h.tasks order
  pub id : g.id ≡ h.id
  pub capacity : g.capacity ≡ h.capacity
  pub period : g.period ≡ h.period
  pub tasks : g.tasks ≡ h.tasks
  pub charge : g.charge ≡ h.charge
  pub marks : g.marks ≡ h.marks
  pub deferrable : g.deferrable ≡ h.deferrable
  pub task : (i : ℕ) → i < h.tasks → SameTask g i h (nth order i)
  pub past : (i : ℕ) → h.tasks ≤ i → SameTask g i h i

-- The plan q is p with the tasks of the guest at place k in the order of their deadlines, equals as handed in, and
-- nothing else moved.
pub record OnlyReordered (p : Plan) (k : ℕ) (q : Plan) : Type 0 where
  pub order : List ℕ
  pub guest : Reorders (guest_at p.guests k) order (guest_at q.guests k)
  pub by_deadline : GoesBy (deadline_of (guest_at p.guests k)) (guest_at p.guests k).tasks order
  pub count : q.count ≡ p.count
  pub others : (j : ℕ) → (j ≡ k → ⊥) → guest_at q.guests j ≡ guest_at p.guests j

-- The guest at place k and all above are fitted, and the verdict of each of its tasks is met.
pub record SaidMet (q : Plan) (id k : ℕ) : Type 0 where
  pub fitted : fitted_to q k ≡ true
  pub met : all_met q k ≡ true
  pub said : (i : ℕ) → i < (guest_at q.guests k).tasks → (r : ℕ) × (task_verdict q id (suc i) ≡ Ok (Met r))

-- In every order of the tasks of the guest at place k some task is not met: unmet, or unjudged where that guest or one
-- above is unfit.
abbrev pub NoOrder : Plan → (id k : ℕ) → Type 0
NoOrder p id k = (order : List ℕ) → IsOrder (guest_at p.guests k).tasks order
    → (i : ℕ) × (i < (guest_at p.guests k).tasks) × SaysNotMet (task_verdict (with_order p k order) id (suc i))
