-- The plans of document 01's worked numbers.
use Rattle.std.specs.Prelude.{List, [], ◌∷◌, ◌++◌, ℕ, length, take, replicate}
use Rattle.plan.specs.Records.{blank}
use Rattle.plan.specs.declared.Guest.{Guest}
use Rattle.plan.specs.declared.Plan.{Plan}

-- A column of 16 with these entries, zeros past them.
abbrev pub padded : List ℕ → List ℕ
padded l = take 16 (l ++ replicate 16 0)

-- A guest by its id, capacity, period, charge, marks, server and its tasks' runs, periods and deadlines.
abbrev pub any_guest : (id capacity period charge marks deferrable : ℕ) → (run every deadline : List ℕ) → Guest
any_guest id capacity period charge marks deferrable run every deadline = record {
  id = id;
  capacity = capacity;
  period = period;
  tasks = length run;
  charge = charge;
  marks = marks;
  deferrable = deferrable;
  run = padded run;
  every = padded every;
  deadline = padded deadline;
}

-- A guest that is a Periodic Server.
abbrev pub bound_guest : (id capacity period charge marks : ℕ) → (run every deadline : List ℕ) → Guest
bound_guest id capacity period charge marks run every deadline =
    any_guest id capacity period charge marks 0 run every deadline

-- A Periodic guest none of whose tasks is bound.
abbrev pub guest : (id capacity period charge : ℕ) → (run every deadline : List ℕ) → Guest
guest id capacity period charge run every deadline = bound_guest id capacity period charge 0 run every deadline

-- A plan of these guests, records of zeros past them.
abbrev pub plan_of : List Guest → Plan
plan_of guests = record { count = length guests; guests = take 8 (guests ++ replicate 8 blank) }

-- Guest 7, 2/5 (capacity/period), with a task 1/20/20 (run/period/deadline).
abbrev pub top : Guest
top = guest 7 2 5 0 (1 ∷ []) (20 ∷ []) (20 ∷ [])

-- Guest 9 of plan A with this capacity.
abbrev pub nine : (capacity : ℕ) → Guest
nine capacity = guest 9 capacity 20 0 (10 ∷ 8 ∷ []) (50 ∷ 100 ∷ []) (50 ∷ 100 ∷ [])

-- Plan A with this charge in guest 9 and these deadlines of the two tasks there.
abbrev pub plan_A : (charge first second : ℕ) → Plan
plan_A charge first second = plan_of (top ∷ guest 9 8 20 charge (10 ∷ 8 ∷ []) (50 ∷ 100 ∷ []) (first ∷ second ∷ []) ∷ [])

-- Plan A as document 01 prints it.
abbrev pub A : Plan
A = plan_A 0 50 100

-- Plan A with a deadline of 35, one tick too short, for guest 9's first task.
abbrev pub A35 : Plan
A35 = plan_A 0 35 100

-- A guest of this capacity and period 6 under 2/5, with a task 4/6/6, and two guests below.
abbrev pub plan_B : (capacity : ℕ) → Plan
plan_B capacity =
    plan_of
    (top
    ∷ guest 9 capacity 6 0 (4 ∷ []) (6 ∷ []) (6 ∷ [])
    ∷ guest 11 1 90 0 (1 ∷ []) (900 ∷ []) (900 ∷ [])
    ∷ guest 12 1 90 0 (1 ∷ []) (900 ∷ []) (900 ∷ [])
    ∷ [])

-- Guest 8/9 above guest 1/11, whose second task has this deadline.
abbrev pub plan_C : (deadline : ℕ) → Plan
plan_C deadline =
    plan_of
    (guest 7 8 9 0 (1 ∷ []) (900 ∷ []) (900 ∷ [])
    ∷ guest 9 1 11 0 (1 ∷ 1 ∷ []) (31 ∷ 31 ∷ []) (31 ∷ deadline ∷ [])
    ∷ [])

-- Guest 1/1000 with a task 2/10/10.
abbrev pub plan_D : Plan
plan_D = plan_of (guest 7 1 1000 0 (2 ∷ []) (10 ∷ []) (10 ∷ []) ∷ [])

-- Plan A with guest 9's first task 10/60/60, and these marks there.
abbrev pub plan_E : (marks : ℕ) → Plan
plan_E marks = plan_of (top ∷ bound_guest 9 8 20 0 marks (10 ∷ 8 ∷ []) (60 ∷ 100 ∷ []) (60 ∷ 100 ∷ []) ∷ [])

-- Guest 1/2 with an unbound task 1/3/3 above a bound task 1/4/4.
abbrev pub plan_F : Plan
plan_F = plan_of (bound_guest 7 1 2 0 2 (1 ∷ 1 ∷ []) (3 ∷ 4 ∷ []) (3 ∷ 4 ∷ []) ∷ [])

-- Plan A with both guests Deferrable, this period and deadline of guest 9's first task, and these marks there.
abbrev pub plan_G : (every marks : ℕ) → Plan
plan_G every marks =
    plan_of
    (any_guest 7 2 5 0 0 1 (1 ∷ []) (20 ∷ []) (20 ∷ [])
    ∷ any_guest 9 8 20 0 marks 1 (10 ∷ 8 ∷ []) (every ∷ 100 ∷ []) (every ∷ 100 ∷ [])
    ∷ [])
