-- Verdicts, acceptance and smallest capacities of a pair: the pair's refusal, else those of the amended plan.
use Rattle.std.specs.Prelude.{List, ℕ, Result, Err}
use Rattle.plan.specs.declared.Plan.{Plan}
use Rattle.plan.specs.declared.Refusal.{Refusal}
use Rattle.plan.specs.First.{refused, refused_by}
use Rattle.verdict.specs.declared.GuestVerdict.{GuestVerdict}
use Rattle.verdict.specs.declared.TaskVerdict.{TaskVerdict}
use Rattle.verdict.specs.declared.Acceptance.{Acceptance}
use Rattle.verdict.specs.Verdict.{guest_verdict, task_verdict, acceptance}
use Rattle.capacity.specs.Answer.{smallest_capacity}
use Rattle.amendment.specs.Pair.{pair_refusal}
use Rattle.amendment.specs.Amended.{amended}

-- The pair's refusal, or the answer about the amended plan.
unfoldable pub pair_or : {A : Type 0} → (ℕ → ℕ → A) → (plan sheet : List ℕ) → (Plan → A) → A
pair_or refuse plan sheet answer =
    let r = pair_refusal plan sheet in
    refused_by refuse r.number r.place (answer (amended plan sheet))

-- The pair's refusal as an answer has it, which does not say whether its place is one in the sheet.
abbrev pub answer_refusal : (plan sheet : List ℕ) → Refusal
answer_refusal plan sheet =
    let r = pair_refusal plan sheet in
    refused r.number r.place

-- An answer that is refused.
abbrev pub refusing_answer : {A : Type 0} → (number place : ℕ) → Result A Refusal
refusing_answer number place = Err (refused number place)

-- The verdict of a guest: then 7.
abbrev pub pair_guest_verdict : (plan sheet : List ℕ) → (id : ℕ) → Result GuestVerdict Refusal
pair_guest_verdict plan sheet id = pair_or refusing_answer plan sheet (λ p. guest_verdict p id)

-- The verdict of a task: then 7, then 8.
abbrev pub pair_task_verdict : (plan sheet : List ℕ) → (id number : ℕ) → Result TaskVerdict Refusal
pair_task_verdict plan sheet id number = pair_or refusing_answer plan sheet (λ p. task_verdict p id number)

-- The acceptance.
abbrev pub pair_acceptance : (plan sheet : List ℕ) → Result Acceptance Refusal
pair_acceptance plan sheet = pair_or refusing_answer plan sheet acceptance

-- The smallest capacity of a guest: then 7, then 11.
abbrev pub pair_smallest : (plan sheet : List ℕ) → (id : ℕ) → Result ℕ Refusal
pair_smallest plan sheet id = pair_or refusing_answer plan sheet (λ p. smallest_capacity p id)
