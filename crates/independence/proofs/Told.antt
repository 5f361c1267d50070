-- What a guest can tell of a tick is the same in two states that are alike for it. Assumes nothing.
use mathlib.Core.Path.{◌≡◌, refl, sym, ap, subst, ◌∙◌}
use mathlib.Core.Bool.{Bool, true, false}
use mathlib.Core.List.{[], ◌∷◌}
use Prim.Native.Nat.{ℕ, ◌+◌, ◌≤◌, ◌<◌}
use native.Mathlib.Decide.{dec_lt, ℕ_discrete}
use native.Mathlib.Omega.{arith}
use lib.Dec.{ltb, eqb}
use borrow.Author.Tests.{ltb-true, ne_eqb}
use Rattle.lists.specs.Choice.{pick}
use Rattle.plan.specs.declared.Guest.{Guest}
use Rattle.plan.specs.declared.Plan.{Plan}
use Rattle.dispatcher.specs.declared.Dispatcher.{Dispatcher}
use Rattle.dispatcher.specs.declared.Answer.TheVariants.{Idled, Worked}
use Rattle.dispatcher.specs.State.{guest_in, rest_at}
use Rattle.dispatcher.specs.Tick.{holder, is_held, worker, is_worked}
use Rattle.dispatcher.specs.Answer.{holder_id, worker_number, worker_age, answer_by, answer}
use Rattle.verdict_laws.specs.Guests.{There}
use Rattle.independence.specs.Event.{Event, elsewhere, idled, worked, finished}
use Rattle.independence.specs.View.{told}
use Rattle.independence.specs.SameFor.{SameFor}
use Rattle.plan.specs.Records.{deadline_of}
use Rattle.margins.specs.Margin.{margin_of}
use Rattle.verdict_laws.proofs.Guests.{there_place}
use Rattle.dispatcher_laws.proofs.Answer.{finished_by, answer_idled, answer_worked, answer_finished}
use Rattle.dispatcher_laws.proofs.Sound.{Sound}
use Rattle.independence.proofs.Tick.{else_too, same_worker, age_next}
use Rattle.independence.proofs.Alike.{Alike, tasks_of, guest_of_lem, in_one, in_other, same_record, same_holder, tasks_one, tasks_other}

-- The finished job as its own guest is told it.
abbrev finished_of : Dispatcher → Event
finished_of d =
    finished (worker_number d) (worker_age d) (margin_of (deadline_of (guest_in d (holder d)) (worker d)) (worker_age d))

-- A tick that a guest with another id has, or nobody, is told as not its own.
else_by :
    (id : ℕ) (held busy more : Bool) (d : Dispatcher)
    → (held ≡ true → eqb (holder_id d) id ≡ false)
    → told id (answer_by held busy more d) ≡ elsewhere ∷ []
unfolding told answer_by
else_by id false busy more d h = refl
else_by id true false more d h = ap (λ (own : Bool). pick own idled elsewhere ∷ []) (h refl)
else_by id true true true d h = ap (λ (own : Bool). pick own (worked (worker_number d)) elsewhere ∷ []) (h refl)
else_by id true true false d h = ap (λ (own : Bool). pick own (finished_of d) elsewhere ∷ []) (h refl)

-- A tick that the guest at place k does not have is told to it as not its own.
told_else :
    (id k : ℕ) (p : Plan)
    → There p id k
    → (d : Dispatcher)
    → Sound p d
    → (holder d ≡ k → ⊥)
    → told id (answer d) ≡ elsewhere ∷ []
unfolding answer is_held
told_else id k p T d D n =
    else_by id (is_held d) (is_worked d) (ltb 1 (rest_at d (holder d) (worker d))) d
    (λ held. ne_eqb (holder_id d) id (λ e. n (sym (there_place p id (holder d) record {
      order = T.order;
      place = omega (arith, ltb-true (holder d) d.plan.count held, ap (λ (z : Plan). z.count) D.plan);
      named = sym (ap (λ (g : Guest). g.id) (guest_of_lem d D (holder d))) ∙ e;
    }) ∙ there_place p id k T)))

-- The answer of a tick that guest k has.
module _ (d : Dispatcher) (k : ℕ) (in_plan : k < d.plan.count) (mine : holder d ≡ k) where
  -- No task of it has run left: it idles the tick away.
  idled_here : (guest_in d k).tasks ≤ worker d → answer d ≡ Idled (guest_in d k).id
  idled_here =
      subst (λ (z : ℕ). (guest_in d z).tasks ≤ worker d → answer d ≡ Idled (guest_in d z).id) mine
      (answer_idled d (omega arith))

  -- The task has more run left than this tick: it works.
  worked_here :
      worker d < (guest_in d k).tasks
      → 1 < rest_at d k (worker d)
      → answer d ≡ Worked (guest_in d k).id (worker d + 1)
  worked_here =
      subst
      (λ (z : ℕ). worker d < (guest_in d z).tasks → 1 < rest_at d z (worker d)
      → answer d ≡ Worked (guest_in d z).id (worker d + 1))
      mine (answer_worked d (omega arith))

  -- The tick is the last of the task's run: the job is finished.
  finished_here : worker d < (guest_in d k).tasks → rest_at d k (worker d) ≤ 1 → answer d ≡ finished_by d k (worker d)
  finished_here =
      subst (λ (z : ℕ). worker d < (guest_in d z).tasks → rest_at d z (worker d) ≤ 1
      → answer d ≡ finished_by d z (worker d))
      mine (answer_finished d (omega arith))

-- One tick of two states that are alike.
module _ {id k : ℕ} {p q : Plan} (S : SameFor id k p q) {d e : Dispatcher} (A : Alike k (tasks_of p k) p q d e) where
  -- Where the guest has the tick, the answers are one.
  answer_mine : holder d ≡ k → holder e ≡ k → answer d ≡ answer e
  answer_mine x y =
      let w : worker d ≡ worker e = same_worker S A x y in
      elim (dec_lt (worker d) (tasks_of p k)) [
        | no l ↦
            idled_here d k (in_one S A) x (omega (arith, tasks_one S A))
            ∙ ap (λ (g : Guest). Idled g.id) (same_record S A)
            ∙ sym (idled_here e k (in_other S A) y (omega (arith, tasks_other S A)))
        | yes l ↦
            (let r : rest_at d k (worker d) ≡ rest_at e k (worker e) =
            A.rest (worker d) l ∙ ap (λ (t : ℕ). rest_at e k t) w in
            elim (dec_lt 1 (rest_at d k (worker d))) [
              | yes m ↦
                  worked_here d k (in_one S A) x (omega (arith, tasks_one S A)) m
                  ∙ rw (same_record S A, w) refl
                  ∙ sym (worked_here e k (in_other S A) y (omega (arith, tasks_other S A)) (omega arith))
              | no m ↦
                  finished_here d k (in_one S A) x (omega (arith, tasks_one S A)) (omega arith)
                  ∙ rw (same_record S A, age_next S A (worker d) l, w) refl
                  ∙ sym (finished_here e k (in_other S A) y (omega (arith, tasks_other S A)) (omega arith))
            ])
      ]

  -- What the guest can tell of the tick is the same.
  pub told_same : told id (answer d) ≡ told id (answer e)
  told_same =
      elim (ℕ_discrete (holder d) k) [
        | yes x ↦ ap (told id) (answer_mine x (same_holder S A (omega arith) ∙ x))
        | no n ↦ told_else id k p S.here d A.one n
            ∙ sym (told_else id k q S.there e A.other (else_too S A n))
      ]
