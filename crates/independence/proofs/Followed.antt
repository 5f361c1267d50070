-- What a guest is shown is followed by its own asks: a relation that is put together call by call and pair by pair.
-- Assumes nothing.
use mathlib.Core.Path.{◌≡◌, refl, sym, ap}
use mathlib.Core.List.{List, [], ◌∷◌, ◌++◌, append_assoc}
use Prim.Native.Nat.{ℕ}
use Rattle.plan.specs.declared.Plan.{Plan}
use Rattle.dispatcher.specs.declared.Dispatcher.{Dispatcher}
use Rattle.history.specs.Calls.{Call, after, play}
use Rattle.independence.specs.Event.{Event}
use Rattle.independence.specs.View.{sees, view}
use Rattle.independence.specs.Own.{Ask, as_call, as_calls}
use Rattle.history.proofs.Sheets.{play_append}
use Rattle.independence.proofs.Alike.{Alike, tasks_of}

-- ---- histories one after the other
-- The view of two histories one after the other is the view of the one and then of the other.
view_append :
    (id : ℕ) (bs cs : List Call) (d : Dispatcher)
    → view id (bs ++ cs) d ≡ view id bs d ++ view id cs (play bs d)
unfolding view play
view_append id [] cs d = refl
view_append id (b ∷ bs) cs d =
    rw (view_append id bs cs (after b d))
    (sym (append_assoc (sees id b d) (view id bs (after b d)) (view id cs (play bs (after b d)))))

-- The calls for two lists of asks are those for the one and then those for the other.
asked_append : (id : ℕ) (xs ys : List Ask) → as_calls id (xs ++ ys) ≡ as_calls id xs ++ as_calls id ys
unfolding as_calls
asked_append id [] ys = refl
asked_append id (x ∷ xs) ys = ap (λ (l : List Call). as_call id x ∷ l) (asked_append id xs ys)

-- ---- the relation
-- The guest's own asks, played in the state e, show it those events, and leave a state that is alike to d.
pub record Followed (id k : ℕ) (p q : Plan) (events : List Event) (asked : List Ask) (d e : Dispatcher) : Type 0 where
  pub seen : events ≡ view id (as_calls id asked) e
  pub stays : Alike k (tasks_of p k) p q d (play (as_calls id asked) e)

-- The events, the asks and the state may be written otherwise.
pub followed_as :
    {id k : ℕ} {p q : Plan} {events events' : List Event} {asked asked' : List Ask} {d d' e : Dispatcher}
    → events ≡ events'
    → asked ≡ asked'
    → d ≡ d'
    → Followed id k p q events' asked' d' e
    → Followed id k p q events asked d e
followed_as v a s F = rw (v, a, s) F

-- Where nothing is asked, nothing is shown.
pub none_followed :
    {id k : ℕ} {p q : Plan} {d e : Dispatcher}
    → Alike k (tasks_of p k) p q d e
    → Followed id k p q [] [] d e
unfolding view play as_calls
none_followed A = record { seen = refl; stays = A }

-- What is shown first and what is shown then are followed by the asks for the one and those for the other.
pub then_followed :
    {id k : ℕ} {p q : Plan} {first then : List Event} {xs ys : List Ask} {d d' e : Dispatcher}
    → Followed id k p q first xs d e
    → Followed id k p q then ys d' (play (as_calls id xs) e)
    → Followed id k p q (first ++ then) (xs ++ ys) d' e
then_followed {id} {xs = xs} {ys = ys} {e = e} F G = record {
  seen =
      rw (asked_append id xs ys, view_append id (as_calls id xs) (as_calls id ys) e, F.seen, G.seen) refl;
  stays = rw (asked_append id xs ys, play_append (as_calls id xs) (as_calls id ys) e) G.stays;
}
