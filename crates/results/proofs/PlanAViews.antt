-- Independence at plan A: guest 9's view over 44 ticks, written out, is the same beside a guest 7 that is pressed, in a
-- crowded plan, and with its releases on sheets. Each of the things that must agree is needed: changed alone, it shows.
use mathlib.Core.Path.{◌≡◌, refl, sym, ap, ◌∙◌}
use mathlib.Core.Bool.{Bool, true, false, false≢true}
use mathlib.Core.List.{List, [], ◌∷◌, ◌++◌}
use Prim.Native.Nat.{ℕ}
use lib.ListN.{get_or}
use Rattle.history.specs.Calls.{releasing, running, start, times}
use Rattle.independence.specs.Event.{Event, answered, elsewhere, idled, worked, finished}
use Rattle.independence.specs.Own.{only}
use Rattle.independence.specs.View.{view}
use Rattle.worked.specs.Plans.{A}
use Rattle.results.specs.Views.{Views, plan_with, crowded, quiet, pressed, beset, sheeted, shown}
use Rattle.independence.proofs.Independence.{same_itself}
use Rattle.results.proofs.ComputedViews.{computed}
use Rattle.results.proofs.Independence.{independence, alone}

-- The views that are computed, among them guest 9's beside a guest 7 that is never released.
pub views : Views
views = computed.views

-- Beside a guest 7 whose task is released at every chance, guest 9 can tell the same.
pub beside_pressed : view 9 pressed (start A) ≡ shown
beside_pressed =
    independence 9 1 A A (same_itself computed.same_crowded.here computed.same_crowded.starts) pressed quiet computed.singly_pressed
    computed.singly_quiet computed.asked_pressed
    ∙ views.unreleased

-- In the crowded plan, where others stand above and below it and are released at every chance, guest 9 can tell the
-- same.
pub in_the_crowd : view 9 beset (start crowded) ≡ shown
in_the_crowd =
    sym (independence 9 1 A crowded computed.same_crowded quiet beset computed.singly_quiet
    computed.singly_beset
    (sym computed.asked_beset))
    ∙ views.unreleased

-- With its releases on sheets, among pairs of other guests and sheets refused whole, guest 9 can tell the same as with
-- single releases.
pub on_sheets : view 9 sheeted (start A) ≡ shown
on_sheets =
    independence 9 1 A A (same_itself computed.same_crowded.here computed.same_crowded.starts) sheeted quiet computed.singly_sheeted
    computed.singly_quiet computed.asked_sheeted
    ∙ views.unreleased

-- With all releases of guest 7 taken away, guest 9 can tell the same.
pub without_the_pressed : view 9 (only 9 pressed) (start A) ≡ shown
without_the_pressed =
    alone 9 1 A computed.same_crowded.here computed.same_crowded.starts pressed computed.singly_pressed
    ∙ beside_pressed

-- ---- what does show
-- Whether an event is a tick that was not the guest's own.
is_elsewhere : Event → Bool
is_elsewhere elsewhere = true
is_elsewhere (answered task number) = false
is_elsewhere idled = false
is_elsewhere (worked task) = false
is_elsewhere (finished task age margin) = false

-- Two views differ where at some place the one has a tick elsewhere and the other has not.
differ :
    (m : ℕ) {v w x y : List Event}
    → v ≡ x
    → w ≡ y
    → is_elsewhere (get_or x m elsewhere) ≡ false
    → is_elsewhere (get_or y m elsewhere) ≡ true
    → v ≡ w
    → ⊥
differ m a b f t e =
    false≢true (sym f ∙ ap (λ (l : List Event). is_elsewhere (get_or l m elsewhere)) (sym a ∙ e ∙ b) ∙ t)

-- Guest 7's capacity shows: 2 and 3 differ in the third tick.
pub capacity_shows : view 9 (times 3) (start (plan_with 2 5 8)) ≡ view 9 (times 3) (start (plan_with 3 5 8)) → ⊥
unfolding is_elsewhere
capacity_shows = differ 2 views.over_2 views.over_3 refl refl

-- Guest 7's period shows: 5 and 4 differ in the fifth tick.
pub period_shows : view 9 (times 5) (start (plan_with 2 5 8)) ≡ view 9 (times 5) (start (plan_with 2 4 8)) → ⊥
unfolding is_elsewhere
period_shows = differ 4 views.every_5 views.every_4 refl refl

-- Guest 9's own record shows: capacities 8 and 1 differ in the fourth tick.
pub record_shows : view 9 (times 4) (start (plan_with 2 5 8)) ≡ view 9 (times 4) (start (plan_with 2 5 1)) → ⊥
unfolding is_elsewhere
record_shows = differ 3 views.own_8 views.own_1 refl refl

-- Guest 9's own release shows, by when it comes.
pub release_shows : view 9 (releasing 9 1 ∷ times 3) (start A) ≡ view 9 (times 3 ++ (releasing 9 1 ∷ [])) (start A) → ⊥
unfolding is_elsewhere
release_shows = differ 0 views.sooner views.later refl refl

-- Another guest's release shows in a run of several ticks, which stops at that guest's finish.
pub run_shows : view 9 (running 4 ∷ []) (start A) ≡ view 9 (releasing 7 1 ∷ running 4 ∷ []) (start A) → ⊥
unfolding is_elsewhere
run_shows = differ 2 views.not_stopped views.stopped refl refl
