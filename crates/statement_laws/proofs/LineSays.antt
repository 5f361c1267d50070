-- What a counted job changes in its own line, and that it changes no other. Assumes nothing.
use mathlib.Core.Path.{◌≡◌, refl, ◌∙◌}
use mathlib.Core.Logic.{◌≢◌}
use mathlib.Core.List.{List, [], ◌∷◌, ◌++◌}
use Prim.Native.Nat.{ℕ, zero, suc, ◌<◌}
use native.Mathlib.Decide.{dec_lt}
use native.Mathlib.Omega.{arith}
use lib.IntN.{pos}
use lib.ListN.{get_or, replicate, length-append, length-set, length-replicate, get_or-replicate, get_or-eq_default}
use lib.Seq.{get_or-set_same, get_or-set_other}
use Rattle.plan.specs.declared.Plan.{Plan}
use Rattle.logblock.specs.Reading.{jobs_in}
use Rattle.statement.specs.declared.Statement.{Statement}
use Rattle.statement.specs.Lines.{Lined, most_lines, empty}
use Rattle.statement.specs.Counting.{counted_at, entries_counted, block_counted}
use Rattle.statement_laws.specs.Entries.{greatest, late_in, margins_in}
use Rattle.statement_laws.specs.LineSays.{LineSays}
use Rattle.statement_laws.proofs.Entries.{greatest_next, late_next, margins_next}

-- A statement keeps its lines.
lined_counted : (k deadline age : ℕ) (s : Statement) → Lined s → Lined (counted_at k deadline age s)
unfolding counted_at
lined_counted k deadline age s l = record {
  margins = length-set s.margins k _ ∙ l.margins;
  jobs = length-set s.jobs k _ ∙ l.jobs;
  longest = length-set s.longest k _ ∙ l.longest;
  late = length-set s.late k _ ∙ l.late;
}

pub lined_entries : (p : Plan) (b : List ℕ) (n : ℕ) (s : Statement) → Lined s → Lined (entries_counted p b n s)
unfolding entries_counted
lined_entries p b zero s l = l
lined_entries p b (suc n) s l = lined_counted _ _ _ (entries_counted p b n s) (lined_entries p b n s l)

pub lined_block : (p : Plan) (b : List ℕ) (s : Statement) → Lined s → Lined (block_counted p b s)
unfolding block_counted
lined_block p b s l =
    let r = lined_entries p b (jobs_in b) s l in
    record { margins = r.margins; jobs = r.jobs; longest = r.longest; late = r.late }

-- The line that a job is counted in has one age more.
pub own_line : (k deadline age : ℕ) (s : Statement) (ages : List ℕ) → Lined s → k < most_lines
    → LineSays s k deadline ages
    → LineSays (counted_at k deadline age s) k deadline (ages ++ (age ∷ []))
unfolding counted_at
own_line k deadline age s ages l h says = record {
  jobs = get_or-set_same s.jobs k _ 0 (omega (arith, l.jobs))
      ∙ rw says.jobs (omega (arith, length-append ages (age ∷ [])));
  longest = get_or-set_same s.longest k _ 0 (omega (arith, l.longest))
      ∙ rw (says.longest, greatest_next ages age) refl;
  late = get_or-set_same s.late k _ 0 (omega (arith, l.late)) ∙ rw (says.late, late_next deadline ages age) refl;
  margins = get_or-set_same s.margins k _ (pos 0) (omega (arith, l.margins))
      ∙ rw (says.margins, margins_next deadline ages age) refl;
}

-- Every other line is as it was.
pub other_line : (j deadline age : ℕ) (s : Statement) (k d : ℕ) (ages : List ℕ) → k ≢ j → LineSays s k d ages
    → LineSays (counted_at j deadline age s) k d ages
unfolding counted_at
other_line j deadline age s k d ages n says = record {
  jobs = get_or-set_other s.jobs j k _ 0 n ∙ says.jobs;
  longest = get_or-set_other s.longest j k _ 0 n ∙ says.longest;
  late = get_or-set_other s.late j k _ 0 n ∙ says.late;
  margins = get_or-set_other s.margins j k _ (pos 0) n ∙ says.margins;
}

-- A place of a list of one value, or past its end, where that value is read.
all_same : {A : Type 0} (n i : ℕ) (a : A) → get_or (replicate n a) i a ≡ a
all_same n i a =
    elim (dec_lt i n) [
      | yes h ↦ get_or-replicate n i a a h
      | no h ↦ get_or-eq_default (replicate n a) a (omega (arith, length-replicate n a))
    ]

-- A line of the empty statement has no job.
pub empty_line : (k deadline : ℕ) → LineSays empty k deadline []
unfolding greatest late_in margins_in
empty_line k deadline = record {
  jobs = all_same most_lines k 0;
  longest = all_same most_lines k 0;
  late = all_same most_lines k 0;
  margins = all_same most_lines k (pos 0);
}

-- The empty statement has its lines.
pub empty_lined : Lined empty
empty_lined = record { margins = refl; jobs = refl; longest = refl; late = refl }
