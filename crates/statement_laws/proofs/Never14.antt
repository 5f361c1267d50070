-- Statements that our own calls make are never refused by 14, and their numbers fit. Assumes nothing.
use mathlib.Core.Path.{◌≡◌, refl}
use mathlib.Core.Logic.{◌≢◌}
use mathlib.Core.Bool.{Bool, true, false, false≢true}
use mathlib.Core.List.{List, [], ◌∷◌}
use Prim.Native.Nat.{ℕ, zero, suc, ◌%◌, ◌≤◌}
use native.Mathlib.Omega.{arith}
use lib.Dec.{eqb}
use lib.ListN.{length}
use Rattle.lists.specs.All.{all_to}
use Rattle.lists.specs.Refusals.{refusal, unless, ◌or_refuse◌}
use Rattle.plan.specs.First.{refused, or_else}
use Rattle.block.specs.Layout.{block_size}
use Rattle.blockfile.specs.File.{file_refusal}
use Rattle.planfile.specs.Records.{read_of}
use Rattle.statement.specs.declared.Statement.{Statement}
use Rattle.statement.specs.Lines.{empty, Lined, line_ok, statement_ok}
use Rattle.statement.specs.Call.{call_refusal, stated_by, stated}
use Rattle.statement_laws.specs.Fits.{SumsFit}
use Rattle.statement_laws.specs.Taken.{statement_after}
use Rattle.planfile_laws.proofs.Exact.{most}
use Rattle.statement.proofs.Lines.{few_blocks, lines_in}
use Rattle.statement.proofs.Log.{block_stays}
use Rattle.statement_laws.proofs.Counts.{read_fine}
use Rattle.statement_laws.proofs.LineSays.{empty_lined}
use Rattle.statement_laws.proofs.Taken.{calls_keep}

-- Calls leave a statement in its ranges there.
ranges_after : (plan : List ℕ) (logs : List (List ℕ)) (s : Statement) → Lined s × (statement_ok s ≡ true)
    → Lined (statement_after plan logs s) × (statement_ok (statement_after plan logs s) ≡ true)
ranges_after plan logs s r =
    calls_keep (λ s m es. Lined s × (statement_ok s ≡ true)) plan
    (λ e b s m es z c. block_stays (read_of plan).plan b s (read_fine plan e) z c) logs s 0 [] r

-- The empty statement is in its ranges.
pub empty_ok : statement_ok empty ≡ true
unfolding statement_ok line_ok all_to
empty_ok = refl

-- A call is refused by the plan's number, which is at most 6, by 14 for the statement, or by 1 for the log's length.
call_number_lem : (s : Statement) (plan log : List ℕ) → (stated s plan log).refusal.number ≡ (call_refusal s plan log).number
unfolding stated stated_by
call_number_lem s plan log = by (call_refusal s plan log).number refl
  where
    by : (r : ℕ) → (call_refusal s plan log).number ≡ r → (stated_by r s plan log).refusal.number ≡ r
    by zero e = refl
    by (suc r) e = e

not_14 : (number place : ℕ) (ok whole : Bool) → number ≤ 6 → ok ≡ true
    → (or_else number place (refused (refusal (ok or_refuse 14 ∷ whole or_refuse 1 ∷ [])) 0)).number ≢ 14
unfolding or_else refusal unless
not_14 (suc number) place ok whole h t e = omega arith
not_14 zero place true true h t e = omega arith
not_14 zero place true false h t e = omega arith
not_14 zero place false whole h t e = false≢true t

-- 3. From a statement in its ranges, after any calls with one plan the statement is in its ranges.
pub stays_ok : (plan : List ℕ) (logs : List (List ℕ)) (s : Statement) → Lined s → statement_ok s ≡ true
    → statement_ok (statement_after plan logs s) ≡ true
stays_ok plan logs s lined ok = (ranges_after plan logs s (lined, ok)).1

-- So the call after them, with whatever plan and log, is not refused by 14.
pub never_14 : (plan : List ℕ) (logs : List (List ℕ)) (s : Statement) → Lined s → statement_ok s ≡ true
    → (other log : List ℕ) → (stated (statement_after plan logs s) other log).refusal.number ≢ 14
unfolding call_refusal
never_14 plan logs s lined ok other log e =
    not_14 (file_refusal other).number (file_refusal other).place (statement_ok (statement_after plan logs s))
    (eqb (length log % block_size) 0) (most true other) (stays_ok plan logs s lined ok)
    (rw (call_number_lem (statement_after plan logs s) other log) at e)

-- Nor is one that follows calls from the empty statement.
pub never_14_from_empty : (plan : List ℕ) (logs : List (List ℕ)) (other log : List ℕ)
    → (stated (statement_after plan logs empty) other log).refusal.number ≢ 14
never_14_from_empty plan logs = never_14 plan logs empty empty_lined empty_ok

-- The numbers of a statement in its ranges fit their types, those after any calls among them.
pub sums_fit : (plan : List ℕ) (logs : List (List ℕ)) (s : Statement) → Lined s → statement_ok s ≡ true
    → SumsFit (statement_after plan logs s)
sums_fit plan logs s lined ok =
    let t = statement_after plan logs s in
    let fine = stays_ok plan logs s lined ok in
    let few = few_blocks t fine in
    let lines = lines_in t fine in
    record {
      margins = λ k h. omega (arith, few, (lines k h).jobs, (lines k h).margins);
      jobs = λ k h. omega (arith, few, (lines k h).jobs);
      longest = λ k h. omega (arith, (lines k h).oldest);
      late = λ k h. omega (arith, few, (lines k h).jobs, (lines k h).late);
    }
