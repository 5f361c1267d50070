-- A log cut between blocks gives the same statement: the second call starts where the first ended, and is not refused
-- by 14. Assumes nothing.
use mathlib.Core.Path.{◌≡◌, refl, sym, ap, ◌∙◌}
use mathlib.Core.Bool.{true}
use mathlib.Core.List.{List, [], ◌∷◌, ◌++◌}
use Prim.Native.Nat.{ℕ, zero, suc, ◌+◌, ◌%◌}
use native.Mathlib.Omega.{arith}
use lib.ListN.{length, length-append}
use borrow.Author.Tests.{eq-eqb}
use Rattle.plan.specs.declared.Plan.{Plan}
use Rattle.plan.specs.declared.Refusal.{Refusal}
use Rattle.plan.specs.First.{fine, or_else}
use Rattle.block.specs.Layout.{block_size}
use Rattle.blockfile.specs.File.{blocks_in, file_refusal}
use Rattle.planfile.specs.Records.{read_of}
use Rattle.statement.specs.declared.Statement.{Statement}
use Rattle.statement.specs.declared.Stated.{Stated}
use Rattle.statement.specs.Lines.{Lined, statement_ok}
use Rattle.statement.specs.Log.{after_blocks}
use Rattle.statement.specs.Call.{call_refusal, stated_over, unstated, stated_by, stated}
use Rattle.statement_laws.specs.Cut.{Whole, EachWhole, uncut, first_of, together}
use Rattle.statement_laws.specs.Taken.{statement_after}
use Rattle.lists.proofs.Refusals.{none_left, go_on, passed}
use Rattle.plan.proofs.First.{after_zero}
use Rattle.statement_laws.proofs.Never14.{stays_ok}
use Rattle.statement_laws.proofs.Taken.{calls_keep}
use Rattle.statement_laws.proofs.LineSays.{lined_block}
use Rattle.statement_laws.proofs.Log.{after_rest, blocks_parts, passed_parts, first_of_parts}

module _ (s : Statement) (plan log : List ℕ) where
  -- A call that is refused.
  call_refused : (r : ℕ) → (call_refusal s plan log).number ≡ suc r
      → stated s plan log ≡ unstated (call_refusal s plan log) s
  unfolding stated stated_by
  call_refused r e = ap (λ (n : ℕ). stated_by n s plan log) e

  -- A call that is not.
  pub call_taken : (call_refusal s plan log).number ≡ 0
      → stated s plan log ≡ stated_over (read_of plan).plan log (blocks_in log) s
  unfolding stated stated_by
  call_taken e = ap (λ (n : ℕ). stated_by n s plan log) e

  -- What a call that is not refused says of its plan and of the statement.
  call_says : (call_refusal s plan log).number ≡ 0 → ((file_refusal plan).number ≡ 0) × (statement_ok s ≡ true)
  unfolding call_refusal
  call_says e =
      let z = after_zero (file_refusal plan).number (file_refusal plan).place _ e in
      (z.0, (passed (statement_ok s) 14 _ (omega arith) z.1).0)

  -- A call on a log of whole blocks that says so is not refused.
  pub call_passes : ((file_refusal plan).number ≡ 0) × (statement_ok s ≡ true) → Whole log
      → (call_refusal s plan log).number ≡ 0
  unfolding call_refusal or_else
  call_passes says whole =
      rw says.0 (go_on 14 _ says.1 ∙ go_on 1 _ (eq-eqb (length log % block_size) 0 whole) ∙ none_left)

-- Logs of whole blocks are refused alike.
same_refusal : (s : Statement) (plan a b : List ℕ) → Whole a → Whole b
    → call_refusal s plan a ≡ call_refusal s plan b
unfolding call_refusal
same_refusal s plan a b x y = rw (eq-eqb (length a % block_size) 0 x, eq-eqb (length b % block_size) 0 y) refl

module _ (s : Statement) (lined : Lined s) (plan a b : List ℕ) (wholeA : Whole a)
    (wholeB : Whole b) where
  whole : Whole (a ++ b)
  whole = rw (length-append a b) (omega arith)

  -- What is left after the first part is in its ranges.
  stays : statement_ok s ≡ true → statement_ok (stated s plan a).statement ≡ true
  unfolding statement_after
  stays ok = stays_ok plan (a ∷ []) s lined ok

  -- Of a log that is not refused.
  over_parts : (p : Plan)
      → stated_over p (a ++ b) (blocks_in a + blocks_in b) s
      ≡ together (blocks_in a) (stated_over p a (blocks_in a) s)
      (stated_over p b (blocks_in b) (after_blocks p a (blocks_in a) s))
  over_parts p =
      let e1 = after_rest p a b wholeA s (blocks_in b) in
      let e2 = passed_parts p a b wholeA s (blocks_in b) in
      let e3 = first_of_parts p a b wholeA s (blocks_in b) in
      λ k.
      record { refusal = fine; statement = e1 k; passed = e2 k; position = (e3 k).place; number = (e3 k).number }

  -- 2. The outcome of the whole log is that of its two parts told as one: the same statement, as many passed over, and
  -- the first of them at its position in the whole.
  pub cut_whole :
      stated s plan (a ++ b)
      ≡ together (blocks_in a) (stated s plan a) (stated (stated s plan a).statement plan b)
  unfolding first_of or_else
  cut_whole = by (call_refusal s plan (a ++ b)).number refl
    where
      by : (r : ℕ) → (call_refusal s plan (a ++ b)).number ≡ r
          → stated s plan (a ++ b)
          ≡ together (blocks_in a) (stated s plan a) (stated (stated s plan a).statement plan b)
      by zero e =
          let p : Plan = (read_of plan).plan in
          let says = call_says s plan (a ++ b) e in
          let first : stated s plan a ≡ stated_over p a (blocks_in a) s =
          call_taken s plan a (call_passes s plan a says wholeA) in
          let ok : statement_ok (after_blocks p a (blocks_in a) s) ≡ true = rw first at (stays says.1) in
          let second : stated (after_blocks p a (blocks_in a) s) plan b
          ≡ stated_over p b (blocks_in b) (after_blocks p a (blocks_in a) s) =
          call_taken _ plan b (call_passes _ plan b (says.0, ok) wholeB) in
          rw (call_taken s plan (a ++ b) e, first, second, blocks_parts p a b wholeA s wholeB) (over_parts p)
      by (suc r) e =
          let R : Refusal = call_refusal s plan (a ++ b) in
          let alike : (log : List ℕ) → Whole log → stated s plan log ≡ unstated R s =
          λ log w.
          let q = same_refusal s plan log (a ++ b) w whole in
          call_refused s plan log r (ap (λ (x : Refusal). x.number) q ∙ e) ∙ ap (λ (x : Refusal). unstated x s) q in
          rw (alike (a ++ b) whole, alike a wholeA, alike b wholeB) refl

  -- The statement is the same.
  pub cut_anywhere : (stated (stated s plan a).statement plan b).statement ≡ (stated s plan (a ++ b)).statement
  cut_anywhere = sym (ap (λ (r : Stated). r.statement) cut_whole)

-- A call leaves a statement its lines.
lined_call : (s : Statement) (plan log : List ℕ) → Lined s → Lined (stated s plan log).statement
unfolding statement_after
lined_call s plan log lined =
    calls_keep (λ s m es. Lined s) plan (λ e b s m es z l. lined_block (read_of plan).plan b s l) (log ∷ []) s 0 []
    lined

-- A call on no block changes nothing.
none_counted : (s : Statement) (plan : List ℕ) → (stated s plan []).statement ≡ s
unfolding stated stated_by after_blocks
none_counted s plan = by (call_refusal s plan []).number
  where
    by : (r : ℕ) → (stated_by r s plan []).statement ≡ s
    by zero = refl
    by (suc r) = refl

-- Parts of whole blocks are a log of whole blocks.
uncut_whole : (parts : List (List ℕ)) → EachWhole parts → Whole (uncut parts)
unfolding uncut
uncut_whole [] w = refl
uncut_whole (part ∷ parts) w =
    rw (length-append part (uncut parts)) (omega (arith, w.0, uncut_whole parts w.1))

-- So a log that is cut between blocks into any number of parts, with a call for each, gives the same statement.
pub cut_into_many :
    (plan : List ℕ) (parts : List (List ℕ)) (s : Statement)
    → Lined s
    → EachWhole parts
    → statement_after plan parts s ≡ (stated s plan (uncut parts)).statement
unfolding statement_after uncut
cut_into_many plan [] s lined w = sym (none_counted s plan)
cut_into_many plan (part ∷ parts) s lined w =
    cut_into_many plan parts (stated s plan part).statement (lined_call s plan part lined) w.1
    ∙ cut_anywhere s lined plan part (uncut parts) w.0 (uncut_whole parts w.1)
