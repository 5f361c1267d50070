-- The columns are those of a plan in order.
use Rattle.statement.proofs.columns.gather.Goals as goal

pub invariant_of-result : goal.invariant_of-result
invariant_of-result c =
    record {
      fits = record {
        passes = c.requires;
        guests = c.columns_of-columns.ensures;
        due = c.deadlines_of-deadlines.ensures;
      };
    }
