-- After k turns the first k blocks are gone through.
use Rattle.salvage.specs.Sifting.{places_of}
use Rattle.salvage.proofs.Sifting.{Standing}
use Rattle.salvage.proofs.sifter.sift.Given as goal

abbrev pub invariant-loop-k : goal.invariant-loop-k
invariant-loop-k l = Standing l.file l.k (places_of l.kept) l.fates
