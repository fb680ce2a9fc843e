use Rattle.std.proofs.Common.{drop}
use Rattle.store_memory.specs.Neighbours.{by_them}
use Rattle.store_memory.specs.Moments.{Timed}
use Rattle.store_memory.proofs.ActLaws.{More}
use Rattle.store_memory.proofs.store.others_act.Given as goal

abbrev pub invariant-loop-step : goal.invariant-loop-step
invariant-loop-step g l =
    record {
      more : More (g.M.Manners.allows (g.N.Neighbour.manners l.fn.neighbour)) l.fn.history l.history (by_them l.next_ms (drop l.step-index l.step-items)) (by_them l.fn.next_ms l.step-items);
      timed : Timed l.fn.history l.history l.fn.next_ms l.next_ms;
    }
