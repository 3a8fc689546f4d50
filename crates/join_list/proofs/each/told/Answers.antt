use Rattle.std.proofs.Common.{of_calls}
use Rattle.join_list.proofs.Ending.{told_placed}
use Rattle.join_list.proofs.each.told.Goals as goal

pub returns : goal.returns
returns c = told_placed c.args.place _ (λ x q l. search of_calls) c.args.answer c.map_err.result c.map_err.ensures.cases
