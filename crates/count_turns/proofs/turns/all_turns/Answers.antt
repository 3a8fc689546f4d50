use Rattle.table_entries.proofs.Filled.{filled_all}
use Rattle.count_turns.specs.Turns.{turn_table}
use Rattle.count_turns.proofs.Taking.{whole_slots}
use Rattle.count_turns.proofs.turns.all_turns.Goals as goal

pub turns_at-turns-requires : goal.turns_at-turns-requires
turns_at-turns-requires c =
    let (r, l) = c.loop-d.invariant in
    record {
      lines = whole_slots _ _ c.args.next1.now c.args.size.limited c.requires.0;
      below = c.loop-d-test.true;
      rights = r.long;
      lefts = l.long;
      right = r.done;
      left = l.done;
    }

pub returns : goal.returns
unfolding turn_table
returns c =
    let i = c.loop-d.invariant in
    let t = c.loop-d-test.false in
    rw (← c.slots-n.ensures) (filled_all _ _ _ _ _ i.0 t, filled_all _ _ _ _ _ i.1 t)
