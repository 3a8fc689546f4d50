-- The definitions that worked cases compute with, opened room by room: `unfolding opened` opens them all.
use Rattle.laws.specs.Equal.{equal}
use Rattle.laws.specs.Every.{every}
use Rattle.laws.specs.Table.{table, count, some}
use Rattle.laws.specs.First.{first_failed}
use Rattle.laws.specs.Least.{lower, tie, ties, least}
use Rattle.laws.specs.Run.{run, count_to}
use Rattle.sheet_size.specs.Size.{within}
use Rattle.point_darts.specs.Dart.{mark, points, slots, dart, point, direction, beside, far, turned, reversal, stays, line}
use Rattle.point_darts.specs.Point.{bits, half, has, corner, right, left, parts, present, degree, inline}
use Rattle.point_rules.specs.Turn.{turning, led, turn, is_right, is_left}
use Rattle.paper.specs.Name.{label, west, north, names, named, cells}
use Rattle.paper.specs.Level.{side, border, mask, next, plain, last, along, big, bent, tops, anchor, kept2, kept3, among}
use Rattle.paper.specs.Level.{level, marked}
use Rattle.paper.specs.Turns.{taken, turns, curve_turns}
use Rattle.paper.specs.Enclosure.{top_side, parent, parents, above, depth, hole, holes}
use Rattle.paper.specs.Total.{cells_of, borders_of, total, totals}
use Rattle.paper.specs.Contour.{reached, contour, outermost, inner_contours}
use Rattle.paper.specs.Drawing.{drawn, drawing, fresh, recover, recovered, same, is_drawing}
use Rattle.paper.specs.Joining.{at, on, between, shared, chase, removed, rest1, rest3, low, high, spliced}
use Rattle.paper.specs.Joining.{smooth, smooths, smoothed, moved, close, closes, closed, shared_lines, added, joined}
use Rattle.paper.specs.Refusal.{sized, cleared, work_left, outcome, level_tests, level_refusal, level_tables, levelled}
use Rattle.paper.specs.Refusal.{seven, stated, draw_tests, draw_refusal, mapped, size_tests, given_tests, used, adjoin, name_tests}
use Rattle.paper.specs.Refusal.{join_refusal, merged, count_refusal, deepened, holed}
use Rattle.paper.specs.Order.{pairs, whole, unless, joins, list_tests, list_stop, placed, merged_list}
use Rattle.paper.specs.Editor.{is_editor, owned, lent, start_tests, started, theirs, own_tests, call_tests, reply, after, edited}
use Rattle.paper.specs.Mixture.{after_all, replies_to, own, region}
use Rattle.laws.proofs.Cases.{failed}

laws_open : Unit {0}
unfolding table count some lower tie ties least run count_to first_failed
laws_open = tt

points_open : Unit {0}
unfolding within mark points slots dart point direction beside far turned reversal stays line
points_open = tt

turns_open : Unit {0}
unfolding turning led turn is_right is_left taken turns curve_turns
turns_open = tt

masks_open : Unit {0}
unfolding bits half has corner right left parts present degree inline
masks_open = tt

levels_open : Unit {0}
unfolding label west north names named cells side border mask next plain last along big bent tops anchor kept2 kept3 among
levels_open = tt

contours_open : Unit {0}
unfolding reached contour outermost inner_contours
contours_open = tt

drawings_open : Unit {0}
unfolding level marked top_side parent parents above depth hole holes drawn drawing fresh recover recovered equal same is_drawing
drawings_open = tt

totals_open : Unit {0}
unfolding cells_of borders_of total totals shared_lines added
totals_open = tt

joins_open : Unit {0}
unfolding at on between shared chase removed rest1 rest3 low high spliced smooth smooths smoothed moved close closes closed joined
joins_open = tt

refusals_open : Unit {0}
unfolding
    sized cleared work_left outcome level_tests level_refusal level_tables levelled seven stated draw_tests draw_refusal mapped size_tests
refusals_open = tt

names_open : Unit {0}
unfolding given_tests used adjoin name_tests join_refusal merged count_refusal deepened holed
names_open = tt

lists_open : Unit {0}
unfolding pairs whole unless joins list_tests list_stop placed merged_list
lists_open = tt

editors_open : Unit {0}
unfolding every is_editor owned lent start_tests started theirs own_tests call_tests reply after edited after_all replies_to own region
editors_open = tt

unfoldable pub opened : Unit {0}
unfolding laws_open points_open turns_open masks_open levels_open contours_open drawings_open totals_open joins_open refusals_open
    names_open lists_open editors_open failed
opened = tt
