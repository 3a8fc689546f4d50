use mathlib.Core.Path.{◌≡◌, refl, sym, ap, ◌∙◌}
use mathlib.Core.List.{List}
use Prim.Native.Nat.{ℕ, ◌+◌, ◌*◌, ◌-◌, ◌≤◌, ◌<◌, zero-le}
use native.Mathlib.Omega.{arith}
use lib.ListN.{length, get_or, set}
use Rattle.laws.specs.Table.{table, number}
use Rattle.laws.proofs.Count.{number_below}
use Rattle.level_kept.specs.Keep.{large}
use Rattle.level_kept.proofs.Flags.{flags, flags_none, flags_long, flag_own, flags_next}
use Rattle.level_kept.proofs.keep.flag.Goals.{After-larges, At-loop-i, After-loop-i}
use Rattle.level_kept.proofs.keep.flag.Goals.at as at
use Rattle.level_kept.proofs.keep.flag.Goals as goal

-- The flags of the points below a place.
module _ (c : After-larges) where
  abbrev masks : List ℕ
  masks = c.args.masks.now

  abbrev tops : List ℕ
  tops = c.args.tops.now

  abbrev size : ℕ
  size = length c.args.kept.now

  abbrev below : ℕ → List ℕ
  below = flags (length tops) masks tops

  first : c.larges.new.kept ≡ below 0
  first =
      c.larges.ensures ∙ ap (λ n. table n (λ p. number (large masks p))) (sym c.requires.1) ∙ flags_none _ _ _

  long : (k : List ℕ) (i : ℕ) → k ≡ below i → length k ≡ length tops
  long k i f = ap length f ∙ flags_long (length tops) masks tops i

  own : (k : List ℕ) (i p : ℕ) → k ≡ below i → i ≤ p → p < length tops → get_or k p 0 ≡ number (large masks p)
  own = flag_own (length tops) masks tops c.requires.2 refl

  last : (k : List ℕ) (i : ℕ) → k ≡ below i → i ≡ length tops → k ≡ flags size masks tops size
  last k i f e = f ∙ ap below e ∙ ap (λ n. flags n masks tops n) c.requires.1

-- What the write of a flag needs, and what it leaves.
module _ (c : At-loop-i) (b : c.loop-i.i < length c.args.tops.now) where
  abbrev before : After-larges
  before = (at.At-loop-i c).After-larges

  abbrev i : ℕ
  i = c.loop-i.i

  abbrev v : ℕ
  v = c.loop-i.flag

  ready : (i < length (tops before)) × (i < length c.loop-i.kept) × (get_or (tops before) i 0 ≤ i) × (v ≤ 1)
  ready =
      omega (
        arith,
        long before _ i c.loop-i.invariant.0,
        c.requires.2.up i,
        number_below (large (masks before) i),
        c.loop-i.invariant,
        b,
      )

  raised : (k : List ℕ) → k ≡ set c.loop-i.kept (i - (i - get_or (tops before) i 0) * v) v → k ≡ below before (i + 1)
  raised k e =
      let f = c.loop-i.invariant in
      e ∙ flags_next (length (tops before)) (masks before) (tops before) c.requires.2 refl i b _ _ _ f.0 f.1 refl

pub returns-then-n-eq0 : goal.returns-then-n-eq0
returns-then-n-eq0 c =
    let a = (at.returns-then-n-eq0 c).After-larges in
    last a _ 0 (first a) (omega arith)

pub bounds-kept-0 : goal.bounds-kept-0
bounds-kept-0 c =
    let a = (at.bounds-kept-0 c).After-larges in
    omega (arith, long a _ 0 (first a))

pub loop-i-init : goal.loop-i-init
loop-i-init c =
    let a = (at.loop-i-init c).After-larges in
    let b : 0 < length (tops a) = omega arith in
    (first a, own a _ 0 0 (first a) zero-le b)

pub bounds-kept-i : goal.bounds-kept-i
bounds-kept-i c = omega (arith, long (at.bounds-kept-i c).After-larges _ c.loop-i.i c.loop-i.invariant.0)

pub raise-requires : goal.raise-requires
raise-requires c = ready (at.raise-requires c).At-loop-i (omega (arith, c.loop-i-test.true))

pub loop-i-preserved : goal.loop-i-preserved
loop-i-preserved c =
    let b : c.loop-i.i + 1 < length c.args.tops.now = omega (arith, c.loop-i-test.true) in (
      raised (at.loop-i-preserved c).At-loop-i (omega arith) _ c.raise.ensures,
      own (at.loop-i-preserved c).After-larges _ _ _ c.loop-i.invariant.0 (omega arith) b,
    )

-- The last place.
module _ (c : After-loop-i) where
  at-last : c.loop-i.i ≡ length c.args.tops.now - 1
  at-last = omega (arith, c.loop-i-test.false)

  inside : c.loop-i.i < length c.args.tops.now
  inside = omega (arith, at-last, c.if-n-eq0.false)

pub raise-requires-2 : goal.raise-requires-2
raise-requires-2 c =
    let e = (at.raise-requires-2 c).After-loop-i in
    rw (at-last e) at (ready (at.raise-requires-2 c).At-loop-i (inside e))

pub returns : goal.returns
returns c =
    let e = (at.returns c).After-loop-i in
    let m : c.loop-i.i + 1 ≡ length c.args.tops.now = omega (arith, inside e, at-last e) in
    last (at.returns c).After-larges _ _ (raised (at.returns c).At-loop-i (inside e) _ (rw (at-last e) c.raise-2.ensures)) m
