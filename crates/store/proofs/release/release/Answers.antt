use Rattle.std.proofs.Common.{◌≡◌, ◌≤◌, length, take, ap, subst, arith}
use Rattle.lfpl.specs.Typing.{type_at}
use Rattle.store.specs.Layout.{footprint, occ}
use Rattle.store.specs.Releasing.{Released}
use Rattle.store.proofs.Gives.{placed_first}
use Rattle.store.proofs.Uniques.{holds_charge, shown_used}
use Rattle.store.proofs.release.release.Goals as goal

pub returns : goal.returns
returns g c ts T v s k h =
    let m = g.P.Pool.means c.args.pool.now in
    let A = type_at ts c.args.t in
    let ws = c.args.words.now in
    let fp = footprint m A v ws 0 in
    let n : length fp ≤ 512 = omega (arith, holds_charge m A v ws 0, k) in
    let p = c.collect-count.ensures.cells ts T v s k (omega (arith, n)) in
    let e : take c.collect-count.result c.collect-count.new.cells ≡ fp = placed_first fp _ _ c.collect-count.result n p.0 p.1 in
    subst (λ xs. Released m xs (g.P.Pool.means c.give_all.new.pool)) e
    (c.give_all.ensures (λ i. omega (arith, ap (occ i) e, h i, shown_used m A v ws 0 s i)))
