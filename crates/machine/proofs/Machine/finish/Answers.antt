use Rattle.std.proofs.Common.{◌≡◌, ℕ, ◌≤◌, List, length, take, ap, ◌∙◌, subst, arith}
use Rattle.lfpl.specs.Syntax.{width}
use Rattle.lfpl.specs.Typing.{type_at}
use Rattle.lfpl.specs.Values.{charge}
use Rattle.store.specs.Layout.{footprint, occ, used}
use Rattle.store.specs.Releasing.{Released}
use Rattle.store.proofs.Gives.{placed_first}
use Rattle.store.proofs.Refers.{width_is, wide_most}
use Rattle.store.proofs.Uniques.{holds_charge}
use Rattle.machine.specs.Calling.{without}
use Rattle.machine.specs.Enacting.{own}
use Rattle.machine.proofs.Finishings.{result_of, few, ended}
use Rattle.machine.proofs.Machine.finish.Goals as goal

pub returns : goal.returns
returns g c p code v ts T d E l =
    let m = g.P.Pool.means c.args.pool.now in
    let x = c.args.self.now in
    let t = c.args.t in
    let A = type_at ts t in
    let ws = c.front-words.result in
    let fp = footprint m A v ws 0 in
    let n : width A ≤ 16 = omega (arith, width_is c.args.entries.now ts T t c.requires.known, wide_most c.args.entries.now ts T t c.requires.known) in
    let r = result_of p code m x A v ws n d E c.front-words.ensures in
    let k : charge v ≤ 512 = few m (own x) A v ws r l in
    let short : length fp ≤ 512 = omega (arith, holds_charge m A v ws 0, k) in
    let q = c.collect-n.ensures.cells ts T v r.shows k (omega (arith, short)) in
    let e : take c.collect-n.result c.collect-n.new.cells ≡ fp = placed_first fp _ _ c.collect-n.result short q.0 q.1 in
    let f : c.listed-2.result.now ≡ fp = c.listed-2.ensures ∙ e in
    let given = c.give_rest.ensures (λ i. omega (arith, ap (occ i) c.listed.ensures, ap (occ i) f, r.owned i)) (λ i. omega (arith, ap (occ i) c.listed.ensures, r.once i)) in
    let P : List ℕ → List ℕ → Type 0 = λ xs ks. ((i : ℕ) → occ i (without ks xs) ≤ used m i) → Released m (without ks xs) (g.P.Pool.means c.give_rest.new.pool) in
    ended m _ (own x) (take c.collect-n.result c.collect-n.new.cells) A v ws r e (subst (λ ks. P (own x) ks) c.listed-2.ensures (subst (λ xs. P xs c.listed-2.result.now) c.listed.ensures given))
