use Rattle.std.proofs.Common.{◌≡◌, min, Ok, Err, refl, subst, arith}
use Rattle.std.proofs.lemmas.Result.{err_from_is_err_and}
use Rattle.lfpl.specs.Typing.{type_at}
use Rattle.store.specs.Building.{Puts}
use Rattle.store.specs.Decoding.{decode}
use Rattle.store.proofs.Puts.{put_done, put_refused}
use Rattle.store.proofs.Shapes.{is_listed}
use Rattle.store.proofs.build.put.Goals as goal

pub returns-in_err-scan : goal.returns-in_err-scan
returns-in_err-scan g c ts T =
    let p = err_from_is_err_and c.from_residual.result c.from_residual.ensures.1 in
    let A = type_at ts c.args.t in
    let s : min c.allowance-most.result 512 ≡ min (min c.args.spare (g.P.Pool.means c.args.pool.now).free) 512 = omega (arith, c.allowance-most.ensures) in
    let x = put_refused A (min c.allowance-most.result 512) c.in_err-scan.field-0.0 (g.P.Pool.means c.args.pool.now) (g.P.Pool.means c.args.pool.now) (decode c.args.bytes.now A (min c.allowance-most.result 512))
    (c.in_err-scan.ensures.checked ts T) refl in
    rw (p.1, p.2) (subst (λ i. Puts (decode c.args.bytes.now A i) A (g.P.Pool.means c.args.pool.now) (Err c.in_err-scan.field-0.0) (g.P.Pool.means c.args.pool.now)) s x)

pub returns : goal.returns
returns g c ts T =
    let A = type_at ts c.args.t in
    let m = g.P.Pool.means c.args.pool.now in
    let n = min c.allowance-most.result 512 in
    let s : n ≡ min (min c.args.spare m.free) 512 = omega (arith, c.allowance-most.ensures) in
    let x = put_done c.args.bytes.now A n c.in_ok-scan.field-0 _ m _ _ _ (omega (arith, s)) (c.in_ok-scan.ensures.checked ts T) (c.build.ensures.builds A (is_listed c.new-kind.result c.args.entries.now c.args.t ts c.new-kind.ensures.entries c.new-kind.ensures.number T)) in
    subst (λ i. Puts (decode c.args.bytes.now A i) A m (Ok c.build.new.words) (g.P.Pool.means c.build.new.pool)) s x
