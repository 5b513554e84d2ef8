use Rattle.std.proofs.Common.{◌+◌, refl, arith}
use Rattle.std.proofs.lemmas.List.Edits.{length-between}
use Rattle.operations.proofs.Keeping.{filled_more, fetched}
use Rattle.operations.proofs.cells.fetch.Goals as goal

pub loop-k-preserved : goal.loop-k-preserved
loop-k-preserved g c h =
    let l = length-between c.args.words.now c.args.into (c.args.into + c.args.n) (c.if-inside.ensures.yes refl) in
    filled_more (g.P.Pool.means c.args.pool.now) c.args.cell _ _ _ _ (omega arith) (omega arith) c.read.ensures c.unwrap_or.ensures (c.loop-k.invariant h)

pub returns-after-loop-k : goal.returns-after-loop-k
returns-after-loop-k g c h l =
    let m = length-between c.args.words.now c.args.into (c.args.into + c.args.n) l in
    fetched _ _ _ _ _ _ l (omega arith) (λ q r. c.loop-k.invariant h q (omega arith))
