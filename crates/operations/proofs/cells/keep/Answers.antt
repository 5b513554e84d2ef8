use Rattle.std.proofs.Common.{◌+◌, refl, arith, rules}
use Rattle.std.proofs.lemmas.List.Edits.{length-between}
use Rattle.std.proofs.lemmas.List.{places}
use Rattle.operations.proofs.Keeping.{keeping_none, keeping_more, kept}
use Rattle.operations.proofs.cells.keep.Goals as goal

pub loop-k-init : goal.loop-k-init
loop-k-init g c h u = keeping_none _ _ _ _ (g.P.Pool.lawful c.args.pool.now) u

pub loop-k-preserved : goal.loop-k-preserved
loop-k-preserved g c h u =
    let l = length-between c.args.words.now c.args.at (c.args.at + c.args.n) (c.if-inside.ensures.yes refl) in
    keeping_more _ _ _ _ _ _ _ _ _ (omega arith) (search (rules, places)) c.write.ensures (c.loop-k.invariant h u)

pub returns-after-loop-k : goal.returns-after-loop-k
returns-after-loop-k g c h l u =
    let m = length-between c.args.words.now c.args.at (c.args.at + c.args.n) l in
    kept _ _ _ _ _ c.args.n _ (omega arith) (c.loop-k.invariant h u)
