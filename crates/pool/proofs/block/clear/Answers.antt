use Rattle.std.proofs.Common.{◌<◌, ◌∙◌, rules}
use Rattle.pool.specs.Words.{cells_of}
use Rattle.pool.proofs.InWords.{clear_step, all_clear}
use Rattle.pool.proofs.block.clear.Goals as goal

pub loop-i-preserved : goal.loop-i-preserved
loop-i-preserved c =
    let l : c.loop-i.i < cells_of c.loop-i.words = search rules in
    let e = clear_step c.loop-i.words c.loop-i.i l c.loop-i.invariant.0 in
    (e.0, e.1 ∙ c.loop-i.invariant.1)

pub returns : goal.returns
returns c = record {
  all = all_clear c.args.words.now _ c.loop-i.auto.words (λ k h. c.loop-i.invariant.0 k (search rules));
  rest = c.loop-i.invariant.1;
}
