use Rattle.std.proofs.Common.{◌≡◌, ◌+◌, None, ap, ◌∙◌, arith}
use Rattle.std.proofs.lemmas.List.{length-replicate}
use Rattle.pool.specs.Pools.{Cell, limit, all_free, paired, reserved}
use Rattle.pool.specs.Words.{words_mean, cells_of}
use Rattle.pool.proofs.Laws.{paired_free}
use Rattle.pool_trials.proofs.making.begins.Goals as goal

pub returns : goal.returns
returns c =
    let n = cells_of c.args.block.now in
    let left = words_mean c.new.result.words in
    let right = words_mean c.new-3.result.right.words.now in
    let whole : paired (words_mean c.new-3.result.left.words) right ≡ all_free (64 + n) =
    ap (λ p. paired (words_mean p.words) right) c.new-3.ensures.left ∙ ap (λ p. paired left (words_mean p.words.now)) c.new-3.ensures.right
    ∙ ap (λ m. paired m (words_mean c.new-2.result.words.now)) c.new.ensures ∙ ap (λ m. paired (all_free 64) m) c.new-2.ensures.all ∙ paired_free 64 n (omega arith) in
    let means = c.new-pool.ensures.begins ∙ ap (λ m. reserved m c.args.q) whole in
    record { count = c.count.ensures ∙ ap (λ m. m.free) means; bound = c.bound.ensures ∙ ap limit means ∙ length-replicate {A = Cell} (64 + n) None }
