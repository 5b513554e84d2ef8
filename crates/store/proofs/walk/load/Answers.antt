use Rattle.std.proofs.Common.{sym, refl, ◌∙◌, arith, length-set, below_more}
use Rattle.std.proofs.lemmas.List.{get_or-set_same, get_or-set_other, ext_get_or}
use Rattle.store.proofs.Fills.{read_word, words_long}
use Rattle.store.proofs.walk.load.Goals as goal

pub loop-k-preserved : goal.loop-k-preserved
loop-k-preserved g c =
    let i = c.loop-k.invariant in
    let ws = c.loop-k.word-items in
    let k = c.loop-k.k in
    let w = read_word (g.P.Pool.means c.args.pool.now) c.args.cell k _ _ c.loop-k-test.true refl c.word_of.ensures in (
      length-set ws k c.word_of.result ∙ i.0,
      below_more _ _ (λ j h. get_or-set_other ws k j c.word_of.result 0 (λ q. omega arith) ∙ i.1 j h)
          (get_or-set_same ws k c.word_of.result 0 (omega (arith, i.0, c.loop-k-test.true)) ∙ w),
    )

pub returns : goal.returns
returns g c t =
    let i = c.loop-k.invariant in
    let l = words_long (g.P.Pool.means c.args.pool.now) c.args.cell (g.P.Pool.lawful c.args.pool.now) t in
    ext_get_or 0 _ _ (i.0 ∙ sym l) (λ j h. i.1 j (omega (arith, i.0, c.loop-k-test.false)))
