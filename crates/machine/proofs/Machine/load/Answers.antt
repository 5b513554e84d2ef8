use Rattle.std.proofs.Common.{◌≡◌, ◌+◌, ◌≤◌, ◌∙◌, ap, subst, arith}
use Rattle.lfpl.specs.Syntax.{width}
use Rattle.lfpl.specs.Typing.{type_at}
use Rattle.lfpl.specs.Values.{charge}
use Rattle.meaning.specs.Mean.{widths}
use Rattle.store.proofs.Refers.{width_is, wide_most}
use Rattle.machine.specs.Calling.{Put}
use Rattle.machine.proofs.Loadings.{load_more, read_width}
use Rattle.machine.proofs.Machine.load.Goals as goal

pub returns : goal.returns
returns g c ts v xs T s l near few =
    let es = c.args.entries.now in
    let t = c.args.t in
    let A = type_at ts t in
    let ws = c.args.words.now in
    let at : c.min-at.result ≡ widths xs = omega (arith, c.min-at.ensures, l.loaded_is) in
    let w = width_is es ts T t c.requires.known in
    let n : width A ≤ 16 = omega (arith, w, wide_most es ts T t c.requires.known) in
    let k : charge v ≤ 512 = omega arith in
    load_more (g.P.Pool.means c.args.pool.now) c.args.self.now xs A v ws c.put_words.new.into c.collect-self.new.cells c.collect-self.result _ l s n near few
    (subst (λ q. Put c.args.self.now.words q ws c.put_words.new.into) at c.put_words.ensures) (c.collect-self.ensures.cells ts T v s k)
    (ap (λ n. c.min-at.result + n) c.width_of.ensures ∙ read_width es ts t _ _ _ T c.requires.known at)
