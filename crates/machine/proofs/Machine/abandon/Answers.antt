use Rattle.machine.proofs.Machine.abandon.Goals as goal

pub returns-clause-none : goal.returns-clause-none
returns-clause-none g c = (c.clear.ensures (g.P.Pool.means c.args.pool.now)).cells
