use Rattle.std.proofs.Common.{refl}
use Rattle.machine.proofs.Startings.{begin_run}
use Rattle.machine.proofs.Machine.begin.Goals as goal

pub returns : goal.returns
returns c = record {
  enacts = λ p m xs. begin_run c.args.code.now c.args.function c.start.result c.args.self.now p m xs c.start.ensures;
  same = refl;
}
