use Rattle.pool.proofs.InWords.{own_clear}
use Rattle.pool.proofs.own.OwnPool.new.Goals as goal

pub returns : goal.returns
returns c = own_clear
