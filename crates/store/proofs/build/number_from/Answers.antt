use Rattle.store.proofs.Fills.{read_or}
use Rattle.store.proofs.build.number_from.Goals as goal

pub returns : goal.returns
returns c =
    let h = read_or c.args.at c.args.bytes.now c.number_at.result c.unwrap_or.result c.number_at.ensures c.unwrap_or.ensures in
    record { is = h.is; on = h.on; past = h.past }
