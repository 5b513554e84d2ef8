use Rattle.codec.specs.Reading.{number_at}
use Rattle.codec.proofs.Takings.{number_begins, takes_fault}
use Rattle.codec.proofs.cursor.Cursor.number.Goals as goal

pub returns-in-Err-clause-takes : goal.returns-in-Err-clause-takes
returns-in-Err-clause-takes c =
    takes_fault number_at c.args.self.now c.fault.result c.in-Err.refusal c.args.self.now.at (number_begins _ _ c.in-Err.refusal c.in-Err.ensures.answer) c.fault.ensures
