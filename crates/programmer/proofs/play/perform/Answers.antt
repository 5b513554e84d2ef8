use Rattle.std.proofs.Common.{refl}
use Rattle.programmer.proofs.Courses.{acts_called}
use Rattle.programmer.proofs.play.perform.Goals as goal

pub returns-in-Adopt : goal.returns-in-Adopt
returns-in-Adopt g c =
    record { acts = acts_called g.P.Pool.means _ _ _ _ _ c.args.area.now _ _ c.in-Adopt.is c.plain_answer.ensures c.adopt.ensures.keeps c.adopt.ensures.still; long = refl }

pub returns-in-Put : goal.returns-in-Put
returns-in-Put g c =
    record { acts = acts_called g.P.Pool.means _ _ _ _ _ c.args.area.now _ _ c.in-Put.is c.plain_answer-in-Put.ensures c.put.ensures.keeps c.put.ensures.still; long = refl }

pub returns-in-Empty : goal.returns-in-Empty
returns-in-Empty g c =
    record { acts = acts_called g.P.Pool.means _ _ _ _ _ c.args.area.now _ _ c.in-Empty.is c.plain_answer-in-Empty.ensures c.empty.ensures.keeps c.empty.ensures.still; long = refl }
