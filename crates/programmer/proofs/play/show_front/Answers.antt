use Rattle.std.proofs.Common.{rules}
use Rattle.programmer.proofs.Courses.{acts_shown}
use Rattle.programmer.proofs.play.show_front.Goals as goal

pub returns : goal.returns
returns g c =
    record {
      acts = acts_shown g.P.Pool.means c.args.shelf c.in_ok-count.count c.args.room c.min-room.result c.args.area.now c.show.new.area c.args.programmer.now c.min-room.ensures c.in_ok-count.ensures.keeps;
      long = search rules;
    }
