use Rattle.std.proofs.Common.{◌+◌, ◌-◌, ◌*◌}
use Rattle.judge.proofs.judge.+judging.Given as goal

abbrev pub decreases-judge : goal.decreases-judge
decreases-judge l = 2 * (l.listing.now.expressions - l.at)

abbrev pub decreases-judge_parts : goal.decreases-judge_parts
decreases-judge_parts l = 2 * (l.listing.now.expressions - l.at) + 1

abbrev pub decreases-judge_arms : goal.decreases-judge_arms
decreases-judge_arms l = 2 * (l.listing.now.expressions - l.at) + 1
