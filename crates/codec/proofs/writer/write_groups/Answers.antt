use Rattle.std.proofs.Common.{◌≡◌, ℕ, ◌+◌, ◌-◌, List, length, take, ◌∙◌, arith}
use Rattle.std.proofs.lemmas.List.{length-append, length-drop, length-take-le}
use Rattle.codec.proofs.Spellings.{writing_none, writing_more, writing_last, some_bytes, last_set}
use Rattle.codec.proofs.writer.write_groups.Goals as goal

all_but_one : (xs : List ℕ) → length (take (length xs - 1) xs) ≡ length xs - 1
all_but_one xs = length-take-le (length xs - 1) xs (omega arith)

pub overflow_sub-last : goal.overflow_sub-last
overflow_sub-last c = omega (arith, some_bytes 4 c.args.n)

pub loop-slot-init : goal.loop-slot-init
loop-slot-init c = writing_none _ _ (omega arith)

pub loop-slot-preserved : goal.loop-slot-preserved
loop-slot-preserved c = writing_more _ _ _ _ c.loop-slot.invariant (omega arith) (omega (arith, all_but_one c.args.slots.now, some_bytes 4 c.args.n))

pub overflow_cast-slots : goal.overflow_cast-slots
overflow_cast-slots c =
    let w = writing_last _ _ _ _ c.loop-slot.invariant (omega arith) (omega (arith, all_but_one c.args.slots.now, some_bytes 4 c.args.n)) in
    record { fits = omega (arith, w.0) }

pub bounds-slots-last : goal.bounds-slots-last
bounds-slots-last c = omega (arith, all_but_one c.args.slots.now, some_bytes 4 c.args.n, length-append {A = ℕ}, length-drop {A = ℕ})

pub returns : goal.returns
returns c =
    let front : length c.loop-slot.slot-items ≡ length c.args.slots.now - 1 = omega (arith, all_but_one c.args.slots.now) in
    let one : length c.args.slots.now ≡ length c.args.slots.now - 1 + 1 = omega (arith, some_bytes 4 c.args.n) in
    last_set _ _ _ _ front one
    ∙ (writing_last _ _ _ _ c.loop-slot.invariant (omega arith) (omega (arith, all_but_one c.args.slots.now, some_bytes 4 c.args.n))).1
