use Rattle.std.proofs.Common.{◌<◌, None, sym, ◌∙◌, rules}
use Rattle.pool.specs.Words.{Placed, cells_of}
use Rattle.pool.proofs.InWords.{place_past, place_free, place_taken, mark_read}
use Rattle.pool.proofs.cells.place.Goals as goal

pub returns-in_err-mark : goal.returns-in_err-mark
returns-in_err-mark c = let p : Placed c.args.words.now c.args.cell None = place_past _ _ (search rules) (search rules) in search rules

pub returns-then-mark-eq-FREE : goal.returns-then-mark-eq-FREE
returns-then-mark-eq-FREE c =
    let l : c.in_ok-i.field-0 < cells_of c.args.words.now = search rules in
    place_free _ _ c.in_ok-i.field-0 (search rules) l
    (sym (mark_read c.args.words.now _ _ c.in_ok-mark.field-0.now c.cells.ensures.are l c.in_ok-mark.ensures.lookup.1) ∙ c.if-mark-eq-FREE.true)

pub returns-else-mark-eq-FREE : goal.returns-else-mark-eq-FREE
returns-else-mark-eq-FREE c =
    let l : c.in_ok-i.field-0 < cells_of c.args.words.now = search rules in
    place_taken _ _ c.in_ok-i.field-0 (search rules) l
    (λ z. c.if-mark-eq-FREE.false (mark_read c.args.words.now _ _ c.in_ok-mark.field-0.now c.cells.ensures.are l c.in_ok-mark.ensures.lookup.1 ∙ z))
