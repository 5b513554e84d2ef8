use Rattle.std.proofs.Common.{◌<◌, None, ◌∙◌, sym, arith, rules}
use Rattle.pool.specs.Words.{Placed, cells_of}
use Rattle.pool.proofs.InWords.{place_past, place_free, mark_read, read_none, read_past, read_lying}
use Rattle.pool.proofs.cells.read.Goals as goal
use Rattle.pool.proofs.cells.read.Goals.{then-lying-eq-FREE-via-then-lying-eq-FREE, then-lying-eq-FREE-via-else-lying-eq-FREE+then-word-ge-WORDS}

pub returns-in_err-lying : goal.returns-in_err-lying
returns-in_err-lying c =
    let p : Placed c.args.words.now c.args.cell None = place_past _ _ (search rules) (search rules) in
    let q = read_none c.args.words.now c.args.cell c.args.word p in
    search rules

pub returns-then-lying-eq-FREE : goal.returns-then-lying-eq-FREE
returns-then-lying-eq-FREE c =
    let l : c.in_ok-i.field-0 < cells_of c.args.words.now = search rules in
    elim c.then-lying-eq-FREE.branch [
      | then-lying-eq-FREE-via-then-lying-eq-FREE w ↦ read_none c.args.words.now c.args.cell c.args.word
          (place_free _ _ c.in_ok-i.field-0 (search rules) l
          (sym (mark_read c.args.words.now _ _ c.in_ok-lying.field-0.now c.cells.ensures.are l c.in_ok-lying.ensures.lookup.1) ∙ w.if-lying-eq-FREE.true))
      | then-lying-eq-FREE-via-else-lying-eq-FREE+then-word-ge-WORDS w ↦ read_past c.args.words.now c.args.cell c.args.word w.if-word-ge-WORDS.true
    ]

pub returns : goal.returns
returns c =
    let l : c.in_ok-i.field-0 < cells_of c.args.words.now = search rules in
    read_lying c.args.words.now _ c.args.cell c.in_ok-i.field-0 c.args.word c.in_ok-lying.field-0.now c.cells.ensures.are l c.in_ok-lying.ensures.lookup.1 (search rules)
    c.if-lying-eq-FREE.false (omega (arith, c.if-word-ge-WORDS.false))
