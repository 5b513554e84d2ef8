use Rattle.std.proofs.Common.{not, ◌&&◌, leb, sym, ap, ◌∙◌}
use Rattle.codec.specs.declared.fault.Refusal.TheVariants.{EntryRepeated, TooWide}
use Rattle.std.proofs.lemmas.Result.{err_from_is_err_and}
use Rattle.lfpl.specs.Reading.{roomy}
use Rattle.lfpl.specs.Syntax.{width, is_heap_free}
use Rattle.tables.proofs.Typed.{entry_breaks, entry_repeats, entry_wide, entry_fine, one_more}
use Rattle.tables.proofs.types.entry.Goals as goal

pub returns-in_err-form : goal.returns-in_err-form
returns-in_err-form c ts t =
    let p = err_from_is_err_and c.from_residual.result c.from_residual.ensures.1 in
    rw (p.1, p.2) (entry_breaks ts c.in_err-form.field-0.0 (c.in_err-form.ensures.gives ts (sym t.long)))

pub returns-then-repeated : goal.returns-then-repeated
returns-then-repeated c ts t =
    let g = c.in_ok-form.ensures.gives ts (sym t.long) in
    entry_repeats ts g.0 g.1 (c.if-repeated.ensures ts g.0 t g.2) c.fault.result
    (c.fault.ensures ∙ ap (λ n. record { refusal = EntryRepeated; place = n; part = c.read_form.new.cursor.part }) c.place-start.ensures)

pub returns-then-too_wide : goal.returns-then-too_wide
returns-then-too_wide c ts t =
    let g = c.in_ok-form.ensures.gives ts (sym t.long) in
    entry_wide ts g.0 g.1 (c.if-repeated.ensures ts g.0 t g.2)
    (c.if-too_wide.ensures.wide ts t (c.width_of-width.ensures ts t) ∙ ap (λ A. not (leb (width A) 16 && roomy A)) (sym g.2.type))
    c.fault-then-too_wide.result
    (c.fault-then-too_wide.ensures ∙ ap (λ n. record { refusal = TooWide; place = n; part = c.read_form.new.cursor.part }) c.place-start.ensures)

pub returns : goal.returns
returns c ts t =
    let g = c.in_ok-form.ensures.gives ts (sym t.long) in
    let w = c.width_of-width.ensures ts t in
    let new = c.if-repeated.ensures ts g.0 t g.2 in
    let fits = c.if-too_wide.ensures.wide ts t w ∙ ap (λ A. not (leb (width A) 16 && roomy A)) (sym g.2.type) in (
      g.0,
      entry_fine ts g.0 g.1 new fits,
      one_more c.args.entries.now ts t c.in_ok-form.form g.0 g.2 new fits c.width_of-width.result c.heap_free-heap_free.result (w ∙ ap width (sym g.2.type)) (c.heap_free-heap_free.ensures ts t ∙ ap is_heap_free (sym g.2.type)),
    )
