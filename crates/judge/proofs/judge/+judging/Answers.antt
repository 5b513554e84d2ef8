-- The judge: an expression, its parts, its arms.
use Rattle.std.proofs.Common.{◌+◌, List, [], map, length, sym, refl, ap, ◌∙◌, subst, arith, rules}
use Rattle.std.proofs.lemmas.Result.{err_from_is_err_and}
use Rattle.std.proofs.lemmas.Bool.{and_parts}
use Rattle.lfpl.specs.Judge.{exprs_verdict}
use Rattle.lfpl.specs.Syntax.{Exprs}
use Rattle.tables.specs.Listed.{head_of}
use Rattle.typing.specs.Codes.{slot_types}
use Rattle.judge.specs.Judging.{listed_nodes}
use Rattle.judge.specs.Over.{NotedOverAll}
use Rattle.typing.specs.Rules.{names_of}
use Rattle.typing.specs.declared.codes.Slot as S
use Rattle.typing.specs.declared.scope.Scope.{Scope}
use Rattle.typing.proofs.Coding.{coded_length}
use Rattle.typing.proofs.Masks.{shares_mask}
use Rattle.judge.proofs.Passing.{code_narrow, row_narrow, no_row, row_more, inside, middle_is, end_is, posed_inside, at_itself, first_part, first_arm, scope_copied, known_parts, parts_few, parts_posed, known_subject, fit_is, early_unfit, arms_agree, goes_on, arms_posed, arms_many, whole_coded, passes, settled_is, shared_test, faulted_by, none_pass, no_arms_noted, parts_pass, arms_pass}
use Rattle.typing.proofs.Scoping.{scope_length}
use Rattle.judge.proofs.Standing.{no_node, at_node, at_none, parts_none, arms_none}
use Rattle.judge.proofs.Verdicts.{parts_fault, early_fault, arms_fault, types_fault, sharing_fault, judged, first_fault, rest_fault, first_arm_fault, other_arm_fault, no_arms_judged}
use Rattle.judge.proofs.judge.+judging.Goals as goal

pub judge-offset_bounds-listing-at : goal.judge-offset_bounds-listing-at
judge-offset_bounds-listing-at t c =
    let i = (posed_inside _ _ _ c.requires.posed).1 in
    search rules

pub judge-bounds-listing-at : goal.judge-bounds-listing-at
judge-bounds-listing-at t c =
    (posed_inside _ _ _ c.requires.posed).1

pub judge-overflow_add-at : goal.judge-overflow_add-at
judge-overflow_add-at t c =
    let i = (posed_inside _ _ _ c.requires.posed).1 in
    search rules

pub judge-judge_parts-requires : goal.judge-judge_parts-requires
judge-judge_parts-requires t c =
    let q = c.requires.posed in
    let ts = q.ts in
    let fs = q.fs in
    let Γ = q.Γ in
    let ps = q.ps in
    let e = q.e in
    let j = q.j in
    let P = q.is in
    let N = at_node c.args.listing.now ts fs no_node P.stands in
    let ag = at_itself _ _ c.rule_of-rule.ensures.agrees in
    let is = c.parts_of-count.ensures ts fs Γ _ P.basis (known_parts _ _ _ ts fs Γ ps e j P _ N _ ag) in
    let i = inside _ _ _ ts fs Γ ps e j P _ N in
    let f = parts_few _ _ _ ts fs Γ ps e j P _ N _ ag _ is in
    let z = ap length c.new.ensures in
    let w = c.requires.low in (
      omega (arith, c.decreases, i.0),
      (
        c.requires.long,
        (
          omega arith,
          (
            omega arith,
            record { ts = ts; fs = fs; Γ = Γ; ps = ps; es = N.parts; j = N.middle; is = parts_posed _ _ _ ts fs Γ ps e j P _ N _ ag _ is },
          ),
        ),
      ),
    )

pub judge-returns-in_err-parts : goal.judge-returns-in_err-parts
judge-returns-in_err-parts t c ts fs Γ ps e j P =
    let N = at_node c.args.listing.now ts fs no_node P.stands in
    let ag = at_itself _ _ c.rule_of-rule.ensures.agrees in
    let is = c.parts_of-count.ensures ts fs Γ _ P.basis (known_parts _ _ _ ts fs Γ ps e j P _ N _ ag) in
    let p = err_from_is_err_and c.from_residual.result c.from_residual.ensures.1 in
    rw (p.1, p.2) (faulted_by
    (c.in_err-parts.ensures ts fs Γ ps [] N.parts N.middle (parts_posed _ _ _ ts fs Γ ps e j P _ N _ ag _ is) (no_row ts _ c.new.ensures))
    (parts_fault fs Γ c.args.at (c.args.at + 1) N.middle e (head_of ts _) N.parts N.arms N.is refl (middle_is _ _ _ ts fs Γ ps e j P _ N).0))

pub judge-returns-then-unfit_choice : goal.judge-returns-then-unfit_choice
judge-returns-then-unfit_choice t c ts fs Γ ps e j P =
    let N = at_node c.args.listing.now ts fs no_node P.stands in
    let ag = at_itself _ _ c.rule_of-rule.ensures.agrees in
    let is = c.parts_of-count.ensures ts fs Γ _ P.basis (known_parts _ _ _ ts fs Γ ps e j P _ N _ ag) in
    let Q = c.in_ok-parts.ensures ts fs Γ ps [] N.parts N.middle (parts_posed _ _ _ ts fs Γ ps e j P _ N _ ag _ is) (no_row ts _ c.new.ensures) in
    let k = known_subject _ _ _ ts fs Γ ps e j P _ N _ ag _ is Q.types Q.many in
    let T = c.subject-about.ensures ts fs Γ Q.types ps P.basis P.scope Q.row k in
    let F = c.fits-fit.ensures ts fs Γ Q.types _ _ P.basis k ag.short.0 T Q.row in
    let M = middle_is _ _ _ ts fs Γ ps e j P _ N in
    let m = Q.ends ∙ M.0 in
    let u = early_unfit _ _ _ ts fs Γ ps e j P _ N _ ag Q.types c.fits-fit.result F (sym c.unfit_choice.ensures ∙ c.if-unfit_choice.true) in
    rw c.fault.ensures (record { verdict = early_fault fs Γ c.args.at (c.args.at + 1) c.in_ok-parts.parts.end e (head_of ts _) N.parts N.arms N.is refl m Q.types Q.typed u.0 u.1; part = refl })

pub judge-judge_arms-requires : goal.judge-judge_arms-requires
judge-judge_arms-requires t c =
    let q = c.requires.posed in
    let ts = q.ts in
    let fs = q.fs in
    let Γ = q.Γ in
    let ps = q.ps in
    let e = q.e in
    let j = q.j in
    let P = q.is in
    let N = at_node c.args.listing.now ts fs no_node P.stands in
    let ag = at_itself _ _ c.rule_of-rule.ensures.agrees in
    let is = c.parts_of-count.ensures ts fs Γ _ P.basis (known_parts _ _ _ ts fs Γ ps e j P _ N _ ag) in
    let Q = c.in_ok-parts.ensures ts fs Γ ps [] N.parts N.middle (parts_posed _ _ _ ts fs Γ ps e j P _ N _ ag _ is) (no_row ts _ c.new.ensures) in
    let k = known_subject _ _ _ ts fs Γ ps e j P _ N _ ag _ is Q.types Q.many in
    let T = c.subject-about.ensures ts fs Γ Q.types ps P.basis P.scope Q.row k in
    let F = c.fits-fit.ensures ts fs Γ Q.types _ _ P.basis k ag.short.0 T Q.row in
    let M = middle_is _ _ _ ts fs Γ ps e j P _ N in
    let m = Q.ends ∙ M.0 in
    let i = inside _ _ _ ts fs Γ ps e j P _ N in
    let w = c.requires.low in
    let z = Q.ends in
    let y = c.judge_parts.auto.notes in
    let b = c.requires.long in (
      omega (arith, c.decreases, i.0, z, M.1),
      (
        omega arith,
        (
          omega arith,
          (
            ag.two,
            (
              ap length c.new-2.ensures,
              record { ts = ts; fs = fs; Γ = Γ; ps = ps; A = _; es = N.arms; j = j; is = arms_posed _ _ _ ts fs Γ ps e j P _ N _ ag Q.types c.fits-fit.result F _ _ T Q.ends },
            ),
          ),
        ),
      ),
    )

pub judge-returns-in_err-arms : goal.judge-returns-in_err-arms
judge-returns-in_err-arms t c ts fs Γ ps e j P =
    let N = at_node c.args.listing.now ts fs no_node P.stands in
    let ag = at_itself _ _ c.rule_of-rule.ensures.agrees in
    let is = c.parts_of-count.ensures ts fs Γ _ P.basis (known_parts _ _ _ ts fs Γ ps e j P _ N _ ag) in
    let Q = c.in_ok-parts.ensures ts fs Γ ps [] N.parts N.middle (parts_posed _ _ _ ts fs Γ ps e j P _ N _ ag _ is) (no_row ts _ c.new.ensures) in
    let k = known_subject _ _ _ ts fs Γ ps e j P _ N _ ag _ is Q.types Q.many in
    let T = c.subject-about.ensures ts fs Γ Q.types ps P.basis P.scope Q.row k in
    let F = c.fits-fit.ensures ts fs Γ Q.types _ _ P.basis k ag.short.0 T Q.row in
    let M = middle_is _ _ _ ts fs Γ ps e j P _ N in
    let m = Q.ends ∙ M.0 in
    let late = sym c.unfit_choice.ensures ∙ c.if-unfit_choice.false in
    let p = err_from_is_err_and c.from_residual-in_err-arms.result c.from_residual-in_err-arms.ensures.1 in
    rw (p.1, p.2) (faulted_by
    (c.in_err-arms.ensures ts fs Γ ps [] _ N.arms c.args.at j (arms_posed _ _ _ ts fs Γ ps e j P _ N _ ag Q.types c.fits-fit.result F _ _ T Q.ends) (no_row ts _ c.new-2.ensures))
    (arms_fault fs Γ c.args.at (c.args.at + 1) c.in_ok-parts.parts.end e (head_of ts _) N.parts N.arms N.is refl m Q.types Q.typed _ (arms_agree _ _ _ ts fs Γ ps e j P _ N _ ag Q.types c.fits-fit.result F late) (goes_on _ _ _ ts fs Γ ps e j P _ N _ ag Q.types c.fits-fit.result F late)))

pub judge-returns-then-not-settled : goal.judge-returns-then-not-settled
judge-returns-then-not-settled t c ts fs Γ ps e j P =
    let N = at_node c.args.listing.now ts fs no_node P.stands in
    let ag = at_itself _ _ c.rule_of-rule.ensures.agrees in
    let is = c.parts_of-count.ensures ts fs Γ _ P.basis (known_parts _ _ _ ts fs Γ ps e j P _ N _ ag) in
    let Q = c.in_ok-parts.ensures ts fs Γ ps [] N.parts N.middle (parts_posed _ _ _ ts fs Γ ps e j P _ N _ ag _ is) (no_row ts _ c.new.ensures) in
    let k = known_subject _ _ _ ts fs Γ ps e j P _ N _ ag _ is Q.types Q.many in
    let T = c.subject-about.ensures ts fs Γ Q.types ps P.basis P.scope Q.row k in
    let F = c.fits-fit.ensures ts fs Γ Q.types _ _ P.basis k ag.short.0 T Q.row in
    let M = middle_is _ _ _ ts fs Γ ps e j P _ N in
    let m = Q.ends ∙ M.0 in
    let late = sym c.unfit_choice.ensures ∙ c.if-unfit_choice.false in
    let R = c.in_ok-arms.ensures ts fs Γ ps [] _ N.arms c.args.at j (arms_posed _ _ _ ts fs Γ ps e j P _ N _ ag Q.types c.fits-fit.result F _ _ T Q.ends) (no_row ts _ c.new-2.ensures) in
    let V = arms_many _ _ _ ts fs Γ ps e j P _ N _ ag Q.types R.types R.many in
    let W = coded_length ts _ R.types R.row in
    let two = ag.two in
    let S = c.settled.ensures c.args.listing.now ts R.types P.basis.typed R.row (omega arith) in
    let f = fit_is _ _ _ ts fs Γ ps e j P _ N _ ag Q.types c.fits-fit.result F in
    let g = arms_agree _ _ _ ts fs Γ ps e j P _ N _ ag Q.types c.fits-fit.result F late in
    rw c.fault-then-not-settled.ensures (record { verdict = types_fault fs Γ c.args.at (c.args.at + 1) c.in_ok-parts.parts.end e (head_of ts _) N.parts N.arms N.is refl m Q.types Q.typed _ g (goes_on _ _ _ ts fs Γ ps e j P _ N _ ag Q.types c.fits-fit.result F late) R.types R.typed (settled_is _ _ _ _ _ f S c.if-not-settled.true); part = refl })

pub judge-returns-then-shared : goal.judge-returns-then-shared
judge-returns-then-shared t c ts fs Γ ps e j P =
    let N = at_node c.args.listing.now ts fs no_node P.stands in
    let ag = at_itself _ _ c.rule_of-rule.ensures.agrees in
    let is = c.parts_of-count.ensures ts fs Γ _ P.basis (known_parts _ _ _ ts fs Γ ps e j P _ N _ ag) in
    let Q = c.in_ok-parts.ensures ts fs Γ ps [] N.parts N.middle (parts_posed _ _ _ ts fs Γ ps e j P _ N _ ag _ is) (no_row ts _ c.new.ensures) in
    let k = known_subject _ _ _ ts fs Γ ps e j P _ N _ ag _ is Q.types Q.many in
    let T = c.subject-about.ensures ts fs Γ Q.types ps P.basis P.scope Q.row k in
    let F = c.fits-fit.ensures ts fs Γ Q.types _ _ P.basis k ag.short.0 T Q.row in
    let M = middle_is _ _ _ ts fs Γ ps e j P _ N in
    let m = Q.ends ∙ M.0 in
    let late = sym c.unfit_choice.ensures ∙ c.if-unfit_choice.false in
    let R = c.in_ok-arms.ensures ts fs Γ ps [] _ N.arms c.args.at j (arms_posed _ _ _ ts fs Γ ps e j P _ N _ ag Q.types c.fits-fit.result F _ _ T Q.ends) (no_row ts _ c.new-2.ensures) in
    let V = arms_many _ _ _ ts fs Γ ps e j P _ N _ ag Q.types R.types R.many in
    let W = coded_length ts _ R.types R.row in
    let two = ag.two in
    let S = c.settled.ensures c.args.listing.now ts R.types P.basis.typed R.row (omega arith) in
    let f = fit_is _ _ _ ts fs Γ ps e j P _ N _ ag Q.types c.fits-fit.result F in
    let g = arms_agree _ _ _ ts fs Γ ps e j P _ N _ ag Q.types c.fits-fit.result F late in
    let h = shared_test c.shared.result _ _ c.shared.ensures
    (shares_mask N.parts N.arms Γ _ _ _ _ Q.again Q.occur R.occur P.scope.small P.scope.heavy) in
    rw c.fault-then-shared.ensures (record { verdict = sharing_fault fs Γ c.args.at (c.args.at + 1) c.in_ok-parts.parts.end e (head_of ts _) N.parts N.arms N.is refl m Q.types Q.typed _ g (goes_on _ _ _ ts fs Γ ps e j P _ N _ ag Q.types c.fits-fit.result F late) R.types R.typed (settled_is _ _ _ _ _ f S c.if-not-settled.false) (sym h ∙ c.if-shared.true); part = refl })

pub judge-offset_bounds-notes-at : goal.judge-offset_bounds-notes-at
judge-offset_bounds-notes-at t c =
    let i = (posed_inside _ _ _ c.requires.posed).1 in
    search rules

pub judge-bounds-notes-at : goal.judge-bounds-notes-at
judge-bounds-notes-at t c =
    let i = (posed_inside _ _ _ c.requires.posed).1 in
    let y = c.judge_parts.auto.notes in
    let z = c.judge_arms.auto.notes in
    let b = c.requires.long in
    omega arith

pub judge-returns : goal.judge-returns
judge-returns t c ts fs Γ ps e j P =
    let N = at_node c.args.listing.now ts fs no_node P.stands in
    let ag = at_itself _ _ c.rule_of-rule.ensures.agrees in
    let is = c.parts_of-count.ensures ts fs Γ _ P.basis (known_parts _ _ _ ts fs Γ ps e j P _ N _ ag) in
    let Q = c.in_ok-parts.ensures ts fs Γ ps [] N.parts N.middle (parts_posed _ _ _ ts fs Γ ps e j P _ N _ ag _ is) (no_row ts _ c.new.ensures) in
    let k = known_subject _ _ _ ts fs Γ ps e j P _ N _ ag _ is Q.types Q.many in
    let T = c.subject-about.ensures ts fs Γ Q.types ps P.basis P.scope Q.row k in
    let F = c.fits-fit.ensures ts fs Γ Q.types _ _ P.basis k ag.short.0 T Q.row in
    let M = middle_is _ _ _ ts fs Γ ps e j P _ N in
    let m = Q.ends ∙ M.0 in
    let late = sym c.unfit_choice.ensures ∙ c.if-unfit_choice.false in
    let R = c.in_ok-arms.ensures ts fs Γ ps [] _ N.arms c.args.at j (arms_posed _ _ _ ts fs Γ ps e j P _ N _ ag Q.types c.fits-fit.result F _ _ T Q.ends) (no_row ts _ c.new-2.ensures) in
    let V = arms_many _ _ _ ts fs Γ ps e j P _ N _ ag Q.types R.types R.many in
    let W = coded_length ts _ R.types R.row in
    let two = ag.two in
    let S = c.settled.ensures c.args.listing.now ts R.types P.basis.typed R.row (omega arith) in
    let f = fit_is _ _ _ ts fs Γ ps e j P _ N _ ag Q.types c.fits-fit.result F in
    let g = arms_agree _ _ _ ts fs Γ ps e j P _ N _ ag Q.types c.fits-fit.result F late in
    let h = shared_test c.shared.result _ _ c.shared.ensures
    (shares_mask N.parts N.arms Γ _ _ _ _ Q.again Q.occur R.occur P.scope.small P.scope.heavy) in
    let i = (inside _ _ _ ts fs Γ ps e j P _ N).1 in
    let y = c.judge_parts.auto.notes in
    let z = c.judge_arms.auto.notes in
    let b = c.requires.long in
    let all = settled_is _ _ _ _ _ f S c.if-not-settled.false in
    let both = and_parts _ _ all in
    let apart = sym h ∙ c.if-shared.false in
    let E = end_is _ _ _ ts fs Γ ps e j P _ N in
    passes ts fs Γ ps c.args.over c.args.at j c.in_ok-parts.parts.end e (head_of ts _) N.parts N.arms N.is m (omega (arith, E.0, Q.ends))
    Q.types R.types _ c.args.notes.now c.judge_parts.new.notes c.judge_arms.new.notes g (omega arith) (omega arith)
    Q.noted Q.earlier R.noted R.earlier both.0 both.1 apart
    (judged fs Γ c.args.at (c.args.at + 1) c.in_ok-parts.parts.end e (head_of ts _) N.parts N.arms N.is refl m Q.types Q.typed _ g (goes_on _ _ _ ts fs Γ ps e j P _ N _ ag Q.types c.fits-fit.result F late) R.types R.typed all apart)
    c.whole-code.result c.own_mask.result c.place_of-place.result c.in_ok-parts.parts.mask c.in_ok-arms.arms.mask
    (whole_coded _ _ _ ts fs Γ ps e j P _ N _ ag Q.types R.types R.many c.whole-code.result
    (λ n. c.whole-code.ensures.built ts _ P.basis.typed T n) (λ n. c.whole-code.ensures.chosen ts R.types R.row n (omega arith)))
    (c.own_mask.ensures ts fs (length Γ) N.small N.range) Q.occur R.occur
    (λ v w. c.place_of-place.ensures ts Γ fs ps v P.scope N.range w)
    c.in_ok-arms.arms.end R.ends (let w = c.requires.low in let s = P.basis.short in omega arith)

pub judge_arms-returns-then-arm-rule : goal.judge_arms-returns-then-arm-rule
judge_arms-returns-then-arm-rule t c ts fs Γ ps Ds B es w j P D =
    let z = arms_none c.args.rule P.full c.requires.few c.args.arm c.if-arm-rule.true in
    let Z = at_none (names_of ts fs) (listed_nodes c.args.listing.now) _ (ap (map (λ (y : List S.Slot). length Γ + length y)) z) P.all.stand in
    none_pass ts Ds _ es _ j _ _ _ Z.0 Z.1
    (no_arms_judged fs Γ w c.args.at es _ Z.0 (ap (map (slot_types B)) z)) (no_arms_noted ts fs _ es c.args.at _ Γ ps c.args.over Z.0 (ap (map (slot_types B)) z)) D refl refl refl

pub judge_arms-extend_all-above-requires : goal.judge_arms-extend_all-above-requires
judge_arms-extend_all-above-requires t c =
    let q = c.requires.posed in
    let F = first_arm _ _ _ _ _ _ q.ts q.fs q.Γ q.ps q.A q.es q.j q.is c.requires.few c.if-arm-rule.false in
    let bound = coded_length q.ts _ _ (c.slot_codes-bound.ensures q.ts q.A q.is.all.basis.typed q.is.code F.short) in
    let before = scope_length q.ts c.args.scope.now q.Γ q.ps q.is.all.scope in
    let copied = ap (λ (s : Scope). length s.variables.items) c.copy_of-inner.ensures in
    let short = q.is.all.basis.short in
    let low = c.requires.low in
    record { room = omega (arith, F.room); low = omega (arith, F.later, F.within) }

pub judge_arms-judge-requires : goal.judge_arms-judge-requires
judge_arms-judge-requires t c =
    let q = c.requires.posed in
    let P = q.is in
    let F = first_arm _ _ _ _ _ _ q.ts q.fs q.Γ q.ps q.A q.es q.j P c.requires.few c.if-arm-rule.false in
    let K = c.slot_codes-bound.ensures q.ts q.A P.all.basis.typed P.code F.short in
    let I = c.extend_all-above.ensures.scopes q.ts q.Γ _ q.ps P.all.basis.typed K (scope_copied c.copy_of-inner.ensures P.all.scope) in
    let above = c.extend_all-above.ensures.over q.ts _ P.all.basis.typed K in
    let bound = coded_length q.ts _ _ K in
    let narrow = row_narrow c.args.listing.now q.ts P.all.basis.typed _ _ K in
    let low = c.requires.low in (
      omega (arith, c.decreases),
      (c.requires.long, (omega (arith, F.few), record { ts = q.ts; fs = q.fs; Γ = _; ps = _; e = F.first; j = F.middle; is = F.posed _ _ I })),
    )

pub judge_arms-returns-in_err-first : goal.judge_arms-returns-in_err-first
judge_arms-returns-in_err-first t c ts fs Γ ps Ds B es w j P D =
    let F = first_arm _ _ _ _ _ _ ts fs Γ ps B es j P c.requires.few c.if-arm-rule.false in
    let K = c.slot_codes-bound.ensures ts B P.all.basis.typed P.code F.short in
    let I = c.extend_all-above.ensures.scopes ts Γ _ ps P.all.basis.typed K (scope_copied c.copy_of-inner.ensures P.all.scope) in
    let p = err_from_is_err_and c.from_residual.result c.from_residual.ensures.1 in
    rw (p.1, p.2) (faulted_by (c.in_err-first.ensures ts fs _ _ F.first F.middle (F.posed _ _ I)) (first_arm_fault fs Γ w c.args.at F.middle F.first F.rest es _ _ _ F.is F.binds F.ends))

pub judge_arms-judge_arms-requires : goal.judge_arms-judge_arms-requires
judge_arms-judge_arms-requires t c =
    let q = c.requires.posed in
    let P = q.is in
    let F = first_arm _ _ _ _ _ _ q.ts q.fs q.Γ q.ps q.A q.es q.j P c.requires.few c.if-arm-rule.false in
    let K = c.slot_codes-bound.ensures q.ts q.A P.all.basis.typed P.code F.short in
    let I = c.extend_all-above.ensures.scopes q.ts q.Γ _ q.ps P.all.basis.typed K (scope_copied c.copy_of-inner.ensures P.all.scope) in
    let A = c.in_ok-first.ensures q.ts q.fs _ _ F.first F.middle (F.posed _ _ I) in
    let low = c.requires.low in
    let kept = c.judge.auto.notes in
    let long = c.requires.long in
    let more = c.push.ensures.len in
    let room = c.requires.room in (
      omega (arith, c.decreases, A.ends, F.later, F.within),
      (
        omega arith,
        (
          omega (arith, A.ends, F.later),
          (c.requires.few, (omega arith, record { ts = q.ts; fs = q.fs; Γ = q.Γ; ps = q.ps; A = q.A; es = F.rest; j = q.j; is = F.others _ A.ends })),
        ),
      ),
    )

pub judge_arms-returns-in_err-rest : goal.judge_arms-returns-in_err-rest
judge_arms-returns-in_err-rest t c ts fs Γ ps Ds B es w j P D =
    let F = first_arm _ _ _ _ _ _ ts fs Γ ps B es j P c.requires.few c.if-arm-rule.false in
    let K = c.slot_codes-bound.ensures ts B P.all.basis.typed P.code F.short in
    let I = c.extend_all-above.ensures.scopes ts Γ _ ps P.all.basis.typed K (scope_copied c.copy_of-inner.ensures P.all.scope) in
    let A = c.in_ok-first.ensures ts fs _ _ F.first F.middle (F.posed _ _ I) in
    let p = err_from_is_err_and c.from_residual-in_err-rest.result c.from_residual-in_err-rest.ensures.1 in
    rw (p.1, p.2) (faulted_by
    (c.in_err-rest.ensures ts fs Γ ps _ B F.rest w j (F.others _ A.ends) (row_more ts c.args.done.items _ Ds _ A.type c.push.ensures.items D A.code))
    (λ v i. other_arm_fault fs Γ w c.args.at c.in_ok-first.first.end F.first F.rest es _ _ _ F.is F.binds (A.ends ∙ F.ends) A.type v i A.typed))

pub judge_arms-returns : goal.judge_arms-returns
judge_arms-returns t c ts fs Γ ps Ds B es w j P D =
    let F = first_arm _ _ _ _ _ _ ts fs Γ ps B es j P c.requires.few c.if-arm-rule.false in
    let K = c.slot_codes-bound.ensures ts B P.all.basis.typed P.code F.short in
    let I = c.extend_all-above.ensures.scopes ts Γ _ ps P.all.basis.typed K (scope_copied c.copy_of-inner.ensures P.all.scope) in
    let above = c.extend_all-above.ensures.over ts _ P.all.basis.typed K in
    let A = c.in_ok-first.ensures ts fs _ _ F.first F.middle (F.posed _ _ I) in
    let R = c.in_ok-rest.ensures ts fs Γ ps _ B F.rest w j (F.others _ A.ends) (row_more ts c.args.done.items _ Ds _ A.type c.push.ensures.items D A.code) in
    let kept = c.judge_arms.auto.notes in
    rw c.joined.ensures (arms_pass ts fs Γ ps Ds c.args.at F.middle j c.args.over F.first F.rest es c.args.notes.now c.judge.new.notes c.judge_arms.new.notes
    c.in_ok-first.first c.in_ok-rest.rest F.is F.ends (omega arith) w c.extend_all-above.result _ _ _ F.binds above A R)

pub judge_parts-returns-then-count-eq0 : goal.judge_parts-returns-then-count-eq0
judge_parts-returns-then-count-eq0 t c ts fs Γ ps Ds es j P D =
    let Z = at_none (names_of ts fs) (listed_nodes c.args.listing.now) _ (parts_none c.args.count (length Γ) c.if-count-eq0.true) P.stand in
    none_pass ts Ds _ es _ j _ _ _ Z.0 Z.1 (ap (λ (x : Exprs). exprs_verdict fs x c.args.at Γ) Z.0)
    (subst (λ (x : Exprs). NotedOverAll ts fs c.args.notes.now x c.args.at Γ ps c.args.over []) (sym Z.0) tt) D refl refl refl

pub judge_parts-judge-requires : goal.judge_parts-judge-requires
judge_parts-judge-requires t c =
    let q = c.requires.posed in
    let F = first_part _ _ _ _ q.ts q.fs q.Γ q.ps q.es q.j q.is c.if-count-eq0.false in
    let low = c.requires.low in (
      omega (arith, c.decreases),
      (c.requires.long, (omega arith, record { ts = q.ts; fs = q.fs; Γ = q.Γ; ps = q.ps; e = F.first; j = F.middle; is = F.posed })),
    )

pub judge_parts-returns-in_err-first : goal.judge_parts-returns-in_err-first
judge_parts-returns-in_err-first t c ts fs Γ ps Ds es j P D =
    let F = first_part _ _ _ _ ts fs Γ ps es j P c.if-count-eq0.false in
    let p = err_from_is_err_and c.from_residual.result c.from_residual.ensures.1 in
    rw (p.1, p.2) (faulted_by (c.in_err-first.ensures ts fs Γ ps F.first F.middle F.posed) (first_fault fs Γ c.args.at F.middle F.first F.rest es F.is F.ends))

pub judge_parts-raise-above-requires : goal.judge_parts-raise-above-requires
judge_parts-raise-above-requires t c =
    let q = c.requires.posed in
    let F = first_part _ _ _ _ q.ts q.fs q.Γ q.ps q.es q.j q.is c.if-count-eq0.false in
    let short = q.is.basis.short in
    let low = c.requires.low in
    omega (arith, F.later, F.within)

pub judge_parts-judge_parts-requires : goal.judge_parts-judge_parts-requires
judge_parts-judge_parts-requires t c =
    let q = c.requires.posed in
    let P = q.is in
    let F = first_part _ _ _ _ q.ts q.fs q.Γ q.ps q.es q.j P c.if-count-eq0.false in
    let A = c.in_ok-first.ensures q.ts q.fs q.Γ q.ps F.first F.middle F.posed in
    let narrow = code_narrow c.args.listing.now q.ts P.basis.typed _ A.type A.code in
    let above = c.raise-above.ensures.over q.ts A.type P.basis.typed A.code in
    let low = c.requires.low in
    let kept = c.judge.auto.notes in
    let long = c.requires.long in
    let more = c.push.ensures.len in
    let room = c.requires.room in (
      omega (arith, c.decreases, A.ends, F.later, F.within),
      (
        omega arith,
        (
          omega (arith, A.ends, F.later),
          (omega (arith, c.if-count-eq0.false), record { ts = q.ts; fs = q.fs; Γ = q.Γ; ps = q.ps; es = F.rest; j = q.j; is = F.others _ A.ends }),
        ),
      ),
    )

pub judge_parts-returns-in_err-rest : goal.judge_parts-returns-in_err-rest
judge_parts-returns-in_err-rest t c ts fs Γ ps Ds es j P D =
    let F = first_part _ _ _ _ ts fs Γ ps es j P c.if-count-eq0.false in
    let A = c.in_ok-first.ensures ts fs Γ ps F.first F.middle F.posed in
    let p = err_from_is_err_and c.from_residual-in_err-rest.result c.from_residual-in_err-rest.ensures.1 in
    rw (p.1, p.2) (faulted_by
    (c.in_err-rest.ensures ts fs Γ ps _ F.rest j (F.others _ A.ends) (row_more ts c.args.done.items _ Ds _ A.type c.push.ensures.items D A.code))
    (λ w i. rest_fault fs Γ c.args.at c.in_ok-first.first.end F.first F.rest es F.is (A.ends ∙ F.ends) A.type w i A.typed))

pub judge_parts-returns : goal.judge_parts-returns
judge_parts-returns t c ts fs Γ ps Ds es j P D =
    let F = first_part _ _ _ _ ts fs Γ ps es j P c.if-count-eq0.false in
    let A = c.in_ok-first.ensures ts fs Γ ps F.first F.middle F.posed in
    let above = c.raise-above.ensures.over ts A.type P.basis.typed A.code in
    let R = c.in_ok-rest.ensures ts fs Γ ps _ F.rest j (F.others _ A.ends) (row_more ts c.args.done.items _ Ds _ A.type c.push.ensures.items D A.code) in
    let kept = c.judge_parts.auto.notes in
    rw c.joined.ensures (parts_pass ts fs Γ ps Ds c.args.at F.middle j c.args.over F.first F.rest es c.args.notes.now c.judge.new.notes c.judge_parts.new.notes
    c.in_ok-first.first c.in_ok-rest.rest F.is F.ends (omega arith) c.raise-above.result A above R)
