-- The judgement, the typing relation and Hofmann's rules agree.
use Rattle.lfpl.specs.Laws.{JudgementIsHofmanns, ProgramsAreHofmanns}
use Rattle.lfpl.specs.Typing.{fun_at}
use Rattle.lfpl.proofs.Judged.{judge_law, program_law}
use Rattle.lfpl.proofs.Numbered.{derivable_typed}
use Rattle.lfpl.proofs.Copied.{typed_derivable}

pub the_judgement_is_hofmanns : JudgementIsHofmanns
the_judgement_is_hofmanns Σ As n e B = (λ p. typed_derivable Σ As e B ((judge_law Σ e n As B).0 p), λ d. (judge_law Σ e n As B).1 (derivable_typed Σ As e B d))

pub programs_are_hofmanns : ProgramsAreHofmanns
programs_are_hofmanns p =
    let Σ = p.functions in (
      λ h f l. typed_derivable Σ (fun_at Σ f).params (fun_at Σ f).body (fun_at Σ f).result ((program_law p).0 h f l),
      λ w. (program_law p).1 (λ f l. derivable_typed Σ (fun_at Σ f).params (fun_at Σ f).body (fun_at Σ f).result (w f l)),
    )
