-- A table is admitted exactly when its bytes spell a well-typed program.
use Rattle.std.proofs.Common.{◌≡◌, ℕ, List, Ok, Result, sym, refl, ap, ◌∙◌, arith}
use Rattle.codec.specs.Reading.{Scan, done, refused}
use Rattle.codec.specs.declared.fault.Fault.{Fault}
use Rattle.lfpl.specs.Syntax.{Program}
use Rattle.lfpl.specs.Judge.{Verdict, fine, faulty, program_verdict}
use Rattle.lfpl.specs.Reading.{scanned_table}
use Rattle.lfpl.specs.Admission.{judged, admitted, AdmissionIsTyping}
use Rattle.lfpl.proofs.Agree.{programs_are_hofmanns}

-- what is admitted was judged fine, and is what was read
judged_fine : (p p' : Program) (v : Verdict (Unit {0})) → judged p v ≡ Ok p' → (p ≡ p') × (v ≡ fine tt)
judged_fine p p' (fine u) h = (inside h, refl)
  where
    inside : ◌≡◌ {A = Result Program Fault} (Ok p) (Ok p') → p ≡ p'
    inside e = cc
judged_fine p p' (faulty w i) h = absurd (never h)
  where
    never : ◌≡◌ {A = Result Program Fault} (judged p (faulty w i)) (Ok p') → ⊥
    never e = let z : ◌≡◌ {A = ℕ} 0 1 = cc in omega arith

admitted_read : (s : Scan Program) (p : Program) → admitted s ≡ Ok p → ((q : ℕ) × (s ≡ done p q)) × (program_verdict p ≡ fine tt)
admitted_read (done p' q) p h =
    let j = judged_fine p' p (program_verdict p') h in
    ((q, ap (λ (x : Program). done x q) j.0), ap program_verdict (sym j.0) ∙ j.1)
admitted_read (refused w q) p h = absurd (never h)
  where
    never : ◌≡◌ {A = Result Program Fault} (admitted (refused w q)) (Ok p) → ⊥
    never e = let z : ◌≡◌ {A = ℕ} 0 1 = cc in omega arith

pub admission_is_typing : (bs : List ℕ) → AdmissionIsTyping bs
admission_is_typing bs p = (
  (λ h. let r = admitted_read (scanned_table bs) p h in (r.0, (programs_are_hofmanns p).0 r.1)),
  (λ w. ap admitted w.0.1 ∙ ap (judged p) ((programs_are_hofmanns p).1 w.1)),
)
