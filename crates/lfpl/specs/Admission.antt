-- Which tables are admitted.
use Rattle.std.specs.Prelude.{◌≡◌, ℕ, ◌↔◌, List, Ok, Err, Result}
use Rattle.codec.specs.Reading.{Scan, done, refused}
use Rattle.codec.specs.declared.fault.Fault.{Fault}
use Rattle.codec.specs.declared.fault.Part.TheVariants.{Table, Judgement}
use Rattle.lfpl.specs.Syntax.{Program}
use Rattle.lfpl.specs.Judge.{Verdict, fine, faulty, program_verdict}
use Rattle.lfpl.specs.Hofmann.{WellTyped}
use Rattle.lfpl.specs.Reading.{scanned_table}

-- a program that was read, or the fault that its judgement finds
abbrev pub judged : Program → Verdict (Unit {0}) → Result Program Fault
judged p (fine u) = Ok p
judged p (faulty why i) = Err (record { refusal = why; place = i; part = Judgement })

abbrev pub admitted : Scan Program → Result Program Fault
admitted (done p q) = judged p (program_verdict p)
admitted (refused why q) = Err (record { refusal = why; place = q; part = Table })

-- the answer for a table's bytes: they are read, and then what they spell is judged
abbrev pub admission : List ℕ → Result Program Fault
admission bs = admitted (scanned_table bs)

-- the bytes spell the program, within all limits
abbrev pub Spells : List ℕ → Program → Type 0
Spells bs p = (q : ℕ) × (scanned_table bs ≡ done p q)

-- a table is admitted exactly when its bytes spell a program in which Hofmann's rules give each body its declared type
abbrev pub AdmissionIsTyping : List ℕ → Type 0
AdmissionIsTyping bs = (p : Program) → (admission bs ≡ Ok p) ↔ (Spells bs p × WellTyped p)
