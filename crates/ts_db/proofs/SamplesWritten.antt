-- The sample that a plan writes, and the one lost when memory runs out.
use Rattle.std.proofs.Common.{◌≡◌, ℕ, ℤ, refl, sym, ◌∙◌, ap}
use Rattle.std.specs.Prelude.{None, Some, Ok, Err}
use Rattle.ts_spec.specs.Sample.{Point, first_of}
use Rattle.ts_spec.specs.Rules.{Merged, Refuse, KeepOld, To}
use Rattle.ts_spec.proofs.Tidy.{some-same}
use Rattle.ts_series.specs.History.{History}
use Rattle.ts_series.specs.Plan.{Plan}
use Rattle.ts_series.specs.Put.{PutAnswers, Fits, IsWrite, sample_of, unwritten_of}
use Rattle.ts_series.specs.declared.plan.PutFault.{PutFault}
use Rattle.ts_series.specs.declared.plan.PutFault.TheVariants.{TooOld, Duplicate, OutOfRange, Full, Unwritten, Memory}

-- what a plan writes where it writes this sample
pub record IsWritten (limit : ℕ) (what : Merged) (t : ℕ) (h : History) (p : Point) (plan : Plan) : Type 0 where
  pub value : ℤ
  pub sets : what ≡ To value
  pub sample : p ≡ sample_of t value h
  pub writes : IsWrite limit (sample_of t value h) h (Ok plan)

-- what a plan writes is the sample of a write, where it writes one
pub written-sample : (plan : Plan) (what : Merged) (limit t : ℕ) (h : History) (p : Point) → PutAnswers what limit t h (Ok plan) → Some p ≡ first_of plan.wrote → IsWritten limit what t h p plan
written-sample plan (Refuse r) limit t h p a is = absurd a
written-sample plan KeepOld limit t h p a is = let none : Some p ≡ None = is ∙ ap (λ (x : Plan). first_of x.wrote) a in absurd (cc none)
written-sample plan (To v) limit t h p a is = record {
  value = v;
  sets = refl;
  sample = some-same p (sample_of t v h) (is ∙ ap first_of a.0.wrote);
  writes = a;
}

-- the sample of a write that fits, and the one lost when memory runs out
pub record IsUnwritten (limit : ℕ) (what : Merged) (t : ℕ) (h : History) (p : Point) : Type 0 where
  pub value : ℤ
  pub sets : what ≡ To value
  pub sample : p ≡ sample_of t value h
  pub fits : Fits limit (sample_of t value h) h

-- so it is with the sample that a plan writes
pub fits-written : (limit : ℕ) (what : Merged) (t : ℕ) (h : History) (p : Point) (plan : Plan) → IsWritten limit what t h p plan → IsUnwritten limit what t h p
fits-written limit what t h p plan w = record { value = w.value; sets = w.sets; sample = w.sample; fits = w.writes.1 }

pub unwritten-sample : (fault : PutFault) (what : Merged) (limit t : ℕ) (h : History) (p : Point) → PutAnswers what limit t h (Err fault) → unwritten_of fault ≡ Some p → IsUnwritten limit what t h p
unwritten-sample TooOld what limit t h p a is = absurd (cc is)
unwritten-sample Duplicate what limit t h p a is = absurd (cc is)
unwritten-sample OutOfRange what limit t h p a is = absurd (cc is)
unwritten-sample Full what limit t h p a is = absurd (cc is)
unwritten-sample (Memory e) what limit t h p a is = absurd (cc is)
unwritten-sample (Unwritten q) (Refuse r) limit t h p a is = let none : None ≡ Some r = a in absurd (cc none)
unwritten-sample (Unwritten q) KeepOld limit t h p a is = absurd a
unwritten-sample (Unwritten q) (To v) limit t h p a is = record {
  value = v;
  sets = refl;
  sample = some-same p (sample_of t v h) (sym is ∙ ap (λ (x : Point). Some x) a.1);
  fits = a.0;
}
