use Rattle.std.proofs.Common.{refl}
use Rattle.ts_words.specs.declared.status.Status.TheVariants as status
use Rattle.ts_engine.proofs.Tops.{not_meant}
use Rattle.ts_engine.proofs.generated.answer_workload.Goals as goal

pub returns-clause-no_write_fault : goal.returns-clause-no_write_fault
returns-clause-no_write_fault g c = λ no_write.
    let told = c.report_workload-status.result in (
      c.report_workload-status.ensures.no_write_fault (not_meant (λ s. s) told status.WriteFault told c.report.result refl c.report.ensures.same no_write no_write),
      c.report.ensures.no_fault no_write,
    )
