-- The replies to results of the database.
use Rattle.std.specs.Prelude.{ℕ, Result, Ok, Err}
use Rattle.ts_spec.specs.Keyed.{Keyed}
use Rattle.ts_spec.specs.Replies.{reply_to}
use Rattle.ts_spec.specs.Response.{Response, Done, Count}
use Rattle.ts_spec.specs.Text.{Reply, Error}
use Rattle.ts_sample.specs.declared.sample.Id.{Id}
use Rattle.ts_db.specs.Faults.{refusal_of}
use Rattle.ts_db.specs.declared.fault.DbFault.{DbFault}
use Rattle.ts_questions.specs.Answering.{message_of}

-- The reply to a result. The error message may name keys, which `ids` maps to series ids.
abbrev pub reply_of_result : {T : Type 0} → Keyed Id → (T → Response) → Result T DbFault → Reply
reply_of_result ids response (Ok x) = reply_to (response x)
reply_of_result ids response (Err fault) = Error (message_of (refusal_of ids fault))

-- the same for a result without a value, and for a time or a count
abbrev pub reply_of_done : Keyed Id → Result (Unit {0}) DbFault → Reply
reply_of_done ids result = reply_of_result ids (λ x. Done) result

abbrev pub reply_of_number : Keyed Id → Result ℕ DbFault → Reply
reply_of_number ids result = reply_of_result ids (λ t. Count t) result
