-- A host that has received nothing.
use Rattle.std.specs.Prelude.{◌≡◌, ℕ, List, [], Option}
use Rattle.ts_spec.specs.declared.wire.WireLimits.{WireLimits}
use Rattle.ts_io.specs.Gathering.{whole}
use Rattle.ts_io.specs.declared.hub.Step.{Step}
use Rattle.ts_mux.specs.Muxing.{pending_items}
use Rattle.ts_host.specs.Recorder.{gathered_of}
use Rattle.ts_host.specs.RequestCounts.{executed_by}
use Rattle.ts_host.specs.Shown.{coming, connections_of, recorder_of, host_log, taken_by}
use Rattle.ts_host.specs.Steps.{frames_of, items_of_steps}
use Rattle.ts_host.specs.declared.host.Host.{Host}

-- all items are still to come, no request was executed, and no record waits
pub record Begins {J : Type 0} (content : J → Option (List ℕ)) (limits : WireLimits) (log : J) (h : Host J) : Type 0 where
  pub items : (steps : List Step) → coming (connections_of h) (frames_of steps) ≡ items_of_steps limits steps
  pub asked : pending_items (connections_of h).mux [] ≡ []
  pub counts : (link : ℕ) → executed_by (connections_of h).counts link ≡ 0
  pub taken : taken_by (connections_of h) ≡ 0
  pub log_is : host_log h ≡ log
  pub stored : whole content (gathered_of (recorder_of h)) ≡ content log
