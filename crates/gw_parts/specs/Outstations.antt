-- The masters of all outstations.
use Rattle.std.specs.Prelude.{ℕ, Option, Some, None}
use Rattle.gw_model.specs.declared.control.Order.{Order}
use Rattle.dnp_master.specs.Master.{Master, master_after_next, master_after_order}
use Rattle.gw_steps.specs.declared.step.Reply.{Reply}
use Rattle.gw_steps.specs.Steps.{outstation_reply, reply_asking, request_polled}

-- the reply to a poll at a moment and a wall time, by which this order is given, or none
abbrev pub reply_to_poll : Option Order → ℕ → ℕ → Option Master → Reply
reply_to_poll order moment wall = outstation_reply (λ m. reply_asking (request_polled order moment wall m))

-- after it
abbrev pub master_polled : Option Order → ℕ → ℕ → Master → Master
master_polled None moment wall m = master_after_next moment wall m
master_polled (Some order) moment wall m = master_after_order moment order m
