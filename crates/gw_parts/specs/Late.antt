-- What is told of outstations as time has passed.
use Rattle.std.specs.Prelude.{ℕ, List, ◌++◌, Option, option_map}
use Rattle.dnp_master.specs.Master.{Master, ended_by_tick}
use Rattle.dnp_master.specs.Answers.{operation_awaited}
use Rattle.gw_control.specs.Orders.{Outgoing}
use Rattle.dnp_master.specs.declared.fate.Fate.TheVariants.{Unanswered}
use Rattle.gw_steps.specs.declared.effects.OrderEnd.{OrderEnd}
use Rattle.gw_steps.specs.Effects.{end_at, Telling}

-- these orders ended besides, and these outstations left requests unanswered
abbrev pub with_late : List OrderEnd → List ℕ → Telling → Telling
with_late ends silent t =
    record t { told = record t.told { ended = t.told.ended ++ ends; unanswered = t.told.unanswered ++ silent } }

-- the order under way to an outstation, where it fails as time has passed
abbrev pub late_at : ℕ → ℕ → Master → Option Outgoing → List OrderEnd
late_at moment o m q =
    end_at o (option_map Unanswered (operation_awaited m.exchange)) (ended_by_tick moment m) q
