-- What a request operates, read from its octets (IEEE Std 1815, 4.2.2, 4.4 and Annex A), apart from how this master
-- writes one.
use Rattle.std.specs.Prelude.{ℕ, ℤ, pos, ◌-ℤ◌, nat_lt, true, false, ◌&&◌, ◌==◌, List}
use Rattle.std.specs.Prelude.{[], ◌∷◌, Option, Some, None, option_map, if◌then◌else◌}
use Rattle.gw_model.specs.Optional.{◌>>=◌}
use Rattle.gw_model.specs.declared.control.Shape.TheVariants.{Latch, Pulse}
use Rattle.gw_model.specs.declared.control.Act.{Act}
use Rattle.gw_model.specs.declared.control.Act.TheVariants.{Switch, Set}
use Rattle.gw_model.specs.declared.control.Intent.{Intent}
use Rattle.dnp_objects.specs.Headers.{number}
use Rattle.dnp_app.specs.declared.response.ApplicationControl.{ApplicationControl}
use Rattle.dnp_app.specs.declared.operation.Operation.{Operation}
use Rattle.dnp_app.specs.declared.operation.Operation.TheVariants.{Select, Operate, DirectOperate}
use Rattle.dnp_app.specs.Control.{control_of}

-- an act on the output of an index, by which function, with the application control
pub record Operating : Type 0 where
  pub control : ApplicationControl
  pub operation : Operation
  pub index : ℕ
  pub act : Act

-- ---- objects

-- a control relay output block's code with its on-time: 03 and 04 latch on and off, 41 hex (CLOSE, PULSE_ON) is a pulse
-- on, 81 hex (TRIP, PULSE_ON) a pulse off
abbrev pub switched : ℕ → ℕ → Option Act
switched code on_time =
    if (code == 0x03) && (on_time == 0) then Some (Switch true Latch)
    else if (code == 0x04) && (on_time == 0) then Some (Switch false Latch)
    else if code == 0x41 then Some (Switch true (Pulse on_time))
    else if code == 0x81 then Some (Switch false (Pulse on_time))
    else None

-- the block: once, with off-time 0 and status 0
abbrev pub relay_in : List ℕ → Option Act
relay_in (code ∷ count ∷ on₀ ∷ on₁ ∷ on₂ ∷ on₃ ∷ off₀ ∷ off₁ ∷ off₂ ∷ off₃ ∷ status ∷ []) =
    if (count == 1) && (number (off₀ ∷ off₁ ∷ off₂ ∷ off₃ ∷ []) == 0) && (status == 0)
    then switched code (number (on₀ ∷ on₁ ∷ on₂ ∷ on₃ ∷ []))
    else None
relay_in _ = None

-- 16 bits in two's complement
abbrev pub signed : ℕ → ℤ
signed n = if nat_lt n 32768 then pos n else pos n -ℤ pos 65536

-- a 16-bit analog output block, with status 0
abbrev pub setpoint_in : List ℕ → Option Act
setpoint_in (low ∷ high ∷ status ∷ []) =
    if status == 0 then Some (Set (signed (number (low ∷ high ∷ [])))) else None
setpoint_in _ = None

-- group 12 variation 1, or group 41 variation 2
abbrev pub act_in : ℕ → ℕ → List ℕ → Option Act
act_in group variation octets =
    if (group == 12) && (variation == 1) then relay_in octets
    else if (group == 41) && (variation == 2) then setpoint_in octets
    else None

-- one object behind an index of two octets, qualifier 28 hex
abbrev pub operated_in : List ℕ → Option (ℕ × Act)
operated_in (group ∷ variation ∷ qualifier ∷ count₀ ∷ count₁ ∷ index₀ ∷ index₁ ∷ octets) =
    if (qualifier == 0x28) && (number (count₀ ∷ count₁ ∷ []) == 1)
    then option_map (λ act. (number (index₀ ∷ index₁ ∷ []), act)) (act_in group variation octets)
    else None
operated_in _ = None

-- ---- the whole request

abbrev pub operation_of : ℕ → Option Operation
operation_of function =
    if function == 3 then Some Select
    else if function == 4 then Some Operate
    else if function == 5 then Some DirectOperate
    else None

abbrev pub operating : ApplicationControl → Operation → ℕ → Act → Operating
operating control operation index act =
    record { control = control; operation = operation; index = index; act = act }

abbrev pub operating_of : List ℕ → Option Operating
operating_of (octet ∷ function ∷ objects) =
    operation_of function >>= λ operation.
    option_map (λ found. operating (control_of octet) operation found.0 found.1) (operated_in objects)
operating_of _ = None

-- a request of one fragment that asks for no confirmation
abbrev pub operates_for : ℕ → Operation → ℕ → Act → Option Operating
operates_for sequence operation index act =
    let control : ApplicationControl =
    record { fir = true; fin = true; con = false; uns = false; sequence = sequence } in
    Some (operating control operation index act)

-- what a request, given for an outstation, operates there
abbrev pub request_intent : ℕ → List ℕ → Option Intent
request_intent outstation octets =
    option_map (λ o. record { outstation = outstation; index = o.index; act = o.act }) (operating_of octets)
