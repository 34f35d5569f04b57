-- What binds requests to accepted executes. A request that names an order asks what the command of its execute asks, of
-- the outstation of its control. For each execute there is at most one DIRECT_OPERATE (5), or one SELECT (3) and after
-- its success one OPERATE (4; IEEE Std 1815, 4.4). No other request is a control request.
use Rattle.std.specs.Prelude.{◌≡◌, ℕ, ◌+◌, ◌<◌, ◌≤◌, ◌^◌, Bool, true, false, List}
use Rattle.std.specs.Prelude.{[], ◌∷◌, Option, Some, None, option_map, ◌&&◌, nat_le}
use Rattle.std.specs.List.{AllByRecursion}
use Rattle.gw_model.specs.declared.control.Intent.{Intent}
use Rattle.gw_entries.specs.declared.control.Control.{Control}
use Rattle.gw_map.specs.Settings.{Setup}
use Rattle.dnp_app.specs.declared.operation.Operation.{Operation}
use Rattle.dnp_app.specs.declared.operation.Operation.TheVariants.{Select, Operate, DirectOperate}
use Rattle.dnp_app.specs.declared.request.Request.{Request}
use Rattle.dnp_app.specs.Operating.{operating_of, request_intent}
use Rattle.dnp_app.specs.Requests.{octets_of}
use Rattle.gw_control.specs.Controls.{is_sbo}
use Rattle.gw_control.specs.Intents.{command_intent}
use Rattle.gw_steps.specs.Runs.{AtEach, Entry, IsRun}
use Rattle.gw_steps.specs.Sound.{LeavesSound}
use Rattle.law_orders.specs.Executes.{Execute, execute_at, executes, numbered}
use Rattle.law_orders.specs.Marks.{Mark, Asked, Answered, given_in, marks}

-- by which function a request operates an output
abbrev pub operation_in : Request → Option Operation
operation_in r = option_map (λ o. o.operation) (operating_of (octets_of r))

-- ---- what a request asks for

-- a request to an outstation that names order n asks what the command of its execute asks
pub record AsksAsOrdered (accepted : List Execute) (outstation : ℕ) (r : Request) (n : ℕ) : Type 0 where
  pub execute : Execute
  pub intent : Intent
  pub at : numbered n accepted ≡ Some execute
  pub asks : request_intent outstation (octets_of r) ≡ Some intent
  pub ordered : command_intent execute.control execute.command ≡ Some intent

-- SELECT, OPERATE, DIRECT_OPERATE and DIRECT_OPERATE_NR, functions 3 to 6 (IEEE Std 1815, 4.4), whatever the objects
abbrev pub is_control_request : List ℕ → Bool
is_control_request (octet ∷ function ∷ objects) = nat_le 3 function && nat_le function 6
is_control_request _ = false

abbrev pub IsBoundTo : List Execute → ℕ → Request → Option ℕ → Type 0
IsBoundTo accepted outstation r None = is_control_request (octets_of r) ≡ false
IsBoundTo accepted outstation r (Some n) = AsksAsOrdered accepted outstation r n

-- once these executes were accepted, a request that is given asks as ordered, or it names no order and is no control
-- request
abbrev pub IsBound : List Execute → Option (ℕ × Request) → Type 0
IsBound accepted None = Unit {0}
IsBound accepted (Some given) = IsBoundTo accepted given.0 given.1 given.1.bond

abbrev pub LastIsBound : Setup → List Entry → Type 0
LastIsBound setup [] = Unit {0}
LastIsBound setup (e ∷ past) = IsBound (executes setup past) (given_in e)

-- ---- what is asked for one order

-- SELECT succeeded, which was asked of the outstation for the same intent, and nothing was asked before
pub record IsSelected (outstation : ℕ) (r : Request) (before : List Mark) : Type 0 where
  pub selecting : Request
  pub marks : before ≡ Answered true ∷ Asked outstation selecting ∷ []
  pub select : operation_in selecting ≡ Some Select
  pub same : request_intent outstation (octets_of selecting) ≡ request_intent outstation (octets_of r)

-- a request by a function, for an order that is selected before it is operated or isn't, of which this became before
abbrev pub MayAsk : Bool → Option Operation → ℕ → Request → List Mark → Type 0
MayAsk false (Some DirectOperate) outstation r before = before ≡ []
MayAsk true (Some Select) outstation r before = before ≡ []
MayAsk true (Some Operate) outstation r before = IsSelected outstation r before
MayAsk _ _ outstation r before = ⊥

-- an answer is that to the newest request, and no other one came for it
abbrev pub MayAnswer : List Mark → Type 0
MayAnswer (Asked outstation r ∷ before) = Unit {0}
MayAnswer _ = ⊥

abbrev pub MayFollow : Bool → Mark → List Mark → Type 0
MayFollow sbo (Asked outstation r) before = MayAsk sbo (operation_in r) outstation r before
MayFollow sbo (Answered done) before = MayAnswer before

-- what became of an order came in this way
abbrev pub IsBonded : Bool → List Mark → Type 0
IsBonded sbo [] = Unit {0}
IsBonded sbo (m ∷ before) = MayFollow sbo m before × IsBonded sbo before

-- ---- the law

pub record Bonds (setup : Setup) (past : List Entry) : Type 0 where
  -- the request that the newest entry gives
  pub last : LastIsBound setup past
  -- what was asked for each execute: one DIRECT_OPERATE at most; or one SELECT, and after its success one OPERATE
  pub bonded : (n : ℕ) (x : Execute) → execute_at setup n past ≡ Some x
      → IsBonded (is_sbo x.control.mode) (marks n past)
  -- nothing is asked for any other number
  pub no_other : (n : ℕ) → execute_at setup n past ≡ None → marks n past ≡ []

-- ---- what it stands on

-- an index has 16 bits
abbrev pub HasShortIndex : Control → Type 0
HasShortIndex control = control.index < 2 ^ 16

-- a run of sound states, with controls whose indices have 16 bits
pub record IsControlRun (setup : Setup) (past : List Entry) : Type 0 where
  pub run : IsRun setup past
  pub sound : AtEach (LeavesSound setup) past
  pub indices : AllByRecursion HasShortIndex setup.controls

-- ---- in words of safety

-- OPERATE and DIRECT_OPERATE operate; SELECT doesn't
abbrev pub operates : Option Operation → ℕ
operates (Some Operate) = 1
operates (Some DirectOperate) = 1
operates _ = 0

abbrev pub operates_in : Mark → ℕ
operates_in (Asked outstation r) = operates (operation_in r)
operates_in (Answered done) = 0

-- how many requests to operate there were
abbrev pub operated : List Mark → ℕ
operated [] = 0
operated (m ∷ before) = operates_in m + operated before

-- for each order there was one at most
abbrev pub OperatesOnce : List Entry → Type 0
OperatesOnce past = (n : ℕ) → operated (marks n past) ≤ 1

-- the newest entry gives no control request
abbrev pub NoOperation : Option (ℕ × Request) → Type 0
NoOperation None = Unit {0}
NoOperation (Some given) = is_control_request (octets_of given.1) ≡ false

abbrev pub OperatesNothing : List Entry → Type 0
OperatesNothing [] = Unit {0}
OperatesNothing (e ∷ past) = NoOperation (given_in e)
