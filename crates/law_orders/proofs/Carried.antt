-- An I format that is taken gives the command that its ASDU carries, and that is for a control.
use Rattle.std.proofs.Common.{◌≡◌, ◌↔◌, ℕ, suc, ◌+◌, Bool, true, false, cond, List, [], ◌∷◌, Option}
use Rattle.std.proofs.Common.{Some, None, option_map, refl, sym, ap, subst, ◌∙◌, arith, true≢false}
use Rattle.std.specs.Prelude.{◌==◌, ◌&&◌, slice_get, take, IsSomeAnd}
use Rattle.std.proofs.lemmas.Bool.{and_parts, eqb-true}
use Rattle.std.proofs.lemmas.Option.{same_Some}
use Rattle.gw_entries.specs.declared.control.Control.{Control}
use Rattle.gw_entries.specs.declared.control.Operates.{Operates}
use Rattle.gw_entries.specs.declared.control.Operates.TheVariants as operated
use Rattle.gw_map.specs.Settings.{Setup, control_at_from, HasSingleAddresses}
use Rattle.iec_apci.specs.declared.apdu.Apdu.{Apdu}
use Rattle.iec_apci.specs.declared.apdu.Apdu.TheVariants.{I, S, U}
use Rattle.iec_command.specs.declared.command.Action.{Action}
use Rattle.iec_command.specs.declared.command.Action.TheVariants.{Single, Double, Setpoint}
use Rattle.iec_command.specs.declared.command.Command.{Command}
use Rattle.iec_command.specs.Commands.{type_of}
use Rattle.gw_control.specs.Intents.{if_of_type, is_of_type}
use Rattle.gw_model.specs.declared.point.ObjectKey.{ObjectKey}
use Rattle.gw_judge.specs.Acceptable.{object_for}
use Rattle.gw_judge.specs.declared.judging.Judged.{Judged}
use Rattle.gw_judge.specs.declared.judging.Judged.TheVariants.{Accepted}
use Rattle.gw_judge.specs.Judging.{is_object_of, is_operated, is_operated_by, judged}
use Rattle.gw_judge.proofs.Accepted.{accepted_exactly}
use Rattle.gw_judge.proofs.Objects.{object_found}
use Rattle.gw_answers.specs.Answers.{command_by, control_command}
use Rattle.gw_steps.specs.declared.step.Step.{Step}
use Rattle.gw_steps.specs.declared.step.Step.TheVariants as steps
use Rattle.gw_steps.specs.declared.step.Reply.{Reply}
use Rattle.gw_steps.specs.declared.step.Reply.TheVariants as replies
use Rattle.gw_station.specs.Frames.{command_in}
use Rattle.law_orders.specs.Commands.{IsCarried, IsControlOf, IsForControl, TakesCarried, type_operating}
use Rattle.law_orders.specs.Selections.{commands_control}

-- ---- by the type

by_type : (d command : Command) (action : Action) → control_command d action ≡ Some command
    → (d ≡ command) × (commands_control action ≡ true)
by_type d command (Single x) e = (same_Some _ _ e, refl)
by_type d command (Double x) e = (same_Some _ _ e, refl)
by_type d command (Setpoint x) e = (same_Some _ _ e, refl)
by_type d command _ e = absurd cc

of_type : (command : Command) (action : Action) → commands_control action ≡ true
    → control_command command action ≡ Some command
of_type command (Single x) e = refl
of_type command (Double x) e = refl
of_type command (Setpoint x) e = refl
of_type command _ e = absurd (true≢false (sym e))

-- ---- an ASDU

accepted_so : (j : Judged) (command : Command) → command_by j ≡ Some command
    → (j ≡ Accepted command) × (commands_control command.action ≡ true)
accepted_so (Accepted d) command e =
    let k = by_type d command d.action e in (
      ap (λ (x : Command). Accepted x) k.0,
      ap (λ (x : Command). commands_control x.action) (sym k.0) ∙ k.1,
    )
accepted_so _ command e = absurd cc

carried : (setup : Setup) (octets : List ℕ) (command : Command) → HasSingleAddresses setup.rows setup.controls
    → (command_by (judged setup octets) ≡ Some command) ↔ IsCarried setup octets command
carried setup octets command single =
    let exactly = accepted_exactly setup octets command single in (
      (λ e. let k = accepted_so (judged setup octets) command e in
          let parts = exactly.0 k.0 in
          record { spelled = parts.0; acceptable = parts.1; control = k.1 }),
      λ k. ap command_by (exactly.1 (k.spelled, k.acceptable)) ∙ of_type command command.action k.control,
    )

-- ---- its control

-- the first one with these addresses, which stands so many places behind the first of these
abbrev StandsAt : ℕ → ℕ → ℕ → List Control → ℕ × Control → Type 0
StandsAt common address n controls found =
    (d : ℕ) × (found.0 ≡ n + d) × (slice_get controls d ≡ Some found.1) × (found.1.common_address ≡ common)
    × (found.1.address ≡ address)

looked_up : (common address n : ℕ) (controls : List Control) (found : ℕ × Control)
    → control_at_from n common address controls ≡ Some found → StandsAt common address n controls found
looked_up common address n [] found e = absurd cc
looked_up common address n (control ∷ more) found e =
    by (λ later. looked_up common address (n + 1) more found later)
    ((common == control.common_address) && (address == control.address)) refl e
  where
    by : (control_at_from (n + 1) common address more ≡ Some found → StandsAt common address (n + 1) more found)
        → (b : Bool) → ((common == control.common_address) && (address == control.address)) ≡ b
        → cond b (Some (n, control)) (control_at_from (n + 1) common address more) ≡ Some found
        → StandsAt common address n (control ∷ more) found
    by rest true is e =
        let both = and_parts (common == control.common_address) (address == control.address) is in
        subst (StandsAt common address n (control ∷ more)) (same_Some (n, control) found e) (
          0,
          omega arith,
          refl,
          sym (eqb-true common control.common_address both.0),
          sym (eqb-true address control.address both.1),
        )
    by rest false is e =
        let r = rest e in
        let place : found.0 ≡ (n + 1) + r.0 = r.1 in (suc r.0, omega (arith, place), r.2, r.3, r.4)

-- the types that operate it
same_type : (action : Action) (operates : Operates) → is_operated_by action operates ≡ true
    → (is_of_type action operates ≡ true) × (type_operating operates ≡ type_of action)
same_type (Single x) (operated.Single pulses) e = (refl, refl)
same_type (Double x) (operated.Double pulses) e = (refl, refl)
same_type (Setpoint x) (operated.Setpoint scale) e = (refl, refl)
same_type _ _ e = absurd (true≢false (sym e))

is_there : (setup : Setup) (action : Action) (object : ObjectKey) → commands_control action ≡ true
    → is_object_of setup action object ≡ true
    → is_operated action (control_at_from 0 object.common_address object.address setup.controls) ≡ true
is_there setup (Single x) object c e = e
is_there setup (Double x) object c e = e
is_there setup (Setpoint x) object c e = e
is_there setup _ object c e = absurd (true≢false (sym c))

control_is : (setup : Setup) (command : Command) (found : Option (ℕ × Control))
    → control_at_from 0 command.common_address command.address setup.controls ≡ found
    → is_operated command.action found ≡ true
    → IsSomeAnd (if_of_type command.action found) (IsControlOf setup command)
control_is setup command None e there = absurd (true≢false (sym there))
control_is setup command (Some found) e there =
    let types = same_type command.action found.1.operates there in
    let r = looked_up command.common_address command.address 0 setup.controls found e in
    let place : found.0 ≡ 0 + r.0 = r.1 in
    let same : r.0 ≡ found.0 = omega (arith, place) in
    subst (λ (b : Bool). IsSomeAnd (cond b (Some found) None) (IsControlOf setup command)) (sym types.0) (record {
      at = subst (λ (p : ℕ). slice_get setup.controls p ≡ Some found.1) same r.2;
      has_common_address = r.3;
      has_address = r.4;
      has_type = types.1;
    })

for_control : (setup : Setup) (octets : List ℕ) (c : ℕ) → HasSingleAddresses setup.rows setup.controls
    → (came : Option Command) → command_by (judged setup octets) ≡ came
    → IsForControl setup (option_map {U = ℕ × Command} (λ (y : Command). (c, y)) came)
for_control setup octets c single None e = tt
for_control setup octets c single (Some command) e =
    let k = (carried setup octets command single).0 e in
    control_is setup command (control_at_from 0 command.common_address command.address setup.controls) refl
    (is_there setup command.action (object_for command) k.control
    (object_found setup command.action (object_for command) single k.acceptable.object))

-- of an APDU that is taken
pub is_for_control : (setup : Setup) (c : ℕ) → HasSingleAddresses setup.rows setup.controls → (apdu : Apdu)
    → IsForControl setup (option_map {U = ℕ × Command} (λ (y : Command). (c, y)) (command_in setup apdu))
is_for_control setup c single (I ns nr asdu) =
    for_control setup (take asdu.len asdu.octets) c single (command_in setup (I ns nr asdu)) refl
is_for_control setup c single (S nr) = tt
is_for_control setup c single (U signal) = tt

-- ---- a step

of_client : (c : ℕ) (command : Command) (x : Option Command)
    → option_map {U = ℕ × Command} (λ (y : Command). (c, y)) x ≡ Some (c, command) → x ≡ Some command
of_client c command None e = absurd cc
of_client c command (Some y) e = ap (λ (p : ℕ × Command). Some p.1) (same_Some _ _ e)

pub takes_carried : (setup : Setup) → HasSingleAddresses setup.rows setup.controls → (step : Step) (reply : Reply)
    → TakesCarried setup step reply
takes_carried setup single (steps.Frame c (I ns nr asdu) m) replies.Taken = λ command.
    let octets : List ℕ = take asdu.len asdu.octets in
    let both = carried setup octets command single in (
      (λ e. both.0 (of_client c command (command_by (judged setup octets)) e)),
      λ k. ap (option_map {U = ℕ × Command} (λ (y : Command). (c, y))) (both.1 k),
    )
takes_carried setup single (steps.Frame c (I ns nr asdu) m) _ = refl
takes_carried setup single (steps.Frame c (S nr) m) replies.Taken = refl
takes_carried setup single (steps.Frame c (S nr) m) _ = refl
takes_carried setup single (steps.Frame c (U signal) m) replies.Taken = refl
takes_carried setup single (steps.Frame c (U signal) m) _ = refl
takes_carried setup single _ reply = refl
