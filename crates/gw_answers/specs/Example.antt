-- A picture of the rows of the worked examples, and what ASDUs get for an answer.
use Rattle.std.specs.Prelude.{ℕ, ◌-◌, ◌≤◌, pos, Bool, true, false, List, [], ◌∷◌}
use Rattle.std.specs.Prelude.{◌++◌, length, map, replicate, Option, option_map}
use Rattle.gw_model.specs.declared.point.Stamp.TheVariants.{Untimed}
use Rattle.gw_model.specs.declared.observation.Value.{Value}
use Rattle.gw_model.specs.declared.observation.Value.TheVariants.{Single, Scaled, Total}
use Rattle.gw_model.specs.declared.observation.Quality.{Quality}
use Rattle.gw_model.specs.declared.observation.Observation.{Observation}
use Rattle.gw_model.specs.Clocks.{utc}
use Rattle.iec_apci.specs.declared.apdu.Asdu.{Asdu}
use Rattle.iec_command.specs.declared.command.Command.{Command}
use Rattle.iec_command.specs.declared.command.Action.{Action}
use Rattle.gw_judge.specs.Example.{setup}
use Rattle.gw_judge.specs.Judging.{judged}
use Rattle.gw_answers.specs.Interrogations.{answer_to, asked_addresses}
use Rattle.gw_answers.specs.Answers.{answered}
use Rattle.gw_answers.specs.Octets.{answer_octets, outgoing_octets}

-- before anything was reported: zero, invalid, and but for the total not topical
abbrev pub invalid : Bool → Quality
invalid nt = record { iv = true; nt = nt; sb = false; bl = false; ov = false; cy = false; ca = false }

abbrev pub shown_under : ℕ → ℕ → Value → Quality → Observation
shown_under common address value quality =
    record { common = common; address = address; value = value; quality = quality; stamp = Untimed }

abbrev pub shown : ℕ → Value → Quality → Observation
shown address value quality = shown_under 1 address value quality

abbrev pub picture : List Observation
picture =
    shown 4101 (Single false) (invalid true) ∷ shown 4201 (Scaled (pos 0)) (invalid true)
    ∷ shown 4301 (Total 0) (invalid false) ∷ []

-- single-point 4101 of addresses 258, 1 and 258 again, where it has another number
abbrev pub picture_of_two : List Observation
picture_of_two =
    shown_under 258 4101 (Single false) (invalid true) ∷ shown 4101 (Single false) (invalid true)
    ∷ shown_under 258 4102 (Single true) (invalid true) ∷ []

-- octets at the front of an ASDU's
abbrev pub asdu_with : (octets : List ℕ) → length octets ≤ 249 → Asdu
asdu_with octets fits =
    record { octets = octets ++ replicate (249 - length octets) 0; len = length octets; fits = fits }

-- what an ASDU gets at once, where an interrogation is pending or not
abbrev pub reply : Bool → (octets : List ℕ) → length octets ≤ 249 → Option (List ℕ)
reply pending octets fits =
    option_map (answer_octets utc)
    (answered setup picture pending (asdu_with octets fits) (judged setup octets))

-- an act of an interrogation
abbrev pub act : Action → Command
act action = record {
  cause = 6;
  negative = false;
  test = false;
  originator = 0;
  common_address = 1;
  address = 0;
  action = action;
}

-- the ASDUs that answer it
abbrev pub replies : Command → List (List ℕ)
replies c = map (outgoing_octets utc) (answer_to (asked_addresses setup c.common_address) c picture)

-- and where these addresses are asked
abbrev pub replies_of_two : List ℕ → Command → List (List ℕ)
replies_of_two asked c = map (outgoing_octets utc) (answer_to asked c picture_of_two)
