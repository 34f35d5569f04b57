-- What goes out of the station's own, whole when it is made (IEC 60870-5-101, 7.2.3 and 7.2.4).
use Rattle.std.specs.Prelude.{ℕ, Bool, ◌==◌, if◌then◌else◌}
use Rattle.gw_model.specs.declared.observation.Observation.{Observation}
use Rattle.iec_command.specs.declared.command.Command.{Command}
use Rattle.gw_answers.specs.declared.outgoing.OwnAsdu.{OwnAsdu}
use Rattle.gw_answers.specs.declared.outgoing.OwnAsdu.TheVariants as outgoing

-- a command with this cause and P/N
abbrev pub command_with : ℕ → Bool → Command → OwnAsdu
command_with cause negative c = outgoing.Command (record c { cause = cause; negative = negative })

-- a deactivation (8) is confirmed with cause 9, an activation (6) with cause 7
abbrev pub confirmation_cause : ℕ → ℕ
confirmation_cause cause = if cause == 8 then 9 else 7

abbrev pub confirmed : Bool → Command → OwnAsdu
confirmed negative c = command_with (confirmation_cause c.cause) negative c

-- a command under a common address
abbrev pub under : ℕ → Command → Command
under common c = record c { common_address = common }

-- news: cause 3, spontaneous
abbrev pub news : Observation → OwnAsdu
news x = outgoing.Observation 3 0 x
